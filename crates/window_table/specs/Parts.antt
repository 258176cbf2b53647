-- Lists that are kept one after another in one list.
use Rattle.std.specs.Prelude.{ℕ, zero, suc, ◌≡◌, ◌+◌, ◌-◌, ◌^◌, ◌<◌, ◌≤◌, List, [], ◌∷◌, ◌++◌, length, take, drop, map, replicate, slice_index}

-- so many lists of references, which may be so many together
pub record RefListsView : Type 0 where
  pub pages : ℕ
  pub lists : List (List ℕ)

-- so many empty lists
unfoldable pub no_lists : ℕ → List (List ℕ)
no_lists slots = replicate slots []

-- the parts of a list, each from one place to the next
abbrev pub parts : List ℕ → List ℕ → List (List ℕ)
parts items [] = []
parts items (a ∷ []) = []
parts items (a ∷ b ∷ places) = take (b - a) (drop a items) ∷ parts items (b ∷ places)

-- places that rise from one on
abbrev pub RisesFrom : ℕ → List ℕ → Type 0
RisesFrom low [] = Unit {0}
RisesFrom low (a ∷ places) = (low ≤ a) × RisesFrom a places

-- the last place
abbrev pub last_place : ℕ → List ℕ → ℕ
last_place place [] = place
last_place place (a ∷ places) = last_place a places

-- places that rise from 0 to the length of a list, which is at most so many
pub record AreCuts (items places : List ℕ) (pages : ℕ) : Type 0 where
  pub some : 0 < length places
  pub from : slice_index places 0 ≡ 0
  pub rising : RisesFrom 0 places
  pub to : last_place 0 places ≡ length items
  pub fits : length items ≤ pages
  pub small : pages < 2 ^ 32

-- a place behind a part that became longer or shorter
abbrev pub moved : ℕ → ℕ → ℕ → ℕ
moved taken given place = place - taken + given

-- the places once the part of a slot became longer or shorter: those behind it moved
abbrev pub moved_after : ℕ → ℕ → ℕ → List ℕ → List ℕ
moved_after slot taken given [] = []
moved_after zero taken given (place ∷ places) = place ∷ map (moved taken given) places
moved_after (suc slot) taken given (place ∷ places) = place ∷ moved_after slot taken given places

-- a list with what stands from one place to another exchanged
abbrev pub spliced : List ℕ → ℕ → ℕ → List ℕ → List ℕ
spliced items from to new = take from items ++ (new ++ drop to items)

-- a list whose last elements, so many, were put to a place further to the front
abbrev pub last_put_back : List ℕ → ℕ → ℕ → List ℕ
last_put_back items from given =
    take from items
    ++ (drop (length items - from - given) (drop from items) ++ take (length items - from - given) (drop from items))
