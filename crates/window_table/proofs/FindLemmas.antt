-- What is found in a table's entries, as they are kept.
use Rattle.std.proofs.Common.{◌≡◌, ℕ, ◌<◌, Bool, true, false, cond, ◌||◌, eqb, List, [], ◌∷◌, find, get_or, length, Option, Some, None, is_some, IsSome, IfSome, option_map, refl, sym, ap, ◌∙◌, subst}
use Rattle.std.specs.Prelude.{slice_get}
use Rattle.std.proofs.lemmas.Bool.{eqb-true}
use Rattle.std.proofs.lemmas.Option.{slice_get-map, slice_get_read}
use Rattle.slab.specs.Slab.{Slab, get}
use Rattle.window_table.specs.declared.held.Held.{Held}
use Rattle.window_table.specs.Entries.{entry_at, entry_with}
use Rattle.window_table.specs.Kept.{window_of, entry_in, entries_of, among, holds}
use Rattle.window_table.proofs.AmongLemmas.{among-at, find-map, found-is}

module _ (held : Slab Held) (lists : List (List ℕ)) (slot : ℕ) where
  pub at-is : (order : List ℕ) → IsSome (entry_at slot (entries_of held lists order)) →
      entry_at slot (entries_of held lists order) ≡ Some (entry_in held lists slot)
  at-is [] some = absurd cc
  at-is (k ∷ order) some = by (eqb k slot) refl (λ h. at-is order h) some
    where
      by : (b : Bool) → eqb k slot ≡ b →
          (IsSome (entry_at slot (entries_of held lists order)) → entry_at slot (entries_of held lists order) ≡ Some (entry_in held lists slot)) →
          is_some (cond b (Some (entry_in held lists k)) (entry_at slot (entries_of held lists order))) ≡ true →
          cond b (Some (entry_in held lists k)) (entry_at slot (entries_of held lists order)) ≡ Some (entry_in held lists slot)
      by true is rest some = ap (λ n. Some (entry_in held lists n)) (eqb-true k slot is)
      by false is rest some = rest some

  pub at-among : (order : List ℕ) → IsSome (entry_at slot (entries_of held lists order)) → among slot order ≡ true
  at-among [] some = absurd cc
  at-among (k ∷ order) some = by (eqb k slot) (λ h. at-among order h) some
    where
      by : (b : Bool) → (IsSome (entry_at slot (entries_of held lists order)) → among slot order ≡ true) →
          is_some (cond b (Some (entry_in held lists k)) (entry_at slot (entries_of held lists order))) ≡ true → (b || among slot order) ≡ true
      by true rest some = refl
      by false rest some = rest some

  -- a slot that isn't there has no entry
  pub at-none : (order : List ℕ) → (among slot order ≡ true → ⊥) → is_some (entry_at slot (entries_of held lists order)) ≡ false
  at-none order none = by (is_some (entry_at slot (entries_of held lists order))) refl
    where
      by : (b : Bool) → is_some (entry_at slot (entries_of held lists order)) ≡ b → b ≡ false
      by true e = absurd (none (at-among order e))
      by false e = refl

-- a slot that is there has an entry
pub among-entry : (held : Slab Held) (lists : List (List ℕ)) (slot : ℕ) (order : List ℕ) → among slot order ≡ true →
    IsSome (entry_at slot (entries_of held lists order))
among-entry held lists slot [] e = absurd cc
among-entry held lists slot (k ∷ order) e = by (eqb k slot) (λ h. among-entry held lists slot order h) e
  where
    by : (b : Bool) → (among slot order ≡ true → IsSome (entry_at slot (entries_of held lists order))) → (b || among slot order) ≡ true →
        is_some (cond b (Some (entry_in held lists k)) (entry_at slot (entries_of held lists order))) ≡ true
    by true rest e = refl
    by false rest e = rest e

-- the entry at the slot of a window is the window's
pub entry-of-window : (held : Slab Held) (lists : List (List ℕ)) (order : List ℕ) (window slot : ℕ) → find (holds held window) order ≡ Some slot →
    entry_at slot (entries_of held lists order) ≡ entry_with window (entries_of held lists order)
entry-of-window held lists order window slot found =
    let there = found-is (λ k. window_of (get held k)) window order slot found in
    at-is held lists slot order (among-entry held lists slot order there.0)
    ∙ sym (find-map (λ e. eqb e.window window) (entry_in held lists) order ∙ ap (option_map (entry_in held lists)) found)

-- the slot of a window
pub slot-of-window : (held : Slab Held) (lists : List (List ℕ)) (order : List ℕ) (window : ℕ) →
    find (holds held window) order ≡ option_map (λ e. e.slot) (entry_with window (entries_of held lists order))
slot-of-window held lists order window =
    same (find (holds held window) order)
    ∙ ap (option_map (λ e. e.slot)) (sym (find-map (λ e. eqb e.window window) (entry_in held lists) order))
  where
    same : (o : Option ℕ) → o ≡ option_map (λ e. e.slot) (option_map (entry_in held lists) o)
    same None = refl
    same (Some k) = refl

-- what a caller learns of a window
pub same-entry : (held : Slab Held) (lists : List (List ℕ)) (order : List ℕ) (window : ℕ) (o : Option ℕ) → o ≡ find (holds held window) order →
    IfSome o (λ slot. entry_at slot (entries_of held lists order) ≡ entry_with window (entries_of held lists order))
same-entry held lists order window None e = tt
same-entry held lists order window (Some slot) e = entry-of-window held lists order window slot (sym e)

pub known-entry : (held : Slab Held) (lists : List (List ℕ)) (order : List ℕ) (window : ℕ) →
    is_some (entry_with window (entries_of held lists order)) ≡ is_some (find (holds held window) order)
known-entry held lists order window =
    ap is_some (find-map (λ e. eqb e.window window) (entry_in held lists) order) ∙ same (find (holds held window) order)
  where
    same : (o : Option ℕ) → is_some (option_map (entry_in held lists) o) ≡ is_some o
    same None = refl
    same (Some k) = refl

-- the entry at the slot that stands at a place of the order
pub nth-entry : (held : Slab Held) (lists : List (List ℕ)) (order : List ℕ) (i slot : ℕ) → i < length order → slot ≡ get_or order i slot →
    (IsSome (entry_at slot (entries_of held lists order))) × (entry_at slot (entries_of held lists order) ≡ slice_get (entries_of held lists order) i)
nth-entry held lists order i slot l e =
    let here : among slot order ≡ true = subst (λ n. among n order ≡ true) (sym e) (among-at order i slot l) in
    let some = among-entry held lists slot order here in (
      some,
      at-is held lists slot order some
          ∙ sym (slice_get-map (entry_in held lists) order i ∙ ap (option_map (entry_in held lists)) (slice_get_read order (length order) i slot refl l e)),
    )
