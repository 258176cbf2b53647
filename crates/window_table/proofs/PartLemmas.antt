-- The parts of a list, and what an exchange of one part does to them.
use Rattle.std.proofs.Common.{◌≡◌, ℕ, zero, suc, ◌+◌, ◌-◌, ◌<◌, ◌≤◌, List, [], ◌∷◌, ◌++◌, length, get_or, set, take, drop, map, sum_by, refl, sym, ap, ◌∙◌, arith, length-drop, length-append}
use Rattle.std.proofs.lemmas.List.{take-append-le, drop-append-le, take_at, drop_at, drop-take, take-take, drop-drop, length-take-le, append_assoc}
use Rattle.std.proofs.lemmas.List.Sums.{sum_by-cons}
use Rattle.window_table.specs.Parts.{parts, RisesFrom, last_place, moved, moved_after, spliced, last_put_back}
use Rattle.window_table.proofs.PlaceLemmas.{last-ge, rises-ge, rises-le}

module _ (items : List ℕ) (from to : ℕ) (new : List ℕ) (inside : from ≤ length items) where
  length-front : length (take from items) ≡ from
  length-front = length-take-le from items inside

  -- the new part
  spliced-part : take (length new) (drop from (spliced items from to new)) ≡ new
  spliced-part =
      ap (take (length new)) (drop_at (take from items) (new ++ drop to items) from length-front)
      ∙ take_at new (drop to items) (length new) refl

  -- what stood before it
  spliced-before : (p q : ℕ) → p ≤ q → q ≤ from → take (q - p) (drop p (spliced items from to new)) ≡ take (q - p) (drop p items)
  spliced-before p q pq qf =
      let front = take from items in
      let rest = new ++ drop to items in
      let cut : drop p (front ++ rest) ≡ drop p front ++ rest = drop-append-le p front rest (omega (arith, length-front)) in
      let room : q - p ≤ length (drop p front) = omega (arith, length-drop p front, length-front) in
      let sum : p + (from - p) ≡ from = omega arith in
      let same : drop p front ≡ take (from - p) (drop p items) = ap (λ n. drop p (take n items)) (sym sum) ∙ drop-take p (from - p) items in
      ap (take (q - p)) cut ∙ take-append-le (q - p) (drop p front) rest room ∙ ap (take (q - p)) same
      ∙ take-take (q - p) (from - p) (drop p items) (omega arith)

  -- what stood behind it
  spliced-behind : (p : ℕ) → to ≤ p → from ≤ to → drop (moved (to - from) (length new) p) (spliced items from to new) ≡ drop p items
  spliced-behind p h le =
      let front = take from items in
      let rest = new ++ drop to items in
      let place : moved (to - from) (length new) p ≡ from + (length new + (p - to)) = omega arith in
      let first = drop_at front rest from length-front in
      let second = drop_at new (drop to items) (length new) refl in
      let sum : to + (p - to) ≡ p = omega arith in
      ap (λ n. drop n (front ++ rest)) place
      ∙ sym (drop-drop (length new + (p - to)) from (front ++ rest))
      ∙ ap (drop (length new + (p - to))) first
      ∙ sym (drop-drop (p - to) (length new) rest)
      ∙ ap (drop (p - to)) second
      ∙ drop-drop (p - to) to items
      ∙ ap (λ n. drop n items) sum

  pub length-spliced : to ≤ length items → length (spliced items from to new) ≡ from + (length new + (length items - to))
  length-spliced h =
      omega (arith, length-append (take from items) (new ++ drop to items), length-append new (drop to items), length-drop to items, length-front)

  -- the parts behind it
  parts-behind : (low : ℕ) (places : List ℕ) → from ≤ to → to ≤ low → RisesFrom low places →
      parts (spliced items from to new) (map (moved (to - from) (length new)) places) ≡ parts items places
  parts-behind low [] le h r = refl
  parts-behind low (a ∷ []) le h r = refl
  parts-behind low (a ∷ b ∷ places) le h r =
      let width : moved (to - from) (length new) b - moved (to - from) (length new) a ≡ b - a = omega (arith, r.0, r.1.0) in
      let items' = spliced items from to new in
      let head : take (moved (to - from) (length new) b - moved (to - from) (length new) a) (drop (moved (to - from) (length new) a) items') ≡ take (b - a) (drop a items) =
      ap (λ n. take n (drop (moved (to - from) (length new) a) items')) width
      ∙ ap (take (b - a)) (spliced-behind a (omega (arith, r.0)) le) in
      let later = parts-behind a (b ∷ places) le (omega (arith, r.0)) r.1 in
      ap (λ x. x ∷ parts items' (map (moved (to - from) (length new)) (b ∷ places))) head
      ∙ ap (λ xs. take (b - a) (drop a items) ∷ xs) later

parts-step : (items : List ℕ) (slot taken given a b : ℕ) (places : List ℕ) →
    parts items (a ∷ moved_after slot taken given (b ∷ places)) ≡ take (b - a) (drop a items) ∷ parts items (moved_after slot taken given (b ∷ places))
parts-step items zero taken given a b places = refl
parts-step items (suc slot) taken given a b places = refl

module _ (items new : List ℕ) (from to : ℕ) (le : from ≤ to) (inside : to ≤ length items) where
  -- an exchange of one part is a write of one list
  pub parts-set : (slot low : ℕ) (places : List ℕ) → RisesFrom low places → suc slot < length places →
      get_or places slot 0 ≡ from → get_or places (suc slot) 0 ≡ to →
      parts (spliced items from to new) (moved_after slot (to - from) (length new) places) ≡ set (parts items places) slot new
  parts-set slot low [] r h f t = absurd (omega arith)
  parts-set slot low (a ∷ []) r h f t = absurd (omega arith)
  parts-set zero low (a ∷ b ∷ places) r h f t =
      let items' = spliced items from to new in
      let width : moved (to - from) (length new) b - a ≡ length new = omega arith in
      let head : take (moved (to - from) (length new) b - a) (drop a items') ≡ new =
      ap (λ n. take n (drop a items')) width ∙ ap (λ n. take (length new) (drop n items')) f
      ∙ spliced-part items from to new (omega arith) in
      let later = parts-behind items from to new (omega arith) b (b ∷ places) le (omega arith) (omega arith, r.1.1) in
      ap (λ x. x ∷ parts items' (map (moved (to - from) (length new)) (b ∷ places))) head ∙ ap (λ xs. new ∷ xs) later
  parts-set (suc slot) low (a ∷ b ∷ places) r h f t =
      let items' = spliced items from to new in
      let below : b ≤ from = let g = rises-ge a (b ∷ places) slot r.1 (omega arith) in
      let up = rises-le a (b ∷ places) 0 slot r.1 (omega arith) (omega arith) in omega (arith, f) in
      let head = spliced-before items from to new (omega arith) a b (omega (arith, r.1.0)) below in
      let later = parts-set slot a (b ∷ places) r.1 (omega arith) f t in
      parts-step items' slot (to - from) (length new) a b places
      ∙ ap (λ x. x ∷ parts items' (moved_after slot (to - from) (length new) (b ∷ places))) head
      ∙ ap (λ xs. take (b - a) (drop a items) ∷ xs) later

pub length-parts : (items places : List ℕ) → length (parts items places) ≡ length places - 1
length-parts items [] = refl
length-parts items (a ∷ []) = refl
length-parts items (a ∷ b ∷ places) = let later = length-parts items (b ∷ places) in omega arith

pub get_or-parts : (items places : List ℕ) (k : ℕ) → suc k < length places →
    get_or (parts items places) k [] ≡ take (get_or places (suc k) 0 - get_or places k 0) (drop (get_or places k 0) items)
get_or-parts items [] k h = absurd (omega arith)
get_or-parts items (a ∷ []) k h = absurd (omega arith)
get_or-parts items (a ∷ b ∷ places) zero h = refl
get_or-parts items (a ∷ b ∷ places) (suc k) h = get_or-parts items (b ∷ places) k (omega arith)

pub sum-parts : (items : List ℕ) (a : ℕ) (places : List ℕ) → RisesFrom a places → last_place a places ≤ length items →
    sum_by length (parts items (a ∷ places)) + a ≡ last_place a places
sum-parts items a [] r h = omega arith
sum-parts items a (b ∷ places) r h =
    let later = sum-parts items b places r.1 h in
    let end = last-ge b places r.1 in
    let head : length (take (b - a) (drop a items)) ≡ b - a = length-take-le (b - a) (drop a items) (omega (arith, length-drop a items)) in
    omega (arith, sum_by-cons length (take (b - a) (drop a items)) (parts items (b ∷ places)), head, r.0)

-- what was appended, put to where something was taken away
pub put-back : (items new : List ℕ) (from to : ℕ) → from ≤ length items →
    last_put_back ((take from items ++ drop to items) ++ new) from (length new) ≡ spliced items from to new
put-back items new from to inside =
    let front = take from items in
    let back = drop to items in
    let long : length front ≡ from = length-take-le from items inside in
    let all : (front ++ back) ++ new ≡ front ++ (back ++ new) = append_assoc front back new in
    let rest : drop from ((front ++ back) ++ new) ≡ back ++ new = ap (drop from) all ∙ drop_at front (back ++ new) from long in
    let first : take from ((front ++ back) ++ new) ≡ front = ap (take from) all ∙ take_at front (back ++ new) from long in
    let size : length ((front ++ back) ++ new) - from - length new ≡ length back =
    omega (arith, length-append (front ++ back) new, length-append front back, long) in
    let n = length ((front ++ back) ++ new) - from - length new in
    let behind : drop n (drop from ((front ++ back) ++ new)) ≡ new =
    ap (drop n) rest ∙ drop_at back new n (sym size) in
    let before : take n (drop from ((front ++ back) ++ new)) ≡ back =
    ap (take n) rest ∙ take_at back new n (sym size) in
    ap (λ xs. xs ++ (drop n (drop from ((front ++ back) ++ new)) ++ take n (drop from ((front ++ back) ++ new)))) first
    ∙ ap (λ xs. front ++ (xs ++ take n (drop from ((front ++ back) ++ new)))) behind
    ∙ ap (λ xs. front ++ (new ++ xs)) before
