-- What places that cut a list tell, and that an exchange of one part keeps it.
use Rattle.std.proofs.Common.{◌≡◌, ℕ, zero, suc, ◌+◌, ◌-◌, ◌^◌, ◌<◌, ◌≤◌, List, [], ◌∷◌, length, get_or, set, take, drop, replicate, sum_by, refl, sym, ap, ◌∙◌, subst, arith, length-drop}
use Rattle.std.proofs.lemmas.List.{length-take-le, get_or-take, get_or-drop}
use Rattle.std.proofs.lemmas.List.Sums.{sum_by-set}
use Rattle.window_table.specs.Parts.{RefListsView, parts, RisesFrom, last_place, AreCuts, moved, moved_after, spliced}
use Rattle.window_table.proofs.PlaceLemmas.{get_or-moved_before, last-moved, length-moved_after, rises-le, rises-le_last, rises-moved}
use Rattle.window_table.proofs.PartLemmas.{get_or-parts, length-parts, length-spliced, parts-set, sum-parts}

module _ (items places : List ℕ) (pages : ℕ) (cuts : AreCuts items places pages) where
  -- the places are one more than the parts
  pub place-inside : (k : ℕ) → k < length (parts items places) → k + 1 < length places
  place-inside k h = omega (arith, length-parts items places)

  pub place-le : (j k : ℕ) → j ≤ k → k < length places → get_or places j 0 ≤ get_or places k 0
  place-le j k le h = rises-le 0 places j k cuts.rising le h

  pub place-in : (k : ℕ) → k < length places → get_or places k 0 ≤ length items
  place-in k h = omega (arith, rises-le_last 0 places k cuts.rising h, cuts.to)

  part-is : (k : ℕ) → k < length (parts items places) →
      get_or (parts items places) k [] ≡ take (get_or places (k + 1) 0 - get_or places k 0) (drop (get_or places k 0) items)
  part-is k h =
      let inside : k + 1 < length places = place-inside k h in
      let same : suc k ≡ k + 1 = omega arith in
      get_or-parts items places k (omega arith)
      ∙ ap (λ n. take (get_or places n 0 - get_or places k 0) (drop (get_or places k 0) items)) same

  pub length-part : (k : ℕ) → k < length (parts items places) →
      get_or places (k + 1) 0 - get_or places k 0 ≡ length (get_or (parts items places) k [])
  length-part k h =
      let inside : k + 1 < length places = place-inside k h in
      let most : get_or places (k + 1) 0 ≤ length items = place-in (k + 1) inside in
      let wide : get_or places (k + 1) 0 - get_or places k 0 ≤ length (drop (get_or places k 0) items) =
      omega (arith, length-drop (get_or places k 0) items) in
      sym (ap length (part-is k h) ∙ length-take-le (get_or places (k + 1) 0 - get_or places k 0) (drop (get_or places k 0) items) wide)

  -- where a reference of a part stands
  pub part-place : (k i : ℕ) → k < length (parts items places) → i < length (get_or (parts items places) k []) →
      get_or places k 0 + i < length items
  part-place k i h l =
      omega (arith, length-part k h, place-in (k + 1) (place-inside k h))

  pub part-at : (k i : ℕ) → k < length (parts items places) → i < length (get_or (parts items places) k []) →
      get_or items (get_or places k 0 + i) 0 ≡ get_or (get_or (parts items places) k []) i 0
  part-at k i h l =
      let a = get_or places k 0 in
      let n = get_or places (k + 1) 0 - a in
      let less : i < n = omega (arith, length-part k h) in
      sym (ap (λ xs. get_or xs i 0) (part-is k h)
      ∙ get_or-take n (drop a items) i 0 less
      ∙ get_or-drop a items i 0)

  -- all references
  pub sum-all : length items ≡ sum_by length (parts items places)
  sum-all = by places cuts.some cuts.from cuts.rising cuts.to
    where
      by : (ps : List ℕ) → 0 < length ps → get_or ps 0 0 ≡ 0 → RisesFrom 0 ps → last_place 0 ps ≡ length items →
          length items ≡ sum_by length (parts items ps)
      by [] some from rising to = absurd (omega arith)
      by (a ∷ ps) some from rising to =
          let all = sum-parts items a ps rising.1 (omega (arith, to)) in omega (arith, all, from, to)

  -- fewer references fit too
  pub none-fits : (k : ℕ) → k < length (parts items places) → sum_by length (set (parts items places) k []) ≤ pages
  none-fits k h =
      let sums = sum_by-set length (parts items places) k [] [] h in
      omega (arith, sums, sum-all, cuts.fits)

-- no references, and a place for each slot and one more
pub cuts-none : (slots pages : ℕ) → pages < 2 ^ 32 → AreCuts [] (replicate (slots + 1) 0) pages
cuts-none slots pages small =
    let more : suc slots ≡ slots + 1 = omega arith in
    subst (λ n. AreCuts [] (replicate n 0) pages) more (record {
      some = omega arith;
      from = refl;
      rising = rises-zeros (suc slots);
      to = last-zeros (suc slots);
      fits = omega arith;
      small = small;
    })
  where
    rises-zeros : (n : ℕ) → RisesFrom 0 (replicate n 0)
    rises-zeros zero = tt
    rises-zeros (suc n) = (omega arith, rises-zeros n)

    last-zeros : (n : ℕ) → last_place 0 (replicate n 0) ≡ 0
    last-zeros zero = refl
    last-zeros (suc n) = last-zeros n

pub parts-none : (slots : ℕ) → parts [] (replicate (slots + 1) 0) ≡ replicate slots []
parts-none slots =
    let more : suc slots ≡ slots + 1 = omega arith in
    ap (λ n. parts [] (replicate n 0)) (sym more) ∙ by slots
  where
    by : (n : ℕ) → parts [] (replicate (suc n) 0) ≡ replicate n []
    by zero = refl
    by (suc n) = ap (λ xs. [] ∷ xs) (by n)

module _ (items places new : List ℕ) (pages slot : ℕ) (cuts : AreCuts items places pages) (inside : slot < length (parts items places))
    (fits : sum_by length (set (parts items places) slot new) ≤ pages) where
  from : ℕ
  from = get_or places slot 0

  to : ℕ
  to = get_or places (slot + 1) 0

  pub exchange-from : get_or places slot 0 ≤ get_or places (slot + 1) 0
  exchange-from = place-le items places pages cuts slot (slot + 1) (omega arith) (place-inside items places pages cuts slot inside)

  pub exchange-to : get_or places (slot + 1) 0 ≤ length items
  exchange-to = place-in items places pages cuts (slot + 1) (place-inside items places pages cuts slot inside)

  -- so many references together afterwards
  pub exchange-room : length items - (get_or places (slot + 1) 0 - get_or places slot 0) + length new ≤ pages
  exchange-room =
      let sums = sum_by-set length (parts items places) slot new [] inside in
      let all = sum-all items places pages cuts in
      let here = length-part items places pages cuts slot inside in
      omega (arith, sums, all, here, fits, exchange-from, exchange-to)

  pub exchange-low : (k : ℕ) → slot < k → k < length places → get_or places (slot + 1) 0 - get_or places slot 0 ≤ get_or places k 0
  exchange-low k l h = omega (arith, place-le items places pages cuts (slot + 1) k (omega arith) h)

  pub exchange-high : (k : ℕ) → slot < k → k < length places →
      get_or places k 0 - (get_or places (slot + 1) 0 - get_or places slot 0) + length new < 2 ^ 32
  exchange-high k l h =
      let low = exchange-low k l h in
      let room = exchange-room in
      let most = place-in items places pages cuts k h in
      omega (arith, low, room, most, cuts.small)

  pub exchange-cuts : AreCuts (spliced items (get_or places slot 0) (get_or places (slot + 1) 0) new)
      (moved_after slot (get_or places (slot + 1) 0 - get_or places slot 0) (length new) places) pages
  exchange-cuts =
      let last = place-inside items places pages cuts slot inside in
      let le = exchange-from in
      let most = exchange-to in
      let room = exchange-room in
      let same : slot + 1 ≡ suc slot = omega arith in
      let taken : get_or places (suc slot) 0 - get_or places slot 0 ≡ get_or places (slot + 1) 0 - get_or places slot 0 =
      ap (λ n. get_or places n 0 - get_or places slot 0) (sym same) in
      let long = length-moved_after slot (get_or places (slot + 1) 0 - get_or places slot 0) (length new) places in
      let size = length-spliced items (get_or places slot 0) (get_or places (slot + 1) 0) new (omega arith) most in
      let end : last_place 0 (moved_after slot (get_or places (slot + 1) 0 - get_or places slot 0) (length new) places)
      ≡ moved (get_or places (slot + 1) 0 - get_or places slot 0) (length new) (last_place 0 places) =
      subst (λ t. last_place 0 (moved_after slot t (length new) places) ≡ moved t (length new) (last_place 0 places)) taken
      (last-moved 0 slot (length new) places cuts.rising (omega arith)) in
      record {
        some = omega (arith, long);
        from = get_or-moved_before slot (get_or places (slot + 1) 0 - get_or places slot 0) (length new) places 0 (omega arith) ∙ cuts.from;
        rising = subst (λ t. RisesFrom 0 (moved_after slot t (length new) places)) taken
            (rises-moved 0 slot (length new) places cuts.rising (omega arith));
        to = omega (arith, end, size, cuts.to);
        fits = omega (arith, size, room);
        small = cuts.small;
      }

  pub exchange-parts : parts (spliced items (get_or places slot 0) (get_or places (slot + 1) 0) new)
      (moved_after slot (get_or places (slot + 1) 0 - get_or places slot 0) (length new) places)
      ≡ set (parts items places) slot new
  exchange-parts =
      let last = place-inside items places pages cuts slot inside in
      let same : suc slot ≡ slot + 1 = omega arith in
      parts-set items new (get_or places slot 0) (get_or places (slot + 1) 0) exchange-from exchange-to slot 0 places cuts.rising
      (omega arith) refl (ap (λ n. get_or places n 0) same)

-- ---- what a caller sees of the lists

pub seen-as : (pages : ℕ) (lists lists' : List (List ℕ)) (view : RefListsView) → lists ≡ lists' →
    record { pages = pages; lists = lists' } ≡ view → record { pages = pages; lists = lists } ≡ view
seen-as pages lists lists' view e f = ap (λ ls. record { pages = pages; lists = ls }) e ∙ f
