-- The references of all slots together.
use Rattle.std.proofs.Common.{◌≡◌, ℕ, ◌+◌, ◌<◌, ◌≤◌, true, cond, eqb, List, [], ◌∷◌, length, get_or, set, find, sum_by, Option, Some, None, refl, sym, ap, ◌∙◌, arith}
use Rattle.std.proofs.lemmas.List.{get_or-set_same, get_or-set_other}
use Rattle.std.proofs.lemmas.List.Sums.{sum_by-cons, sum_by-set}
use Rattle.slab.specs.Slab.{Slab, get}
use Rattle.desk_laws.specs.Effects.{refs_of, refs_besides}
use Rattle.window_table.specs.declared.pane.DumpSize.{DumpSize}
use Rattle.window_table.specs.declared.held.Held.{Held}
use Rattle.window_table.specs.Entries.{plain_rows, refs_in, size_of_dump}
use Rattle.window_table.specs.Kept.{dump_of, window_of, size_in, entry_in, entries_of, among, holds, IsKept}
use Rattle.window_table.proofs.AmongLemmas.{find-none, found-is}
use Rattle.window_table.proofs.SumLemmas.{besides-at, besides-none, sum-changed}
use Rattle.window_table.proofs.EntryLemmas.{besides-rows}
use Rattle.window_table.proofs.WriteLemmas.{once-slots, once-windows}

-- the references of a slot's dump are all that it has
refs-by : (size : Option DumpSize) (refs : List ℕ) → (size ≡ None → refs ≡ []) → refs_of (dump_of size refs) ≡ length refs
refs-by None refs unused = ap length (sym (unused refl))
refs-by (Some size) refs unused = refl

module _ (held : Slab Held) (lists : List (List ℕ)) (order : List ℕ) (kept : IsKept held lists order) where
  refs-same : (window : ℕ) (ks : List ℕ) →
      sum_by (λ k. cond (eqb (window_of (get held k)) window) 0 (refs_of (dump_of (size_in (get held k)) (get_or lists k [])))) ks
      ≡ sum_by (λ k. cond (eqb (window_of (get held k)) window) 0 (length (get_or lists k []))) ks
  refs-same window [] = refl
  refs-same window (k ∷ ks) =
      let here = ap (cond (eqb (window_of (get held k)) window) 0) (refs-by (size_in (get held k)) (get_or lists k []) (kept.unused k)) in
      omega (
        arith,
        here,
        refs-same window ks,
        sum_by-cons (λ j. cond (eqb (window_of (get held j)) window) 0 (refs_of (dump_of (size_in (get held j)) (get_or lists j [])))) k ks,
        sum_by-cons (λ j. cond (eqb (window_of (get held j)) window) 0 (length (get_or lists j []))) k ks,
      )

  -- the references of the other windows, with those of one slot, are all
  pub besides-slot-all : (slot : ℕ) → among slot order ≡ true →
      refs_besides (window_of (get held slot)) (plain_rows (entries_of held lists order)) + length (get_or lists slot []) ≡ sum_by length lists
  besides-slot-all slot in_ =
      let rows = besides-rows (window_of (get held slot)) (entry_in held lists) order in
      let same = refs-same (window_of (get held slot)) order in
      let once = once-windows held lists order kept.apart in
      let all = besides-at (λ k. window_of (get held k)) (λ k. length (get_or lists k [])) slot order once in_ in
      omega (arith, rows, same, all, kept.together)

  -- of a window that is not there all references are of others
  pub besides-unknown : (window : ℕ) → find (holds held window) order ≡ None →
      refs_besides window (plain_rows (entries_of held lists order)) ≡ sum_by length lists
  besides-unknown window none =
      let rows = besides-rows window (entry_in held lists) order in
      let same = refs-same window order in
      let all = besides-none (λ k. window_of (get held k)) (λ k. length (get_or lists k [])) window order
      (find-none (λ k. window_of (get held k)) window order none) in
      omega (arith, rows, same, all, kept.together)

  -- of a window that is there
  pub besides-known : (window slot : ℕ) → find (holds held window) order ≡ Some slot →
      refs_besides window (plain_rows (entries_of held lists order)) + length (get_or lists slot []) ≡ sum_by length lists
  besides-known window slot found =
      let is = found-is (λ k. window_of (get held k)) window order slot found in
      ap (λ w. refs_besides w (plain_rows (entries_of held lists order)) + length (get_or lists slot [])) (sym is.1)
      ∙ besides-slot-all slot is.0

  -- a slot's references are exchanged
  pub together-set : (slot : ℕ) (refs : List ℕ) → among slot order ≡ true →
      sum_by length (set lists slot refs) ≡ sum_by (λ k. length (get_or (set lists slot refs) k [])) order
  together-set slot refs in_ =
      let inside : slot < length lists = omega (arith, kept.below slot in_, kept.slots) in
      let sums = sum_by-set length lists slot refs [] inside in
      let same : length (get_or (set lists slot refs) slot []) ≡ length refs = ap length (get_or-set_same lists slot refs [] inside) in
      let changed = sum-changed (λ k. length (get_or lists k [])) (λ k. length (get_or (set lists slot refs) k [])) slot
      (λ k differs. ap length (get_or-set_other lists slot k refs [] differs)) order (once-slots held lists order kept.apart) in_ in
      omega (arith, sums, same, changed, kept.together)

  -- what a slot's new references must fit into
  pub set-fits : (slot pages : ℕ) (refs : List ℕ) → among slot order ≡ true →
      refs_besides (window_of (get held slot)) (plain_rows (entries_of held lists order)) + length refs ≤ pages →
      sum_by length (set lists slot refs) ≤ pages
  set-fits slot pages refs in_ fits =
      let inside : slot < length lists = omega (arith, kept.below slot in_, kept.slots) in
      let sums = sum_by-set length lists slot refs [] inside in
      let all = besides-slot-all slot in_ in
      omega (arith, sums, all, fits)

  -- fewer always fit
  pub set-none-fits : (slot pages : ℕ) → among slot order ≡ true → sum_by length lists ≤ pages → sum_by length (set lists slot []) ≤ pages
  set-none-fits slot pages in_ fits =
      let inside : slot < length lists = omega (arith, kept.below slot in_, kept.slots) in
      let sums = sum_by-set length lists slot [] [] inside in
      omega (arith, sums, fits)

  -- the references of the other windows are no more than all
  pub besides-le : (window : ℕ) → refs_besides window (plain_rows (entries_of held lists order)) ≤ sum_by length lists
  besides-le window = by (find (holds held window) order) refl
    where
      by : (o : Option ℕ) → find (holds held window) order ≡ o → refs_besides window (plain_rows (entries_of held lists order)) ≤ sum_by length lists
      by None none = let all = besides-unknown window none in omega (arith, all)
      by (Some slot) found = let all = besides-known window slot found in omega (arith, all)

-- the references of a dump are those of its slot
pub refs-in-by : (size : Option DumpSize) (refs : List ℕ) → (size ≡ None → refs ≡ []) → refs_in (dump_of size refs) ≡ refs
refs-in-by None refs unused = sym (unused refl)
refs-in-by (Some size) refs unused = refl

pub size-back : (size : Option DumpSize) (refs : List ℕ) → size_of_dump (dump_of size refs) ≡ size
size-back None refs = refl
size-back (Some size) refs = refl
