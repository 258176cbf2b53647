-- A pane or a dump is written.
use Rattle.std.proofs.Common.{◌≡◌, ℕ, ◌<◌, true, List, [], length, get_or, set, Some, is_some, refl, sym, ap, ◌∙◌, arith}
use Rattle.std.proofs.lemmas.List.{get_or-set_same, get_or-set_other, length-set}
use Rattle.slab.specs.Slab.{Slab, get, with_value, ContainsKey}
use Rattle.slab.proofs.SlabLemmas.{Updates-with_value, ContainsKey-within}
use Rattle.window_table.specs.declared.pane.DumpSize.{DumpSize}
use Rattle.window_table.specs.declared.pane.Pane.{Pane}
use Rattle.window_table.specs.declared.held.Held.{Held}
use Rattle.window_table.specs.Entries.{updated, with_pane, with_dump}
use Rattle.window_table.specs.Kept.{size_in, entry_of, entries_of, among, IsKept}
use Rattle.window_table.proofs.WriteLemmas.{entries-write, kept-write, with_value-len}
use Rattle.window_table.proofs.RefLemmas.{together-set}

module _ (held : Slab Held) (lists : List (List ℕ)) (order : List ℕ) (slot : ℕ) (h : Held)
    (kept : IsKept held lists order) (here : among slot order ≡ true) (was : get held slot ≡ Some h) where
  has-key : ContainsKey held slot
  has-key = ap is_some was

  pub entries-pane : (pane : Pane) →
      entries_of (with_value held slot (record h { pane = pane })) lists order ≡ updated slot (with_pane pane) (entries_of held lists order)
  entries-pane pane =
      entries-write held (with_value held slot (record h { pane = pane })) lists lists order slot h (record h { pane = pane }) (with_pane pane)
      kept here was (Updates-with_value held slot (record h { pane = pane }) has-key) refl (λ j differs. refl) refl

  pub kept-pane : (pane : Pane) → IsKept (with_value held slot (record h { pane = pane })) lists order
  kept-pane pane =
      kept-write held (with_value held slot (record h { pane = pane })) lists lists order slot h (record h { pane = pane }) (with_pane pane)
      kept here was (Updates-with_value held slot (record h { pane = pane }) has-key) refl (λ j differs. refl) refl
      refl (with_value-len held slot h (record h { pane = pane }) was (ContainsKey-within held slot has-key))
      (λ none. kept.unused slot (ap size_in was ∙ none)) kept.together (λ e. refl) (λ e. refl)

  refs-inside : slot < length lists
  refs-inside = omega (arith, kept.below slot here, kept.slots)

  dump-is : (size : DumpSize) (refs : List ℕ) →
      with_dump (record { width = size.width; height = size.height; refs = refs }) (entry_of slot (Some h) (get_or lists slot []))
      ≡ entry_of slot (Some (record h { size = Some size })) (get_or (set lists slot refs) slot [])
  dump-is size refs =
      ap (entry_of slot (Some (record h { size = Some size }))) (sym (get_or-set_same lists slot refs [] refs-inside))

  pub entries-dump : (size : DumpSize) (refs : List ℕ) →
      entries_of (with_value held slot (record h { size = Some size })) (set lists slot refs) order
      ≡ updated slot (with_dump (record { width = size.width; height = size.height; refs = refs })) (entries_of held lists order)
  entries-dump size refs =
      entries-write held (with_value held slot (record h { size = Some size })) lists (set lists slot refs) order slot h (record h { size = Some size })
      (with_dump (record { width = size.width; height = size.height; refs = refs }))
      kept here was (Updates-with_value held slot (record h { size = Some size }) has-key) (length-set lists slot refs)
      (λ j differs. get_or-set_other lists slot j refs [] differs) (dump-is size refs)

  pub kept-dump : (size : DumpSize) (refs : List ℕ) → IsKept (with_value held slot (record h { size = Some size })) (set lists slot refs) order
  kept-dump size refs =
      kept-write held (with_value held slot (record h { size = Some size })) lists (set lists slot refs) order slot h (record h { size = Some size })
      (with_dump (record { width = size.width; height = size.height; refs = refs }))
      kept here was (Updates-with_value held slot (record h { size = Some size }) has-key) (length-set lists slot refs)
      (λ j differs. get_or-set_other lists slot j refs [] differs) (dump-is size refs)
      refl (with_value-len held slot h (record h { size = Some size }) was (ContainsKey-within held slot has-key))
      (λ none. absurd cc) (together-set held lists order kept slot refs here) (λ e. refl) (λ e. refl)
