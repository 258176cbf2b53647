use Rattle.std.proofs.Common.{◌≡◌, [], length, sum_by, subst, sym, arith, ap, ◌∙◌}
use Rattle.window_table.specs.Kept.{IsKept, entries_of}
use Rattle.window_table.specs.Keys.{IsIndex}
use Rattle.window_table.proofs.IndexLemmas.{index-none}
use Rattle.window_table.specs.Parts.{no_lists}
use Rattle.window_table.proofs.EmptyLemmas.{kept-none, zeros-none}
use Rattle.window_table.proofs.table.Table.clear.Goals as goal

pub invariant_of-self : goal.invariant_of-self
invariant_of-self c =
    let t = c.self.inside in
    let kept = c.self.invariant.0 in
    let none : c.clear-3.new.self.items ≡ [] = c.clear-3.ensures.items in
    let lists : c.clear-2.new.self.lists ≡ no_lists 1024 = ap (λ r. r.lists) c.clear-2.ensures ∙ ap no_lists kept.slots in (
      subst (λ o. IsKept c.clear.new.self c.clear-2.new.self.lists o) (sym none)
          (kept-none c.clear.new.self c.clear-2.new.self.lists c.clear.ensures.empty (c.clear.ensures.capacity ∙ kept.capacity) lists),
      (
        c.clear-3.ensures.capacity ∙ c.self.invariant.1.0,
        (
          omega (arith, ap (λ ls. sum_by length ls) lists, zeros-none 1024),
          (
            subst (λ o. IsIndex (entries_of c.clear.new.self c.clear-2.new.self.lists o) c.clear-4.new.self.items) (sym none)
                (index-none c.clear-4.new.self.items c.clear-4.ensures.items),
            (omega (arith, c.clear-4.ensures.capacity, c.self.invariant.1.1.1.1.0), c.self.invariant.1.1.1.1.1),
          ),
        ),
      ),
    )
