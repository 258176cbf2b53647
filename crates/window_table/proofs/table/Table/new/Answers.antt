use Rattle.std.proofs.Common.{◌≡◌, [], length, sum_by, subst, sym, arith, ap}
use Rattle.window_table.specs.Kept.{IsKept, entries_of}
use Rattle.window_table.specs.Keys.{IsIndex}
use Rattle.window_table.proofs.IndexLemmas.{index-none}
use Rattle.window_table.specs.Parts.{no_lists}
use Rattle.window_table.proofs.EmptyLemmas.{kept-none, zeros-none}
use Rattle.window_table.proofs.table.Table.new.Goals as goal

pub invariant_of-result : goal.invariant_of-result
invariant_of-result c =
    let lists : c.in_ok-refs.refs.lists ≡ no_lists 1024 = ap (λ r. r.lists) c.in_ok-refs.ensures in
    let none : c.in_ok-order.order.items ≡ [] = c.in_ok-order.ensures.items in (
      subst (λ o. IsKept c.in_ok-held.held c.in_ok-refs.refs.lists o) (sym none)
          (kept-none c.in_ok-held.held c.in_ok-refs.refs.lists c.in_ok-held.ensures.empty (omega (arith, c.capacity.ensures.value, c.if-capacity.false)) lists),
      (
        c.in_ok-order.ensures.exact,
        (
          omega (arith, ap (λ ls. sum_by length ls) lists, zeros-none 1024),
          (
            subst (λ o. IsIndex (entries_of c.in_ok-held.held c.in_ok-refs.refs.lists o) c.in_ok-keys.keys.items) (sym none)
                (index-none c.in_ok-keys.keys.items c.in_ok-keys.ensures.items),
            (omega (arith, c.in_ok-keys.ensures.exact), omega (arith, c.in_ok-notes.ensures.len)),
          ),
        ),
      ),
    )
