use Rattle.std.proofs.Common.{arith, ap, length, sym, ◌∙◌}
use Rattle.desk_laws.specs.Layers.{is_in}
use Rattle.stacking.proofs.CountLemmas.{shorter-without}
use Rattle.stacking.proofs.move_to_end.Goals as goal

pub push_reserved-requires : goal.push_reserved-requires
push_reserved-requires c =
    let gone = ap length c.take_out.ensures.items in
    let here = ap (λ ids. is_in ids c.args.id) (sym c.deref.ensures.value) ∙ sym c.if-has.ensures in
    let shorter = shorter-without c.args.id c.args.ids.now.items here in
    omega arith
