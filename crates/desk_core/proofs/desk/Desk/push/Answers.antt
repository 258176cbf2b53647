use Rattle.std.proofs.Common.{ap, arith}
use Rattle.desk_core.specs.DeskView.{guests_of}
use Rattle.desk_core.proofs.PieceLemmas.{seated-pushed}
use Rattle.desk_core.proofs.desk.Desk.push.Goals as goal

pub invariant_of-self : goal.invariant_of-self
invariant_of-self c =
    let push = c.push.ensures in
    seated-pushed c.args.guest c.self.inside.windows c.push.new.self c.self.inside.router c.args.piece.now c.push.result c.self.invariant
    (omega (arith, c.requires.there, ap guests_of c.self.view_is)) push.pushed push.alone push.part
