use Rattle.desk_core.proofs.WindowEnds.{pushes, push-kept}
use Rattle.desk_core.proofs.windows.Windows.push.Goals as goal

pub invariant_of-self : goal.invariant_of-self
invariant_of-self c =
    let s = c.index_mut.result.now in (
      push-kept c.args.guest _ c.args.self.now c.self.view_is c.requires.there s c.push.new.self c.index_mut.ensures.value c.args.piece.now c.push.result
          (pushes s c.push.new.self c.args.piece.now c.push.result c.push.ensures.kept c.push.ensures.greeted c.push.ensures.stands) c.self.inside.stack.rows c.self.invariant.0,
      c.self.invariant.1,
    )
