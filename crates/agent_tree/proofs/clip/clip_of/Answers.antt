use Rattle.std.proofs.Common.{refl}
use Rattle.agent_tree.proofs.NestLemmas.{clip-is, clip-parts}
use Rattle.agent_tree.proofs.clip.clip_of.Goals as goal

pub returns-clause-part : goal.returns-clause-part
returns-clause-part c =
    let a = c.args in
    clip-parts a.place a.b _ c.clipped.result (clip-is a.place c.whole.result a.boxes.now a.boxes.now a.at a.b c.in_ok-frame.frame c.clipped.result c.whole.ensures refl c.in_ok-frame.ensures.is c.clipped.ensures)
