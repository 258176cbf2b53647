use Rattle.std.proofs.Common.{refl, ap, ◌∙◌, sym, take, reverse}
use Rattle.agent_tree.specs.Frames.{frame}
use Rattle.agent_tree.proofs.NestLemmas.{clip-is, clip-parts}
use Rattle.agent_tree.proofs.clip.clips_of.Goals as goal

pub returns-clause-before_part : goal.returns-clause-before_part
returns-clause-before_part c =
    let a = c.args in
    clip-parts a.place a.old _ c.clipped.result (clip-is a.place c.whole.result a.boxes.now a.boxes.now a.at a.old c.in_ok-frame.frame c.clipped.result c.whole.ensures refl c.in_ok-frame.ensures.is c.clipped.ensures)

pub returns-clause-after_part : goal.returns-clause-after_part
returns-clause-after_part c =
    let a = c.args in
    clip-parts a.place a.new _ c.clipped-2.result (clip-is a.place c.whole.result a.boxes.now a.boxes.now a.at a.new c.in_ok-frame.frame c.clipped-2.result c.whole.ensures refl
    (c.in_ok-frame.ensures.is ∙ ap (λ l. frame c.whole.result l (reverse (take a.at a.boxes.now))) (sym c.requires.level)) c.clipped-2.ensures)
