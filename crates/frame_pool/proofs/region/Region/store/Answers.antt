use Rattle.std.proofs.Common.{List, ℕ, set, ap, ◌∙◌}
use Rattle.frame_pool.specs.Cells.{numbers}
use Rattle.frame_pool.proofs.CellLemmas.{numbers-set}
use Rattle.frame_pool.proofs.region.Region.store.Goals as goal

pub returns : goal.returns
returns c =
    let at = c.args.at in let word = c.args.word in
    ap numbers c.store.ensures ∙ numbers-set c.touch.new.cells.words at word ∙ ap (λ (ns : List ℕ). set ns at word) (c.touch.ensures.same ∙ c.self.view_is)
