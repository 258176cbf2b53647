use Rattle.std.proofs.Common.{◌*◌, ap, ◌∙◌}
use Rattle.frame_pool.specs.Cells.{numbers}
use Rattle.frame_pool.proofs.CellLemmas.{numbers-none}
use Rattle.frame_pool.proofs.region.Region.new.Goals as goal

pub returns : goal.returns
returns c = ap numbers c.in_ok-cells.ensures ∙ numbers-none (1024 * c.args.pages)
