use Rattle.std.proofs.Common.{◌≡◌, map, take}
use Rattle.replay_driver.specs.PictureRecords.{head_of}
use Rattle.replay_driver.proofs.picture_writer.picture_heads.Given as goal

abbrev pub invariant-loop-n : goal.invariant-loop-n
invariant-loop-n l = l.heads.items ≡ map head_of (take l.n l.outputs)
