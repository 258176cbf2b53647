use Rattle.std.proofs.Common.{arith}
use Rattle.std.proofs.lemmas.Int.{ints, clamps}
use Rattle.redirect_limits.proofs.moved_inside.Goals as goal

pub returns : goal.returns
returns c = omega (arith, ints, clamps, c.max.ensures.value, c.min.ensures.value)
