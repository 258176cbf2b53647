use Rattle.std.proofs.Common.{length}
use Rattle.full_repaints.proofs.screen.Screen.receive.Given as goal

abbrev pub decreases-loop-left : goal.decreases-loop-left
decreases-loop-left l = length l.left
