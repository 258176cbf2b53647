use Rattle.std.proofs.Common.{◌≡◌, length}
use Rattle.desk_laws.specs.Rules.{rise}
use Rattle.desk_laws.proofs.rules.rise.Given as goal

abbrev pub invariant-loop-rest : goal.invariant-loop-rest
invariant-loop-rest l = rise l.rest ≡ rise l.pairs

abbrev pub decreases-loop-rest : goal.decreases-loop-rest
decreases-loop-rest l = length l.rest
