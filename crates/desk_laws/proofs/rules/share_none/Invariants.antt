use Rattle.std.proofs.Common.{◌≡◌, length}
use Rattle.desk_laws.specs.Rules.{share_none}
use Rattle.desk_laws.proofs.rules.share_none.Given as goal

abbrev pub invariant-loop-rest : goal.invariant-loop-rest
invariant-loop-rest l = share_none l.rest ≡ share_none l.outputs

abbrev pub decreases-loop-rest : goal.decreases-loop-rest
decreases-loop-rest l = length l.rest
