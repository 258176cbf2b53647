use Rattle.std.proofs.Common.{◌≡◌, take}
use Rattle.guid_config.proofs.pairs.as_denied.Given as goal

abbrev pub invariant-loop-pair : goal.invariant-loop-pair
invariant-loop-pair l = l.denied ≡ take l.pair-index l.pairs
