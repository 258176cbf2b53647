use Rattle.std.proofs.Common.{sym}
use Rattle.in_stream.proofs.CallerLemmas.{some_rest, stands-some_rest, has_unit-skipped}
use Rattle.in_stream.proofs.tests.takes_skipped.Goals as goal

pub drop_front-requires-clause-unit : goal.drop_front-requires-clause-unit
drop_front-requires-clause-unit c =
    let s = c.args.stream.now in
    has_unit-skipped s (some_rest s) c.in-Skipped.header c.requires (stands-some_rest s) (sym (c.in-Skipped.ensures (some_rest s) (stands-some_rest s)))
