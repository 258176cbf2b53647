use Rattle.std.proofs.Common.{sym}
use Rattle.in_stream.proofs.CallerLemmas.{some_rest, stands-some_rest, has_unit-whole}
use Rattle.in_stream.proofs.tests.takes_message.Goals as goal

pub drop_front-requires-clause-unit : goal.drop_front-requires-clause-unit
drop_front-requires-clause-unit c =
    let s = c.args.stream.now in
    has_unit-whole s (some_rest s) c.in-Whole.header c.in-Whole.shown.now c.requires (stands-some_rest s) (sym (c.in-Whole.ensures (some_rest s) (stands-some_rest s)))
