use Rattle.std.proofs.Common.{sym, ◌∙◌}
use Rattle.in_stream.proofs.CallerLemmas.{some_rest, stands-some_rest, has_unit-word}
use Rattle.in_stream.proofs.tests.take_word.Goals as goal

pub drop_word-requires-clause-unit : goal.drop_word-requires-clause-unit
drop_word-requires-clause-unit c =
    let s = c.args.stream.now in
    has_unit-word s (some_rest s) c.in_ok-word.word c.requires (stands-some_rest s) (sym (c.word.ensures (some_rest s) (stands-some_rest s)) ∙ c.in_ok-word.was)
