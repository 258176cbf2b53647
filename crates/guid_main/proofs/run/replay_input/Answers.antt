use Rattle.std.proofs.Common.{sym, subst}
use Rattle.guid_main.specs.declared.status.Status.{Status}
use Rattle.guid_main.specs.Answers.{Says}
use Rattle.guid_main.proofs.AnswerLemmas.{no_setup, says_behind}
use Rattle.guid_main.proofs.run.replay_input.Goals as goal

pub returns-in-Err-clause-says : goal.returns-in-Err-clause-says
returns-in-Err-clause-says g c = λ bytes told.
    subst (λ (s : Status). Says bytes (g.S.Source.left c.read_config.new.source) s (g.K.Sink.written c.args.out.now) (g.K.Sink.written c.args.out.now)) (sym c.after_config.ensures.is)
    (no_setup c.in-Err.e bytes _ _ (c.in-Err.ensures.reads bytes told))

pub returns-clause-says : goal.returns-clause-says
returns-clause-says g c = λ bytes told.
    let read = c.in-Ok.ensures.reads bytes told in
    says_behind c.in-Ok.setup read.taken read.rest bytes _ c.replay.result _ _ read.split read.holds c.replay.ensures.words (c.replay.ensures.says read.rest read.is_left)
