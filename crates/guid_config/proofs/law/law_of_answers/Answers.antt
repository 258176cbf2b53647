use Rattle.guid_config.proofs.AnswerLemmas.{answers_are_one}
use Rattle.guid_config.proofs.law.law_of_answers.Goals as goal

pub returns : goal.returns
returns c = answers_are_one
