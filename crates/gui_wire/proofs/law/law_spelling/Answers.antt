use Rattle.gui_wire.proofs.LawLemmas.{agent-told, daemon-told}
use Rattle.gui_wire.proofs.law.law_spelling.Goals as goal

pub returns-clause-agent : goal.returns-clause-agent
returns-clause-agent c = agent-told

pub returns-clause-daemon : goal.returns-clause-daemon
returns-clause-daemon c = daemon-told
