use Rattle.run_laws.proofs.ClipboardLemmas.{pastes-to_the_focus, pastes-nothing_else, strangers-leave_it, data-is_held, long_data-is_lost, long_data-is_alike}
use Rattle.run_laws.proofs.law.law_of_clipboard.Goals as goal

pub returns-clause-pasted : goal.returns-clause-pasted
returns-clause-pasted c = pastes-to_the_focus

pub returns-clause-nothing : goal.returns-clause-nothing
returns-clause-nothing c = pastes-nothing_else

pub returns-clause-strangers : goal.returns-clause-strangers
returns-clause-strangers c = strangers-leave_it

pub returns-clause-held : goal.returns-clause-held
returns-clause-held c = data-is_held

pub returns-clause-lost : goal.returns-clause-lost
returns-clause-lost c = long_data-is_lost

pub returns-clause-alike : goal.returns-clause-alike
returns-clause-alike c = long_data-is_alike
