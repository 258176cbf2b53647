use Rattle.run_laws.proofs.ClipBytes.{bytes-stay, pastes-exact}
use Rattle.run_laws.proofs.law.law_clip_bytes.Goals as goal

pub returns-clause-pastes : goal.returns-clause-pastes
returns-clause-pastes c = pastes-exact

pub returns-clause-bytes : goal.returns-clause-bytes
returns-clause-bytes c = bytes-stay
