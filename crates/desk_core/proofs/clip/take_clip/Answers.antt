use Rattle.std.proofs.Common.{◌∙◌, ℕ, List, ap}
use Rattle.desk_laws.specs.Clipboard.{give}
use Rattle.clipboard_gate.specs.Kept.{keeping}
use Rattle.desk_core.proofs.clip.take_clip.Goals as goal

pub returns-clause-given : goal.returns-clause-given
returns-clause-given c = λ header body begins.
    let limit = c.args.gate.now.limit in
    c.take.ensures.given ∙ ap (λ (bytes : List ℕ). keeping limit (give limit c.args.guest bytes c.args.gate.now.clip)) (c.clip.ensures header body begins)
