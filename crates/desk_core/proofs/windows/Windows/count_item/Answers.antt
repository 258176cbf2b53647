use Rattle.std.proofs.Common.{sym, subst, ℕ}
use Rattle.desk_core.specs.Kept.{IsKept}
use Rattle.desk_core.proofs.KeptLemmas.{counts-kept}
use Rattle.desk_core.proofs.windows.Windows.count_item.Goals as goal

pub invariant_of-self : goal.invariant_of-self
invariant_of-self c =
    let i = c.self.inside in
    let P : ℕ → Type 0 = λ n. IsKept i.stack.rows
    (record { border = i.border; labels = i.labels.items; sessions = i.sessions.items; layers = i.stack.layers; gate = i.gate; denied = i.denied.items; items = n; messages = i.messages; glances = i.glances; picture = i.picture }) in
    (subst P (sym c.saturating_add-self-inside.ensures) (counts-kept i.stack.rows _ c.self.invariant.0), c.self.invariant.1)
