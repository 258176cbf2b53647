use Rattle.stacking.proofs.Stacking.relayer.Goals as goal

pub invariant_of-self : goal.invariant_of-self
invariant_of-self c =
    let i = c.self.invariant in
    (i.0, i.1, i.2, i.3, i.4, c.note.ensures)
