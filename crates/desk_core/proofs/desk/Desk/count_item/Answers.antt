use Rattle.std.proofs.Common.{sym, subst}
use Rattle.desk_core.specs.Seated.{AreSeated}
use Rattle.desk_core.specs.WindowsView.{WindowsView}
use Rattle.desk_core.proofs.PieceLemmas.{seated-counted}
use Rattle.desk_core.proofs.desk.Desk.count_item.Goals as goal

pub invariant_of-self : goal.invariant_of-self
invariant_of-self c =
    let W : WindowsView → Type 0 = λ w. AreSeated w c.self.inside.router in
    subst W (sym c.count_item.ensures) (seated-counted c.self.inside.windows c.self.inside.router c.self.invariant)
