use Rattle.std.proofs.Common.{ℕ, ◌≤◌, subst, arith}
use Rattle.desk_laws.specs.Effects.{refs_besides}
use Rattle.window_table.specs.Entries.{plain_rows}
use Rattle.window_table.proofs.RefLemmas.{besides-le}
use Rattle.window_table.proofs.table.Table.pages.Goals as goal

pub returns-clause-held : goal.returns-clause-held
returns-clause-held c =
    let t = c.self.inside in
    subst (λ v. (other : ℕ) → refs_besides other (plain_rows v.entries) ≤ v.pages) c.self.view_is
    (λ other. let le = besides-le t.held t.refs.lists t.order.items c.self.invariant.0 other in omega (arith, le, c.self.invariant.1.1.0))
