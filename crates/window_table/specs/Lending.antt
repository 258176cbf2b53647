-- What a table ends as, where a `&mut` to a pane is returned.
use Rattle.std.specs.Prelude.{ℕ}
use Rattle.std.specs.Borrow.{Lends, MutBor, Fml}
use Rattle.window_table.specs.declared.pane.Pane.{Pane}
use Rattle.window_table.specs.contracts.pane.Pane as pane
use Rattle.window_table.specs.contracts.table.Table.{the_row}
use Rattle.window_table.specs.Entries.{TableView, updated, with_pane}

-- the table with another pane at a slot
abbrev pub pane_put : ℕ → TableView → Pane → TableView
pane_put slot table pane = record table { entries = updated slot (with_pane pane) table.entries }

-- the table ends with the last pane behind r at the slot
abbrev pub LendsPane : MutBor TableView → ℕ → MutBor Pane → Fml
LendsPane table slot r = Lends the_row pane.the_row table r (pane_put slot table.now)
