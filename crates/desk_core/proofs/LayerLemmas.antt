-- In which layer a window is.
use Rattle.std.proofs.Common.{◌≡◌, ℕ, List, Some, None, sym, ◌∙◌, ap}
use Rattle.std.specs.Prelude.{if◌then◌else◌}
use Rattle.desk_laws.specs.Rows.{Row, row_with}
use Rattle.window_table.specs.declared.pane.Pane.{Pane}
use Rattle.guest_session.specs.Panes.{ShowsRow}
use Rattle.desk_core.specs.Stacked.{layer_in}

-- where a window is mapped, the layer of its row
pub pane-layer : (rows : List Row) (window : ℕ) (pane : Pane) → ShowsRow window rows pane → (if pane.mapped then Some pane.over else None) ≡ layer_in (row_with window rows)
pane-layer rows window pane shows =
    ap (λ b. if b then Some pane.over else None) shows.is.mapped
    ∙ ap (λ o. if shows.row.mapped then Some o else None) shows.is.over
    ∙ sym (ap layer_in shows.found)
