use Rattle.std.proofs.Common.{List, sym, subst}
use Rattle.std.specs.List.{All}
use Rattle.gui_num.specs.declared.Rect.{Rect}
use Rattle.compositor.specs.PictureView.{LiesIn}
use Rattle.desk_core.proofs.OpeningStands.{outputs-placed}
use Rattle.desk_core.proofs.windows.open_picture.Goals as goal

pub new-requires-clause-placed : goal.new-requires-clause-placed
new-requires-clause-placed c =
    let setup = c.args.setup.now in
    let P : List Rect → Type 0 = λ outputs. All (LiesIn setup.width setup.height) outputs in
    subst P (sym c.items.ensures) (outputs-placed setup c.requires)
