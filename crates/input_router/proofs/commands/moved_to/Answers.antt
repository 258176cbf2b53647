use Rattle.std.proofs.Common.{◌≡◌, rules, sym, subst, w32, to_z, of_z}
use Rattle.gui_num.specs.declared.Rect.{Rect}
use Rattle.desk_laws.specs.Events.{move_to}
use Rattle.desk_laws.specs.Ranges.{IsPlace}
use Rattle.input_router.proofs.RangeLemmas.{moved-place}
use Rattle.input_router.proofs.commands.moved_to.Goals as goal

pub returns-clause-range : goal.returns-clause-range
returns-clause-range c =
    let moved : Rect = record { x = to_z w32 (of_z w32 c.place_in_range.result); y = to_z w32 (of_z w32 c.place_in_range-2.result); w = c.args.place.w; h = c.args.place.h } in
    let is : moved ≡ move_to c.args.x c.args.y c.args.place = search rules in
    subst (λ (r : Rect). IsPlace r) (sym is) (moved-place c.args.x c.args.y c.args.place c.requires)
