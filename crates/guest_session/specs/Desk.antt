-- What a session keeps of the desktop.
use Rattle.std.specs.Prelude.{◌≡◌, ℕ, ◌+◌, ◌*◌, ◌≤◌, true, length, pos, ◌≤ℤ◌}
use Rattle.std.specs.List.{list_all}
use Rattle.gui_num.specs.declared.Rect.{Rect}
use Rattle.gui_wire.specs.declared.limits.TheConstants.{MAX_CLIPBOARD_DATA, MAX_CLIPBOARD_SIZE}
use Rattle.desk_laws.specs.Rules.{is_output}
use Rattle.desk_laws.specs.Sizes.{Sizes}
use Rattle.guest_session.specs.declared.desk.Desk.{Desk}
use Rattle.guest_session.specs.RowsView.{RowsView}

-- the part of a setup's sizes that is kept of the desktop
abbrev pub desk_of : Sizes → Desk
desk_of sizes = record {
  width = sizes.width;
  height = sizes.height;
  border = sizes.border;
  percent = sizes.percent;
  outputs = sizes.outputs;
  clip_limit = sizes.clip_limit;
}

-- what of the setup a session goes by: the desktop, and how many pages and tiles its rows may take
abbrev pub sizes_in : Desk → RowsView → Sizes
sizes_in desk rows = record {
  width = desk.width;
  height = desk.height;
  border = desk.border;
  pages = rows.pages;
  tiles = rows.tiles;
  percent = desk.percent;
  outputs = desk.outputs;
  clip_limit = desk.clip_limit;
}

-- a desktop that keeps the rules: its sides, its pixels, its border, the percent of an output that override-redirect
-- windows may take, its outputs, and how much the clipboard holds
pub record FitDesk (desk : Desk) : Type 0 where
  pub wide : desk.width ≤ 8192
  pub high : desk.height ≤ 8192
  pub pixels : desk.width * desk.height ≤ 33177600
  pub border : desk.border ≤ 16
  pub percent : desk.percent ≤ 90
  pub some_outputs : 1 ≤ length desk.outputs
  pub in_plane : list_all (is_output desk.width desk.height) desk.outputs ≡ true
  pub least_clip : MAX_CLIPBOARD_SIZE ≤ desk.clip_limit
  pub most_clip : desk.clip_limit ≤ MAX_CLIPBOARD_DATA

-- what a session keeps beside its desktop goes with it: the most bytes of clipboard data that its buffer keeps, and the
-- room for the longest message that it tells
pub record KeepsDesk (desk : Desk) (kept longest : ℕ) : Type 0 where
  pub fit : FitDesk desk
  pub limit : kept ≡ desk.clip_limit
  pub room : longest ≡ 12 + desk.clip_limit

-- an output of such a desktop: where it begins, its sides and its pixels
pub record FitOutput (output : Rect) : Type 0 where
  pub left : pos 0 ≤ℤ output.x
  pub left_most : output.x ≤ℤ pos 8191
  pub top : pos 0 ≤ℤ output.y
  pub top_most : output.y ≤ℤ pos 8191
  pub width : output.w ≤ 8192
  pub height : output.h ≤ 8192
  pub pixels : output.w * output.h ≤ 33177600
