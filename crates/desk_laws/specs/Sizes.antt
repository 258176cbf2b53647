-- What of a setup a guest's session depends on: all but names, colours and denied pairs.
use Rattle.std.specs.Prelude.{ℕ, List}
use Rattle.gui_num.specs.declared.Rect.{Rect}
use Rattle.desk_laws.specs.declared.setup.Setup.{Setup}
use Rattle.desk_laws.specs.Pairs.{clip_limit}

-- the numbers and the outputs of a setup
pub record Sizes : Type 0 where
  pub width : ℕ
  pub height : ℕ
  pub border : ℕ
  pub pages : ℕ
  pub tiles : ℕ
  pub percent : ℕ
  pub outputs : List Rect
  pub clip_limit : ℕ

-- those of this setup
abbrev pub sizes_of : Setup → Sizes
sizes_of setup = record {
  width = setup.width;
  height = setup.height;
  border = setup.border;
  pages = setup.pages;
  tiles = setup.tiles;
  percent = setup.percent;
  outputs = setup.outputs;
  clip_limit = clip_limit setup.clip;
}
