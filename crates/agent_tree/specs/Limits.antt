-- What a scene keeps to.
use Rattle.std.specs.Prelude.{◌≤◌, List, length}
use Rattle.agent_tree.specs.Views.{TopView}
use Rattle.agent_tree.specs.Scenes.{boxes_of, pages_of, tiles_of}

-- the windows of a scene keep to the limits
pub record IsScene (tops : List TopView) : Type 0 where
  pub tops_few : length tops ≤ 1024
  pub boxes_few : boxes_of tops ≤ 65536
  pub pages_few : pages_of tops ≤ 8192
  pub tiles_few : tiles_of tops ≤ 4096
