-- A desk over the frames of its guests.
use Rattle.std.specs.Prelude.{◌≡◌, length}
use Rattle.frame_pool.specs.Ports.{PoolsView}
use Rattle.desk_core.specs.DeskView.{DeskView, guests_of, pages_of}

-- a desk and frames, both of 4 guests of 4096 pages
pub record IsOver (desk : DeskView) (port : PoolsView) : Type 0 where
  pub guests : guests_of desk ≡ 4
  pub pages : pages_of desk ≡ 4096
  pub port_guests : length port.pools ≡ 4
  pub port_pages : port.pages ≡ 4096
