-- What a desk is seen as.
use Rattle.std.specs.Prelude.{ℕ}
use Rattle.compositor.specs.PictureView.{PictureView}
use Rattle.guest_session.specs.SessionView.{SessionView}
use Rattle.desk_laws.specs.Scene.{Seat}
use Rattle.desk_core.specs.WindowsView as windows
use Rattle.desk_core.specs.WindowsView.{WindowsView}

-- a desk: the windows of its guests, and what is kept of the user's doings
pub record DeskView : Type 0 where
  pub windows : WindowsView
  pub seat : Seat

-- the session of a guest
abbrev pub session_in : ℕ → DeskView → SessionView
session_in guest desk = windows.session_in guest desk.windows

-- the picture of a desk
abbrev pub picture_of : DeskView → PictureView
picture_of desk = windows.picture_of desk.windows

-- how many guests a desk has
abbrev pub guests_of : DeskView → ℕ
guests_of desk = windows.guests_of desk.windows

-- how many pages each guest's frames have
abbrev pub pages_of : DeskView → ℕ
pages_of desk = windows.pages_of desk.windows
