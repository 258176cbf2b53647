-- What the windows of a desk are seen as.
use Rattle.std.specs.Prelude.{◌≡◌, ◌==◌, ℕ, false, if◌then◌else◌, List, [], length, slice_index_or, slice_set}
use Rattle.gui_num.specs.declared.Colour.{Colour}
use Rattle.desk_laws.specs.declared.setup.Pair.{Pair}
use Rattle.desk_laws.specs.Layers.{Layers}
use Rattle.clipboard_gate.specs.Kept.{GateView}
use Rattle.guest_session.specs.SessionView.{SessionView, opened}
use Rattle.compositor.specs.PictureView.{PictureView}

-- how wide borders are, the colour of each guest's label, each guest's session, the stack of the mapped windows and the
-- focus list, the clipboard and the pairs of guests between which no paste goes, how many items and messages there were
-- and words were read of frames, and the picture
pub record WindowsView : Type 0 where
  pub border : ℕ
  pub labels : List Colour
  pub sessions : List SessionView
  pub layers : Layers
  pub gate : GateView
  pub denied : List Pair
  pub items : ℕ
  pub messages : ℕ
  pub glances : ℕ
  pub picture : PictureView

-- the session of nobody
abbrev pub no_session : SessionView
no_session =
    opened 0 (record { width = 0; height = 0; border = 0; pages = 0; tiles = 0; percent = 0; outputs = []; clip_limit = 0 }) (record { limit = 0; greeted = false; held = []; skipped = 0 })

-- the session of a guest
abbrev pub session_in : ℕ → WindowsView → SessionView
session_in guest desk = slice_index_or desk.sessions guest no_session

-- the picture of the windows
abbrev pub picture_of : WindowsView → PictureView
picture_of desk = desk.picture

-- how many guests there are
abbrev pub guests_of : WindowsView → ℕ
guests_of desk = length desk.sessions

-- how many pages each guest's frames have
abbrev pub pages_of : WindowsView → ℕ
pages_of desk = (session_in 0 desk).sizes.pages

-- ---- the part of one guest

-- what one guest's bytes may change of the windows: its session, the stack, the clipboard, and the counts of messages
-- and of words
pub record PartView : Type 0 where
  pub session : SessionView
  pub layers : Layers
  pub gate : GateView
  pub messages : ℕ
  pub glances : ℕ

-- the part of a guest
abbrev pub part_of : ℕ → WindowsView → PartView
part_of guest desk =
    record { session = session_in guest desk; layers = desk.layers; gate = desk.gate; messages = desk.messages; glances = desk.glances }

-- the windows with this part of a guest
abbrev pub with_part : ℕ → PartView → WindowsView → WindowsView
with_part guest part desk = record desk {
  sessions = slice_set desk.sessions guest part.session;
  layers = part.layers;
  gate = part.gate;
  messages = part.messages;
  glances = part.glances;
}

-- nothing but the part of this guest changed
pub record ChangesPart (guest : ℕ) (old new : WindowsView) : Type 0 where
  pub rest : new ≡ record old { sessions = new.sessions; layers = new.layers; gate = new.gate; messages = new.messages; glances = new.glances }
  pub guests : guests_of new ≡ guests_of old
  pub sizes : (session_in guest new).sizes ≡ (session_in guest old).sizes
  pub others : (other : ℕ) → (other ≡ guest → ⊥) → session_in other new ≡ session_in other old

-- one value for a guest, and others for the others
abbrev pub put : {A : Type 0} → ℕ → A → (ℕ → A) → ℕ → A
put guest x f g = if g == guest then x else f g
