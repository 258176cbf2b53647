-- A piece of a guest's bytes, taken unit by unit.
use Rattle.std.specs.Prelude.{◌≡◌, ℕ, None, List, ◌++◌}
use Rattle.desk_laws.specs.declared.setup.Setup.{Setup}
use Rattle.desk_laws.specs.Stream.{cut}
use Rattle.desk_laws.specs.Frames.{PortState}
use Rattle.desk_laws.specs.Scene.{Post}
use Rattle.desk_laws.specs.State.{DeskState, StepOutcome, session_of, step_after}
use Rattle.io_ports.specs.Posts.{Leads}
use Rattle.desk_core.specs.DeskView.{DeskView, session_in}
use Rattle.desk_core.specs.Pieces.{LeavesOthers, PushesPiece, taken_from}
use Rattle.desk_core.specs.Settling.{HasSeat}
use Rattle.desk_core.specs.WindowsView.{ChangesPart, part_of, put}
use Rattle.desk_core.specs.DeskPosts.{guest_posts}
use Rattle.desk_core.specs.WindowsStand.{StandsWith, rests_of}

-- some units of a guest, or none, were taken off the bytes that a desk held, where `left` bytes may be still to
-- come, and these are the frames after that: what comes of all of them is what came of these, and then what comes of
-- those behind them
pub record TookSome {O : Type 0} (takes : O → Post → O → Type 0) (out out' : O) (setup : Setup) (guest : ℕ) (held : List ℕ) (others : ℕ → List ℕ) (old new : DeskView) (frames : ℕ → PortState) (state : DeskState) : Type 0 where
  pub behind : List ℕ
  pub outcome : StepOutcome
  pub stands : StandsWith setup (put guest behind others) new.windows frames outcome.desk
  pub seated : HasSeat setup new.seat outcome.desk
  pub posts : Leads takes out (guest_posts outcome.posts) out'
  pub all : (left : List ℕ)
      → taken_from setup guest (session_in guest old).stream.greeted (held ++ left) state
      ≡ step_after outcome (taken_from setup guest (session_in guest new).stream.greeted (behind ++ left) outcome.desk)
  pub going : (session_in guest new).ended ≡ None → (session_in guest old).ended ≡ None
  pub rest : (session_in guest new).ended ≡ None → (left : List ℕ)
      → (cut (session_in guest old).stream.greeted (held ++ left)).rest ≡ (cut (session_in guest new).stream.greeted (behind ++ left)).rest
  pub kept : (session_in guest new).ended ≡ None → (session_of guest outcome.desk).rest ≡ (session_of guest state).rest
  pub leaves : LeavesOthers guest state outcome.desk

-- where the taking of a piece stands after some units, from the state before it: what is still to come of the bytes
-- that are held and of those that are left leads to what comes of the whole piece
pub record IsAlong {O : Type 0} (takes : O → Post → O → Type 0) (first out : O) (setup : Setup) (guest : ℕ) (before : DeskState) (desk : DeskView) (frames : ℕ → PortState) (left : List ℕ) (whole : StepOutcome) : Type 0 where
  pub held : List ℕ
  pub state : DeskState
  pub stands : StandsWith setup (put guest held (rests_of before)) desk.windows frames state
  pub seated : HasSeat setup desk.seat state
  pub rest : (session_in guest desk).ended ≡ None → (session_of guest state).rest ≡ (cut (session_in guest desk).stream.greeted (held ++ left)).rest
  pub posts : (end : O) → Leads takes out (guest_posts (taken_from setup guest (session_in guest desk).stream.greeted (held ++ left) state).posts) end → Leads takes first (guest_posts whole.posts) end
  pub end_state : whole.desk ≡ (taken_from setup guest (session_in guest desk).stream.greeted (held ++ left) state).desk
  pub leaves : LeavesOthers guest before state

-- so many bytes of a piece were taken up by a guest's session, and nothing else changed
pub record Pushes (guest : ℕ) (old new : DeskView) (piece : List ℕ) (size : ℕ) : Type 0 where
  pub session : PushesPiece (session_in guest old) (session_in guest new) piece size
  pub alone : ChangesPart guest old.windows new.windows
  pub part : part_of guest new.windows ≡ record (part_of guest old.windows) { session = session_in guest new }
  pub seat : new.seat ≡ old.seat
