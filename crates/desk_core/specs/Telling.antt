-- What windows tell before focus and hover are told.
use Rattle.std.specs.Prelude.{◌≡◌, ℕ, Bool, true, false, Option, Some, None, List, ◌++◌}
use Rattle.gui_num.specs.declared.Rect.{Rect}
use Rattle.desk_laws.specs.declared.setup.Setup.{Setup}
use Rattle.desk_laws.specs.Frames.{PortState}
use Rattle.desk_laws.specs.Scene.{Post}
use Rattle.desk_laws.specs.Settle.{IsSettled}
use Rattle.desk_laws.specs.Sizes.{sizes_of}
use Rattle.desk_laws.specs.State.{DeskState, StepOutcome, session_of, step_after}
use Rattle.desk_laws.specs.Stream.{cut}
use Rattle.io_ports.specs.Posts.{Leads}
use Rattle.desk_core.specs.declared.windows.Told.{Told}
use Rattle.desk_core.specs.declared.windows.Told.TheVariants.{Waits, Drew, Changed, Ended}
use Rattle.desk_core.specs.DeskPosts.{guest_posts}
use Rattle.desk_core.specs.Pieces.{LeavesOthers, taken_from}
use Rattle.desk_core.specs.Settling.{settled_after}
use Rattle.desk_core.specs.WindowsStand.{AreAtRest, LeadsTo, StandsWith}
use Rattle.desk_core.specs.WindowsView.{PartView, WindowsView}

-- what a turn is that told this area, if it read one
abbrev pub answer_of : Option Rect → Told
answer_of None = Changed
answer_of (Some drawn) = Drew

-- whether more units may follow at once
abbrev pub goes_on : Told → Bool
goes_on Waits = false
goes_on Drew = true
goes_on Changed = true
goes_on Ended = false

-- whether windows may have moved, come or gone
abbrev pub moves : Told → Bool
moves Waits = false
moves Drew = false
moves Changed = true
moves Ended = true

-- a unit of a guest, or none, was taken off the bytes that its part of the windows held, where `left` bytes may be still
-- to come, and these are the guest's frames after that: what comes of all of them is what the unit told, then what is
-- settled, and then what comes of those behind it
pub record TookTold {O : Type 0} (takes : O → Post → O → Type 0) (out out' : O) (answer : Told) (setup : Setup) (guest : ℕ) (held : List ℕ) (old new : PartView) (port : PortState) (state : DeskState) : Type 0 where
  pub behind : List ℕ
  pub told : StepOutcome
  pub leads : LeadsTo takes out out' setup guest behind new port told
  pub all : IsSettled (sizes_of setup) state.scene → (left : List ℕ)
      → taken_from setup guest old.session.stream.greeted (held ++ left) state
      ≡ step_after (settled_after setup told) (taken_from setup guest new.session.stream.greeted (behind ++ left) (settled_after setup told).desk)
  pub still : moves answer ≡ false → IsSettled (sizes_of setup) state.scene → IsSettled (sizes_of setup) told.desk.scene
  pub seat : told.desk.scene.seat ≡ state.scene.seat
  pub going : new.session.ended ≡ None → old.session.ended ≡ None
  pub rest : new.session.ended ≡ None → (left : List ℕ) → (cut old.session.stream.greeted (held ++ left)).rest ≡ (cut new.session.stream.greeted (behind ++ left)).rest
  pub kept : new.session.ended ≡ None → (session_of guest told.desk).rest ≡ (session_of guest state).rest
  pub leaves : LeavesOthers guest state told.desk

-- windows at rest and an outlet that took what was told, of an outcome in which focus and hover are told behind it
pub record EndsTold {O : Type 0} (takes : O → Post → O → Type 0) (out out' : O) (answer : Told) (setup : Setup) (windows : WindowsView) (frames : ℕ → PortState) (state : DeskState) (whole : StepOutcome) : Type 0 where
  pub told : StepOutcome
  pub all : IsSettled (sizes_of setup) state.scene → whole ≡ settled_after setup told
  pub rests : AreAtRest setup windows frames told.desk
  pub posts : Leads takes out (guest_posts told.posts) out'
  pub still : moves answer ≡ false → IsSettled (sizes_of setup) state.scene → IsSettled (sizes_of setup) told.desk.scene
  pub seat : told.desk.scene.seat ≡ state.scene.seat

-- windows that stand for a state after a session's end, before focus and hover are told
pub record KeepsStanding (answer : Told) (setup : Setup) (windows : WindowsView) (frames : ℕ → PortState) (state : DeskState) : Type 0 where
  pub held : ℕ → List ℕ
  pub after : DeskState
  pub stands : StandsWith setup held windows frames after
  pub still : moves answer ≡ false → IsSettled (sizes_of setup) state.scene → IsSettled (sizes_of setup) after.scene
  pub seat : after.scene.seat ≡ state.scene.seat
