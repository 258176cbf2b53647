-- What a turn of a session does.
use Rattle.std.specs.Prelude.{◌≡◌, ℕ, Bool, true, false, nat_le, List, length, Option, None, if◌then◌else◌}
use Rattle.gui_num.specs.declared.Rect.{Rect}
use Rattle.desk_laws.specs.declared.cause.Cause.{Cause}
use Rattle.desk_laws.specs.Stream as cut
use Rattle.desk_laws.specs.Stream.{StreamUnit, Word, Stop, Whole, Front, Fault, Takes}
use Rattle.desk_laws.specs.Effects.{Effect, Verdict, Ends, Greets, Goes, Reads, carried_out, verdict}
use Rattle.desk_laws.specs.Frames.{PortState}
use Rattle.desk_laws.specs.Scene.{Post, replies}
use Rattle.io_ports.specs.Posts.{Leads}
use Rattle.in_stream.specs.Received.{StandsFor}
use Rattle.guest_session.specs.declared.turn.Turn.{Turn}
use Rattle.guest_session.specs.declared.turn.Turn.TheVariants.{Wait, Changed, ClipWhole, ClipOver, Ended}
use Rattle.guest_session.specs.SessionView.{SessionView, IsEnded}
use Rattle.guest_session.specs.Clips.{is_clip, body_in}
use Rattle.guest_session.specs.Reading.{drawn_by}

-- nothing came of it: nothing was told, and no frame was read
pub record Stays {O : Type 0} (out out' : O) (port port' : PortState) (old new : SessionView) : Type 0 where
  pub session : new ≡ old
  pub silent : out' ≡ out
  pub unread : port' ≡ port

-- the session ended, the guest was answered nothing, and no frame was read
pub record EndsFor {O : Type 0} (out out' : O) (port port' : PortState) (old new : SessionView) (turn : Turn) (cause : Cause) : Type 0 where
  pub answer : turn ≡ Ended cause
  pub ended : IsEnded old cause new
  pub silent : out' ≡ out
  pub unread : port' ≡ port

-- a unit had this effect: the guest was answered, the minor version, the rows and the frames are the
-- effect's, the unit was dropped, and all else is as before
pub record HadEffect {O : Type 0} (takes : O → Post → O → Type 0) (out out' : O) (port' : PortState) (old new : SessionView) (turn : Turn) (window : ℕ) (drawn : Option Rect) (e : Effect) (behind : List ℕ) : Type 0 where
  pub answer : turn ≡ Changed window drawn
  pub told : Leads takes out (replies old.guest e.answers) out'
  pub frames : port' ≡ e.port
  pub session : new ≡ record old { stream = new.stream; minor = e.minor; rows = e.rows }
  pub greeted : new.stream.greeted ≡ true
  pub stands : StandsFor new.stream behind

-- a unit with this verdict was taken
abbrev pub Decides : {O : Type 0} → (O → Post → O → Type 0) → O → O → PortState → PortState → SessionView → SessionView → Turn → ℕ → List ℕ → Verdict → Type 0
Decides takes out out' port port' old new turn window behind (Ends cause) = EndsFor out out' port port' old new turn cause
Decides takes out out' port port' old new turn window behind (Greets minor answers) =
    HadEffect takes out out' port' old new turn window None (carried_out old.guest old.minor old.rows port (Greets minor answers)) behind
Decides takes out out' port port' old new turn window behind (Goes change answers) =
    HadEffect takes out out' port' old new turn window None (carried_out old.guest old.minor old.rows port (Goes change answers)) behind
Decides takes out out' port port' old new turn window behind (Reads row area) =
    HadEffect takes out out' port' old new turn window (drawn_by area) (carried_out old.guest old.minor old.rows port (Reads row area)) behind

-- what a turn answers where clipboard data stands in front: whether its body is kept, under this limit
abbrev pub clip_turn : ℕ → List ℕ → Turn
clip_turn limit body = if nat_le (length body) limit then ClipWhole else ClipOver

-- the window of a unit, 0 for the version word
abbrev pub window_of : StreamUnit → ℕ
window_of (Word word) = 0
window_of (Stop cause) = 0
window_of (Whole header body) = header.window

-- clipboard data stays in front
pub record ShowsClip {O : Type 0} (out out' : O) (port port' : PortState) (old new : SessionView) (turn : Turn) (body : List ℕ) : Type 0 where
  pub answer : turn ≡ clip_turn old.sizes.clip_limit body
  pub stays : Stays out out' port port' old new

-- a whole unit stands in front: clipboard data, or not
abbrev pub TakesUnit : {O : Type 0} → (O → Post → O → Type 0) → O → O → PortState → PortState → SessionView → SessionView → Turn → StreamUnit → List ℕ → Bool → Type 0
TakesUnit takes out out' port port' old new turn unit behind true = ShowsClip out out' port port' old new turn (body_in unit)
TakesUnit takes out out' port port' old new turn unit behind false =
    Decides takes out out' port port' old new turn (window_of unit) behind (verdict old.sizes old.guest old.minor old.rows unit)

-- no whole unit stands in front
pub record Waits {O : Type 0} (out out' : O) (port port' : PortState) (old new : SessionView) (turn : Turn) : Type 0 where
  pub answer : turn ≡ Wait
  pub stays : Stays out out' port port' old new

-- a turn of a session, where its bytes begin like this and its guest's frames are these
abbrev pub Turns : {O : Type 0} → (O → Post → O → Type 0) → O → O → PortState → PortState → SessionView → SessionView → Turn → Front → Type 0
Turns takes out out' port port' old new turn cut.Wait = Waits out out' port port' old new turn
Turns takes out out' port port' old new turn (Fault cause) = EndsFor out out' port port' old new turn cause
Turns takes out out' port port' old new turn (Takes unit behind) = TakesUnit takes out out' port port' old new turn unit behind (is_clip unit)
