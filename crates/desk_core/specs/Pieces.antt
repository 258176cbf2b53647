-- What is known of a guest's bytes and sessions while a piece is taken.
use Rattle.std.specs.Prelude.{◌≡◌, ℕ, ◌+◌, Bool, None, List, ◌++◌, length, take}
use Rattle.desk_laws.specs.declared.setup.Setup.{Setup}
use Rattle.desk_laws.specs.Stream.{cut, front, Wait}
use Rattle.desk_laws.specs.Others.{IsUntouched}
use Rattle.desk_laws.specs.State.{DeskState, StepOutcome}
use Rattle.desk_laws.specs.Steps.{take_units}
use Rattle.in_stream.specs.Received.{StandsFor}
use Rattle.guest_session.specs.SessionView.{SessionView}

-- what comes of the units of some bytes of a guest
abbrev pub taken_from : Setup → ℕ → Bool → List ℕ → DeskState → StepOutcome
taken_from setup guest greeted bytes state = take_units setup guest (cut greeted bytes).units state

-- how many bytes a session holds, those that were passed over counted
abbrev pub held_by : SessionView → ℕ
held_by session = length session.stream.held + session.stream.skipped

-- nothing of other guests changed, no session came or went, and no item was counted
pub record LeavesOthers (guest : ℕ) (before after : DeskState) : Type 0 where
  pub others : (other : ℕ) → (other ≡ guest → ⊥) → IsUntouched other before after
  pub sessions : length after.sessions ≡ length before.sessions
  pub items : after.counts.items ≡ before.counts.items

-- a session that holds no whole unit
pub record IsDrained (session : SessionView) : Type 0 where
  pub held : List ℕ
  pub stands : StandsFor session.stream held
  pub waits : (rest : List ℕ) → StandsFor session.stream rest → front session.stream.greeted rest ≡ Wait

-- the same, unless the session has ended
abbrev pub Drained : SessionView → Type 0
Drained session = session.ended ≡ None → IsDrained session

-- so many bytes of a piece were taken up by a session, and all else of it is as it was; a session that ended takes all
pub record PushesPiece (old new : SessionView) (piece : List ℕ) (size : ℕ) : Type 0 where
  pub stream : new ≡ record old { stream = new.stream }
  pub greeted : new.stream.greeted ≡ old.stream.greeted
  pub stands : old.ended ≡ None → (rest : List ℕ) → StandsFor old.stream rest → StandsFor new.stream (rest ++ take size piece)
