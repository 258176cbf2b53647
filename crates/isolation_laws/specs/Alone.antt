-- The guest alone, this project's own measure of isolation: its windows, its version and its end, and nothing of the stack, the pointer, the focus, the
-- clipboard or other guests.
use Rattle.std.specs.Prelude.{ℕ, List, [], ◌∷◌, ◌++◌, Option, Some, None, Bool, false, ◌||◌}
use Rattle.desk_laws.specs.Sizes.{Sizes}
use Rattle.desk_laws.specs.declared.cause.Cause.{Cause}
use Rattle.desk_laws.specs.declared.cause.Cause.TheVariants.{StreamEnded, LinkFailed}
use Rattle.desk_laws.specs.Stream.{StreamUnit, is_greeting}
use Rattle.desk_laws.specs.Rows.{Row, mine}
use Rattle.desk_laws.specs.Frames.{PortState, Tape}
use Rattle.desk_laws.specs.Effects.{Effect, effect}
use Rattle.desk_laws.specs.Grants.{Granted, granted}
use Rattle.desk_laws.specs.Scene.{Post, Ended, Input, Took, Given, Closing, Losing, replies}
use Rattle.desk_laws.specs.State.{DeskState, session_of}

-- a guest with nobody else on the desktop
pub record Alone : Type 0 where
  pub rows : List Row
  pub greeted : Bool
  pub minor : ℕ
  pub ended : Option Cause
  pub port : PortState

-- the guest alone after some inputs, with what it was told
pub record AloneOutcome : Type 0 where
  pub alone : Alone
  pub posts : List Post

-- its session ends
abbrev pub alone_ends : ℕ → Cause → Alone → AloneOutcome
alone_ends guest cause alone = record { alone = record alone { rows = []; ended = Some cause }; posts = Ended guest cause ∷ [] }

-- a unit with its effect, which has a cause or goes on
abbrev pub alone_went : ℕ → StreamUnit → Effect → Option Cause → Alone → AloneOutcome
alone_went guest unit e (Some cause) alone = alone_ends guest cause alone
alone_went guest unit e None alone = record {
  alone = record { rows = e.rows; greeted = is_greeting unit || alone.greeted; minor = e.minor; ended = None; port = e.port };
  posts = replies guest e.answers;
}

-- a unit with its effect
abbrev pub alone_unit : ℕ → StreamUnit → Effect → Alone → AloneOutcome
alone_unit guest unit e alone = alone_went guest unit e e.cause alone

-- a granted input with what it changes and answers
abbrev pub alone_granted : ℕ → Granted → Alone → AloneOutcome
alone_granted guest g alone = record { alone = record alone { rows = g.rows }; posts = replies guest g.answers }

-- one input of a session that hasn't ended
abbrev pub alone_open : Sizes → ℕ → Input → Alone → AloneOutcome
alone_open sizes guest (Took unit) alone = alone_unit guest unit (effect sizes guest alone.minor alone.rows alone.port unit) alone
alone_open sizes guest (Given input paste) alone = alone_granted guest (granted guest alone.rows input paste) alone
alone_open sizes guest Closing alone = alone_ends guest (StreamEnded 0 0) alone
alone_open sizes guest Losing alone = alone_ends guest (LinkFailed 0 0) alone

-- one input; after the end none does anything
abbrev pub alone_by : Sizes → ℕ → Input → Option Cause → Alone → AloneOutcome
alone_by sizes guest input (Some cause) alone = record { alone = alone; posts = [] }
alone_by sizes guest input None alone = alone_open sizes guest input alone

-- one input
abbrev pub alone_step : Sizes → ℕ → Input → Alone → AloneOutcome
alone_step sizes guest input alone = alone_by sizes guest input alone.ended alone

-- what was told before, and then what is told next
abbrev pub alone_after : List Post → AloneOutcome → AloneOutcome
alone_after posts outcome = record { alone = outcome.alone; posts = posts ++ outcome.posts }

-- all inputs, in their order
abbrev pub alone_run : Sizes → ℕ → List Input → Alone → AloneOutcome
alone_run sizes guest [] alone = record { alone = alone; posts = [] }
alone_run sizes guest (input ∷ inputs) alone =
    alone_after (alone_step sizes guest input alone).posts (alone_run sizes guest inputs (alone_step sizes guest input alone).alone)

-- a guest that was never heard of, which will read these words of its frames
abbrev pub newcomer : List ℕ → Alone
newcomer tape = record { rows = []; greeted = false; minor = 0; ended = None; port = Tape tape }

-- a guest's part of the desktop, as it would be alone and read these words of its frames
abbrev pub part_of : ℕ → DeskState → List ℕ → Alone
part_of guest desk tape = record {
  rows = mine guest desk.scene.rows;
  greeted = (session_of guest desk).greeted;
  minor = (session_of guest desk).minor;
  ended = (session_of guest desk).ended;
  port = Tape tape;
}
