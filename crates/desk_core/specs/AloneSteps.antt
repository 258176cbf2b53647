-- What a step tells a guest and does to its part of a desk, measured by the guest alone.
use Rattle.std.specs.Prelude.{◌≡◌, ℕ, ◌<◌, List, ◌++◌, None}
use Rattle.desk_laws.specs.declared.setup.Setup.{Setup}
use Rattle.desk_laws.specs.Frames.{Tape}
use Rattle.desk_laws.specs.Scene.{Post}
use Rattle.desk_laws.specs.Sizes.{sizes_of}
use Rattle.desk_laws.specs.State.{StepOutcome, inputs_of, posts_of, readings_of}
use Rattle.io_ports.specs.Posts.{Leads}
use Rattle.isolation_laws.specs.Alone.{Alone, AloneOutcome, alone_run}
use Rattle.desk_core.specs.DeskView.{DeskView, guests_of, session_in}

-- a guest's part of a desk, as it would be alone and read these words of its frames
abbrev pub alone_in : ℕ → DeskView → List ℕ → Alone
alone_in guest desk tape = record {
  rows = (session_in guest desk).rows;
  greeted = (session_in guest desk).stream.greeted;
  minor = (session_in guest desk).minor;
  ended = (session_in guest desk).ended;
  port = Tape tape;
}

-- a guest alone, twice: all is equal, but for the version of a session that has ended, which nobody asks for any more
pub record AreOne (one two : Alone) : Type 0 where
  pub rows : one.rows ≡ two.rows
  pub ended : one.ended ≡ two.ended
  pub port : one.port ≡ two.port
  pub greeted : two.ended ≡ None → one.greeted ≡ two.greeted
  pub minor : two.ended ≡ None → one.minor ≡ two.minor

-- what a guest was told, and its part of the desk, are those of the guest alone after these inputs
pub record IsAlone (guest : ℕ) (alone : AloneOutcome) (told : List Post) (desk : DeskView) (later : List ℕ) : Type 0 where
  pub posts : posts_of guest told ≡ alone.posts
  pub part : AreOne (alone_in guest desk later) alone.alone

-- what the outlet took for each guest, and the guest's part of the desk after the step, are those of the guest alone, from its part
-- before, over the inputs that the step gives it, with the words that the step reads of its frames, whatever is read later
pub record StepsAlone {O : Type 0} (takes : O → Post → O → Type 0) (out out' : O) (setup : Setup) (outcome : StepOutcome) (old new : DeskView) : Type 0 where
  pub told : List Post
  pub took : Leads takes out told out'
  pub each : (guest : ℕ) → guest < guests_of old → (later : List ℕ)
      → IsAlone guest (alone_run (sizes_of setup) guest (inputs_of guest outcome.inputs) (alone_in guest old (readings_of guest outcome.readings ++ later))) told new later
