-- What stepping a desk by an item wrote.
use Rattle.std.specs.Prelude.{◌≡◌, ◌*◌, ℕ, List, map, Option, Result, Ok, Err}
use Rattle.io_ports.specs.declared.source.Failed.{Failed}
use Rattle.io_ports.specs.Content.{Grows, GrowsPart}
use Rattle.io_ports.specs.Counts.{HasCause}
use Rattle.desk_laws.specs.declared.setup.Setup.{Setup}
use Rattle.desk_laws.specs.declared.item.Item.{Item}
use Rattle.desk_laws.specs.Rules.{Fits}
use Rattle.desk_laws.specs.Frames.{PortState}
use Rattle.desk_laws.specs.State.{DeskState}
use Rattle.desk_laws.specs.Steps.{step}
use Rattle.desk_core.specs.DeskView.{DeskView, picture_of}
use Rattle.desk_core.specs.DeskPosts.{guest_posts}
use Rattle.desk_core.specs.DeskStands.{Stands}
use Rattle.output_laws.specs.RunRecords.{CausesFit}
use Rattle.record_format.specs.OutputGrammar.{posts_bytes}
use Rattle.desk_core.specs.Painting.{painted_after}
use Rattle.replay_driver.specs.PictureRecords.{head_of}

-- all the bytes were written, or a part of them where a write failed
abbrev pub Wrote : {T : Type 0} → Result T Failed → List ℕ → Option (List ℕ) → Option (List ℕ) → Type 0
Wrote (Ok x) bytes before after = Grows before bytes after
Wrote (Err e) bytes before after = GrowsPart before bytes after

-- The desk, with these frames, stands for the state after the step, whose causes have values of 32 bits, and these bytes were
-- written to one and the same sink.
pub record StepWrites {T : Type 0} (setup : Setup) (item : Item) (piece : List ℕ) (state : DeskState) (old new : DeskView) (frames : ℕ → PortState) (result : Result T Failed)
    (bytes : List ℕ) (before after : Option (List ℕ)) (faults faults' : ℕ) (keeps : Type 0) : Type 0 where
  pub stands : Stands setup new frames (step setup item piece state).desk
  pub causes : CausesFit (step setup item piece state).posts
  pub painted : (picture_of new).painted ≡ painted_after setup item (picture_of old).painted
  pub wrote : Wrote result bytes before after
  pub cause : HasCause faults faults' result
  pub keeps_sink : keeps

-- the bytes of what a step tells guests
abbrev pub guest_bytes_of : Setup → Item → List ℕ → DeskState → List ℕ
guest_bytes_of setup item piece state = posts_bytes 0 (guest_posts (step setup item piece state).posts)

-- the bytes of all that a step gives, where the picture's count stands at this number
abbrev pub step_bytes : ℕ → Setup → Item → List ℕ → DeskState → List ℕ
step_bytes painted setup item piece state = posts_bytes painted (step setup item piece state).posts

-- the desk, with these frames, stands for a state of a desktop that keeps its rules, of which these are the heads of Picture
-- records, and the room is that for the bytes of a row of the plane
pub record Suits (desk : DeskView) (frames : ℕ → PortState) (heads : List (List ℕ)) (line : ℕ) : Type 0 where
  pub setup : Setup
  pub fits : Fits setup
  pub state : DeskState
  pub stands : Stands setup desk frames state
  pub heads_are : heads ≡ map head_of setup.outputs
  pub line_is : line ≡ 3 * setup.width
