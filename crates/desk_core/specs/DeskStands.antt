-- Which state of the definitions a desk stands for.
use Rattle.std.specs.Prelude.{ℕ}
use Rattle.desk_laws.specs.declared.item.Item.{Item}
use Rattle.desk_laws.specs.declared.item.Item.TheVariants as items
use Rattle.desk_laws.specs.declared.setup.Setup.{Setup}
use Rattle.desk_laws.specs.Frames.{PortState}
use Rattle.desk_laws.specs.Scene.{Post}
use Rattle.desk_laws.specs.Sound.{IsSound}
use Rattle.desk_laws.specs.State.{DeskState, StepOutcome}
use Rattle.io_ports.specs.Posts.{Leads}
use Rattle.desk_core.specs.declared.desk.Stepped.{Stepped}
use Rattle.desk_core.specs.declared.desk.Stepped.TheVariants.{Going, Snap, Ended}
use Rattle.desk_core.specs.declared.summary.Summary.{Summary}
use Rattle.desk_core.specs.DeskPosts.{guest_posts}
use Rattle.desk_core.specs.DeskView.{DeskView}
use Rattle.desk_core.specs.Settling.{HasSeat}
use Rattle.desk_core.specs.WindowsStand.{AreAtRest, item_counted, summary_in}

-- the desk stands for a state of the definitions, with a port on which the frames of each guest are these, every guest
-- is at rest, and focus and hover were told as they are
pub record IsAtRest (setup : Setup) (desk : DeskView) (frames : ℕ → PortState) (state : DeskState) : Type 0 where
  pub windows : AreAtRest setup desk.windows frames state
  pub seated : HasSeat setup desk.seat state

-- the same between two items: the state is sound, too
pub record Stands (setup : Setup) (desk : DeskView) (frames : ℕ → PortState) (state : DeskState) : Type 0 where
  pub windows : AreAtRest setup desk.windows frames state
  pub seated : HasSeat setup desk.seat state
  pub sound : IsSound setup state

-- a desk and frames that stand for the state after some steps, where every guest is at rest, and an outlet that took
-- what they told the guests
abbrev pub StepsTo : {O : Type 0} → (O → Post → O → Type 0) → O → O → Setup → DeskView → (ℕ → PortState) → StepOutcome → Type 0
StepsTo takes out out' setup desk frames outcome = IsAtRest setup desk frames outcome.desk × Leads takes out (guest_posts outcome.posts) out'

-- what a step answers: Snap at Snap, Ended at End
abbrev pub stepped_of : Item → Stepped
stepped_of items.Snap = Snap
stepped_of items.End = Ended
stepped_of item = Going

-- an item more
abbrev pub counted_in : DeskView → DeskView
counted_in desk = record desk { windows = item_counted desk.windows }

-- what a desk's counts are
abbrev pub summary_of : DeskView → Summary
summary_of desk = summary_in desk.windows
