-- What the outcome of a run over a feed says: of the items that were given, of what was written, and of the frames.
use Rattle.std.specs.Prelude.{◌⊎◌, ◌≡◌, ℕ, ◌<◌, ◌≤◌, List, [], ◌∷◌, ◌++◌, length, Option, Some, None, Ok, Err, ◌+◌}
use Rattle.io_ports.specs.Content.{Told}
use Rattle.io_ports.specs.Feeds.{Answer, Coming, ComesNext}
use Rattle.io_ports.specs.declared.feed.FeedFault.{FeedFault}
use Rattle.io_ports.specs.declared.feed.FeedFault.TheVariants as feeds
use Rattle.desk_laws.specs.declared.setup.Setup.{Setup}
use Rattle.desk_laws.specs.declared.item.Item.TheVariants as items
use Rattle.desk_laws.specs.Items.{FedItem}
use Rattle.desk_laws.specs.Frames.{PortState, counted}
use Rattle.desk_laws.specs.State.{DeskState, opening, session_of}
use Rattle.desk_laws.specs.Steps.{run}
use Rattle.record_format.specs.RecordGrammar.{alone}
use Rattle.replay_driver.specs.declared.outcome.Outcome.{Outcome}
use Rattle.replay_driver.specs.declared.outcome.Outcome.TheVariants as outcomes
use Rattle.replay_driver.specs.FeedRuns.{NoEnd, Fed}
use Rattle.output_laws.specs.RunRecords.{AllFit}
use Rattle.replay_driver.specs.Gives.{Gives, GivesPart}

-- End stands last among the items, and nowhere else
pub record EndsLast (given : List FedItem) : Type 0 where
  pub front : List FedItem
  pub is : given ≡ front ++ alone items.End ∷ []
  pub no_end : NoEnd front

-- End stands nowhere among the items but perhaps at the last place
abbrev pub EndsNowhereElse : List FedItem → Type 0
EndsNowhereElse given = NoEnd given ⊎ EndsLast given

-- What an outcome says of the items that were given, of the fault that was answered then, if one was,
-- and of what was written, where at most so many items are taken.
abbrev pub Ran : Setup → ℕ → List FedItem → Option FeedFault → Outcome → Option (List ℕ) → Option (List ℕ) → Type 0
Ran setup bound given last outcomes.Done before after =
    (last ≡ None) × EndsLast given × (length given ≤ bound) × Gives setup given before after
Ran setup bound given last (outcomes.BadRecord f) before after =
    (last ≡ Some (feeds.Bad f)) × NoEnd given × (length given < bound) × Gives setup given before after
Ran setup bound given last outcomes.ReadFault before after =
    (last ≡ Some feeds.Failed) × NoEnd given × (length given < bound) × Gives setup given before after
Ran setup bound given last outcomes.WriteFault before after =
    (last ≡ None) × EndsNowhereElse given × (length given ≤ bound) × GivesPart setup given before after
Ran setup bound given last outcomes.NoMemory before after = (last ≡ None) × (given ≡ []) × (after ≡ before)
Ran setup bound given last outcomes.TooLong before after =
    (last ≡ None) × NoEnd given × (length given ≡ bound) × Gives setup given before after

-- the outcome where the feed gave no item
abbrev pub after_feed : FeedFault → Outcome
after_feed feeds.Failed = outcomes.ReadFault
after_feed (feeds.Bad f) = outcomes.BadRecord f

-- how many items were given once a call gave this
abbrev pub given_by : Answer → ℕ → ℕ
given_by (Ok item) given = counted (given + 1)
given_by (Err fault) given = given

-- One call of a feed: what the feed's own relation says, that the answer is what came next, and the count of items given.
pub record FeedCall {F : Type 0} (gives : F → Answer → F → Type 0) (left : F → Option Coming) (count : F → ℕ) (a : F) (answer : Answer) (b : F) : Type 0 where
  pub gave : gives a answer b
  pub next : Told (left a) (λ coming. ComesNext coming answer (left b))
  pub counts : count b ≡ given_by answer (count a)

-- the frames of each guest are those of its session in this state
abbrev pub AreFramesOf : Setup → DeskState → (ℕ → PortState) → Type 0
AreFramesOf setup state frames = (guest : ℕ) → guest < length setup.guests → frames guest ≡ (session_of guest state).port

-- What a run over a feed did: what led from the feed before to the feed after, that all that was given fits, what the
-- outcome says of it, and that the frames are those after stepping all of it, and nothing more.
pub record RanOver {F : Type 0} (call : F → Answer → F → Type 0) (setup : Setup) (bound : ℕ) (a b : F) (outcome : Outcome) (frames : ℕ → PortState) (before after : Option (List ℕ)) : Type 0 where
  pub given : List FedItem
  pub last : Option FeedFault
  pub fed : Fed call a given last b
  pub fits : AllFit setup given
  pub ran : Ran setup bound given last outcome before after
  pub frames_left : AreFramesOf setup (run setup given (opening setup)).desk frames
