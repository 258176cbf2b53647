-- What a feed that reads a record answers, and what it took of the bytes.
use Rattle.std.specs.Prelude.{◌≡◌, ℕ, List, [], ◌++◌, Option, Some, None, Ok, Err, option_map, if◌then◌else◌}
use Rattle.io_ports.specs.declared.feed.RecordFault.{RecordFault}
use Rattle.io_ports.specs.declared.feed.RecordKind.TheVariants as kinds
use Rattle.io_ports.specs.declared.feed.FeedFault.TheVariants as feeds
use Rattle.io_ports.specs.Feeds.{Answer, Coming}
use Rattle.desk_laws.specs.declared.item.Item.TheVariants as items
use Rattle.replay_driver.specs.declared.replay_feed.FeedState.{FeedState}
use Rattle.replay_driver.specs.declared.replay_feed.FeedState.TheVariants as states
use Rattle.record_format.specs.Config.{fault}
use Rattle.record_format.specs.ItemSpellings.{fed_spelling}
use Rattle.record_format.specs.RecordGrammar.{Ending, Ends, Faulty, Items, alone, is_end, nothing_but, item_and, items_from}
use Rattle.record_format.specs.Readings.{Took}

-- One call that reads an item at this offset, and stands at that one afterwards: what it took is the item's
-- spelling, and no byte more, and is read as the item, whatever follows; or the record has the fault; at a failed
-- read what was taken is no whole item.
abbrev pub ReadsItem : ℕ → ℕ → ℕ → ℕ → Answer → List ℕ → Option (List ℕ) → Type 0
ReadsItem guests pages at after (Ok given) bytes left =
    Took bytes left (λ taken. (taken ≡ fed_spelling given) × ((tail : List ℕ) → items_from guests pages at (taken ++ tail) ≡ item_and given (items_from guests pages after tail)))
ReadsItem guests pages at after (Err (feeds.Bad f)) bytes left = items_from guests pages at bytes ≡ nothing_but (Faulty f)
ReadsItem guests pages at after (Err feeds.Failed) bytes left =
    Took bytes left (λ taken. items_from guests pages at taken ≡ nothing_but (Faulty (fault at kinds.Short)))

-- The same of a feed in a state: once it has ended, or met a fault, it says so again and takes nothing.
abbrev pub FeedReads : FeedState → ℕ → ℕ → ℕ → ℕ → Answer → List ℕ → Option (List ℕ) → Type 0
FeedReads states.Going guests pages at after answer bytes left = ReadsItem guests pages at after answer bytes left
FeedReads states.Ended guests pages at after answer bytes left = (answer ≡ Ok (alone items.End)) × (left ≡ Some bytes)
FeedReads (states.Bad f) guests pages at after answer bytes left = (answer ≡ Err (feeds.Bad f)) × (left ≡ Some bytes)

-- the state of a feed after an answer
abbrev pub state_after : FeedState → Answer → FeedState
state_after states.Going (Ok given) = if is_end given.item then states.Ended else states.Going
state_after states.Going (Err feeds.Failed) = states.Going
state_after states.Going (Err (feeds.Bad f)) = states.Bad f
state_after states.Ended answer = states.Ended
state_after (states.Bad f) answer = states.Bad f

-- the fault in which items end, if they don't end with End
abbrev pub fate_of : Ending → Option RecordFault
fate_of Ends = None
fate_of (Faulty f) = Some f

-- the items that are found, as those of a feed
abbrev pub coming_of : Items → Coming
coming_of found = record { items = found.each; fate = fate_of found.ending }

-- what a feed in this state, at this offset, has left where its source has these bytes left
abbrev pub coming_in : FeedState → ℕ → ℕ → ℕ → Option (List ℕ) → Option Coming
coming_in states.Going guests pages at left = option_map (λ bytes. coming_of (items_from guests pages at bytes)) left
coming_in states.Ended guests pages at left = option_map (λ bytes. record { items = []; fate = None }) left
coming_in (states.Bad f) guests pages at left = option_map (λ bytes. record { items = []; fate = Some f }) left
