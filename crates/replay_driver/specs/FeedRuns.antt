-- What a feed that reads a record gives, one call after another.
use Rattle.std.specs.Prelude.{◌≡◌, ◌≤◌, ℕ, List, [], ◌∷◌, false, Option, None, Some, Ok, Err}
use Rattle.io_ports.specs.declared.feed.FeedFault.{FeedFault}
use Rattle.io_ports.specs.declared.feed.FeedFault.TheVariants as feeds
use Rattle.io_ports.specs.Content.{Told}
use Rattle.io_ports.specs.Counts.{Rose}
use Rattle.io_ports.specs.Feeds.{Answer}
use Rattle.desk_laws.specs.Items.{FedItem}
use Rattle.replay_driver.specs.FeedView.{FeedView}
use Rattle.record_format.specs.RecordGrammar.{is_end}
use Rattle.replay_driver.specs.FeedReadings.{FeedReads, state_after}

-- One call of a feed over a source of which this is left, that failed so often and keeps what it is:
-- the feed before the call, the answer, and the feed after it.
pub record FeedGives {S : Type 0} (left : S → Option (List ℕ)) (faults : S → ℕ) (keeps : S → S → Type 0) (a : FeedView S) (answer : Answer) (b : FeedView S) : Type 0 where
  pub same_source : keeps a.source b.source
  pub same_guests : b.guests ≡ a.guests
  pub same_pages : b.pages ≡ a.pages
  pub state : b.state ≡ state_after a.state answer
  pub reads : Told (left a.source) (λ bytes. FeedReads a.state a.guests a.pages a.at b.at answer bytes (left b.source))
  pub later : faults a.source ≤ faults b.source
  pub failed : answer ≡ Err feeds.Failed → Rose (faults a.source) (faults b.source)

-- these items were given one after the other, and then this fault was answered, if one is named
abbrev pub Fed : {F : Type 0} → (F → Answer → F → Type 0) → F → List FedItem → Option FeedFault → F → Type 0
Fed gives a [] None b = a ≡ b
Fed gives a [] (Some f) b = gives a (Err f) b
Fed {F = F} gives a (g ∷ given) last b = (m : F) × gives a (Ok g) m × Fed gives m given last b

-- none of these items is End
abbrev pub NoEnd : List FedItem → Type 0
NoEnd [] = Unit {0}
NoEnd (g ∷ given) = (is_end g.item ≡ false) × NoEnd given
