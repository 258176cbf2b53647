-- What wires in memory hold, as contracts see them.
use Rattle.std.specs.Prelude.{◌≡◌, ℕ, ◌-◌, ◌≤◌, min, All, sum_by, Bool, true, false, ◌==◌, ◌&&◌, List, [], ◌∷◌, take, drop, length, slice_index_or, find, Option, None, Some, Result, Ok, Err}
use Rattle.desk_laws.specs.Items.{FedItem, FitsItem}
use Rattle.io_ports.specs.declared.feed.Next.{Next}
use Rattle.io_ports.specs.declared.feed.FeedFault.{FeedFault}
use Rattle.io_ports.specs.declared.feed.FeedFault.TheVariants.{Failed as FeedFailed, Bad}
use Rattle.io_ports.specs.declared.feed.RecordFault.{RecordFault}
use Rattle.io_ports.specs.declared.journal.StartFault.{StartFault}
use Rattle.io_ports.specs.declared.journal.StartFault.TheVariants.{Failed as StartFailed, NoMemory as NoMemoryToStart}
use Rattle.io_ports.specs.declared.link.SendFailed.{SendFailed}
use Rattle.io_ports.specs.declared.send_fails.SendFail.{SendFail}
use Rattle.io_ports.specs.declared.send_fails.SendCounts.{SendCounts}
use Rattle.io_ports.specs.Counts.{one_more}
use Rattle.io_ports.specs.Feeds.{Coming}
use Rattle.io_ports.specs.Links.{Traffic}
use Rattle.io_ports.specs.Memory.{Kept, Failing, none_kept, told_of}
use Rattle.io_ports.specs.Starts.{Starts}

-- the items, each with its part of these bytes, one part behind the other
abbrev pub fed_items : List Next → List ℕ → List FedItem
fed_items [] pieces = []
fed_items (next ∷ rest) pieces = record { item = next.item; piece = take next.len pieces } ∷ fed_items rest (drop next.len pieces)

-- a feed in memory: its numbers of guests and pages, what it has left, and how many items it gave
pub record HeldFeed : Type 0 where
  pub guests : ℕ
  pub pages : ℕ
  pub left : Coming
  pub given : ℕ

-- a feed of these items that gave none
abbrev pub held_feed : (guests pages : ℕ) → List Next → List ℕ → Option RecordFault → HeldFeed
held_feed guests pages items pieces fate =
    record { guests = guests; pages = pages; left = record { items = fed_items items pieces; fate = fate }; given = 0 }

-- The items are in range for these numbers of guests and pages. So many of them and so many of the bytes were given,
-- and the other bytes are those of the other items.
pub record HeldSoFar (guests pages : ℕ) (items : List Next) (at : ℕ) (pieces : List ℕ) (piece_at : ℕ) : Type 0 where
  pub fit : All (λ next. FitsItem guests pages next.item next.len) items
  pub within : at ≤ length items
  pub bytes_within : piece_at ≤ length pieces
  pub whole : sum_by (λ next. next.len) (drop at items) ≡ length (drop piece_at pieces)

-- whether the answer is that the feed failed
abbrev pub has_failed : {T : Type 0} → Result T FeedFault → Bool
has_failed (Ok next) = false
has_failed (Err FeedFailed) = true
has_failed (Err (Bad fault)) = false

-- whether the answer is that the start failed
abbrev pub start_failed : {T : Type 0} → Result T StartFault → Bool
start_failed (Ok done) = false
start_failed (Err StartFailed) = true
start_failed (Err NoMemoryToStart) = false

-- what a guest was sent; nothing, where there never was such a guest
abbrev pub sent_to : List (Kept ℕ) → ℕ → Kept ℕ
sent_to sent guest = slice_index_or sent guest none_kept

-- what this guest was sent, where that is told
abbrev pub told_to : List (Kept ℕ) → ℕ → Option (List ℕ)
told_to sent guest = told_of (sent_to sent guest)

-- nothing was sent yet, and nothing failed
abbrev pub no_sends : SendCounts
no_sends = record { sends = 0; faults = 0 }

-- how many sends to a guest there were, and how many of them failed
abbrev pub counts_of : List SendCounts → ℕ → SendCounts
counts_of counts guest = slice_index_or counts guest no_sends

-- the counts of failed sends of a link that never fails
abbrev pub no_faults : ℕ → ℕ
no_faults guest = 0

-- the sends that are to fail, and how many there were to each guest
pub record SendPlan : Type 0 where
  pub entries : List SendFail
  pub counts : List SendCounts

-- the first entry for the send with this number to this guest
abbrev pub entry_for : List SendFail → (guest nth : ℕ) → Option SendFail
entry_for entries guest nth = find (λ e. (e.guest == guest) && (e.nth == nth)) entries

-- the entry for the next send to this guest
abbrev pub next_entry : SendPlan → ℕ → Option SendFail
next_entry plan guest = entry_for plan.entries guest (one_more (counts_of plan.counts guest).sends)

-- how many bytes of so many are sent where a send fails by this entry
abbrev pub part_of : ℕ → SendFail → ℕ
part_of len entry = min entry.sent (len - 1)

-- a link in memory: what each guest was sent, and which sends fail
pub record MemLinkView : Type 0 where
  pub sent : List (Kept ℕ)
  pub plan : SendPlan

-- what each guest was sent, and how often a send to it failed
abbrev pub traffic_in : List (Kept ℕ) → List SendCounts → Traffic
traffic_in sent counts = record { sent = told_to sent; faults = λ guest. (counts_of counts guest).faults }

-- the same of a link
abbrev pub traffic_of : MemLinkView → Traffic
traffic_of link = traffic_in link.sent link.plan.counts

-- the link has room for so many guests
pub record HasRoom (guests : ℕ) (link : MemLinkView) : Type 0 where
  pub sent : guests ≤ length link.sent
  pub counts : guests ≤ length link.plan.counts

-- each guest was sent the same, and as many sends to it were made and failed
pub record SameLink (before after : MemLinkView) : Type 0 where
  pub entries : after.plan.entries ≡ before.plan.entries
  pub sent : (guest : ℕ) → sent_to after.sent guest ≡ sent_to before.sent guest
  pub counts : (guest : ℕ) → counts_of after.plan.counts guest ≡ counts_of before.plan.counts guest

-- each other guest was sent the same, and as many sends to it were made and failed
pub record LeavesOtherGuests (guest : ℕ) (before after : MemLinkView) : Type 0 where
  pub sent : (other : ℕ) → (other ≡ guest → ⊥) → sent_to after.sent other ≡ sent_to before.sent other
  pub counts : (other : ℕ) → (other ≡ guest → ⊥) → counts_of after.plan.counts other ≡ counts_of before.plan.counts other

-- the bytes that a send sent
abbrev pub bytes_sent : {T : Type 0} → Result T SendFailed → List ℕ → List ℕ
bytes_sent (Ok done) bytes = bytes
bytes_sent (Err e) bytes = take e.sent bytes

-- how many bytes a send sent that failed
abbrev pub part_sent : {T : Type 0} → Result T SendFailed → Option ℕ
part_sent (Ok done) = None
part_sent (Err e) = Some e.sent

-- a wire in memory
pub record MemWireView : Type 0 where
  pub feed : HeldFeed
  pub failing : Failing
  pub link : MemLinkView
  pub starts : Option Starts

-- a wire in memory that never fails
pub record SureWireView : Type 0 where
  pub feed : HeldFeed
  pub sent : List (Kept ℕ)
  pub starts : Option Starts
