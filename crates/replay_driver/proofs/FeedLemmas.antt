-- What a call of a feed reads, and what it leaves to come.
use Rattle.std.proofs.Common.{◌≡◌, ℕ, ◌+◌, List, [], ◌∷◌, ◌++◌, length, take, Option, None, Some, Result, Ok, Err, refl, sym, ◌∙◌, ap, subst, Bool, true, false}
use Rattle.std.specs.Prelude.{if◌then◌else◌, IfOk}
use Rattle.io_ports.specs.declared.feed.Next.{Next}
use Rattle.io_ports.specs.declared.feed.RecordFault.{RecordFault}
use Rattle.io_ports.specs.declared.feed.FeedFault.{FeedFault}
use Rattle.io_ports.specs.declared.feed.FeedFault.TheVariants as feeds
use Rattle.io_ports.specs.declared.feed.RecordKind.TheVariants as kinds
use Rattle.io_ports.specs.Content.{Told}
use Rattle.io_ports.specs.Feeds.{Answer, answer_of, Coming, ComesNext, end_of_items}
use Rattle.desk_laws.specs.declared.item.Item.{Item}
use Rattle.desk_laws.specs.declared.item.Item.TheVariants as items
use Rattle.desk_laws.specs.Items.{FedItem, FitsItem}
use Rattle.desk_laws.specs.Frames.{counted}
use Rattle.replay_driver.specs.declared.replay_feed.FeedState.{FeedState}
use Rattle.replay_driver.specs.declared.replay_feed.FeedState.TheVariants as states
use Rattle.record_format.specs.Config.{fault}
use Rattle.record_format.specs.RecordGrammar.{Items, Faulty, Ends, item_at, is_end, nothing_but, item_and, with_front, items_from}
use Rattle.replay_driver.specs.ItemParts.{Spell, Finds, size_in}
use Rattle.replay_driver.specs.FeedReadings.{ReadsItem, FeedReads, state_after, coming_of, coming_in}
use Rattle.record_format.proofs.ReaderLemmas.{back_is}
use Rattle.record_format.proofs.RecordLemmas.{from_fault, from_item}

-- an item that is spelled by these bytes, and the items behind them
item_goes : (guests pages at after : ℕ) (given : FedItem) (taken tail : List ℕ) → after ≡ counted (at + length taken) → item_at guests pages (taken ++ tail) ≡ Ok (given, length taken)
    → items_from guests pages at (taken ++ tail) ≡ item_and given (items_from guests pages after tail)
item_goes guests pages at after given taken tail place found =
    from_item guests pages at (length taken) (taken ++ tail) given found ∙ (λ i. item_and given (items_from guests pages (sym place i) (back_is (length taken) taken tail refl i)))

fault_goes : (guests pages at : ℕ) (f : RecordFault) (bytes : List ℕ) → f.offset ≡ at → item_at guests pages bytes ≡ Err f.kind → items_from guests pages at bytes ≡ nothing_but (Faulty f)
fault_goes guests pages at f bytes is found = from_fault guests pages at bytes f.kind found ∙ (λ i. nothing_but (Faulty (fault (sym is i) f.kind)))

-- the offset behind an item
place_is : (guests pages at after : ℕ) (next : Next) (room taken : List ℕ) → after ≡ counted (at + size_in next room)
    → Spell guests pages (record { item = next.item; piece = take next.len room }) taken → after ≡ counted (at + length taken)
place_is guests pages at after next room taken place spell = place ∙ ap (λ (l : List ℕ). counted (at + length l)) (sym spell.spelled)

-- what was found is the item of the record, or its fault
pub item_reads : (guests pages at after : ℕ) (r : Result Next FeedFault) (room bytes : List ℕ) (left : Option (List ℕ))
    → IfOk r (λ n. after ≡ counted (at + size_in n room)) → Finds guests pages at (answer_of r room) bytes left → ReadsItem guests pages at after (answer_of r room) bytes left
item_reads guests pages at after (Ok next) room bytes left place finds =
    let given : FedItem = record { item = next.item; piece = take next.len room } in
    record {
      taken = finds.taken;
      rest = finds.rest;
      split = finds.split;
      is_left = finds.is_left;
      holds = (finds.holds.spelled, λ tail. item_goes guests pages at after given finds.taken tail (place_is guests pages at after next room finds.taken place finds.holds) (finds.holds.found tail));
    }
item_reads guests pages at after (Err (feeds.Bad f)) room bytes left place finds = fault_goes guests pages at f bytes finds.1 finds.0
item_reads guests pages at after (Err feeds.Failed) room bytes left place finds = record {
  taken = finds.taken;
  rest = finds.rest;
  split = finds.split;
  is_left = finds.is_left;
  holds = from_fault guests pages at finds.taken kinds.Short finds.holds;
}

pub going_reads : (state : FeedState) (guests pages at after : ℕ) (answer : Answer) (bytes : List ℕ) (left : Option (List ℕ)) → state ≡ states.Going
    → ReadsItem guests pages at after answer bytes left → FeedReads state guests pages at after answer bytes left
going_reads state guests pages at after answer bytes left going reads = subst (λ (s : FeedState). FeedReads s guests pages at after answer bytes left) (sym going) reads

pub failed_is : (r : Result Next FeedFault) (room : List ℕ) → answer_of r room ≡ Err feeds.Failed → r ≡ Err feeds.Failed
failed_is (Ok next) room is = absurd (cc)
failed_is (Err f) room is = let same : f ≡ feeds.Failed = cc in ap Err same

-- End comes without bytes
end_is : (guests pages : ℕ) (item : Item) (len : ℕ) → is_end item ≡ true → FitsItem guests pages item len → (item ≡ items.End) × (len ≡ 0)
end_is guests pages items.End len is range = (refl, range)
end_is guests pages item len is range = absurd (cc)

end_alone : (guests pages : ℕ) (next : Next) (room : List ℕ) → FitsItem guests pages next.item next.len → is_end next.item ≡ true
    → ◌≡◌ {A = FedItem} (record { item = next.item; piece = take next.len room }) end_of_items
end_alone guests pages next room fits is =
    let both = end_is guests pages next.item next.len is fits in
    λ i. record { item = both.0 i; piece = take (both.1 i) room }

-- what comes after an item
item_comes : (b : Bool) (given : FedItem) (guests pages after : ℕ) (rest : List ℕ) (left : Option (List ℕ)) → left ≡ Some rest → (b ≡ true → given ≡ end_of_items)
    → ComesNext (coming_of (if b then nothing_but Ends else with_front (given ∷ []) (items_from guests pages after rest))) (Ok given) (coming_in (if b then states.Ended else states.Going) guests pages after left)
item_comes true given guests pages after rest left is end = (end refl, ap (coming_in states.Ended guests pages after) is)
item_comes false given guests pages after rest left is end = (refl, ap (coming_in states.Going guests pages after) is)

comes : (guests pages at after : ℕ) (r : Result Next FeedFault) (room bytes : List ℕ) (left : Option (List ℕ))
    → IfOk r (λ n. after ≡ counted (at + size_in n room)) → IfOk r (λ n. FitsItem guests pages n.item n.len) → Finds guests pages at (answer_of r room) bytes left
    → ComesNext (coming_of (items_from guests pages at bytes)) (answer_of r room) (coming_in (state_after states.Going (answer_of r room)) guests pages after left)
comes guests pages at after (Ok next) room bytes left place range finds =
    let given : FedItem = record { item = next.item; piece = take next.len room } in
    let here = place_is guests pages at after next room finds.taken place finds.holds in
    let all : items_from guests pages at bytes ≡ item_and given (items_from guests pages after finds.rest) =
    ap (items_from guests pages at) finds.split ∙ item_goes guests pages at after given finds.taken finds.rest here (finds.holds.found finds.rest) in
    subst (λ (found : Items). ComesNext (coming_of found) (Ok given) (coming_in (state_after states.Going (Ok given)) guests pages after left)) (sym all)
    (item_comes (is_end next.item) given guests pages after finds.rest left finds.is_left (end_alone guests pages next room range))
comes guests pages at after (Err (feeds.Bad f)) room bytes left place range finds =
    subst (λ (found : Items). ComesNext (coming_of found) (Err (feeds.Bad f)) (coming_in (states.Bad f) guests pages after left)) (sym (fault_goes guests pages at f bytes finds.1 finds.0))
    (refl, ap (coming_in (states.Bad f) guests pages after) finds.2.1)
comes guests pages at after (Err feeds.Failed) room bytes left place range finds = tt

none_comes : (guests pages at after : ℕ) (r : Result Next FeedFault) (room : List ℕ) (before left : Option (List ℕ)) (coming : Coming)
    → IfOk r (λ n. after ≡ counted (at + size_in n room)) → IfOk r (λ n. FitsItem guests pages n.item n.len)
    → Told before (λ bytes. Finds guests pages at (answer_of r room) bytes left) → coming_in states.Going guests pages at before ≡ Some coming
    → ComesNext coming (answer_of r room) (coming_in (state_after states.Going (answer_of r room)) guests pages after left)
none_comes guests pages at after r room None left coming place range finds is = absurd (cc)
none_comes guests pages at after r room (Some bytes) left coming place range finds is =
    let same : coming_of (items_from guests pages at bytes) ≡ coming = cc in
    subst (λ (c : Coming). ComesNext c (answer_of r room) (coming_in (state_after states.Going (answer_of r room)) guests pages after left)) same
    (comes guests pages at after r room bytes left place range (finds bytes refl))

-- what a feed that goes on leaves to come
pub going_comes : (state behind : FeedState) (guests guests_behind pages pages_behind at after : ℕ) (r : Result Next FeedFault) (room : List ℕ) (before left : Option (List ℕ)) (coming : Coming)
    → state ≡ states.Going → behind ≡ state_after states.Going (answer_of r room) → guests_behind ≡ guests → pages_behind ≡ pages
    → IfOk r (λ n. after ≡ counted (at + size_in n room)) → IfOk r (λ n. FitsItem guests pages n.item n.len)
    → Told before (λ bytes. Finds guests pages at (answer_of r room) bytes left) → coming_in state guests pages at before ≡ Some coming
    → ComesNext coming (answer_of r room) (coming_in behind guests_behind pages_behind after left)
going_comes state behind guests guests_behind pages pages_behind at after r room before left coming going turns same same_pages place range finds is =
    let now : coming_in states.Going guests pages at before ≡ Some coming = ap (λ (s : FeedState). coming_in s guests pages at before) (sym going) ∙ is in
    let next : coming_in (state_after states.Going (answer_of r room)) guests pages after left ≡ coming_in behind guests_behind pages_behind after left =
    λ i. coming_in (sym turns i) (sym same i) (sym same_pages i) after left in
    subst (λ (c : Option Coming). ComesNext coming (answer_of r room) c) next (none_comes guests pages at after r room before left coming place range finds now)
