-- What a feed that reads a record gives, one call after another.
use Rattle.std.proofs.Common.{◌≡◌, ℕ, ◌≤◌, List, [], ◌∷◌, ◌++◌, Option, None, Some, Ok, Err, refl, sym, ◌∙◌, ap, subst, arith, append_assoc, append-nil, Bool, false}
use Rattle.std.specs.Prelude.{if◌then◌else◌}
use Rattle.io_ports.specs.declared.feed.RecordFault.{RecordFault}
use Rattle.io_ports.specs.declared.feed.FeedFault.{FeedFault}
use Rattle.io_ports.specs.declared.feed.FeedFault.TheVariants as feeds
use Rattle.io_ports.specs.declared.feed.RecordKind.TheVariants as kinds
use Rattle.io_ports.specs.Counts.{Rose}
use Rattle.io_ports.specs.Feeds.{Answer}
use Rattle.desk_laws.specs.declared.item.Item.TheVariants as items
use Rattle.desk_laws.specs.Items.{FedItem}
use Rattle.replay_driver.specs.declared.replay_feed.FeedState.{FeedState}
use Rattle.replay_driver.specs.declared.replay_feed.FeedState.TheVariants as states
use Rattle.replay_driver.specs.FeedView.{FeedView}
use Rattle.record_format.specs.Config.{fault}
use Rattle.record_format.specs.Readings.{Took}
use Rattle.record_format.specs.RecordGrammar.{Items, Faulty, Ends, alone, is_end, nothing_but, with_front, items_from}
use Rattle.replay_driver.specs.FeedReadings.{ReadsItem, FeedReads, state_after}
use Rattle.replay_driver.specs.FeedRuns.{FeedGives, Fed, NoEnd}
use Rattle.std.proofs.lemmas.List.Concat.{flat_map-append}
use Rattle.record_format.specs.ItemSpellings.{fed_spelling, items_spelling}
use Rattle.record_format.proofs.RecordLemmas.{item_more}
use Rattle.record_format.proofs.ReaderLemmas.{took_none, took_on}

-- the feed stays over the same source
pub fed_source : {S : Type 0} (left : S → Option (List ℕ)) (faults : S → ℕ) (keeps : S → S → Type 0) (a b : FeedView S) (given : List FedItem) (last : Option FeedFault)
    → ((x : S) → keeps x x) → ((x y z : S) → keeps x y → keeps y z → keeps x z) → Fed (FeedGives left faults keeps) a given last b → keeps a.source b.source
fed_source left faults keeps a b [] None same on fed = subst (λ (f : FeedView _). keeps a.source f.source) fed (same a.source)
fed_source left faults keeps a b [] (Some f) same on fed = fed.same_source
fed_source left faults keeps a b (g ∷ given) last same on fed =
    on a.source fed.0.source b.source fed.1.same_source (fed_source left faults keeps fed.0 b given last same on fed.2)

-- the count of faults never falls
pub fed_faults : {S : Type 0} (left : S → Option (List ℕ)) (faults : S → ℕ) (keeps : S → S → Type 0) (a b : FeedView S) (given : List FedItem) (last : Option FeedFault)
    → Fed (FeedGives left faults keeps) a given last b → faults a.source ≤ faults b.source
fed_faults left faults keeps a b [] None fed = let same : faults a.source ≡ faults b.source = ap (λ (f : FeedView _). faults f.source) fed in omega arith
fed_faults left faults keeps a b [] (Some f) fed = fed.later
fed_faults left faults keeps a b (g ∷ given) last fed =
    let first : faults a.source ≤ faults fed.0.source = fed.1.later in
    let others : faults fed.0.source ≤ faults b.source = fed_faults left faults keeps fed.0 b given last fed.2 in
    omega arith

-- the feed is of the same guests and pages
pub fed_guests : {S : Type 0} (left : S → Option (List ℕ)) (faults : S → ℕ) (keeps : S → S → Type 0) (a b : FeedView S) (given : List FedItem) (last : Option FeedFault)
    → Fed (FeedGives left faults keeps) a given last b → (b.guests ≡ a.guests) × (b.pages ≡ a.pages)
fed_guests left faults keeps a b [] None fed = (ap (λ (f : FeedView _). f.guests) (sym fed), ap (λ (f : FeedView _). f.pages) (sym fed))
fed_guests left faults keeps a b [] (Some f) fed = (fed.same_guests, fed.same_pages)
fed_guests left faults keeps a b (g ∷ given) last fed =
    let others = fed_guests left faults keeps fed.0 b given last fed.2 in (others.0 ∙ fed.1.same_guests, others.1 ∙ fed.1.same_pages)

-- a list that was given is its front and then the rest
pub fed_parts : {F : Type 0} (gives : F → Answer → F → Type 0) (a b : F) (front back : List FedItem) (last : Option FeedFault)
    → Fed gives a (front ++ back) last b → (m : F) × Fed gives a front None m × Fed gives m back last b
fed_parts gives a b [] back last fed = (a, refl, fed)
fed_parts gives a b (g ∷ front) back last fed =
    let others = fed_parts gives fed.0 b front back last fed.2 in (others.0, (fed.0, fed.1, others.1), others.2)

-- these bytes are the spelling of the items, and are read as these, whatever follows
abbrev pub AreRead : {S : Type 0} → FeedView S → FeedView S → List FedItem → List ℕ → Type 0
AreRead a b given taken =
    (taken ≡ items_spelling given) × ((tail : List ℕ) → items_from a.guests a.pages a.at (taken ++ tail) ≡ with_front given (items_from a.guests a.pages b.at tail))

-- What a feed that goes on has read: the items that it gave are spelled by what it took, and stand first, whatever follows.
pub record Gone {S : Type 0} (left : S → Option (List ℕ)) (a b : FeedView S) (given : List FedItem) (bytes : List ℕ) : Type 0 where
  pub going : b.state ≡ states.Going
  pub guests : b.guests ≡ a.guests
  pub pages : b.pages ≡ a.pages
  pub took : Took bytes (left b.source) (AreRead a b given)

no_front : (found : Items) → found ≡ with_front [] found
no_front found = refl

gone_none : {S : Type 0} (left : S → Option (List ℕ)) (a : FeedView S) (bytes : List ℕ) → a.state ≡ states.Going → left a.source ≡ Some bytes → Gone left a a [] bytes
gone_none left a bytes going told = record {
  going = going;
  guests = refl;
  pages = refl;
  took = took_none bytes (left a.source) (AreRead a a []) told (refl, λ tail. refl);
}

reads_one : (state : FeedState) (guests pages at after : ℕ) (answer : Answer) (bytes : List ℕ) (left : Option (List ℕ)) → state ≡ states.Going
    → FeedReads state guests pages at after answer bytes left → ReadsItem guests pages at after answer bytes left
reads_one state guests pages at after answer bytes left going reads = subst (λ (s : FeedState). FeedReads s guests pages at after answer bytes left) going reads

gone_more : {S : Type 0} (left : S → Option (List ℕ)) (faults : S → ℕ) (keeps : S → S → Type 0) (a m b : FeedView S) (g : FedItem) (given : List FedItem) (bytes : List ℕ)
    → a.state ≡ states.Going → FeedGives left faults keeps a (Ok g) m → (first : ReadsItem a.guests a.pages a.at m.at (Ok g) bytes (left m.source)) → is_end g.item ≡ false
    → Gone left m b given first.rest → Gone left a b (g ∷ given) bytes
gone_more left faults keeps a m b g given bytes going gives first more others = record {
  going = others.going;
  guests = others.guests ∙ gives.same_guests;
  pages = others.pages ∙ gives.same_pages;
  took = took_on bytes (left m.source) (left b.source) _ _ (AreRead a b (g ∷ given)) first others.took
      (λ xs ys one two. (
        λ i. one.0 i ++ two.0 i,
        λ tail.
            ap (items_from a.guests a.pages a.at) (append_assoc xs ys tail) ∙ one.1 (ys ++ tail) ∙ item_more g _ more
            ∙ (λ i. with_front (g ∷ []) (items_from (sym gives.same_guests i) (sym gives.same_pages i) m.at (ys ++ tail)))
            ∙ ap (with_front (g ∷ [])) (two.1 tail)
            ∙ (λ i. with_front (g ∷ given) (items_from (gives.same_guests i) (gives.same_pages i) b.at tail)),
      ));
}

still_going : (state after : FeedState) (g : FedItem) → state ≡ states.Going → after ≡ state_after state (Ok g) → is_end g.item ≡ false → after ≡ states.Going
still_going state after g going is more =
    is ∙ ap (λ (s : FeedState). state_after s (Ok g)) going ∙ ap (λ (b : Bool). if b then states.Ended else states.Going) more

-- no End was given: the feed goes on
pub fed_going : {S : Type 0} (left : S → Option (List ℕ)) (faults : S → ℕ) (keeps : S → S → Type 0) (a b : FeedView S) (given : List FedItem) (bytes : List ℕ)
    → a.state ≡ states.Going → left a.source ≡ Some bytes → NoEnd given → Fed (FeedGives left faults keeps) a given None b → Gone left a b given bytes
fed_going left faults keeps a b [] bytes going told none fed = subst (λ (f : FeedView _). Gone left a f [] bytes) fed (gone_none left a bytes going told)
fed_going left faults keeps a b (g ∷ given) bytes going told none fed =
    let first : ReadsItem a.guests a.pages a.at fed.0.at (Ok g) bytes (left fed.0.source) =
    reads_one a.state a.guests a.pages a.at fed.0.at (Ok g) bytes (left fed.0.source) going (fed.1.reads bytes told) in
    gone_more left faults keeps a fed.0 b g given bytes going fed.1 first none.0
    (fed_going left faults keeps fed.0 b given first.rest (still_going a.state fed.0.state g going fed.1.state none.0) first.is_left none.1 fed.2)

-- the items before the last answer
before_last : {F : Type 0} (gives : F → Answer → F → Type 0) (a b : F) (given : List FedItem) (f : FeedFault)
    → Fed gives a given (Some f) b → (m : F) × Fed gives a given None m × gives m (Err f) b
before_last gives a b [] f fed = (a, refl, fed)
before_last gives a b (g ∷ given) f fed =
    let others = before_last gives fed.0 b given f fed.2 in (others.0, (fed.0, fed.1, others.1), others.2)

-- the items end in what stands behind those given
ends_so : (guests pages at at_behind : ℕ) (given : List FedItem) (ending : _) (bytes : List ℕ) (xs ys : List ℕ) (behind pages_behind : ℕ) → behind ≡ guests → pages_behind ≡ pages
    → ((tail : List ℕ) → items_from guests pages at (xs ++ tail) ≡ with_front given (items_from guests pages at_behind tail)) → items_from behind pages_behind at_behind ys ≡ nothing_but ending
    → items_from guests pages at (xs ++ ys) ≡ record { each = given; ending = ending }
ends_so guests pages at at_behind given ending bytes xs ys behind pages_behind same same_pages one two =
    one ys ∙ (λ i. with_front given (items_from (sym same i) (sym same_pages i) at_behind ys)) ∙ ap (with_front given) two ∙ (λ i. record { each = append-nil given i; ending = ending })

-- these bytes are the spelling of the items and End, and are read as these, whatever follows
abbrev pub AreAll : {S : Type 0} → FeedView S → List FedItem → List ℕ → Type 0
AreAll a front taken =
    (taken ≡ items_spelling (front ++ alone items.End ∷ [])) × ((tail : List ℕ) → items_from a.guests a.pages a.at (taken ++ tail) ≡ record { each = front; ending = Ends })

-- these items, and then End
pub fed_end : {S : Type 0} (left : S → Option (List ℕ)) (faults : S → ℕ) (keeps : S → S → Type 0) (a b : FeedView S) (front : List FedItem) (bytes : List ℕ)
    → a.state ≡ states.Going → left a.source ≡ Some bytes → NoEnd front → Fed (FeedGives left faults keeps) a (front ++ alone items.End ∷ []) None b
    → Took bytes (left b.source) (AreAll a front)
fed_end left faults keeps a b front bytes going told none fed =
    let parts = fed_parts (FeedGives left faults keeps) a b front (alone items.End ∷ []) None fed in
    let m = parts.0 in
    let gone = fed_going left faults keeps a m front bytes going told none parts.1 in
    let after = parts.2.0 in
    let last : ReadsItem m.guests m.pages m.at after.at (Ok (alone items.End)) gone.took.rest (left after.source) =
    reads_one m.state m.guests m.pages m.at after.at (Ok (alone items.End)) gone.took.rest (left after.source) gone.going (parts.2.1.reads gone.took.rest gone.took.is_left) in
    let took : Took bytes (left after.source) (AreAll a front) =
    took_on bytes (left m.source) (left after.source) _ _ _ gone.took last
    (λ xs ys one two. (
      (λ i. one.0 i ++ two.0 i) ∙ sym (flat_map-append fed_spelling front (alone items.End ∷ [])),
      λ tail. ap (items_from a.guests a.pages a.at) (append_assoc xs ys tail) ∙ ends_so a.guests a.pages a.at m.at front Ends bytes xs (ys ++ tail) m.guests m.pages gone.guests gone.pages one.1 (two.1 tail),
    )) in
    subst (λ (f : FeedView _). Took bytes (left f.source) (AreAll a front)) parts.2.2 took

-- these items, and then a fault of the record
pub fed_fault : {S : Type 0} (left : S → Option (List ℕ)) (faults : S → ℕ) (keeps : S → S → Type 0) (a b : FeedView S) (given : List FedItem) (f : RecordFault) (bytes : List ℕ)
    → a.state ≡ states.Going → left a.source ≡ Some bytes → NoEnd given → Fed (FeedGives left faults keeps) a given (Some (feeds.Bad f)) b
    → items_from a.guests a.pages a.at bytes ≡ record { each = given; ending = Faulty f }
fed_fault left faults keeps a b given f bytes going told none fed =
    let parts = before_last (FeedGives left faults keeps) a b given (feeds.Bad f) fed in
    let m = parts.0 in
    let gone = fed_going left faults keeps a m given bytes going told none parts.1 in
    let last : ReadsItem m.guests m.pages m.at b.at (Err (feeds.Bad f)) gone.took.rest (left b.source) =
    reads_one m.state m.guests m.pages m.at b.at (Err (feeds.Bad f)) gone.took.rest (left b.source) gone.going (parts.2.reads gone.took.rest gone.took.is_left) in
    ap (items_from a.guests a.pages a.at) gone.took.split ∙ ends_so a.guests a.pages a.at m.at given (Faulty f) bytes gone.took.taken gone.took.rest m.guests m.pages gone.guests gone.pages gone.took.holds.1 last

-- these items, and then a read that failed: what was taken ends within an item, or where one is due
pub fed_failed : {S : Type 0} (left : S → Option (List ℕ)) (faults : S → ℕ) (keeps : S → S → Type 0) (a b : FeedView S) (given : List FedItem) (bytes : List ℕ)
    → a.state ≡ states.Going → left a.source ≡ Some bytes → NoEnd given → Fed (FeedGives left faults keeps) a given (Some feeds.Failed) b
    → (at : ℕ) × Took bytes (left b.source) (λ taken. items_from a.guests a.pages a.at taken ≡ record { each = given; ending = Faulty (fault at kinds.Short) })
fed_failed left faults keeps a b given bytes going told none fed =
    let parts = before_last (FeedGives left faults keeps) a b given feeds.Failed fed in
    let m = parts.0 in
    let gone = fed_going left faults keeps a m given bytes going told none parts.1 in
    let last : ReadsItem m.guests m.pages m.at b.at (Err feeds.Failed) gone.took.rest (left b.source) =
    reads_one m.state m.guests m.pages m.at b.at (Err feeds.Failed) gone.took.rest (left b.source) gone.going (parts.2.reads gone.took.rest gone.took.is_left) in (
      m.at,
      took_on bytes (left m.source) (left b.source) _ _ _ gone.took last
          (λ xs ys one two. ends_so a.guests a.pages a.at m.at given (Faulty (fault m.at kinds.Short)) bytes xs ys m.guests m.pages gone.guests gone.pages one.1 two),
    )

-- where a read failed, the count of faults rose
pub fed_rose : {S : Type 0} (left : S → Option (List ℕ)) (faults : S → ℕ) (keeps : S → S → Type 0) (a b : FeedView S) (given : List FedItem)
    → Fed (FeedGives left faults keeps) a given (Some feeds.Failed) b → (m : FeedView S) × (faults a.source ≤ faults m.source) × Rose (faults m.source) (faults b.source)
fed_rose left faults keeps a b given fed =
    let parts = before_last (FeedGives left faults keeps) a b given feeds.Failed fed in
    (parts.0, fed_faults left faults keeps a parts.0 given None parts.1, parts.2.failed refl)
