-- What each status says, from what the feed gave and what was written.
use Rattle.std.proofs.Common.{◌≡◌, ℕ, ◌+◌, ◌^◌, ◌<◌, ◌≤◌, List, [], ◌∷◌, ◌++◌, length, take, drop, Option, Some, None, Ok, Err, inl, inr, refl, sym, ◌∙◌, ap, subst, arith, length-append}
use Rattle.std.proofs.lemmas.List.{append-nil, take_at}
use Rattle.std.proofs.Math.Seq.{drop-append_seam, drop-append-add}
use Rattle.desk_laws.specs.declared.setup.Setup.{Setup}
use Rattle.desk_laws.specs.declared.item.Item.TheVariants as items
use Rattle.desk_laws.specs.Items.{FedItem}
use Rattle.io_ports.specs.Counts.{Rose}
use Rattle.io_ports.specs.Feeds.{Coming}
use Rattle.io_ports.specs.declared.feed.FeedFault.{FeedFault}
use Rattle.io_ports.specs.declared.feed.FeedFault.TheVariants as feeds
use Rattle.io_ports.specs.declared.feed.RecordFault.{RecordFault}
use Rattle.io_ports.specs.declared.feed.RecordKind.TheVariants as kinds
use Rattle.io_ports.proofs.GrowLemmas.{grows_none}
use Rattle.record_format.specs.declared.config.ConfigRead.{ConfigRead}
use Rattle.record_format.specs.declared.config.ConfigRead.TheVariants as reads
use Rattle.replay_driver.specs.declared.outcome.Outcome.{Outcome}
use Rattle.replay_driver.specs.declared.outcome.Outcome.TheVariants as outcomes
use Rattle.replay_driver.specs.declared.replay_feed.FeedState.TheVariants as states
use Rattle.replay_driver.specs.FeedView.{FeedView}
use Rattle.guid_main.specs.declared.status.Status.{Status}
use Rattle.guid_main.specs.declared.status.Status.TheVariants as statuses
use Rattle.replay_driver.specs.FeedOutcomes.{EndsLast, EndsNowhereElse, FeedCall, Ran}
use Rattle.guid_main.specs.Answers.{GivesAll, GivesSome, SaysBehind, SaysBy, Says, most_items, items_len, record_len, record_behind, status_of, after_config}
use Rattle.record_format.specs.Config.{Fault, fault, config_of, config_len}
use Rattle.replay_driver.specs.FeedRuns.{FeedGives, Fed, NoEnd}
use Rattle.replay_driver.specs.Gives.{Gives, GivesPart}
use Rattle.record_format.specs.Readings.{Took, Spells, SpellsNothing, Reads}
use Rattle.record_format.specs.RecordGrammar.{Items, Ends, Faulty, Record, Run, BadStart, alone, with_front, items_from, started, record_of, whole}
use Rattle.record_format.proofs.ReadConfigLemmas.{config_takes}
use Rattle.replay_driver.proofs.RunLemmas.{fed_so}
use Rattle.replay_driver.proofs.FeedRuns.{fed_going, fed_end, fed_fault, fed_failed}

-- where what was taken has one fact, it has another
took_so : (bytes : List ℕ) (left : Option (List ℕ)) (one two : List ℕ → Type 0) → ((taken : List ℕ) → one taken → two taken) → Took bytes left one → Took bytes left two
took_so bytes left one two so took = record { taken = took.taken; rest = took.rest; split = took.split; is_left = took.is_left; holds = so took.taken took.holds }

-- nothing stands behind the last byte
from_none : (guests pages at : ℕ) → items_from guests pages at [] ≡ record { each = []; ending = Faulty (fault at kinds.Short) }
unfolding items_from
from_none guests pages at = refl

-- the items, whatever they end in
whole_faulty : (given : List FedItem) (f : RecordFault) → whole (record { each = given; ending = Faulty f }) ≡ given
whole_faulty given f = append-nil given

same_items : (found known : Items) (given : List FedItem) → found ≡ known → whole known ≡ given → given ≡ whole found
same_items found known given is all = sym all ∙ ap whole (sym is)

gives_so : (setup : Setup) (before after : Option (List ℕ)) (xs ys : List FedItem) → xs ≡ ys → Gives setup xs before after → Gives setup ys before after
gives_so setup before after xs ys is gives = subst (λ (l : List FedItem). Gives setup l before after) is gives

part_so : (setup : Setup) (before after : Option (List ℕ)) (xs ys : List FedItem) → xs ≡ ys → GivesPart setup xs before after → GivesPart setup ys before after
part_so setup before after xs ys is part = subst (λ (l : List FedItem). GivesPart setup l before after) is part

-- what is left, where the front was taken
left_behind : (bytes : List ℕ) (left : Option (List ℕ)) (taken rest : List ℕ) (n : ℕ) → bytes ≡ taken ++ rest → left ≡ Some rest → n ≡ length taken → left ≡ Some (drop n bytes)
left_behind bytes left taken rest n split is size = is ∙ ap Some (sym ((λ i. drop (size i) (split i)) ∙ drop-append_seam taken rest))

-- ---- a run over a feed that reads a record

-- the calls of a feed that reads a record, by the feed's own relation
pub record_fed : {S : Type 0} (left : S → Option (List ℕ)) (faults : S → ℕ) (keeps : S → S → Type 0) (coming : FeedView S → Option Coming) (count : FeedView S → ℕ) (a b : FeedView S)
    (given : List FedItem) (last : Option FeedFault) → Fed (FeedCall (FeedGives left faults keeps) coming count) a given last b → Fed (FeedGives left faults keeps) a given last b
record_fed left faults keeps coming count a b given last fed = fed_so (FeedCall (FeedGives left faults keeps) coming count) (FeedGives left faults keeps) (λ a answer b call. call.gave) given last a b fed

done_says : {S : Type 0} (left : S → Option (List ℕ)) (faults : S → ℕ) (keeps : S → S → Type 0) (setup : Setup) (a b : FeedView S) (bytes : List ℕ) (given : List FedItem) (before after : Option (List ℕ))
    → a.state ≡ states.Going → a.guests ≡ length setup.guests → a.pages ≡ setup.pages → a.at ≡ config_len setup → left a.source ≡ Some bytes
    → Fed (FeedGives left faults keeps) a given None b → EndsLast given → length given ≤ most_items → Gives setup given before after
    → SaysBehind setup bytes (left b.source) statuses.Done before after
done_says left faults keeps setup a b bytes given before after going guests pages at told fed ends short grown =
    let took = fed_end left faults keeps a b ends.front bytes going told ends.no_end (subst (λ (l : List FedItem). Fed (FeedGives left faults keeps) a l None b) ends.is fed) in
    let found : items_from (length setup.guests) setup.pages (config_len setup) bytes ≡ record { each = ends.front; ending = Ends } =
    (λ i. items_from (sym guests i) (sym pages i) (sym at i) bytes) ∙ ap (items_from a.guests a.pages a.at) took.split ∙ took.holds.1 took.rest in (
      (
        ap (λ (f : Items). f.ending) found,
        omega (arith, ap (λ (f : Items). length f.each) found, ap length ends.is, length-append ends.front (alone items.End ∷ []), short),
      ),
      left_behind bytes (left b.source) took.taken took.rest _ took.split took.is_left (ap (λ (f : Items). items_len setup (whole f)) found ∙ ap length (sym took.holds.0)),
      gives_so setup before after _ _ (same_items _ _ given found (sym ends.is)) grown,
    )

fault_says : {S : Type 0} (left : S → Option (List ℕ)) (faults : S → ℕ) (keeps : S → S → Type 0) (setup : Setup) (a b : FeedView S) (bytes : List ℕ) (given : List FedItem) (f : RecordFault) (before after : Option (List ℕ))
    → a.state ≡ states.Going → a.guests ≡ length setup.guests → a.pages ≡ setup.pages → a.at ≡ config_len setup → left a.source ≡ Some bytes
    → Fed (FeedGives left faults keeps) a given (Some (feeds.Bad f)) b → NoEnd given → length given < most_items → Gives setup given before after
    → SaysBehind setup bytes (left b.source) (statuses.BadRecord f) before after
fault_says left faults keeps setup a b bytes given f before after going guests pages at told fed none short grown =
    let found : items_from (length setup.guests) setup.pages (config_len setup) bytes ≡ record { each = given; ending = Faulty f } =
    (λ i. items_from (sym guests i) (sym pages i) (sym at i) bytes) ∙ fed_fault left faults keeps a b given f bytes going told none fed in (
      (ap (λ (x : Items). x.ending) found, omega (arith, ap (λ (x : Items). length x.each) found, short)),
      gives_so setup before after _ _ (same_items _ _ given found (whole_faulty given f)) grown,
    )

read_says : {S : Type 0} (left : S → Option (List ℕ)) (faults : S → ℕ) (keeps : S → S → Type 0) (setup : Setup) (a b : FeedView S) (bytes : List ℕ) (given : List FedItem) (before after : Option (List ℕ))
    → a.state ≡ states.Going → a.guests ≡ length setup.guests → a.pages ≡ setup.pages → a.at ≡ config_len setup → left a.source ≡ Some bytes
    → Fed (FeedGives left faults keeps) a given (Some feeds.Failed) b → NoEnd given → Gives setup given before after
    → SaysBehind setup bytes (left b.source) statuses.ReadFault before after
read_says left faults keeps setup a b bytes given before after going guests pages at told fed none grown =
    let took = fed_failed left faults keeps a b given bytes going told none fed in
    took_so bytes (left b.source) _ _ (λ taken is.
    let found : items_from (length setup.guests) setup.pages (config_len setup) taken ≡ record { each = given; ending = Faulty (fault took.0 kinds.Short) } =
    (λ i. items_from (sym guests i) (sym pages i) (sym at i) taken) ∙ is in
    gives_so setup before after _ _ (same_items _ _ given found (whole_faulty given (fault took.0 kinds.Short))) grown) took.1

write_says : {S : Type 0} (left : S → Option (List ℕ)) (faults : S → ℕ) (keeps : S → S → Type 0) (setup : Setup) (a b : FeedView S) (bytes : List ℕ) (given : List FedItem) (before after : Option (List ℕ))
    → a.state ≡ states.Going → a.guests ≡ length setup.guests → a.pages ≡ setup.pages → a.at ≡ config_len setup → left a.source ≡ Some bytes
    → Fed (FeedGives left faults keeps) a given None b → EndsNowhereElse given → GivesPart setup given before after
    → SaysBehind setup bytes (left b.source) statuses.WriteFault before after
write_says left faults keeps setup a b bytes given before after going guests pages at told fed (inl none) part =
    let gone = fed_going left faults keeps a b given bytes going told none fed in
    took_so bytes (left b.source) _ _ (λ taken is.
    let found : items_from (length setup.guests) setup.pages (config_len setup) taken ≡ record { each = given; ending = Faulty (fault b.at kinds.Short) } =
    (λ i. items_from (sym guests i) (sym pages i) (sym at i) taken) ∙ ap (items_from a.guests a.pages a.at) (sym (append-nil taken)) ∙ is.1 []
    ∙ ap (with_front given) (from_none a.guests a.pages b.at) ∙ ap (λ (l : List FedItem). record { each = l; ending = Faulty (fault b.at kinds.Short) }) (append-nil given) in
    part_so setup before after _ _ (same_items _ _ given found (whole_faulty given (fault b.at kinds.Short))) part) gone.took
write_says left faults keeps setup a b bytes given before after going guests pages at told fed (inr ends) part =
    let took = fed_end left faults keeps a b ends.front bytes going told ends.no_end (subst (λ (l : List FedItem). Fed (FeedGives left faults keeps) a l None b) ends.is fed) in
    took_so bytes (left b.source) _ _ (λ taken is.
    let found : items_from (length setup.guests) setup.pages (config_len setup) taken ≡ record { each = ends.front; ending = Ends } =
    (λ i. items_from (sym guests i) (sym pages i) (sym at i) taken) ∙ ap (items_from a.guests a.pages a.at) (sym (append-nil taken)) ∙ is.1 [] in
    part_so setup before after _ _ (same_items _ _ given found (sym ends.is)) part) took

long_says : {S : Type 0} (left : S → Option (List ℕ)) (faults : S → ℕ) (keeps : S → S → Type 0) (setup : Setup) (a b : FeedView S) (bytes : List ℕ) (given : List FedItem) (before after : Option (List ℕ))
    → a.state ≡ states.Going → a.guests ≡ length setup.guests → a.pages ≡ setup.pages → a.at ≡ config_len setup → left a.source ≡ Some bytes
    → Fed (FeedGives left faults keeps) a given None b → NoEnd given → length given ≡ most_items → Gives setup given before after
    → SaysBehind setup bytes (left b.source) statuses.TooLong before after
long_says left faults keeps setup a b bytes given before after going guests pages at told fed none long grown =
    let gone = fed_going left faults keeps a b given bytes going told none fed in
    let behind = items_from a.guests a.pages b.at gone.took.rest in
    let found : items_from (length setup.guests) setup.pages (config_len setup) bytes ≡ with_front given behind =
    (λ i. items_from (sym guests i) (sym pages i) (sym at i) bytes) ∙ ap (items_from a.guests a.pages a.at) gone.took.split ∙ gone.took.holds.1 gone.took.rest in
    let each : (items_from (length setup.guests) setup.pages (config_len setup) bytes).each ≡ given ++ behind.each = ap (λ (f : Items). f.each) found in
    let firsts : take most_items (items_from (length setup.guests) setup.pages (config_len setup) bytes).each ≡ given = ap (take most_items) each ∙ take_at given behind.each most_items long in (
      omega (arith, ap length each, length-append given behind.each, long),
      left_behind bytes (left b.source) gone.took.taken gone.took.rest _ gone.took.split gone.took.is_left (ap (items_len setup) firsts ∙ ap length (sym gone.took.holds.0)),
      gives_so setup before after _ _ (sym firsts) grown,
    )

-- what an outcome says of the bytes behind the setup
pub outcome_says : {S : Type 0} (left : S → Option (List ℕ)) (faults : S → ℕ) (keeps : S → S → Type 0) (setup : Setup) (a b : FeedView S) (bytes : List ℕ) (given : List FedItem) (last : Option FeedFault) (outcome : Outcome) (before after : Option (List ℕ))
    → a.state ≡ states.Going → a.guests ≡ length setup.guests → a.pages ≡ setup.pages → a.at ≡ config_len setup → left a.source ≡ Some bytes
    → Fed (FeedGives left faults keeps) a given last b → Ran setup most_items given last outcome before after
    → SaysBehind setup bytes (left b.source) (status_of outcome) before after
outcome_says left faults keeps setup a b bytes given last outcomes.Done before after going guests pages at told fed ran =
    done_says left faults keeps setup a b bytes given before after going guests pages at told (subst (λ (l : Option FeedFault). Fed (FeedGives left faults keeps) a given l b) ran.0 fed) ran.1 ran.2 ran.3
outcome_says left faults keeps setup a b bytes given last (outcomes.BadRecord f) before after going guests pages at told fed ran =
    fault_says left faults keeps setup a b bytes given f before after going guests pages at told (subst (λ (l : Option FeedFault). Fed (FeedGives left faults keeps) a given l b) ran.0 fed) ran.1 ran.2 ran.3
outcome_says left faults keeps setup a b bytes given last outcomes.ReadFault before after going guests pages at told fed ran =
    read_says left faults keeps setup a b bytes given before after going guests pages at told (subst (λ (l : Option FeedFault). Fed (FeedGives left faults keeps) a given l b) ran.0 fed) ran.1 ran.3
outcome_says left faults keeps setup a b bytes given last outcomes.WriteFault before after going guests pages at told fed ran =
    write_says left faults keeps setup a b bytes given before after going guests pages at told (subst (λ (l : Option FeedFault). Fed (FeedGives left faults keeps) a given l b) ran.0 fed) ran.1 ran.3
outcome_says left faults keeps setup a b bytes given last outcomes.NoMemory before after going guests pages at told fed ran = ran.2
outcome_says left faults keeps setup a b bytes given last outcomes.TooLong before after going guests pages at told fed ran =
    long_says left faults keeps setup a b bytes given before after going guests pages at told (subst (λ (l : Option FeedFault). Fed (FeedGives left faults keeps) a given l b) ran.0 fed) ran.1 ran.2 ran.3

-- ---- the whole record

-- the record behind a setup that was taken
pub behind_setup : (setup : Setup) (taken tail : List ℕ) → Spells config_of setup taken → record_of (taken ++ tail) ≡ record_behind setup tail
behind_setup setup taken tail spells = ap started (spells tail)

took_behind : (setup : Setup) (taken rest : List ℕ) (left : Option (List ℕ)) (bytes : List ℕ) (fact : Record → Type 0) → bytes ≡ taken ++ rest → Spells config_of setup taken
    → Took rest left (λ more. fact (record_behind setup more)) → Took bytes left (λ all. fact (record_of all))
took_behind setup taken rest left bytes fact split spells took = record {
  taken = taken ++ took.taken;
  rest = took.rest;
  split = split ∙ ap (λ (l : List ℕ). taken ++ l) took.split ∙ sym (Rattle.std.proofs.Common.append_assoc taken took.taken took.rest);
  is_left = took.is_left;
  holds = subst fact (sym (behind_setup setup taken took.taken spells)) took.holds;
}

-- what stands behind items that stand behind a setup
rest_behind : (setup : Setup) (taken rest bytes : List ℕ) (n : ℕ) → bytes ≡ taken ++ rest → Spells config_of setup taken → Some (drop n rest) ≡ Some (drop (config_len setup + n) bytes)
rest_behind setup taken rest bytes n split spells =
    let size : length taken ≡ config_len setup = omega (arith, config_takes (taken ++ []) setup [] (spells []), length-append taken []) in
    ap Some (sym ((λ i. drop (sym size i + n) (split i)) ∙ drop-append-add taken rest n))

pub says_behind : (setup : Setup) (taken rest bytes : List ℕ) (left : Option (List ℕ)) (status : Status) (before after : Option (List ℕ)) → bytes ≡ taken ++ rest → Spells config_of setup taken
    → (status ≡ statuses.Usage → ⊥) → SaysBehind setup rest left status before after → Says bytes left status before after
says_behind setup taken rest bytes left statuses.Done before after split spells used says =
    let is : record_of bytes ≡ record_behind setup rest = ap record_of split ∙ behind_setup setup taken rest spells in
    subst (λ (r : Record). SaysBy (λ bs. r) record_len bytes left statuses.Done before after) (sym is)
    (says.0, says.1 ∙ rest_behind setup taken rest bytes _ split spells, says.2)
says_behind setup taken rest bytes left statuses.Usage before after split spells used says = absurd (used refl)
says_behind setup taken rest bytes left (statuses.BadConfig k) before after split spells used says =
    let is : record_of bytes ≡ record_behind setup rest = ap record_of split ∙ behind_setup setup taken rest spells in
    subst (λ (r : Record). SaysBy (λ bs. r) record_len bytes left (statuses.BadConfig k) before after) (sym is) says
says_behind setup taken rest bytes left (statuses.BadRecord f) before after split spells used says =
    let is : record_of bytes ≡ record_behind setup rest = ap record_of split ∙ behind_setup setup taken rest spells in
    subst (λ (r : Record). SaysBy (λ bs. r) record_len bytes left (statuses.BadRecord f) before after) (sym is) says
says_behind setup taken rest bytes left statuses.ReadFault before after split spells used says =
    took_behind setup taken rest left bytes (λ (r : Record). GivesAll r before after) split spells says
says_behind setup taken rest bytes left statuses.WriteFault before after split spells used says =
    took_behind setup taken rest left bytes (λ (r : Record). GivesSome r before after) split spells says
says_behind setup taken rest bytes left statuses.NoMemory before after split spells used says = says
says_behind setup taken rest bytes left statuses.TooLong before after split spells used says =
    let is : record_of bytes ≡ record_behind setup rest = ap record_of split ∙ behind_setup setup taken rest spells in
    subst (λ (r : Record). SaysBy (λ bs. r) record_len bytes left statuses.TooLong before after) (sym is)
    (says.0, says.1 ∙ rest_behind setup taken rest bytes _ split spells, says.2)

nothing_said : (taken : List ℕ) (before : Option (List ℕ)) → SpellsNothing config_of taken → GivesAll (record_of taken) before before
nothing_said taken before none = subst (λ (r : Record). GivesAll r before before) (sym (ap started none.1)) (grows_none before before refl)

-- no setup was read
pub no_setup : (e : ConfigRead) (bytes : List ℕ) (left before : Option (List ℕ)) → Reads {X = Setup} config_of (Err e) bytes left → Says bytes left (after_config e) before before
no_setup reads.Failed bytes left before given = took_so bytes left _ _ (λ taken none. nothing_said taken before none) given
no_setup (reads.Bad f) bytes left before given =
    let is : record_of bytes ≡ BadStart (Fault f) = ap started given in
    subst (λ (r : Record). SaysBy (λ bs. r) record_len bytes left (statuses.BadRecord f) before before) (sym is) (refl, grows_none before before refl)
no_setup (reads.Rule k) bytes left before given = (ap started given, refl)
no_setup reads.NoMemory bytes left before given = refl

-- the same of a source that is seen again
pub says_again : {X : Type 0} (left : X → Option (List ℕ)) (setup : Setup) (bytes : List ℕ) (status status' : Status) (before after : Option (List ℕ)) (x y : X) → x ≡ y → status' ≡ status
    → SaysBehind setup bytes (left y) status before after → SaysBehind setup bytes (left x) status' before after
says_again {X} left setup bytes status status' before after x y same is says =
    subst (λ (s : Status). SaysBehind setup bytes (left x) s before after) (sym is)
    (subst (λ (v : X). SaysBehind setup bytes (left v) status before after) (sym same) says)

pub kept_again : {X : Type 0} (keeps : X → X → Type 0) (a a' x y : X) → a ≡ a' → x ≡ y → keeps a y → keeps a' x
kept_again {X} keeps a a' x y before after kept = subst (λ (v : X). keeps v x) before (subst (λ (v : X). keeps a v) (sym after) kept)

pub later_again : {X : Type 0} (faults : X → ℕ) (a x y : X) → x ≡ y → faults a ≤ faults y → faults a ≤ faults x
later_again {X} faults a x y same later = subst (λ (v : X). faults a ≤ faults v) (sym same) later

pub rose_again : {X : Type 0} (faults : X → ℕ) (a x y : X) → x ≡ y → Rose (faults a) (faults y) → Rose (faults a) (faults x)
rose_again {X} faults a x y same rose = subst (λ (v : X). Rose (faults a) (faults v)) (sym same) rose
