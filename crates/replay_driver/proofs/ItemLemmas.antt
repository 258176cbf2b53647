-- How one item is read, part by part.
use Rattle.std.proofs.Common.{◌≡◌, ℕ, zero, suc, ◌+◌, ◌<◌, ◌≤◌, ◌^◌, List, [], ◌∷◌, ◌++◌, length, take, Option, Some, Result, Ok, Err, refl, sym, ◌∙◌, ap, subst, arith, length-append, length-take}
use Rattle.std.specs.Prelude.{slice_index}
use Rattle.io_ports.specs.declared.feed.Next.{Next}
use Rattle.io_ports.specs.declared.feed.RecordKind.{RecordKind}
use Rattle.io_ports.specs.declared.feed.RecordKind.TheVariants as kinds
use Rattle.io_ports.specs.declared.feed.FeedFault.{FeedFault}
use Rattle.io_ports.specs.declared.feed.FeedFault.TheVariants as feeds
use Rattle.desk_laws.specs.declared.item.Item.{Item}
use Rattle.desk_laws.specs.Items.{FedItem}
use Rattle.record_format.specs.declared.part.PartRead.{PartRead}
use Rattle.record_format.specs.declared.part.PartRead.TheVariants as parts
use Rattle.record_format.specs.Config.{fault}
use Rattle.record_format.specs.ItemSpellings.{item_spelling, fed_spelling, FitsRecord}
use Rattle.record_format.specs.ItemFields.{fields_len, FieldsWithin, HasFields, item_read, IsSpelledBy}
use Rattle.record_format.specs.RecordGrammar.{item_at, with_piece}
use Rattle.record_format.specs.Parts.{Fills}
use Rattle.record_format.specs.Readings.{Took}
use Rattle.replay_driver.specs.ItemParts.{no_item, FindsNone, IsFront, Spell}
use Rattle.record_format.proofs.ItemAtLemmas.{fields_whole, front_was, item_found}
use Rattle.record_format.proofs.ReaderLemmas.{took_on, front_is}

-- these bytes were taken
abbrev pub TookThese : List ℕ → Option (List ℕ) → List ℕ → Type 0
TookThese bytes left front = Took bytes left (λ taken. taken ≡ front)

pub took_these : (bytes front same : List ℕ) (left : Option (List ℕ)) → front ≡ same → TookThese bytes left front → TookThese bytes left same
took_these bytes front same left is took = subst (TookThese bytes left) is took

-- and so is known of them
pub took_map : (bytes front : List ℕ) (left : Option (List ℕ)) (fact : List ℕ → Type 0) → TookThese bytes left front → fact front → Took bytes left fact
took_map bytes front left fact took holds =
    record { taken = took.taken; rest = took.rest; split = took.split; is_left = took.is_left; holds = subst fact (sym took.holds) holds }

-- a room that was filled behind them
pub filled_on : (bytes front room : List ℕ) (mid left : Option (List ℕ)) (first : TookThese bytes mid front) → Fills (Ok tt) room first.rest left → TookThese bytes left (front ++ room)
filled_on bytes front room mid left first fills = took_on bytes mid left _ _ _ first fills (λ xs ys one two i. one i ++ two i)

missing : (known : List ℕ → RecordKind → Type 0) (at : ℕ) (part : PartRead) (front room bytes : List ℕ) (mid left : Option (List ℕ)) (first : TookThese bytes mid front)
    → ((xs : List ℕ) → length xs < length room → known (front ++ xs) kinds.Short) → Fills (Err part) room first.rest left → FindsNone known at (no_item at part) bytes left
missing known at parts.Failed front room bytes mid left first short fills =
    took_on bytes mid left _ _ _ first fills (λ xs ys one two. subst (λ (l : List ℕ). known (l ++ ys) kinds.Short) (sym one) (short ys two))
missing known at parts.Short front room bytes mid left first short fills =
    let whole : front ++ first.rest ≡ bytes = ap (λ (l : List ℕ). l ++ first.rest) (sym first.holds) ∙ sym first.split in
    (subst (λ (l : List ℕ). known l kinds.Short) whole (short first.rest fills.0), refl, ([], fills.1))

-- a part behind them that wasn't read
pub missing_on : (known : List ℕ → RecordKind → Type 0) (at : ℕ) (part : PartRead) (e : FeedFault) (front room bytes : List ℕ) (mid left : Option (List ℕ)) (first : TookThese bytes mid front) → e ≡ no_item at part
    → ((xs : List ℕ) → length xs < length room → known (front ++ xs) kinds.Short) → Fills (Err part) room first.rest left → FindsNone known at e bytes left
missing_on known at part e front room bytes mid left first is short fills =
    subst (λ (f : FeedFault). FindsNone known at f bytes left) (sym is) (missing known at part front room bytes mid left first short fills)

first_missing : (known : List ℕ → RecordKind → Type 0) (at : ℕ) (part : PartRead) (room bytes : List ℕ) (left : Option (List ℕ))
    → ((xs : List ℕ) → length xs < length room → known xs kinds.Short) → Fills (Err part) room bytes left → FindsNone known at (no_item at part) bytes left
first_missing known at parts.Failed room bytes left short fills =
    record { taken = fills.taken; rest = fills.rest; split = fills.split; is_left = fills.is_left; holds = short fills.taken fills.holds }
first_missing known at parts.Short room bytes left short fills = (short bytes fills.0, refl, ([], fills.1))

-- the first part wasn't read
pub missing_first : (known : List ℕ → RecordKind → Type 0) (at : ℕ) (part : PartRead) (e : FeedFault) (room bytes : List ℕ) (left : Option (List ℕ)) → e ≡ no_item at part
    → ((xs : List ℕ) → length xs < length room → known xs kinds.Short) → Fills (Err part) room bytes left → FindsNone known at e bytes left
missing_first known at part e room bytes left is short fills =
    subst (λ (f : FeedFault). FindsNone known at f bytes left) (sym is) (first_missing known at part room bytes left short fills)

-- a fault that they are, whatever follows
pub wrong_on : (known : List ℕ → RecordKind → Type 0) (at : ℕ) (kind : RecordKind) (e : FeedFault) (front bytes : List ℕ) (left : Option (List ℕ)) → e ≡ feeds.Bad (fault at kind)
    → ((tail : List ℕ) → known (front ++ tail) kind) → TookThese bytes left front → FindsNone known at e bytes left
wrong_on known at kind e front bytes left is wrong first =
    let whole : front ++ first.rest ≡ bytes = ap (λ (l : List ℕ). l ++ first.rest) (sym first.holds) ∙ sym first.split in
    subst (λ (f : FeedFault). FindsNone known at f bytes left) (sym is) (subst (λ (l : List ℕ). known l kind) whole (wrong first.rest), refl, (first.rest, first.is_left))

-- what is known for all guests and pages is known for these
pub none_here : (guests pages at : ℕ) (e : FeedFault) (bytes : List ℕ) (left : Option (List ℕ)) → FindsNone (λ bs kind. (g p : ℕ) → item_at g p bs ≡ Err kind) at e bytes left
    → FindsNone (λ bs kind. item_at guests pages bs ≡ Err kind) at e bytes left
none_here guests pages at (feeds.Bad f) bytes left none = (none.0 guests pages, none.1, none.2)
none_here guests pages at feeds.Failed bytes left none =
    record { taken = none.taken; rest = none.rest; split = none.split; is_left = none.is_left; holds = none.holds guests pages }

-- one byte
pub one_byte : (bytes : List ℕ) → length bytes ≡ 1 → bytes ≡ slice_index bytes 0 ∷ []
one_byte [] is = absurd (omega arith)
one_byte (b ∷ []) is = refl
one_byte (b ∷ c ∷ bytes) is = absurd (omega arith)

-- ---- behind a kind byte with all its fields

-- the kind byte, and the fields that were read into the front of their room
pub front_taken : (n : ℕ) (kind fields behind front : List ℕ) → length kind ≡ 1 → length fields ≡ n → front ≡ slice_index kind 0 ∷ (fields ++ behind) → kind ++ fields ≡ take (1 + n) front
front_taken n kind fields behind front one is made =
    let first : kind ++ fields ≡ slice_index kind 0 ∷ fields = ap (λ (l : List ℕ). l ++ fields) (one_byte kind one) in
    first ∙ sym (front_is (1 + n) (slice_index kind 0 ∷ fields) behind (omega arith)) ∙ ap (take (1 + n)) (sym made)

taken_kind : (m : ℕ) (front : List ℕ) → 1 ≤ m → slice_index (take m front) 0 ≡ slice_index front 0
taken_kind zero front some = absurd (omega arith)
taken_kind (suc m) [] some = refl
taken_kind (suc m) (x ∷ front) some = refl

front_kind : (n : ℕ) (front : List ℕ) → IsFront n front → fields_len (slice_index (take (1 + n) front) 0) ≡ Some n
front_kind n front is = ap (λ (k : ℕ). fields_len k) (taken_kind (1 + n) front (omega arith)) ∙ is.kind

front_size : (n : ℕ) (front : List ℕ) → IsFront n front → length (take (1 + n) front) ≡ 1 + n
front_size n front is = omega (arith, is.long, is.most, length-take (1 + n) front)

pub has_fields : (n : ℕ) (front : List ℕ) → IsFront n front → HasFields (take (1 + n) front)
has_fields n front is =
    let size = front_size n front is in
    record {
      some = omega arith;
      all = subst (λ (r : Option ℕ). FieldsWithin r (length (take (1 + n) front))) (sym (front_kind n front is)) (omega (arith, size));
    }

-- an item behind whose fields nothing was looked at yet
pub fields_read : (guests pages n : ℕ) (front : List ℕ) (r : Option (Item × ℕ)) → IsFront n front → r ≡ item_read guests pages (take (1 + n) front)
    → (tail : List ℕ) → item_at guests pages (take (1 + n) front ++ tail) ≡ with_piece (1 + n) tail r
fields_read guests pages n front r is read tail =
    fields_whole guests pages n (take (1 + n) front) tail (front_size n front is) (front_kind n front is) ∙ ap (with_piece (1 + n) tail) (sym read)

-- the item that was read, with its piece
pub item_spells : (guests pages n : ℕ) → pages < 2 ^ 32 → (front piece : List ℕ) (item : Item) (len : ℕ) → IsFront n front → IsSpelledBy guests pages (take (1 + n) front) (item, len)
    → length piece ≡ len → Spell guests pages (record { item = item; piece = piece }) (take (1 + n) front ++ piece)
item_spells guests pages n few front piece item len is by so_many =
    let given : FedItem = record { item = item; piece = piece } in
    let first : take (1 + n) front ≡ item_spelling item len = front_was n (take (1 + n) front) item len (front_size n front is) (front_kind n front is) by.fits.widths by.spelled in
    let whole : take (1 + n) front ++ piece ≡ fed_spelling given = λ i. (first ∙ ap (item_spelling item) (sym so_many)) i ++ piece in
    record {
      spelled = whole;
      found = λ tail.
          ap (λ (l : List ℕ). item_at guests pages (l ++ tail)) whole
          ∙ item_found guests pages few given tail (subst (FitsRecord guests pages item) (sym so_many) by.fits)
          ∙ ap (λ (l : List ℕ). Ok (given, length l)) (sym whole);
    }

-- how many bytes it takes
pub item_size : (guests pages n : ℕ) (front piece : List ℕ) (item : Item) (len : ℕ) → IsFront n front → IsSpelledBy guests pages (take (1 + n) front) (item, len)
    → length piece ≡ len → 1 + n + len ≡ length (fed_spelling (record { item = item; piece = piece }))
item_size guests pages n front piece item len is by so_many =
    let size = front_size n front is in
    let first : take (1 + n) front ≡ item_spelling item len = front_was n (take (1 + n) front) item len size (front_kind n front is) by.fits.widths by.spelled in
    let spelled : length (item_spelling item (length piece)) ≡ 1 + n = ap (λ (k : ℕ). length (item_spelling item k)) so_many ∙ ap length (sym first) ∙ size in
    omega (arith, so_many, spelled, length-append (item_spelling item (length piece)) piece)

-- a part that wasn't read since a read failed
pub part_failed : (at : ℕ) (part : PartRead) (e : FeedFault) → e ≡ no_item at part → ◌≡◌ {A = Result (Next × ℕ) FeedFault} (Err e) (Err feeds.Failed) → part ≡ parts.Failed
part_failed at parts.Failed e is failed = refl
part_failed at parts.Short e is failed = absurd (cc)
