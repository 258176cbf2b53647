-- The items of a record, one after another.
use Rattle.std.proofs.Common.{◌≡◌, ℕ, zero, suc, ◌+◌, ◌*◌, ◌<◌, ◌≤◌, ◌^◌, List, [], ◌∷◌, ◌++◌, length, take, drop, Bool, true, false, Option, None, Result, Ok, Err, refl, sym, ap, ◌∙◌, subst, arith, append_assoc, append-nil, length-append, length-drop, length-take}
use Rattle.std.proofs.Math.Seq.{drop-append_seam}
use Rattle.std.proofs.lemmas.Bool.{and_parts}
use Rattle.std.proofs.lemmas.Bool.Decides.{nat_tests}
use Rattle.std.proofs.lemmas.List.Elements.{All-nil, All-cons, All-head, All-tail}
use Rattle.std.proofs.lemmas.List.Sums.{sum_by-cons}
use Rattle.std.proofs.lemmas.List.Concat.{flat_map-append}
use Rattle.std.specs.Prelude.{if◌then◌else◌, IfSome}
use Rattle.std.specs.List.{All, list_all, sum_by}
use Rattle.io_ports.specs.declared.feed.RecordKind.{RecordKind}
use Rattle.io_ports.specs.declared.feed.RecordKind.TheVariants as kinds
use Rattle.desk_laws.specs.declared.setup.Setup.{Setup}
use Rattle.desk_laws.specs.declared.setup.GuestSetup.{GuestSetup}
use Rattle.desk_laws.specs.declared.item.Item.TheVariants as items
use Rattle.desk_laws.specs.Rules.{within, first_broken}
use Rattle.desk_laws.specs.Frames.{counted}
use Rattle.desk_laws.specs.declared.item.Item.{Item}
use Rattle.desk_laws.specs.Items.{FedItem, FitsItem}
use Rattle.gui_wire.proofs.WordLemmas.{AreBytes, AreBytes-drop}
use Rattle.record_format.specs.Config.{Wrong, fault, version_of, outputs_len, clipboard_len, config_of, config_len, config_spelling}
use Rattle.record_format.specs.declared.version.Version.{Version}
use Rattle.record_format.specs.declared.version.Version.TheVariants.{First, Second, Third}
use Rattle.record_format.specs.ItemSpellings.{fed_spelling, items_spelling}
use Rattle.record_format.specs.RecordGrammar.{Ending, Ends, Faulty, Items, Run, alone, is_end, nothing_but, item_and, with_front, item_at, items_step, items_within, items_from, started, record_of, whole}
use Rattle.record_format.specs.RecordLaws.{CanStand, AreItems, offset_behind, ItemsAreRead, WholeRecordsAreRead, CutRecordsAreShort, StandsBehind, ReadRecordsWereSpelled}
use Rattle.record_format.proofs.ItemAtLemmas.{item_found, item_parts, ItemWas, item_was}
use Rattle.record_format.proofs.ReadItemLemmas.{RangesHold, item_ranged}
use Rattle.record_format.proofs.ConfigLemmas.{config_back}
use Rattle.record_format.proofs.ManyLemmas.{rest_are}
use Rattle.record_format.proofs.ReadConfigLemmas.{config_was}
use Rattle.record_format.proofs.SetupLemmas.{fits_of, few_pairs}

-- ---- the items from an offset on

-- an item that was found takes a byte at least, and there is one
record Takes (size : ℕ) (bytes : List ℕ) : Type 0 where
  some : 1 ≤ size
  there : 1 ≤ length bytes

takes_some : (guests pages size : ℕ) (bytes : List ℕ) (given : FedItem) → item_at guests pages bytes ≡ Ok (given, size) → Takes size bytes
takes_some guests pages size bytes given is =
    let parts = item_parts guests pages bytes given size is in
    record { some = omega (arith, parts.total); there = omega (arith, parts.fields) }

step_same : (at : ℕ) (r : Result (FedItem × ℕ) RecordKind) (f g : ℕ → Items) → ((given : FedItem) (size : ℕ) → r ≡ Ok (given, size) → f size ≡ g size) → items_step at r f ≡ items_step at r g
step_same at (Err k) f g same = refl
step_same at (Ok found) f g same = ap (item_and found.0) (same found.0 found.1 refl)

-- more turns than bytes are as good as any
enough : (m n guests pages at : ℕ) (bytes : List ℕ) → length bytes < m → length bytes < n → items_within m guests pages at bytes ≡ items_within n guests pages at bytes
enough zero n guests pages at bytes lt_m lt_n = absurd (omega arith)
enough (suc m) zero guests pages at bytes lt_m lt_n = absurd (omega arith)
enough (suc m) (suc n) guests pages at bytes lt_m lt_n = step_same at (item_at guests pages bytes) _ _ (λ given size is.
    let one = takes_some guests pages size bytes given is in
    enough m n guests pages (counted (at + size)) (drop size bytes)
    (omega (arith, one.some, one.there, length-drop size bytes)) (omega (arith, one.some, one.there, length-drop size bytes)))

from_step : (guests pages at : ℕ) (bytes : List ℕ) → items_from guests pages at bytes ≡ items_step at (item_at guests pages bytes) (λ size. items_from guests pages (counted (at + size)) (drop size bytes))
unfolding items_from
from_step guests pages at bytes = step_same at (item_at guests pages bytes) _ _ (λ given size is.
    let one = takes_some guests pages size bytes given is in
    enough (length bytes) (suc (length (drop size bytes))) guests pages (counted (at + size)) (drop size bytes)
    (omega (arith, one.some, one.there, length-drop size bytes)) (omega arith))

-- where a fault stands, there is no item
pub from_fault : (guests pages at : ℕ) (bytes : List ℕ) (e : RecordKind) → item_at guests pages bytes ≡ Err e → items_from guests pages at bytes ≡ nothing_but (Faulty (fault at e))
from_fault guests pages at bytes e is =
    from_step guests pages at bytes ∙ ap (λ (r : Result (FedItem × ℕ) RecordKind). items_step at r (λ size. items_from guests pages (counted (at + size)) (drop size bytes))) is

-- where an item stands, it is the first
pub from_item : (guests pages at size : ℕ) (bytes : List ℕ) (given : FedItem) → item_at guests pages bytes ≡ Ok (given, size)
    → items_from guests pages at bytes ≡ item_and given (items_from guests pages (counted (at + size)) (drop size bytes))
from_item guests pages at size bytes given is =
    from_step guests pages at bytes ∙ ap (λ (r : Result (FedItem × ℕ) RecordKind). items_step at r (λ size. items_from guests pages (counted (at + size)) (drop size bytes))) is

-- an item that isn't End, and the others
pub item_more : (given : FedItem) (rest : Items) → is_end given.item ≡ false → item_and given rest ≡ with_front (given ∷ []) rest
item_more given rest more = ap (λ (b : Bool). if b then nothing_but Ends else with_front (given ∷ []) rest) more

-- ---- read as they were spelled

counted_on : (at a b : ℕ) → counted (counted (at + a) + b) ≡ counted (at + (a + b))
counted_on at a b = omega arith

counted_twice : (n : ℕ) → counted (counted n) ≡ counted n
counted_twice n = omega arith

none_more : (n : ℕ) → counted n ≡ n → n ≡ counted (n + 0)
none_more n small = omega (arith, small)

-- items that were spelled are read as these, and then what stands behind them
items_go : (guests pages : ℕ) → pages < 2 ^ 32 → (at : ℕ) → counted at ≡ at → (given : List FedItem) (tail : List ℕ) → AreItems guests pages given
    → items_from guests pages at (items_spelling given ++ tail) ≡ with_front given (items_from guests pages (counted (at + length (items_spelling given))) tail)
items_go guests pages few at small [] tail fit = ap (λ (n : ℕ). with_front [] (items_from guests pages n tail)) (none_more at small)
items_go guests pages few at small (g ∷ given) tail fit =
    let one = All-head (CanStand guests pages) g given fit in
    let others = All-tail (CanStand guests pages) g given fit in
    let first = fed_spelling g in
    let rest = items_spelling given in
    let size = length first in
    let after = counted (at + size) in
    let place : counted (after + length rest) ≡ counted (at + length (first ++ rest)) = counted_on at size (length rest) ∙ ap (λ (n : ℕ). counted (at + n)) (sym (length-append first rest)) in
    ap (items_from guests pages at) (append_assoc first rest tail)
    ∙ from_item guests pages at size (first ++ (rest ++ tail)) g (item_found guests pages few g (rest ++ tail) one.fits)
    ∙ ap (λ (l : List ℕ). item_and g (items_from guests pages after l)) (drop-append_seam first (rest ++ tail))
    ∙ item_more g (items_from guests pages after (rest ++ tail)) one.goes_on
    ∙ ap (with_front (g ∷ [])) (items_go guests pages few after (counted_twice (at + size)) given tail others)
    ∙ ap (λ (n : ℕ). with_front (g ∷ given) (items_from guests pages n tail)) place

sum_small : (guests : List GuestSetup) → list_all (λ g. within 1 32 (length g.name)) guests ≡ true → sum_by (λ g. 5 + length g.name) guests ≤ 37 * length guests
sum_small [] right = omega arith
sum_small (g ∷ guests) right =
    let both = and_parts (within 1 32 (length g.name)) (list_all (λ h. within 1 32 (length h.name)) guests) right in
    let few : length g.name ≤ 32 = grind (arith, nat_tests, both.0) in
    omega (arith, sum_small guests both.1, sum_by-cons (λ h. 5 + length h.name) g guests)

pub outputs_small : (version : Version) (n : ℕ) → n ≤ 8 → outputs_len version n ≤ 129
outputs_small First n few = omega arith
outputs_small Second n few = omega (arith, few)
outputs_small Third n few = omega (arith, few)

pub clipboard_small : (version : Version) (n : ℕ) → n ≤ 255 → clipboard_len version n ≤ 512
clipboard_small First n few = omega arith
clipboard_small Second n few = omega arith
clipboard_small Third n few = omega (arith, few)

config_small : (s : Setup) → first_broken s ≡ None → counted (config_len s) ≡ config_len s
config_small s right =
    let fits = fits_of s right in
    let later = fits.later in
    let outputs = outputs_small (version_of s) (length s.outputs) later.outputs in
    let clipboard = clipboard_small (version_of s) (length s.denied) (few_pairs (length s.guests) s.denied fits.guests later.pairs later.rising) in
    omega (arith, sum_small s.guests fits.names, fits.guests, outputs, clipboard)

pub items_are_read : ItemsAreRead
items_are_read setup given tail right fit =
    let fits = fits_of setup right in
    ap started (config_back setup (items_spelling given ++ tail) right)
    ∙ ap (Run setup) (items_go (length setup.guests) setup.pages (omega (arith, fits.pages)) (config_len setup) (config_small setup right) given tail fit)

-- nothing behind End is looked at
end_is_last : (guests pages : ℕ) → pages < 2 ^ 32 → (at : ℕ) (tail : List ℕ) → items_from guests pages at (10 ∷ tail) ≡ nothing_but Ends
end_is_last guests pages few at tail = from_item guests pages at 1 (10 ∷ tail) (alone items.End) (item_found guests pages few (alone items.End) tail (record { widths = tt; range = refl }))

pub whole_records_are_read : WholeRecordsAreRead
whole_records_are_read setup given tail right fit =
    let fits = fits_of setup right in
    ap (λ (l : List ℕ). record_of (config_spelling setup ++ (l ++ tail))) (flat_map-append fed_spelling given (alone items.End ∷ []))
    ∙ ap (λ (l : List ℕ). record_of (config_spelling setup ++ l)) (append_assoc (items_spelling given) (10 ∷ []) tail)
    ∙ items_are_read setup given (10 ∷ tail) right fit
    ∙ ap (λ (found : Items). Run setup (with_front given found)) (end_is_last (length setup.guests) setup.pages (omega (arith, fits.pages)) (offset_behind setup given) tail)
    ∙ ap (λ (l : List FedItem). Run setup (record { each = l; ending = Ends })) (append-nil given)

none_from : (guests pages at : ℕ) → items_from guests pages at [] ≡ nothing_but (Faulty (fault at kinds.Short))
none_from guests pages at = from_fault guests pages at [] kinds.Short refl

pub cut_records_are_short : CutRecordsAreShort
cut_records_are_short setup given right fit =
    let at = offset_behind setup given in
    ap (λ (l : List ℕ). record_of (config_spelling setup ++ l)) (sym (append-nil (items_spelling given)))
    ∙ items_are_read setup given [] right fit
    ∙ ap (λ (found : Items). Run setup (with_front given found)) (none_from (length setup.guests) setup.pages at)
    ∙ ap (λ (l : List FedItem). Run setup (record { each = l; ending = Faulty (fault at kinds.Short) })) (append-nil given)

-- ---- what is read fits

found_fits : (guests pages size : ℕ) (bytes : List ℕ) (given : FedItem) → item_at guests pages bytes ≡ Ok (given, size) → FitsItem guests pages given.item (length given.piece)
found_fits guests pages size bytes given is =
    let parts = item_parts guests pages bytes given size is in
    let behind = drop (1 + parts.n) bytes in
    let len : length given.piece ≡ parts.len = ap length parts.piece ∙ omega (arith, parts.enough, length-take parts.len behind) in
    let range : FitsItem guests pages given.item parts.len = subst (λ (r : Option (Item × ℕ)). IfSome r (RangesHold guests pages)) parts.read (item_ranged guests pages (take (1 + parts.n) bytes)) in
    subst (FitsItem guests pages given.item) (sym len) range

-- so of all items of a record
abbrev AllFit : ℕ → ℕ → List FedItem → Type 0
AllFit guests pages given = All (λ g. FitsItem guests pages g.item (length g.piece)) given

and_fit : (guests pages : ℕ) (b : Bool) (given : FedItem) (rest : Items) → FitsItem guests pages given.item (length given.piece) → AllFit guests pages rest.each
    → AllFit guests pages (if b then nothing_but Ends else with_front (given ∷ []) rest).each
and_fit guests pages true given rest one others = All-nil (λ g. FitsItem guests pages g.item (length g.piece))
and_fit guests pages false given rest one others = All-cons (λ g. FitsItem guests pages g.item (length g.piece)) given rest.each one others

step_fits : (guests pages at : ℕ) (bytes : List ℕ) (r : Result (FedItem × ℕ) RecordKind) (rest : ℕ → Items) → item_at guests pages bytes ≡ r → ((size : ℕ) → AllFit guests pages (rest size).each)
    → AllFit guests pages (items_step at r rest).each
step_fits guests pages at bytes (Err e) rest is others = All-nil (λ g. FitsItem guests pages g.item (length g.piece))
step_fits guests pages at bytes (Ok found) rest is others = and_fit guests pages (is_end found.0.item) found.0 (rest found.1) (found_fits guests pages found.1 bytes found.0 is) (others found.1)

within_fit : (n guests pages at : ℕ) (bytes : List ℕ) → AllFit guests pages (items_within n guests pages at bytes).each
within_fit zero guests pages at bytes = All-nil (λ g. FitsItem guests pages g.item (length g.piece))
within_fit (suc n) guests pages at bytes =
    step_fits guests pages at bytes (item_at guests pages bytes) (λ size. items_within n guests pages (counted (at + size)) (drop size bytes)) refl
    (λ size. within_fit n guests pages (counted (at + size)) (drop size bytes))

-- each item that is read fits
pub items_fit : (guests pages at : ℕ) (bytes : List ℕ) → All (λ g. FitsItem guests pages g.item (length g.piece)) (items_from guests pages at bytes).each
unfolding items_from
items_fit guests pages at bytes = within_fit (suc (length bytes)) guests pages at bytes

-- a record that starts well
run_was : (r : Result (Setup × List ℕ) Wrong) (setup : Setup) (found : Items) → started r ≡ Run setup found
    → (rest : List ℕ) × (r ≡ Ok (setup, rest)) × (items_from (length setup.guests) setup.pages (config_len setup) rest ≡ found)
run_was (Err wrong) setup found is = absurd (cc)
run_was (Ok read) setup found is =
    let same : read.0 ≡ setup = cc in
    let items : items_from (length read.0.guests) read.0.pages (config_len read.0) read.1 ≡ found = cc in
    (read.1, ap (λ (s : Setup). Ok (s, read.1)) same, ap (λ (s : Setup). items_from (length s.guests) s.pages (config_len s) read.1) (sym same) ∙ items)

pub record_fits : (bytes : List ℕ) (setup : Setup) (found : Items) → record_of bytes ≡ Run setup found → All (λ g. FitsItem (length setup.guests) setup.pages g.item (length g.piece)) found.each
record_fits bytes setup found is =
    let run = run_was (config_of bytes) setup found is in
    subst (λ (f : Items). AllFit (length setup.guests) setup.pages f.each) run.2 (items_fit (length setup.guests) setup.pages (config_len setup) run.0)

-- ---- spelled as it is read

-- these bytes begin with the spelling of the items, and end as they do
record ItemsWere (guests pages at : ℕ) (bytes : List ℕ) (found : Items) : Type 0 where
  are_items : AreItems guests pages found.each
  rest : List ℕ
  spelled : bytes ≡ items_spelling (whole found) ++ rest
  behind : StandsBehind guests pages (counted (at + length (items_spelling found.each))) found.ending rest

-- only End ends
end_was : (guests pages : ℕ) (item : Item) (piece : List ℕ) → is_end item ≡ true → FitsItem guests pages item (length piece) → ◌≡◌ {A = FedItem} (record { item = item; piece = piece }) (alone items.End)
end_was guests pages items.End [] is range = refl
end_was guests pages items.End (b ∷ piece) is range = absurd (omega arith)
end_was guests pages item piece is range = absurd (cc)

place_on : (guests pages at size : ℕ) (ending : Ending) (first others : List ℕ) (rest : List ℕ) → size ≡ length first
    → StandsBehind guests pages (counted (counted (at + size) + length others)) ending rest → StandsBehind guests pages (counted (at + length (first ++ others))) ending rest
place_on guests pages at size ending first others rest is stands =
    let same : counted (counted (at + size) + length others) ≡ counted (at + length (first ++ others)) =
    counted_on at size (length others) ∙ ap (λ (n : ℕ). counted (at + n)) (ap (λ (n : ℕ). n + length others) is ∙ sym (length-append first others)) in
    subst (λ (n : ℕ). StandsBehind guests pages n ending rest) same stands

-- an item and the others
and_were : (guests pages at size : ℕ) (bytes : List ℕ) (given : FedItem) (b : Bool) (others : Items) → is_end given.item ≡ b → ItemWas guests pages bytes given size → ItemsWere guests pages (counted (at + size)) (drop size bytes) others
    → ItemsWere guests pages at bytes (if b then nothing_but Ends else with_front (given ∷ []) others)
and_were guests pages at size bytes given true others is one after =
    let end : given ≡ alone items.End = end_was guests pages given.item given.piece is one.fits.range in
    record {
      are_items = All-nil (CanStand guests pages);
      rest = drop size bytes;
      spelled = one.spelled ∙ ap (λ (g : FedItem). fed_spelling g ++ drop size bytes) end;
      behind = tt;
    }
and_were guests pages at size bytes given false others is one after = record {
  are_items = All-cons (CanStand guests pages) given others.each (record { fits = one.fits; goes_on = is }) after.are_items;
  rest = after.rest;
  spelled = one.spelled ∙ ap (λ (l : List ℕ). fed_spelling given ++ l) after.spelled ∙ sym (append_assoc (fed_spelling given) (items_spelling (whole others)) after.rest);
  behind = place_on guests pages at size others.ending (fed_spelling given) (items_spelling others.each) after.rest one.total after.behind;
}

step_were : (guests pages at : ℕ) (bytes : List ℕ) (r : Result (FedItem × ℕ) RecordKind) (rest : ℕ → Items) → counted at ≡ at → AreBytes bytes → item_at guests pages bytes ≡ r
    → ((size : ℕ) (given : FedItem) → item_at guests pages bytes ≡ Ok (given, size) → ItemsWere guests pages (counted (at + size)) (drop size bytes) (rest size)) → ItemsWere guests pages at bytes (items_step at r rest)
step_were guests pages at bytes (Err e) rest small h is others =
    record { are_items = All-nil (CanStand guests pages); rest = bytes; spelled = refl; behind = (none_more at small, is) }
step_were guests pages at bytes (Ok found) rest small h is others =
    and_were guests pages at found.1 bytes found.0 (is_end found.0.item) (rest found.1) refl (item_was guests pages bytes found.0 found.1 h is) (others found.1 found.0 is)

within_were : (n guests pages at : ℕ) (bytes : List ℕ) → counted at ≡ at → AreBytes bytes → length bytes < n → ItemsWere guests pages at bytes (items_within n guests pages at bytes)
within_were zero guests pages at bytes small h lt = absurd (omega arith)
within_were (suc n) guests pages at bytes small h lt =
    step_were guests pages at bytes (item_at guests pages bytes) (λ size. items_within n guests pages (counted (at + size)) (drop size bytes)) small h refl
    (λ size given is.
    let one = takes_some guests pages size bytes given is in
    within_were n guests pages (counted (at + size)) (drop size bytes) (counted_twice (at + size)) (AreBytes-drop size bytes h) (omega (arith, one.some, one.there, length-drop size bytes)))

items_were : (guests pages at : ℕ) (bytes : List ℕ) → counted at ≡ at → AreBytes bytes → ItemsWere guests pages at bytes (items_from guests pages at bytes)
unfolding items_from
items_were guests pages at bytes small h = within_were (suc (length bytes)) guests pages at bytes small h (omega arith)

-- each is below 256, past the end too
pub are_bytes : (bytes : List ℕ) → All (λ b. b < 256) bytes → AreBytes bytes
are_bytes [] h k = omega arith
are_bytes (b ∷ bytes) h zero = All-head (λ n. n < 256) b bytes h
are_bytes (b ∷ bytes) h (suc k) = are_bytes bytes (All-tail (λ n. n < 256) b bytes h) k

pub records_were_spelled : ReadRecordsWereSpelled
records_were_spelled bytes setup found h is =
    let all = are_bytes bytes h in
    let run = run_was (config_of bytes) setup found is in
    let config = config_was bytes setup run.0 all run.1 in
    let tail : AreBytes run.0 = rest_are (config_spelling setup) run.0 bytes config.0 all in
    let were = subst (ItemsWere (length setup.guests) setup.pages (config_len setup) run.0) run.2 (items_were (length setup.guests) setup.pages (config_len setup) run.0 (config_small setup config.1) tail) in
    record {
      keeps_rules = config.1;
      are_items = were.are_items;
      rest = were.rest;
      spelled = config.0 ∙ ap (λ (l : List ℕ). config_spelling setup ++ l) were.spelled;
      behind = were.behind;
    }
