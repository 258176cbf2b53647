-- What readers take, one after another.
use Rattle.std.proofs.Common.{◌≡◌, ℕ, suc, ◌+◌, ◌<◌, ◌≤◌, List, [], ◌∷◌, ◌++◌, length, take, drop, Option, None, Some, Result, Ok, Err, refl, sym, ◌∙◌, ap, subst, arith, append_assoc, append-nil, length-append, length-take, Bool, true, false}
use Rattle.std.proofs.Math.Seq.{drop-append_seam, take-append_seam}
use Rattle.std.proofs.lemmas.List.{take_all, take_min, take-append-drop, drop_all}
use Rattle.std.proofs.lemmas.Bool.Decides.{nat_tests}
use Rattle.std.specs.Prelude.{slice_index, nat_lt, not, ◌==◌, if◌then◌else◌, min}
use Rattle.io_ports.specs.Content.{Taken}
use Rattle.io_ports.specs.declared.feed.RecordKind.TheVariants as kinds
use Rattle.desk_laws.specs.declared.setup.Setup.{Setup}
use Rattle.desk_laws.specs.Rules.{within}
use Rattle.record_format.specs.declared.part.PartRead.{PartRead}
use Rattle.record_format.specs.declared.part.PartRead.TheVariants as parts
use Rattle.record_format.specs.declared.config.ConfigRead.{ConfigRead}
use Rattle.record_format.specs.declared.config.ConfigRead.TheVariants as reads
use Rattle.record_format.specs.declared.version.Version.{Version}
use Rattle.record_format.specs.Config.{Wrong, Fault, Rule, fault, number_at, part_of, named, guest_of, with_items, many_of, ◌>>=◌, version_at, behind_magic, head_of, behind_head, config_of}
use Rattle.record_format.specs.Parts.{Fills, Agrees, no_config}
use Rattle.record_format.specs.Readings.{Took, Spells, SpellsNothing, Reads}

-- nothing was taken yet
pub took_none : (bytes : List ℕ) (left : Option (List ℕ)) (fact : List ℕ → Type 0) → left ≡ Some bytes → fact [] → Took bytes left fact
took_none bytes left fact is holds = record { taken = []; rest = bytes; split = refl; is_left = is; holds = holds }

-- the first bytes of a room are those that were taken
pub took_front : (bytes room : List ℕ) (n : ℕ) (left : Option (List ℕ)) (fact : List ℕ → Type 0) → Taken bytes n room left → fact (take n bytes) → Took bytes left fact
took_front bytes room n left fact first holds =
    record { taken = take n bytes; rest = drop n bytes; split = sym (take-append-drop n bytes); is_left = first.left; holds = holds }

-- a part, and then another
pub took_on : (bytes : List ℕ) (mid left : Option (List ℕ)) (one two both : List ℕ → Type 0) (first : Took bytes mid one) → Took first.rest left two
    → ((xs ys : List ℕ) → one xs → two ys → both (xs ++ ys)) → Took bytes left both
took_on bytes mid left one two both first last join = record {
  taken = first.taken ++ last.taken;
  rest = last.rest;
  split = first.split ∙ ap (λ (l : List ℕ). first.taken ++ l) last.split ∙ sym (append_assoc first.taken last.taken last.rest);
  is_left = last.is_left;
  holds = join first.taken last.taken first.holds last.holds;
}

-- behind what was taken, a reading goes on as this one
abbrev pub Hands : {X Y : Type 0} → (List ℕ → Result (X × List ℕ) Wrong) → (Result (Y × List ℕ) Wrong → Result (X × List ℕ) Wrong) → (List ℕ → Result (Y × List ℕ) Wrong) → List ℕ → Type 0
Hands read step next taken = (tail : List ℕ) → read (taken ++ tail) ≡ step (next tail)

-- what goes wrong then goes wrong with the whole
pub hands_err : {X Y : Type 0} (read : List ℕ → Result (X × List ℕ) Wrong) (step : Result (Y × List ℕ) Wrong → Result (X × List ℕ) Wrong) (next : List ℕ → Result (Y × List ℕ) Wrong)
    (e : ConfigRead) (bytes : List ℕ) (mid left : Option (List ℕ))
    → ((w : Wrong) → step (Err w) ≡ Err w) → (first : Took bytes mid (Hands read step next)) → Reads next (Err e) first.rest left → Reads read (Err e) bytes left
hands_err read step next reads.Failed bytes mid left fails first last =
    took_on bytes mid left (Hands read step next) (SpellsNothing next) (SpellsNothing read) first last
    (λ xs ys one two. (two.0, one ys ∙ ap step two.1 ∙ fails two.0))
hands_err read step next (reads.Bad f) bytes mid left fails first last =
    ap read first.split ∙ first.holds first.rest ∙ ap step last ∙ fails (Fault f)
hands_err read step next (reads.Rule k) bytes mid left fails first last =
    ap read first.split ∙ first.holds first.rest ∙ ap step last ∙ fails (Rule k)
hands_err read step next reads.NoMemory bytes mid left fails first last = tt

-- what is read then is read with the whole
pub hands_ok : {X Y : Type 0} (read : List ℕ → Result (X × List ℕ) Wrong) (step : Result (Y × List ℕ) Wrong → Result (X × List ℕ) Wrong) (next : List ℕ → Result (Y × List ℕ) Wrong)
    (x : X) (y : Y) (bytes : List ℕ) (mid left : Option (List ℕ))
    → ((tail : List ℕ) → step (Ok (y, tail)) ≡ Ok (x, tail)) → (first : Took bytes mid (Hands read step next)) → Reads next (Ok y) first.rest left → Reads read (Ok x) bytes left
hands_ok read step next x y bytes mid left goes first last =
    took_on bytes mid left (Hands read step next) (Spells next y) (Spells read x) first last
    (λ xs ys one two tail. ap read (append_assoc xs ys tail) ∙ one (ys ++ tail) ∙ ap step (two tail) ∙ goes tail)

-- the same
abbrev pub same : {A : Type 0} → A → A
same x = x

-- a reading, and then another that depends on what was read
abbrev pub both : {X Y : Type 0} → (List ℕ → Result (X × List ℕ) Wrong) → (X → List ℕ → Result (Y × List ℕ) Wrong) → List ℕ → Result (Y × List ℕ) Wrong
both first next bytes = first bytes >>= λ found. next found.0 found.1

-- behind a first reading the whole goes on as the next
pub goes_on : {X Y Z : Type 0} (first : List ℕ → Result (X × List ℕ) Wrong) (next : X → List ℕ → Result (Y × List ℕ) Wrong) (step : Result (Z × List ℕ) Wrong → Result (Y × List ℕ) Wrong) (after : List ℕ → Result (Z × List ℕ) Wrong)
    (x : X) (bytes : List ℕ) (left : Option (List ℕ)) → ((tail : List ℕ) → next x tail ≡ step (after tail)) → Took bytes left (Spells first x) → Took bytes left (Hands (both first next) step after)
goes_on first next step after x bytes left is took =
    record { taken = took.taken; rest = took.rest; split = took.split; is_left = took.is_left; holds = λ tail. ap (λ r. r >>= λ found. next found.0 found.1) (took.holds tail) ∙ is tail }

-- a first reading, and what the next one answers behind it
pub then_reads : {X Y : Type 0} (first : List ℕ → Result (X × List ℕ) Wrong) (next : X → List ℕ → Result (Y × List ℕ) Wrong) (x : X) (r : Result Y ConfigRead) (bytes : List ℕ) (mid left : Option (List ℕ))
    → (took : Took bytes mid (Spells first x)) → Reads (next x) r took.rest left → Reads (both first next) r bytes left
unfolding goes_on
then_reads first next x (Ok y) bytes mid left took last =
    hands_ok (both first next) same (next x) y y bytes mid left (λ tail. refl) (goes_on first next same (next x) x bytes mid (λ tail. refl) took) last
then_reads first next x (Err e) bytes mid left took last =
    hands_err (both first next) same (next x) e bytes mid left (λ w. refl) (goes_on first next same (next x) x bytes mid (λ tail. refl) took) last

-- a first reading that goes wrong
pub stops : {X Y : Type 0} (first : List ℕ → Result (X × List ℕ) Wrong) (next : X → List ℕ → Result (Y × List ℕ) Wrong) (e : ConfigRead) (bytes : List ℕ) (left : Option (List ℕ))
    → Reads first (Err e) bytes left → Reads (both first next) (Err e) bytes left
stops first next reads.Failed bytes left none =
    record { taken = none.taken; rest = none.rest; split = none.split; is_left = none.is_left; holds = (none.holds.0, ap (λ r. r >>= λ found. next found.0 found.1) none.holds.1) }
stops first next (reads.Bad f) bytes left none = ap (λ r. r >>= λ found. next found.0 found.1) none
stops first next (reads.Rule k) bytes left none = ap (λ r. r >>= λ found. next found.0 found.1) none
stops first next reads.NoMemory bytes left none = tt

-- a first reading, behind which nothing more is read
pub done_so : {X Y : Type 0} (first : List ℕ → Result (X × List ℕ) Wrong) (next : X → List ℕ → Result (Y × List ℕ) Wrong) (x : X) (y : Y) (bytes : List ℕ) (left : Option (List ℕ))
    → ((tail : List ℕ) → next x tail ≡ Ok (y, tail)) → Took bytes left (Spells first x) → Reads (both first next) (Ok y) bytes left
done_so first next x y bytes left is took =
    record { taken = took.taken; rest = took.rest; split = took.split; is_left = took.is_left; holds = λ tail. ap (λ r. r >>= λ found. next found.0 found.1) (took.holds tail) ∙ is tail }

-- nothing has to be taken for a value
pub reads_none : {X : Type 0} (read : List ℕ → Result (X × List ℕ) Wrong) (x : X) (bytes : List ℕ) (left : Option (List ℕ))
    → ((tail : List ℕ) → read tail ≡ Ok (x, tail)) → left ≡ Some bytes → Reads read (Ok x) bytes left
reads_none read x bytes left is told = took_none bytes left (Spells read x) told is

-- a room that wasn't filled, since a read failed
pub fills_failed : (bytes room : List ℕ) (size : ℕ) (left : Option (List ℕ)) → length room ≡ size
    → (k : ℕ) × (k < size) × (k ≤ length bytes) × (left ≡ Some (drop k bytes)) → Fills (Err parts.Failed) room bytes left
fills_failed bytes room size left is part = record {
  taken = take part.0 bytes;
  rest = drop part.0 bytes;
  split = sym (take-append-drop part.0 bytes);
  is_left = part.3;
  holds = omega (arith, part.1, length-take part.0 bytes);
}

-- a room for which there are too few bytes
pub fills_short : (bytes room : List ℕ) (n size : ℕ) (left : Option (List ℕ)) → length room ≡ size → n < size → n ≡ min size (length bytes) → Taken bytes n room left
    → Fills (Err parts.Short) room bytes left
fills_short bytes room n size left is below n_is first =
    (omega arith, first.left ∙ ap Some (drop_all n bytes (omega arith)))

pub fills_whole : (bytes room : List ℕ) (n : ℕ) (left : Option (List ℕ)) → length room ≡ n → Taken bytes n room left → Fills (Ok tt) room bytes left
fills_whole bytes room n left is first =
    took_front bytes room n left (λ taken. taken ≡ room) first (sym first.room ∙ take_all n room (omega arith))

part_fails : {X : Type 0} (read : List ℕ → Result (X × List ℕ) Wrong) (part : PartRead) (room bytes : List ℕ) (left : Option (List ℕ))
    → ((xs : List ℕ) → length xs < length room → read xs ≡ Err (Fault (fault 4 kinds.Short)))
    → Fills (Err part) room bytes left → Reads read (Err (no_config part)) bytes left
part_fails read parts.Failed room bytes left short fills =
    record { taken = fills.taken; rest = fills.rest; split = fills.split; is_left = fills.is_left; holds = (Fault (fault 4 kinds.Short), short fills.taken fills.holds) }
part_fails read parts.Short room bytes left short fills = short bytes fills.0

-- a part that wasn't read
pub part_err : {X : Type 0} (read : List ℕ → Result (X × List ℕ) Wrong) (part : PartRead) (e : ConfigRead) (room bytes : List ℕ) (left : Option (List ℕ)) → e ≡ no_config part
    → ((xs : List ℕ) → length xs < length room → read xs ≡ Err (Fault (fault 4 kinds.Short)))
    → Fills (Err part) room bytes left → Reads read (Err e) bytes left
part_err read part e room bytes left is short fills =
    subst (λ (r : ConfigRead). Reads read (Err r) bytes left) (sym is) (part_fails read part room bytes left short fills)

-- a part that was read
pub part_ok : {X Y : Type 0} (read : List ℕ → Result (X × List ℕ) Wrong) (step : Result (Y × List ℕ) Wrong → Result (X × List ℕ) Wrong) (next : List ℕ → Result (Y × List ℕ) Wrong)
    (room bytes : List ℕ) (left : Option (List ℕ)) → Hands read step next room → Fills (Ok tt) room bytes left → Took bytes left (Hands read step next)
part_ok read step next room bytes left hands fills =
    record { taken = fills.taken; rest = fills.rest; split = fills.split; is_left = fills.is_left; holds = subst (Hands read step next) (sym fills.holds) hands }

pub name_short : (size : ℕ) (xs : List ℕ) → length xs < size → part_of size xs ≡ Err (Fault (fault 4 kinds.Short))
name_short size xs short = let test : nat_lt (length xs) size ≡ true = grind (arith, nat_tests) in rw test refl

name_found : (size : ℕ) (bytes : List ℕ) → size ≤ length bytes → part_of size bytes ≡ Ok (take size bytes, drop size bytes)
name_found size bytes long = let test : nat_lt (length bytes) size ≡ false = grind (arith, nat_tests) in rw test refl

pub seam : (xs ys : List ℕ) → length xs ≤ length (xs ++ ys)
seam xs ys = omega (arith, length-append xs ys)

name_seam : (name tail : List ℕ) → part_of (length name) (name ++ tail) ≡ Ok (name, tail)
name_seam name tail = name_found (length name) (name ++ tail) (seam name tail) ∙ (λ i. Ok (take-append_seam name tail i, drop-append_seam name tail i))

pub name_is : (size : ℕ) (name tail : List ℕ) → length name ≡ size → part_of size (name ++ tail) ≡ Ok (name, tail)
name_is size name tail is = ap (λ (n : ℕ). part_of n (name ++ tail)) (sym is) ∙ name_seam name tail

-- a room that was filled is the name
pub name_fills : (size : ℕ) (name room bytes : List ℕ) (left : Option (List ℕ)) → length room ≡ size → name ≡ room → Fills (Ok tt) room bytes left → Reads (part_of size) (Ok name) bytes left
name_fills size name room bytes left is same fills =
    let whole : fills.taken ≡ name = fills.holds ∙ sym same in
    record {
      taken = fills.taken;
      rest = fills.rest;
      split = fills.split;
      is_left = fills.is_left;
      holds = λ tail. ap (λ (l : List ℕ). part_of size (l ++ tail)) whole ∙ name_is size name tail (ap length same ∙ is);
    }

pub guest_short : (xs : List ℕ) → length xs < 5 → guest_of xs ≡ Err (Fault (fault 4 kinds.Short))
guest_short xs short = let test : nat_lt (length xs) 5 ≡ true = grind (arith, nat_tests) in rw test refl

pub guest_found : (bytes : List ℕ) → 5 ≤ length bytes → guest_of bytes ≡ named (number_at 0 (take 5 bytes)) (part_of (slice_index (take 5 bytes) 4) (drop 5 bytes))
guest_found bytes long = let test : nat_lt (length bytes) 5 ≡ false = grind (arith, nat_tests) in rw test refl

-- the front of a list, and what stands behind it
pub front_is : (n : ℕ) (xs ys : List ℕ) → length xs ≡ n → take n (xs ++ ys) ≡ xs
front_is n xs ys is = ap (λ (k : ℕ). take k (xs ++ ys)) (sym is) ∙ take-append_seam xs ys

pub back_is : (n : ℕ) (xs ys : List ℕ) → length xs ≡ n → drop n (xs ++ ys) ≡ ys
back_is n xs ys is = ap (λ (k : ℕ). drop k (xs ++ ys)) (sym is) ∙ drop-append_seam xs ys

-- behind the five fixed bytes stands the name
pub guest_hands : (fixed : List ℕ) (colour : ℕ) → length fixed ≡ 5 → colour ≡ number_at 0 fixed → Hands guest_of (named colour) (part_of (slice_index fixed 4)) fixed
guest_hands fixed colour is same tail =
    guest_found (fixed ++ tail) (omega (arith, is, seam fixed tail))
    ∙ (λ i. named (number_at 0 (front_is 5 fixed tail is i)) (part_of (slice_index (front_is 5 fixed tail is i) 4) (back_is 5 fixed tail is i)))
    ∙ ap (λ (k : ℕ). named k (part_of (slice_index fixed 4) tail)) (sym same)

-- what was taken spells these, and so many are still to come
abbrev pub Reaches : {X : Type 0} → (List ℕ → Result (X × List ℕ) Wrong) → ℕ → ℕ → List X → List ℕ → Type 0
Reaches one count counter found taken = (more : ℕ) → counter + more ≡ count → Hands (many_of one count) (with_items found) (many_of one more) taken

-- these, one more, and then the others
abbrev pub one_more : {X : Type 0} → (List ℕ → Result (X × List ℕ) Wrong) → List X → ℕ → Result (X × List ℕ) Wrong → Result (List X × List ℕ) Wrong
one_more one found more first = with_items found (first >>= λ next. with_items (next.0 ∷ []) (many_of one more next.1))

before : {X : Type 0} (r : Result (List X × List ℕ) Wrong) → r ≡ with_items [] r
before (Ok found) = refl
before (Err w) = refl

pub none_yet : {X : Type 0} (one : List ℕ → Result (X × List ℕ) Wrong) (count : ℕ) (found : List X) → found ≡ [] → Reaches one count 0 found []
none_yet one count found none more is tail =
    let all : more ≡ count = omega arith in
    ap (λ (n : ℕ). many_of one n tail) (sym all) ∙ before (many_of one more tail) ∙ ap (λ l. with_items l (many_of one more tail)) (sym none)

-- the next one is due
pub next_one : {X : Type 0} (one : List ℕ → Result (X × List ℕ) Wrong) (count counter more : ℕ) (found : List X) (bytes : List ℕ) (left : Option (List ℕ)) → counter + suc more ≡ count
    → Took bytes left (Reaches one count counter found) → Took bytes left (Hands (many_of one count) (one_more one found more) one)
next_one one count counter more found bytes left is took =
    record { taken = took.taken; rest = took.rest; split = took.split; is_left = took.is_left; holds = took.holds (suc more) is }

pub with_items-append : {X : Type 0} (front back : List X) (r : Result (List X × List ℕ) Wrong) → with_items front (with_items back r) ≡ with_items (front ++ back) r
with_items-append front back (Ok found) = ap (λ l. Ok (l, found.1)) (sym (append_assoc front back found.0))
with_items-append front back (Err w) = refl

pub more_read : {X : Type 0} (one : List ℕ → Result (X × List ℕ) Wrong) (count counter : ℕ) (found all : List X) (x : X) (bytes : List ℕ) (mid left : Option (List ℕ))
    → all ≡ found ++ x ∷ [] → (first : Took bytes mid (Reaches one count counter found)) → Reads one (Ok x) first.rest left → Took bytes left (Reaches one count (counter + 1) all)
more_read one count counter found all x bytes mid left is first last =
    took_on bytes mid left (Reaches one count counter found) (Spells one x) (Reaches one count (counter + 1) all) first last
    (λ xs ys so_far two more so_many tail.
    let next : counter + suc more ≡ count = omega arith in
    ap (many_of one count) (append_assoc xs ys tail) ∙ so_far (suc more) next (ys ++ tail) ∙ ap (one_more one found more) (two tail)
    ∙ with_items-append found (x ∷ []) (many_of one more tail) ∙ ap (λ l. with_items l (many_of one more tail)) (sym is))

pub all_read : {X : Type 0} (one : List ℕ → Result (X × List ℕ) Wrong) (count counter : ℕ) (found : List X) (bytes : List ℕ) (left : Option (List ℕ)) → counter ≡ count
    → Took bytes left (Reaches one count counter found) → Reads (many_of one count) (Ok found) bytes left
all_read one count counter found bytes left is took =
    let none : counter + 0 ≡ count = omega arith in
    record {
      taken = took.taken;
      rest = took.rest;
      split = took.split;
      is_left = took.is_left;
      holds = λ tail. took.holds 0 none tail ∙ ap (λ l. Ok (l, tail)) (append-nil found);
    }

-- the front of a room that was filled as far as there were bytes
pub head_is : (bytes room : List ℕ) (n size : ℕ) → n ≡ min size (length bytes) → take n room ≡ take n bytes → take n room ≡ take size bytes
head_is bytes room n size n_is same = same ∙ ap (λ (k : ℕ). take k bytes) n_is ∙ take_min size bytes

-- what goes wrong behind a test goes wrong with it
else_wrong : {A : Type 0} (b : Bool) (p : Wrong) (r : Result A Wrong) → (w : Wrong) × (r ≡ Err w) → (w : Wrong) × ((if b then Err p else r) ≡ Err w)
else_wrong true p r wrong = (p, refl)
else_wrong false p r wrong = wrong

then_wrong : {A : Type 0} (b : Bool) (p : Wrong) (r : Result A Wrong) → b ≡ true → (w : Wrong) × ((if b then Err p else r) ≡ Err w)
then_wrong true p r is = (p, refl)
then_wrong false p r is = absurd (cc)

-- a head that is cut is wrong
behind_short : (head : List ℕ) (found : Option Version) → length head < 34 → (w : Wrong) × (behind_magic head found ≡ Err w)
behind_short head None short = (Fault (fault 0 kinds.Magic), refl)
behind_short head (Some version) short =
    let test : nat_lt (length head) 34 ≡ true = grind (arith, nat_tests) in
    let right = if within 1 16 (slice_index head 33) then Ok version else Err (Rule 1) in
    let behind = if nat_lt (length head) 34 then Err (Fault (fault 4 kinds.Short)) else right in
    else_wrong (nat_lt (length head) 5) (Fault (fault 4 kinds.Short)) (if not (slice_index head 4 == 1) then Err (Fault (fault 4 kinds.Kind)) else behind)
    (else_wrong (not (slice_index head 4 == 1)) (Fault (fault 4 kinds.Kind)) behind (then_wrong (nat_lt (length head) 34) (Fault (fault 4 kinds.Short)) right test))

head_short : (head : List ℕ) → length head < 34 → (w : Wrong) × (head_of head ≡ Err w)
head_short head short =
    else_wrong (nat_lt (length head) 4) (Fault (fault 0 kinds.Short)) (behind_magic head (version_at (take 4 head))) (behind_short head (version_at (take 4 head)) short)

-- what stands behind a head
abbrev behind : List ℕ → Result Version Wrong → Result (Setup × List ℕ) Wrong
behind bytes found = found >>= λ version. behind_head (take 34 bytes) version (drop 34 bytes)

-- fewer than 34 bytes are no configuration
pub config_short : (xs : List ℕ) → length xs < 34 → SpellsNothing config_of xs
config_short xs short =
    let wrong = head_short xs short in
    let front : take 34 xs ≡ xs = take_all 34 xs (omega arith) in
    (wrong.0, ap (behind xs) (ap head_of front ∙ wrong.1))

pub config_unread : (bytes : List ℕ) (left : Option (List ℕ)) → (k : ℕ) × (k < 34) × (k ≤ length bytes) × (left ≡ Some (drop k bytes)) → Reads config_of (Err reads.Failed) bytes left
config_unread bytes left part =
    record { taken = take part.0 bytes; rest = drop part.0 bytes; split = sym (take-append-drop part.0 bytes); is_left = part.3; holds = config_short (take part.0 bytes) (omega (arith, length-take part.0 bytes, part.1)) }

pub config_wrong : (e : ConfigRead) (after : Option (List ℕ)) (bytes head : List ℕ) → head ≡ take 34 bytes → Agrees (Err e) (head_of head) → Reads config_of (Err e) bytes after
config_wrong reads.Failed after bytes head is said = absurd said
config_wrong (reads.Bad f) after bytes head is said = ap (behind bytes) (ap head_of (sym is) ∙ said)
config_wrong (reads.Rule k) after bytes head is said = ap (behind bytes) (ap head_of (sym is) ∙ said)
config_wrong reads.NoMemory after bytes head is said = absurd said

-- behind a head that is right stands what its version has there
pub config_hands : (head : List ℕ) (version : Version) → length head ≡ 34 → head_of head ≡ Ok version → Hands config_of same (behind_head head version) head
config_hands head version is right tail =
    (λ i. head_of (front_is 34 head tail is i) >>= λ v. behind_head (front_is 34 head tail is i) v (back_is 34 head tail is i))
    ∙ ap (λ (r : Result Version Wrong). r >>= λ v. behind_head head v tail) right

pub config_head : (bytes room : List ℕ) (n : ℕ) (version : Version) (left : Option (List ℕ)) → n ≤ 34 → 34 ≤ length (take n room) → Taken bytes n room left → head_of (take n room) ≡ Ok version
    → Took bytes left (Hands config_of same (behind_head (take n room) version))
config_head bytes room n version left most long first right =
    let size : length (take n room) ≡ 34 = omega (arith, length-take n room) in
    took_front bytes room n left _ first
    (subst (Hands config_of same (behind_head (take n room) version)) first.room (config_hands (take n room) version size right))

-- a head that is right, and what is read behind it
pub config_read : (r : Result Setup ConfigRead) (bytes room : List ℕ) (n : ℕ) (version : Version) (mid left : Option (List ℕ)) (first : Took bytes mid (Hands config_of same (behind_head (take n room) version)))
    → Reads (behind_head (take n room) version) r first.rest left → Reads config_of r bytes left
config_read (Ok setup) bytes room n version mid left first last =
    hands_ok config_of same (behind_head (take n room) version) setup setup bytes mid left (λ tail. refl) first last
config_read (Err e) bytes room n version mid left first last =
    hands_err config_of same (behind_head (take n room) version) e bytes mid left (λ w. refl) first last
