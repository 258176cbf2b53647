-- What is read of a setup was spelled.
use Rattle.std.proofs.Common.{◌≡◌, ℕ, ◌+◌, ◌≤◌, List, [], ◌∷◌, ◌++◌, length, take, drop, Bool, true, false, Option, None, Some, Result, Ok, Err, refl, sym, ap, ◌∙◌, arith, append_assoc, length-append, length-take, length-drop}
use Rattle.std.proofs.lemmas.Bool.Decides.{nat_tests}
use Rattle.std.proofs.lemmas.Slice.Eq.{bytes_eq-Decides}
use Rattle.std.proofs.lemmas.List.{take-append-drop, drop_all}
use Rattle.std.specs.Prelude.{slice_index, nat_lt, not, ◌==◌, if◌then◌else◌}
use Rattle.std.specs.Str.{bytes_eq}
use Rattle.std.specs.List.{flat_map, sum_by}
use Rattle.io_ports.specs.declared.feed.RecordKind.TheVariants as kinds
use Rattle.gui_wire.specs.Words.{word, words}
use Rattle.gui_wire.proofs.WordLemmas.{AreBytes, AreBytes-take, AreBytes-drop}
use Rattle.desk_laws.specs.declared.setup.GuestSetup.{GuestSetup}
use Rattle.desk_laws.specs.declared.setup.Setup.{Setup}
use Rattle.desk_laws.specs.Rules.{within, first_broken}
use Rattle.gui_num.specs.declared.Rect.{Rect}
use Rattle.record_format.specs.declared.version.Version.{Version}
use Rattle.record_format.specs.declared.version.Version.TheVariants.{First, Second, Third}
use Rattle.record_format.specs.declared.clipboard.Clipboard.{Clipboard}
use Rattle.record_format.specs.Config.{Wrong, Fault, Rule, fault, magic, number_at, named, part_of, guest_of, guests_of, ◌>>=◌, version_at, behind_magic, head_of, outputs_in, clipboard_in, plane, version_of, same_version, setup_wrong, setup_at, kept, joined, behind_head, config_of, config_len, len_in, outputs_len, clipboard_len, guest_spelling, head_spelling, outputs_spelling, clipboard_spelling, spelling_in, config_spelling}
use Rattle.record_format.proofs.ManyLemmas.{bind_was, else_was, enough, part_was, rest_are, many_were, many_take}
use Rattle.record_format.proofs.LaterLemmas.{outputs_were, clipboard_was, outputs_take, clipboard_takes}
use Rattle.record_format.proofs.FieldLemmas.{byte_on, word_on}

-- ---- a guest

named_was : (colour : ℕ) (r : Result (List ℕ × List ℕ) Wrong) (g : GuestSetup) (rest : List ℕ) → named colour r ≡ Ok (g, rest) → (r ≡ Ok (g.name, rest)) × (g.colour.0 ≡ colour)
named_was colour (Ok found) g rest is =
    let same : ◌≡◌ {A = GuestSetup × List ℕ} (record { colour = record { 0 = colour }; name = found.0 }, found.1) (g, rest) = cc in
    (λ i. Ok ((ap (λ (p : GuestSetup × List ℕ). p.0.name) same) i, (ap (λ (p : GuestSetup × List ℕ). p.1) same) i), sym (ap (λ (p : GuestSetup × List ℕ). p.0.colour.0) same))
named_was colour (Err w) g rest is = absurd (cc)

-- five bytes are a colour and a length
five_are : (fixed : List ℕ) → AreBytes fixed → length fixed ≡ 5 → fixed ≡ word (number_at 0 fixed) ++ slice_index fixed 4 ∷ []
five_are fixed h is =
    word_on 0 fixed h (omega arith)
    ∙ ap (λ (l : List ℕ). word (number_at 0 fixed) ++ l) (byte_on 4 fixed (omega arith) ∙ ap (λ (l : List ℕ). slice_index fixed 4 ∷ l) (drop_all 5 fixed (omega arith)))

guest_was : (bytes : List ℕ) (g : GuestSetup) (rest : List ℕ) → AreBytes bytes → guest_of bytes ≡ Ok (g, rest) → bytes ≡ guest_spelling g ++ rest
unfolding guest_spelling
guest_was bytes g rest h is =
    let fixed = take 5 bytes in
    let found = else_was (nat_lt (length bytes) 5) (Fault (fault 4 kinds.Short)) (named (number_at 0 fixed) (part_of (slice_index fixed 4) (drop 5 bytes))) (g, rest) is in
    let long = enough (length bytes) 5 found.0 in
    let guest = named_was (number_at 0 fixed) (part_of (slice_index fixed 4) (drop 5 bytes)) g rest found.1 in
    let name = part_was (slice_index fixed 4) (drop 5 bytes) g.name rest guest.0 in
    let five : length fixed ≡ 5 = omega (arith, long, length-take 5 bytes) in
    let spelled : fixed ≡ word g.colour.0 ++ length g.name ∷ [] = five_are fixed (AreBytes-take 5 bytes h) five ∙ (λ i. word (sym guest.1 i) ++ sym name.1 i ∷ []) in
    sym (take-append-drop 5 bytes) ∙ (λ i. spelled i ++ name.0 i)

-- ---- the first 34 bytes

-- what a head of a version has, in which nothing is wrong
record HeadIsRight (version : Version) (head : List ℕ) : Type 0 where
  begins : take 4 head ≡ magic version
  kind : slice_index head 4 ≡ 1
  long : 34 ≤ length head

if_ok : {A : Type 0} (b : Bool) (w : Wrong) (r : Result A Wrong) (x : A) → (if b then r else Err w) ≡ Ok x → r ≡ Ok x
if_ok true w r x is = is
if_ok false w r x is = absurd (cc)

yes : (b : Bool) → not b ≡ false → b ≡ true
yes true is = refl
yes false is = absurd (cc)

same_number : (a b : ℕ) → (a == b) ≡ true → a ≡ b
same_number a b is = grind (arith, nat_tests, is)

version_was : (four : List ℕ) (version : Version) → version_at four ≡ Some version → four ≡ magic version
version_was four version is =
    found (bytes_eq four (magic First)) (bytes_eq four (magic Second)) (bytes_eq four (magic Third)) version
    (bytes_eq-Decides four (magic First)).0 (bytes_eq-Decides four (magic Second)).0 (bytes_eq-Decides four (magic Third)).0 is
  where
    found : (a b d : Bool) (v : Version) → (a ≡ true → four ≡ magic First) → (b ≡ true → four ≡ magic Second) → (d ≡ true → four ≡ magic Third)
        → (if a then Some First else if b then Some Second else if d then Some Third else None) ≡ Some v → four ≡ magic v
    found true b d v one two three e = let same : First ≡ v = cc in one refl ∙ ap magic same
    found false true d v one two three e = let same : Second ≡ v = cc in two refl ∙ ap magic same
    found false false true v one two three e = let same : Third ≡ v = cc in three refl ∙ ap magic same
    found false false false v one two three e = absurd (cc)

-- behind four bytes of a version
behind_magic_was : (head : List ℕ) (found : Option Version) (version : Version) → behind_magic head found ≡ Ok version
    → (found ≡ Some version) × (slice_index head 4 ≡ 1) × (34 ≤ length head)
behind_magic_was head None version is = absurd (cc)
behind_magic_was head (Some told) version is =
    let right = if within 1 16 (slice_index head 33) then Ok told else Err (Rule 1) in
    let long = if nat_lt (length head) 34 then Err (Fault (fault 4 kinds.Short)) else right in
    let kind = if not (slice_index head 4 == 1) then Err (Fault (fault 4 kinds.Kind)) else long in
    let a = else_was (nat_lt (length head) 5) (Fault (fault 4 kinds.Short)) kind version is in
    let b = else_was (not (slice_index head 4 == 1)) (Fault (fault 4 kinds.Kind)) long version a.1 in
    let d = else_was (nat_lt (length head) 34) (Fault (fault 4 kinds.Short)) right version b.1 in
    let e : ◌≡◌ {A = Result Version Wrong} (Ok told) (Ok version) = if_ok (within 1 16 (slice_index head 33)) (Rule 1) (Ok told) version d.1 in
    let same : told ≡ version = cc in
    (ap Some same, same_number (slice_index head 4) 1 (yes (slice_index head 4 == 1) b.0), enough (length head) 34 d.0)

head_was : (head : List ℕ) (version : Version) → head_of head ≡ Ok version → HeadIsRight version head
head_was head version is =
    let told = else_was (nat_lt (length head) 4) (Fault (fault 0 kinds.Short)) (behind_magic head (version_at (take 4 head))) version is in
    let was = behind_magic_was head (version_at (take 4 head)) version told.1 in
    record { begins = version_was (take 4 head) version was.0; kind = was.1; long = was.2 }

head_spelled : (version : Version) (head : List ℕ) (s : Setup) → AreBytes head → length head ≡ 34 → HeadIsRight version head → length s.guests ≡ slice_index head 33
    → words (s.width ∷ s.height ∷ s.border ∷ s.pages ∷ s.tiles ∷ s.percent ∷ s.background.0 ∷ [])
    ≡ words (number_at 5 head ∷ number_at 9 head ∷ number_at 13 head ∷ number_at 17 head ∷ number_at 21 head ∷ number_at 25 head ∷ number_at 29 head ∷ []) → head ≡ head_spelling version s
unfolding head_spelling
head_spelled version head s h size right so_many numbers =
    let last : drop 33 head ≡ length s.guests ∷ [] = byte_on 33 head (omega arith) ∙ (λ i. sym so_many i ∷ drop_all 34 head (omega arith) i) in
    let on = λ (p : ℕ) (l : List ℕ). word (number_at p head) ++ l in
    let read : drop 5 head ≡ words (number_at 5 head ∷ number_at 9 head ∷ number_at 13 head ∷ number_at 17 head ∷ number_at 21 head ∷ number_at 25 head ∷ number_at 29 head ∷ []) ++ length s.guests ∷ [] =
    word_on 5 head h (omega arith) ∙ ap (on 5) (word_on 9 head h (omega arith) ∙ ap (on 9) (word_on 13 head h (omega arith) ∙ ap (on 13) (word_on 17 head h (omega arith)
    ∙ ap (on 17) (word_on 21 head h (omega arith) ∙ ap (on 21) (word_on 25 head h (omega arith) ∙ ap (on 25) (word_on 29 head h (omega arith) ∙ ap (on 29) last)))))) in
    let rest : drop 5 head ≡ words (s.width ∷ s.height ∷ s.border ∷ s.pages ∷ s.tiles ∷ s.percent ∷ s.background.0 ∷ []) ++ length s.guests ∷ [] =
    read ∙ ap (λ (l : List ℕ). l ++ length s.guests ∷ []) (sym numbers) in
    sym (take-append-drop 4 head) ∙ (λ i. right.begins i ++ byte_on 4 head (omega arith) i) ∙ (λ i. magic version ++ right.kind i ∷ drop 5 head)
    ∙ ap (λ (l : List ℕ). magic version ++ 1 ∷ l) rest

-- ---- a setup

kept_was : (s setup : Setup) (behind rest : List ℕ) (wrong : Option Wrong) → kept s behind wrong ≡ Ok (setup, rest) → (wrong ≡ None) × (s ≡ setup) × (behind ≡ rest)
kept_was s setup behind rest None is =
    let same : ◌≡◌ {A = Setup × List ℕ} (s, behind) (setup, rest) = cc in
    (refl, ap (λ (p : Setup × List ℕ). p.0) same, ap (λ (p : Setup × List ℕ). p.1) same)
kept_was s setup behind rest (Some k) is = absurd (cc)

same_is : (one other : Version) → same_version one other ≡ true → one ≡ other
same_is First First is = refl
same_is First Second is = absurd (cc)
same_is First Third is = absurd (cc)
same_is Second First is = absurd (cc)
same_is Second Second is = refl
same_is Second Third is = absurd (cc)
same_is Third First is = absurd (cc)
same_is Third Second is = absurd (cc)
same_is Third Third is = refl

if_none : (b : Bool) (w : Wrong) → (if b then None else Some w) ≡ None → b ≡ true
if_none true w is = refl
if_none false w is = absurd (cc)

-- a setup with which nothing is wrong breaks no rule, and stands in the lowest version that has it
right_was : (version : Version) (s : Setup) (broken : Option ℕ) → setup_wrong version s broken ≡ None → (broken ≡ None) × (version ≡ version_of s)
right_was version s (Some k) is = absurd (cc)
right_was version s None is = (refl, same_is version (version_of s) (if_none (same_version version (version_of s)) (Fault (fault 4 kinds.Range)) is))

-- what stands behind a head, part by part
record BehindWas (head : List ℕ) (version : Version) (bytes : List ℕ) (setup : Setup) (rest : List ℕ) : Type 0 where
  at_guests : List ℕ
  at_outputs : List ℕ
  guests : guests_of (slice_index head 33) bytes ≡ Ok (setup.guests, at_guests)
  outputs : outputs_in version (plane (number_at 5 head) (number_at 9 head)) at_guests ≡ Ok (setup.outputs, at_outputs)
  clipboard : clipboard_in version at_outputs ≡ Ok (record { clip = setup.clip; denied = setup.denied }, rest)
  numbers : words (setup.width ∷ setup.height ∷ setup.border ∷ setup.pages ∷ setup.tiles ∷ setup.percent ∷ setup.background.0 ∷ [])
      ≡ words (number_at 5 head ∷ number_at 9 head ∷ number_at 13 head ∷ number_at 17 head ∷ number_at 21 head ∷ number_at 25 head ∷ number_at 29 head ∷ [])
  lowest : version ≡ version_of setup
  keeps_rules : first_broken setup ≡ None

behind_was : (head : List ℕ) (version : Version) (bytes : List ℕ) (setup : Setup) (rest : List ℕ) → behind_head head version bytes ≡ Ok (setup, rest) → BehindWas head version bytes setup rest
behind_was head version bytes setup rest is =
    let whole = plane (number_at 5 head) (number_at 9 head) in
    let last = λ (gs : List GuestSetup) (os : List Rect) (c : Clipboard × List ℕ). joined version head gs os c.0 c.1 in
    let mid = λ (gs : List GuestSetup) (o : List Rect × List ℕ). clipboard_in version o.1 >>= last gs o.0 in
    let a = bind_was (guests_of (slice_index head 33) bytes) (λ g. (outputs_in version whole g.1 >>= mid g.0)) (setup, rest) is in
    let g = a.0 in
    let b = bind_was (outputs_in version whole g.1) (mid g.0) (setup, rest) a.2 in
    let o = b.0 in
    let d = bind_was (clipboard_in version o.1) (last g.0 o.0) (setup, rest) b.2 in
    let c = d.0 in
    let made = setup_at head g.0 o.0 c.0 in
    let all = kept_was made setup c.1 rest (setup_wrong version made (first_broken made)) d.2 in
    let right = right_was version made (first_broken made) all.0 in
    let same = all.1 in
    record {
      at_guests = g.1;
      at_outputs = o.1;
      guests = a.1 ∙ ap (λ (s : Setup). Ok (s.guests, g.1)) same;
      outputs = b.1 ∙ ap (λ (s : Setup). Ok (s.outputs, o.1)) same;
      clipboard = d.1 ∙ (λ i. Ok (record { clip = (same i).clip; denied = (same i).denied }, all.2 i));
      numbers = ap (λ (s : Setup). words (s.width ∷ s.height ∷ s.border ∷ s.pages ∷ s.tiles ∷ s.percent ∷ s.background.0 ∷ [])) (sym same);
      lowest = right.1 ∙ ap version_of same;
      keeps_rules = ap first_broken (sym same) ∙ right.0;
    }

-- a head that was read, and what stands behind it
record ConfigWas (bytes : List ℕ) (setup : Setup) (rest : List ℕ) : Type 0 where
  version : Version
  head : HeadIsRight version (take 34 bytes)
  behind : BehindWas (take 34 bytes) version (drop 34 bytes) setup rest

config_parts : (bytes : List ℕ) (setup : Setup) (rest : List ℕ) → config_of bytes ≡ Ok (setup, rest) → ConfigWas bytes setup rest
config_parts bytes setup rest is =
    let bound = bind_was (head_of (take 34 bytes)) (λ version. behind_head (take 34 bytes) version (drop 34 bytes)) (setup, rest) is in
    record { version = bound.0; head = head_was (take 34 bytes) bound.0 bound.1; behind = behind_was (take 34 bytes) bound.0 (drop 34 bytes) setup rest bound.2 }

-- a setup that is read was spelled, and breaks no rule
pub config_was : (bytes : List ℕ) (setup : Setup) (rest : List ℕ) → AreBytes bytes → config_of bytes ≡ Ok (setup, rest) → (bytes ≡ config_spelling setup ++ rest) × (first_broken setup ≡ None)
unfolding config_spelling
config_was bytes setup rest h is =
    let head = take 34 bytes in
    let was = config_parts bytes setup rest is in
    let behind = was.behind in
    let size : length head ≡ 34 = omega (arith, was.head.long, length-take 34 bytes) in
    let all = AreBytes-drop 34 bytes h in
    let guests = many_were guest_of guest_spelling (λ b g r a e. guest_was b g r a e) (slice_index head 33) (drop 34 bytes) setup.guests behind.at_guests all behind.guests in
    let at_guests = rest_are (flat_map guest_spelling setup.guests) behind.at_guests (drop 34 bytes) guests.0 all in
    let outputs = outputs_were was.version (plane (number_at 5 head) (number_at 9 head)) behind.at_guests setup.outputs behind.at_outputs at_guests behind.outputs in
    let at_outputs = rest_are (outputs_spelling was.version setup.outputs) behind.at_outputs behind.at_guests outputs at_guests in
    let clipboard = clipboard_was was.version behind.at_outputs (record { clip = setup.clip; denied = setup.denied }) rest at_outputs behind.clipboard in
    let first = head_spelled was.version head setup (AreBytes-take 34 bytes h) size was.head guests.1 behind.numbers in
    let front = head_spelling was.version setup in
    let gs = flat_map guest_spelling setup.guests in
    let os = outputs_spelling was.version setup.outputs in
    let cs = clipboard_spelling was.version setup.clip setup.denied in (
      sym (take-append-drop 34 bytes) ∙ (λ i. first i ++ guests.0 i) ∙ ap (λ (l : List ℕ). front ++ (gs ++ l)) (outputs ∙ ap (λ (l : List ℕ). os ++ l) clipboard ∙ sym (append_assoc os cs rest))
          ∙ sym (append_assoc front gs ((os ++ cs) ++ rest)) ∙ sym (append_assoc (front ++ gs) (os ++ cs) rest)
          ∙ ap (λ (v : Version). spelling_in v setup ++ rest) behind.lowest,
      behind.keeps_rules,
    )

-- ---- how many bytes a setup takes, whatever bytes they are

guest_takes : (bytes : List ℕ) (g : GuestSetup) (rest : List ℕ) → guest_of bytes ≡ Ok (g, rest) → length bytes ≡ (5 + length g.name) + length rest
guest_takes bytes g rest is =
    let found = else_was (nat_lt (length bytes) 5) (Fault (fault 4 kinds.Short)) (named (number_at 0 (take 5 bytes)) (part_of (slice_index (take 5 bytes) 4) (drop 5 bytes))) (g, rest) is in
    let long = enough (length bytes) 5 found.0 in
    let guest = named_was (number_at 0 (take 5 bytes)) (part_of (slice_index (take 5 bytes) 4) (drop 5 bytes)) g rest found.1 in
    let name = part_was (slice_index (take 5 bytes) 4) (drop 5 bytes) g.name rest guest.0 in
    let behind : length (drop 5 bytes) ≡ length g.name + length rest = ap length name.0 ∙ length-append g.name rest in
    omega (arith, behind, long, length-drop 5 bytes)

-- a setup that is read leaves all but as many bytes as it takes
pub config_takes : (bytes : List ℕ) (setup : Setup) (rest : List ℕ) → config_of bytes ≡ Ok (setup, rest) → length bytes ≡ config_len setup + length rest
config_takes bytes setup rest is =
    let was = config_parts bytes setup rest is in
    let behind = was.behind in
    let v = was.version in
    let size = λ (g : GuestSetup). 5 + length g.name in
    let guests : length (drop 34 bytes) ≡ sum_by size setup.guests + length behind.at_guests =
    many_take guest_of size guest_takes (slice_index (take 34 bytes) 33) (drop 34 bytes) setup.guests behind.at_guests behind.guests in
    let outputs : length behind.at_guests ≡ outputs_len v (length setup.outputs) + length behind.at_outputs =
    outputs_take v (plane (number_at 5 (take 34 bytes)) (number_at 9 (take 34 bytes))) behind.at_guests setup.outputs behind.at_outputs behind.outputs in
    let clipboard : length behind.at_outputs ≡ clipboard_len v (length setup.denied) + length rest =
    clipboard_takes v behind.at_outputs (record { clip = setup.clip; denied = setup.denied }) rest behind.clipboard in
    let all : length bytes ≡ len_in v setup + length rest =
    omega (arith, guests, outputs, clipboard, was.head.long, length-take 34 bytes, length-drop 34 bytes) in
    all ∙ ap (λ (w : Version). len_in w setup + length rest) behind.lowest
