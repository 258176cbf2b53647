-- What stands behind the guests, both ways: the outputs and the clipboard, by the record's version.
use Rattle.std.proofs.Common.{◌≡◌, ℕ, ◌+◌, ◌*◌, ◌<◌, ◌≤◌, ◌^◌, List, [], ◌∷◌, ◌++◌, length, Bool, true, false, Result, Ok, Err, ℤ, pos, refl, sym, ap, ◌∙◌, arith, w32, append-nil, length-append}
use Rattle.std.proofs.lemmas.Int.{ints}
use Rattle.std.proofs.lemmas.Bool.{and_parts}
use Rattle.std.proofs.lemmas.Bool.Decides.{nat_tests, Decides-int_eq}
use Rattle.std.proofs.lemmas.List.{drop_all}
use Rattle.std.specs.Prelude.{slice_index, FitsSigned, ◌==◌, ◌&&◌, nat_le, int_le, ◌+ℤ◌, if◌then◌else◌}
use Rattle.std.specs.Ordering.{int_eq}
use Rattle.std.specs.List.{flat_map, list_all, sum_by}
use Rattle.gui_num.specs.declared.Rect.{Rect}
use Rattle.gui_num.specs.Rects.{right, bottom}
use Rattle.desk_laws.specs.Outputs.{lies_in}
use Rattle.gui_wire.specs.Words.{word, word_at}
use Rattle.gui_wire.proofs.WordLemmas.{AreBytes, word_at-word}
use Rattle.desk_laws.specs.declared.setup.Pair.{Pair}
use Rattle.desk_laws.specs.declared.setup.Setup.{Setup}
use Rattle.desk_laws.specs.Rules.{within, is_output, Fits}
use Rattle.record_format.specs.declared.version.Version.{Version}
use Rattle.record_format.specs.declared.version.Version.TheVariants.{First, Second, Third}
use Rattle.record_format.specs.declared.clipboard.Clipboard.{Clipboard}
use Rattle.record_format.specs.ItemSpellings.{signed_word}
use Rattle.record_format.specs.Config.{Wrong, Rule, number_at, signed_at, part_of, many_of, ◌>>=◌, rect_at, output_of, counted_outputs, outputs_of, outputs_in, pair_of, with_pairs, clipboard_of, plain_clipboard, clipboard_in, plane, is_plane, is_one, no_pair, version_of, outputs_len, clipboard_len, output_spelling, outputs_spelling, pair_spelling, clipboard_spelling}
use Rattle.record_format.proofs.FieldLemmas.{byte_on, word_on, signed_on}
use Rattle.record_format.proofs.ItemSpellingLemmas.{signed_back}
use Rattle.record_format.proofs.ReaderLemmas.{name_is}
use Rattle.record_format.proofs.ManyLemmas.{many_back, bind_was, part_was, rest_are, front_are, many_were, many_take, length-many, sixteens, twos}

-- ---- which setups a version has

plane_was : (w h : ℕ) (o : Rect) → is_plane w h o ≡ true → o ≡ plane w h
plane_was w h o is =
    let all = and_parts (int_eq o.x (pos 0) && int_eq o.y (pos 0)) (o.w == w && o.h == h) is in
    let corner = and_parts (int_eq o.x (pos 0)) (int_eq o.y (pos 0)) all.0 in
    let x : o.x ≡ pos 0 = (Decides-int_eq o.x (pos 0)).0 corner.0 in
    let y : o.y ≡ pos 0 = (Decides-int_eq o.y (pos 0)).0 corner.1 in
    let wide : o.w ≡ w = grind (arith, nat_tests, all.1) in
    let high : o.h ≡ h = grind (arith, nat_tests, all.1) in
    λ i. record { x = x i; y = y i; w = wide i; h = high i }

one_was : (w h : ℕ) (outputs : List Rect) → is_one w h outputs ≡ true → outputs ≡ plane w h ∷ []
one_was w h [] is = absurd (cc)
one_was w h (o ∷ []) is = ap (λ (p : Rect). p ∷ []) (plane_was w h o is)
one_was w h (o ∷ p ∷ outputs) is = absurd (cc)

none_was : (denied : List Pair) → no_pair denied ≡ true → denied ≡ []
none_was [] is = refl
none_was (pair ∷ denied) is = absurd (cc)

chosen_first : (a b : Bool) → ◌≡◌ {A = Version} (if a then (if b then First else Second) else Third) First → (a ≡ true) × (b ≡ true)
chosen_first true true is = (refl, refl)
chosen_first true false is = absurd (cc)
chosen_first false b is = absurd (cc)

chosen_second : (a b : Bool) → ◌≡◌ {A = Version} (if a then (if b then First else Second) else Third) Second → a ≡ true
chosen_second true b is = refl
chosen_second false b is = absurd (cc)

-- the clipboard that the first two versions have
plain_was : (s : Setup) → (s.clip == 1 && no_pair s.denied) ≡ true → plain_clipboard ≡ record { clip = s.clip; denied = s.denied }
plain_was s is =
    let parts = and_parts (s.clip == 1) (no_pair s.denied) is in
    let one : s.clip ≡ 1 = grind (arith, nat_tests, parts.0) in
    let none = none_was s.denied parts.1 in
    λ i. record { clip = sym one i; denied = sym none i }

-- ---- what is spelled is read again

number_within : (least most n : ℕ) → least ≤ n → n ≤ most → within least most n ≡ true
number_within least most n some few = grind (arith, nat_tests, some, few)

-- what is known of an output of a plane
record IsIn (o : Rect) : Type 0 where
  x : FitsSigned w32 o.x
  y : FitsSigned w32 o.y
  w : o.w < 2 ^ 32
  h : o.h < 2 ^ 32

side_fits : (x : ℤ) (w limit : ℕ) → limit ≤ 8192 → int_le (pos 0) x ≡ true → int_le (x +ℤ pos w) (pos 0 +ℤ pos limit) ≡ true → FitsSigned w32 x
side_fits x w limit most low high = grind (arith, ints, most, low, high)

side_small : (x : ℤ) (w limit : ℕ) → limit ≤ 8192 → int_le (pos 0) x ≡ true → int_le (x +ℤ pos w) (pos 0 +ℤ pos limit) ≡ true → w ≤ 8192
side_small x w limit most low high = grind (arith, ints, most, low, high)

is_in : (w h : ℕ) (o : Rect) → w ≤ 8192 → h ≤ 8192 → is_output w h o ≡ true → IsIn o
is_in w h o wide high is =
    let all = and_parts (nat_le 1 o.w && nat_le 1 o.h) (lies_in (plane w h) o) is in
    let sides = and_parts (int_le (pos 0) o.x && int_le (pos 0) o.y) (int_le (right o) (right (plane w h)) && int_le (bottom o) (bottom (plane w h))) all.1 in
    let low = and_parts (int_le (pos 0) o.x) (int_le (pos 0) o.y) sides.0 in
    let far = and_parts (int_le (right o) (right (plane w h))) (int_le (bottom o) (bottom (plane w h))) sides.1 in
    let ow : o.w ≤ 8192 = side_small o.x o.w w wide low.0 far.0 in
    let oh : o.h ≤ 8192 = side_small o.y o.h h high low.1 far.1 in
    record { x = side_fits o.x o.w w wide low.0 far.0; y = side_fits o.y o.h h high low.1 far.1; w = omega (arith, ow); h = omega (arith, oh) }

output_back : (o : Rect) (rest : List ℕ) → IsIn o → output_of (output_spelling o ++ rest) ≡ Ok (o, rest)
unfolding output_spelling
output_back o rest fits =
    let a : signed_at 0 (output_spelling o) ≡ o.x = signed_back o.x (signed_word o.y ++ word o.w ++ word o.h) fits.x in
    let b : signed_at 4 (output_spelling o) ≡ o.y = signed_back o.y (word o.w ++ word o.h) fits.y in
    let c : number_at 8 (output_spelling o) ≡ o.w = word_at-word o.w (word o.h) fits.w in
    let d : number_at 12 (output_spelling o) ≡ o.h = ap (word_at 0) (sym (append-nil (word o.h))) ∙ word_at-word o.h [] fits.h in
    ap (λ r. r >>= λ fixed. Ok (rect_at fixed.0, fixed.1)) (name_is 16 (output_spelling o) rest refl)
    ∙ (λ i. Ok (record { x = a i; y = b i; w = c i; h = d i }, rest))

listed_back : (w h : ℕ) (outputs : List Rect) (tail : List ℕ) → w ≤ 8192 → h ≤ 8192 → 1 ≤ length outputs → length outputs ≤ 8 → list_all (is_output w h) outputs ≡ true
    → outputs_of ((length outputs ∷ flat_map output_spelling outputs) ++ tail) ≡ Ok (outputs, tail)
listed_back w h outputs tail wide high some few all =
    let rest = flat_map output_spelling outputs ++ tail in
    ap (λ r. r >>= λ fixed. counted_outputs (slice_index fixed.0 0) fixed.1) (name_is 1 (length outputs ∷ []) rest refl)
    ∙ ap (λ (b : Bool). if b then many_of output_of (length outputs) rest else Err (Rule 17)) (number_within 1 8 (length outputs) some few)
    ∙ many_back output_of output_spelling (is_output w h) (λ o after is. output_back o after (is_in w h o wide high is)) outputs tail all

-- the outputs of a setup, in the version that has it
pub outputs_back : (version : Version) (s : Setup) (tail : List ℕ) → version_of s ≡ version → Fits s → outputs_in version (plane s.width s.height) (outputs_spelling version s.outputs ++ tail) ≡ Ok (s.outputs, tail)
outputs_back First s tail is fits =
    let chosen = chosen_first (s.clip == 1 && no_pair s.denied) (is_one s.width s.height s.outputs) is in
    ap (λ (l : List Rect). Ok (l, tail)) (sym (one_was s.width s.height s.outputs chosen.1))
outputs_back Second s tail is fits =
    listed_back s.width s.height s.outputs tail fits.width fits.height fits.later.some_outputs fits.later.outputs fits.later.in_plane
outputs_back Third s tail is fits =
    listed_back s.width s.height s.outputs tail fits.width fits.height fits.later.some_outputs fits.later.outputs fits.later.in_plane

pair_back : (p : Pair) (rest : List ℕ) → pair_of (pair_spelling p ++ rest) ≡ Ok (p, rest)
pair_back p rest = ap (λ r. r >>= λ fixed. Ok (record { from = slice_index fixed.0 0; to = slice_index fixed.0 1 }, fixed.1)) (name_is 2 (p.from ∷ p.to ∷ []) rest refl)

any_pair : (denied : List Pair) → list_all (λ p. true) denied ≡ true
any_pair [] = refl
any_pair (p ∷ denied) = any_pair denied

-- the clipboard of a setup, in the version that has it
pub clipboard_back : (version : Version) (s : Setup) (tail : List ℕ) → version_of s ≡ version → clipboard_in version (clipboard_spelling version s.clip s.denied ++ tail) ≡ Ok (record { clip = s.clip; denied = s.denied }, tail)
clipboard_back First s tail is =
    let chosen = chosen_first (s.clip == 1 && no_pair s.denied) (is_one s.width s.height s.outputs) is in
    ap (λ (c : Clipboard). Ok (c, tail)) (plain_was s chosen.0)
clipboard_back Second s tail is =
    let chosen = chosen_second (s.clip == 1 && no_pair s.denied) (is_one s.width s.height s.outputs) is in
    ap (λ (c : Clipboard). Ok (c, tail)) (plain_was s chosen)
clipboard_back Third s tail is =
    ap (λ r. r >>= λ fixed. with_pairs (slice_index fixed.0 0) (many_of pair_of (slice_index fixed.0 1) fixed.1)) (name_is 2 (s.clip ∷ length s.denied ∷ []) (flat_map pair_spelling s.denied ++ tail) refl)
    ∙ ap (with_pairs s.clip) (many_back pair_of pair_spelling (λ p. true) (λ p rest good. pair_back p rest) s.denied tail (any_pair s.denied))

-- ---- what is read was spelled

-- sixteen bytes are a rectangle
sixteen_are : (fixed : List ℕ) → AreBytes fixed → length fixed ≡ 16 → fixed ≡ output_spelling (rect_at fixed)
unfolding output_spelling
sixteen_are fixed h is =
    signed_on 0 fixed h (omega arith) ∙ ap (λ (l : List ℕ). signed_word (signed_at 0 fixed) ++ l)
    (signed_on 4 fixed h (omega arith) ∙ ap (λ (l : List ℕ). signed_word (signed_at 4 fixed) ++ l)
    (word_on 8 fixed h (omega arith) ∙ ap (λ (l : List ℕ). word (number_at 8 fixed) ++ l)
    (word_on 12 fixed h (omega arith) ∙ ap (λ (l : List ℕ). word (number_at 12 fixed) ++ l) (drop_all 16 fixed (omega arith)) ∙ append-nil (word (number_at 12 fixed)))))

output_was : (bytes : List ℕ) (o : Rect) (rest : List ℕ) → AreBytes bytes → output_of bytes ≡ Ok (o, rest) → bytes ≡ output_spelling o ++ rest
output_was bytes o rest h is =
    let bound = bind_was (part_of 16 bytes) (λ fixed. Ok (rect_at fixed.0, fixed.1)) (o, rest) is in
    let found = bound.0 in
    let part = part_was 16 bytes found.0 found.1 bound.1 in
    let same : ◌≡◌ {A = Rect × List ℕ} (rect_at found.0, found.1) (o, rest) = cc in
    let spelled = sixteen_are found.0 (front_are found.0 found.1 bytes part.0 h) part.1 ∙ ap (λ (p : Rect × List ℕ). output_spelling p.0) same in
    part.0 ∙ (λ i. spelled i ++ ap (λ (p : Rect × List ℕ). p.1) same i)

-- a list of one byte, and of two
one_is : (fixed : List ℕ) → length fixed ≡ 1 → fixed ≡ slice_index fixed 0 ∷ []
one_is fixed is = byte_on 0 fixed (omega arith) ∙ ap (λ (l : List ℕ). slice_index fixed 0 ∷ l) (drop_all 1 fixed (omega arith))

two_are : (fixed : List ℕ) → length fixed ≡ 2 → fixed ≡ slice_index fixed 0 ∷ slice_index fixed 1 ∷ []
two_are fixed is =
    byte_on 0 fixed (omega arith) ∙ ap (λ (l : List ℕ). slice_index fixed 0 ∷ l)
    (byte_on 1 fixed (omega arith) ∙ ap (λ (l : List ℕ). slice_index fixed 1 ∷ l) (drop_all 2 fixed (omega arith)))

if_was : {A : Type 0} (b : Bool) (w : Wrong) (r : Result A Wrong) (x : A) → (if b then r else Err w) ≡ Ok x → r ≡ Ok x
if_was true w r x is = is
if_was false w r x is = absurd (cc)

-- the number of outputs, and the outputs, as they were read
record ListedWas (bytes : List ℕ) (outputs : List Rect) (rest : List ℕ) : Type 0 where
  fixed : List ℕ
  behind : List ℕ
  split : bytes ≡ fixed ++ behind
  size : length fixed ≡ 1
  many : many_of output_of (slice_index fixed 0) behind ≡ Ok (outputs, rest)

listed_parts : (bytes : List ℕ) (outputs : List Rect) (rest : List ℕ) → outputs_of bytes ≡ Ok (outputs, rest) → ListedWas bytes outputs rest
listed_parts bytes outputs rest is =
    let bound = bind_was (part_of 1 bytes) (λ fixed. counted_outputs (slice_index fixed.0 0) fixed.1) (outputs, rest) is in
    let found = bound.0 in
    let part = part_was 1 bytes found.0 found.1 bound.1 in
    let n = slice_index found.0 0 in
    record { fixed = found.0; behind = found.1; split = part.0; size = part.1; many = if_was (within 1 8 n) (Rule 17) (many_of output_of n found.1) (outputs, rest) bound.2 }

listed_was : (bytes : List ℕ) (outputs : List Rect) (rest : List ℕ) → AreBytes bytes → outputs_of bytes ≡ Ok (outputs, rest) → bytes ≡ (length outputs ∷ flat_map output_spelling outputs) ++ rest
listed_was bytes outputs rest h is =
    let was = listed_parts bytes outputs rest is in
    let many = many_were output_of output_spelling output_was (slice_index was.fixed 0) was.behind outputs rest (rest_are was.fixed was.behind bytes was.split h) was.many in
    was.split ∙ (λ i. one_is was.fixed was.size i ++ many.0 i) ∙ ap (λ (n : ℕ). n ∷ (flat_map output_spelling outputs ++ rest)) (sym many.1)

pub outputs_were : (version : Version) (whole : Rect) (bytes : List ℕ) (outputs : List Rect) (rest : List ℕ) → AreBytes bytes → outputs_in version whole bytes ≡ Ok (outputs, rest) → bytes ≡ outputs_spelling version outputs ++ rest
outputs_were First whole bytes outputs rest h is =
    let same : ◌≡◌ {A = List Rect × List ℕ} (whole ∷ [], bytes) (outputs, rest) = cc in
    ap (λ (p : List Rect × List ℕ). p.1) same
outputs_were Second whole bytes outputs rest h is = listed_was bytes outputs rest h is
outputs_were Third whole bytes outputs rest h is = listed_was bytes outputs rest h is

pair_was : (bytes : List ℕ) (p : Pair) (rest : List ℕ) → AreBytes bytes → pair_of bytes ≡ Ok (p, rest) → bytes ≡ pair_spelling p ++ rest
pair_was bytes p rest h is =
    let bound = bind_was (part_of 2 bytes) (λ fixed. Ok (record { from = slice_index fixed.0 0; to = slice_index fixed.0 1 }, fixed.1)) (p, rest) is in
    let found = bound.0 in
    let part = part_was 2 bytes found.0 found.1 bound.1 in
    let same : ◌≡◌ {A = Pair × List ℕ} (record { from = slice_index found.0 0; to = slice_index found.0 1 }, found.1) (p, rest) = cc in
    let spelled : found.0 ≡ pair_spelling p = two_are found.0 part.1 ∙ ap (λ (q : Pair × List ℕ). pair_spelling q.0) same in
    part.0 ∙ (λ i. spelled i ++ ap (λ (q : Pair × List ℕ). q.1) same i)

pairs_kept : (clip : ℕ) (r : Result (List Pair × List ℕ) Wrong) (c : Clipboard) (rest : List ℕ) → with_pairs clip r ≡ Ok (c, rest) → (r ≡ Ok (c.denied, rest)) × (clip ≡ c.clip)
pairs_kept clip (Ok found) c rest is =
    let same : ◌≡◌ {A = Clipboard × List ℕ} (record { clip = clip; denied = found.0 }, found.1) (c, rest) = cc in
    (λ i. Ok (ap (λ (p : Clipboard × List ℕ). p.0.denied) same i, ap (λ (p : Clipboard × List ℕ). p.1) same i), ap (λ (p : Clipboard × List ℕ). p.0.clip) same)
pairs_kept clip (Err w) c rest is = absurd (cc)

-- the revision, the number of pairs, and the pairs, as they were read
record SpelledWas (bytes : List ℕ) (c : Clipboard) (rest : List ℕ) : Type 0 where
  fixed : List ℕ
  behind : List ℕ
  split : bytes ≡ fixed ++ behind
  size : length fixed ≡ 2
  clip : slice_index fixed 0 ≡ c.clip
  many : many_of pair_of (slice_index fixed 1) behind ≡ Ok (c.denied, rest)

spelled_parts : (bytes : List ℕ) (c : Clipboard) (rest : List ℕ) → clipboard_of bytes ≡ Ok (c, rest) → SpelledWas bytes c rest
spelled_parts bytes c rest is =
    let bound = bind_was (part_of 2 bytes) (λ fixed. with_pairs (slice_index fixed.0 0) (many_of pair_of (slice_index fixed.0 1) fixed.1)) (c, rest) is in
    let found = bound.0 in
    let part = part_was 2 bytes found.0 found.1 bound.1 in
    let pairs = pairs_kept (slice_index found.0 0) (many_of pair_of (slice_index found.0 1) found.1) c rest bound.2 in
    record { fixed = found.0; behind = found.1; split = part.0; size = part.1; clip = pairs.1; many = pairs.0 }

spelled_was : (bytes : List ℕ) (c : Clipboard) (rest : List ℕ) → AreBytes bytes → clipboard_of bytes ≡ Ok (c, rest) → bytes ≡ (c.clip ∷ length c.denied ∷ flat_map pair_spelling c.denied) ++ rest
spelled_was bytes c rest h is =
    let was = spelled_parts bytes c rest is in
    let many = many_were pair_of pair_spelling pair_was (slice_index was.fixed 1) was.behind c.denied rest (rest_are was.fixed was.behind bytes was.split h) was.many in
    was.split ∙ (λ i. two_are was.fixed was.size i ++ many.0 i) ∙ (λ i. was.clip i ∷ sym many.1 i ∷ (flat_map pair_spelling c.denied ++ rest))

pub clipboard_was : (version : Version) (bytes : List ℕ) (c : Clipboard) (rest : List ℕ) → AreBytes bytes → clipboard_in version bytes ≡ Ok (c, rest) → bytes ≡ clipboard_spelling version c.clip c.denied ++ rest
clipboard_was First bytes c rest h is =
    let same : ◌≡◌ {A = Clipboard × List ℕ} (plain_clipboard, bytes) (c, rest) = cc in
    ap (λ (p : Clipboard × List ℕ). p.1) same
clipboard_was Second bytes c rest h is =
    let same : ◌≡◌ {A = Clipboard × List ℕ} (plain_clipboard, bytes) (c, rest) = cc in
    ap (λ (p : Clipboard × List ℕ). p.1) same
clipboard_was Third bytes c rest h is = spelled_was bytes c rest h is

-- ---- how many bytes they take

output_takes : (bytes : List ℕ) (o : Rect) (rest : List ℕ) → output_of bytes ≡ Ok (o, rest) → length bytes ≡ 16 + length rest
output_takes bytes o rest is =
    let bound = bind_was (part_of 16 bytes) (λ fixed. Ok (rect_at fixed.0, fixed.1)) (o, rest) is in
    let found = bound.0 in
    let part = part_was 16 bytes found.0 found.1 bound.1 in
    let same : ◌≡◌ {A = Rect × List ℕ} (rect_at found.0, found.1) (o, rest) = cc in
    let behind : length found.1 ≡ length rest = ap (λ (p : Rect × List ℕ). length (p.1)) same in
    let all : length bytes ≡ length found.0 + length found.1 = ap length part.0 ∙ length-append found.0 found.1 in
    omega (arith, all, part.1, behind)

listed_takes : (bytes : List ℕ) (outputs : List Rect) (rest : List ℕ) → outputs_of bytes ≡ Ok (outputs, rest) → length bytes ≡ (1 + 16 * length outputs) + length rest
listed_takes bytes outputs rest is =
    let was = listed_parts bytes outputs rest is in
    let many : length was.behind ≡ sum_by (λ (o : Rect). 16) outputs + length rest = many_take output_of (λ o. 16) output_takes (slice_index was.fixed 0) was.behind outputs rest was.many in
    let all : length bytes ≡ length was.fixed + length was.behind = ap length was.split ∙ length-append was.fixed was.behind in
    let each : sum_by (λ (o : Rect). 16) outputs ≡ 16 * length outputs = sixteens outputs in
    omega (arith, all, was.size, many, each)

pub outputs_take : (version : Version) (whole : Rect) (bytes : List ℕ) (outputs : List Rect) (rest : List ℕ) → outputs_in version whole bytes ≡ Ok (outputs, rest) → length bytes ≡ outputs_len version (length outputs) + length rest
outputs_take First whole bytes outputs rest is =
    let same : ◌≡◌ {A = List Rect × List ℕ} (whole ∷ [], bytes) (outputs, rest) = cc in
    let all : length bytes ≡ length rest = ap (λ (p : List Rect × List ℕ). length (p.1)) same in
    omega (arith, all)
outputs_take Second whole bytes outputs rest is = listed_takes bytes outputs rest is
outputs_take Third whole bytes outputs rest is = listed_takes bytes outputs rest is

pair_takes : (bytes : List ℕ) (p : Pair) (rest : List ℕ) → pair_of bytes ≡ Ok (p, rest) → length bytes ≡ 2 + length rest
pair_takes bytes p rest is =
    let bound = bind_was (part_of 2 bytes) (λ fixed. Ok (record { from = slice_index fixed.0 0; to = slice_index fixed.0 1 }, fixed.1)) (p, rest) is in
    let found = bound.0 in
    let part = part_was 2 bytes found.0 found.1 bound.1 in
    let same : ◌≡◌ {A = Pair × List ℕ} (record { from = slice_index found.0 0; to = slice_index found.0 1 }, found.1) (p, rest) = cc in
    let behind : length found.1 ≡ length rest = ap (λ (q : Pair × List ℕ). length (q.1)) same in
    let all : length bytes ≡ length found.0 + length found.1 = ap length part.0 ∙ length-append found.0 found.1 in
    omega (arith, all, part.1, behind)

pub clipboard_takes : (version : Version) (bytes : List ℕ) (c : Clipboard) (rest : List ℕ) → clipboard_in version bytes ≡ Ok (c, rest) → length bytes ≡ clipboard_len version (length c.denied) + length rest
clipboard_takes First bytes c rest is =
    let same : ◌≡◌ {A = Clipboard × List ℕ} (plain_clipboard, bytes) (c, rest) = cc in
    let all : length bytes ≡ length rest = ap (λ (p : Clipboard × List ℕ). length (p.1)) same in
    omega (arith, all)
clipboard_takes Second bytes c rest is =
    let same : ◌≡◌ {A = Clipboard × List ℕ} (plain_clipboard, bytes) (c, rest) = cc in
    let all : length bytes ≡ length rest = ap (λ (p : Clipboard × List ℕ). length (p.1)) same in
    omega (arith, all)
clipboard_takes Third bytes c rest is =
    let was = spelled_parts bytes c rest is in
    let many : length was.behind ≡ sum_by (λ (p : Pair). 2) c.denied + length rest = many_take pair_of (λ p. 2) pair_takes (slice_index was.fixed 1) was.behind c.denied rest was.many in
    let all : length bytes ≡ length was.fixed + length was.behind = ap length was.split ∙ length-append was.fixed was.behind in
    let each : sum_by (λ (p : Pair). 2) c.denied ≡ 2 * length c.denied = twos c.denied in
    omega (arith, all, was.size, many, each)

length-output : (o : Rect) → length (output_spelling o) ≡ 16
unfolding output_spelling
length-output o = omega arith

length-listed : (outputs : List Rect) → length (length outputs ∷ flat_map output_spelling outputs) ≡ 1 + 16 * length outputs
length-listed outputs =
    let all : length (flat_map output_spelling outputs) ≡ 16 * length outputs = length-many output_spelling (λ o. 16) length-output outputs ∙ sixteens outputs in
    omega (arith, all)

pub length-outputs : (version : Version) (outputs : List Rect) → length (outputs_spelling version outputs) ≡ outputs_len version (length outputs)
length-outputs First outputs = refl
length-outputs Second outputs = length-listed outputs
length-outputs Third outputs = length-listed outputs

pub length-clipboard : (version : Version) (clip : ℕ) (denied : List Pair) → length (clipboard_spelling version clip denied) ≡ clipboard_len version (length denied)
length-clipboard First clip denied = refl
length-clipboard Second clip denied = refl
length-clipboard Third clip denied =
    let all : length (flat_map pair_spelling denied) ≡ 2 * length denied = length-many pair_spelling (λ p. 2) (λ p. refl) denied ∙ twos denied in
    omega (arith, all)
