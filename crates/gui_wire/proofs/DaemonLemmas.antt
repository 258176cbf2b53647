-- The messages to an agent: a spelling reads back, whatever follows it, and what reads is a spelling.
use Rattle.std.proofs.Common.{◌≡◌, ℕ, suc, ◌+◌, ◌-◌, ◌*◌, ◌<◌, ◌≤◌, ◌^◌, Bool, true, false, List, [], ◌∷◌, ◌++◌, length, drop, take, get_or, Option, Some, None, ℤ, refl, sym, ap, ◌∙◌, subst, arith, rules, lit<, IsTrue, length-append, length-drop, length-take, append_assoc, w32}
use Rattle.std.specs.Prelude.{nat_lt, if◌then◌else◌}
use Rattle.std.specs.Int.{cast_signed}
use Rattle.std.specs.Int.RustNames.{FitsSigned}
use Rattle.std.proofs.Math.Facts.{Fits-of_z, sfits_to_z}
use Rattle.std.proofs.lemmas.Int.{of_z-to_z, to_z-of_z}
use Rattle.std.proofs.lemmas.Bool.Decides.{nat_tests}
use Rattle.std.proofs.Math.Seq.{take-add}
use Rattle.std.proofs.lemmas.List.{take_at, take_rest}
use Rattle.gui_wire.specs.declared.Header.{Header}
use Rattle.gui_wire.specs.Words.{words, word_at, signed_at, unsigned}
use Rattle.gui_wire.specs.DaemonMessages.{DaemonMessage, Key, Button, Motion, Crossing, Focus, Keymap, Close, ClipAsk, ClipGive, Configure, DumpAck, daemon_kind, daemon_body, daemon_spelling, Just, UpTo, daemon_length, fits_length, daemon_reading, HasDaemonSpelling, AreSigned}
use Rattle.gui_wire.specs.Headers.{header_at}
use Rattle.gui_wire.specs.Beginnings.{Beginning, Whole, Need, Bad, whole_of, beginning_of, beginning, IsInFront}
use Rattle.gui_wire.proofs.WordLemmas.{AreBytes, AreBytes-drop, AreBytes-take, word_at-fits, numbers_from, words-numbers, words-front}
use Rattle.gui_wire.proofs.SpellingLemmas.{word_at-words, reads}
use Rattle.gui_wire.proofs.ReadingLemmas.{by_kind}

-- ---- a spelling reads back

unsigned-fits : (z : ℤ) → FitsSigned w32 z → unsigned z < 2 ^ 32
unsigned-fits z h = let f = Fits-of_z {w = w32} {z = z} h in omega (arith, f)

signed : (n : ℕ) (z : ℤ) → n ≡ unsigned z → FitsSigned w32 z → cast_signed w32 n ≡ z
signed n z e h = ap (cast_signed w32) e ∙ to_z-of_z w32 z h

pub daemon_reading-body : (m : DaemonMessage) → HasDaemonSpelling m → daemon_reading (daemon_kind m) (daemon_body m) ≡ Some m
daemon_reading-body (Key kind x y state keycode) h =
    let at = reads (kind ∷ unsigned x ∷ unsigned y ∷ state ∷ keycode ∷ []) (h.1.0, (unsigned-fits x h.0.0, (unsigned-fits y h.0.1, h.1.1))) in
    let a = at 0 (omega arith) in
    let b = signed _ x (at 1 (omega arith)) h.0.0 in
    let c = signed _ y (at 2 (omega arith)) h.0.1 in
    let d = at 3 (omega arith) in
    let e = at 4 (omega arith) in
    simp (a, b, c, d, e)
daemon_reading-body (Button kind x y state button) h =
    let at = reads (kind ∷ unsigned x ∷ unsigned y ∷ state ∷ button ∷ []) (h.1.0, (unsigned-fits x h.0.0, (unsigned-fits y h.0.1, h.1.1))) in
    let a = at 0 (omega arith) in
    let b = signed _ x (at 1 (omega arith)) h.0.0 in
    let c = signed _ y (at 2 (omega arith)) h.0.1 in
    let d = at 3 (omega arith) in
    let e = at 4 (omega arith) in
    simp (a, b, c, d, e)
daemon_reading-body (Motion x y state is_hint) h =
    let at = reads (unsigned x ∷ unsigned y ∷ state ∷ is_hint ∷ []) (unsigned-fits x h.0.0, (unsigned-fits y h.0.1, h.1)) in
    let b = signed _ x (at 0 (omega arith)) h.0.0 in
    let c = signed _ y (at 1 (omega arith)) h.0.1 in
    let d = at 2 (omega arith) in
    let e = at 3 (omega arith) in
    simp (b, c, d, e)
daemon_reading-body (Crossing kind x y state mode detail focus) h =
    let at = reads (kind ∷ unsigned x ∷ unsigned y ∷ state ∷ mode ∷ detail ∷ focus ∷ []) (h.1.0, (unsigned-fits x h.0.0, (unsigned-fits y h.0.1, h.1.1))) in
    let a = at 0 (omega arith) in
    let b = signed _ x (at 1 (omega arith)) h.0.0 in
    let c = signed _ y (at 2 (omega arith)) h.0.1 in
    let d = at 3 (omega arith) in
    let e = at 4 (omega arith) in
    let f = at 5 (omega arith) in
    let g = at 6 (omega arith) in
    simp (a, b, c, d, e, f, g)
daemon_reading-body (Focus kind mode detail) h =
    let at = reads (kind ∷ mode ∷ detail ∷ []) h in
    simp (at 0 (omega arith), at 1 (omega arith), at 2 (omega arith))
daemon_reading-body (Keymap keys) h = refl
daemon_reading-body Close h = refl
daemon_reading-body ClipAsk h = refl
daemon_reading-body (ClipGive bytes) h = refl
daemon_reading-body (Configure x y width height override_redirect) h =
    let at = reads (unsigned x ∷ unsigned y ∷ width ∷ height ∷ override_redirect ∷ []) (unsigned-fits x h.0.0, (unsigned-fits y h.0.1, h.1)) in
    let a = signed _ x (at 0 (omega arith)) h.0.0 in
    let b = signed _ y (at 1 (omega arith)) h.0.1 in
    let c = at 2 (omega arith) in
    let d = at 3 (omega arith) in
    let e = at 4 (omega arith) in
    simp (a, b, c, d, e)
daemon_reading-body DumpAck h = refl

pub fits-daemon_spelled : (m : DaemonMessage) → HasDaemonSpelling m → IsTrue (fits_length (daemon_length (daemon_kind m)) (length (daemon_body m)))
fits-daemon_spelled (Key kind x y state keycode) h = refl
fits-daemon_spelled (Button kind x y state button) h = refl
fits-daemon_spelled (Motion x y state is_hint) h = refl
fits-daemon_spelled (Crossing kind x y state mode detail focus) h = refl
fits-daemon_spelled (Focus kind mode detail) h = refl
fits-daemon_spelled (Keymap keys) h = just-fits 32 (length keys) h
  where
    just-fits : (n len : ℕ) → len ≡ n → IsTrue (fits_length (Just n) len)
    just-fits n len e = grind (arith, nat_tests)
fits-daemon_spelled Close h = refl
fits-daemon_spelled ClipAsk h = refl
fits-daemon_spelled (ClipGive bytes) h = up-fits 256000 (length bytes) h
  where
    up-fits : (n len : ℕ) → len ≤ n → IsTrue (fits_length (UpTo n) len)
    up-fits n len e = grind (arith, nat_tests)
fits-daemon_spelled (Configure x y width height override_redirect) h = refl
fits-daemon_spelled DumpAck h = refl

pub small-daemon_spelled : (m : DaemonMessage) → HasDaemonSpelling m → length (daemon_body m) < 2 ^ 32
small-daemon_spelled (Key kind x y state keycode) h = lit< tt
small-daemon_spelled (Button kind x y state button) h = lit< tt
small-daemon_spelled (Motion x y state is_hint) h = lit< tt
small-daemon_spelled (Crossing kind x y state mode detail focus) h = lit< tt
small-daemon_spelled (Focus kind mode detail) h = lit< tt
small-daemon_spelled (Keymap keys) h = omega arith
small-daemon_spelled Close h = lit< tt
small-daemon_spelled ClipAsk h = lit< tt
small-daemon_spelled (ClipGive bytes) h = omega arith
small-daemon_spelled (Configure x y width height override_redirect) h = lit< tt
small-daemon_spelled DumpAck h = lit< tt

daemon_kind-small : (m : DaemonMessage) → daemon_kind m < 2 ^ 32
daemon_kind-small (Key kind x y state keycode) = lit< tt
daemon_kind-small (Button kind x y state button) = lit< tt
daemon_kind-small (Motion x y state is_hint) = lit< tt
daemon_kind-small (Crossing kind x y state mode detail focus) = lit< tt
daemon_kind-small (Focus kind mode detail) = lit< tt
daemon_kind-small (Keymap keys) = lit< tt
daemon_kind-small Close = lit< tt
daemon_kind-small ClipAsk = lit< tt
daemon_kind-small (ClipGive bytes) = lit< tt
daemon_kind-small (Configure x y width height override_redirect) = lit< tt
daemon_kind-small DumpAck = lit< tt

-- ---- what bytes begin with

not-lt : (a b : ℕ) → b ≤ a → nat_lt a b ≡ false
not-lt a b h = grind (arith, nat_tests)

is-lt : (a b : ℕ) → a < b → nat_lt a b ≡ true
is-lt a b h = grind (arith, nat_tests)

-- bytes with a whole header and a whole body behind it
pub beginning-whole : (bytes : List ℕ) (read : Option DaemonMessage) (header : Header) → 12 ≤ length bytes → header ≡ header_at bytes
    → IsTrue (fits_length (daemon_length header.kind) header.len) → header.len ≤ length bytes - 12
    → read ≡ daemon_reading header.kind (take header.len (drop 12 bytes))
    → beginning bytes ≡ whole_of read header.window (12 + header.len)
beginning-whole bytes read header size is fits within r =
    ap (λ (b : Bool). if b then Need (12 - length bytes) else beginning_of (header_at bytes) (drop 12 bytes)) (not-lt (length bytes) 12 size)
    ∙ ap (λ (h : Header). beginning_of h (drop 12 bytes)) (sym is)
    ∙ ap (λ (b : Bool). if b then (if nat_lt (length (drop 12 bytes)) header.len then Need (header.len - length (drop 12 bytes)) else whole_of (daemon_reading header.kind (take header.len (drop 12 bytes))) header.window (12 + header.len)) else Bad header.len) fits
    ∙ ap (λ (b : Bool). if b then Need (header.len - length (drop 12 bytes)) else whole_of (daemon_reading header.kind (take header.len (drop 12 bytes))) header.window (12 + header.len)) (not-lt (length (drop 12 bytes)) header.len (omega (arith, length-drop 12 bytes)))
    ∙ ap (λ (o : Option DaemonMessage). whole_of o header.window (12 + header.len)) (sym r)

pub length-daemon_spelling : (window : ℕ) (m : DaemonMessage) → length (daemon_spelling window m) ≡ 12 + length (daemon_body m)
length-daemon_spelling window m = length-append (words (daemon_kind m ∷ window ∷ length (daemon_body m) ∷ [])) (daemon_body m)

-- each spelling is read, whatever follows it
pub beginning-spelled : (window : ℕ) (m : DaemonMessage) (rest : List ℕ) → window < 2 ^ 32 → HasDaemonSpelling m
    → beginning (daemon_spelling window m ++ rest) ≡ Whole window m (length (daemon_spelling window m))
beginning-spelled window m rest small has =
    let body = daemon_body m in
    let head = daemon_kind m ∷ window ∷ length body ∷ [] in
    let bytes = daemon_spelling window m ++ rest in
    let split : bytes ≡ words head ++ (body ++ rest) = append_assoc (words head) body rest in
    let at : (k : ℕ) → k < length head → word_at k bytes ≡ get_or head k 0 = λ k h. ap (word_at k) split ∙ word_at-words head k (body ++ rest) (daemon_kind-small m, (small, (small-daemon_spelled m has, tt))) h in
    let header : Header = record { kind = daemon_kind m; window = window; len = length body } in
    let kind = at 0 (omega arith) in
    let win = at 1 (omega arith) in
    let len = at 2 (omega arith) in
    let is : header ≡ header_at bytes = cc in
    let behind : drop 12 bytes ≡ body ++ rest = refl in
    let size : length bytes ≡ 12 + length body + length rest = omega (arith, length-append (daemon_spelling window m) rest, length-daemon_spelling window m) in
    let front : take (length body) (drop 12 bytes) ≡ body = take_at body rest (length body) refl in
    beginning-whole bytes (Some m) header (omega arith) is (fits-daemon_spelled m has) (omega arith)
    (sym (ap (daemon_reading (daemon_kind m)) front ∙ daemon_reading-body m has))
    ∙ ap (Whole window m) (sym (length-daemon_spelling window m))

-- ---- what reads is a spelling

-- the message has this type and this body, and a spelling
record IsBody (kind : ℕ) (body : List ℕ) (m : DaemonMessage) : Type 0 where
  typed : daemon_kind m ≡ kind
  spelled : daemon_body m ≡ body
  fits : HasDaemonSpelling m

abbrev Reads : List ℕ → ℕ → Type 0
Reads body kind = IsTrue (fits_length (daemon_length kind) (length body)) → (m : DaemonMessage) → daemon_reading kind body ≡ Some m → IsBody kind body m

daemon_cases : (P : ℕ → Type 0) → P 124 → P 125 → P 126 → P 127 → P 128 → P 134 → P 137 → P 139 → P 140 → P 142 → P 149
    → ((k : ℕ) → ((body : List ℕ) → daemon_reading k body ≡ None) → P k) → (k : ℕ) → P k
daemon_cases P a b c d e f g h i j l none k =
    by_kind P k 124 a (λ s1. by_kind P k 125 b (λ s2. by_kind P k 126 c (λ s3. by_kind P k 127 d (λ s4. by_kind P k 128 e (λ s5.
    by_kind P k 134 f (λ s6. by_kind P k 137 g (λ s7. by_kind P k 139 h (λ s8. by_kind P k 140 i (λ s9. by_kind P k 142 j (λ s10.
    by_kind P k 149 l (λ s11. none k (λ body. simp (s1, s2, s3, s4, s5, s6, s7, s8, s9, s10, s11)))))))))))))

fits-just : (n len : ℕ) → IsTrue (fits_length (Just n) len) → len ≡ n
fits-just n len h = grind (arith, nat_tests)

fits-up_to : (n len : ℕ) → IsTrue (fits_length (UpTo n) len) → len ≤ n
fits-up_to n len h = grind (arith, nat_tests)

same_some : (P : DaemonMessage → Type 0) (x m : DaemonMessage) → P x → Some x ≡ Some m → P m
same_some P x m h e = let same : x ≡ m = cc in subst P same h

numbered : (n kind : ℕ) (body : List ℕ) (x m : DaemonMessage) → AreBytes body → length body ≡ 4 * n
    → daemon_kind x ≡ kind → daemon_body x ≡ words (numbers_from n 0 body) → HasDaemonSpelling x
    → Some x ≡ Some m → IsBody kind body m
numbered n kind body x m bytes size typed spelled fits e =
    same_some (IsBody kind body) x m (record { typed = typed; spelled = spelled ∙ words-numbers n body bytes size; fits = fits }) e

back : (k : ℕ) (body : List ℕ) → AreBytes body → unsigned (signed_at k body) ≡ word_at k body
back k body bytes = of_z-to_z w32 (word_at k body) (word_at-fits k body bytes)

place : (i k : ℕ) (body : List ℕ) → AreBytes body → AreSigned (signed_at i body) (signed_at k body)
place i k body bytes = (one i, one k)
  where
    one : (k : ℕ) → FitsSigned w32 (signed_at k body)
    one k = let small = word_at-fits k body bytes in sfits_to_z {w = w32} {n = word_at k body} (search rules)

-- a place behind a type, and numbers behind it
typed-place : (n : ℕ) (body : List ℕ) → AreBytes body
    → words (word_at 0 body ∷ unsigned (signed_at 1 body) ∷ unsigned (signed_at 2 body) ∷ numbers_from n 3 body) ≡ words (numbers_from (suc (suc (suc n))) 0 body)
typed-place n body bytes =
    ap (λ x. words (word_at 0 body ∷ x ∷ unsigned (signed_at 2 body) ∷ numbers_from n 3 body)) (back 1 body bytes)
    ∙ ap (λ y. words (word_at 0 body ∷ word_at 1 body ∷ y ∷ numbers_from n 3 body)) (back 2 body bytes)

-- a place, and numbers behind it
front-place : (n : ℕ) (body : List ℕ) → AreBytes body
    → words (unsigned (signed_at 0 body) ∷ unsigned (signed_at 1 body) ∷ numbers_from n 2 body) ≡ words (numbers_from (suc (suc n)) 0 body)
front-place n body bytes =
    ap (λ x. words (x ∷ unsigned (signed_at 1 body) ∷ numbers_from n 2 body)) (back 0 body bytes)
    ∙ ap (λ y. words (word_at 0 body ∷ y ∷ numbers_from n 2 body)) (back 1 body bytes)

daemon_reading-spelled : (body : List ℕ) → AreBytes body → (kind : ℕ) → Reads body kind
daemon_reading-spelled body bytes =
    let w : (k : ℕ) → word_at k body < 2 ^ 32 = λ k. word_at-fits k body bytes in
    daemon_cases (Reads body)
    (λ h m. numbered 5 124 body _ m bytes (fits-just 20 (length body) h) refl (typed-place 2 body bytes) (place 1 2 body bytes, (w 0, (w 3, (w 4, tt)))))
    (λ h m. numbered 5 125 body _ m bytes (fits-just 20 (length body) h) refl (typed-place 2 body bytes) (place 1 2 body bytes, (w 0, (w 3, (w 4, tt)))))
    (λ h m. numbered 4 126 body _ m bytes (fits-just 16 (length body) h) refl (front-place 2 body bytes) (place 0 1 body bytes, (w 2, (w 3, tt))))
    (λ h m. numbered 7 127 body _ m bytes (fits-just 28 (length body) h) refl (typed-place 4 body bytes) (place 1 2 body bytes, (w 0, (w 3, (w 4, (w 5, (w 6, tt)))))))
    (λ h m. numbered 3 128 body _ m bytes (fits-just 12 (length body) h) refl refl (w 0, (w 1, (w 2, tt))))
    (λ h m. numbered 5 134 body _ m bytes (fits-just 20 (length body) h) refl (front-place 3 body bytes) (place 0 1 body bytes, (w 2, (w 3, (w 4, tt)))))
    (λ h m. numbered 0 137 body _ m bytes (fits-just 0 (length body) h) refl refl tt)
    (λ h m. numbered 0 139 body _ m bytes (fits-just 0 (length body) h) refl refl tt)
    (λ h m. same_some (IsBody 140 body) _ m (record { typed = refl; spelled = refl; fits = fits-up_to 256000 (length body) h }))
    (λ h m. same_some (IsBody 142 body) _ m (record { typed = refl; spelled = refl; fits = fits-just 32 (length body) h }))
    (λ h m. numbered 0 149 body _ m bytes (fits-just 0 (length body) h) refl refl tt)
    (λ k none h m e. absurd (let no = none body in cc))

-- a message that is read whole is spelled by the bytes in front
pub in_front-whole : (bytes : List ℕ) (m : DaemonMessage) (header : Header) → AreBytes bytes → 12 ≤ length bytes → header ≡ header_at bytes
    → IsTrue (fits_length (daemon_length header.kind) header.len) → header.len ≤ length bytes - 12
    → Some m ≡ daemon_reading header.kind (take header.len (drop 12 bytes))
    → IsInFront (Whole header.window m (12 + header.len)) bytes
in_front-whole bytes m header all size is fits within r =
    let body = take header.len (drop 12 bytes) in
    let len : length body ≡ header.len = omega (arith, length-take header.len (drop 12 bytes), length-drop 12 bytes) in
    let of = daemon_reading-spelled body (AreBytes-take header.len (drop 12 bytes) (AreBytes-drop 12 bytes all)) header.kind (subst (λ (n : ℕ). IsTrue (fits_length (daemon_length header.kind) n)) (sym len) fits) m (sym r) in
    let head : take 12 bytes ≡ words (header.kind ∷ header.window ∷ header.len ∷ []) =
    sym (words-front 3 bytes all size) ∙ ap (λ (h : Header). words (h.kind ∷ h.window ∷ h.len ∷ [])) (sym is) in (
      of.fits,
      take-add 12 header.len bytes
          ∙ ap (λ (l : List ℕ). l ++ body) head
          ∙ ap (λ (k : ℕ). words (k ∷ header.window ∷ header.len ∷ []) ++ body) (sym of.typed)
          ∙ ap (λ (n : ℕ). words (daemon_kind m ∷ header.window ∷ n ∷ []) ++ body) (sym len)
          ∙ ap (λ (b : List ℕ). words (daemon_kind m ∷ header.window ∷ length b ∷ []) ++ b) (sym of.spelled),
    )

-- behind a header, which the code cuts to the whole rest first
pub record IsReadBehind (bytes : List ℕ) (header : Header) (read : Option DaemonMessage) : Type 0 where
  pub within : header.len ≤ length bytes - 12
  pub reads : read ≡ daemon_reading header.kind (take header.len (drop 12 bytes))

pub read-behind : (bytes : List ℕ) (header : Header) (read : Option DaemonMessage) → header.len ≤ length (take (length bytes - 12) (drop 12 bytes))
    → read ≡ daemon_reading header.kind (take header.len (take (length bytes - 12) (drop 12 bytes))) → IsReadBehind bytes header read
read-behind bytes header read within is = record {
  within = omega (arith, length-take (length bytes - 12) (drop 12 bytes));
  reads = is ∙ ap (λ (l : List ℕ). daemon_reading header.kind (take header.len l)) (take_rest bytes 12);
}

-- an answer that says what the bytes begin with knows each spelling
pub known-beginning : (b : Beginning) (bytes : List ℕ) → b ≡ beginning bytes → (window : ℕ) (m : DaemonMessage) (rest : List ℕ) → window < 2 ^ 32 → HasDaemonSpelling m
    → bytes ≡ daemon_spelling window m ++ rest → b ≡ Whole window m (length (daemon_spelling window m))
known-beginning b bytes is window m rest small has e = is ∙ ap beginning e ∙ beginning-spelled window m rest small has
