-- The records of an output, one after another.
use Rattle.std.proofs.Common.{◌≡◌, ℕ, zero, suc, ◌+◌, ◌<◌, ◌≤◌, ◌^◌, Bool, true, false, List, [], ◌∷◌, ◌++◌, length, take, drop, map, Option, None, Some, option_map, refl, sym, ap, ◌∙◌, subst, arith, w64, length-append, length-drop, length-take, append_assoc}
use Rattle.std.proofs.Math.Seq.{drop-append_seam}
use Rattle.std.proofs.lemmas.Bool.Decides.{nat_tests}
use Rattle.std.proofs.lemmas.List.{take-append-drop, drop-drop}
use Rattle.std.proofs.lemmas.List.Elements.{All-nil, All-cons, All-head, All-tail}
use Rattle.std.specs.Prelude.{slice_index, nat_lt, ◌==◌, if◌then◌else◌, filter}
use Rattle.std.specs.List.{All, flat_map}
use Rattle.std.specs.Int.{to_le_bytes}
use Rattle.byteorder.specs.Endian.{little_number}
use Rattle.byteorder.specs.Numbers.{little_from-lt}
use Rattle.io_ports.specs.Content.{IsPrefix}
use Rattle.gui_wire.specs.Words.{word}
use Rattle.gui_wire.proofs.WordLemmas.{AreBytes, AreBytes-drop, AreBytes-take, little_bytes-reads, word_at-fits}
use Rattle.desk_laws.specs.Scene.{Post}
use Rattle.desk_laws.specs.Scene as scenes
use Rattle.desk_laws.specs.State.{is_post_of, posts_of}
use Rattle.record_format.specs.Config.{number_at}
use Rattle.record_format.specs.OutputGrammar.{guest_byte, reply_record, ended_record, picture_record, summary_record, post_bytes, posts_bytes}
use Rattle.record_format.specs.PostFields.{OutPost, Reply, Ended, Picture, Summary, post_spelling, HasPostSpelling, long_at, framed_read, reply_read, ended_read, picture_read, summary_read, post_read}
use Rattle.record_format.specs.OutputRecords.{posts_step, posts_within, posts_read, out_of, is_record_of, HaveRecords, PostsAreRead, GuestRecordsAreRead, ReadPostsWereSpelled}
use Rattle.record_format.proofs.FieldLemmas.{byte_on, word_on, kind_on}
use Rattle.record_format.proofs.PostLemmas.{byte_is, post_back}
use Rattle.record_format.proofs.RecordLemmas.{are_bytes}

-- a post is written as its record is spelled
spelled_same : (painted : ℕ) (post : Post) → post_bytes painted post ≡ post_spelling (out_of painted post)
unfolding reply_record ended_record picture_record summary_record
spelled_same painted (scenes.Reply guest bytes) = refl
spelled_same painted (scenes.Ended guest cause) = refl
spelled_same painted (scenes.Picture width height colours) = refl
spelled_same painted (scenes.Summary counts) = refl

-- a record has a byte
spelling_some : (post : OutPost) → 1 ≤ length (post_spelling post)
unfolding reply_record ended_record summary_record
spelling_some (Reply guest bytes) = omega arith
spelling_some (Ended guest cause a b) = omega arith
spelling_some (Picture bytes) = omega arith
spelling_some (Summary items messages glances painted) = omega arith

-- records that were spelled are read, where there are turns enough
within_read : (n : ℕ) (posts : List OutPost) → All HasPostSpelling posts → length (flat_map post_spelling posts) ≤ n → posts_within n (flat_map post_spelling posts) ≡ posts
within_read zero [] fit enough = refl
within_read (suc n) [] fit enough = refl
within_read zero (post ∷ posts) fit enough = absurd (omega (arith, spelling_some post, length-append (post_spelling post) (flat_map post_spelling posts)))
within_read (suc n) (post ∷ posts) fit enough =
    let first = post_spelling post in
    let rest = flat_map post_spelling posts in
    let left : length rest ≤ n = omega (arith, spelling_some post, length-append first rest) in
    ap (λ (r : Option (OutPost × ℕ)). posts_step r (λ size. posts_within n (drop size (first ++ rest)))) (post_back post rest (All-head HasPostSpelling post posts fit))
    ∙ ap (λ (l : List ℕ). post ∷ posts_within n l) (drop-append_seam first rest)
    ∙ ap (λ (l : List OutPost). post ∷ l) (within_read n posts (All-tail HasPostSpelling post posts fit) left)

bytes_same : (painted : ℕ) (posts : List Post) → posts_bytes painted posts ≡ flat_map post_spelling (map (out_of painted) posts)
bytes_same painted [] = refl
bytes_same painted (post ∷ posts) = λ i. spelled_same painted post i ++ bytes_same painted posts i

all_fit : (painted : ℕ) (posts : List Post) → HaveRecords painted posts → All HasPostSpelling (map (out_of painted) posts)
all_fit painted [] fit = All-nil HasPostSpelling
all_fit painted (post ∷ posts) fit =
    All-cons HasPostSpelling (out_of painted post) (map (out_of painted) posts) (All-head (λ p. HasPostSpelling (out_of painted p)) post posts fit)
    (all_fit painted posts (All-tail (λ p. HasPostSpelling (out_of painted p)) post posts fit))

pub posts_are_read : PostsAreRead
unfolding posts_read
posts_are_read painted posts fit =
    let all = map (out_of painted) posts in
    ap (λ (l : List ℕ). posts_within (length l) l) (bytes_same painted posts)
    ∙ within_read (length (flat_map post_spelling all)) all (all_fit painted posts fit) (omega arith)

-- whose record it is, is whose post it is
of_guest : (painted guest : ℕ) (post : Post) → is_record_of guest (out_of painted post) ≡ is_post_of guest post
of_guest painted guest (scenes.Reply g bytes) = refl
of_guest painted guest (scenes.Ended g cause) = refl
of_guest painted guest (scenes.Picture width height colours) = refl
of_guest painted guest (scenes.Summary counts) = refl

by_guest : (painted guest : ℕ) (post : Post) (posts : List Post) (b : Bool) → filter (is_record_of guest) (map (out_of painted) posts) ≡ map (out_of painted) (posts_of guest posts)
    → (if b then out_of painted post ∷ filter (is_record_of guest) (map (out_of painted) posts) else filter (is_record_of guest) (map (out_of painted) posts))
    ≡ map (out_of painted) (if b then post ∷ posts_of guest posts else posts_of guest posts)
by_guest painted guest post posts true same = ap (λ (l : List OutPost). out_of painted post ∷ l) same
by_guest painted guest post posts false same = same

of_guests : (painted guest : ℕ) (posts : List Post) → filter (is_record_of guest) (map (out_of painted) posts) ≡ map (out_of painted) (posts_of guest posts)
of_guests painted guest [] = refl
of_guests painted guest (post ∷ posts) =
    ap (λ (b : Bool). if b then out_of painted post ∷ filter (is_record_of guest) (map (out_of painted) posts) else filter (is_record_of guest) (map (out_of painted) posts)) (of_guest painted guest post)
    ∙ by_guest painted guest post posts (is_post_of guest post) (of_guests painted guest posts)

pub guest_records_are_read : GuestRecordsAreRead
guest_records_are_read painted guest posts fit = ap (filter (is_record_of guest)) (posts_are_read painted posts fit) ∙ of_guests painted guest posts

-- ---- what is read was spelled

-- a record that is read was spelled
record PostWas (bytes : List ℕ) (post : OutPost) (size : ℕ) : Type 0 where
  fits : HasPostSpelling post
  spelled : bytes ≡ post_spelling post ++ drop size bytes

enough : (a b : ℕ) → nat_lt a b ≡ false → b ≤ a
enough a b is = grind (arith, nat_tests, is)

same_number : (a b : ℕ) → (a == b) ≡ true → a ≡ b
same_number a b is = grind (arith, nat_tests, is)

-- a test of which nothing but the second outcome is right
some_was : {X : Type 0} (b : Bool) (r : Option X) (x : X) → (if b then None else r) ≡ Some x → (b ≡ false) × (r ≡ Some x)
some_was true r x is = absurd (cc)
some_was false r x is = (refl, is)

eight : (xs : List ℕ) → AreBytes xs → 8 ≤ length xs → xs ≡ to_le_bytes w64 (little_number 8 xs) ++ drop 8 xs
eight [] h long = absurd (omega arith)
eight (a ∷ []) h long = absurd (omega arith)
eight (a ∷ b ∷ []) h long = absurd (omega arith)
eight (a ∷ b ∷ c ∷ []) h long = absurd (omega arith)
eight (a ∷ b ∷ c ∷ d ∷ []) h long = absurd (omega arith)
eight (a ∷ b ∷ c ∷ d ∷ e ∷ []) h long = absurd (omega arith)
eight (a ∷ b ∷ c ∷ d ∷ e ∷ f ∷ []) h long = absurd (omega arith)
eight (a ∷ b ∷ c ∷ d ∷ e ∷ f ∷ g ∷ []) h long = absurd (omega arith)
eight (a ∷ b ∷ c ∷ d ∷ e ∷ f ∷ g ∷ k ∷ xs) h long =
    ap (λ (l : List ℕ). l ++ xs) (sym (little_bytes-reads (a ∷ b ∷ c ∷ d ∷ e ∷ f ∷ g ∷ k ∷ []) (AreBytes-take 8 (a ∷ b ∷ c ∷ d ∷ e ∷ f ∷ g ∷ k ∷ xs) h)))

long_on : (p : ℕ) (bytes : List ℕ) → AreBytes bytes → p + 8 ≤ length bytes → drop p bytes ≡ to_le_bytes w64 (long_at p bytes) ++ drop (p + 8) bytes
long_on p bytes h long =
    eight (drop p bytes) (AreBytes-drop p bytes h) (omega (arith, length-drop p bytes)) ∙ ap (λ (l : List ℕ). to_le_bytes w64 (long_at p bytes) ++ l) (drop-drop 8 p bytes)

long_fits : (p : ℕ) (bytes : List ℕ) → AreBytes bytes → long_at p bytes < 2 ^ 64
long_fits p bytes h = little_from-lt 0 8 (drop p bytes) (AreBytes-drop p bytes h)

number_fits : (p : ℕ) (bytes : List ℕ) → AreBytes bytes → number_at p bytes < 2 ^ 32
number_fits p bytes h = word_at-fits 0 (drop p bytes) (AreBytes-drop p bytes h)

-- framed bytes that are read, and what stands behind them
record FrameWas (place : ℕ) (bytes framed : List ℕ) : Type 0 where
  long : place + 4 ≤ length bytes
  size : length framed ≡ number_at place bytes
  spelled : drop place bytes ≡ word (length framed) ++ (framed ++ drop (place + 4 + length framed) bytes)

frame_was : (place : ℕ) (bytes framed : List ℕ) → AreBytes bytes → framed_read place bytes ≡ Some framed → FrameWas place bytes framed
frame_was place bytes framed h is =
    let behind = drop (place + 4) bytes in
    let len = number_at place bytes in
    let first = some_was (nat_lt (length bytes) (place + 4)) _ framed is in
    let second = some_was (nat_lt (length behind) len) (Some (take len behind)) framed first.1 in
    let long : place + 4 ≤ length bytes = enough (length bytes) (place + 4) first.0 in
    let room : len ≤ length behind = enough (length behind) len second.0 in
    let same : take len behind ≡ framed = cc in
    let size : length framed ≡ len = omega (arith, ap length same, room, length-take len behind) in
    record {
      long = long;
      size = size;
      spelled =
          word_on place bytes h long ∙ ap (λ (l : List ℕ). word len ++ l) (sym (take-append-drop len behind) ∙ (λ i. same i ++ drop-drop len (place + 4) bytes i))
          ∙ (λ i. word (sym size i) ++ (framed ++ drop (place + 4 + sym size i) bytes));
    }

mapped_was : {X Y : Type 0} (f : X → Y) (r : Option X) (y : Y) → option_map f r ≡ Some y → (x : X) × (r ≡ Some x) × (f x ≡ y)
mapped_was f None y is = absurd (cc)
mapped_was f (Some x) y is = (x, refl, cc)

reply_was : (bytes : List ℕ) (post : OutPost) (size : ℕ) → AreBytes bytes → slice_index bytes 0 ≡ 1 → reply_read bytes ≡ Some (post, size) → PostWas bytes post size
unfolding reply_record
reply_was bytes post size h kind is =
    let mapped = mapped_was (λ framed. (Reply (slice_index bytes 1) framed, 6 + length framed)) (framed_read 2 bytes) (post, size) is in
    let framed = mapped.0 in
    let frame = frame_was 2 bytes framed h mapped.1 in
    let long = frame.long in
    let guest = slice_index bytes 1 in
    let number = number_fits 2 bytes h in
    let was : PostWas bytes (Reply guest framed) (6 + length framed) = record {
      fits = (h 1, omega (arith, frame.size, number));
      spelled =
          kind_on 1 bytes (omega arith) kind
          ∙ ap (λ (l : List ℕ). 1 ∷ l) (byte_on 1 bytes (omega arith) ∙ (λ i. sym (byte_is guest (h 1)) i ∷ frame.spelled i));
    } in
    subst (λ (p : OutPost × ℕ). PostWas bytes p.0 p.1) mapped.2 was

picture_was : (bytes : List ℕ) (post : OutPost) (size : ℕ) → AreBytes bytes → slice_index bytes 0 ≡ 3 → picture_read bytes ≡ Some (post, size) → PostWas bytes post size
picture_was bytes post size h kind is =
    let mapped = mapped_was (λ framed. (Picture framed, 5 + length framed)) (framed_read 1 bytes) (post, size) is in
    let framed = mapped.0 in
    let frame = frame_was 1 bytes framed h mapped.1 in
    let long = frame.long in
    let number = number_fits 1 bytes h in
    let was : PostWas bytes (Picture framed) (5 + length framed) = record {
      fits = omega (arith, frame.size, number);
      spelled = kind_on 3 bytes (omega arith) kind ∙ ap (λ (l : List ℕ). 3 ∷ l) frame.spelled;
    } in
    subst (λ (p : OutPost × ℕ). PostWas bytes p.0 p.1) mapped.2 was

ended_was : (bytes : List ℕ) (post : OutPost) (size : ℕ) → AreBytes bytes → slice_index bytes 0 ≡ 2 → ended_read bytes ≡ Some (post, size) → PostWas bytes post size
unfolding ended_record
ended_was bytes post size h kind is =
    let guest = slice_index bytes 1 in
    let cause = slice_index bytes 2 in
    let a = number_at 3 bytes in
    let found = some_was (nat_lt (length bytes) 11) (Some (Ended guest cause a (number_at 7 bytes), 11)) (post, size) is in
    let long = enough (length bytes) 11 found.0 in
    let same : ◌≡◌ {A = OutPost × ℕ} (Ended guest cause a (number_at 7 bytes), 11) (post, size) = cc in
    let was : PostWas bytes (Ended guest cause a (number_at 7 bytes)) 11 = record {
      fits = (h 1, h 2, number_fits 3 bytes h, number_fits 7 bytes h);
      spelled =
          kind_on 2 bytes (omega arith) kind
          ∙ ap (λ (l : List ℕ). 2 ∷ l) (byte_on 1 bytes (omega arith) ∙ (λ i. sym (byte_is guest (h 1)) i ∷ drop 2 bytes)
          ∙ ap (λ (l : List ℕ). guest_byte guest ∷ l) (byte_on 2 bytes (omega arith) ∙ ap (λ (l : List ℕ). cause ∷ l) (word_on 3 bytes h (omega arith)
          ∙ ap (λ (l : List ℕ). word a ++ l) (word_on 7 bytes h (omega arith)))));
    } in
    subst (λ (p : OutPost × ℕ). PostWas bytes p.0 p.1) same was

summary_was : (bytes : List ℕ) (post : OutPost) (size : ℕ) → AreBytes bytes → slice_index bytes 0 ≡ 4 → summary_read bytes ≡ Some (post, size) → PostWas bytes post size
unfolding summary_record
summary_was bytes post size h kind is =
    let items = long_at 1 bytes in
    let messages = long_at 9 bytes in
    let glances = long_at 17 bytes in
    let painted = long_at 25 bytes in
    let found = some_was (nat_lt (length bytes) 33) (Some (Summary items messages glances painted, 33)) (post, size) is in
    let long = enough (length bytes) 33 found.0 in
    let same : ◌≡◌ {A = OutPost × ℕ} (Summary items messages glances painted, 33) (post, size) = cc in
    let on = λ (n : ℕ) (l : List ℕ). to_le_bytes w64 n ++ l in
    let was : PostWas bytes (Summary items messages glances painted) 33 = record {
      fits = (long_fits 1 bytes h, long_fits 9 bytes h, long_fits 17 bytes h, long_fits 25 bytes h);
      spelled =
          kind_on 4 bytes (omega arith) kind
          ∙ ap (λ (l : List ℕ). 4 ∷ l) (long_on 1 bytes h (omega arith) ∙ ap (on items) (long_on 9 bytes h (omega arith) ∙ ap (on messages) (long_on 17 bytes h (omega arith)
          ∙ ap (on glances) (long_on 25 bytes h (omega arith)))));
    } in
    subst (λ (p : OutPost × ℕ). PostWas bytes p.0 p.1) same was

-- a test whose outcomes are both known
which : {P : Type 0} (b : Bool) (r s : Option (OutPost × ℕ)) (x : OutPost × ℕ) → (if b then r else s) ≡ Some x → (b ≡ true → r ≡ Some x → P) → (s ≡ Some x → P) → P
which true r s x is one other = one refl is
which false r s x is one other = other is

read_was : (bytes : List ℕ) (post : OutPost) (size : ℕ) → AreBytes bytes → post_read bytes ≡ Some (post, size) → PostWas bytes post size
read_was [] post size h is = absurd (cc)
read_was (kind ∷ rest) post size h is =
    let all = kind ∷ rest in
    which (kind == 1) (reply_read all) _ (post, size) is (λ e found. reply_was all post size h (same_number kind 1 e) found)
    (λ is2. which (kind == 2) (ended_read all) _ (post, size) is2 (λ e found. ended_was all post size h (same_number kind 2 e) found)
    (λ is3. which (kind == 3) (picture_read all) _ (post, size) is3 (λ e found. picture_was all post size h (same_number kind 3 e) found)
    (λ is4. which (kind == 4) (summary_read all) None (post, size) is4 (λ e found. summary_was all post size h (same_number kind 4 e) found)
    (λ is5. absurd (cc)))))

-- these records are spelled by the front of these bytes
abbrev Spelled : List OutPost → List ℕ → Type 0
Spelled posts bytes = All HasPostSpelling posts × IsPrefix (flat_map post_spelling posts) bytes

step_were : (bytes : List ℕ) (r : Option (OutPost × ℕ)) (rest : ℕ → List OutPost) → AreBytes bytes → post_read bytes ≡ r → ((size : ℕ) → Spelled (rest size) (drop size bytes)) → Spelled (posts_step r rest) bytes
step_were bytes None rest h is others = (All-nil HasPostSpelling, (bytes, refl))
step_were bytes (Some found) rest h is others =
    let was = read_was bytes found.0 found.1 h is in
    let behind = others found.1 in
    let first = post_spelling found.0 in (
      All-cons HasPostSpelling found.0 (rest found.1) was.fits behind.0,
      (behind.1.0, append_assoc first (flat_map post_spelling (rest found.1)) behind.1.0 ∙ ap (λ (l : List ℕ). first ++ l) behind.1.1 ∙ sym was.spelled),
    )

within_were : (n : ℕ) (bytes : List ℕ) → AreBytes bytes → Spelled (posts_within n bytes) bytes
within_were zero bytes h = (All-nil HasPostSpelling, (bytes, refl))
within_were (suc n) bytes h =
    step_were bytes (post_read bytes) (λ size. posts_within n (drop size bytes)) h refl (λ size. within_were n (drop size bytes) (AreBytes-drop size bytes h))

pub read_posts_were_spelled : ReadPostsWereSpelled
unfolding posts_read
read_posts_were_spelled bytes h = within_were (length bytes) bytes (are_bytes bytes h)
