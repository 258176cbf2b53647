-- What a session may conclude from what its receive buffer shows.
use Rattle.std.proofs.Common.{◌≡◌, ℕ, ◌≤◌, ◌<◌, Bool, true, false, cond, nat_lt, nat_le, List, length, take, drop, Option, Some, None, refl, sym, ap, ◌∙◌, arith, length-take}
use Rattle.std.specs.Prelude.{◌&&◌, ◌==◌}
use Rattle.std.proofs.lemmas.Bool.{ltb-false}
use Rattle.std.proofs.lemmas.Bool.Decides.{nat_tests}
use Rattle.gui_wire.specs.declared.Header.{Header}
use Rattle.gui_wire.specs.declared.WireFault.{WireFault}
use Rattle.gui_wire.specs.declared.WireFault.TheVariants.{Kind, Length}
use Rattle.gui_wire.specs.Headers.{header_at}
use Rattle.gui_wire.specs.Words.{word_at}
use Rattle.desk_laws.specs.declared.cause.Cause.{Cause}
use Rattle.desk_laws.specs.declared.cause.Cause.TheVariants.{ClipTooLong}
use Rattle.desk_laws.specs.Stream.{Wait, Fault, Takes, Word, Whole, front, front_of, head_fault}
use Rattle.desk_laws.proofs.Cutting.{front_by-whole_header, takes-whole_header}
use Rattle.in_stream.specs.declared.Front.{Front as BorrowedFront}
use Rattle.in_stream.specs.declared.Front.TheVariants as borrowed
use Rattle.in_stream.specs.Received.{Received, StandsFor}
use Rattle.in_stream.specs.Seen.{seen}
use Rattle.in_stream.specs.Shown as shown
use Rattle.in_stream.specs.Shown.{Shown, is_passed_over, complete, shown_of}
use Rattle.in_stream.specs.Taking.{HasUnit}
use Rattle.in_stream.proofs.CallerLemmas as caller
use Rattle.in_stream.proofs.CallerLemmas.{shown-whole, shown-skipped}
use Rattle.guest_session.specs.Clips.{BeginsWithClip, HasClip, HasKeptClip}
use Rattle.guest_session.specs.Parts.{cause_of}
use Rattle.guest_session.specs.Turns.{clip_turn}
use Rattle.guest_session.specs.declared.turn.Turn.TheVariants as turn

-- ---- a whole message

pub record IsMessage (header : Header) (body : List ℕ) : Type 0 where
  pub fine : head_fault header ≡ None
  pub whole : length body ≡ header.len

message-by : (o : Option Cause) (h' : Header) (xs : List ℕ) (h : Header) (b behind : List ℕ) → o ≡ head_fault h'
    → front_of o h' xs ≡ Takes (Whole h b) behind → IsMessage h b
message-by (Some cause) h' xs h b behind is e = absurd cc
message-by None h' xs h b behind is e = by (nat_lt (length xs) h'.len) refl
  where
    by : (t : Bool) → nat_lt (length xs) h'.len ≡ t → IsMessage h b
    by true t =
        let waits : Wait ≡ Takes (Whole h b) behind = sym (ap (λ c. cond c Wait (Takes (Whole h' (take h'.len xs)) (drop h'.len xs))) t) ∙ e in
        absurd cc
    by false t =
        let takes : Takes (Whole h' (take h'.len xs)) (drop h'.len xs) ≡ Takes (Whole h b) behind =
        sym (ap (λ c. cond c Wait (Takes (Whole h' (take h'.len xs)) (drop h'.len xs))) t) ∙ e in
        let head : h' ≡ h = cc in
        let body : take h'.len xs ≡ b = cc in
        let enough : h'.len ≤ length xs = ltb-false (length xs) h'.len t in
        let size : length (take h'.len xs) ≡ h'.len = omega (arith, length-take h'.len xs, enough) in
        record {
          fine = ap head_fault (sym head) ∙ sym is;
          whole = ap length (sym body) ∙ size ∙ ap (λ (x : Header). x.len) head;
        }

pub message-is : (r : List ℕ) (h : Header) (b behind : List ℕ) → front true r ≡ Takes (Whole h b) behind → IsMessage h b
message-is r h b behind e =
    message-by (head_fault (header_at r)) (header_at r) (drop 12 r) h b behind refl
    (sym (front_by-whole_header head_fault r (takes-whole_header head_fault r (Whole h b) behind e)) ∙ e)

-- ---- clipboard data

kept-by : (over : Bool) (h : Header) (b : List ℕ) → cond over (shown.Skipped h) (shown.Whole h b) ≡ shown.Whole h b → over ≡ false
kept-by true h b e = absurd cc
kept-by false h b e = refl

-- a body that is shown wasn't passed over
pub shown-kept : (limit : ℕ) (r : List ℕ) (h : Header) (b : List ℕ) → shown.shown limit r ≡ shown.Whole h b → is_passed_over limit h ≡ false
shown-kept limit r h b e =
    let m = shown-whole limit r h b e in
    kept-by (is_passed_over limit h) h b (sym (ap (shown_of limit r) m.1) ∙ e)

clip-by : (limit kind len : ℕ) → kind ≡ 140 → (kind == 140 && (nat_lt limit len && nat_le len 256000)) ≡ false → nat_lt 256000 len ≡ false → len ≤ limit
clip-by limit kind len is kept low = grind (arith, nat_tests)

long-by : (over : Bool) (cause : Cause) → cond over (Some cause) None ≡ None → over ≡ false
long-by true cause e = absurd cc
long-by false cause e = refl

clip-fault : (h : Header) → h.kind ≡ 140 → head_fault h ≡ None → nat_lt 256000 h.len ≡ false
clip-fault h is fine =
    let at : head_fault (record h { kind = 140 }) ≡ None = ap (λ k. head_fault (record h { kind = k })) (sym is) ∙ fine in
    long-by (nat_lt 256000 h.len) (ClipTooLong h.len 0) at

-- clipboard data that is shown whole keeps the limit
pub clip-kept : (limit : ℕ) (h : Header) (b : List ℕ) → h.kind ≡ 140 → IsMessage h b → is_passed_over limit h ≡ false → turn.ClipWhole ≡ clip_turn limit b
clip-kept limit h b is message kept =
    let short : h.len ≤ limit = clip-by limit h.kind h.len is kept (clip-fault h is message.fine) in
    short-turn b (omega (arith, short, message.whole))
  where
    short-turn : (b : List ℕ) → length b ≤ limit → turn.ClipWhole ≡ clip_turn limit b
    short-turn b short = grind (arith, nat_tests)

over-by : (limit kind len : ℕ) → (kind == 140 && (nat_lt limit len && nat_le len 256000)) ≡ true → (kind ≡ 140) × (limit < len)
over-by limit kind len is = (grind (arith, nat_tests), grind (arith, nat_tests))

-- clipboard data whose body was passed over is longer than the limit
pub clip-over : (limit : ℕ) (h : Header) (b : List ℕ) → is_passed_over limit h ≡ true → IsMessage h b → (h.kind ≡ 140) × (turn.ClipOver ≡ clip_turn limit b)
clip-over limit h b is message =
    let o = over-by limit h.kind h.len is in
    (o.0, long-turn b (omega (arith, o.1, message.whole)))
  where
    long-turn : (b : List ℕ) → limit < length b → turn.ClipOver ≡ clip_turn limit b
    long-turn b long = grind (arith, nat_tests)

-- ---- the session's own words for clipboard data in front

-- behind the version word alone there are messages
pub greeted-by : (g : Bool) (r : List ℕ) (h : Header) (b behind : List ℕ) → front g r ≡ Takes (Whole h b) behind → g ≡ true
greeted-by true r h b behind e = refl
greeted-by false r h b behind e = by (nat_lt (length r) 4) e
  where
    by : (t : Bool) → cond t Wait (Takes (Word (word_at 0 r)) (drop 4 r)) ≡ Takes (Whole h b) behind → false ≡ true
    by true e = absurd cc
    by false e = absurd cc

pub clip-greeted : (s : Received) → HasClip s → s.greeted ≡ true
clip-greeted s clip = let c = clip.1.1 in greeted-by s.greeted c.rest clip.0 clip.1.0 c.behind c.takes

pub kept-clip : (limit : ℕ) (s : Received) → HasKeptClip limit s → HasClip s
kept-clip limit s clip = (clip.0, (clip.1.0, clip.1.1.0))

pub clip-unit : (s : Received) → HasClip s → HasUnit s
clip-unit s clip =
    let c = clip.1.1 in
    record { rest = c.rest; unit = Whole clip.0 clip.1.0; behind = c.behind; stands = c.stands; takes = c.takes }

-- what is shown of clipboard data in front
pub clip-shown : (s : Received) (h : Header) (b : List ℕ) → BeginsWithClip s h b
    → (r : List ℕ) × (StandsFor s r × (shown.shown s.limit r ≡ cond (is_passed_over s.limit h) (shown.Skipped h) (shown.Whole h b)))
clip-shown s h b c =
    let g : s.greeted ≡ true = greeted-by s.greeted c.rest h b c.behind c.takes in
    (c.rest, (c.stands, ap (shown_of s.limit c.rest) (ap (λ t. front t c.rest) (sym g) ∙ c.takes)))

body-by : (over : Bool) (h g : Header) (b c : List ℕ) → cond over (shown.Skipped h) (shown.Whole h b) ≡ shown.Whole g c → c ≡ b
body-by true h g b c e = absurd cc
body-by false h g b c e = cc

-- the body that is shown whole is that of the clipboard data in front
pub clip-body : (s : Received) (g : Header) (c : List ℕ) → ((r : List ℕ) → StandsFor s r → shown.Whole g c ≡ shown.shown s.limit r)
    → (h : Header) (b : List ℕ) → BeginsWithClip s h b → c ≡ b
clip-body s g c shows h b begins =
    let x = clip-shown s h b begins in
    body-by (is_passed_over s.limit h) h g b c (sym x.1.1 ∙ sym (shows x.0 x.1.0))

abbrev IsWhole : BorrowedFront → Type 0
IsWhole front = (h : Header) × ((b : _) × (front ≡ borrowed.Whole h b))

seen-whole : (front : BorrowedFront) (h : Header) (b : List ℕ) → seen front ≡ shown.Whole h b → IsWhole front
seen-whole (borrowed.Whole header body) h b e = (header, (body, refl))
seen-whole (borrowed.Bad header fault) h b e = absurd cc
seen-whole (borrowed.ClipLong header) h b e = absurd cc
seen-whole (borrowed.Skipped header) h b e = absurd cc
seen-whole (borrowed.Skipping left) h b e = absurd cc
seen-whole (borrowed.Need more) h b e = absurd cc

short-kept : (limit kind len : ℕ) → len ≤ limit → (kind == 140 && (nat_lt limit len && nat_le len 256000)) ≡ false
short-kept limit kind len short = grind (arith, nat_tests)

-- clipboard data whose body is kept is shown whole
pub clip-is_whole : (s : Received) (front : BorrowedFront) → ((r : List ℕ) → StandsFor s r → seen front ≡ shown.shown s.limit r) → HasKeptClip s.limit s → IsWhole front
clip-is_whole s borrowed_front shows clip =
    let h = clip.0 in
    let b = clip.1.0 in
    let c = clip.1.1.0 in
    let g = greeted-by s.greeted c.rest h b c.behind c.takes in
    let message = message-is c.rest h b c.behind (ap (λ t. front t c.rest) (sym g) ∙ c.takes) in
    let kept : is_passed_over s.limit h ≡ false = short-kept s.limit h.kind h.len (omega (arith, message.whole, clip.1.1.1)) in
    let x = clip-shown s h b c in
    seen-whole borrowed_front h b (shows x.0 x.1.0 ∙ x.1.1 ∙ ap (λ o. cond o (shown.Skipped h) (shown.Whole h b)) kept)

-- ---- a fault

cause-same : (f : WireFault) → caller.cause_of f ≡ cause_of f
cause-same (Kind kind) = refl
cause-same (Length len) = refl

pub fault-is : (limit : ℕ) (r : List ℕ) (h : Header) (f : WireFault) → shown.shown limit r ≡ shown.Bad h f → front true r ≡ Fault (cause_of f)
fault-is limit r h f e = caller.shown-fault limit r h f e ∙ ap Fault (cause-same f)
