-- What a caller may conclude from a turn: that clipboard data may be read, and what stays.
use Rattle.std.proofs.Common.{◌≡◌, ℕ, ◌≤◌, Bool, true, false, cond, nat_le, List, length, Option, Some, None, refl, sym, ap, ◌∙◌, subst, eqb-true, arith}
use Rattle.std.specs.Prelude.{◌==◌, ◌<◌}
use Rattle.std.proofs.lemmas.Bool.{leb-true}
use Rattle.gui_wire.specs.declared.Header.{Header}
use Rattle.desk_laws.specs.declared.cause.Cause.{Cause}
use Rattle.desk_laws.specs.Sizes.{Sizes}
use Rattle.desk_laws.specs.Stream as cut
use Rattle.desk_laws.specs.Stream.{StreamUnit, Front, Word, Stop, Whole, Fault, Takes, front}
use Rattle.desk_laws.specs.Effects.{Verdict, Ends, Greets, Goes, Reads, verdict}
use Rattle.desk_laws.specs.Frames.{PortState}
use Rattle.desk_laws.specs.Scene.{Post}
use Rattle.in_stream.specs.Received.{StandsFor}
use Rattle.in_stream.proofs.CallerLemmas.{some_rest, stands-some_rest}
use Rattle.guest_session.specs.declared.turn.Turn.{Turn}
use Rattle.guest_session.specs.declared.turn.Turn.TheVariants.{Wait, ClipWhole, ClipOver, Ended}
use Rattle.guest_session.specs.SessionView.{SessionView}
use Rattle.guest_session.specs.Clips.{HasKeptClip, is_clip}
use Rattle.guest_session.specs.Turns.{Turns, TakesUnit, Decides, window_of}

-- clipboard data that is kept stands in front, and the turn changed nothing
pub record FoundClip (old new : SessionView) (f : Front) : Type 0 where
  pub header : Header
  pub body : List ℕ
  pub behind : List ℕ
  pub takes : f ≡ Takes (Whole header body) behind
  pub clip : header.kind ≡ 140
  pub short : length body ≤ old.sizes.clip_limit
  pub same : new ≡ old

kept-by : (b : Bool) → ClipWhole ≡ cond b ClipWhole ClipOver → b ≡ true
kept-by true e = refl
kept-by false e = absurd cc

module _ {O : Type 0} (takes : O → Post → O → Type 0) (out out' : O) (port port' : PortState) (old new : SessionView) where
  decides-other : (turn : Turn) (window : ℕ) (behind : List ℕ) (v : Verdict) → Decides takes out out' port port' old new turn window behind v → turn ≡ ClipWhole → ⊥
  decides-other turn window behind (Ends cause) done is = let e : ClipWhole ≡ Ended cause = sym is ∙ done.answer in cc
  decides-other turn window behind (Greets minor answers) done is = let e = sym is ∙ done.answer in cc
  decides-other turn window behind (Goes change answers) done is = let e = sym is ∙ done.answer in cc
  decides-other turn window behind (Reads row area) done is = let e = sym is ∙ done.answer in cc

  clip-by : (turn : Turn) (header : Header) (body behind : List ℕ) (b : Bool) → (header.kind == 140) ≡ b
      → TakesUnit takes out out' port port' old new turn (Whole header body) behind b → turn ≡ ClipWhole → FoundClip old new (Takes (Whole header body) behind)
  clip-by turn header body behind true kind done is = record {
    header = header;
    body = body;
    behind = behind;
    takes = refl;
    clip = eqb-true header.kind 140 kind;
    short = leb-true (length body) old.sizes.clip_limit (kept-by (nat_le (length body) old.sizes.clip_limit) (sym is ∙ done.answer));
    same = done.stays.session;
  }
  clip-by turn header body behind false kind done is =
      absurd (decides-other turn header.window behind (verdict old.sizes old.guest old.minor old.rows (Whole header body)) done is)

  pub turn-found : (turn : Turn) (f : Front) → Turns takes out out' port port' old new turn f → turn ≡ ClipWhole → FoundClip old new f
  turn-found turn cut.Wait done is = let e : ClipWhole ≡ Wait = sym is ∙ done.answer in absurd cc
  turn-found turn (Fault cause) done is = let e : ClipWhole ≡ Ended cause = sym is ∙ done.answer in absurd cc
  turn-found turn (Takes (Word word) behind) done is = absurd (decides-other turn 0 behind (verdict old.sizes old.guest old.minor old.rows (Word word)) done is)
  turn-found turn (Takes (Stop cause) behind) done is = absurd (decides-other turn 0 behind (verdict old.sizes old.guest old.minor old.rows (Stop cause)) done is)
  turn-found turn (Takes (Whole header body) behind) done is = clip-by turn header body behind (header.kind == 140) refl done is

-- a session shows the clipboard data that its turn found
pub found-kept : (old new : SessionView) (rest : List ℕ) → StandsFor old.stream rest → FoundClip old new (front old.stream.greeted rest) → HasKeptClip new.sizes.clip_limit new.stream
found-kept old new rest stands found =
    let P : SessionView → Type 0 = λ s. HasKeptClip s.sizes.clip_limit s.stream in
    subst P (sym found.same)
    (found.header, (found.body, (record { rest = rest; behind = found.behind; stands = stands; takes = found.takes; clip = found.clip }, found.short)))

-- the guest and the numbers of the setup stay
pub record Kept (old new : SessionView) : Type 0 where
  pub guest : new.guest ≡ old.guest
  pub sizes : new.sizes ≡ old.sizes

kept-of : (old new : SessionView) → new ≡ old → Kept old new
kept-of old new e = record { guest = ap (λ (s : SessionView). s.guest) e; sizes = ap (λ (s : SessionView). s.sizes) e }

module _ {O : Type 0} (takes : O → Post → O → Type 0) (out out' : O) (port port' : PortState) (old new : SessionView) where
  decides-kept : (turn : Turn) (window : ℕ) (behind : List ℕ) (v : Verdict) → Decides takes out out' port port' old new turn window behind v → Kept old new
  decides-kept turn window behind (Ends cause) done = record { guest = done.ended.guest; sizes = done.ended.sizes }
  decides-kept turn window behind (Greets minor answers) done =
      record { guest = ap (λ (s : SessionView). s.guest) done.session; sizes = ap (λ (s : SessionView). s.sizes) done.session }
  decides-kept turn window behind (Goes change answers) done =
      record { guest = ap (λ (s : SessionView). s.guest) done.session; sizes = ap (λ (s : SessionView). s.sizes) done.session }
  decides-kept turn window behind (Reads row area) done =
      record { guest = ap (λ (s : SessionView). s.guest) done.session; sizes = ap (λ (s : SessionView). s.sizes) done.session }

  unit-kept : (turn : Turn) (unit : StreamUnit) (behind : List ℕ) (b : Bool) → TakesUnit takes out out' port port' old new turn unit behind b → Kept old new
  unit-kept turn unit behind true done = kept-of old new done.stays.session
  unit-kept turn unit behind false done = decides-kept turn (window_of unit) behind (verdict old.sizes old.guest old.minor old.rows unit) done

  front-kept : (turn : Turn) (f : Front) → Turns takes out out' port port' old new turn f → Kept old new
  front-kept turn cut.Wait done = kept-of old new done.stays.session
  front-kept turn (Fault cause) done = record { guest = done.ended.guest; sizes = done.ended.sizes }
  front-kept turn (Takes unit behind) done = unit-kept turn unit behind (is_clip unit) done

-- a turn, also one after the end, leaves them
pub turn-kept : {O : Type 0} (takes : O → Post → O → Type 0) (out out' : O) (port port' : PortState) (old new : SessionView) (turn : Turn)
    → (old.ended ≡ None → (rest : List ℕ) → StandsFor old.stream rest → Turns takes out out' port port' old new turn (front old.stream.greeted rest))
    → ((cause : Cause) → old.ended ≡ Some cause → new ≡ old) → Kept old new
turn-kept takes out out' port port' old new turn goes over = by old.ended refl
  where
    by : (o : Option Cause) → old.ended ≡ o → Kept old new
    by None e =
        front-kept takes out out' port port' old new turn (front old.stream.greeted (some_rest old.stream))
        (goes e (some_rest old.stream) (stands-some_rest old.stream))
    by (Some cause) e = kept-of old new (over cause e)

-- so a port with frames for the guest has them afterwards
pub still-below : (old new : SessionView) (n n' : ℕ) → Kept old new → n' ≡ n → old.guest < n → new.guest < n'
still-below old new n n' kept same below = omega (arith, kept.guest, same, below)

pub still-room : (old new : SessionView) (n : ℕ) → Kept old new → n ≤ old.sizes.clip_limit → n ≤ new.sizes.clip_limit
still-room old new n kept room =
    let P : Sizes → Type 0 = λ s. n ≤ s.clip_limit in
    subst P (sym kept.sizes) room

pub still-as_many : (old new : SessionView) (n n' : ℕ) → Kept old new → n' ≡ n → n ≡ old.sizes.pages → n' ≡ new.sizes.pages
still-as_many old new n n' kept same is = same ∙ is ∙ ap (λ (s : Sizes). s.pages) (sym kept.sizes)
