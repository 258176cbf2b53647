-- What a turn did, by what stood in front.
use Rattle.std.proofs.Common.{◌≡◌, ℕ, ◌/◌, ◌%◌, Bool, true, cond, List, [], Option, Some, None, refl, sym, ap, ◌∙◌, subst}
use Rattle.std.specs.Prelude.{Result, Ok, Err}
use Rattle.std.proofs.lemmas.Bool.{eq-eqb, ne_eqb}
use Rattle.gui_num.specs.declared.Rect.{Rect}
use Rattle.gui_wire.specs.declared.Header.{Header}
use Rattle.desk_laws.specs.declared.cause.Cause.{Cause}
use Rattle.desk_laws.specs.declared.cause.Cause.TheVariants.{BadVersion}
use Rattle.desk_laws.specs.Sizes.{Sizes}
use Rattle.desk_laws.specs.Frames.{PortState}
use Rattle.desk_laws.specs.Stream as cut
use Rattle.desk_laws.specs.Stream.{StreamUnit, Word, Whole, Front, Fault, Takes, front}
use Rattle.desk_laws.specs.Effects.{Verdict, Ends, Greets, Goes, Reads, verdict, greeting}
use Rattle.desk_laws.specs.Scene.{Post, replies}
use Rattle.io_ports.specs.Posts.{Leads}
use Rattle.in_stream.specs.Received.{Received, StandsFor}
use Rattle.guest_session.specs.declared.turn.Turn.{Turn}
use Rattle.guest_session.specs.declared.turn.Turn.TheVariants.{Wait, Changed, Ended}
use Rattle.guest_session.specs.SessionView.{SessionView}
use Rattle.guest_session.specs.RowsView.{RowsView}
use Rattle.guest_session.specs.Obeyed.{Carries}
use Rattle.guest_session.specs.Reading.{drawn_by}
use Rattle.guest_session.specs.Parts.{joined}
use Rattle.guest_session.specs.Turns.{Turns, TakesUnit, Decides, EndsFor, clip_turn}

module _ {O : Type 0} (takes : O → Post → O → Type 0) (out : O) (port : PortState) (sizes : Sizes) (stream : Received) (rows : RowsView) (minor : ℕ) where
  abbrev session : SessionView
  session = joined sizes stream rows minor None

  pub turn-along : (out' : O) (port' : PortState) (new : SessionView) (turn : Turn) (f f' : Front) → f ≡ f'
      → Turns takes out out' port port' session new turn f' → Turns takes out out' port port' session new turn f
  turn-along out' port' new turn f f' e done =
      let P : Front → Type 0 = λ x. Turns takes out out' port port' session new turn x in subst P (sym e) done

  -- nothing whole stands in front
  pub turn-waits : (f : Front) → f ≡ cut.Wait → Turns takes out out port port session session Wait f
  turn-waits f e =
      turn-along out port session Wait f cut.Wait e (record { answer = refl; stays = record { session = refl; silent = refl; unread = refl } })

  -- the session ended for a cause
  ends-for : (rows' : RowsView) (cause : Cause) → rows' ≡ record rows { rows = [] } → EndsFor out out port port session (joined sizes stream rows' minor (Some cause)) (Ended cause) cause
  ends-for rows' cause gone = record {
    answer = refl;
    ended = record {
      ended = refl;
      rows = ap (λ (v : RowsView). v.rows) gone;
      guest = ap (λ (v : RowsView). v.guest) gone;
      sizes = refl;
      minor = refl;
    };
    silent = refl;
    unread = refl;
  }

  -- a fault stands in front
  pub turn-faults : (f : Front) (rows' : RowsView) (cause : Cause) → f ≡ Fault cause → rows' ≡ record rows { rows = [] }
      → Turns takes out out port port session (joined sizes stream rows' minor (Some cause)) (Ended cause) f
  turn-faults f rows' cause e gone =
      turn-along out port (joined sizes stream rows' minor (Some cause)) (Ended cause) f (Fault cause) e (ends-for rows' cause gone)

  -- clipboard data stands in front
  pub turn-clip : (f : Front) (header : Header) (body behind : List ℕ) (turn : Turn) → f ≡ Takes (Whole header body) behind → header.kind ≡ 140 → turn ≡ clip_turn sizes.clip_limit body
      → Turns takes out out port port session session turn f
  turn-clip f header body behind turn e is answer =
      let P : Bool → Type 0 = λ b. TakesUnit takes out out port port session session turn (Whole header body) behind b in
      turn-along out port session turn f (Takes (Whole header body) behind) e
      (subst P (sym (eq-eqb header.kind 140 is)) (record { answer = answer; stays = record { session = refl; silent = refl; unread = refl } }))

  -- another message stands in front
  pub turn-message : (f : Front) (header : Header) (body behind : List ℕ) (out' : O) (port' : PortState) (new : SessionView) (turn : Turn) → f ≡ Takes (Whole header body) behind → (header.kind ≡ 140 → ⊥)
      → Decides takes out out' port port' session new turn header.window behind (verdict sizes rows.guest minor rows.rows (Whole header body))
      → Turns takes out out' port port' session new turn f
  turn-message f header body behind out' port' new turn e other done =
      let P : Bool → Type 0 = λ b. TakesUnit takes out out' port port' session new turn (Whole header body) behind b in
      turn-along out' port' new turn f (Takes (Whole header body) behind) e (subst P (sym (ne_eqb header.kind 140 other)) done)

  -- a message was taken
  pub accepted-decides : (out' : O) (port' : PortState) (stream' : Received) (new : RowsView) (drawn : Option Rect) (window : ℕ) (behind : List ℕ) (v : Verdict)
      → Carries takes out out' port port' rows new (Ok drawn) v → stream'.greeted ≡ true → StandsFor stream' behind
      → Decides takes out out' port port' session (joined sizes stream' new minor None) (Changed window drawn) window behind v
  accepted-decides out' port' stream' new drawn window behind (Ends cause) done greeted stands =
      let e : Ok drawn ≡ Err cause = done.answer in absurd cc
  accepted-decides out' port' stream' new drawn window behind (Greets m answers) done greeted stands = absurd done
  accepted-decides out' port' stream' new drawn window behind (Goes change answers) done greeted stands =
      let e : Ok drawn ≡ Ok None = done.answer in
      let none : drawn ≡ None = cc in
      record {
        answer = ap (Changed window) none;
        told = done.done.told;
        frames = done.unread;
        session = ap (λ (v : RowsView). joined sizes stream' v minor None) done.done.rows;
        greeted = greeted;
        stands = stands;
      }
  accepted-decides out' port' stream' new drawn window behind (Reads row area) done greeted stands =
      let e : Ok drawn ≡ Ok (drawn_by area) = done.read.answer in
      let same : drawn ≡ drawn_by area = cc in
      record {
        answer = ap (Changed window) same;
        told = sym done.silent;
        frames = done.read.frames;
        session = ap (λ (v : RowsView). joined sizes stream' v minor None) done.read.rows;
        greeted = greeted;
        stands = stands;
      }

  -- a message was refused
  pub refused-decides : (out' : O) (port' : PortState) (new rows' : RowsView) (cause : Cause) (window : ℕ) (behind : List ℕ) (v : Verdict)
      → Carries takes out out' port port' rows new (Err cause) v → rows' ≡ record new { rows = [] }
      → Decides takes out out' port port' session (joined sizes stream rows' minor (Some cause)) (Ended cause) window behind v
  refused-decides out' port' new rows' cause window behind (Ends cause') done gone =
      let e : Err cause ≡ Err cause' = done.answer in
      let same : cause ≡ cause' = cc in
      let base = ends-for rows' cause (gone ∙ ap (λ (v : RowsView). let w : RowsView = record v { rows = [] } in w) done.rows) in
      record {
        answer = ap Ended same;
        ended = record {
          ended = ap Some same;
          rows = base.ended.rows;
          guest = base.ended.guest;
          sizes = refl;
          minor = refl;
        };
        silent = done.silent;
        unread = done.unread;
      }
  refused-decides out' port' new rows' cause window behind (Greets m answers) done gone = absurd done
  refused-decides out' port' new rows' cause window behind (Goes change answers) done gone =
      let e : Err cause ≡ Ok None = done.answer in absurd cc
  refused-decides out' port' new rows' cause window behind (Reads row area) done gone =
      let e : Err cause ≡ Ok (drawn_by area) = done.read.answer in absurd cc

  -- the version word of a known major version
  pub turn-greets : (f : Front) (word : ℕ) (behind : List ℕ) (out' : O) (stream' : Received) → f ≡ Takes (Word word) behind → word / 65536 ≡ 1
      → Leads takes out (replies rows.guest (greeting sizes (word % 65536))) out' → stream'.greeted ≡ true → StandsFor stream' behind
      → Turns takes out out' port port session (joined sizes stream' rows (word % 65536) None) (Changed 0 None) f
  turn-greets f word behind out' stream' e major told greeted stands =
      let new = joined sizes stream' rows (word % 65536) None in
      let v = Greets (word % 65536) (greeting sizes (word % 65536)) in
      let P : Verdict → Type 0 = λ w. Decides takes out out' port port session new (Changed 0 None) 0 behind w in
      turn-along out' port new (Changed 0 None) f (Takes (Word word) behind) e
      (subst P (sym (ap (λ b. cond b v (Ends (BadVersion word 0))) (eq-eqb (word / 65536) 1 major)))
      (record { answer = refl; told = told; frames = refl; session = refl; greeted = greeted; stands = stands }))

-- the numbers of pages and tiles stay, and the guest does
pub record SameNumbers (old new : RowsView) : Type 0 where
  pub pages : new.pages ≡ old.pages
  pub tiles : new.tiles ≡ old.tiles

numbers-of : (old v new : RowsView) → v.pages ≡ old.pages → v.tiles ≡ old.tiles → new ≡ v → SameNumbers old new
numbers-of old v new pages tiles e = record {
  pages = ap (λ (r : RowsView). r.pages) e ∙ pages;
  tiles = ap (λ (r : RowsView). r.tiles) e ∙ tiles;
}

pub carries-numbers : {O : Type 0} (takes : O → Post → O → Type 0) (out out' : O) (port port' : PortState) (old new : RowsView) (result : Result (Option Rect) Cause) (v : Verdict)
    → Carries takes out out' port port' old new result v → SameNumbers old new
carries-numbers takes out out' port port' old new result (Ends cause) done = numbers-of old old new refl refl done.rows
carries-numbers takes out out' port port' old new result (Greets m answers) done = absurd done
carries-numbers takes out out' port port' old new result (Goes change answers) done = numbers-of old _ new refl refl done.done.rows
carries-numbers takes out out' port port' old new result (Reads row area) done = numbers-of old _ new refl refl done.read.rows
