-- What each answer of a turn says of the part.
use Rattle.std.proofs.Common.{◌≡◌, ℕ, ◌+◌, ◌<◌, ◌≤◌, Bool, true, false, List, length, Option, Some, None, refl, sym, ◌∙◌, ap, subst, arith}
use Rattle.std.specs.Prelude.{if◌then◌else◌, nat_le}
use Rattle.std.proofs.lemmas.Bool.{eqb-true, leb-true}
use Rattle.std.proofs.lemmas.Bool.Decides.{nat_tests}
use Rattle.gui_num.specs.declared.Rect.{Rect}
use Rattle.gui_wire.specs.declared.Header.{Header}
use Rattle.desk_laws.specs.declared.cause.Cause.{Cause}
use Rattle.desk_laws.specs.declared.row_id.RowId.{RowId}
use Rattle.desk_laws.specs.declared.setup.Setup.{Setup}
use Rattle.desk_laws.specs.Stream as stream
use Rattle.desk_laws.specs.Stream.{StreamUnit, Word, Stop, Whole, Front, Fault, Takes, front}
use Rattle.desk_laws.specs.Clipboard.{give}
use Rattle.desk_laws.specs.Sizes.{Sizes}
use Rattle.desk_laws.specs.Rows.{Row, row_with}
use Rattle.desk_laws.specs.Layers.{Layers, departed, is_in, relayered, entered}
use Rattle.desk_laws.specs.Frames.{PortState, counted}
use Rattle.desk_laws.specs.Effects.{Ends, Goes, Greets, Reads, Verdict, verdict}
use Rattle.desk_laws.specs.Following.{after_row, without_guest}
use Rattle.desk_laws.specs.Scene.{Post, Ended}
use Rattle.desk_laws.specs.State.{DeskState}
use Rattle.in_stream.specs.Received.{StandsFor}
use Rattle.in_stream.specs.Taking.{DropsUnit}
use Rattle.clipboard_gate.specs.Kept.{GateView, keeping}
use Rattle.guest_session.specs.declared.turn.Turn.{Turn}
use Rattle.guest_session.specs.declared.turn.Turn.TheVariants as turns
use Rattle.guest_session.specs.SessionView.{SessionView, AreRows, HasRows, with_stream}
use Rattle.guest_session.specs.Clips.{is_clip, body_in, BeginsWithClip, HasClip, HasKeptClip}
use Rattle.guest_session.specs.Turns.{Turns, TakesUnit, Decides, clip_turn, window_of}
use Rattle.desk_core.specs.declared.windows.Told.TheVariants as answers
use Rattle.desk_core.specs.Telling.{TookTold, answer_of}
use Rattle.desk_core.specs.WindowsView.{PartView}
use Rattle.desk_core.specs.WindowsStand.{PartStands, glances_in}
use Rattle.desk_core.specs.Pieces.{Drained}
use Rattle.desk_core.specs.Stacked.{id_in, layer_in, after_layer}
use Rattle.desk_core.proofs.EndStands.{Forgets}
use Rattle.desk_core.proofs.StandLemmas.{moved}
use Rattle.desk_core.proofs.UnitTurns.{stays-told}
use Rattle.desk_core.proofs.ChangedTurns.{turn-changed, not-changed-clip}
use Rattle.desk_core.proofs.ClipTurns.{IsClipTurn, ShownClip, shown-clip, clip-took}
use Rattle.desk_core.proofs.EndedTurns.{turn-ended, not-ended}
use Rattle.desk_core.proofs.WaitTurns.{turn-waits}
use Rattle.desk_core.proofs.ShorterTurns.{turn-shorter, shorter-behind}

-- what `turn` ensures of a session that is open, and of one that has ended
abbrev pub Turned : {O : Type 0} → (O → Post → O → Type 0) → O → O → PortState → PortState → SessionView → SessionView → Turn → Type 0
Turned takes out out' port port' old new turn =
    old.ended ≡ None → (rest : List ℕ) → StandsFor old.stream rest → Turns takes out out' port port' old new turn (front old.stream.greeted rest)

abbrev pub Over : {O : Type 0} → O → O → PortState → PortState → SessionView → SessionView → Turn → Type 0
Over out out' port port' old new turn =
    (cause : Cause) → old.ended ≡ Some cause → (turn ≡ turns.Wait) × (new ≡ old) × (out' ≡ out) × (port' ≡ port)

-- whether a turn did something
abbrev pub IsBusy : Turn → Type 0
IsBusy turns.Wait = ⊥
IsBusy (turns.Changed window drawn) = Unit {0}
IsBusy turns.ClipWhole = Unit {0}
IsBusy turns.ClipOver = Unit {0}
IsBusy (turns.Ended cause) = Unit {0}

pub busy-going : {O : Type 0} (out out' : O) (port port' : PortState) (old new : SessionView) (turn : Turn) → IsBusy turn → Over out out' port port' old new turn → old.ended ≡ None
busy-going out out' port port' old new turn busy over = by_end old.ended refl
  where
    by_end : (e : Option Cause) → old.ended ≡ e → old.ended ≡ None
    by_end None e = e
    by_end (Some cause) e = let P : Turn → Type 0 = λ t. IsBusy t in absurd (subst P (over cause e).0 busy)

-- ---- Changed

-- a turn that answers Changed leaves the guest's number
changed-same : {O : Type 0} (takes : O → Post → O → Type 0) (out out' : O) (port port' : PortState) (old new : SessionView) (window : ℕ) (drawn : Option Rect) (f : Front)
    → Turns takes out out' port port' old new (turns.Changed window drawn) f → new.guest ≡ old.guest
changed-same takes out out' port port' old new window drawn stream.Wait t = let e = t.answer in absurd (cc)
changed-same takes out out' port port' old new window drawn (Fault cause) t = let e = t.answer in absurd (cc)
changed-same takes out out' port port' old new window drawn (Takes unit behind) t = by_clip (is_clip unit) t
  where
    by_verdict : (v : Verdict) → Decides takes out out' port port' old new (turns.Changed window drawn) (window_of unit) behind v → new.guest ≡ old.guest
    by_verdict (Ends c) d = let e = d.answer in absurd (cc)
    by_verdict (Greets minor answers) d = ap (λ (s : SessionView). s.guest) d.session
    by_verdict (Goes change answers) d = ap (λ (s : SessionView). s.guest) d.session
    by_verdict (Reads row area) d = ap (λ (s : SessionView). s.guest) d.session

    by_clip : (b : Bool) → TakesUnit takes out out' port port' old new (turns.Changed window drawn) unit behind b → new.guest ≡ old.guest
    by_clip true t = absurd (not-changed-clip window drawn _ t.answer)
    by_clip false t = by_verdict (verdict old.sizes old.guest old.minor old.rows unit) t

row-layer : (id : RowId) (row : Option Row) (layers : Layers) → after_layer id (layer_in row) layers ≡ after_row id row layers
row-layer id None layers = refl
row-layer id (Some row) layers = by_mapped row.mapped
  where
    by_mapped : (m : Bool) → after_layer id (if m then Some row.over else None) layers ≡ (if m then if is_in layers.focus id then relayered id row.over layers else entered id row.over layers else departed id layers)
    by_mapped true = refl
    by_mapped false = refl

-- data that is shown whole is no longer than the limit, and other data is
whole-short : (limit : ℕ) (body : List ℕ) → turns.ClipWhole ≡ clip_turn limit body → length body ≤ limit
whole-short limit body e = by_length (nat_le (length body) limit) refl e
  where
    by_length : (b : Bool) → nat_le (length body) limit ≡ b → turns.ClipWhole ≡ (if b then turns.ClipWhole else turns.ClipOver) → length body ≤ limit
    by_length true is e = leb-true (length body) limit is
    by_length false is e = cc

pub over-long : (limit : ℕ) (body : List ℕ) → turns.ClipOver ≡ clip_turn limit body → limit < length body
over-long limit body e = by_length (nat_le (length body) limit) refl e
  where
    by_length : (b : Bool) → nat_le (length body) limit ≡ b → turns.ClipOver ≡ (if b then turns.ClipWhole else turns.ClipOver) → limit < length body
    by_length true is e = cc
    by_length false is e = grind (arith, nat_tests)

module _ {O : Type 0} (takes : O → Post → O → Type 0) (out out' : O) (setup : Setup) (guest : ℕ) (held : List ℕ) (part : PartView) (new : SessionView) (port port' : PortState) (state : DeskState) (stands : PartStands setup guest held part port state) where
  pub exit-changed : (window : ℕ) (drawn : Option Rect) (layer : Option Bool) (layers : Layers) (messages glances : ℕ)
      → Turned takes out out' port port' part.session new (turns.Changed window drawn) → Over out out' port port' part.session new (turns.Changed window drawn)
      → HasRows new → layer ≡ layer_in (row_with window new.rows) → layers ≡ after_layer (id_in guest window) layer part.layers
      → messages ≡ counted (part.messages + (if part.session.stream.greeted then 1 else 0)) → glances ≡ counted (part.glances + glances_in drawn)
      → TookTold takes out out' (answer_of drawn) setup guest held part (moved new layers part.gate messages glances) port' state
  exit-changed window drawn layer layers messages glances turned over own in_layer made count seen =
      let going = busy-going out out' port port' part.session new (turns.Changed window drawn) tt over in
      let t = turned going held (stands.opened going).stream in
      let P : ℕ → Type 0 = λ g. AreRows g new.rows in
      let whose : new.guest ≡ guest = changed-same takes out out' port port' part.session new window drawn (front part.session.stream.greeted held) t ∙ stands.owner in
      turn-changed takes out out' setup guest held part new window drawn layers messages glances port port' state (front part.session.stream.greeted held) stands going refl t
      (subst P whose own)
      (made ∙ ap (λ l. after_layer (id_in guest window) l part.layers) in_layer ∙ row-layer (id_in guest window) (row_with window new.rows) part.layers)
      count seen

  pub exit-fewer : (window : ℕ) (drawn : Option Rect) → Turned takes out out' port port' part.session new (turns.Changed window drawn) → Over out out' port port' part.session new (turns.Changed window drawn)
      → length new.stream.held + new.stream.skipped < length part.session.stream.held + part.session.stream.skipped
  exit-fewer window drawn turned over =
      let going = busy-going out out' port port' part.session new (turns.Changed window drawn) tt over in
      let holds = (stands.opened going).stream in
      turn-shorter takes out out' port port' part.session new window drawn held (front part.session.stream.greeted held) holds refl (turned going held holds)

  -- ---- clipboard data

  pub exit-shown : (turn : Turn) → IsBusy turn → IsClipTurn turn → Turned takes out out' port port' part.session new turn → Over out out' port port' part.session new turn
      → ShownClip out out' port port' part.session new turn (front part.session.stream.greeted held)
  exit-shown turn busy clip turned over =
      let going = busy-going out out' port port' part.session new turn busy over in
      shown-clip takes out out' port port' part.session new turn (front part.session.stream.greeted held) clip (turned going held (stands.opened going).stream)

  pub exit-has_clip : (turn : Turn) → IsBusy turn → IsClipTurn turn → Turned takes out out' port port' part.session new turn → Over out out' port port' part.session new turn → HasClip new.stream
  exit-has_clip turn busy clip turned over =
      let going = busy-going out out' port port' part.session new turn busy over in
      let shown = exit-shown turn busy clip turned over in
      let P : SessionView → Type 0 = λ s. HasClip s.stream in
      subst P (sym shown.same) (by_unit shown.unit shown.is shown.clip (stands.opened going).stream)
    where
      by_unit : (unit : StreamUnit) {behind : List ℕ} → front part.session.stream.greeted held ≡ Takes unit behind → is_clip unit ≡ true → StandsFor part.session.stream held → HasClip part.session.stream
      by_unit (Word word) is clip holds = absurd (cc)
      by_unit (Stop cause) is clip holds = absurd (cc)
      by_unit (Whole header body) {behind = behind} is clip holds =
          (header, (body, record { rest = held; behind = behind; stands = holds; takes = is; clip = eqb-true header.kind 140 clip }))

  -- the clipboard holds as much as the session takes
  limit-same : part.session.sizes.clip_limit ≡ part.gate.limit
  limit-same = ap (λ (s : Sizes). s.clip_limit) stands.sizes ∙ sym (ap (λ (g : GateView). g.limit) stands.gate)

  -- data that is kept is there
  pub exit-has_kept : Turned takes out out' port port' part.session new turns.ClipWhole → Over out out' port port' part.session new turns.ClipWhole → HasKeptClip new.sizes.clip_limit new.stream
  exit-has_kept turned over =
      let going = busy-going out out' port port' part.session new turns.ClipWhole tt over in
      let shown = exit-shown turns.ClipWhole tt tt turned over in
      let P : SessionView → Type 0 = λ s. HasKeptClip s.sizes.clip_limit s.stream in
      subst P (sym shown.same) (by_unit shown.unit shown.is shown.clip shown.answer (stands.opened going).stream)
    where
      by_unit : (unit : StreamUnit) {behind : List ℕ} → front part.session.stream.greeted held ≡ Takes unit behind → is_clip unit ≡ true → turns.ClipWhole ≡ clip_turn part.session.sizes.clip_limit (body_in unit) → StandsFor part.session.stream held
          → HasKeptClip part.session.sizes.clip_limit part.session.stream
      by_unit (Word word) is clip answer holds = absurd (cc)
      by_unit (Stop cause) is clip answer holds = absurd (cc)
      by_unit (Whole header body) {behind = behind} is clip answer holds =
          (header, (body, (record { rest = held; behind = behind; stands = holds; takes = is; clip = eqb-true header.kind 140 clip }, whole-short part.session.sizes.clip_limit body answer)))

  -- what the clipboard is given by a turn that shows this data
  abbrev pub GivenBy : Turn → GateView → Type 0
  GivenBy turn gate =
      (header : Header) (body : List ℕ) → BeginsWithClip new.stream header body → turn ≡ clip_turn part.gate.limit body
      → gate ≡ keeping part.gate.limit (give part.gate.limit guest body part.gate.clip)

  exit-given : (turn : Turn) (gate : GateView) → IsBusy turn → IsClipTurn turn → (turned : Turned takes out out' port port' part.session new turn) → (over : Over out out' port port' part.session new turn) → GivenBy turn gate
      → (shown : ShownClip out out' port port' part.session new turn (front part.session.stream.greeted held))
      → gate ≡ keeping part.gate.limit (give part.gate.limit guest (body_in shown.unit) part.gate.clip)
  exit-given turn gate busy clip turned over given shown =
      let going = busy-going out out' port port' part.session new turn busy over in
      let P : SessionView → Type 0 = λ s. StandsFor s.stream held in
      let holds : StandsFor new.stream held = subst P (sym shown.same) (stands.opened going).stream in
      let at : front new.stream.greeted held ≡ Takes shown.unit shown.behind = ap (λ (s : SessionView). front s.stream.greeted held) shown.same ∙ shown.is in
      by_unit shown.unit shown.behind at shown.clip (shown.answer ∙ ap (λ l. clip_turn l (body_in shown.unit)) limit-same) holds
    where
      by_unit : (unit : StreamUnit) (behind : List ℕ) → front new.stream.greeted held ≡ Takes unit behind → is_clip unit ≡ true → turn ≡ clip_turn part.gate.limit (body_in unit) → StandsFor new.stream held
          → gate ≡ keeping part.gate.limit (give part.gate.limit guest (body_in unit) part.gate.clip)
      by_unit (Word word) behind is clip answer holds = absurd (cc)
      by_unit (Stop cause) behind is clip answer holds = absurd (cc)
      by_unit (Whole header body) behind is clip answer holds =
          given header body (record { rest = held; behind = behind; stands = holds; takes = is; clip = eqb-true header.kind 140 clip }) answer

  -- the clipboard message was let go
  pub exit-clip : (turn : Turn) (last : SessionView) (gate : GateView) (messages : ℕ) → IsBusy turn → IsClipTurn turn → Turned takes out out' port port' part.session new turn → Over out out' port port' part.session new turn
      → last ≡ with_stream last.stream new → DropsUnit new.stream last.stream → last.stream.greeted ≡ true → GivenBy turn gate → messages ≡ counted (part.messages + 1)
      → TookTold takes out out' answers.Changed setup guest held part (moved last part.layers gate messages part.glances) port' state
  exit-clip turn last gate messages busy clip turned over same drops greeted given count =
      let going = busy-going out out' port port' part.session new turn busy over in
      let shown = exit-shown turn busy clip turned over in
      let P : SessionView → Type 0 = λ s. StandsFor s.stream held in
      let holds : StandsFor new.stream held = subst P (sym shown.same) (stands.opened going).stream in
      let at : front new.stream.greeted held ≡ Takes shown.unit shown.behind = ap (λ (s : SessionView). front s.stream.greeted held) shown.same ∙ shown.is in
      let Q : O → Type 0 = λ o. TookTold takes out o answers.Changed setup guest held part (moved last part.layers gate messages part.glances) port' state in
      subst Q (sym shown.silent)
      (clip-took takes out setup guest held shown.behind part last gate messages port port' state shown.unit stands going shown.is shown.clip
      (same ∙ ap (with_stream last.stream) shown.same) greeted (drops held shown.unit shown.behind holds at) shown.unread
      (exit-given turn gate busy clip turned over given shown) count)

  pub exit-clip_fewer : (turn : Turn) (last : SessionView) → IsBusy turn → IsClipTurn turn → Turned takes out out' port port' part.session new turn → Over out out' port port' part.session new turn
      → DropsUnit new.stream last.stream
      → length last.stream.held + last.stream.skipped < length part.session.stream.held + part.session.stream.skipped
  exit-clip_fewer turn last busy clip turned over drops =
      let going = busy-going out out' port port' part.session new turn busy over in
      let shown = exit-shown turn busy clip turned over in
      let P : SessionView → Type 0 = λ s. StandsFor s.stream held in
      let holds : StandsFor new.stream held = subst P (sym shown.same) (stands.opened going).stream in
      let at : front new.stream.greeted held ≡ Takes shown.unit shown.behind = ap (λ (s : SessionView). front s.stream.greeted held) shown.same ∙ shown.is in
      shorter-behind part.session.stream last.stream held shown.behind shown.unit (stands.opened going).stream (drops held shown.unit shown.behind holds at) shown.is

  -- ---- the session ended

  pub exit-ended : (last : O) (gate : GateView) (cause : Cause) → Forgets guest part.gate gate → Turned takes out out' port port' part.session new (turns.Ended cause) → Over out out' port port' part.session new (turns.Ended cause) → takes out' (Ended guest cause) last
      → TookTold takes out last answers.Ended setup guest held part (moved new (without_guest guest part.layers) gate part.messages part.glances) port' state
  exit-ended last gate cause forgotten turned over told =
      let going = busy-going out out' port port' part.session new (turns.Ended cause) tt over in
      turn-ended takes out out' last setup guest held part new gate cause port port' state (front part.session.stream.greeted held) stands going forgotten refl (turned going held (stands.opened going).stream) told

  -- ---- nothing whole is there

  pub exit-waits : Turned takes out out' port port' part.session new turns.Wait → Over out out' port port' part.session new turns.Wait → (new ≡ part.session) × (out' ≡ out) × (port' ≡ port)
  exit-waits turned over = by_end part.session.ended refl
    where
      by_end : (e : Option Cause) → part.session.ended ≡ e → (new ≡ part.session) × (out' ≡ out) × (port' ≡ port)
      by_end (Some cause) e = let o = over cause e in (o.1, o.2, o.3)
      by_end None e = let w = turn-waits takes out out' port port' part.session new (front part.session.stream.greeted held) (turned e held (stands.opened e).stream) in (w.1, w.2, w.3)

  pub exit-drained : Turned takes out out' port port' part.session new turns.Wait → Over out out' port port' part.session new turns.Wait → Drained part.session
  exit-drained turned over = λ going. record {
    held = held;
    stands = (stands.opened going).stream;
    waits = λ rest holds. (turn-waits takes out out' port port' part.session new (front part.session.stream.greeted rest) (turned going rest holds)).0;
  }

  pub exit-stays : Turned takes out out' port port' part.session new turns.Wait → Over out out' port port' part.session new turns.Wait → TookTold takes out out' answers.Waits setup guest held part (record part { session = new }) port' state
  exit-stays turned over =
      let w = exit-waits turned over in
      let P : SessionView → Type 0 = λ s. TookTold takes out out' answers.Waits setup guest held part (record part { session = s }) port' state in
      let Q : O → Type 0 = λ o. TookTold takes out o answers.Waits setup guest held part part port' state in
      subst P (sym w.0) (subst Q (sym w.1) (stays-told takes out setup guest held part port port' state stands w.2))

-- a turn that answers Ended ended the session
ended-now : {O : Type 0} (takes : O → Post → O → Type 0) (out out' : O) (port port' : PortState) (old new : SessionView) (cause : Cause) (f : Front) → Turns takes out out' port port' old new (turns.Ended cause) f → new.ended ≡ None → ⊥
ended-now takes out out' port port' old new cause stream.Wait t still = let e = t.answer in cc
ended-now takes out out' port port' old new cause (Fault c) t still = let e = t.ended.ended in cc
ended-now takes out out' port port' old new cause (Takes unit behind) t still = by_clip (is_clip unit) t
  where
    by_verdict : (v : Verdict) → Decides takes out out' port port' old new (turns.Ended cause) (window_of unit) behind v → ⊥
    by_verdict (Ends c) d = let e = d.ended.ended in cc
    by_verdict (Greets minor answers) d = let e = d.answer in cc
    by_verdict (Goes change answers) d = let e = d.answer in cc
    by_verdict (Reads row area) d = let e = d.answer in cc

    by_clip : (b : Bool) → TakesUnit takes out out' port port' old new (turns.Ended cause) unit behind b → ⊥
    by_clip true t = not-ended cause _ t.answer
    by_clip false t = by_verdict (verdict old.sizes old.guest old.minor old.rows unit) t

pub exit-over : {O : Type 0} (takes : O → Post → O → Type 0) (out out' : O) (setup : Setup) (guest : ℕ) (held : List ℕ) (part : PartView) (new : SessionView) (port port' : PortState) (state : DeskState) → PartStands setup guest held part port state → (cause : Cause)
    → Turned takes out out' port port' part.session new (turns.Ended cause) → Over out out' port port' part.session new (turns.Ended cause) → new.ended ≡ None → ⊥
exit-over takes out out' setup guest held part new port port' state stands cause turned over still =
    let going = busy-going out out' port port' part.session new (turns.Ended cause) tt over in
    ended-now takes out out' port port' part.session new cause (front part.session.stream.greeted held) (turned going held (stands.opened going).stream) still
