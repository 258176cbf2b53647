-- What each answer of a guest's turn says of the whole desk.
use Rattle.std.proofs.Common.{◌≡◌, ℕ, ◌+◌, ◌≤◌, ◌<◌, List, length, Option, Bool, true, get_or, refl, sym, ◌∙◌, ap, subst, arith}
use Rattle.std.specs.Prelude.{if◌then◌else◌}
use Rattle.std.proofs.lemmas.List.{get_or_default}
use Rattle.gui_num.specs.declared.Rect.{Rect}
use Rattle.gui_wire.specs.declared.Header.{Header}
use Rattle.desk_laws.specs.declared.cause.Cause.{Cause}
use Rattle.desk_laws.specs.declared.setup.Setup.{Setup}
use Rattle.desk_laws.specs.Following.{without_guest}
use Rattle.desk_laws.specs.Frames.{PortState, counted}
use Rattle.desk_laws.specs.Clipboard.{give}
use Rattle.desk_laws.specs.Layers.{Layers}
use Rattle.desk_laws.specs.Rows.{row_with}
use Rattle.desk_laws.specs.Scene.{Post, Ended}
use Rattle.desk_laws.specs.State.{DeskState}
use Rattle.in_stream.specs.Taking.{DropsUnit}
use Rattle.clipboard_gate.specs.Kept.{GateView, keeping}
use Rattle.guest_session.specs.declared.turn.Turn.{Turn}
use Rattle.guest_session.specs.declared.turn.Turn.TheVariants as turns
use Rattle.guest_session.specs.Clips.{BeginsWithClip, HasClip, HasKeptClip}
use Rattle.guest_session.specs.Turns.{clip_turn}
use Rattle.guest_session.specs.SessionView.{SessionView, HasRows, with_stream}
use Rattle.desk_core.specs.declared.windows.Told.{Told}
use Rattle.desk_core.specs.declared.windows.Told.TheVariants as answers
use Rattle.desk_core.specs.Telling.{TookTold, answer_of}
use Rattle.desk_core.specs.WindowsView.{WindowsView, PartView, ChangesPart, guests_of, no_session, part_of, session_in, with_part}
use Rattle.desk_core.specs.WindowsStand.{PartStands, glances_in}
use Rattle.desk_core.specs.Kept.{IsKept}
use Rattle.desk_core.specs.Pieces.{Drained, held_by}
use Rattle.desk_core.specs.Stacked.{id_in, layer_in, after_layer}
use Rattle.desk_core.proofs.ClipTurns.{IsClipTurn}
use Rattle.desk_core.proofs.EndStands.{Forgets}
use Rattle.desk_core.proofs.JoinLemmas.{part-alone, part-in}
use Rattle.desk_core.proofs.KeptLemmas.{kept-part, room-for, state-at, told-kept}
use Rattle.desk_core.proofs.StandLemmas.{moved}
use Rattle.desk_core.proofs.TurnExits.{Turned, Over, IsBusy, exit-changed, exit-clip, exit-clip_fewer, exit-ended, exit-fewer, exit-has_clip, exit-has_kept, exit-drained, exit-over, exit-stays, exit-waits}

-- the session at a guest's place
pub session-at : (desk : WindowsView) (guest : ℕ) (s : SessionView) → guest < guests_of desk → s ≡ get_or desk.sessions guest s → s ≡ session_in guest desk
session-at desk guest s there at = at ∙ get_or_default desk.sessions guest s no_session there

-- what `turn` ensures of a session and of its own guest's frames, as said of this guest's
turned-in : {O : Type 0} (takes : O → Post → O → Type 0) (out out' : O) (frames frames' : ℕ → PortState) (s old new : SessionView) (turn : Turn) (guest : ℕ) → s ≡ old → old.guest ≡ guest
    → Turned takes out out' (frames s.guest) (frames' s.guest) s new turn → Turned takes out out' (frames guest) (frames' guest) old new turn
turned-in takes out out' frames frames' s old new turn guest same owner turned =
    let S : SessionView → Type 0 = λ x. Turned takes out out' (frames x.guest) (frames' x.guest) x new turn in
    let G : ℕ → Type 0 = λ g. Turned takes out out' (frames g) (frames' g) old new turn in
    subst G owner (subst S same turned)

over-in : {O : Type 0} (out out' : O) (frames frames' : ℕ → PortState) (s old new : SessionView) (turn : Turn) (guest : ℕ) → s ≡ old → old.guest ≡ guest
    → Over out out' (frames s.guest) (frames' s.guest) s new turn → Over out out' (frames guest) (frames' guest) old new turn
over-in out out' frames frames' s old new turn guest same owner over =
    let S : SessionView → Type 0 = λ x. Over out out' (frames x.guest) (frames' x.guest) x new turn in
    let G : ℕ → Type 0 = λ g. Over out out' (frames g) (frames' g) old new turn in
    subst G owner (subst S same over)

-- ---- a part in the desk

module _ (guest : ℕ) (old now : WindowsView) (is : old ≡ now) (there : guest < guests_of old) (last : PartView) where
  session-after : session_in guest (with_part guest last old) ≡ last.session
  session-after = ap (λ (p : PartView). p.session) (part-in guest last old there)

  took-in : {O : Type 0} (takes : O → Post → O → Type 0) (out out' : O) (answer : Told) (port port' : PortState)
      → ((setup : Setup) (held : List ℕ) (state : DeskState) → PartStands setup guest held (part_of guest old) port state → TookTold takes out out' answer setup guest held (part_of guest old) last port' state)
      → (setup : Setup) (held : List ℕ) (state : DeskState) → PartStands setup guest held (part_of guest now) port state
      → TookTold takes out out' answer setup guest held (part_of guest now) (part_of guest (with_part guest last old)) port' state
  took-in takes out out' answer port port' took =
      let D : WindowsView → Type 0 = λ d. (setup : Setup) (held : List ℕ) (state : DeskState) → PartStands setup guest held (part_of guest d) port state
      → TookTold takes out out' answer setup guest held (part_of guest d) (part_of guest (with_part guest last old)) port' state in
      subst D is (λ setup held state stands.
      let V : PartView → Type 0 = λ p. TookTold takes out out' answer setup guest held (part_of guest old) p port' state in
      subst V (sym (part-in guest last old there)) (took setup held state stands))

  alone-in : last.session.sizes ≡ (session_in guest old).sizes → ChangesPart guest now (with_part guest last old)
  alone-in sizes = let D : WindowsView → Type 0 = λ d. ChangesPart guest d (with_part guest last old) in subst D is (part-alone guest last old there sizes)

  fewer-in : held_by last.session < held_by (session_in guest old) → held_by (session_in guest (with_part guest last old)) < held_by (session_in guest now)
  fewer-in fewer = omega (arith, fewer, ap held_by session-after, ap (λ d. held_by (session_in guest d)) is)

  drained-in : Drained last.session → Drained (session_in guest (with_part guest last old))
  drained-in drained = let P : SessionView → Type 0 = λ s. Drained s in subst P (sym session-after) drained

-- the numbers of a session stay
took-sizes : {O : Type 0} (takes : O → Post → O → Type 0) (out out' : O) (answer : Told) (setup : Setup) (guest : ℕ) (held : List ℕ) (part last : PartView) (port port' : PortState) (state : DeskState)
    → PartStands setup guest held part port state → TookTold takes out out' answer setup guest held part last port' state → last.session.sizes ≡ part.session.sizes
took-sizes takes out out' answer setup guest held part last port port' state stands took = took.leads.0.sizes ∙ sym stands.sizes

-- ---- the turns

module _ {O : Type 0} (takes : O → Post → O → Type 0) (out mid : O) (guest : ℕ) (old now : WindowsView) (room : ℕ) (is : old ≡ now) (there_now : guest < guests_of now) (kept : IsKept room old)
    (s new : SessionView) (at : s ≡ get_or old.sessions guest s) (frames frames' : ℕ → PortState) (turn : Turn)
    (turned : Turned takes out mid (frames s.guest) (frames' s.guest) s new turn) (over : Over out mid (frames s.guest) (frames' s.guest) s new turn) where
  there : guest < guests_of old
  there = omega (arith, there_now, ap guests_of is)

  abbrev part : PartView
  part = part_of guest old

  abbrev state : DeskState
  state = state-at room guest old (frames guest) kept

  -- the guest's part stands for a state
  stood : PartStands kept.setup guest (kept.held guest) (part_of guest old) (frames guest) (state-at room guest old (frames guest) kept)
  stood = kept-part room guest old (frames guest) kept there

  turned' : Turned takes out mid (frames guest) (frames' guest) (session_in guest old) new turn
  turned' = turned-in takes out mid frames frames' s (session_in guest old) new turn guest (session-at old guest s there at) stood.owner turned

  over' : Over out mid (frames guest) (frames' guest) (session_in guest old) new turn
  over' = over-in out mid frames frames' s (session_in guest old) new turn guest (session-at old guest s there at) stood.owner over

  -- what follows of a turn after which this is the part, for all that the desk may stand for
  took-keeps : (out' : O) (answer : Told) (last : PartView)
      → ((setup : Setup) (held : List ℕ) (st : DeskState) → PartStands setup guest held part (frames guest) st → TookTold takes out out' answer setup guest held part last (frames' guest) st)
      → IsKept room (with_part guest last old)
  took-keeps out' answer last took = told-kept takes out out' answer room guest old last (frames guest) (frames' guest) kept there (took kept.setup (kept.held guest) state stood)

  took-now : (out' : O) (answer : Told) (last : PartView)
      → ((setup : Setup) (held : List ℕ) (st : DeskState) → PartStands setup guest held part (frames guest) st → TookTold takes out out' answer setup guest held part last (frames' guest) st)
      → (setup : Setup) (held : List ℕ) (st : DeskState) → PartStands setup guest held (part_of guest now) (frames guest) st
      → TookTold takes out out' answer setup guest held (part_of guest now) (part_of guest (with_part guest last old)) (frames' guest) st
  took-now out' answer last took = took-in guest old now is there last takes out out' answer (frames guest) (frames' guest) took

  took-alone : (out' : O) (answer : Told) (last : PartView)
      → ((setup : Setup) (held : List ℕ) (st : DeskState) → PartStands setup guest held part (frames guest) st → TookTold takes out out' answer setup guest held part last (frames' guest) st)
      → ChangesPart guest now (with_part guest last old)
  took-alone out' answer last took =
      alone-in guest old now is there last
      (took-sizes takes out out' answer kept.setup guest (kept.held guest) part last (frames guest) (frames' guest) state stood (took kept.setup (kept.held guest) state stood))

-- ---- nothing whole is there

module _ {O : Type 0} (takes : O → Post → O → Type 0) (out mid : O) (guest : ℕ) (old now : WindowsView) (room : ℕ) (is : old ≡ now) (there_now : guest < guests_of now) (kept : IsKept room old)
    (s new : SessionView) (at : s ≡ get_or old.sessions guest s) (frames frames' : ℕ → PortState)
    (turned : Turned takes out mid (frames s.guest) (frames' s.guest) s new turns.Wait) (over : Over out mid (frames s.guest) (frames' s.guest) s new turns.Wait) where
  waited : (setup : Setup) (held : List ℕ) (st : DeskState) → PartStands setup guest held (part_of guest old) (frames guest) st → TookTold takes out mid answers.Waits setup guest held (part_of guest old) (moved new old.layers old.gate old.messages old.glances) (frames' guest) st
  waited setup held st stands = exit-stays takes out mid setup guest held (part_of guest old) new (frames guest) (frames' guest) st stands (turned' takes out mid guest old now room is there_now kept s new at frames frames' turns.Wait turned over) (over' takes out mid guest old now room is there_now kept s new at frames frames' turns.Wait turned over)

  pub wait-kept : IsKept room (with_part guest (moved new old.layers old.gate old.messages old.glances) old)
  wait-kept = took-keeps takes out mid guest old now room is there_now kept s new at frames frames' turns.Wait turned over mid answers.Waits (moved new old.layers old.gate old.messages old.glances) waited

  pub wait-took : (setup : Setup) (held : List ℕ) (st : DeskState) → PartStands setup guest held (part_of guest now) (frames guest) st
      → TookTold takes out mid answers.Waits setup guest held (part_of guest now) (part_of guest (with_part guest (moved new old.layers old.gate old.messages old.glances) old)) (frames' guest) st
  wait-took = took-now takes out mid guest old now room is there_now kept s new at frames frames' turns.Wait turned over mid answers.Waits (moved new old.layers old.gate old.messages old.glances) waited

  pub wait-alone : ChangesPart guest now (with_part guest (moved new old.layers old.gate old.messages old.glances) old)
  wait-alone = took-alone takes out mid guest old now room is there_now kept s new at frames frames' turns.Wait turned over mid answers.Waits (moved new old.layers old.gate old.messages old.glances) waited

  pub wait-drained : Drained (session_in guest (with_part guest (moved new old.layers old.gate old.messages old.glances) old))
  wait-drained =
      let stood' = stood takes out mid guest old now room is there_now kept s new at frames frames' turns.Wait turned over in
      let st = state takes out mid guest old now room is there_now kept s new at frames frames' turns.Wait turned over in
      let same = (exit-waits takes out mid kept.setup guest (kept.held guest) (part_of guest old) new (frames guest) (frames' guest) st stood' (turned' takes out mid guest old now room is there_now kept s new at frames frames' turns.Wait turned over) (over' takes out mid guest old now room is there_now kept s new at frames frames' turns.Wait turned over)).0 in
      let P : SessionView → Type 0 = λ x. Drained x in
      drained-in guest old now is (there takes out mid guest old now room is there_now kept s new at frames frames' turns.Wait turned over) (moved new old.layers old.gate old.messages old.glances)
      (subst P (sym same) (exit-drained takes out mid kept.setup guest (kept.held guest) (part_of guest old) new (frames guest) (frames' guest) st stood' (turned' takes out mid guest old now room is there_now kept s new at frames frames' turns.Wait turned over) (over' takes out mid guest old now room is there_now kept s new at frames frames' turns.Wait turned over)))

-- ---- a message or the version word

module _ {O : Type 0} (takes : O → Post → O → Type 0) (out mid : O) (guest : ℕ) (old now : WindowsView) (room : ℕ) (is : old ≡ now) (there_now : guest < guests_of now) (kept : IsKept room old)
    (s new : SessionView) (at : s ≡ get_or old.sessions guest s) (frames frames' : ℕ → PortState) (window : ℕ) (drawn : Option Rect)
    (turned : Turned takes out mid (frames s.guest) (frames' s.guest) s new (turns.Changed window drawn)) (over : Over out mid (frames s.guest) (frames' s.guest) s new (turns.Changed window drawn)) where
  changed-all : (layer : Option Bool) (layers : Layers) (messages glances : ℕ) → HasRows new → layer ≡ layer_in (row_with window new.rows) → layers ≡ after_layer (id_in guest window) layer old.layers
      → messages ≡ counted (old.messages + (if (session_in guest old).stream.greeted then 1 else 0)) → glances ≡ counted (old.glances + glances_in drawn)
      → (setup : Setup) (held : List ℕ) (st : DeskState) → PartStands setup guest held (part_of guest old) (frames guest) st → TookTold takes out mid (answer_of drawn) setup guest held (part_of guest old) (moved new layers old.gate messages glances) (frames' guest) st
  changed-all layer layers messages glances own in_layer made count seen setup held st stands =
      exit-changed takes out mid setup guest held (part_of guest old) new (frames guest) (frames' guest) st stands window drawn layer layers messages glances (turned' takes out mid guest old now room is there_now kept s new at frames frames' (turns.Changed window drawn) turned over) (over' takes out mid guest old now room is there_now kept s new at frames frames' (turns.Changed window drawn) turned over) own in_layer made count seen

  -- there is room in the stack
  pub changed-room : (layer : Option Bool) → HasRows new → layer ≡ layer_in (row_with window new.rows) → length (after_layer (id_in guest window) layer old.layers).focus ≤ room
  changed-room layer own in_layer =
      let layers = after_layer (id_in guest window) layer old.layers in
      let messages = counted (old.messages + (if (session_in guest old).stream.greeted then 1 else 0)) in
      let glances = counted (old.glances + glances_in drawn) in
      room-for room (with_part guest (moved new layers old.gate messages glances) old) (took-keeps takes out mid guest old now room is there_now kept s new at frames frames' (turns.Changed window drawn) turned over mid (answer_of drawn) (moved new layers old.gate messages glances) (changed-all layer layers messages glances own in_layer refl refl refl))

  pub changed-fewer : (layers : Layers) (messages glances : ℕ) → held_by (session_in guest (with_part guest (moved new layers old.gate messages glances) old)) < held_by (session_in guest now)
  changed-fewer layers messages glances =
      fewer-in guest old now is (there takes out mid guest old now room is there_now kept s new at frames frames' (turns.Changed window drawn) turned over) (moved new layers old.gate messages glances)
      (exit-fewer takes out mid kept.setup guest (kept.held guest) (part_of guest old) new (frames guest) (frames' guest) (state takes out mid guest old now room is there_now kept s new at frames frames' (turns.Changed window drawn) turned over) (stood takes out mid guest old now room is there_now kept s new at frames frames' (turns.Changed window drawn) turned over) window drawn (turned' takes out mid guest old now room is there_now kept s new at frames frames' (turns.Changed window drawn) turned over) (over' takes out mid guest old now room is there_now kept s new at frames frames' (turns.Changed window drawn) turned over))

  module _ (greeted : Bool) (layer : Option Bool) (layers : Layers) (messages glances : ℕ) (own : HasRows new) (in_layer : layer ≡ layer_in (row_with window new.rows)) (made : layers ≡ after_layer (id_in guest window) layer old.layers)
      (same : greeted ≡ s.stream.greeted) (count : messages ≡ counted (old.messages + (if greeted then 1 else 0))) (seen : glances ≡ counted (old.glances + glances_in drawn)) where
    counts : messages ≡ counted (old.messages + (if (session_in guest old).stream.greeted then 1 else 0))
    counts = count ∙ ap (λ b. counted (old.messages + (if b then 1 else 0))) (same ∙ ap (λ (x : SessionView). x.stream.greeted) (session-at old guest s (there takes out mid guest old now room is there_now kept s new at frames frames' (turns.Changed window drawn) turned over) at))

    pub changed-kept : IsKept room (with_part guest (moved new layers old.gate messages glances) old)
    changed-kept = took-keeps takes out mid guest old now room is there_now kept s new at frames frames' (turns.Changed window drawn) turned over mid (answer_of drawn) (moved new layers old.gate messages glances) (changed-all layer layers messages glances own in_layer made counts seen)

    pub changed-took : (setup : Setup) (held : List ℕ) (st : DeskState) → PartStands setup guest held (part_of guest now) (frames guest) st
        → TookTold takes out mid (answer_of drawn) setup guest held (part_of guest now) (part_of guest (with_part guest (moved new layers old.gate messages glances) old)) (frames' guest) st
    changed-took = took-now takes out mid guest old now room is there_now kept s new at frames frames' (turns.Changed window drawn) turned over mid (answer_of drawn) (moved new layers old.gate messages glances) (changed-all layer layers messages glances own in_layer made counts seen)

    pub changed-alone : ChangesPart guest now (with_part guest (moved new layers old.gate messages glances) old)
    changed-alone = took-alone takes out mid guest old now room is there_now kept s new at frames frames' (turns.Changed window drawn) turned over mid (answer_of drawn) (moved new layers old.gate messages glances) (changed-all layer layers messages glances own in_layer made counts seen)

-- ---- clipboard data

module _ {O : Type 0} (takes : O → Post → O → Type 0) (out mid : O) (guest : ℕ) (old now : WindowsView) (room : ℕ) (is : old ≡ now) (there_now : guest < guests_of now) (kept : IsKept room old)
    (s new : SessionView) (at : s ≡ get_or old.sessions guest s) (frames frames' : ℕ → PortState) (turn : Turn) (clip : IsBusy turn × IsClipTurn turn)
    (turned : Turned takes out mid (frames s.guest) (frames' s.guest) s new turn) (over : Over out mid (frames s.guest) (frames' s.guest) s new turn) where
  pub clip-there : HasClip new.stream
  clip-there = exit-has_clip takes out mid kept.setup guest (kept.held guest) (part_of guest old) new (frames guest) (frames' guest) (state takes out mid guest old now room is there_now kept s new at frames frames' turn turned over) (stood takes out mid guest old now room is there_now kept s new at frames frames' turn turned over) turn clip.0 clip.1 (turned' takes out mid guest old now room is there_now kept s new at frames frames' turn turned over) (over' takes out mid guest old now room is there_now kept s new at frames frames' turn turned over)

  module _ (last : SessionView) (gate : GateView) (messages : ℕ) (same : last ≡ with_stream last.stream new) (drops : DropsUnit new.stream last.stream) (greeted : last.stream.greeted ≡ true)
      (given : (header : Header) (body : List ℕ) → BeginsWithClip new.stream header body → turn ≡ clip_turn old.gate.limit body → gate ≡ keeping old.gate.limit (give old.gate.limit guest body old.gate.clip)) (count : messages ≡ counted (old.messages + 1)) where
    clipped : (setup : Setup) (held : List ℕ) (st : DeskState) → PartStands setup guest held (part_of guest old) (frames guest) st → TookTold takes out mid answers.Changed setup guest held (part_of guest old) (moved last old.layers gate messages old.glances) (frames' guest) st
    clipped setup held st stands =
        exit-clip takes out mid setup guest held (part_of guest old) new (frames guest) (frames' guest) st stands turn last gate messages clip.0 clip.1 (turned' takes out mid guest old now room is there_now kept s new at frames frames' turn turned over) (over' takes out mid guest old now room is there_now kept s new at frames frames' turn turned over) same drops greeted given count

    pub clip-kept : IsKept room (with_part guest (moved last old.layers gate messages old.glances) old)
    clip-kept = took-keeps takes out mid guest old now room is there_now kept s new at frames frames' turn turned over mid answers.Changed (moved last old.layers gate messages old.glances) clipped

    pub clip-took : (setup : Setup) (held : List ℕ) (st : DeskState) → PartStands setup guest held (part_of guest now) (frames guest) st
        → TookTold takes out mid answers.Changed setup guest held (part_of guest now) (part_of guest (with_part guest (moved last old.layers gate messages old.glances) old)) (frames' guest) st
    clip-took = took-now takes out mid guest old now room is there_now kept s new at frames frames' turn turned over mid answers.Changed (moved last old.layers gate messages old.glances) clipped

    pub clip-alone : ChangesPart guest now (with_part guest (moved last old.layers gate messages old.glances) old)
    clip-alone = took-alone takes out mid guest old now room is there_now kept s new at frames frames' turn turned over mid answers.Changed (moved last old.layers gate messages old.glances) clipped

    pub clip-fewer : held_by (session_in guest (with_part guest (moved last old.layers gate messages old.glances) old)) < held_by (session_in guest now)
    clip-fewer =
        fewer-in guest old now is (there takes out mid guest old now room is there_now kept s new at frames frames' turn turned over) (moved last old.layers gate messages old.glances)
        (exit-clip_fewer takes out mid kept.setup guest (kept.held guest) (part_of guest old) new (frames guest) (frames' guest) (state takes out mid guest old now room is there_now kept s new at frames frames' turn turned over) (stood takes out mid guest old now room is there_now kept s new at frames frames' turn turned over) turn last clip.0 clip.1 (turned' takes out mid guest old now room is there_now kept s new at frames frames' turn turned over) (over' takes out mid guest old now room is there_now kept s new at frames frames' turn turned over) drops)

-- data that is kept is there
pub whole-there : {O : Type 0} (takes : O → Post → O → Type 0) (out mid : O) (guest : ℕ) (old now : WindowsView) (room : ℕ) → old ≡ now → guest < guests_of now → IsKept room old
    → (s new : SessionView) → s ≡ get_or old.sessions guest s → (frames frames' : ℕ → PortState)
    → Turned takes out mid (frames s.guest) (frames' s.guest) s new turns.ClipWhole → Over out mid (frames s.guest) (frames' s.guest) s new turns.ClipWhole → HasKeptClip new.sizes.clip_limit new.stream
whole-there takes out mid guest old now room is there_now kept s new at frames frames' turned over =
    exit-has_kept takes out mid kept.setup guest (kept.held guest) (part_of guest old) new (frames guest) (frames' guest)
    (state takes out mid guest old now room is there_now kept s new at frames frames' turns.ClipWhole turned over) (stood takes out mid guest old now room is there_now kept s new at frames frames' turns.ClipWhole turned over)
    (turned' takes out mid guest old now room is there_now kept s new at frames frames' turns.ClipWhole turned over) (over' takes out mid guest old now room is there_now kept s new at frames frames' turns.ClipWhole turned over)

-- ---- the end of the session

module _ {O : Type 0} (takes : O → Post → O → Type 0) (out mid : O) (guest : ℕ) (old now : WindowsView) (room : ℕ) (is : old ≡ now) (there_now : guest < guests_of now) (kept : IsKept room old)
    (s new : SessionView) (at : s ≡ get_or old.sessions guest s) (frames frames' : ℕ → PortState) (gate : GateView) (forgotten : Forgets guest old.gate gate) (cause : Cause) (last : O) (told : takes mid (Ended guest cause) last)
    (turned : Turned takes out mid (frames s.guest) (frames' s.guest) s new (turns.Ended cause)) (over : Over out mid (frames s.guest) (frames' s.guest) s new (turns.Ended cause)) where
  over-took : (setup : Setup) (held : List ℕ) (st : DeskState) → PartStands setup guest held (part_of guest old) (frames guest) st → TookTold takes out last answers.Ended setup guest held (part_of guest old) (moved new (without_guest guest old.layers) gate old.messages old.glances) (frames' guest) st
  over-took setup held st stands = exit-ended takes out mid setup guest held (part_of guest old) new (frames guest) (frames' guest) st stands last gate cause forgotten (turned' takes out mid guest old now room is there_now kept s new at frames frames' (turns.Ended cause) turned over) (over' takes out mid guest old now room is there_now kept s new at frames frames' (turns.Ended cause) turned over) told

  pub ended-kept : IsKept room (with_part guest (moved new (without_guest guest old.layers) gate old.messages old.glances) old)
  ended-kept = took-keeps takes out mid guest old now room is there_now kept s new at frames frames' (turns.Ended cause) turned over last answers.Ended (moved new (without_guest guest old.layers) gate old.messages old.glances) over-took

  pub ended-took : (setup : Setup) (held : List ℕ) (st : DeskState) → PartStands setup guest held (part_of guest now) (frames guest) st
      → TookTold takes out last answers.Ended setup guest held (part_of guest now) (part_of guest (with_part guest (moved new (without_guest guest old.layers) gate old.messages old.glances) old)) (frames' guest) st
  ended-took = took-now takes out mid guest old now room is there_now kept s new at frames frames' (turns.Ended cause) turned over last answers.Ended (moved new (without_guest guest old.layers) gate old.messages old.glances) over-took

  pub ended-alone : ChangesPart guest now (with_part guest (moved new (without_guest guest old.layers) gate old.messages old.glances) old)
  ended-alone = took-alone takes out mid guest old now room is there_now kept s new at frames frames' (turns.Ended cause) turned over last answers.Ended (moved new (without_guest guest old.layers) gate old.messages old.glances) over-took

  pub ended-drained : Drained (session_in guest (with_part guest (moved new (without_guest guest old.layers) gate old.messages old.glances) old))
  ended-drained =
      drained-in guest old now is (there takes out mid guest old now room is there_now kept s new at frames frames' (turns.Ended cause) turned over) (moved new (without_guest guest old.layers) gate old.messages old.glances)
      (λ still. absurd (exit-over takes out mid kept.setup guest (kept.held guest) (part_of guest old) new (frames guest) (frames' guest) (state takes out mid guest old now room is there_now kept s new at frames frames' (turns.Ended cause) turned over) (stood takes out mid guest old now room is there_now kept s new at frames frames' (turns.Ended cause) turned over) cause (turned' takes out mid guest old now room is there_now kept s new at frames frames' (turns.Ended cause) turned over) (over' takes out mid guest old now room is there_now kept s new at frames frames' (turns.Ended cause) turned over) still))
