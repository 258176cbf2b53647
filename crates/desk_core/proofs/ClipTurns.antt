-- A turn that shows clipboard data.
use Rattle.std.proofs.Common.{◌≡◌, ℕ, ◌+◌, Bool, true, false, List, [], None, refl, sym, ◌∙◌, ap, subst, arith}
use Rattle.std.proofs.lemmas.Bool.{eqb-true}
use Rattle.gui_wire.specs.AgentMessages.{reading}
use Rattle.desk_laws.specs.declared.setup.Setup.{Setup}
use Rattle.desk_laws.specs.Sizes.{Sizes}
use Rattle.desk_laws.specs.Stream as stream
use Rattle.desk_laws.specs.Stream.{StreamUnit, Word, Stop, Whole, Front, Fault, Takes, front, front_of, head_fault, front_by, Cut, cut, is_greeting}
use Rattle.desk_laws.specs.Clipboard.{Clip, give}
use Rattle.desk_laws.specs.Rows.{Row}
use Rattle.desk_laws.specs.Frames.{PortState, counted}
use Rattle.desk_laws.specs.Effects.{Same, Goes, Greets, Ends, Reads, Verdict, verdict, message_verdict}
use Rattle.desk_laws.specs.Scene.{Post}
use Rattle.desk_laws.specs.State.{DeskState}
use Rattle.desk_laws.specs.Steps.{clip_after, clip_of_unit, messages_of}
use Rattle.desk_laws.proofs.CuttingLemmas.{front-greets}
use Rattle.in_stream.specs.Received.{StandsFor}
use Rattle.guest_session.specs.declared.turn.Turn.{Turn}
use Rattle.guest_session.specs.declared.turn.Turn.TheVariants as turns
use Rattle.guest_session.specs.SessionView.{SessionView, AreRows, with_stream}
use Rattle.clipboard_gate.specs.Kept.{GateView, keeping}
use Rattle.guest_session.specs.Clips.{is_clip, body_in}
use Rattle.guest_session.specs.Turns.{Turns, TakesUnit, Decides, clip_turn, window_of}
use Rattle.desk_core.specs.WindowsView.{PartView}
use Rattle.desk_core.specs.WindowsStand.{PartStands}
use Rattle.desk_core.specs.declared.windows.Told.TheVariants as answers
use Rattle.desk_core.specs.Telling.{TookTold}
use Rattle.desk_laws.proofs.FollowChanges.{followed-same}
use Rattle.desk_core.proofs.StandLemmas.{moved}
use Rattle.desk_core.proofs.UnitTurns.{went-took}

clip-verdict : (sizes : Sizes) (guest minor : ℕ) (own : List Row) (unit : StreamUnit) → is_clip unit ≡ true → verdict sizes guest minor own unit ≡ Goes Same []
clip-verdict sizes guest minor own (Word word) e = cc
clip-verdict sizes guest minor own (Stop cause) e = cc
clip-verdict sizes guest minor own (Whole header body) e =
    ap (λ kind. message_verdict sizes guest minor own header (reading kind body)) (eqb-true header.kind 140 e)

clip-message : (unit : StreamUnit) → is_clip unit ≡ true → messages_of unit ≡ 1
clip-message (Word word) e = cc
clip-message (Stop cause) e = cc
clip-message (Whole header body) e = refl

-- clipboard data is given to the clipboard
clip-given : (limit guest : ℕ) (unit : StreamUnit) (clip : Clip) → is_clip unit ≡ true → clip_of_unit limit guest unit clip ≡ give limit guest (body_in unit) clip
clip-given limit guest (Word word) clip e = cc
clip-given limit guest (Stop cause) clip e = cc
clip-given limit guest (Whole header body) clip e = ap (λ kind. clip_after limit guest (reading kind body) clip) (eqb-true header.kind 140 e)

-- whether a turn shows clipboard data
abbrev pub IsClipTurn : Turn → Type 0
IsClipTurn turns.Wait = ⊥
IsClipTurn (turns.Changed window drawn) = ⊥
IsClipTurn turns.ClipWhole = Unit {0}
IsClipTurn turns.ClipOver = Unit {0}
IsClipTurn (turns.Ended cause) = ⊥

-- what a clipboard turn tells
pub record ShownClip {O : Type 0} (out out' : O) (port port' : PortState) (old new : SessionView) (turn : Turn) (f : Front) : Type 0 where
  pub unit : StreamUnit
  pub behind : List ℕ
  pub is : f ≡ Takes unit behind
  pub clip : is_clip unit ≡ true
  pub answer : turn ≡ clip_turn old.sizes.clip_limit (body_in unit)
  pub same : new ≡ old
  pub silent : out' ≡ out
  pub unread : port' ≡ port

not-decided : {O : Type 0} (takes : O → Post → O → Type 0) (out out' : O) (port port' : PortState) (old new : SessionView) (turn : Turn) (window : ℕ) (behind : List ℕ) (v : Verdict)
    → IsClipTurn turn → Decides takes out out' port port' old new turn window behind v → ⊥
not-decided takes out out' port port' old new turn window behind (Ends cause) c d = let P : Turn → Type 0 = λ t. IsClipTurn t in subst P d.answer c
not-decided takes out out' port port' old new turn window behind (Greets minor answers) c d = let P : Turn → Type 0 = λ t. IsClipTurn t in subst P d.answer c
not-decided takes out out' port port' old new turn window behind (Goes change answers) c d = let P : Turn → Type 0 = λ t. IsClipTurn t in subst P d.answer c
not-decided takes out out' port port' old new turn window behind (Reads row area) c d = let P : Turn → Type 0 = λ t. IsClipTurn t in subst P d.answer c

pub shown-clip : {O : Type 0} (takes : O → Post → O → Type 0) (out out' : O) (port port' : PortState) (old new : SessionView) (turn : Turn) (f : Front)
    → IsClipTurn turn → Turns takes out out' port port' old new turn f → ShownClip out out' port port' old new turn f
shown-clip takes out out' port port' old new turn stream.Wait c t = let P : Turn → Type 0 = λ t. IsClipTurn t in absurd (subst P t.answer c)
shown-clip takes out out' port port' old new turn (Fault cause) c t = let P : Turn → Type 0 = λ t. IsClipTurn t in absurd (subst P t.answer c)
shown-clip takes out out' port port' old new turn (Takes unit behind) c t = by_clip (is_clip unit) refl t
  where
    by_clip : (b : Bool) → is_clip unit ≡ b → TakesUnit takes out out' port port' old new turn unit behind b → ShownClip out out' port port' old new turn (Takes unit behind)
    by_clip true e t = record { unit = unit; behind = behind; is = refl; clip = e; answer = t.answer; same = t.stays.session; silent = t.stays.silent; unread = t.stays.unread }
    by_clip false e t = absurd (not-decided takes out out' port port' old new turn (window_of unit) behind (verdict old.sizes old.guest old.minor old.rows unit) c t)

pub clip-took : {O : Type 0} (takes : O → Post → O → Type 0) (out : O) (setup : Setup) (guest : ℕ) (held behind : List ℕ) (part : PartView) (new : SessionView) (gate : GateView) (messages : ℕ) (port port' : PortState) (state : DeskState) (unit : StreamUnit)
    → PartStands setup guest held part port state → part.session.ended ≡ None → front part.session.stream.greeted held ≡ Takes unit behind → is_clip unit ≡ true
    → new ≡ with_stream new.stream part.session → new.stream.greeted ≡ true → StandsFor new.stream behind → port' ≡ port
    → gate ≡ keeping part.gate.limit (give part.gate.limit guest (body_in unit) part.gate.clip)
    → messages ≡ counted (part.messages + 1)
    → TookTold takes out out answers.Changed setup guest held part (moved new part.layers gate messages part.glances) port' state
clip-took takes out setup guest held behind part new gate messages port port' state unit stands going is clip same greeted holds unread given count =
    let s = part.session in
    let rows : s.rows ≡ new.rows = sym (ap (λ (x : SessionView). x.rows) same) in
    let O : List Row → Type 0 = λ rs. AreRows guest rs in
    let still : part.glances ≡ counted (part.glances + 0) = omega (arith, stands.glances_in_range) in
    went-took takes out out answers.Changed setup guest held behind part new part.layers gate messages part.glances port port' state unit (Goes Same []) [] stands going is
    (clip-verdict s.sizes s.guest s.minor s.rows unit clip) refl refl
    (record {
      rows = stands.rows ∙ rows;
      minor = (stands.opened going).minor ∙ sym (ap (λ (x : SessionView). x.minor) same);
      port = stands.frames ∙ sym unread;
      greeted = front-greets s.stream.greeted held unit behind is ∙ sym greeted;
      stands = holds;
      owner = ap (λ (x : SessionView). x.guest) same;
      sizes = ap (λ (x : SessionView). x.sizes) same;
      ended = ap (λ (x : SessionView). x.ended) same ∙ going;
    })
    (subst O rows stands.own)
    (record { lists = followed-same state.scene.rows part.layers stands.followed; follow = stands.followed; apart = stands.apart })
    (given ∙ ap (keeping part.gate.limit) (sym (clip-given part.gate.limit guest unit part.gate.clip clip)))
    (record { told = count ∙ ap (λ n. counted (part.messages + n)) (sym (clip-message unit clip)); read = still }) greeted refl (λ quiet _. cc)
