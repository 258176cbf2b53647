-- A turn that answers Changed.
use Rattle.std.proofs.Common.{◌≡◌, ℕ, ◌+◌, Bool, true, false, List, Option, Some, None, refl, sym, ◌∙◌, ap, subst}
use Rattle.std.specs.Prelude.{if◌then◌else◌}
use Rattle.gui_num.specs.declared.Rect.{Rect}
use Rattle.desk_laws.specs.declared.setup.Setup.{Setup}
use Rattle.desk_laws.specs.Stream as stream
use Rattle.desk_laws.specs.Stream.{StreamUnit, Word, Stop, Whole, Front, Fault, Takes, front, front_of, head_fault, front_by, Cut, cut, is_greeting}
use Rattle.desk_laws.specs.Rows.{mine, row_with}
use Rattle.desk_laws.specs.Settle.{IsSettled}
use Rattle.desk_laws.specs.Sizes.{sizes_of}
use Rattle.desk_laws.specs.Steps.{unit_told}
use Rattle.desk_laws.specs.Layers.{Layers}
use Rattle.desk_laws.specs.Frames.{PortState, counted, load_all}
use Rattle.desk_laws.specs.Effects.{Same, Replaced, changed, Goes, Greets, Ends, Reads, Verdict, verdict, points, frame_places, drawn_row}
use Rattle.desk_laws.specs.Following.{LayersFollow, after_row}
use Rattle.desk_laws.specs.Scene.{Post}
use Rattle.desk_laws.specs.State.{DeskState, session_of}
use Rattle.desk_laws.proofs.SettledLemmas.{settled-read}
use Rattle.desk_laws.proofs.UnitLemmas.{effect_of}
use Rattle.guest_session.specs.declared.turn.Turn.TheVariants as turns
use Rattle.guest_session.specs.SessionView.{SessionView, AreRows}
use Rattle.guest_session.specs.Clips.{is_clip}
use Rattle.guest_session.specs.Reading.{drawn_by}
use Rattle.guest_session.specs.Turns.{Turns, TakesUnit, Decides, window_of}
use Rattle.desk_core.specs.WindowsView.{PartView}
use Rattle.desk_core.specs.WindowsStand.{PartStands, glances_in}
use Rattle.desk_core.specs.Telling.{TookTold, answer_of, moves}
use Rattle.desk_core.specs.Stacked.{id_in}
use Rattle.desk_core.proofs.StandLemmas.{moved}
use Rattle.desk_core.proofs.ReadLemmas.{reads-one, reads-many, drawn-one}
use Rattle.desk_core.proofs.UnitTurns.{changes-one, effect-took, verdict-same}

pub not-changed-clip : (window : ℕ) (drawn : Option Rect) (b : Bool) → turns.Changed window drawn ≡ (if b then turns.ClipWhole else turns.ClipOver) → ⊥
not-changed-clip window drawn true e = cc
not-changed-clip window drawn false e = cc

-- a unit that the session answers Changed to
-- a turn that drew nothing tells focus and hover
undrawn : {window window' : ℕ} (drawn : Option Rect) → turns.Changed window drawn ≡ turns.Changed window' None → moves (answer_of drawn) ≡ false → ⊥
undrawn None e quiet = cc
undrawn (Some area) e quiet = cc

decided-changed : {O : Type 0} (takes : O → Post → O → Type 0) (out out' : O) (setup : Setup) (guest : ℕ) (held behind : List ℕ) (part : PartView) (new : SessionView) (window : ℕ) (drawn : Option Rect) (layers : Layers) (messages glances : ℕ) (port port' : PortState) (state : DeskState) (unit : StreamUnit) (v : Verdict)
    → PartStands setup guest held part port state → part.session.ended ≡ None → front part.session.stream.greeted held ≡ Takes unit behind
    → verdict part.session.sizes part.session.guest part.session.minor part.session.rows unit ≡ v
    → is_clip unit ≡ false → Decides takes out out' port port' part.session new (turns.Changed window drawn) (window_of unit) behind v
    → AreRows guest new.rows → layers ≡ after_row (id_in guest window) (row_with window new.rows) part.layers
    → messages ≡ counted (part.messages + (if part.session.stream.greeted then 1 else 0)) → glances ≡ counted (part.glances + glances_in drawn)
    → TookTold takes out out' (answer_of drawn) setup guest held part (moved new layers part.gate messages glances) port' state
decided-changed takes out out' setup guest held behind part new window drawn layers messages glances port port' state unit (Ends cause) stands going is v_is other d own made count seen = let e = d.answer in absurd (cc)
decided-changed takes out out' setup guest held behind part new window drawn layers messages glances port port' state unit (Greets minor answers) stands going is v_is other d own made count seen =
    effect-took takes out out' (answer_of drawn) setup guest held behind part new window drawn None layers messages glances port port' state unit (Greets minor answers) _ Same stands going is other d v_is
    refl refl refl refl (record { alone = tt; from = tt }) own made count seen (λ quiet _. absurd (undrawn drawn d.answer quiet))
decided-changed takes out out' setup guest held behind part new window drawn layers messages glances port port' state unit (Goes change answers) stands going is v_is other d own made count seen =
    let s = part.session in
    effect-took takes out out' (answer_of drawn) setup guest held behind part new window drawn None layers messages glances port port' state unit (Goes change answers) _ change stands going is other d v_is
    refl refl refl refl (changes-one s.sizes s.guest s.minor s.rows unit change answers v_is) own made count seen (λ quiet _. absurd (undrawn drawn d.answer quiet))
decided-changed takes out out' setup guest held behind part new window drawn layers messages glances port port' state unit (Reads row area) stands going is v_is other d own made count seen =
    let s = part.session in
    let one = reads-one s.sizes s.guest s.minor s.rows unit row area v_is in
    let words = (load_all port (frame_places row.dump (points area))).words in
    let same : verdict (sizes_of setup) guest (session_of guest state).minor (mine guest state.scene.rows) unit ≡ Reads row area =
    verdict-same setup guest held part port state unit stands going ∙ v_is in
    let L : Layers → Type 0 = λ ls. LayersFollow state.scene.rows ls in
    let S : Verdict → Type 0 = λ w. IsSettled (sizes_of setup) (unit_told (sizes_of setup).clip_limit guest unit (effect_of guest state w) state.scene).scene in
    effect-took takes out out' (answer_of drawn) setup guest held behind part new window drawn (drawn_by area) layers messages glances port port' state unit (Reads row area) _ (Replaced (drawn_row row area words)) stands going is other d v_is
    refl refl (ap (λ p. changed guest (Replaced (drawn_row row area (load_all p (frame_places row.dump (points area))).words)) state.scene.rows) stands.frames) (reads-many (window_of unit) s.rows row area port one) (drawn-one (window_of unit) s.rows row area words one) own made count seen
    (λ _ still. subst S same (settled-read setup guest unit state row area (record { apart = stands.apart; lists = subst L (sym stands.layers) stands.followed }) same still))

pub turn-changed : {O : Type 0} (takes : O → Post → O → Type 0) (out out' : O) (setup : Setup) (guest : ℕ) (held : List ℕ) (part : PartView) (new : SessionView) (window : ℕ) (drawn : Option Rect) (layers : Layers) (messages glances : ℕ) (port port' : PortState) (state : DeskState) (f : Front)
    → PartStands setup guest held part port state → part.session.ended ≡ None → front part.session.stream.greeted held ≡ f
    → Turns takes out out' port port' part.session new (turns.Changed window drawn) f
    → AreRows guest new.rows → layers ≡ after_row (id_in guest window) (row_with window new.rows) part.layers
    → messages ≡ counted (part.messages + (if part.session.stream.greeted then 1 else 0)) → glances ≡ counted (part.glances + glances_in drawn)
    → TookTold takes out out' (answer_of drawn) setup guest held part (moved new layers part.gate messages glances) port' state
turn-changed takes out out' setup guest held part new window drawn layers messages glances port port' state stream.Wait stands going is t own made count seen = let e = t.answer in absurd (cc)
turn-changed takes out out' setup guest held part new window drawn layers messages glances port port' state (Fault cause) stands going is t own made count seen = let e = t.answer in absurd (cc)
turn-changed takes out out' setup guest held part new window drawn layers messages glances port port' state (Takes unit behind) stands going is t own made count seen = by_clip (is_clip unit) refl t
  where
    by_clip : (b : Bool) → is_clip unit ≡ b → TakesUnit takes out out' port port' part.session new (turns.Changed window drawn) unit behind b
        → TookTold takes out out' (answer_of drawn) setup guest held part (moved new layers part.gate messages glances) port' state
    by_clip true e t = absurd (not-changed-clip window drawn _ t.answer)
    by_clip false e t =
        decided-changed takes out out' setup guest held behind part new window drawn layers messages glances port port' state unit
        (verdict part.session.sizes part.session.guest part.session.minor part.session.rows unit) stands going is refl e t own made count seen
