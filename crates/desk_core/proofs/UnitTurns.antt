-- A unit that ended nothing, from the definitions to the part.
use Rattle.std.proofs.Common.{◌≡◌, ℕ, ◌+◌, ◌/◌, ◌%◌, Bool, true, false, ◌==◌, length, drop, take, ◌≤◌, List, ◌++◌, Option, Some, None, refl, sym, ◌∙◌, ap, subst}
use Rattle.std.specs.Prelude.{if◌then◌else◌, nat_lt}
use Rattle.gui_wire.specs.AgentMessages.{AgentMessage, reading}
use Rattle.gui_wire.specs.Words.{word_at}
use Rattle.gui_wire.specs.Headers.{header_at}
use Rattle.gui_wire.specs.declared.Header.{Header}
use Rattle.gui_num.specs.declared.Rect.{Rect}
use Rattle.desk_laws.specs.declared.cause.Cause.{Cause}
use Rattle.desk_laws.specs.declared.cause.Cause.TheVariants.{BadVersion}
use Rattle.desk_laws.specs.declared.setup.Setup.{Setup}
use Rattle.desk_laws.specs.Sizes.{Sizes, sizes_of}
use Rattle.desk_laws.specs.Stream as stream
use Rattle.desk_laws.specs.Stream.{StreamUnit, Word, Stop, Whole, Front, Fault, Takes, front, front_of, head_fault, front_by, Cut, cut, is_greeting}
use Rattle.desk_laws.specs.Clipboard.{Clip}
use Rattle.desk_laws.specs.Rows.{Row, mine, row_with}
use Rattle.desk_laws.specs.Layers.{Layers}
use Rattle.desk_laws.specs.Frames.{PortState, counted}
use Rattle.desk_laws.specs.Effects.{Effect, Change, Goes, Greets, Ends, Verdict, verdict, greeting, changed, carried_out}
use Rattle.desk_laws.specs.Following.{ChangesOne, after_row}
use Rattle.desk_laws.specs.Scene.{Post, replies}
use Rattle.desk_laws.specs.State.{DeskState, StepOutcome, session_of, stays, step_after}
use Rattle.desk_laws.specs.Settle.{IsSettled}
use Rattle.desk_laws.specs.Steps.{clip_after, clip_of_unit, take_unit, take_units, unit_done, unit_told, messages_of}
use Rattle.desk_laws.proofs.ChangeLemmas.{messages-change_one}
use Rattle.desk_laws.proofs.Cutting.{front_by-append, front_by-whole_header, takes-whole_header}
use Rattle.desk_laws.proofs.CuttingLemmas.{cut-takes, front-greets}
use Rattle.desk_laws.proofs.UnitLemmas.{taken-by, effect_of}
use Rattle.io_ports.specs.Posts.{Leads}
use Rattle.guest_session.specs.declared.turn.Turn.{Turn}
use Rattle.guest_session.specs.declared.turn.Turn.TheVariants as turns
use Rattle.guest_session.specs.SessionView.{SessionView, AreRows}
use Rattle.clipboard_gate.specs.Kept.{GateView, keeping}
use Rattle.guest_session.specs.Clips.{is_clip}
use Rattle.guest_session.specs.Turns.{HadEffect, window_of}
use Rattle.desk_core.specs.WindowsView.{PartView}
use Rattle.desk_core.specs.DeskPosts.{guest_posts}
use Rattle.desk_core.specs.WindowsStand.{PartStands, LeadsTo, glances_in}
use Rattle.desk_core.specs.declared.windows.Told.{Told}
use Rattle.desk_core.specs.declared.windows.Told.TheVariants as answers
use Rattle.desk_core.specs.Pieces.{taken_from}
use Rattle.desk_core.specs.Settling.{settled_after}
use Rattle.desk_core.specs.Telling.{TookTold, moves}
use Rattle.desk_core.specs.Stacked.{id_in}
use Rattle.desk_core.proofs.LeaveLemmas.{leaves-all, told-leaves, unit-leaves}
use Rattle.desk_core.proofs.OwnRows.{IsOwnEffect, own-effect}
use Rattle.desk_core.proofs.PostLemmas.{guest-replies}
use Rattle.desk_core.proofs.SettlingLemmas.{silent-after, went-settles}
use Rattle.desk_core.proofs.StandLemmas.{went_told, moved, HadUnit, HadLists, HadClip, AreCounted, unread-with, went-stands, went-rest, lists-after}

-- ---- nothing was taken

pub stays-told : {O : Type 0} (takes : O → Post → O → Type 0) (out : O) (setup : Setup) (guest : ℕ) (held : List ℕ) (part : PartView) (port port' : PortState) (state : DeskState)
    → PartStands setup guest held part port state → port' ≡ port → TookTold takes out out answers.Waits setup guest held part part port' state
stays-told takes out setup guest held part port port' state stands unread = record {
  behind = held;
  told = stays state;
  leads = (unread-with setup guest held part port port' state stands unread, refl);
  all = λ is left. ap (λ o. step_after o (taken_from setup guest part.session.stream.greeted (held ++ left) o.desk)) (sym (silent-after setup (stays state) is));
  still = λ _ is. is;
  seat = refl;
  going = λ going. going;
  rest = λ going left. refl;
  kept = λ going. refl;
  leaves = leaves-all guest state;
}

-- ---- a unit that ended nothing

-- the session's verdict on a unit is that of the definitions
pub verdict-same : (setup : Setup) (guest : ℕ) (held : List ℕ) (part : PartView) (port : PortState) (state : DeskState) (unit : StreamUnit) → PartStands setup guest held part port state → part.session.ended ≡ None
    → verdict (sizes_of setup) guest (session_of guest state).minor (mine guest state.scene.rows) unit ≡ verdict part.session.sizes part.session.guest part.session.minor part.session.rows unit
verdict-same setup guest held part port state unit stands going =
    let s = part.session in
    ap (λ rows. verdict (sizes_of setup) guest (session_of guest state).minor rows unit) stands.rows
    ∙ ap (λ minor. verdict (sizes_of setup) guest minor s.rows unit) (stands.opened going).minor
    ∙ ap (λ g. verdict (sizes_of setup) g s.minor s.rows unit) (sym stands.owner)
    ∙ ap (λ sizes. verdict sizes s.guest s.minor s.rows unit) (sym stands.sizes)

-- a unit taken off the front of the bytes that are held
pub unit-told : {O : Type 0} (takes : O → Post → O → Type 0) (out out' : O) (answer : Told) (setup : Setup) (guest : ℕ) (held behind : List ℕ) (old new : PartView) (port' : PortState) (state : DeskState) (unit : StreamUnit) (told : StepOutcome)
    → old.session.ended ≡ None → front old.session.stream.greeted held ≡ Takes unit behind → new.session.stream.greeted ≡ true
    → take_unit setup guest unit state ≡ settled_after setup told
    → LeadsTo takes out out' setup guest behind new port' told → (session_of guest told.desk).rest ≡ (session_of guest state).rest
    → (moves answer ≡ false → IsSettled (sizes_of setup) state.scene → IsSettled (sizes_of setup) told.desk.scene) → told.desk.scene.seat ≡ state.scene.seat
    → TookTold takes out out' answer setup guest held old new port' state
unit-told takes out out' answer setup guest held behind old new port' state unit told going is greeted taken leads kept still seat =
    let o = settled_after setup told in
    let cuts : (left : List ℕ) → cut old.session.stream.greeted (held ++ left) ≡ stream.unit_and unit (cut true (behind ++ left)) =
    λ left. cut-takes old.session.stream.greeted (held ++ left) unit (behind ++ left) (front_by-append head_fault old.session.stream.greeted held left unit behind is) in
    record {
      behind = behind;
      told = told;
      leads = leads;
      all = λ _ left.
          ap (λ (c : Cut). take_units setup guest c.units state) (cuts left)
          ∙ ap (λ x. step_after x (taken_from setup guest true (behind ++ left) x.desk)) taken
          ∙ ap (λ b. step_after o (taken_from setup guest b (behind ++ left) o.desk)) (sym greeted);
      still = still;
      seat = seat;
      going = λ _. going;
      rest = λ _ left. ap (λ (c : Cut). c.rest) (cuts left) ∙ ap (λ b. (cut b (behind ++ left)).rest) (sym greeted);
      kept = λ _. kept;
      leaves = told-leaves setup guest state told (take_unit setup guest unit state) taken (unit-leaves setup guest unit state);
    }

-- the session's effect is that of the definitions on its own rows
effect-own : (setup : Setup) (guest : ℕ) (held : List ℕ) (part : PartView) (port : PortState) (state : DeskState) (v : Verdict) → PartStands setup guest held part port state → part.session.ended ≡ None
    → IsOwnEffect guest (effect_of guest state v) (carried_out part.session.guest part.session.minor part.session.rows port v)
effect-own setup guest held part port state v stands going =
    let s = part.session in
    let own : IsOwnEffect guest (effect_of guest state v) (carried_out guest (session_of guest state).minor (mine guest state.scene.rows) (session_of guest state).port v) =
    own-effect guest (session_of guest state).minor state.scene.rows (session_of guest state).port v in
    let P : Effect → Type 0 = λ e. IsOwnEffect guest (effect_of guest state v) e in
    subst P
    (ap (λ minor. carried_out guest minor (mine guest state.scene.rows) (session_of guest state).port v) (stands.opened going).minor
    ∙ ap (λ rows. carried_out guest s.minor rows (session_of guest state).port v) stands.rows
    ∙ ap (λ p. carried_out guest s.minor s.rows p v) stands.frames
    ∙ ap (λ g. carried_out g s.minor s.rows port v) (sym stands.owner)) own

-- a unit that went, with this verdict
pub went-took : {O : Type 0} (takes : O → Post → O → Type 0) (out out' : O) (answer : Told) (setup : Setup) (guest : ℕ) (held behind : List ℕ) (part : PartView) (new : SessionView) (layers : Layers) (gate : GateView) (messages glances : ℕ) (port port' : PortState) (state : DeskState) (unit : StreamUnit) (v : Verdict) (answers : List (List ℕ))
    → PartStands setup guest held part port state → part.session.ended ≡ None → front part.session.stream.greeted held ≡ Takes unit behind
    → verdict part.session.sizes part.session.guest part.session.minor part.session.rows unit ≡ v
    → (effect_of guest state v).cause ≡ None → (effect_of guest state v).answers ≡ answers
    → HadUnit guest unit (effect_of guest state v) part.session new port' behind → AreRows guest new.rows → HadLists (effect_of guest state v).rows part.layers layers → HadClip guest unit part.gate gate
    → AreCounted unit (effect_of guest state v) part messages glances → new.stream.greeted ≡ true → Leads takes out (replies guest answers) out'
    → (moves answer ≡ false → IsSettled (sizes_of setup) state.scene → IsSettled (sizes_of setup) (unit_told (sizes_of setup).clip_limit guest unit (effect_of guest state v) state.scene).scene)
    → TookTold takes out out' answer setup guest held part (moved new layers gate messages glances) port' state
went-took takes out out' answer setup guest held behind part new layers gate messages glances port port' state unit v answers stands going is v_is none answered had own lists clip counts greeted told still =
    let e = effect_of guest state v in
    let last = moved new layers gate messages glances in
    let taken : take_unit setup guest unit state ≡ settled_after setup (went_told setup guest unit e state) =
    taken-by setup guest unit state v (stands.ended ∙ going) (verdict-same setup guest held part port state unit stands going ∙ v_is)
    ∙ ap (λ c. unit_done setup guest unit e c state) none ∙ went-settles setup guest unit e state in
    let Q : List (List ℕ) → Type 0 = λ xs. Leads takes out (guest_posts (replies guest xs)) out' in
    let R : List Post → Type 0 = λ ps. Leads takes out ps out' in
    unit-told takes out out' answer setup guest held behind part last port' state unit (went_told setup guest unit e state) going is greeted taken
    (went-stands setup guest held behind part new layers gate messages glances port port' state unit e stands going had own lists clip counts, subst Q (sym answered) (subst R (sym (guest-replies guest answers)) told))
    (went-rest setup guest held part port state unit e stands) still refl

-- a unit with this verdict changes the row of its own window alone
pub changes-one : (sizes : Sizes) (guest minor : ℕ) (own : List Row) (unit : StreamUnit) (change : Change) (answers : List (List ℕ))
    → verdict sizes guest minor own unit ≡ Goes change answers → ChangesOne (window_of unit) own change
changes-one sizes guest minor own (Word word) change answers is = absurd (by_major (word / 65536 == 1) is)
  where
    by_major : (b : Bool) → (if b then Greets (word % 65536) (greeting sizes (word % 65536)) else Ends (BadVersion word 0)) ≡ Goes change answers → ⊥
    by_major true e = cc
    by_major false e = cc
changes-one sizes guest minor own (Stop cause) change answers is = cc
changes-one sizes guest minor own (Whole header body) change answers is = messages-change_one sizes guest minor own header body change answers is

-- the version word isn't counted, and comes before the guest was greeted
of-word : (b : Bool) (unit w : StreamUnit) (behind behind' : List ℕ) → (if b then stream.Wait else Takes w behind') ≡ Takes unit behind → messages_of w ≡ 0 → 0 ≡ messages_of unit
of-word true unit w behind behind' e none = cc
of-word false unit w behind behind' e none = let same : w ≡ unit = cc in sym none ∙ ap messages_of same

of-whole : (c : Option Cause) (header : Header) (bytes : List ℕ) (unit : StreamUnit) (behind : List ℕ) → front_of c header bytes ≡ Takes unit behind → 1 ≡ messages_of unit
of-whole (Some cause) header bytes unit behind e = cc
of-whole None header bytes unit behind e = by_length (nat_lt (length bytes) header.len) e
  where
    by_length : (b : Bool) → (if b then stream.Wait else Takes (Whole header (take header.len bytes)) (drop header.len bytes)) ≡ Takes unit behind → 1 ≡ messages_of unit
    by_length true e = cc
    by_length false e = let same : Whole header (take header.len bytes) ≡ unit = cc in ap messages_of same

pub counted-unit : (greeted : Bool) (held behind : List ℕ) (unit : StreamUnit) → front greeted held ≡ Takes unit behind → (if greeted then 1 else 0) ≡ messages_of unit
counted-unit false held behind unit is = of-word (nat_lt (length held) 4) unit (Word (word_at 0 held)) behind (drop 4 held) is refl
counted-unit true held behind unit is =
    let h : 12 ≤ length held = takes-whole_header head_fault held unit behind is in
    of-whole (head_fault (header_at held)) (header_at held) (drop 12 held) unit behind (sym (front_by-whole_header head_fault held h) ∙ is)

-- the window that a turn tells
abbrev window_in : Turn → ℕ
window_in turns.Wait = 0
window_in (turns.Changed window drawn) = window
window_in turns.ClipWhole = 0
window_in turns.ClipOver = 0
window_in (turns.Ended cause) = 0

-- the area that a turn tells
abbrev drawn_in : Turn → Option Rect
drawn_in turns.Wait = None
drawn_in (turns.Changed window drawn) = drawn
drawn_in turns.ClipWhole = None
drawn_in turns.ClipOver = None
drawn_in (turns.Ended cause) = None

either : (P : Option AgentMessage → Type 0) (b : Bool) (x y : Option AgentMessage) → P x → P y → P (if b then x else y)
either P true x y one other = one
either P false x y one other = other

unless : (P : Option AgentMessage → Type 0) (b : Bool) (x y : Option AgentMessage) → b ≡ false → P y → P (if b then x else y)
unless P true x y no_other other = cc
unless P false x y no_other other = other

-- a message that isn't clipboard data leaves the clipboard
clip-left : (limit guest kind : ℕ) (body : List ℕ) (clip : Clip) → (kind == 140) ≡ false → clip_after limit guest (reading kind body) clip ≡ clip
clip-left limit guest kind body clip other =
    let P : Option AgentMessage → Type 0 = λ m. clip_after limit guest m clip ≡ clip in
    either P (kind == 130) _ _ refl
    (either P (kind == 131) _ _ refl
    (either P (kind == 132) _ _ refl
    (either P (kind == 133) _ _ refl
    (either P (kind == 134) _ _ refl
    (either P (kind == 136) _ _ refl
    (unless P (kind == 140) _ _ other
    (either P (kind == 141) _ _ refl
    (either P (kind == 143) _ _ refl
    (either P (kind == 144) _ _ refl
    (either P (kind == 145) _ _ refl
    (either P (kind == 146) _ _ refl
    (either P (kind == 147) _ _ refl
    (either P (kind == 148) _ _ refl refl)))))))))))))

-- a unit that isn't clipboard data leaves the clipboard, and so the store that holds it
no-clip : (guest : ℕ) (unit : StreamUnit) (gate : GateView) (limit : ℕ) (clip : Clip) → is_clip unit ≡ false → gate ≡ keeping limit clip → HadClip guest unit gate gate
no-clip guest unit gate limit clip other is =
    is
    ∙ ap (keeping limit) (sym (left unit other))
    ∙ ap (λ (g : GateView). keeping g.limit (clip_of_unit g.limit guest unit g.clip)) (sym is)
  where
    left : (unit : StreamUnit) → is_clip unit ≡ false → clip_of_unit limit guest unit clip ≡ clip
    left (Word word) other = refl
    left (Stop cause) other = refl
    left (Whole header body) other = clip-left limit guest header.kind body clip other

-- a unit whose effect the session had, where this was read
pub effect-took : {O : Type 0} (takes : O → Post → O → Type 0) (out out' : O) (answer : Told) (setup : Setup) (guest : ℕ) (held behind : List ℕ) (part : PartView) (new : SessionView) (window : ℕ) (drawn read : Option Rect) (layers : Layers) (messages glances : ℕ) (port port' : PortState) (state : DeskState)
    (unit : StreamUnit) (v : Verdict) (e : Effect) (change : Change)
    → PartStands setup guest held part port state → part.session.ended ≡ None → front part.session.stream.greeted held ≡ Takes unit behind
    → is_clip unit ≡ false → HadEffect takes out out' port' part.session new (turns.Changed window drawn) (window_of unit) read e behind
    → verdict part.session.sizes part.session.guest part.session.minor part.session.rows unit ≡ v
    → carried_out part.session.guest part.session.minor part.session.rows port v ≡ e
    → e.cause ≡ None → (effect_of guest state v).rows ≡ changed guest change state.scene.rows → length e.readings ≡ glances_in read
    → ChangesOne (window_of unit) part.session.rows change
    → AreRows guest new.rows → layers ≡ after_row (id_in guest window) (row_with window new.rows) part.layers
    → messages ≡ counted (part.messages + (if part.session.stream.greeted then 1 else 0)) → glances ≡ counted (part.glances + glances_in drawn)
    → (moves answer ≡ false → IsSettled (sizes_of setup) state.scene → IsSettled (sizes_of setup) (unit_told (sizes_of setup).clip_limit guest unit (effect_of guest state v) state.scene).scene)
    → TookTold takes out out' answer setup guest held part (moved new layers part.gate messages glances) port' state
effect-took takes out out' answer setup guest held behind part new window drawn read layers messages glances port port' state unit v e change stands going is other had v_is e_is none rows_is many one own made count seen still =
    let s = part.session in
    let E : Effect → Type 0 = λ x. IsOwnEffect guest (effect_of guest state v) x in
    let same : IsOwnEffect guest (effect_of guest state v) e = subst E e_is (effect-own setup guest held part port state v stands going) in
    let alone : window ≡ window_of unit = ap window_in had.answer in
    let W : ℕ → Type 0 = λ w. ChangesOne w s.rows change in
    let C : List Row → Type 0 = λ rs. ChangesOne window rs change in
    let one' : ChangesOne window (mine guest state.scene.rows) change = subst C (sym stands.rows) (subst W (sym alone) one) in
    let new_rows : new.rows ≡ e.rows = ap (λ (x : SessionView). x.rows) had.session in
    let T : ℕ → Type 0 = λ g. Leads takes out (replies g e.answers) out' in
    let looked : glances_in drawn ≡ length (effect_of guest state v).readings =
    ap glances_in (ap drawn_in had.answer) ∙ sym many ∙ ap length (sym same.readings) in
    went-took takes out out' answer setup guest held behind part new layers part.gate messages glances port port' state unit v e.answers stands going is v_is
    (same.cause ∙ none) same.answers
    (record {
      rows = same.rows ∙ sym new_rows;
      minor = same.minor ∙ sym (ap (λ (x : SessionView). x.minor) had.session);
      port = same.port ∙ sym had.frames;
      greeted = front-greets s.stream.greeted held unit behind is ∙ sym had.greeted;
      stands = had.stands;
      owner = ap (λ (x : SessionView). x.guest) had.session;
      sizes = ap (λ (x : SessionView). x.sizes) had.session;
      ended = ap (λ (x : SessionView). x.ended) had.session ∙ going;
    })
    own
    (lists-after guest state.scene.rows (effect_of guest state v).rows new.rows part.layers layers window change stands.apart rows_is (same.rows ∙ sym new_rows) stands.followed one' made)
    (no-clip guest unit part.gate (sizes_of setup).clip_limit state.scene.clip other stands.gate)
    (record {
      told = count ∙ ap (λ n. counted (part.messages + n)) (counted-unit s.stream.greeted held behind unit is);
      read = seen ∙ ap (λ n. counted (part.glances + n)) looked;
    })
    had.greeted (subst T stands.owner had.told) still
