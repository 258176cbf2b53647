-- Each step of a run posts what has a record.
use Rattle.std.proofs.Common.{◌≡◌, ◌<◌, ◌≤◌, ◌^◌, ◌+◌, ℕ, Bool, true, false, ◌==◌, List, [], ◌∷◌, ◌++◌, length, Option, Some, None, refl, ◌∙◌, arith}
use Rattle.std.specs.Prelude.{if◌then◌else◌, nat_le}
use Rattle.std.proofs.lemmas.Bool.{leb-true}
use Rattle.std.proofs.lemmas.List.Elements.{All-append}
use Rattle.gui_wire.specs.declared.limits.TheConstants.{MAX_CLIPBOARD_DATA, MAX_CLIPBOARD_SIZE}
use Rattle.gui_wire.specs.AgentMessages as agent
use Rattle.gui_wire.specs.AgentMessages.{AgentMessage, reading}
use Rattle.desk_laws.specs.declared.setup.Setup.{Setup}
use Rattle.desk_laws.specs.declared.cause.Cause.{Cause}
use Rattle.desk_laws.specs.declared.cause.Cause.TheVariants.{StreamEnded, LinkFailed}
use Rattle.desk_laws.specs.declared.item.Item.{Item}
use Rattle.desk_laws.specs.declared.item.Item.TheVariants as item
use Rattle.desk_laws.specs.Rules.{Fits}
use Rattle.desk_laws.specs.Sizes.{sizes_of}
use Rattle.desk_laws.specs.Pairs.{clip_limit}
use Rattle.desk_laws.specs.Items.{FitsItem}
use Rattle.desk_laws.specs.Stream.{StreamUnit, Word, Stop, Whole, Cut, cut}
use Rattle.desk_laws.specs.Frames.{counted}
use Rattle.desk_laws.specs.Rows.{mine}
use Rattle.desk_laws.specs.Effects.{Effect, Cleared}
use Rattle.desk_laws.specs.Clipboard.{Clip, give, forget, is_asked}
use Rattle.desk_laws.specs.Scene.{SceneOutcome, Counts, Input, Took, Closing, Losing, and_then, perform}
use Rattle.desk_laws.specs.Settle.{settle}
use Rattle.desk_laws.specs.Events.{route}
use Rattle.desk_laws.specs.State.{DeskState, StepOutcome, stays, and_next, session_of, count_item}
use Rattle.desk_laws.specs.Steps.{clip_after, clip_of_unit, messages_of, end_told, ends, unit_told, counts_after, went, unit_done, unit_effect, unit_of_open, take_unit, take_units, rest_of_open, with_rest, bytes_of_open, take_bytes, end_of_open, end_session, store_of_open, take_store, event, step}
use Rattle.desk_laws.proofs.OtherLemmas.{others-keep_rows}
use Rattle.isolation_laws.proofs.RowParts.{effect-other}
use Rattle.output_laws.proofs.AnswerLengths.{AreShort, effect-short}
use Rattle.output_laws.proofs.PostRecords.{HasRecord, RecordAll, nothing-recorded, replies-recorded, end-recorded, pictures-recorded, HasCountWidths, summary-recorded}
use Rattle.output_laws.proofs.SceneRecords.{HoldsAtMost, IsKept, KeepsScene, apart-from, then-kept, perform-kept, settle-kept}

-- what holds of each state that a run of this setup reaches
pub record IsKeptIn (setup : Setup) (desk : DeskState) : Type 0 where
  pub scene : IsKept (length setup.guests) (clip_limit setup.clip) desk.scene
  pub counts : HasCountWidths desk.counts

-- so it is in the state that this led to, and the posts on the way have records
pub record KeepsDesk (setup : Setup) (painted : ℕ) (outcome : StepOutcome) : Type 0 where
  pub desk : IsKeptIn setup outcome.desk
  pub posts : RecordAll painted outcome.posts

-- ---- the clipboard

pub limit-small : (revision : ℕ) → clip_limit revision ≤ MAX_CLIPBOARD_DATA
limit-small revision = by_revision (revision == 2)
  where
    by_revision : (b : Bool) → (if b then MAX_CLIPBOARD_DATA else MAX_CLIPBOARD_SIZE) ≤ MAX_CLIPBOARD_DATA
    by_revision true = omega arith
    by_revision false = omega arith

-- data of a guest is held up to the limit
give-kept : (limit guest : ℕ) (bytes : List ℕ) (clip : Clip) → HoldsAtMost limit clip.content → HoldsAtMost limit (give limit guest bytes clip).content
give-kept limit guest bytes clip held = by_asked (is_asked clip.asked guest)
  where
    by_length : (b : Bool) → nat_le (length bytes) limit ≡ b → HoldsAtMost limit (if b then Some (record { source = guest; bytes = bytes }) else None)
    by_length true e = leb-true (length bytes) limit e
    by_length false e = tt

    by_asked : (b : Bool) → HoldsAtMost limit (if b
        then record { asked = None; content = if nat_le (length bytes) limit then Some (record { source = guest; bytes = bytes }) else None }
        else clip).content
    by_asked true = by_length (nat_le (length bytes) limit) refl
    by_asked false = held

message-kept : (limit guest : ℕ) (m : Option AgentMessage) (clip : Clip) → HoldsAtMost limit clip.content → HoldsAtMost limit (clip_after limit guest m clip).content
message-kept limit guest (Some (agent.ClipData bytes)) clip held = give-kept limit guest bytes clip held
message-kept limit guest m clip held = held

unit-clip : (limit guest : ℕ) (unit : StreamUnit) (clip : Clip) → HoldsAtMost limit clip.content → HoldsAtMost limit (clip_of_unit limit guest unit clip).content
unit-clip limit guest (Word word) clip held = held
unit-clip limit guest (Stop cause) clip held = held
unit-clip limit guest (Whole header body) clip held = message-kept limit guest (reading header.kind body) clip held

forget-kept : (limit guest : ℕ) (clip : Clip) → HoldsAtMost limit clip.content → HoldsAtMost limit (forget guest clip).content
forget-kept limit guest clip held = by_asked (is_asked clip.asked guest)
  where
    by_asked : (b : Bool) → HoldsAtMost limit (if b then record clip { asked = None } else clip).content
    by_asked true = held
    by_asked false = held

-- ---- counts

count-small : (n : ℕ) → counted n < 2 ^ 64
count-small n = omega arith

item-counted : (setup : Setup) (desk : DeskState) → IsKeptIn setup desk → IsKeptIn setup (count_item desk)
item-counted setup desk kept = record {
  scene = kept.scene;
  counts = record { items = count-small (desk.counts.items + 1); messages = kept.counts.messages; glances = kept.counts.glances };
}

unit-counted : (unit : StreamUnit) (e : Effect) (counts : Counts) → HasCountWidths counts → HasCountWidths (counts_after unit e counts)
unit-counted unit e counts fit = record {
  items = fit.items;
  messages = count-small (counts.messages + messages_of unit);
  glances = count-small (counts.glances + length e.readings);
}

module _ (setup : Setup) (fits : Fits setup) (painted : ℕ) (small : painted < 2 ^ 64) where
  few : length setup.guests ≤ 2 ^ 8
  few = let most = fits.guests in omega (arith, most)

  nothing-kept : (desk : DeskState) → IsKeptIn setup desk → KeepsDesk setup painted (stays desk)
  nothing-kept desk kept = record { desk = kept; posts = nothing-recorded painted }

  -- one step and then another
  pub next-kept : (before : StepOutcome) (next : DeskState → StepOutcome) → KeepsDesk setup painted before
      → (IsKeptIn setup before.desk → KeepsDesk setup painted (next before.desk)) → KeepsDesk setup painted (and_next before next)
  next-kept before next first later =
      let second = later first.desk in
      record { desk = second.desk; posts = All-append (HasRecord painted) before.posts (next before.desk).posts first.posts second.posts }

  -- ---- what is told, and then settled

  settled-kept : (told : SceneOutcome) → KeepsScene (length setup.guests) (clip_limit setup.clip) painted told
      → KeepsScene (length setup.guests) (clip_limit setup.clip) painted (and_then told (settle (sizes_of setup)))
  settled-kept told kept =
      then-kept (length setup.guests) (clip_limit setup.clip) painted few (limit-small setup.clip) told (settle (sizes_of setup)) kept
      (settle-kept (length setup.guests) (clip_limit setup.clip) painted few (limit-small setup.clip) (sizes_of setup) told.scene)

  event-kept : (i : Item) (desk : DeskState) → IsKeptIn setup desk → KeepsDesk setup painted (event setup i desk)
  event-kept i desk kept =
      let all = settled-kept (perform setup.denied (route setup i desk.scene) desk.scene)
      (perform-kept (length setup.guests) (clip_limit setup.clip) painted few (limit-small setup.clip) setup.denied (route setup i desk.scene) desk.scene kept.scene) in
      record { desk = record { scene = all.scene; counts = kept.counts }; posts = all.posts }

  module _ (guest : ℕ) (below : guest < length setup.guests) where
    own : guest < 2 ^ 8
    own = let most = few in omega (arith, below, most)

    ends-kept : (input : Input) (cause : Cause) (desk : DeskState) → IsKeptIn setup desk → KeepsDesk setup painted (ends setup guest input cause desk)
    ends-kept input cause desk kept =
        let all = settled-kept (end_told guest input cause desk.scene) (record {
          scene = record {
            rows = λ other far. others-keep_rows guest other Cleared desk.scene.rows (apart-from (length setup.guests) guest other below far) ∙ kept.scene.rows other far;
            clip = forget-kept (clip_limit setup.clip) guest desk.scene.clip kept.scene.clip;
          };
          posts = end-recorded painted guest cause own;
        }) in
        record { desk = record { scene = all.scene; counts = kept.counts }; posts = all.posts }

    -- a unit that ended nothing
    went-kept : (unit : StreamUnit) (e : Effect) (desk : DeskState) → ((other : ℕ) → length setup.guests ≤ other → mine other e.rows ≡ mine other desk.scene.rows) → AreShort e.answers
        → IsKeptIn setup desk → KeepsDesk setup painted (went setup guest unit e desk)
    went-kept unit e desk same short kept =
        let all = settled-kept (unit_told (sizes_of setup).clip_limit guest unit e desk.scene) (record {
          scene = record {
            rows = λ other far. same other far ∙ kept.scene.rows other far;
            clip = unit-clip (clip_limit setup.clip) guest unit desk.scene.clip kept.scene.clip;
          };
          posts = replies-recorded painted guest own e.answers short;
        }) in
        record { desk = record { scene = all.scene; counts = unit-counted unit e desk.counts kept.counts }; posts = all.posts }

    unit-kept : (unit : StreamUnit) (desk : DeskState) → IsKeptIn setup desk → KeepsDesk setup painted (take_unit setup guest unit desk)
    unit-kept unit desk kept = by_end (session_of guest desk).ended
      where
        by_cause : (c : Option Cause) → KeepsDesk setup painted (unit_done setup guest unit (unit_effect setup guest unit desk) c desk)
        by_cause None =
            went-kept unit (unit_effect setup guest unit desk) desk
            (λ other far. effect-other (sizes_of setup) guest other (session_of guest desk).minor (apart-from (length setup.guests) guest other below far) desk.scene.rows (session_of guest desk).port unit)
            (effect-short (sizes_of setup) guest (session_of guest desk).minor desk.scene.rows (session_of guest desk).port unit) kept
        by_cause (Some cause) = ends-kept (Took unit) cause desk kept

        by_end : (c : Option Cause) → KeepsDesk setup painted (unit_of_open setup guest unit c desk)
        by_end None = by_cause (unit_effect setup guest unit desk).cause
        by_end (Some cause) = nothing-kept desk kept

    units-kept : (units : List StreamUnit) (desk : DeskState) → IsKeptIn setup desk → KeepsDesk setup painted (take_units setup guest units desk)
    units-kept [] desk kept = nothing-kept desk kept
    units-kept (unit ∷ units) desk kept =
        next-kept (take_unit setup guest unit desk) (take_units setup guest units) (unit-kept unit desk kept) (units-kept units (take_unit setup guest unit desk).desk)

    rest-kept : (rest : List ℕ) (desk : DeskState) → IsKeptIn setup desk → IsKeptIn setup (with_rest guest rest desk)
    rest-kept rest desk kept = by_end (session_of guest desk).ended
      where
        by_end : (c : Option Cause) → IsKeptIn setup (rest_of_open guest rest c desk)
        by_end None = record { scene = kept.scene; counts = kept.counts }
        by_end (Some cause) = kept

    bytes-kept : (piece : List ℕ) (desk : DeskState) → IsKeptIn setup desk → KeepsDesk setup painted (take_bytes setup guest piece desk)
    bytes-kept piece desk kept = by_end (session_of guest desk).ended
      where
        by_end : (c : Option Cause) → KeepsDesk setup painted (bytes_of_open setup guest piece c desk)
        by_end None =
            let c : Cut = cut (session_of guest desk).greeted ((session_of guest desk).rest ++ piece) in
            units-kept c.units (with_rest guest c.rest desk) (rest-kept c.rest desk kept)
        by_end (Some cause) = nothing-kept desk kept

    end-kept : (input : Input) (cause : Cause) (desk : DeskState) → IsKeptIn setup desk → KeepsDesk setup painted (end_session setup guest input cause desk)
    end-kept input cause desk kept = by_end (session_of guest desk).ended
      where
        by_end : (c : Option Cause) → KeepsDesk setup painted (end_of_open setup guest input cause c desk)
        by_end None = ends-kept input cause desk kept
        by_end (Some c) = nothing-kept desk kept

    store-kept : (delay page offset : ℕ) (bytes : List ℕ) (desk : DeskState) → IsKeptIn setup desk → KeepsDesk setup painted (take_store guest delay page offset bytes desk)
    store-kept delay page offset bytes desk kept = by_end (session_of guest desk).ended
      where
        by_end : (c : Option Cause) → KeepsDesk setup painted (store_of_open guest delay page offset bytes c desk)
        by_end None = record { desk = record { scene = kept.scene; counts = kept.counts }; posts = nothing-recorded painted }
        by_end (Some cause) = nothing-kept desk kept

  -- each step keeps it, and posts what has records
  pub step-kept : (i : Item) (piece : List ℕ) (desk : DeskState) → FitsItem (length setup.guests) setup.pages i (length piece) → IsKeptIn setup desk
      → KeepsDesk setup painted (step setup i piece desk)
  step-kept (item.Bytes guest) piece desk fit kept = bytes-kept guest fit.0 piece (count_item desk) (item-counted setup desk kept)
  step-kept (item.Closed guest) piece desk fit kept = end-kept guest fit.0 Closing (StreamEnded 0 0) (count_item desk) (item-counted setup desk kept)
  step-kept (item.Store guest delay page offset) piece desk fit kept = store-kept guest fit.0 delay page offset piece (count_item desk) (item-counted setup desk kept)
  step-kept (item.Lost guest) piece desk fit kept = end-kept guest fit.0 Losing (LinkFailed 0 0) (count_item desk) (item-counted setup desk kept)
  step-kept item.Snap piece desk fit kept = record {
    desk = item-counted setup desk kept;
    posts = pictures-recorded painted setup.width setup.height setup desk.scene.rows desk.scene.layers fits.width fits.height setup.outputs fits.later.in_plane;
  }
  step-kept item.End piece desk fit kept =
      let counted-one = item-counted setup desk kept in
      record { desk = counted-one; posts = summary-recorded painted (count_item desk).counts small counted-one.counts }
  step-kept item.Idle piece desk fit kept = nothing-kept desk kept
  step-kept i piece desk fit kept = event-kept i (count_item desk) (item-counted setup desk kept)
