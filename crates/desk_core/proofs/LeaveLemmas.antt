-- What a guest's units leave of the others.
use Rattle.std.proofs.Common.{◌≡◌, ℕ, length, [], Option, Some, None, refl, sym, ◌∙◌, ap, length-set}
use Rattle.std.proofs.lemmas.List.{get_or-set_other}
use Rattle.desk_laws.specs.declared.cause.Cause.{Cause}
use Rattle.desk_laws.specs.declared.setup.Setup.{Setup}
use Rattle.desk_laws.specs.Stream.{StreamUnit}
use Rattle.desk_laws.specs.Effects.{Effect, Cleared}
use Rattle.desk_laws.specs.Rows.{mine}
use Rattle.desk_laws.specs.Scene.{Input}
use Rattle.desk_laws.specs.Sizes.{sizes_of}
use Rattle.desk_laws.specs.State.{DeskState, Session, StepOutcome, fresh, session_of}
use Rattle.desk_laws.specs.Steps.{take_unit, unit_of_open, unit_done, unit_effect}
use Rattle.desk_laws.proofs.OtherLemmas.{others-keep_rows}
use Rattle.desk_laws.proofs.EndLemmas.{length-unit, unit-other}
use Rattle.desk_laws.proofs.SettleLemmas.{settle-rows}
use Rattle.desk_laws.proofs.SoundLemmas.{unit-keeps}
use Rattle.desk_core.specs.Pieces.{LeavesOthers}
use Rattle.desk_core.specs.Settling.{settle_state, settled_after}
use Rattle.desk_core.proofs.EndStands.{ended_told}

pub leaves-all : (guest : ℕ) (state : DeskState) → LeavesOthers guest state state
leaves-all guest state = record { others = λ other apart. record { rows = refl; session = refl }; sessions = refl; items = refl }

pub leaves-both : (guest : ℕ) (a b c : DeskState) → LeavesOthers guest a b → LeavesOthers guest b c → LeavesOthers guest a c
leaves-both guest a b c first next = record {
  others = λ other apart.
      let x = first.others other apart in
      let y = next.others other apart in
      record { rows = y.rows ∙ x.rows; session = y.session ∙ x.session };
  sessions = next.sessions ∙ first.sessions;
  items = next.items ∙ first.items;
}

-- a unit counts no item
unit-items : (setup : Setup) (guest : ℕ) (unit : StreamUnit) (state : DeskState) → (take_unit setup guest unit state).desk.counts.items ≡ state.counts.items
unit-items setup guest unit state = by_end (session_of guest state).ended
  where
    by_cause : (e : Effect) (c : Option Cause) → (unit_done setup guest unit e c state).desk.counts.items ≡ state.counts.items
    by_cause e None = refl
    by_cause e (Some cause) = refl

    by_end : (c : Option Cause) → (unit_of_open setup guest unit c state).desk.counts.items ≡ state.counts.items
    by_end None = by_cause (unit_effect setup guest unit state) (unit_effect setup guest unit state).cause
    by_end (Some cause) = refl

pub unit-leaves : (setup : Setup) (guest : ℕ) (unit : StreamUnit) (state : DeskState) → LeavesOthers guest state (take_unit setup guest unit state).desk
unit-leaves setup guest unit state = record {
  others = λ other apart. record { rows = unit-keeps setup guest other apart unit state; session = unit-other setup guest other apart unit state };
  sessions = length-unit setup guest unit state;
  items = unit-items setup guest unit state;
}

-- what is told before focus and hover are leaves the others, where all of it does
pub told-leaves : (setup : Setup) (guest : ℕ) (state : DeskState) (told whole : StepOutcome) → whole ≡ settled_after setup told → LeavesOthers guest state whole.desk → LeavesOthers guest state told.desk
told-leaves setup guest state told whole is leaves = record {
  others = λ other apart.
      let left = leaves.others other apart in
      record {
        rows = ap (mine other) (sym (settle-rows (sizes_of setup) told.desk.scene)) ∙ sym (ap (λ (o : StepOutcome). mine other o.desk.scene.rows) is) ∙ left.rows;
        session = sym (ap (λ (o : StepOutcome). session_of other o.desk) is) ∙ left.session;
      };
  sessions = sym (ap (λ (o : StepOutcome). length o.desk.sessions) is) ∙ leaves.sessions;
  items = sym (ap (λ (o : StepOutcome). o.desk.counts.items) is) ∙ leaves.items;
}

-- telling focus and hover leaves everyone's windows and sessions
pub settle-leaves : (setup : Setup) (guest : ℕ) (state : DeskState) → LeavesOthers guest state (settle_state setup state).desk
settle-leaves setup guest state = record {
  others = λ other apart. record { rows = ap (mine other) (settle-rows (sizes_of setup) state.scene); session = refl };
  sessions = refl;
  items = refl;
}

-- the end of a session
pub ends-leaves : (guest : ℕ) (input : Input) (cause : Cause) (state : DeskState) → LeavesOthers guest state (ended_told guest input cause state).desk
ends-leaves guest input cause state =
    let session : Session = record (session_of guest state) { rest = []; ended = Some cause } in
    record {
      others = λ other apart. record { rows = others-keep_rows guest other Cleared state.scene.rows apart; session = get_or-set_other state.sessions guest other session (fresh 0) apart };
      sessions = length-set state.sessions guest session;
      items = refl;
    }
