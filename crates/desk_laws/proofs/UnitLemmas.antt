-- What one unit does to the desktop, by its verdict.
use Rattle.std.proofs.Common.{◌≡◌, ℕ, ◌<◌, List, [], ◌∷◌, length, Some, None, refl, ◌∙◌, ap, get_or-set_same}
use Rattle.desk_laws.specs.declared.setup.Setup.{Setup}
use Rattle.desk_laws.specs.declared.cause.Cause.{Cause}
use Rattle.desk_laws.specs.Sizes.{sizes_of}
use Rattle.desk_laws.specs.Stream.{StreamUnit}
use Rattle.desk_laws.specs.Rows.{mine}
use Rattle.desk_laws.specs.Effects.{Verdict, Effect, verdict, carried_out}
use Rattle.desk_laws.specs.State.{DeskState, Session, session_of, with_session, stays, and_next}
use Rattle.desk_laws.specs.Steps.{take_unit, take_units, unit_of_open, unit_done}

-- the effect of a verdict on the desktop as it is
abbrev pub effect_of : ℕ → DeskState → Verdict → Effect
effect_of guest desk v = carried_out guest (session_of guest desk).minor desk.scene.rows (session_of guest desk).port v

-- a unit of a session that is open
pub taken-by : (setup : Setup) (guest : ℕ) (unit : StreamUnit) (desk : DeskState) (v : Verdict) → (session_of guest desk).ended ≡ None
    → verdict (sizes_of setup) guest (session_of guest desk).minor (mine guest desk.scene.rows) unit ≡ v
    → take_unit setup guest unit desk ≡ unit_done setup guest unit (effect_of guest desk v) (effect_of guest desk v).cause desk
taken-by setup guest unit desk v still is =
    ap (λ e. unit_of_open setup guest unit e desk) still
    ∙ ap (λ w. unit_done setup guest unit (effect_of guest desk w) (effect_of guest desk w).cause desk) is

-- a unit of a session that ended
pub unit-left : (setup : Setup) (guest : ℕ) (unit : StreamUnit) (desk : DeskState) (cause : Cause) → (session_of guest desk).ended ≡ Some cause
    → take_unit setup guest unit desk ≡ stays desk
unit-left setup guest unit desk cause over = ap (λ e. unit_of_open setup guest unit e desk) over

pub units-left : (setup : Setup) (guest : ℕ) (units : List StreamUnit) (desk : DeskState) (cause : Cause) → (session_of guest desk).ended ≡ Some cause
    → take_units setup guest units desk ≡ stays desk
units-left setup guest [] desk cause over = refl
units-left setup guest (unit ∷ units) desk cause over =
    ap (λ before. and_next before (take_units setup guest units)) (unit-left setup guest unit desk cause over)
    ∙ units-left setup guest units desk cause over

-- a session put in the place of a guest's
pub session-put : (guest : ℕ) (session : Session) (desk : DeskState) → guest < length desk.sessions
    → session_of guest (with_session guest session desk) ≡ session
session-put guest session desk there = get_or-set_same desk.sessions guest session _ there
