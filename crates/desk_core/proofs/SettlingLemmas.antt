-- What is told before focus and hover, and the whole of it.
use Rattle.std.proofs.Common.{◌≡◌, ℕ, List, [], ◌++◌, map, refl, sym, ◌∙◌, ap}
use Rattle.std.proofs.lemmas.List.{append-nil}
use Rattle.desk_laws.specs.declared.cause.Cause.{Cause}
use Rattle.desk_laws.specs.declared.setup.Setup.{Setup}
use Rattle.desk_laws.specs.Effects.{Effect}
use Rattle.desk_laws.specs.Scene.{GuestInput, Input, Post, SceneOutcome}
use Rattle.desk_laws.specs.Settle.{IsSettled}
use Rattle.desk_laws.specs.Sizes.{sizes_of}
use Rattle.desk_laws.specs.State.{DeskState, GuestLoad, StepOutcome, on_desk, stays, step_after}
use Rattle.desk_laws.specs.Steps.{ends, went}
use Rattle.desk_laws.specs.Stream.{StreamUnit}
use Rattle.desk_laws.proofs.SettledLemmas.{settled-silent}
use Rattle.desk_core.specs.Settling.{settle_state, settled_after}
use Rattle.desk_core.proofs.EndStands.{ended_told}
use Rattle.desk_core.proofs.StandLemmas.{went_told}

-- an outcome by its parts
abbrev with_all : DeskState → List Post → List GuestInput → List GuestLoad → StepOutcome
with_all desk posts inputs readings = record { desk = desk; posts = posts; inputs = inputs; readings = readings }

-- nothing is told where focus and hover were told already
pub silent-state : (setup : Setup) (state : DeskState) → IsSettled (sizes_of setup) state.scene → settle_state setup state ≡ stays state
silent-state setup state is = ap (λ (o : SceneOutcome). on_desk o [] state) (settled-silent (sizes_of setup) state.scene is)

pub silent-after : (setup : Setup) (o : StepOutcome) → IsSettled (sizes_of setup) o.desk.scene → settled_after setup o ≡ o
silent-after setup o is =
    ap (step_after o) (silent-state setup o.desk is)
    ∙ ap (λ ps. with_all o.desk ps (o.inputs ++ []) (o.readings ++ [])) (append-nil o.posts)
    ∙ ap (λ ins. with_all o.desk o.posts ins (o.readings ++ [])) (append-nil o.inputs)
    ∙ ap (λ rs. with_all o.desk o.posts o.inputs rs) (append-nil o.readings)

-- a unit that ended nothing is what it told, and then focus and hover
pub went-settles : (setup : Setup) (guest : ℕ) (unit : StreamUnit) (e : Effect) (state : DeskState) → went setup guest unit e state ≡ settled_after setup (went_told setup guest unit e state)
went-settles setup guest unit e state =
    let whole = settled_after setup (went_told setup guest unit e state) in
    ap (λ rs. with_all whole.desk whole.posts whole.inputs rs) (sym (append-nil (map (λ w. record { guest = guest; word = w }) e.readings)))

-- so is a session's end
pub ends-settles : (setup : Setup) (guest : ℕ) (input : Input) (cause : Cause) (state : DeskState) → ends setup guest input cause state ≡ settled_after setup (ended_told guest input cause state)
ends-settles setup guest input cause state = refl
