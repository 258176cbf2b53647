-- Events that leave focus and hover as they were last told, and a Move that finds another hover.
use Rattle.std.proofs.Common.{◌≡◌, ℕ, Bool, true, false, [], ◌∙◌, ap}
use Rattle.std.specs.Prelude.{ℤ, if◌then◌else◌}
use Rattle.gui_num.specs.declared.Point.{Point}
use Rattle.desk_laws.specs.declared.setup.Setup.{Setup}
use Rattle.desk_laws.specs.declared.item.Item.{Item}
use Rattle.desk_laws.specs.declared.item.Item.TheVariants as item
use Rattle.desk_laws.specs.Sizes.{sizes_of}
use Rattle.desk_laws.specs.Following.{LayersFollow}
use Rattle.desk_laws.specs.Scene.{Scene, InputOutcome, with_deliveries, ignored, unchanged, perform}
use Rattle.desk_laws.specs.Settle.{IsSettled, hover_now}
use Rattle.desk_laws.specs.Events.{with_pointer, motion, moves, route}
use Rattle.desk_laws.proofs.SettledLemmas.{key-settled, moved-settled}
use Rattle.input_router.specs.Routes.{StaysOn, pointed, settled_by}

-- where an event is said to leave them so, the scene is settled after it: settle then tells nothing
pub event-settled : (setup : Setup) (event : Item) (scene : Scene) → LayersFollow scene.rows scene.layers → IsSettled (sizes_of setup) scene → settled_by setup event scene ≡ true
    → IsSettled (sizes_of setup) (perform setup.denied (route setup event scene) scene).scene
event-settled setup (item.Key down code state) scene follow still said = key-settled setup scene follow still down code state
event-settled setup (item.Move x y state) scene follow still said = moved-settled setup scene follow still x y state said
event-settled setup other scene follow still said = absurd (cc)

-- a Move in which the hover changes hands nothing on, and puts the pointer at its pixel
pub move-alone : (setup : Setup) (x y : ℤ) (state : ℕ) (scene : Scene) → StaysOn setup (item.Move x y state) → settled_by setup (item.Move x y state) scene ≡ false
    → perform setup.denied (route setup (item.Move x y state) scene) scene ≡ unchanged (pointed (record { x = x; y = y }) scene)
move-alone setup x y state scene inside left =
    let p : Point = record { x = x; y = y } in
    let before = hover_now (sizes_of setup) scene in
    let moved : InputOutcome = with_deliveries scene (with_pointer p scene.seat) (moves (sizes_of setup) state before (pointed p scene)) in
    ap (λ (v : Bool). perform setup.denied (if v then moved else ignored scene) scene) inside
    ∙ ap (λ (v : Bool). perform setup.denied (with_deliveries scene (with_pointer p scene.seat) (if v then motion before state (pointed p scene) else [])) scene) left
