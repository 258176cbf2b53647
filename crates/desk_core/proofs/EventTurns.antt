-- What an event of the user does to a desk, from what the router routes and what is carried out of it.
use Rattle.std.proofs.Common.{◌≡◌, ℕ, ◌≤◌, Bool, true, false, List, [], length, Option, refl, sym, ◌∙◌, ap, subst, arith}
use Rattle.desk_laws.specs.declared.setup.Pair.{Pair}
use Rattle.desk_laws.specs.declared.setup.Setup.{Setup}
use Rattle.desk_laws.specs.declared.item.Item.{Item}
use Rattle.desk_laws.specs.declared.item.Item.TheVariants as item
use Rattle.desk_laws.specs.declared.row_id.RowId.{RowId}
use Rattle.desk_laws.specs.Sizes.{Sizes, sizes_of}
use Rattle.desk_laws.specs.Layers.{Layers}
use Rattle.desk_laws.specs.Scene.{Scene, Seat, Post, Delivery, InputOutcome, SceneOutcome, unchanged, and_then, deliver_all, ignored, perform, scene_of_input}
use Rattle.desk_laws.specs.Settle.{settle, IsSettled}
use Rattle.desk_laws.specs.Events.{route}
use Rattle.desk_laws.proofs.EventLayers.{event-lists, event-listed}
use Rattle.desk_laws.proofs.ListedLemmas.{AreListed}
use Rattle.desk_laws.proofs.SettleLemmas.{all-seat, settle-clip}
use Rattle.desk_laws.proofs.SettledLemmas.{settle-settles, settled-outcome}
use Rattle.clipboard_gate.specs.Kept.{GateView, keeping}
use Rattle.input_router.specs.declared.router.Taken.{Taken}
use Rattle.input_router.specs.Deliveries as queue
use Rattle.input_router.specs.Presents.{Presents}
use Rattle.input_router.specs.Routes.{AreMapped, FindsHover, StaysOn, Takes, settled_by}
use Rattle.input_router.proofs.DeliveryLemmas.{route-few}
use Rattle.input_router.proofs.SceneLemmas.{listed-mapped}
use Rattle.input_router.proofs.SettledLemmas.{event-settled, move-alone}
use Rattle.guest_session.specs.SessionView.{SessionView}
use Rattle.desk_core.specs.EventSteps.{Performs, EventTakes, FindsBehind, KnowsHover}
use Rattle.desk_core.specs.Places.{spots_of}
use Rattle.desk_core.specs.Queued.{Queues}
use Rattle.desk_core.specs.Scenes.{HasRowsOf, KeepSessions, Delivered, IsScene, Settles}
use Rattle.desk_core.proofs.PostLemmas.{leads-append}
use Rattle.desk_core.proofs.SceneLemmas.{kept-same}
use Rattle.desk_core.proofs.SettledScenes.{rows-same, scene-presents, settled-scene, queued-all}

-- ---- an event that is carried out

-- what is routed on a desk is what the definitions route on the scene that it is that of
pub event-routed : (P : Setup → Scene → Type 0) (border : ℕ) (setup : Setup) (i : Item) (sessions : List SessionView) (layers : Layers) (seat : Seat) (scene : Scene)
    → setup.border ≡ border → StaysOn setup i → IsScene sessions layers seat scene → IsSettled (sizes_of setup) scene
    → ((s : Setup) (t : Scene) → Presents s.border (spots_of border sessions) layers seat t → AreMapped t → IsSettled (sizes_of s) t → StaysOn s i → P s t)
    → P setup scene
event-routed P border setup i sessions layers seat scene same on is still routes =
    let shown : Presents setup.border (spots_of border sessions) layers seat scene =
    subst (λ b. Presents setup.border (spots_of b sessions) layers seat scene) same (scene-presents setup.border sessions layers seat scene is) in
    routes setup scene shown (listed-mapped scene is.apart is.follow) still on

-- what was routed and carried out is what the definitions perform
pub event-performed : {O : Type 0} (takes : O → Post → O → Type 0) (out out' : O) (sessions sessions' : List SessionView) (before after : Layers) (gate gate' : GateView) (seat seat' : Seat) (taken : Taken) (denied : List Pair) (first waiting : List Delivery) (setup : Setup) (i : Item) (scene : Scene)
    → setup.denied ≡ denied → IsScene sessions before seat scene → gate ≡ keeping (sizes_of setup).clip_limit scene.clip → IsSettled (sizes_of setup) scene → first ≡ []
    → Takes Queues first waiting seat' before after taken setup i scene
    → KeepSessions sessions sessions'
    → ((limit : ℕ) (s : Scene) → HasRowsOf sessions s → gate ≡ keeping limit s.clip → Delivered takes out out' sessions' limit gate' (deliver_all denied waiting s))
    → Performs takes out out' sessions sessions' after gate' seat' taken.settled (sizes_of setup) (perform setup.denied (route setup i scene) scene)
event-performed takes out out' sessions sessions' before after gate gate' seat seat' taken denied first waiting setup i scene pairs is holds still none routes kept done =
    let r : InputOutcome = route setup i scene in
    let start : Scene = scene_of_input r scene in
    let limit = (sizes_of setup).clip_limit in
    let few : length r.deliveries ≤ 5 = omega (arith, route-few setup i scene) in
    let from_none : queue.Leads Queues [] r.deliveries waiting = subst (λ ds. queue.Leads Queues ds r.deliveries waiting) none routes.carries.leads in
    let all : waiting ≡ r.deliveries = queued-all r.deliveries waiting few from_none in
    let P : List Pair → Type 0 = λ ps. Delivered takes out out' sessions' limit gate' (deliver_all ps r.deliveries start) in
    let carried : Delivered takes out out' sessions' limit gate' (deliver_all setup.denied r.deliveries start) =
    subst P (sym pairs)
    (subst (λ ds. Delivered takes out out' sessions' limit gate' (deliver_all denied ds start)) all (done limit start (rows-same sessions scene start refl is.has_rows) holds)) in
    let known : AreListed scene = record { apart = is.apart; lists = is.follow } in
    let listed : AreListed (perform setup.denied r scene).scene = event-listed setup.denied scene known setup i in
    record {
      scene = record {
        has_rows = carried.carried.rows;
        apart = listed.apart;
        has_layers = event-lists setup.denied scene known setup i ∙ sym routes.has_layers;
        has_seat = all-seat setup.denied r.deliveries start ∙ sym routes.carries.has_seat;
        follow = listed.lists;
      };
      clip = carried.clip;
      posts = carried.carried.posts;
      kept = kept;
      settled = λ stays. event-settled setup i scene is.follow still (sym routes.settled ∙ stays);
    }

-- behind a Move in which the hover changes it is the one that was found, since nothing was handed on
pub move-found : (setup : Setup) (i : Item) (scene : Scene) (settled : Bool) (hover : Option RowId) → StaysOn setup i → settled ≡ settled_by setup i scene
    → FindsHover setup i scene hover → IsSettled (sizes_of setup) scene → settled ≡ false
    → FindsBehind i (sizes_of setup) (perform setup.denied (route setup i scene) scene).scene hover
move-found setup (item.Move x y state) scene settled hover on is found still left =
    let P : SceneOutcome → Type 0 = λ o. KnowsHover (sizes_of setup) o.scene hover in
    subst P (sym (move-alone setup x y state scene on (sym is ∙ left))) (record { holds = still.grab; is = found })
move-found setup i scene settled hover on is found still left = tt

-- ---- focus and hover behind it

-- what was performed, and then settled
pub event-taken : {O : Type 0} (takes : O → Post → O → Type 0) (out middle out' : O) (sessions performed sessions' : List SessionView) (layers : Layers) (gate gate' : GateView) (seat seat' : Seat) (stays : Bool) (sizes : Sizes) (outcome : SceneOutcome)
    → Performs takes out middle sessions performed layers gate seat stays sizes outcome → Settles takes middle out' performed sessions' gate gate' seat' sizes outcome.scene
    → EventTakes takes out out' sessions sessions' layers gate' seat' sizes (and_then outcome (settle sizes))
event-taken takes out middle out' sessions performed sessions' layers gate gate' seat seat' stays sizes outcome first next =
    let after : Scene = (settle sizes outcome.scene).scene in
    let same : IsScene performed layers seat' after =
    subst (λ (s : Seat). IsScene performed layers s after) (sym next.has_seat) (settled-scene sizes performed layers seat outcome.scene first.scene) in
    record {
      scene = subst (λ ss. IsScene ss layers seat' after) (sym next.same_sessions) same;
      clip = next.same_gate ∙ first.clip ∙ ap (keeping sizes.clip_limit) (sym (settle-clip sizes outcome.scene));
      settled = settle-settles sizes outcome.scene first.scene.follow;
      posts = leads-append takes outcome.posts (settle sizes outcome.scene).posts out middle out' first.posts next.posts;
      kept = subst (KeepSessions sessions) (sym next.same_sessions) first.kept;
    }

-- what was performed where focus and hover stay
pub event-silent : {O : Type 0} (takes : O → Post → O → Type 0) (out out' : O) (sessions sessions' : List SessionView) (layers : Layers) (gate : GateView) (seat : Seat) (stays : Bool) (sizes : Sizes) (outcome : SceneOutcome)
    → Performs takes out out' sessions sessions' layers gate seat stays sizes outcome → stays ≡ true
    → EventTakes takes out out' sessions sessions' layers gate seat sizes (and_then outcome (settle sizes))
event-silent takes out out' sessions sessions' layers gate seat stays sizes outcome first same =
    let still : IsSettled sizes outcome.scene = first.settled same in
    subst (EventTakes takes out out' sessions sessions' layers gate seat sizes) (sym (settled-outcome sizes outcome still))
    (record { scene = first.scene; clip = first.clip; settled = still; posts = first.posts; kept = first.kept })

-- an event that does nothing
pub event-ignored : {O : Type 0} (takes : O → Post → O → Type 0) (out : O) (sessions : List SessionView) (layers : Layers) (gate : GateView) (seat : Seat) (setup : Setup) (i : Item) (scene : Scene)
    → route setup i scene ≡ ignored scene → IsScene sessions layers seat scene → gate ≡ keeping (sizes_of setup).clip_limit scene.clip → IsSettled (sizes_of setup) scene
    → EventTakes takes out out sessions sessions layers gate seat (sizes_of setup) (and_then (perform setup.denied (route setup i scene) scene) (settle (sizes_of setup)))
event-ignored takes out sessions layers gate seat setup i scene nothing is holds still =
    let P : InputOutcome → Type 0 = λ r. EventTakes takes out out sessions sessions layers gate seat (sizes_of setup) (and_then (perform setup.denied r scene) (settle (sizes_of setup))) in
    subst P (sym nothing)
    (event-silent takes out out sessions sessions layers gate seat true (sizes_of setup) (unchanged scene)
    (record { scene = is; clip = holds; posts = refl; kept = kept-same sessions; settled = λ _. still }) refl)
