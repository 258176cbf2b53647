-- What settling tells changes no session, and leaves a scene that stands as before.
use Rattle.std.proofs.Common.{◌≡◌, ℕ, ◌≤◌, ◌+◌, List, [], ◌∷◌, ◌++◌, length, map, refl, sym, ◌∙◌, ap, subst, arith}
use Rattle.std.specs.Prelude.{option_map}
use Rattle.std.proofs.lemmas.List.{same_lists, get_or_default, append-nil, append_assoc, length-append}
use Rattle.desk_laws.specs.declared.setup.Pair.{Pair}
use Rattle.desk_laws.specs.Layers.{Layers, are_apart}
use Rattle.desk_laws.specs.Rows.{Row, id_of, mine}
use Rattle.desk_laws.specs.Scene.{Scene, Seat, Post, Delivery, deliver_all, scene_of_input}
use Rattle.desk_laws.specs.Settle.{settle, settled, grab_checked}
use Rattle.desk_laws.specs.Sizes.{Sizes}
use Rattle.desk_laws.proofs.SettleLemmas.{settle-rows, settle-layers, settle-clip, settle-follow, settle-any, all-seat}
use Rattle.clipboard_gate.specs.Kept.{GateView, keeping}
use Rattle.input_router.specs.Deliveries as queue
use Rattle.input_router.specs.Presents.{Presents, Carries}
use Rattle.input_router.specs.Spots.{spot_of}
use Rattle.input_router.proofs.DeliveryLemmas.{settled-few}
use Rattle.guest_session.specs.SessionView.{SessionView}
use Rattle.desk_core.specs.WindowsView.{no_session}
use Rattle.desk_core.specs.Panes.{rows_in}
use Rattle.desk_core.specs.Places.{spots_of}
use Rattle.desk_core.specs.Queued.{Queues}
use Rattle.desk_core.specs.Scenes.{HasRowsOf, KeepSessions, Delivered, IsScene, Settles, session_at}
use Rattle.desk_core.proofs.SceneLemmas.{row-there}

-- ---- a scene with other seat

-- the rows alone matter to the sessions
pub rows-same : (sessions : List SessionView) (before after : Scene) → after.rows ≡ before.rows → HasRowsOf sessions before → HasRowsOf sessions after
rows-same sessions before after same has = record {
  rows = λ guest. ap (mine guest) same ∙ has.rows guest;
  owner = has.owner;
  own = has.own;
}

-- the scene is the one that its places, layers and seat present
pub scene-presents : (border : ℕ) (sessions : List SessionView) (layers : Layers) (seat : Seat) (scene : Scene) → IsScene sessions layers seat scene
    → Presents border (spots_of border sessions) layers seat scene
scene-presents border sessions layers seat scene is = record {
  shows = λ id. ap (option_map (spot_of border)) (sym (row-there sessions scene id is.has_rows));
  has_layers = is.has_layers;
  has_seat = is.has_seat;
}

-- sessions that keep all, and whose rows are those of one list, are the same
pub sessions-same : (old new : List SessionView) (before after : Scene) → KeepSessions old new → HasRowsOf old before → HasRowsOf new after → after.rows ≡ before.rows → new ≡ old
sessions-same old new before after kept has had same =
    same_lists new old kept.count (λ guest d below.
    get_or_default new guest d no_session below ∙ at guest ∙ get_or_default old guest no_session d (omega (arith, kept.count, below)))
  where
    rows : (guest : ℕ) → rows_in new guest ≡ rows_in old guest
    rows guest = sym (had.rows guest) ∙ ap (mine guest) same ∙ has.rows guest

    at : (guest : ℕ) → session_at new guest ≡ session_at old guest
    at guest = kept.rest guest ∙ ap (λ (rs : List Row). record (session_at old guest) { rows = rs }) (rows guest)

-- after settling the same sessions and layers stand for the scene, with its seat
pub settled-scene : (sizes : Sizes) (sessions : List SessionView) (layers : Layers) (seat : Seat) (scene : Scene) → IsScene sessions layers seat scene
    → IsScene sessions layers (settle sizes scene).scene.seat (settle sizes scene).scene
settled-scene sizes sessions layers seat scene is = record {
  has_rows = rows-same sessions scene (settle sizes scene).scene (settle-rows sizes scene) is.has_rows;
  apart = ap (λ rows. are_apart (map id_of rows)) (settle-rows sizes scene) ∙ is.apart;
  has_layers = settle-layers sizes scene is.follow ∙ is.has_layers;
  has_seat = refl;
  follow = settle-follow sizes scene is.follow;
}

-- ---- the queue

-- what led from a queue with room for all is behind what was in it
queued-behind : (ds before after : List Delivery) → length before + length ds ≤ 5 → queue.Leads Queues before ds after → after ≡ before ++ ds
queued-behind [] before after few leads = sym leads ∙ sym (append-nil before)
queued-behind (d ∷ ds) before after few leads =
    let next : leads.0 ≡ before ++ d ∷ [] = leads.1 (omega arith) in
    let long : length leads.0 ≡ length before + 1 = ap (λ (xs : List Delivery). length xs) next ∙ length-append before (d ∷ []) in
    queued-behind ds leads.0 after (omega arith) leads.2
    ∙ ap (λ xs. xs ++ ds) next ∙ append_assoc before (d ∷ []) ds

-- what led from an empty queue is what is in it
pub queued-all : (ds after : List Delivery) → length ds ≤ 5 → queue.Leads Queues [] ds after → after ≡ ds
queued-all ds after few leads = queued-behind ds [] after (omega (arith, few)) leads

-- ---- settling

pub settle-done : {O : Type 0} (takes : O → Post → O → Type 0) (out out' : O) (sessions sessions' : List SessionView) (layers : Layers) (gate gate' : GateView) (seat seat' : Seat) (denied : List Pair) (empty waiting : List Delivery) (sizes : Sizes) (scene : Scene)
    → IsScene sessions layers seat scene → gate ≡ keeping sizes.clip_limit scene.clip
    → empty ≡ []
    → Carries Queues empty waiting seat' (settled sizes (grab_checked scene))
    → KeepSessions sessions sessions'
    → ((limit : ℕ) (s : Scene) → HasRowsOf sessions s → gate ≡ keeping limit s.clip → Delivered takes out out' sessions' limit gate' (deliver_all denied waiting s))
    → Settles takes out out' sessions sessions' gate gate' seat' sizes scene
settle-done takes out out' sessions sessions' layers gate gate' seat seat' denied empty waiting sizes scene is holds none carries kept done =
    let limit = sizes.clip_limit in
    let told = settled sizes (grab_checked scene) in
    let start : Scene = scene_of_input told scene in
    let all : waiting ≡ told.deliveries = queued-all told.deliveries waiting (settled-few sizes (grab_checked scene))
    (subst (λ (ds : List Delivery). queue.Leads Queues ds told.deliveries waiting) none carries.leads) in
    let P : List Delivery → Type 0 = λ ds. Delivered takes out out' sessions' limit gate' (deliver_all denied ds start) in
    let out_of : Delivered takes out out' sessions' limit gate' (settle sizes scene) =
    subst (Delivered takes out out' sessions' limit gate') (settle-any sizes scene denied) (subst P all (done limit start (rows-same sessions scene start refl is.has_rows) holds)) in
    record {
      same_sessions = sessions-same sessions sessions' scene (settle sizes scene).scene kept is.has_rows out_of.carried.rows (settle-rows sizes scene);
      same_gate = out_of.clip ∙ ap (keeping limit) (settle-clip sizes scene) ∙ sym holds;
      has_seat = carries.has_seat ∙ sym (all-seat [] told.deliveries start);
      posts = out_of.carried.posts;
    }
