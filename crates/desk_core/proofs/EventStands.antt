-- Windows are those of the scene of a state that they stand for: another scene may take its place, as after an event.
use Rattle.std.proofs.Common.{◌≡◌, ℕ, ◌<◌, ◌≤◌, Bool, true, false, List, [], ◌++◌, length, take, None, refl, sym, ◌∙◌, ap, subst, arith}
use Rattle.std.specs.Prelude.{nat_lt}
use Rattle.std.proofs.lemmas.Bool.Decides.{nat_tests}
use Rattle.std.proofs.Math.Seq.{take-append_seam}
use Rattle.std.proofs.lemmas.List.{get_or_past}
use Rattle.gui_num.specs.declared.Rect.{Rect}
use Rattle.desk_laws.specs.declared.setup.Pair.{Pair}
use Rattle.desk_laws.specs.declared.setup.Setup.{Setup}
use Rattle.desk_laws.specs.Stream.{front, Wait}
use Rattle.desk_laws.specs.declared.item.Item.{Item}
use Rattle.desk_laws.specs.Settle.{settle, IsSettled}
use Rattle.desk_laws.specs.Events.{route}
use Rattle.desk_laws.specs.Sizes.{Sizes, sizes_of}
use Rattle.desk_laws.specs.Steps.{event}
use Rattle.io_ports.specs.Posts.{Leads}
use Rattle.clipboard_gate.specs.Kept.{GateView, keeping}
use Rattle.desk_laws.specs.Rows.{mine}
use Rattle.desk_laws.specs.Layers.{Layers}
use Rattle.desk_laws.specs.Frames.{PortState}
use Rattle.desk_laws.specs.Following.{LayersFollow}
use Rattle.desk_laws.specs.Scene.{Scene, Seat, Post, SceneOutcome, and_then, perform}
use Rattle.desk_laws.specs.State.{DeskState, session_of}
use Rattle.in_stream.specs.Received.{Received, StandsFor}
use Rattle.guest_session.specs.SessionView.{SessionView}
use Rattle.desk_core.specs.WindowsView.{WindowsView, no_session, part_of}
use Rattle.desk_core.specs.WindowsStand.{PartStands, StandsWith, AreAtRest, rests_of}
use Rattle.desk_core.specs.DeskPosts.{guest_posts}
use Rattle.desk_core.specs.EventSteps.{EventTakes, EventsTo}
use Rattle.desk_core.specs.Kept.{IsKept}
use Rattle.desk_core.specs.Seated.{AreSeated}
use Rattle.desk_core.specs.Settling.{HasSeat}
use Rattle.desk_core.specs.Panes.{rows_in}
use Rattle.desk_core.specs.Scenes.{IsScene, KeepSessions, TakePastes}
use Rattle.desk_core.proofs.GuestPosts.{for_guests-append, for_guests-perform, for_guests-settle}

-- ---- the scene of a state

module _ (setup : Setup) (held : ℕ → List ℕ) (desk : WindowsView) (frames : ℕ → PortState) (state : DeskState) (stands : StandsWith setup held desk frames state) where
  -- a guest's part
  part : (guest : ℕ) → guest < length desk.sessions → PartStands setup guest (held guest) (part_of guest desk) (frames guest) state
  part guest there = stands.parts guest (omega (arith, there, stands.numbers.guests))

  -- each guest's rows are those of its session, and behind the last session there is none
  guest-rows : (guest : ℕ) → mine guest state.scene.rows ≡ rows_in desk.sessions guest
  guest-rows guest = by_there (nat_lt guest (length desk.sessions)) refl
    where
      by_there : (b : Bool) → nat_lt guest (length desk.sessions) ≡ b → mine guest state.scene.rows ≡ rows_in desk.sessions guest
      by_there true is = (part guest (grind (arith, nat_tests))).rows
      by_there false is =
          let above : length desk.sessions ≤ guest = grind (arith, nat_tests) in
          stands.known guest (omega (arith, above, stands.numbers.guests))
          ∙ sym (ap (λ (s : SessionView). s.rows) (get_or_past desk.sessions guest no_session above))

  -- windows that stand for a state are those of its scene
  pub windows-scene : IsScene desk.sessions desk.layers state.scene.seat state.scene
  windows-scene =
      let first : PartStands setup 0 (held 0) (part_of 0 desk) (frames 0) state = stands.parts 0 (omega (arith, stands.numbers.some)) in
      record {
        has_rows = record {
          rows = guest-rows;
          owner = λ guest there. (part guest there).owner;
          own = λ guest there. (part guest there).own;
        };
        apart = first.apart;
        has_layers = first.layers;
        has_seat = refl;
        follow = subst (LayersFollow state.scene.rows) (sym first.layers) first.followed;
      }

  -- their clipboard is that of its scene
  pub windows-clip : desk.gate ≡ keeping (sizes_of setup).clip_limit state.scene.clip
  windows-clip = (stands.parts 0 (omega (arith, stands.numbers.some))).gate

  -- each session takes a paste of all that the clipboard can hold
  pub windows-take : TakePastes desk.gate desk.sessions
  windows-take = λ guest there.
      let p : PartStands setup guest (held guest) (part_of guest desk) (frames guest) state = part guest there in
      ap (λ (s : Sizes). s.clip_limit) p.sizes ∙ sym (ap (λ (g : GateView). g.limit) p.gate)

-- ---- another scene

module _ (setup : Setup) (held : ℕ → List ℕ) (desk : WindowsView) (sessions : List SessionView) (layers : Layers) (gate : GateView) (seat : Seat) (frames : ℕ → PortState) (state : DeskState) (scene : Scene)
    (kept : KeepSessions desk.sessions sessions) (is : IsScene sessions layers seat scene) (holds : gate ≡ keeping (sizes_of setup).clip_limit scene.clip) where
  -- windows with other rows, with the lists that these have now, and with this clipboard
  abbrev others : WindowsView
  others = record desk { sessions = sessions; layers = layers; gate = gate }

  -- the state with another scene
  abbrev seen : DeskState
  seen = record state { scene = scene }

  -- a guest's part with its rows in the other scene
  part-with : (guest : ℕ) → guest < length sessions → PartStands setup guest (held guest) (part_of guest desk) (frames guest) state
      → PartStands setup guest (held guest) (part_of guest others) (frames guest) seen
  part-with guest there p = record {
    there = p.there;
    sizes = ap (λ (s : SessionView). s.sizes) (kept.rest guest) ∙ p.sizes;
    owner = ap (λ (s : SessionView). s.guest) (kept.rest guest) ∙ p.owner;
    own = is.has_rows.own guest there;
    rows = is.has_rows.rows guest;
    apart = is.apart;
    layers = is.has_layers;
    followed = subst (LayersFollow scene.rows) is.has_layers is.follow;
    gate = holds;
    ended = p.ended ∙ sym (ap (λ (s : SessionView). s.ended) (kept.rest guest));
    opened = λ going.
        let o = p.opened (sym (ap (λ (s : SessionView). s.ended) (kept.rest guest)) ∙ going) in
        record {
          greeted = o.greeted ∙ sym (ap (λ (s : SessionView). s.stream.greeted) (kept.rest guest));
          minor = o.minor ∙ sym (ap (λ (s : SessionView). s.minor) (kept.rest guest));
          stream = subst (λ (s : Received). StandsFor s (held guest)) (sym (ap (λ (s : SessionView). s.stream) (kept.rest guest))) o.stream;
        };
    frames = p.frames;
    messages = p.messages;
    glances = p.glances;
    messages_in_range = p.messages_in_range;
    glances_in_range = p.glances_in_range;
  }

  -- a guest that isn't there has no row
  none-above : StandsWith setup held desk frames state → (guest : ℕ) → length setup.guests ≤ guest → mine guest scene.rows ≡ []
  none-above stands guest above =
      is.has_rows.rows guest
      ∙ ap (λ (s : SessionView). s.rows) (get_or_past sessions guest no_session (omega (arith, above, kept.count, stands.numbers.guests)))

  -- windows that differ in nothing but their rows, their lists and the clipboard stand for the state with a scene that has those
  pub with-scene : StandsWith setup held desk frames state → StandsWith setup held others frames seen
  with-scene stands = record {
    numbers = record {
      width = stands.numbers.width;
      height = stands.numbers.height;
      background = stands.numbers.background;
      outputs = stands.numbers.outputs;
      border = stands.numbers.border;
      denied = stands.numbers.denied;
      labels = stands.numbers.labels;
      wide = stands.numbers.wide;
      narrow = stands.numbers.narrow;
      most_columns = stands.numbers.most_columns;
      most_rows = stands.numbers.most_rows;
      guests = kept.count ∙ stands.numbers.guests;
      some = stands.numbers.some;
      few = stands.numbers.few;
    };
    count = stands.count;
    parts = λ guest below. part-with guest (omega (arith, below, kept.count, stands.numbers.guests)) (stands.parts guest below);
    known = none-above stands;
    items = stands.items;
  }

-- ---- what is told

-- and so is all that an event tells
event-posts : (setup : Setup) (i : Item) (state : DeskState) → guest_posts (event setup i state).posts ≡ (event setup i state).posts
event-posts setup i state =
    let done = perform setup.denied (route setup i state.scene) state.scene in
    for_guests-append done.posts (settle (sizes_of setup) done.scene).posts
    (for_guests-perform setup.denied (route setup i state.scene) state.scene) (for_guests-settle (sizes_of setup) done.scene)

-- ---- an event

-- an event was taken on every scene of these numbers that the windows and the seat are those of
abbrev pub TakesEvent : {O : Type 0} → (O → Post → O → Type 0) → O → O → Item → WindowsView → List SessionView → Layers → GateView → Seat → Seat → Type 0
TakesEvent takes out out' i desk sessions layers gate seat seat' =
    (setup : Setup) (scene : Scene) → setup.border ≡ desk.border → setup.outputs ≡ desk.picture.outputs → setup.denied ≡ desk.denied
    → IsScene desk.sessions desk.layers seat scene → desk.gate ≡ keeping (sizes_of setup).clip_limit scene.clip → IsSettled (sizes_of setup) scene
    → EventTakes takes out out' desk.sessions sessions layers gate seat' (sizes_of setup) (and_then (perform setup.denied (route setup i scene) scene) (settle (sizes_of setup)))

-- the same from what was taken of other names of these numbers, pairs and sessions
pub event-seen : {O : Type 0} (takes : O → Post → O → Type 0) (out out' : O) (i : Item) (desk : WindowsView) (first sessions : List SessionView) (layers : Layers) (gate : GateView) (seat seat' : Seat) (outputs : List Rect) (denied : List Pair)
    → first ≡ desk.sessions → outputs ≡ desk.picture.outputs → denied ≡ desk.denied
    → ((setup : Setup) (scene : Scene) → setup.border ≡ desk.border → setup.outputs ≡ outputs → setup.denied ≡ denied
    → IsScene first desk.layers seat scene → desk.gate ≡ keeping (sizes_of setup).clip_limit scene.clip → IsSettled (sizes_of setup) scene
    → EventTakes takes out out' first sessions layers gate seat' (sizes_of setup) (and_then (perform setup.denied (route setup i scene) scene) (settle (sizes_of setup))))
    → TakesEvent takes out out' i desk sessions layers gate seat seat'
event-seen takes out out' i desk first sessions layers gate seat seat' outputs denied same shown pairs took = λ setup scene border os ps is holds still.
    let whole : SceneOutcome = and_then (perform setup.denied (route setup i scene) scene) (settle (sizes_of setup)) in
    subst (λ ss. EventTakes takes out out' ss sessions layers gate seat' (sizes_of setup) whole) same
    (took setup scene border (os ∙ sym shown) (ps ∙ sym pairs) (subst (λ ss. IsScene ss desk.layers seat scene) (sym same) is) holds still)

-- sessions written back over those that were there
pub written-back : {X : Type 0} (n : ℕ) (new rest : List X) → length new ≡ n → take n (new ++ rest) ≡ new
written-back n new rest same = ap (λ k. take k (new ++ rest)) (sym same) ∙ take-append_seam new rest

module _ {O : Type 0} (takes : O → Post → O → Type 0) (out out' : O) (i : Item) (desk : WindowsView) (sessions : List SessionView) (layers : Layers) (gate : GateView) (seat seat' : Seat)
    (taken : TakesEvent takes out out' i desk sessions layers gate seat seat') where
  -- the windows after it
  abbrev pub after : WindowsView
  after = record desk { sessions = sessions; layers = layers; gate = gate }

  -- on the scene of a state that the windows and the seat stand for
  taken-at : (setup : Setup) (held : ℕ → List ℕ) (frames : ℕ → PortState) (state : DeskState) → StandsWith setup held desk frames state → HasSeat setup seat state
      → EventTakes takes out out' desk.sessions sessions layers gate seat' (sizes_of setup) (and_then (perform setup.denied (route setup i state.scene) state.scene) (settle (sizes_of setup)))
  taken-at setup held frames state stands has =
      let n = stands.numbers in
      let is : IsScene desk.sessions desk.layers seat state.scene =
      subst (λ (s : Seat). IsScene desk.sessions desk.layers s state.scene) has.same (windows-scene setup held desk frames state stands) in
      taken setup state.scene (sym n.border) (sym n.outputs) (sym n.denied) is (windows-clip setup held desk frames state stands) has.settled

  -- the windows and the seat stand for the state after it
  pub event-stands : (setup : Setup) (held : ℕ → List ℕ) (frames : ℕ → PortState) (state : DeskState) → StandsWith setup held desk frames state → HasSeat setup seat state
      → EventsTo takes out out' setup held after frames seat' (event setup i state)
  event-stands setup held frames state stands has =
      let t = taken-at setup held frames state stands has in
      record {
        stands = with-scene setup held desk sessions layers gate seat' frames state (event setup i state).desk.scene t.kept t.scene t.clip stands;
        seated = record { same = t.scene.has_seat; settled = t.settled };
        posts = subst (λ ps. Leads takes out ps out') (sym (event-posts setup i state)) t.posts;
      }

  -- the sessions change in nothing but their rows
  pub event-sessions : AreSeated desk seat → KeepSessions desk.sessions sessions
  event-sessions s = (taken-at s.setup s.held s.frames s.state s.stands s.seated).kept

  -- there is room for all windows as before
  pub event-room : (room room' : ℕ) → IsKept room desk → room' ≡ room → AreSeated desk seat → IsKept room' after
  event-room room room' kept same s = record {
    setup = s.setup;
    held = s.held;
    frames = s.frames;
    state = (event s.setup i s.state).desk;
    stands = (event-stands s.setup s.held s.frames s.state s.stands s.seated).stands;
    roomy = omega (arith, kept.roomy, same, (event-sessions s).count);
  }

-- windows at rest stay so
pub event-rests : (setup : Setup) (i : Item) (old new : WindowsView) (frames : ℕ → PortState) (state : DeskState) → KeepSessions old.sessions new.sessions → AreAtRest setup old frames state
    → StandsWith setup (rests_of state) new frames (event setup i state).desk → AreAtRest setup new frames (event setup i state).desk
event-rests setup i old new frames state kept rests stands = record {
  with_rest = stands;
  waits = λ guest below.
      let P : SessionView → Type 0 = λ s. s.ended ≡ None → front s.stream.greeted (session_of guest state).rest ≡ Wait in
      subst P (sym (kept.rest guest)) (rests.waits guest below);
}
