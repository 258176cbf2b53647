-- What keys and commands bring about is what the definitions say of every scene with these spots.
use Rattle.std.proofs.Common.{◌≡◌, ℕ, Bool, true, false, ◌&&◌, not, ◌==◌, List, [], ◌∷◌, Option, Some, None, IsTrue, refl, sym, ◌∙◌, ap, subst}
use Rattle.std.specs.Prelude.{find, option_map, IfSome, if◌then◌else◌}
use Rattle.gui_num.specs.declared.Rect.{Rect}
use Rattle.desk_laws.specs.declared.row_id.RowId.{RowId}
use Rattle.desk_laws.specs.declared.item.Item.{Item}
use Rattle.desk_laws.specs.declared.item.Item.TheVariants as item
use Rattle.desk_laws.specs.declared.setup.Setup.{Setup}
use Rattle.desk_laws.specs.Rows.{Row, id_of, is_shown, is_hidden}
use Rattle.desk_laws.specs.Layers.{Layers, is_in, raised, last_that, focus_of}
use Rattle.desk_laws.specs.Scene.{Scene, Seat, Grab, Delivery, Grants, Asks, Pastes, InputOutcome, with_deliveries, ignored}
use Rattle.desk_laws.specs.Settle.{focus_now, IsSettled}
use Rattle.desk_laws.specs.Sizes.{Sizes, sizes_of}
use Rattle.desk_laws.specs.declared.input.GIn.TheVariants as g
use Rattle.desk_laws.specs.Events.{is_among, is_chord, released, with_pressed_keys, plain_key, key_to, key_by, close_by, place_by, raise_by, restore_by, listed, grab_left, button, release_by, press, route}
use Rattle.input_router.specs.declared.router.Taken.{Taken}
use Rattle.input_router.specs.declared.walks.Wanted.TheVariants.{Normal, Hidden}
use Rattle.input_router.specs.Commanded.{seated, raised_if, closing, restoring, place_in, placing}
use Rattle.input_router.specs.Deliveries.{Leads}
use Rattle.input_router.specs.Presents.{Presents, Carries}
use Rattle.input_router.specs.Routes.{AreMapped, FindsHover, Raises, changed_by, raised_press, raised_by, settled_by, Presses, Takes}
use Rattle.input_router.specs.Spots.{Spot}
use Rattle.input_router.specs.Walks.{first_wanted, last_wanted}
use Rattle.input_router.proofs.SceneLemmas.{focus-id, next-id, hidden-id, focus-place}

-- ---- outcomes that leave the layers and every place

-- the layers stay, and no place is changed
record Stays (layers : Layers) (o : InputOutcome) : Type 0 where
  has_layers : o.layers ≡ layers
  no_place : changed_by o.deliveries ≡ None

stays-routes : {V : Type 0} (delivers : V → Delivery → V → Type 0) (a b : V) (last : Seat) (layers : Layers) (setup : Setup) (event : Item) (scene : Scene) (stays : Bool)
    → Carries delivers a b last (route setup event scene) → Stays layers (route setup event scene) → raised_by setup event scene ≡ None → stays ≡ settled_by setup event scene → FindsHover setup event scene None
    → Takes delivers a b last layers layers (record { raised = None; changed = None; settled = stays; hover = None }) setup event scene
stays-routes delivers a b last layers setup event scene stays is same unraised settled finds = record {
  carries = is;
  has_layers = sym same.has_layers;
  raises = same.has_layers;
  raised = sym unraised;
  changes = sym same.no_place;
  settled = settled;
  finds = finds;
}

-- the focus last told is the focus
focus-told : (border : ℕ) (spots : RowId → Option Spot) (layers : Layers) (seat : Seat) (sizes : Sizes) (scene : Scene) → Presents border spots layers seat scene → IsSettled sizes scene
    → seat.focus ≡ focus_now scene
focus-told border spots layers seat sizes scene is still = ap (λ (s : Seat). s.focus) (sym is.has_seat) ∙ still.focus

-- ---- keys

-- what a key does depends on the seat alone
record SameEffect (o p : InputOutcome) : Type 0 where
  same_seat : o.seat ≡ p.seat
  same_deliveries : o.deliveries ≡ p.deliveries

plain-same : (id : RowId) (down : Bool) (code state : ℕ) (scene : Scene) → SameEffect (plain_key id down code state (seated scene.seat)) (plain_key id down code state scene)
plain-same id true code state scene = record { same_seat = refl; same_deliveries = refl }
plain-same id false code state scene = by_held (is_among code scene.seat.pressed_keys)
  where
    up : Scene → InputOutcome
    up s = with_deliveries s (with_pressed_keys (released code) scene.seat) (Grants id (g.Key id.window false code state) ∷ [])

    by_held : (b : Bool) → SameEffect (if b then with_deliveries (seated scene.seat) (with_pressed_keys (released code) scene.seat) (Grants id (g.Key id.window false code state) ∷ []) else ignored (seated scene.seat))
        (if b then with_deliveries scene (with_pressed_keys (released code) scene.seat) (Grants id (g.Key id.window false code state) ∷ []) else ignored scene)
    by_held true = record { same_seat = refl; same_deliveries = refl }
    by_held false = record { same_seat = refl; same_deliveries = refl }

key-same : (id : RowId) (down : Bool) (code state : ℕ) (scene : Scene) → SameEffect (key_to id down code state (seated scene.seat)) (key_to id down code state scene)
key-same id down code state scene =
    by_tests (down && (is_chord state && code == 54)) (down && (is_chord state && code == 55)) (plain_key id down code state (seated scene.seat)) (plain_key id down code state scene) (plain-same id down code state scene)
  where
    by_tests : (c v : Bool) (o p : InputOutcome) → SameEffect o p
        → SameEffect (if c then with_deliveries (seated scene.seat) scene.seat (Asks id ∷ []) else if v then with_deliveries (seated scene.seat) scene.seat (Pastes id ∷ []) else o)
        (if c then with_deliveries scene scene.seat (Asks id ∷ []) else if v then with_deliveries scene scene.seat (Pastes id ∷ []) else p)
    by_tests true v o p is = record { same_seat = refl; same_deliveries = refl }
    by_tests false true o p is = record { same_seat = refl; same_deliveries = refl }
    by_tests false false o p is = is

plain-stays : (id : RowId) (down : Bool) (code state : ℕ) (scene : Scene) → Stays scene.layers (plain_key id down code state scene)
plain-stays id true code state scene = record { has_layers = refl; no_place = refl }
plain-stays id false code state scene = by_held (is_among code scene.seat.pressed_keys)
  where
    by_held : (b : Bool) → Stays scene.layers (if b then with_deliveries scene (with_pressed_keys (released code) scene.seat) (Grants id (g.Key id.window false code state) ∷ []) else ignored scene)
    by_held true = record { has_layers = refl; no_place = refl }
    by_held false = record { has_layers = refl; no_place = refl }

key-stays : (row : Option RowId) (down : Bool) (code state : ℕ) (scene : Scene) → Stays scene.layers (key_by row down code state scene)
key-stays None down code state scene = record { has_layers = refl; no_place = refl }
key-stays (Some id) down code state scene =
    by_tests (down && (is_chord state && code == 54)) (down && (is_chord state && code == 55)) (plain_key id down code state scene) (plain-stays id down code state scene)
  where
    by_tests : (c v : Bool) (o : InputOutcome) → Stays scene.layers o
        → Stays scene.layers (if c then with_deliveries scene scene.seat (Asks id ∷ []) else if v then with_deliveries scene scene.seat (Pastes id ∷ []) else o)
    by_tests true v o is = record { has_layers = refl; no_place = refl }
    by_tests false true o is = record { has_layers = refl; no_place = refl }
    by_tests false false o is = is

keyed-same : (row : Option RowId) (down : Bool) (code state : ℕ) (scene : Scene) → SameEffect (key_by row down code state (seated scene.seat)) (key_by row down code state scene)
keyed-same None down code state scene = record { same_seat = refl; same_deliveries = refl }
keyed-same (Some id) down code state scene = key-same id down code state scene

pub route-key : {V : Type 0} (delivers : V → Delivery → V → Type 0) (a b : V) (setup : Setup) (spots : RowId → Option Spot) (layers : Layers) (seat last : Seat) (down : Bool) (code state : ℕ) (scene : Scene)
    → Presents setup.border spots layers seat scene → IsSettled (sizes_of setup) scene
    → Carries delivers a b last (key_by seat.focus down code state (seated seat))
    → Takes delivers a b last layers layers (record { raised = None; changed = None; settled = true; hover = None }) setup (item.Key down code state) scene
route-key {V = V} delivers a b setup spots layers seat last down code state scene is still done =
    let focus = focus_now scene in
    let seated_so : Carries delivers a b last (key_by seat.focus down code state (seated scene.seat)) =
    subst (λ (s : Seat). Carries delivers a b last (key_by seat.focus down code state (seated s))) (sym is.has_seat) done in
    let here : Carries delivers a b last (key_by focus down code state (seated scene.seat)) =
    subst (λ (o : Option RowId). Carries delivers a b last (key_by o down code state (seated scene.seat))) (focus-told setup.border spots layers seat (sizes_of setup) scene is still) seated_so in
    let same = keyed-same focus down code state scene in
    let stays = key-stays focus down code state scene in
    stays-routes delivers a b last layers setup (item.Key down code state) scene true
    (record { has_seat = here.has_seat ∙ same.same_seat; leads = subst (λ (xs : List Delivery). Leads delivers a xs b) same.same_deliveries here.leads })
    (record { has_layers = stays.has_layers ∙ is.has_layers; no_place = stays.no_place }) refl refl tt

-- ---- commands

-- what a command does, with the row that it raises and the one whose place or flags it changes
record RaisesRow {V : Type 0} (delivers : V → Delivery → V → Type 0) (first last : V) (seat : Seat) (before after : Layers) (row changed : Option RowId) (outcome : InputOutcome) : Type 0 where
  carries : Carries delivers first last seat outcome
  has_layers : after ≡ outcome.layers
  raises : Raises row before outcome.layers
  changes : changed ≡ changed_by outcome.deliveries

-- a command that puts the focus at the place that this function gives
pub record Places (setup : Setup) (event : Item) (scene : Scene) (f : Rect → Rect) : Type 0 where
  pub outcome : route setup event scene ≡ place_by (focus_of scene.rows scene.layers) f scene
  pub unraised : raised_by setup event scene ≡ None
  pub unsaid : settled_by setup event scene ≡ false
  pub unfound : FindsHover setup event scene None

pub route-close : {V : Type 0} (delivers : V → Delivery → V → Type 0) (a b : V) (setup : Setup) (spots : RowId → Option Spot) (layers : Layers) (seat : Seat) (focus : Option RowId) (scene : Scene)
    → Presents setup.border spots layers seat scene → IsSettled (sizes_of setup) scene → focus ≡ seat.focus
    → Leads delivers a (closing focus) b
    → Takes delivers a b seat layers layers (record { raised = None; changed = None; settled = false; hover = None }) setup item.Close scene
route-close {V = V} delivers a b setup spots layers seat focus scene is still told_is told =
    let c = by_focus (focus_now scene) (subst (λ (o : Option RowId). Leads delivers a (closing o) b) (told_is ∙ focus-told setup.border spots layers seat (sizes_of setup) scene is still) told) in
    stays-routes delivers a b seat layers setup item.Close scene false c.0 c.1 refl refl tt
  where
    by_focus : (o : Option RowId) → Leads delivers a (closing o) b → Carries delivers a b seat (close_by o scene) × Stays layers (close_by o scene)
    by_focus None h = (record { has_seat = sym is.has_seat; leads = h }, record { has_layers = is.has_layers; no_place = refl })
    by_focus (Some id) h = (record { has_seat = sym is.has_seat; leads = h }, record { has_layers = is.has_layers; no_place = refl })

-- a row raised by Next
pub route-next : {V : Type 0} (delivers : V → Delivery → V → Type 0) (a : V) (setup : Setup) (spots : RowId → Option Spot) (layers new : Layers) (seat : Seat) (row : Option RowId) (scene : Scene)
    → Presents setup.border spots layers seat scene
    → row ≡ first_wanted Normal spots layers
    → IfSome row (λ id. IsTrue (is_in layers.focus id))
    → new ≡ raised_if row layers
    → Takes delivers a a seat layers new (record { raised = row; changed = None; settled = false; hover = None }) setup item.Next scene
route-next {V = V} delivers a setup spots layers new seat row scene is found here is_new =
    let row_is : row ≡ option_map id_of (find (λ r. is_shown r && not r.over) (listed scene)) =
    found ∙ ap (first_wanted Normal spots) (sym is.has_layers) ∙ sym (next-id setup.border spots scene is.shows) in
    let done = by_row (find (λ r. is_shown r && not r.over) (listed scene)) row row_is here is_new in
    record { carries = done.carries; has_layers = done.has_layers; raises = done.raises; raised = row_is; changes = done.changes; settled = refl; finds = tt }
  where
    by_row : (o : Option Row) (r : Option RowId) → r ≡ option_map id_of o → IfSome r (λ id. IsTrue (is_in layers.focus id)) → new ≡ raised_if r layers
        → RaisesRow delivers a a seat layers new r None (raise_by o scene)
    by_row None None e h n =
        record { carries = record { has_seat = sym is.has_seat; leads = refl }; has_layers = n ∙ sym is.has_layers; raises = is.has_layers; changes = refl }
    by_row None (Some id) e h n = absurd (cc)
    by_row (Some x) None e h n = absurd (cc)
    by_row (Some x) (Some id) e h n =
        let same : id ≡ id_of x = cc in
        record {
          carries = record { has_seat = sym is.has_seat; leads = refl };
          has_layers = n ∙ ap (λ (i : RowId). raised i layers) same ∙ ap (raised (id_of x)) (sym is.has_layers);
          raises = (h, ap (raised (id_of x)) is.has_layers ∙ ap (λ (i : RowId). raised i layers) (sym same));
          changes = refl;
        }

-- a row raised and shown again by Restore
pub route-restore : {V : Type 0} (delivers : V → Delivery → V → Type 0) (a b : V) (setup : Setup) (spots : RowId → Option Spot) (layers new : Layers) (seat : Seat) (row : Option RowId) (scene : Scene)
    → Presents setup.border spots layers seat scene → AreMapped scene
    → row ≡ last_wanted Hidden spots layers
    → IfSome row (λ id. IsTrue (is_in layers.focus id))
    → new ≡ raised_if row layers
    → Leads delivers a (restoring row) b
    → Takes delivers a b seat layers new (record { raised = row; changed = row; settled = false; hover = None }) setup item.Restore scene
route-restore {V = V} delivers a b setup spots layers new seat row scene is mapped found here is_new told =
    let row_is : row ≡ option_map id_of (last_that is_hidden (listed scene)) =
    found ∙ ap (last_wanted Hidden spots) (sym is.has_layers) ∙ sym (hidden-id setup.border spots scene is.shows mapped) in
    let done = by_row (last_that is_hidden (listed scene)) row row_is here is_new told in
    record { carries = done.carries; has_layers = done.has_layers; raises = done.raises; raised = row_is; changes = done.changes; settled = refl; finds = tt }
  where
    by_row : (o : Option Row) (r : Option RowId) → r ≡ option_map id_of o → IfSome r (λ id. IsTrue (is_in layers.focus id)) → new ≡ raised_if r layers → Leads delivers a (restoring r) b
        → RaisesRow delivers a b seat layers new r r (restore_by o scene)
    by_row None None e h n t =
        record { carries = record { has_seat = sym is.has_seat; leads = t }; has_layers = n ∙ sym is.has_layers; raises = is.has_layers; changes = refl }
    by_row None (Some id) e h n t = absurd (cc)
    by_row (Some x) None e h n t = absurd (cc)
    by_row (Some x) (Some id) e h n t =
        let same : id ≡ id_of x = cc in
        record {
          carries = record { has_seat = sym is.has_seat; leads = subst (λ (i : RowId). Leads delivers a (restoring (Some i)) b) same t };
          has_layers = n ∙ ap (λ (i : RowId). raised i layers) same ∙ ap (raised (id_of x)) (sym is.has_layers);
          raises = (h, ap (raised (id_of x)) is.has_layers ∙ ap (λ (i : RowId). raised i layers) (sym same));
          changes = ap Some same;
        }

-- the focus at another place
pub route-place : {V : Type 0} (delivers : V → Delivery → V → Type 0) (a b : V) (setup : Setup) (spots : RowId → Option Spot) (layers : Layers) (seat : Seat) (f : Rect → Rect) (focus row : Option RowId) (scene : Scene) (event : Item)
    → Presents setup.border spots layers seat scene → IsSettled (sizes_of setup) scene
    → Places setup event scene f → focus ≡ seat.focus
    → Leads delivers a (placing f (place_in spots focus)) b
    → row ≡ option_map (λ (found : RowId × Rect). found.0) (place_in spots focus)
    → Takes delivers a b seat layers layers (record { raised = None; changed = row; settled = false; hover = None }) setup event scene
route-place {V = V} delivers a b setup spots layers seat f focus row scene event is still places told_is told is_row =
    let found : place_in spots focus ≡ option_map (λ r. (id_of r, r.place)) (focus_of scene.rows scene.layers) =
    ap (place_in spots) (told_is ∙ focus-told setup.border spots layers seat (sizes_of setup) scene is still ∙ focus-id setup.border spots scene is.shows)
    ∙ focus-place setup.border spots scene is.shows in
    let done =
    by_row (focus_of scene.rows scene.layers)
    (subst (λ (p : Option (RowId × Rect)). Leads delivers a (placing f p) b) found told)
    (is_row ∙ ap (option_map (λ (p : RowId × Rect). p.0)) found) in
    let here : RaisesRow delivers a b seat layers layers None row (route setup event scene) =
    subst (λ (o : InputOutcome). RaisesRow delivers a b seat layers layers None row o) (sym places.outcome) done in
    record { carries = here.carries; has_layers = here.has_layers; raises = here.raises; raised = sym places.unraised; changes = here.changes; settled = sym places.unsaid; finds = places.unfound }
  where
    by_row : (o : Option Row) → Leads delivers a (placing f (option_map (λ r. (id_of r, r.place)) o)) b
        → row ≡ option_map (λ (p : RowId × Rect). p.0) (option_map (λ r. (id_of r, r.place)) o)
        → RaisesRow delivers a b seat layers layers None row (place_by o f scene)
    by_row None t r =
        record { carries = record { has_seat = sym is.has_seat; leads = t }; has_layers = sym is.has_layers; raises = is.has_layers; changes = r }
    by_row (Some x) t r =
        record { carries = record { has_seat = sym is.has_seat; leads = t }; has_layers = sym is.has_layers; raises = is.has_layers; changes = r }

-- ---- buttons

release-stays : (grab : Option Grab) (code state : ℕ) (scene : Scene) → Stays scene.layers (release_by grab code state scene)
release-stays None code state scene = record { has_layers = refl; no_place = refl }
release-stays (Some grab) code state scene = by_held (is_among code grab.buttons)
  where
    by_held : (b : Bool) → Stays scene.layers
        (if b then with_deliveries scene (record scene.seat { grab = grab_left grab.row (released code grab.buttons) }) (button grab.row false code state scene) else ignored scene)
    by_held true = record { has_layers = refl; no_place = refl }
    by_held false = record { has_layers = refl; no_place = refl }

pub release-done : {V : Type 0} (delivers : V → Delivery → V → Type 0) (a b : V) (setup : Setup) (spots : RowId → Option Spot) (layers : Layers) (seat last : Seat) (down : Bool) (code state : ℕ) (scene : Scene)
    → Presents setup.border spots layers seat scene → down ≡ false
    → Carries delivers a b last (release_by scene.seat.grab code state scene)
    → Presses delivers a b last layers layers None (raised_press setup down scene) (press setup down code state scene)
release-done {V = V} delivers a b setup spots layers seat last down code state scene is up done =
    let stays = release-stays scene.seat.grab code state scene in
    subst (λ (d : Bool). Presses delivers a b last layers layers None (raised_press setup d scene) (press setup d code state scene)) (sym up)
    (record {
      carries = done;
      has_layers = sym (stays.has_layers ∙ is.has_layers);
      raises = stays.has_layers ∙ is.has_layers;
      raised = refl;
      no_place = stays.no_place;
    })

pub route-press : {V : Type 0} (delivers : V → Delivery → V → Type 0) (a b : V) (setup : Setup) (before after : Layers) (last : Seat) (down : Bool) (code state : ℕ) (row : Option RowId) (scene : Scene)
    → Presses delivers a b last before after row (raised_press setup down scene) (press setup down code state scene)
    → Takes delivers a b last before after (record { raised = row; changed = None; settled = false; hover = None }) setup (item.Press down code state) scene
route-press delivers a b setup before after last down code state row scene is = record {
  carries = is.carries;
  has_layers = is.has_layers;
  raises = is.raises;
  raised = is.raised;
  changes = sym is.no_place;
  settled = refl;
  finds = tt;
}

-- ---- all of them

-- for this item, with this answer
pub at-item : {V : Type 0} (delivers : V → Delivery → V → Type 0) (a b : V) (last : Seat) (before after : Layers) (setup : Setup) (scene : Scene) (event it : Item) (taken answer : Taken)
    → event ≡ it → taken ≡ answer → Takes delivers a b last before after answer setup it scene
    → Takes delivers a b last before after taken setup event scene
at-item {V = V} delivers a b last before after setup scene event it taken answer is_item is_taken done =
    subst (λ (i : Item). Takes delivers a b last before after taken setup i scene) (sym is_item)
    (subst (λ (x : Taken). Takes delivers a b last before after x setup it scene) (sym is_taken) done)
