-- What the user does keeps a state sound.
use Rattle.std.proofs.Common.{◌≡◌, ℕ, Bool, true, false, ◌&&◌, ◌==◌, List, [], map, Option, Some, None, is_some, refl, sym, ◌∙◌, ap, subst}
use Rattle.std.specs.Prelude.{find, not}
use Rattle.std.proofs.lemmas.Bool.{eqb-true, eqb-false}
use Rattle.gui_num.specs.declared.Rect.{Rect}
use Rattle.desk_laws.specs.declared.row_id.RowId.{RowId}
use Rattle.desk_laws.specs.declared.setup.Setup.{Setup}
use Rattle.desk_laws.specs.declared.item.Item.{Item}
use Rattle.desk_laws.specs.declared.item.Item.TheVariants as item
use Rattle.desk_laws.specs.declared.input.GIn.{GIn}
use Rattle.desk_laws.specs.declared.input.GIn.TheVariants as g
use Rattle.desk_laws.specs.Sizes.{Sizes, sizes_of}
use Rattle.desk_laws.specs.Rows.{Row, id_of, mine, row_with, row_at, is_shown, is_hidden, placed_at}
use Rattle.desk_laws.specs.Layers.{are_apart, followed, raised, last_that, focus_of}
use Rattle.desk_laws.specs.Following.{LayersFollow, ChangesOne}
use Rattle.desk_laws.specs.Override.{KeepsLimits}
use Rattle.desk_laws.specs.Effects.{Change, Replaced, changed}
use Rattle.desk_laws.specs.Grants.{window_of, grant_change, granted_by, granted_to}
use Rattle.desk_laws.specs.declared.setup.Pair.{Pair}
use Rattle.desk_laws.specs.Scene.{Scene, InputOutcome, grant, grant_where, grant_in, perform, scene_of_input}
use Rattle.desk_laws.specs.State.{DeskState}
use Rattle.desk_laws.specs.Settle.{settle, focus_now}
use Rattle.desk_laws.specs.Events.{route, restore_by, place_by, move_to, size_to, listed}
use Rattle.desk_laws.specs.Steps.{event}
use Rattle.desk_laws.specs.Sound.{IsSound}
use Rattle.desk_laws.proofs.ChangeLemmas.{found-window}
use Rattle.desk_laws.proofs.FollowLemmas.{lists-follow}
use Rattle.desk_laws.proofs.FollowChanges.{lists-follow_one, row_with-mine}
use Rattle.desk_laws.proofs.OtherLemmas.{others-keep_rows}
use Rattle.desk_laws.proofs.ListedLemmas.{AreListed}
use Rattle.desk_laws.proofs.LimitLemmas.{OwnLimits, IsWithin, FitsRow, FitsChange, of-guest, none-within, and-within, found-within, change-limited}
use Rattle.desk_laws.proofs.RaiseLemmas.{raised-follow}
use Rattle.desk_laws.proofs.SettleLemmas.{follow-same, all-rows, all-layers, settle-rows, settle-follow}
use Rattle.desk_laws.proofs.RouteLemmas.{IsCalm, calm-ignored, calm-move, calm-press, calm-key, calm-close, calm-raise, IsFound, focus-found}

-- what holds of a scene that came of these rows: its lists follow its rows, override windows keep their limits, and a
-- guest that had no row has none
pub record Keeps (sizes : Sizes) (rows : List Row) (after : Scene) : Type 0 where
  pub listed : AreListed after
  pub limits : KeepsLimits sizes after.rows
  pub gone : (guest : ℕ) → mine guest rows ≡ [] → mine guest after.rows ≡ []

-- the same rows, and lists that follow them
same-kept : (sizes : Sizes) (rows : List Row) (after : Scene) → after.rows ≡ rows → LayersFollow after.rows after.layers
    → are_apart (map id_of rows) ≡ true → KeepsLimits sizes rows → Keeps sizes rows after
same-kept sizes rows after same follow apart limits = record {
  listed = record { apart = ap (λ rs. are_apart (map id_of rs)) same ∙ apart; lists = follow };
  limits = subst (KeepsLimits sizes) (sym same) limits;
  gone = λ guest none. ap (mine guest) same ∙ none;
}

-- settling keeps that
settled-kept : (sizes : Sizes) (rows : List Row) (scene : Scene) → Keeps sizes rows scene → Keeps sizes rows (settle sizes scene).scene
settled-kept sizes rows scene kept =
    let same = settle-rows sizes scene in
    record {
      listed = record { apart = ap (λ rs. are_apart (map id_of rs)) same ∙ kept.listed.apart; lists = settle-follow sizes scene kept.listed.lists };
      limits = subst (KeepsLimits sizes) (sym same) kept.limits;
      gone = λ guest none. ap (mine guest) same ∙ kept.gone guest none;
    }

-- ---- a grant that changes a row

-- the change that a grant makes of a guest's window, if the window is there, is of its row alone and keeps the limits
record FitsGrant (sizes : Sizes) (own : List Row) (input : GIn) (window : ℕ) (row : Row) : Type 0 where
  one : ChangesOne window own (grant_change input row)
  fits : FitsChange sizes own (grant_change input row)

module _ (sizes : Sizes) (id : RowId) (input : GIn) (paste : List ℕ) (scene : Scene) (is : AreListed scene) (limits : KeepsLimits sizes scene.rows)
    (fit : (window : ℕ) (row : Row) → window_of input ≡ Some window → row_with window (mine id.guest scene.rows) ≡ Some row
    → FitsGrant sizes (mine id.guest scene.rows) input window row) where
  -- rows that are there, with the lists after them
  unchanged-kept : (scene' : Scene) → scene'.rows ≡ scene.rows → scene'.layers ≡ followed scene.rows scene.layers → Keeps sizes scene.rows scene'
  unchanged-kept scene' rows layers =
      let follow : LayersFollow scene.rows scene'.layers =
      subst (LayersFollow scene.rows) (sym layers) (lists-follow scene.rows scene.layers is.apart is.lists.once) in
      same-kept sizes scene.rows scene' rows (let P : List Row → Type 0 = λ rs. LayersFollow rs scene'.layers in subst P (sym rows) follow) is.apart limits

  -- a guest without rows is granted no change
  stays-gone : (window : ℕ) (row : Row) (change : Change) → row_with window (mine id.guest scene.rows) ≡ Some row → (guest : ℕ) (b : Bool) → (guest == id.guest) ≡ b
      → mine guest scene.rows ≡ [] → mine guest (changed id.guest change scene.rows) ≡ []
  stays-gone window row change found guest true e none =
      let own : mine id.guest scene.rows ≡ [] = ap (λ n. mine n scene.rows) (sym (eqb-true guest id.guest e)) ∙ none in
      let no : None ≡ Some row = sym (ap (row_with window) own) ∙ found in
      absurd (cc)
  stays-gone window row change found guest false e none = others-keep_rows id.guest guest change scene.rows (eqb-false guest id.guest e) ∙ none

  row-kept : (window : ℕ) → window_of input ≡ Some window → (o : Option Row) → row_with window (mine id.guest scene.rows) ≡ o
      → Keeps sizes scene.rows (grant_in id input paste (granted_to id.guest scene.rows input paste o) scene).scene
  row-kept window named None found = unchanged-kept _ refl refl
  row-kept window named (Some row) found =
      let change : Change = grant_change input row in
      let fitting = fit window row named found in
      let f = lists-follow_one id.guest window change scene.rows scene.layers is.apart is.lists fitting.one in
      record {
        listed = record { apart = f.apart; lists = f.follow };
        limits = change-limited sizes id.guest window change scene.rows limits is.apart fitting.one fitting.fits;
        gone = λ guest none. stays-gone window row change found guest (guest == id.guest) refl none;
      }

  window-kept : (o : Option ℕ) → window_of input ≡ o → Keeps sizes scene.rows (grant_in id input paste (granted_by id.guest scene.rows input paste o) scene).scene
  window-kept None named = unchanged-kept _ refl refl
  window-kept (Some window) named = row-kept window named (row_with window (mine id.guest scene.rows)) refl

  grant-kept : Keeps sizes scene.rows (grant id input paste scene).scene
  grant-kept = by_there (is_some (row_at id scene.rows))
    where
      by_there : (b : Bool) → Keeps sizes scene.rows (grant_where b id input paste scene).scene
      by_there true = window-kept (window_of input) refl
      by_there false = same-kept sizes scene.rows scene refl is.lists is.apart limits

-- ---- the events

-- a row in the normal layer at another place
placed-fits : (sizes : Sizes) (own : List Row) → OwnLimits sizes own → (row : Row) (place : Rect) → row.over ≡ false → FitsRow sizes own (placed_at place row)
placed-fits sizes own limits row place normal =
    subst (λ o. IsWithin sizes own row.window (row.mapped && o) place) (sym normal)
    (and-within sizes own limits row.window row.mapped false place (none-within sizes own limits row.window place))

module _ (denied : List Pair) (sizes : Sizes) (scene : Scene) (is : AreListed scene) (limits : KeepsLimits sizes scene.rows) where
  -- an event that changes no row
  calm-kept : (r : InputOutcome) → IsCalm scene r → Keeps sizes scene.rows (perform denied r scene).scene
  calm-kept r calm =
      let rows : (perform denied r scene).scene.rows ≡ scene.rows = all-rows denied r.deliveries (scene_of_input r scene) calm.quiet in
      let layers : (perform denied r scene).scene.layers ≡ r.layers = all-layers denied r.deliveries (scene_of_input r scene) calm.quiet calm.follow in
      same-kept sizes scene.rows (perform denied r scene).scene rows (follow-same (scene_of_input r scene) (perform denied r scene).scene rows layers calm.follow) is.apart limits

  -- a hidden row is shown again: its place and its layer stay
  restored-kept : (o : Option Row) → Keeps sizes scene.rows (perform denied (restore_by o scene) scene).scene
  restored-kept None = calm-kept (restore_by None scene) (calm-ignored scene is.lists)
  restored-kept (Some row) =
      grant-kept sizes (id_of row) (g.Restored row.window) [] (record scene { layers = raised (id_of row) scene.layers })
      (record { apart = is.apart; lists = raised-follow (id_of row) scene.rows scene.layers is.lists }) limits
      (λ window found named known. record {
        one = record { alone = found-window window (mine row.guest scene.rows) found known; from = ap is_some known };
        fits = found-within sizes (mine row.guest scene.rows) (of-guest sizes row.guest scene.rows limits) window found known;
      })

  -- the focus at another place: it is in the normal layer, where no limit holds
  placed-kept : (f : Rect → Rect) (o : Option Row) → focus_of scene.rows scene.layers ≡ o → Keeps sizes scene.rows (perform denied (place_by o f scene) scene).scene
  placed-kept f None focus = calm-kept (place_by None f scene) (calm-ignored scene is.lists)
  placed-kept f (Some row) focus =
      grant-kept sizes (id_of row) (g.Place row.window (f row.place)) [] scene is limits
      (λ window found named known. record {
        one = record { alone = found-window window (mine row.guest scene.rows) found known; from = ap is_some known };
        fits = within found (same window found named known);
      })
    where
      is_focus : (row.over ≡ false) × IsFound scene.rows row
      is_focus = focus-found scene.rows scene.layers row focus

      same : (window : ℕ) (found : Row) → Some row.window ≡ Some window → row_with window (mine row.guest scene.rows) ≡ Some found → row ≡ found
      same window found named known =
          let here : row_with row.window (mine row.guest scene.rows) ≡ Some row = row_with-mine row.guest row.window scene.rows ∙ is_focus.1 in
          let window_is : row.window ≡ window = cc in
          let both : Some row ≡ Some found = sym here ∙ ap (λ w. row_with w (mine row.guest scene.rows)) window_is ∙ known in
          cc

      within : (found : Row) → row ≡ found → FitsChange sizes (mine row.guest scene.rows) (Replaced (placed_at (f row.place) found))
      within found e =
          let normal : found.over ≡ false = ap (λ r. r.over) (sym e) ∙ is_focus.0 in
          placed-fits sizes (mine row.guest scene.rows) (of-guest sizes row.guest scene.rows limits) found (f row.place) normal

pub event-kept : (setup : Setup) (i : Item) (scene : Scene) → AreListed scene → KeepsLimits (sizes_of setup) scene.rows
    → Keeps (sizes_of setup) scene.rows (perform setup.denied (route setup i scene) scene).scene
event-kept setup (item.Key down code state) scene is limits =
    calm-kept setup.denied (sizes_of setup) scene is limits _ (calm-key scene is.lists (focus_now scene) down code state)
event-kept setup (item.Move x y state) scene is limits =
    calm-kept setup.denied (sizes_of setup) scene is limits _ (calm-move scene is.lists setup (record { x = x; y = y }) state)
event-kept setup (item.Press down button state) scene is limits =
    calm-kept setup.denied (sizes_of setup) scene is limits _ (calm-press scene is.lists setup down button state)
event-kept setup item.Close scene is limits = calm-kept setup.denied (sizes_of setup) scene is limits _ (calm-close scene is.lists (focus_now scene))
event-kept setup item.Next scene is limits =
    calm-kept setup.denied (sizes_of setup) scene is limits _ (calm-raise scene is.lists (find (λ row. is_shown row && not row.over) (listed scene)))
event-kept setup item.Restore scene is limits = restored-kept setup.denied (sizes_of setup) scene is limits (last_that is_hidden (listed scene))
event-kept setup (item.MoveTo x y) scene is limits = placed-kept setup.denied (sizes_of setup) scene is limits (move_to x y) (focus_of scene.rows scene.layers) refl
event-kept setup (item.SizeTo w h) scene is limits = placed-kept setup.denied (sizes_of setup) scene is limits (size_to w h) (focus_of scene.rows scene.layers) refl
event-kept setup i scene is limits = calm-kept setup.denied (sizes_of setup) scene is limits _ (calm-ignored scene is.lists)

-- what the user does, settled, keeps a state sound
pub event-sound : (setup : Setup) (i : Item) (desk : DeskState) → IsSound setup desk → IsSound setup (event setup i desk).desk
event-sound setup i desk is =
    let after : Scene = (perform setup.denied (route setup i desk.scene) desk.scene).scene in
    let kept : Keeps (sizes_of setup) desk.scene.rows (settle (sizes_of setup) after).scene =
    settled-kept (sizes_of setup) desk.scene.rows after (event-kept setup i desk.scene (record { apart = is.apart; lists = is.lists }) is.limits) in
    record {
      apart = kept.listed.apart;
      lists = kept.listed.lists;
      gone = λ guest cause known over. kept.gone guest (is.gone guest cause known over);
      limits = kept.limits;
    }
