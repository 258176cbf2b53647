-- What the user does changes the lists by a raise at most: a granted input leaves them.
use Rattle.std.proofs.Common.{◌≡◌, ℕ, Bool, true, false, ◌&&◌, not, List, [], ◌∷◌, ◌++◌, map, Option, Some, None, is_some, refl, sym, ◌∙◌, ap, subst}
use Rattle.std.specs.Prelude.{find, if◌then◌else◌}
use Rattle.gui_num.specs.declared.Rect.{Rect}
use Rattle.gui_wire.specs.declared.limits.TheConstants.{WINDOW_FLAG_MINIMIZE}
use Rattle.desk_laws.specs.declared.row_id.RowId.{RowId}
use Rattle.desk_laws.specs.declared.setup.Setup.{Setup}
use Rattle.desk_laws.specs.declared.item.Item.{Item}
use Rattle.desk_laws.specs.declared.item.Item.TheVariants as item
use Rattle.desk_laws.specs.declared.input.GIn.{GIn}
use Rattle.desk_laws.specs.declared.input.GIn.TheVariants as g
use Rattle.desk_laws.specs.Rows.{Row, id_of, is_row, mine, row_with, row_at, is_shown, is_hidden, placed_at}
use Rattle.desk_laws.specs.Layers.{Layers, is_in, are_apart, without, followed, entered, departed, relayered, raised, last_that, focus_of}
use Rattle.desk_laws.specs.Effects.{Replaced, changed, replaced_in, of_guest, flags_without}
use Rattle.desk_laws.specs.Following.{LayersFollow, ChangesOne, after_row}
use Rattle.desk_laws.specs.Grants.{window_of, grant_change, granted, granted_by, granted_to}
use Rattle.desk_laws.specs.declared.setup.Pair.{Pair}
use Rattle.desk_laws.specs.Scene.{Scene, InputOutcome, grant, grant_where, grant_in, perform, scene_of_input}
use Rattle.desk_laws.specs.Settle.{focus_now}
use Rattle.desk_laws.specs.Events.{route, restore_by, place_by, move_to, size_to, listed}
use Rattle.desk_laws.proofs.ChangeLemmas.{found-window}
use Rattle.desk_laws.proofs.FollowLemmas.{lists-follow, focus-has, normal-has, over-has, same-lists, passes, is_listed, is_normal, is_over}
use Rattle.desk_laws.proofs.FollowChanges.{the, lists-follow_one, row_with-mine, followed-same}
use Rattle.desk_laws.proofs.IdLemmas.{without-out}
use Rattle.desk_laws.proofs.ListedLemmas.{AreListed}
use Rattle.desk_laws.proofs.RaiseLemmas.{raised-follow}
use Rattle.desk_laws.proofs.RowLemmas.{same_row-itself}
use Rattle.desk_laws.proofs.SettleLemmas.{follow-same, all-rows, all-layers}
use Rattle.desk_laws.proofs.RouteLemmas.{IsCalm, calm-move, calm-press, calm-key, calm-close, calm-raise}

-- ---- a row in the place of one that was in the same lists

-- the row that came is found where the one was that it replaced
pub replaced-found : (guest : ℕ) (new old : Row) (rows : List Row) → row_at (the guest new.window) rows ≡ Some old
    → row_at (the guest new.window) (map (replaced_in guest new) rows) ≡ Some (of_guest guest new)
replaced-found guest new old [] found = absurd (cc)
replaced-found guest new old (row ∷ rows) found = by_row (is_row guest new.window row) refl found (λ f. replaced-found guest new old rows f)
  where
    rest : List Row
    rest = map (replaced_in guest new) rows

    by_row : (b : Bool) → is_row guest new.window row ≡ b → (if b then Some row else row_at (the guest new.window) rows) ≡ Some old
        → (row_at (the guest new.window) rows ≡ Some old → row_at (the guest new.window) rest ≡ Some (of_guest guest new))
        → row_at (the guest new.window) ((if b then of_guest guest new else row) ∷ rest) ≡ Some (of_guest guest new)
    by_row true e f further =
        ap (λ b. if b then Some (of_guest guest new) else row_at (the guest new.window) rest) (same_row-itself (the guest new.window))
    by_row false e f further = ap (λ b. if b then Some row else row_at (the guest new.window) rest) e ∙ further f

-- lists in which a row stands where it is mapped and in its layer stay as they are
in-place : (id : RowId) (layers : Layers) (mapped over : Bool) → is_in layers.focus id ≡ mapped → is_in layers.normal id ≡ (mapped && not over)
    → is_in layers.over id ≡ (mapped && over)
    → (if mapped then if is_in layers.focus id then relayered id over layers else entered id over layers else departed id layers) ≡ layers
in-place id layers true true focus normal over =
    ap (λ b. if b then relayered id true layers else entered id true layers) focus
    ∙ ap (λ b. if b then layers else record layers { normal = without id layers.normal; over = layers.over ++ id ∷ [] }) over
in-place id layers true false focus normal over =
    ap (λ b. if b then relayered id false layers else entered id false layers) focus
    ∙ ap (λ b. if b then layers else record layers { normal = layers.normal ++ id ∷ []; over = without id layers.over }) normal
in-place id layers false over focus normal above =
    same-lists _ _ _ _ _ _ (without-out id layers.normal normal) (without-out id layers.over above) (without-out id layers.focus focus)

-- a row in the place of one that was as mapped, and in the same layer, leaves the lists
pub replaced-layers : (guest : ℕ) (new old : Row) (rows : List Row) (layers : Layers) → are_apart (map id_of rows) ≡ true → LayersFollow rows layers
    → row_with new.window (mine guest rows) ≡ Some old → new.mapped ≡ old.mapped → new.over ≡ old.over
    → followed (changed guest (Replaced new) rows) layers ≡ layers
replaced-layers guest new old rows layers apart follow found mapped over =
    let id : RowId = the guest new.window in
    let at : row_at id rows ≡ Some old = sym (row_with-mine guest new.window rows) ∙ found in
    let f = lists-follow_one guest new.window (Replaced new) rows layers apart follow (record { alone = refl; from = ap is_some found }) in
    f.lists
    ∙ ap (λ o. after_row id o layers) (replaced-found guest new old rows at)
    ∙ in-place id layers new.mapped new.over (focus-has rows layers apart follow id ∙ ap (λ o. passes is_listed o) at ∙ sym mapped)
    (normal-has rows layers apart follow id ∙ ap (λ o. passes is_normal o) at ∙ ap (λ m. m && not old.over) (sym mapped) ∙ ap (λ v. new.mapped && not v) (sym over))
    (over-has rows layers apart follow id ∙ ap (λ o. passes is_over o) at ∙ ap (λ m. m && old.over) (sym mapped) ∙ ap (λ v. new.mapped && v) (sym over))

-- ---- a grant of another row in its place

-- an input makes another row of one, of the same window, as mapped, and in the same layer
record LeavesLists (id : RowId) (input : GIn) : Type 0 where
  named : window_of input ≡ Some id.window
  new : Row → Row
  change : (row : Row) → grant_change input row ≡ Replaced (new row)
  window : (row : Row) → (new row).window ≡ row.window
  mapped : (row : Row) → (new row).mapped ≡ row.mapped
  over : (row : Row) → (new row).over ≡ row.over

-- another place does so
place-leaves : (id : RowId) (place : Rect) → LeavesLists id (g.Place id.window place)
place-leaves id place = record {
  named = refl;
  new = placed_at place;
  change = λ row. refl;
  window = λ row. refl;
  mapped = λ row. refl;
  over = λ row. refl;
}

-- and so do other flags
restored-leaves : (id : RowId) → LeavesLists id (g.Restored id.window)
restored-leaves id = record {
  named = refl;
  new = λ row. record row { flags = flags_without row.flags WINDOW_FLAG_MINIMIZE };
  change = λ row. refl;
  window = λ row. refl;
  mapped = λ row. refl;
  over = λ row. refl;
}

module _ (id : RowId) (input : GIn) (scene : Scene) (is : AreListed scene) (leaves : LeavesLists id input) where
  -- a grant to the row, if it is there, leaves the lists
  row-lists : (o : Option Row) → row_with id.window (mine id.guest scene.rows) ≡ o
      → followed (granted_to id.guest scene.rows input [] o).rows scene.layers ≡ scene.layers
  row-lists None found = followed-same scene.rows scene.layers is.lists
  row-lists (Some row) found =
      let window : (leaves.new row).window ≡ id.window =
      leaves.window row ∙ found-window id.window (mine id.guest scene.rows) row found in
      ap (λ change. followed (changed id.guest change scene.rows) scene.layers) (leaves.change row)
      ∙ replaced-layers id.guest (leaves.new row) row scene.rows scene.layers is.apart is.lists
      (ap (λ w. row_with w (mine id.guest scene.rows)) window ∙ found) (leaves.mapped row) (leaves.over row)

  -- and so does one to the window that the input names
  granted-lists : followed (granted id.guest scene.rows input []).rows scene.layers ≡ scene.layers
  granted-lists =
      ap (λ o. followed (granted_by id.guest scene.rows input [] o).rows scene.layers) leaves.named
      ∙ row-lists (row_with id.window (mine id.guest scene.rows)) refl

  -- and one where the row may be gone
  grant-lists : (grant id input [] scene).scene.layers ≡ scene.layers
  grant-lists = by_there (is_some (row_at id scene.rows))
    where
      by_there : (b : Bool) → (grant_where b id input [] scene).scene.layers ≡ scene.layers
      by_there true = granted-lists
      by_there false = refl

  -- the other row is of the window that is named
  one-changed : (row : Row) → row_with id.window (mine id.guest scene.rows) ≡ Some row → ChangesOne id.window (mine id.guest scene.rows) (grant_change input row)
  one-changed row found =
      let window : (leaves.new row).window ≡ id.window = leaves.window row ∙ found-window id.window (mine id.guest scene.rows) row found in
      subst (ChangesOne id.window (mine id.guest scene.rows)) (sym (leaves.change row)) (record { alone = window; from = ap is_some found })

  -- the lists follow the rows after a grant to the row, if it is there
  row-listed : (o : Option Row) → row_with id.window (mine id.guest scene.rows) ≡ o
      → AreListed (grant_in id input [] (granted_to id.guest scene.rows input [] o) scene).scene
  row-listed None found = record { apart = is.apart; lists = lists-follow scene.rows scene.layers is.apart is.lists.once }
  row-listed (Some row) found =
      let f = lists-follow_one id.guest id.window (grant_change input row) scene.rows scene.layers is.apart is.lists (one-changed row found) in
      record { apart = f.apart; lists = f.follow }

  -- and after one where the row may be gone
  grant-listed : AreListed (grant id input [] scene).scene
  grant-listed = by_there (is_some (row_at id scene.rows))
    where
      by_there : (b : Bool) → AreListed (grant_where b id input [] scene).scene
      by_there true =
          subst (λ o. AreListed (grant_in id input [] (granted_by id.guest scene.rows input [] o) scene).scene) (sym leaves.named)
          (row-listed (row_with id.window (mine id.guest scene.rows)) refl)
      by_there false = is

-- ---- the events

module _ (denied : List Pair) (scene : Scene) (is : AreListed scene) where
  -- a raise leaves lists that follow the rows
  raised-listed : (row : Row) → AreListed (record scene { layers = raised (id_of row) scene.layers })
  raised-listed row = record { apart = is.apart; lists = raised-follow (id_of row) scene.rows scene.layers is.lists }

  -- an event that changes no row
  calm-lists : (r : InputOutcome) → IsCalm scene r → (perform denied r scene).scene.layers ≡ r.layers
  calm-lists r calm = all-layers denied r.deliveries (scene_of_input r scene) calm.quiet calm.follow

  -- a hidden row is shown again
  restored-lists : (o : Option Row) → (perform denied (restore_by o scene) scene).scene.layers ≡ (restore_by o scene).layers
  restored-lists None = refl
  restored-lists (Some row) =
      grant-lists (id_of row) (g.Restored row.window) (record scene { layers = raised (id_of row) scene.layers })
      (raised-listed row) (restored-leaves (id_of row))

  -- a row is given another place
  placed-lists : (f : Rect → Rect) (o : Option Row) → (perform denied (place_by o f scene) scene).scene.layers ≡ (place_by o f scene).layers
  placed-lists f None = refl
  placed-lists f (Some row) =
      grant-lists (id_of row) (g.Place row.window (f row.place)) scene is (place-leaves (id_of row) (f row.place))

  -- after an event the lists are those that it leaves, whatever is granted
  pub event-lists : (setup : Setup) (i : Item) → (perform denied (route setup i scene) scene).scene.layers ≡ (route setup i scene).layers
  event-lists setup (item.Key down code state) = calm-lists _ (calm-key scene is.lists (focus_now scene) down code state)
  event-lists setup (item.Move x y state) = calm-lists _ (calm-move scene is.lists setup (record { x = x; y = y }) state)
  event-lists setup (item.Press down button state) = calm-lists _ (calm-press scene is.lists setup down button state)
  event-lists setup item.Close = calm-lists _ (calm-close scene is.lists (focus_now scene))
  event-lists setup item.Next = calm-lists _ (calm-raise scene is.lists (find (λ row. is_shown row && not row.over) (listed scene)))
  event-lists setup item.Restore = restored-lists (last_that is_hidden (listed scene))
  event-lists setup (item.MoveTo x y) = placed-lists (move_to x y) (focus_of scene.rows scene.layers)
  event-lists setup (item.SizeTo w h) = placed-lists (size_to w h) (focus_of scene.rows scene.layers)
  event-lists setup i = refl

  -- the lists follow the rows after an event that changes none of them
  calm-listed : (r : InputOutcome) → IsCalm scene r → AreListed (perform denied r scene).scene
  calm-listed r calm =
      let rows : (perform denied r scene).scene.rows ≡ scene.rows = all-rows denied r.deliveries (scene_of_input r scene) calm.quiet in
      record {
        apart = ap (λ rs. are_apart (map id_of rs)) rows ∙ is.apart;
        lists = follow-same (scene_of_input r scene) (perform denied r scene).scene rows (calm-lists r calm) calm.follow;
      }

  -- and after a hidden row is shown again
  restored-listed : (o : Option Row) → AreListed (perform denied (restore_by o scene) scene).scene
  restored-listed None = is
  restored-listed (Some row) =
      grant-listed (id_of row) (g.Restored row.window) (record scene { layers = raised (id_of row) scene.layers })
      (raised-listed row) (restored-leaves (id_of row))

  -- and after a row is given another place
  placed-listed : (f : Rect → Rect) (o : Option Row) → AreListed (perform denied (place_by o f scene) scene).scene
  placed-listed f None = is
  placed-listed f (Some row) = grant-listed (id_of row) (g.Place row.window (f row.place)) scene is (place-leaves (id_of row) (f row.place))

  -- and they follow the rows that there are then, of which no two have one id
  pub event-listed : (setup : Setup) (i : Item) → AreListed (perform denied (route setup i scene) scene).scene
  event-listed setup (item.Key down code state) = calm-listed _ (calm-key scene is.lists (focus_now scene) down code state)
  event-listed setup (item.Move x y state) = calm-listed _ (calm-move scene is.lists setup (record { x = x; y = y }) state)
  event-listed setup (item.Press down button state) = calm-listed _ (calm-press scene is.lists setup down button state)
  event-listed setup item.Close = calm-listed _ (calm-close scene is.lists (focus_now scene))
  event-listed setup item.Next = calm-listed _ (calm-raise scene is.lists (find (λ row. is_shown row && not row.over) (listed scene)))
  event-listed setup item.Restore = restored-listed (last_that is_hidden (listed scene))
  event-listed setup (item.MoveTo x y) = placed-listed (move_to x y) (focus_of scene.rows scene.layers)
  event-listed setup (item.SizeTo w h) = placed-listed (size_to w h) (focus_of scene.rows scene.layers)
  event-listed setup i = is
