-- Settling keeps rows, layers and clipboard: only the seat changes, and what comes out.
use Rattle.std.proofs.Common.{◌≡◌, ℕ, Bool, true, false, List, [], ◌∷◌, ◌++◌, Option, Some, None, is_some, refl, sym, ◌∙◌, ap, subst}
use Rattle.std.specs.Prelude.{if◌then◌else◌}
use Rattle.std.specs.List.{All}
use Rattle.std.proofs.lemmas.List.Elements.{All-nil, All-cons, All-head, All-tail, All-append, All-weaker}
use Rattle.desk_laws.specs.declared.row_id.RowId.{RowId}
use Rattle.desk_laws.specs.declared.input.GIn.{GIn}
use Rattle.desk_laws.specs.declared.input.GIn.TheVariants.{Crossing, Focus, Keymap, ClipAsk, ClipGive}
use Rattle.desk_laws.specs.Sizes.{Sizes}
use Rattle.desk_laws.specs.declared.setup.Pair.{Pair}
use Rattle.desk_laws.specs.Pairs.{denies}
use Rattle.desk_laws.specs.Rows.{Row, mine, row_with, row_at}
use Rattle.desk_laws.specs.Layers.{followed}
use Rattle.desk_laws.specs.Following.{LayersFollow}
use Rattle.desk_laws.specs.Effects.{Same, changed}
use Rattle.desk_laws.specs.Grants.{window_of, grant_change, granted, granted_by, granted_to}
use Rattle.desk_laws.specs.Clipboard.{Content, ask, wiped}
use Rattle.desk_laws.specs.Scene.{Scene, Delivery, Grants, Asks, Pastes, InputOutcome, SceneOutcome, outcome_after, grant, grant_where, deliver, deliver_all, pastes, perform, unchanged, with_clip}
use Rattle.desk_laws.specs.Settle.{focus_now, hover_now, same_id, pointer_in, crossing, focusing, keymap, focus_told, hover_told, grab_checked, settled_seat, settled, settle}
use Rattle.desk_laws.proofs.FollowChanges.{followed-same}

-- ---- grants that change no row

-- an input that changes no row
abbrev pub LeavesRows : GIn → Type 0
LeavesRows input = (row : Row) → grant_change input row ≡ Same

pub granted-rows : (guest : ℕ) (rows : List Row) (input : GIn) (paste : List ℕ) → LeavesRows input → (granted guest rows input paste).rows ≡ rows
granted-rows guest rows input paste leaves = by_window (window_of input)
  where
    by_row : (o : Option Row) → (granted_to guest rows input paste o).rows ≡ rows
    by_row None = refl
    by_row (Some row) = ap (λ change. changed guest change rows) (leaves row)

    by_window : (o : Option ℕ) → (granted_by guest rows input paste o).rows ≡ rows
    by_window None = refl
    by_window (Some window) = by_row (row_with window (mine guest rows))

module _ (id : RowId) (input : GIn) (paste : List ℕ) (scene : Scene) where
  grant-rows : LeavesRows input → (grant id input paste scene).scene.rows ≡ scene.rows
  grant-rows leaves = by_there (is_some (row_at id scene.rows))
    where
      by_there : (b : Bool) → (grant_where b id input paste scene).scene.rows ≡ scene.rows
      by_there true = granted-rows id.guest scene.rows input paste leaves
      by_there false = refl

  grant-layers : LeavesRows input → LayersFollow scene.rows scene.layers → (grant id input paste scene).scene.layers ≡ scene.layers
  grant-layers leaves follow = by_there (is_some (row_at id scene.rows))
    where
      by_there : (b : Bool) → (grant_where b id input paste scene).scene.layers ≡ scene.layers
      by_there true =
          ap (λ rows. followed rows scene.layers) (granted-rows id.guest scene.rows input paste leaves)
          ∙ followed-same scene.rows scene.layers follow
      by_there false = refl

  grant-seat : (grant id input paste scene).scene.seat ≡ scene.seat
  grant-seat = by_there (is_some (row_at id scene.rows))
    where
      by_there : (b : Bool) → (grant_where b id input paste scene).scene.seat ≡ scene.seat
      by_there true = refl
      by_there false = refl

  grant-clip : (grant id input paste scene).scene.clip ≡ scene.clip
  grant-clip = by_there (is_some (row_at id scene.rows))
    where
      by_there : (b : Bool) → (grant_where b id input paste scene).scene.clip ≡ scene.clip
      by_there true = refl
      by_there false = refl

-- ---- deliveries that change no row

-- a delivery that changes no row
abbrev pub IsQuiet : Delivery → Type 0
IsQuiet (Grants id input) = LeavesRows input
IsQuiet (Asks id) = Unit {0}
IsQuiet (Pastes id) = Unit {0}

-- a delivery that changes neither a row nor the clipboard
abbrev pub IsTold : Delivery → Type 0
IsTold (Grants id input) = LeavesRows input
IsTold (Asks id) = ⊥
IsTold (Pastes id) = ⊥

told-quiet : (d : Delivery) → IsTold d → IsQuiet d
told-quiet (Grants id input) told = told
told-quiet (Asks id) told = tt
told-quiet (Pastes id) told = tt

module _ (denied : List Pair) where
  deliver-rows : (d : Delivery) (scene : Scene) → IsQuiet d → (deliver denied d scene).scene.rows ≡ scene.rows
  deliver-rows (Grants id input) scene quiet = grant-rows id input [] scene quiet
  deliver-rows (Asks id) scene quiet = grant-rows id (ClipAsk id.window) [] (with_clip (ask id.guest scene.clip) scene) (λ row. refl)
  deliver-rows (Pastes id) scene quiet = by_content scene.clip.content
    where
      by_denied : (content : Content) (b : Bool)
          → (if b then unchanged scene else grant id (ClipGive id.window) content.bytes (with_clip (wiped scene.clip) scene)).scene.rows ≡ scene.rows
      by_denied content true = refl
      by_denied content false = grant-rows id (ClipGive id.window) content.bytes (with_clip (wiped scene.clip) scene) (λ row. refl)

      by_content : (o : Option Content) → (pastes denied id o scene).scene.rows ≡ scene.rows
      by_content None = refl
      by_content (Some content) = by_denied content (denies denied content.source id.guest)

  deliver-layers : (d : Delivery) (scene : Scene) → IsQuiet d → LayersFollow scene.rows scene.layers → (deliver denied d scene).scene.layers ≡ scene.layers
  deliver-layers (Grants id input) scene quiet follow = grant-layers id input [] scene quiet follow
  deliver-layers (Asks id) scene quiet follow = grant-layers id (ClipAsk id.window) [] (with_clip (ask id.guest scene.clip) scene) (λ row. refl) follow
  deliver-layers (Pastes id) scene quiet follow = by_content scene.clip.content
    where
      by_denied : (content : Content) (b : Bool)
          → (if b then unchanged scene else grant id (ClipGive id.window) content.bytes (with_clip (wiped scene.clip) scene)).scene.layers ≡ scene.layers
      by_denied content true = refl
      by_denied content false = grant-layers id (ClipGive id.window) content.bytes (with_clip (wiped scene.clip) scene) (λ row. refl) follow

      by_content : (o : Option Content) → (pastes denied id o scene).scene.layers ≡ scene.layers
      by_content None = refl
      by_content (Some content) = by_denied content (denies denied content.source id.guest)

  deliver-seat : (d : Delivery) (scene : Scene) → (deliver denied d scene).scene.seat ≡ scene.seat
  deliver-seat (Grants id input) scene = grant-seat id input [] scene
  deliver-seat (Asks id) scene = grant-seat id (ClipAsk id.window) [] (with_clip (ask id.guest scene.clip) scene)
  deliver-seat (Pastes id) scene = by_content scene.clip.content
    where
      by_denied : (content : Content) (b : Bool)
          → (if b then unchanged scene else grant id (ClipGive id.window) content.bytes (with_clip (wiped scene.clip) scene)).scene.seat ≡ scene.seat
      by_denied content true = refl
      by_denied content false = grant-seat id (ClipGive id.window) content.bytes (with_clip (wiped scene.clip) scene)

      by_content : (o : Option Content) → (pastes denied id o scene).scene.seat ≡ scene.seat
      by_content None = refl
      by_content (Some content) = by_denied content (denies denied content.source id.guest)

  deliver-clip : (d : Delivery) (scene : Scene) → IsTold d → (deliver denied d scene).scene.clip ≡ scene.clip
  deliver-clip (Grants id input) scene told = grant-clip id input [] scene
  deliver-clip (Asks id) scene told = absurd told
  deliver-clip (Pastes id) scene told = absurd told

  -- what pastes nothing doesn't ask which pairs are denied
  deliver-any : (d : Delivery) (scene : Scene) → IsTold d → deliver denied d scene ≡ deliver [] d scene
  deliver-any (Grants id input) scene told = refl
  deliver-any (Asks id) scene told = absurd told
  deliver-any (Pastes id) scene told = absurd told

-- lists that follow the rows, where rows and lists are the same
pub follow-same : (before after : Scene) → after.rows ≡ before.rows → after.layers ≡ before.layers → LayersFollow before.rows before.layers → LayersFollow after.rows after.layers
follow-same before after rows layers follow =
    let P : List Row → Type 0 = λ rs. LayersFollow rs after.layers in
    subst P (sym rows) (subst (LayersFollow before.rows) (sym layers) follow)

module _ (denied : List Pair) where
  pub all-rows : (ds : List Delivery) (scene : Scene) → All IsQuiet ds → (deliver_all denied ds scene).scene.rows ≡ scene.rows
  all-rows [] scene quiet = refl
  all-rows (d ∷ ds) scene quiet =
      all-rows ds (deliver denied d scene).scene (All-tail IsQuiet d ds quiet) ∙ deliver-rows denied d scene (All-head IsQuiet d ds quiet)

  pub all-layers : (ds : List Delivery) (scene : Scene) → All IsQuiet ds → LayersFollow scene.rows scene.layers
      → (deliver_all denied ds scene).scene.layers ≡ scene.layers
  all-layers [] scene quiet follow = refl
  all-layers (d ∷ ds) scene quiet follow =
      let first : IsQuiet d = All-head IsQuiet d ds quiet in
      let layers : (deliver denied d scene).scene.layers ≡ scene.layers = deliver-layers denied d scene first follow in
      all-layers ds (deliver denied d scene).scene (All-tail IsQuiet d ds quiet)
      (follow-same scene (deliver denied d scene).scene (deliver-rows denied d scene first) layers follow) ∙ layers

  pub all-seat : (ds : List Delivery) (scene : Scene) → (deliver_all denied ds scene).scene.seat ≡ scene.seat
  all-seat [] scene = refl
  all-seat (d ∷ ds) scene = all-seat ds (deliver denied d scene).scene ∙ deliver-seat denied d scene

  pub all-clip : (ds : List Delivery) (scene : Scene) → All IsTold ds → (deliver_all denied ds scene).scene.clip ≡ scene.clip
  all-clip [] scene told = refl
  all-clip (d ∷ ds) scene told =
      all-clip ds (deliver denied d scene).scene (All-tail IsTold d ds told) ∙ deliver-clip denied d scene (All-head IsTold d ds told)

  -- deliveries of which none is a paste don't ask which pairs are denied
  pub all-any : (ds : List Delivery) (scene : Scene) → All IsTold ds → deliver_all denied ds scene ≡ deliver_all [] ds scene
  all-any [] scene told = refl
  all-any (d ∷ ds) scene told =
      ap (λ o. outcome_after o (deliver_all denied ds o.scene)) (deliver-any denied d scene (All-head IsTold d ds told))
      ∙ ap (outcome_after (deliver [] d scene)) (all-any ds (deliver [] d scene).scene (All-tail IsTold d ds told))

-- ---- what settling tells

-- one input that leaves the rows
pub told-one : (id : RowId) (input : GIn) → LeavesRows input → All IsTold (Grants id input ∷ [])
told-one id input leaves = All-cons IsTold (Grants id input) [] leaves (All-nil IsTold)

focusing-told : (gained : Bool) (o : Option RowId) → All IsTold (focusing gained o)
focusing-told gained None = All-nil IsTold
focusing-told gained (Some id) = told-one id (Focus id.window gained) (λ row. refl)

keymap-told : (o : Option RowId) → All IsTold (keymap o)
keymap-told None = All-nil IsTold
keymap-told (Some id) = told-one id Keymap (λ row. refl)

crossing-told : (enter : Bool) (o : Option RowId) (scene : Scene) → All IsTold (crossing enter o scene)
crossing-told enter None scene = All-nil IsTold
crossing-told enter (Some id) scene =
    told-one id (Crossing id.window enter (pointer_in id scene).x (pointer_in id scene).y (same_id (Some id) (focus_now scene))) (λ row. refl)

focus-told : (old new : Option RowId) → All IsTold (focus_told old new)
focus-told old new = by_same (same_id old new)
  where
    by_same : (b : Bool) → All IsTold (if b then [] else focusing false old ++ focusing true new ++ keymap new)
    by_same true = All-nil IsTold
    by_same false =
        All-append IsTold (focusing false old ++ focusing true new) (keymap new)
        (All-append IsTold (focusing false old) (focusing true new) (focusing-told false old) (focusing-told true new)) (keymap-told new)

hover-told : (old new : Option RowId) (scene : Scene) → All IsTold (hover_told old new scene)
hover-told old new scene = by_same (same_id old new)
  where
    by_same : (b : Bool) → All IsTold (if b then [] else crossing false old scene ++ crossing true new scene)
    by_same true = All-nil IsTold
    by_same false = All-append IsTold (crossing false old scene) (crossing true new scene) (crossing-told false old scene) (crossing-told true new scene)

settled-told : (sizes : Sizes) (scene : Scene) → All IsTold (settled sizes scene).deliveries
settled-told sizes scene =
    All-append IsTold (focus_told scene.seat.focus (focus_now scene)) (hover_told scene.seat.hover (hover_now sizes scene) scene)
    (focus-told scene.seat.focus (focus_now scene)) (hover-told scene.seat.hover (hover_now sizes scene) scene)

-- ---- settling

module _ (sizes : Sizes) (scene : Scene) where
  -- what is told
  abbrev told : InputOutcome
  told = settled sizes (grab_checked scene)

  told-quietly : All IsQuiet told.deliveries
  told-quietly = All-weaker IsTold IsQuiet told-quiet told.deliveries (settled-told sizes (grab_checked scene))

  -- no row changes
  pub settle-rows : (settle sizes scene).scene.rows ≡ scene.rows
  settle-rows = all-rows [] told.deliveries (record scene { seat = told.seat }) told-quietly

  -- no list changes, where they follow the rows
  pub settle-layers : LayersFollow scene.rows scene.layers → (settle sizes scene).scene.layers ≡ scene.layers
  settle-layers follow = all-layers [] told.deliveries (record scene { seat = told.seat }) told-quietly follow

  -- the clipboard doesn't change
  pub settle-clip : (settle sizes scene).scene.clip ≡ scene.clip
  settle-clip = all-clip [] told.deliveries (record scene { seat = told.seat }) (settled-told sizes (grab_checked scene))

  -- the seat is the one in which focus and hover are told
  pub settle-seat : (settle sizes scene).scene.seat ≡ settled_seat (focus_now scene) (hover_now sizes (grab_checked scene)) (grab_checked scene).seat
  settle-seat = all-seat [] told.deliveries (record scene { seat = told.seat })

  -- lists that follow the rows follow them still
  pub settle-follow : LayersFollow scene.rows scene.layers → LayersFollow (settle sizes scene).scene.rows (settle sizes scene).scene.layers
  settle-follow follow = follow-same scene (settle sizes scene).scene settle-rows (settle-layers follow) follow

  -- whichever pairs are denied, what is told is carried out in the same way
  pub settle-any : (denied : List Pair) → perform denied told scene ≡ settle sizes scene
  settle-any denied = all-any denied told.deliveries (record scene { seat = told.seat }) (settled-told sizes (grab_checked scene))
