-- What is granted by deliveries, and by settle.
use Rattle.std.proofs.Common.{◌≡◌, ℕ, Bool, true, false, List, [], ◌∷◌, ◌++◌, map, Option, Some, None, refl, sym, ◌∙◌, ap, arith}
use Rattle.std.specs.Prelude.{is_some, if◌then◌else◌}
use Rattle.std.specs.List.{All}
use Rattle.std.proofs.lemmas.Bool.Decides.{nat_tests}
use Rattle.std.proofs.lemmas.List.Elements.{All-nil, All-cons, All-append, All-weaker}
use Rattle.gui_wire.specs.declared.limits.TheConstants.{WINDOW_FLAG_MINIMIZE}
use Rattle.desk_laws.specs.declared.row_id.RowId.{RowId}
use Rattle.desk_laws.specs.declared.setup.Pair.{Pair}
use Rattle.desk_laws.specs.declared.item.Item.{Item}
use Rattle.desk_laws.specs.declared.input.GIn.{GIn}
use Rattle.desk_laws.specs.declared.input.GIn.TheVariants as g
use Rattle.desk_laws.specs.Sizes.{Sizes}
use Rattle.desk_laws.specs.Rows.{Row, row_at, row_with, mine, placed_at}
use Rattle.desk_laws.specs.Effects.{flags_without, replaced_in, changed}
use Rattle.desk_laws.specs.Grants.{window_of, granted_by, granted_to, grant_change}
use Rattle.desk_laws.specs.Pairs.{denies}
use Rattle.desk_laws.specs.Clipboard.{Content, ask, wiped}
use Rattle.desk_laws.specs.Scene.{Scene, Input, Took, Given, Closing, Losing, GuestInput, Delivery, Grants, Asks, Pastes, InputOutcome, unchanged, grant, grant_where, with_clip, pastes, deliver, deliver_all, scene_of_input, perform, asks}
use Rattle.desk_laws.specs.Settle.{focus_now, hover_now, same_id, settle, settled, grab_checked, focusing, keymap, crossing, focus_told, hover_told}
use Rattle.run_laws.specs.GrantedContent.{row_of, IsFocusOf, IsChordFor, IsCarried, IsBeside, IsGrantedAt, IfGiven}

-- ---- all granted inputs of a list

-- a claim on a granted input, of an input that reached a guest
abbrev pub Passes : (ℕ → GIn → List ℕ → Type 0) → GuestInput → Type 0
Passes P t = IfGiven P t.guest t.input

-- a claim on each granted input of a list
abbrev pub AllGiven : (ℕ → GIn → List ℕ → Type 0) → List GuestInput → Type 0
AllGiven P told = All (Passes P) told

-- of nothing
given-none : (P : ℕ → GIn → List ℕ → Type 0) → AllGiven P []
given-none P = All-nil (Passes P)

-- of two lists, one behind the other
pub given-append : (P : ℕ → GIn → List ℕ → Type 0) (xs ys : List GuestInput) → AllGiven P xs → AllGiven P ys → AllGiven P (xs ++ ys)
given-append P = All-append (Passes P)

-- a weaker claim
pub given-weaker : (P Q : ℕ → GIn → List ℕ → Type 0) → ((guest : ℕ) (input : GIn) (paste : List ℕ) → P guest input paste → Q guest input paste)
    → (told : List GuestInput) → AllGiven P told → AllGiven Q told
given-weaker P Q weaker told all = All-weaker (Passes P) (Passes Q) (λ t. of_input t.guest t.input) told all
  where
    of_input : (guest : ℕ) (input : Input) → IfGiven P guest input → IfGiven Q guest input
    of_input guest (Took unit) p = tt
    of_input guest (Given input paste) p = weaker guest input paste p
    of_input guest Closing p = tt
    of_input guest Losing p = tt

-- ---- a grant leaves each row where it is found

-- the same ids are found in both
abbrev HaveSameIds : List Row → List Row → Type 0
HaveSameIds rows rows' = (id : RowId) → is_some (row_at id rows') ≡ is_some (row_at id rows)

-- a row replaced
ids-replaced : (guest : ℕ) (new : Row) (rows : List Row) → HaveSameIds rows (map (replaced_in guest new) rows)
ids-replaced guest new [] id = refl
ids-replaced guest new (row ∷ rows) id = grind (arith, nat_tests, ids-replaced guest new rows id)

-- an input granted to a row, if it is there
ids-granted_to : (guest : ℕ) (rows : List Row) (input : GIn) (paste : List ℕ) (found : Option Row) → HaveSameIds rows (granted_to guest rows input paste found).rows
ids-granted_to guest rows input paste None id = refl
ids-granted_to guest rows input paste (Some row) id = by_input input
  where
    by_input : (input : GIn) → is_some (row_at id (changed guest (grant_change input row) rows)) ≡ is_some (row_at id rows)
    by_input (g.Place window rect) = ids-replaced guest (placed_at rect row) rows id
    by_input (g.Restored window) = ids-replaced guest (record row { flags = flags_without row.flags WINDOW_FLAG_MINIMIZE }) rows id
    by_input other = refl

-- an input granted to the window that it names, or to the guest
ids-granted_by : (guest : ℕ) (rows : List Row) (input : GIn) (paste : List ℕ) (window : Option ℕ) → HaveSameIds rows (granted_by guest rows input paste window).rows
ids-granted_by guest rows input paste None id = refl
ids-granted_by guest rows input paste (Some window) id = ids-granted_to guest rows input paste (row_with window (mine guest rows)) id

-- an input granted
ids-grant : (id : RowId) (input : GIn) (paste : List ℕ) (scene : Scene) → HaveSameIds scene.rows (grant id input paste scene).scene.rows
ids-grant id input paste scene other = by_row (is_some (row_at id scene.rows))
  where
    by_row : (b : Bool) → is_some (row_at other (grant_where b id input paste scene).scene.rows) ≡ is_some (row_at other scene.rows)
    by_row true = ids-granted_by id.guest scene.rows input paste (window_of input) other
    by_row false = refl

-- ---- deliveries

-- a claim on a granted input holds of it wherever its row is there
given-grant : (P : ℕ → GIn → List ℕ → Type 0) (id : RowId) (input : GIn) (paste : List ℕ) (scene : Scene)
    → (is_some (row_at id scene.rows) ≡ true → P id.guest input paste) → AllGiven P (grant id input paste scene).inputs
given-grant P id input paste scene fits = by_row (is_some (row_at id scene.rows)) refl
  where
    by_row : (b : Bool) → is_some (row_at id scene.rows) ≡ b → AllGiven P (grant_where b id input paste scene).inputs
    by_row true e = All-cons (Passes P) (record { guest = id.guest; input = Given input paste }) [] (fits e) (given-none P)
    by_row false e = given-none P

-- the window that an input names is that of the row it goes to
abbrev IsNamed : RowId → GIn → Type 0
IsNamed id input = (window : ℕ) → window_of input ≡ Some window → id.window ≡ window

module _ (denied : List Pair) (i : Item) (at : Scene) where
  -- inputs alone, each with what it may carry
  abbrev pub FitsGrants : List Delivery → Type 0
  FitsGrants [] = Unit {0}
  FitsGrants (Grants id input ∷ ds) = IsCarried i at id.guest input × IsBeside denied at id.guest input [] × IsNamed id input × FitsGrants ds
  FitsGrants (Asks id ∷ ds) = ⊥
  FitsGrants (Pastes id ∷ ds) = ⊥

  -- one delivery, or none
  abbrev pub FitsOne : List Delivery → Type 0
  FitsOne [] = Unit {0}
  FitsOne (Grants id input ∷ []) = IsCarried i at id.guest input × IsBeside denied at id.guest input [] × IsNamed id input
  FitsOne (Asks id ∷ []) = IsChordFor i 54 at id
  FitsOne (Pastes id ∷ []) = IsChordFor i 55 at id
  FitsOne (d ∷ e ∷ ds) = ⊥

  -- the window that it names is there
  fits-there : (id : RowId) (input : GIn) → IsNamed id input → is_some (row_at id at.rows) ≡ true
      → (window : ℕ) → window_of input ≡ Some window → is_some (row_at (row_of id.guest window) at.rows) ≡ true
  fits-there id input named here window e = ap (λ w. is_some (row_at (row_of id.guest w) at.rows)) (sym (named window e)) ∙ here

  -- two lists, one behind the other
  fits-append : (ds es : List Delivery) → FitsGrants ds → FitsGrants es → FitsGrants (ds ++ es)
  fits-append [] es one two = two
  fits-append (Grants id input ∷ ds) es one two = (one.0, one.1, one.2, fits-append ds es one.3 two)
  fits-append (Asks id ∷ ds) es one two = absurd one
  fits-append (Pastes id ∷ ds) es one two = absurd one

  -- the inputs of such a list, from any scene with the same rows; it pastes nothing, whichever pairs are denied
  given-grants : (pairs : List Pair) (ds : List Delivery) (scene : Scene) → HaveSameIds at.rows scene.rows → FitsGrants ds
      → AllGiven (IsGrantedAt denied i at) (deliver_all pairs ds scene).inputs
  given-grants pairs [] scene same fits = given-none (IsGrantedAt denied i at)
  given-grants pairs (Grants id input ∷ ds) scene same fits =
      given-append (IsGrantedAt denied i at) (grant id input [] scene).inputs (deliver_all pairs ds (grant id input [] scene).scene).inputs
      (given-grant (IsGrantedAt denied i at) id input [] scene
      (λ here. record { there = fits-there id input fits.2 (sym (same id) ∙ here); carried = fits.0; beside = fits.1 }))
      (given-grants pairs ds (grant id input [] scene).scene (λ other. ids-grant id input [] scene other ∙ same other) fits.3)
  given-grants pairs (Asks id ∷ ds) scene same fits = absurd fits
  given-grants pairs (Pastes id ∷ ds) scene same fits = absurd fits

  -- the question for the clipboard
  given-asks : (id : RowId) (scene : Scene) → scene.rows ≡ at.rows → IsChordFor i 54 at id
      → AllGiven (IsGrantedAt denied i at) (asks id scene).inputs
  given-asks id scene rows fits =
      given-grant (IsGrantedAt denied i at) id (g.ClipAsk id.window) [] (with_clip (ask id.guest scene.clip) scene)
      (λ here. record {
        there = fits-there id (g.ClipAsk id.window) (λ window e. cc) (ap (λ rs. is_some (row_at id rs)) (sym rows) ∙ here);
        carried = fits;
        beside = refl;
      })

  -- what is held is pasted, if anything is and its pair isn't denied
  given-pastes : (id : RowId) (content : Option Content) (scene : Scene) → at.clip.content ≡ content → scene.rows ≡ at.rows → IsChordFor i 55 at id
      → AllGiven (IsGrantedAt denied i at) (pastes denied id content scene).inputs
  given-pastes id None scene held rows fits = given-none (IsGrantedAt denied i at)
  given-pastes id (Some content) scene held rows fits = by_pair (denies denied content.source id.guest) refl
    where
      by_pair : (b : Bool) → denies denied content.source id.guest ≡ b → AllGiven (IsGrantedAt denied i at)
          (if b then unchanged scene else grant id (g.ClipGive id.window) content.bytes (with_clip (wiped scene.clip) scene)).inputs
      by_pair true e = given-none (IsGrantedAt denied i at)
      by_pair false e =
          given-grant (IsGrantedAt denied i at) id (g.ClipGive id.window) content.bytes (with_clip (wiped scene.clip) scene)
          (λ here. record {
            there = fits-there id (g.ClipGive id.window) (λ window e. cc) (ap (λ rs. is_some (row_at id rs)) (sym rows) ∙ here);
            carried = fits;
            beside = (content, held, refl, e);
          })

  -- what an outcome grants with one delivery or none
  pub given-one : (r : InputOutcome) → FitsOne r.deliveries → AllGiven (IsGrantedAt denied i at) (perform denied r at).inputs
  given-one r fits = by_list r.deliveries fits
    where
      after : Scene
      after = scene_of_input r at

      nothing : AllGiven (IsGrantedAt denied i at) []
      nothing = given-none (IsGrantedAt denied i at)

      by_list : (ds : List Delivery) → FitsOne ds → AllGiven (IsGrantedAt denied i at) (deliver_all denied ds after).inputs
      by_list [] fits = nothing
      by_list (Grants id input ∷ []) fits =
          given-append (IsGrantedAt denied i at) (grant id input [] after).inputs []
          (given-grant (IsGrantedAt denied i at) id input [] after
          (λ here. record { there = fits-there id input fits.2 here; carried = fits.0; beside = fits.1 })) nothing
      by_list (Asks id ∷ []) fits =
          given-append (IsGrantedAt denied i at) (asks id after).inputs [] (given-asks id after refl fits) nothing
      by_list (Pastes id ∷ []) fits =
          given-append (IsGrantedAt denied i at) (deliver denied (Pastes id) after).inputs [] (given-pastes id after.clip.content after refl refl fits) nothing
      by_list (d ∷ e ∷ ds) fits = absurd fits

  -- ---- settle

  -- FocusIn or FocusOut
  fits-focusing : (gained : Bool) (o : Option RowId) → ((id : RowId) → o ≡ Some id → IsFocusOf gained at id) → FitsGrants (focusing gained o)
  fits-focusing gained None is = tt
  fits-focusing gained (Some id) is = (is id refl, refl, (λ window e. cc), tt)

  -- the keyboard's state
  fits-keymap : (o : Option RowId) → focus_now at ≡ o → FitsGrants (keymap o)
  fits-keymap None is = tt
  fits-keymap (Some id) is = ((id.window, is), refl, (λ window e. cc), tt)

  -- Enter or Leave
  fits-crossing : (enter : Bool) (o : Option RowId) → FitsGrants (crossing enter o (grab_checked at))
  fits-crossing enter None = tt
  fits-crossing enter (Some id) = ((record { x_is = refl; y_is = refl }, refl), refl, (λ window e. cc), tt)

  -- all that settle hands on
  fits-settled : (sizes : Sizes) → FitsGrants (settled sizes (grab_checked at)).deliveries
  fits-settled sizes =
      fits-append (focus_told at.seat.focus (focus_now at)) (hover_told at.seat.hover (hover_now sizes (grab_checked at)) (grab_checked at))
      (of_focus (same_id at.seat.focus (focus_now at))) (of_hover (same_id at.seat.hover (hover_now sizes (grab_checked at))))
    where
      none : FitsGrants []
      none = tt

      of_focus : (b : Bool) → FitsGrants (if b then [] else focusing false at.seat.focus ++ focusing true (focus_now at) ++ keymap (focus_now at))
      of_focus true = none
      of_focus false =
          fits-append (focusing false at.seat.focus ++ focusing true (focus_now at)) (keymap (focus_now at))
          (fits-append (focusing false at.seat.focus) (focusing true (focus_now at)) (fits-focusing false at.seat.focus (λ id e. e)) (fits-focusing true (focus_now at) (λ id e. e)))
          (fits-keymap (focus_now at) refl)

      of_hover : (b : Bool) → FitsGrants (if b then [] else crossing false at.seat.hover (grab_checked at) ++ crossing true (hover_now sizes (grab_checked at)) (grab_checked at))
      of_hover true = none
      of_hover false =
          fits-append (crossing false at.seat.hover (grab_checked at)) (crossing true (hover_now sizes (grab_checked at)) (grab_checked at))
          (fits-crossing false at.seat.hover) (fits-crossing true (hover_now sizes (grab_checked at)))

  -- what settle grants
  pub given-settle : (sizes : Sizes) → AllGiven (IsGrantedAt denied i at) (settle sizes at).inputs
  given-settle sizes =
      given-grants [] (settled sizes (grab_checked at)).deliveries (scene_of_input (settled sizes (grab_checked at)) at) (λ id. refl) (fits-settled sizes)
