-- A place moved on the desktop stays in the range of places.
use Rattle.std.proofs.Common.{◌≡◌, ℤ, pos, negsuc, ◌≤ℤ◌, List, [], ◌∷◌, Option, Some, ◌∙◌, ap, subst, arith}
use Rattle.std.proofs.lemmas.Int.{ints}
use Rattle.gui_num.specs.declared.Rect.{Rect}
use Rattle.desk_laws.specs.declared.row_id.RowId.{RowId}
use Rattle.desk_laws.specs.declared.input.GIn.TheVariants.{Place}
use Rattle.desk_laws.specs.Events.{move_to}
use Rattle.desk_laws.specs.Ranges.{IsPlace, place_in_range}
use Rattle.desk_laws.specs.Scene.{Delivery, Grants}
use Rattle.input_router.specs.Commanded.{placing}
use Rattle.input_router.specs.Deliveries.{Leads}

low-in : (z : ℤ) → negsuc 32767 ≤ℤ place_in_range z
low-in z = grind (arith, ints)

high-in : (z : ℤ) → place_in_range z ≤ℤ pos 32767
high-in z = grind (arith, ints)

pub moved-place : (x y : ℤ) (place : Rect) → IsPlace place → IsPlace (move_to x y place)
moved-place x y place is = record {
  x_low = low-in x;
  x_high = high-in x;
  y_low = low-in y;
  y_high = high-in y;
  w_low = is.w_low;
  w_high = is.w_high;
  h_low = is.h_low;
  h_high = is.h_high;
}

-- another place was granted to the row that was found
pub place-told : {V : Type 0} (delivers : V → Delivery → V → Type 0) (a b : V) (f : Rect → Rect) (id : RowId) (place rect : Rect) (found : Option (RowId × Rect)) → rect ≡ f place → Some (id, place) ≡ found
    → Leads delivers a (Grants id (Place id.window rect) ∷ []) b → Leads delivers a (placing f found) b
place-told delivers a b f id place rect found is at told =
    let granted : Rect → List Delivery = λ r. Grants id (Place id.window r) ∷ [] in
    let e : granted rect ≡ placing f found = ap granted is ∙ ap (placing f) at in
    subst (λ (ds : List Delivery). Leads delivers a ds b) e told
