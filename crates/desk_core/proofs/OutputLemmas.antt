-- Outputs in the plane.
use Rattle.std.proofs.Common.{◌≡◌, ℕ, ◌≤◌, Bool, true, false, ◌||◌, List, [], ◌∷◌, arith, refl}
use Rattle.std.specs.List.{All, list_all}
use Rattle.std.proofs.lemmas.Bool.{and_parts}
use Rattle.std.proofs.lemmas.Int.{ints}
use Rattle.std.proofs.lemmas.List.Elements.{All-nil, All-cons, All-head, All-tail, All-weaker}
use Rattle.gui_num.specs.declared.Rect.{Rect}
use Rattle.gui_num.specs.declared.Point.{Point}
use Rattle.gui_num.specs.Rects.{has}
use Rattle.desk_laws.specs.Outputs.{is_in_output}
use Rattle.desk_laws.specs.Rules.{is_output}
use Rattle.compositor.specs.PictureView.{LiesIn}
use Rattle.input_router.specs.SeatView.{IsPixel}

-- an output lies in the plane
pub output-lies : (width height : ℕ) (output : Rect) → is_output width height output ≡ true → LiesIn width height output
output-lies width height output is = record {
  left = grind (arith, ints, is);
  top = grind (arith, ints, is);
  right_edge = grind (arith, ints, is);
  bottom_edge = grind (arith, ints, is);
}

-- so do all of them
pub outputs-lie : (width height : ℕ) (outputs : List Rect) → list_all (is_output width height) outputs ≡ true → All (LiesIn width height) outputs
outputs-lie width height [] is = All-nil (LiesIn width height)
outputs-lie width height (output ∷ outputs) is =
    let parts = and_parts (is_output width height output) (list_all (is_output width height) outputs) is in
    All-cons (LiesIn width height) output outputs (output-lies width height output parts.0) (outputs-lie width height outputs parts.1)

-- what lies in a plane lies in the widest one
pub lies-wide : (width height : ℕ) (outputs : List Rect) → width ≤ 8192 → height ≤ 8192 → All (LiesIn width height) outputs → All (LiesIn 8192 8192) outputs
lies-wide width height outputs wide high all =
    All-weaker (LiesIn width height) (LiesIn 8192 8192) (λ o is. record {
      left = is.left;
      top = is.top;
      right_edge = omega (arith, ints, is.right_edge, wide);
      bottom_edge = omega (arith, ints, is.bottom_edge, high);
    }) outputs all

-- a pixel of a rectangle in the widest plane
pixel-in : (output : Rect) (p : Point) → LiesIn 8192 8192 output → has output p ≡ true → IsPixel p
pixel-in output p is here = record {
  x_low = grind (arith, ints, is, here);
  x_high = grind (arith, ints, is, here);
  y_low = grind (arith, ints, is, here);
  y_high = grind (arith, ints, is, here);
}

-- a pixel in an output is one that a desktop can have
pub output-pixel : (outputs : List Rect) (p : Point) → All (LiesIn 8192 8192) outputs → is_in_output outputs p ≡ true → IsPixel p
output-pixel [] p all here = absurd (cc)
output-pixel (output ∷ outputs) p all here =
    by_first (has output p) refl here (λ further. output-pixel outputs p (All-tail (LiesIn 8192 8192) output outputs all) further)
  where
    by_first : (b : Bool) → has output p ≡ b → (b || is_in_output outputs p) ≡ true → (is_in_output outputs p ≡ true → IsPixel p) → IsPixel p
    by_first true e h further = pixel-in output p (All-head (LiesIn 8192 8192) output outputs all) e
    by_first false e h further = further h
