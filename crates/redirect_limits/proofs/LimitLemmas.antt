-- How a side is moved into an output.
use Rattle.std.proofs.Common.{◌≡◌, ℕ, ◌+◌, ◌*◌, ◌≤◌, ℤ, pos, negsuc, ◌+ℤ◌, ◌-ℤ◌, ◌≤ℤ◌, Bool, true, Some, int_le, sym, ◌∙◌, ap, arith}
use Rattle.std.specs.Prelude.{unsigned_abs, ◌&&◌}
use Rattle.std.proofs.lemmas.Int.{ints, clamps, by_lt_z}
use Rattle.std.proofs.lemmas.Bool.{and_parts, cond-true}
use Rattle.gui_num.specs.declared.Rect.{Rect}
use Rattle.gui_num.specs.Rects.{grown, right, bottom}
use Rattle.desk_laws.specs.Sizes.{Sizes}
use Rattle.desk_laws.specs.Outputs.{lies_in}
use Rattle.desk_laws.specs.Override.{Placement, is_granted, moved_inside, placed_in}
use Rattle.redirect_limits.specs.Limits.{distance}

-- a granted window with its corner at (x, y)
abbrev pub at : Rect → ℤ → ℤ → Placement
at rect x y = record { rect = record { x = x; y = y; w = rect.w; h = rect.h }; over = true }

-- the rule where the request is granted
pub granted-rule : (sizes : Sizes) (output : Rect) (asked : Bool) (rect : Rect) (others : ℕ) (x y : ℤ) → is_granted sizes output asked rect others ≡ true
    → x ≡ moved_inside rect.x rect.w sizes.border output.x output.w → y ≡ moved_inside rect.y rect.h sizes.border output.y output.h
    → at rect x y ≡ placed_in sizes (Some output) asked rect others
granted-rule sizes output asked rect others x y granted ex ey =
    both x y _ _ ex ey ∙ sym (cond-true (is_granted sizes output asked rect others) _ _ granted)
  where
    both : (x y x' y' : ℤ) → x ≡ x' → y ≡ y' → at rect x y ≡ at rect x' y'
    both x y x' y' s t = cc

pub moved-low : (z : ℤ) (size border : ℕ) (a : ℤ) (limit : ℕ) → (a +ℤ pos border) ≤ℤ moved_inside z size border a limit
moved-low z size border a limit = omega (arith, ints, clamps)

pub moved-high : (z : ℤ) (size border : ℕ) (a : ℤ) (limit : ℕ) → size + 2 * border ≤ limit → (moved_inside z size border a limit +ℤ pos (size + border)) ≤ℤ (a +ℤ pos limit)
moved-high z size border a limit fits = omega (arith, ints, clamps)

-- a rectangle lies in an output by its four edges
pub record LiesIn (output r : Rect) : Type 0 where
  pub left_edge : output.x ≤ℤ r.x
  pub top_edge : output.y ≤ℤ r.y
  pub right_edge : right r ≤ℤ right output
  pub bottom_edge : bottom r ≤ℤ bottom output

le-true : (a b : ℤ) → a ≤ℤ b → int_le a b ≡ true
le-true a b less = grind (arith, ints)

true-le : (a b : ℤ) → int_le a b ≡ true → a ≤ℤ b
true-le a b is = grind (arith, ints)

all-four : (a b c d : Bool) → a ≡ true → b ≡ true → c ≡ true → d ≡ true → ((a && b) && (c && d)) ≡ true
all-four a b c d ea eb ec ed = cc

lies-true : (output r : Rect) → LiesIn output r → lies_in output r ≡ true
lies-true output r lies =
    all-four _ _ _ _
    (le-true output.x r.x lies.left_edge) (le-true output.y r.y lies.top_edge)
    (le-true (right r) (right output) lies.right_edge) (le-true (bottom r) (bottom output) lies.bottom_edge)

true-lies : (output r : Rect) → lies_in output r ≡ true → LiesIn output r
true-lies output r is =
    let edges = and_parts _ _ is in
    let first = and_parts _ _ edges.0 in
    let last = and_parts _ _ edges.1 in
    record {
      left_edge = true-le output.x r.x first.0;
      top_edge = true-le output.y r.y first.1;
      right_edge = true-le (right r) (right output) last.0;
      bottom_edge = true-le (bottom r) (bottom output) last.1;
    }

-- the moved window lies in the output
pub moved-lies : (output rect : Rect) (border : ℕ) (x y : ℤ) → rect.w + 2 * border ≤ output.w → rect.h + 2 * border ≤ output.h
    → x ≡ moved_inside rect.x rect.w border output.x output.w → y ≡ moved_inside rect.y rect.h border output.y output.h
    → lies_in output (grown (record { x = x; y = y; w = rect.w; h = rect.h }) border) ≡ true
moved-lies output rect border x y wide high ex ey =
    let x_low = moved-low rect.x rect.w border output.x output.w in
    let y_low = moved-low rect.y rect.h border output.y output.h in
    let x_high = moved-high rect.x rect.w border output.x output.w wide in
    let y_high = moved-high rect.y rect.h border output.y output.h high in
    lies-true output (grown (record { x = x; y = y; w = rect.w; h = rect.h }) border) (record {
      left_edge = omega (arith, ints);
      top_edge = omega (arith, ints);
      right_edge = omega (arith, ints);
      bottom_edge = omega (arith, ints);
    })

-- between 0 and a number there is no greater magnitude
abs-above : (d e : ℤ) → pos 0 ≤ℤ d → d ≤ℤ e → unsigned_abs d ≤ unsigned_abs e
abs-above (pos m) (pos n) low high = omega (arith, ints)
abs-above (pos m) (negsuc n) low high = absurd (omega (arith, ints))
abs-above (negsuc m) e low high = absurd (omega (arith, ints))

abs-below : (d e : ℤ) → d ≤ℤ pos 0 → e ≤ℤ d → unsigned_abs d ≤ unsigned_abs e
abs-below (negsuc m) (negsuc n) high low = omega (arith, ints)
abs-below (negsuc m) (pos n) high low = absurd (omega (arith, ints))
abs-below (pos m) (pos n) high low = omega (arith, ints)
abs-below (pos m) (negsuc n) high low = omega (arith, ints)

abs-none : (d : ℤ) (n : ℕ) → d ≤ℤ pos 0 → pos 0 ≤ℤ d → unsigned_abs d ≤ n
abs-none (pos m) n high low = omega (arith, ints)
abs-none (negsuc m) n high low = absurd (omega (arith, ints))

-- the moved side is no further away than any other that lies in the output
pub moved-near : (z q : ℤ) (size border : ℕ) (a : ℤ) (limit : ℕ) → size + 2 * border ≤ limit → (a +ℤ pos border) ≤ℤ q → (q +ℤ pos (size + border)) ≤ℤ (a +ℤ pos limit)
    → distance z (moved_inside z size border a limit) ≤ distance z q
moved-near z q size border a limit fits low high =
    let m = moved_inside z size border a limit in
    let P : Type 0 = distance z m ≤ distance z q in
    by_lt_z {P = P} z m
    (λ up. abs-above (m -ℤ z) (q -ℤ z) (omega (arith, ints)) (omega (arith, ints, clamps)))
    (λ least. by_lt_z {P = P} m z
    (λ down. abs-below (m -ℤ z) (q -ℤ z) (omega (arith, ints)) (omega (arith, ints, clamps)))
    (λ most. abs-none (m -ℤ z) (unsigned_abs (q -ℤ z)) (omega (arith, ints)) (omega (arith, ints))))

pub lies-near : (output rect place : Rect) (border : ℕ) (x y : ℤ) → rect.w + 2 * border ≤ output.w → rect.h + 2 * border ≤ output.h
    → x ≡ moved_inside rect.x rect.w border output.x output.w → y ≡ moved_inside rect.y rect.h border output.y output.h
    → place.w ≡ rect.w → place.h ≡ rect.h → lies_in output (grown place border) ≡ true
    → (distance rect.x x ≤ distance rect.x place.x) × (distance rect.y y ≤ distance rect.y place.y)
lies-near output rect place border x y wide high ex ey w h is =
    let lies = true-lies output (grown place border) is in
    let l = lies.left_edge in
    let t = lies.top_edge in
    let r = lies.right_edge in
    let b = lies.bottom_edge in
    let nx = moved-near rect.x place.x rect.w border output.x output.w wide (omega (arith, ints)) (omega (arith, ints)) in
    let ny = moved-near rect.y place.y rect.h border output.y output.h high (omega (arith, ints)) (omega (arith, ints)) in
    let dx = ap (distance rect.x) ex in
    let dy = ap (distance rect.y) ey in
    (omega (arith, nx, dx), omega (arith, ny, dy))
