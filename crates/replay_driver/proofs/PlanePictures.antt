-- The records of a plane's outputs are the pictures that the definitions post.
use Rattle.std.proofs.Common.{◌≡◌, ℕ, zero, suc, ◌+◌, ◌-◌, ◌*◌, ◌≤◌, ◌<◌, Bool, true, false, ◌||◌, List, [], ◌∷◌, ◌++◌, length, map, take, drop, refl, sym, ◌∙◌, ap, ap₂, subst, arith, length-append}
use Rattle.std.specs.Prelude.{ℤ, pos, negsuc, ◌≤ℤ◌, if◌then◌else◌}
use Rattle.std.specs.List.{All, flat_map}
use Rattle.std.proofs.lemmas.Bool.{and_from}
use Rattle.std.proofs.lemmas.Int.{ints}
use Rattle.std.proofs.lemmas.List.{map-append, take-map, drop-map, take_at, drop_at, length-map}
use Rattle.std.proofs.lemmas.List.Elements.{All-nil, All-cons, All-head, All-tail, All-weaker}
use Rattle.std.proofs.Math.Nat.{suc-mul}
use Rattle.std.proofs.Math.Seq.{drop-append-add}
use Rattle.gui_num.specs.declared.Rect.{Rect}
use Rattle.gui_num.specs.declared.Point.{Point}
use Rattle.gui_num.specs.Rects.{has, nat_of, on_side}
use Rattle.desk_laws.specs.declared.setup.Setup.{Setup}
use Rattle.desk_laws.specs.Rows.{Row, span}
use Rattle.desk_laws.specs.Layers.{Layers}
use Rattle.desk_laws.specs.Outputs.{is_in_output}
use Rattle.desk_laws.specs.Picture.{colour_at, picture, pixels, pixels_of}
use Rattle.desk_laws.specs.Steps.{picture_post}
use Rattle.desk_laws.proofs.GridLemmas.{length-span, pixel_at, pixel_row, length-pixel_row}
use Rattle.desk_core.specs.Painting.{colour_in, plane}
use Rattle.compositor.specs.PictureView.{PictureView, LiesIn}
use Rattle.record_format.specs.OutputGrammar.{rgb, picture_head, picture_record, posts_bytes}
use Rattle.replay_driver.specs.PictureRecords.{part_of_row, colours_of, output_record, picture_records}
use Rattle.record_format.proofs.SpanLemmas.{span_within}
use Rattle.replay_driver.proofs.OutputRows.{columns_fit, rows_fit}
use Rattle.replay_driver.proofs.PictureBytes.{picture_is}

-- some places from the middle
span_part : (x n w : ℕ) → x + n ≤ w → take n (drop x (span 0 w)) ≡ span x n
span_part x n w fits =
    let more = w - x - n in
    let is : w ≡ x + (n + more) = omega arith in
    ap (λ (k : ℕ). take n (drop x (span 0 k))) is
    ∙ ap (λ (l : List ℕ). take n (drop x l)) (span_within 0 x (n + more))
    ∙ ap (take n) (drop_at (span 0 x) (span (0 + x) (n + more)) x (length-span 0 x))
    ∙ ap (λ (k : ℕ). take n (span k (n + more))) (let e : 0 + x ≡ x = omega arith in e)
    ∙ ap (take n) (span_within x n more)
    ∙ take_at (span x n) (span (x + n) more) n (length-span x n)

-- a row of the pixels of a plane
row_is : (b w h j : ℕ) → j < h → take w (drop (j * w) (pixels 0 b w h)) ≡ pixel_row (b + j) w
row_is b w zero j below = absurd (omega arith)
row_is b w (suc h) zero below =
    let none : 0 * w ≡ 0 = omega arith in let here : b ≡ b + 0 = omega arith in
    ap (λ (k : ℕ). take w (drop k (pixels 0 b w (suc h)))) none
    ∙ take_at (pixel_row b w) (pixels 0 (suc b) w h) w (length-pixel_row b w)
    ∙ ap (λ (k : ℕ). pixel_row k w) here
row_is b w (suc h) (suc j) below =
    let at : suc j * w ≡ length (pixel_row b w) + j * w = omega (arith, length-pixel_row b w, suc-mul j w) in
    let here : suc b + j ≡ b + suc j = omega arith in
    ap (λ (k : ℕ). take w (drop k (pixels 0 b w (suc h)))) at
    ∙ ap (take w) (drop-append-add (pixel_row b w) (pixels 0 (suc b) w h) (j * w))
    ∙ row_is (suc b) w h j (omega arith)
    ∙ ap (λ (k : ℕ). pixel_row k w) here

-- an output's part of a row of a plane of which each pixel has its colour
part_is : (f : Point → ℕ) (view : PictureView) (output : Rect) (y : ℕ) → view.pixels ≡ map f (pixels 0 0 view.width view.height)
    → nat_of output.x + output.w ≤ view.width → y < view.height → part_of_row view output y ≡ map f (map (pixel_at y) (span (nat_of output.x) output.w))
part_is f view output y shows across down =
    let x = nat_of output.x in
    let w = view.width in
    let part = λ (l : List ℕ). take output.w (drop x l) in
    let ps = pixels 0 0 w view.height in
    let here : 0 + y ≡ y = omega arith in
    ap (λ (l : List ℕ). part (take w (drop (y * w) l))) shows
    ∙ ap (λ (l : List ℕ). part (take w l)) (drop-map f (y * w) ps)
    ∙ ap part (take-map f w (drop (y * w) ps))
    ∙ ap (λ (l : List Point). part (map f l)) (row_is 0 w view.height y down ∙ ap (λ (k : ℕ). pixel_row k w) here)
    ∙ ap (take output.w) (drop-map f x (pixel_row y w))
    ∙ take-map f output.w (drop x (pixel_row y w))
    ∙ ap (λ (l : List Point). map f (take output.w l)) (drop-map (pixel_at y) x (span 0 w))
    ∙ ap (map f) (take-map (pixel_at y) output.w (drop x (span 0 w)))
    ∙ ap (λ (l : List ℕ). map f (map (pixel_at y) l)) (span_part x output.w w across)

-- a place on a side
on_side_is : (a : ℤ) (n k : ℕ) → pos 0 ≤ℤ a → nat_of a ≤ k → k < nat_of a + n → on_side a n (pos k) ≡ true
on_side_is (pos a) n k low from to = grind (arith, ints, from, to)
on_side_is (negsuc a) n k low from to = absurd (omega (arith, ints, low))

-- two colours that are one in an output are one in a row of it
row_agrees : (f g : Point → ℕ) (output : Rect) (y a n : ℕ) → ((p : Point) → has output p ≡ true → f p ≡ g p) → ((k : ℕ) → a ≤ k → k < a + n → has output (pixel_at y k) ≡ true)
    → map f (map (pixel_at y) (span a n)) ≡ map g (map (pixel_at y) (span a n))
row_agrees f g output y a zero same here = refl
row_agrees f g output y a (suc n) same here =
    ap₂ (λ (c : ℕ) (l : List ℕ). c ∷ l) (same (pixel_at y a) (here a (omega arith) (omega arith)))
    (row_agrees f g output y (suc a) n same (λ k from to. here k (omega arith) (omega arith)))

has_is : (width height : ℕ) (output : Rect) (x y : ℕ) → LiesIn width height output → nat_of output.x ≤ x → x < nat_of output.x + output.w → nat_of output.y ≤ y → y < nat_of output.y + output.h
    → has output (pixel_at y x) ≡ true
has_is width height output x y lies left across top down =
    let columns : on_side output.x output.w (pos x) ≡ true = on_side_is output.x output.w x lies.left left across in
    let rows : on_side output.y output.h (pos y) ≡ true = on_side_is output.y output.h y lies.top top down in
    and_from (on_side output.x output.w (pos x)) (on_side output.y output.h (pos y)) columns rows

colours_from : (f g : Point → ℕ) (view : PictureView) (output : Rect) (a n : ℕ) → view.pixels ≡ map f (pixels 0 0 view.width view.height) → LiesIn view.width view.height output
    → ((p : Point) → has output p ≡ true → f p ≡ g p) → nat_of output.y ≤ a → a + n ≤ nat_of output.y + output.h
    → flat_map (part_of_row view output) (span a n) ≡ map g (pixels (nat_of output.x) a output.w n)
colours_from f g view output a zero shows lies same from to = refl
colours_from f g view output a (suc n) shows lies same from to =
    let x = nat_of output.x in
    let row = map (pixel_at a) (span x output.w) in
    let first : part_of_row view output a ≡ map g row =
    part_is f view output a shows (columns_fit view.width view.height output lies) (omega (arith, rows_fit view.width view.height output lies))
    ∙ row_agrees f g output a x output.w same (λ k left across. has_is view.width view.height output k a lies left across from (omega arith)) in
    ap₂ (λ (l m : List ℕ). l ++ m) first (colours_from f g view output (suc a) n shows lies same (omega arith) (omega arith))
    ∙ sym (map-append g row (pixels x (suc a) output.w n))

length-pixels : (x y w h : ℕ) → length (pixels x y w h) ≡ h * w
length-pixels x y w zero = let e : 0 ≡ 0 * w = omega arith in e
length-pixels x y w (suc h) =
    length-append (map (pixel_at y) (span x w)) (pixels x (suc y) w h)
    ∙ omega (arith, length-map (span x w) (pixel_at y), length-span x w, length-pixels x (suc y) w h, suc-mul h w)

-- each pixel of an output is in one of these
abbrev IsWithin : List Rect → Rect → Type 0
IsWithin outputs output = (p : Point) → has output p ≡ true → is_in_output outputs p ≡ true

-- the record of an output is that of its picture
record_is : (setup : Setup) (rows : List Row) (layers : Layers) (view : PictureView) (output : Rect)
    → view.pixels ≡ map (colour_in setup rows layers) (pixels 0 0 view.width view.height) → LiesIn view.width view.height output
    → IsWithin setup.outputs output
    → output_record view output ≡ picture_record output.w output.h (picture setup rows layers output)
record_is setup rows layers view output shows lies within =
    let colours : colours_of view output ≡ picture setup rows layers output =
    colours_from (colour_in setup rows layers) (colour_at setup rows layers) view output (nat_of output.y) output.h shows lies
    (λ p here. ap (λ (b : Bool). if b then colour_at setup rows layers p else 0) (within p here)) (omega arith) (omega arith) in
    let size : length (picture setup rows layers output) ≡ output.w * output.h =
    length-map (pixels_of output) (colour_at setup rows layers) ∙ omega (arith, length-pixels (nat_of output.x) (nat_of output.y) output.w output.h) in
    ap (λ (l : List ℕ). picture_head output.w output.h ++ flat_map rgb l) colours ∙ picture_is output.w output.h (picture setup rows layers output) size

-- each output is in all of them
within_all : (outputs : List Rect) → All (IsWithin outputs) outputs
within_all [] = All-nil (IsWithin [])
within_all (output ∷ outputs) =
    All-cons (IsWithin (output ∷ outputs)) output outputs (λ p here. ap (λ (b : Bool). b || is_in_output outputs p) here)
    (All-weaker (IsWithin outputs) (IsWithin (output ∷ outputs)) (λ other within p here. further (has output p) (is_in_output outputs p) (within p here)) outputs (within_all outputs))
  where
    further : (a b : Bool) → b ≡ true → (a || b) ≡ true
    further true b e = refl
    further false b e = e

records_from : (setup : Setup) (rows : List Row) (layers : Layers) (painted : ℕ) (view : PictureView) (outputs : List Rect)
    → view.pixels ≡ map (colour_in setup rows layers) (pixels 0 0 view.width view.height) → All (LiesIn view.width view.height) outputs
    → All (IsWithin setup.outputs) outputs
    → flat_map (output_record view) outputs ≡ posts_bytes painted (map (picture_post setup rows layers) outputs)
records_from setup rows layers painted view [] shows lie within = refl
records_from setup rows layers painted view (output ∷ outputs) shows lie within =
    ap₂ (λ (l m : List ℕ). l ++ m) (record_is setup rows layers view output shows (All-head (LiesIn view.width view.height) output outputs lie) (All-head (IsWithin setup.outputs) output outputs within))
    (records_from setup rows layers painted view outputs shows (All-tail (LiesIn view.width view.height) output outputs lie) (All-tail (IsWithin setup.outputs) output outputs within))

-- the records of a plane that was drawn are those of the pictures of all outputs
pub records_are : (setup : Setup) (rows : List Row) (layers : Layers) (painted : ℕ) (view : PictureView) → view.width ≡ setup.width → view.height ≡ setup.height → view.outputs ≡ setup.outputs
    → view.pixels ≡ plane setup rows layers → All (LiesIn view.width view.height) view.outputs
    → picture_records view ≡ posts_bytes painted (map (picture_post setup rows layers) setup.outputs)
records_are setup rows layers painted view wide high outputs drawn lie =
    let f = colour_in setup rows layers in
    let shows : view.pixels ≡ map f (pixels 0 0 view.width view.height) =
    drawn ∙ ap (λ (n : ℕ). map f (pixels 0 0 n setup.height)) (sym wide) ∙ ap (λ (n : ℕ). map f (pixels 0 0 view.width n)) (sym high) in
    let within = within_all setup.outputs in
    ap (flat_map (output_record view)) outputs
    ∙ records_from setup rows layers painted view setup.outputs shows (subst (All (LiesIn view.width view.height)) outputs lie) within
