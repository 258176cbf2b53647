-- The rows of an output, as parts of the rows of the plane.
use Rattle.std.proofs.Common.{◌≡◌, ℕ, ◌+◌, ◌-◌, ◌≤◌, ◌<◌, List, [], ◌∷◌, ◌++◌, length, get_or, take, drop, sym, ◌∙◌, ap, subst, arith}
use Rattle.std.specs.Prelude.{ℤ, pos, negsuc, ◌+ℤ◌, ◌≤ℤ◌}
use Rattle.std.proofs.lemmas.Int.{ints}
use Rattle.std.proofs.lemmas.List.{append-nil, take_more, take-append-drop}
use Rattle.std.proofs.lemmas.List.Concat.{flat_map-append}
use Rattle.std.specs.List.{flat_map}
use Rattle.gui_num.specs.declared.Rect.{Rect}
use Rattle.gui_num.specs.Rects.{nat_of}
use Rattle.desk_laws.specs.Rows.{span}
use Rattle.io_ports.specs.Content.{IsPrefix}
use Rattle.compositor.specs.PictureView.{PictureView, LiesIn}
use Rattle.replay_driver.specs.PictureRecords.{part_of_row, colours_of, output_record, picture_records}
use Rattle.record_format.specs.OutputGrammar.{rgb}
use Rattle.record_format.proofs.SpanLemmas.{span_more, span_within}

-- a side that begins at 0 or behind, and ends before a side of the plane
side_fits : (a : ℤ) (n m : ℕ) → pos 0 ≤ℤ a → (a +ℤ pos n) ≤ℤ pos m → nat_of a + n ≤ m
side_fits (pos a) n m low high = omega (arith, ints, low, high)
side_fits (negsuc a) n m low high = absurd (omega (arith, ints, low))

-- the columns and rows of an output are those of the plane
pub columns_fit : (width height : ℕ) (output : Rect) → LiesIn width height output → nat_of output.x + output.w ≤ width
columns_fit width height output lies = side_fits output.x output.w width lies.left lies.right_edge

pub rows_fit : (width height : ℕ) (output : Rect) → LiesIn width height output → nat_of output.y + output.h ≤ height
rows_fit width height output lies = side_fits output.y output.h height lies.top lies.bottom_edge

-- the bytes of the first rows of an output
abbrev pub bytes_to : PictureView → Rect → ℕ → List ℕ
bytes_to plane output n = flat_map rgb (flat_map (part_of_row plane output) (span (nat_of output.y) n))

-- a row behind those before it
pub rows_more : (plane : PictureView) (output : Rect) (n : ℕ) → bytes_to plane output n ++ flat_map rgb (part_of_row plane output (nat_of output.y + n)) ≡ bytes_to plane output (n + 1)
rows_more plane output n =
    let rows = flat_map (part_of_row plane output) (span (nat_of output.y) n) in
    let last = part_of_row plane output (nat_of output.y + n) in
    sym (flat_map-append rgb rows last)
    ∙ ap (λ (l : List ℕ). flat_map rgb (rows ++ l)) (sym (append-nil last))
    ∙ ap (flat_map rgb) (sym (flat_map-append (part_of_row plane output) (span (nat_of output.y) n) ((nat_of output.y + n) ∷ [])))
    ∙ ap (λ (l : List ℕ). flat_map rgb (flat_map (part_of_row plane output) l)) (sym (span_more (nat_of output.y) n))

-- the rows so far are the first of all
pub rows_within : (plane : PictureView) (output : Rect) (n : ℕ) → n ≤ output.h → IsPrefix (bytes_to plane output n) (flat_map rgb (colours_of plane output))
rows_within plane output n few =
    let top = nat_of output.y in
    let part = part_of_row plane output in
    let more = output.h - n in
    let is : n + more ≡ output.h = omega arith in
    let rest = flat_map part (span (top + n) more) in (
      flat_map rgb rest,
      sym (flat_map-append rgb (flat_map part (span top n)) rest)
          ∙ ap (flat_map rgb) (sym (flat_map-append part (span top n) (span (top + n) more)))
          ∙ ap (λ (l : List ℕ). flat_map rgb (flat_map part l)) (sym (span_within top n more))
          ∙ ap (λ (k : ℕ). flat_map rgb (flat_map part (span top k))) is,
    )

-- all rows
pub rows_all : (plane : PictureView) (output : Rect) (n : ℕ) → n ≡ output.h → bytes_to plane output n ≡ flat_map rgb (colours_of plane output)
rows_all plane output n is = ap (bytes_to plane output) is

-- ---- the outputs

-- an output behind those before it
outputs_more : (plane : PictureView) (outputs : List Rect) (n : ℕ) (other : Rect) → n < length outputs
    → flat_map (output_record plane) (take n outputs) ++ output_record plane (get_or outputs n other) ≡ flat_map (output_record plane) (take (n + 1) outputs)
outputs_more plane outputs n other below =
    let last = get_or outputs n other in
    ap (λ (l : List ℕ). flat_map (output_record plane) (take n outputs) ++ l) (sym (append-nil (output_record plane last)))
    ∙ sym (flat_map-append (output_record plane) (take n outputs) (last ∷ []))
    ∙ ap (flat_map (output_record plane)) (sym (take_more outputs n other below))

-- an output behind those before it is among the first of all
pub outputs_next : (plane : PictureView) (outputs : List Rect) (n : ℕ) (other : Rect) → outputs ≡ plane.outputs → n < length outputs
    → IsPrefix (flat_map (output_record plane) (take n plane.outputs) ++ output_record plane (get_or outputs n other)) (picture_records plane)
outputs_next plane outputs n other is below =
    let each = output_record plane in
    subst (λ (os : List Rect). IsPrefix (flat_map each (take n os) ++ each (get_or outputs n other)) (flat_map each os)) is (
      flat_map each (drop (n + 1) outputs),
      ap (λ (l : List ℕ). l ++ flat_map each (drop (n + 1) outputs)) (outputs_more plane outputs n other below)
          ∙ sym (flat_map-append each (take (n + 1) outputs) (drop (n + 1) outputs)) ∙ ap (flat_map each) (take-append-drop (n + 1) outputs),
    )
