-- Facts of the panes that a band of rows meets.
use Rattle.std.proofs.Common.{◌≡◌, ℕ, suc, ◌≤◌, ◌<◌, false, List, [], ◌∷◌, ◌++◌, drop, refl, sym, ◌∙◌, ap, arith, cond, Option, Some, None, slice_get, slice_index, ◌+◌, ◌*◌, if◌then◌else◌, not, length, get_or, set, subst, inl, inr, length-set, get_or-set_same, get_or-set_other}
use Rattle.std.specs.Prelude.{◌&&◌, ℤ, pos, ◌+ℤ◌, int_lt}
use Rattle.std.specs.List.{cons_option}
use Rattle.std.proofs.lemmas.Bool.{cases_order}
use Rattle.std.proofs.lemmas.Int.{ints}
use Rattle.std.proofs.lemmas.List.{get_or_default}
use Rattle.gui_num.specs.declared.Point.{Point}
use Rattle.gui_num.specs.Rects.{has, on_side}
use Rattle.region_clip.specs.Spans.{RowOf, in_spans}
use Rattle.compositor.specs.Bands.{numbered, meets_rows, ShowSame, AreAsWide, no_row, spans_at, will_show}
use Rattle.compositor.specs.Composed.{Pane, topmost, composed, pane_colour, at_pixel}
use Rattle.compositor.proofs.DrawLemmas.{no_row as outside_row, more, composed-more}
use Rattle.compositor.proofs.RowLemmas.{row_before}

cons-append : {A : Type 0} (o : Option A) (xs ys : List A) → cons_option o xs ++ ys ≡ cons_option o (xs ++ ys)
cons-append None xs ys = refl
cons-append (Some x) xs ys = refl

-- the number of one pane more
pub one-listed : (panes : List Pane) (ks : List ℕ) (k : ℕ) (pane : Pane) → slice_get panes k ≡ Some pane → drop k panes ≡ pane ∷ drop (suc k) panes
    → numbered panes (ks ++ k ∷ []) ++ drop (suc k) panes ≡ numbered panes ks ++ drop k panes
one-listed panes [] k pane e d = ap (λ o. cons_option o [] ++ drop (suc k) panes) e ∙ sym d
one-listed panes (j ∷ ks) k pane e d =
    cons-append (slice_get panes j) (numbered panes (ks ++ k ∷ [])) (drop (suc k) panes)
    ∙ ap (cons_option (slice_get panes j)) (one-listed panes ks k pane e d)
    ∙ sym (cons-append (slice_get panes j) (numbered panes ks) (drop k panes))

-- a pane that hasn't a pixel may be left out there
left-out : (above : List Pane) (pane : Pane) (below : List Pane) (p : Point) → has pane.view.outer p ≡ false → topmost (above ++ below) p ≡ topmost (above ++ pane ∷ below) p
left-out [] pane below p e = ap (λ b. cond b (Some pane) (topmost below p)) (sym e)
left-out (q ∷ above) pane below p e = ap (λ o. cond (has q.view.outer p) (Some q) o) (left-out above pane below p e)

not-met : (start : ℤ) (size first past y : ℕ) → first ≤ y → y < past → (int_lt start (pos past) && int_lt (pos first) (start +ℤ pos size)) ≡ false → false ≡ on_side start size (pos y)
not-met start size first past y low high e = grind (arith, ints, e, low, high)

-- a pane that meets no row is left out
pub none-listed : (first past k : ℕ) (panes above : List Pane) (pane : Pane) → drop k panes ≡ pane ∷ drop (suc k) panes → meets_rows pane.view.outer first past ≡ false
    → ShowSame first past (above ++ drop k panes) panes → ShowSame first past (above ++ drop (suc k) panes) panes
none-listed first past k panes above pane d e same = λ x y low high.
    left-out above pane (drop (suc k) panes) (at_pixel x y) (outside_row _ _ (not-met pane.view.outer.y pane.view.outer.h first past y low high e))
    ∙ ap (λ ps. topmost (above ++ ps) (at_pixel x y)) (sym d) ∙ same x y low high

pub some-listed : (first past k : ℕ) (panes : List Pane) (ks : List ℕ) (pane : Pane) → slice_get panes k ≡ Some pane → drop k panes ≡ pane ∷ drop (suc k) panes
    → ShowSame first past (numbered panes ks ++ drop k panes) panes → ShowSame first past (numbered panes (ks ++ k ∷ []) ++ drop (suc k) panes) panes
some-listed first past k panes ks pane e d same = λ x y low high.
    ap (λ ps. topmost ps (at_pixel x y)) (one-listed panes ks k pane e d) ∙ same x y low high

-- the first of some numbered panes
pub first-numbered : (panes : List Pane) (k : ℕ) (ks : List ℕ) (pane : Pane) (below : List Pane) → slice_get panes k ≡ Some pane → numbered panes (k ∷ ks) ++ below ≡ pane ∷ (numbered panes ks ++ below)
first-numbered panes k ks pane below e = ap (λ o. cons_option o (numbered panes ks) ++ below) e

-- ---- the rows of a band

pub wide-set : (w i : ℕ) (rows : List RowOf) (r : RowOf) → r.width ≡ w → AreAsWide w rows → AreAsWide w (set rows i r)
wide-set w i rows r e h = λ k d l. elim (cases_order k i) [
  | inl same ↦ (let in_list : i < length rows = omega (arith, l, length-set rows i r) in
      subst (λ n. (get_or (set rows i r) n d).width ≡ w) (sym same) (ap (λ (q : RowOf). q.width) (get_or-set_same rows i r d in_list) ∙ e))
  | inr (inl lt) ↦ (ap (λ (q : RowOf). q.width) (get_or-set_other rows i k r d (λ q. omega (arith, lt, q))) ∙ h k d (omega (arith, l, length-set rows i r)))
  | inr (inr gt) ↦ (ap (λ (q : RowOf). q.width) (get_or-set_other rows i k r d (λ q. omega (arith, gt, q))) ∙ h k d (omega (arith, l, length-set rows i r)))
]

-- what is left of another row stays
pub other-row : (rows : List RowOf) (i j : ℕ) (r : RowOf) → (j ≡ i → ⊥) → spans_at (set rows i r) j ≡ spans_at rows j
other-row rows i j r h = ap (λ (q : RowOf). q.spans) (get_or-set_other rows i j r no_row h)

-- a pane is drawn in a row
pub row_drawn : (background : ℕ) (below : List Pane) (pane : Pane) (top w i x : ℕ) (rows rows' : List RowOf) (pixels pixels' pixels'' : List ℕ) (d new : RowOf)
    → i < length rows
    → in_spans new.spans x ≡ (in_spans (get_or rows i d).spans x && not (has pane.view.outer (at_pixel x (top + i))))
    → slice_index pixels'' (i * w + x) ≡ (if in_spans (get_or rows i d).spans x && has pane.view.outer (at_pixel x (top + i)) then pane_colour pane (at_pixel x (top + i)) else slice_index pixels (i * w + x))
    → spans_at rows i ≡ spans_at rows' i → slice_index pixels (i * w + x) ≡ slice_index pixels' (i * w + x)
    → will_show background below top w (record { rows = set rows i new; pixels = pixels'' }) i x ≡ will_show background (pane ∷ below) top w (record { rows = rows'; pixels = pixels' }) i x
row_drawn background below pane top w i x rows rows' pixels pixels' pixels'' d new l left here spans same =
    let p = at_pixel x (top + i) in
    let all = composed background (pane ∷ below) p in
    let begun : (get_or rows i d).spans ≡ spans_at rows' i = ap (λ (q : RowOf). q.spans) (get_or_default rows i d no_row l) ∙ spans in
    ap (λ (q : RowOf). if in_spans q.spans x then composed background below p else slice_index pixels'' (i * w + x)) (get_or-set_same rows i new no_row l)
    ∙ more (in_spans (get_or rows i d).spans x) (has pane.view.outer p) (in_spans new.spans x) (pane_colour pane p) (composed background below p) (slice_index pixels (i * w + x)) (slice_index pixels'' (i * w + x)) all
    left here (composed-more background pane below x (top + i))
    ∙ ap (λ ss. if in_spans ss x then all else slice_index pixels (i * w + x)) begun
    ∙ ap (λ n. if in_spans (spans_at rows' i) x then all else n) same

-- a row more is drawn
pub down_more : (background : ℕ) (below : List Pane) (pane : Pane) (top w i : ℕ) (rows rows' : List RowOf) (pixels pixels' pixels'' : List ℕ) (new : RowOf)
    → ((m : ℕ) → m < i * w → slice_index pixels'' m ≡ slice_index pixels m)
    → ((x : ℕ) → x < w → will_show background below top w (record { rows = set rows i new; pixels = pixels'' }) i x ≡ will_show background (pane ∷ below) top w (record { rows = rows'; pixels = pixels' }) i x)
    → ((j x : ℕ) → j < i → x < w → will_show background below top w (record { rows = rows; pixels = pixels }) j x ≡ will_show background (pane ∷ below) top w (record { rows = rows'; pixels = pixels' }) j x)
    → (j x : ℕ) → j < i + 1 → x < w → will_show background below top w (record { rows = set rows i new; pixels = pixels'' }) j x ≡ will_show background (pane ∷ below) top w (record { rows = rows'; pixels = pixels' }) j x
down_more background below pane top w i rows rows' pixels pixels' pixels'' new before here above j x h across = elim (cases_order j i) [
  | inl e ↦ subst (λ n. will_show background below top w (record { rows = set rows i new; pixels = pixels'' }) n x ≡ will_show background (pane ∷ below) top w (record { rows = rows'; pixels = pixels' }) n x) (sym e) (here x across)
  | inr (inl lt) ↦ (ap (λ ss. if in_spans ss x then composed background below (at_pixel x (top + j)) else slice_index pixels'' (j * w + x)) (other-row rows i j new (λ e. omega (arith, lt, e)))
      ∙ ap (λ n. if in_spans (spans_at rows j) x then composed background below (at_pixel x (top + j)) else n) (before (j * w + x) (row_before w x j i across lt))
      ∙ above j x lt across)
  | inr (inr gt) ↦ absurd (omega (arith, gt, h))
]
