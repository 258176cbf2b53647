use Rattle.std.proofs.Common.{◌≡◌, ◌+◌, ◌<◌, ◌≤◌, ℕ, suc, List, [], ◌∷◌, length, drop, get_or, drop-cons, add-one, None, ap, ◌∙◌, sym, refl, arith, subst, pos, ◌-◌, vec_capacity}
use Rattle.std.specs.List.{All}
use Rattle.std.specs.Global.{Vec}
use Rattle.std.proofs.lemmas.List.{get_or_default}
use Rattle.std.proofs.lemmas.List.Elements.{recursion_from_All, All-get_or}
use Rattle.gui_num.specs.declared.Rect.{Rect}
use Rattle.region_clip.specs.RectCuts.{IsNear}
use Rattle.region_clip.specs.Regions.{cut_all, cut_each, most}
use Rattle.region_clip.proofs.RegionLemmas.{cut_each-full, cut_each-step, near-cut_all}
use Rattle.region_clip.proofs.region.cut_out.Goals as goal

-- the next cut is the first of those that are still to come
at_drop : (n : ℕ) (held : List Rect) (i : ℕ) (ps : List Rect) (h : Rect) → i < length held → h ≡ get_or held i h → cut_each n (drop i held) ps ≡ cut_each n (h ∷ drop (i + 1) held) ps
at_drop n held i ps h b e =
    let d : drop i held ≡ h ∷ drop (i + 1) held = rw (add-one, drop-cons held i h b) (ap (λ x. x ∷ drop (suc i) held) (sym e)) in
    ap (λ hs. cut_each n hs ps) d

step_left : (n : ℕ) (held : List Rect) (i : ℕ) (ps qs : List Rect) (h : Rect) → i < length held → h ≡ get_or held i h → n + length ps ≤ 256 → qs ≡ cut_all h ps → cut_each n (drop (i + 1) held) qs ≡ cut_each n (drop i held) ps
step_left n held i ps qs h b e f k = sym (at_drop n held i ps h b e ∙ cut_each-step n h (drop (i + 1) held) ps f ∙ ap (cut_each n (drop (i + 1) held)) (sym k))

full_left : (n : ℕ) (held : List Rect) (i : ℕ) (ps : List Rect) (h : Rect) → i < length held → h ≡ get_or held i h → n + length ps ≤ 256 → most < n + length (cut_all h ps) → cut_each n (drop i held) ps ≡ None
full_left n held i ps h b e f k = at_drop n held i ps h b e ∙ cut_each-step n h (drop (i + 1) held) ps f ∙ cut_each-full n (drop (i + 1) held) (cut_all h ps) k

abbrev nowhere : Rect
nowhere = record { x = pos 0; y = pos 0; w = 0; h = 0 }

too_full : (n : ℕ) {k : ℕ} (l : ℕ) → n ≤ 256 → k ≡ l → 256 - n < k → most < n + l
too_full n l h e f = omega arith

fits_still : (n k l : ℕ) → n ≤ 256 → k ≡ l → l ≤ 256 - n → n + k ≤ 256
fits_still n k l h e f = omega arith

pub returns-then-room-eq0-clause-full : goal.returns-then-room-eq0-clause-full
returns-then-room-eq0-clause-full c = λ _.
    cut_each-full (length c.args.held.now) c.args.held.now (c.args.r ∷ []) (let e : length c.args.held.now ≡ 256 = omega arith in let f : length (c.args.r ∷ []) ≡ 1 = refl in omega arith)

pub returns-then-not-put_cuts-clause-full : goal.returns-then-not-put_cuts-clause-full
returns-then-not-put_cuts-clause-full c = λ _.
    let held = c.args.held.now in
    let i = c.loop-cut.cut-index in
    let h = get_or held i nowhere in
    let b : i < length held = omega arith in
    let e : c.deref.result.now ≡ c.loop-cut.pieces.items = c.deref.ensures.value in
    let f = c.if-not-put_cuts.ensures.full refl in
    sym c.loop-cut.invariant.is
    ∙ full_left (length held) held i c.loop-cut.pieces.items h b (get_or_default held i _ _ b) c.loop-cut.invariant.few
    (too_full (length held) _ c.requires.few (ap (λ ps. length (cut_all h ps)) e) f)

pub loop-cut-preserved : goal.loop-cut-preserved
loop-cut-preserved c =
    let held = c.args.held.now in
    let i = c.loop-cut.cut-index in
    let h = get_or held i nowhere in
    let ps = c.loop-cut.pieces.items in
    let b : i < length held = omega arith in
    let e : c.deref.result.now ≡ ps = c.deref.ensures.value in
    let x = ap (λ (v : Vec Rect). v.items) c.swap.ensures.x_after in
    let new : c.swap.new.x.items ≡ cut_all h ps = x ∙ c.if-not-put_cuts.ensures.cut refl ∙ ap (cut_all h) e in
    record {
      is = step_left (length held) held i ps c.swap.new.x.items h b (get_or_default held i _ _ b) c.loop-cut.invariant.few new ∙ c.loop-cut.invariant.is;
      few = fits_still (length held) _ _ c.requires.few (ap length x) (c.if-not-put_cuts.ensures.few refl);
      near = subst (All IsNear) (sym new) (near-cut_all h ps (All-get_or IsNear held i nowhere b c.requires.held) (recursion_from_All IsNear ps c.loop-cut.invariant.near));
      pieces = subst (λ n. 260 ≤ n) (sym (ap (λ (v : Vec Rect). vec_capacity v) c.swap.ensures.x_after ∙ c.if-not-put_cuts.ensures.capacity ∙ c.clear-in-loop-cut.ensures.capacity)) c.loop-cut.invariant.left;
      left = subst (λ n. 260 ≤ n) (sym (ap (λ (v : Vec Rect). vec_capacity v) c.swap.ensures.y_after)) c.loop-cut.invariant.pieces;
    }
