use Rattle.std.proofs.Common.{◌≡◌, ◌<◌, ◌+◌, ℕ, List, ◌++◌, length, take, get_or, arith, ap, ◌∙◌, length-append}
use Rattle.std.proofs.lemmas.List.Folds.{length-flat_map-take}
use Rattle.std.proofs.lemmas.Grind.{common_steps}
use Rattle.gui_num.specs.declared.Rect.{Rect}
use Rattle.region_clip.specs.RectCuts.{cut_by}
use Rattle.region_clip.specs.Regions.{cut_all}
use Rattle.region_clip.proofs.region.put_cuts.Goals as goal

-- what is too much so far is too much in the end
too_many : (cut : Rect) (pieces left new : List Rect) (i room : ℕ) (p : Rect) → i < length pieces → p ≡ get_or pieces i p → left ≡ cut_all cut (take i pieces) → new ≡ left ++ cut_by cut p → room < length new → room < length (cut_all cut pieces)
too_many cut pieces left new i room p b at e f long =
    let m = length-flat_map-take (cut_by cut) pieces i p b in
    let n : length (cut_by cut p) ≡ length (cut_by cut (get_or pieces i p)) = ap (λ x. length (cut_by cut x)) at in
    let k : length new ≡ length left + length (cut_by cut p) = ap length f ∙ length-append left (cut_by cut p) in
    let g : length left ≡ length (cut_all cut (take i pieces)) = ap length e in
    omega arith

same_at : (xs : List Rect) (i : ℕ) (d : Rect) → i < length xs → get_or xs i d ≡ get_or xs i (get_or xs i d)
same_at xs i d h = grind (arith, common_steps)

pub returns-then-len-room-clause-full : goal.returns-then-len-room-clause-full
returns-then-len-room-clause-full c = λ _.
    let b : c.loop-piece.piece-index < length c.args.pieces.now = omega arith in
    too_many c.args.cut c.args.pieces.now c.loop-piece.left.items c.put_cut.new.left.items c.loop-piece.piece-index c.args.room _ b (same_at c.args.pieces.now c.loop-piece.piece-index _ b) c.loop-piece.invariant.items c.put_cut.ensures.items (omega arith)
