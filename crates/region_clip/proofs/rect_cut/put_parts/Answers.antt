use Rattle.std.proofs.Common.{◌≡◌, ◌∙◌, ◌++◌, List, ℤ, arith, ap, append_assoc, to_z, of_z, w32}
use Rattle.std.specs.Int.{int_max, int_min}
use Rattle.std.proofs.lemmas.Int.{ints, clamps}
use Rattle.gui_num.specs.declared.Rect.{Rect}
use Rattle.gui_num.specs.Rects.{right, bottom}
use Rattle.region_clip.specs.RectCuts.{part, above, below, left_of, right_of}
use Rattle.region_clip.proofs.rect_cut.put_parts.Goals as goal

abbrev z : ℤ → ℤ
z n = to_z w32 (of_z w32 n)

-- the same part, where the corners are those of the definition
same : (a b c d e f g h : ℤ) → a ≡ e → b ≡ f → c ≡ g → d ≡ h → part a b c d ≡ part e f g h
same a b c d e f g h s t u v = cc

-- four parts, one behind the other
joined : (old a b c d p q r s : List Rect) → a ≡ old ++ p → b ≡ a ++ q → c ≡ b ++ r → d ≡ c ++ s → d ≡ old ++ (p ++ (q ++ (r ++ s)))
joined old a b c d p q r s e f g h = let m : d ≡ (((old ++ p) ++ q) ++ r) ++ s = cc in m ∙ simp append_assoc

pub returns-clause-items : goal.returns-clause-items
returns-clause-items c =
    let p = c.args.piece in
    let k = c.args.cut in
    let old = c.args.left.now.items in
    let top : c.max-top.result ≡ int_max p.y k.y = omega (arith, ints, clamps) in
    let low : c.min-low.result ≡ int_min (bottom p) (bottom k) = omega (arith, ints, clamps) in
    joined old c.put_part.new.left.items c.put_part-2.new.left.items c.put_part-3.new.left.items c.put_part-4.new.left.items (above k p) (below k p) (left_of k p) (right_of k p)
    (c.put_part.ensures.items ∙ ap (λ ps. old ++ ps) (same (z p.x) (z p.y) (z c.right.result) (z k.y) p.x p.y (right p) k.y (omega (arith, ints)) (omega (arith, ints)) (omega (arith, ints)) (omega (arith, ints))))
    (c.put_part-2.ensures.items ∙ ap (λ ps. c.put_part.new.left.items ++ ps) (same (z p.x) (z c.bottom-3.result) (z c.right-2.result) (z c.bottom-4.result) p.x (bottom k) (right p) (bottom p) (omega (arith, ints)) (omega (arith, ints)) (omega (arith, ints)) (omega (arith, ints))))
    (c.put_part-3.ensures.items ∙ ap (λ ps. c.put_part-2.new.left.items ++ ps) (same (z p.x) (z c.max-top.result) (z k.x) (z c.min-low.result) p.x (int_max p.y k.y) k.x (int_min (bottom p) (bottom k)) (omega (arith, ints)) (omega (arith, ints, top)) (omega (arith, ints)) (omega (arith, ints, low))))
    (c.put_part-4.ensures.items ∙ ap (λ ps. c.put_part-3.new.left.items ++ ps) (same (z c.right-3.result) (z c.max-top.result) (z c.right-4.result) (z c.min-low.result) (right k) (int_max p.y k.y) (right p) (int_min (bottom p) (bottom k)) (omega (arith, ints)) (omega (arith, ints, top)) (omega (arith, ints)) (omega (arith, ints, low))))
