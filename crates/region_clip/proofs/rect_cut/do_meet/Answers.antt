use Rattle.std.proofs.Common.{◌≡◌, ◌∙◌, Bool, true, false, ℤ, arith, ap, sym, to_z, of_z, w32}
use Rattle.std.specs.Prelude.{int_lt, ◌&&◌}
use Rattle.std.specs.Int.{int_max, int_min}
use Rattle.std.proofs.lemmas.Int.{ints, clamps}
use Rattle.gui_num.specs.Rects.{right, bottom}
use Rattle.region_clip.proofs.rect_cut.do_meet.Goals as goal

abbrev z : ℤ → ℤ
z n = to_z w32 (of_z w32 n)

-- a side's test, where the numbers are those of the definition
same : (p q s t : ℤ) → p ≡ s → q ≡ t → int_lt p q ≡ int_lt s t
same p q s t e f = cc

both : (a b c : Bool) → a ≡ true → b ≡ c → b ≡ (a && c)
both a b c e f = f ∙ ap (λ v. v && c) (sym e)

neither : (a b c : Bool) → a ≡ b → a ≡ false → a ≡ (b && c)
neither a b c e f = f ∙ sym (ap (λ v. v && c) (sym e ∙ f))

pub returns-then-max-min : goal.returns-then-max-min
returns-then-max-min c =
    let a = c.args.a in
    let b = c.args.b in
    both (int_lt (int_max a.x b.x) (int_min (right a) (right b))) _ _
    (sym (same (z c.max.result) (z c.min.result) (int_max a.x b.x) (int_min (right a) (right b)) (omega (arith, ints, clamps)) (omega (arith, ints, clamps))) ∙ c.if-max-min.true)
    (same (z c.max-then-max-min.result) (z c.min-then-max-min.result) (int_max a.y b.y) (int_min (bottom a) (bottom b)) (omega (arith, ints, clamps)) (omega (arith, ints, clamps)))

pub returns-else-max-min : goal.returns-else-max-min
returns-else-max-min c =
    let a = c.args.a in
    let b = c.args.b in
    neither _ (int_lt (int_max a.x b.x) (int_min (right a) (right b))) _
    (same (z c.max.result) (z c.min.result) (int_max a.x b.x) (int_min (right a) (right b)) (omega (arith, ints, clamps)) (omega (arith, ints, clamps)))
    c.if-max-min.false
