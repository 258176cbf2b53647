use Rattle.std.proofs.Common.{◌≡◌, arith, ◌∙◌, ℤ, to_z, of_z, w32, sym, subst, Option, MatchOption, IfSome, false, ◌&&◌, ◌<◌}
use Rattle.std.specs.Int.{int_max, int_min}
use Rattle.std.proofs.lemmas.Int.{ints, clamps}
use Rattle.gui_num.specs.declared.Rect.{Rect}
use Rattle.gui_num.specs.declared.Point.{Point}
use Rattle.gui_num.specs.Rects.{between, right, bottom, has}
use Rattle.gui_num.proofs.MeetLemmas.{common-points, between-size}
use Rattle.gui_num.proofs.meet.Goals as goal

four : (a b c d e f g h : ℤ) → a ≡ e → b ≡ f → c ≡ g → d ≡ h → between a b c d ≡ between e f g h
four a b c d e f g h s t u v = cc

abbrev z : ℤ → ℤ
z n = to_z w32 (of_z w32 n)

pub returns : goal.returns
returns c =
    let a = c.args.a in
    let b = c.args.b in
    let is = c.between.ensures
    ∙ four (z c.max.result) (z c.max-2.result) (z c.min.result) (z c.min-2.result) (int_max a.x b.x) (int_max a.y b.y) (int_min (right a) (right b)) (int_min (bottom a) (bottom b))
    (omega (arith, ints, clamps)) (omega (arith, ints, clamps)) (omega (arith, ints, clamps)) (omega (arith, ints, clamps)) in
    let points : Option Rect → Type 0 = λ r. MatchOption r ((p : Point) → (has a p && has b p) ≡ false) (λ s. (p : Point) → has s p ≡ (has a p && has b p)) in
    let size : Option Rect → Type 0 = λ r. IfSome r (λ s. (0 < s.w) × (0 < s.h)) in
    record {
      common = is;
      points = subst points (sym is) (common-points a b);
      size = subst size (sym is) (between-size (int_max a.x b.x) (int_max a.y b.y) (int_min (right a) (right b)) (int_min (bottom a) (bottom b)));
    }
