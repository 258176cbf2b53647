use Rattle.std.proofs.Common.{◌≡◌, ◌∙◌, ◌++◌, ◌∷◌, [], Some, List, ap, arith, subst, refl, false, length}
use Rattle.std.proofs.lemmas.Bool.Decides.{nat_tests}
use Rattle.gui_num.specs.declared.Rect.{Rect}
use Rattle.region_clip.specs.Regions.{is_empty, cut_each}
use Rattle.region_clip.proofs.RegionLemmas.{added-some, added-points}
use Rattle.region_clip.proofs.region.Region.add.Goals as goal

has_some : (r : Rect) → (r.w ≡ 0 → ⊥) → (r.h ≡ 0 → ⊥) → is_empty r ≡ false
has_some r e f = grind (arith, nat_tests)

pub returns-clause-pixels : goal.returns-clause-pixels
returns-clause-pixels c = λ p.
    let old = c.args.self.now in
    let held : c.self.inside.held.items ≡ old = c.self.view_is in
    let r = c.args.r in
    let some : is_empty r ≡ false = has_some r c.if-r-eq0.false c.if-r-eq0-2.false in
    let taken : List Rect → Type 0 = λ rs. cut_each (length rs) rs (r ∷ []) ≡ Some c.cut_out.new.pieces.items in
    let cut : taken old = subst taken (c.deref.ensures.value ∙ held) (c.if-not-cut_out.ensures.cut refl) in
    let new : c.append.new.held.items ≡ old ++ c.cut_out.new.pieces.items = c.append.ensures.items ∙ ap (λ ps. c.self.inside.held.items ++ ps) c.deref-2.ensures.value ∙ ap (λ rs. rs ++ c.cut_out.new.pieces.items) held in
    added-points old c.append.new.held.items r p (added-some old c.cut_out.new.pieces.items c.append.new.held.items r some cut new)
