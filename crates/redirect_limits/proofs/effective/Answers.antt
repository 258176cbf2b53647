use Rattle.std.proofs.Common.{◌≡◌, ◌∙◌, sym, ap, arith, ℤ, ℕ, to_z, of_z, w32, refl}
use Rattle.std.proofs.lemmas.Int.{ints}
use Rattle.desk_laws.specs.Override.{moved_inside}
use Rattle.redirect_limits.proofs.LimitLemmas.{granted-rule, moved-lies, lies-near}
use Rattle.redirect_limits.proofs.effective.Goals as goal

-- a side as the code reads it
side-is : (m z z' : ℤ) (size border : ℕ) (a a' : ℤ) (limit : ℕ) → m ≡ moved_inside z' size border a' limit → z' ≡ z → a' ≡ a → to_z w32 (of_z w32 m) ≡ m
    → to_z w32 (of_z w32 m) ≡ moved_inside z size border a limit
side-is m z z' size border a a' limit e here from read =
    read ∙ e ∙ ap (λ v. moved_inside v size border a' limit) here ∙ ap (λ v. moved_inside z size border v limit) from

pub returns-clause-rule : goal.returns-clause-rule
returns-clause-rule c = λ sizes border percent.
    let r = c.args.rect in
    let d = c.args.desk.now in
    let o = d.output in
    let x = side-is _ r.x _ r.w d.border o.x _ o.w c.moved_inside-x.ensures (omega (arith, ints)) (omega (arith, ints)) (omega (arith, ints)) in
    let y = side-is _ r.y _ r.h d.border o.y _ o.h c.moved_inside-y.ensures (omega (arith, ints)) (omega (arith, ints)) (omega (arith, ints)) in
    granted-rule sizes o c.args.asked r c.args.others _ _ (sym (c.if-not-is_granted.ensures.rule sizes border percent))
    (x ∙ ap (λ n. moved_inside r.x r.w n o.x o.w) (sym border))
    (y ∙ ap (λ n. moved_inside r.y r.h n o.y o.h) (sym border))

pub returns-clause-inside : goal.returns-clause-inside
returns-clause-inside c =
    let r = c.args.rect in
    let d = c.args.desk.now in
    let o = d.output in
    let x = side-is _ r.x _ r.w d.border o.x _ o.w c.moved_inside-x.ensures (omega (arith, ints)) (omega (arith, ints)) (omega (arith, ints)) in
    let y = side-is _ r.y _ r.h d.border o.y _ o.h c.moved_inside-y.ensures (omega (arith, ints)) (omega (arith, ints)) (omega (arith, ints)) in
    moved-lies o r d.border _ _ (c.if-not-is_granted.ensures.width refl) (c.if-not-is_granted.ensures.height refl) x y

pub returns-clause-near : goal.returns-clause-near
returns-clause-near c = λ place w h lies.
    let r = c.args.rect in
    let d = c.args.desk.now in
    let o = d.output in
    let x = side-is _ r.x _ r.w d.border o.x _ o.w c.moved_inside-x.ensures (omega (arith, ints)) (omega (arith, ints)) (omega (arith, ints)) in
    let y = side-is _ r.y _ r.h d.border o.y _ o.h c.moved_inside-y.ensures (omega (arith, ints)) (omega (arith, ints)) (omega (arith, ints)) in
    lies-near o r place d.border _ _ (c.if-not-is_granted.ensures.width refl) (c.if-not-is_granted.ensures.height refl) x y w h lies
