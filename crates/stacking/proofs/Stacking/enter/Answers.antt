use Rattle.std.proofs.Common.{arith, ap, refl, sym, subst, length, ◌<◌, ◌∙◌}
use Rattle.std.specs.Prelude.{vec_capacity}
use Rattle.desk_laws.specs.Layers.{is_in}
use Rattle.stacking.proofs.CountLemmas.{counted-same, counted-swapped, counted-entered}
use Rattle.stacking.proofs.IndexLemmas.{index-same, index-entered, index-entered-normal, key-count, none-focus, out-over}
use Rattle.stacking.specs.Stacked.{Stacked}
use Rattle.stacking.proofs.Stacking.enter.Goals as goal

pub put_key-requires-clause-unknown : goal.put_key-requires-clause-unknown
put_key-requires-clause-unknown c =
    let out = ap (λ v. is_in v.layers.focus c.args.id) c.self.view_is ∙ c.requires.new in
    none-focus _ _ _ _ c.args.id c.self.invariant.0 c.self.invariant.3 out

pub put_key-requires-clause-room : goal.put_key-requires-clause-room
put_key-requires-clause-room c =
    let s = c.self.inside in
    let R : Stacked → Type 0 = λ v. length v.layers.focus < v.rows in
    let room : length s.focus.items < vec_capacity s.focus = subst R (sym c.self.view_is) c.requires.room in
    let count = key-count _ _ _ _ c.self.invariant.0 c.self.invariant.3 in
    omega (arith, room, count, c.self.invariant.4)

pub put_key-requires-clause-rising : goal.put_key-requires-clause-rising
put_key-requires-clause-rising c = c.self.invariant.3.rising

pub invariant_of-self : goal.invariant_of-self
invariant_of-self c =
    let n = c.self.invariant.1 in
    let o = c.self.invariant.2 in
    let out = ap (λ v. is_in v.layers.focus c.args.id) c.self.view_is ∙ c.requires.new in
    let k = c.self.invariant.4 in (
      counted-same _ _ _ _ _ _ refl c.push_reserved.ensures.items c.put_first.ensures.items (counted-entered _ _ _ c.args.id c.self.invariant.0 out),
      omega arith,
      omega arith,
      index-same _ _ _ _ _ refl c.push_reserved.ensures.items
          (index-entered _ _ _ _ _ c.self.invariant.0 c.self.invariant.3 c.put_key.ensures.rising c.args.id c.args.over c.if-over.true c.put_key.ensures.layers),
      omega arith,
      c.self.invariant.5,
    )

pub invariant_of-self-else-over : goal.invariant_of-self-else-over
invariant_of-self-else-over c =
    let n = c.self.invariant.1 in
    let o = c.self.invariant.2 in
    let out = ap (λ v. is_in v.layers.focus c.args.id) c.self.view_is ∙ c.requires.new in (
      counted-same _ _ _ _ _ _ c.push_reserved-else-over.ensures.items refl c.put_first.ensures.items
          (counted-swapped _ _ _ (counted-entered _ _ _ c.args.id (counted-swapped _ _ _ c.self.invariant.0) out)),
      omega arith,
      omega arith,
      index-same _ _ _ _ _ c.push_reserved-else-over.ensures.items refl
          (index-entered-normal _ _ _ _ _ c.self.invariant.0 c.self.invariant.3 c.put_key.ensures.rising c.args.id c.args.over c.if-over.false
          (out-over _ _ _ c.args.id c.self.invariant.0 out) c.put_key.ensures.layers),
      let k = c.self.invariant.4 in omega arith,
      c.self.invariant.5,
    )
