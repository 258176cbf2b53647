use Rattle.std.proofs.Common.{◌≡◌, ◌∙◌, arith, ap, refl, sym, false}
use Rattle.std.proofs.lemmas.Bool.{cond-true, cond-false}
use Rattle.desk_laws.specs.Layers.{is_in}
use Rattle.stacking.proofs.CountLemmas.{room-above, counted-same, counted-swapped, counted-moved}
use Rattle.stacking.proofs.IndexLemmas.{index-same, index-moved, index-moved-normal, some-focus}
use Rattle.stacking.proofs.Stacking.change_layer.Goals as goal

pub take_key-requires-clause-known : goal.take_key-requires-clause-known
take_key-requires-clause-known c =
    some-focus _ _ _ _ c.args.id c.self.invariant.0 c.self.invariant.3
    ∙ ap (λ v. is_in v.layers.focus c.args.id) c.self.view_is ∙ c.requires.there

pub move_row-requires : goal.move_row-requires
move_row-requires c =
    let s = c.self.inside in
    let o = c.self.invariant.2 in
    let here = ap (λ v. is_in v.layers.focus c.args.id) c.self.view_is ∙ c.requires.there in
    let out : is_in s.over.items c.args.id ≡ false =
    ap (λ v. is_in v.layers.over c.args.id) c.self.view_is
    ∙ sym (cond-true c.args.over (is_in c.args.self.now.layers.over c.args.id) (is_in c.args.self.now.layers.normal c.args.id) c.if-over.true) ∙ c.requires.other in
    let room = room-above s.normal.items s.over.items s.focus.items c.args.id c.self.invariant.0 here out in
    omega arith

pub invariant_of-self : goal.invariant_of-self
invariant_of-self c =
    let s = c.self.inside in
    let n = c.self.invariant.1 in
    let o = c.self.invariant.2 in
    let k = c.self.invariant.4 in
    let here = ap (λ v. is_in v.layers.focus c.args.id) c.self.view_is ∙ c.requires.there in
    let out : is_in s.over.items c.args.id ≡ false =
    ap (λ v. is_in v.layers.over c.args.id) c.self.view_is
    ∙ sym (cond-true c.args.over (is_in c.args.self.now.layers.over c.args.id) (is_in c.args.self.now.layers.normal c.args.id) c.if-over.true) ∙ c.requires.other in (
      counted-same _ _ _ _ _ _ c.move_row.ensures.from c.move_row.ensures.to refl (counted-moved _ _ _ c.args.id c.self.invariant.0 here out),
      omega arith,
      omega arith,
      index-same _ _ _ _ _ c.move_row.ensures.from c.move_row.ensures.to
          (index-moved _ _ _ _ _ _ c.args.id c.args.over c.self.invariant.0 c.self.invariant.3 c.take_key.ensures.rising c.put_key.ensures.rising
          c.take_key.ensures.layers c.put_key.ensures.layers c.if-over.true out),
      omega arith,
      c.self.invariant.5,
    )

pub move_row-requires-else-over : goal.move_row-requires-else-over
move_row-requires-else-over c =
    let s = c.self.inside in
    let n = c.self.invariant.1 in
    let here = ap (λ v. is_in v.layers.focus c.args.id) c.self.view_is ∙ c.requires.there in
    let out : is_in s.normal.items c.args.id ≡ false =
    ap (λ v. is_in v.layers.normal c.args.id) c.self.view_is
    ∙ sym (cond-false c.args.over (is_in c.args.self.now.layers.over c.args.id) (is_in c.args.self.now.layers.normal c.args.id) c.if-over.false) ∙ c.requires.other in
    let room = room-above s.over.items s.normal.items s.focus.items c.args.id (counted-swapped _ _ _ c.self.invariant.0) here out in
    omega arith

pub invariant_of-self-else-over : goal.invariant_of-self-else-over
invariant_of-self-else-over c =
    let s = c.self.inside in
    let n = c.self.invariant.1 in
    let o = c.self.invariant.2 in
    let k = c.self.invariant.4 in
    let here = ap (λ v. is_in v.layers.focus c.args.id) c.self.view_is ∙ c.requires.there in
    let out : is_in s.normal.items c.args.id ≡ false =
    ap (λ v. is_in v.layers.normal c.args.id) c.self.view_is
    ∙ sym (cond-false c.args.over (is_in c.args.self.now.layers.over c.args.id) (is_in c.args.self.now.layers.normal c.args.id) c.if-over.false) ∙ c.requires.other in (
      counted-same _ _ _ _ _ _ c.move_row-else-over.ensures.to c.move_row-else-over.ensures.from refl
          (counted-swapped _ _ _ (counted-moved _ _ _ c.args.id (counted-swapped _ _ _ c.self.invariant.0) here out)),
      omega arith,
      omega arith,
      index-same _ _ _ _ _ c.move_row-else-over.ensures.to c.move_row-else-over.ensures.from
          (index-moved-normal _ _ _ _ _ _ c.args.id c.args.over c.self.invariant.0 c.self.invariant.3 c.take_key.ensures.rising c.put_key.ensures.rising
          c.take_key.ensures.layers c.put_key.ensures.layers c.if-over.false out),
      omega arith,
      c.self.invariant.5,
    )
