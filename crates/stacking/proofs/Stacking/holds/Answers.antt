use Rattle.std.proofs.Common.{◌≡◌, ap, is_some, length, subst, sym, ◌∙◌}
use Rattle.desk_laws.specs.Layers.{departed, is_in}
use Rattle.stacking.specs.Stacked.{Stacked}
use Rattle.stacking.specs.Keys.{RiseFrom, first_id, layer_in}
use Rattle.stacking.proofs.IndexLemmas.{departed-none, some-focus}
use Rattle.stacking.proofs.Stacking.holds.Goals as goal

pub layer_in-requires-clause-rising : goal.layer_in-requires-clause-rising
layer_in-requires-clause-rising c = subst (RiseFrom first_id) (sym c.deref.ensures.value) c.self.invariant.3.rising

pub layer_in-requires-clause-notes : goal.layer_in-requires-clause-notes
layer_in-requires-clause-notes c = ap length c.deref-2.ensures.value ∙ c.self.invariant.5

pub returns-clause-is : goal.returns-clause-is
returns-clause-is c =
    c.is_some.ensures
    ∙ ap is_some (c.layer_in.ensures ∙ ap (layer_in c.args.id) c.deref.ensures.value)
    ∙ some-focus _ _ _ _ c.args.id c.self.invariant.0 c.self.invariant.3
    ∙ ap (λ v. is_in v.layers.focus c.args.id) c.self.view_is

pub returns-clause-none : goal.returns-clause-none
returns-clause-none c = λ none.
    let s = c.self.inside in
    let out =
    sym (some-focus _ _ _ _ c.args.id c.self.invariant.0 c.self.invariant.3)
    ∙ ap is_some (sym (c.layer_in.ensures ∙ ap (layer_in c.args.id) c.deref.ensures.value))
    ∙ sym c.is_some.ensures
    ∙ none in
    let P : Stacked → Type 0 = λ v. departed c.args.id v.layers ≡ v.layers in
    subst P c.self.view_is
    (departed-none (record { normal = s.normal.items; over = s.over.items; focus = s.focus.items }) c.args.id c.self.invariant.0 out)
