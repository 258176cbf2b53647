use Rattle.std.proofs.Common.{ap, length, subst, sym, Some, ◌∙◌}
use Rattle.std.specs.Prelude.{if◌then◌else◌}
use Rattle.std.specs.Option.{option_eq}
use Rattle.std.specs.Bool.{beq}
use Rattle.desk_laws.specs.Layers.{is_in}
use Rattle.stacking.proofs.IndexLemmas.{is-layer, only-one}
use Rattle.stacking.specs.Keys.{RiseFrom, first_id, layer_in}
use Rattle.stacking.proofs.Stacking.is_in_layer.Goals as goal

pub layer_in-requires-clause-rising : goal.layer_in-requires-clause-rising
layer_in-requires-clause-rising c = subst (RiseFrom first_id) (sym c.deref.ensures.value) c.self.invariant.3.rising

pub layer_in-requires-clause-notes : goal.layer_in-requires-clause-notes
layer_in-requires-clause-notes c = ap length c.deref-2.ensures.value ∙ c.self.invariant.5

pub returns : goal.returns
returns c =
    let s = c.self.inside in
    c.eq.ensures
    ∙ ap (λ o. option_eq beq o (Some c.args.over))
    (c.layer_in.ensures ∙ ap (layer_in c.args.id) c.deref.ensures.value ∙ c.self.invariant.3.layers c.args.id)
    ∙ is-layer c.args.over (is_in s.over.items c.args.id) (is_in s.normal.items c.args.id)
    (only-one s.normal.items s.over.items s.focus.items c.args.id c.self.invariant.0)
    ∙ ap (λ v. if c.args.over then is_in v.layers.over c.args.id else is_in v.layers.normal c.args.id) c.self.view_is
