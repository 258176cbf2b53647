use Rattle.std.proofs.Common.{◌≤◌, ◌∙◌, ◌++◌, [], List, length, take, ap, sym, subst, arith, length-append}
use Rattle.std.specs.List.{cons_option}
use Rattle.std.specs.Prelude.{filter_map, reverse}
use Rattle.std.proofs.lemmas.List.{length-reverse}
use Rattle.desk_core.specs.Panes.{shown_with}
use Rattle.desk_core.specs.ShownView.{ShownView}
use Rattle.desk_core.proofs.PaneLemmas.{few-shown, one-more}
use Rattle.desk_core.proofs.panes.show_stack.Goals as goal

pub put-requires : goal.put-requires
put-requires c =
    let f = shown_with c.args.border c.args.labels.now c.args.sessions.now in
    let tops = reverse (c.args.stack.now.layers.normal ++ c.args.stack.now.layers.over) in
    let few : length c.loop-k.shown.items ≤ c.loop-k.k =
    subst (λ (vs : List ShownView). length vs ≤ c.loop-k.k) (sym c.loop-k.invariant.items) (few-shown f tops c.loop-k.k) in
    omega (arith, few, c.loop-k.shown.ok.0, c.loop-k.invariant.capacity, c.clear.ensures.capacity, c.len-k-end.ensures.room, c.len-k-end.ensures.is, c.requires.room)

pub loop-k-preserved : goal.loop-k-preserved
loop-k-preserved c =
    let layers = c.args.stack.now.layers in
    let f = shown_with c.args.border c.args.labels.now c.args.sessions.now in
    let ids = layers.normal ++ layers.over in
    record {
      items =
          c.put.ensures.items
          ∙ ap (λ (vs : List ShownView). vs ++ cons_option c.shown_below.result []) c.loop-k.invariant.items
          ∙ ap (λ o. filter_map f (take c.loop-k.k (reverse ids)) ++ cons_option o []) c.shown_below.ensures
          ∙ sym (one-more f (reverse ids) c.loop-k.k
          (omega (arith, length-reverse ids, length-append layers.normal layers.over, c.len-k-end.ensures.once.counted, c.len-k-end.ensures.is)));
      capacity = c.put.ensures.capacity ∙ c.loop-k.invariant.capacity;
    }
