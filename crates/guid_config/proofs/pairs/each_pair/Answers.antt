use Rattle.std.proofs.Common.{◌≡◌, ◌+◌, ◌<◌, length, drop, get_or, Some, option_map, sym, ap, ◌∙◌, arith, refl}
use Rattle.toml.specs.View.{view, items_view}
use Rattle.guid_config.specs.Pairs.{put_in, all_put_in}
use Rattle.guid_config.specs.Shape.{pair_of, each}
use Rattle.guid_config.proofs.ItemLemmas.{item_read}
use Rattle.guid_config.proofs.pairs.each_pair.Goals as goal

pub loop-item-preserved : goal.loop-item-preserved
loop-item-preserved c =
    let items = c.args.items.now.items in
    let read = pair_of c.args.guests.now in
    let within : c.loop-item.item-index < length items = omega (arith, ap length c.deref-item-items.ensures.value) in
    let is : c.item-item.result ≡ get_or items c.loop-item.item-index c.item-item.result =
    c.item-item.is ∙ ap (λ l. get_or l c.loop-item.item-index c.item-item.result) c.deref-item-items.ensures.value in
    let found : read (view (get_or items c.loop-item.item-index c.item-item.result)) ≡ Some c.in-Some.pair = ap (λ v. read (view v)) (sym is) ∙ sym c.in-Some.ensures in
    c.loop-item.invariant
    ∙ item_read read items c.loop-item.item-index c.item-item.result c.in-Some.pair (all_put_in c.loop-item.pairs.items) (all_put_in (put_in c.in-Some.pair c.loop-item.pairs.items)) within found (λ xs. refl)
    ∙ ap (λ l. option_map (all_put_in l) (each read (items_view (drop (c.loop-item.item-index + 1) items)))) (sym c.in_ok-put_in-in-Some.ensures)
