use Rattle.std.proofs.Common.{◌≡◌, ◌+◌, ◌<◌, ◌++◌, [], ◌∷◌, length, drop, get_or, Some, option_map, sym, ap, ◌∙◌, arith}
use Rattle.toml.specs.View.{view, items_view}
use Rattle.guid_config.specs.Shape.{guest_of, each}
use Rattle.guid_config.proofs.ItemLemmas.{item_read, goes_behind}
use Rattle.guid_config.proofs.guests.each_guest.Goals as goal

pub loop-item-preserved : goal.loop-item-preserved
loop-item-preserved c =
    let items = c.args.items.now.items in
    let done = c.loop-item.guests in
    let guest = c.in-Some.guest in
    let within : c.loop-item.item-index < length items = omega (arith, ap length c.deref-item-items.ensures.value) in
    let is : c.item-item.result ≡ get_or items c.loop-item.item-index c.item-item.result =
    c.item-item.is ∙ ap (λ l. get_or l c.loop-item.item-index c.item-item.result) c.deref-item-items.ensures.value in
    let found : guest_of (view (get_or items c.loop-item.item-index c.item-item.result)) ≡ Some guest = ap (λ v. guest_of (view v)) (sym is) ∙ sym c.in-Some.ensures in
    c.loop-item.invariant
    ∙ item_read guest_of items c.loop-item.item-index c.item-item.result guest (λ xs. done ++ xs) (λ xs. (done ++ guest ∷ []) ++ xs) within found (goes_behind done guest)
    ∙ ap (λ l. option_map (λ xs. l ++ xs) (each guest_of (items_view (drop (c.loop-item.item-index + 1) items)))) (sym c.in_ok-push-in-Some.ensures.ok)
