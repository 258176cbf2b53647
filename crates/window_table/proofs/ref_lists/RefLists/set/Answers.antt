use Rattle.std.proofs.Common.{◌≡◌, ◌<◌, ◌≤◌, ◌+◌, ◌-◌, length, get_or, set, sum_by, subst, sym, arith, ap, ◌∙◌}
use Rattle.std.proofs.lemmas.List.{get_or_read}
use Rattle.gui_wire.specs.Seen.{references}
use Rattle.window_table.specs.Parts.{AreCuts, parts, spliced, moved_after}
use Rattle.window_table.proofs.CutLemmas.{place-inside, exchange-from, exchange-to, exchange-room, exchange-low, exchange-high, exchange-cuts, exchange-parts, seen-as}
use Rattle.window_table.proofs.ref_lists.RefLists.set.Goals as goal

pub index-from-requires : goal.index-from-requires
index-from-requires c =
    let s = c.self.inside in
    let items = s.items.items in
    let places = s.places.items in
    let new = references c.args.refs.now in
    let cuts = c.self.invariant.0 in
    let slot : c.args.slot < length (parts items places) = subst (λ v. c.args.slot < length v.lists) (sym c.self.view_is) c.requires.slot in
    let fits : sum_by length (set (parts items places) c.args.slot new) ≤ s.pages =
    subst (λ v. sum_by length (set v.lists c.args.slot new) ≤ v.pages) (sym c.self.view_is) c.requires.fits in
    let inside : c.args.slot + 1 < length places = place-inside items places s.pages cuts c.args.slot slot in
    omega (arith, inside, s.places.ok.0)

pub overflow_add-slot : goal.overflow_add-slot
overflow_add-slot c =
    let s = c.self.inside in
    let items = s.items.items in
    let places = s.places.items in
    let new = references c.args.refs.now in
    let cuts = c.self.invariant.0 in
    let slot : c.args.slot < length (parts items places) = subst (λ v. c.args.slot < length v.lists) (sym c.self.view_is) c.requires.slot in
    let fits : sum_by length (set (parts items places) c.args.slot new) ≤ s.pages =
    subst (λ v. sum_by length (set v.lists c.args.slot new) ≤ v.pages) (sym c.self.view_is) c.requires.fits in
    let inside : c.args.slot + 1 < length places = place-inside items places s.pages cuts c.args.slot slot in
    omega (arith, inside, s.places.ok.0, s.places.small)

pub index-to-requires : goal.index-to-requires
index-to-requires c =
    let s = c.self.inside in
    let items = s.items.items in
    let places = s.places.items in
    let new = references c.args.refs.now in
    let cuts = c.self.invariant.0 in
    let slot : c.args.slot < length (parts items places) = subst (λ v. c.args.slot < length v.lists) (sym c.self.view_is) c.requires.slot in
    let fits : sum_by length (set (parts items places) c.args.slot new) ≤ s.pages =
    subst (λ v. sum_by length (set v.lists c.args.slot new) ≤ v.pages) (sym c.self.view_is) c.requires.fits in
    let inside : c.args.slot + 1 < length places = place-inside items places s.pages cuts c.args.slot slot in
    omega (arith, inside, s.places.ok.0)

pub exchange-requires-clause-from : goal.exchange-requires-clause-from
exchange-requires-clause-from c =
    let s = c.self.inside in
    let items = s.items.items in
    let places = s.places.items in
    let new = references c.args.refs.now in
    let cuts = c.self.invariant.0 in
    let slot : c.args.slot < length (parts items places) = subst (λ v. c.args.slot < length v.lists) (sym c.self.view_is) c.requires.slot in
    let fits : sum_by length (set (parts items places) c.args.slot new) ≤ s.pages =
    subst (λ v. sum_by length (set v.lists c.args.slot new) ≤ v.pages) (sym c.self.view_is) c.requires.fits in
    let inside : c.args.slot + 1 < length places = place-inside items places s.pages cuts c.args.slot slot in
    let from : c.index-from.result.now ≡ get_or places c.args.slot 0 =
    get_or_read places c.args.slot c.index-from.result.now (omega (arith, inside)) c.index-from.ensures 0 in
    let to : c.index-to.result.now ≡ get_or places (c.args.slot + 1) 0 =
    get_or_read places (c.args.slot + 1) c.index-to.result.now (omega (arith, inside)) c.index-to.ensures 0 in
    omega (arith, from, to, exchange-from items places new s.pages c.args.slot cuts slot fits)

pub exchange-requires-clause-to : goal.exchange-requires-clause-to
exchange-requires-clause-to c =
    let s = c.self.inside in
    let items = s.items.items in
    let places = s.places.items in
    let new = references c.args.refs.now in
    let cuts = c.self.invariant.0 in
    let slot : c.args.slot < length (parts items places) = subst (λ v. c.args.slot < length v.lists) (sym c.self.view_is) c.requires.slot in
    let fits : sum_by length (set (parts items places) c.args.slot new) ≤ s.pages =
    subst (λ v. sum_by length (set v.lists c.args.slot new) ≤ v.pages) (sym c.self.view_is) c.requires.fits in
    let inside : c.args.slot + 1 < length places = place-inside items places s.pages cuts c.args.slot slot in
    let from : c.index-from.result.now ≡ get_or places c.args.slot 0 =
    get_or_read places c.args.slot c.index-from.result.now (omega (arith, inside)) c.index-from.ensures 0 in
    let to : c.index-to.result.now ≡ get_or places (c.args.slot + 1) 0 =
    get_or_read places (c.args.slot + 1) c.index-to.result.now (omega (arith, inside)) c.index-to.ensures 0 in
    omega (arith, to, s.items.ok.0, exchange-to items places new s.pages c.args.slot cuts slot fits)

pub exchange-requires-clause-room : goal.exchange-requires-clause-room
exchange-requires-clause-room c =
    let s = c.self.inside in
    let items = s.items.items in
    let places = s.places.items in
    let new = references c.args.refs.now in
    let cuts = c.self.invariant.0 in
    let slot : c.args.slot < length (parts items places) = subst (λ v. c.args.slot < length v.lists) (sym c.self.view_is) c.requires.slot in
    let fits : sum_by length (set (parts items places) c.args.slot new) ≤ s.pages =
    subst (λ v. sum_by length (set v.lists c.args.slot new) ≤ v.pages) (sym c.self.view_is) c.requires.fits in
    let inside : c.args.slot + 1 < length places = place-inside items places s.pages cuts c.args.slot slot in
    let from : c.index-from.result.now ≡ get_or places c.args.slot 0 =
    get_or_read places c.args.slot c.index-from.result.now (omega (arith, inside)) c.index-from.ensures 0 in
    let to : c.index-to.result.now ≡ get_or places (c.args.slot + 1) 0 =
    get_or_read places (c.args.slot + 1) c.index-to.result.now (omega (arith, inside)) c.index-to.ensures 0 in
    let room = exchange-room items places new s.pages c.args.slot cuts slot fits in
    omega (arith, from, to, room, s.items.ok.0, c.self.invariant.1)

pub overflow_sub-to : goal.overflow_sub-to
overflow_sub-to c =
    let s = c.self.inside in
    let items = s.items.items in
    let places = s.places.items in
    let new = references c.args.refs.now in
    let cuts = c.self.invariant.0 in
    let slot : c.args.slot < length (parts items places) = subst (λ v. c.args.slot < length v.lists) (sym c.self.view_is) c.requires.slot in
    let fits : sum_by length (set (parts items places) c.args.slot new) ≤ s.pages =
    subst (λ v. sum_by length (set v.lists c.args.slot new) ≤ v.pages) (sym c.self.view_is) c.requires.fits in
    let inside : c.args.slot + 1 < length places = place-inside items places s.pages cuts c.args.slot slot in
    let from : c.index-from.result.now ≡ get_or places c.args.slot 0 =
    get_or_read places c.args.slot c.index-from.result.now (omega (arith, inside)) c.index-from.ensures 0 in
    let to : c.index-to.result.now ≡ get_or places (c.args.slot + 1) 0 =
    get_or_read places (c.args.slot + 1) c.index-to.result.now (omega (arith, inside)) c.index-to.ensures 0 in
    omega (arith, from, to, exchange-from items places new s.pages c.args.slot cuts slot fits)

pub move_after-requires-clause-slot : goal.move_after-requires-clause-slot
move_after-requires-clause-slot c =
    let s = c.self.inside in
    let items = s.items.items in
    let places = s.places.items in
    let new = references c.args.refs.now in
    let cuts = c.self.invariant.0 in
    let slot : c.args.slot < length (parts items places) = subst (λ v. c.args.slot < length v.lists) (sym c.self.view_is) c.requires.slot in
    let fits : sum_by length (set (parts items places) c.args.slot new) ≤ s.pages =
    subst (λ v. sum_by length (set v.lists c.args.slot new) ≤ v.pages) (sym c.self.view_is) c.requires.fits in
    let inside : c.args.slot + 1 < length places = place-inside items places s.pages cuts c.args.slot slot in
    omega (arith, inside, s.places.ok.0)

pub move_after-requires-clause-low : goal.move_after-requires-clause-low
move_after-requires-clause-low c =
    let s = c.self.inside in
    let items = s.items.items in
    let places = s.places.items in
    let new = references c.args.refs.now in
    let cuts = c.self.invariant.0 in
    let slot : c.args.slot < length (parts items places) = subst (λ v. c.args.slot < length v.lists) (sym c.self.view_is) c.requires.slot in
    let fits : sum_by length (set (parts items places) c.args.slot new) ≤ s.pages =
    subst (λ v. sum_by length (set v.lists c.args.slot new) ≤ v.pages) (sym c.self.view_is) c.requires.fits in
    let inside : c.args.slot + 1 < length places = place-inside items places s.pages cuts c.args.slot slot in
    let from : c.index-from.result.now ≡ get_or places c.args.slot 0 =
    get_or_read places c.args.slot c.index-from.result.now (omega (arith, inside)) c.index-from.ensures 0 in
    let to : c.index-to.result.now ≡ get_or places (c.args.slot + 1) 0 =
    get_or_read places (c.args.slot + 1) c.index-to.result.now (omega (arith, inside)) c.index-to.ensures 0 in
    λ k l h. let low = exchange-low items places new s.pages c.args.slot cuts slot fits k l h in omega (arith, from, to, low)

pub move_after-requires-clause-high : goal.move_after-requires-clause-high
move_after-requires-clause-high c =
    let s = c.self.inside in
    let items = s.items.items in
    let places = s.places.items in
    let new = references c.args.refs.now in
    let cuts = c.self.invariant.0 in
    let slot : c.args.slot < length (parts items places) = subst (λ v. c.args.slot < length v.lists) (sym c.self.view_is) c.requires.slot in
    let fits : sum_by length (set (parts items places) c.args.slot new) ≤ s.pages =
    subst (λ v. sum_by length (set v.lists c.args.slot new) ≤ v.pages) (sym c.self.view_is) c.requires.fits in
    let inside : c.args.slot + 1 < length places = place-inside items places s.pages cuts c.args.slot slot in
    let from : c.index-from.result.now ≡ get_or places c.args.slot 0 =
    get_or_read places c.args.slot c.index-from.result.now (omega (arith, inside)) c.index-from.ensures 0 in
    let to : c.index-to.result.now ≡ get_or places (c.args.slot + 1) 0 =
    get_or_read places (c.args.slot + 1) c.index-to.result.now (omega (arith, inside)) c.index-to.ensures 0 in
    λ k l h. let high = exchange-high items places new s.pages c.args.slot cuts slot fits k l h in omega (arith, from, to, high, c.count.ensures)

pub invariant_of-self : goal.invariant_of-self
invariant_of-self c =
    let s = c.self.inside in
    let items = s.items.items in
    let places = s.places.items in
    let new = references c.args.refs.now in
    let cuts = c.self.invariant.0 in
    let slot : c.args.slot < length (parts items places) = subst (λ v. c.args.slot < length v.lists) (sym c.self.view_is) c.requires.slot in
    let fits : sum_by length (set (parts items places) c.args.slot new) ≤ s.pages =
    subst (λ v. sum_by length (set v.lists c.args.slot new) ≤ v.pages) (sym c.self.view_is) c.requires.fits in
    let inside : c.args.slot + 1 < length places = place-inside items places s.pages cuts c.args.slot slot in
    let from : c.index-from.result.now ≡ get_or places c.args.slot 0 =
    get_or_read places c.args.slot c.index-from.result.now (omega (arith, inside)) c.index-from.ensures 0 in
    let to : c.index-to.result.now ≡ get_or places (c.args.slot + 1) 0 =
    get_or_read places (c.args.slot + 1) c.index-to.result.now (omega (arith, inside)) c.index-to.ensures 0 in
    let spliced_is : c.exchange.new.items.items ≡ spliced items (get_or places c.args.slot 0) (get_or places (c.args.slot + 1) 0) new =
    c.exchange.ensures.items
    ∙ ap (λ n. spliced items n c.index-to.result.now new) from
    ∙ ap (λ n. spliced items (get_or places c.args.slot 0) n new) to in
    let moved_is : c.move_after.new.places.items
    ≡ moved_after c.args.slot (get_or places (c.args.slot + 1) 0 - get_or places c.args.slot 0) (length new) places =
    c.move_after.ensures
    ∙ ap (λ n. moved_after c.args.slot (c.index-to.result.now - n) c.count.result places) from
    ∙ ap (λ n. moved_after c.args.slot (n - get_or places c.args.slot 0) c.count.result places) to
    ∙ ap (λ n. moved_after c.args.slot (get_or places (c.args.slot + 1) 0 - get_or places c.args.slot 0) n places) c.count.ensures in (
      subst (λ xs. AreCuts xs c.move_after.new.places.items s.pages) (sym spliced_is)
          (subst (λ ps. AreCuts (spliced items (get_or places c.args.slot 0) (get_or places (c.args.slot + 1) 0) new) ps s.pages) (sym moved_is)
          (exchange-cuts items places new s.pages c.args.slot cuts slot fits)),
      omega (arith, c.exchange.ensures.capacity, c.self.invariant.1),
    )

pub returns : goal.returns
returns c =
    let s = c.self.inside in
    let items = s.items.items in
    let places = s.places.items in
    let new = references c.args.refs.now in
    let cuts = c.self.invariant.0 in
    let slot : c.args.slot < length (parts items places) = subst (λ v. c.args.slot < length v.lists) (sym c.self.view_is) c.requires.slot in
    let fits : sum_by length (set (parts items places) c.args.slot new) ≤ s.pages =
    subst (λ v. sum_by length (set v.lists c.args.slot new) ≤ v.pages) (sym c.self.view_is) c.requires.fits in
    let inside : c.args.slot + 1 < length places = place-inside items places s.pages cuts c.args.slot slot in
    let from : c.index-from.result.now ≡ get_or places c.args.slot 0 =
    get_or_read places c.args.slot c.index-from.result.now (omega (arith, inside)) c.index-from.ensures 0 in
    let to : c.index-to.result.now ≡ get_or places (c.args.slot + 1) 0 =
    get_or_read places (c.args.slot + 1) c.index-to.result.now (omega (arith, inside)) c.index-to.ensures 0 in
    let spliced_is : c.exchange.new.items.items ≡ spliced items (get_or places c.args.slot 0) (get_or places (c.args.slot + 1) 0) new =
    c.exchange.ensures.items
    ∙ ap (λ n. spliced items n c.index-to.result.now new) from
    ∙ ap (λ n. spliced items (get_or places c.args.slot 0) n new) to in
    let moved_is : c.move_after.new.places.items
    ≡ moved_after c.args.slot (get_or places (c.args.slot + 1) 0 - get_or places c.args.slot 0) (length new) places =
    c.move_after.ensures
    ∙ ap (λ n. moved_after c.args.slot (c.index-to.result.now - n) c.count.result places) from
    ∙ ap (λ n. moved_after c.args.slot (n - get_or places c.args.slot 0) c.count.result places) to
    ∙ ap (λ n. moved_after c.args.slot (get_or places (c.args.slot + 1) 0 - get_or places c.args.slot 0) n places) c.count.ensures in
    let lists : parts c.exchange.new.items.items c.move_after.new.places.items ≡ set (parts items places) c.args.slot new =
    ap (λ xs. parts xs c.move_after.new.places.items) spliced_is
    ∙ ap (parts (spliced items (get_or places c.args.slot 0) (get_or places (c.args.slot + 1) 0) new)) moved_is
    ∙ exchange-parts items places new s.pages c.args.slot cuts slot fits in
    seen-as s.pages _ _ _ lists (ap (λ v. record { pages = v.pages; lists = set v.lists c.args.slot new }) c.self.view_is)
