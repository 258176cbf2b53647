use Rattle.std.proofs.Common.{◌≡◌, IsSome, length, subst, ap, arith}
use Rattle.std.specs.Prelude.{slice_get}
use Rattle.std.proofs.lemmas.List.{length-map}
use Rattle.window_table.specs.Entries.{TableView, entry_at}
use Rattle.window_table.specs.Kept.{entry_in}
use Rattle.window_table.proofs.FindLemmas.{nth-entry}
use Rattle.window_table.proofs.table.Table.nth_slot.Goals as goal

pub index-requires : goal.index-requires
index-requires c =
    let t = c.self.inside in
    let count = ap (λ (v : TableView). length v.entries) c.self.view_is in
    omega (arith, c.requires, count, length-map t.order.items (entry_in t.held t.refs.lists))

pub returns-clause-held : goal.returns-clause-held
returns-clause-held c =
    let t = c.self.inside in
    let count = ap (λ (v : TableView). length v.entries) c.self.view_is in
    subst (λ v. IsSome (entry_at c.index.result.now v.entries)) c.self.view_is
    (nth-entry t.held t.refs.lists t.order.items c.args.i c.index.result.now
    (omega (arith, c.requires, count, length-map t.order.items (entry_in t.held t.refs.lists))) c.index.ensures).0

pub returns-clause-nth : goal.returns-clause-nth
returns-clause-nth c =
    let t = c.self.inside in
    let count = ap (λ (v : TableView). length v.entries) c.self.view_is in
    subst (λ v. entry_at c.index.result.now v.entries ≡ slice_get v.entries c.args.i) c.self.view_is
    (nth-entry t.held t.refs.lists t.order.items c.args.i c.index.result.now
    (omega (arith, c.requires, count, length-map t.order.items (entry_in t.held t.refs.lists))) c.index.ensures).1
