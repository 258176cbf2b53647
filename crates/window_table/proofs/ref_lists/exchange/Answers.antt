use Rattle.std.proofs.Common.{◌≡◌, ◌++◌, take, drop, ap, ◌∙◌, arith}
use Rattle.gui_wire.specs.Seen.{references}
use Rattle.window_table.specs.Parts.{last_put_back}
use Rattle.window_table.proofs.PartLemmas.{put-back}
use Rattle.window_table.proofs.ref_lists.exchange.Goals as goal

pub returns-clause-items : goal.returns-clause-items
returns-clause-items c =
    let new = references c.args.refs.now in
    let old = c.args.items.now.items in
    let all : c.append.new.items.items ≡ (take c.args.from old ++ drop c.args.to old) ++ new =
    c.append.ensures.items ∙ ap (λ xs. xs ++ new) c.take_away.ensures.items in
    c.put_back.ensures.items
    ∙ ap (λ xs. last_put_back xs c.args.from c.count.result) all
    ∙ ap (λ n. last_put_back ((take c.args.from old ++ drop c.args.to old) ++ new) c.args.from n) c.count.ensures
    ∙ put-back old new c.args.from c.args.to (omega (arith, c.requires.from, c.requires.to, c.args.items.now.ok.0))
