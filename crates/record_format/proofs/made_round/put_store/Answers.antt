use Rattle.std.proofs.Common.{◌*◌, ◌/◌, ◌%◌, subst, List, ℕ, OnOk}
use Rattle.io_ports.specs.Content.{Grows}
use Rattle.desk_laws.specs.declared.item.Item.TheVariants.{Store}
use Rattle.record_format.specs.ItemSpellings.{fed_spelling}
use Rattle.record_format.proofs.made_round.put_store.Goals as goal

pub returns-clause-ok : goal.returns-clause-ok
returns-clause-ok g c =
    let item = Store c.args.guest 0 (c.args.u % 8) (4 * (c.args.u / 8 % 1024)) in
    subst (λ (piece : List ℕ). OnOk c.put_item.result (Grows (g.K.Sink.written c.args.out.now) (fed_spelling (record { item = item; piece = piece })) (g.K.Sink.written c.put_item.new.out)))
    c.to_le_bytes.ensures c.put_item.ensures.ok
