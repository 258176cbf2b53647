use Rattle.std.proofs.Common.{◌≡◌, ◌++◌, length, take, ap, List, ℕ}
use Rattle.std.proofs.lemmas.Result.{on_err_weaker}
use Rattle.io_ports.proofs.GrowLemmas.{part_behind, part_front}
use Rattle.record_format.specs.ItemSpellings.{item_spelling}
use Rattle.record_format.proofs.MadeLemmas.{front_is}
use Rattle.record_format.proofs.item_out.put_item.Goals as goal

pub returns-in-Ok-clause-err : goal.returns-in-Ok-clause-err
returns-in-Ok-clause-err g c =
    let piece = c.args.piece.now in
    let fields : take c.spell_item-len.result c.spell_item-len.new.out ≡ item_spelling c.args.item.now (length piece) =
    front_is _ _ _ c.spell_item-len.result c.spell_item-len.ensures.out c.spell_item-len.ensures.len in
    on_err_weaker c.put_all-in-Ok.result (λ part. part_behind _ _ _ (take c.spell_item-len.result c.spell_item-len.new.out) piece _ c.in-Ok.ensures.ok part (ap (λ (l : List ℕ). l ++ piece) fields)) c.put_all-in-Ok.ensures.err

pub returns-in-Err-clause-err : goal.returns-in-Err-clause-err
returns-in-Err-clause-err g c =
    let piece = c.args.piece.now in
    let fields : take c.spell_item-len.result c.spell_item-len.new.out ≡ item_spelling c.args.item.now (length piece) =
    front_is _ _ _ c.spell_item-len.result c.spell_item-len.ensures.out c.spell_item-len.ensures.len in
    part_front _ _ (take c.spell_item-len.result c.spell_item-len.new.out) _ c.in-Err.ensures.err (piece, ap (λ (l : List ℕ). l ++ piece) fields)
