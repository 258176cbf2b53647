use Rattle.std.proofs.Common.{◌∙◌, ap}
use Rattle.std.proofs.lemmas.Result.{on_ok_weaker, on_err_weaker}
use Rattle.io_ports.proofs.GrowLemmas.{grows_on, part_behind, part_front}
use Rattle.desk_laws.specs.Rules.{first_broken}
use Rattle.record_format.specs.Config.{config_spelling}
use Rattle.record_format.specs.ItemSpellings.{items_spelling}
use Rattle.record_format.specs.MadeRecord.{made_items}
use Rattle.record_format.proofs.MadeLemmas.{made_sound, made_is}
use Rattle.record_format.proofs.made.put_record.Goals as goal

pub put_config-requires : goal.put_config-requires
put_config-requires g c = ap first_broken c.requires ∙ made_sound

pub returns-in-Ok-clause-ok : goal.returns-in-Ok-clause-ok
returns-in-Ok-clause-ok g c =
    let setup = c.args.setup.now in
    let items = made_items c.args.rounds in
    on_ok_weaker c.put_items.result (λ grown. grows_on _ _ _ (config_spelling setup) (items_spelling items) _ c.in-Ok.ensures.ok grown (made_is setup c.args.rounds c.requires)) c.put_items.ensures.ok

pub returns-in-Ok-clause-err : goal.returns-in-Ok-clause-err
returns-in-Ok-clause-err g c =
    let setup = c.args.setup.now in
    let items = made_items c.args.rounds in
    on_err_weaker c.put_items.result (λ part. part_behind _ _ _ (config_spelling setup) (items_spelling items) _ c.in-Ok.ensures.ok part (made_is setup c.args.rounds c.requires)) c.put_items.ensures.err

pub returns-in-Err-clause-err : goal.returns-in-Err-clause-err
returns-in-Err-clause-err g c =
    let setup = c.args.setup.now in
    let items = made_items c.args.rounds in
    part_front _ _ (config_spelling setup) _ c.in-Err.ensures.err (items_spelling items, made_is setup c.args.rounds c.requires)
