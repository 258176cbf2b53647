use Rattle.std.proofs.Common.{◌++◌}
use Rattle.std.proofs.lemmas.Result.{on_ok_weaker, on_err_weaker}
use Rattle.std.specs.List.{flat_map}
use Rattle.io_ports.proofs.GrowLemmas.{grows_on, part_behind, part_front}
use Rattle.record_format.specs.Config.{guest_spelling, head_spelling, later_spelling}
use Rattle.record_format.proofs.ConfigLemmas.{config_whole, config_back}
use Rattle.record_format.proofs.config_out.put_config.Goals as goal

pub returns-in-Ok-clause-ok : goal.returns-in-Ok-clause-ok
returns-in-Ok-clause-ok g c =
    let s = c.args.setup.now in
    let v = c.version_of-version.result in
    let front = head_spelling v s ++ flat_map guest_spelling s.guests in
    on_ok_weaker c.put_later.result (λ grown. grows_on _ _ _ front (later_spelling v s) _ c.in-Ok.ensures.ok grown (config_whole s v c.version_of-version.ensures)) c.put_later.ensures.ok

pub returns-in-Ok-clause-err : goal.returns-in-Ok-clause-err
returns-in-Ok-clause-err g c =
    let s = c.args.setup.now in
    let v = c.version_of-version.result in
    let front = head_spelling v s ++ flat_map guest_spelling s.guests in
    on_err_weaker c.put_later.result (λ part. part_behind _ _ _ front (later_spelling v s) _ c.in-Ok.ensures.ok part (config_whole s v c.version_of-version.ensures)) c.put_later.ensures.err

pub returns-in-Ok-clause-back : goal.returns-in-Ok-clause-back
returns-in-Ok-clause-back g c = λ tail. config_back c.args.setup.now tail c.requires

pub returns-in-Err-clause-err : goal.returns-in-Err-clause-err
returns-in-Err-clause-err g c =
    let s = c.args.setup.now in
    let v = c.version_of-version.result in
    part_front _ _ (head_spelling v s ++ flat_map guest_spelling s.guests) _ c.in-Err.ensures.err (later_spelling v s, config_whole s v c.version_of-version.ensures)

pub returns-in-Err-clause-back : goal.returns-in-Err-clause-back
returns-in-Err-clause-back g c = λ tail. config_back c.args.setup.now tail c.requires
