use Rattle.std.proofs.Common.{◌≡◌, ℕ, List, ◌++◌, ap}
use Rattle.std.proofs.lemmas.Result.{on_ok_weaker, on_err_weaker}
use Rattle.io_ports.proofs.GrowLemmas.{grows_on, part_behind, part_front}
use Rattle.record_format.specs.OutputGrammar.{reply_record}
use Rattle.replay_driver.proofs.post_writer.put_reply.Goals as goal

pub returns-in-Ok-clause-ok : goal.returns-in-Ok-clause-ok
unfolding reply_record
returns-in-Ok-clause-ok g c =
    let whole : c.reply_head.result ++ c.args.bytes.now ≡ reply_record c.args.guest c.args.bytes.now =
    ap (λ (l : List ℕ). l ++ c.args.bytes.now) (c.reply_head.ensures) in
    on_ok_weaker c.put_all-in-Ok.result (λ grown. grows_on _ _ _ c.reply_head.result c.args.bytes.now _ c.in-Ok.ensures.ok grown whole) c.put_all-in-Ok.ensures.ok

pub returns-in-Ok-clause-err : goal.returns-in-Ok-clause-err
unfolding reply_record
returns-in-Ok-clause-err g c =
    let whole : c.reply_head.result ++ c.args.bytes.now ≡ reply_record c.args.guest c.args.bytes.now =
    ap (λ (l : List ℕ). l ++ c.args.bytes.now) (c.reply_head.ensures) in
    on_err_weaker c.put_all-in-Ok.result (λ part. part_behind _ _ _ c.reply_head.result c.args.bytes.now _ c.in-Ok.ensures.ok part whole) c.put_all-in-Ok.ensures.err

pub returns-in-Err-clause-err : goal.returns-in-Err-clause-err
unfolding reply_record
returns-in-Err-clause-err g c =
    let whole : c.reply_head.result ++ c.args.bytes.now ≡ reply_record c.args.guest c.args.bytes.now =
    ap (λ (l : List ℕ). l ++ c.args.bytes.now) (c.reply_head.ensures) in
    part_front _ _ c.reply_head.result _ c.in-Err.ensures.err (c.args.bytes.now, whole)
