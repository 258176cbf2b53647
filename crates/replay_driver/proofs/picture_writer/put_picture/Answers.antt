use Rattle.std.proofs.Common.{◌≡◌, ◌++◌, ap, List, ℕ}
use Rattle.std.specs.List.{flat_map}
use Rattle.std.proofs.lemmas.Result.{on_ok_weaker, on_err_weaker}
use Rattle.io_ports.proofs.GrowLemmas.{grows_on, part_front, part_behind}
use Rattle.record_format.specs.OutputGrammar.{rgb}
use Rattle.replay_driver.specs.PictureRecords.{colours_of, output_record}
use Rattle.replay_driver.proofs.picture_writer.put_picture.Goals as goal

pub returns-in-Ok-clause-ok : goal.returns-in-Ok-clause-ok
returns-in-Ok-clause-ok g c =
    let rest = flat_map rgb (colours_of c.args.picture.now c.args.output) in
    let whole : c.args.head.now ++ rest ≡ output_record c.args.picture.now c.args.output = ap (λ (l : List ℕ). l ++ rest) c.requires.head in
    on_ok_weaker c.put_rows.result (λ rows. grows_on _ _ _ _ _ _ c.in-Ok.ensures.ok rows whole) c.put_rows.ensures.ok

pub returns-in-Ok-clause-err : goal.returns-in-Ok-clause-err
returns-in-Ok-clause-err g c =
    let rest = flat_map rgb (colours_of c.args.picture.now c.args.output) in
    let whole : c.args.head.now ++ rest ≡ output_record c.args.picture.now c.args.output = ap (λ (l : List ℕ). l ++ rest) c.requires.head in
    on_err_weaker c.put_rows.result (λ rows. part_behind _ _ _ _ _ _ c.in-Ok.ensures.ok rows whole) c.put_rows.ensures.err

pub returns-in-Err-clause-err : goal.returns-in-Err-clause-err
returns-in-Err-clause-err g c =
    let rest = flat_map rgb (colours_of c.args.picture.now c.args.output) in
    let whole : c.args.head.now ++ rest ≡ output_record c.args.picture.now c.args.output = ap (λ (l : List ℕ). l ++ rest) c.requires.head in
    part_front _ _ _ _ c.in-Err.ensures.err (rest, whole)
