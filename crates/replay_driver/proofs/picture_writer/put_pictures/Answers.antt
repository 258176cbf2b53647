use Rattle.std.proofs.Common.{◌<◌, length, arith}
use Rattle.io_ports.proofs.GrowLemmas.{part_on}
use Rattle.replay_driver.specs.PictureRecords.{picture_records}
use Rattle.replay_driver.proofs.OutputRows.{outputs_next}
use Rattle.replay_driver.proofs.picture_writer.put_pictures.Goals as goal

pub returns-in-Err-clause-err : goal.returns-in-Err-clause-err
returns-in-Err-clause-err g c =
    let below : c.loop-n.n < length c.outputs-outputs.result.now = omega (arith, c.loop-n-test.true) in
    part_on _ _ _ _ _ (picture_records c.args.picture.now) c.loop-n.invariant.grown c.in-Err.ensures.err
    (outputs_next c.args.picture.now c.outputs-outputs.result.now c.loop-n.n _ c.outputs-outputs.ensures.is below)
