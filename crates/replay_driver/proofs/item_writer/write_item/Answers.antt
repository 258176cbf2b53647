use Rattle.std.proofs.Common.{map, sym, ◌∙◌, ap, arith}
use Rattle.compositor.specs.PictureView.{PictureView}
use Rattle.replay_driver.specs.PictureRecords.{head_of}
use Rattle.replay_driver.proofs.DeskFacts.{width_is, height_is, outputs_is, outputs_placed}
use Rattle.replay_driver.proofs.ItemWriteLemmas.{item_failed, item_going, item_snap, item_ended, snap_is, end_is, wrote_of}
use Rattle.replay_driver.proofs.item_writer.write_item.Goals as goal

pub put_pictures-requires-clause-heads : goal.put_pictures-requires-clause-heads
put_pictures-requires-clause-heads g c =
    let suits = c.requires.suits in
    let stands = (c.in-Ok-Snap.ensures.writes suits.setup suits.state suits.stands).stands in
    suits.heads_are ∙ ap (map head_of) (sym (outputs_is suits.setup _ _ _ stands) ∙ ap (λ (v : PictureView). v.outputs) (sym c.picture.ensures))

pub put_pictures-requires-clause-line : goal.put_pictures-requires-clause-line
put_pictures-requires-clause-line g c =
    let suits = c.requires.suits in
    let stands = (c.in-Ok-Snap.ensures.writes suits.setup suits.state suits.stands).stands in
    omega (arith, suits.line_is, width_is suits.setup _ _ _ stands, ap (λ (v : PictureView). v.width) c.picture.ensures)

pub put_pictures-requires-clause-high : goal.put_pictures-requires-clause-high
put_pictures-requires-clause-high g c =
    let suits = c.requires.suits in
    let stands = (c.in-Ok-Snap.ensures.writes suits.setup suits.state suits.stands).stands in
    omega (arith, suits.fits.height, height_is suits.setup _ _ _ stands, ap (λ (v : PictureView). v.height) c.picture.ensures)

pub returns-in-Ok-Going-clause-writes : goal.returns-in-Ok-Going-clause-writes
returns-in-Ok-Going-clause-writes g c = λ setup state stands.
    item_going setup _ c.args.item.now c.args.piece.now state _ _ _ _ _ _ _ _ _ (c.in-Ok-Going.ensures.writes setup state stands) (sym c.in-Ok-Going.field-0-is ∙ c.in-Ok-Going.ensures.answer)

pub returns-in-Ok-Snap-clause-writes : goal.returns-in-Ok-Snap-clause-writes
returns-in-Ok-Snap-clause-writes g c = λ setup state stands.
    let suits = c.requires.suits in
    let placed = outputs_placed suits.setup _ _ _ suits.fits (c.in-Ok-Snap.ensures.writes suits.setup suits.state suits.stands).stands in
    let snap = snap_is c.args.item.now (sym c.in-Ok-Snap.field-0-is ∙ c.in-Ok-Snap.ensures.answer) in
    item_snap setup _ c.args.item.now c.args.piece.now state _ _ _ _ c.picture.result.now c.put_pictures.result _ _ _ _ _ _ _ _ (c.in-Ok-Snap.ensures.writes setup state stands) snap
    c.picture.ensures (c.in-Ok-Snap.ensures.drawn snap setup state stands) placed
    (wrote_of c.put_pictures.result _ _ _ c.put_pictures.ensures.ok c.put_pictures.ensures.err) c.put_pictures.ensures.cause
    (λ kept. g.met.K.Sink.keeps_on _ _ _ kept c.put_pictures.ensures.keeps)

pub returns-in-Ok-Ended-clause-writes : goal.returns-in-Ok-Ended-clause-writes
returns-in-Ok-Ended-clause-writes g c = λ setup state stands.
    let end = end_is c.args.item.now (sym c.in-Ok-Ended.field-0-is ∙ c.in-Ok-Ended.ensures.answer) in
    item_ended setup c.args.item.now c.args.piece.now state _ _ _ _ c.summary.result c.put_summary.result _ _ _ _ _ _ _ _ (c.in-Ok-Ended.ensures.writes setup state stands) end
    c.summary.ensures.counts
    (wrote_of c.put_summary.result _ _ _ c.put_summary.ensures.ok c.put_summary.ensures.err) c.put_summary.ensures.cause
    (λ kept. g.met.K.Sink.keeps_on _ _ _ kept c.put_summary.ensures.keeps)

pub returns-in-Err-clause-writes : goal.returns-in-Err-clause-writes
returns-in-Err-clause-writes g c = λ setup state stands.
    item_failed setup _ c.args.item.now c.args.piece.now state _ _ _ c.in-Err.e _ _ _ _ _ (c.in-Err.ensures.writes setup state stands)
