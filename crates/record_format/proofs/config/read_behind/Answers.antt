use Rattle.record_format.proofs.BehindLemmas.{no_outputs, no_clipboard, goes_wrong, goes_right}
use Rattle.record_format.proofs.config.read_behind.Goals as goal

pub returns-in-Err-read_outputs-clause-reads : goal.returns-in-Err-read_outputs-clause-reads
returns-in-Err-read_outputs-clause-reads g c = λ bytes told.
    let first = c.in-Ok.ensures.reads bytes told in
    no_outputs c.args.head.now c.args.version c.plane_of.result c.in-Ok.guests c.in-Err-read_outputs.e bytes _ _ c.plane_of.ensures first (c.in-Err-read_outputs.ensures.reads first.rest first.is_left)

pub returns-in-Err-read_clipboard-clause-reads : goal.returns-in-Err-read_clipboard-clause-reads
returns-in-Err-read_clipboard-clause-reads g c = λ bytes told.
    let first = c.in-Ok.ensures.reads bytes told in
    let second = c.in-Ok-read_outputs.ensures.reads first.rest first.is_left in
    no_clipboard c.args.head.now c.args.version c.plane_of.result c.in-Ok.guests c.in-Ok-read_outputs.outputs c.in-Err-read_clipboard.e bytes _ _ _ c.plane_of.ensures first second
    (c.in-Err-read_clipboard.ensures.reads second.rest second.is_left)

pub returns-in-Some-clause-reads : goal.returns-in-Some-clause-reads
returns-in-Some-clause-reads g c = λ bytes told.
    let first = c.in-Ok.ensures.reads bytes told in
    let second = c.in-Ok-read_outputs.ensures.reads first.rest first.is_left in
    let third = c.in-Ok-read_clipboard.ensures.reads second.rest second.is_left in
    goes_wrong c.args.head.now c.args.version c.plane_of.result c.in-Ok.guests c.in-Ok-read_outputs.outputs c.in-Ok-read_clipboard.clipboard c.setup_of-setup.result c.in-Some.wrong bytes _ _ _
    c.plane_of.ensures first second third c.setup_of-setup.ensures c.in-Some.ensures.wrong

pub returns-in-Some-clause-keeps : goal.returns-in-Some-clause-keeps
returns-in-Some-clause-keeps g c =
    g.met.S.Source.keeps_on _ _ _ c.in-Ok.ensures.keeps (g.met.S.Source.keeps_on _ _ _ c.in-Ok-read_outputs.ensures.keeps c.in-Ok-read_clipboard.ensures.keeps)

pub returns-in-None-clause-reads : goal.returns-in-None-clause-reads
returns-in-None-clause-reads g c = λ bytes told.
    let first = c.in-Ok.ensures.reads bytes told in
    let second = c.in-Ok-read_outputs.ensures.reads first.rest first.is_left in
    let third = c.in-Ok-read_clipboard.ensures.reads second.rest second.is_left in
    goes_right c.args.head.now c.args.version c.plane_of.result c.in-Ok.guests c.in-Ok-read_outputs.outputs c.in-Ok-read_clipboard.clipboard c.setup_of-setup.result bytes _ _ _
    c.plane_of.ensures first second third c.setup_of-setup.ensures c.in-None.ensures.wrong

pub returns-in-None-clause-keeps : goal.returns-in-None-clause-keeps
returns-in-None-clause-keeps g c =
    g.met.S.Source.keeps_on _ _ _ c.in-Ok.ensures.keeps (g.met.S.Source.keeps_on _ _ _ c.in-Ok-read_outputs.ensures.keeps c.in-Ok-read_clipboard.ensures.keeps)
