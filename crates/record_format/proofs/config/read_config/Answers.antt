use Rattle.record_format.proofs.ReaderLemmas.{head_is, config_unread, config_wrong, config_head, config_read}
use Rattle.record_format.proofs.config.read_config.Goals as goal

pub returns-in-Err-clause-reads : goal.returns-in-Err-clause-reads
returns-in-Err-clause-reads g c = λ bytes told. config_unread bytes _ (c.in-Err.ensures.part bytes told)

pub returns-in-Err-head_of-clause-reads : goal.returns-in-Err-head_of-clause-reads
returns-in-Err-head_of-clause-reads g c = λ bytes told.
    let first = c.in-Ok.ensures.taken bytes told in
    config_wrong c.in-Err-head_of.wrong _ bytes _ (head_is bytes c.fill.new.room c.in-Ok.n 34 (c.in-Ok.ensures.full bytes told) first.room) c.in-Err-head_of.ensures.agrees

pub returns-in-Ok-head_of-clause-reads : goal.returns-in-Ok-head_of-clause-reads
returns-in-Ok-head_of-clause-reads g c = λ bytes told.
    let room = c.fill.new.room in
    let n = c.in-Ok.n in
    let version = c.in-Ok-head_of.version in
    let first = config_head bytes room n version _ c.in-Ok.ensures.bound c.in-Ok-head_of.ensures.long (c.in-Ok.ensures.taken bytes told) c.in-Ok-head_of.ensures.agrees in
    config_read c.read_behind.result bytes room n version _ _ first (c.read_behind.ensures.reads first.rest first.is_left)
