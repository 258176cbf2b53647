use Rattle.io_ports.proofs.WireLemmas.{sends_part}
use Rattle.io_ports.proofs.mem_link.MemLink.send.Goals as goal

pub returns-in-Some-clause-sends : goal.returns-in-Some-clause-sends
returns-in-Some-clause-sends c =
    rw (← c.self.view_is) (sends_part _ _ _ c.self.inside.sent c.keep.new.self c.self.inside.fails.counts c.next.new.self.counts
    c.in-Some.ensures.less c.keep.ensures.kept c.in-Some.ensures.later c.in-Some.ensures.rose c.keep.ensures.others c.in-Some.ensures.others)
