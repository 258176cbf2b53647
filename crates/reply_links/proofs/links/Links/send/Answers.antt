use Rattle.std.proofs.Common.{List, set, [], ◌==◌, if◌then◌else◌, subst, sym, refl}
use Rattle.reply_links.specs.declared.links.LinkState.{LinkState}
use Rattle.reply_links.specs.declared.links.LinkState.TheVariants as links
use Rattle.reply_links.specs.Sends.{LinksSend}
use Rattle.reply_links.proofs.SendLemmas.{links_cut}
use Rattle.reply_links.proofs.links.Links.send.Goals as goal

pub returns-in-Err-clause-sends : goal.returns-in-Err-clause-sends
returns-in-Err-clause-sends g c =
    subst (λ (l : List LinkState). LinksSend c.args.self.now (set l c.args.guest links.Cut) (λ other. if c.args.guest == other then c.args.bytes.now else [])
    (record { sent = g.W.Link.sent c.args.wire.now; faults = g.W.Link.send_faults c.args.wire.now }) (record { sent = g.W.Link.sent c.send.new.self; faults = g.W.Link.send_faults c.send.new.self }))
    (sym c.self.view_is)
    (links_cut c.args.self.now (record { sent = g.W.Link.sent c.args.wire.now; faults = g.W.Link.send_faults c.args.wire.now }) (record { sent = g.W.Link.sent c.send.new.self; faults = g.W.Link.send_faults c.send.new.self })
    c.args.guest c.args.bytes.now c.in-Err.field-0 (c.in-Open.ensures.known refl) (sym c.in-Open.ensures.is) c.in-Err.ensures.sends)
