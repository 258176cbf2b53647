use Rattle.std.proofs.Common.{Some, sym, arith, rules}
use Rattle.gui_wire.specs.Seen.{daemon_message}
use Rattle.gui_wire.proofs.DaemonLemmas.{beginning-whole, in_front-whole, known-beginning, read-behind}
use Rattle.gui_wire.proofs.daemon_in.read_daemon.Goals as goal

pub returns-then-not-fits_daemon-clause-known : goal.returns-then-not-fits_daemon-clause-known
returns-then-not-fits_daemon-clause-known c = known-beginning _ _ (search rules)

pub returns-then-behind-len-clause-known : goal.returns-then-behind-len-clause-known
returns-then-behind-len-clause-known c = known-beginning _ _ (search rules)

pub returns-in-Some-clause-reads : goal.returns-in-Some-clause-reads
returns-in-Some-clause-reads c =
    let of = read-behind c.args.bytes.now c.header_of-header.result (Some (daemon_message c.in-Some.msg)) c.if-behind-len.false c.in-Some.ensures in
    sym (beginning-whole _ _ _ c.if-bytes-lt-HEAD_LEN.false c.header_of-header.ensures (sym c.if-not-fits_daemon.ensures) of.within of.reads)

pub returns-in-Some-clause-spelled : goal.returns-in-Some-clause-spelled
returns-in-Some-clause-spelled c =
    let of = read-behind c.args.bytes.now c.header_of-header.result (Some (daemon_message c.in-Some.msg)) c.if-behind-len.false c.in-Some.ensures in
    in_front-whole _ _ _ (λ k. omega (arith, c.type_inv.bytes k)) c.if-bytes-lt-HEAD_LEN.false c.header_of-header.ensures (sym c.if-not-fits_daemon.ensures) of.within of.reads

pub returns-in-Some-clause-known : goal.returns-in-Some-clause-known
returns-in-Some-clause-known c =
    let of = read-behind c.args.bytes.now c.header_of-header.result (Some (daemon_message c.in-Some.msg)) c.if-behind-len.false c.in-Some.ensures in
    known-beginning _ _ (sym (beginning-whole _ _ _ c.if-bytes-lt-HEAD_LEN.false c.header_of-header.ensures (sym c.if-not-fits_daemon.ensures) of.within of.reads))
