use Rattle.std.proofs.Common.{ℕ, List, subst}
use Rattle.desk_laws.specs.Scene.{Reply}
use Rattle.guest_session.proofs.ReplyLemmas.{acknowledged}
use Rattle.guest_session.proofs.replies.acknowledge.Goals as goal

pub returns-then-minor-ge-DUMP_ACK_MINOR : goal.returns-then-minor-ge-DUMP_ACK_MINOR
returns-then-minor-ge-DUMP_ACK_MINOR g c =
    let P : List ℕ → Type 0 = λ bytes. g.O.Outlet.takes c.args.out.now (Reply c.args.guest bytes) c.reply.new.self in
    acknowledged g.O.Outlet.takes c.args.out.now c.reply.new.self c.args.guest c.args.minor c.args.window c.if-minor-ge-DUMP_ACK_MINOR.true
    (subst P c.spell_daemon.ensures.out c.reply.ensures)
