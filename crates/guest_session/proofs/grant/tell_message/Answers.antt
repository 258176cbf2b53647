use Rattle.std.proofs.Common.{ℕ, List, refl, subst}
use Rattle.gui_wire.specs.Seen.{daemon_message}
use Rattle.desk_laws.specs.Scene.{Reply}
use Rattle.guest_session.proofs.GrantedLemmas.{spelled-front}
use Rattle.guest_session.proofs.grant.tell_message.Goals as goal

pub returns-clause-told : goal.returns-clause-told
returns-clause-told g c =
    let P : List ℕ → Type 0 = λ bytes. g.O.Outlet.takes c.args.out.now (Reply c.args.guest bytes) c.reply.new.self in (
      c.reply.new.self,
      subst P (spelled-front c.args.window (daemon_message c.args.msg.now) c.args.room.now c.spell_daemon-len.new.out c.spell_daemon-len.result c.spell_daemon-len.ensures.out c.spell_daemon-len.ensures.len) c.reply.ensures,
      refl,
    )
