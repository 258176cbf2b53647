use Rattle.std.proofs.Common.{ℕ, List, refl, subst}
use Rattle.desk_laws.specs.Scene.{Reply}
use Rattle.guest_session.proofs.replies.tell_place.Goals as goal

pub returns : goal.returns
returns g c =
    let P : List ℕ → Type 0 = λ bytes. g.O.Outlet.takes c.args.out.now (Reply c.args.guest bytes) c.reply.new.self in
    (c.reply.new.self, subst P c.place_bytes.ensures c.reply.ensures, refl)
