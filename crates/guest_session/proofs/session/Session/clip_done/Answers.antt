use Rattle.std.proofs.Common.{◌≡◌, sym, ap, subst}
use Rattle.in_stream.specs.Received.{Received}
use Rattle.in_stream.specs.Taking.{DropsUnit}
use Rattle.guest_session.specs.Clips.{HasClip}
use Rattle.guest_session.specs.SessionView.{SessionView}
use Rattle.guest_session.proofs.FrontFacts.{clip-unit}
use Rattle.guest_session.proofs.session.Session.clip_done.Goals as goal

pub drop_front-requires-clause-unit : goal.drop_front-requires-clause-unit
drop_front-requires-clause-unit c =
    let stream : c.args.self.now.stream ≡ c.self.inside.stream = ap (λ (v : SessionView). v.stream) (sym c.self.view_is) in
    clip-unit c.self.inside.stream (subst HasClip stream c.requires)

pub returns-clause-drops : goal.returns-clause-drops
returns-clause-drops c =
    let stream : c.self.inside.stream ≡ c.args.self.now.stream = ap (λ (v : SessionView). v.stream) c.self.view_is in
    let P : Received → Type 0 = λ s. DropsUnit s c.drop_front.new.self in
    subst P stream c.drop_front.ensures.drops
