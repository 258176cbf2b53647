use Rattle.std.proofs.Common.{◌≡◌, ℕ, List, ◌++◌, take, ap, subst}
use Rattle.in_stream.specs.Received.{Received, StandsFor}
use Rattle.guest_session.specs.SessionView.{SessionView}
use Rattle.guest_session.proofs.session.Session.push.Goals as goal

pub returns-clause-stands : goal.returns-clause-stands
returns-clause-stands c = λ going.
    let stream : c.self.inside.stream ≡ c.args.self.now.stream = ap (λ (v : SessionView). v.stream) c.self.view_is in
    let P : Received → Type 0 = λ s. (rest : List ℕ) → StandsFor s rest → StandsFor c.push.new.self (rest ++ take c.push.result c.args.piece.now) in
    subst P stream c.push.ensures.stands
