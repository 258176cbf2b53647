use Rattle.std.proofs.Common.{◌≡◌, ℕ, sym, ap, subst}
use Rattle.in_stream.specs.Received.{Received}
use Rattle.guest_session.specs.Clips.{BeginsWithClip, HasKeptClip}
use Rattle.guest_session.specs.SessionView.{SessionView}
use Rattle.guest_session.proofs.FrontFacts.{clip-body, clip-is_whole}
use Rattle.guest_session.proofs.session.Session.clip.Goals as goal

pub returns-in-Whole : goal.returns-in-Whole
returns-in-Whole c = λ header body begins.
    let stream : c.args.self.now.stream ≡ c.self.inside.stream = ap (λ (v : SessionView). v.stream) (sym c.self.view_is) in
    let P : Received → Type 0 = λ s. BeginsWithClip s header body in
    clip-body c.self.inside.stream c.in-Whole.header c.in-Whole.body.now (λ r stands. c.in-Whole.ensures r stands) header body (subst P stream begins)

pub returns-in_default : goal.returns-in_default
returns-in_default c =
    let P : SessionView → Type 0 = λ v. HasKeptClip v.sizes.clip_limit v.stream in
    let Q : ℕ → Type 0 = λ limit. HasKeptClip limit c.self.inside.stream in
    let w = clip-is_whole c.self.inside.stream c.front.result c.front.ensures (subst Q (sym c.self.invariant.limit) (subst P (sym c.self.view_is) c.requires)) in
    absurd (c.in_default.not-Whole w.0 w.1.0 w.1.1)
