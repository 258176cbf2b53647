use Rattle.std.proofs.Common.{◌∙◌, sym}
use Rattle.desk_core.proofs.PasteLemmas.{paste-given}
use Rattle.desk_core.proofs.pastes.paste.Goals as goal

pub returns-clause-pastes : goal.returns-clause-pastes
returns-clause-pastes g c = λ limit scene has is.
    paste-given g.O.Outlet.takes c.args.out.now c.give.new.out c.give.new.sessions limit c.args.gate.now c.give.new.gate c.args.id scene is
    c.args.denied.now c.in-Some.source (sym c.in-Some.is ∙ c.source.ensures) (sym c.denies.ensures ∙ c.if-denies.false) (λ content held. c.give.ensures.gives limit scene content has is held)
