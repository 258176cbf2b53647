use Rattle.std.proofs.Common.{◌∙◌, length, sym}
use Rattle.desk_core.proofs.SceneLemmas.{carried-nothing, carried-there, grant-keeps, granted-fits}
use Rattle.desk_core.proofs.grants.grant.Goals as goal

pub grant-requires-clause-paste : goal.grant-requires-clause-paste
grant-requires-clause-paste g c =
    granted-fits c.args.sessions.now c.args.id c.index-sessions-id.result (length c.args.bytes.now) (sym c.is_there.ensures ∙ c.if-is_there.true) c.requires.bytes

pub returns-then-is_there-clause-kept : goal.returns-then-is_there-clause-kept
returns-then-is_there-clause-kept g c =
    grant-keeps c.args.sessions.now c.args.id c.args.input.now c.args.bytes.now c.index-sessions-id.result c.grant.new.self (sym c.is_there.ensures ∙ c.if-is_there.true) c.grant.ensures.session

pub returns-then-is_there-clause-granted : goal.returns-then-is_there-clause-granted
returns-then-is_there-clause-granted g c = λ scene has.
    carried-there g.O.Outlet.takes c.args.out.now c.grant.new.out c.args.sessions.now c.args.id c.args.input.now c.args.bytes.now c.index-sessions-id.result c.grant.new.self scene has
    c.requires.fits (sym c.is_there.ensures ∙ c.if-is_there.true) c.grant.ensures.session c.grant.ensures.told

pub returns-else-is_there-clause-granted : goal.returns-else-is_there-clause-granted
returns-else-is_there-clause-granted g c = λ scene has.
    carried-nothing c.args.sessions.now c.args.id c.args.input.now c.args.bytes.now scene has g.O.Outlet.takes c.args.out.now
    (sym c.is_there.ensures ∙ c.if-is_there.false)
