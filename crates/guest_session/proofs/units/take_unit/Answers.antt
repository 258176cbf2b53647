use Rattle.std.proofs.Common.{◌≡◌, ◌∙◌, Bool, true, false, None, sym, subst}
use Rattle.desk_laws.specs.Stream.{front}
use Rattle.guest_session.specs.Desk.{sizes_in}
use Rattle.guest_session.specs.Parts.{joined, ended_by}
use Rattle.guest_session.specs.Turns.{Turns}
use Rattle.guest_session.proofs.units.take_unit.Goals as goal

pub returns-then-greeted-clause-turned : goal.returns-then-greeted-clause-turned
returns-then-greeted-clause-turned g c = λ rest stands.
    let sizes = sizes_in c.args.desk.now c.args.rows.now in
    let greeted : true ≡ c.args.stream.now.greeted = sym c.if-greeted.true ∙ c.greeted.ensures in
    let state = g.P.FramePort.state c.args.port.now c.args.rows.now.guest in
    let state' = g.P.FramePort.state c.take_front.new.port c.args.rows.now.guest in
    let P : Bool → Type 0 = λ b.
    Turns g.O.Outlet.takes c.args.out.now c.take_front.new.out state state' (joined sizes c.args.stream.now c.args.rows.now c.args.minor.now None)
    (joined sizes c.take_front.new.stream c.take_front.new.rows c.args.minor.now (ended_by c.take_front.result)) c.take_front.result (front b rest) in
    subst P greeted (c.take_front.ensures.turned rest stands)

pub returns-else-greeted-clause-turned : goal.returns-else-greeted-clause-turned
returns-else-greeted-clause-turned g c = λ rest stands.
    let sizes = sizes_in c.args.desk.now c.args.rows.now in
    let greeted : false ≡ c.args.stream.now.greeted = sym c.if-greeted.false ∙ c.greeted.ensures in
    let state = g.P.FramePort.state c.args.port.now c.args.rows.now.guest in
    let P : Bool → Type 0 = λ b.
    Turns g.O.Outlet.takes c.args.out.now c.take_word.new.out state state (joined sizes c.args.stream.now c.args.rows.now c.args.minor.now None)
    (joined sizes c.take_word.new.stream c.take_word.new.rows c.take_word.new.minor (ended_by c.take_word.result)) c.take_word.result (front b rest) in
    subst P greeted (c.take_word.ensures.turned state rest stands)
