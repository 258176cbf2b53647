use Rattle.std.proofs.Common.{◌∙◌, ℕ, List, ◌≤◌, is_some, ap, subst, sym}
use Rattle.std.specs.Prelude.{slice_set, vec_capacity}
use Rattle.desk_laws.specs.declared.setup.Setup.{Setup}
use Rattle.desk_laws.specs.Frames.{PortState}
use Rattle.desk_laws.specs.Scene.{Input}
use Rattle.desk_laws.specs.State.{DeskState}
use Rattle.desk_laws.specs.Steps.{end_session}
use Rattle.stacking.specs.Stacked.{Stacked}
use Rattle.desk_core.specs.declared.windows.Told.TheVariants as answers
use Rattle.desk_core.specs.Telling.{EndsTold, KeepsStanding}
use Rattle.desk_core.specs.WindowsStand.{AreAtRest, StandsWith}
use Rattle.desk_core.specs.Kept.{IsKept}
use Rattle.desk_core.proofs.WindowEnds.{end-kept, end-stands, end-took, over-stands, over-took}
use Rattle.desk_core.proofs.PieceLemmas.{not-some}
use Rattle.desk_core.proofs.windows.Windows.end.Goals as goal

pub invariant_of-self : goal.invariant_of-self
invariant_of-self g c =
    let i = c.self.inside in
    let S : Stacked → Type 0 = λ s. IsKept s.rows (record { border = i.border; labels = i.labels.items; sessions = slice_set i.sessions.items c.args.guest c.end.new.self; layers = s.layers; gate = c.forget.new.self; denied = i.denied.items; items = i.items; messages = i.messages; glances = i.glances; picture = i.picture }) × (s.rows ≤ vec_capacity i.shown) in
    subst S (sym c.leave_guest.ensures) (end-kept c.args.guest _ c.args.self.now c.self.view_is c.requires.there c.index_mut.result.now c.end.new.self c.index_mut.ensures.value c.forget.new.self c.forget.ensures c.args.cause c.end.ensures c.self.inside.stack.rows c.self.invariant.0, c.self.invariant.1)

pub returns-clause-took : goal.returns-clause-took
returns-clause-took g c =
    let i = c.self.inside in
    let t = c.index.result.now in
    let S : Stacked → Type 0 = λ s. (setup : Setup) (frames : ℕ → PortState) (input : Input) (state : DeskState) → AreAtRest setup c.args.self.now frames state
    → EndsTold g.O.Outlet.takes c.args.out.now c.ended-2.new.self answers.Ended setup (record { border = i.border; labels = i.labels.items; sessions = slice_set i.sessions.items c.args.guest c.end.new.self; layers = s.layers; gate = c.forget.new.self; denied = i.denied.items; items = i.items; messages = i.messages; glances = i.glances; picture = i.picture }) frames state (end_session setup c.args.guest input c.args.cause state) in
    subst S (sym c.leave_guest.ensures)
    (end-took c.args.guest _ c.args.self.now c.self.view_is c.requires.there c.index_mut.result.now c.end.new.self c.index_mut.ensures.value c.forget.new.self c.forget.ensures c.args.cause c.end.ensures g.O.Outlet.takes c.args.out.now c.ended-2.new.self t c.index.ensures
    (not-some t.ended (ap is_some (sym c.ended.ensures) ∙ sym c.is_some.ensures ∙ c.if-is_some.false)) c.ended-2.ensures)

pub returns-then-is_some-clause-took : goal.returns-then-is_some-clause-took
returns-then-is_some-clause-took g c = λ setup frames input state rests.
    let t = c.index.result.now in
    over-took g.O.Outlet.takes c.args.out.now c.args.guest _ c.args.self.now c.self.view_is c.requires.there t c.index.ensures (ap is_some (sym c.ended.ensures) ∙ sym c.is_some.ensures ∙ c.if-is_some.true) setup frames input c.args.cause state rests

pub returns-then-is_some-clause-stands : goal.returns-then-is_some-clause-stands
returns-then-is_some-clause-stands g c = over-stands c.args.self.now

pub returns-clause-stands : goal.returns-clause-stands
returns-clause-stands g c =
    let i = c.self.inside in
    let S : Stacked → Type 0 = λ s. (setup : Setup) (held : ℕ → List ℕ) (frames : ℕ → PortState) (state : DeskState) → StandsWith setup held c.args.self.now frames state
    → KeepsStanding answers.Ended setup (record { border = i.border; labels = i.labels.items; sessions = slice_set i.sessions.items c.args.guest c.end.new.self; layers = s.layers; gate = c.forget.new.self; denied = i.denied.items; items = i.items; messages = i.messages; glances = i.glances; picture = i.picture }) frames state in
    subst S (sym c.leave_guest.ensures)
    (end-stands c.args.guest _ c.args.self.now c.self.view_is c.requires.there c.index_mut.result.now c.end.new.self c.index_mut.ensures.value c.forget.new.self c.forget.ensures c.args.cause c.end.ensures)
