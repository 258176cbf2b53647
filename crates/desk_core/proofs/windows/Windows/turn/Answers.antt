use Rattle.std.proofs.Common.{ℕ, ◌≤◌, List, ap, subst, sym}
use Rattle.std.specs.Prelude.{slice_set, vec_capacity}
use Rattle.desk_laws.specs.declared.setup.Setup.{Setup}
use Rattle.desk_laws.specs.State.{DeskState}
use Rattle.stacking.specs.Stacked.{Stacked}
use Rattle.guest_session.specs.declared.turn.Turn.TheVariants as turns
use Rattle.desk_core.specs.WindowsView.{ChangesPart, part_of, session_in}
use Rattle.desk_core.specs.WindowsStand.{PartStands}
use Rattle.desk_core.specs.Kept.{IsKept}
use Rattle.desk_core.specs.Pieces.{Drained}
use Rattle.desk_core.specs.declared.windows.Told.{Told}
use Rattle.desk_core.specs.declared.windows.Told.TheVariants as answers
use Rattle.desk_core.specs.Telling.{TookTold}
use Rattle.desk_core.proofs.WindowTurns.{wait-kept, wait-took, wait-alone, wait-drained, changed-room, changed-kept, changed-took, changed-fewer, changed-alone, whole-there, clip-there, clip-kept, clip-took, clip-alone, clip-fewer, ended-kept, ended-took, ended-alone, ended-drained}
use Rattle.desk_core.proofs.TurnExits.{over-long}
use Rattle.desk_core.proofs.windows.Windows.turn.Goals as goal

-- ---- nothing whole is there

pub invariant_of-self : goal.invariant_of-self
invariant_of-self g c =
    (wait-kept g.O.Outlet.takes c.args.out.now c.turn.new.out c.args.guest _ c.args.self.now c.self.inside.stack.rows c.self.view_is c.requires.there c.self.invariant.0 c.index_mut-session.result.now c.turn.new.self c.index_mut-session.ensures.value (g.P.FramePort.state c.args.port.now) (g.P.FramePort.state c.turn.new.port) c.in-Wait.ensures.turned c.in-Wait.ensures.after_end, c.self.invariant.1)

pub returns-in-Wait-clause-took : goal.returns-in-Wait-clause-took
returns-in-Wait-clause-took g c =
    wait-took g.O.Outlet.takes c.args.out.now c.turn.new.out c.args.guest _ c.args.self.now c.self.inside.stack.rows c.self.view_is c.requires.there c.self.invariant.0 c.index_mut-session.result.now c.turn.new.self c.index_mut-session.ensures.value (g.P.FramePort.state c.args.port.now) (g.P.FramePort.state c.turn.new.port) c.in-Wait.ensures.turned c.in-Wait.ensures.after_end

pub returns-in-Wait-clause-drained : goal.returns-in-Wait-clause-drained
returns-in-Wait-clause-drained g c =
    λ _. wait-drained g.O.Outlet.takes c.args.out.now c.turn.new.out c.args.guest _ c.args.self.now c.self.inside.stack.rows c.self.view_is c.requires.there c.self.invariant.0 c.index_mut-session.result.now c.turn.new.self c.index_mut-session.ensures.value (g.P.FramePort.state c.args.port.now) (g.P.FramePort.state c.turn.new.port) c.in-Wait.ensures.turned c.in-Wait.ensures.after_end

pub returns-in-Wait-clause-alone : goal.returns-in-Wait-clause-alone
returns-in-Wait-clause-alone g c =
    wait-alone g.O.Outlet.takes c.args.out.now c.turn.new.out c.args.guest _ c.args.self.now c.self.inside.stack.rows c.self.view_is c.requires.there c.self.invariant.0 c.index_mut-session.result.now c.turn.new.self c.index_mut-session.ensures.value (g.P.FramePort.state c.args.port.now) (g.P.FramePort.state c.turn.new.port) c.in-Wait.ensures.turned c.in-Wait.ensures.after_end

-- ---- a message or the version word

pub follow-requires : goal.follow-requires
follow-requires g c =
    changed-room g.O.Outlet.takes c.args.out.now c.turn.new.out c.args.guest _ c.args.self.now c.self.inside.stack.rows c.self.view_is c.requires.there c.self.invariant.0 c.index_mut-session.result.now c.turn.new.self c.index_mut-session.ensures.value (g.P.FramePort.state c.args.port.now) (g.P.FramePort.state c.turn.new.port) c.in-Changed.window c.in-Changed.drawn c.in-Changed.ensures.turned c.in-Changed.ensures.after_end c.layer_of-layer.result c.layer_of-layer.ensures.sound c.layer_of-layer.ensures.is

pub invariant_of-self-in-Changed : goal.invariant_of-self-in-Changed
invariant_of-self-in-Changed g c =
    let i = c.self.inside in
    let R : ℕ → Type 0 = λ rows. IsKept rows
    (record { border = i.border; labels = i.labels.items; sessions = slice_set i.sessions.items c.args.guest c.turn.new.self; layers = c.follow.new.stack.layers; gate = i.gate; denied = i.denied.items; items = i.items; messages = c.count_if-self-inside.result; glances = c.count_read-self-inside.result; picture = i.picture }) × (rows ≤ vec_capacity i.shown) in
    subst R (sym (ap (λ (s : Stacked). s.rows) c.follow.ensures)) (changed-kept g.O.Outlet.takes c.args.out.now c.turn.new.out c.args.guest _ c.args.self.now c.self.inside.stack.rows c.self.view_is c.requires.there c.self.invariant.0 c.index_mut-session.result.now c.turn.new.self c.index_mut-session.ensures.value (g.P.FramePort.state c.args.port.now) (g.P.FramePort.state c.turn.new.port) c.in-Changed.window c.in-Changed.drawn c.in-Changed.ensures.turned c.in-Changed.ensures.after_end c.greeted-greeted.result c.layer_of-layer.result c.follow.new.stack.layers c.count_if-self-inside.result c.count_read-self-inside.result c.layer_of-layer.ensures.sound c.layer_of-layer.ensures.is (ap (λ (s : Stacked). s.layers) c.follow.ensures) c.greeted-greeted.ensures c.count_if-self-inside.ensures c.count_read-self-inside.ensures, c.self.invariant.1)

pub returns-in-Changed-clause-took : goal.returns-in-Changed-clause-took
returns-in-Changed-clause-took g c =
    let i = c.self.inside in
    let A : Told → Type 0 = λ a. (setup : Setup) (held : List ℕ) (state : DeskState) → PartStands setup c.args.guest held (part_of c.args.guest c.args.self.now) (g.P.FramePort.state c.args.port.now c.args.guest) state
    → TookTold g.O.Outlet.takes c.args.out.now c.turn.new.out a setup c.args.guest held (part_of c.args.guest c.args.self.now) (part_of c.args.guest (record { border = i.border; labels = i.labels.items; sessions = slice_set i.sessions.items c.args.guest c.turn.new.self; layers = c.follow.new.stack.layers; gate = i.gate; denied = i.denied.items; items = i.items; messages = c.count_if-self-inside.result; glances = c.count_read-self-inside.result; picture = i.picture })) (g.P.FramePort.state c.turn.new.port c.args.guest) state in
    subst A (sym c.told_of.ensures)
    (changed-took g.O.Outlet.takes c.args.out.now c.turn.new.out c.args.guest _ c.args.self.now c.self.inside.stack.rows c.self.view_is c.requires.there c.self.invariant.0 c.index_mut-session.result.now c.turn.new.self c.index_mut-session.ensures.value (g.P.FramePort.state c.args.port.now) (g.P.FramePort.state c.turn.new.port) c.in-Changed.window c.in-Changed.drawn c.in-Changed.ensures.turned c.in-Changed.ensures.after_end c.greeted-greeted.result c.layer_of-layer.result c.follow.new.stack.layers c.count_if-self-inside.result c.count_read-self-inside.result c.layer_of-layer.ensures.sound c.layer_of-layer.ensures.is (ap (λ (s : Stacked). s.layers) c.follow.ensures) c.greeted-greeted.ensures c.count_if-self-inside.ensures c.count_read-self-inside.ensures)

pub returns-in-Changed-clause-fewer : goal.returns-in-Changed-clause-fewer
returns-in-Changed-clause-fewer g c =
    λ _. changed-fewer g.O.Outlet.takes c.args.out.now c.turn.new.out c.args.guest _ c.args.self.now c.self.inside.stack.rows c.self.view_is c.requires.there c.self.invariant.0 c.index_mut-session.result.now c.turn.new.self c.index_mut-session.ensures.value (g.P.FramePort.state c.args.port.now) (g.P.FramePort.state c.turn.new.port) c.in-Changed.window c.in-Changed.drawn c.in-Changed.ensures.turned c.in-Changed.ensures.after_end c.follow.new.stack.layers c.count_if-self-inside.result c.count_read-self-inside.result

pub returns-in-Changed-clause-alone : goal.returns-in-Changed-clause-alone
returns-in-Changed-clause-alone g c =
    changed-alone g.O.Outlet.takes c.args.out.now c.turn.new.out c.args.guest _ c.args.self.now c.self.inside.stack.rows c.self.view_is c.requires.there c.self.invariant.0 c.index_mut-session.result.now c.turn.new.self c.index_mut-session.ensures.value (g.P.FramePort.state c.args.port.now) (g.P.FramePort.state c.turn.new.port) c.in-Changed.window c.in-Changed.drawn c.in-Changed.ensures.turned c.in-Changed.ensures.after_end c.greeted-greeted.result c.layer_of-layer.result c.follow.new.stack.layers c.count_if-self-inside.result c.count_read-self-inside.result c.layer_of-layer.ensures.sound c.layer_of-layer.ensures.is (ap (λ (s : Stacked). s.layers) c.follow.ensures) c.greeted-greeted.ensures c.count_if-self-inside.ensures c.count_read-self-inside.ensures

-- ---- clipboard data

pub take_clip-requires : goal.take_clip-requires
take_clip-requires g c =
    whole-there g.O.Outlet.takes c.args.out.now c.turn.new.out c.args.guest _ c.args.self.now c.self.inside.stack.rows c.self.view_is c.requires.there c.self.invariant.0 c.index_mut-session.result.now c.turn.new.self c.index_mut-session.ensures.value (g.P.FramePort.state c.args.port.now) (g.P.FramePort.state c.turn.new.port) c.in-ClipWhole.ensures.turned c.in-ClipWhole.ensures.after_end

pub drop_clip-requires : goal.drop_clip-requires
drop_clip-requires g c =
    clip-there g.O.Outlet.takes c.args.out.now c.turn.new.out c.args.guest _ c.args.self.now c.self.inside.stack.rows c.self.view_is c.requires.there c.self.invariant.0 c.index_mut-session.result.now c.turn.new.self c.index_mut-session.ensures.value (g.P.FramePort.state c.args.port.now) (g.P.FramePort.state c.turn.new.port) turns.ClipOver (tt, tt) c.in-ClipOver.ensures.turned c.in-ClipOver.ensures.after_end

pub invariant_of-self-in-ClipWhole : goal.invariant_of-self-in-ClipWhole
invariant_of-self-in-ClipWhole g c = (
  clip-kept g.O.Outlet.takes c.args.out.now c.turn.new.out c.args.guest _ c.args.self.now c.self.inside.stack.rows c.self.view_is c.requires.there c.self.invariant.0 c.index_mut-session.result.now c.turn.new.self c.index_mut-session.ensures.value (g.P.FramePort.state c.args.port.now) (g.P.FramePort.state c.turn.new.port) turns.ClipWhole (tt, tt) c.in-ClipWhole.ensures.turned c.in-ClipWhole.ensures.after_end c.take_clip.new.session c.take_clip.new.gate c.count_if-self-inside-in-ClipWhole.result c.take_clip.ensures.kept c.take_clip.ensures.drops c.take_clip.ensures.greeted
      (λ header body begins answer. c.take_clip.ensures.given header body begins) c.count_if-self-inside-in-ClipWhole.ensures,
  c.self.invariant.1,
)

pub returns-in-ClipWhole-clause-took : goal.returns-in-ClipWhole-clause-took
returns-in-ClipWhole-clause-took g c =
    clip-took g.O.Outlet.takes c.args.out.now c.turn.new.out c.args.guest _ c.args.self.now c.self.inside.stack.rows c.self.view_is c.requires.there c.self.invariant.0 c.index_mut-session.result.now c.turn.new.self c.index_mut-session.ensures.value (g.P.FramePort.state c.args.port.now) (g.P.FramePort.state c.turn.new.port) turns.ClipWhole (tt, tt) c.in-ClipWhole.ensures.turned c.in-ClipWhole.ensures.after_end c.take_clip.new.session c.take_clip.new.gate c.count_if-self-inside-in-ClipWhole.result c.take_clip.ensures.kept c.take_clip.ensures.drops c.take_clip.ensures.greeted
    (λ header body begins answer. c.take_clip.ensures.given header body begins) c.count_if-self-inside-in-ClipWhole.ensures

pub returns-in-ClipWhole-clause-fewer : goal.returns-in-ClipWhole-clause-fewer
returns-in-ClipWhole-clause-fewer g c =
    λ _. clip-fewer g.O.Outlet.takes c.args.out.now c.turn.new.out c.args.guest _ c.args.self.now c.self.inside.stack.rows c.self.view_is c.requires.there c.self.invariant.0 c.index_mut-session.result.now c.turn.new.self c.index_mut-session.ensures.value (g.P.FramePort.state c.args.port.now) (g.P.FramePort.state c.turn.new.port) turns.ClipWhole (tt, tt) c.in-ClipWhole.ensures.turned c.in-ClipWhole.ensures.after_end c.take_clip.new.session c.take_clip.new.gate c.count_if-self-inside-in-ClipWhole.result c.take_clip.ensures.kept c.take_clip.ensures.drops c.take_clip.ensures.greeted
    (λ header body begins answer. c.take_clip.ensures.given header body begins) c.count_if-self-inside-in-ClipWhole.ensures

pub returns-in-ClipWhole-clause-alone : goal.returns-in-ClipWhole-clause-alone
returns-in-ClipWhole-clause-alone g c =
    clip-alone g.O.Outlet.takes c.args.out.now c.turn.new.out c.args.guest _ c.args.self.now c.self.inside.stack.rows c.self.view_is c.requires.there c.self.invariant.0 c.index_mut-session.result.now c.turn.new.self c.index_mut-session.ensures.value (g.P.FramePort.state c.args.port.now) (g.P.FramePort.state c.turn.new.port) turns.ClipWhole (tt, tt) c.in-ClipWhole.ensures.turned c.in-ClipWhole.ensures.after_end c.take_clip.new.session c.take_clip.new.gate c.count_if-self-inside-in-ClipWhole.result c.take_clip.ensures.kept c.take_clip.ensures.drops c.take_clip.ensures.greeted
    (λ header body begins answer. c.take_clip.ensures.given header body begins) c.count_if-self-inside-in-ClipWhole.ensures

pub invariant_of-self-in-ClipOver : goal.invariant_of-self-in-ClipOver
invariant_of-self-in-ClipOver g c = (
  clip-kept g.O.Outlet.takes c.args.out.now c.turn.new.out c.args.guest _ c.args.self.now c.self.inside.stack.rows c.self.view_is c.requires.there c.self.invariant.0 c.index_mut-session.result.now c.turn.new.self c.index_mut-session.ensures.value (g.P.FramePort.state c.args.port.now) (g.P.FramePort.state c.turn.new.port) turns.ClipOver (tt, tt) c.in-ClipOver.ensures.turned c.in-ClipOver.ensures.after_end c.drop_clip.new.session c.drop_clip.new.gate c.count_if-self-inside-in-ClipOver.result c.drop_clip.ensures.kept c.drop_clip.ensures.drops c.drop_clip.ensures.greeted
      (λ header body begins answer. c.drop_clip.ensures.given body (over-long c.self.inside.gate.limit body answer)) c.count_if-self-inside-in-ClipOver.ensures,
  c.self.invariant.1,
)

pub returns-in-ClipOver-clause-took : goal.returns-in-ClipOver-clause-took
returns-in-ClipOver-clause-took g c =
    clip-took g.O.Outlet.takes c.args.out.now c.turn.new.out c.args.guest _ c.args.self.now c.self.inside.stack.rows c.self.view_is c.requires.there c.self.invariant.0 c.index_mut-session.result.now c.turn.new.self c.index_mut-session.ensures.value (g.P.FramePort.state c.args.port.now) (g.P.FramePort.state c.turn.new.port) turns.ClipOver (tt, tt) c.in-ClipOver.ensures.turned c.in-ClipOver.ensures.after_end c.drop_clip.new.session c.drop_clip.new.gate c.count_if-self-inside-in-ClipOver.result c.drop_clip.ensures.kept c.drop_clip.ensures.drops c.drop_clip.ensures.greeted
    (λ header body begins answer. c.drop_clip.ensures.given body (over-long c.self.inside.gate.limit body answer)) c.count_if-self-inside-in-ClipOver.ensures

pub returns-in-ClipOver-clause-fewer : goal.returns-in-ClipOver-clause-fewer
returns-in-ClipOver-clause-fewer g c =
    λ _. clip-fewer g.O.Outlet.takes c.args.out.now c.turn.new.out c.args.guest _ c.args.self.now c.self.inside.stack.rows c.self.view_is c.requires.there c.self.invariant.0 c.index_mut-session.result.now c.turn.new.self c.index_mut-session.ensures.value (g.P.FramePort.state c.args.port.now) (g.P.FramePort.state c.turn.new.port) turns.ClipOver (tt, tt) c.in-ClipOver.ensures.turned c.in-ClipOver.ensures.after_end c.drop_clip.new.session c.drop_clip.new.gate c.count_if-self-inside-in-ClipOver.result c.drop_clip.ensures.kept c.drop_clip.ensures.drops c.drop_clip.ensures.greeted
    (λ header body begins answer. c.drop_clip.ensures.given body (over-long c.self.inside.gate.limit body answer)) c.count_if-self-inside-in-ClipOver.ensures

pub returns-in-ClipOver-clause-alone : goal.returns-in-ClipOver-clause-alone
returns-in-ClipOver-clause-alone g c =
    clip-alone g.O.Outlet.takes c.args.out.now c.turn.new.out c.args.guest _ c.args.self.now c.self.inside.stack.rows c.self.view_is c.requires.there c.self.invariant.0 c.index_mut-session.result.now c.turn.new.self c.index_mut-session.ensures.value (g.P.FramePort.state c.args.port.now) (g.P.FramePort.state c.turn.new.port) turns.ClipOver (tt, tt) c.in-ClipOver.ensures.turned c.in-ClipOver.ensures.after_end c.drop_clip.new.session c.drop_clip.new.gate c.count_if-self-inside-in-ClipOver.result c.drop_clip.ensures.kept c.drop_clip.ensures.drops c.drop_clip.ensures.greeted
    (λ header body begins answer. c.drop_clip.ensures.given body (over-long c.self.inside.gate.limit body answer)) c.count_if-self-inside-in-ClipOver.ensures

-- ---- the end of the session

pub invariant_of-self-in-Ended : goal.invariant_of-self-in-Ended
invariant_of-self-in-Ended g c =
    let i = c.self.inside in
    let S : Stacked → Type 0 = λ s. IsKept s.rows (record { border = i.border; labels = i.labels.items; sessions = slice_set i.sessions.items c.args.guest c.turn.new.self; layers = s.layers; gate = c.forget.new.self; denied = i.denied.items; items = i.items; messages = i.messages; glances = i.glances; picture = i.picture }) × (s.rows ≤ vec_capacity i.shown) in
    subst S (sym c.leave_guest.ensures) (ended-kept g.O.Outlet.takes c.args.out.now c.turn.new.out c.args.guest _ c.args.self.now c.self.inside.stack.rows c.self.view_is c.requires.there c.self.invariant.0 c.index_mut-session.result.now c.turn.new.self c.index_mut-session.ensures.value (g.P.FramePort.state c.args.port.now) (g.P.FramePort.state c.turn.new.port) c.forget.new.self c.forget.ensures c.in-Ended.cause c.ended.new.self c.ended.ensures c.in-Ended.ensures.turned c.in-Ended.ensures.after_end, c.self.invariant.1)

pub returns-in-Ended-clause-took : goal.returns-in-Ended-clause-took
returns-in-Ended-clause-took g c =
    let i = c.self.inside in
    let S : Stacked → Type 0 = λ s. (setup : Setup) (held : List ℕ) (state : DeskState) → PartStands setup c.args.guest held (part_of c.args.guest c.args.self.now) (g.P.FramePort.state c.args.port.now c.args.guest) state
    → TookTold g.O.Outlet.takes c.args.out.now c.ended.new.self answers.Ended setup c.args.guest held (part_of c.args.guest c.args.self.now) (part_of c.args.guest (record { border = i.border; labels = i.labels.items; sessions = slice_set i.sessions.items c.args.guest c.turn.new.self; layers = s.layers; gate = c.forget.new.self; denied = i.denied.items; items = i.items; messages = i.messages; glances = i.glances; picture = i.picture })) (g.P.FramePort.state c.turn.new.port c.args.guest) state in
    subst S (sym c.leave_guest.ensures) (ended-took g.O.Outlet.takes c.args.out.now c.turn.new.out c.args.guest _ c.args.self.now c.self.inside.stack.rows c.self.view_is c.requires.there c.self.invariant.0 c.index_mut-session.result.now c.turn.new.self c.index_mut-session.ensures.value (g.P.FramePort.state c.args.port.now) (g.P.FramePort.state c.turn.new.port) c.forget.new.self c.forget.ensures c.in-Ended.cause c.ended.new.self c.ended.ensures c.in-Ended.ensures.turned c.in-Ended.ensures.after_end)

pub returns-in-Ended-clause-drained : goal.returns-in-Ended-clause-drained
returns-in-Ended-clause-drained g c =
    λ _.
    let i = c.self.inside in
    let S : Stacked → Type 0 = λ s. Drained (session_in c.args.guest (record { border = i.border; labels = i.labels.items; sessions = slice_set i.sessions.items c.args.guest c.turn.new.self; layers = s.layers; gate = c.forget.new.self; denied = i.denied.items; items = i.items; messages = i.messages; glances = i.glances; picture = i.picture })) in
    subst S (sym c.leave_guest.ensures) (ended-drained g.O.Outlet.takes c.args.out.now c.turn.new.out c.args.guest _ c.args.self.now c.self.inside.stack.rows c.self.view_is c.requires.there c.self.invariant.0 c.index_mut-session.result.now c.turn.new.self c.index_mut-session.ensures.value (g.P.FramePort.state c.args.port.now) (g.P.FramePort.state c.turn.new.port) c.forget.new.self c.forget.ensures c.in-Ended.cause c.ended.new.self c.ended.ensures c.in-Ended.ensures.turned c.in-Ended.ensures.after_end)

pub returns-in-Ended-clause-alone : goal.returns-in-Ended-clause-alone
returns-in-Ended-clause-alone g c =
    let i = c.self.inside in
    let S : Stacked → Type 0 = λ s. ChangesPart c.args.guest c.args.self.now (record { border = i.border; labels = i.labels.items; sessions = slice_set i.sessions.items c.args.guest c.turn.new.self; layers = s.layers; gate = c.forget.new.self; denied = i.denied.items; items = i.items; messages = i.messages; glances = i.glances; picture = i.picture }) in
    subst S (sym c.leave_guest.ensures) (ended-alone g.O.Outlet.takes c.args.out.now c.turn.new.out c.args.guest _ c.args.self.now c.self.inside.stack.rows c.self.view_is c.requires.there c.self.invariant.0 c.index_mut-session.result.now c.turn.new.self c.index_mut-session.ensures.value (g.P.FramePort.state c.args.port.now) (g.P.FramePort.state c.turn.new.port) c.forget.new.self c.forget.ensures c.in-Ended.cause c.ended.new.self c.ended.ensures c.in-Ended.ensures.turned c.in-Ended.ensures.after_end)
