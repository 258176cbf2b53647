use Rattle.frame_pool.proofs.PortLemmas.{frames-changed_twice, frames-unchanged}
use Rattle.desk_core.specs.WindowsView.{put}
use Rattle.desk_core.proofs.JoinLemmas.{alone-both, alone-none}
use Rattle.desk_core.proofs.PieceLemmas.{took-more, took-none}
use Rattle.desk_core.proofs.desk.Desk.take_units.Goals as goal

pub loop-init : goal.loop-init
loop-init g c =
    let guest = c.args.guest in
    record {
      alone = alone-none guest c.args.self.now.windows;
      port = frames-unchanged c.args.port.now;
      took = λ setup held others frames state stands seated.
          took-none g.O.Outlet.takes c.args.out.now setup guest held others c.args.self.now (put guest (g.P.FramePort.state c.args.port.now guest) frames) state stands seated;
    }

pub loop-preserved : goal.loop-preserved
loop-preserved g c =
    let guest = c.args.guest in
    let done = c.loop.invariant in
    let turn = c.take_turn.ensures in
    record {
      alone = alone-both guest c.args.self.now.windows c.loop.self.windows c.take_turn.new.self.windows done.alone turn.alone;
      port = frames-changed_twice done.port turn.port;
      took = λ setup held others frames state stands seated.
          let first = done.took setup held others frames state stands seated in
          took-more g.O.Outlet.takes c.args.out.now c.loop.out c.take_turn.new.out setup guest held others c.args.self.now c.loop.self c.take_turn.new.self
          (put guest (g.P.FramePort.state c.loop.port guest) frames) (put guest (g.P.FramePort.state c.take_turn.new.port guest) frames) state first
          (turn.took setup first.behind others frames first.outcome.desk first.stands first.seated);
    }

pub returns-clause-took : goal.returns-clause-took
returns-clause-took g c = λ setup held others frames state stands seated.
    let guest = c.args.guest in
    let first = c.loop.invariant.took setup held others frames state stands seated in
    took-more g.O.Outlet.takes c.args.out.now c.loop.out c.take_turn.new.out setup guest held others c.args.self.now c.loop.self c.take_turn.new.self
    (put guest (g.P.FramePort.state c.loop.port guest) frames) (put guest (g.P.FramePort.state c.take_turn.new.port guest) frames) state first
    (c.take_turn.ensures.took setup first.behind others frames first.outcome.desk first.stands first.seated)

pub returns-clause-drained : goal.returns-clause-drained
returns-clause-drained g c = c.take_turn.ensures.drained c.loop-test.false
