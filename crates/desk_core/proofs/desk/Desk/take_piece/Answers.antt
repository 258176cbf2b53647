use Rattle.std.proofs.Common.{◌∙◌, ℕ, List, drop, sym, subst, arith}
use Rattle.std.proofs.lemmas.List.{take_rest}
use Rattle.desk_laws.specs.Steps.{take_bytes}
use Rattle.frame_pool.proofs.PortLemmas.{frames-changed_twice}
use Rattle.desk_core.specs.PieceSteps.{IsAlong}
use Rattle.desk_core.specs.WindowsStand.{rests_of}
use Rattle.desk_core.specs.WindowsView.{put}
use Rattle.desk_core.proofs.JoinLemmas.{alone-both}
use Rattle.desk_core.proofs.PieceLemmas.{along-first, along-more, along-pushed, along-all, nil-of}
use Rattle.desk_core.proofs.desk.Desk.take_piece.Goals as goal

pub loop-left-init : goal.loop-left-init
loop-left-init g c =
    let guest = c.args.guest in
    let units = c.take_units.ensures in
    record {
      alone = units.alone;
      port = units.port;
      drained = units.drained;
      along = λ setup state rests.
          let takes = g.O.Outlet.takes in
          let before = g.P.FramePort.state c.args.port.now in
          let a = along-first takes c.args.out.now setup guest c.args.self.now before c.args.piece.now state rests c.requires.there in
          along-more takes c.args.out.now c.args.out.now c.take_units.new.out setup guest state c.args.self.now c.take_units.new.self
          (put guest (before guest) before) (put guest (g.P.FramePort.state c.take_units.new.port guest) before) c.args.piece.now _ a
          (units.took setup a.held (rests_of state) before a.state a.stands a.seated);
    }

pub loop-left-preserved : goal.loop-left-preserved
loop-left-preserved g c =
    let guest = c.args.guest in
    let left = c.loop-left.left.now in
    let size = c.push-size.result in
    let done = c.loop-left.invariant in
    let pushed = c.push-size.ensures.pushed in
    let units = c.take_units-in-loop-left.ensures in
    record {
      alone = alone-both guest c.args.self.now.windows c.push-size.new.self.windows c.take_units-in-loop-left.new.self.windows (alone-both guest c.args.self.now.windows c.loop-left.self.windows c.push-size.new.self.windows done.alone pushed.alone) units.alone;
      port = frames-changed_twice done.port units.port;
      drained = units.drained;
      along = λ setup state rests.
          let takes = g.O.Outlet.takes in
          let before = g.P.FramePort.state c.args.port.now in
          let whole = take_bytes setup guest c.args.piece.now state in
          let a = done.along setup state rests in
          let b = along-pushed takes c.args.out.now c.loop-left.out setup guest state c.loop-left.self c.push-size.new.self (g.P.FramePort.state c.loop-left.port guest) before left size whole
          (omega (arith, c.requires.there, done.alone.guests)) a pushed in
          let P : List ℕ → Type 0 = λ l. IsAlong takes c.args.out.now c.take_units-in-loop-left.new.out setup guest state c.take_units-in-loop-left.new.self (put guest (g.P.FramePort.state c.take_units-in-loop-left.new.port guest) before) l whole in
          subst P (sym (take_rest left size))
          (along-more takes c.args.out.now c.loop-left.out c.take_units-in-loop-left.new.out setup guest state c.push-size.new.self c.take_units-in-loop-left.new.self
          (put guest (g.P.FramePort.state c.loop-left.port guest) before) (put guest (g.P.FramePort.state c.take_units-in-loop-left.new.port guest) before) (drop size left) whole b
          (units.took setup b.held (rests_of state) before b.state b.stands b.seated));
    }

pub returns-clause-took : goal.returns-clause-took
returns-clause-took g c = λ setup state rests.
    let guest = c.args.guest in
    along-all g.O.Outlet.takes c.args.out.now c.loop-left.out setup guest c.args.self.now c.loop-left.self (g.P.FramePort.state c.args.port.now) (g.P.FramePort.state c.loop-left.port) state c.loop-left.left.now _
    c.requires.there rests (c.loop-left.invariant.along setup state rests)
    (nil-of c.loop-left.left.now (sym c.is_empty.ensures ∙ c.loop-left-test.false)) c.loop-left.invariant.drained c.loop-left.invariant.alone c.loop-left.invariant.port.others
