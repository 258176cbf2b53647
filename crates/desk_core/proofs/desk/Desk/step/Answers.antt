use Rattle.std.proofs.Common.{sym, ◌∙◌}
use Rattle.desk_laws.proofs.SoundLemmas.{steps-keep_sound}
use Rattle.desk_core.proofs.AloneLemmas.{has-guest, step-alone}
use Rattle.desk_core.proofs.StepLemmas.{edges-apart, stands-after}
use Rattle.desk_core.proofs.desk.Desk.step.Goals as goal

pub returns-clause-steps : goal.returns-clause-steps
returns-clause-steps g c = λ setup state stands.
    let took = c.take_item.ensures.took in
    record {
      stands = stands-after setup c.args.self.now c.take_item.new.self (g.P.FramePort.state c.args.port.now) (g.P.FramePort.state c.take_item.new.port) state c.args.item.now c.args.piece.now stands (took.rests setup state stands);
      posts = took.posts setup state stands;
      drawn = λ snap. took.drawn snap setup state stands;
      painted = took.painted setup state stands;
      edges = edges-apart setup c.args.self.now (g.P.FramePort.state c.args.port.now) state stands;
      limits = (steps-keep_sound setup c.args.item.now c.args.piece.now state stands.sound).limits;
    }

pub returns-clause-alone : goal.returns-clause-alone
returns-clause-alone g c = λ setup state stands.
    let took = c.take_item.ensures.took in
    let same = stands.windows.with_rest in
    step-alone setup c.args.item.now c.args.piece.now state c.args.self.now c.take_item.new.self (g.P.FramePort.state c.args.port.now) (g.P.FramePort.state c.take_item.new.port) stands
    (stands-after setup c.args.self.now c.take_item.new.self (g.P.FramePort.state c.args.port.now) (g.P.FramePort.state c.take_item.new.port) state c.args.item.now c.args.piece.now stands (took.rests setup state stands))
    (rw (same.count ∙ sym same.numbers.guests) (has-guest _ _ c.args.item.now _ c.requires.range)) took.sizes.guests g.O.Outlet.takes c.args.out.now c.take_item.new.out (took.posts setup state stands)
