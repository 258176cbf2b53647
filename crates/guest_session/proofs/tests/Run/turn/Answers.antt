use Rattle.std.proofs.Common.{length}
use Rattle.desk_laws.specs.Frames.{Tape}
use Rattle.std.specs.Prelude.{[], slice_index_or}
use Rattle.io_ports.specs.Memory.{KeepsPost}
use Rattle.guest_session.proofs.CallerLemmas.{turn-kept, still-below, still-as_many, still-room}
use Rattle.guest_session.proofs.tests.Run.turn.Goals as goal

pub invariant_of-self : goal.invariant_of-self
invariant_of-self c =
    let old = c.args.self.now.session in
    let port = c.args.self.now.port in
    let kept = turn-kept KeepsPost c.args.self.now.out c.turn.new.out (Tape (slice_index_or port.tapes old.guest [])) (Tape (slice_index_or c.turn.new.port.tapes old.guest [])) old c.turn.new.self c.turn.result
    c.turn.ensures.turned (λ cause e. (c.turn.ensures.after_end cause e).1) in
    record {
      guest = still-below old c.turn.new.self (length port.tapes) (length c.turn.new.port.tapes) kept c.turn.ensures.port.extent.guests c.args.self.now.guest;
      pages = still-as_many old c.turn.new.self port.pages c.turn.new.port.pages kept c.turn.ensures.port.extent.pages c.args.self.now.pages;
      clip = still-room old c.turn.new.self 3 kept c.args.self.now.clip;
    }
