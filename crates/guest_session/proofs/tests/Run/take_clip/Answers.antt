use Rattle.std.proofs.Common.{◌∙◌, ap, refl, length}
use Rattle.std.specs.Prelude.{[], slice_index_or}
use Rattle.desk_laws.specs.Frames.{Tape}
use Rattle.desk_laws.specs.Stream.{front}
use Rattle.in_stream.proofs.CallerLemmas.{some_rest, stands-some_rest}
use Rattle.io_ports.specs.Memory.{KeepsPost}
use Rattle.guest_session.specs.SessionView.{SessionView}
use Rattle.guest_session.proofs.FrontFacts.{kept-clip}
use Rattle.guest_session.proofs.CallerLemmas.{Kept, turn-found, found-kept, turn-kept, still-below, still-as_many, still-room}
use Rattle.guest_session.proofs.tests.Run.take_clip.Goals as goal

pub clip-len-requires : goal.clip-len-requires
clip-len-requires c =
    let old = c.args.self.now.session in
    let rest = some_rest old.stream in
    let stands = stands-some_rest old.stream in
    let tape = Tape (slice_index_or c.args.self.now.port.tapes old.guest []) in
    let tape' = Tape (slice_index_or c.turn.new.port.tapes old.guest []) in
    found-kept old c.turn.new.self rest stands
    (turn-found KeepsPost c.args.self.now.out c.turn.new.out tape tape' old c.turn.new.self _ (front old.stream.greeted rest) (c.in-ClipWhole.ensures.turned c.requires rest stands) refl)

pub clip_done-requires : goal.clip_done-requires
clip_done-requires c =
    let old = c.args.self.now.session in
    let rest = some_rest old.stream in
    let stands = stands-some_rest old.stream in
    let tape = Tape (slice_index_or c.args.self.now.port.tapes old.guest []) in
    let tape' = Tape (slice_index_or c.turn.new.port.tapes old.guest []) in
    kept-clip c.turn.new.self.sizes.clip_limit c.turn.new.self.stream
    (found-kept old c.turn.new.self rest stands
    (turn-found KeepsPost c.args.self.now.out c.turn.new.out tape tape' old c.turn.new.self _ (front old.stream.greeted rest) (c.in-ClipWhole.ensures.turned c.requires rest stands) refl))

pub invariant_of-self : goal.invariant_of-self
invariant_of-self c =
    let old = c.args.self.now.session in
    let port = c.args.self.now.port in
    let tape = Tape (slice_index_or port.tapes old.guest []) in
    let tape' = Tape (slice_index_or c.turn.new.port.tapes old.guest []) in
    let kept = turn-kept KeepsPost c.args.self.now.out c.turn.new.out tape tape' old c.turn.new.self c.turn.result
    c.turn.ensures.turned (λ cause e. (c.turn.ensures.after_end cause e).1) in
    let after : Kept old c.clip_done.new.self = record {
      guest = ap (λ (s : SessionView). s.guest) c.clip_done.ensures.kept ∙ kept.guest;
      sizes = ap (λ (s : SessionView). s.sizes) c.clip_done.ensures.kept ∙ kept.sizes;
    } in
    record {
      guest = still-below old c.clip_done.new.self (length port.tapes) (length c.turn.new.port.tapes) after c.turn.ensures.port.extent.guests c.args.self.now.guest;
      pages = still-as_many old c.clip_done.new.self port.pages c.turn.new.port.pages after c.turn.ensures.port.extent.pages c.args.self.now.pages;
      clip = still-room old c.clip_done.new.self 3 after c.args.self.now.clip;
    }

pub invariant_of-self-in_default : goal.invariant_of-self-in_default
invariant_of-self-in_default c =
    let old = c.args.self.now.session in
    let port = c.args.self.now.port in
    let tape = Tape (slice_index_or port.tapes old.guest []) in
    let tape' = Tape (slice_index_or c.turn.new.port.tapes old.guest []) in
    let kept = turn-kept KeepsPost c.args.self.now.out c.turn.new.out tape tape' old c.turn.new.self c.turn.result
    c.turn.ensures.turned (λ cause e. (c.turn.ensures.after_end cause e).1) in
    record {
      guest = still-below old c.turn.new.self (length port.tapes) (length c.turn.new.port.tapes) kept c.turn.ensures.port.extent.guests c.args.self.now.guest;
      pages = still-as_many old c.turn.new.self port.pages c.turn.new.port.pages kept c.turn.ensures.port.extent.pages c.args.self.now.pages;
      clip = still-room old c.turn.new.self 3 kept c.args.self.now.clip;
    }
