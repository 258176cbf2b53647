use Rattle.std.proofs.Common.{◌≡◌, ◌≤◌, Err, length, take, sym, ◌∙◌, ap, subst, arith, length-take}
use Rattle.desk_laws.specs.State.{opening}
use Rattle.desk_laws.specs.Steps.{run}
use Rattle.replay_driver.specs.declared.outcome.Outcome.{Outcome}
use Rattle.replay_driver.specs.FeedOutcomes.{FeedCall, RanOver}
use Rattle.desk_core.specs.DeskView.{guests_of, pages_of}
use Rattle.replay_driver.proofs.WriterLemmas.{rose_before}
use Rattle.replay_driver.proofs.RunLemmas.{started, stepped, ended, cut_short, no_item, too_long, piece_short, item_fits, end_alone, fits_desk, end_or}
use Rattle.replay_driver.proofs.DeskFacts.{guests_is, pages_is}
use Rattle.replay_driver.proofs.run.run_items.Goals as goal

pub loop-n-init : goal.loop-n-init
loop-n-init g c = record {
  so_far = started (FeedCall g.F.Feed.gives g.F.Feed.left g.F.Feed.given) c.args.setup.now c.args.feed.now c.args.desk.now (g.P.FramePort.state c.args.port.now) (g.K.Sink.written c.args.out.now) c.requires.stands c.requires.fresh;
  line = c.requires.line;
  room = c.requires.room;
  guests = c.requires.guests;
  pages = c.requires.pages;
  port_guests = c.requires.port_guests;
  port_pages = c.requires.port_pages;
  keeps = g.met.K.Sink.keeps_same c.args.out.now;
  read_later = omega arith;
  write_later = omega arith;
}

pub returns-in-Err-clause-ran : goal.returns-in-Err-clause-ran
returns-in-Err-clause-ran g c =
    subst (λ (o : Outcome). RanOver (FeedCall g.F.Feed.gives g.F.Feed.left g.F.Feed.given) c.args.setup.now c.args.bounds.items c.args.feed.now c.next.new.self o (g.P.FramePort.state c.loop-n.port) (g.K.Sink.written c.args.out.now) (g.K.Sink.written c.loop-n.out))
    (sym c.after_feed.ensures.is)
    (no_item (FeedCall g.F.Feed.gives g.F.Feed.left g.F.Feed.given) c.args.setup.now c.loop-n._n c.args.bounds.items c.args.feed.now c.loop-n.feed c.next.new.self c.loop-n.desk _ _ _ _ c.requires.sound c.loop-n.invariant.so_far
    (record { gave = c.in-Err.ensures.gives; next = c.in-Err.ensures.coming; counts = c.in-Err.ensures.given }) (omega arith))

pub returns-in-Err-clause-keeps : goal.returns-in-Err-clause-keeps
returns-in-Err-clause-keeps g c = c.loop-n.invariant.keeps

pub returns-in-Err-clause-read_later : goal.returns-in-Err-clause-read_later
returns-in-Err-clause-read_later g c = omega (arith, c.loop-n.invariant.read_later, c.next.ensures.later)

pub returns-in-Err-clause-read : goal.returns-in-Err-clause-read
returns-in-Err-clause-read g c = λ is. rose_before _ _ _ c.loop-n.invariant.read_later (c.in-Err.ensures.failed (ap Err (c.after_feed.ensures.read is)))

pub returns-in-Err-clause-write_later : goal.returns-in-Err-clause-write_later
returns-in-Err-clause-write_later g c = c.loop-n.invariant.write_later

pub slice_bounds-piece-end : goal.slice_bounds-piece-end
slice_bounds-piece-end g c =
    omega (arith, c.loop-n.invariant.room, c.next.auto.room, piece_short _ _ c.in-Ok.next.item c.in-Ok.next.len c.in-Ok.ensures.range)

pub write_item-requires-clause-range : goal.write_item-requires-clause-range
write_item-requires-clause-range g c =
    let short : c.in-Ok.next.len ≤ length c.next.new.room = omega (arith, c.loop-n.invariant.room, c.next.auto.room, piece_short _ _ c.in-Ok.next.item c.in-Ok.next.len c.in-Ok.ensures.range) in
    let long : c.in-Ok.next.len ≡ length (take c.in-Ok.next.len c.next.new.room) = omega (arith, length-take c.in-Ok.next.len c.next.new.room) in
    fits_desk _ (guests_of c.loop-n.desk) _ (pages_of c.loop-n.desk) c.in-Ok.next.item c.in-Ok.next.len _
    (c.loop-n.invariant.guests ∙ sym (guests_is _ _ _ _ c.loop-n.invariant.so_far.stands))
    (c.loop-n.invariant.pages ∙ sym (pages_is _ _ _ _ c.loop-n.invariant.so_far.stands)) long c.in-Ok.ensures.range

pub write_item-requires-clause-port : goal.write_item-requires-clause-port
write_item-requires-clause-port g c = record {
  guests = c.loop-n.invariant.port_guests ∙ sym (guests_is _ _ _ _ c.loop-n.invariant.so_far.stands);
  pages = c.loop-n.invariant.port_pages ∙ sym (pages_is _ _ _ _ c.loop-n.invariant.so_far.stands);
}

pub write_item-requires-clause-suits : goal.write_item-requires-clause-suits
write_item-requires-clause-suits g c = record {
  setup = c.args.setup.now;
  state = (run c.args.setup.now c.loop-n.invariant.so_far.given (opening c.args.setup.now)).desk;
  stands = c.loop-n.invariant.so_far.stands;
  fits = c.requires.fits;
  heads_are = c.requires.heads;
  line_is = c.loop-n.invariant.line;
}

pub returns-in-Err-write_item-clause-ran : goal.returns-in-Err-write_item-clause-ran
returns-in-Err-write_item-clause-ran g c =
    let so_far = c.loop-n.invariant.so_far in
    let wrote = c.in-Err-write_item.ensures.writes c.args.setup.now (run c.args.setup.now so_far.given (opening c.args.setup.now)).desk so_far.stands in
    cut_short (FeedCall g.F.Feed.gives g.F.Feed.left g.F.Feed.given) c.args.setup.now c.loop-n._n c.args.bounds.items _ _ _ _ c.write_item.new.desk _ _ _ _ _ _ c.requires.sound so_far
    (record { gave = c.in-Ok.ensures.gives; next = c.in-Ok.ensures.coming; counts = c.in-Ok.ensures.given })
    (item_fits c.args.setup.now _ _ c.in-Ok.next.item c.in-Ok.next.len c.next.new.room c.loop-n.invariant.guests c.loop-n.invariant.pages (omega (arith, c.loop-n.invariant.room, c.next.auto.room)) c.in-Ok.ensures.range)
    (end_or _ _ c.in-Ok.next.item c.in-Ok.next.len c.next.new.room c.in-Ok.ensures.range) (omega arith) wrote.stands wrote.causes wrote.painted wrote.wrote

pub returns-in-Err-write_item-clause-keeps : goal.returns-in-Err-write_item-clause-keeps
returns-in-Err-write_item-clause-keeps g c =
    let so_far = c.loop-n.invariant.so_far in
    let wrote = c.in-Err-write_item.ensures.writes c.args.setup.now (run c.args.setup.now so_far.given (opening c.args.setup.now)).desk so_far.stands in
    g.met.K.Sink.keeps_on _ _ _ c.loop-n.invariant.keeps wrote.keeps_sink

pub returns-in-Err-write_item-clause-write_later : goal.returns-in-Err-write_item-clause-write_later
returns-in-Err-write_item-clause-write_later g c =
    let so_far = c.loop-n.invariant.so_far in
    let wrote = c.in-Err-write_item.ensures.writes c.args.setup.now (run c.args.setup.now so_far.given (opening c.args.setup.now)).desk so_far.stands in
    omega (arith, c.loop-n.invariant.write_later, wrote.cause.later)

pub returns-in-Err-write_item-clause-write : goal.returns-in-Err-write_item-clause-write
returns-in-Err-write_item-clause-write g c = λ is.
    let so_far = c.loop-n.invariant.so_far in
    let wrote = c.in-Err-write_item.ensures.writes c.args.setup.now (run c.args.setup.now so_far.given (opening c.args.setup.now)).desk so_far.stands in
    rose_before _ _ _ c.loop-n.invariant.write_later wrote.cause.failed

pub returns-in-Err-write_item-clause-read_later : goal.returns-in-Err-write_item-clause-read_later
returns-in-Err-write_item-clause-read_later g c = omega (arith, c.loop-n.invariant.read_later, c.in-Ok.ensures.later)

pub returns-then-is_end-clause-ran : goal.returns-then-is_end-clause-ran
returns-then-is_end-clause-ran g c =
    let so_far = c.loop-n.invariant.so_far in
    let wrote = c.in-Ok-write_item.ensures.writes c.args.setup.now (run c.args.setup.now so_far.given (opening c.args.setup.now)).desk so_far.stands in
    ended (FeedCall g.F.Feed.gives g.F.Feed.left g.F.Feed.given) c.args.setup.now c.loop-n._n c.args.bounds.items _ _ _ _ c.write_item.new.desk _ _ _ _ _ _ c.requires.sound so_far
    (record { gave = c.in-Ok.ensures.gives; next = c.in-Ok.ensures.coming; counts = c.in-Ok.ensures.given })
    (item_fits c.args.setup.now _ _ c.in-Ok.next.item c.in-Ok.next.len c.next.new.room c.loop-n.invariant.guests c.loop-n.invariant.pages (omega (arith, c.loop-n.invariant.room, c.next.auto.room)) c.in-Ok.ensures.range)
    (end_alone _ _ c.in-Ok.next.item c.in-Ok.next.len c.next.new.room c.in-Ok.ensures.range (sym c.is_end.ensures ∙ c.if-is_end.true)) (omega arith) wrote.stands wrote.causes wrote.painted wrote.wrote

pub returns-then-is_end-clause-keeps : goal.returns-then-is_end-clause-keeps
returns-then-is_end-clause-keeps g c =
    let so_far = c.loop-n.invariant.so_far in
    let wrote = c.in-Ok-write_item.ensures.writes c.args.setup.now (run c.args.setup.now so_far.given (opening c.args.setup.now)).desk so_far.stands in
    g.met.K.Sink.keeps_on _ _ _ c.loop-n.invariant.keeps wrote.keeps_sink

pub returns-then-is_end-clause-read_later : goal.returns-then-is_end-clause-read_later
returns-then-is_end-clause-read_later g c = omega (arith, c.loop-n.invariant.read_later, c.in-Ok.ensures.later)

pub returns-then-is_end-clause-write_later : goal.returns-then-is_end-clause-write_later
returns-then-is_end-clause-write_later g c =
    let so_far = c.loop-n.invariant.so_far in
    let wrote = c.in-Ok-write_item.ensures.writes c.args.setup.now (run c.args.setup.now so_far.given (opening c.args.setup.now)).desk so_far.stands in
    omega (arith, c.loop-n.invariant.write_later, wrote.cause.later)

pub loop-n-preserved : goal.loop-n-preserved
loop-n-preserved g c =
    let so_far = c.loop-n.invariant.so_far in
    let wrote = c.in-Ok-write_item.ensures.writes c.args.setup.now (run c.args.setup.now so_far.given (opening c.args.setup.now)).desk so_far.stands in
    record {
      so_far = stepped (FeedCall g.F.Feed.gives g.F.Feed.left g.F.Feed.given) c.args.setup.now c.loop-n._n _ _ _ _ _ _ _ _ _ _ _ _ so_far
          (record { gave = c.in-Ok.ensures.gives; next = c.in-Ok.ensures.coming; counts = c.in-Ok.ensures.given })
          (item_fits c.args.setup.now _ _ c.in-Ok.next.item c.in-Ok.next.len c.next.new.room c.loop-n.invariant.guests c.loop-n.invariant.pages (omega (arith, c.loop-n.invariant.room, c.next.auto.room)) c.in-Ok.ensures.range)
          (sym c.is_end.ensures ∙ c.if-is_end.false) wrote.stands wrote.causes wrote.painted wrote.wrote;
      line = omega (arith, c.loop-n.invariant.line);
      room = omega (arith, c.loop-n.invariant.room);
      guests = c.in-Ok.ensures.guests ∙ c.loop-n.invariant.guests;
      pages = c.in-Ok.ensures.pages ∙ c.loop-n.invariant.pages;
      port_guests = c.in-Ok-write_item.ensures.port.guests ∙ c.loop-n.invariant.port_guests;
      port_pages = c.in-Ok-write_item.ensures.port.pages ∙ c.loop-n.invariant.port_pages;
      keeps = g.met.K.Sink.keeps_on _ _ _ c.loop-n.invariant.keeps wrote.keeps_sink;
      read_later = omega (arith, c.loop-n.invariant.read_later, c.in-Ok.ensures.later);
      write_later = omega (arith, c.loop-n.invariant.write_later, wrote.cause.later);
    }

pub returns-clause-ran : goal.returns-clause-ran
returns-clause-ran g c = too_long (FeedCall g.F.Feed.gives g.F.Feed.left g.F.Feed.given) c.args.setup.now c.loop-n._n c.args.bounds.items _ _ _ _ _ _ c.requires.sound c.loop-n.invariant.so_far (omega arith)

pub returns-clause-keeps : goal.returns-clause-keeps
returns-clause-keeps g c = c.loop-n.invariant.keeps

pub returns-clause-read_later : goal.returns-clause-read_later
returns-clause-read_later g c = c.loop-n.invariant.read_later

pub returns-clause-write_later : goal.returns-clause-write_later
returns-clause-write_later g c = c.loop-n.invariant.write_later
