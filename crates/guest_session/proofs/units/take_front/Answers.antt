use Rattle.std.proofs.Common.{◌∙◌, true, None, sym, ap, subst}
use Rattle.desk_laws.specs.declared.cause.Cause.TheVariants.{ClipTooLong}
use Rattle.desk_laws.specs.Stream.{Whole, Fault, front}
use Rattle.desk_laws.specs.Effects.{verdict}
use Rattle.in_stream.proofs.CallerLemmas.{some_rest, stands-some_rest, has_unit-whole, shown-whole, shown-skipped, shown-need, shown-skipping, shown-clip_fault}
use Rattle.guest_session.specs.declared.turn.Turn.{Turn}
use Rattle.guest_session.specs.Desk.{sizes_in}
use Rattle.guest_session.specs.Parts.{joined, ended_by}
use Rattle.guest_session.specs.Turns.{Turns, clip_turn}
use Rattle.guest_session.proofs.FrontFacts.{message-is, shown-kept, clip-kept, clip-over, fault-is}
use Rattle.guest_session.proofs.TurnLemmas.{turn-waits, turn-faults, turn-clip, turn-message, accepted-decides, refused-decides, carries-numbers}
use Rattle.guest_session.proofs.units.take_front.Goals as goal

pub returns-then-header-eq-CLIPBOARD_DATA-clause-turned : goal.returns-then-header-eq-CLIPBOARD_DATA-clause-turned
returns-then-header-eq-CLIPBOARD_DATA-clause-turned g c = λ rest stands.
    let sizes = sizes_in c.args.desk.now c.args.rows.now in
    let h = c.in-Whole.header in
    let b = c.in-Whole.body.now in
    let e = sym (c.in-Whole.ensures rest stands) in
    let limit = c.args.stream.now.limit in
    let f = shown-whole limit rest h b e in
    let is = c.if-header-eq-CLIPBOARD_DATA.true in
    turn-clip g.O.Outlet.takes c.args.out.now (g.P.FramePort.state c.args.port.now c.args.rows.now.guest) sizes c.args.stream.now c.args.rows.now c.args.minor (front true rest) h b f.0 _ f.1 is
    (clip-kept limit h b is (message-is rest h b f.0 f.1) (shown-kept limit rest h b e) ∙ ap (λ n. clip_turn n b) c.requires.limit)

pub take-requires-clause-len : goal.take-requires-clause-len
take-requires-clause-len g c =
    let s = c.args.stream.now in
    let f = shown-whole s.limit (some_rest s) c.in-Whole.header c.in-Whole.body.now (sym (c.in-Whole.ensures (some_rest s) (stands-some_rest s))) in
    (message-is (some_rest s) c.in-Whole.header c.in-Whole.body.now f.0 f.1).whole

pub take-requires-clause-taken : goal.take-requires-clause-taken
take-requires-clause-taken g c =
    let s = c.args.stream.now in
    let f = shown-whole s.limit (some_rest s) c.in-Whole.header c.in-Whole.body.now (sym (c.in-Whole.ensures (some_rest s) (stands-some_rest s))) in
    (message-is (some_rest s) c.in-Whole.header c.in-Whole.body.now f.0 f.1).fine

pub drop_front-requires-clause-unit : goal.drop_front-requires-clause-unit
drop_front-requires-clause-unit g c =
    let s = c.args.stream.now in
    has_unit-whole s (some_rest s) c.in-Whole.header c.in-Whole.body.now c.requires.greeted (stands-some_rest s) (sym (c.in-Whole.ensures (some_rest s) (stands-some_rest s)))

pub returns-in-Ok-clause-pages : goal.returns-in-Ok-clause-pages
returns-in-Ok-clause-pages g c =
    let rows = c.args.rows.now in
    (carries-numbers g.O.Outlet.takes c.args.out.now c.take.new.out (g.P.FramePort.state c.args.port.now c.args.rows.now.guest) (g.P.FramePort.state c.take.new.port c.args.rows.now.guest) rows c.take.new.rows _ (verdict (sizes_in c.args.desk.now c.args.rows.now) rows.guest c.args.minor rows.rows (Whole c.in-Whole.header c.in-Whole.body.now))
    c.take.ensures.carries).pages

pub returns-in-Ok-clause-tiles : goal.returns-in-Ok-clause-tiles
returns-in-Ok-clause-tiles g c =
    let rows = c.args.rows.now in
    (carries-numbers g.O.Outlet.takes c.args.out.now c.take.new.out (g.P.FramePort.state c.args.port.now c.args.rows.now.guest) (g.P.FramePort.state c.take.new.port c.args.rows.now.guest) rows c.take.new.rows _ (verdict (sizes_in c.args.desk.now c.args.rows.now) rows.guest c.args.minor rows.rows (Whole c.in-Whole.header c.in-Whole.body.now))
    c.take.ensures.carries).tiles

pub returns-in-Ok-clause-turned : goal.returns-in-Ok-clause-turned
returns-in-Ok-clause-turned g c = λ rest stands.
    let sizes = sizes_in c.args.desk.now c.args.rows.now in
    let h = c.in-Whole.header in
    let b = c.in-Whole.body.now in
    let s = c.args.stream.now in
    let rows = c.args.rows.now in
    let f = shown-whole s.limit rest h b (sym (c.in-Whole.ensures rest stands)) in
    turn-message g.O.Outlet.takes c.args.out.now (g.P.FramePort.state c.args.port.now c.args.rows.now.guest) sizes s rows c.args.minor (front true rest) h b f.0 c.take.new.out (g.P.FramePort.state c.take.new.port c.args.rows.now.guest) _ _ f.1 c.if-header-eq-CLIPBOARD_DATA.false
    (accepted-decides g.O.Outlet.takes c.args.out.now (g.P.FramePort.state c.args.port.now c.args.rows.now.guest) sizes s rows c.args.minor c.take.new.out (g.P.FramePort.state c.take.new.port c.args.rows.now.guest) c.drop_front.new.self c.take.new.rows c.in-Ok.drawn h.window f.0
    (verdict sizes rows.guest c.args.minor rows.rows (Whole h b)) c.in-Ok.ensures.carries c.drop_front.ensures.greeted
    (c.drop_front.ensures.drops rest (Whole h b) f.0 stands (ap (λ t. front t rest) c.requires.greeted ∙ f.1)))

pub returns-in-Err-clause-pages : goal.returns-in-Err-clause-pages
returns-in-Err-clause-pages g c =
    let rows = c.args.rows.now in
    ap (λ (r : _). r.pages) c.refuse.ensures.rows
    ∙ (carries-numbers g.O.Outlet.takes c.args.out.now c.take.new.out (g.P.FramePort.state c.args.port.now c.args.rows.now.guest) (g.P.FramePort.state c.take.new.port c.args.rows.now.guest) rows c.take.new.rows _ (verdict (sizes_in c.args.desk.now c.args.rows.now) rows.guest c.args.minor rows.rows (Whole c.in-Whole.header c.in-Whole.body.now))
    c.take.ensures.carries).pages

pub returns-in-Err-clause-tiles : goal.returns-in-Err-clause-tiles
returns-in-Err-clause-tiles g c =
    let rows = c.args.rows.now in
    ap (λ (r : _). r.tiles) c.refuse.ensures.rows
    ∙ (carries-numbers g.O.Outlet.takes c.args.out.now c.take.new.out (g.P.FramePort.state c.args.port.now c.args.rows.now.guest) (g.P.FramePort.state c.take.new.port c.args.rows.now.guest) rows c.take.new.rows _ (verdict (sizes_in c.args.desk.now c.args.rows.now) rows.guest c.args.minor rows.rows (Whole c.in-Whole.header c.in-Whole.body.now))
    c.take.ensures.carries).tiles

pub returns-in-Err-clause-turned : goal.returns-in-Err-clause-turned
returns-in-Err-clause-turned g c = λ rest stands.
    let sizes = sizes_in c.args.desk.now c.args.rows.now in
    let h = c.in-Whole.header in
    let b = c.in-Whole.body.now in
    let s = c.args.stream.now in
    let rows = c.args.rows.now in
    let f = shown-whole s.limit rest h b (sym (c.in-Whole.ensures rest stands)) in
    let P : Turn → Type 0 = λ t. Turns g.O.Outlet.takes c.args.out.now c.take.new.out (g.P.FramePort.state c.args.port.now c.args.rows.now.guest) (g.P.FramePort.state c.take.new.port c.args.rows.now.guest) (joined sizes s rows c.args.minor None) (joined sizes s c.refuse.new.rows c.args.minor (ended_by t)) t (front true rest) in
    subst P (sym c.refuse.ensures.answer)
    (turn-message g.O.Outlet.takes c.args.out.now (g.P.FramePort.state c.args.port.now c.args.rows.now.guest) sizes s rows c.args.minor (front true rest) h b f.0 c.take.new.out (g.P.FramePort.state c.take.new.port c.args.rows.now.guest) _ _ f.1 c.if-header-eq-CLIPBOARD_DATA.false
    (refused-decides g.O.Outlet.takes c.args.out.now (g.P.FramePort.state c.args.port.now c.args.rows.now.guest) sizes s rows c.args.minor c.take.new.out (g.P.FramePort.state c.take.new.port c.args.rows.now.guest) c.take.new.rows c.refuse.new.rows c.in-Err.cause h.window f.0
    (verdict sizes rows.guest c.args.minor rows.rows (Whole h b)) c.in-Err.ensures.carries c.refuse.ensures.rows))

pub returns-in-Bad-clause-turned : goal.returns-in-Bad-clause-turned
returns-in-Bad-clause-turned g c = λ rest stands.
    let sizes = sizes_in c.args.desk.now c.args.rows.now in
    let s = c.args.stream.now in
    let rows = c.args.rows.now in
    let P : Turn → Type 0 = λ t. Turns g.O.Outlet.takes c.args.out.now c.args.out.now (g.P.FramePort.state c.args.port.now c.args.rows.now.guest) (g.P.FramePort.state c.args.port.now c.args.rows.now.guest) (joined sizes s rows c.args.minor None) (joined sizes s c.refuse-in-Bad.new.rows c.args.minor (ended_by t)) t (front true rest) in
    subst P (sym c.refuse-in-Bad.ensures.answer)
    (turn-faults g.O.Outlet.takes c.args.out.now (g.P.FramePort.state c.args.port.now c.args.rows.now.guest) sizes s rows c.args.minor (front true rest) c.refuse-in-Bad.new.rows c.cause_of.result
    (fault-is s.limit rest c.in-Bad.header c.in-Bad.fault (sym (c.in-Bad.ensures rest stands)) ∙ ap Fault (sym c.cause_of.ensures)) c.refuse-in-Bad.ensures.rows)

pub returns-in-ClipLong-clause-turned : goal.returns-in-ClipLong-clause-turned
returns-in-ClipLong-clause-turned g c = λ rest stands.
    let sizes = sizes_in c.args.desk.now c.args.rows.now in
    let s = c.args.stream.now in
    let rows = c.args.rows.now in
    let P : Turn → Type 0 = λ t. Turns g.O.Outlet.takes c.args.out.now c.args.out.now (g.P.FramePort.state c.args.port.now c.args.rows.now.guest) (g.P.FramePort.state c.args.port.now c.args.rows.now.guest) (joined sizes s rows c.args.minor None) (joined sizes s c.refuse-in-ClipLong.new.rows c.args.minor (ended_by t)) t (front true rest) in
    subst P (sym c.refuse-in-ClipLong.ensures.answer)
    (turn-faults g.O.Outlet.takes c.args.out.now (g.P.FramePort.state c.args.port.now c.args.rows.now.guest) sizes s rows c.args.minor (front true rest) c.refuse-in-ClipLong.new.rows (ClipTooLong c.in-ClipLong.header.len 0)
    (shown-clip_fault s.limit rest c.in-ClipLong.header (sym (c.in-ClipLong.ensures rest stands))) c.refuse-in-ClipLong.ensures.rows)

pub returns-in-Skipped-clause-turned : goal.returns-in-Skipped-clause-turned
returns-in-Skipped-clause-turned g c = λ rest stands.
    let sizes = sizes_in c.args.desk.now c.args.rows.now in
    let h = c.in-Skipped.header in
    let limit = c.args.stream.now.limit in
    let m = shown-skipped limit rest h (sym (c.in-Skipped.ensures rest stands)) in
    let k = clip-over limit h m.0.body m.1 (message-is rest h m.0.body m.0.behind m.0.takes) in
    turn-clip g.O.Outlet.takes c.args.out.now (g.P.FramePort.state c.args.port.now c.args.rows.now.guest) sizes c.args.stream.now c.args.rows.now c.args.minor (front true rest) h m.0.body m.0.behind _ m.0.takes k.0 (k.1 ∙ ap (λ n. clip_turn n m.0.body) c.requires.limit)

pub returns-in-Skipping-clause-turned : goal.returns-in-Skipping-clause-turned
returns-in-Skipping-clause-turned g c = λ rest stands.
    let sizes = sizes_in c.args.desk.now c.args.rows.now in
    turn-waits g.O.Outlet.takes c.args.out.now (g.P.FramePort.state c.args.port.now c.args.rows.now.guest) sizes c.args.stream.now c.args.rows.now c.args.minor (front true rest)
    (shown-skipping c.args.stream.now.limit rest c.in-Skipping.left (sym (c.in-Skipping.ensures rest stands)))

pub returns-in-Need-clause-turned : goal.returns-in-Need-clause-turned
returns-in-Need-clause-turned g c = λ rest stands.
    let sizes = sizes_in c.args.desk.now c.args.rows.now in
    turn-waits g.O.Outlet.takes c.args.out.now (g.P.FramePort.state c.args.port.now c.args.rows.now.guest) sizes c.args.stream.now c.args.rows.now c.args.minor (front true rest)
    (shown-need c.args.stream.now.limit rest c.in-Need.more (sym (c.in-Need.ensures rest stands)))
