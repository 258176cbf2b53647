use Rattle.std.proofs.Common.{◌≡◌, ◌+◌, ◌-◌, length, take, drop, ◌++◌, min, sym, ap, ◌∙◌, arith, length-take, length-drop, append_assoc}
use Rattle.std.proofs.Math.Seq.{take-add}
use Rattle.std.proofs.lemmas.List.{take_rest}
use Rattle.in_stream.specs.Received.{Received, StandsFor, longest}
use Rattle.in_stream.specs.Taking.{to_skip, kept, room}
use Rattle.in_stream.proofs.StandsLemmas.{stands-more}
use Rattle.in_stream.proofs.TakingLemmas.{sound-more, taken_in_all}
use Rattle.in_stream.proofs.FrontLemmas.{room-waits}
use Rattle.in_stream.proofs.stream.InStream.push.Goals as goal

pub invariant_of-self : goal.invariant_of-self
invariant_of-self c =
    let s : Received = record { limit = c.self.inside.limit; greeted = c.self.inside.greeted; held = c.self.inside.buffer; skipped = c.self.inside.skipped } in
    let xs = take (length c.args.piece.now - c.skip-skipped.result) (drop c.skip-skipped.result c.args.piece.now) in
    rw c.append.ensures.is (sound-more s (take c.append.result xs) c.self.invariant
    (omega (arith, length-take c.append.result xs, c.append.ensures.count, c.self.invariant.short)))

pub returns-clause-stands : goal.returns-clause-stands
returns-clause-stands c = λ r h.
    let s : Received = record { limit = c.self.inside.limit; greeted = c.self.inside.greeted; held = c.self.inside.buffer; skipped = c.self.inside.skipped } in
    let n = c.skip-skipped.result in
    let piece = c.args.piece.now in
    let xs = take (length piece - n) (drop n piece) in
    let front : length (take n piece) ≡ n = omega (arith, length-take n piece, c.skip-skipped.ensures.within) in
    let stands : StandsFor s (r ++ take n piece) = rw c.self.view_is (c.skip-skipped.ensures.stands r (take n piece) h front) in
    let all = ap (λ x. r ++ x) (take-add n c.append.result piece) ∙ sym (append_assoc r (take n piece) (take c.append.result (drop n piece)))
    ∙ ap (λ x. (r ++ take n piece) ++ take c.append.result x) (sym (take_rest piece n)) in
    rw (c.append.ensures.is, all) (stands-more s (r ++ take n piece) (take c.append.result xs) c.self.invariant stands)

pub returns-clause-count : goal.returns-clause-count
returns-clause-count c = λ r h.
    let s : Received = record { limit = c.self.inside.limit; greeted = c.self.inside.greeted; held = c.self.inside.buffer; skipped = c.self.inside.skipped } in
    let n = c.skip-skipped.result in
    let piece = c.args.piece.now in
    let l : length (take (length piece - n) (drop n piece)) ≡ length piece - n = ap length (take_rest piece n) ∙ length-drop n piece in
    let k : length s.held ≡ kept c.args.self.now.limit c.args.self.now.greeted r = ap (λ x. length x.held) c.self.view_is ∙ c.skip-skipped.ensures.held r h in
    taken_in_all (length piece) (to_skip c.args.self.now.limit c.args.self.now.greeted r) (kept c.args.self.now.limit c.args.self.now.greeted r) n c.append.result (c.skip-skipped.ensures.count r h)
    (c.append.ensures.count ∙ ap (λ x. min x (longest - length s.held)) l ∙ ap (λ x. min (length piece - n) (longest - x)) k)

pub returns-clause-some : goal.returns-clause-some
returns-clause-some c = λ r h wait some.
    let all : c.skip-skipped.result + c.append.result ≡ min (length c.args.piece.now) (room c.args.self.now.limit c.args.self.now.greeted r) = returns-clause-count c r h in
    omega (arith, all, room-waits c.args.self.now.limit c.args.self.now.greeted r wait)
