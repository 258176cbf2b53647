use Rattle.std.proofs.Common.{◌≡◌, ◌+◌, ◌<◌, ◌≤◌, true, false, length, sym, arith}
use Rattle.std.proofs.lemmas.Bool.Decides.{nat_tests}
use Rattle.in_stream.specs.Shown.{is_passed_over}
use Rattle.in_stream.proofs.FrontLemmas.{message_lacks, message_whole}
use Rattle.in_stream.proofs.stream.message_at.Goals as goal

pub returns-in-true-true : goal.returns-in-true-true
returns-in-true-true c = λ r p long e none len behind.
    let q : is_passed_over c.args.limit c.args.header ≡ true = cc (c.in-true-true.ensures) in
    let l : c.args.skipped + length c.args.behind.now < c.args.header.len = grind (arith, nat_tests, c.in-true-true.is-1) in
    sym (rw q at (message_lacks c.args.limit r p c.args.behind.now c.args.header c.args.skipped long e none len behind l))

pub returns-in-true-false : goal.returns-in-true-false
returns-in-true-false c = λ r p long e none len behind.
    let q : is_passed_over c.args.limit c.args.header ≡ true = cc (c.in-true-false.ensures) in
    let l : c.args.header.len ≤ c.args.skipped + length c.args.behind.now = grind (arith, nat_tests, c.in-true-false.is-1) in
    sym (rw q at (message_whole c.args.limit r p c.args.behind.now c.args.header c.args.skipped long e none len behind l c.requires.kept))

pub returns-in-false-true : goal.returns-in-false-true
returns-in-false-true c = λ r p long e none len behind.
    let q : is_passed_over c.args.limit c.args.header ≡ false = cc (c.in-false-true.ensures) in
    let l : c.args.skipped + length c.args.behind.now < c.args.header.len = grind (arith, nat_tests, c.in-false-true.is-1) in
    sym (rw q at (message_lacks c.args.limit r p c.args.behind.now c.args.header c.args.skipped long e none len behind l))

pub returns-in-false-false : goal.returns-in-false-false
returns-in-false-false c = λ r p long e none len behind.
    let q : is_passed_over c.args.limit c.args.header ≡ false = cc (c.in-false-false.ensures) in
    let l : c.args.header.len ≤ c.args.skipped + length c.args.behind.now = grind (arith, nat_tests, c.in-false-false.is-1) in
    sym (rw q at (message_whole c.args.limit r p c.args.behind.now c.args.header c.args.skipped long e none len behind l c.requires.kept))
