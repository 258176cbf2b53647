use Rattle.std.proofs.Common.{◌≡◌, ◌<◌, ◌≤◌, ◌+◌, ◌-◌, ◌++◌, ℕ, suc, ap, sym, ◌∙◌, arith, take, drop, length, min, max, get_or, if◌then◌else◌, length-take, take-take, subst}
use Rattle.std.specs.Prelude.{flat_map}
use Rattle.region_clip.specs.Spans.{keep, span_cut, ended_by, begun_before}
use Rattle.region_clip.proofs.SpanLemmas.{is_lt, cut_between, cut-some, cut-none, room_left}
use Rattle.region_clip.proofs.row_spans.cut_from.Goals as goal

pub put_cut-requires-clause-room : goal.put_cut-requires-clause-room
put_cut-requires-clause-room c =
    let ps = take c.args.count c.args.places.now in
    let i = c.count_left-first.result in
    let n = c.count_before-past.result - 1 in
    let d : ℕ × ℕ = (0, 0) in
    let some : ended_by c.args.x0 ps < begun_before c.args.x1 ps = omega (arith, c.if-first-past.true, c.count_left-first.ensures.is, c.count_before-past.ensures.is) in
    let last : begun_before c.args.x1 ps ≡ suc n = omega (arith, c.if-first-past.true, c.count_before-past.ensures.is) in
    let room = room_left c.args.x0 c.args.x1 c.args.width (length c.args.places.now) n ps c.requires.some c.requires.apart c.requires.room some last in
    let first = subst (λ k. k + length (keep (get_or ps k d).0 (min (get_or ps k d).1 c.args.x0)) + length (keep (max (get_or ps n d).0 c.args.x1) (get_or ps n d).1) + (length ps - suc n) ≤ length c.args.places.now)
    (sym c.count_left-first.ensures.is) room in
    let left = subst (λ m. i + length (keep (get_or ps i d).0 m) + length (keep (max (get_or ps n d).0 c.args.x1) (get_or ps n d).1) + (length ps - suc n) ≤ length c.args.places.now) (sym c.min.ensures) first in
    let right = subst (λ m. i + length (keep (get_or ps i d).0 c.min.result) + length (keep m (get_or ps n d).1) + (length ps - suc n) ≤ length c.args.places.now) (sym c.max.ensures) left in
    omega (arith, right, length-take c.args.count c.args.places.now, c.requires.count, c.if-first-past.true)

pub returns-then-first-past-clause-spans : goal.returns-then-first-past-clause-spans
returns-then-first-past-clause-spans c =
    let ps = take c.args.count c.args.places.now in
    let i = c.count_left-first.result in
    let n = c.count_before-past.result - 1 in
    let d : ℕ × ℕ = (0, 0) in
    let some : ended_by c.args.x0 ps < begun_before c.args.x1 ps = omega (arith, c.if-first-past.true, c.count_left-first.ensures.is, c.count_before-past.ensures.is) in
    let last : begun_before c.args.x1 ps ≡ suc n = omega (arith, c.if-first-past.true, c.count_before-past.ensures.is) in
    let past : c.count_before-past.result ≡ suc n = omega (arith, c.if-first-past.true) in
    let few : i ≤ c.args.count = omega (arith, c.count_left-first.ensures.few, length-take c.args.count c.args.places.now) in
    c.put_cut.ensures.spans
    ∙ ap (λ m. take i c.args.places.now ++ (keep (get_or ps i d).0 m ++ (keep c.max.result (get_or ps n d).1 ++ drop c.count_before-past.result ps))) c.min.ensures
    ∙ ap (λ m. take i c.args.places.now ++ (keep (get_or ps i d).0 (min (get_or ps i d).1 c.args.x0) ++ (keep m (get_or ps n d).1 ++ drop c.count_before-past.result ps))) c.max.ensures
    ∙ ap (λ m. take i c.args.places.now ++ (keep (get_or ps i d).0 (min (get_or ps i d).1 c.args.x0) ++ (keep (max (get_or ps n d).0 c.args.x1) (get_or ps n d).1 ++ drop m ps))) past
    ∙ ap (λ qs. qs ++ (keep (get_or ps i d).0 (min (get_or ps i d).1 c.args.x0) ++ (keep (max (get_or ps n d).0 c.args.x1) (get_or ps n d).1 ++ drop (suc n) ps))) (sym (take-take i c.args.count c.args.places.now few))
    ∙ ap (λ k. cut_between c.args.x0 c.args.x1 k n ps) c.count_left-first.ensures.is
    ∙ sym (ap (λ t. if t then flat_map (span_cut c.args.x0 c.args.x1) ps else ps) (is_lt c.args.x0 c.args.x1 c.requires.some)
    ∙ cut-some c.args.x0 c.args.x1 0 c.args.width ps n c.requires.some c.requires.apart some last)

pub returns-else-first-past-clause-spans : goal.returns-else-first-past-clause-spans
returns-else-first-past-clause-spans c =
    let spans = take c.args.count c.args.places.now in
    let none : begun_before c.args.x1 spans ≤ ended_by c.args.x0 spans = omega (arith, c.if-first-past.false, c.count_left-first.ensures.is, c.count_before-past.ensures.is) in
    sym (ap (λ t. if t then flat_map (span_cut c.args.x0 c.args.x1) spans else spans) (is_lt c.args.x0 c.args.x1 c.requires.some)
    ∙ cut-none c.args.x0 c.args.x1 0 c.args.width spans c.requires.some c.requires.apart none)
