use Rattle.std.proofs.Common.{◌≡◌, ℕ, ◌+◌, ◌≤◌, min, drop, sum_by, length, sym, ap, ◌∙◌, subst, arith}
use Rattle.std.proofs.lemmas.List.{length-map}
use Rattle.std.proofs.Math.Nat.{min-le_left}
use Rattle.desk_laws.specs.Override.{taken_by, taken_besides}
use Rattle.guest_session.specs.Placing.{most_taken}
use Rattle.guest_session.specs.RowsView.{RowsView, own_row}
use Rattle.guest_session.proofs.PlaceLemmas.{drop-step, added, all-added}
use Rattle.guest_session.proofs.rows.Rows.taken_besides.Goals as goal

pub loop-i-preserved : goal.loop-i-preserved
loop-i-preserved c =
    let s = c.self.inside in
    let rows = c.args.self.now.rows in
    let f = taken_by c.args.border c.args.window in
    let i = c.loop-i.i in
    let count : length s.table.entries ≡ length rows =
    sym (length-map s.table.entries (own_row s.guest s.tiles.held)) ∙ ap (λ (v : RowsView). length v.rows) c.self.view_is in
    let step : sum_by f (drop i rows) ≡ c.taken_by.result + sum_by f (drop (i + 1) rows) =
    drop-step f rows i c.taken_by.result (omega (arith, count, c.len-i-end.ensures.count, c.loop-i-test.true)) c.taken_by.ensures.is in
    let P : ℕ → Type 0 = λ n. n ≤ most_taken in
    record {
      small = subst P (sym c.min-taken.ensures) (min-le_left most_taken (c.loop-i.taken + c.taken_by.result));
      rest = ap (λ n. min most_taken (n + sum_by f (drop (i + 1) rows))) c.min-taken.ensures
          ∙ added c.loop-i.taken c.taken_by.result (sum_by f (drop i rows)) (sum_by f (drop (i + 1) rows)) (min most_taken (taken_besides c.args.border c.args.window rows)) c.loop-i.invariant.rest step;
    }

pub returns : goal.returns
returns c =
    let s = c.self.inside in
    let rows = c.args.self.now.rows in
    let count : length s.table.entries ≡ length rows =
    sym (length-map s.table.entries (own_row s.guest s.tiles.held)) ∙ ap (λ (v : RowsView). length v.rows) c.self.view_is in
    all-added (taken_by c.args.border c.args.window) rows c.loop-i.i c.loop-i.taken (min most_taken (taken_besides c.args.border c.args.window rows))
    (omega (arith, count, c.len-i-end.ensures.count, c.loop-i-test.false)) c.loop-i.invariant.small c.loop-i.invariant.rest
