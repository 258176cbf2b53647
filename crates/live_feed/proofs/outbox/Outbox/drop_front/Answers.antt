use Rattle.std.proofs.Common.{◌≡◌, ◌+◌, ◌-◌, ◌≤◌, ◌++◌, length, drop, sym, ap, ◌∙◌, arith, length-append}
use Rattle.live_feed.proofs.WaitingLemmas.{drop_both}
use Rattle.live_feed.proofs.outbox.Outbox.drop_front.Goals as goal

pub returns : goal.returns
returns c =
    let row = c.self.inside.row in
    let ring = c.self.inside.ring.items in
    let n = c.args.n in
    let there : n ≤ length row + length ring = omega (arith, c.requires, ap length c.self.view_is, length-append row ring) in
    let behind : length ring - (c.len.result - c.saturating_sub-behind.result) ≡ n - length row =
    omega (arith, there, c.len.ensures.len, c.saturating_sub-behind.ensures, ap length c.bytes.ensures) in
    ap (λ r. r ++ c.truncate_front.new.self.items) c.drop_front.ensures
    ∙ ap (λ b. drop n row ++ b.items) c.truncate_front.ensures
    ∙ ap (λ k. drop n row ++ drop k ring) behind
    ∙ sym (drop_both n row ring)
    ∙ ap (drop n) c.self.view_is
