use Rattle.std.proofs.Common.{◌≡◌, length, sum_by, arith, ap, ◌∙◌}
use Rattle.window_table.proofs.CutLemmas.{sum-all}
use Rattle.window_table.proofs.ref_lists.RefLists.total.Goals as goal

pub returns : goal.returns
returns c =
    let s = c.self.inside in
    let all = sum-all s.items.items s.places.items s.pages c.self.invariant.0 in
    let size : c.len.result ≡ length s.items.items = omega (arith, c.len.ensures, s.items.ok.0) in
    size ∙ all ∙ ap (λ v. sum_by length v.lists) c.self.view_is
