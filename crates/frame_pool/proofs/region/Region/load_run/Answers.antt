use Rattle.std.proofs.Common.{◌≡◌, ◌+◌, ◌*◌, ◌≤◌, false, length, get_or, ap, subst, sym, ◌∙◌, arith}
use Rattle.frame_pool.specs.Runs.{words_from}
use Rattle.frame_pool.proofs.CellLemmas.{length-numbers, page-zeros}
use Rattle.frame_pool.proofs.region.Region.load_run.Goals as goal

pub returns-else-index : goal.returns-else-index
returns-else-index c =
    let flags = c.self.inside.touched.items in let words = c.self.inside.cells.words in let page = c.args.page in let n = length c.args.words.now in
    let flag : get_or flags page false ≡ false = sym (subst (λ b. b ≡ get_or flags page b) c.if-index.false c.index.ensures) in
    let inside : 1024 * page + 1024 ≤ length words = omega (arith, c.requires.page, ap length c.self.view_is, length-numbers words) in
    c.fill.ensures.after (λ x is. is) ∙ page-zeros flags words page c.args.word n inside c.requires.end flag c.self.invariant.0
    ∙ ap (λ ns. words_from ns (1024 * page + c.args.word) n) c.self.view_is
