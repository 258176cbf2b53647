use Rattle.std.proofs.Common.{◌≡◌, false, get_or, subst, sym, arith}
use Rattle.frame_pool.proofs.CellLemmas.{cleared-numbers}
use Rattle.frame_pool.proofs.region.touch.Goals as goal

pub returns-then-not-index-clause-same : goal.returns-then-not-index-clause-same
returns-then-not-index-clause-same c =
    let flags = c.args.touched.now.items in let page = c.args.page in
    let flag : get_or flags page false ≡ false = sym (subst (λ b. b ≡ get_or flags page b) c.if-not-index.true c.index.ensures) in
    cleared-numbers flags c.args.cells.now.words c.clear_page.new.cells.words page (omega (arith, c.requires.whole, c.requires.page)) flag c.requires.touched c.clear_page.ensures
