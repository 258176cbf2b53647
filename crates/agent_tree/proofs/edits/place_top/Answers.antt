use Rattle.std.proofs.Common.{ℕ, ◌≡◌, ◌∙◌, ◌+◌, ◌-◌, ◌<◌, ap, List, arith}
use Rattle.agent_tree.specs.Views.{TopView}
use Rattle.agent_tree.specs.Scenes.{is_named, top_placed, pages, tiles, pages_of, tiles_of}
use Rattle.agent_tree.proofs.EditLemmas.{set-first, placed-fit, unfit-pages, unfit-tiles}
use Rattle.agent_tree.proofs.edits.place_top.Goals as goal
use Rattle.agent_tree.proofs.edits.place_top.Goals.{then-all_pages-gt8192-via-then-all_pages-gt8192, then-all_pages-gt8192-via-else-all_pages-gt8192+then-all_tiles-gt4096}

more : {n : ℕ} (a b d a' b' d' : ℕ) → a ≡ a' → b ≡ b' → d ≡ d' → n < a - b + d → n < a' - b' + d'
more a b d a' b' d' e f g h = omega arith

pub returns-then-all_pages-gt8192-clause-full : goal.returns-then-all_pages-gt8192-clause-full
returns-then-all_pages-gt8192-clause-full c = λ id first.
    let tops : List TopView = c.args.tops.now.items in
    let t : TopView = c.index.result.now in
    let e = placed-fit tops id c.args.k t c.args.r first c.index.ensures in
    let p : c.pages_in.result ≡ pages_of tops = c.pages_in.ensures ∙ ap pages_of c.deref.ensures.value in
    let q : c.pages.result ≡ pages t.place = c.pages.ensures.is ∙ ap pages c.place-old.ensures.is in
    let s : c.pages-2.result ≡ pages c.args.r = c.pages-2.ensures.is in
    let p' : c.tiles_in.result ≡ tiles_of tops = c.tiles_in.ensures ∙ ap tiles_of c.deref-2.ensures.value in
    let q' : c.tiles.result ≡ tiles t.place = c.tiles.ensures.is ∙ ap tiles c.place-old.ensures.is in
    let s' : c.tiles-2.result ≡ tiles c.args.r = c.tiles-2.ensures.is in
    elim c.then-all_pages-gt8192.branch [
      | then-all_pages-gt8192-via-then-all_pages-gt8192 w ↦ e ∙ unfit-pages _ _ (more _ _ _ _ _ _ p q s w.if-all_pages-gt8192.true)
      | then-all_pages-gt8192-via-else-all_pages-gt8192+then-all_tiles-gt4096 w ↦ e ∙ unfit-tiles _ _ (more _ _ _ _ _ _ p' q' s' w.if-all_tiles-gt4096.true)
    ]

pub returns-clause-done : goal.returns-clause-done
returns-clause-done c = λ id first.
    let tops : List TopView = c.args.tops.now.items in
    let t : TopView = c.index_mut.result.now in
    set-first (is_named id) (top_placed c.args.r) tops c.args.k t c.put.new.self first c.index_mut.ensures.value c.put.ensures
