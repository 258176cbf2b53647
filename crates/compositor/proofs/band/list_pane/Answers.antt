use Rattle.std.proofs.Common.{◌≡◌, ◌++◌, ap, ◌∙◌, sym, drop, suc, arith, ◌+◌, subst, List, ℕ}
use Rattle.compositor.specs.Bands.{numbered, meets_rows, ShowSame}
use Rattle.compositor.specs.declared.panes.PaneView.{PaneView}
use Rattle.compositor.proofs.DrawLemmas.{pane_at, view-is}
use Rattle.compositor.proofs.BandLemmas.{some-listed, none-listed}
use Rattle.compositor.proofs.band.list_pane.Goals as goal

pub returns-then-in_band-clause-same : goal.returns-then-in_band-clause-same
returns-then-in_band-clause-same g c = λ same.
    let panes = g.Q.Panes.panes c.args.panes.now in
    let k = c.args.k in
    let at = pane_at panes k c.requires.pane in
    let one : suc k ≡ k + 1 = omega arith in
    subst (λ n. ShowSame c.args.top c.args.bottom (numbered panes c.push_reserved.new.self.items ++ drop n panes) panes) one
    (subst (λ (ks : List ℕ). ShowSame c.args.top c.args.bottom (numbered panes ks ++ drop (suc k) panes) panes) (sym c.push_reserved.ensures.items)
    (some-listed c.args.top c.args.bottom k panes c.args.listed.now.items at.0 at.1 at.2 same))

pub returns-else-in_band-clause-same : goal.returns-else-in_band-clause-same
returns-else-in_band-clause-same g c = λ same.
    let panes = g.Q.Panes.panes c.args.panes.now in
    let k = c.args.k in
    let at = pane_at panes k c.requires.pane in
    let one : suc k ≡ k + 1 = omega arith in
    let e = view-is panes k at.0 c.view.result at.1 c.view.ensures.this in
    subst (λ n. ShowSame c.args.top c.args.bottom (numbered panes c.args.listed.now.items ++ drop n panes) panes) one
    (none-listed c.args.top c.args.bottom k panes (numbered panes c.args.listed.now.items) at.0 at.2
    (sym (ap (λ (v : PaneView). meets_rows v.outer c.args.top c.args.bottom) e) ∙ sym c.if-in_band.ensures) same)
