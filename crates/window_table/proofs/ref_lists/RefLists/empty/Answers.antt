use Rattle.std.proofs.Common.{◌≡◌, ◌<◌, ◌≤◌, [], length, set, sum_by, subst, sym, ap, ◌∙◌}
use Rattle.gui_wire.specs.Words.{all_words}
use Rattle.gui_wire.specs.Seen.{references}
use Rattle.window_table.specs.Parts.{parts}
use Rattle.window_table.proofs.CutLemmas.{none-fits}
use Rattle.window_table.proofs.ref_lists.RefLists.empty.Goals as goal

pub set-requires-clause-fits : goal.set-requires-clause-fits
set-requires-clause-fits c =
    let s = c.self.inside in
    let slot = subst (λ v. c.args.slot < length v.lists) (sym c.self.view_is) c.requires in
    let none : references c.new.result ≡ [] = ap all_words c.new.ensures in
    let fits = none-fits s.items.items s.places.items s.pages c.self.invariant.0 c.args.slot slot in
    subst (λ v. sum_by length (set v.lists c.args.slot (references c.new.result)) ≤ v.pages) c.self.view_is
    (subst (λ xs. sum_by length (set (parts s.items.items s.places.items) c.args.slot xs) ≤ s.pages) (sym none) fits)

pub returns : goal.returns
returns c =
    let none : references c.new.result ≡ [] = ap all_words c.new.ensures in
    c.set.ensures ∙ ap (λ xs. record { pages = c.args.self.now.pages; lists = set c.args.self.now.lists c.args.slot xs }) none
