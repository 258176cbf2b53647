use Rattle.std.proofs.Common.{◌≡◌, ◌+◌, [], replicate, length, subst, sym, ap, ◌∙◌, arith}
use Rattle.window_table.specs.Parts.{AreCuts, parts, no_lists}
use Rattle.window_table.proofs.CutLemmas.{cuts-none, parts-none, seen-as}
use Rattle.window_table.proofs.PartLemmas.{length-parts}
use Rattle.window_table.proofs.ref_lists.RefLists.clear.Goals as goal

pub invariant_of-self : goal.invariant_of-self
invariant_of-self c =
    let s = c.self.inside in
    let cuts = c.self.invariant.0 in
    let n = length (parts s.items.items s.places.items) in
    let long : s.places.len ≡ n + 1 = omega (arith, length-parts s.items.items s.places.items, cuts.some, s.places.ok.0) in
    let zeros : c.fill.new.self.items ≡ replicate (n + 1) 0 = c.fill.ensures.items (λ y h. h) ∙ ap (λ k. replicate k 0) long in (
      subst (λ xs. AreCuts xs c.fill.new.self.items s.pages) (sym c.clear.ensures.items)
          (subst (λ ps. AreCuts [] ps s.pages) (sym zeros) (cuts-none n s.pages cuts.small)),
      omega (arith, c.clear.ensures.capacity, c.self.invariant.1),
    )

pub returns : goal.returns
unfolding no_lists
returns c =
    let s = c.self.inside in
    let cuts = c.self.invariant.0 in
    let n = length (parts s.items.items s.places.items) in
    let long : s.places.len ≡ n + 1 = omega (arith, length-parts s.items.items s.places.items, cuts.some, s.places.ok.0) in
    let zeros : c.fill.new.self.items ≡ replicate (n + 1) 0 = c.fill.ensures.items (λ y h. h) ∙ ap (λ k. replicate k 0) long in
    let lists : parts c.clear.new.self.items c.fill.new.self.items ≡ no_lists n =
    ap (λ xs. parts xs c.fill.new.self.items) c.clear.ensures.items ∙ ap (parts []) zeros ∙ parts-none n in
    seen-as s.pages _ _ _ lists (ap (λ v. record { pages = v.pages; lists = no_lists (length v.lists) }) c.self.view_is)
