use Rattle.std.proofs.Common.{◌≡◌, ◌*◌, ◌≤◌, ◌∷◌, [], length, length-append, subst, sym, ap, ◌∙◌, arith}
use Rattle.frame_pool.specs.Regions.{AllLieIn, LiesIn}
use Rattle.frame_pool.proofs.RegionLemmas.{lie-pushed}
use Rattle.frame_pool.proofs.frames.Frames.store.Goals as goal

pub invariant_of-self : goal.invariant_of-self
invariant_of-self c =
    let pages : c.self.inside.pages ≡ c.args.self.now.pages = ap (λ v. v.pages) c.self.view_is in
    let len : length c.settle.new.glass ≡ 1024 * c.self.inside.pages = c.settle.ensures.len ∙ c.self.invariant.0 in
    let lies : LiesIn (length c.settle.new.glass) c.waiting_store.result = subst (λ s. LiesIn (length c.settle.new.glass) s) (sym c.waiting_store.ensures)
    (record { page = omega (arith, len, pages, c.requires.page); offset = c.requires.offset; whole = c.requires.whole; end = c.requires.end }) in
    let few : length c.push_reserved.new.self.items ≤ 64 =
    omega (arith, ap length c.push_reserved.ensures.items, length-append c.settle.new.waiting.items (c.waiting_store.result ∷ []), c.settle.ensures.few, c.self.invariant.1.1.0, c.if-len.true) in (
      len,
      (
        subst (λ xs. AllLieIn (length c.settle.new.glass) xs) (sym c.push_reserved.ensures.items)
            (lie-pushed (length c.settle.new.glass) c.settle.new.waiting.items c.waiting_store.result c.settle.ensures.lie lies),
        (few, omega (arith, c.push_reserved.ensures.capacity, c.settle.ensures.capacity, c.self.invariant.1.1.1)),
      ),
    )
