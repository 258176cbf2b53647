use Rattle.std.proofs.Common.{◌≡◌, ℕ, ◌+◌, ◌≤◌, List, length, remove, refl, subst, sym, ap, ◌∙◌, arith}
use Rattle.desk_laws.specs.Frames.{Waiting, still_waiting}
use Rattle.frame_pool.specs.Regions.{AllLieIn, LiesIn, IsFirst, NotBefore, due_at, no_store}
use Rattle.frame_pool.proofs.DueLemmas.{any-default, settle-step, settle-end, waiting-besides, all-wait}
use Rattle.frame_pool.proofs.RegionLemmas.{lies-at, lie-besides, length-remove}
use Rattle.frame_pool.proofs.waiting.settle.Goals as goal

pub put_store-requires : goal.put_store-requires
put_store-requires c =
    let stores : List Waiting = c.loop-at.waiting.items in
    let first : IsFirst stores c.in-Some.at = subst (λ xs. IsFirst xs c.in-Some.at) c.deref.ensures.value c.in-Some.ensures.some.0 in
    subst (λ s. LiesIn (length c.loop-at.glass) s)
    (sym (c.remove-store.ensures.value ∙ any-default stores c.in-Some.at c.remove-store.result no_store first.below))
    (lies-at (length c.loop-at.glass) stores c.in-Some.at first.below c.loop-at.invariant.2)

pub loop-at-preserved : goal.loop-at-preserved
loop-at-preserved c =
    let stores : List Waiting = c.loop-at.waiting.items in
    let at : ℕ = c.in-Some.at in
    let first : IsFirst stores at = subst (λ xs. IsFirst xs at) c.deref.ensures.value c.in-Some.ensures.some.0 in
    let due : due_at stores at ≤ c.args.loads = subst (λ xs. due_at xs at ≤ c.args.loads) c.deref.ensures.value c.in-Some.ensures.some.1 in
    let rest : c.remove-store.new.self.items ≡ remove stores at = c.remove-store.ensures.items in
    let old = c.loop-at.invariant in (
      settle-step c.loop-at.glass c.put_store.new.glass c.args.loads stores c.remove-store.new.self.items at c.remove-store.result first due
          c.remove-store.ensures.value rest c.put_store.ensures.words ∙ old.0,
      ap (still_waiting c.args.loads) rest ∙ waiting-besides c.args.loads stores at first.below due ∙ old.1,
      subst (λ n. AllLieIn n c.remove-store.new.self.items) (sym c.put_store.ensures.len)
          (subst (λ xs. AllLieIn (length c.loop-at.glass) xs) (sym rest) (lie-besides (length c.loop-at.glass) stores at old.2)),
      omega (arith, ap length rest, length-remove stores at first.below, old.3),
      c.put_store.ensures.len ∙ old.4,
      c.remove-store.ensures.capacity ∙ old.5,
    )

pub returns-clause-words : goal.returns-clause-words
returns-clause-words c =
    let none : NotBefore (c.args.loads + 1) c.loop-at.waiting.items = subst (λ xs. NotBefore (c.args.loads + 1) xs) c.deref.ensures.value (c.in_default.ensures.none refl) in
    sym (settle-end c.loop-at.glass c.args.loads c.loop-at.waiting.items none) ∙ c.loop-at.invariant.0

pub returns-clause-waiting : goal.returns-clause-waiting
returns-clause-waiting c =
    let none : NotBefore (c.args.loads + 1) c.loop-at.waiting.items = subst (λ xs. NotBefore (c.args.loads + 1) xs) c.deref.ensures.value (c.in_default.ensures.none refl) in
    sym (all-wait c.args.loads c.loop-at.waiting.items none) ∙ c.loop-at.invariant.1
