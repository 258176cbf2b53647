use Rattle.std.proofs.Common.{◌*◌, ◌<◌, sym, ap, ◌∙◌, arith, slice_index, if◌then◌else◌}
use Rattle.std.proofs.lemmas.Bool.{lt-ltb}
use Rattle.std.proofs.lemmas.List.{same_lists, get_or_default}
use Rattle.tile_store.specs.Squares.{cut_word, cut_words}
use Rattle.tile_store.proofs.SquareLemmas.{cut-at, length-cut}
use Rattle.tile_store.proofs.square.cut_all.Goals as goal

pub returns : goal.returns
returns c =
    let old = c.args.words.now in
    let new = c.loop-row.words in
    let w = c.args.w in
    let h = c.args.h in
    let long = c.loop-row.invariant.0 in
    same_lists new (cut_words 0 w h old) (long ∙ sym (length-cut 0 w h old ∙ c.told-words)) (λ i d below.
    let near : i < 4096 = omega (arith, below, long) in
    let front : i < 64 * c.loop-row.row = omega (arith, near, c.loop-row-test.false) in
    get_or_default new i d 0 below
    ∙ c.loop-row.invariant.1 i near
    ∙ ap (λ b. if b then cut_word i w h (slice_index old i) else slice_index old i) (lt-ltb i (64 * c.loop-row.row) front)
    ∙ ap (λ n. cut_word n w h (slice_index old i)) (omega arith)
    ∙ sym (cut-at old i 0 w h (omega (arith, near, c.told-words)))
    ∙ get_or_default (cut_words 0 w h old) i 0 d (omega (arith, near, length-cut 0 w h old, c.told-words)))
