use Rattle.std.proofs.Common.{◌≡◌, ◌∙◌, ℕ, List, ◌<◌, length, map, get_or, sym, ap, arith}
use Rattle.std.proofs.lemmas.List.{length-map, get_or-map, ext_get_or}
use Rattle.desk_laws.specs.Rows.{span}
use Rattle.desk_laws.proofs.GridLemmas.{length-span, get_or-span}
use Rattle.tile_store.specs.Held.{colour_at}
use Rattle.tile_store.specs.Contents.{colour_or}
use Rattle.tile_store.specs.Kept.{tiles_in}
use Rattle.tile_store.proofs.tiles.read_parts.Goals as goal

pub returns : goal.returns
returns c =
    let n = length c.args.out.now in
    let now : List ℕ = c.loop-done.out in
    let f : ℕ → ℕ = λ i. colour_or c.args.blank (colour_at c.args.slot i c.args.y (tiles_in c.args.squares.now c.args.held.now)) in
    let same : length now ≡ n = c.loop-done.invariant.1 in
    let whole : length (map f (span c.args.x n)) ≡ n = length-map (span c.args.x n) f ∙ length-span c.args.x n in
    let each : (i : ℕ) → i < length now → get_or now i 0 ≡ get_or (map f (span c.args.x n)) i 0 = λ i below.
    let in_n : i < n = omega (arith, below, same) in
    let in_done : i < c.loop-done.done = omega (arith, below, c.loop-done-test.false) in
    let in_span : i < length (span c.args.x n) = omega (arith, in_n, length-span c.args.x n) in
    c.loop-done.invariant.2 i in_done
    ∙ sym (get_or-map f (span c.args.x n) i 0 0 in_span ∙ ap f (get_or-span c.args.x n i 0 in_n)) in
    ext_get_or 0 now (map f (span c.args.x n)) (same ∙ sym whole) each
