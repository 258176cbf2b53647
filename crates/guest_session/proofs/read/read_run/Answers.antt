use Rattle.std.proofs.Common.{◌≡◌, ◌≤◌, ℕ, List, map, take, replicate, length, get_or, ap, subst, sym, ◌∙◌, arith}
use Rattle.frame_pool.specs.Runs.{run_of}
use Rattle.tile_store.specs.Tile.{Tile}
use Rattle.tile_store.specs.Held.{TilesView, places_in_row}
use Rattle.tile_store.specs.Contents.{tiles_coloured}
use Rattle.guest_session.specs.Areas.{colour_of, dump_at}
use Rattle.guest_session.proofs.AreaLemmas.{colours-low, covers-first, length-colours, run-frames, run-tiles, size-of-front}
use Rattle.guest_session.proofs.read.read_run.Goals as goal

pub load_colours-requires-clause-page : goal.load_colours-requires-clause-page
load_colours-requires-clause-page g c =
    c.place_of-place.ensures.page (g.P.FramePort.pages c.args.port.now)
    (covers-first (g.P.FramePort.pages c.args.port.now) c.args.dump_width c.args.x c.args.y c.args.most (dump_at c.args.slot c.args.table.now.entries) c.requires.some c.requires.covers)

pub put_row-requires-clause-colours : goal.put_row-requires-clause-colours
put_row-requires-clause-colours g c = λ i below.
    let state = g.P.FramePort.state c.args.port.now c.args.guest in let n : ℕ = c.run_len-n.result in let place = c.place_of-place.result in
    let size : length {A = ℕ} (take n (replicate 64 0)) ≡ n = size-of-front n 64 (omega (arith, c.run_len-n.ensures.tile)) in
    let is : c.load_colours.new.colours ≡ map colour_of (run_of state place.page place.word n).words = c.load_colours.ensures.colours ∙ ap (λ (k : ℕ). map colour_of (run_of state place.page place.word k).words) size in
    subst (λ (cs : List ℕ). get_or cs i 0 ≤ 16777215) (sym is) (colours-low (run_of state place.page place.word n).words i)

pub returns-clause-tiles : goal.returns-clause-tiles
returns-clause-tiles g c =
    let state = g.P.FramePort.state c.args.port.now c.args.guest in let n : ℕ = c.run_len-n.result in let place = c.place_of-place.result in
    let x : ℕ = c.args.x in let y : ℕ = c.args.y in let slot : ℕ = c.args.slot in let cover = c.requires.covers in let held = c.args.tiles.now.held in
    let size : length {A = ℕ} (take n (replicate 64 0)) ≡ n = size-of-front n 64 (omega (arith, c.run_len-n.ensures.tile)) in
    let is : c.load_colours.new.colours ≡ map colour_of (run_of state place.page place.word n).words = c.load_colours.ensures.colours ∙ ap (λ (k : ℕ). map colour_of (run_of state place.page place.word k).words) size in
    let long : length c.load_colours.new.colours ≡ n = ap length is ∙ length-colours state place.page place.word n in
    let tiles_with : List Tile → TilesView = λ ts. record { number = c.args.tiles.now.number; held = ts } in
    c.put_row.ensures.put
    ∙ ap (λ (k : ℕ). tiles_with (tiles_coloured slot (places_in_row y x k) c.load_colours.new.colours held)) long
    ∙ ap (λ (cs : List ℕ). tiles_with (tiles_coloured slot (places_in_row y x n) cs held)) is
    ∙ ap tiles_with (run-tiles slot (dump_at slot c.args.table.now.entries) cover.is x y n place.page place.word state held cover.here (c.place_of-place.ensures.place cover.is cover.here) c.run_len-n.ensures.page)

pub returns-clause-frames : goal.returns-clause-frames
returns-clause-frames g c =
    let state = g.P.FramePort.state c.args.port.now c.args.guest in let n : ℕ = c.run_len-n.result in let place = c.place_of-place.result in
    let x : ℕ = c.args.x in let y : ℕ = c.args.y in let cover = c.requires.covers in
    let size : length {A = ℕ} (take n (replicate 64 0)) ≡ n = size-of-front n 64 (omega (arith, c.run_len-n.ensures.tile)) in
    c.load_colours.ensures.frames ∙ ap (λ (k : ℕ). (run_of state place.page place.word k).port) size
    ∙ run-frames (dump_at c.args.slot c.args.table.now.entries) cover.is x y n place.page place.word state cover.here (c.place_of-place.ensures.place cover.is cover.here) c.run_len-n.ensures.page
