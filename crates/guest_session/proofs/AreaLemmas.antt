-- Pixels that are read one after the other.
use Rattle.std.proofs.Common.{◌≡◌, ℕ, zero, suc, ◌+◌, ◌-◌, ◌*◌, ◌/◌, ◌%◌, ◌≤◌, ◌<◌, true, List, [], ◌∷◌, ◌++◌, map, take, drop, replicate, length, get_or, set, slice_index, Option, Some, None, refl, sym, ap, ◌∙◌, subst, arith}
use Rattle.std.specs.Prelude.{◌^◌}
use Rattle.std.proofs.lemmas.List.{length-map}
use Rattle.desk_laws.specs.Rows.{DumpOf, grid}
use Rattle.desk_laws.specs.Frames.{FramePlace, Loads, PortState, load, load_all, load_first}
use Rattle.frame_pool.specs.Runs.{run_of}
use Rattle.frame_pool.proofs.RunLemmas.{length-run}
use Rattle.desk_laws.specs.Effects.{Area, frame_place}
use Rattle.tile_store.specs.Tile.{Tile}
use Rattle.tile_store.specs.Spots.{spot_of}
use Rattle.tile_store.specs.Held.{written, is_held, places_in_row}
use Rattle.tile_store.specs.Contents.{HoldsAll, KeepsHeld, tiles_coloured}
use Rattle.tile_store.proofs.OpenLemmas.{grid-next}
use Rattle.guest_session.specs.Reading.{rect_of}
use Rattle.guest_session.specs.Areas.{Covers, row_in, run_at, pixel_at, colour_of, tiles_read, frames_read}

-- ---- what is still to be read

-- pixels that are still to be read: with them the tiles and the frames become these
pub record Reading (slot : ℕ) (dump : Option DumpOf) (ps : List (ℕ × ℕ)) (held : List Tile) (port : PortState) (held' : List Tile) (port' : PortState) : Type 0 where
  pub tiles : tiles_read slot dump ps port held ≡ held'
  pub frames : frames_read dump ps port ≡ port'

uncoloured : (slot : ℕ) (ps : List (ℕ × ℕ)) (held : List Tile) → tiles_coloured slot ps [] held ≡ held
uncoloured slot [] held = refl
uncoloured slot (p ∷ ps) held = refl

-- once the first of them are read the others are left
pub reading-part : (slot : ℕ) (dump : Option DumpOf) (ps qs : List (ℕ × ℕ)) (held : List Tile) (port : PortState) (held' : List Tile) (port' : PortState)
    → Reading slot dump (ps ++ qs) held port held' port'
    → Reading slot dump qs (tiles_read slot dump ps port held) (frames_read dump ps port) held' port'
reading-part slot None ps qs held port held' port' r = record {
  tiles = uncoloured slot qs (tiles_coloured slot ps [] held) ∙ uncoloured slot ps held ∙ sym (uncoloured slot (ps ++ qs) held) ∙ r.tiles;
  frames = r.frames;
}
reading-part slot (Some d) [] qs held port held' port' r = r
reading-part slot (Some d) (p ∷ ps) qs held port held' port' r =
    let g = load port (frame_place d p).page (frame_place d p).word in
    reading-part slot (Some d) ps qs
    (written (spot_of slot (p.0 / 64, p.1 / 64)) (p.1 % 64 * 64 + p.0 % 64) (g.0 % 2 ^ 24) held) g.1 held' port'
    (record { tiles = r.tiles; frames = r.frames })

-- the same, of pixels that are some and then others
reading-next : (slot : ℕ) (dump : Option DumpOf) (all ps qs : List (ℕ × ℕ)) (held : List Tile) (port : PortState) (held' : List Tile) (port' : PortState) (now : List Tile) (state : PortState)
    → all ≡ ps ++ qs → Reading slot dump all held port held' port' → now ≡ tiles_read slot dump ps port held → state ≡ frames_read dump ps port
    → Reading slot dump qs now state held' port'
reading-next slot dump all ps qs held port held' port' now state split r is state_is =
    let P : List (ℕ × ℕ) → Type 0 = λ xs. Reading slot dump xs held port held' port' in
    let Q : List Tile → Type 0 = λ ts. Reading slot dump qs ts state held' port' in
    let R : PortState → Type 0 = λ p. Reading slot dump qs (tiles_read slot dump ps port held) p held' port' in
    subst Q (sym is) (subst R (sym state_is) (reading-part slot dump ps qs held port held' port' (subst P split r)))

-- the places of a row are some and then others
row-parts : (y x n m : ℕ) → places_in_row y x (n + m) ≡ places_in_row y x n ++ places_in_row y (x + n) m
row-parts y x zero m =
    let none : 0 + m ≡ m = omega arith in let here : x ≡ x + 0 = omega arith in
    ap (λ (k : ℕ). places_in_row y x k) none ∙ ap (λ (k : ℕ). places_in_row y k m) here
row-parts y x (suc n) m =
    let sum : suc n + m ≡ suc (n + m) = omega arith in let here : suc x + n ≡ x + suc n = omega arith in
    ap (λ (k : ℕ). places_in_row y x k) sum ∙ ap (λ ps. (x, y) ∷ ps) (row-parts y (suc x) n m)
    ∙ ap (λ (k : ℕ). (x, y) ∷ (places_in_row y (suc x) n ++ places_in_row y k m)) here

-- pixels of a row are read
pub run-read : (slot : ℕ) (dump : Option DumpOf) (y x n past : ℕ) (held : List Tile) (port : PortState) (held' : List Tile) (port' : PortState) (now : List Tile) (state : PortState)
    → n ≤ past - x → Reading slot dump (places_in_row y x (past - x)) held port held' port'
    → now ≡ tiles_read slot dump (places_in_row y x n) port held → state ≡ frames_read dump (places_in_row y x n) port
    → Reading slot dump (places_in_row y (x + n) (past - (x + n))) now state held' port'
run-read slot dump y x n past held port held' port' now state inside =
    let sum : past - x ≡ n + (past - (x + n)) = omega (arith, inside) in
    reading-next slot dump (places_in_row y x (past - x)) (places_in_row y x n) (places_in_row y (x + n) (past - (x + n))) held port held' port' now state
    (ap (λ (k : ℕ). places_in_row y x k) sum ∙ row-parts y x n (past - (x + n)))

-- a row of an area is read
pub row-read : (slot : ℕ) (dump : Option DumpOf) (x w y below : ℕ) (held : List Tile) (port : PortState) (held' : List Tile) (port' : PortState) (now : List Tile) (state : PortState)
    → y < below → Reading slot dump (grid x y w (below - y)) held port held' port'
    → now ≡ tiles_read slot dump (places_in_row y x w) port held → state ≡ frames_read dump (places_in_row y x w) port
    → Reading slot dump (grid x (y + 1) w (below - (y + 1))) now state held' port'
row-read slot dump x w y below held port held' port' now state inside =
    reading-next slot dump (grid x y w (below - y)) (places_in_row y x w) (grid x (y + 1) w (below - (y + 1))) held port held' port' now state
    (grid-next x w y below inside)

-- ---- parts of what lies in a dump

pub covers-run : (pages pages' dump_width : ℕ) (area : Area) (x y : ℕ) (dump : Option DumpOf) → pages' ≡ pages → Covers pages dump_width (row_in area y) dump
    → area.x ≤ x → x < area.x + area.w → Covers pages' dump_width (run_at x y (area.x + area.w - x)) dump
covers-run pages pages' dump_width area x y dump same c from to =
    let P : ℕ → Type 0 = λ n. Covers n dump_width (run_at x y (area.x + area.w - x)) dump in
    subst P (sym same)
    (record { is = c.is; here = c.here; width = c.width; fits = c.fits; right = omega (arith, c.right, to); below = c.below })

pub covers-first : (pages dump_width x y n : ℕ) (dump : Option DumpOf) → 0 < n → Covers pages dump_width (run_at x y n) dump → Covers pages dump_width (pixel_at x y) dump
covers-first pages dump_width x y n dump some c = record { is = c.is; here = c.here; width = c.width; fits = c.fits; right = omega (arith, c.right, some); below = c.below }

pub holds-pixel : (slot : ℕ) (area : Area) (x y : ℕ) (old now : List Tile) → HoldsAll slot (rect_of (row_in area y)) old → KeepsHeld old now
    → area.x ≤ x → x < area.x + area.w → is_held (spot_of slot (x / 64, y / 64)) now ≡ true
holds-pixel slot area x y old now holds stay from to =
    stay (spot_of slot (x / 64, y / 64)) (holds x y from to (omega arith) (omega arith))

-- ---- words of one page

byte-next : (a word : ℕ) → 4 * a % 4096 / 4 ≡ word → word + 1 < 1024 → (4 * (a + 1) / 4096 ≡ 4 * a / 4096) × (4 * (a + 1) % 4096 / 4 ≡ word + 1)
byte-next a word is below = (omega (arith, is, below), omega (arith, is, below))

-- the word of the next pixel stands behind that of a pixel, up to the end of the page
place-next : (d : DumpOf) (x y page word : ℕ) → frame_place d (x, y) ≡ record { page = page; word = word } → word + 1 < 1024 → frame_place d (suc x, y) ≡ record { page = page; word = word + 1 }
place-next d x y page word is below =
    let a : ℕ = y * d.width + x in
    let next : y * d.width + suc x ≡ a + 1 = omega arith in
    let bytes : (4 * (a + 1) / 4096 ≡ 4 * a / 4096) × (4 * (a + 1) % 4096 / 4 ≡ word + 1) = byte-next a word (ap (λ (p : FramePlace). p.word) is) below in
    let spot : ℕ → ℕ → FramePlace = λ i w. record { page = slice_index d.refs i; word = w } in
    ap (λ (k : ℕ). spot (4 * k / 4096) (4 * k % 4096 / 4)) next
    ∙ ap (λ (i : ℕ). spot i (4 * (a + 1) % 4096 / 4)) bytes.0 ∙ ap (λ (w : ℕ). spot (4 * a / 4096) w) bytes.1
    ∙ ap (λ (p : FramePlace). let q : FramePlace = record { page = p.page; word = word + 1 } in q) is

-- the loads of pixels whose words lie in one page are a run
loads-run : (port : PortState) (d : DumpOf) (x y n page word : ℕ) → frame_place d (x, y) ≡ record { page = page; word = word } → word + n ≤ 1024
    → load_all port (map (frame_place d) (places_in_row y x n)) ≡ run_of port page word n
loads-run port d x y zero page word is end = refl
loads-run port d x y (suc zero) page word is end = ap (λ (p : FramePlace). load_all port (p ∷ [])) is
loads-run port d x y (suc (suc n)) page word is end =
    ap (λ (p : FramePlace). load_all port (p ∷ map (frame_place d) (places_in_row y (suc x) (suc n)))) is
    ∙ ap (load_first (load port page word).0)
    (loads-run (load port page word).1 d (suc x) y (suc n) page (word + 1) (place-next d x y page word is (omega (arith, end))) (omega (arith, end)))

-- a colour is no more than 24 bits, and is its own colour
colour-low : (w : ℕ) → w % 2 ^ 24 ≤ 16777215
colour-low w = omega arith

colour-twice : (w : ℕ) → (w % 2 ^ 24) % 2 ^ 24 ≡ w % 2 ^ 24
colour-twice w = omega arith

pub colours-low : (ws : List ℕ) (i : ℕ) → get_or (map colour_of ws) i 0 ≤ 16777215
colours-low [] i = omega arith
colours-low (w ∷ ws) zero = colour-low w
colours-low (w ∷ ws) (suc i) = colours-low ws i

coloured-colours : (slot : ℕ) (ps : List (ℕ × ℕ)) (ws : List ℕ) (held : List Tile) → tiles_coloured slot ps (map colour_of ws) held ≡ tiles_coloured slot ps ws held
coloured-colours slot [] ws held = refl
coloured-colours slot (p ∷ ps) [] held = refl
coloured-colours slot (p ∷ ps) (w ∷ ws) held =
    ap (λ (c : ℕ). tiles_coloured slot ps (map colour_of ws) (written (spot_of slot (p.0 / 64, p.1 / 64)) (p.1 % 64 * 64 + p.0 % 64) c held)) (colour-twice w)
    ∙ coloured-colours slot ps ws (written (spot_of slot (p.0 / 64, p.1 / 64)) (p.1 % 64 * 64 + p.0 % 64) (w % 2 ^ 24) held)

-- pixels of a row, read at once
pub run-tiles : (slot : ℕ) (dump : Option DumpOf) (d : DumpOf) (x y n page word : ℕ) (port : PortState) (held : List Tile) → dump ≡ Some d
    → frame_place d (x, y) ≡ record { page = page; word = word } → word + n ≤ 1024
    → tiles_coloured slot (places_in_row y x n) (map colour_of (run_of port page word n).words) held ≡ tiles_read slot dump (places_in_row y x n) port held
run-tiles slot dump d x y n page word port held here is end =
    coloured-colours slot (places_in_row y x n) (run_of port page word n).words held
    ∙ sym (ap (λ (g : Loads). tiles_coloured slot (places_in_row y x n) g.words held) (loads-run port d x y n page word is end))
    ∙ sym (ap (λ (o : Option DumpOf). tiles_read slot o (places_in_row y x n) port held) here)

pub run-frames : (dump : Option DumpOf) (d : DumpOf) (x y n page word : ℕ) (port : PortState) → dump ≡ Some d
    → frame_place d (x, y) ≡ record { page = page; word = word } → word + n ≤ 1024
    → (run_of port page word n).port ≡ frames_read dump (places_in_row y x n) port
run-frames dump d x y n page word port here is end =
    sym (ap (λ (g : Loads). g.port) (loads-run port d x y n page word is end)) ∙ sym (ap (λ (o : Option DumpOf). frames_read o (places_in_row y x n) port) here)

pub length-colours : (port : PortState) (page word n : ℕ) → length (map colour_of (run_of port page word n).words) ≡ n
length-colours port page word n = length-map (run_of port page word n).words colour_of ∙ length-run port page word n

-- one word more is a colour
mask-suc : (ws : List ℕ) (k : ℕ) → k < length ws → set (map colour_of (take k ws) ++ drop k ws) k (colour_of (get_or (map colour_of (take k ws) ++ drop k ws) k 0)) ≡ map colour_of (take (suc k) ws) ++ drop (suc k) ws
mask-suc [] k below = absurd (omega (arith, below))
mask-suc (w ∷ ws) zero below = refl
mask-suc (w ∷ ws) (suc k) below = ap (λ xs. colour_of w ∷ xs) (mask-suc ws k (omega (arith, below)))

pub mask-next : (ws now : List ℕ) (k : ℕ) → k < length ws → now ≡ map colour_of (take k ws) ++ drop k ws → set now k (colour_of (get_or now k 0)) ≡ map colour_of (take (k + 1) ws) ++ drop (k + 1) ws
mask-next ws now k below is =
    let next : suc k ≡ k + 1 = omega arith in
    ap (λ xs. set xs k (colour_of (get_or xs k 0))) is ∙ mask-suc ws k below ∙ ap (λ (n : ℕ). map colour_of (take n ws) ++ drop n ws) next

-- the front of a room
pub size-of-front : (n m : ℕ) → n ≤ m → length {A = ℕ} (take n (replicate m 0)) ≡ n
size-of-front zero m few = refl
size-of-front (suc n) zero few = absurd (omega (arith, few))
size-of-front (suc n) (suc m) few = ap suc (size-of-front n m (omega (arith, few)))
