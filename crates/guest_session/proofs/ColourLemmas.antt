-- Tiles after an area of a slot was opened and colours were put at its pixels, one after the other.
use Rattle.std.proofs.Common.{◌≡◌, ℕ, zero, suc, ◌+◌, ◌-◌, ◌*◌, ◌/◌, ◌%◌, ◌^◌, ◌<◌, ◌≤◌, Bool, true, false, cond, ◌&&◌, ◌||◌, eqb, ltb, List, [], ◌∷◌, length, set, Option, Some, None, is_some, option_map, pos, refl, sym, ap, ◌∙◌, ◌⊎◌, inl, inr, arith}
use Rattle.std.specs.List.{list_all, list_any}
use Rattle.std.proofs.lemmas.Bool.{and_parts, and_from, and_left, both_ways, cond-false, ne_eqb, or_parts, or_right, cases_lt, eq-eqb, eqb-true, ltb-true, lt-ltb}
use Rattle.std.proofs.lemmas.List.{get_or-set_same}
use Rattle.desk_laws.specs.Rows.{DumpOf}
use Rattle.desk_laws.specs.Frames.{PortState, FramePlace, load, load_all}
use Rattle.desk_laws.specs.Effects.{Area, points, drawn, frame_places}
use Rattle.tile_store.specs.declared.spot.Spot.{Spot}
use Rattle.tile_store.specs.Tile.{Tile}
use Rattle.tile_store.specs.Spots.{same, spot_of}
use Rattle.tile_store.specs.Squares.{has_pixel}
use Rattle.tile_store.specs.Held.{tile_at, is_held, pixel_in, colour_at, is_whole, are_whole, blank_tile, placed, with_tile, opened, tiles_along, tiles_met, written_in, written}
use Rattle.tile_store.specs.Contents.{tiles_coloured}
use Rattle.tile_store.proofs.RiseLemmas.{all-placed, written-stays, found-map}
use Rattle.tile_store.proofs.ContentLemmas.{changed-found, found-same, opened-keeps, opened-holds, written-colours, written-other}
use Rattle.tile_store.proofs.WholeLemmas.{all-keeps, whole-with, whole-written}
use Rattle.tile_store.proofs.UsedLemmas.{all-found, grid-none, grid-some}
use Rattle.window_table.specs.Entries.{Entry, entry_at}
use Rattle.guest_session.specs.RowsView.{contents_in, is_owned}
use Rattle.guest_session.specs.Reading.{area_loads, rect_of}
use Rattle.guest_session.specs.ReadTiles.{read_into}
use Rattle.guest_session.proofs.GridLemmas.{grid-same, grid-all, set-grid, with_at}

-- the spot of a slot's pixel
abbrev pub spot_for : ℕ → ℕ × ℕ → Spot
spot_for slot p = spot_of slot (p.0 / 64, p.1 / 64)

-- which of its tile's pixels a pixel is
abbrev pub pixel_for : ℕ × ℕ → ℕ
pixel_for p = p.1 % 64 * 64 + p.0 % 64

-- the tiles with a colour at a pixel of a slot
abbrev pub put_at : ℕ → ℕ × ℕ → ℕ → List Tile → List Tile
put_at slot p colour ts = written (spot_for slot p) (pixel_for p) colour ts

-- whether each of these pixels has a tile
abbrev pub are_held : ℕ → List (ℕ × ℕ) → List Tile → Bool
are_held slot ps ts = list_all (λ p. is_held (spot_for slot p) ts) ps

all-same : {X : Type 0} (p q : X → Bool) (xs : List X) → ((x : X) → p x ≡ q x) → list_all p xs ≡ list_all q xs
all-same p q [] same = refl
all-same p q (x ∷ xs) same = ap (λ b. b && list_all p xs) (same x) ∙ ap (λ b. q x && b) (all-same p q xs same)

-- ---- one pixel

put-reads : (slot : ℕ) (p : ℕ × ℕ) (colour : ℕ) (ts : List Tile) → is_held (spot_for slot p) ts ≡ true → are_whole ts ≡ true →
    colour_at slot p.0 p.1 (put_at slot p colour ts) ≡ Some colour
put-reads slot p colour ts there whole =
    ap (pixel_in (pixel_for p)) (changed-found (written_in (spot_for slot p) (pixel_for p) colour) (written-stays (spot_for slot p) (pixel_for p) colour) (spot_for slot p) ts)
    ∙ by (tile_at (spot_for slot p) ts) refl there
  where
    by : (o : Option Tile) → tile_at (spot_for slot p) ts ≡ o → is_some o ≡ true → pixel_in (pixel_for p) (option_map (written_in (spot_for slot p) (pixel_for p) colour) o) ≡ Some colour
    by None e has = absurd cc
    by (Some t) e has =
        let long : length t.square ≡ 4096 = eqb-true (length t.square) 4096 (all-found is_whole (spot_for slot p) ts t whole e) in
        let below : pixel_for p < length t.square = omega (arith, long) in
        ap (λ b. pixel_in (pixel_for p) (Some (cond b (record t { square = set t.square (pixel_for p) (Some colour) }) t))) (found-same (spot_for slot p) ts t e)
        ∙ get_or-set_same t.square (pixel_for p) (Some colour) None below

put-one : (slot : ℕ) (p : ℕ × ℕ) (colour : ℕ) (ts : List Tile) → is_held (spot_for slot p) ts ≡ true → are_whole ts ≡ true →
    (s x y : ℕ) → colour_at s x y (put_at slot p colour ts) ≡ cond (eqb s slot && eqb x p.0 && eqb y p.1) (Some colour) (colour_at s x y ts)
put-one slot p colour ts there whole = written-colours slot (record { x = pos p.0; y = pos p.1 }) colour ts (put-reads slot p colour ts there whole)

put-held : (slot : ℕ) (p : ℕ × ℕ) (colour : ℕ) (ps : List (ℕ × ℕ)) (ts : List Tile) → are_held slot ps (put_at slot p colour ts) ≡ are_held slot ps ts
put-held slot p colour ps ts =
    all-same (λ q. is_held (spot_for slot q) (put_at slot p colour ts)) (λ q. is_held (spot_for slot q) ts) ps
    (λ q. found-map (written_in (spot_for slot p) (pixel_for p) colour) (written-stays (spot_for slot p) (pixel_for p) colour) (spot_for slot q) ts)

-- ---- one pixel after the other

-- what was read of a window after its pixels were drawn
coloured-own : (slot w h : ℕ) (ps : List (ℕ × ℕ)) (ws : List ℕ) (ts : List Tile) → are_whole ts ≡ true → are_held slot ps ts ≡ true →
    list_all (λ p. ltb p.0 w && ltb p.1 h) ps ≡ true → contents_in slot w h (tiles_coloured slot ps ws ts) ≡ drawn w (contents_in slot w h ts) ps ws
coloured-own slot w h [] ws ts whole held within = refl
coloured-own slot w h (p ∷ ps) [] ts whole held within = refl
coloured-own slot w h (p ∷ ps) (v ∷ ws) ts whole held within =
    let c : ℕ = v % 2 ^ 24 in
    let helds = and_parts (is_held (spot_for slot p) ts) (are_held slot ps ts) held in
    let withins = and_parts (ltb p.0 w && ltb p.1 h) (list_all (λ q. ltb q.0 w && ltb q.1 h) ps) within in
    let sides = and_parts (ltb p.0 w) (ltb p.1 h) withins.0 in
    let one : contents_in slot w h (put_at slot p c ts) ≡ set (contents_in slot w h ts) (p.1 * w + p.0) (Some c) =
    grid-same (λ q. colour_at slot q.0 q.1 (put_at slot p c ts)) (with_at (p.0, p.1) (Some c) (λ q. colour_at slot q.0 q.1 ts)) 0 0 w h
    (λ x y _ _ _ _.
    put-one slot p c ts helds.0 whole slot x y
    ∙ ap (λ b. cond (b && eqb x p.0 && eqb y p.1) (Some c) (colour_at slot x y ts)) (eq-eqb slot slot refl))
    ∙ sym (set-grid (λ q. colour_at slot q.0 q.1 ts) None (Some c) w h p.0 p.1 (ltb-true p.0 w sides.0) (ltb-true p.1 h sides.1)) in
    coloured-own slot w h ps ws (put_at slot p c ts) (whole-written (spot_for slot p) (pixel_for p) c ts whole) (put-held slot p c ps ts ∙ helds.1) withins.1
    ∙ ap (λ cs. drawn w cs ps ws) one

-- a pixel that is none of these is as before
coloured-other : (slot : ℕ) (ps : List (ℕ × ℕ)) (ws : List ℕ) (ts : List Tile) (s x y : ℕ) → list_any (λ p. eqb s slot && eqb x p.0 && eqb y p.1) ps ≡ false →
    colour_at s x y (tiles_coloured slot ps ws ts) ≡ colour_at s x y ts
coloured-other slot [] ws ts s x y none = refl
coloured-other slot (p ∷ ps) [] ts s x y none = refl
coloured-other slot (p ∷ ps) (v ∷ ws) ts s x y none =
    let c : ℕ = v % 2 ^ 24 in
    let parts = or_parts (eqb s slot && eqb x p.0 && eqb y p.1) (list_any (λ q. eqb s slot && eqb x q.0 && eqb y q.1) ps) none in
    coloured-other slot ps ws (put_at slot p c ts) s x y parts.1
    ∙ written-other (spot_for slot p) (spot_of s (x / 64, y / 64)) (pixel_for p) (y % 64 * 64 + x % 64) c ts
    (λ here one.
    let both = and_parts (eqb s slot && eqb (y / 64) (p.1 / 64)) (eqb (x / 64) (p.0 / 64)) here in
    let firsts = and_parts (eqb s slot) (eqb (y / 64) (p.1 / 64)) both.0 in
    let column : x / 64 ≡ p.0 / 64 = eqb-true (x / 64) (p.0 / 64) both.1 in
    let row : y / 64 ≡ p.1 / 64 = eqb-true (y / 64) (p.1 / 64) firsts.1 in
    let across : x ≡ p.0 = omega (arith, column, one) in
    let down : y ≡ p.1 = omega (arith, row, one) in
    both_ways (eqb s slot && eqb x p.0 && eqb y p.1) parts.0
    (and_from (eqb s slot && eqb x p.0) (eqb y p.1) (and_from (eqb s slot) (eqb x p.0) firsts.0 (eq-eqb x p.0 across)) (eq-eqb y p.1 down)))

-- the tiles are whose they were
coloured-owned : (entries : List Entry) (slot : ℕ) (ps : List (ℕ × ℕ)) (ws : List ℕ) (ts : List Tile) → list_all (is_owned entries) (tiles_coloured slot ps ws ts) ≡ list_all (is_owned entries) ts
coloured-owned entries slot [] ws ts = refl
coloured-owned entries slot (p ∷ ps) [] ts = refl
coloured-owned entries slot (p ∷ ps) (v ∷ ws) ts =
    coloured-owned entries slot ps ws (put_at slot p (v % 2 ^ 24) ts)
    ∙ all-keeps (is_owned entries) (written_in (spot_for slot p) (pixel_for p) (v % 2 ^ 24))
    (λ t. ap (λ (s : Spot). is_some (entry_at s.slot entries)) (written-stays (spot_for slot p) (pixel_for p) (v % 2 ^ 24) t)) ts

-- ---- each tile has a pixel

-- whether a tile has one of these pixels of a slot
abbrev pub meets : ℕ → List (ℕ × ℕ) → Tile → Bool
meets slot ps t = list_any (λ p. same t.spot (spot_for slot p)) ps

-- whether a tile has a colour at a pixel, or has one of these pixels
abbrev pub is_lit : ℕ → List (ℕ × ℕ) → Tile → Bool
is_lit slot ps t = has_pixel t.square || meets slot ps t

set-pixel : (xs : List (Option ℕ)) (k c : ℕ) → k < length xs → has_pixel (set xs k (Some c)) ≡ true
set-pixel [] k c below = absurd (omega arith)
set-pixel (x ∷ xs) zero c below = refl
set-pixel (x ∷ xs) (suc k) c below = or_right (is_some x) (has_pixel (set xs k (Some c))) (set-pixel xs k c (omega arith))

put-lit : (slot : ℕ) (p : ℕ × ℕ) (ps : List (ℕ × ℕ)) (c : ℕ) (ts : List Tile) → are_whole ts ≡ true → list_all (is_lit slot (p ∷ ps)) ts ≡ true → list_all (is_lit slot ps) (put_at slot p c ts) ≡ true
put-lit slot p ps c [] whole all = refl
put-lit slot p ps c (t ∷ ts) whole all =
    let wholes = and_parts (is_whole t) (are_whole ts) whole in
    let alls = and_parts (is_lit slot (p ∷ ps) t) (list_all (is_lit slot (p ∷ ps)) ts) all in
    and_from (is_lit slot ps (written_in (spot_for slot p) (pixel_for p) c t)) (list_all (is_lit slot ps) (put_at slot p c ts))
    (one (same t.spot (spot_for slot p)) refl (eqb-true (length t.square) 4096 wholes.0) alls.0) (put-lit slot p ps c ts wholes.1 alls.1)
  where
    one : (b : Bool) → same t.spot (spot_for slot p) ≡ b → length t.square ≡ 4096 → is_lit slot (p ∷ ps) t ≡ true → is_lit slot ps (written_in (spot_for slot p) (pixel_for p) c t) ≡ true
    one true e long lit =
        let below : pixel_for p < length t.square = omega (arith, long) in
        ap (λ b. is_lit slot ps (cond b (record t { square = set t.square (pixel_for p) (Some c) }) t)) e
        ∙ ap (λ b. b || meets slot ps t) (set-pixel t.square (pixel_for p) c below)
    one false e long lit =
        ap (λ b. is_lit slot ps (cond b (record t { square = set t.square (pixel_for p) (Some c) }) t)) e
        ∙ ap (λ b. has_pixel t.square || (b || meets slot ps t)) (sym e) ∙ lit

or-none : (b : Bool) → (b || false) ≡ b
or-none true = refl
or-none false = refl

coloured-left : (slot : ℕ) (ps : List (ℕ × ℕ)) (ws : List ℕ) (ts : List Tile) → length ps ≤ length ws → are_whole ts ≡ true → list_all (is_lit slot ps) ts ≡ true →
    list_all (λ (t : Tile). has_pixel t.square) (tiles_coloured slot ps ws ts) ≡ true
coloured-left slot [] ws ts long whole all = all-same (λ (t : Tile). has_pixel t.square) (is_lit slot []) ts (λ t. sym (or-none (has_pixel t.square))) ∙ all
coloured-left slot (p ∷ ps) [] ts long whole all = absurd (omega arith)
coloured-left slot (p ∷ ps) (v ∷ ws) ts long whole all =
    coloured-left slot ps ws (put_at slot p (v % 2 ^ 24) ts) (omega arith) (whole-written (spot_for slot p) (pixel_for p) (v % 2 ^ 24) ts whole) (put-lit slot p ps (v % 2 ^ 24) ts whole all)

-- ---- tiles that are opened

with-all : (p : Tile → Bool) (q : Spot) (ts : List Tile) → p (blank_tile q) ≡ true → list_all p ts ≡ true → list_all p (with_tile q ts) ≡ true
with-all p q ts here all = by (is_held q ts)
  where
    by : (b : Bool) → list_all p (cond b ts (placed (blank_tile q) ts)) ≡ true
    by true = all
    by false = all-placed p (blank_tile q) ts here all

opened-all : (p : Tile → Bool) (slot : ℕ) (places : List (ℕ × ℕ)) (ts : List Tile) → list_all (λ place. p (blank_tile (spot_of slot place))) places ≡ true → list_all p ts ≡ true → list_all p (opened slot places ts) ≡ true
opened-all p slot [] ts each all = all
opened-all p slot (q ∷ qs) ts each all =
    let parts = and_parts (p (blank_tile (spot_of slot q))) (list_all (λ place. p (blank_tile (spot_of slot place))) qs) each in
    opened-all p slot qs (with_tile (spot_of slot q) ts) parts.1 (with-all p (spot_of slot q) ts parts.0 all)

opened-whole : (slot : ℕ) (places : List (ℕ × ℕ)) (ts : List Tile) → are_whole ts ≡ true → are_whole (opened slot places ts) ≡ true
opened-whole slot [] ts whole = whole
opened-whole slot (q ∷ qs) ts whole = opened-whole slot qs (with_tile (spot_of slot q) ts) (whole-with (spot_of slot q) ts whole)

-- a pixel along a side that a tile has in common with it
record HasCommon (a n k : ℕ) : Type 0 where
  at : ℕ
  low : a ≤ at
  high : at < a + n
  in_tile : at / 64 ≡ k

-- how many tiles a side that isn't empty meets
pub some-along : (a n : ℕ) → tiles_along a (suc n) ≡ (a + suc n + 63) / 64 - a / 64
some-along a n = cond-false (eqb (suc n) 0) 0 ((a + suc n + 63) / 64 - a / 64) (ne_eqb (suc n) 0 (λ e. omega (arith, e)))

common-along : (a n k : ℕ) → a / 64 ≤ k → k < a / 64 + tiles_along a n → HasCommon a n k
common-along a zero k low high = absurd (omega arith)
common-along a (suc n) k low high = by (cases_lt a (64 * k))
  where
    by : (a < 64 * k) ⊎ (64 * k ≤ a) → HasCommon a (suc n) k
    by (inl h) = record { at = 64 * k; low = omega (arith, h); high = omega (arith, h, high, some-along a n); in_tile = omega arith }
    by (inr h) = record { at = a; low = omega arith; high = omega arith; in_tile = omega (arith, h, low) }

-- each tile that an area meets has one of its pixels
met-lit : (slot : ℕ) (a : Area) → list_all (λ place. is_lit slot (points a) (blank_tile (spot_of slot place))) (tiles_met (rect_of a)) ≡ true
met-lit slot a =
    grid-all (λ place. is_lit slot (points a) (blank_tile (spot_of slot place))) (a.x / 64) (a.y / 64) (tiles_along a.x a.w) (tiles_along a.y a.h)
    (λ k j low high above below.
    let across = common-along a.x a.w k low high in
    let down = common-along a.y a.h j above below in
    or_right (has_pixel (blank_tile (spot_of slot (k, j))).square) (meets slot (points a) (blank_tile (spot_of slot (k, j))))
    (grid-some (λ p. same (spot_of slot (k, j)) (spot_for slot p)) a.x a.y a.w a.h across.at down.at across.low across.high down.low down.high
    (and_from (eqb slot slot && eqb j (down.at / 64)) (eqb k (across.at / 64))
    (and_from (eqb slot slot) (eqb j (down.at / 64)) (eq-eqb slot slot refl) (eq-eqb j (down.at / 64) (sym down.in_tile))) (eq-eqb k (across.at / 64) (sym across.in_tile)))))

-- ---- an area that is read

-- as many words are loaded as there are places
loads-long : (port : PortState) (places : List FramePlace) → length (load_all port places).words ≡ length places
loads-long port [] = refl
loads-long port (s ∷ places) = ap suc (loads-long (load port s.page s.word).1 places)

places-long : (dump : DumpOf) (ps : List (ℕ × ℕ)) → length (frame_places (Some dump) ps) ≡ length ps
places-long dump [] = refl
places-long dump (p ∷ ps) = ap suc (places-long dump ps)

pub area-long : (port : PortState) (dump : DumpOf) (a : Area) → length (area_loads port (Some dump) a).words ≡ length (points a)
area-long port dump a = loads-long port (frame_places (Some dump) (points a)) ∙ places-long dump (points a)

-- what was read of the window itself
pub read-own : (slot w h : ℕ) (a : Area) (words : List ℕ) (ts : List Tile) → are_whole ts ≡ true → (0 < a.w → a.x + a.w ≤ w) → (0 < a.h → a.y + a.h ≤ h) →
    contents_in slot w h (read_into slot a words ts) ≡ drawn w (contents_in slot w h ts) (points a) words
read-own slot w h a words ts whole right below =
    let open_tiles = opened slot (tiles_met (rect_of a)) ts in
    coloured-own slot w h (points a) words open_tiles (opened-whole slot (tiles_met (rect_of a)) ts whole)
    (grid-all (λ p. is_held (spot_for slot p) open_tiles) a.x a.y a.w a.h (λ x y xl xh yl yh. opened-holds slot (rect_of a) ts x y xl xh yl yh))
    (grid-all (λ p. ltb p.0 w && ltb p.1 h) a.x a.y a.w a.h
    (λ x y xl xh yl yh.
    let r = right (omega arith) in
    let b = below (omega arith) in
    and_from (ltb x w) (ltb y h) (lt-ltb x w (omega (arith, r))) (lt-ltb y h (omega (arith, b)))))
    ∙ ap (λ cs. drawn w cs (points a) words)
    (grid-same (λ p. colour_at slot p.0 p.1 open_tiles) (λ p. colour_at slot p.0 p.1 ts) 0 0 w h (λ x y _ _ _ _. opened-keeps slot (tiles_met (rect_of a)) ts slot x y))

-- a pixel outside the area is as before
read-other : (slot : ℕ) (a : Area) (words : List ℕ) (ts : List Tile) (s x y : ℕ) →
    ((p q : ℕ) → a.x ≤ p → p < a.x + a.w → a.y ≤ q → q < a.y + a.h → (eqb s slot && eqb x p && eqb y q) ≡ false) →
    colour_at s x y (read_into slot a words ts) ≡ colour_at s x y ts
read-other slot a words ts s x y none =
    coloured-other slot (points a) words (opened slot (tiles_met (rect_of a)) ts) s x y
    (grid-none (λ p. eqb s slot && eqb x p.0 && eqb y p.1) a.x a.y a.w a.h none)
    ∙ opened-keeps slot (tiles_met (rect_of a)) ts s x y

-- the pixels of other slots are as before
pub read-others : (slot : ℕ) (a : Area) (words : List ℕ) (ts : List Tile) (s x y : ℕ) → eqb s slot ≡ false → colour_at s x y (read_into slot a words ts) ≡ colour_at s x y ts
read-others slot a words ts s x y other =
    read-other slot a words ts s x y
    (λ p q _ _ _ _. and_left (eqb s slot && eqb x p) (eqb y q) (and_left (eqb s slot) (eqb x p) other))

-- and those of the slot outside a size in which the area lies
pub read-outside : (slot w h : ℕ) (a : Area) (words : List ℕ) (ts : List Tile) (x y : ℕ) → (0 < a.w → a.x + a.w ≤ w) → (0 < a.h → a.y + a.h ≤ h) →
    (ltb x w && ltb y h) ≡ false → colour_at slot x y (read_into slot a words ts) ≡ colour_at slot x y ts
read-outside slot w h a words ts x y right below out =
    read-other slot a words ts slot x y
    (λ p q pl ph ql qh. by p q (eqb slot slot && eqb x p && eqb y q) refl (right (omega arith)) (below (omega arith)) ph qh)
  where
    by : (p q : ℕ) (b : Bool) → (eqb slot slot && eqb x p && eqb y q) ≡ b → a.x + a.w ≤ w → a.y + a.h ≤ h → p < a.x + a.w → q < a.y + a.h → b ≡ false
    by p q false e r d ph qh = refl
    by p q true e r d ph qh =
        let parts = and_parts (eqb slot slot && eqb x p) (eqb y q) e in
        let firsts = and_parts (eqb slot slot) (eqb x p) parts.0 in
        let across : x ≡ p = eqb-true x p firsts.1 in
        let down : y ≡ q = eqb-true y q parts.1 in
        absurd (both_ways (ltb x w && ltb y h) out
        (and_from (ltb x w) (ltb y h) (lt-ltb x w (omega (arith, across, r, ph))) (lt-ltb y h (omega (arith, down, d, qh)))))

-- the tiles are those of slots that have an entry
pub read-owned : (entries : List Entry) (slot : ℕ) (a : Area) (words : List ℕ) (ts : List Tile) → is_some (entry_at slot entries) ≡ true → list_all (is_owned entries) ts ≡ true →
    list_all (is_owned entries) (read_into slot a words ts) ≡ true
read-owned entries slot a words ts has all =
    coloured-owned entries slot (points a) words (opened slot (tiles_met (rect_of a)) ts)
    ∙ opened-all (is_owned entries) slot (tiles_met (rect_of a)) ts
    (grid-all (λ place. is_owned entries (blank_tile (spot_of slot place))) (a.x / 64) (a.y / 64) (tiles_along a.x a.w) (tiles_along a.y a.h) (λ k j _ _ _ _. has)) all

lit-more : (slot : ℕ) (ps : List (ℕ × ℕ)) (ts : List Tile) → list_all (λ (t : Tile). has_pixel t.square) ts ≡ true → list_all (is_lit slot ps) ts ≡ true
lit-more slot ps [] all = refl
lit-more slot ps (t ∷ ts) all =
    let parts = and_parts (has_pixel t.square) (list_all (λ (u : Tile). has_pixel u.square) ts) all in
    and_from (is_lit slot ps t) (list_all (is_lit slot ps) ts) (ap (λ b. b || meets slot ps t) parts.0) (lit-more slot ps ts parts.1)

-- each tile has a pixel
pub read-left : (slot : ℕ) (a : Area) (words : List ℕ) (ts : List Tile) → length (points a) ≤ length words → are_whole ts ≡ true → list_all (λ (t : Tile). has_pixel t.square) ts ≡ true →
    list_all (λ (t : Tile). has_pixel t.square) (read_into slot a words ts) ≡ true
read-left slot a words ts long whole all =
    coloured-left slot (points a) words (opened slot (tiles_met (rect_of a)) ts) long (opened-whole slot (tiles_met (rect_of a)) ts whole)
    (opened-all (is_lit slot (points a)) slot (tiles_met (rect_of a)) ts (met-lit slot a) (lit-more slot (points a) ts all))
