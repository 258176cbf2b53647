-- What an SHMIMAGE does to a guest's rows.
use Rattle.std.proofs.Common.{◌≡◌, ℕ, ◌+◌, ◌-◌, ◌/◌, ◌<◌, ◌≤◌, Bool, true, false, cond, ◌||◌, eqb, List, [], ◌∷◌, length, Option, Some, None, is_some, Result, Ok, refl, sym, ap, ◌∙◌, ◌⊎◌, inl, inr, subst, arith}
use Rattle.std.specs.Prelude.{nat_lt, ◌==◌}
use Rattle.std.proofs.lemmas.Bool.{eqb-true, le-ltb, or_cases}
use Rattle.gui_num.specs.declared.Rect.{Rect}
use Rattle.desk_laws.specs.declared.cause.Cause.{Cause}
use Rattle.desk_laws.specs.declared.cause.Cause.TheVariants.{PixelBudget}
use Rattle.desk_laws.specs.Sizes.{Sizes}
use Rattle.desk_laws.specs.Rows.{Row, DumpOf, grid, row_with}
use Rattle.desk_laws.specs.Tiles.{tiles_in_use, tiles_needed}
use Rattle.desk_laws.specs.Frames.{PortState, load_all}
use Rattle.desk_laws.specs.Effects.{Area, Verdict, Ends, Reads, points, clipped, drawn_row, frame_places, reads}
use Rattle.desk_laws.specs.Ranges.{IsPlace}
use Rattle.tile_store.specs.Tile.{Tile}
use Rattle.tile_store.specs.Held.{TilesView, are_whole, missing, opened, rises, tiles_along, tiles_met}
use Rattle.tile_store.specs.Contents.{tiles_coloured}
use Rattle.window_table.specs.declared.pane.DumpSize.{DumpSize}
use Rattle.window_table.specs.Entries.{Entry, TableView, AreApart, entry_at, updated, size_of_dump}
use Rattle.guest_session.specs.RowsView.{RowsView, AreKept, HasFitDump, StaysInside, own_row, own_rows, viewed, with_row}
use Rattle.guest_session.specs.Areas.{Covers, dump_of, dump_at}
use Rattle.guest_session.specs.Reading.{ReadsAs, area_loads, drawn_by, rect_of}
use Rattle.guest_session.specs.ReadTiles.{ReadsTiles, clipped_to, needed, read_into, width_in}
use Rattle.guest_session.proofs.GridLemmas.{grid-narrow}
use Rattle.guest_session.proofs.TableLemmas.{HasSlot}
use Rattle.guest_session.proofs.RowChanges.{KeepsOthers}
use Rattle.guest_session.proofs.KeptLemmas.{kept-at, kept-updated, row-is, viewed-updated}
use Rattle.guest_session.proofs.ColourLemmas.{area-long, read-own, read-others, read-outside, read-owned, read-left}
use Rattle.guest_session.proofs.UseLemmas.{in-use, needs, row-agrees}

-- ---- the exits of a reading

-- an area without a pixel
pub record IsEmpty (a : Area) : Type 0 where
  pub points_none : points a ≡ []
  pub tiles_none : tiles_met (rect_of a) ≡ []
  pub read_none : drawn_by a ≡ None

flat : (a : Area) → a.w ≡ 0 → IsEmpty a
flat a e = record {
  points_none = ap (λ n. grid a.x a.y n a.h) e ∙ grid-narrow a.x a.y a.h;
  tiles_none = ap (λ n. grid (a.x / 64) (a.y / 64) (tiles_along a.x n) (tiles_along a.y a.h)) e ∙ grid-narrow (a.x / 64) (a.y / 64) (tiles_along a.y a.h);
  read_none = ap (λ n. cond (eqb n 0 || eqb a.h 0) None (Some (rect_of a))) e;
}

low : (a : Area) → a.h ≡ 0 → IsEmpty a
low a e = record {
  points_none = ap (λ n. grid a.x a.y a.w n) e;
  tiles_none = ap (λ n. grid (a.x / 64) (a.y / 64) (tiles_along a.x a.w) (tiles_along a.y n)) e;
  read_none = ap (λ n. cond (eqb a.w 0 || eqb n 0) None (Some (rect_of a))) e ∙ by (eqb a.w 0);
}
  where
    by : (b : Bool) → cond (b || true) None (Some (rect_of a)) ≡ None
    by true = refl
    by false = refl

pub is-empty : (a : Area) → (eqb a.w 0 || eqb a.h 0) ≡ true → IsEmpty a
is-empty a none = by (or_cases (eqb a.w 0) (eqb a.h 0) none)
  where
    by : (eqb a.w 0 ≡ true) ⊎ (eqb a.h 0 ≡ true) → IsEmpty a
    by (inl e) = flat a (eqb-true a.w 0 e)
    by (inr e) = low a (eqb-true a.h 0 e)

loads-none : (port : PortState) (dump : Option DumpOf) (a : Area) → points a ≡ [] → (area_loads port dump a).port ≡ port
loads-none port None a none = refl
loads-none port (Some dump) a none = ap (λ ps. let l = load_all port (frame_places (Some dump) ps) in l.port) none

pub reads_tiles-empty : (port : PortState) (tiles : TilesView) (slot : ℕ) (dump : Option DumpOf) (a : Area) → IsEmpty a →
    ReadsTiles port port tiles tiles (Ok None) slot dump a (nat_lt (tiles.number - length tiles.held) (needed slot a tiles.held))
reads_tiles-empty port tiles slot dump a empty =
    let P : Bool → Type 0 = λ b. ReadsTiles port port tiles tiles (Ok None) slot dump a b in
    let none : needed slot a tiles.held ≡ 0 = ap (λ ps. missing slot ps tiles.held) empty.tiles_none in
    subst P (sym (ap (nat_lt (tiles.number - length tiles.held)) none ∙ le-ltb (tiles.number - length tiles.held) 0 (omega arith)))
    (record {
      answer = ap Ok (sym empty.read_none);
      tiles = ap (λ ts. let t : TilesView = record { number = tiles.number; held = ts } in t)
          (sym (ap (λ ps. tiles_coloured slot ps (area_loads port dump a).words (opened slot (tiles_met (rect_of a)) tiles.held)) empty.points_none
          ∙ ap (λ ps. opened slot ps tiles.held) empty.tiles_none));
      frames = sym (loads-none port dump a empty.points_none);
    })

-- ---- the area that is read

pub clipped-same : (row : Row) (dump : Option DumpOf) (x y w h : ℕ) → clipped row dump x y w h ≡ clipped_to row.place (size_of_dump dump) x y w h
clipped-same row None x y w h = refl
clipped-same row (Some dump) x y w h = refl

clipped-right : (place : Rect) (dump : Option DumpOf) (x y w h : ℕ) → 0 < (clipped_to place (size_of_dump dump) x y w h).w →
    (clipped_to place (size_of_dump dump) x y w h).x + (clipped_to place (size_of_dump dump) x y w h).w ≤ place.w
clipped-right place None x y w h some = absurd (omega arith)
clipped-right place (Some dump) x y w h some = omega (arith, some)

clipped-below : (place : Rect) (dump : Option DumpOf) (x y w h : ℕ) → 0 < (clipped_to place (size_of_dump dump) x y w h).h →
    (clipped_to place (size_of_dump dump) x y w h).y + (clipped_to place (size_of_dump dump) x y w h).h ≤ place.h
clipped-below place None x y w h some = absurd (omega arith)
clipped-below place (Some dump) x y w h some = omega (arith, some)

covers-by : (pages slot : ℕ) (entries : List Entry) (place : Rect) (dump : Option DumpOf) (x y w h : ℕ) → dump_at slot entries ≡ dump → HasFitDump pages dump →
    0 < (clipped_to place (size_of_dump dump) x y w h).w → 0 < (clipped_to place (size_of_dump dump) x y w h).h →
    Covers pages (width_in (size_of_dump dump)) (clipped_to place (size_of_dump dump) x y w h) (dump_at slot entries)
covers-by pages slot entries place None x y w h here fits wide high = absurd (omega arith)
covers-by pages slot entries place (Some dump) x y w h here fits wide high = record {
  is = dump;
  here = here;
  width = refl;
  fits = fits;
  right = omega (arith, wide);
  below = omega (arith, high);
}

-- the clipped area lies in a dump that fits
pub covers : (pages port_pages slot : ℕ) (entries : List Entry) (e : Entry) (place : Rect) (size : Option DumpSize) (a : Area) (x y w h : ℕ) → entry_at slot entries ≡ Some e →
    size_of_dump e.dump ≡ size → a ≡ clipped_to place size x y w h → HasFitDump pages e.dump → port_pages ≡ pages → 0 < a.w → 0 < a.h → Covers port_pages (width_in size) a (dump_at slot entries)
covers pages port_pages slot entries e place size a x y w h at is area fits same wide high =
    let whole : a ≡ clipped_to place (size_of_dump e.dump) x y w h = area ∙ ap (λ s. clipped_to place s x y w h) (sym is) in
    let P : Area → Type 0 = λ b. 0 < b.w in
    let Q : Area → Type 0 = λ b. 0 < b.h in
    let R : ℕ → Type 0 = λ n. Covers n (width_in size) a (dump_at slot entries) in
    let S : Option DumpSize → Type 0 = λ s. Covers pages (width_in s) a (dump_at slot entries) in
    let T : Area → Type 0 = λ b. Covers pages (width_in (size_of_dump e.dump)) b (dump_at slot entries) in
    subst R (sym same) (subst S is (subst T (sym whole) (covers-by pages slot entries place e.dump x y w h (ap dump_of at) fits (subst P whole wide) (subst Q whole high))))

-- ---- what became of the rows

updated-none : (slot : ℕ) (xs : List Entry) → updated slot (λ e. e) xs ≡ xs
updated-none slot [] = refl
updated-none slot (x ∷ xs) = ap (λ y. y ∷ updated slot (λ e. e) xs) (by (x.slot == slot)) ∙ ap (λ ys. x ∷ ys) (updated-none slot xs)
  where
    by : (b : Bool) → cond b x x ≡ x
    by true = refl
    by false = refl

table-same : (slot : ℕ) (table : TableView) → table ≡ record table { entries = updated slot (λ e. e) table.entries }
table-same slot table = ap (λ es. let t : TableView = record table { entries = es } in t) (sym (updated-none slot table.entries))

-- an area of a window's row that lies in it, with as many words as it has pixels
pub record ReadsIn (e : Entry) (a : Area) (words : List ℕ) : Type 0 where
  pub right : 0 < a.w → a.x + a.w ≤ e.pane.place.w
  pub below : 0 < a.h → a.y + a.h ≤ e.pane.place.h
  pub long : length (points a) ≤ length words

others-keep : (slot : ℕ) (a : Area) (words : List ℕ) (held : List Tile) → KeepsOthers slot held (read_into slot a words held)
others-keep slot a words held s x y other = read-others slot a words held s x y other

pub kept-read : (window slot : ℕ) (table : TableView) (held : List Tile) (h : HasSlot window slot table.entries) → AreApart table.entries → AreKept table held → are_whole held ≡ true →
    (a : Area) (words : List ℕ) → ReadsIn h.entry a words → AreKept table (read_into slot a words held)
kept-read window slot table held h apart kept whole a words in_row =
    let I : ℕ → Type 0 = λ n. StaysInside (read_into n a words held) h.entry in
    kept-updated window slot (λ e. e) table table held (read_into slot a words held) h apart kept (λ _. refl)
    (kept-at (λ (e : Entry). IsPlace e.pane.place) window slot table.entries h kept.placed)
    (kept-at (λ (e : Entry). HasFitDump table.pages e.dump) window slot table.entries h kept.dumps)
    (subst I h.slot_is (λ x y out.
    read-outside h.entry.slot h.entry.pane.place.w h.entry.pane.place.h a words held x y in_row.right in_row.below out
    ∙ kept-at (StaysInside held) window slot table.entries h kept.inside x y out))
    (read-owned table.entries slot a words held (ap is_some h.at_slot) kept.owned)
    (read-left slot a words held in_row.long whole kept.left)
    (others-keep slot a words held)
    (table-same slot table)

row-read : (guest slot : ℕ) (held : List Tile) (e : Entry) (a : Area) (words : List ℕ) → e.slot ≡ slot → are_whole held ≡ true → ReadsIn e a words →
    own_row guest (read_into slot a words held) e ≡ drawn_row (own_row guest held e) a words
row-read guest slot held e a words at whole in_row =
    let place = e.pane.place in
    ap (λ n. own_row guest (read_into n a words held) e) (sym at)
    ∙ ap (λ contents. let row : Row = record (own_row guest held e) { contents = contents } in row)
    (read-own e.slot place.w place.h a words held whole in_row.right in_row.below)

pub viewed-read : (guest window slot : ℕ) (table : TableView) (tiles tiles' : TilesView) (h : HasSlot window slot table.entries) → AreApart table.entries → are_whole tiles.held ≡ true →
    (a : Area) (words : List ℕ) → ReadsIn h.entry a words → tiles' ≡ record tiles { held = read_into slot a words tiles.held } →
    viewed guest table tiles' ≡ with_row (drawn_row (own_row guest tiles.held h.entry) a words) (viewed guest table tiles)
viewed-read guest window slot table tiles tiles' h apart whole a words in_row is =
    ap (viewed guest table) is
    ∙ viewed-updated guest window slot table table tiles (record tiles { held = read_into slot a words tiles.held }) h apart (λ e. e) (drawn_row (own_row guest tiles.held h.entry) a words) refl
    (row-read guest slot tiles.held h.entry a words h.slot_is whole in_row) (table-same slot table) refl (others-keep slot a words tiles.held)

-- ---- the verdict

-- an area of a window's row that is read, in a state in which all is kept
pub record ReadsSlot (window slot : ℕ) (table : TableView) (tiles : TilesView) (h : HasSlot window slot table.entries) (a : Area) (port : PortState) : Type 0 where
  pub apart : AreApart table.entries
  pub kept : AreKept table tiles.held
  pub rising : rises tiles.held ≡ true
  pub whole : are_whole tiles.held ≡ true
  pub in_row : ReadsIn h.entry a (area_loads port h.entry.dump a).words

pub area-in : (e : Entry) (place : Rect) (size : Option DumpSize) (a : Area) (x y w h : ℕ) (port : PortState) → e.pane.place ≡ place → size_of_dump e.dump ≡ size → a ≡ clipped_to place size x y w h →
    ReadsIn e a (area_loads port e.dump a).words
area-in e place size a x y w h port placed sized area =
    let is : a ≡ clipped_to e.pane.place (size_of_dump e.dump) x y w h = area ∙ ap (λ p. clipped_to p size x y w h) (sym placed) ∙ ap (λ s. clipped_to e.pane.place s x y w h) (sym sized) in
    let P : Area → Type 0 = λ b. ReadsIn e b (area_loads port e.dump b).words in
    subst P (sym is) (record {
      right = clipped-right e.pane.place e.dump x y w h;
      below = clipped-below e.pane.place e.dump x y w h;
      long = by e.dump;
    })
  where
    by : (dump : Option DumpOf) → length (points (clipped_to e.pane.place (size_of_dump dump) x y w h)) ≤ length (area_loads port dump (clipped_to e.pane.place (size_of_dump dump) x y w h)).words
    by None = omega arith
    by (Some dump) = let long = area-long port dump (clipped_to e.pane.place (size_of_dump (Some dump)) x y w h) in omega (arith, long)

-- the verdict on an area, in terms of the tiles
verdict-is : (guest window slot : ℕ) (table : TableView) (tiles : TilesView) (h : HasSlot window slot table.entries) (a : Area) (port : PortState) → ReadsSlot window slot table tiles h a port →
    (sizes : Sizes) → sizes.tiles ≡ tiles.number →
    reads sizes (own_rows guest tiles.held table.entries) (own_row guest tiles.held h.entry) a
    ≡ cond (nat_lt (tiles.number - length tiles.held) (needed slot a tiles.held)) (Ends (PixelBudget (needed slot a tiles.held) (tiles.number - length tiles.held))) (Reads (own_row guest tiles.held h.entry) a)
verdict-is guest window slot table tiles h a port all sizes same =
    let row = own_row guest tiles.held h.entry in
    let taken : tiles_in_use (own_rows guest tiles.held table.entries) ≡ length tiles.held = in-use guest tiles.held table.entries all.apart all.kept.inside all.kept.owned all.kept.left all.whole all.rising in
    let need : tiles_needed row a.x a.y a.w a.h ≡ needed slot a tiles.held =
    needs row h.entry.slot tiles.held (row-agrees guest tiles.held h.entry (kept-at (StaysInside tiles.held) window slot table.entries h all.kept.inside) all.kept.left all.whole) a.x a.y a.w a.h all.in_row.right all.in_row.below
    ∙ ap (λ n. needed n a tiles.held) h.slot_is in
    ap (λ n. cond (nat_lt (n - tiles_in_use (own_rows guest tiles.held table.entries)) (tiles_needed row a.x a.y a.w a.h)) (Ends (PixelBudget (tiles_needed row a.x a.y a.w a.h) (n - tiles_in_use (own_rows guest tiles.held table.entries)))) (Reads row a)) same
    ∙ ap (λ n. cond (nat_lt (tiles.number - n) (tiles_needed row a.x a.y a.w a.h)) (Ends (PixelBudget (tiles_needed row a.x a.y a.w a.h) (tiles.number - n))) (Reads row a)) taken
    ∙ ap (λ n. cond (nat_lt (tiles.number - length tiles.held) n) (Ends (PixelBudget n (tiles.number - length tiles.held))) (Reads row a)) need

reads-by : (guest window slot : ℕ) (table : TableView) (tiles tiles' : TilesView) (h : HasSlot window slot table.entries) (a : Area) (port port' : PortState) (result : Result (Option Rect) Cause) (b : Bool) →
    ReadsSlot window slot table tiles h a port → ReadsTiles port port' tiles tiles' result slot h.entry.dump a b →
    ReadsAs port port' (viewed guest table tiles) (viewed guest table tiles') result
    (cond b (Ends (PixelBudget (needed slot a tiles.held) (tiles.number - length tiles.held))) (Reads (own_row guest tiles.held h.entry) a))
reads-by guest window slot table tiles tiles' h a port port' result true all filled =
    record { answer = filled.answer; rows = ap (viewed guest table) filled.tiles; unread = filled.unread }
reads-by guest window slot table tiles tiles' h a port port' result false all filled = record {
  answer = filled.answer;
  rows = viewed-read guest window slot table tiles tiles' h all.apart all.whole a (area_loads port h.entry.dump a).words all.in_row filled.tiles;
  frames = filled.frames;
}

-- what became of an SHMIMAGE
pub reads-as : (guest window slot : ℕ) (table : TableView) (tiles tiles' : TilesView) (h : HasSlot window slot table.entries) (a : Area) (port port' : PortState) (result : Result (Option Rect) Cause) →
    ReadsSlot window slot table tiles h a port →
    ReadsTiles port port' tiles tiles' result slot (dump_at slot table.entries) a (nat_lt (tiles.number - length tiles.held) (needed slot a tiles.held)) →
    (sizes : Sizes) → sizes.tiles ≡ tiles.number →
    ReadsAs port port' (viewed guest table tiles) (viewed guest table tiles') result (reads sizes (own_rows guest tiles.held table.entries) (own_row guest tiles.held h.entry) a)
reads-as guest window slot table tiles tiles' h a port port' result all filled sizes same =
    let b : Bool = nat_lt (tiles.number - length tiles.held) (needed slot a tiles.held) in
    let D : Option DumpOf → Type 0 = λ d. ReadsTiles port port' tiles tiles' result slot d a b in
    let V : Verdict → Type 0 = λ v. ReadsAs port port' (viewed guest table tiles) (viewed guest table tiles') result v in
    subst V (sym (verdict-is guest window slot table tiles h a port all sizes same))
    (reads-by guest window slot table tiles tiles' h a port port' result b all (subst D (ap dump_of h.at_slot) filled))

kept-by : (window slot : ℕ) (table : TableView) (tiles tiles' : TilesView) (h : HasSlot window slot table.entries) (a : Area) (port port' : PortState) (result : Result (Option Rect) Cause) (b : Bool) →
    ReadsSlot window slot table tiles h a port → ReadsTiles port port' tiles tiles' result slot h.entry.dump a b → AreKept table tiles'.held
kept-by window slot table tiles tiles' h a port port' result true all filled =
    let P : TilesView → Type 0 = λ t. AreKept table t.held in
    subst P (sym filled.tiles) all.kept
kept-by window slot table tiles tiles' h a port port' result false all filled =
    let P : TilesView → Type 0 = λ t. AreKept table t.held in
    subst P (sym filled.tiles) (kept-read window slot table tiles.held h all.apart all.kept all.whole a (area_loads port h.entry.dump a).words all.in_row)

-- and what is kept
pub reads-kept : (window slot : ℕ) (table : TableView) (tiles tiles' : TilesView) (h : HasSlot window slot table.entries) (a : Area) (port port' : PortState) (result : Result (Option Rect) Cause) →
    ReadsSlot window slot table tiles h a port →
    ReadsTiles port port' tiles tiles' result slot (dump_at slot table.entries) a (nat_lt (tiles.number - length tiles.held) (needed slot a tiles.held)) → AreKept table tiles'.held
reads-kept window slot table tiles tiles' h a port port' result all filled =
    let b : Bool = nat_lt (tiles.number - length tiles.held) (needed slot a tiles.held) in
    let D : Option DumpOf → Type 0 = λ d. ReadsTiles port port' tiles tiles' result slot d a b in
    kept-by window slot table tiles tiles' h a port port' result b all (subst D (ap dump_of h.at_slot) filled)

-- what became of a window's row, as the code has it
pub reads-row : (guest window slot : ℕ) (table : TableView) (tiles tiles' : TilesView) (v : RowsView) (h : HasSlot window slot table.entries) (place : Rect) (size : Option DumpSize) (a : Area) (x y w l : ℕ)
    (state state' : ℕ → PortState) (result : Result (Option Rect) Cause) → viewed guest table tiles ≡ v → h.entry.pane.place ≡ place → size_of_dump h.entry.dump ≡ size → a ≡ clipped_to place size x y w l →
    ReadsSlot window slot table tiles h a (state guest) →
    ReadsTiles (state guest) (state' guest) tiles tiles' result slot (dump_at slot table.entries) a (nat_lt (tiles.number - length tiles.held) (needed slot a tiles.held)) →
    (sizes : Sizes) → sizes.tiles ≡ v.tiles → (row : Row) → row_with window v.rows ≡ Some row →
    ReadsAs (state v.guest) (state' v.guest) v (viewed guest table tiles') result (reads sizes v.rows row (clipped row row.dump x y w l))
reads-row guest window slot table tiles tiles' v h place size a x y w l state state' result is placed sized area all filled sizes same row found =
    let own = own_row guest tiles.held h.entry in
    let whole : a ≡ clipped own own.dump x y w l =
    area ∙ ap (λ p. clipped_to p size x y w l) (sym placed) ∙ ap (λ s. clipped_to h.entry.pane.place s x y w l) (sym sized) ∙ sym (clipped-same own h.entry.dump x y w l) in
    let A : Area → Type 0 = λ b. ReadsAs (state guest) (state' guest) (viewed guest table tiles) (viewed guest table tiles') result (reads sizes (own_rows guest tiles.held table.entries) own b) in
    let number : sizes.tiles ≡ tiles.number = same ∙ ap (λ (u : RowsView). u.tiles) (sym is) in
    let R : Row → Type 0 = λ r. ReadsAs (state guest) (state' guest) (viewed guest table tiles) (viewed guest table tiles') result (reads sizes (own_rows guest tiles.held table.entries) r (clipped r r.dump x y w l)) in
    let V : RowsView → Type 0 = λ u. ReadsAs (state u.guest) (state' u.guest) u (viewed guest table tiles') result (reads sizes u.rows row (clipped row row.dump x y w l)) in
    subst V is
    (subst R (row-is guest window slot table tiles v h row is found)
    (subst A whole (reads-as guest window slot table tiles tiles' h a (state guest) (state' guest) result all filled sizes number)))
