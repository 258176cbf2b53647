-- What a change of a table and of what was read keeps, and what it does to what both are seen as.
use Rattle.std.proofs.Common.{◌≡◌, ℕ, zero, suc, ◌+◌, ◌*◌, ◌≤◌, Bool, true, false, cond, ◌&&◌, not, ltb, List, [], ◌∷◌, ◌++◌, map, replicate, Option, Some, None, is_some, refl, sym, ap, ◌∙◌, subst, arith}
use Rattle.std.specs.Prelude.{slice_get, option_map, ◌==◌}
use Rattle.std.specs.List.{All, list_all}
use Rattle.std.proofs.lemmas.Bool.{and_parts, and_from, both_ways, eqb-true, ltb-true}
use Rattle.std.proofs.lemmas.List.Elements.{All-nil, All-cons, All-head, All-tail, All-map, All-filter, All-append}
use Rattle.gui_num.specs.declared.Rect.{Rect}
use Rattle.desk_laws.specs.Rows.{Row, row_with, span, content_of, content_at}
use Rattle.desk_laws.specs.Effects.{refs_besides, Added, Replaced, Removed, changed, created}
use Rattle.desk_laws.specs.Ranges.{IsPlace}
use Rattle.tile_store.specs.Tile.{Tile}
use Rattle.tile_store.specs.Squares.{has_pixel}
use Rattle.tile_store.specs.Held.{TilesView, colour_at, dropped}
use Rattle.tile_store.specs.Contents.{Empties, colour_or}
use Rattle.tile_store.proofs.RiseLemmas.{all-filter}
use Rattle.window_table.specs.declared.pane.Pane.{Pane}
use Rattle.window_table.specs.Entries.{Entry, TableView, AreApart, entry_at, entry_with, plain_rows, changed_at, updated, besides_slot, removed, forgets_window, new_entry}
use Rattle.guest_session.specs.Panes.{ShowsRow}
use Rattle.guest_session.specs.Reading.{content_in}
use Rattle.guest_session.specs.RowsView.{RowsView, AreKept, HasFitDump, StaysInside, contents_in, is_owned, own_row, own_rows, viewed, with_change, with_row}
use Rattle.guest_session.proofs.GridLemmas.{get-pixel, content-get}
use Rattle.guest_session.proofs.TableLemmas.{HasSlot, All-find, names-all, row-found, no_slot, looks_same}
use Rattle.guest_session.proofs.RowChanges.{KeepsOthers, updated-rows, updated-all, removed-rows, added-rows, vacant-none}

-- ---- whose the tiles are

-- the slots that have an entry have one among others
abbrev pub KeepsSlots : List Entry → List Entry → Type 0
KeepsSlots xs ys = (k : ℕ) → is_some (entry_at k xs) ≡ true → is_some (entry_at k ys) ≡ true

pub all-owned : (xs ys : List Entry) (held : List Tile) → KeepsSlots xs ys → list_all (is_owned xs) held ≡ true → list_all (is_owned ys) held ≡ true
all-owned xs ys [] keeps all = refl
all-owned xs ys (t ∷ ts) keeps all =
    let parts = and_parts (is_owned xs t) (list_all (is_owned xs) ts) all in
    and_from (is_owned ys t) (list_all (is_owned ys) ts) (keeps t.spot.slot parts.0) (all-owned xs ys ts keeps parts.1)

slots-added : (xs ys : List Entry) → KeepsSlots xs (xs ++ ys)
slots-added [] ys k has = absurd cc
slots-added (x ∷ xs) ys k has = by (x.slot == k) has (slots-added xs ys k)
  where
    by : (b : Bool) → is_some (cond b (Some x) (entry_at k xs)) ≡ true → (is_some (entry_at k xs) ≡ true → is_some (entry_at k (xs ++ ys)) ≡ true) → is_some (cond b (Some x) (entry_at k (xs ++ ys))) ≡ true
    by true has rest = refl
    by false has rest = rest has

slots-mapped : (f : Entry → Entry) → ((e : Entry) → (f e).slot ≡ e.slot) → (xs : List Entry) → KeepsSlots xs (map f xs)
slots-mapped f stays [] k has = absurd cc
slots-mapped f stays (x ∷ xs) k has =
    ap (λ n. is_some (cond (n == k) (Some (f x)) (entry_at k (map f xs)))) (stays x) ∙ by (x.slot == k) has (slots-mapped f stays xs k)
  where
    by : (b : Bool) → is_some (cond b (Some x) (entry_at k xs)) ≡ true → (is_some (entry_at k xs) ≡ true → is_some (entry_at k (map f xs)) ≡ true) → is_some (cond b (Some (f x)) (entry_at k (map f xs))) ≡ true
    by true has rest = refl
    by false has rest = rest has

slot-changed : (slot : ℕ) (f : Entry → Entry) → ((e : Entry) → (f e).slot ≡ e.slot) → (e : Entry) → (changed_at slot f e).slot ≡ e.slot
slot-changed slot f stays e = by (e.slot == slot)
  where
    by : (b : Bool) → (let x : Entry = cond b (f e) e in x.slot) ≡ e.slot
    by true = stays e
    by false = refl

slots-updated : (slot : ℕ) (f : Entry → Entry) → ((e : Entry) → (f e).slot ≡ e.slot) → (xs : List Entry) → KeepsSlots xs (updated slot f xs)
slots-updated slot f stays xs = slots-mapped (changed_at slot f) (slot-changed slot f stays) xs

-- an entry at another slot stays
slot-besides : (slot : ℕ) (xs : List Entry) (k : ℕ) → (k == slot) ≡ false → is_some (entry_at k xs) ≡ true → is_some (entry_at k (besides_slot slot xs)) ≡ true
slot-besides slot [] k other has = absurd cc
slot-besides slot (x ∷ xs) k other has = by (x.slot == k) (x.slot == slot) refl refl has (slot-besides slot xs k other)
  where
    by : (a b : Bool) → (x.slot == k) ≡ a → (x.slot == slot) ≡ b → is_some (cond a (Some x) (entry_at k xs)) ≡ true
        → (is_some (entry_at k xs) ≡ true → is_some (entry_at k (besides_slot slot xs)) ≡ true)
        → is_some (entry_at k (cond (not b) (x ∷ besides_slot slot xs) (besides_slot slot xs))) ≡ true
    by true true e f has rest =
        absurd (both_ways (k == slot) other (ap (λ n. n == slot) (sym (eqb-true x.slot k e)) ∙ f))
    by true false e f has rest = ap (λ b. is_some (cond b (Some x) (entry_at k (besides_slot slot xs)))) e
    by false true e f has rest = rest has
    by false false e f has rest = ap (λ b. is_some (cond b (Some x) (entry_at k (besides_slot slot xs)))) e ∙ rest has

owned-removed : (slot window : ℕ) (xs : List Entry) (held : List Tile) → list_all (is_owned xs) held ≡ true → list_all (is_owned (removed slot window xs)) (dropped slot held) ≡ true
owned-removed slot window xs [] all = refl
owned-removed slot window xs (t ∷ ts) all =
    let parts = and_parts (is_owned xs t) (list_all (is_owned xs) ts) all in
    by (t.spot.slot == slot) refl parts.0 (owned-removed slot window xs ts parts.1)
  where
    by : (b : Bool) → (t.spot.slot == slot) ≡ b → is_owned xs t ≡ true → list_all (is_owned (removed slot window xs)) (dropped slot ts) ≡ true
        → list_all (is_owned (removed slot window xs)) (cond (not b) (t ∷ dropped slot ts) (dropped slot ts)) ≡ true
    by true e has rest = rest
    by false e has rest =
        and_from (is_owned (removed slot window xs) t) (list_all (is_owned (removed slot window xs)) (dropped slot ts))
        (slots-mapped (forgets_window window) (λ x. refl) (besides_slot slot xs) t.spot.slot (slot-besides slot xs t.spot.slot e has)) rest

-- ---- what stays inside

inside-same : (old new : List Tile) (e : Entry) → ((x y : ℕ) → colour_at e.slot x y new ≡ colour_at e.slot x y old) → StaysInside old e → StaysInside new e
inside-same old new e same inside x y out = same x y ∙ inside x y out

-- the entries of other slots stay inside
inside-besides : (slot : ℕ) (old new : List Tile) → KeepsOthers slot old new → (xs : List Entry) → All (StaysInside old) xs → All (StaysInside new) (besides_slot slot xs)
inside-besides slot old new keeps [] all = All-nil (StaysInside new)
inside-besides slot old new keeps (x ∷ xs) all = by (x.slot == slot) refl (inside-besides slot old new keeps xs (All-tail (StaysInside old) x xs all))
  where
    by : (b : Bool) → (x.slot == slot) ≡ b → All (StaysInside new) (besides_slot slot xs) → All (StaysInside new) (cond (not b) (x ∷ besides_slot slot xs) (besides_slot slot xs))
    by true e rest = rest
    by false e rest =
        All-cons (StaysInside new) x (besides_slot slot xs) (inside-same old new x (λ a b. keeps x.slot a b e) (All-head (StaysInside old) x xs all)) rest

-- what is read of a window's pixel is what its slot has
pub content-seen : (guest : ℕ) (held : List Tile) (e : Entry) (x y : ℕ) → StaysInside held e → content_at (own_row guest held e) x y ≡ colour_at e.slot x y held
content-seen guest held e x y inside = by (ltb x e.pane.place.w && ltb y e.pane.place.h) refl
  where
    by : (b : Bool) → (ltb x e.pane.place.w && ltb y e.pane.place.h) ≡ b → cond b (content_of (slice_get (contents_in e.slot e.pane.place.w e.pane.place.h held) (y * e.pane.place.w + x))) None ≡ colour_at e.slot x y held
    by true t =
        let parts = and_parts (ltb x e.pane.place.w) (ltb y e.pane.place.h) t in
        content-get (contents_in e.slot e.pane.place.w e.pane.place.h held) (y * e.pane.place.w + x)
        ∙ get-pixel (λ p. colour_at e.slot p.0 p.1 held) None e.pane.place.w e.pane.place.h x y (ltb-true x e.pane.place.w parts.0) (ltb-true y e.pane.place.h parts.1)
    by false t = sym (inside x y t)

-- the same, as the code has it
pub content-shown : (guest slot : ℕ) (held : List Tile) (e : Entry) (pane : Pane) (x y : ℕ) → e.slot ≡ slot → e.pane ≡ pane → StaysInside held e →
    cond (ltb x pane.place.w && ltb y pane.place.h) (colour_at slot x y held) None ≡ content_at (own_row guest held e) x y
content-shown guest slot held e pane x y at is inside =
    ap (λ (p : Pane). cond (ltb x p.place.w && ltb y p.place.h) (colour_at slot x y held) None) (sym is)
    ∙ ap (λ n. cond (ltb x e.pane.place.w && ltb y e.pane.place.h) (colour_at n x y held) None) (sym at)
    ∙ by (ltb x e.pane.place.w && ltb y e.pane.place.h) refl
    ∙ sym (content-seen guest held e x y inside)
  where
    by : (b : Bool) → (ltb x e.pane.place.w && ltb y e.pane.place.h) ≡ b → cond b (colour_at e.slot x y held) None ≡ colour_at e.slot x y held
    by true t = refl
    by false t = sym (inside x y t)

-- the colours of a row of pixels, as the code has them
pub colours-shown : (guest slot : ℕ) (held : List Tile) (e : Entry) (blank y : ℕ) (o : Option Row) (xs : List ℕ) → e.slot ≡ slot → StaysInside held e → o ≡ Some (own_row guest held e) →
    map (λ i. colour_or blank (colour_at slot i y held)) xs ≡ map (λ i. colour_or blank (content_in o i y)) xs
colours-shown guest slot held e blank y o [] at inside is = refl
colours-shown guest slot held e blank y o (x ∷ xs) at inside is =
    let here : colour_at slot x y held ≡ content_in o x y =
    ap (λ n. colour_at n x y held) (sym at) ∙ sym (content-seen guest held e x y inside) ∙ ap (λ (r : Option Row). content_in r x y) (sym is) in
    ap (λ c. colour_or blank c ∷ map (λ i. colour_or blank (colour_at slot i y held)) xs) here
    ∙ ap (λ cs. colour_or blank (content_in o x y) ∷ cs) (colours-shown guest slot held e blank y o xs at inside is)

-- and of a window that isn't there
pub colours-none : (blank x y n : ℕ) (o : Option Row) → o ≡ None → replicate n blank ≡ map (λ i. colour_or blank (content_in o i y)) (span x n)
colours-none blank x y zero o none = refl
colours-none blank x y (suc n) o none =
    ap (λ cs. blank ∷ cs) (colours-none blank (suc x) y n o none)
    ∙ ap (λ (r : Option Row). colour_or blank (content_in r x y) ∷ map (λ i. colour_or blank (content_in o i y)) (span (suc x) n)) (sym none)

-- ---- what a change keeps

pub kept-added : (slot window : ℕ) (place : Rect) (parent : ℕ) (asked : Bool) (table table' : TableView) (held : List Tile) → AreKept table held
    → is_some (entry_at slot table.entries) ≡ false → IsPlace place
    → table' ≡ record table { entries = table.entries ++ new_entry slot window place parent asked ∷ [] } → AreKept table' held
kept-added slot window place parent asked table table' held kept vacant is_place is =
    let P : TableView → Type 0 = λ t. AreKept t held in
    let e : Entry = new_entry slot window place parent asked in
    subst P (sym is) (record {
      pages = kept.pages;
      placed = All-append (λ (x : Entry). IsPlace x.pane.place) table.entries (e ∷ []) kept.placed (All-cons (λ (x : Entry). IsPlace x.pane.place) e [] is_place (All-nil (λ (x : Entry). IsPlace x.pane.place)));
      dumps = All-append (λ (x : Entry). HasFitDump table.pages x.dump) table.entries (e ∷ []) kept.dumps (All-cons (λ (x : Entry). HasFitDump table.pages x.dump) e [] tt (All-nil (λ (x : Entry). HasFitDump table.pages x.dump)));
      owned = all-owned table.entries (table.entries ++ e ∷ []) held (slots-added table.entries (e ∷ [])) kept.owned;
      inside = All-append (StaysInside held) table.entries (e ∷ []) kept.inside (All-cons (StaysInside held) e [] (λ x y out. vacant-none table.entries slot held kept.owned vacant x y) (All-nil (StaysInside held)));
      left = kept.left;
    })

pub empties-others : (slot : ℕ) (old new : List Tile) → Empties slot old new → KeepsOthers slot old new
empties-others slot old new empties s x y other = empties s x y ∙ ap (λ b. cond b None (colour_at s x y old)) other

pub kept-removed : (slot window : ℕ) (table table' : TableView) (old new : List Tile) → AreKept table old
    → table' ≡ record table { entries = removed slot window table.entries } → new ≡ dropped slot old → KeepsOthers slot old new → AreKept table' new
kept-removed slot window table table' old new kept is gone keeps =
    let P : TableView → Type 0 = λ t. AreKept t new in
    let Q : List Tile → Type 0 = λ ts. list_all (is_owned (removed slot window table.entries)) ts ≡ true in
    let R : List Tile → Type 0 = λ ts. list_all (λ (t : Tile). has_pixel t.square) ts ≡ true in
    subst P (sym is) (record {
      pages = kept.pages;
      placed = All-map (λ (x : Entry). IsPlace x.pane.place) (forgets_window window) (besides_slot slot table.entries)
          (All-filter (λ (x : Entry). not (x.slot == slot)) (λ (x : Entry). IsPlace x.pane.place) table.entries kept.placed);
      dumps = All-map (λ (x : Entry). HasFitDump table.pages x.dump) (forgets_window window) (besides_slot slot table.entries)
          (All-filter (λ (x : Entry). not (x.slot == slot)) (λ (x : Entry). HasFitDump table.pages x.dump) table.entries kept.dumps);
      owned = subst Q (sym gone) (owned-removed slot window table.entries old kept.owned);
      inside = All-map (StaysInside new) (forgets_window window) (besides_slot slot table.entries) (inside-besides slot old new keeps table.entries kept.inside);
      left = subst R (sym gone) (all-filter (λ (t : Tile). has_pixel t.square) (λ (t : Tile). not (t.spot.slot == slot)) old kept.left);
    })

-- a change of the entry at a slot, and of its pixels
pub kept-updated : (window slot : ℕ) (f : Entry → Entry) (table table' : TableView) (old new : List Tile) (h : HasSlot window slot table.entries) → AreApart table.entries → AreKept table old
    → ((e : Entry) → (f e).slot ≡ e.slot) → IsPlace (f h.entry).pane.place → HasFitDump table.pages (f h.entry).dump → StaysInside new (f h.entry)
    → list_all (is_owned table.entries) new ≡ true → list_all (λ (t : Tile). has_pixel t.square) new ≡ true → KeepsOthers slot old new
    → table' ≡ record table { entries = updated slot f table.entries } → AreKept table' new
kept-updated window slot f table table' old new h apart kept stays place dump inside owned left keeps is =
    let names = names-all window h.entry table.entries apart h.with_window in
    let U : (Entry → Type 0) → ℕ → Type 0 = λ P n. All P (updated n f table.entries) in
    let IsPlaced : Entry → Type 0 = λ x. IsPlace x.pane.place in
    let IsDumped : Entry → Type 0 = λ x. HasFitDump table.pages x.dump in
    let K : ℕ → Type 0 = λ n. KeepsOthers n old new in
    let others = subst K (sym h.slot_is) keeps in
    let T : TableView → Type 0 = λ t. AreKept t new in
    subst T (sym is) (record {
      pages = kept.pages;
      placed = subst (U IsPlaced) h.slot_is (updated-all IsPlaced IsPlaced window h.entry f table.entries names kept.placed place (λ _ _ p. p));
      dumps = subst (U IsDumped) h.slot_is (updated-all IsDumped IsDumped window h.entry f table.entries names kept.dumps dump (λ _ _ p. p));
      owned = all-owned table.entries (updated slot f table.entries) new (slots-updated slot f stays table.entries) owned;
      inside = subst (U (StaysInside new)) h.slot_is
          (updated-all (StaysInside old) (StaysInside new) window h.entry f table.entries names kept.inside inside (λ x other p. inside-same old new x (λ a b. others x.slot a b other) p));
      left = left;
    })

-- ---- what a change does to what is seen

pub viewed-added : (guest slot window : ℕ) (place : Rect) (parent : ℕ) (asked : Bool) (table table' : TableView) (tiles : TilesView) → AreKept table tiles.held
    → is_some (entry_at slot table.entries) ≡ false
    → table' ≡ record table { entries = table.entries ++ new_entry slot window place parent asked ∷ [] }
    → viewed guest table' tiles ≡ with_change (Added (created guest window place parent asked)) (viewed guest table tiles)
viewed-added guest slot window place parent asked table table' tiles kept vacant is =
    ap (λ t. viewed guest t tiles) is
    ∙ ap (λ rows. let v : RowsView = record { guest = guest; pages = table.pages; tiles = tiles.number; rows = rows } in v)
    (added-rows guest slot window place parent asked tiles.held table.entries kept.owned vacant)

pub viewed-removed : (guest window slot : ℕ) (table table' : TableView) (tiles tiles' : TilesView) (h : HasSlot window slot table.entries) → AreApart table.entries
    → table' ≡ record table { entries = removed slot h.entry.window table.entries } → tiles'.number ≡ tiles.number → KeepsOthers slot tiles.held tiles'.held
    → viewed guest table' tiles' ≡ with_change (Removed window) (viewed guest table tiles)
viewed-removed guest window slot table table' tiles tiles' h apart is number keeps =
    let K : ℕ → Type 0 = λ n. KeepsOthers n tiles.held tiles'.held in
    ap (λ t. viewed guest t tiles') is
    ∙ ap (λ n. let v : RowsView = record { guest = guest; pages = table.pages; tiles = n; rows = own_rows guest tiles'.held (removed slot h.entry.window table.entries) } in v) number
    ∙ ap (λ rows. let v : RowsView = record { guest = guest; pages = table.pages; tiles = tiles.number; rows = rows } in v)
    (ap (λ n. own_rows guest tiles'.held (removed n h.entry.window table.entries)) (sym h.slot_is)
    ∙ ap (λ n. own_rows guest tiles'.held (removed h.entry.slot n table.entries)) h.window_is
    ∙ removed-rows guest window tiles.held tiles'.held h.entry table.entries apart h.with_window (subst K (sym h.slot_is) keeps))

pub viewed-updated : (guest window slot : ℕ) (table table' : TableView) (tiles tiles' : TilesView) (h : HasSlot window slot table.entries) → AreApart table.entries
    → (f : Entry → Entry) (new : Row) → (f h.entry).window ≡ h.entry.window → own_row guest tiles'.held (f h.entry) ≡ new
    → table' ≡ record table { entries = updated slot f table.entries } → tiles'.number ≡ tiles.number → KeepsOthers slot tiles.held tiles'.held
    → viewed guest table' tiles' ≡ with_row new (viewed guest table tiles)
viewed-updated guest window slot table table' tiles tiles' h apart f new same made is number keeps =
    let K : ℕ → Type 0 = λ n. KeepsOthers n tiles.held tiles'.held in
    ap (λ t. viewed guest t tiles') is
    ∙ ap (λ n. let v : RowsView = record { guest = guest; pages = table.pages; tiles = n; rows = own_rows guest tiles'.held (updated slot f table.entries) } in v) number
    ∙ ap (λ rows. let v : RowsView = record { guest = guest; pages = table.pages; tiles = tiles.number; rows = rows } in v)
    (ap (λ n. own_rows guest tiles'.held (updated n f table.entries)) (sym h.slot_is)
    ∙ updated-rows guest window tiles.held tiles'.held h.entry f table.entries apart h.with_window (same ∙ h.window_is) (subst K (sym h.slot_is) keeps)
    ∙ ap (λ row. changed guest (Replaced row) (own_rows guest tiles.held table.entries)) made)

-- ---- what a slot tells of the rows

-- the row of a window that has a slot
pub row-is : (guest window slot : ℕ) (table : TableView) (tiles : TilesView) (v : RowsView) (h : HasSlot window slot table.entries) (row : Row)
    → viewed guest table tiles ≡ v → row_with window v.rows ≡ Some row → own_row guest tiles.held h.entry ≡ row
row-is guest window slot table tiles v h row is found =
    let here : Some (own_row guest tiles.held h.entry) ≡ Some row =
    sym (ap (option_map (own_row guest tiles.held)) h.with_window) ∙ sym (row-found guest window tiles.held table.entries)
    ∙ ap (λ (w : RowsView). row_with window w.rows) is ∙ found in
    cc

-- that there is such a row
pub row-some : (guest window slot : ℕ) (table : TableView) (tiles : TilesView) (v : RowsView) (h : HasSlot window slot table.entries)
    → viewed guest table tiles ≡ v → row_with window v.rows ≡ Some (own_row guest tiles.held h.entry)
row-some guest window slot table tiles v h is =
    ap (λ (w : RowsView). row_with window w.rows) (sym is) ∙ row-found guest window tiles.held table.entries
    ∙ ap (option_map (own_row guest tiles.held)) h.with_window

-- a window without a slot has no row
pub row-none : (guest window : ℕ) (table : TableView) (tiles : TilesView) (v : RowsView) → viewed guest table tiles ≡ v
    → None ≡ option_map (λ (e : Entry). e.slot) (entry_with window table.entries) → row_with window v.rows ≡ None
row-none guest window table tiles v is none =
    ap (λ (w : RowsView). row_with window w.rows) (sym is) ∙ row-found guest window tiles.held table.entries
    ∙ ap (option_map (own_row guest tiles.held)) (no_slot (entry_with window table.entries) none)

-- what is got at a slot is the entry's
pub got-is : {X : Type 0} (window slot : ℕ) (entries : List Entry) (h : HasSlot window slot entries) (part : Entry → X) (x : X)
    → option_map part (entry_at slot entries) ≡ Some x → part h.entry ≡ x
got-is window slot entries h part x got =
    let e : Some (part h.entry) ≡ Some x = sym (ap (option_map part) h.at_slot) ∙ got in
    cc

pub shows-row : (guest window slot : ℕ) (table : TableView) (tiles : TilesView) (v : RowsView) (h : HasSlot window slot table.entries) (pane : Pane)
    → viewed guest table tiles ≡ v → h.entry.pane ≡ pane → ShowsRow window v.rows pane
shows-row guest window slot table tiles v h pane is same = record {
  row = own_row guest tiles.held h.entry;
  found = row-some guest window slot table tiles v h is;
  is = record {
    place = ap (λ (p : Pane). p.place) (sym same);
    mapped = ap (λ (p : Pane). p.mapped) (sym same);
    asked = ap (λ (p : Pane). p.asked) (sym same);
    over = ap (λ (p : Pane). p.over) (sym same);
    parent = ap (λ (p : Pane). p.parent) (sym same);
    transient = ap (λ (p : Pane). p.transient) (sym same);
    title = ap (λ (p : Pane). p.title.items) (sym same);
    class = ap (λ (p : Pane). p.class.items) (sym same);
    name = ap (λ (p : Pane). p.name.items) (sym same);
    hints = ap (λ (p : Pane). p.hints) (sym same);
    flags = ap (λ (p : Pane). p.flags) (sym same);
    cursor = ap (λ (p : Pane). p.cursor) (sym same);
    docked = ap (λ (p : Pane). p.docked) (sym same);
  };
}

-- what is kept of all entries is kept of the one that a window has
pub kept-at : (P : Entry → Type 0) (window slot : ℕ) (entries : List Entry) (h : HasSlot window slot entries) → All P entries → P h.entry
kept-at P window slot entries h all = All-find P (λ e. e.window == window) entries h.entry all h.with_window

-- there are pages enough for so many references
pub dump-fits : (guest window slot : ℕ) (table : TableView) (tiles : TilesView) (v : RowsView) (h : HasSlot window slot table.entries) (n : ℕ)
    → viewed guest table tiles ≡ v → refs_besides window v.rows + n ≤ v.pages
    → (e : Entry) → entry_at slot table.entries ≡ Some e → refs_besides e.window (plain_rows table.entries) + n ≤ table.pages
dump-fits guest window slot table tiles v h n is fits e at =
    let both : Some h.entry ≡ Some e = sym h.at_slot ∙ at in
    let one : h.entry ≡ e = cc in
    let refs : refs_besides e.window (plain_rows table.entries) ≡ refs_besides window v.rows =
    ap (λ (x : Entry). refs_besides x.window (plain_rows table.entries)) (sym one)
    ∙ ap (λ w. refs_besides w (plain_rows table.entries)) h.window_is
    ∙ (looks_same guest tiles.held table.entries).refs window ∙ ap (λ (w : RowsView). refs_besides window w.rows) is in
    let room : table.pages ≡ v.pages = ap (λ (w : RowsView). w.pages) is in
    omega (arith, refs, room, fits)
