-- What a change of one pane does to its row and to what was read of it.
use Rattle.std.proofs.Common.{◌≡◌, ℕ, ◌<◌, Bool, true, false, cond, ◌&&◌, not, eqb, ltb, ◌||◌, List, [], ◌∷◌, None, is_some, refl, sym, ap, ◌∙◌, subst, arith}
use Rattle.std.specs.List.{list_all}
use Rattle.std.proofs.lemmas.Bool.{and_parts, and_from, eq-eqb, lt-ltb}
use Rattle.gui_num.specs.declared.Rect.{Rect}
use Rattle.desk_laws.specs.Rows.{Row, content_at, contents_at_size}
use Rattle.desk_laws.specs.Ranges.{IsPlace}
use Rattle.tile_store.specs.Tile.{Tile}
use Rattle.tile_store.specs.Squares.{has_pixel}
use Rattle.tile_store.specs.Held.{colour_at, cut_tile, is_left, swept}
use Rattle.tile_store.specs.Contents.{CutsAway, KeepsAll}
use Rattle.tile_store.proofs.RiseLemmas.{cut-stays, cut-other}
use Rattle.window_table.specs.declared.pane.Pane.{Pane}
use Rattle.window_table.specs.Entries.{Entry, TableView, AreApart, entry_at, updated, with_pane}
use Rattle.guest_session.specs.declared.edit.Edit.{Edit}
use Rattle.guest_session.specs.declared.edit.Edit.TheVariants.{Map, Unmap, Configure, Title, Dock, Hints, Flags, Fill, Class, Cursor}
use Rattle.guest_session.specs.Edits.{FitsEdit, EditsPixels, pane_edited, row_edited, tiles_edited}
use Rattle.guest_session.specs.RowsView.{AreKept, HasFitDump, contents_in, StaysInside, is_owned, own_row}
use Rattle.guest_session.proofs.GridLemmas.{grid-same}
use Rattle.guest_session.proofs.TableLemmas.{HasSlot}
use Rattle.guest_session.proofs.RowChanges.{KeepsOthers}
use Rattle.guest_session.proofs.KeptLemmas.{content-seen, kept-at, kept-updated}

pub edited-place : (edit : Edit) (pane : Pane) → FitsEdit edit → IsPlace pane.place → IsPlace (pane_edited edit pane).place
edited-place (Map asked transient x y over) pane fits is = record {
  x_low = fits.x_low;
  x_high = fits.x_high;
  y_low = fits.y_low;
  y_high = fits.y_high;
  w_low = is.w_low;
  w_high = is.w_high;
  h_low = is.h_low;
  h_high = is.h_high;
}
edited-place Unmap pane fits is = is
edited-place (Configure place asked over) pane fits is = fits
edited-place (Title text) pane fits is = is
edited-place Dock pane fits is = is
edited-place (Hints hints) pane fits is = is
edited-place (Flags flags) pane fits is = is
edited-place (Fill flags place) pane fits is = fits
edited-place (Class class name) pane fits is = is
edited-place (Cursor cursor) pane fits is = is

cuts-others : (slot w h : ℕ) (old new : List Tile) → CutsAway slot w h old new → KeepsOthers slot old new
cuts-others slot w h old new cuts s x y other =
    cuts s x y ∙ ap (λ b. cond (b && not (ltb x w && ltb y h)) None (colour_at s x y old)) other

keeps-others : (slot : ℕ) (old new : List Tile) → KeepsAll old new → KeepsOthers slot old new
keeps-others slot old new keeps s x y other = keeps s x y

pub edits-others : (edit : Edit) (slot : ℕ) (old new : List Tile) → EditsPixels edit slot old new → KeepsOthers slot old new
edits-others (Map asked transient x y over) slot old new pixels = keeps-others slot old new pixels
edits-others Unmap slot old new pixels = keeps-others slot old new pixels
edits-others (Configure place asked over) slot old new pixels = cuts-others slot place.w place.h old new pixels
edits-others (Title text) slot old new pixels = keeps-others slot old new pixels
edits-others Dock slot old new pixels = keeps-others slot old new pixels
edits-others (Hints hints) slot old new pixels = keeps-others slot old new pixels
edits-others (Flags flags) slot old new pixels = keeps-others slot old new pixels
edits-others (Fill flags place) slot old new pixels = cuts-others slot place.w place.h old new pixels
edits-others (Class class name) slot old new pixels = keeps-others slot old new pixels
edits-others (Cursor cursor) slot old new pixels = keeps-others slot old new pixels

-- what a cut leaves of a slot's pixel
cut-inside : (slot w h : ℕ) (old new : List Tile) → CutsAway slot w h old new → (x y : ℕ) → x < w → y < h → colour_at slot x y new ≡ colour_at slot x y old
cut-inside slot w h old new cuts x y across down =
    cuts slot x y
    ∙ ap (λ b. cond (eqb slot slot && not (b && ltb y h)) None (colour_at slot x y old)) (lt-ltb x w across)
    ∙ ap (λ b. cond (eqb slot slot && not b) None (colour_at slot x y old)) (lt-ltb y h down)
    ∙ by (eqb slot slot)
  where
    by : (b : Bool) → cond (b && false) None (colour_at slot x y old) ≡ colour_at slot x y old
    by true = refl
    by false = refl

cut-outside : (slot w h : ℕ) (old new : List Tile) → CutsAway slot w h old new → (x y : ℕ) → (ltb x w && ltb y h) ≡ false → colour_at slot x y new ≡ None
cut-outside slot w h old new cuts x y out =
    cuts slot x y
    ∙ ap (λ b. cond (b && not (ltb x w && ltb y h)) None (colour_at slot x y old)) (eq-eqb slot slot refl)
    ∙ ap (λ b. cond (not b) None (colour_at slot x y old)) out

kept-inside : (old new : List Tile) (e : Entry) (pane : Pane) → pane.place.w ≡ e.pane.place.w → pane.place.h ≡ e.pane.place.h → KeepsAll old new → StaysInside old e → StaysInside new (with_pane pane e)
kept-inside old new e pane wide high keeps inside x y out =
    keeps e.slot x y ∙ inside x y (ap (λ n. ltb x n && ltb y e.pane.place.h) (sym wide) ∙ ap (λ n. ltb x pane.place.w && ltb y n) (sym high) ∙ out)

pub edited-inside : (edit : Edit) (old new : List Tile) (e : Entry) → EditsPixels edit e.slot old new → StaysInside old e → StaysInside new (with_pane (pane_edited edit e.pane) e)
edited-inside (Map asked transient x y over) old new e pixels inside = kept-inside old new e (pane_edited (Map asked transient x y over) e.pane) refl refl pixels inside
edited-inside Unmap old new e pixels inside = kept-inside old new e (pane_edited Unmap e.pane) refl refl pixels inside
edited-inside (Configure place asked over) old new e pixels inside = cut-outside e.slot place.w place.h old new pixels
edited-inside (Title text) old new e pixels inside = kept-inside old new e (pane_edited (Title text) e.pane) refl refl pixels inside
edited-inside Dock old new e pixels inside = kept-inside old new e (pane_edited Dock e.pane) refl refl pixels inside
edited-inside (Hints hints) old new e pixels inside = kept-inside old new e (pane_edited (Hints hints) e.pane) refl refl pixels inside
edited-inside (Flags flags) old new e pixels inside = kept-inside old new e (pane_edited (Flags flags) e.pane) refl refl pixels inside
edited-inside (Fill flags place) old new e pixels inside = cut-outside e.slot place.w place.h old new pixels
edited-inside (Class class name) old new e pixels inside = kept-inside old new e (pane_edited (Class class name) e.pane) refl refl pixels inside
edited-inside (Cursor cursor) old new e pixels inside = kept-inside old new e (pane_edited (Cursor cursor) e.pane) refl refl pixels inside

-- the tiles that a cut leaves are whose they were, and each has a pixel
swept-owned : (entries : List Entry) (slot w h : ℕ) (ts : List Tile) → list_all (is_owned entries) ts ≡ true → list_all (is_owned entries) (swept slot w h ts) ≡ true
swept-owned entries slot w h [] all = refl
swept-owned entries slot w h (t ∷ ts) all =
    let parts = and_parts (is_owned entries t) (list_all (is_owned entries) ts) all in
    by (is_left slot (cut_tile slot w h t)) parts.0 (swept-owned entries slot w h ts parts.1)
  where
    by : (b : Bool) → is_owned entries t ≡ true → list_all (is_owned entries) (swept slot w h ts) ≡ true
        → list_all (is_owned entries) (cond b (cut_tile slot w h t ∷ swept slot w h ts) (swept slot w h ts)) ≡ true
    by true here rest =
        and_from (is_owned entries (cut_tile slot w h t)) (list_all (is_owned entries) (swept slot w h ts))
        (ap (λ s. is_some (entry_at s.slot entries)) (cut-stays slot w h t) ∙ here) rest
    by false here rest = rest

swept-left : (slot w h : ℕ) (ts : List Tile) → list_all (λ (t : Tile). has_pixel t.square) ts ≡ true → list_all (λ (t : Tile). has_pixel t.square) (swept slot w h ts) ≡ true
swept-left slot w h [] all = refl
swept-left slot w h (t ∷ ts) all =
    let parts = and_parts (has_pixel t.square) (list_all (λ (u : Tile). has_pixel u.square) ts) all in
    by (is_left slot u) refl (swept-left slot w h ts parts.1) (pixel parts.0)
  where
    u : Tile
    u = cut_tile slot w h t

    pixel : has_pixel t.square ≡ true → is_left slot u ≡ true → has_pixel u.square ≡ true
    pixel had left = case (eqb t.spot.slot slot) refl
      where
        case : (b : Bool) → eqb t.spot.slot slot ≡ b → has_pixel u.square ≡ true
        case true e =
            let own : eqb u.spot.slot slot ≡ true = ap (λ s. eqb s.slot slot) (cut-stays slot w h t) ∙ e in
            ap (λ b. not b || has_pixel u.square) (sym own) ∙ left
        case false e = ap (λ (v : Tile). has_pixel v.square) (cut-other slot w h t e) ∙ had

    by : (b : Bool) → is_left slot u ≡ b → list_all (λ (v : Tile). has_pixel v.square) (swept slot w h ts) ≡ true → (is_left slot u ≡ true → has_pixel u.square ≡ true)
        → list_all (λ (v : Tile). has_pixel v.square) (cond b (u ∷ swept slot w h ts) (swept slot w h ts)) ≡ true
    by true e rest has = and_from (has_pixel u.square) (list_all (λ (v : Tile). has_pixel v.square) (swept slot w h ts)) (has e) rest
    by false e rest has = rest

pub edited-owned : (edit : Edit) (entries : List Entry) (slot : ℕ) (ts : List Tile) → list_all (is_owned entries) ts ≡ true → list_all (is_owned entries) (tiles_edited edit slot ts) ≡ true
edited-owned (Map asked transient x y over) entries slot ts all = all
edited-owned Unmap entries slot ts all = all
edited-owned (Configure place asked over) entries slot ts all = swept-owned entries slot place.w place.h ts all
edited-owned (Title text) entries slot ts all = all
edited-owned Dock entries slot ts all = all
edited-owned (Hints hints) entries slot ts all = all
edited-owned (Flags flags) entries slot ts all = all
edited-owned (Fill flags place) entries slot ts all = swept-owned entries slot place.w place.h ts all
edited-owned (Class class name) entries slot ts all = all
edited-owned (Cursor cursor) entries slot ts all = all

pub edited-left : (edit : Edit) (slot : ℕ) (ts : List Tile) → list_all (λ (t : Tile). has_pixel t.square) ts ≡ true → list_all (λ (t : Tile). has_pixel t.square) (tiles_edited edit slot ts) ≡ true
edited-left (Map asked transient x y over) slot ts all = all
edited-left Unmap slot ts all = all
edited-left (Configure place asked over) slot ts all = swept-left slot place.w place.h ts all
edited-left (Title text) slot ts all = all
edited-left Dock slot ts all = all
edited-left (Hints hints) slot ts all = all
edited-left (Flags flags) slot ts all = all
edited-left (Fill flags place) slot ts all = swept-left slot place.w place.h ts all
edited-left (Class class name) slot ts all = all
edited-left (Cursor cursor) slot ts all = all

-- what a cut leaves of a row's pixels
cut-contents : (guest : ℕ) (held : List Tile) (e : Entry) (place : Rect) → StaysInside held e → CutsAway e.slot place.w place.h held (swept e.slot place.w place.h held)
    → contents_in e.slot place.w place.h (swept e.slot place.w place.h held) ≡ contents_at_size (own_row guest held e) place.w place.h
cut-contents guest held e place inside pixels =
    grid-same (λ p. colour_at e.slot p.0 p.1 (swept e.slot place.w place.h held)) (λ p. content_at (own_row guest held e) p.0 p.1) 0 0 place.w place.h
    (λ x y _ across _ down. cut-inside e.slot place.w place.h held (swept e.slot place.w place.h held) pixels x y (omega (arith, across)) (omega (arith, down)) ∙ sym (content-seen guest held e x y inside))

-- the row of an entry with a changed pane, and what is left of what was read
edited-same : (guest : ℕ) (edit : Edit) (held : List Tile) (e : Entry) → StaysInside held e → EditsPixels edit e.slot held (tiles_edited edit e.slot held)
    → own_row guest (tiles_edited edit e.slot held) (with_pane (pane_edited edit e.pane) e) ≡ row_edited edit (own_row guest held e)
edited-same guest (Map asked transient x y over) held e inside pixels = refl
edited-same guest Unmap held e inside pixels = refl
edited-same guest (Configure place asked over) held e inside pixels =
    ap (λ c. let r : Row = record (own_row guest held e) { place = place; asked = asked; over = over; contents = c } in r) (cut-contents guest held e place inside pixels)
edited-same guest (Title text) held e inside pixels = refl
edited-same guest Dock held e inside pixels = refl
edited-same guest (Hints hints) held e inside pixels = refl
edited-same guest (Flags flags) held e inside pixels = refl
edited-same guest (Fill flags place) held e inside pixels =
    ap (λ c. let r : Row = record (own_row guest held e) { place = place; flags = flags; contents = c } in r) (cut-contents guest held e place inside pixels)
edited-same guest (Class class name) held e inside pixels = refl
edited-same guest (Cursor cursor) held e inside pixels = refl

-- the same, as the code has it
pub edited-row : (guest : ℕ) (edit : Edit) (slot : ℕ) (old new : List Tile) (e : Entry) (pane : Pane) → e.slot ≡ slot → StaysInside old e → pane ≡ pane_edited edit e.pane
    → new ≡ tiles_edited edit slot old → EditsPixels edit slot old new → own_row guest new (with_pane pane e) ≡ row_edited edit (own_row guest old e)
edited-row guest edit slot old new e pane at inside is held pixels =
    let P : ℕ → Type 0 = λ n. EditsPixels edit n old (tiles_edited edit n old) in
    let Q : List Tile → Type 0 = λ ts. EditsPixels edit slot old ts in
    ap (λ p. own_row guest new (with_pane p e)) is
    ∙ ap (λ ts. own_row guest ts (with_pane (pane_edited edit e.pane) e)) (held ∙ ap (λ n. tiles_edited edit n old) (sym at))
    ∙ edited-same guest edit old e inside (subst P (sym at) (subst Q held pixels))

-- what a change keeps
pub kept-edited : (window slot : ℕ) (table : TableView) (old new : List Tile) (h : HasSlot window slot table.entries) → AreApart table.entries → AreKept table old → (edit : Edit) → FitsEdit edit → (pane : Pane)
    → pane ≡ pane_edited edit h.entry.pane → new ≡ tiles_edited edit slot old → EditsPixels edit slot old new
    → (table' : TableView) → table' ≡ record table { entries = updated slot (with_pane pane) table.entries } → AreKept table' new
kept-edited window slot table old new h apart kept edit fits pane is held pixels table' made =
    let P : Pane → Type 0 = λ p. IsPlace p.place in
    let I : Pane → Type 0 = λ p. StaysInside new (with_pane p h.entry) in
    let E : ℕ → Type 0 = λ n. EditsPixels edit n old new in
    let O : List Tile → Type 0 = λ ts. list_all (is_owned table.entries) ts ≡ true in
    let L : List Tile → Type 0 = λ ts. list_all (λ (t : Tile). has_pixel t.square) ts ≡ true in
    kept-updated window slot (with_pane pane) table table' old new h apart kept (λ _. refl)
    (subst P (sym is) (edited-place edit h.entry.pane fits (kept-at (λ (e : Entry). IsPlace e.pane.place) window slot table.entries h kept.placed)))
    (kept-at (λ (e : Entry). HasFitDump table.pages e.dump) window slot table.entries h kept.dumps)
    (subst I (sym is) (edited-inside edit old new h.entry (subst E (sym h.slot_is) pixels) (kept-at (StaysInside old) window slot table.entries h kept.inside)))
    (subst O (sym held) (edited-owned edit table.entries slot old kept.owned))
    (subst L (sym held) (edited-left edit slot old kept.left))
    (edits-others edit slot old new pixels) made
