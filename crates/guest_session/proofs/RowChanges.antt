-- What a change of the entries and of what was read does to the rows that they are.
use Rattle.std.proofs.Common.{◌≡◌, ℕ, suc, ◌*◌, ◌/◌, ◌%◌, ◌+◌, Bool, true, false, cond, ◌&&◌, not, List, [], ◌∷◌, ◌++◌, length, map, replicate, Some, None, is_some, refl, sym, ap, ◌∙◌, subst}
use Rattle.std.specs.Prelude.{filter, ◌==◌}
use Rattle.std.specs.List.{All, list_all}
use Rattle.std.proofs.lemmas.Bool.{and_parts, both_ways, eq-eqb}
use Rattle.std.proofs.lemmas.List.{map-append}
use Rattle.std.proofs.lemmas.List.Elements.{All-nil, All-cons, All-head, All-tail}
use Rattle.std.proofs.Math.Nat.{mul_comm}
use Rattle.gui_num.specs.declared.Rect.{Rect}
use Rattle.desk_laws.specs.Rows.{is_row, grid}
use Rattle.desk_laws.specs.Effects.{Added, Replaced, Removed, changed, replaced_in, forgets, created}
use Rattle.tile_store.specs.declared.spot.Spot.{Spot}
use Rattle.tile_store.specs.Tile.{Tile}
use Rattle.tile_store.specs.Spots.{same, spot_of}
use Rattle.tile_store.specs.Held.{tile_at, pixel_in, colour_at}
use Rattle.tile_store.proofs.OrderLemmas.{same-is}
use Rattle.window_table.specs.Entries.{Entry, AreApart, entry_at, entry_with, changed_at, updated, besides_slot, removed, forgets_window, new_entry, row_of}
use Rattle.guest_session.specs.RowsView.{own_row, own_rows, is_owned}
use Rattle.guest_session.proofs.GridLemmas.{grid-same, length-grid, map-none}
use Rattle.guest_session.proofs.TableLemmas.{Names, names-all}

-- ---- one entry changed

-- the pixels of all slots but this are as before
abbrev pub KeepsOthers : ℕ → List Tile → List Tile → Type 0
KeepsOthers slot old new = (s x y : ℕ) → (s == slot) ≡ false → colour_at s x y new ≡ colour_at s x y old

-- the row of an entry whose pixels are as before
pub own-same : (guest : ℕ) (old new : List Tile) (e : Entry) → ((x y : ℕ) → colour_at e.slot x y new ≡ colour_at e.slot x y old) → own_row guest new e ≡ own_row guest old e
own-same guest old new e same =
    ap (λ contents. row_of guest contents e)
    (grid-same (λ p. colour_at e.slot p.0 p.1 new) (λ p. colour_at e.slot p.0 p.1 old) 0 0 e.pane.place.w e.pane.place.h (λ x y _ _ _ _. same x y))

own-is : (guest window : ℕ) (held : List Tile) (x : Entry) → is_row guest window (own_row guest held x) ≡ (x.window == window)
own-is guest window held x = ap (λ b. b && (x.window == window)) (eq-eqb guest guest refl)

updated-each : (guest window : ℕ) (old new : List Tile) (e : Entry) (f : Entry → Entry) (xs : List Entry) → All (Names window e) xs → (f e).window ≡ window
    → KeepsOthers e.slot old new
    → own_rows guest new (updated e.slot f xs) ≡ map (replaced_in guest (own_row guest new (f e))) (own_rows guest old xs)
updated-each guest window old new e f [] all is keeps = refl
updated-each guest window old new e f (x ∷ xs) all is keeps =
    ap (λ row. row ∷ own_rows guest new (updated e.slot f xs)) (by (x.window == window) refl)
    ∙ ap (λ rows. replaced_in guest (own_row guest new (f e)) (own_row guest old x) ∷ rows) (updated-each guest window old new e f xs (All-tail (Names window e) x xs all) is keeps)
  where
    here : Names window e x
    here = All-head (Names window e) x xs all

    test : is_row guest (f e).window (own_row guest old x) ≡ (x.window == window)
    test = own-is guest (f e).window old x ∙ ap (λ n. x.window == n) is

    by : (b : Bool) → (x.window == window) ≡ b → own_row guest new (changed_at e.slot f x) ≡ replaced_in guest (own_row guest new (f e)) (own_row guest old x)
    by true t =
        ap (λ b. own_row guest new (cond b (f x) x)) (here.0 ∙ t)
        ∙ ap (λ y. own_row guest new (f y)) (here.1 t)
        ∙ ap (λ b. cond b (own_row guest new (f e)) (own_row guest old x)) (sym (test ∙ t))
    by false t =
        ap (λ b. own_row guest new (cond b (f x) x)) (here.0 ∙ t)
        ∙ own-same guest old new x (λ a b. keeps x.slot a b (here.0 ∙ t))
        ∙ ap (λ b. cond b (own_row guest new (f e)) (own_row guest old x)) (sym (test ∙ t))

-- the rows after a change of a window's entry and of its pixels
pub updated-rows : (guest window : ℕ) (old new : List Tile) (e : Entry) (f : Entry → Entry) (xs : List Entry) → AreApart xs → entry_with window xs ≡ Some e
    → (f e).window ≡ window → KeepsOthers e.slot old new
    → own_rows guest new (updated e.slot f xs) ≡ changed guest (Replaced (own_row guest new (f e))) (own_rows guest old xs)
updated-rows guest window old new e f xs apart found is keeps = updated-each guest window old new e f xs (names-all window e xs apart found) is keeps

-- what holds of the changed one, and of all others, holds afterwards
pub updated-all : (P Q : Entry → Type 0) (window : ℕ) (e : Entry) (f : Entry → Entry) (xs : List Entry) → All (Names window e) xs → All P xs → Q (f e)
    → ((x : Entry) → (x.slot == e.slot) ≡ false → P x → Q x) → All Q (updated e.slot f xs)
updated-all P Q window e f [] names all here there = All-nil Q
updated-all P Q window e f (x ∷ xs) names all here there =
    All-cons Q (changed_at e.slot f x) (updated e.slot f xs) (by (x.slot == e.slot) refl)
    (updated-all P Q window e f xs (All-tail (Names window e) x xs names) (All-tail P x xs all) here there)
  where
    name : Names window e x
    name = All-head (Names window e) x xs names

    by : (b : Bool) → (x.slot == e.slot) ≡ b → Q (changed_at e.slot f x)
    by true t =
        subst Q (sym (ap (λ b. cond b (f x) x) t ∙ ap f (name.1 (sym name.0 ∙ t)))) here
    by false t = subst Q (ap (λ b. cond b (f x) x) (sym t)) (there x t (All-head P x xs all))

-- ---- one entry removed

forgets-own : (guest window : ℕ) (held : List Tile) (x : Entry) → forgets guest window (own_row guest held x) ≡ own_row guest held (forgets_window window x)
forgets-own guest window held x =
    ap (λ b. cond b (own_row guest held (forgets_window window x)) (own_row guest held x)) (eq-eqb guest guest refl)

removed-each : (guest window : ℕ) (old new : List Tile) (e : Entry) (xs : List Entry) → All (Names window e) xs → KeepsOthers e.slot old new
    → own_rows guest new (removed e.slot window xs) ≡ changed guest (Removed window) (own_rows guest old xs)
removed-each guest window old new e [] all keeps = refl
removed-each guest window old new e (x ∷ xs) all keeps =
    by (x.window == window) refl (removed-each guest window old new e xs (All-tail (Names window e) x xs all) keeps)
  where
    here : Names window e x
    here = All-head (Names window e) x xs all

    by : (b : Bool) → (x.window == window) ≡ b → own_rows guest new (removed e.slot window xs) ≡ changed guest (Removed window) (own_rows guest old xs)
        → own_rows guest new (removed e.slot window (x ∷ xs)) ≡ changed guest (Removed window) (own_rows guest old (x ∷ xs))
    by true t later =
        ap (λ b. own_rows guest new (map (forgets_window window) (cond (not b) (x ∷ besides_slot e.slot xs) (besides_slot e.slot xs)))) (here.0 ∙ t)
        ∙ later
        ∙ sym (ap (λ b. map (forgets guest window) (cond (not b) (own_row guest old x ∷ filter (λ row. not (is_row guest window row)) (own_rows guest old xs)) (filter (λ row. not (is_row guest window row)) (own_rows guest old xs)))) (own-is guest window old x ∙ t))
    by false t later =
        ap (λ b. own_rows guest new (map (forgets_window window) (cond (not b) (x ∷ besides_slot e.slot xs) (besides_slot e.slot xs)))) (here.0 ∙ t)
        ∙ ap (λ row. row ∷ own_rows guest new (removed e.slot window xs)) (sym (forgets-own guest window new x))
        ∙ ap (λ row. forgets guest window row ∷ own_rows guest new (removed e.slot window xs)) (own-same guest old new x (λ a b. keeps x.slot a b (here.0 ∙ t)))
        ∙ ap (λ rows. forgets guest window (own_row guest old x) ∷ rows) later
        ∙ sym (ap (λ b. map (forgets guest window) (cond (not b) (own_row guest old x ∷ filter (λ row. not (is_row guest window row)) (own_rows guest old xs)) (filter (λ row. not (is_row guest window row)) (own_rows guest old xs)))) (own-is guest window old x ∙ t))

-- the rows after a window is removed and its pixels are forgotten
pub removed-rows : (guest window : ℕ) (old new : List Tile) (e : Entry) (xs : List Entry) → AreApart xs → entry_with window xs ≡ Some e → KeepsOthers e.slot old new
    → own_rows guest new (removed e.slot window xs) ≡ changed guest (Removed window) (own_rows guest old xs)
removed-rows guest window old new e xs apart found keeps = removed-each guest window old new e xs (names-all window e xs apart found) keeps

-- ---- one entry added

-- a slot without an entry has no pixels
pub vacant-none : (entries : List Entry) (slot : ℕ) (held : List Tile) → list_all (is_owned entries) held ≡ true → is_some (entry_at slot entries) ≡ false →
    (x y : ℕ) → colour_at slot x y held ≡ None
vacant-none entries slot held owned vacant x y =
    ap (pixel_in (y % 64 * 64 + x % 64)) (none held owned)
  where
    q : Spot
    q = spot_of slot (x / 64, y / 64)

    none : (ts : List Tile) → list_all (is_owned entries) ts ≡ true → tile_at q ts ≡ None
    none [] all = refl
    none (t ∷ ts) all =
        let parts = and_parts (is_owned entries t) (list_all (is_owned entries) ts) all in
        by (same t.spot q) refl parts.0 (none ts parts.1)
      where
        by : (b : Bool) → same t.spot q ≡ b → is_owned entries t ≡ true → tile_at q ts ≡ None → cond b (Some t) (tile_at q ts) ≡ None
        by true e has rest =
            let slots : t.spot.slot ≡ slot = ap (λ (s : Spot). s.slot) (same-is t.spot q e) in
            absurd (both_ways (is_some (entry_at slot entries)) vacant (ap (λ n. is_some (entry_at n entries)) (sym slots) ∙ has))
        by false e has rest = rest

pub added-rows : (guest slot window : ℕ) (place : Rect) (parent : ℕ) (asked : Bool) (held : List Tile) (xs : List Entry)
    → list_all (is_owned xs) held ≡ true → is_some (entry_at slot xs) ≡ false
    → own_rows guest held (xs ++ new_entry slot window place parent asked ∷ []) ≡ changed guest (Added (created guest window place parent asked)) (own_rows guest held xs)
added-rows guest slot window place parent asked held xs owned vacant =
    map-append (own_row guest held) xs (new_entry slot window place parent asked ∷ [])
    ∙ ap (λ contents. own_rows guest held xs ++ row_of guest contents (new_entry slot window place parent asked) ∷ [])
    (map-none (λ p. colour_at slot p.0 p.1 held) (grid 0 0 place.w place.h) (λ p. vacant-none xs slot held owned vacant p.0 p.1)
    ∙ ap (λ n. replicate n None) (sizes (grid 0 0 place.w place.h) ∙ length-grid (λ p. p) 0 0 place.w place.h ∙ mul_comm place.h place.w))
  where
    sizes : (ps : List (ℕ × ℕ)) → length ps ≡ length (map (λ (p : ℕ × ℕ). p) ps)
    sizes [] = refl
    sizes (p ∷ ps) = ap suc (sizes ps)
