-- Entries that stand apart, and their rows.
use Rattle.std.proofs.Common.{◌≡◌, ℕ, ◌+◌, Bool, true, false, cond, not, eqb, List, [], ◌∷◌, ◌++◌, map, sum_by, Some, is_some, option_map, refl, sym, ap, ◌∙◌}
use Rattle.std.proofs.lemmas.Bool.{eqb-true}
use Rattle.std.proofs.lemmas.List.Sums.{sum_by-cons}
use Rattle.desk_laws.specs.Rows.{row_with}
use Rattle.desk_laws.specs.Effects.{refs_of, refs_besides}
use Rattle.window_table.specs.Entries.{Entry, entry_at, entry_with, changed_at, updated, besides_slot, removed, forgets_window, row_of, plain_rows, AreApart}
use Rattle.window_table.proofs.OnceLemmas.{once-filter, once-from, once-map, once-push, once-to}
use Rattle.window_table.proofs.AmongLemmas.{none-find}

-- ---- what keeps entries apart

-- a new entry comes last
pub apart-added : (entries : List Entry) (e : Entry) → AreApart entries → is_some (entry_with e.window entries) ≡ false →
    is_some (entry_at e.slot entries) ≡ false → AreApart (entries ++ e ∷ [])
apart-added entries e apart new free = record {
  windows = once-to (λ x. x.window) (entries ++ e ∷ [])
      (once-push (λ x. x.window) entries e (once-from (λ x. x.window) entries apart.windows) (none-find (λ x. x.window) e.window entries new));
  slots = once-to (λ x. x.slot) (entries ++ e ∷ [])
      (once-push (λ x. x.slot) entries e (once-from (λ x. x.slot) entries apart.slots) (none-find (λ x. x.slot) e.slot entries free));
}

changed-keeps : (f : Entry → ℕ) (slot : ℕ) (change : Entry → Entry) → ((e : Entry) → f (change e) ≡ f e) → (e : Entry) →
    f (changed_at slot change e) ≡ f e
changed-keeps f slot change same e = by (eqb e.slot slot)
  where
    by : (b : Bool) → f (cond b (change e) e) ≡ f e
    by true = same e
    by false = refl

-- a change that keeps slots and windows
pub apart-updated : (entries : List Entry) (slot : ℕ) (change : Entry → Entry) → ((e : Entry) → (change e).window ≡ e.window) →
    ((e : Entry) → (change e).slot ≡ e.slot) → AreApart entries → AreApart (updated slot change entries)
apart-updated entries slot change windows slots apart = record {
  windows = once-to (λ x. x.window) (updated slot change entries)
      (once-map (λ x. x.window) (changed_at slot change) entries (changed-keeps (λ x. x.window) slot change windows)
      (once-from (λ x. x.window) entries apart.windows));
  slots = once-to (λ x. x.slot) (updated slot change entries)
      (once-map (λ x. x.slot) (changed_at slot change) entries (changed-keeps (λ x. x.slot) slot change slots)
      (once-from (λ x. x.slot) entries apart.slots));
}

-- an entry is gone
pub apart-removed : (entries : List Entry) (slot window : ℕ) → AreApart entries → AreApart (removed slot window entries)
apart-removed entries slot window apart = record {
  windows = once-to (λ x. x.window) (removed slot window entries)
      (once-map (λ x. x.window) (forgets_window window) (besides_slot slot entries) (λ e. refl)
      (once-filter (λ x. x.window) (λ e. not (eqb e.slot slot)) entries (once-from (λ x. x.window) entries apart.windows)));
  slots = once-to (λ x. x.slot) (removed slot window entries)
      (once-map (λ x. x.slot) (forgets_window window) (besides_slot slot entries) (λ e. refl)
      (once-filter (λ x. x.slot) (λ e. not (eqb e.slot slot)) entries (once-from (λ x. x.slot) entries apart.slots)));
}

-- ---- what is found

-- the entry of a window is of this window
pub found-window : (window : ℕ) (entries : List Entry) (e : Entry) → entry_with window entries ≡ Some e → e.window ≡ window
found-window window [] e found = absurd cc
found-window window (x ∷ entries) e found = by (eqb x.window window) refl (λ h. found-window window entries e h) found
  where
    by : (b : Bool) → eqb x.window window ≡ b → (entry_with window entries ≡ Some e → e.window ≡ window) →
        cond b (Some x) (entry_with window entries) ≡ Some e → e.window ≡ window
    by true is rest found = let same : x ≡ e = cc in sym (ap (λ y. y.window) same) ∙ eqb-true x.window window is
    by false is rest found = rest found

-- a change of the entry at a slot is found there
pub at-updated : (slot : ℕ) (change : Entry → Entry) (entries : List Entry) (e : Entry) → ((x : Entry) → (change x).slot ≡ x.slot) →
    entry_at slot entries ≡ Some e → entry_at slot (updated slot change entries) ≡ Some (change e)
at-updated slot change [] e same found = absurd cc
at-updated slot change (x ∷ entries) e same found =
    by (eqb x.slot slot) refl (λ h. at-updated slot change entries e same h) found
  where
    by : (b : Bool) → eqb x.slot slot ≡ b →
        (entry_at slot entries ≡ Some e → entry_at slot (updated slot change entries) ≡ Some (change e)) →
        cond b (Some x) (entry_at slot entries) ≡ Some e →
        cond (eqb (cond b (change x) x).slot slot) (Some (cond b (change x) x)) (entry_at slot (updated slot change entries)) ≡ Some (change e)
    by true is rest found =
        let here : x ≡ e = cc in
        let still : eqb (change x).slot slot ≡ true = ap (λ n. eqb n slot) (same x) ∙ is in
        ap (λ b. cond b (Some (change x)) (entry_at slot (updated slot change entries))) still ∙ ap (λ y. Some (change y)) here
    by false is rest found =
        ap (λ b. cond b (Some x) (entry_at slot (updated slot change entries))) is ∙ rest found

-- ---- rows

-- a window that has a slot has a row
pub known-row : (window : ℕ) (entries : List Entry) →
    is_some (option_map (λ e. e.slot) (entry_with window entries)) ≡ is_some (row_with window (plain_rows entries))
known-row window [] = refl
known-row window (e ∷ entries) = by (eqb e.window window) (known-row window entries)
  where
    by : (b : Bool) → is_some (option_map (λ x. x.slot) (entry_with window entries)) ≡ is_some (row_with window (plain_rows entries)) →
        is_some (option_map (λ x. x.slot) (cond b (Some e) (entry_with window entries)))
        ≡ is_some (cond b (Some (row_of 0 [] e)) (row_with window (plain_rows entries)))
    by true later = refl
    by false later = later

-- the references of the other windows, from the entries of some slots
pub besides-rows : (window : ℕ) (f : ℕ → Entry) (order : List ℕ) →
    refs_besides window (plain_rows (map f order)) ≡ sum_by (λ k. cond (eqb (f k).window window) 0 (refs_of (f k).dump)) order
besides-rows window f [] = refl
besides-rows window f (k ∷ order) =
    sum_by-cons (λ row. cond (eqb row.window window) 0 (refs_of row.dump)) (row_of 0 [] (f k)) (plain_rows (map f order))
    ∙ ap (λ n. cond (eqb (f k).window window) 0 (refs_of (f k).dump) + n) (besides-rows window f order)
    ∙ sym (sum_by-cons (λ j. cond (eqb (f j).window window) 0 (refs_of (f j).dump)) k order)
