-- A write at one slot changes one entry, and keeps the table.
use Rattle.std.proofs.Common.{◌≡◌, ◌≢◌, ◌⊎◌, inl, inr, ℕ, ◌<◌, Bool, true, false, cond, ◌||◌, eqb, List, [], ◌∷◌, length, get_or, map, sum_by, Some, None, is_some, refl, sym, ap, ◌∙◌, subst, arith}
use Rattle.std.proofs.lemmas.Bool.{cases_eq, eqb-true, eqb-false, eq-eqb}
use Rattle.std.proofs.lemmas.List.Sums.{sum_by-set}
use Rattle.slab.specs.Slab.{Slab, get, Updates, slab_len, with_value}
use Rattle.window_table.specs.declared.held.Held.{Held}
use Rattle.window_table.specs.Entries.{Entry, changed_at, updated, AreApart}
use Rattle.window_table.specs.Kept.{window_of, size_in, entry_of, entry_in, entries_of, among, IsKept}
use Rattle.window_table.proofs.OnceLemmas.{OnceBy, once-from, once-of-map}
use Rattle.window_table.proofs.EntryLemmas.{apart-updated}

pub with_value-len : (held : Slab Held) (key : ℕ) (h h' : Held) → get held key ≡ Some h → key < length held.slots →
    slab_len (with_value held key h') ≡ slab_len held
with_value-len held key h h' was inside =
    let sums = sum_by-set (λ o. cond (is_some o) 1 0) held.slots key (Some h') None inside in
    let one : ℕ = 1 in
    let had : cond (is_some (get held key)) one 0 ≡ one = ap (λ o. cond (is_some o) one 0) was in
    omega (arith, sums, had)

pub map-among : (f g : ℕ → Entry) (order : List ℕ) → ((k : ℕ) → among k order ≡ true → f k ≡ g k) → map f order ≡ map g order
map-among f g [] same = refl
map-among f g (k ∷ order) same =
    ap (λ e. e ∷ map f order) (same k (among-first k order))
    ∙ ap (λ es. g k ∷ es) (map-among f g order (λ j h. same j (or_last (eqb k j) (among j order) h)))
  where
    or_last : (a b : Bool) → b ≡ true → (a || b) ≡ true
    or_last true b e = refl
    or_last false b e = e

    among-first : (k : ℕ) (order : List ℕ) → (eqb k k || among k order) ≡ true
    among-first k order = ap (λ b. b || among k order) (eq-eqb k k refl)

map-after : (f g : ℕ → Entry) (h : Entry → Entry) (order : List ℕ) → ((k : ℕ) → f k ≡ h (g k)) → map f order ≡ map h (map g order)
map-after f g h [] same = refl
map-after f g h (k ∷ order) same = ap (λ e. e ∷ map f order) (same k) ∙ ap (λ es. h (g k) ∷ es) (map-after f g h order same)

-- what stands apart in the order
module _ (held : Slab Held) (lists : List (List ℕ)) (order : List ℕ) (apart : AreApart (entries_of held lists order)) where
  pub once-slots : OnceBy (λ k. k) order
  once-slots = once-of-map (λ e. e.slot) (entry_in held lists) order (once-from (λ e. e.slot) (entries_of held lists order) apart.slots)

  pub once-windows : OnceBy (λ k. window_of (get held k)) order
  once-windows = once-of-map (λ e. e.window) (entry_in held lists) order (once-from (λ e. e.window) (entries_of held lists order) apart.windows)

module _ (held held' : Slab Held) (lists lists' : List (List ℕ)) (order : List ℕ) (slot : ℕ) (h h' : Held) (change : Entry → Entry)
    (kept : IsKept held lists order) (here : among slot order ≡ true)
    (was : get held slot ≡ Some h) (updates : Updates held held' slot (Some h'))
    (size : length lists' ≡ length lists) (others : (j : ℕ) → j ≢ slot → get_or lists' j [] ≡ get_or lists j [])
    (changes : change (entry_of slot (Some h) (get_or lists slot [])) ≡ entry_of slot (Some h') (get_or lists' slot [])) where
  entry-write : (k : ℕ) (b : Bool) → eqb k slot ≡ b → entry_in held' lists' k ≡ cond b (change (entry_in held lists k)) (entry_in held lists k)
  entry-write k true is =
      let same : k ≡ slot = eqb-true k slot is in
      ap (entry_in held' lists') same
      ∙ ap (λ o. entry_of slot o (get_or lists' slot [])) updates.changed
      ∙ sym changes
      ∙ ap (λ o. change (entry_of slot o (get_or lists slot []))) (sym was)
      ∙ ap (λ n. change (entry_in held lists n)) (sym same)
  entry-write k false is =
      let differs = eqb-false k slot is in
      ap (λ o. entry_of k o (get_or lists' k [])) (updates.others k differs)
      ∙ ap (entry_of k (get held k)) (others k differs)

  -- the entries are as they were but at the slot
  pub entries-write : entries_of held' lists' order ≡ updated slot change (entries_of held lists order)
  entries-write = map-after (entry_in held' lists') (entry_in held lists) (changed_at slot change) order (λ k. entry-write k (eqb k slot) refl)

  each-write : (k : ℕ) → among k order ≡ true → (k ≡ slot) ⊎ (k ≢ slot) → is_some (get held' k) ≡ true
  each-write k in_ (inl same) = ap (λ n. is_some (get held' n)) same ∙ ap is_some updates.changed
  each-write k in_ (inr differs) = ap is_some (updates.others k differs) ∙ kept.each k in_

  unused-write : (h'.size ≡ None → get_or lists' slot [] ≡ []) → (k : ℕ) → size_in (get held' k) ≡ None → (k ≡ slot) ⊎ (k ≢ slot) →
      get_or lists' k [] ≡ []
  unused-write unused k none (inl same) =
      ap (λ n. get_or lists' n []) same
      ∙ unused (sym (ap (λ n. size_in (get held' n)) same ∙ ap size_in updates.changed) ∙ none)
  unused-write unused k none (inr differs) =
      others k differs ∙ kept.unused k (sym (ap size_in (updates.others k differs)) ∙ none)

  -- and the table is kept
  pub kept-write : held'.capacity ≡ held.capacity → slab_len held' ≡ slab_len held → (h'.size ≡ None → get_or lists' slot [] ≡ []) →
      sum_by length lists' ≡ sum_by (λ k. length (get_or lists' k [])) order →
      ((e : Entry) → (change e).window ≡ e.window) → ((e : Entry) → (change e).slot ≡ e.slot) → IsKept held' lists' order
  kept-write capacity len unused together windows slots = record {
    slots = size ∙ kept.slots;
    capacity = capacity ∙ kept.capacity;
    each = λ k in_. each-write k in_ (cases_eq k slot);
    below = kept.below;
    count = len ∙ kept.count;
    few = kept.few;
    unused = λ k none. unused-write unused k none (cases_eq k slot);
    together = together;
    apart = subst AreApart (sym entries-write) (apart-updated (entries_of held lists order) slot change windows slots kept.apart);
  }
