-- The keys of entries, and what a change of the entries asks of them.
use Rattle.std.proofs.Common.{◌≡◌, ℕ, ◌+◌, Bool, true, false, cond, not, ◌||◌, eqb, List, [], ◌∷◌, ◌++◌, length, map, find, Option, Some, None, is_some, option_map, refl, sym, ap, ◌∙◌, subst, arith}
use Rattle.std.proofs.lemmas.Bool.{both_ways, cond-false, eqb-true, eqb-false, eq-eqb, ne_eqb, or_parts}
use Rattle.std.proofs.lemmas.List.{length-append, length-map}
use Rattle.window_table.specs.declared.index.Key.{Key}
use Rattle.window_table.specs.Entries.{Entry, AreApart, entry_at, entry_with, changed_at, updated, besides_slot, removed, forgets_window}
use Rattle.window_table.specs.Keys.{slot_in, RiseFrom, IsIndex}
use Rattle.slab.specs.Slab.{Slab}
use Rattle.window_table.specs.declared.held.Held.{Held}
use Rattle.window_table.specs.Kept.{entries_of, holds}
use Rattle.window_table.proofs.FindLemmas.{slot-of-window}
use Rattle.window_table.proofs.OnceLemmas.{OnceBy, has_number, once-from, or_right}

-- the slot of a window among entries
slot_with : ℕ → List Entry → Option ℕ
slot_with window entries = option_map (λ e. e.slot) (entry_with window entries)

pub index-none : (keys : List Key) → keys ≡ [] → IsIndex [] keys
index-none keys none = subst (IsIndex []) (sym none) (record { rising = tt; count = refl; slots = λ window. refl })

-- the key of a window says which slot holds it
pub index-find : (held : Slab Held) (lists : List (List ℕ)) (order : List ℕ) (keys : List Key) → IsIndex (entries_of held lists order) keys →
    (window : ℕ) → slot_in window keys ≡ find (holds held window) order
index-find held lists order keys index window = index.slots window ∙ sym (slot-of-window held lists order window)

-- ---- a change that keeps slots and windows

with-map : (f : Entry → Entry) → ((e : Entry) → (f e).window ≡ e.window) → ((e : Entry) → (f e).slot ≡ e.slot) →
    (window : ℕ) (entries : List Entry) → slot_with window (map f entries) ≡ slot_with window entries
unfolding slot_with
with-map f windows slots window [] = refl
with-map f windows slots window (e ∷ entries) =
    ap (λ n. option_map (λ x. x.slot) (cond (eqb n window) (Some (f e)) (entry_with window (map f entries)))) (windows e)
    ∙ by (eqb e.window window) (with-map f windows slots window entries)
  where
    by : (b : Bool) → option_map (λ x. x.slot) (entry_with window (map f entries)) ≡ option_map (λ x. x.slot) (entry_with window entries) →
        option_map (λ x. x.slot) (cond b (Some (f e)) (entry_with window (map f entries)))
        ≡ option_map (λ x. x.slot) (cond b (Some e) (entry_with window entries))
    by true rest = ap Some (slots e)
    by false rest = rest

index-map : (f : Entry → Entry) → ((e : Entry) → (f e).window ≡ e.window) → ((e : Entry) → (f e).slot ≡ e.slot) →
    (entries : List Entry) (keys : List Key) → IsIndex entries keys → IsIndex (map f entries) keys
unfolding slot_with
index-map f windows slots entries keys index = record {
  rising = index.rising;
  count = index.count ∙ sym (length-map entries f);
  slots = λ window. index.slots window ∙ sym (with-map f windows slots window entries);
}

changed-keeps : (f : Entry → ℕ) (slot : ℕ) (change : Entry → Entry) → ((e : Entry) → f (change e) ≡ f e) → (e : Entry) →
    f (changed_at slot change e) ≡ f e
changed-keeps f slot change same e = by (eqb e.slot slot)
  where
    by : (b : Bool) → f (cond b (change e) e) ≡ f e
    by true = same e
    by false = refl

pub index-updated : (slot : ℕ) (change : Entry → Entry) → ((e : Entry) → (change e).window ≡ e.window) →
    ((e : Entry) → (change e).slot ≡ e.slot) → (entries : List Entry) (keys : List Key) → IsIndex entries keys → IsIndex (updated slot change entries) keys
index-updated slot change windows slots entries keys index =
    index-map (changed_at slot change) (changed-keeps (λ x. x.window) slot change windows) (changed-keeps (λ x. x.slot) slot change slots) entries keys index

-- ---- a new entry

with-added : (entries : List Entry) (e : Entry) (window : ℕ) → is_some (entry_with e.window entries) ≡ false →
    slot_with window (entries ++ e ∷ []) ≡ cond (eqb e.window window) (Some e.slot) (slot_with window entries)
unfolding slot_with
with-added [] e window unknown = by (eqb e.window window)
  where
    by : (b : Bool) → option_map (λ x. x.slot) (cond b (Some e) None) ≡ cond b (Some e.slot) None
    by true = refl
    by false = refl
with-added (x ∷ entries) e window unknown =
    let other = unknown-first x entries unknown in
    by (eqb x.window window) refl other.0 (with-added entries e window other.1)
  where
    unknown-first : (x : Entry) (xs : List Entry) → is_some (cond (eqb x.window e.window) (Some x) (entry_with e.window xs)) ≡ false →
        (eqb x.window e.window ≡ false) × (is_some (entry_with e.window xs) ≡ false)
    unknown-first x xs none = case (eqb x.window e.window) refl none
      where
        case : (b : Bool) → eqb x.window e.window ≡ b → is_some (cond b (Some x) (entry_with e.window xs)) ≡ false →
            (eqb x.window e.window ≡ false) × (is_some (entry_with e.window xs) ≡ false)
        case true is none = absurd cc
        case false is none = (is, none)

    by : (b : Bool) → eqb x.window window ≡ b → eqb x.window e.window ≡ false →
        option_map (λ y. y.slot) (entry_with window (entries ++ e ∷ [])) ≡ cond (eqb e.window window) (Some e.slot) (option_map (λ y. y.slot) (entry_with window entries)) →
        option_map (λ y. y.slot) (cond b (Some x) (entry_with window (entries ++ e ∷ [])))
        ≡ cond (eqb e.window window) (Some e.slot) (option_map (λ y. y.slot) (cond b (Some x) (entry_with window entries)))
    by true is differs rest =
        sym (cond-false (eqb e.window window) (Some e.slot) (Some x.slot)
        (ne_eqb e.window window (λ same. eqb-false x.window e.window differs (eqb-true x.window window is ∙ sym same))))
    by false is differs rest = rest

pub index-added : (entries : List Entry) (e : Entry) (keys keys' : List Key) → IsIndex entries keys →
    is_some (entry_with e.window entries) ≡ false → RiseFrom 0 keys' → length keys' ≡ length keys + 1 →
    ((window : ℕ) → slot_in window keys' ≡ cond (eqb e.window window) (Some e.slot) (slot_in window keys)) → IsIndex (entries ++ e ∷ []) keys'
unfolding slot_with
index-added entries e keys keys' index unknown rising len slots = record {
  rising = rising;
  count = omega (arith, len, index.count, length-append entries (e ∷ []));
  slots = λ window.
      slots window
      ∙ ap (λ o. cond (eqb e.window window) (Some e.slot) o) (index.slots window)
      ∙ sym (with-added entries e window unknown);
}

-- ---- an entry that goes

-- without an entry at a slot all are left
left-all : (slot : ℕ) (entries : List Entry) → has_number (λ x. x.slot) slot entries ≡ false → besides_slot slot entries ≡ entries
left-all slot [] none = refl
left-all slot (x ∷ entries) none =
    let parts = or_parts (eqb x.slot slot) (has_number (λ y. y.slot) slot entries) none in
    ap (λ b. cond (not b) (x ∷ besides_slot slot entries) (besides_slot slot entries)) parts.0
    ∙ ap (λ es. x ∷ es) (left-all slot entries parts.1)

none-with : (window : ℕ) (entries : List Entry) → has_number (λ x. x.window) window entries ≡ false → entry_with window entries ≡ None
none-with window [] none = refl
none-with window (x ∷ entries) none =
    let parts = or_parts (eqb x.window window) (has_number (λ y. y.window) window entries) none in
    cond-false (eqb x.window window) (Some x) (entry_with window entries) parts.0 ∙ none-with window entries parts.1

-- an entry that is found is there
found-there : (slot : ℕ) (entries : List Entry) (e : Entry) → entry_at slot entries ≡ Some e → has_number (λ x. x.window) e.window entries ≡ true
found-there slot [] e found = absurd cc
found-there slot (x ∷ entries) e found = by (eqb x.slot slot) found (λ h. found-there slot entries e h)
  where
    by : (b : Bool) → cond b (Some x) (entry_at slot entries) ≡ Some e →
        (entry_at slot entries ≡ Some e → has_number (λ y. y.window) e.window entries ≡ true) →
        (eqb x.window e.window || has_number (λ y. y.window) e.window entries) ≡ true
    by true found rest =
        let same : x ≡ e = cc in
        ap (λ b. b || has_number (λ y. y.window) e.window entries) (eq-eqb x.window e.window (ap (λ y. y.window) same))
    by false found rest = or_right (eqb x.window e.window) (has_number (λ y. y.window) e.window entries) (rest found)

-- the first entry, or one behind it
module _ (slot : ℕ) (x : Entry) (entries : List Entry) (e : Entry) where
  at-first : (b : Bool) → cond b (Some x) (entry_at slot entries) ≡ Some e → b ≡ true → x ≡ e
  at-first true found is = cc
  at-first false found is = absurd cc

  at-rest : (b : Bool) → cond b (Some x) (entry_at slot entries) ≡ Some e → b ≡ false → entry_at slot entries ≡ Some e
  at-rest true found is = absurd cc
  at-rest false found is = found

fewer : (slot : ℕ) (entries : List Entry) (e : Entry) → OnceBy (λ x. x.slot) entries → entry_at slot entries ≡ Some e →
    length (besides_slot slot entries) + 1 ≡ length entries
fewer slot [] e once found = absurd cc
fewer slot (x ∷ entries) e once found = by (eqb x.slot slot) refl (λ is. fewer slot entries e once.1 (at-rest slot x entries e (eqb x.slot slot) found is))
  where
    by : (b : Bool) → eqb x.slot slot ≡ b → (eqb x.slot slot ≡ false → length (besides_slot slot entries) + 1 ≡ length entries) →
        length (cond (not b) (x ∷ besides_slot slot entries) (besides_slot slot entries)) + 1 ≡ length (x ∷ entries)
    by true is rest =
        let none : has_number (λ y. y.slot) slot entries ≡ false = ap (λ n. has_number (λ y. y.slot) n entries) (sym (eqb-true x.slot slot is)) ∙ once.0 in
        let all : length (besides_slot slot entries) ≡ length entries = ap length (left-all slot entries none) in
        omega (arith, all)
    by false is rest = let less = rest is in omega (arith, less)

with-besides : (slot window : ℕ) (entries : List Entry) (e : Entry) → OnceBy (λ x. x.slot) entries → OnceBy (λ x. x.window) entries →
    entry_at slot entries ≡ Some e →
    slot_with window (besides_slot slot entries) ≡ cond (eqb e.window window) None (slot_with window entries)
unfolding slot_with
with-besides slot window [] e slots windows found = absurd cc
with-besides slot window (x ∷ entries) e slots windows found =
    by (eqb x.slot slot) refl
    (λ is. with-besides slot window entries e slots.1 windows.1 (at-rest slot x entries e (eqb x.slot slot) found is))
  where
    gone : x ≡ e → (b : Bool) → eqb e.window window ≡ b →
        option_map (λ y. y.slot) (entry_with window entries)
        ≡ cond b None (option_map (λ y. y.slot) (cond (eqb x.window window) (Some x) (entry_with window entries)))
    gone same true is =
        let here : x.window ≡ window = ap (λ y. y.window) same ∙ eqb-true e.window window is in
        ap (option_map (λ y. y.slot)) (none-with window entries (ap (λ n. has_number (λ y. y.window) n entries) (sym here) ∙ windows.0))
    gone same false is =
        sym (ap (option_map (λ y. y.slot)) (cond-false (eqb x.window window) (Some x) (entry_with window entries)
        (ap (λ y. eqb y.window window) same ∙ is)))

    stays : entry_at slot entries ≡ Some e → (b : Bool) → eqb x.window window ≡ b →
        option_map (λ y. y.slot) (entry_with window (besides_slot slot entries)) ≡ cond (eqb e.window window) None (option_map (λ y. y.slot) (entry_with window entries)) →
        option_map (λ y. y.slot) (cond b (Some x) (entry_with window (besides_slot slot entries)))
        ≡ cond (eqb e.window window) None (option_map (λ y. y.slot) (cond b (Some x) (entry_with window entries)))
    stays there true is rest =
        sym (cond-false (eqb e.window window) None (Some x.slot)
        (ne_eqb e.window window (λ same. both_ways (has_number (λ y. y.window) e.window entries)
        (ap (λ n. has_number (λ y. y.window) n entries) (same ∙ sym (eqb-true x.window window is)) ∙ windows.0)
        (found-there slot entries e there))))
    stays there false is rest = rest

    by : (b : Bool) → eqb x.slot slot ≡ b →
        (eqb x.slot slot ≡ false → option_map (λ y. y.slot) (entry_with window (besides_slot slot entries)) ≡ cond (eqb e.window window) None (option_map (λ y. y.slot) (entry_with window entries))) →
        option_map (λ y. y.slot) (entry_with window (cond (not b) (x ∷ besides_slot slot entries) (besides_slot slot entries)))
        ≡ cond (eqb e.window window) None (option_map (λ y. y.slot) (cond (eqb x.window window) (Some x) (entry_with window entries)))
    by true is rest =
        let none : has_number (λ y. y.slot) slot entries ≡ false = ap (λ n. has_number (λ y. y.slot) n entries) (sym (eqb-true x.slot slot is)) ∙ slots.0 in
        ap (λ es. option_map (λ y. y.slot) (entry_with window es)) (left-all slot entries none)
        ∙ gone (at-first slot x entries e (eqb x.slot slot) found is) (eqb e.window window) refl
    by false is rest = stays (at-rest slot x entries e (eqb x.slot slot) found is) (eqb x.window window) refl (rest is)

pub index-removed : (entries : List Entry) (slot : ℕ) (e : Entry) (keys keys' : List Key) → IsIndex entries keys → AreApart entries →
    entry_at slot entries ≡ Some e → RiseFrom 0 keys' → length keys' + 1 ≡ length keys →
    ((window : ℕ) → slot_in window keys' ≡ cond (eqb e.window window) None (slot_in window keys)) →
    IsIndex (removed slot e.window entries) keys'
unfolding slot_with
index-removed entries slot e keys keys' index apart found rising len slots =
    index-map (forgets_window e.window) (λ x. refl) (λ x. refl) (besides_slot slot entries) keys' (record {
      rising = rising;
      count =
          let less = fewer slot entries e (once-from (λ x. x.slot) entries apart.slots) found in
          omega (arith, less, len, index.count);
      slots = λ window.
          slots window
          ∙ ap (λ o. cond (eqb e.window window) None o) (index.slots window)
          ∙ sym (with-besides slot window entries e (once-from (λ x. x.slot) entries apart.slots) (once-from (λ x. x.window) entries apart.windows) found);
    })

-- a window that an entry is of has a key
pub index-known : (entries : List Entry) (slot : ℕ) (e : Entry) (keys : List Key) → IsIndex entries keys → entry_at slot entries ≡ Some e →
    is_some (slot_in e.window keys) ≡ true
unfolding slot_with
index-known entries slot e keys index found =
    ap is_some (index.slots e.window) ∙ by entries (found-there slot entries e found)
  where
    by : (es : List Entry) → has_number (λ x. x.window) e.window es ≡ true → is_some (option_map (λ x. x.slot) (entry_with e.window es)) ≡ true
    by [] there = absurd cc
    by (x ∷ es) there = case (eqb x.window e.window) there (λ h. by es h)
      where
        case : (b : Bool) → (b || has_number (λ y. y.window) e.window es) ≡ true →
            (has_number (λ y. y.window) e.window es ≡ true → is_some (option_map (λ y. y.slot) (entry_with e.window es)) ≡ true) →
            is_some (option_map (λ y. y.slot) (cond b (Some x) (entry_with e.window es))) ≡ true
        case true there rest = refl
        case false there rest = rest there
