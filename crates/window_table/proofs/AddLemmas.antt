-- A new window.
use Rattle.std.proofs.Common.{◌≡◌, ◌≢◌, ◌⊎◌, inl, inr, ℕ, ◌+◌, ◌<◌, true, false, List, [], ◌∷◌, ◌++◌, length, get_or, Some, None, is_some, refl, sym, ap, ◌∙◌, subst, arith}
use Rattle.std.proofs.lemmas.Bool.{cases_eq}
use Rattle.std.proofs.lemmas.List.{length-append, map-append}
use Rattle.std.proofs.lemmas.List.Sums.{sum_by_push}
use Rattle.slab.specs.Slab.{Slab, get, Updates, slab_len}
use Rattle.window_table.specs.declared.held.Held.{Held}
use Rattle.window_table.specs.Entries.{entry_at, entry_with, AreApart}
use Rattle.window_table.specs.Kept.{size_in, entry_of, entry_in, entries_of, among, IsKept}
use Rattle.window_table.proofs.AmongLemmas.{among-push}
use Rattle.window_table.proofs.EntryLemmas.{apart-added}
use Rattle.window_table.proofs.FindLemmas.{at-none}
use Rattle.window_table.proofs.WriteLemmas.{map-among}

module _ (held held' : Slab Held) (lists : List (List ℕ)) (order : List ℕ) (key : ℕ) (h : Held)
    (kept : IsKept held lists order) (vacant : get held key ≡ None) (updates : Updates held held' key (Some h)) where
  new-differs : (k : ℕ) → among k order ≡ true → k ≢ key
  new-differs k in_ same =
      let some = kept.each k in_ in
      let none : is_some (get held k) ≡ false = ap (λ n. is_some (get held n)) same ∙ ap is_some vacant in
      absurd cc

  pub new-refs : get_or lists key [] ≡ []
  new-refs = kept.unused key (ap size_in vacant)

  pub entries-add : entries_of held' lists (order ++ key ∷ []) ≡ entries_of held lists order ++ entry_of key (Some h) [] ∷ []
  entries-add =
      map-append (entry_in held' lists) order (key ∷ [])
      ∙ ap (λ es. es ++ entry_in held' lists key ∷ [])
      (map-among (entry_in held' lists) (entry_in held lists) order
      (λ k in_. ap (λ o. entry_of k o (get_or lists k [])) (updates.others k (new-differs k in_))))
      ∙ ap (λ o. entries_of held lists order ++ entry_of key o (get_or lists key []) ∷ []) updates.changed
      ∙ ap (λ refs. entries_of held lists order ++ entry_of key (Some h) refs ∷ []) new-refs

  pub new-free : is_some (entry_at key (entries_of held lists order)) ≡ false
  new-free = at-none held lists key order (λ in_. new-differs key in_ refl)

  each-add : (k : ℕ) → (among k order ≡ true) ⊎ (k ≡ key) → is_some (get held' k) ≡ true
  each-add k (inl in_) = ap is_some (updates.others k (new-differs k in_)) ∙ kept.each k in_
  each-add k (inr same) = ap (λ n. is_some (get held' n)) same ∙ ap is_some updates.changed

  below-add : key < 1024 → (k : ℕ) → (among k order ≡ true) ⊎ (k ≡ key) → k < 1024
  below-add inside k (inl in_) = kept.below k in_
  below-add inside k (inr same) = omega (arith, same)

  unused-add : (k : ℕ) → size_in (get held' k) ≡ None → (k ≡ key) ⊎ (k ≢ key) → get_or lists k [] ≡ []
  unused-add k none (inl same) = ap (λ n. get_or lists n []) same ∙ new-refs
  unused-add k none (inr differs) = kept.unused k (sym (ap size_in (updates.others k differs)) ∙ none)

  pub kept-add : held'.capacity ≡ held.capacity → slab_len held' ≡ slab_len held + 1 → key < 1024 → length order < 1024 →
      is_some (entry_with h.window (entries_of held lists order)) ≡ false → IsKept held' lists (order ++ key ∷ [])
  kept-add capacity len inside room unknown = record {
    slots = kept.slots;
    capacity = capacity ∙ kept.capacity;
    each = λ k in_. each-add k (among-push order key k in_);
    below = λ k in_. below-add inside k (among-push order key k in_);
    count = omega (arith, len, kept.count, length-append order (key ∷ []));
    few = omega (arith, length-append order (key ∷ []));
    unused = λ k none. unused-add k none (cases_eq k key);
    together =
        let last : length (get_or lists key []) ≡ 0 = ap length new-refs in
        omega (arith, kept.together, last, sum_by_push (λ k. length (get_or lists k [])) order key);
    apart = subst AreApart (sym entries-add)
        (apart-added (entries_of held lists order) (entry_of key (Some h) []) kept.apart unknown new-free);
  }
