-- A window that goes.
use Rattle.std.proofs.Common.{◌≡◌, ◌≢◌, ◌⊎◌, inl, inr, ℕ, ◌+◌, Bool, true, false, cond, not, eqb, List, [], ◌∷◌, length, get_or, set, map, filter, Option, Some, None, is_some, option_map, refl, sym, ap, ◌∙◌, subst, arith}
use Rattle.std.proofs.lemmas.Bool.{cases_eq, eqb-false}
use Rattle.std.proofs.lemmas.List.{get_or-set_same, get_or-set_other, length-set}
use Rattle.slab.specs.Slab.{Slab, get, Updates, slab_len}
use Rattle.desk_laws.specs.Effects.{name_without}
use Rattle.window_table.specs.declared.held.Held.{Held}
use Rattle.window_table.specs.Entries.{besides_slot, removed, forgets_window, AreApart}
use Rattle.window_table.specs.Kept.{size_in, pane_in, entry_of, entry_in, entries_of, among, forgets_held, IsKept}
use Rattle.window_table.proofs.AmongLemmas.{among-without}
use Rattle.window_table.proofs.SumLemmas.{length-without, sum-without}
use Rattle.window_table.proofs.EntryLemmas.{apart-removed}
use Rattle.window_table.proofs.WriteLemmas.{once-slots}
use Rattle.window_table.proofs.RefLemmas.{together-set}

forgets-none : (window : ℕ) → name_without window 0 ≡ 0
forgets-none window = by (eqb 0 window)
  where
    nothing : ℕ
    nothing = 0

    by : (b : Bool) → cond b nothing nothing ≡ nothing
    by true = refl
    by false = refl

forgets-entry : (window k : ℕ) (o : Option Held) (refs : List ℕ) →
    entry_of k (option_map (forgets_held window) o) refs ≡ forgets_window window (entry_of k o refs)
forgets-entry window k None refs =
    let zero_is = forgets-none window in
    ap (λ n. record {
      slot = k;
      window = 0;
      dump = None;
      pane = record (pane_in None) { parent = n; transient = n };
    }) (sym zero_is)
forgets-entry window k (Some h) refs = refl

forgets-size : (window : ℕ) (o : Option Held) → size_in (option_map (forgets_held window) o) ≡ size_in o
forgets-size window None = refl
forgets-size window (Some h) = refl

forgets-some : (window : ℕ) (o : Option Held) → is_some (option_map (forgets_held window) o) ≡ is_some o
forgets-some window None = refl
forgets-some window (Some h) = refl

module _ (held gone held' : Slab Held) (lists : List (List ℕ)) (order : List ℕ) (slot window : ℕ)
    (kept : IsKept held lists order) (here : among slot order ≡ true) (updates : Updates held gone slot None)
    (each : (k : ℕ) → get held' k ≡ option_map (forgets_held window) (get gone k)) where
  at-other : (k : ℕ) → k ≢ slot → get held' k ≡ option_map (forgets_held window) (get held k)
  at-other k differs = each k ∙ ap (option_map (forgets_held window)) (updates.others k differs)

  entry-other : (k : ℕ) → k ≢ slot → entry_in held' (set lists slot []) k ≡ forgets_window window (entry_in held lists k)
  entry-other k differs =
      ap (λ o. entry_of k o (get_or (set lists slot []) k [])) (at-other k differs)
      ∙ ap (entry_of k (option_map (forgets_held window) (get held k))) (get_or-set_other lists slot k [] [] differs)
      ∙ forgets-entry window k (get held k) (get_or lists k [])

  -- the entries without the slot's
  pub entries-remove : (ks : List ℕ) → entries_of held' (set lists slot []) (filter (λ k. not (eqb k slot)) ks) ≡ removed slot window (entries_of held lists ks)
  entries-remove [] = refl
  entries-remove (k ∷ ks) = by (eqb k slot) refl (entries-remove ks)
    where
      by : (b : Bool) → eqb k slot ≡ b →
          entries_of held' (set lists slot []) (filter (λ j. not (eqb j slot)) ks) ≡ removed slot window (entries_of held lists ks) →
          entries_of held' (set lists slot []) (cond (not b) (k ∷ filter (λ j. not (eqb j slot)) ks) (filter (λ j. not (eqb j slot)) ks))
          ≡ map (forgets_window window) (cond (not b) (entry_in held lists k ∷ besides_slot slot (entries_of held lists ks)) (besides_slot slot (entries_of held lists ks)))
      by true is later = later
      by false is later =
          ap (λ e. e ∷ entries_of held' (set lists slot []) (filter (λ j. not (eqb j slot)) ks)) (entry-other k (eqb-false k slot is))
          ∙ ap (λ es. forgets_window window (entry_in held lists k) ∷ es) later

  unused-remove : (k : ℕ) → size_in (get held' k) ≡ None → (k ≡ slot) ⊎ (k ≢ slot) → get_or (set lists slot []) k [] ≡ []
  unused-remove k none (inl same) =
      ap (λ n. get_or (set lists slot []) n []) same
      ∙ get_or-set_same lists slot [] [] (omega (arith, kept.below slot here, kept.slots))
  unused-remove k none (inr differs) =
      get_or-set_other lists slot k [] [] differs
      ∙ kept.unused k (sym (ap size_in (at-other k differs) ∙ forgets-size window (get held k)) ∙ none)

  pub kept-remove : held'.capacity ≡ held.capacity → slab_len held' + 1 ≡ slab_len held →
      IsKept held' (set lists slot []) (filter (λ k. not (eqb k slot)) order)
  kept-remove capacity len =
      let fewer = length-without slot order (once-slots held lists order kept.apart) here in
      record {
        slots = length-set lists slot [] ∙ kept.slots;
        capacity = capacity ∙ kept.capacity;
        each = λ k in_. let old = among-without slot k order in_ in
            ap is_some (at-other k old.1) ∙ forgets-some window (get held k) ∙ kept.each k old.0;
        below = λ k in_. let old = among-without slot k order in_ in kept.below k old.0;
        count = omega (arith, len, kept.count, fewer);
        few = omega (arith, fewer, kept.few);
        unused = λ k none. unused-remove k none (cases_eq k slot);
        together =
            together-set held lists order kept slot [] here
            ∙ sym (sum-without (λ k. length (get_or (set lists slot []) k [])) slot order
            (ap length (get_or-set_same lists slot [] [] (omega (arith, kept.below slot here, kept.slots)))));
        apart = subst AreApart (sym (entries-remove order)) (apart-removed (entries_of held lists order) slot window kept.apart);
      }
