-- The loop in which all panes forget a window.
use Rattle.std.proofs.Common.{◌≡◌, ◌≢◌, ◌⊎◌, inl, inr, ℕ, ◌+◌, ◌<◌, ◌≤◌, length, None, option_map, sym, ap, ◌∙◌, arith}
use Rattle.std.proofs.lemmas.Bool.{cases_eq, cases_lt}
use Rattle.std.proofs.lemmas.List.{get_or_past}
use Rattle.slab.specs.Slab.{Slab, get, Updates, slab_len}
use Rattle.window_table.specs.declared.held.Held.{Held}
use Rattle.window_table.specs.Kept.{forgets_held}

-- the keys below this one name the window no more, the others are as before
pub record ForgotSoFar (old now : Slab Held) (window key : ℕ) : Type 0 where
  pub before : (slot : ℕ) → slot < key → get now slot ≡ option_map (forgets_held window) (get old slot)
  pub behind : (slot : ℕ) → key ≤ slot → get now slot ≡ get old slot
  pub len : slab_len now ≡ slab_len old
  pub capacity : now.capacity ≡ old.capacity

module _ (old now next : Slab Held) (window key : ℕ) (so_far : ForgotSoFar old now window key)
    (updates : Updates now next key (option_map (forgets_held window) (get now key))) where
  forgot-below : (slot : ℕ) → slot < key + 1 → (slot ≡ key) ⊎ (slot ≢ key) → get next slot ≡ option_map (forgets_held window) (get old slot)
  forgot-below slot l (inl same) =
      ap (get next) same ∙ updates.changed ∙ ap (option_map (forgets_held window)) (so_far.behind key (omega arith))
      ∙ ap (λ n. option_map (forgets_held window) (get old n)) (sym same)
  forgot-below slot l (inr differs) = updates.others slot differs ∙ so_far.before slot (omega (arith, differs))

  pub forgot-more : slab_len next ≡ slab_len now → next.capacity ≡ now.capacity → ForgotSoFar old next window (key + 1)
  forgot-more len capacity = record {
    before = λ slot l. forgot-below slot l (cases_eq slot key);
    behind = λ slot l. updates.others slot (λ e. omega (arith, e)) ∙ so_far.behind slot (omega arith);
    len = len ∙ so_far.len;
    capacity = capacity ∙ so_far.capacity;
  }

module _ (old now : Slab Held) (window key : ℕ) (so_far : ForgotSoFar old now window key) (inside : length old.slots ≤ key) where
  forgot-by : (slot : ℕ) → (slot < key) ⊎ (key ≤ slot) → get now slot ≡ option_map (forgets_held window) (get old slot)
  forgot-by slot (inl l) = so_far.before slot l
  forgot-by slot (inr le) =
      so_far.behind slot le
      ∙ get_or_past old.slots slot None (omega arith)
      ∙ ap (option_map (forgets_held window)) (sym (get_or_past old.slots slot None (omega arith)))

  pub forgot-all : (slot : ℕ) → get now slot ≡ option_map (forgets_held window) (get old slot)
  forgot-all slot = forgot-by slot (cases_lt slot key)
