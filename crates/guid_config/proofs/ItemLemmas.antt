-- The items of an array, read one after the other.
use Rattle.std.proofs.Common.{◌≡◌, ℕ, ◌+◌, ◌<◌, List, [], ◌∷◌, ◌++◌, length, drop, get_or, Option, Some, None, option_map, refl, sym, ap, ◌∙◌, append_assoc}
use Rattle.toml.specs.Data.{Data}
use Rattle.toml.specs.View.{view, items_view}
use Rattle.toml.specs.declared.value.Value.{Value}
use Rattle.toml.proofs.Views.{items_view-drop}
use Rattle.guid_config.specs.Shape.{each}
use Rattle.guid_config.specs.Values.{◌>>=◌}

mapped_on : {A B : Type 0} (x : A) (f g : List A → B) (rest : Option (List A)) → ((xs : List A) → f (x ∷ xs) ≡ g xs)
    → option_map f (rest >>= λ xs. Some (x ∷ xs)) ≡ option_map g rest
mapped_on x f g None same = refl
mapped_on x f g (Some xs) same = ap Some (same xs)

-- an item that is read goes before those behind it
pub item_read : {A B : Type 0} (read : Data → Option A) (vs : List Value) (i : ℕ) (d : Value) (x : A) (f g : List A → B) → i < length vs
    → read (view (get_or vs i d)) ≡ Some x → ((xs : List A) → f (x ∷ xs) ≡ g xs)
    → option_map f (each read (items_view (drop i vs))) ≡ option_map g (each read (items_view (drop (i + 1) vs)))
item_read read vs i d x f g within found same =
    ap (λ ds. option_map f (each read ds)) (items_view-drop vs i d within)
    ∙ ap (λ o. option_map f (o >>= λ y. each read (items_view (drop (i + 1) vs)) >>= λ ys. Some (y ∷ ys))) found
    ∙ mapped_on x f g (each read (items_view (drop (i + 1) vs))) same

-- one more goes behind the list that was read so far
pub goes_behind : {A : Type 0} (done : List A) (x : A) (xs : List A) → done ++ (x ∷ xs) ≡ (done ++ x ∷ []) ++ xs
goes_behind done x xs = sym (append_assoc done (x ∷ []) xs)
