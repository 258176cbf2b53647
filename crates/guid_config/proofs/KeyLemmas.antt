-- The keys of a table, as its map lists them and as its members have them.
use Rattle.std.proofs.Common.{◌≡◌, ℕ, ◌||◌, List, [], ◌∷◌, map, ◌&&◌, String, Global, string_bytes, Some, refl, ap, ◌∙◌}
use Rattle.std.specs.List.{list_all, list_any}
use Rattle.std.specs.Map.{keys_of}
use Rattle.std.specs.Str.{bytes_eq}
use Rattle.std.specs.Borrow.{Bor}
use Rattle.toml.specs.declared.value.Value.{Value}
use Rattle.toml.specs.Data.{Data, string, integer, float, boolean, datetime, array, table, Members, as_table}
use Rattle.toml.specs.View.{members_view}
use Rattle.guid_config.specs.Values.{keys_among, has_only}

-- a test of what each reference points to
any_behind : (known : List (Bor (List ℕ))) (key : List ℕ) → list_any (λ n. bytes_eq n.now key) known ≡ list_any (λ k. bytes_eq k key) (map (λ n. n.now) known)
any_behind [] key = refl
any_behind (n ∷ known) key = ap (λ rest. bytes_eq n.now key || rest) (any_behind known key)

-- all keys of a map are among these, or not, as those of its members
pub keys_behind : (known : List (Bor (List ℕ))) (entries : List (String Global × Value))
    → list_all (λ k. list_any (λ n. bytes_eq n.now (string_bytes k)) known) (keys_of entries) ≡ keys_among (map (λ n. n.now) known) (members_view entries)
keys_behind known [] = refl
keys_behind known (e ∷ entries) =
    ap (λ b. b && list_all (λ k. list_any (λ n. bytes_eq n.now (string_bytes k)) known) (keys_of entries)) (any_behind known (string_bytes e.0))
    ∙ ap (λ b. list_any (λ k. bytes_eq k (string_bytes e.0)) (map (λ n. n.now) known) && b) (keys_behind known entries)

-- a table has only these keys where its members have
pub keys_of_table : (known : List (List ℕ)) (tree : Data) (members : Members) → Some members ≡ as_table tree → keys_among known members ≡ has_only known tree
keys_of_table known (table m) members is = let same : members ≡ m = cc in ap (keys_among known) same
keys_of_table known (string s) members is = absurd (cc)
keys_of_table known (integer z) members is = absurd (cc)
keys_of_table known (float x) members is = absurd (cc)
keys_of_table known (boolean b) members is = absurd (cc)
keys_of_table known (datetime d) members is = absurd (cc)
keys_of_table known (array ds) members is = absurd (cc)
