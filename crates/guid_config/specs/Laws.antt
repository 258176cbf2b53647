-- What is known of the answers to a configuration, and of the pairs that it denies.
use Rattle.std.specs.Prelude.{◌≡◌, ℕ, List, [], ◌∷◌, Bool, true, not, ◌&&◌, Result, Err, IsPermutation}
use Rattle.desk_laws.specs.declared.setup.Pair.{Pair}
use Rattle.desk_laws.specs.Rules.{is_before}
use Rattle.guid_config.specs.declared.live.Live.{Live}
use Rattle.guid_config.specs.declared.live.ConfigFault.{ConfigFault}
use Rattle.guid_config.specs.declared.live.ConfigFault.TheVariants.{NoMemory}
use Rattle.guid_config.specs.Pairs.{in_order}
use Rattle.guid_config.specs.Reading.{Reads}

-- bytes have one answer, but for want of memory
abbrev pub AnswersAreOne : Type 0
AnswersAreOne = (bytes : List ℕ) (a b : Result Live ConfigFault) → (a ≡ Err NoMemory → ⊥) → (b ≡ Err NoMemory → ⊥) → Reads bytes a → Reads bytes b → a ≡ b

-- no pair comes before the one in front of it
abbrev pub none_behind : List Pair → Bool
none_behind [] = true
none_behind (a ∷ []) = true
none_behind (a ∷ b ∷ pairs) = not (is_before b a) && none_behind (b ∷ pairs)

-- pairs in order are the same pairs, of which none comes before the one in front of it
abbrev pub PairsAreInOrder : Type 0
PairsAreInOrder = (pairs : List Pair) → IsPermutation pairs (in_order pairs) × (none_behind (in_order pairs) ≡ true)
