-- Codes that are held.
use Rattle.std.specs.Prelude.{◌≡◌, ◌<◌, ℕ, Bool, true, ◌&&◌, not, List, [], ◌∷◌}
use Rattle.std.specs.List.{All}
use Rattle.desk_laws.specs.Events.{is_among}

-- no code stands in the list twice
abbrev pub are_once : List ℕ → Bool
are_once [] = true
are_once (code ∷ codes) = not (is_among code codes) && are_once codes

-- codes of eight bits, none of them twice
pub record AreCodes (codes : List ℕ) : Type 0 where
  pub once : are_once codes ≡ true
  pub small : All (λ code. code < 256) codes
