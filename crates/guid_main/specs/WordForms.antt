-- The forms of the words behind the program's name. They are this project's own.
use Rattle.std.specs.Prelude.{◌≡◌, ℕ, ◌≤◌, List, [], ◌∷◌, length, map, codes, string_bytes, String}
use Rattle.std.specs.Global.{Global}
use Rattle.std.specs.Str.Parse.{IsNumeral, digits_value}
use Rattle.guid_main.specs.declared.words.Words.{Words}
use Rattle.guid_main.specs.declared.words.Words.TheVariants as forms

-- the one word replay
abbrev pub IsReplay : List (String Global) → Type 0
IsReplay words = map string_bytes words ≡ codes "replay" ∷ []

-- a number of rounds: one to seven decimal digits, and at most 1000000
pub record IsRounds (text : List ℕ) : Type 0 where
  pub digits : IsNumeral 10 text
  pub few : length text ≤ 7
  pub most : digits_value 10 text ≤ 1000000

-- the word make, and a number of rounds
abbrev pub IsMake : List (String Global) → ℕ → Type 0
IsMake words rounds = (text : List ℕ) × (map string_bytes words ≡ codes "make" ∷ text ∷ []) × IsRounds text × (digits_value 10 text ≡ rounds)

-- the words have this form
abbrev pub HasForm : List (String Global) → Words → Type 0
HasForm words forms.Replay = IsReplay words
HasForm words (forms.Make rounds) = IsMake words rounds

-- the words have none of the forms
abbrev pub HasNoForm : List (String Global) → Type 0
HasNoForm words = (form : Words) → HasForm words form → ⊥
