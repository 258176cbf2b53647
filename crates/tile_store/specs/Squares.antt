-- The pixels of a tile, row by row: a colour where something was read.
use Rattle.std.specs.Prelude.{ℕ, suc, ◌/◌, ◌%◌, Bool, ◌&&◌, nat_le, nat_lt, List, [], ◌∷◌, map, replicate, Option, Some, None, is_some, if◌then◌else◌, slice_set}
use Rattle.std.specs.List.{list_any}
use Rattle.desk_laws.specs.declared.limits.TheConstants.{TILE_SIDE}
use Rattle.tile_store.specs.declared.square.TheConstants.{PIXELS}

-- what a word of a tile stands for: a colour, or nothing where it is above ffffff
abbrev pub shown : ℕ → Option ℕ
shown word = if nat_lt word 16777216 then Some word else None

-- the pixels that words stand for
abbrev pub all_shown : List ℕ → List (Option ℕ)
all_shown words = map shown words

-- so many pixels of which nothing was read
unfoldable pub blanks : ℕ → List (Option ℕ)
blanks n = replicate n None

-- the pixels of a tile of which nothing was read
abbrev pub blank : List (Option ℕ)
blank = blanks PIXELS

-- a tile's pixels with these colours in the place of as many, from the one with number k on
abbrev pub coloured_from : ℕ → List ℕ → List (Option ℕ) → List (Option ℕ)
coloured_from k [] pixels = pixels
coloured_from k (colour ∷ colours) pixels = coloured_from (suc k) colours (slice_set pixels k (Some colour))

-- whether some pixel has a colour
abbrev pub has_pixel : List (Option ℕ) → Bool
has_pixel pixels = list_any is_some pixels

-- whether a tile's pixel lies in its first w columns and h rows
abbrev pub is_inside : ℕ → ℕ → ℕ → Bool
is_inside w h k = nat_lt (k % TILE_SIDE) w && nat_lt (k / TILE_SIDE) h

-- a tile's pixels from the one with number k on: those outside the first w columns and h rows are forgotten
abbrev pub cut_from : ℕ → ℕ → ℕ → List (Option ℕ) → List (Option ℕ)
cut_from k w h [] = []
cut_from k w h (pixel ∷ pixels) = (if is_inside w h k then pixel else None) ∷ cut_from (suc k) w h pixels

-- what a cut leaves of the word with number k: it stands for nothing where it lies outside
abbrev pub cut_word : ℕ → ℕ → ℕ → ℕ → ℕ
cut_word k w h word = if is_inside w h k then word else 4278190080

-- the words from the one with number k on: those outside the first w columns and h rows stand for nothing
abbrev pub cut_words : ℕ → ℕ → ℕ → List ℕ → List ℕ
cut_words k w h [] = []
cut_words k w h (word ∷ words) = cut_word k w h word ∷ cut_words (suc k) w h words

-- whether a number lies from one on and below another
abbrev pub is_from : ℕ → ℕ → ℕ → Bool
is_from from end k = nat_le from k && nat_lt k end

-- whether a word is a colour
abbrev pub is_colour : ℕ → Bool
is_colour word = nat_lt word 16777216
