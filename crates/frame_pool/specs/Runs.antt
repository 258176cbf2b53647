-- Runs of words: loads of one page, word after word.
use Rattle.std.specs.Prelude.{ℕ, suc, zero, ◌+◌, List, [], ◌∷◌, slice_index}
use Rattle.desk_laws.specs.Frames.{PortState, Loads, load, load_first}

-- n loads from a word of a page on, one after the other: the words, and the state after them
abbrev pub run_of : PortState → ℕ → ℕ → ℕ → Loads
run_of port page word zero = record { words = []; port = port }
run_of port page word (suc n) = load_first (load port page word).0 (run_of (load port page word).1 page (word + 1) n)

-- the n words from an index on
abbrev pub words_from : List ℕ → ℕ → ℕ → List ℕ
words_from words i zero = []
words_from words i (suc n) = slice_index words i ∷ words_from words (i + 1) n
