-- Words of 32 bits in memory, each of which was written or not yet.
use Rattle.std.specs.Prelude.{ℕ, ◌+◌, List, [], ◌∷◌, map, Option, Some, None}
use base.Fml.{Fml, Share, ftrue, ffalse, fsep, fat, froom}
use mir.Syntax.{w32, ty_int, ty_array}
use mir.Val.{vint}
use denote.RawPtr.{Ptr, block_ptr, null_ptr}
use Rattle.libc.specs.Heap.{chunk}

-- what F says of each of some words, where the first lies at the offset o and each takes four bytes
abbrev pub row : (ℕ → Option ℕ → Fml) → ℕ → List (Option ℕ) → Fml
row F o [] = ftrue
row F o (w ∷ ws) = fsep (F o w) (row F (o + 4) ws)

-- the share q of a word that was written, at the offset o of the block b
abbrev pub written_at : Share → ℕ → ℕ → Option ℕ → Fml
written_at q b o (Some n) = fat q (ty_int w32) b o (vint w32 n)
written_at q b o None = ftrue

-- room for a word that was not written yet
abbrev pub blank_at : ℕ → ℕ → Option ℕ → Fml
blank_at b o (Some n) = ftrue
blank_at b o None = froom (ty_int w32) b o

-- the share q of the words from p on that were written
abbrev pub written : Share → Ptr → List (Option ℕ) → Fml
written q (block_ptr b o) ws = row (written_at q b) o ws
written q null_ptr ws = ffalse

-- room for the others
abbrev pub blank : Ptr → List (Option ℕ) → Fml
blank (block_ptr b o) ws = row (blank_at b) o ws
blank null_ptr ws = ffalse

-- the right to free the block of n words at p
abbrev pub freed_by : Ptr → ℕ → Fml
freed_by p n = chunk (ty_array (ty_int w32) n) p

-- the number that a word is, and 0 where it was not written yet
abbrev pub number : Option ℕ → ℕ
number (Some n) = n
number None = 0

-- the numbers of some words
abbrev pub numbers : List (Option ℕ) → List ℕ
numbers ws = map number ws
