-- Rows of words in memory. A word is taken out of its row and put back, a row is cut into two shares and
-- joined, and room for an array is a row of blanks and back.
use Rattle.std.specs.Prelude.{◌≡◌, ℕ, zero, suc, ◌+◌, ◌<◌, List, [], ◌∷◌, length, get_or, set, replicate, Option, Some, None, IsSome}
use mathlib.Core.Path.{refl, sym}
use mathlib.Core.Bool.{true≢false}
use native.Mathlib.Nat.{not-suc-le-zero, le_of_suc-le-suc}
use seplogic.Ra.Ura.{Ura}
use base.Fraction.{full_share}
use base.Fml.{Fml, Share, ftrue, fsep, fat, froom}
use base.Logic.{ent, sep, emp, never, never_e, fst∗}
use mir.Syntax.{w32, ty_int, ty_array}
use mir.Val.{vint}
use types.Logic.{Logic, sem}
use types.Kit.{‵, ◌⊛◌, ◌$◌, ◌∵◌, !, qed, done, by, move, drop, use0, use1, use2, split, fsplit, frame}
use denote.Index.{place}
use denote.RawPtr.{Ptr, block_ptr, null_ptr}
use denote.Opens.{Cuts, Cuts-nothing, Cuts-both}
use Rattle.frame_pool.specs.Cells.{row, written_at, blank_at, written}

-- the row without the word with index i
abbrev pub without : (ℕ → Option ℕ → Fml) → ℕ → List (Option ℕ) → ℕ → Fml
without F o [] i = ftrue
without F o (w ∷ ws) zero = row F (o + 4) ws
without F o (w ∷ ws) (suc i) = fsep (F o w) (without F (o + 4) ws i)

module _ {M : Type 1} {𝓤 : Ura M} (𝓛 : Logic 𝓤) where
  open 𝓛 use {H}

  module _ (F : ℕ → Option ℕ → Fml) where
    pub word_out : (ws : List (Option ℕ)) (i o : ℕ) → i < length ws
        → ent 𝓤 (sem 𝓛 (row F o ws)) (sep 𝓤 (sem 𝓛 (F (place 4 o i) (get_or ws i None))) (sem 𝓛 (without F o ws i)))
    word_out [] i o within = absurd (not-suc-le-zero within)
    word_out (w ∷ ws) zero o within = qed 𝓛 (‵ (row F o (w ∷ ws)) ∷ []) ∵ fsplit ! $ done !
    word_out (w ∷ ws) (suc i) o within =
        qed 𝓛 (‵ (row F o (w ∷ ws)) ∷ []) ∵ fsplit ! $ move ! (1 ∷ []) $
        use1 𝓛 (‵ (F (place 4 (o + 4) i) (get_or ws i None)) ⊛ ‵ (without F (o + 4) ws i)) (word_out ws i (o + 4) (le_of_suc-le-suc within)) $
        split ! $ frame ! $ move ! (1 ∷ 0 ∷ []) $ done !

    pub word_in : (ws : List (Option ℕ)) (i o : ℕ) (y : Option ℕ) → i < length ws
        → ent 𝓤 (sep 𝓤 (sem 𝓛 (F (place 4 o i) y)) (sem 𝓛 (without F o ws i))) (sem 𝓛 (row F o (set ws i y)))
    word_in [] i o y within = absurd (not-suc-le-zero within)
    word_in (w ∷ ws) zero o y within = qed 𝓛 (‵ (F o y) ∷ ‵ (row F (o + 4) ws) ∷ []) ∵ done !
    word_in (w ∷ ws) (suc i) o y within =
        qed 𝓛 (‵ (F (place 4 (o + 4) i) y) ∷ ‵ (without F o (w ∷ ws) (suc i)) ∷ []) ∵ move ! (1 ∷ []) $ fsplit ! $ frame ! $
        move ! (1 ∷ 0 ∷ []) $ by ! (word_in ws i (o + 4) y (le_of_suc-le-suc within))

  pub row_Cuts : (F : Share → ℕ → Option ℕ → Fml) → ((o : ℕ) (w : Option ℕ) → Cuts 𝓛 (λ q. F q o w)) → (ws : List (Option ℕ)) (o : ℕ) → Cuts 𝓛 (λ q. row (F q) o ws)
  row_Cuts F each [] o = Cuts-nothing 𝓛
  row_Cuts F each (w ∷ ws) o = Cuts-both 𝓛 (λ q. F q o w) (λ q. row (F q) (o + 4) ws) (each o w) (row_Cuts F each ws (o + 4))

  module _ (b : ℕ) where
    pub word_Cuts : (o : ℕ) (w : Option ℕ) → Cuts 𝓛 (λ q. written_at q b o w)
    word_Cuts o (Some n) = record {
      cut = λ q q₁ q₂ m. 𝓛.laws.at_split q q₁ q₂ m (ty_int w32) b o (vint w32 n);
      join = λ q q₁ q₂ m. 𝓛.laws.at_join q q₁ q₂ m (ty_int w32) b o (vint w32 n);
    }
    word_Cuts o None = Cuts-nothing 𝓛

    -- of blanks nothing is written
    pub none_written : (q : Share) (n o : ℕ) → ent 𝓤 (emp 𝓤) (sem 𝓛 (row (written_at q b) o (replicate n None)))
    none_written q zero o = qed 𝓛 [] ∵ done !
    none_written q (suc n) o = qed 𝓛 [] ∵ use0 𝓛 (‵ ftrue) (qed 𝓛 [] ∵ done !) $ frame ! $ by ! (none_written q n (o + 4))

    pub blanks_of_room : (n o : ℕ) → ent 𝓤 (H.room (ty_array (ty_int w32) n) b o) (sem 𝓛 (row (blank_at b) o (replicate n None)))
    blanks_of_room zero o = qed 𝓛 (‵ (froom (ty_array (ty_int w32) zero) b o) ∷ []) ∵ drop ! $ done !
    blanks_of_room (suc n) o =
        qed 𝓛 (‵ (froom (ty_array (ty_int w32) (suc n)) b o) ∷ []) ∵
        use1 𝓛 (‵ (froom (ty_int w32) b o) ⊛ ‵ (froom (ty_array (ty_int w32) n) b (o + 4))) (𝓛.laws.room_uncons (ty_int w32) n b o) $
        split ! $ frame ! $ by ! (blanks_of_room n (o + 4))

    -- what lies at a word's place, written or not, is room for a word
    pub room_of_word : (w : Option ℕ) (o : ℕ) → ent 𝓤 (sep 𝓤 (sem 𝓛 (written_at full_share b o w)) (sem 𝓛 (blank_at b o w))) (H.room (ty_int w32) b o)
    room_of_word (Some n) o = qed 𝓛 (‵ (fat full_share (ty_int w32) b o (vint w32 n)) ∷ ‵ ftrue ∷ []) ∵ move ! (1 ∷ []) $ drop ! $ by ! (𝓛.laws.at_room (ty_int w32) b o (vint w32 n))
    room_of_word None o = qed 𝓛 (‵ ftrue ∷ ‵ (froom (ty_int w32) b o) ∷ []) ∵ drop ! $ done !

    pub room_of_words : (ws : List (Option ℕ)) (o : ℕ)
        → ent 𝓤 (sep 𝓤 (sem 𝓛 (row (written_at full_share b) o ws)) (sem 𝓛 (row (blank_at b) o ws))) (H.room (ty_array (ty_int w32) (length ws)) b o)
    room_of_words [] o = qed 𝓛 (‵ ftrue ∷ ‵ ftrue ∷ []) ∵ drop ! $ drop ! $ by ! (𝓛.laws.room_nil (ty_int w32) b o)
    room_of_words (w ∷ ws) o =
        qed 𝓛 (‵ (row (written_at full_share b) o (w ∷ ws)) ∷ ‵ (row (blank_at b) o (w ∷ ws)) ∷ []) ∵ fsplit ! $ move ! (2 ∷ []) $ fsplit ! $
        move ! (2 ∷ 0 ∷ []) $ use2 𝓛 (‵ (froom (ty_int w32) b o)) (room_of_word w o) $
        move ! (2 ∷ 1 ∷ []) $ use2 𝓛 (‵ (froom (ty_array (ty_int w32) (length ws)) b (o + 4))) (room_of_words ws (o + 4)) $
        move ! (1 ∷ 0 ∷ []) $ by ! (𝓛.laws.room_cons (ty_int w32) (length ws) b o)

  -- the words that were written are cut and joined along any sum of shares
  pub written_Cuts : (p : Ptr) (ws : List (Option ℕ)) → Cuts 𝓛 (λ q. written q p ws)
  written_Cuts (block_ptr b o) ws = row_Cuts (λ q. written_at q b) (word_Cuts b) ws o
  written_Cuts null_ptr ws = record { cut = λ q q₁ q₂ m. never_e 𝓤 (sep 𝓤 (never 𝓤) (never 𝓤)); join = λ q q₁ q₂ m. fst∗ 𝓤 (never 𝓤) (never 𝓤) }

-- a word that was written is some number
pub number_of : (w : Option ℕ) → IsSome w → (n : ℕ) × (w ≡ Some n)
number_of (Some n) is = (n, refl)
number_of None is = absurd (true≢false (sym is))
