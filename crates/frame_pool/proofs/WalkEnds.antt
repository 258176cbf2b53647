-- Where the walks begin and end: what is left of numbers and of a `&` to the heap, which is nothing, the token
-- of a lifetime, and a number that is passed on.
use Rattle.frame_pool.proofs.WalkSteps.{ℕ, ◌^◌, ◌<◌, List, [], ◌∷◌, refl, ftrue, flft, w64, ‵, ◌⊛◌, ◌$◌, move, join, usize, u32, yes, uint_vals, uint_Makes, plain, nothing, owned, stay_dropped, Goes-dropped}
use seplogic.Ra.Ura.{Ura}
use base.Fml.{Lft, Share}
use types.Logic.{Logic}
use types.Kit.{Goal, Item, Step, step}
use denote.Builtin.{RefOf}
use denote.Signature.{Slot}
use denote.Triple.Walked.{Goes}
use Rattle.std_heap.specs.contracts.Global.{the_row as Heap}

-- a `&` to the heap, at the one lifetime
abbrev pub heap_slot : Slot 1
heap_slot = RefOf (0 ∷ []) tt (plain (λ _. Heap)) (λ _. tt)

abbrev pub index_slot : Slot 1
index_slot = plain (λ _. usize)

abbrev pub word_slot : Slot 1
word_slot = plain (λ _. u32)

module _ {M : Type 1} {𝓤 : Ura M} (𝓛 : Logic 𝓤) where
  pub index_goes : Goes 𝓛 1 index_slot yes (stay_dropped index_slot yes)
  index_goes = Goes-dropped 𝓛 1 index_slot yes (λ _ _ _. refl)

  pub word_goes : Goes 𝓛 1 word_slot yes (stay_dropped word_slot yes)
  word_goes = Goes-dropped 𝓛 1 word_slot yes (λ _ _ _. refl)

  pub heap_goes : Goes 𝓛 1 heap_slot yes (stay_dropped heap_slot yes)
  heap_goes = Goes-dropped 𝓛 1 heap_slot yes (λ _ _ _. refl)

module _ {M : Type 1} {𝓤 : Ura M} {𝓛 : Logic 𝓤} {K : Type 0} {Γ : List (Item 𝓤)} {G : Goal 𝓤 𝓛.H} where
  pub two_gone : K → Step K 𝓛 ((‵ ftrue ⊛ (‵ ftrue ⊛ ‵ ftrue)) ∷ Γ) G Γ G
  two_gone t = step (λ s. nothing t $ nothing t $ join t $ nothing t $ join t $ s)

  pub one_more_gone : K → {i : Item 𝓤} → Step K 𝓛 ((‵ ftrue ⊛ i) ∷ Γ) G (i ∷ Γ) G
  one_more_gone t = step (λ s. nothing t $ join t $ s)

  -- a token is all the tokens there are
  pub only_token : K → {κ : Lft} {q : Share} → Step K 𝓛 ((‵ (flft κ q) ⊛ ‵ ftrue) ∷ Γ) G (‵ (flft κ q) ∷ Γ) G
  only_token t = step (λ s. nothing t $ move t (1 ∷ 0 ∷ []) $ join t $ s)

  pub number_passed : K → {i : Item 𝓤} (n : ℕ) → n < 2 ^ 64 → Step K 𝓛 ((‵ (usize.own_val n (uint_vals w64 n)) ⊛ i) ∷ Γ) G (i ∷ Γ) G
  number_passed t n fits = step (λ s. owned t usize _ (uint_Makes 𝓛 w64) n _ (refl, fits) $ join t $ s)
