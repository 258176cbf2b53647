-- What a heap answers when it is asked for a block: the block, or that it has none.
use Rattle.std.specs.Prelude.{◌≡◌, ℕ, List, [], ◌∷◌, ◌++◌, Result, Ok, Err}
use mathlib.Core.Path.{refl, ◌∙◌}
use lib.Dec.{T, lit<}
use seplogic.Ra.Ura.{Ura}
use base.Fml.{Fml, froom}
use base.Logic.{id⊢}
use mir.Syntax.{Ty}
use mir.Val.{Val, has_ty, WT, vptr, vstruct, vcons, vnil, of_list}
use types.Logic.{Logic}
use types.Kit.{Goal, Item, Seq, Step, ‵, ◌$◌, drop, rewrite, fsplit}
use types.Match.{live}
use denote.Laws.{Is, shows}
use denote.Memory.{lone}
use denote.RattleType.{RattleType}
use denote.RawPtr.{Ptr, RawPtr, block_ptr, ptr_val, room_for, in_a_block}
use denote.Steps.{only, facts, owned}
use denote.Struct.Laws.{makes}
use Rattle.core.specs.Allocator.{block_if_ok}
use Rattle.core.specs.contracts.alloc.AllocError as Refusal
use Rattle.core.specs.contracts.result.Result as Results
use Rattle.core.specs.declared.alloc.AllocError.{AllocError}
use Rattle.core.proofs.alloc.AllocError.TheLaws.{lowers}

abbrev pub Answer : RattleType
Answer = Results.the_row RawPtr Refusal.the_row

-- how the machine spells an `Ok` of this value, and the one `Err`
abbrev pub granted : Val → Val
granted v = live 0 (vcons v vnil)

abbrev pub refused : Val
refused = live 1 (vcons (vstruct vnil) vnil)

pub granted_typed : (b o : ℕ) → T (has_ty (lone Answer.mir) (granted (vptr b o))) × WT (granted (vptr b o))
granted_typed b o = (tt, (record { fits = lit< tt }, (tt, tt)))

pub refused_typed : T (has_ty (lone Answer.mir) refused) × WT refused
refused_typed = (tt, (record { fits = lit< tt }, (tt, tt)))

pub spells_granted : (p : Ptr) (v : Val) → Is Answer (Ok p) (v ∷ []) → v ≡ granted (ptr_val p)
spells_granted p v (us, (tag, (vss, (fields, (pointer, rest))))) i = only ((tag ∙ (λ j. live 0 (of_list ((fields ∙ (λ k. pointer k ++ [])) j)) ∷ [])) i)

pub spells_refused : (x : AllocError) (v : Val) → Is Answer (Err x) (v ∷ []) → v ≡ refused
spells_refused x v (us, (tag, (vss, (fields, (nothing, rest))))) i = only ((tag ∙ (λ j. live 1 (of_list ((fields ∙ (λ k. lowers.val_is x vss.0 nothing k ++ [])) j)) ∷ [])) i)

module _ {M : Type 1} {𝓤 : Ura M} {𝓛 : Logic 𝓤} {K : Type 0} {Γ : List (Item 𝓤)} {G : Goal 𝓤 𝓛.H} where
  -- the block, at a place that is not null, or nothing
  pub by_answer : K → (holds : Ty → Ptr → Fml) (τ : Ty) (r : Result Ptr AllocError) (v : Val)
      → ((b o : ℕ) → v ≡ granted (vptr b o) → Seq K 𝓛 (‵ (froom τ b o) ∷ ‵ (holds τ (block_ptr b o)) ∷ Γ) G)
      → ((x : AllocError) → v ≡ refused → Seq K 𝓛 Γ G)
      → Seq K 𝓛 (‵ (Answer.own_val r (v ∷ [])) ∷ ‵ (block_if_ok holds τ r) ∷ Γ) G
  by_answer t holds τ (Ok p) v block none =
      facts t Answer (Is Answer) (shows 𝓛 Answer) (Ok p) (v ∷ []) (λ is. fsplit t $ in_a_block t p (room_for τ) (id⊢ 𝓤 _) (λ b o e.
      rewrite t 1 (λ (at : Ptr). ‵ (holds τ at)) e refl $ block b o (spells_granted p v is ∙ (λ i. granted (ptr_val (e i))))))
  by_answer t holds τ (Err x) v block none =
      facts t Answer (Is Answer) (shows 𝓛 Answer) (Err x) (v ∷ []) (λ is. drop t $ none x (spells_refused x v is))

  -- an error of its own owns nothing
  pub an_error : K → (x : AllocError) → Step K 𝓛 (‵ ((Refusal.the_row).own_val x (vstruct vnil ∷ [])) ∷ Γ) G Γ G
  an_error t x = owned t Refusal.the_row (Is Refusal.the_row) (makes Refusal.the_type tt 𝓛) x (vstruct vnil ∷ []) (tt, (refl, tt))
