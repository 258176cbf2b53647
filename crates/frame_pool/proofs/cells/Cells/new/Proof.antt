-- A block is asked for; where there is one, it is a row of blanks.
use native.Mathlib.Nat.{suc-ne-zero}
use lib.ListN.{length-replicate}
use contract.Monad.{fact_i}
use lib.Dec.{T}
use mir.Val.{has_ty, WT, vstruct, vcons, vnil}
use denote.Memory.{lone}
use denote.RattleType.{RattleType}
use prog.Capped.{capped_is}
use types.Match.{vrt, in_variant, by_variants, live}
use types.Part.{agg}
use types.ByLocal.{get_tag}
use denote.Laws.{Is}
use denote.Ref.{ShrRef, shr_vals, shr_Tells}
use denote.Struct.Laws.{RawPtr-plain}
use denote.Struct.Owning.{shape}
use denote.Struct.Struct.{Struct, Struct-Makes}
use Rattle.core.specs.Allocator.{HasLayout, block_if_ok}
use Rattle.core.specs.contracts.alloc.AllocError as Refusal
use Rattle.core.specs.contracts.result.Result as Results
use Rattle.core.specs.declared.alloc.AllocError.{AllocError}
use Rattle.std.specs.Prelude.{Result, Ok, Err}
use Rattle.std_alloc.proofs.ResultValues.{ok_of, err_of}
use Rattle.std_heap.specs.contracts.Global.{the_row as Heap}
use Rattle.std_heap.specs.contracts.GlobalAllocator.allocate as g
use Rattle.std_heap.proofs.GlobalAllocator.allocate.Met.{met}
use Rattle.libc.specs.Heap.{chunk}
use Rattle.frame_pool.proofs.WalkSteps.{ℕ, ◌*◌, ◌^◌, ◌<◌, [], ◌∷◌, replicate, None, refl, sym, arith, lit<, full_share, ftrue, flft, id⊢, w32, w64, ty_int, ty_array, named, Val, vptr, fact, tables, ‵, raw, ◌⊛◌, some, later, at_ret, ◌$◌, ◌∵◌, !, qed, done, move, keep, drop, use0, use1, split, join, fjoin, fjoin3, pick, await, rewrite, suffices, enter, of_opd, lit, bin, stop, fld, first, exec, returns, and_then, no_more, alloc_all, pass_all, free_all, look_at, get, get_in, sets, sets_last, lands_as, env, whole, usize, yes, uint_vals, uint_Tells, Ptr, block_ptr, nothing, owned, heard, calls_at, triple_of, lasts, framed, Stays, walk_of, says, stay_dropped, ends_at, proved}
use Rattle.frame_pool.proofs.WalkEnds.{heap_goes, index_goes, two_gone, only_token, number_passed}
use Rattle.frame_pool.proofs.WordRows.{none_written, blanks_of_room}
use Rattle.frame_pool.proofs.HeapAnswers.{Answer, granted, refused, granted_typed, refused_typed, by_answer, an_error}
use Rattle.frame_pool.specs.Cells.{written_at, blank_at, row, freed_by}
use Rattle.frame_pool.specs.contracts.cells.Cells.new as f
use Rattle.frame_pool.specs.contracts.cells.Cells as C
use Rattle.frame_pool.specs.declared.cells.Cells.{Cells}
use Rattle.frame_pool.proofs.cells.Cells.new.Statement.{statement}
use Rattle.frame_pool.proofs.cells.Cells.new.Code as code

-- the cells at a place, and what the function answers: those, or an error
abbrev cells_at : ℕ → ℕ → Val
cells_at b o = vstruct (vcons (vptr b o) vnil)

abbrev Made : RattleType
Made = Results.the_row C.the_row Refusal.the_row

made_typed : (b o : ℕ) → T (has_ty (lone Made.mir) (granted (cells_at b o))) × WT (granted (cells_at b o))
made_typed b o = (tt, (record { fits = lit< tt }, ((tt, tt), tt)))

unmade_typed : T (has_ty (lone Made.mir) refused) × WT refused
unmade_typed = (tt, (record { fits = lit< tt }, (tt, tt)))

abbrev stayed : Stays f.ended.signature.params f.ended.kept
stayed = (stay_dropped _ yes, (stay_dropped _ yes, tt))

pub new_spec : {M : Type 1} → statement M
new_spec {M} 𝓤 𝓛 𝓜 𝓡 wired =
    let c = f.clauses 𝓛 𝓜.mem 𝓡.returns in let W = walk_of 𝓛 f.ended stayed c in let 𝓣 = tables 𝓤 𝓛.H 𝓜 𝓡 𝓡.env in
    proved 𝓛 f.ended stayed c 𝓜 𝓡
    (heap_goes 𝓛, (index_goes 𝓛, tt))
    f.Key.name code.function (code.unfolded 𝓤 𝓛.H 𝓜 𝓡 wired)
    (λ κs. (shr_vals, (uint_vals w64, tt))) (λ κs. (shr_Tells (named 0) κs.0 Heap, (uint_Tells w64, tt))) (λ κs qs bounds a _ are.
    let κ = κs.0 in let q = qs.0 in let count : ℕ = a.1.0 in let size : ℕ = count * 4 in let Block = ty_array (ty_int w32) count in
    let y : W.Ghost = ((κs, qs, bounds, a, (shr_vals a.0, (uint_vals w64 count, tt))), tt) in
    let G = triple_of 𝓛 g.signature (g.spec 𝓛 𝓜.mem 𝓡.returns) in
    let z : G.Ghost = ((κs, qs, tt, (a.0, (size, (4, tt))), (shr_vals a.0, (uint_vals w64 size, (uint_vals w64 4, tt)))), Block) in
    qed 𝓛 (((‵ (flft κ q) ⊛ ‵ ftrue) ⊛ ‵ ((ShrRef (named 0) κ Heap).own_val a.0 (shr_vals a.0)) ⊛ ‵ (usize.own_val count (uint_vals w64 count)) ⊛ ‵ ftrue) ∷ raw (fact 𝓤 (count * 4 < 2 ^ 63)) ∷ []) ∵
    move ! (1 ∷ []) $ heard ! _ (λ small.
    let fits : size < 2 ^ 64 = omega (arith, small) in
    split ! $ split ! $ move ! (2 ∷ []) $ split ! $ keep ! (0 ∷ 2 ∷ []) $
    enter ! _ _ _ _ _ $ alloc_all ! (λ l. pass_all ! refl ((tt, tt), ((tt, record { fits = are.1.0.1 }), tt)) $
    -- [a `&` to the heap; the token]. What the call asks for is put together from its end
    use0 𝓛 (raw (fact 𝓤 (HasLayout Block size 4))) (fact_i 𝓤 _ _ (capped_is size fits, refl)) $
    nothing ! $ number_passed ! 4 (lit< tt) $ number_passed ! size fits $
    move ! (2 ∷ 0 ∷ []) $ join ! $ move ! (2 ∷ []) $ only_token ! $ join ! $ join ! $ use1 𝓛 (raw (G.pre z)) (id⊢ 𝓤 _) $
    sets ! (bin ! (get ! refl) (lit ! tt) (record { fits = fits })) refl (tt, record { fits = fits }) $
    calls_at ! (framed 𝓤 𝓛.H 𝓜 𝓣) G (met 𝓤 𝓛 𝓜 𝓡 (code.calls-std_heap::GlobalAllocator::allocate 𝓡.env wired)) z
    (and_then ! (get ! refl) (and_then ! (get ! refl) (and_then ! (lit ! tt) (no_more !)))) (λ v.
    use1 𝓛 (later (some (λ (r : Result Ptr AllocError). ((‵ (flft κ q) ⊛ ‵ ftrue) ⊛ ‵ (Answer.own_val r (v ∷ []))) ⊛
    some (λ (ends : Unit {0} × (Unit {0} × (Unit {0} × Unit {0}))). ‵ (lasts g.ended z.0.0 z.0.3 ends) ⊛ ‵ (block_if_ok chunk Block r))))) (id⊢ 𝓤 _) $
    await ! tt $ pick ! (λ r. split ! $ split ! $ split ! $ move ! (3 ∷ []) $ pick ! (λ ends. split ! $ drop ! $ move ! (3 ∷ 0 ∷ []) $
    -- [the answer; its block; the token; nothing]
    by_answer ! chunk Block r v (λ b o e.
    lands_as ! e refl (granted_typed b o) $
    first ! $ by_variants ! 12 (whole !) (get_tag ! (vrt ! refl (fld ! refl (stop !))) (whole !)) tt (
      (λ _.
          sets ! (of_opd ! (get_in ! (vrt ! refl (fld ! refl (stop !))) (in_variant ! 0 0 refl refl (whole !)))) refl (tt, tt) $ sets ! (of_opd ! (get ! refl)) refl (tt, tt) $
          sets ! (agg ! (and_then ! (get ! refl) (no_more !))) refl (tt, (tt, tt)) $
          sets_last ! (agg ! (and_then ! (lit ! tt) (and_then ! (get ! refl) (no_more !)))) refl (made_typed b o) $
          exec ! 𝓣.C 𝓣.Λ (env code.Mir.locals l) code.Mir.t-4 (at_ret _ (W.post y)) $
          sets ! (of_opd ! (get ! refl)) refl (made_typed b o) $ returns ! (look_at ! 0 refl) $ free_all ! refl $
          let made : Cells = record { start = block_ptr b o; words = replicate count None } in let val = cells_at b o in
          suffices ! _ (ends_at 𝓛 f.ended stayed c y (live 0 (vcons val vnil)) (Ok made) (tt, (tt, tt)) (tt, (tt, tt))) $ says ! refl $
          use1 𝓛 (‵ (row (blank_at b) o (replicate count None))) (blanks_of_room 𝓛 b count o) $ move ! (1 ∷ []) $
          rewrite ! 0 (λ (n : ℕ). ‵ (freed_by (block_ptr b o) n)) (sym (length-replicate count None)) refl $
          use0 𝓛 (‵ (row (written_at full_share b) o (replicate count None))) (none_written 𝓛 b full_share count o) $ move ! (0 ∷ 2 ∷ 1 ∷ []) $ fjoin3 ! $
          owned ! (Struct (shape C.the_type)) (Is (Struct (shape C.the_type))) (Struct-Makes 𝓛 (shape C.the_type) (RawPtr-plain, tt)) (block_ptr b o, tt) (val ∷ []) ((vptr b o ∷ [], tt), (refl, (refl, tt))) $ fjoin ! $
          use1 𝓛 (‵ (Made.own_val (Ok made) (live 0 (vcons val vnil) ∷ []))) (ok_of 𝓛 C.the_row Refusal.the_row made val) $
          two_gone ! $ move ! (2 ∷ 3 ∷ []) $ join ! $ done !),
      ((λ other. absurd (suc-ne-zero 0 (sym other))), tt),
    ))
    (λ x e.
    lands_as ! e refl refused_typed $
    first ! $ by_variants ! 10 (whole !) (get_tag ! (vrt ! refl (fld ! refl (stop !))) (whole !)) tt (
      (λ other. absurd (suc-ne-zero 0 other)),
      (
        (λ _.
            sets ! (of_opd ! (get_in ! (vrt ! refl (fld ! refl (stop !))) (in_variant ! 1 0 refl refl (whole !)))) refl (tt, tt) $
            sets_last ! (agg ! (and_then ! (lit ! tt) (and_then ! (get ! refl) (no_more !)))) refl unmade_typed $
            exec ! 𝓣.C 𝓣.Λ (env code.Mir.locals l) code.Mir.t-4 (at_ret _ (W.post y)) $
            sets ! (of_opd ! (get ! refl)) refl unmade_typed $ returns ! (look_at ! 0 refl) $ free_all ! refl $
            suffices ! _ (ends_at 𝓛 f.ended stayed c y refused (Err x) (tt, (tt, tt)) (tt, (tt, tt))) $ says ! tt $
            an_error ! x $ use1 𝓛 (‵ (Made.own_val (Err x) (refused ∷ []))) (err_of 𝓛 C.the_row Refusal.the_row x (vstruct vnil)) $
            two_gone ! $ move ! (2 ∷ 3 ∷ []) $ join ! $ done !),
        tt,
      ),
    ))))))))
