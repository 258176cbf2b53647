-- The block is freed: the words and the blanks are room for the whole block, which goes back to the heap.
use base.Logic.{emp}
use contract.Monad.{fact_i}
use lib.Dec.{T}
use mir.Syntax.{ty_unit}
use mir.Val.{has_ty, WT}
use prog.Capped.{capped_is}
use denote.RawPtr.{room_for, RawPtr, rawptr_vals, rawptr_Makes, rawptr_Lawful}
use denote.Ref.{ShrRef, shr_vals, shr_Tells}
use denote.Steps.{owned, only}
use denote.Triple.Call.{calls_at_last}
use types.ByLocal.{get_in, lands_last}
use Rattle.core.specs.Allocator.{HasLayout}
use Rattle.std_heap.specs.contracts.Global.{the_row as Heap}
use Rattle.std_heap.specs.contracts.GlobalAllocator.deallocate as g
use Rattle.std_heap.proofs.GlobalAllocator.deallocate.Met.{met}
use Rattle.frame_pool.proofs.WalkSteps.{◌≡◌, ℕ, ◌*◌, ◌^◌, ◌<◌, List, [], ◌∷◌, length, Option, refl, sym, ap, subst, arith, lit<, full_share, ftrue, froom, flft, id⊢, w32, w64, ty_int, ty_array, named, Val, vunit, fact, tables, ‵, raw, ◌⊛◌, some, later, at_ret, ◌$◌, ◌∵◌, !, qed, done, move, keep, drop, use0, use1, use2, split, join, fsplit, fsplit3, fjoin, feq_l, feq_i, pick, await, rewrite, suffices, group, enter, of_opd, lit, unit_lit, bin, stop, fld, first, blocks, exec, returns, and_then, no_more, alloc_all, pass_all, free_all, look_at, get, sets, env, whole, sub, usize, unit, yes, uint_vals, uint_Tells, Ptr, in_a_block, plain, nothing, heard, triple_of, lasts, framed, Stays, walk_of, stay_dropped, Goes-dropped, ends_at, proved}
use Rattle.frame_pool.proofs.WalkEnds.{heap_goes, index_goes, two_gone, one_more_gone, only_token, number_passed}
use Rattle.frame_pool.proofs.WordRows.{room_of_words}
use Rattle.frame_pool.specs.Cells.{written, blank, freed_by}
use Rattle.frame_pool.specs.contracts.cells.Cells.free as f
use Rattle.frame_pool.specs.contracts.cells.Cells.{the_row as R}
use Rattle.frame_pool.specs.declared.cells.Cells.{Cells}
use Rattle.frame_pool.proofs.cells.Cells.free.Statement.{statement}
use Rattle.frame_pool.proofs.cells.Cells.free.Code as code
use Rattle.frame_pool.proofs.cells.Cells.TheLaws.{lowers, the_field_laws}

abbrev stayed : Stays f.ended.signature.params f.ended.kept
stayed = (stay_dropped _ yes, (stay_dropped _ yes, (stay_dropped _ yes, tt)))

pub free_spec : {M : Type 1} → statement M
free_spec {M} 𝓤 𝓛 𝓜 𝓡 wired =
    let c = f.clauses 𝓛 𝓜.mem 𝓡.returns in let W = walk_of 𝓛 f.ended stayed c in let 𝓣 = tables 𝓤 𝓛.H 𝓜 𝓡 𝓡.env in let cells_go = Goes-dropped 𝓛 1 (plain (λ _. R)) yes (λ κs x w. refl) in
    proved 𝓛 f.ended stayed c 𝓜 𝓡
    (cells_go, (heap_goes 𝓛, (index_goes 𝓛, tt)))
    f.Key.name code.function (code.unfolded 𝓤 𝓛.H 𝓜 𝓡 wired)
    (λ κs. ((λ (d : Cells). lowers.lowered d ∷ []), (shr_vals, (uint_vals w64, tt)))) (λ κs. (lowers.val_is, (shr_Tells (named 0) κs.0 Heap, (uint_Tells w64, tt)))) (λ κs qs bounds a _ are.
    let κ = κs.0 in let q = qs.0 in let h : Cells = a.0 in let count : ℕ = a.1.1.0 in let ws : List (Option ℕ) = h.words in
    let size : ℕ = count * 4 in let Block = ty_array (ty_int w32) count in
    let y : W.Ghost = ((κs, qs, bounds, a, (lowers.lowered h ∷ [], (shr_vals a.1.0, (uint_vals w64 count, tt)))), tt) in
    let G = triple_of 𝓛 g.signature (g.spec 𝓛 𝓜.mem 𝓡.returns) in
    let z : G.Ghost = ((κs, qs, tt, (a.1.0, (h.start, (size, (4, tt)))), (shr_vals a.1.0, (rawptr_vals h.start, (uint_vals w64 size, (uint_vals w64 4, tt))))), Block) in
    qed 𝓛 (((‵ (flft κ q) ⊛ ‵ ftrue) ⊛ ‵ (R.own_val h (lowers.lowered h ∷ [])) ⊛ ‵ ((ShrRef (named 0) κ Heap).own_val a.1.0 (shr_vals a.1.0)) ⊛ ‵ (usize.own_val count (uint_vals w64 count)) ⊛ ‵ ftrue) ∷ raw (fact 𝓤 (count * 4 < 2 ^ 63)) ∷ raw (fact 𝓤 (count ≡ length ws)) ∷ []) ∵
    move ! (1 ∷ []) $ heard ! _ (λ small. move ! (1 ∷ []) $ heard ! _ (λ whole_block.
    let fits : size < 2 ^ 64 = omega (arith, small) in
    split ! $ split ! $ move ! (2 ∷ []) $ split ! $ move ! (1 ∷ []) $ split ! $ keep ! (0 ∷ 2 ∷ 3 ∷ []) $
    -- [a `&` to the heap; the cells; the token]
    let wt = (rawptr_Lawful 𝓛).typed h.start _ refl in
    enter ! _ _ _ _ _ $ alloc_all ! (λ l. pass_all ! refl (((the_field_laws.lawful 𝓛).typed h _ are.0).0, ((tt, tt), ((tt, record { fits = are.1.1.0.1 }), tt))) $
    move ! (1 ∷ []) $ fsplit ! $ drop ! $ fsplit3 ! $ in_a_block ! h.start (λ p. written full_share p ws) (id⊢ 𝓤 _) (λ b' o' e. let Room = λ (n : ℕ). ‵ (froom (ty_array (ty_int w32) n) b' o') in
    rewrite ! 1 (λ (p : Ptr). ‵ (blank p ws)) e refl $ use2 𝓛 (Room (length ws)) (room_of_words 𝓛 b' ws o') $
    rewrite ! 0 Room (sym whole_block) refl $ rewrite ! 0 (λ (p : Ptr). ‵ (room_for Block p)) (sym e) refl $
    rewrite ! 1 (λ (n : ℕ). ‵ (freed_by h.start n)) (sym whole_block) refl $ fjoin ! $
    -- [the block; a `&` to the heap; the token]. What the call asks for is put together from its end
    use0 𝓛 (raw (fact 𝓤 (HasLayout Block size 4))) (fact_i 𝓤 _ _ (capped_is size fits, refl)) $ join ! $
    nothing ! $ number_passed ! 4 (lit< tt) $ number_passed ! size fits $
    owned ! RawPtr _ (rawptr_Makes 𝓛) h.start _ refl $ join ! $ move ! (2 ∷ 0 ∷ []) $ join ! $ move ! (2 ∷ []) $ only_token ! $ join ! $ join ! $
    use1 𝓛 (raw (G.pre z)) (id⊢ 𝓤 _) $
    sets ! (of_opd ! (get_in ! (fld ! refl (stop !)) (sub ! 0 refl (whole !)))) refl wt.0 $
    first ! $ blocks ! $ sets ! (of_opd ! (get ! refl)) refl wt.0 $
    sets ! (bin ! (get ! refl) (lit ! tt) (record { fits = fits })) refl (tt, record { fits = fits }) $
    calls_at_last ! (framed 𝓤 𝓛.H 𝓜 𝓣) G (met 𝓤 𝓛 𝓜 𝓡 (code.calls-std_heap::GlobalAllocator::deallocate 𝓡.env wired)) z
    (and_then ! (get ! refl) (and_then ! (get ! refl) (and_then ! (get ! refl) (and_then ! (lit ! tt) (no_more !))))) (λ v.
    use1 𝓛 (later (some (λ (r : Unit {0}). ((‵ (flft κ q) ⊛ ‵ ftrue) ⊛ ‵ (unit.own_val r (v ∷ []))) ⊛
    some (λ (ends : Unit {0} × (Unit {0} × (Unit {0} × (Unit {0} × Unit {0})))). ‵ (lasts g.ended z.0.0 z.0.3 ends) ⊛ raw (emp 𝓤))))) (id⊢ 𝓤 _) $
    await ! tt $ pick ! (λ r. split ! $ split ! $ split ! $ move ! (2 ∷ []) $ feq_l ! (λ is_unit.
    lands_last ! refl (subst (λ (u : Val). T (has_ty ty_unit u) × WT u) (sym (ap only is_unit)) (tt, tt)) $
    exec ! 𝓣.C 𝓣.Λ (env code.Mir.locals l) code.Mir.t-3 (at_ret _ (W.post y)) $
    sets ! (of_opd ! (unit_lit !)) refl (tt, tt) $ returns ! (look_at ! 0 refl) $ free_all ! refl $ keep ! (0 ∷ []) $
    suffices ! _ (ends_at 𝓛 f.ended stayed c y vunit tt (tt, (tt, (tt, tt))) (tt, (tt, (tt, tt)))) $
    nothing ! $ feq_i ! _ (vunit ∷ []) _ refl $ two_gone ! $ one_more_gone ! $
    move ! (3 ∷ []) $ only_token ! $ group ! 3 $ done !))))))))
