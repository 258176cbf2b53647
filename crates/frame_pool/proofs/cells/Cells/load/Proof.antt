-- A word is read: a share of the words is opened beside the pointer, and both are shut again.
use base.Fml.{Fml, Share, fhide}
use base.Share
use base.Share.{halves}
use lib.Seq.{set-get_or}
use denote.Builtin.{RefOf}
use denote.Opens.{Opened-one, Cuts-Halves, unhide, hide, shr_open, shr_Shut}
use denote.Plain.{uint_Makes}
use denote.RawPtr.{RawPtr, ptr_val}
use denote.Ref.{ShrRef, shr_vals, shr_Tells}
use denote.Sharing.{one}
use denote.Steps.{looks, shuts, owned}
use denote.Struct.Laws.{RawPtr-copy}
use types.Run.{look, well_typed}
use types.ByLocal.{sets_last}
use Rattle.frame_pool.proofs.WalkSteps.{ℕ, ◌+◌, ◌*◌, ◌^◌, ◌<◌, List, [], ◌∷◌, length, get_or, set, Option, Some, None, IsSome, refl, sym, ap, ◌∙◌, arith, ftrue, flft, id⊢, w32, w64, ty_ptr, named, Val, vint, fact, tables, ‵, raw, ◌⊛◌, at_ret, ◌$◌, ◌∵◌, !, qed, done, move, keep, drop, use1, use2, split, fsplit, feq_l, feq_i, rewrite, suffices, enter, of_opd, lit, bin, load, stop, fld, first, blocks, exec, returns, alloc_all, pass_all, free_all, look_at, get, through, sets, env, u32, usize, yes, place, place_is, cell_at, uint_vals, uint_Tells, Ptr, in_a_block, plain, heard, Stays, walk_of, says, stay_dropped, Goes-dropped, ends_at, proved}
use Rattle.frame_pool.proofs.WalkEnds.{index_goes, two_gone, only_token}
use Rattle.frame_pool.proofs.WordRows.{without, word_out, word_in, written_Cuts, number_of}
use Rattle.frame_pool.specs.Cells.{row, written_at, written}
use Rattle.frame_pool.specs.contracts.cells.Cells.load as f
use Rattle.frame_pool.specs.contracts.cells.Cells.{the_row as R}
use Rattle.frame_pool.specs.declared.cells.Cells.{Cells}
use Rattle.frame_pool.proofs.cells.Cells.load.Statement.{statement}
use Rattle.frame_pool.proofs.cells.Cells.load.Code as code

abbrev stayed : Stays f.ended.signature.params f.ended.kept
stayed = (stay_dropped _ yes, (stay_dropped _ yes, tt))

pub load_spec : {M : Type 1} → statement M
load_spec {M} 𝓤 𝓛 𝓜 𝓡 wired =
    let c = f.clauses 𝓛 𝓜.mem 𝓡.returns in let W = walk_of 𝓛 f.ended stayed c in let 𝓣 = tables 𝓤 𝓛.H 𝓜 𝓡 𝓡.env in
    proved 𝓛 f.ended stayed c 𝓜 𝓡 (Goes-dropped 𝓛 1 (RefOf (0 ∷ []) tt (plain (λ _. R)) (λ _. tt)) yes (λ κs x w. refl), (index_goes 𝓛, tt))
    f.Key.name code.function (code.unfolded 𝓤 𝓛.H 𝓜 𝓡 wired)
    (λ κs. (shr_vals, (uint_vals w64, tt))) (λ κs. (shr_Tells (named 0) κs.0 R, (uint_Tells w64, tt))) (λ κs qs bounds a _ are.
    let κ = κs.0 in let q : Share = qs.0 in let b = a.0.ref_ptr.0 in let o = a.0.ref_ptr.1 in let h : Cells = a.0.now in
    let i : ℕ = a.1.0 in let ws : List (Option ℕ) = h.words in let vs = shr_vals a.0 in
    let Φ : Share → Fml = λ q'. written q' h.start ws in let read = (RawPtr-copy.copied M 𝓤 𝓛).opens in
    let y : W.Ghost = ((κs, qs, bounds, a, (vs, (uint_vals w64 i, tt))), tt) in
    qed 𝓛 (((‵ (flft κ q) ⊛ ‵ ftrue) ⊛ ‵ ((ShrRef (named 0) κ R).own_val a.0 vs) ⊛ ‵ (usize.own_val i (uint_vals w64 i)) ⊛ ‵ ftrue) ∷ raw (fact 𝓤 (length ws * 4 < 2 ^ 63)) ∷ raw (fact 𝓤 (i < length ws)) ∷ raw (fact 𝓤 (IsSome (get_or ws i None))) ∷ []) ∵
    move ! (1 ∷ []) $ heard ! _ (λ small. move ! (1 ∷ []) $ heard ! _ (λ within. move ! (1 ∷ []) $ heard ! _ (λ filled.
    let offset : i * 4 < 2 ^ 64 = omega (arith, small, within) in let got = number_of (get_or ws i None) filled in let n : ℕ = got.0 in
    split ! $ split ! $ move ! (2 ∷ []) $ split ! $ keep ! (0 ∷ 2 ∷ []) $
    enter ! _ _ _ _ _ $ alloc_all ! (λ l. pass_all ! refl ((tt, tt), ((tt, record { fits = are.1.0.1 }), tt)) $
    fsplit ! $ drop ! $ unhide ! $ fsplit ! $ fsplit ! $ fsplit ! $
    hide ! $ move ! (3 ∷ []) $ use1 𝓛 (‵ (fhide (one Φ κ))) (id⊢ 𝓤 _) $ move ! (4 ∷ []) $
    use1 𝓛 (‵ (flft κ (Share.left q)) ⊛ ‵ (flft κ (Share.right q))) (𝓛.lfts.lft_cut κ q (Share.left q) (Share.right q) (halves q)) $ split ! $ move ! (2 ∷ 0 ∷ []) $
    shr_open ! tt Φ (one Φ) (Opened-one 𝓛 Φ (Cuts-Halves 𝓛 Φ (written_Cuts 𝓛 h.start ws))) (λ s. move ! (1 ∷ []) $ in_a_block ! h.start (λ p. written s p ws) (id⊢ 𝓤 _) (λ b' o' e.
    let Full : ℕ → Option ℕ → Fml = written_at s b' in let k : ℕ = place 4 o' i in
    use1 𝓛 (‵ (Full k (get_or ws i None)) ⊛ ‵ (without Full o' ws i)) (word_out 𝓛 Full ws i o' within) $ split ! $
    rewrite ! 0 (λ (w : Option ℕ). ‵ (Full k w)) got.1 refl $ rewrite ! 0 (λ (m : ℕ). ‵ (Full m (Some n))) (place_is 4 o' i) refl $ well_typed ! (λ good.
    -- [the word; the other words; their way back; half of the token; a `&` to the pointer; ..]
    move ! (4 ∷ 3 ∷ []) $ looks ! tt RawPtr read h.start b (o + 0) (λ t us. move ! (1 ∷ []) $ feq_l ! (λ is.
    let spelled = is ∙ ap (λ (p : Ptr). ptr_val p ∷ []) e in let Cell = λ (us' : List Val). ‵ (cell_at t (ty_ptr ∷ []) us' b (o + 0)) in
    rewrite ! 0 Cell spelled refl $
    -- [the pointer; its way back; the `&` to it; the word; the other words; their way back; ..]
    first ! $ blocks ! $
    sets ! (of_opd ! (load ! (through ! refl (fld ! refl (stop !))) (look ! 0 refl))) refl (tt, tt) $
    sets ! (bin ! (get ! refl) (lit ! tt) (record { fits = offset })) refl (tt, record { fits = offset }) $
    sets ! (bin ! (get ! refl) (get ! refl) tt) refl (tt, tt) $
    sets_last ! (of_opd ! (load ! (through ! refl (stop !)) (look ! 3 refl))) refl good $
    exec ! 𝓣.C 𝓣.Λ (env code.Mir.locals l) code.Mir.t-2 (at_ret _ (W.post y)) $
    sets ! (of_opd ! (get ! refl)) refl good $
    rewrite ! 0 Cell (sym spelled) refl $ feq_i ! (List Val) us (ptr_val h.start ∷ []) is $ move ! (1 ∷ 0 ∷ []) $ shuts ! tt RawPtr t h.start us b (o + 0) $
    -- [half of the token; the `&` to the pointer; the word; the other words; their way back; ..]
    move ! (2 ∷ 3 ∷ []) $ rewrite ! 0 (λ (m : ℕ). ‵ (Full m (Some n))) (sym (place_is 4 o' i)) refl $ rewrite ! 0 (λ (w : Option ℕ). ‵ (Full k w)) (sym got.1) refl $
    use2 𝓛 (‵ (row Full o' (set ws i (get_or ws i None)))) (word_in 𝓛 Full ws i o' (get_or ws i None) within) $
    rewrite ! 0 (λ (zs : List (Option ℕ)). ‵ (row Full o' zs)) (set-get_or ws i None) refl $ rewrite ! 0 (λ (p : Ptr). ‵ (written s p ws)) (sym e) refl $
    move ! (3 ∷ 0 ∷ []) $ shr_Shut ! tt $ use2 𝓛 (‵ (flft κ q)) (𝓛.lfts.lft_glue κ q (Share.left q) (Share.right q) (halves q)) $
    returns ! (look_at ! 0 refl) $ free_all ! refl $ keep ! (0 ∷ []) $
    suffices ! _ (ends_at 𝓛 f.ended stayed c y (vint w32 n) n (tt, (tt, tt)) (tt, (tt, tt))) $ says ! (sym got.1) $
    owned ! u32 _ (uint_Makes 𝓛 w32) n _ (refl, good.1.fits) $ two_gone ! $ move ! (2 ∷ []) $ only_token ! $ done !))))))))))
