-- A word is stored: its place is taken out of both rows, filled, and put back into them.
use base.Fml.{Fml}
use Rattle.frame_pool.proofs.WalkSteps.{ℕ, ◌*◌, ◌^◌, ◌<◌, List, [], ◌∷◌, length, get_or, set, Option, Some, None, refl, sym, ap, ◌∙◌, arith, length-set, full_share, ftrue, froom, flft, id⊢, w32, w64, ty_int, named, Val, vunit, fact, tables, ‵, raw, ◌⊛◌, at_ret, ◌$◌, ◌∵◌, !, qed, done, move, keep, use1, use2, split, join, fsplit, fsplit3, fjoin, fjoin3, feq_i, rewrite, suffices, frame, group, enter, of_opd, lit, unit_lit, bin, load, init, stop, fld, assigns_last, first, blocks, exec, returns, alloc_all, pass_all, free_all, look_at, get, through, sets, env, whole, sub, look_in, u32, usize, yes, place, place_is, shows, cell_at, uint_vals, uint_Tells, Ptr, in_a_block, MutRef, mut_vals, mut_Tells, plain, nothing, opens, closes, peeks, heard, Stays, walk_of, says, stay_dropped, stay_ref, Goes-ref, ends_at, proved}
use Rattle.frame_pool.proofs.WalkEnds.{index_goes, word_goes, two_gone, only_token}
use Rattle.frame_pool.proofs.WordRows.{without, word_out, word_in, room_of_word}
use Rattle.frame_pool.specs.Cells.{row, written_at, blank_at, written, blank, freed_by}
use Rattle.frame_pool.specs.contracts.cells.Cells.store as f
use Rattle.frame_pool.specs.contracts.cells.Cells.{the_row as R}
use Rattle.frame_pool.specs.declared.cells.Cells.{Cells}
use Rattle.frame_pool.proofs.cells.Cells.store.Statement.{statement}
use Rattle.frame_pool.proofs.cells.Cells.store.Code as code
use Rattle.frame_pool.proofs.cells.Cells.TheLaws.{lowers}

abbrev stayed : Stays f.ended.signature.params f.ended.kept
stayed = (stay_ref (0 ∷ []) tt (plain (λ _. R)), (stay_dropped _ yes, (stay_dropped _ yes, tt)))

pub store_spec : {M : Type 1} → statement M
store_spec 𝓤 𝓛 𝓜 𝓡 wired =
    let c = f.clauses 𝓛 𝓜.mem 𝓡.returns in let W = walk_of 𝓛 f.ended stayed c in let 𝓣 = tables 𝓤 𝓛.H 𝓜 𝓡 𝓡.env in
    proved 𝓛 f.ended stayed c 𝓜 𝓡
    (Goes-ref 𝓛 1 0 tt (plain (λ _. R)), (index_goes 𝓛, (word_goes 𝓛, tt)))
    f.Key.name code.function (code.unfolded 𝓤 𝓛.H 𝓜 𝓡 wired)
    (λ κs. (mut_vals, (uint_vals w64, (uint_vals w32, tt)))) (λ κs. (mut_Tells (named 0) κs.0 R, (uint_Tells w64, (uint_Tells w32, tt)))) (λ κs qs bounds a _ are.
    let b = a.0.ref_ptr.0 in let o = a.0.ref_ptr.1 in let h : Cells = a.0.now in let vs = mut_vals a.0 in
    let i : ℕ = a.1.0 in let word : ℕ = a.1.1.0 in let ws : List (Option ℕ) = h.words in
    let y : W.Ghost = ((κs, qs, bounds, a, (vs, (uint_vals w64 i, (uint_vals w32 word, tt)))), tt) in
    qed 𝓛 (((‵ (flft κs.0 qs.0) ⊛ ‵ ftrue) ⊛ ‵ ((MutRef (named 0) κs.0 R).own_val a.0 vs) ⊛ ‵ (usize.own_val i (uint_vals w64 i)) ⊛ ‵ (u32.own_val word (uint_vals w32 word)) ⊛ ‵ ftrue) ∷ raw (fact 𝓤 (length ws * 4 < 2 ^ 63)) ∷ raw (fact 𝓤 (i < length ws)) ∷ []) ∵
    move ! (1 ∷ []) $ heard ! _ (λ small. move ! (1 ∷ []) $ heard ! _ (λ within.
    let offset : i * 4 < 2 ^ 64 = omega (arith, small, within) in
    split ! $ split ! $ move ! (2 ∷ []) $ split ! $ keep ! (0 ∷ 2 ∷ []) $
    enter ! _ _ _ _ _ $ alloc_all ! (λ l. pass_all ! refl ((tt, tt), ((tt, record { fits = are.1.0.1 }), ((tt, record { fits = are.1.1.0.1 }), tt))) $
    fsplit3 ! $ move ! (1 ∷ 2 ∷ 3 ∷ []) $ opens ! tt R b o (λ us.
    move ! (1 ∷ []) $ peeks ! R _ (shows 𝓛 R) h us (λ is. fsplit ! $ move ! (1 ∷ []) $ fsplit3 ! $
    in_a_block ! h.start (λ p. written full_share p ws) (id⊢ 𝓤 _) (λ b' o' e.
    let spelled = lowers.val_is h us is ∙ ap (λ (p : Ptr). lowers.lowered (record h { start = p }) ∷ []) e in let Pointer = λ (us' : List Val). ‵ (cell_at full_share R.mir us' b o) in
    let Full : ℕ → Option ℕ → Fml = written_at full_share b' in let Bare : ℕ → Option ℕ → Fml = blank_at b' in
    let ws' : List (Option ℕ) = set ws i (Some word) in let k : ℕ = place 4 o' i in
    rewrite ! 1 (λ (p : Ptr). ‵ (blank p ws)) e refl $ rewrite ! 4 Pointer spelled refl $
    use1 𝓛 (‵ (Full k (get_or ws i None)) ⊛ ‵ (without Full o' ws i)) (word_out 𝓛 Full ws i o' within) $ split ! $ move ! (2 ∷ []) $
    use1 𝓛 (‵ (Bare k (get_or ws i None)) ⊛ ‵ (without Bare o' ws i)) (word_out 𝓛 Bare ws i o' within) $ split ! $ move ! (2 ∷ 0 ∷ []) $
    use2 𝓛 (‵ (froom (ty_int w32) b' k)) (room_of_word 𝓛 b' (get_or ws i None) k) $
    rewrite ! 0 (λ (n : ℕ). ‵ (froom (ty_int w32) b' n)) (place_is 4 o' i) refl $
    -- [room for the word; the other blanks; the other words; the right to free; the pointer; the struct's cell; ..]
    first ! $ blocks ! $
    sets ! (of_opd ! (load ! (through ! refl (fld ! refl (stop !))) (look_in ! 5 (sub ! 0 refl (whole !))))) refl (tt, tt) $
    sets ! (bin ! (get ! refl) (lit ! tt) (record { fits = offset })) refl (tt, record { fits = offset }) $
    sets ! (bin ! (get ! refl) (get ! refl) tt) refl (tt, tt) $
    assigns_last ! (of_opd ! (get ! refl)) (through ! refl (stop !)) (init ! 0 refl (tt, record { fits = are.1.1.0.1 })) $
    exec ! 𝓣.C 𝓣.Λ (env code.Mir.locals l) code.Mir.t-2 (at_ret _ (W.post y)) $
    sets ! (of_opd ! (unit_lit !)) refl (tt, tt) $
    -- the word goes back into its row, and nothing into the row of blanks
    rewrite ! 0 (λ (n : ℕ). ‵ (Full n (Some word))) (sym (place_is 4 o' i)) refl $ move ! (0 ∷ 2 ∷ []) $
    use2 𝓛 (‵ (row Full o' ws')) (word_in 𝓛 Full ws i o' (Some word) within) $ nothing ! $ move ! (0 ∷ 2 ∷ []) $
    use2 𝓛 (‵ (row Bare o' ws')) (word_in 𝓛 Bare ws i o' (Some word) within) $ move ! (1 ∷ 0 ∷ 2 ∷ []) $
    rewrite ! 0 (λ (p : Ptr). ‵ (written full_share p ws')) (sym e) refl $ rewrite ! 1 (λ (p : Ptr). ‵ (blank p ws')) (sym e) refl $
    rewrite ! 2 (λ (n : ℕ). ‵ (freed_by h.start n)) (sym (length-set ws i (Some word))) refl $ fjoin3 ! $ move ! (1 ∷ 0 ∷ []) $ fjoin ! $
    rewrite ! 1 Pointer (sym spelled) refl $ move ! (1 ∷ 0 ∷ []) $
    closes ! tt R (record h { words = ws' }) us b o $
    returns ! (look_at ! 0 refl) $ free_all ! refl $
    move ! (3 ∷ []) $ suffices ! _ (ends_at 𝓛 f.ended stayed c y vunit tt (record h { words = ws' }, (tt, (tt, tt))) (tt, (tt, (tt, tt)))) $ says ! refl $
    group ! 3 $ two_gone ! $ move ! (1 ∷ 0 ∷ []) $ join ! $ move ! (1 ∷ []) $ only_token ! $ frame ! $ frame ! $
    feq_i ! _ (vunit ∷ []) _ refl $ done !)))))))
