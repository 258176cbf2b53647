-- What is done and told where a window is mapped, asks for a place, or gets flags.
use Rattle.std.proofs.Common.{◌≡◌, ℕ, ℤ, Bool, true, false, cond, List, [], ◌∷◌, Some, refl, sym, ap, ◌∙◌, subst}
use Rattle.std.specs.Prelude.{if◌then◌else◌}
use Rattle.gui_num.specs.declared.Rect.{Rect}
use Rattle.desk_laws.specs.Sizes.{Sizes}
use Rattle.desk_laws.specs.Rows.{Row, row_with, placed_at}
use Rattle.desk_laws.specs.Outputs.{output_of}
use Rattle.desk_laws.specs.Override.{effective, taken_besides}
use Rattle.desk_laws.specs.Effects.{configured_row, flags_after, goes_full, mapped_row, same_rect, tells_move, tells_place, whole_output}
use Rattle.desk_laws.specs.Scene.{Post, replies}
use Rattle.desk_laws.proofs.CheckLemmas.{row_with-window}
use Rattle.io_ports.specs.Posts.{Leads}
use Rattle.redirect_limits.specs.declared.Placed as limits
use Rattle.redirect_limits.specs.Limits.{placed_of}
use Rattle.guest_session.specs.declared.edit.Edit.TheVariants as edit
use Rattle.guest_session.specs.declared.rows.Standing.{Standing}
use Rattle.guest_session.specs.RowsView.{RowsView, with_row}
use Rattle.guest_session.specs.Edits.{row_edited, moved_to}
use Rattle.guest_session.specs.Placing.{configured_to, flagged_row, standing_of, tells_full, tells_row}
use Rattle.guest_session.specs.Obeyed.{AnsweredFor}
use Rattle.guest_session.proofs.PlaceLemmas.{configured-is, mapped-is, rect-is}

-- the standing of a window's row
same-some : (a b : Standing) → Some a ≡ Some b → a ≡ b
same-some a b e = cc

module _ {O : Type 0} (takes : O → Post → O → Type 0) (out out' : O) (old new : RowsView) (sizes : Sizes) (window guest : ℕ) (standing : Standing)
    (is : (row : Row) → row_with window old.rows ≡ Some row → Some standing ≡ Some (standing_of row)) (same : guest ≡ new.guest) where
  -- what was told the guest of the changed rows was told the guest
  told : (row : Row) (a b : List (List ℕ)) → new ≡ with_row row old → a ≡ b → Leads takes out (replies guest a) out' → Leads takes out (replies old.guest b) out'
  told row a b rows e leads =
      let P : ℕ → Type 0 = λ n. Leads takes out (replies n b) out' in
      let Q : List (List ℕ) → Type 0 = λ answers. Leads takes out (replies guest answers) out' in
      subst P (same ∙ ap (λ (v : RowsView). v.guest) rows) (subst Q e leads)

  pub mapped-answered : (asked : Bool) (transient : ℕ) (put : limits.Placed) (x y : ℤ) → x ≡ put.rect.x → y ≡ put.rect.y
      → placed_of put ≡ effective sizes asked standing.place (taken_besides sizes.border window old.rows)
      → put.rect.w ≡ standing.place.w → put.rect.h ≡ standing.place.h
      → ((row : Row) → row_with window old.rows ≡ Some row → new ≡ with_row (row_edited (edit.Map asked transient x y put.over) row) old)
      → Leads takes out (replies guest (if same_rect standing.place put.rect then [] else tells_place window put.rect true ∷ [])) out'
      → AnsweredFor takes out out' old new window (mapped_row sizes old.rows asked transient) (λ row. tells_move row (mapped_row sizes old.rows asked transient row))
  mapped-answered asked transient put x y ex ey rule wide high edited leads = λ row found.
      let here : standing.place ≡ row.place = ap (λ (s : Standing). s.place) (same-some standing (standing_of row) (is row found)) in
      let named : row.window ≡ window = row_with-window window old.rows row found in
      let m : Row = mapped_row sizes old.rows asked transient row in
      let e : row_edited (edit.Map asked transient put.rect.x put.rect.y put.over) row ≡ m =
      mapped-is sizes old.rows asked transient window row standing.place put named here rule wide high in
      let rows : new ≡ with_row m old =
      edited row found
      ∙ ap (λ n. with_row (row_edited (edit.Map asked transient n y put.over) row) old) ex
      ∙ ap (λ n. with_row (row_edited (edit.Map asked transient put.rect.x n put.over) row) old) ey
      ∙ ap (λ r. with_row r old) e in
      let place : put.rect ≡ m.place =
      sym (ap (moved_to put.rect.x put.rect.y) (sym here) ∙ rect-is put.rect standing.place wide high) ∙ ap (λ (r : Row). r.place) e in
      record {
        rows = rows;
        told = told m _ (tells_move row m) rows
            (ap (λ p. cond (same_rect p put.rect) [] (tells_place window put.rect true ∷ [])) here
            ∙ ap (λ q. cond (same_rect row.place q) [] (tells_place window q true ∷ [])) place
            ∙ ap (λ n. cond (same_rect row.place m.place) [] (tells_place n m.place true ∷ [])) (sym named))
            leads;
      }

  pub configured-answered : (asked : Bool) (place : Rect) (put : limits.Placed)
      → placed_of put ≡ configured_to sizes old.rows window standing asked place
      → ((row : Row) → row_with window old.rows ≡ Some row → new ≡ with_row (row_edited (edit.Configure put.rect asked put.over) row) old)
      → Leads takes out (replies guest (tells_place window put.rect put.over ∷ [])) out'
      → AnsweredFor takes out out' old new window (configured_row sizes old.rows asked place) (λ row. tells_row (configured_row sizes old.rows asked place row) ∷ [])
  configured-answered asked place put rule edited leads = λ row found.
      let named : row.window ≡ window = row_with-window window old.rows row found in
      let m : Row = configured_row sizes old.rows asked place row in
      let e : row_edited (edit.Configure put.rect asked put.over) row ≡ m =
      configured-is sizes old.rows asked place window row standing put named (same-some standing (standing_of row) (is row found)) rule in
      let rows : new ≡ with_row m old = edited row found ∙ ap (λ r. with_row r old) e in
      record {
        rows = rows;
        told = told m _ (tells_row m ∷ []) rows
            (ap (λ n. tells_place n put.rect put.over ∷ []) (sym named) ∙ ap (λ r. tells_row r ∷ []) e)
            leads;
      }

  pub full-answered : (set unset flags : ℕ) (output place : Rect) → flags ≡ flags_after standing.flags set unset → output_of sizes.outputs standing.place ≡ Some output
      → ((row : Row) → standing ≡ standing_of row → true ≡ goes_full sizes row flags output) → place ≡ whole_output sizes output
      → ((row : Row) → row_with window old.rows ≡ Some row → new ≡ with_row (row_edited (edit.Fill flags place) row) old)
      → Leads takes out (replies guest (tells_place window place false ∷ [])) out'
      → AnsweredFor takes out out' old new window (λ row. flagged_row sizes (output_of sizes.outputs row.place) (flags_after row.flags set unset) row)
      (λ row. tells_full sizes (output_of sizes.outputs row.place) (flags_after row.flags set unset) row)
  full-answered set unset flags output place after here full whole edited leads = λ row found.
      let at : standing ≡ standing_of row = same-some standing (standing_of row) (is row found) in
      let named : row.window ≡ window = row_with-window window old.rows row found in
      let n = flags_after row.flags set unset in
      let f : flags ≡ n = after ∙ ap (λ (s : Standing). flags_after s.flags set unset) at in
      let yes : true ≡ goes_full sizes row n output = full row at ∙ ap (λ k. goes_full sizes row k output) f in
      let on : Some output ≡ output_of sizes.outputs row.place = sym here ∙ ap (λ (s : Standing). output_of sizes.outputs s.place) at in
      let rows : new ≡ with_row (flagged_row sizes (output_of sizes.outputs row.place) n row) old =
      edited row found
      ∙ ap (λ p. with_row (placed_at p (record row { flags = flags })) old) whole
      ∙ ap (λ k. with_row (placed_at (whole_output sizes output) (record row { flags = k })) old) f
      ∙ ap (λ b. with_row (cond b (placed_at (whole_output sizes output) (record row { flags = n })) (record row { flags = n })) old) yes
      ∙ ap (λ o. with_row (flagged_row sizes o n row) old) on in
      record {
        rows = rows;
        told = told (flagged_row sizes (output_of sizes.outputs row.place) n row) _ (tells_full sizes (output_of sizes.outputs row.place) n row) rows
            (ap (λ k. tells_place k place false ∷ []) (sym named)
            ∙ ap (λ p. tells_place row.window p false ∷ []) whole
            ∙ ap (λ b. cond b (tells_place row.window (whole_output sizes output) false ∷ []) []) yes
            ∙ ap (λ o. tells_full sizes o n row) on)
            leads;
      }

-- a window that doesn't go to full screen gets its flags, and nothing is told
pub flags-answered : {O : Type 0} (takes : O → Post → O → Type 0) (out : O) (old new : RowsView) (sizes : Sizes) (window : ℕ) (standing : Standing)
    → ((row : Row) → row_with window old.rows ≡ Some row → Some standing ≡ Some (standing_of row))
    → (set unset flags : ℕ) (output : Rect) → flags ≡ flags_after standing.flags set unset → output_of sizes.outputs standing.place ≡ Some output
    → ((row : Row) → standing ≡ standing_of row → false ≡ goes_full sizes row flags output)
    → ((row : Row) → row_with window old.rows ≡ Some row → new ≡ with_row (row_edited (edit.Flags flags) row) old)
    → AnsweredFor takes out out old new window (λ row. flagged_row sizes (output_of sizes.outputs row.place) (flags_after row.flags set unset) row)
    (λ row. tells_full sizes (output_of sizes.outputs row.place) (flags_after row.flags set unset) row)
flags-answered takes out old new sizes window standing is set unset flags output after here full edited = λ row found.
    let at : standing ≡ standing_of row = same-some standing (standing_of row) (is row found) in
    let n = flags_after row.flags set unset in
    let f : flags ≡ n = after ∙ ap (λ (s : Standing). flags_after s.flags set unset) at in
    let no : false ≡ goes_full sizes row n output = full row at ∙ ap (λ k. goes_full sizes row k output) f in
    let on : Some output ≡ output_of sizes.outputs row.place = sym here ∙ ap (λ (s : Standing). output_of sizes.outputs s.place) at in
    let P : List (List ℕ) → Type 0 = λ answers. Leads takes out (replies old.guest answers) out in
    record {
      rows = edited row found
          ∙ ap (λ k. with_row (record row { flags = k }) old) f
          ∙ ap (λ b. with_row (cond b (placed_at (whole_output sizes output) (record row { flags = n })) (record row { flags = n })) old) no
          ∙ ap (λ o. with_row (flagged_row sizes o n row) old) on;
      told = subst P (ap (λ b. cond b (tells_place row.window (whole_output sizes output) false ∷ []) []) no ∙ ap (λ o. tells_full sizes o n row) on) refl;
    }
