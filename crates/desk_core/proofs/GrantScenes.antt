-- What a grant does to the rows of its guest, and to those among all rows of a scene.
use Rattle.std.proofs.Common.{◌≡◌, ◌≢◌, ℕ, Bool, true, false, List, [], ◌∷◌, map, Option, Some, None, refl, sym, ◌∙◌, ap, subst, arith}
use Rattle.std.specs.Prelude.{◌==◌, if◌then◌else◌}
use Rattle.std.specs.List.{All}
use Rattle.std.proofs.lemmas.Bool.{and_parts, eqb-true}
use Rattle.std.proofs.lemmas.List.{length-map}
use Rattle.std.proofs.lemmas.List.Elements.{All-nil, All-cons, All-head, All-tail}
use Rattle.desk_laws.specs.declared.row_id.RowId.{RowId}
use Rattle.desk_laws.specs.declared.input.GIn.{GIn}
use Rattle.desk_laws.specs.declared.input.GIn.TheVariants as given
use Rattle.desk_laws.specs.Grants.{FitsGrant, Granted, grant_change, granted, granted_by, granted_to, window_of}
use Rattle.gui_wire.specs.declared.limits.TheConstants.{WINDOW_FLAG_MINIMIZE}
use Rattle.desk_laws.specs.Effects.{changed, flags_without, replaced_in, of_guest}
use Rattle.desk_laws.specs.Layers.{are_apart}
use Rattle.desk_laws.specs.Ranges.{IsPlace}
use Rattle.desk_laws.specs.Rows.{Row, id_of, is_row, mine, placed_at, row_with}
use Rattle.desk_laws.proofs.OtherLemmas.{others-keep_rows}
use Rattle.guest_session.specs.SessionView.{AreRows}
use Rattle.desk_core.proofs.OwnRows.{itself, mine-changed}

-- ---- rows of which one is replaced by one in range

module _ (guest : ℕ) (new : Row) (place : IsPlace new.place) where
  replaced-id : (row : Row) → id_of (replaced_in guest new row) ≡ id_of row
  replaced-id row = by_test (is_row guest new.window row) refl
    where
      at : ℕ → ℕ → RowId
      at g w = record { guest = g; window = w }

      by_test : (b : Bool) → is_row guest new.window row ≡ b → id_of (if b then of_guest guest new else row) ≡ id_of row
      by_test false e = refl
      by_test true e =
          let parts = and_parts (row.guest == guest) (row.window == new.window) e in
          sym (ap (λ g. at g row.window) (eqb-true row.guest guest parts.0) ∙ ap (λ w. at guest w) (eqb-true row.window new.window parts.1))

  replaced-ids : (rows : List Row) → map id_of (map (replaced_in guest new) rows) ≡ map id_of rows
  replaced-ids [] = refl
  replaced-ids (row ∷ rows) =
      ap (λ id. id ∷ map id_of (map (replaced_in guest new) rows)) (replaced-id row) ∙ ap (λ ids. id_of row ∷ ids) (replaced-ids rows)

  -- what holds of the rows, and of the new one, holds of them afterwards
  replaced-all : (P : Row → Type 0) → P (of_guest guest new) → (rows : List Row) → All P rows → All P (map (replaced_in guest new) rows)
  replaced-all P here [] all = All-nil P
  replaced-all P here (row ∷ rows) all =
      All-cons P (replaced_in guest new row) (map (replaced_in guest new) rows) (by_test (is_row guest new.window row)) (replaced-all P here rows (All-tail P row rows all))
    where
      by_test : (b : Bool) → P (if b then of_guest guest new else row)
      by_test true = here
      by_test false = All-head P row rows all

  replaced-are : (rows : List Row) → AreRows guest rows → AreRows guest (map (replaced_in guest new) rows)
  replaced-are rows are = record {
    own = replaced-all (λ row. row.guest ≡ guest) refl rows are.own;
    apart = ap are_apart (replaced-ids rows) ∙ are.apart;
    few = omega (arith, length-map rows (replaced_in guest new), are.few);
    placed = replaced-all (λ row. IsPlace row.place) place rows are.placed;
  }

-- ---- a grant among the rows of its guest

-- the row that is found has what all have
found-has : (P : Row → Type 0) (window : ℕ) (rows : List Row) (row : Row) → All P rows → row_with window rows ≡ Some row → P row
found-has P window [] row all found = absurd (cc)
found-has P window (x ∷ rows) row all found = by_test (x.window == window) (λ e. found-has P window rows row (All-tail P x rows all) e) found
  where
    by_test : (b : Bool) → (row_with window rows ≡ Some row → P row) → (if b then Some x else row_with window rows) ≡ Some row → P row
    by_test true later e = let same : x ≡ row = cc in subst P same (All-head P x rows all)
    by_test false later e = later e

-- the rows of a guest alone are its own
mine-own : (guest : ℕ) (rows : List Row) → All (λ row. row.guest ≡ guest) rows → mine guest rows ≡ rows
mine-own guest [] own = refl
mine-own guest (row ∷ rows) own =
    ap (λ g. if g == guest then row ∷ mine guest rows else mine guest rows) (All-head (λ r. r.guest ≡ guest) row rows own)
    ∙ ap (λ b. if b then row ∷ mine guest rows else mine guest rows) (itself guest)
    ∙ ap (λ rs. row ∷ rs) (mine-own guest rows (All-tail (λ r. r.guest ≡ guest) row rows own))

module _ (guest : ℕ) (rows : List Row) (are : AreRows guest rows) where
  change-are : (input : GIn) (row : Row) → FitsGrant input → IsPlace row.place → AreRows guest (changed guest (grant_change input row) rows)
  change-are (given.Place window rect) row fits place = replaced-are guest (placed_at rect row) fits rows are
  change-are (given.Restored window) row fits place = replaced-are guest (record row { flags = flags_without row.flags WINDOW_FLAG_MINIMIZE }) place rows are
  change-are input row fits place = are

  -- a grant leaves them rows of the guest, as many and with the same windows, their places in range
  pub granted-are : (input : GIn) (paste : List ℕ) → FitsGrant input → AreRows guest (granted guest rows input paste).rows
  granted-are input paste fits = by_window (window_of input)
    where
      by_row : (window : ℕ) (o : Option Row) → row_with window (mine guest rows) ≡ o → AreRows guest (granted_to guest rows input paste o).rows
      by_row window None e = are
      by_row window (Some row) e =
          change-are input row fits
          (found-has (λ r. IsPlace r.place) window rows row are.placed (ap (row_with window) (sym (mine-own guest rows are.own)) ∙ e))

      by_window : (o : Option ℕ) → AreRows guest (granted_by guest rows input paste o).rows
      by_window None = are
      by_window (Some window) = by_row window (row_with window (mine guest rows)) refl

-- ---- a grant among the rows of all guests

mine-again : (guest : ℕ) (rows : List Row) → mine guest (mine guest rows) ≡ mine guest rows
mine-again guest [] = refl
mine-again guest (row ∷ rows) = by_guest (row.guest == guest) refl (mine-again guest rows)
  where
    by_guest : (b : Bool) → (row.guest == guest) ≡ b → mine guest (mine guest rows) ≡ mine guest rows
        → mine guest (if b then row ∷ mine guest rows else mine guest rows) ≡ (if b then row ∷ mine guest rows else mine guest rows)
    by_guest true is ih = ap (λ b. if b then row ∷ mine guest (mine guest rows) else mine guest (mine guest rows)) is ∙ ap (λ rs. row ∷ rs) ih
    by_guest false is ih = ih

-- the same of this guest's rows, and the same answers
pub record IsOwnGrant (guest : ℕ) (all own : Granted) : Type 0 where
  pub rows : mine guest all.rows ≡ own.rows
  pub answers : all.answers ≡ own.answers

module _ (guest : ℕ) (rows : List Row) (input : GIn) (paste : List ℕ) where
  -- among all rows a grant does to those of its guest what it does to them alone
  pub granted-own : IsOwnGrant guest (granted guest rows input paste) (granted guest (mine guest rows) input paste)
  granted-own = by_window (window_of input)
    where
      by_row : (o : Option Row) → IsOwnGrant guest (granted_to guest rows input paste o) (granted_to guest (mine guest rows) input paste o)
      by_row None = record { rows = refl; answers = refl }
      by_row (Some row) = record { rows = mine-changed guest (grant_change input row) rows; answers = refl }

      by_window : (o : Option ℕ) → IsOwnGrant guest (granted_by guest rows input paste o) (granted_by guest (mine guest rows) input paste o)
      by_window None = record { rows = refl; answers = refl }
      by_window (Some window) =
          let P : List Row → Type 0 = λ rs. IsOwnGrant guest (granted_to guest rows input paste (row_with window (mine guest rows))) (granted_to guest (mine guest rows) input paste (row_with window rs)) in
          subst P (sym (mine-again guest rows)) (by_row (row_with window (mine guest rows)))

  -- and nothing to those of others
  pub granted-others : (other : ℕ) → other ≢ guest → mine other (granted guest rows input paste).rows ≡ mine other rows
  granted-others other apart = by_window (window_of input)
    where
      by_row : (o : Option Row) → mine other (granted_to guest rows input paste o).rows ≡ mine other rows
      by_row None = refl
      by_row (Some row) = others-keep_rows guest other (grant_change input row) rows apart

      by_window : (o : Option ℕ) → mine other (granted_by guest rows input paste o).rows ≡ mine other rows
      by_window None = refl
      by_window (Some window) = by_row (row_with window (mine guest rows))
