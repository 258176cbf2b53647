-- A change of one guest's rows leaves those of the others.
use Rattle.std.proofs.Common.{◌≡◌, ◌≢◌, ℕ, Bool, true, false, not, ◌==◌, List, [], ◌∷◌, ◌++◌, map, refl, sym, ◌∙◌, ap, arith}
use Rattle.std.specs.Prelude.{filter, if◌then◌else◌}
use Rattle.std.proofs.lemmas.List.{append-nil}
use Rattle.std.proofs.lemmas.List.Elements.{filter-append}
use Rattle.std.proofs.lemmas.Bool.{and_parts, eqb-true}
use Rattle.std.proofs.lemmas.Bool.Decides.{nat_tests}
use Rattle.desk_laws.specs.Rows.{Row, mine, is_row}
use Rattle.desk_laws.specs.Effects.{Same, Added, Replaced, Removed, Cleared, replaced_in, of_guest, forgets, name_without}
use Rattle.desk_laws.specs.Following.{OthersKeepRows}

differs : (guest other : ℕ) → other ≢ guest → (guest == other) ≡ false
differs guest other apart = grind (arith, nat_tests)

module _ (guest other : ℕ) (apart : other ≢ guest) where
  -- a row of the guest isn't the other's
  own-out : (row : Row) → (row.guest == guest) ≡ true → (row.guest == other) ≡ false
  own-out row e = ap (λ n. n == other) (eqb-true row.guest guest e) ∙ differs guest other apart

  row-out : (window : ℕ) (row : Row) → is_row guest window row ≡ true → (row.guest == other) ≡ false
  row-out window row e = own-out row (and_parts (row.guest == guest) (row.window == window) e).0

  -- a row that isn't the other's before its rows
  left-out : (row : Row) (rows : List Row) → (row.guest == other) ≡ false → mine other (row ∷ rows) ≡ mine other rows
  left-out row rows e = ap (λ b. if b then row ∷ mine other rows else mine other rows) e

  first-same : (row : Row) (rows rows' : List Row) → mine other rows' ≡ mine other rows → mine other (row ∷ rows') ≡ mine other (row ∷ rows)
  first-same row rows rows' e = ap (λ rs. if row.guest == other then row ∷ rs else rs) e

  replaced : (new : Row) (rows : List Row) → mine other (map (replaced_in guest new) rows) ≡ mine other rows
  replaced new [] = refl
  replaced new (row ∷ rows) = by_row (is_row guest new.window row) refl (replaced new rows)
    where
      rest : List Row
      rest = map (replaced_in guest new) rows

      by_row : (b : Bool) → is_row guest new.window row ≡ b → mine other rest ≡ mine other rows
          → mine other ((if b then of_guest guest new else row) ∷ rest) ≡ mine other (row ∷ rows)
      by_row true e ih =
          left-out (of_guest guest new) rest (differs guest other apart) ∙ ih ∙ sym (left-out row rows (row-out new.window row e))
      by_row false e ih = first-same row rows rest ih

  removed : (window : ℕ) (rows : List Row) → mine other (map (forgets guest window) (filter (λ row. not (is_row guest window row)) rows)) ≡ mine other rows
  removed window [] = refl
  removed window (row ∷ rows) = by_row (is_row guest window row) refl (removed window rows)
    where
      others : List Row
      others = filter (λ r. not (is_row guest window r)) rows

      rest : List Row
      rest = map (forgets guest window) others

      by_guest : (b : Bool) → (row.guest == guest) ≡ b → mine other rest ≡ mine other rows
          → mine other ((if b then record row { parent = name_without window row.parent; transient = name_without window row.transient } else row) ∷ rest)
          ≡ mine other (row ∷ rows)
      by_guest true e ih =
          left-out (record row { parent = name_without window row.parent; transient = name_without window row.transient }) rest (own-out row e)
          ∙ ih ∙ sym (left-out row rows (own-out row e))
      by_guest false e ih = first-same row rows rest ih

      by_row : (b : Bool) → is_row guest window row ≡ b → mine other rest ≡ mine other rows
          → mine other (map (forgets guest window) (if not b then row ∷ others else others)) ≡ mine other (row ∷ rows)
      by_row true e ih = ih ∙ sym (left-out row rows (row-out window row e))
      by_row false e ih = by_guest (row.guest == guest) refl ih

  cleared : (rows : List Row) → mine other (filter (λ row. not (row.guest == guest)) rows) ≡ mine other rows
  cleared [] = refl
  cleared (row ∷ rows) = by_guest (row.guest == guest) refl (cleared rows)
    where
      rest : List Row
      rest = filter (λ r. not (r.guest == guest)) rows

      by_guest : (b : Bool) → (row.guest == guest) ≡ b → mine other rest ≡ mine other rows
          → mine other (if not b then row ∷ rest else rest) ≡ mine other (row ∷ rows)
      by_guest true e ih = ih ∙ sym (left-out row rows (own-out row e))
      by_guest false e ih = first-same row rows rest ih

pub others-keep_rows : OthersKeepRows
others-keep_rows guest other Same rows apart = refl
others-keep_rows guest other (Added row) rows apart =
    filter-append (λ r. r.guest == other) rows (of_guest guest row ∷ [])
    ∙ ap (λ b. mine other rows ++ (if b then of_guest guest row ∷ [] else [])) (differs guest other apart)
    ∙ append-nil (mine other rows)
others-keep_rows guest other (Replaced new) rows apart = replaced guest other apart new rows
others-keep_rows guest other (Removed window) rows apart = removed guest other apart window rows
others-keep_rows guest other Cleared rows apart = cleared guest other apart rows
