-- One guest's rows among all rows: what a change of its rows does to them, and how many there can be.
use Rattle.std.proofs.Common.{◌≡◌, ◌≢◌, ℕ, zero, suc, ◌+◌, ◌*◌, ◌<◌, ◌≤◌, Bool, true, false, ◌&&◌, not, ◌==◌, List, [], ◌∷◌, ◌++◌, length, map, refl, sym, ◌∙◌, ap, subst, arith}
use Rattle.std.specs.Prelude.{filter, if◌then◌else◌}
use Rattle.std.proofs.lemmas.Bool.{eqb-true, eqb-false}
use Rattle.std.proofs.lemmas.Bool.Decides.{nat_tests}
use Rattle.std.proofs.lemmas.List.Elements.{filter-append}
use Rattle.std.proofs.lemmas.List.Filters.{length-filter_both}
use Rattle.desk_laws.specs.Rows.{Row, mine, is_row}
use Rattle.desk_laws.specs.Frames.{PortState}
use Rattle.desk_laws.specs.Effects.{Change, Same, Added, Replaced, Removed, Cleared, changed, replaced_in, of_guest, forgets, name_without, Effect, Verdict, Ends, Greets, Goes, Reads, carried_out, frame_places, points, drawn_row}
use Rattle.desk_laws.specs.Frames.{load_all}
use Rattle.desk_laws.proofs.OtherLemmas.{others-keep_rows}

pub itself : (n : ℕ) → (n == n) ≡ true
itself n = grind (arith, nat_tests)

-- ---- a change of a guest's rows is that change of these alone

module _ (guest : ℕ) where
  mine-added : (row : Row) → mine guest (of_guest guest row ∷ []) ≡ of_guest guest row ∷ []
  mine-added row = ap (λ b. if b then of_guest guest row ∷ [] else []) (itself guest)

  mine-replaced : (new : Row) (rows : List Row) → mine guest (map (replaced_in guest new) rows) ≡ map (replaced_in guest new) (mine guest rows)
  mine-replaced new [] = refl
  mine-replaced new (row ∷ rows) = by_guest (row.guest == guest) refl (mine-replaced new rows)
    where
      rest : List Row
      rest = map (replaced_in guest new) rows

      by_window : (g w : Bool) → (row.guest == guest) ≡ true → g ≡ true → mine guest rest ≡ map (replaced_in guest new) (mine guest rows)
          → mine guest ((if g && w then of_guest guest new else row) ∷ rest) ≡ (if g && w then of_guest guest new else row) ∷ map (replaced_in guest new) (mine guest rows)
      by_window false w is own ih = cc
      by_window true true is own ih = ap (λ b. if b then of_guest guest new ∷ mine guest rest else mine guest rest) (itself guest) ∙ ap (λ rs. of_guest guest new ∷ rs) ih
      by_window true false is own ih = ap (λ b. if b then row ∷ mine guest rest else mine guest rest) is ∙ ap (λ rs. row ∷ rs) ih

      by_guest : (b : Bool) → (row.guest == guest) ≡ b → mine guest rest ≡ map (replaced_in guest new) (mine guest rows)
          → mine guest ((if b && row.window == new.window then of_guest guest new else row) ∷ rest) ≡ map (replaced_in guest new) (if b then row ∷ mine guest rows else mine guest rows)
      by_guest true is ih =
          by_window true (row.window == new.window) is refl ih
          ∙ sym (ap (λ b. (if b && row.window == new.window then of_guest guest new else row) ∷ map (replaced_in guest new) (mine guest rows)) is)
      by_guest false is ih = ap (λ b. if b then row ∷ mine guest rest else mine guest rest) is ∙ ih

  -- the rows without the row of a window
  abbrev but : ℕ → List Row → List Row
  but window rows = filter (λ row. not (is_row guest window row)) rows

  mine-but : (window : ℕ) (rows : List Row) → mine guest (but window rows) ≡ but window (mine guest rows)
  mine-but window [] = refl
  mine-but window (row ∷ rows) = by_guest (row.guest == guest) refl (mine-but window rows)
    where
      by_window : (w : Bool) → (row.guest == guest) ≡ true → mine guest (but window rows) ≡ but window (mine guest rows)
          → mine guest (if not w then row ∷ but window rows else but window rows) ≡ (if not w then row ∷ but window (mine guest rows) else but window (mine guest rows))
      by_window true is ih = ih
      by_window false is ih = ap (λ b. if b then row ∷ mine guest (but window rows) else mine guest (but window rows)) is ∙ ap (λ rs. row ∷ rs) ih

      by_guest : (b : Bool) → (row.guest == guest) ≡ b → mine guest (but window rows) ≡ but window (mine guest rows)
          → mine guest (if not (b && row.window == window) then row ∷ but window rows else but window rows) ≡ but window (if b then row ∷ mine guest rows else mine guest rows)
      by_guest true is ih =
          by_window (row.window == window) is ih
          ∙ sym (ap (λ b. if not (b && row.window == window) then row ∷ but window (mine guest rows) else but window (mine guest rows)) is)
      by_guest false is ih = ap (λ b. if b then row ∷ mine guest (but window rows) else mine guest (but window rows)) is ∙ ih

  mine-forgets : (window : ℕ) (rows : List Row) → mine guest (map (forgets guest window) rows) ≡ map (forgets guest window) (mine guest rows)
  mine-forgets window [] = refl
  mine-forgets window (row ∷ rows) = by_guest (row.guest == guest) refl (mine-forgets window rows)
    where
      rest : List Row
      rest = map (forgets guest window) rows

      cut : Row
      cut = record row { parent = name_without window row.parent; transient = name_without window row.transient }

      by_guest : (b : Bool) → (row.guest == guest) ≡ b → mine guest rest ≡ map (forgets guest window) (mine guest rows)
          → mine guest ((if b then cut else row) ∷ rest) ≡ map (forgets guest window) (if b then row ∷ mine guest rows else mine guest rows)
      by_guest true is ih =
          ap (λ b. if b then cut ∷ mine guest rest else mine guest rest) is
          ∙ ap (λ rs. cut ∷ rs) ih
          ∙ sym (ap (λ b. (if b then cut else row) ∷ map (forgets guest window) (mine guest rows)) is)
      by_guest false is ih = ap (λ b. if b then row ∷ mine guest rest else mine guest rest) is ∙ ih

  pub mine-cleared : (rows : List Row) → mine guest (changed guest Cleared rows) ≡ []
  mine-cleared [] = refl
  mine-cleared (row ∷ rows) = by_guest (row.guest == guest) refl (mine-cleared rows)
    where
      by_guest : (b : Bool) → (row.guest == guest) ≡ b → mine guest (changed guest Cleared rows) ≡ []
          → mine guest (if not b then row ∷ changed guest Cleared rows else changed guest Cleared rows) ≡ []
      by_guest true is ih = ih
      by_guest false is ih = ap (λ b. if b then row ∷ mine guest (changed guest Cleared rows) else mine guest (changed guest Cleared rows)) is ∙ ih

  cleared-mine : (rows : List Row) → changed guest Cleared (mine guest rows) ≡ []
  cleared-mine [] = refl
  cleared-mine (row ∷ rows) = by_guest (row.guest == guest) refl (cleared-mine rows)
    where
      by_guest : (b : Bool) → (row.guest == guest) ≡ b → changed guest Cleared (mine guest rows) ≡ []
          → changed guest Cleared (if b then row ∷ mine guest rows else mine guest rows) ≡ []
      by_guest true is ih = ap (λ b. if not b then row ∷ changed guest Cleared (mine guest rows) else changed guest Cleared (mine guest rows)) is ∙ ih
      by_guest false is ih = ih

  pub mine-changed : (change : Change) (rows : List Row) → mine guest (changed guest change rows) ≡ changed guest change (mine guest rows)
  mine-changed Same rows = refl
  mine-changed (Added row) rows = filter-append (λ r. r.guest == guest) rows (of_guest guest row ∷ []) ∙ ap (λ rs. mine guest rows ++ rs) (mine-added row)
  mine-changed (Replaced new) rows = mine-replaced new rows
  mine-changed (Removed window) rows = mine-forgets window (but window rows) ∙ ap (map (forgets guest window)) (mine-but window rows)
  mine-changed Cleared rows = mine-cleared rows ∙ sym (cleared-mine rows)

-- ---- a verdict's effect on all rows and on one guest's own

-- the same of minor version, frames, answers, readings and cause, and of this guest's rows
pub record IsOwnEffect (guest : ℕ) (all own : Effect) : Type 0 where
  pub rows : mine guest all.rows ≡ own.rows
  pub minor : all.minor ≡ own.minor
  pub port : all.port ≡ own.port
  pub answers : all.answers ≡ own.answers
  pub readings : all.readings ≡ own.readings
  pub cause : all.cause ≡ own.cause

pub own-effect : (guest minor : ℕ) (rows : List Row) (port : PortState) (v : Verdict) → IsOwnEffect guest (carried_out guest minor rows port v) (carried_out guest minor (mine guest rows) port v)
own-effect guest minor rows port (Ends cause) = record { rows = mine-changed guest Cleared rows; minor = refl; port = refl; answers = refl; readings = refl; cause = refl }
own-effect guest minor rows port (Greets minor' answers) = record { rows = refl; minor = refl; port = refl; answers = refl; readings = refl; cause = refl }
own-effect guest minor rows port (Goes change answers) = record { rows = mine-changed guest change rows; minor = refl; port = refl; answers = refl; readings = refl; cause = refl }
own-effect guest minor rows port (Reads row area) = record {
  rows = mine-changed guest (Replaced (drawn_row row area (load_all port (frame_places row.dump (points area))).words)) rows;
  minor = refl;
  port = refl;
  answers = refl;
  readings = refl;
  cause = refl;
}

-- ---- how many rows there can be

none-left : (rows : List Row) → ((guest : ℕ) → mine guest rows ≡ []) → rows ≡ []
none-left [] none = refl
none-left (row ∷ rows) none =
    let e : (if row.guest == row.guest then row ∷ mine row.guest rows else mine row.guest rows) ≡ [] = none row.guest in
    let f : row ∷ mine row.guest rows ≡ [] = sym (ap (λ b. if b then row ∷ mine row.guest rows else mine row.guest rows) (itself row.guest)) ∙ e in
    absurd (cc)

split-guest : (guest : ℕ) (rows : List Row) → length (mine guest rows) + length (changed guest Cleared rows) ≡ length rows
split-guest guest rows = length-filter_both (λ row. row.guest == guest) (λ row. not (row.guest == guest)) (λ row. refl) rows

-- so many guests with so many rows each, and no row of another
pub rows-few : (guests most : ℕ) (rows : List Row) → ((guest : ℕ) → guest < guests → length (mine guest rows) ≤ most) → ((guest : ℕ) → guests ≤ guest → mine guest rows ≡ [])
    → length rows ≤ most * guests
rows-few zero most rows few none = omega (arith, ap length (none-left rows (λ guest. none guest (omega arith))))
rows-few (suc guests) most rows few none =
    let left = changed guests Cleared rows in
    let few' : (guest : ℕ) → guest < guests → length (mine guest left) ≤ most =
    λ guest below. let P : List Row → Type 0 = λ rs. length rs ≤ most in subst P (sym (others-keep_rows guests guest Cleared rows (λ same. omega (arith, same, below)))) (few guest (omega (arith, below))) in
    let none' : (guest : ℕ) → guests ≤ guest → mine guest left ≡ [] = λ guest above. by_guest guest (guest == guests) refl above in
    let most_left : length left ≤ most * guests = rows-few guests most left few' none' in
    let own : length (mine guests rows) ≤ most = few guests (omega arith) in
    let more : most * suc guests ≡ most * guests + most = omega arith in
    omega (arith, split-guest guests rows, most_left, own, more)
  where
    by_guest : (guest : ℕ) (b : Bool) → (guest == guests) ≡ b → guests ≤ guest → mine guest (changed guests Cleared rows) ≡ []
    by_guest guest true is above =
        let same : guest ≡ guests = eqb-true guest guests is in
        let P : ℕ → Type 0 = λ g. mine g (changed guests Cleared rows) ≡ [] in
        subst P (sym same) (mine-cleared guests rows)
    by_guest guest false is above =
        let apart : guest ≢ guests = eqb-false guest guests is in
        others-keep_rows guests guest Cleared rows apart ∙ none guest (omega (arith, above, apart))
