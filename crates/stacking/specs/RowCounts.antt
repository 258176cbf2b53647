-- How often a row stands in a list.
use Rattle.std.specs.Prelude.{◌≡◌, ℕ, ◌+◌, ◌≤◌, List, [], ◌∷◌, length, if◌then◌else◌}
use Rattle.desk_laws.specs.declared.row_id.RowId.{RowId}
use Rattle.desk_laws.specs.Rows.{same_row}

abbrev pub times : RowId → List RowId → ℕ
times id [] = 0
times id (other ∷ ids) = (if same_row id other then 1 else 0) + times id ids

-- a row stands in the focus list as often as in the two layers together, which is once at most
pub record AreCounted (normal over focus : List RowId) : Type 0 where
  pub once : (id : RowId) → times id focus ≤ 1
  pub same : (id : RowId) → times id focus ≡ times id normal + times id over
  pub counted : length focus ≡ length normal + length over
