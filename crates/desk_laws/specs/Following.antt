-- What a message changes of a guest's rows, and how the lists of the layers follow it.
use Rattle.std.specs.Prelude.{◌≡◌, ◌≢◌, ℕ, true, false, not, ◌==◌, List, map, filter, Option, Some, None, is_some, if◌then◌else◌}
use Rattle.gui_wire.specs.declared.Header.{Header}
use Rattle.desk_laws.specs.declared.row_id.RowId.{RowId}
use Rattle.desk_laws.specs.Sizes.{Sizes}
use Rattle.desk_laws.specs.Stream.{Whole}
use Rattle.desk_laws.specs.Rows.{Row, id_of, mine, row_with, row_at}
use Rattle.desk_laws.specs.Layers.{Layers, are_apart, HaveSame, HaveRowsOnce, layer_of, followed, is_in, entered, departed, relayered}
use Rattle.desk_laws.specs.Effects.{Change, Same, Added, Replaced, Removed, Cleared, changed, Area, Goes, Reads, verdict}

-- ---- a change of one window

-- a change is of this window's row; where it goes, rows that named it name 0, and else no other row changes
abbrev pub IsChangeOf : ℕ → Change → Type 0
IsChangeOf window Same = Unit {0}
IsChangeOf window (Added row) = row.window ≡ window
IsChangeOf window (Replaced row) = row.window ≡ window
IsChangeOf window (Removed other) = other ≡ window
IsChangeOf window Cleared = ⊥

-- a new row comes unmapped where the window had none; a row in the place of another, or gone, was there
abbrev pub IsChangeFrom : Option Row → Change → Type 0
IsChangeFrom known Same = Unit {0}
IsChangeFrom known (Added row) = (known ≡ None) × (row.mapped ≡ false)
IsChangeFrom known (Replaced row) = is_some known ≡ true
IsChangeFrom known (Removed window) = is_some known ≡ true
IsChangeFrom known Cleared = ⊥

-- a change of one window among its guest's rows
pub record ChangesOne (window : ℕ) (own : List Row) (change : Change) : Type 0 where
  pub alone : IsChangeOf window change
  pub from : IsChangeFrom (row_with window own) change

-- what a message changes is the row of its own window
abbrev pub MessagesChangeOne : Type 0
MessagesChangeOne =
    (sizes : Sizes) (guest minor : ℕ) (own : List Row) (header : Header) (body : List ℕ) (change : Change) (answers : List (List ℕ)) →
    verdict sizes guest minor own (Whole header body) ≡ Goes change answers → ChangesOne header.window own change

-- what a message reads pixels of is the row of its own window
abbrev pub MessagesReadOne : Type 0
MessagesReadOne =
    (sizes : Sizes) (guest minor : ℕ) (own : List Row) (header : Header) (body : List ℕ) (row : Row) (area : Area) →
    verdict sizes guest minor own (Whole header body) ≡ Reads row area → row_with header.window own ≡ Some row

-- a change of one guest's rows leaves those of the others
abbrev pub OthersKeepRows : Type 0
OthersKeepRows =
    (guest other : ℕ) (change : Change) (rows : List Row) → other ≢ guest → mine other (changed guest change rows) ≡ mine other rows

-- ---- the lists

-- the lists have the mapped rows, each in its layer
pub record LayersFollow (rows : List Row) (layers : Layers) : Type 0 where
  pub once : HaveRowsOnce layers
  pub normal : HaveSame layers.normal (map id_of (layer_of false rows))
  pub over : HaveSame layers.over (map id_of (layer_of true rows))

-- the lists after a change of one row, which is now this one or gone
abbrev pub after_row : RowId → Option Row → Layers → Layers
after_row id None layers = departed id layers
after_row id (Some row) layers =
    if row.mapped
    then if is_in layers.focus id then relayered id row.over layers else entered id row.over layers
    else departed id layers

-- these are the rows after a change of one, and the lists that were there follow it by a step of their own
pub record FollowsRow (id : RowId) (rows : List Row) (layers : Layers) : Type 0 where
  pub lists : followed rows layers ≡ after_row id (row_at id rows) layers
  pub follow : LayersFollow rows (followed rows layers)
  pub apart : are_apart (map id_of rows) ≡ true

-- where the lists followed the rows, they follow a change of one window's row
abbrev pub ListsFollowOne : Type 0
ListsFollowOne =
    (guest window : ℕ) (change : Change) (rows : List Row) (layers : Layers) →
    are_apart (map id_of rows) ≡ true → LayersFollow rows layers → ChangesOne window (mine guest rows) change →
    FollowsRow (record { guest = guest; window = window }) (changed guest change rows) layers

-- ---- a session's end

-- the lists without the rows of a guest
abbrev pub without_guest : ℕ → Layers → Layers
without_guest guest layers = record {
  normal = filter (λ id. not (id.guest == guest)) layers.normal;
  over = filter (λ id. not (id.guest == guest)) layers.over;
  focus = filter (λ id. not (id.guest == guest)) layers.focus;
}

-- these are the rows after the end of a guest's session, and the lists that were there lose that guest's
pub record FollowsEnd (guest : ℕ) (rows : List Row) (layers : Layers) : Type 0 where
  pub lists : followed rows layers ≡ without_guest guest layers
  pub follow : LayersFollow rows (followed rows layers)
  pub apart : are_apart (map id_of rows) ≡ true

-- where the lists followed the rows, they follow the end of a session
abbrev pub ListsFollowEnd : Type 0
ListsFollowEnd =
    (guest : ℕ) (rows : List Row) (layers : Layers) →
    are_apart (map id_of rows) ≡ true → LayersFollow rows layers → FollowsEnd guest (changed guest Cleared rows) layers
