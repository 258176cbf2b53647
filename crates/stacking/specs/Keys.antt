-- How a stacking finds the layer of a row: a key for each, in the order of guests and their windows.
use Rattle.std.specs.Prelude.{ℕ, suc, ◌≡◌, ◌-◌, ◌<◌, ◌≤◌, ◌==◌, ◌&&◌, ◌||◌, nat_lt, Bool, true, false, List, [], ◌∷◌, length, Option, Some, None, if◌then◌else◌, slice_index_or}
use Rattle.desk_laws.specs.declared.row_id.RowId.{RowId}
use Rattle.desk_laws.specs.Rows.{same_row}
use Rattle.desk_laws.specs.Layers.{is_in}
use Rattle.stacking.specs.declared.index.Key.{Key}

-- whether an id comes before another: that of a lower guest, or of a lower window of the same
abbrev pub before : RowId → RowId → Bool
before a b = nat_lt a.guest b.guest || (a.guest == b.guest && nat_lt a.window b.window)

-- the first id, and the one right behind an id
abbrev pub first_id : RowId
first_id = record { guest = 0; window = 0 }

abbrev pub next_id : RowId → RowId
next_id id = record id { window = suc id.window }

-- the layer of a row: whether it is the override layer
abbrev pub layer_in : RowId → List Key → Option Bool
layer_in id [] = None
layer_in id (key ∷ keys) = if same_row id key.id then Some key.over else layer_in id keys

-- the first key's layer, if it is this row's
abbrev pub first_layer : RowId → List Key → Option Bool
first_layer id [] = None
first_layer id (key ∷ keys) = if same_row id key.id then Some key.over else None

-- ids that rise from one on
abbrev pub RiseFrom : RowId → List Key → Type 0
RiseFrom low [] = Unit {0}
RiseFrom low (key ∷ keys) = (before key.id low ≡ false) × RiseFrom (next_id key.id) keys

-- the key in front of this place comes before the id, and the one at it does not
pub record IsPlaceFor (id : RowId) (keys : List Key) (i : ℕ) : Type 0 where
  pub within : i ≤ length keys
  pub behind : (d : Key) → 0 < i → before (slice_index_or keys (i - 1) d).id id ≡ true
  pub ahead : (d : Key) → i < length keys → before (slice_index_or keys i d).id id ≡ false

-- the layer of a row by the lists
abbrev pub layer_among : RowId → List RowId → List RowId → Option Bool
layer_among id normal over = if is_in over id then Some true else if is_in normal id then Some false else None

-- the keys are those of the rows of both layers
pub record IsIndex (normal over : List RowId) (keys : List Key) : Type 0 where
  pub rising : RiseFrom first_id keys
  pub layers : (id : RowId) → layer_in id keys ≡ layer_among id normal over
