-- The stack of the mapped rows, and the focus list.
use Rattle.std.specs.Prelude.{◌≡◌, ℕ, ◌+◌, Bool, true, false, ◌&&◌, not, List, [], ◌∷◌, ◌++◌, length, map, reverse, filter, filter_map, Option, Some, None, if◌then◌else◌, slice_get}
use Rattle.std.specs.List.{list_any}
use Rattle.gui_num.specs.declared.Point.{Point}
use Rattle.gui_num.specs.Rects.{has}
use Rattle.desk_laws.specs.declared.row_id.RowId.{RowId}
use Rattle.desk_laws.specs.Rows.{Row, id_of, same_row, row_at, is_shown, outer}

-- both layers from the bottom to the top, and the focus list from its front
pub record Layers : Type 0 where
  pub normal : List RowId
  pub over : List RowId
  pub focus : List RowId

abbrev pub no_layers : Layers
no_layers = record { normal = []; over = []; focus = [] }

-- whether an id stands in a list
abbrev pub is_in : List RowId → RowId → Bool
is_in ids id = list_any (same_row id) ids

-- no id stands in the list twice
abbrev pub are_apart : List RowId → Bool
are_apart [] = true
are_apart (id ∷ ids) = not (is_in ids id) && are_apart ids

-- two lists of ids have the same members
abbrev pub HaveSame : List RowId → List RowId → Type 0
HaveSame xs ys = (id : RowId) → is_in xs id ≡ is_in ys id

abbrev pub without : RowId → List RowId → List RowId
without id ids = filter (λ other. not (same_row id other)) ids

-- the list with this id last, where it stands in it
abbrev pub to_end : RowId → List RowId → List RowId
to_end id ids = if is_in ids id then without id ids ++ id ∷ [] else ids

-- ---- the lists follow the rows

abbrev pub is_mapped : List Row → RowId → Bool
is_mapped rows id = list_any (λ row. same_row id (id_of row) && row.mapped) rows

-- the mapped rows of a layer
abbrev pub layer_of : Bool → List Row → List Row
layer_of over rows = filter (λ row. row.mapped && same_bool row.over over) rows
  where
    same_bool : Bool → Bool → Bool
    same_bool true b = b
    same_bool false b = not b

-- the members that stay, and those rows that are new
abbrev pub staying : List Row → List RowId → List RowId
staying rows ids = filter (is_in (map id_of rows)) ids

abbrev pub coming : List Row → List RowId → List RowId
coming rows ids = filter (λ id. not (is_in ids id)) (map id_of rows)

-- each layer holds its mapped rows, a new one on top; the focus list all mapped rows, a new one at the front
abbrev pub followed : List Row → Layers → Layers
followed rows layers = record {
  normal = staying (layer_of false rows) layers.normal ++ coming (layer_of false rows) layers.normal;
  over = staying (layer_of true rows) layers.over ++ coming (layer_of true rows) layers.over;
  focus = coming (filter (λ row. row.mapped) rows) layers.focus ++ staying (filter (λ row. row.mapped) rows) layers.focus;
}

-- a row on top of its layer and at the end of the focus list
abbrev pub raised : RowId → Layers → Layers
raised id layers = record {
  normal = to_end id layers.normal;
  over = to_end id layers.over;
  focus = to_end id layers.focus;
}

-- a row that comes: into its layer on top, and into the focus list at the front
abbrev pub entered : RowId → Bool → Layers → Layers
entered id over layers = record {
  normal = if over then layers.normal else layers.normal ++ id ∷ [];
  over = if over then layers.over ++ id ∷ [] else layers.over;
  focus = id ∷ layers.focus;
}

-- a row that goes
abbrev pub departed : RowId → Layers → Layers
departed id layers = record {
  normal = without id layers.normal;
  over = without id layers.over;
  focus = without id layers.focus;
}

-- a row that changes into the other layer comes there on top; one that is in that layer already stays
abbrev pub relayered : RowId → Bool → Layers → Layers
relayered id true layers =
    if is_in layers.over id then layers
    else record layers { normal = without id layers.normal; over = layers.over ++ id ∷ [] }
relayered id false layers =
    if is_in layers.normal id then layers
    else record layers { normal = layers.normal ++ id ∷ []; over = without id layers.over }

-- no row stands in them twice, and the focus list has exactly the rows of both layers
pub record HaveRowsOnce (layers : Layers) : Type 0 where
  pub stacked_once : are_apart (layers.normal ++ layers.over) ≡ true
  pub listed_once : are_apart layers.focus ≡ true
  pub same : HaveSame layers.focus (layers.normal ++ layers.over)
  pub counted : length layers.focus ≡ length layers.normal + length layers.over

-- the row that stands k places below the top of the override layer, the normal layer being below it
abbrev pub id_from_top : Layers → ℕ → Option RowId
id_from_top layers k = slice_get (reverse (layers.normal ++ layers.over)) k

-- ---- the topmost row

abbrev pub or_else : {X : Type 0} → Option X → Option X → Option X
or_else (Some x) other = Some x
or_else None other = other

-- the last member that passes
abbrev pub last_that : {X : Type 0} → (X → Bool) → List X → Option X
last_that test [] = None
last_that test (x ∷ xs) = or_else (last_that test xs) (if test x then Some x else None)

-- the rows of the stack, from the bottom to the top
abbrev pub stack : List Row → Layers → List Row
stack rows layers = filter_map (λ id. row_at id rows) (layers.normal ++ layers.over)

-- the last shown row of the stack whose outer rectangle has the pixel
abbrev pub topmost : ℕ → List Row → Layers → Point → Option Row
topmost border rows layers p = last_that (λ row. is_shown row && has (outer border row) p) (stack rows layers)

-- the focus: the last shown normal member of the focus list
abbrev pub focus_of : List Row → Layers → Option Row
focus_of rows layers =
    last_that (λ row. is_shown row && not row.over) (filter_map (λ id. row_at id rows) layers.focus)
