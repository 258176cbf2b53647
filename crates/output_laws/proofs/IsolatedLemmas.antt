-- What the bytes of a run show and tell.
use Rattle.std.proofs.Common.{◌≡◌, ℕ, Bool, true, false, List, [], ◌∷◌, ◌++◌, map, filter_map, Option, Some, None, refl, sym, ◌∙◌, ap, append_assoc}
use Rattle.std.specs.Prelude.{if◌then◌else◌}
use Rattle.std.specs.List.{cons_option}
use Rattle.gui_num.specs.declared.Point.{Point}
use Rattle.gui_num.specs.declared.Rect.{Rect}
use Rattle.gui_num.specs.Rects.{has}
use Rattle.desk_laws.specs.declared.setup.Setup.{Setup}
use Rattle.desk_laws.specs.declared.row_id.RowId.{RowId}
use Rattle.desk_laws.specs.Edges.{shows_content_of}
use Rattle.desk_laws.specs.Items.{FedItem}
use Rattle.desk_laws.specs.Layers.{Layers, last_that, or_else, topmost}
use Rattle.desk_laws.specs.Picture.{colour_at, colour_by, colour_read, content_under, label_of}
use Rattle.desk_laws.specs.Rows.{Row, id_of, mine, row_at, row_with}
use Rattle.desk_laws.specs.Scene.{Post}
use Rattle.desk_laws.specs.Settle.{content_owner}
use Rattle.desk_laws.specs.State.{DeskState, StepOutcome}
use Rattle.desk_laws.specs.Steps.{picture_post, run, step}
use Rattle.desk_laws.proofs.FollowChanges.{row_with-mine}
use Rattle.desk_laws.proofs.RouteLemmas.{row_at-id}
use Rattle.record_format.specs.OutputRecords.{out_of}
use Rattle.output_laws.specs.Isolated.{composed, content_in}

-- ---- runs in two parts

pub posts-append : (setup : Setup) (front behind : List FedItem) (d : DeskState)
    → (run setup (front ++ behind) d).posts ≡ (run setup front d).posts ++ (run setup behind (run setup front d).desk).posts
posts-append setup [] behind d = refl
posts-append setup (i ∷ front) behind d =
    let one : StepOutcome = step setup i.item i.piece d in
    ap (λ (ps : List Post). one.posts ++ ps) (posts-append setup front behind one.desk)
    ∙ sym (append_assoc one.posts (run setup front one.desk).posts (run setup behind (run setup front one.desk).desk).posts)

-- ---- the row that a pixel shows

-- a row that was found under its id
abbrev IsThere : List Row → Option Row → Type 0
IsThere rows None = Unit {0}
IsThere rows (Some row) = row_at (id_of row) rows ≡ Some row

either-there : (rows : List Row) (one two : Option Row) → IsThere rows one → IsThere rows two → IsThere rows (or_else one two)
either-there rows None two a b = b
either-there rows (Some row) two a b = a

found-there : (rows : List Row) (id : RowId) (found : Option Row) → row_at id rows ≡ found → IsThere rows found
found-there rows id None is = tt
found-there rows id (Some row) is = ap (λ (k : RowId). row_at k rows) (row_at-id id rows row is) ∙ is

found-last : (rows : List Row) (test : Row → Bool) (id : RowId) (others : List Row) (found : Option Row) → row_at id rows ≡ found → IsThere rows (last_that test others)
    → IsThere rows (last_that test (cons_option found others))
found-last rows test id others None is there = there
found-last rows test id others (Some row) is there = either-there rows (last_that test others) (if test row then Some row else None) there (by_test (test row))
  where
    by_test : (passes : Bool) → IsThere rows (if passes then Some row else None)
    by_test true = found-there rows id (Some row) is
    by_test false = tt

last-there : (rows : List Row) (test : Row → Bool) (ids : List RowId) → IsThere rows (last_that test (filter_map (λ id. row_at id rows) ids))
last-there rows test [] = tt
last-there rows test (id ∷ ids) = found-last rows test id (filter_map (λ id. row_at id rows) ids) (row_at id rows) refl (last-there rows test ids)

-- a pixel that shows the content of a window has the colour that the window among its guest's has there
shown-colour : (setup : Setup) (rows : List Row) (top : Option Row) (p : Point) (id : RowId) → IsThere rows top → content_owner top p ≡ Some id
    → colour_by setup top p ≡ colour_read (content_in (row_with id.window (mine id.guest rows)) p)
shown-colour setup rows None p id there is = absurd (cc)
shown-colour setup rows (Some row) p id there is = by_place (has row.place p) is
  where
    by_place : (inside : Bool) → (if inside then Some (id_of row) else None) ≡ Some id
        → (if inside then colour_read (content_under row p) else label_of setup row.guest) ≡ colour_read (content_in (row_with id.window (mine id.guest rows)) p)
    by_place false is = absurd (cc)
    by_place true is =
        let same : id_of row ≡ id = cc in
        let found : row_with id.window (mine id.guest rows) ≡ Some row = row_with-mine id.guest id.window rows ∙ ap (λ (k : RowId). row_at k rows) (sym same) ∙ there in
        ap (λ (r : Option Row). colour_read (content_in r p)) (sym found)

pub content-alone : (setup : Setup) (rows own : List Row) (layers : Layers) (p : Point) (id : RowId) → mine id.guest rows ≡ own
    → shows_content_of setup.border rows layers p ≡ Some id → colour_at setup rows layers p ≡ colour_read (content_in (row_with id.window own) p)
content-alone setup rows own layers p id same is =
    shown-colour setup rows (topmost setup.border rows layers p) p id (last-there rows _ (layers.normal ++ layers.over)) is
    ∙ ap (λ (rs : List Row). colour_read (content_in (row_with id.window rs) p)) same

-- the pictures of a Snap, as records
pub pictures-composed : (painted : ℕ) (setup : Setup) (state : DeskState) (outputs : List Rect)
    → map (out_of painted) (map (picture_post setup state.scene.rows state.scene.layers) outputs) ≡ map (composed setup state.scene) outputs
pictures-composed painted setup state [] = refl
pictures-composed painted setup state (o ∷ outputs) = ap (λ ps. composed setup state.scene o ∷ ps) (pictures-composed painted setup state outputs)
