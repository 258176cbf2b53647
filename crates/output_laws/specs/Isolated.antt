-- What a run shows and tells: each picture is the composition of all windows, and each guest is told, and its windows
-- show, what it would get alone, from its own messages, the words that are read of its frames, and what is granted to it.
use Rattle.std.specs.Prelude.{◌≡◌, ◌<◌, ◌^◌, ℕ, List, ◌∷◌, ◌++◌, map, Option, Some, None}
use Rattle.std.specs.List.{All}
use Rattle.gui_num.specs.declared.Point.{Point}
use Rattle.gui_num.specs.declared.Rect.{Rect}
use Rattle.desk_laws.specs.declared.setup.Setup.{Setup}
use Rattle.desk_laws.specs.declared.item.Item.TheVariants as item
use Rattle.desk_laws.specs.declared.row_id.RowId.{RowId}
use Rattle.desk_laws.specs.Edges.{shows_content_of}
use Rattle.desk_laws.specs.Items.{FedItem}
use Rattle.desk_laws.specs.Picture.{colour_at, colour_read, content_under, picture}
use Rattle.desk_laws.specs.Rows.{Row, row_with}
use Rattle.desk_laws.specs.Rules.{first_broken}
use Rattle.desk_laws.specs.Scene.{Scene}
use Rattle.desk_laws.specs.State.{DeskState, opening}
use Rattle.desk_laws.specs.Steps.{count_of, run, step}
use Rattle.record_format.specs.OutputGrammar.{posts_bytes, ppm}
use Rattle.record_format.specs.OutputRecords.{guest_records, out_of, posts_read}
use Rattle.record_format.specs.PostFields.{OutPost, Picture}
use Rattle.run_laws.specs.GrantedContent.{IsGrantedAmong, moments}
use Rattle.output_laws.specs.RunRecords.{AllFit, CausesFit, alone_in}

-- the state of the desktop after these items
abbrev pub state_after : Setup → List FedItem → DeskState
state_after setup items = (run setup items (opening setup)).desk

-- the Picture record of an output: the composition of all windows, each pixel from scratch
abbrev pub composed : Setup → Scene → Rect → OutPost
composed setup scene output = Picture (ppm output.w output.h (picture setup scene.rows scene.layers output))

-- the content of a window at a pixel of the desktop, if there is such a window
abbrev pub content_in : Option Row → Point → Option ℕ
content_in None p = None
content_in (Some row) p = content_under row p

-- what bytes show at a Snap behind these items: of each output, in their order and behind all that was told before, the
-- composition; and a pixel that shows the content of a window has the colour that this window of its guest alone has there
pub record SnapsAlone (painted : ℕ) (setup : Setup) (front : List FedItem) (bytes : List ℕ) : Type 0 where
  pub rest : List OutPost
  pub pictures : posts_read bytes
      ≡ map (out_of painted) (run setup front (opening setup)).posts ++ (map (composed setup (state_after setup front).scene) setup.outputs ++ rest)
  pub contents : (p : Point) (id : RowId)
      → shows_content_of setup.border (state_after setup front).scene.rows (state_after setup front).scene.layers p ≡ Some id
      → colour_at setup (state_after setup front).scene.rows (state_after setup front).scene.layers p
      ≡ colour_read (content_in (row_with id.window (alone_in setup front id.guest).alone.rows) p)

-- what the bytes of a run of these items say: at each Snap the pictures, and in them of each guest what its windows show
-- alone; of each guest, in its Reply and Ended records, what it would be told alone; and each input that an item grants a guest carries
-- nothing but what the user did and what the window may know of itself
pub record AreIsolated (painted : ℕ) (setup : Setup) (items : List FedItem) (bytes : List ℕ) : Type 0 where
  pub snaps : (front behind : List FedItem) (piece : List ℕ) → items ≡ front ++ record { item = item.Snap; piece = piece } ∷ behind → SnapsAlone painted setup front bytes
  pub told : (guest : ℕ) → guest_records guest bytes ≡ map (out_of painted) (alone_in setup items guest).posts
  pub granted : (front behind : List FedItem) (i : FedItem) → items ≡ front ++ i ∷ behind
      → All (IsGrantedAmong setup.denied i.item (moments setup i.item i.piece (count_of i.item (state_after setup front)))) (step setup i.item i.piece (state_after setup front)).inputs

-- the bytes of each run are so
abbrev pub RunsAreIsolated : Type 0
RunsAreIsolated =
    (painted : ℕ) (setup : Setup) (items : List FedItem) → first_broken setup ≡ None → AllFit setup items → painted < 2 ^ 64 →
    CausesFit (run setup items (opening setup)).posts → AreIsolated painted setup items (posts_bytes painted (run setup items (opening setup)).posts)
