-- What a checked message does to its guest's rows, and what it answers.
use Rattle.std.specs.Prelude.{◌≡◌, ℕ, ◌+◌, ◌≤◌, ◌<◌, ◌^◌, List, [], ◌∷◌, length, Option, Some, None, is_some, Result, Ok, Err}
use Rattle.gui_num.specs.declared.Rect.{Rect}
use Rattle.gui_wire.specs.Seen.{references}
use Rattle.desk_laws.specs.declared.cause.Cause.{Cause}
use Rattle.desk_laws.specs.declared.limits.TheConstants.{MAX_WINDOWS}
use Rattle.desk_laws.specs.Sizes.{Sizes}
use Rattle.desk_laws.specs.Rows.{Row, row_with}
use Rattle.desk_laws.specs.Frames.{PortState}
use Rattle.desk_laws.specs.Effects.{Change, Same, Added, Replaced, Removed, Area, clipped, reads, Verdict, Ends, Greets, Goes, Reads, created, id_if, isnt_zero, mapped_row, configured_row, flags_after, tells_move, acks, refs_besides}
use Rattle.desk_laws.specs.Scene.{Post, replies}
use Rattle.desk_laws.specs.Ranges.{IsPlace}
use Rattle.desk_laws.specs.Outputs.{output_of}
use Rattle.io_ports.specs.Posts.{Leads}
use Rattle.message_checks.specs.declared.command.Command.{Command}
use Rattle.message_checks.specs.declared.command.Command.TheVariants.{Create, Destroy, Map, Unmap, Configure, Shmimage, Clip, Name, Dock, Hints, Flags, Class, Dump, Cursor}
use Rattle.guest_session.specs.declared.edit.Edit.{Edit}
use Rattle.guest_session.specs.declared.edit.Edit.TheVariants as edit
use Rattle.guest_session.specs.RowsView.{RowsView, FitsDump, with_change, with_dump}
use Rattle.guest_session.specs.Reading.{ReadsArea, ReadsAs}
use Rattle.guest_session.specs.Edits.{row_edited}
use Rattle.guest_session.specs.Placing.{flagged_row, tells_full, tells_row}

-- the rows changed like this, and the guest was answered
pub record Answered {O : Type 0} (takes : O → Post → O → Type 0) (out out' : O) (old new : RowsView) (change : Change) (answers : List (List ℕ)) : Type 0 where
  pub rows : new ≡ with_change change old
  pub told : Leads takes out (replies old.guest answers) out'

-- the row of a window changed like this, and the guest was answered
abbrev pub AnsweredFor : {O : Type 0} → (O → Post → O → Type 0) → O → O → RowsView → RowsView → ℕ → (Row → Row) → (Row → List (List ℕ)) → Type 0
AnsweredFor takes out out' old new window change answers =
    (row : Row) → row_with window old.rows ≡ Some row → Answered takes out out' old new (Replaced (change row)) (answers row)

-- one window alone changed, and nothing was answered
abbrev pub Edited : {O : Type 0} → (O → Post → O → Type 0) → O → O → RowsView → RowsView → ℕ → Edit → Type 0
Edited takes out out' old new window change =
    AnsweredFor takes out out' old new window (row_edited change) (λ row. [])

-- what a command for a window did to the rows, and what was answered, under these numbers and this minor version;
-- nothing is said of SHMIMAGE, which reads
abbrev pub Changes : {O : Type 0} → (O → Post → O → Type 0) → O → O → RowsView → RowsView → Sizes → ℕ → ℕ → Command → Type 0
Changes takes out out' old new sizes minor window (Create rect parent override_redirect) =
    Answered takes out out' old new
    (Added (created old.guest window rect (id_if (is_some (row_with parent old.rows)) parent) (isnt_zero override_redirect))) []
Changes takes out out' old new sizes minor window Destroy =
    (row : Row) → row_with window old.rows ≡ Some row → Answered takes out out' old new (Removed window) []
Changes takes out out' old new sizes minor window (Map transient_for override_redirect) =
    AnsweredFor takes out out' old new window
    (mapped_row sizes old.rows (isnt_zero override_redirect) (id_if (is_some (row_with transient_for old.rows)) transient_for))
    (λ row. tells_move row
    (mapped_row sizes old.rows (isnt_zero override_redirect) (id_if (is_some (row_with transient_for old.rows)) transient_for) row))
Changes takes out out' old new sizes minor window Unmap = Edited takes out out' old new window edit.Unmap
Changes takes out out' old new sizes minor window (Configure rect override_redirect) =
    AnsweredFor takes out out' old new window (configured_row sizes old.rows (isnt_zero override_redirect) rect)
    (λ row. tells_row (configured_row sizes old.rows (isnt_zero override_redirect) rect row) ∷ [])
Changes takes out out' old new sizes minor window (Shmimage x y width height) = Unit {0}
Changes takes out out' old new sizes minor window (Clip bytes) = Answered takes out out' old new Same []
Changes takes out out' old new sizes minor window (Name text) = Edited takes out out' old new window (edit.Title text)
Changes takes out out' old new sizes minor window Dock = Edited takes out out' old new window edit.Dock
Changes takes out out' old new sizes minor window (Hints hints) = Edited takes out out' old new window (edit.Hints hints)
Changes takes out out' old new sizes minor window (Flags flags_set flags_unset) =
    AnsweredFor takes out out' old new window
    (λ row. flagged_row sizes (output_of sizes.outputs row.place) (flags_after row.flags flags_set flags_unset) row)
    (λ row. tells_full sizes (output_of sizes.outputs row.place) (flags_after row.flags flags_set flags_unset) row)
Changes takes out out' old new sizes minor window (Class class name) = Edited takes out out' old new window (edit.Class class name)
Changes takes out out' old new sizes minor window (Dump kind width height bpp refs) =
    AnsweredFor takes out out' old new window (with_dump width height (references refs)) (λ row. acks minor window)
Changes takes out out' old new sizes minor window (Cursor cursor) = Edited takes out out' old new window (edit.Cursor cursor)

-- the rows changed and the guest was answered as the command asks for, and no frame was read
pub record Quiet {O : Type 0} (takes : O → Post → O → Type 0) (out out' : O) (port port' : PortState) (old new : RowsView) (result : Result (Option Rect) Cause) (sizes : Sizes) (minor window : ℕ) (command : Command) : Type 0 where
  pub answer : result ≡ Ok None
  pub changes : Changes takes out out' old new sizes minor window command
  pub unread : port' ≡ port

-- an area of a window was read, or too many tiles would be taken; the guest was answered nothing
pub record Looked {O : Type 0} (out out' : O) (port port' : PortState) (old new : RowsView) (result : Result (Option Rect) Cause) (window x y width height : ℕ) : Type 0 where
  pub read : (sizes : Sizes) → sizes.tiles ≡ old.tiles → (row : Row) → row_with window old.rows ≡ Some row →
      ReadsAs port port' old new result (reads sizes old.rows row (clipped row row.dump x y width height))
  pub silent : out' ≡ out

-- what a command for a window did, under this minor version
abbrev pub Obeyed : {O : Type 0} → (O → Post → O → Type 0) → O → O → PortState → PortState → RowsView → RowsView → Result (Option Rect) Cause → Sizes → ℕ → ℕ → Command → Type 0
Obeyed takes out out' port port' old new result sizes minor window (Shmimage x y width height) =
    Looked out out' port port' old new result window x y width height
Obeyed takes out out' port port' old new result sizes minor window command =
    Quiet takes out out' port port' old new result sizes minor window command

-- a command that can be obeyed: what it needs of the rows, and of itself
abbrev pub CanObey : RowsView → ℕ → Command → Type 0
CanObey rows window (Create rect parent override_redirect) =
    (row_with window rows.rows ≡ None) × (length rows.rows < MAX_WINDOWS) × IsPlace rect
CanObey rows window (Configure rect override_redirect) = IsPlace rect
CanObey rows window (Shmimage x y width height) = (x < 2 ^ 31) × (y < 2 ^ 31) × (width < 2 ^ 31) × (height < 2 ^ 31)
CanObey rows window (Name text) = length text.now ≤ 128
CanObey rows window (Class class name) = (length class.now ≤ 64) × (length name.now ≤ 64)
CanObey rows window (Dump kind width height bpp refs) =
    (refs_besides window rows.rows + length (references refs) ≤ rows.pages) × FitsDump rows.pages width height (references refs)
CanObey rows window command = Unit {0}

-- nothing came of a message, and it is refused for this cause
pub record Refused {O : Type 0} (out out' : O) (port port' : PortState) (old new : RowsView) (result : Result (Option Rect) Cause) (cause : Cause) : Type 0 where
  pub answer : result ≡ Err cause
  pub rows : new ≡ old
  pub silent : out' ≡ out
  pub unread : port' ≡ port

-- a message was taken, and answered
pub record Accepted {O : Type 0} (takes : O → Post → O → Type 0) (out out' : O) (port port' : PortState) (old new : RowsView) (result : Result (Option Rect) Cause) (change : Change) (answers : List (List ℕ)) : Type 0 where
  pub answer : result ≡ Ok None
  pub done : Answered takes out out' old new change answers
  pub unread : port' ≡ port

-- an area was read, and nothing was answered
pub record HasRead {O : Type 0} (out out' : O) (port port' : PortState) (old new : RowsView) (result : Result (Option Rect) Cause) (row : Row) (area : Area) : Type 0 where
  pub read : ReadsArea port port' old new result row area
  pub silent : out' ≡ out

-- what became of a message with this verdict
abbrev pub Carries : {O : Type 0} → (O → Post → O → Type 0) → O → O → PortState → PortState → RowsView → RowsView → Result (Option Rect) Cause → Verdict → Type 0
Carries takes out out' port port' old new result (Ends cause) = Refused out out' port port' old new result cause
Carries takes out out' port port' old new result (Greets minor answers) = ⊥
Carries takes out out' port port' old new result (Goes change answers) = Accepted takes out out' port port' old new result change answers
Carries takes out out' port port' old new result (Reads row area) = HasRead out out' port port' old new result row area
