-- What a unit of a guest does: to its rows, its minor number and its frames, and what it answers.
use Rattle.std.specs.Prelude.{ℕ, ◌+◌, ◌-◌, ◌*◌, ◌/◌, ◌%◌, ◌^◌, min, Bool, true, false, ◌&&◌, ◌||◌, not, ◌==◌, nat_lt, nat_le, List, [], ◌∷◌, ◌++◌, map, filter, length, replicate, sum_by, take_while, slice_index, slice_set, Option, Some, None, is_some, bit_and, bit_or, if◌then◌else◌, ℤ, pos, ◌+ℤ◌, int_le}
use Rattle.gui_num.specs.declared.Rect.{Rect}
use Rattle.gui_wire.specs.declared.Header.{Header}
use Rattle.gui_wire.specs.Words.{word, words}
use Rattle.gui_wire.specs.AgentMessages as agent
use Rattle.gui_wire.specs.AgentMessages.{AgentMessage, reading}
use Rattle.gui_wire.specs.DaemonMessages as daemon
use Rattle.gui_wire.specs.DaemonMessages.{DaemonMessage, daemon_spelling}
use Rattle.gui_wire.specs.declared.limits.TheConstants.{MAX_WINDOW_WIDTH, MAX_WINDOW_HEIGHT, WINDOW_FLAG_FULLSCREEN, WINDOW_FLAG_MINIMIZE, WINDOW_FLAGS}
use Rattle.desk_laws.specs.declared.limits.TheConstants.{MAX_WINDOWS, PAGE_BYTES, VERSION_REPLY_MINOR, DUMP_ACK_MINOR}
use Rattle.desk_laws.specs.Sizes.{Sizes}
use Rattle.desk_laws.specs.declared.cause.Cause.{Cause}
use Rattle.desk_laws.specs.declared.cause.Cause.TheVariants.{BadVersion, BadType, BadLength, BadRange, UnknownWindow, WindowExists, TooManyWindows, RefRange, FrameBudget, PixelBudget}
use Rattle.desk_laws.specs.Stream.{StreamUnit, Word, Stop, Whole}
use Rattle.desk_laws.specs.Rows.{Row, DumpOf, mine, is_row, row_with, has_flag, grid, placed_at}
use Rattle.desk_laws.specs.Ranges.{rect_in_range}
use Rattle.desk_laws.specs.Outputs.{output_of}
use Rattle.desk_laws.specs.Override.{Placement, effective, taken_besides}
use Rattle.desk_laws.specs.Tiles.{tiles_in_use, tiles_needed}
use Rattle.desk_laws.specs.Frames.{PortState, FramePlace, Loads, load_all}

-- ---- a change of the rows of one guest

pub data Change : Type 0 where
  -- nothing
  Same : Change
  -- a new row, last
  Added : Row → Change
  -- the row of the same window becomes this row
  Replaced : Row → Change
  -- the window's row is gone, and rows that named it name 0
  Removed : ℕ → Change
  -- all are gone
  Cleared : Change

-- a row of this guest
abbrev pub of_guest : ℕ → Row → Row
of_guest guest row = record row { guest = guest }

abbrev pub replaced_in : ℕ → Row → Row → Row
replaced_in guest new row = if is_row guest new.window row then of_guest guest new else row

-- a name that isn't the window's, or 0
abbrev pub name_without : ℕ → ℕ → ℕ
name_without window name = if name == window then 0 else name

abbrev pub forgets : ℕ → ℕ → Row → Row
forgets guest window row =
    if row.guest == guest
    then record row { parent = name_without window row.parent; transient = name_without window row.transient }
    else row

-- the rows of all guests after a change of one guest's
abbrev pub changed : ℕ → Change → List Row → List Row
changed guest Same rows = rows
changed guest (Added row) rows = rows ++ of_guest guest row ∷ []
changed guest (Replaced new) rows = map (replaced_in guest new) rows
changed guest (Removed window) rows = map (forgets guest window) (filter (λ row. not (is_row guest window row)) rows)
changed guest Cleared rows = filter (λ row. not (row.guest == guest)) rows

-- ---- the first cause

-- the number of a field with bit 31 set
abbrev pub high_bit : ℕ → ℕ → Option Cause
high_bit field value = if nat_lt value (2 ^ 31) then None else Some (BadRange field value)

abbrev pub out_of : Bool → ℕ → ℕ → Option Cause
out_of bad field value = if bad then Some (BadRange field value) else None

-- the first cause of several
abbrev pub first_of_causes : List (Option Cause) → Option Cause
first_of_causes [] = None
first_of_causes (None ∷ causes) = first_of_causes causes
first_of_causes (Some cause ∷ causes) = Some cause

abbrev pub unknown : Option Row → ℕ → Option Cause
unknown None window = Some (UnknownWindow window 0)
unknown (Some row) window = None

abbrev pub exists_already : Option Row → ℕ → Option Cause
exists_already None window = None
exists_already (Some row) window = Some (WindowExists window 0)

abbrev pub too_many : List Row → ℕ → Option Cause
too_many own window = if nat_lt (length own) MAX_WINDOWS then None else Some (TooManyWindows window MAX_WINDOWS)

-- the first reference that isn't one of the pages
abbrev pub bad_ref : ℕ → List ℕ → Option Cause
bad_ref pages [] = None
bad_ref pages (ref ∷ refs) = if nat_lt ref pages then bad_ref pages refs else Some (RefRange ref pages)

abbrev pub refs_of : Option DumpOf → ℕ
refs_of None = 0
refs_of (Some dump) = length dump.refs

-- the references of a guest's rows other than this one
abbrev pub refs_besides : ℕ → List Row → ℕ
refs_besides window own = sum_by (λ row. if row.window == window then 0 else refs_of row.dump) own

abbrev pub over_budget : ℕ → ℕ → Option Cause
over_budget need pages = if nat_lt pages need then Some (FrameBudget need pages) else None

-- the references that a dump of this size needs
abbrev pub pages_for : ℕ → ℕ → ℕ
pages_for width height = (4 * width * height + (PAGE_BYTES - 1)) / PAGE_BYTES

abbrev pub wrong_count : ℕ → ℕ → ℕ → Option Cause
wrong_count refs pages len = if refs == pages then None else Some (BadLength len 0)

-- ---- what is read of a frame

-- columns x to x + w and rows y to y + h of a window
pub record Area : Type 0 where
  pub x : ℕ
  pub y : ℕ
  pub w : ℕ
  pub h : ℕ

abbrev pub no_area : Area
no_area = record { x = 0; y = 0; w = 0; h = 0 }

-- the part of a side from a on that lies below both limits
abbrev pub side_within : ℕ → ℕ → ℕ → ℕ → ℕ
side_within a n limit limit' = min (a + n) (min limit limit') - a

-- the area of an SHMIMAGE clipped to the dump and to the row
abbrev pub clipped : Row → Option DumpOf → ℕ → ℕ → ℕ → ℕ → Area
clipped row None x y w h = no_area
clipped row (Some dump) x y w h = record {
  x = x;
  y = y;
  w = side_within x w dump.width row.place.w;
  h = side_within y h dump.height row.place.h;
}

abbrev pub points : Area → List (ℕ × ℕ)
points a = grid a.x a.y a.w a.h

-- where the word of a pixel lies
abbrev pub frame_place : DumpOf → ℕ × ℕ → FramePlace
frame_place dump p = record {
  page = slice_index dump.refs (4 * (p.1 * dump.width + p.0) / PAGE_BYTES);
  word = 4 * (p.1 * dump.width + p.0) % PAGE_BYTES / 4;
}

abbrev pub frame_places : Option DumpOf → List (ℕ × ℕ) → List FramePlace
frame_places None ps = []
frame_places (Some dump) ps = map (frame_place dump) ps

-- the contents of a window of this width once the words of these pixels were read
abbrev pub drawn : ℕ → List (Option ℕ) → List (ℕ × ℕ) → List ℕ → List (Option ℕ)
drawn width contents [] words = contents
drawn width contents (p ∷ ps) [] = contents
drawn width contents (p ∷ ps) (w ∷ ws) = drawn width (slice_set contents (p.1 * width + p.0) (Some (w % 2 ^ 24))) ps ws

-- ---- a message's verdict

-- what a unit does: it ends the session, greets, changes rows and answers, or reads an area of a row
pub data Verdict : Type 0 where
  Ends : Cause → Verdict
  Greets : (minor : ℕ) (answers : List (List ℕ)) → Verdict
  Goes : Change → (answers : List (List ℕ)) → Verdict
  Reads : Row → Area → Verdict

abbrev pub unless : Option Cause → Verdict → Verdict
unless (Some cause) verdict = Ends cause
unless None verdict = verdict

-- a text up to its first zero byte, each byte that doesn't print as `_`
abbrev pub printed : ℕ → ℕ
printed c = if nat_le 32 c && nat_le c 126 then c else 95

abbrev pub text_of : List ℕ → List ℕ
text_of bytes = map printed (take_while (λ c. not (c == 0)) bytes)

abbrev pub isnt_zero : ℕ → Bool
isnt_zero n = not (n == 0)

abbrev pub id_if : Bool → ℕ → ℕ
id_if known id = if known then id else 0

abbrev pub as_one : Bool → ℕ
as_one b = if b then 1 else 0

-- the answer that tells a row's place
abbrev pub tells_place : ℕ → Rect → Bool → List ℕ
tells_place window place over = daemon_spelling window (daemon.Configure place.x place.y place.w place.h (as_one over))

abbrev pub same_z : ℤ → ℤ → Bool
same_z a b = int_le a b && int_le b a

abbrev pub same_rect : Rect → Rect → Bool
same_rect a b = (same_z a.x b.x && same_z a.y b.y) && (a.w == b.w && a.h == b.h)

-- flags without some of them
abbrev pub flags_without : ℕ → ℕ → ℕ
flags_without flags unset = flags - bit_and flags unset

abbrev pub flags_after : ℕ → ℕ → ℕ → ℕ
flags_after flags set unset = bit_and (bit_or (flags_without flags unset) set) WINDOW_FLAGS

-- a row placed by the override rule
abbrev pub placed_by : Placement → Row → Row
placed_by placed row = record (placed_at placed.rect row) { over = placed.over }

-- the row of an accepted CREATE
abbrev pub created : ℕ → ℕ → Rect → ℕ → Bool → Row
created guest window place parent asked = record {
  guest = guest;
  window = window;
  place = place;
  mapped = false;
  asked = asked;
  over = false;
  parent = parent;
  transient = 0;
  title = [];
  class = [];
  name = [];
  hints = replicate 9 0;
  flags = 0;
  cursor = 0;
  docked = false;
  dump = None;
  contents = replicate (place.w * place.h) None;
}

-- a row moved by the override rule, with the size that it has
abbrev pub moved_by : Placement → Row → Row
moved_by placed row = record row { place = placed.rect; over = placed.over }

-- MAP of a row, by the override rule, which never changes its size
abbrev pub mapped_row : Sizes → List Row → Bool → ℕ → Row → Row
mapped_row sizes own asked transient row =
    moved_by (effective sizes asked row.place (taken_besides sizes.border row.window own))
    (record row { mapped = true; asked = asked; transient = transient })

-- the answer to MAP: the place, where it changed
abbrev pub tells_move : Row → Row → List (List ℕ)
tells_move old new = if same_rect old.place new.place then [] else tells_place new.window new.place true ∷ []

abbrev pub unmapped_row : Row → Row
unmapped_row row = record row { mapped = false; over = false; flags = flags_without row.flags WINDOW_FLAG_MINIMIZE }

-- CONFIGURE of a row: by the override rule where it is mapped
abbrev pub configured_row : Sizes → List Row → Bool → Rect → Row → Row
configured_row sizes own asked place row =
    if row.mapped
    then placed_by (effective sizes asked place (taken_besides sizes.border row.window own)) (record row { asked = asked })
    else placed_at place (record row { asked = asked })

-- an output less the border
abbrev pub whole_output : Sizes → Rect → Rect
whole_output sizes output = record {
  x = output.x +ℤ pos sizes.border;
  y = output.y +ℤ pos sizes.border;
  w = output.w - 2 * sizes.border;
  h = min MAX_WINDOW_HEIGHT (output.h - 2 * sizes.border);
}

-- whether WINDOW_FLAGS puts the row on a whole output
abbrev pub goes_full : Sizes → Row → ℕ → Rect → Bool
goes_full sizes row flags output =
    ((not (has_flag WINDOW_FLAG_FULLSCREEN row.flags) && has_flag WINDOW_FLAG_FULLSCREEN flags) && not row.over)
    && (nat_lt (2 * sizes.border) output.w && nat_lt (2 * sizes.border) output.h)

-- WINDOW_FLAGS of a row whose output is this one
abbrev pub flagged_on : Sizes → Option Rect → Row → ℕ → Verdict
flagged_on sizes None row flags = Goes (Replaced (record row { flags = flags })) []
flagged_on sizes (Some output) row flags =
    if goes_full sizes row flags output
    then Goes (Replaced (placed_at (whole_output sizes output) (record row { flags = flags })))
    (tells_place row.window (whole_output sizes output) false ∷ [])
    else Goes (Replaced (record row { flags = flags })) []

-- WINDOW_FLAGS of a row, on the output that has its upper left corner
abbrev pub flagged : Sizes → Row → ℕ → Verdict
flagged sizes row flags = flagged_on sizes (output_of sizes.outputs row.place) row flags

abbrev pub acks : ℕ → ℕ → List (List ℕ)
acks minor window = if nat_le DUMP_ACK_MINOR minor then daemon_spelling window daemon.DumpAck ∷ [] else []

abbrev pub reads : Sizes → List Row → Row → Area → Verdict
reads sizes own row area =
    if nat_lt (sizes.tiles - tiles_in_use own) (tiles_needed row area.x area.y area.w area.h)
    then Ends (PixelBudget (tiles_needed row area.x area.y area.w area.h) (sizes.tiles - tiles_in_use own))
    else Reads row area

-- a message for a window that has this row
abbrev pub message_to_window : Sizes → ℕ → List Row → ℕ → AgentMessage → Row → Verdict
message_to_window sizes minor own len (agent.Create x y width height parent override_redirect) row = Goes Same []
message_to_window sizes minor own len agent.Destroy row = Goes (Removed row.window) []
message_to_window sizes minor own len (agent.Map transient_for override_redirect) row =
    let new = mapped_row sizes own (isnt_zero override_redirect) (id_if (is_some (row_with transient_for own)) transient_for) row in
    Goes (Replaced new) (tells_move row new)
message_to_window sizes minor own len agent.Unmap row = Goes (Replaced (unmapped_row row)) []
message_to_window sizes minor own len (agent.Configure x y width height override_redirect) row =
    let new = configured_row sizes own (isnt_zero override_redirect) (rect_in_range x y width height) row in
    Goes (Replaced new) (tells_place new.window new.place new.over ∷ [])
message_to_window sizes minor own len (agent.Shmimage x y width height) row = reads sizes own row (clipped row row.dump x y width height)
message_to_window sizes minor own len (agent.ClipData bytes) row = Goes Same []
message_to_window sizes minor own len (agent.Name text) row = Goes (Replaced (record row { title = text_of text })) []
message_to_window sizes minor own len agent.Dock row = Goes (Replaced (record row { docked = true })) []
message_to_window sizes minor own len (agent.Hints hints) row = Goes (Replaced (record row { hints = hints })) []
message_to_window sizes minor own len (agent.Flags flags_set flags_unset) row = flagged sizes row (flags_after row.flags flags_set flags_unset)
message_to_window sizes minor own len (agent.Class class name) row = Goes (Replaced (record row { class = text_of class; name = text_of name })) []
message_to_window sizes minor own len (agent.WindowDump kind width height bpp refs) row =
    unless (first_of_causes (bad_ref sizes.pages refs ∷ over_budget (refs_besides row.window own + length refs) sizes.pages ∷ []))
    (Goes (Replaced (record row { dump = Some (record { width = width; height = height; refs = refs }) })) (acks minor row.window))
message_to_window sizes minor own len (agent.Cursor cursor) row = Goes (Replaced (record row { cursor = cursor })) []

abbrev pub message_to : Sizes → ℕ → List Row → ℕ → ℕ → AgentMessage → Option Row → Verdict
message_to sizes minor own window len m None = Ends (UnknownWindow window 0)
message_to sizes minor own window len m (Some row) = message_to_window sizes minor own len m row

-- the fields out of their ranges, in the order in which they are looked at; a dump's length last
abbrev pub range_fault : ℕ → ℕ → AgentMessage → Option Cause
range_fault window len (agent.Create x y width height parent override_redirect) =
    first_of_causes (out_of (window == 0) 0 window ∷ high_bit 3 width ∷ high_bit 4 height ∷ [])
range_fault window len agent.Destroy = None
range_fault window len (agent.Map transient_for override_redirect) = None
range_fault window len agent.Unmap = None
range_fault window len (agent.Configure x y width height override_redirect) =
    first_of_causes (high_bit 3 width ∷ high_bit 4 height ∷ [])
range_fault window len (agent.Shmimage x y width height) =
    first_of_causes (high_bit 1 x ∷ high_bit 2 y ∷ high_bit 3 width ∷ high_bit 4 height ∷ [])
range_fault window len (agent.ClipData bytes) = None
range_fault window len (agent.Name text) = None
range_fault window len agent.Dock = None
range_fault window len (agent.Hints hints) = None
range_fault window len (agent.Flags flags_set flags_unset) = None
range_fault window len (agent.Class class name) = None
range_fault window len (agent.WindowDump kind width height bpp refs) =
    first_of_causes (out_of (isnt_zero kind) 1 kind
    ∷ out_of (width == 0 || nat_lt MAX_WINDOW_WIDTH width) 2 width
    ∷ out_of (height == 0 || nat_lt MAX_WINDOW_HEIGHT height) 3 height
    ∷ out_of (not (bpp == 24 || bpp == 32)) 4 bpp
    ∷ wrong_count (length refs) (pages_for width height) len ∷ [])
range_fault window len (agent.Cursor cursor) = None

-- what a message does among its guest's rows
abbrev pub in_range_verdict : Sizes → ℕ → ℕ → List Row → ℕ → ℕ → AgentMessage → Verdict
in_range_verdict sizes guest minor own window len (agent.Create x y width height parent override_redirect) =
    unless (first_of_causes (exists_already (row_with window own) window ∷ too_many own window ∷ []))
    (Goes (Added (created guest window (rect_in_range x y width height)
    (id_if (is_some (row_with parent own)) parent) (isnt_zero override_redirect))) [])
in_range_verdict sizes guest minor own window len (agent.ClipData bytes) = Goes Same []
in_range_verdict sizes guest minor own window len m = message_to sizes minor own window len m (row_with window own)

abbrev pub message_verdict : Sizes → ℕ → ℕ → List Row → Header → Option AgentMessage → Verdict
message_verdict sizes guest minor own header None = Ends (BadType header.kind 0)
message_verdict sizes guest minor own header (Some m) =
    unless (range_fault header.window header.len m)
    (in_range_verdict sizes guest minor own header.window header.len m)

-- the numbers of the desktop that answer the version
abbrev pub xconf : Sizes → List ℕ
xconf sizes = words (sizes.width ∷ sizes.height ∷ 24 ∷ (sizes.width * sizes.height * 4 + 1023) / 1024 ∷ [])

-- the answers to the version: the daemon's own from a minor version on, and the desktop
abbrev pub greeting : Sizes → ℕ → List (List ℕ)
greeting sizes minor = if nat_le VERSION_REPLY_MINOR minor then word 65543 ∷ xconf sizes ∷ [] else xconf sizes ∷ []

-- what a unit does, decided from its guest's own rows
abbrev pub verdict : Sizes → ℕ → ℕ → List Row → StreamUnit → Verdict
verdict sizes guest minor own (Word w) =
    if w / 65536 == 1 then Greets (w % 65536) (greeting sizes (w % 65536)) else Ends (BadVersion w 0)
verdict sizes guest minor own (Stop cause) = Ends cause
verdict sizes guest minor own (Whole header body) =
    message_verdict sizes guest minor own header (reading header.kind body)

-- ---- the effect

pub record Effect : Type 0 where
  pub rows : List Row
  pub minor : ℕ
  pub port : PortState
  pub answers : List (List ℕ)
  pub readings : List ℕ
  pub cause : Option Cause

-- the row whose area was read
abbrev pub drawn_row : Row → Area → List ℕ → Row
drawn_row row area words = record row { contents = drawn row.place.w row.contents (points area) words }

abbrev pub read_with : ℕ → ℕ → List Row → Row → Area → Loads → Effect
read_with guest minor rows row area g = record {
  rows = changed guest (Replaced (drawn_row row area g.words)) rows;
  minor = minor;
  port = g.port;
  answers = [];
  readings = g.words;
  cause = None;
}

abbrev pub carried_out : ℕ → ℕ → List Row → PortState → Verdict → Effect
carried_out guest minor rows port (Ends cause) = record {
  rows = changed guest Cleared rows;
  minor = minor;
  port = port;
  answers = [];
  readings = [];
  cause = Some cause;
}
carried_out guest minor rows port (Greets minor' answers) = record {
  rows = rows;
  minor = minor';
  port = port;
  answers = answers;
  readings = [];
  cause = None;
}
carried_out guest minor rows port (Goes change answers) = record {
  rows = changed guest change rows;
  minor = minor;
  port = port;
  answers = answers;
  readings = [];
  cause = None;
}
carried_out guest minor rows port (Reads row area) =
    read_with guest minor rows row area (load_all port (frame_places row.dump (points area)))

abbrev pub effect : Sizes → ℕ → ℕ → List Row → PortState → StreamUnit → Effect
effect sizes guest minor rows port unit =
    carried_out guest minor rows port (verdict sizes guest minor (mine guest rows) unit)
