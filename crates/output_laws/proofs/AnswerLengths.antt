-- What a guest is told has a length of 32 bits.
use Rattle.std.proofs.Common.{◌<◌, ◌≤◌, ◌^◌, ℕ, Bool, true, false, ◌==◌, List, [], ◌∷◌, length, Option, Some, None, is_some, pos, arith}
use Rattle.std.specs.Prelude.{if◌then◌else◌, nat_lt, nat_le, ◌+◌, ◌/◌, ◌%◌, ◌-◌, replicate}
use Rattle.std.specs.List.{All}
use Rattle.std.proofs.lemmas.List.Elements.{All-nil, All-cons}
use Rattle.gui_num.specs.declared.Rect.{Rect}
use Rattle.gui_wire.specs.declared.limits.TheConstants.{MAX_CLIPBOARD_DATA}
use Rattle.gui_wire.specs.declared.Header.{Header}
use Rattle.gui_wire.specs.Words.{word}
use Rattle.gui_wire.specs.AgentMessages as agent
use Rattle.gui_wire.specs.AgentMessages.{AgentMessage, reading}
use Rattle.gui_wire.specs.DaemonMessages as daemon
use Rattle.gui_wire.specs.DaemonMessages.{DaemonMessage, daemon_body, daemon_spelling}
use Rattle.desk_laws.specs.declared.cause.Cause.{Cause}
use Rattle.desk_laws.specs.declared.cause.Cause.TheVariants.{BadVersion, PixelBudget}
use Rattle.desk_laws.specs.declared.input.GIn.{GIn}
use Rattle.desk_laws.specs.declared.input.GIn.TheVariants as g
use Rattle.desk_laws.specs.declared.limits.TheConstants.{VERSION_REPLY_MINOR, DUMP_ACK_MINOR}
use Rattle.desk_laws.specs.Sizes.{Sizes}
use Rattle.desk_laws.specs.Ranges.{rect_in_range}
use Rattle.desk_laws.specs.Rows.{Row, mine, row_with, placed_at}
use Rattle.desk_laws.specs.Stream.{StreamUnit, Word, Stop, Whole}
use Rattle.desk_laws.specs.Frames.{PortState}
use Rattle.desk_laws.specs.Outputs.{output_of}
use Rattle.desk_laws.specs.Tiles.{tiles_in_use, tiles_needed}
use Rattle.desk_laws.specs.Grants.{grant_answers}
use Rattle.desk_laws.specs.Effects.{Goes, Ends, Greets, Reads, Added, Replaced, Area, Verdict, effect, carried_out, verdict, unless, first_of_causes, exists_already, too_many, bad_ref, over_budget, refs_besides, range_fault, created, id_if, isnt_zero, as_one, flagged, goes_full, flagged_on, flags_after, configured_row, mapped_row, same_rect, tells_move, reads, clipped, tells_place, whole_output, xconf, acks, message_to_window, message_to, in_range_verdict, message_verdict, greeting}

-- ---- messages

-- a message whose length has 32 bits
abbrev pub IsShort : List ℕ → Type 0
IsShort bytes = length bytes < 2 ^ 32

abbrev pub AreShort : List (List ℕ) → Type 0
AreShort answers = All IsShort answers

pub none-short : AreShort []
none-short = All-nil IsShort

one-short : (answer : List ℕ) → IsShort answer → AreShort (answer ∷ [])
one-short answer short = All-cons IsShort answer [] short none-short

-- twelve bytes, and the body
told-short : (window : ℕ) (m : DaemonMessage) → length (daemon_body m) ≤ MAX_CLIPBOARD_DATA → AreShort (daemon_spelling window m ∷ [])
told-short window m fits = one-short (daemon_spelling window m) (omega (arith, fits))

place-short : (window : ℕ) (place : Rect) (over : Bool) → AreShort (tells_place window place over ∷ [])
place-short window place over = told-short window (daemon.Configure place.x place.y place.w place.h (as_one over)) (omega arith)

-- what a granted input answers, where what is pasted has at most so many bytes
pub grant-short : (input : GIn) (paste : List ℕ) → length paste ≤ MAX_CLIPBOARD_DATA → AreShort (grant_answers input paste)
grant-short (g.Key window down code state) paste fits = told-short window (daemon.Key (if down then 2 else 3) (pos 0) (pos 0) state code) (omega arith)
grant-short (g.Button window down x y state button) paste fits = told-short window (daemon.Button (if down then 4 else 5) x y state button) (omega arith)
grant-short (g.Motion window x y state) paste fits = told-short window (daemon.Motion x y state 0) (omega arith)
grant-short (g.Crossing window enter x y focus) paste fits = told-short window (daemon.Crossing (if enter then 7 else 8) x y 0 0 3 (as_one focus)) (omega arith)
grant-short (g.Focus window gained) paste fits = told-short window (daemon.Focus (if gained then 9 else 10) 0 3) (omega arith)
grant-short g.Keymap paste fits = told-short 0 (daemon.Keymap (replicate 32 0)) (omega arith)
grant-short (g.Close window) paste fits = told-short window daemon.Close (omega arith)
grant-short (g.Place window rect) paste fits = place-short window rect false
grant-short (g.Restored window) paste fits = none-short
grant-short (g.ClipAsk window) paste fits = told-short window daemon.ClipAsk (omega arith)
grant-short (g.ClipGive window) paste fits = told-short window (daemon.ClipGive paste) fits

-- ---- what a unit answers

-- what a verdict answers is short
abbrev AnswersShort : Verdict → Type 0
AnswersShort (Ends cause) = Unit {0}
AnswersShort (Greets minor answers) = AreShort answers
AnswersShort (Goes change answers) = AreShort answers
AnswersShort (Reads row area) = Unit {0}

unless-short : (o : Option Cause) (v : Verdict) → AnswersShort v → AnswersShort (unless o v)
unless-short None v short = short
unless-short (Some cause) v short = tt

module _ (sizes : Sizes) (own : List Row) (row : Row) where
  move-short : (new : Row) → AreShort (tells_move row new)
  move-short new = by_same (same_rect row.place new.place)
    where
      by_same : (b : Bool) → AreShort (if b then [] else tells_place new.window new.place true ∷ [])
      by_same true = none-short
      by_same false = place-short new.window new.place true

  flags-short : (flags : ℕ) → AnswersShort (flagged sizes row flags)
  flags-short flags = by_output (output_of sizes.outputs row.place)
    where
      by_full : (output : Rect) (b : Bool) → AnswersShort (if b
          then Goes (Replaced (placed_at (whole_output sizes output) (record row { flags = flags }))) (tells_place row.window (whole_output sizes output) false ∷ [])
          else Goes (Replaced (record row { flags = flags })) [])
      by_full output true = place-short row.window (whole_output sizes output) false
      by_full output false = none-short

      by_output : (o : Option Rect) → AnswersShort (flagged_on sizes o row flags)
      by_output None = none-short
      by_output (Some output) = by_full output (goes_full sizes row flags output)

  reads-short : (area : Area) → AnswersShort (reads sizes own row area)
  reads-short area = by_tiles (nat_lt (sizes.tiles - tiles_in_use own) (tiles_needed row area.x area.y area.w area.h))
    where
      by_tiles : (b : Bool) → AnswersShort (if b
          then Ends (PixelBudget (tiles_needed row area.x area.y area.w area.h) (sizes.tiles - tiles_in_use own))
          else Reads row area)
      by_tiles true = tt
      by_tiles false = tt

  acks-short : (minor : ℕ) → AreShort (acks minor row.window)
  acks-short minor = by_minor (nat_le DUMP_ACK_MINOR minor)
    where
      by_minor : (b : Bool) → AreShort (if b then daemon_spelling row.window daemon.DumpAck ∷ [] else [])
      by_minor true = told-short row.window daemon.DumpAck (omega arith)
      by_minor false = none-short

  window-short : (minor len : ℕ) (m : AgentMessage) → AnswersShort (message_to_window sizes minor own len m row)
  window-short minor len (agent.Create x y width height parent override_redirect) = none-short
  window-short minor len agent.Destroy = none-short
  window-short minor len (agent.Map transient_for override_redirect) =
      move-short (mapped_row sizes own (isnt_zero override_redirect) (id_if (is_some (row_with transient_for own)) transient_for) row)
  window-short minor len agent.Unmap = none-short
  window-short minor len (agent.Configure x y width height override_redirect) =
      let new : Row = configured_row sizes own (isnt_zero override_redirect) (rect_in_range x y width height) row in
      place-short new.window new.place new.over
  window-short minor len (agent.Shmimage x y width height) = reads-short (clipped row row.dump x y width height)
  window-short minor len (agent.ClipData bytes) = none-short
  window-short minor len (agent.Name text) = none-short
  window-short minor len agent.Dock = none-short
  window-short minor len (agent.Hints hints) = none-short
  window-short minor len (agent.Flags flags_set flags_unset) = flags-short (flags_after row.flags flags_set flags_unset)
  window-short minor len (agent.Class class name) = none-short
  window-short minor len (agent.WindowDump kind width height bpp refs) =
      unless-short (first_of_causes (bad_ref sizes.pages refs ∷ over_budget (refs_besides row.window own + length refs) sizes.pages ∷ []))
      (Goes (Replaced (record row { dump = Some (record { width = width; height = height; refs = refs }) })) (acks minor row.window))
      (acks-short minor)
  window-short minor len (agent.Cursor cursor) = none-short

module _ (sizes : Sizes) (guest minor : ℕ) (own : List Row) where
  known-short : (window len : ℕ) (m : AgentMessage) (o : Option Row) → AnswersShort (message_to sizes minor own window len m o)
  known-short window len m None = tt
  known-short window len m (Some row) = window-short sizes own row minor len m

  range-short : (window len : ℕ) (m : AgentMessage) → AnswersShort (in_range_verdict sizes guest minor own window len m)
  range-short window len (agent.Create x y width height parent override_redirect) =
      unless-short (first_of_causes (exists_already (row_with window own) window ∷ too_many own window ∷ []))
      (Goes (Added (created guest window (rect_in_range x y width height) (id_if (is_some (row_with parent own)) parent) (isnt_zero override_redirect))) []) none-short
  range-short window len (agent.ClipData bytes) = none-short
  range-short window len m = known-short window len m (row_with window own)

  message-short : (header : Header) (o : Option AgentMessage) → AnswersShort (message_verdict sizes guest minor own header o)
  message-short header None = tt
  message-short header (Some m) =
      unless-short (range_fault header.window header.len m) (in_range_verdict sizes guest minor own header.window header.len m) (range-short header.window header.len m)

  greeting-short : (version : ℕ) → AreShort (greeting sizes version)
  greeting-short version = by_minor (nat_le VERSION_REPLY_MINOR version)
    where
      numbers : AreShort (xconf sizes ∷ [])
      numbers = one-short (xconf sizes) (omega arith)

      by_minor : (b : Bool) → AreShort (if b then word 65543 ∷ xconf sizes ∷ [] else xconf sizes ∷ [])
      by_minor true = All-cons IsShort (word 65543) (xconf sizes ∷ []) (omega arith) numbers
      by_minor false = numbers

  verdict-short : (unit : StreamUnit) → AnswersShort (verdict sizes guest minor own unit)
  verdict-short (Word w) = by_version (w / 65536 == 1)
    where
      by_version : (b : Bool) → AnswersShort (if b then Greets (w % 65536) (greeting sizes (w % 65536)) else Ends (BadVersion w 0))
      by_version true = greeting-short (w % 65536)
      by_version false = tt
  verdict-short (Stop cause) = tt
  verdict-short (Whole header body) = message-short header (reading header.kind body)

carried-short : (guest minor : ℕ) (rows : List Row) (port : PortState) (v : Verdict) → AnswersShort v → AreShort (carried_out guest minor rows port v).answers
carried-short guest minor rows port (Ends cause) short = none-short
carried-short guest minor rows port (Greets next answers) short = short
carried-short guest minor rows port (Goes change answers) short = short
carried-short guest minor rows port (Reads row area) short = none-short

-- what a unit answers is short
pub effect-short : (sizes : Sizes) (guest minor : ℕ) (rows : List Row) (port : PortState) (unit : StreamUnit) → AreShort (effect sizes guest minor rows port unit).answers
effect-short sizes guest minor rows port unit =
    carried-short guest minor rows port (verdict sizes guest minor (mine guest rows) unit) (verdict-short sizes guest minor (mine guest rows) unit)
