-- A message changes the row of its own window alone.
use Rattle.std.proofs.Common.{◌≡◌, ℕ, Bool, true, false, ◌==◌, List, [], ◌∷◌, Option, Some, None, is_some, refl, sym, ◌∙◌, ap, subst}
use Rattle.std.specs.Prelude.{if◌then◌else◌, length, ◌+◌, ◌-◌, nat_lt, ◌/◌, ◌%◌}
use Rattle.std.proofs.lemmas.Bool.{eqb-true}
use Rattle.gui_num.specs.declared.Rect.{Rect}
use Rattle.gui_wire.specs.declared.Header.{Header}
use Rattle.gui_wire.specs.AgentMessages as agent
use Rattle.gui_wire.specs.AgentMessages.{AgentMessage, reading}
use Rattle.desk_laws.specs.declared.cause.Cause.{Cause}
use Rattle.desk_laws.specs.Sizes.{Sizes}
use Rattle.desk_laws.specs.Ranges.{rect_in_range}
use Rattle.desk_laws.specs.Rows.{Row, row_with, placed_at}
use Rattle.desk_laws.specs.declared.cause.Cause.TheVariants.{PixelBudget, BadVersion}
use Rattle.desk_laws.specs.Stream.{StreamUnit, Word, Stop, Whole}
use Rattle.desk_laws.specs.Outputs.{output_of}
use Rattle.desk_laws.specs.Override.{effective, taken_besides}
use Rattle.desk_laws.specs.Tiles.{tiles_in_use, tiles_needed}
use Rattle.desk_laws.specs.Effects.{Area, clipped, placed_by, mapped_row, unmapped_row, text_of, Same, Added, Replaced, Verdict, Ends, Greets, Goes, Reads, unless, first_of_causes, exists_already, too_many, bad_ref, over_budget, refs_besides, range_fault, created, id_if, isnt_zero, flagged, goes_full, flagged_on, flags_after, configured_row, reads, tells_place, whole_output, acks, message_to_window, message_to, in_range_verdict, message_verdict, verdict, greeting}
use Rattle.desk_laws.specs.Following.{ChangesOne, MessagesChangeOne, MessagesReadOne}

-- what is known of a verdict: where it changes rows or reads pixels, they are those of one window
abbrev pub IsOfOne : ℕ → List Row → Verdict → Type 0
IsOfOne window own (Ends cause) = Unit {0}
IsOfOne window own (Greets minor answers) = Unit {0}
IsOfOne window own (Goes change answers) = ChangesOne window own change
IsOfOne window own (Reads row area) = row_with window own ≡ Some row

-- the row that is found is the window's
pub found-window : (window : ℕ) (rows : List Row) (row : Row) → row_with window rows ≡ Some row → row.window ≡ window
found-window window [] row is = cc
found-window window (r ∷ rows) row is = by_test (r.window == window) refl is (λ h. found-window window rows row h)
  where
    by_test : (b : Bool) → (r.window == window) ≡ b → (if b then Some r else row_with window rows) ≡ Some row
        → (row_with window rows ≡ Some row → row.window ≡ window) → row.window ≡ window
    by_test true e h ih = let same : r ≡ row = cc in ap (λ x. x.window) (sym same) ∙ eqb-true r.window window e
    by_test false e h ih = ih h

module _ (window : ℕ) (own : List Row) where
  of_unless : (o : Option Cause) (v : Verdict) → IsOfOne window own v → IsOfOne window own (unless o v)
  of_unless None v is = is
  of_unless (Some cause) v is = tt

  nothing : ChangesOne window own Same
  nothing = record { alone = tt; from = tt }

  of_create : (o : Option Row) → row_with window own ≡ o → (many : Option Cause) (row : Row) → row.window ≡ window → row.mapped ≡ false
      → IsOfOne window own (unless (first_of_causes (exists_already o window ∷ many ∷ [])) (Goes (Added row) []))
  of_create None is None row named unmapped = record { alone = named; from = (is, unmapped) }
  of_create None is (Some cause) row named unmapped = tt
  of_create (Some other) is many row named unmapped = tt

  module _ (row : Row) (is : row_with window own ≡ Some row) where
    known : is_some (row_with window own) ≡ true
    known = ap is_some is

    named : row.window ≡ window
    named = found-window window own row is

    replaces : (new : Row) → new.window ≡ row.window → ChangesOne window own (Replaced new)
    replaces new same = record { alone = same ∙ named; from = known }

    of_flags : (sizes : Sizes) (flags : ℕ) → IsOfOne window own (flagged sizes row flags)
    of_flags sizes flags = by_output (output_of sizes.outputs row.place)
      where
        full : Rect → Row
        full output = placed_at (whole_output sizes output) (record row { flags = flags })

        by_full : (output : Rect) (b : Bool) → IsOfOne window own (if b
            then Goes (Replaced (full output)) (tells_place row.window (whole_output sizes output) false ∷ [])
            else Goes (Replaced (record row { flags = flags })) [])
        by_full output true = replaces (full output) refl
        by_full output false = replaces (record row { flags = flags }) refl

        by_output : (o : Option Rect) → IsOfOne window own (flagged_on sizes o row flags)
        by_output None = replaces (record row { flags = flags }) refl
        by_output (Some output) = by_full output (goes_full sizes row flags output)

    configured : (sizes : Sizes) (asked : Bool) (place : Rect) → (configured_row sizes own asked place row).window ≡ row.window
    configured sizes asked place = by_mapped row.mapped
      where
        by_mapped : (b : Bool) → (if b
            then placed_by (effective sizes asked place (taken_besides sizes.border row.window own)) (record row { asked = asked })
            else placed_at place (record row { asked = asked })).window ≡ row.window
        by_mapped true = refl
        by_mapped false = refl

    of_reads : (sizes : Sizes) (area : Area) → IsOfOne window own (reads sizes own row area)
    of_reads sizes area = by_tiles (nat_lt (sizes.tiles - tiles_in_use own) (tiles_needed row area.x area.y area.w area.h))
      where
        by_tiles : (b : Bool) → IsOfOne window own (if b
            then Ends (PixelBudget (tiles_needed row area.x area.y area.w area.h) (sizes.tiles - tiles_in_use own))
            else Reads row area)
        by_tiles true = tt
        by_tiles false = is

    of_message : (sizes : Sizes) (minor len : ℕ) (m : AgentMessage) → IsOfOne window own (message_to_window sizes minor own len m row)
    of_message sizes minor len (agent.Create x y width height parent override_redirect) = nothing
    of_message sizes minor len agent.Destroy = record { alone = named; from = known }
    of_message sizes minor len (agent.Map transient_for override_redirect) =
        replaces (mapped_row sizes own (isnt_zero override_redirect) (id_if (is_some (row_with transient_for own)) transient_for) row) refl
    of_message sizes minor len agent.Unmap = replaces (unmapped_row row) refl
    of_message sizes minor len (agent.Configure x y width height override_redirect) =
        replaces (configured_row sizes own (isnt_zero override_redirect) (rect_in_range x y width height) row)
        (configured sizes (isnt_zero override_redirect) (rect_in_range x y width height))
    of_message sizes minor len (agent.Shmimage x y width height) = of_reads sizes (clipped row row.dump x y width height)
    of_message sizes minor len (agent.ClipData bytes) = nothing
    of_message sizes minor len (agent.Name text) = replaces (record row { title = text_of text }) refl
    of_message sizes minor len agent.Dock = replaces (record row { docked = true }) refl
    of_message sizes minor len (agent.Hints hints) = replaces (record row { hints = hints }) refl
    of_message sizes minor len (agent.Flags flags_set flags_unset) = of_flags sizes (flags_after row.flags flags_set flags_unset)
    of_message sizes minor len (agent.Class class name) = replaces (record row { class = text_of class; name = text_of name }) refl
    of_message sizes minor len (agent.WindowDump kind width height bpp refs) =
        of_unless (first_of_causes (bad_ref sizes.pages refs ∷ over_budget (refs_besides row.window own + length refs) sizes.pages ∷ []))
        (Goes (Replaced (record row { dump = Some (record { width = width; height = height; refs = refs }) })) (acks minor row.window))
        (replaces (record row { dump = Some (record { width = width; height = height; refs = refs }) }) refl)
    of_message sizes minor len (agent.Cursor cursor) = replaces (record row { cursor = cursor }) refl

  of_known : (sizes : Sizes) (minor len : ℕ) (m : AgentMessage) (o : Option Row) → row_with window own ≡ o
      → IsOfOne window own (message_to sizes minor own window len m o)
  of_known sizes minor len m None is = tt
  of_known sizes minor len m (Some row) is = of_message row is sizes minor len m

  of_range : (sizes : Sizes) (guest minor len : ℕ) (m : AgentMessage) → IsOfOne window own (in_range_verdict sizes guest minor own window len m)
  of_range sizes guest minor len (agent.Create x y width height parent override_redirect) =
      of_create (row_with window own) refl (too_many own window)
      (created guest window (rect_in_range x y width height) (id_if (is_some (row_with parent own)) parent) (isnt_zero override_redirect)) refl refl
  of_range sizes guest minor len (agent.ClipData bytes) = nothing
  of_range sizes guest minor len agent.Destroy = of_known sizes minor len agent.Destroy (row_with window own) refl
  of_range sizes guest minor len (agent.Map transient_for override_redirect) =
      of_known sizes minor len (agent.Map transient_for override_redirect) (row_with window own) refl
  of_range sizes guest minor len agent.Unmap = of_known sizes minor len agent.Unmap (row_with window own) refl
  of_range sizes guest minor len (agent.Configure x y width height override_redirect) =
      of_known sizes minor len (agent.Configure x y width height override_redirect) (row_with window own) refl
  of_range sizes guest minor len (agent.Shmimage x y width height) =
      of_known sizes minor len (agent.Shmimage x y width height) (row_with window own) refl
  of_range sizes guest minor len (agent.Name text) = of_known sizes minor len (agent.Name text) (row_with window own) refl
  of_range sizes guest minor len agent.Dock = of_known sizes minor len agent.Dock (row_with window own) refl
  of_range sizes guest minor len (agent.Hints hints) = of_known sizes minor len (agent.Hints hints) (row_with window own) refl
  of_range sizes guest minor len (agent.Flags flags_set flags_unset) =
      of_known sizes minor len (agent.Flags flags_set flags_unset) (row_with window own) refl
  of_range sizes guest minor len (agent.Class class name) = of_known sizes minor len (agent.Class class name) (row_with window own) refl
  of_range sizes guest minor len (agent.WindowDump kind width height bpp refs) =
      of_known sizes minor len (agent.WindowDump kind width height bpp refs) (row_with window own) refl
  of_range sizes guest minor len (agent.Cursor cursor) = of_known sizes minor len (agent.Cursor cursor) (row_with window own) refl

of_verdict : (sizes : Sizes) (guest minor : ℕ) (own : List Row) (header : Header) (o : Option AgentMessage)
    → IsOfOne header.window own (message_verdict sizes guest minor own header o)
of_verdict sizes guest minor own header None = tt
of_verdict sizes guest minor own header (Some m) =
    of_unless header.window own (range_fault header.window header.len m)
    (in_range_verdict sizes guest minor own header.window header.len m)
    (of_range header.window own sizes guest minor header.len m)

-- the window that a unit names
abbrev pub window_of_unit : StreamUnit → ℕ
window_of_unit (Word word) = 0
window_of_unit (Stop cause) = 0
window_of_unit (Whole header body) = header.window

-- what is known of every unit
pub of_unit : (sizes : Sizes) (guest minor : ℕ) (own : List Row) (unit : StreamUnit) → IsOfOne (window_of_unit unit) own (verdict sizes guest minor own unit)
of_unit sizes guest minor own (Word w) = by_version (w / 65536 == 1)
  where
    by_version : (b : Bool) → IsOfOne 0 own (if b then Greets (w % 65536) (greeting sizes (w % 65536)) else Ends (BadVersion w 0))
    by_version true = tt
    by_version false = tt
of_unit sizes guest minor own (Stop cause) = tt
of_unit sizes guest minor own (Whole header body) = of_verdict sizes guest minor own header (reading header.kind body)

pub messages-change_one : MessagesChangeOne
messages-change_one sizes guest minor own header body change answers is =
    subst (IsOfOne header.window own) is (of_verdict sizes guest minor own header (reading header.kind body))

pub messages-read_one : MessagesReadOne
messages-read_one sizes guest minor own header body row area is =
    subst (IsOfOne header.window own) is (of_verdict sizes guest minor own header (reading header.kind body))
