-- What is read of a window's frame.
use Rattle.std.proofs.Common.{◌≡◌, ℕ, zero, suc, ◌+◌, ◌-◌, ◌*◌, Bool, true, false, ◌||◌, ◌==◌, List, [], ◌∷◌, length, map, Option, Some, None, is_some, refl, sym, ◌∙◌, ap, subst, arith, length-append}
use Rattle.std.specs.Prelude.{if◌then◌else◌, nat_lt, ◌/◌, ◌%◌}
use Rattle.std.proofs.lemmas.Bool.{eqb-true}
use Rattle.std.proofs.lemmas.List.{length-map}
use Rattle.std.proofs.Math.Nat.{suc-mul}
use Rattle.gui_num.specs.declared.Rect.{Rect}
use Rattle.gui_wire.specs.declared.Header.{Header}
use Rattle.gui_wire.specs.AgentMessages as agent
use Rattle.gui_wire.specs.AgentMessages.{AgentMessage, reading}
use Rattle.desk_laws.specs.declared.cause.Cause.{Cause}
use Rattle.desk_laws.specs.declared.cause.Cause.TheVariants.{PixelBudget, BadVersion}
use Rattle.desk_laws.specs.Sizes.{Sizes}
use Rattle.desk_laws.specs.Stream.{StreamUnit, Word, Stop, Whole}
use Rattle.desk_laws.specs.Outputs.{output_of}
use Rattle.desk_laws.specs.Ranges.{rect_in_range}
use Rattle.desk_laws.specs.Tiles.{tiles_in_use, tiles_needed}
use Rattle.desk_laws.specs.Frames.{PortState, FramePlace, load, load_all}
use Rattle.desk_laws.specs.Rows.{Row, DumpOf, row_with, grid, span, placed_at}
use Rattle.desk_laws.specs.Effects.{Area, no_area, clipped, points, frame_place, frame_places, drawn_row, Added, Replaced, Verdict, Ends, Greets, Goes, Reads, unless, first_of_causes, exists_already, too_many, bad_ref, over_budget, refs_besides, range_fault, created, id_if, isnt_zero, flagged, flagged_on, goes_full, flags_after, reads, tells_place, whole_output, acks, message_to_window, message_to, in_range_verdict, message_verdict, verdict, greeting}
use Rattle.desk_laws.specs.Following.{ChangesOne}
use Rattle.desk_laws.proofs.ChangeLemmas.{found-window}
use Rattle.desk_laws.proofs.GridLemmas.{length-span}
use Rattle.guest_session.specs.Reading.{drawn_by, rect_of}
use Rattle.guest_session.specs.Turns.{window_of}
use Rattle.desk_core.specs.WindowsStand.{glances_in}

-- an area is one of a window's row, and has no pixel where the row has no dump
pub record IsReadOf (window : ℕ) (own : List Row) (row : Row) (read : Area) : Type 0 where
  pub found : row_with window own ≡ Some row
  pub dumped : row.dump ≡ None → read ≡ no_area

-- what is known of a verdict: where it reads an area, it is one of this window's row
abbrev IsReading : ℕ → List Row → Verdict → Type 0
IsReading window own (Ends cause) = Unit {0}
IsReading window own (Greets minor answers) = Unit {0}
IsReading window own (Goes change answers) = Unit {0}
IsReading window own (Reads row read) = IsReadOf window own row read

module _ (window : ℕ) (own : List Row) where
  of_unless : (o : Option Cause) (v : Verdict) → IsReading window own v → IsReading window own (unless o v)
  of_unless None v is = is
  of_unless (Some cause) v is = tt

  of_flags : (sizes : Sizes) (row : Row) (flags : ℕ) → IsReading window own (flagged sizes row flags)
  of_flags sizes row flags = by_output (output_of sizes.outputs row.place)
    where
      by_full : (output : Rect) (b : Bool) → IsReading window own (if b
          then Goes (Replaced (placed_at (whole_output sizes output) (record row { flags = flags }))) (tells_place row.window (whole_output sizes output) false ∷ [])
          else Goes (Replaced (record row { flags = flags })) [])
      by_full output true = tt
      by_full output false = tt

      by_output : (o : Option Rect) → IsReading window own (flagged_on sizes o row flags)
      by_output None = tt
      by_output (Some output) = by_full output (goes_full sizes row flags output)

  of_reads : (sizes : Sizes) (row : Row) (read : Area) → IsReadOf window own row read → IsReading window own (reads sizes own row read)
  of_reads sizes row read is = by_tiles (nat_lt (sizes.tiles - tiles_in_use own) (tiles_needed row read.x read.y read.w read.h))
    where
      by_tiles : (b : Bool) → IsReading window own (if b
          then Ends (PixelBudget (tiles_needed row read.x read.y read.w read.h) (sizes.tiles - tiles_in_use own))
          else Reads row read)
      by_tiles true = tt
      by_tiles false = is

  of_message : (row : Row) → row_with window own ≡ Some row → (sizes : Sizes) (minor len : ℕ) (m : AgentMessage) → IsReading window own (message_to_window sizes minor own len m row)
  of_message row is sizes minor len (agent.Create x y width height parent override_redirect) = tt
  of_message row is sizes minor len agent.Destroy = tt
  of_message row is sizes minor len (agent.Map transient_for override_redirect) = tt
  of_message row is sizes minor len agent.Unmap = tt
  of_message row is sizes minor len (agent.Configure x y width height override_redirect) = tt
  of_message row is sizes minor len (agent.Shmimage x y width height) =
      of_reads sizes row (clipped row row.dump x y width height) (record { found = is; dumped = λ none. ap (λ dump. clipped row dump x y width height) none })
  of_message row is sizes minor len (agent.ClipData bytes) = tt
  of_message row is sizes minor len (agent.Name text) = tt
  of_message row is sizes minor len agent.Dock = tt
  of_message row is sizes minor len (agent.Hints hints) = tt
  of_message row is sizes minor len (agent.Flags flags_set flags_unset) = of_flags sizes row (flags_after row.flags flags_set flags_unset)
  of_message row is sizes minor len (agent.Class class name) = tt
  of_message row is sizes minor len (agent.WindowDump kind width height bpp refs) =
      of_unless (first_of_causes (bad_ref sizes.pages refs ∷ over_budget (refs_besides row.window own + length refs) sizes.pages ∷ []))
      (Goes (Replaced (record row { dump = Some (record { width = width; height = height; refs = refs }) })) (acks minor row.window)) tt
  of_message row is sizes minor len (agent.Cursor cursor) = tt

  of_known : (sizes : Sizes) (minor len : ℕ) (m : AgentMessage) (o : Option Row) → row_with window own ≡ o → IsReading window own (message_to sizes minor own window len m o)
  of_known sizes minor len m None is = tt
  of_known sizes minor len m (Some row) is = of_message row is sizes minor len m

  of_range : (sizes : Sizes) (guest minor len : ℕ) (m : AgentMessage) → IsReading window own (in_range_verdict sizes guest minor own window len m)
  of_range sizes guest minor len (agent.Create x y width height parent override_redirect) =
      of_unless (first_of_causes (exists_already (row_with window own) window ∷ too_many own window ∷ []))
      (Goes (Added (created guest window (rect_in_range x y width height) (id_if (is_some (row_with parent own)) parent) (isnt_zero override_redirect))) []) tt
  of_range sizes guest minor len (agent.ClipData bytes) = tt
  of_range sizes guest minor len agent.Destroy = of_known sizes minor len agent.Destroy (row_with window own) refl
  of_range sizes guest minor len (agent.Map transient_for override_redirect) = of_known sizes minor len (agent.Map transient_for override_redirect) (row_with window own) refl
  of_range sizes guest minor len agent.Unmap = of_known sizes minor len agent.Unmap (row_with window own) refl
  of_range sizes guest minor len (agent.Configure x y width height override_redirect) =
      of_known sizes minor len (agent.Configure x y width height override_redirect) (row_with window own) refl
  of_range sizes guest minor len (agent.Shmimage x y width height) = of_known sizes minor len (agent.Shmimage x y width height) (row_with window own) refl
  of_range sizes guest minor len (agent.Name text) = of_known sizes minor len (agent.Name text) (row_with window own) refl
  of_range sizes guest minor len agent.Dock = of_known sizes minor len agent.Dock (row_with window own) refl
  of_range sizes guest minor len (agent.Hints hints) = of_known sizes minor len (agent.Hints hints) (row_with window own) refl
  of_range sizes guest minor len (agent.Flags flags_set flags_unset) = of_known sizes minor len (agent.Flags flags_set flags_unset) (row_with window own) refl
  of_range sizes guest minor len (agent.Class class name) = of_known sizes minor len (agent.Class class name) (row_with window own) refl
  of_range sizes guest minor len (agent.WindowDump kind width height bpp refs) =
      of_known sizes minor len (agent.WindowDump kind width height bpp refs) (row_with window own) refl
  of_range sizes guest minor len (agent.Cursor cursor) = of_known sizes minor len (agent.Cursor cursor) (row_with window own) refl

of_verdict : (sizes : Sizes) (guest minor : ℕ) (own : List Row) (header : Header) (o : Option AgentMessage) → IsReading header.window own (message_verdict sizes guest minor own header o)
of_verdict sizes guest minor own header None = tt
of_verdict sizes guest minor own header (Some m) =
    of_unless header.window own (range_fault header.window header.len m) (in_range_verdict sizes guest minor own header.window header.len m) (of_range header.window own sizes guest minor header.len m)

of_unit : (sizes : Sizes) (guest minor : ℕ) (own : List Row) (unit : StreamUnit) → IsReading (window_of unit) own (verdict sizes guest minor own unit)
of_unit sizes guest minor own (Word w) = by_version (w / 65536 == 1)
  where
    by_version : (b : Bool) → IsReading 0 own (if b then Greets (w % 65536) (greeting sizes (w % 65536)) else Ends (BadVersion w 0))
    by_version true = tt
    by_version false = tt
of_unit sizes guest minor own (Stop cause) = tt
of_unit sizes guest minor own (Whole header body) = of_verdict sizes guest minor own header (reading header.kind body)

-- what an SHMIMAGE reads is an area of its own window's row
pub reads-one : (sizes : Sizes) (guest minor : ℕ) (own : List Row) (unit : StreamUnit) (row : Row) (read : Area)
    → verdict sizes guest minor own unit ≡ Reads row read → IsReadOf (window_of unit) own row read
reads-one sizes guest minor own unit row read is = subst (IsReading (window_of unit) own) is (of_unit sizes guest minor own unit)

-- the row with other contents is a change of its own window alone
pub drawn-one : (window : ℕ) (own : List Row) (row : Row) (read : Area) (words : List ℕ) → IsReadOf window own row read → ChangesOne window own (Replaced (drawn_row row read words))
drawn-one window own row read words is = record { alone = found-window window own row is.found; from = ap is_some is.found }

-- ---- how many words are read

length-loaded : (port : PortState) (places : List FramePlace) → length (load_all port places).words ≡ length places
length-loaded port [] = refl
length-loaded port (s ∷ places) = ap suc (length-loaded (load port s.page s.word).1 places)

length-grid : (x y w h : ℕ) → length (grid x y w h) ≡ h * w
length-grid x y w zero = let e : 0 ≡ 0 * w = omega arith in e
length-grid x y w (suc h) =
    length-append (map (λ i. (i, y)) (span x w)) (grid x (suc y) w h)
    ∙ omega (arith, length-map {B = ℕ × ℕ} (span x w) (λ i. (i, y)), length-span x w, length-grid x (suc y) w h, suc-mul h w)

area-many : (a : Area) → a.h * a.w ≡ glances_in (drawn_by a)
area-many a = by_width (a.w == 0) refl
  where
    tested : (b c : Bool) → (b ≡ true → a.h * a.w ≡ 0) → (c ≡ true → a.h * a.w ≡ 0) → a.h * a.w ≡ glances_in (if b || c then None else Some (rect_of a))
    tested true c narrow low = narrow refl
    tested false true narrow low = low refl
    tested false false narrow low = omega arith

    by_width : (b : Bool) → (a.w == 0) ≡ b → a.h * a.w ≡ glances_in (drawn_by a)
    by_width b is =
        tested (a.w == 0) (a.h == 0)
        (λ e. ap (λ n. a.h * n) (eqb-true a.w 0 e) ∙ omega arith)
        (λ e. ap (λ n. n * a.w) (eqb-true a.h 0 e) ∙ omega arith)

-- as many words are read as the area has pixels
pub reads-many : (window : ℕ) (own : List Row) (row : Row) (read : Area) (port : PortState) → IsReadOf window own row read
    → length (load_all port (frame_places row.dump (points read))).words ≡ glances_in (drawn_by read)
reads-many window own row read port is = length-loaded port (frame_places row.dump (points read)) ∙ by_dump row.dump refl
  where
    by_dump : (dump : Option DumpOf) → row.dump ≡ dump → length (frame_places dump (points read)) ≡ glances_in (drawn_by read)
    by_dump None none = sym (ap (λ a. glances_in (drawn_by a)) (is.dumped none))
    by_dump (Some dump) some = length-map (points read) (frame_place dump) ∙ length-grid read.x read.y read.w read.h ∙ area-many read
