-- What a guest drew and how it named its windows changes nothing else.
use Rattle.std.proofs.Common.{◌≡◌, ℕ, zero, suc, ◌+◌, ◌-◌, ◌*◌, ◌/◌, ◌%◌, Bool, true, false, List, [], ◌∷◌, length, map, cond, Option, Some, None, refl, sym, ◌∙◌, ap}
use Rattle.std.specs.Prelude.{if◌then◌else◌, ◌&&◌, ◌||◌, ◌==◌, nat_lt, filter, is_some, sum_by, slice_get, option_map, not}
use Rattle.std.specs.List.{list_any}
use Rattle.std.proofs.lemmas.List.Sums.{sum_by-cons}
use Rattle.gui_num.specs.declared.Rect.{Rect}
use Rattle.gui_wire.specs.AgentMessages as agent
use Rattle.gui_wire.specs.AgentMessages.{AgentMessage, reading}
use Rattle.desk_laws.specs.Sizes.{Sizes}
use Rattle.desk_laws.specs.declared.cause.Cause.{Cause}
use Rattle.desk_laws.specs.declared.cause.Cause.TheVariants.{PixelBudget, TooManyWindows, BadVersion}
use Rattle.desk_laws.specs.Rows.{Row, DumpOf, row_with, content_at, content_of, contents_at_size, placed_at, grid}
use Rattle.gui_wire.specs.declared.Header.{Header}
use Rattle.desk_laws.specs.Stream.{StreamUnit, Word, Stop, Whole}
use Rattle.std.proofs.lemmas.List.{length-map}
use Rattle.desk_laws.specs.Ranges.{rect_in_range}
use Rattle.desk_laws.specs.Outputs.{output_of}
use Rattle.desk_laws.specs.Override.{Placement, effective, taken_by, taken_besides}
use Rattle.desk_laws.specs.Tiles.{is_used, tiles_of, tiles_in_use, tiles_needed, tiles_over, is_met}
use Rattle.desk_laws.specs.Effects.{Change, Same, Added, Replaced, Removed, Cleared, Verdict, Ends, Greets, Goes, Reads, Area, message_to_window, message_to, in_range_verdict, message_verdict, verdict, range_fault, exists_already, too_many, created, unless, placed_by, moved_by, unmapped_row, greeting, refs_besides, refs_of, tells_move, tells_place, isnt_zero, id_if, whole_output, flagged_on, flags_after, goes_full, reads, clipped, no_area, acks, first_of_causes, bad_ref, over_budget}
use Rattle.isolation_laws.specs.Masks.{veiled_row}

-- a content without its colour
abbrev pub plain : Option ℕ → Option ℕ
plain content = option_map (λ n. 0) content

abbrev pub masked : Row → Row
masked row = veiled_row true row

pub plain-plain : (c : Option ℕ) → plain (plain c) ≡ plain c
plain-plain None = refl
plain-plain (Some x) = refl

is_some-plain : (c : Option ℕ) → is_some (plain c) ≡ is_some c
is_some-plain None = refl
is_some-plain (Some x) = refl

content_of-map : (cs : List (Option ℕ)) (i : ℕ) → content_of (slice_get (map plain cs) i) ≡ plain (content_of (slice_get cs i))
content_of-map [] i = refl
content_of-map (c ∷ cs) zero = refl
content_of-map (c ∷ cs) (suc i) = content_of-map cs i

-- the masked row has a content where the row has one
content_at-masked : (row : Row) (x y : ℕ) → content_at (masked row) x y ≡ plain (content_at row x y)
content_at-masked row x y = by_inside (nat_lt x row.place.w && nat_lt y row.place.h)
  where
    by_inside : (b : Bool) → (if b then content_of (slice_get (map plain row.contents) (y * row.place.w + x)) else None) ≡ plain (if b then content_of (slice_get row.contents (y * row.place.w + x)) else None)
    by_inside true = content_of-map row.contents (y * row.place.w + x)
    by_inside false = refl

pub map-same : {X Y : Type 0} (f h : X → Y) → ((x : X) → f x ≡ h x) → (xs : List X) → map f xs ≡ map h xs
map-same f h same [] = refl
map-same f h same (x ∷ xs) = ap (λ y. y ∷ map f xs) (same x) ∙ ap (λ ys. h x ∷ ys) (map-same f h same xs)

pub map-map : {X Y Z : Type 0} (f : Y → Z) (h : X → Y) (xs : List X) → map f (map h xs) ≡ map (λ x. f (h x)) xs
map-map f h [] = refl
map-map f h (x ∷ xs) = ap (λ ys. f (h x) ∷ ys) (map-map f h xs)

pub contents-masked : (row : Row) (w h : ℕ) → map plain (contents_at_size (masked row) w h) ≡ map plain (contents_at_size row w h)
contents-masked row w h =
    map-map plain (λ p. content_at (masked row) p.0 p.1) (grid 0 0 w h)
    ∙ map-same (λ p. plain (content_at (masked row) p.0 p.1)) (λ p. plain (content_at row p.0 p.1))
    (λ p. ap plain (content_at-masked row p.0 p.1) ∙ plain-plain (content_at row p.0 p.1)) (grid 0 0 w h)
    ∙ sym (map-map plain (λ p. content_at row p.0 p.1) (grid 0 0 w h))

-- a masked row put at a place, and masked again
pub masked-placed : (place : Rect) (row : Row) → masked (placed_at place (masked row)) ≡ masked (placed_at place row)
masked-placed place row = ap (λ cs. record (masked row) { place = place; contents = cs }) (contents-masked row place.w place.h)

pub masked-masked : (row : Row) → masked (masked row) ≡ masked row
masked-masked row = ap (λ cs. record (masked row) { contents = cs }) (map-map plain plain row.contents ∙ map-same (λ c. plain (plain c)) plain plain-plain row.contents)

-- ---- what is asked of the other rows

row_with-masked : (w : ℕ) (own : List Row) → row_with w (map masked own) ≡ option_map masked (row_with w own)
row_with-masked w [] = refl
row_with-masked w (r ∷ own) = by_window (row_with-masked w own) (r.window == w)
  where
    by_window : row_with w (map masked own) ≡ option_map masked (row_with w own) → (b : Bool) → cond b (Some (masked r)) (row_with w (map masked own)) ≡ option_map masked (cond b (Some r) (row_with w own))
    by_window ih true = refl
    by_window ih false = ih

sum_by-masked : (f : Row → ℕ) → ((r : Row) → f (masked r) ≡ f r) → (own : List Row) → sum_by f (map masked own) ≡ sum_by f own
sum_by-masked f same [] = refl
sum_by-masked f same (r ∷ own) =
    sum_by-cons f (masked r) (map masked own)
    ∙ ap (λ n. n + sum_by f (map masked own)) (same r) ∙ ap (λ n. f r + n) (sum_by-masked f same own)
    ∙ sym (sum_by-cons f r own)

taken-masked : (border w : ℕ) (own : List Row) → taken_besides border w (map masked own) ≡ taken_besides border w own
taken-masked border w own = sum_by-masked (taken_by border w) (λ r. refl) own

refs-masked : (w : ℕ) (own : List Row) → refs_besides w (map masked own) ≡ refs_besides w own
refs-masked w own = sum_by-masked (λ row. if row.window == w then 0 else refs_of row.dump) (λ r. refl) own

list_any-same : {X : Type 0} (f h : X → Bool) → ((x : X) → f x ≡ h x) → (xs : List X) → list_any f xs ≡ list_any h xs
list_any-same f h same [] = refl
list_any-same f h same (x ∷ xs) = ap (λ b. b || list_any f xs) (same x) ∙ ap (λ b. h x || b) (list_any-same f h same xs)

filter-same : {X : Type 0} (f h : X → Bool) → ((x : X) → f x ≡ h x) → (xs : List X) → filter f xs ≡ filter h xs
filter-same f h same [] = refl
filter-same f h same (x ∷ xs) = ap (λ b. cond b (x ∷ filter f xs) (filter f xs)) (same x) ∙ ap (λ ys. cond (h x) (x ∷ ys) ys) (filter-same f h same xs)

is_used-masked : (row : Row) (t : ℕ × ℕ) → is_used (masked row) t ≡ is_used row t
is_used-masked row t =
    list_any-same (λ p. is_some (content_at (masked row) p.0 p.1)) (λ p. is_some (content_at row p.0 p.1))
    (λ p. ap is_some (content_at-masked row p.0 p.1) ∙ is_some-plain (content_at row p.0 p.1)) (grid (64 * t.0) (64 * t.1) 64 64)

tiles-masked : (own : List Row) → tiles_in_use (map masked own) ≡ tiles_in_use own
tiles-masked own = sum_by-masked tiles_of (λ r. ap length (filter-same (is_used (masked r)) (is_used r) (is_used-masked r) (tiles_over r))) own

needed-masked : (row : Row) (x y w h : ℕ) → tiles_needed (masked row) x y w h ≡ tiles_needed row x y w h
needed-masked row x y w h =
    ap length (filter-same (λ t. is_met x y w h t && not (is_used (masked row) t)) (λ t. is_met x y w h t && not (is_used row t))
    (λ t. ap (λ b. is_met x y w h t && not b) (is_used-masked row t)) (tiles_over row))

-- ---- a verdict

abbrev pub masked_change : Change → Change
masked_change Same = Same
masked_change (Added row) = Added (masked row)
masked_change (Replaced row) = Replaced (masked row)
masked_change (Removed w) = Removed w
masked_change Cleared = Cleared

abbrev pub masked_verdict : Verdict → Verdict
masked_verdict (Ends c) = Ends c
masked_verdict (Greets minor answers) = Greets minor answers
masked_verdict (Goes change answers) = Goes (masked_change change) answers
masked_verdict (Reads row area) = Reads (masked row) area

-- the contents of a row, masked twice
pub twice : (row : Row) → map plain (map plain row.contents) ≡ map plain row.contents
twice row = map-map plain plain row.contents ∙ map-same (λ c. plain (plain c)) plain plain-plain row.contents

is_some-row_with : (w : ℕ) (own : List Row) → is_some (row_with w (map masked own)) ≡ is_some (row_with w own)
is_some-row_with w own = ap is_some (row_with-masked w own) ∙ any (row_with w own)
  where
    any : (r : Option Row) → is_some (option_map masked r) ≡ is_some r
    any None = refl
    any (Some r) = refl

-- a row put by the override rule
mapped_as : Bool → ℕ → Placement → Row → Row
mapped_as asked transient placed row = moved_by placed (record row { mapped = true; asked = asked; transient = transient })

module _ (sizes : Sizes) (m : ℕ) (own : List Row) (len : ℕ) where
  map-masked : (transient over : ℕ) (row : Row) → masked_verdict (message_to_window sizes m (map masked own) len (agent.Map transient over) (masked row)) ≡ masked_verdict (message_to_window sizes m own len (agent.Map transient over) row)
  unfolding mapped_as
  map-masked transient over row =
      let asked : Bool = isnt_zero over in
      let G : Placement → ℕ → Row → Verdict = λ p t r. Goes (Replaced (masked (mapped_as asked t p r))) (tells_move r (mapped_as asked t p r)) in
      let placed : Placement = effective sizes asked row.place (taken_besides sizes.border row.window own) in
      let t : ℕ = id_if (is_some (row_with transient own)) transient in
      ap (λ n. G (effective sizes asked row.place n) (id_if (is_some (row_with transient (map masked own))) transient) (masked row)) (taken-masked sizes.border row.window own)
      ∙ ap (λ b. G placed (id_if b transient) (masked row)) (is_some-row_with transient own)
      ∙ ap (λ cs. Goes (Replaced (record (masked (mapped_as asked t placed row)) { contents = cs })) (tells_move row (mapped_as asked t placed row))) (twice row)

  configure-masked : (x y width height over : ℕ) (row : Row) (mapped : Bool) → row.mapped ≡ mapped
      → masked_verdict (message_to_window sizes m (map masked own) len (agent.Configure x y width height over) (masked row)) ≡ masked_verdict (message_to_window sizes m own len (agent.Configure x y width height over) row)
  configure-masked x y width height over row mapped e =
      let asked : Bool = isnt_zero over in
      let place : Rect = rect_in_range x y width height in
      let placed : Placement = effective sizes asked place (taken_besides sizes.border row.window own) in
      ap (λ n. C asked place row.mapped (effective sizes asked place n) (masked row)) (taken-masked sizes.border row.window own)
      ∙ by_mapped asked place placed row.mapped
    where
      C : Bool → Rect → Bool → Placement → Row → Verdict
      C asked place b p r =
          let new = if b then placed_by p (record r { asked = asked }) else placed_at place (record r { asked = asked }) in
          Goes (Replaced (masked new)) (tells_place new.window new.place new.over ∷ [])

      by_mapped : (asked : Bool) (place : Rect) (p : Placement) (b : Bool) → C asked place b p (masked row) ≡ C asked place b p row
      by_mapped asked place p true =
          ap (λ cs. Goes (Replaced (record (masked (placed_by p (record row { asked = asked }))) { contents = cs })) (tells_place row.window p.rect p.over ∷ [])) (contents-masked row p.rect.w p.rect.h)
      by_mapped asked place p false =
          ap (λ cs. Goes (Replaced (record (masked (placed_at place (record row { asked = asked }))) { contents = cs })) (tells_place row.window place row.over ∷ [])) (contents-masked row place.w place.h)

  full-masked : (whole : Rect) (flags : ℕ) (row : Row) (full : Bool) → masked_verdict (if full then Goes (Replaced (placed_at whole (record (masked row) { flags = flags }))) (tells_place row.window whole false ∷ []) else Goes (Replaced (record (masked row) { flags = flags })) [])
      ≡ masked_verdict (if full then Goes (Replaced (placed_at whole (record row { flags = flags }))) (tells_place row.window whole false ∷ []) else Goes (Replaced (record row { flags = flags })) [])
  full-masked whole flags row true = ap (λ cs. Goes (Replaced (record (masked (placed_at whole (record row { flags = flags }))) { contents = cs })) (tells_place row.window whole false ∷ [])) (contents-masked row whole.w whole.h)
  full-masked whole flags row false = ap (λ cs. Goes (Replaced (record (masked row) { flags = flags; contents = cs })) []) (twice row)

  flags-masked : (output : Option Rect) (flags : ℕ) (row : Row) → masked_verdict (flagged_on sizes output (masked row) flags) ≡ masked_verdict (flagged_on sizes output row flags)
  flags-masked None flags row = ap (λ cs. Goes (Replaced (record (masked row) { flags = flags; contents = cs })) []) (twice row)
  flags-masked (Some output) flags row = full-masked (whole_output sizes output) flags row (goes_full sizes row flags output)

  reads-masked : (row : Row) (a : Area) → masked_verdict (reads sizes (map masked own) (masked row) a) ≡ masked_verdict (reads sizes own row a)
  reads-masked row a =
      let R : ℕ → ℕ → Row → Verdict = λ used need r. masked_verdict (if nat_lt (sizes.tiles - used) need then Ends (PixelBudget need (sizes.tiles - used)) else Reads r a) in
      ap (λ n. R n (tiles_needed (masked row) a.x a.y a.w a.h) (masked row)) (tiles-masked own)
      ∙ ap (λ n. R (tiles_in_use own) n (masked row)) (needed-masked row a.x a.y a.w a.h)
      ∙ by_room (nat_lt (sizes.tiles - tiles_in_use own) (tiles_needed row a.x a.y a.w a.h))
    where
      by_room : (b : Bool) → masked_verdict (if b then Ends (PixelBudget (tiles_needed row a.x a.y a.w a.h) (sizes.tiles - tiles_in_use own)) else Reads (masked row) a) ≡ masked_verdict (if b then Ends (PixelBudget (tiles_needed row a.x a.y a.w a.h) (sizes.tiles - tiles_in_use own)) else Reads row a)
      by_room true = refl
      by_room false = ap (λ r. Reads r a) (masked-masked row)

  unless-masked : (c : Option Cause) (v w : Verdict) → masked_verdict v ≡ masked_verdict w → masked_verdict (unless c v) ≡ masked_verdict (unless c w)
  unless-masked (Some c) v w e = refl
  unless-masked None v w e = e

  message_to_window-masked : (msg : AgentMessage) (row : Row) → masked_verdict (message_to_window sizes m (map masked own) len msg (masked row)) ≡ masked_verdict (message_to_window sizes m own len msg row)
  message_to_window-masked (agent.Create x y width height parent over) row = refl
  message_to_window-masked agent.Destroy row = refl
  message_to_window-masked (agent.Map transient over) row = map-masked transient over row
  message_to_window-masked agent.Unmap row = ap (λ cs. Goes (Replaced (record (masked (unmapped_row row)) { contents = cs })) []) (twice row)
  message_to_window-masked (agent.Configure x y width height over) row = configure-masked x y width height over row row.mapped refl
  message_to_window-masked (agent.Shmimage x y width height) row = by_dump row.dump
    where
      by_dump : (dump : Option DumpOf) → masked_verdict (reads sizes (map masked own) (masked row) (clipped (masked row) dump x y width height)) ≡ masked_verdict (reads sizes own row (clipped row dump x y width height))
      by_dump None = reads-masked row no_area
      by_dump (Some dump) = reads-masked row (clipped row (Some dump) x y width height)
  message_to_window-masked (agent.ClipData bytes) row = refl
  message_to_window-masked (agent.Name text) row = ap (λ cs. Goes (Replaced (record (masked row) { contents = cs })) []) (twice row)
  message_to_window-masked agent.Dock row = ap (λ cs. Goes (Replaced (record (masked row) { docked = true; contents = cs })) []) (twice row)
  message_to_window-masked (agent.Hints hints) row = ap (λ cs. Goes (Replaced (record (masked row) { contents = cs })) []) (twice row)
  message_to_window-masked (agent.Flags set unset) row = flags-masked (output_of sizes.outputs row.place) (flags_after row.flags set unset) row
  message_to_window-masked (agent.Class class name) row = ap (λ cs. Goes (Replaced (record (masked row) { contents = cs })) []) (twice row)
  message_to_window-masked (agent.WindowDump kind width height bpp refs) row =
      let D : Row → Verdict = λ r. Goes (Replaced (record r { dump = Some (record { width = width; height = height; refs = refs }) })) (acks m row.window) in
      ap (λ n. masked_verdict (unless (first_of_causes (bad_ref sizes.pages refs ∷ over_budget (n + length refs) sizes.pages ∷ [])) (D (masked row)))) (refs-masked row.window own)
      ∙ unless-masked (first_of_causes (bad_ref sizes.pages refs ∷ over_budget (refs_besides row.window own + length refs) sizes.pages ∷ [])) (D (masked row)) (D row)
      (ap (λ cs. Goes (Replaced (record (masked row) { dump = Some (record { width = width; height = height; refs = refs }); contents = cs })) (acks m row.window)) (twice row))
  message_to_window-masked (agent.Cursor cursor) row = ap (λ cs. Goes (Replaced (record (masked row) { contents = cs })) []) (twice row)

  message_to-masked : (window : ℕ) (msg : AgentMessage) (r : Option Row)
      → masked_verdict (message_to sizes m (map masked own) window len msg (option_map masked r)) ≡ masked_verdict (message_to sizes m own window len msg r)
  message_to-masked window msg None = refl
  message_to-masked window msg (Some row) = message_to_window-masked msg row

  known-masked : (window : ℕ) (msg : AgentMessage)
      → masked_verdict (message_to sizes m (map masked own) window len msg (row_with window (map masked own))) ≡ masked_verdict (message_to sizes m own window len msg (row_with window own))
  known-masked window msg =
      ap (λ r. masked_verdict (message_to sizes m (map masked own) window len msg r)) (row_with-masked window own) ∙ message_to-masked window msg (row_with window own)

  exists-masked : (r : Option Row) (window : ℕ) → exists_already (option_map masked r) window ≡ exists_already r window
  exists-masked None window = refl
  exists-masked (Some row) window = refl

  created-masked : (guest window : ℕ) (place : Rect) (parent : ℕ) (asked : Bool) → masked (created guest window place parent asked) ≡ masked (created guest window place parent asked)
  created-masked guest window place parent asked = refl

  in_range-masked : (guest window : ℕ) (msg : AgentMessage)
      → masked_verdict (in_range_verdict sizes guest m (map masked own) window len msg) ≡ masked_verdict (in_range_verdict sizes guest m own window len msg)
  in_range-masked guest window (agent.Create x y width height parent over) =
      let C : Option Cause → Option Cause → Bool → Verdict = λ exists many known.
      masked_verdict (unless (first_of_causes (exists ∷ many ∷ []))
      (Goes (Added (created guest window (rect_in_range x y width height) (id_if known parent) (isnt_zero over))) [])) in
      ap (λ r. C (exists_already r window) (too_many (map masked own) window) (is_some (row_with parent (map masked own)))) (row_with-masked window own)
      ∙ ap (λ c. C c (too_many (map masked own) window) (is_some (row_with parent (map masked own)))) (exists-masked (row_with window own) window)
      ∙ ap (λ n. C (exists_already (row_with window own) window) (if nat_lt n 1024 then None else Some (TooManyWindows window 1024)) (is_some (row_with parent (map masked own)))) (length-map own masked)
      ∙ ap (C (exists_already (row_with window own) window) (too_many own window)) (is_some-row_with parent own)
  in_range-masked guest window (agent.ClipData bytes) = refl
  in_range-masked guest window agent.Destroy = known-masked window agent.Destroy
  in_range-masked guest window (agent.Map transient over) = known-masked window (agent.Map transient over)
  in_range-masked guest window agent.Unmap = known-masked window agent.Unmap
  in_range-masked guest window (agent.Configure x y width height over) = known-masked window (agent.Configure x y width height over)
  in_range-masked guest window (agent.Shmimage x y width height) = known-masked window (agent.Shmimage x y width height)
  in_range-masked guest window (agent.Name text) = known-masked window (agent.Name text)
  in_range-masked guest window agent.Dock = known-masked window agent.Dock
  in_range-masked guest window (agent.Hints hints) = known-masked window (agent.Hints hints)
  in_range-masked guest window (agent.Flags set unset) = known-masked window (agent.Flags set unset)
  in_range-masked guest window (agent.Class class name) = known-masked window (agent.Class class name)
  in_range-masked guest window (agent.WindowDump kind width height bpp refs) = known-masked window (agent.WindowDump kind width height bpp refs)
  in_range-masked guest window (agent.Cursor cursor) = known-masked window (agent.Cursor cursor)

message-masked : (sizes : Sizes) (guest minor : ℕ) (own : List Row) (header : Header) (msg : Option AgentMessage)
    → masked_verdict (message_verdict sizes guest minor (map masked own) header msg) ≡ masked_verdict (message_verdict sizes guest minor own header msg)
message-masked sizes guest minor own header None = refl
message-masked sizes guest minor own header (Some msg) =
    unless-masked sizes minor own header.len (range_fault header.window header.len msg)
    (in_range_verdict sizes guest minor (map masked own) header.window header.len msg) (in_range_verdict sizes guest minor own header.window header.len msg)
    (in_range-masked sizes minor own header.len guest header.window msg)

-- what a unit does is the same, but for what is masked
pub verdict-masked : (sizes : Sizes) (guest minor : ℕ) (own : List Row) (unit : StreamUnit)
    → masked_verdict (verdict sizes guest minor (map masked own) unit) ≡ masked_verdict (verdict sizes guest minor own unit)
verdict-masked sizes guest minor own (Word w) = by_version (w / 65536 == 1)
  where
    by_version : (b : Bool) → masked_verdict (if b then Greets (w % 65536) (greeting sizes (w % 65536)) else Ends (BadVersion w 0))
        ≡ masked_verdict (if b then Greets (w % 65536) (greeting sizes (w % 65536)) else Ends (BadVersion w 0))
    by_version b = refl
verdict-masked sizes guest minor own (Stop cause) = refl
verdict-masked sizes guest minor own (Whole header body) = message-masked sizes guest minor own header (reading header.kind body)
