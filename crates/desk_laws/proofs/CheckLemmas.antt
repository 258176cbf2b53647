-- What is checked of a message, and the verdict on it.
use Rattle.std.specs.Prelude.{nat_lt, ◌==◌, ◌||◌, ◌-◌, ◌^◌, not}
use Rattle.std.proofs.Common.{◌≡◌, ℕ, ◌+◌, ◌≤◌, Bool, true, false, cond, eqb, List, [], ◌∷◌, length, Option, Some, None, is_some, refl, sym, ap, ◌∙◌, subst, arith, lit≤, eqb-true}
use Rattle.gui_wire.specs.declared.Header.{Header}
use Rattle.gui_wire.specs.AgentMessages as agent
use Rattle.gui_wire.specs.AgentMessages.{AgentMessage}
use Rattle.desk_laws.specs.declared.cause.Cause.{Cause}
use Rattle.desk_laws.specs.declared.cause.Cause.TheVariants.{BadLength, BadRange, UnknownWindow, WindowExists, TooManyWindows, RefRange, FrameBudget, PixelBudget}
use Rattle.desk_laws.specs.Causes.{number_of}
use Rattle.desk_laws.specs.Sizes.{Sizes}
use Rattle.desk_laws.specs.Rows.{Row, row_with, placed_at}
use Rattle.gui_num.specs.declared.Rect.{Rect}
use Rattle.desk_laws.specs.Outputs.{output_of}
use Rattle.desk_laws.specs.Effects.{range_fault, first_of_causes, unknown, exists_already, too_many, bad_ref, over_budget, refs_besides, message_verdict, in_range_verdict, message_to, message_to_window, unless, Verdict, Ends, Greets, Goes, Reads, high_bit, out_of, wrong_count, isnt_zero, pages_for, Area, reads, clipped, flagged, flags_after, goes_full, flagged_on, whole_output, tells_place, Replaced}
use Rattle.desk_laws.specs.Tiles.{tiles_in_use, tiles_needed}
use Rattle.desk_laws.specs.Checks.{rows_fault, first_cause, IsChecked, FirstCauseIsTheVerdicts, LooksSame, FirstCauseAsksLittle}

row_with-step : (window : ℕ) (r row : Row) (own : List Row) (b : Bool) → eqb r.window window ≡ b →
    row_with window (r ∷ own) ≡ Some row → (row_with window own ≡ Some row → row.window ≡ window) → row.window ≡ window
row_with-step window r row own true is e later =
    let here : row_with window (r ∷ own) ≡ Some r = ap (λ b. cond b (Some r) (row_with window own)) is in
    let same : r ≡ row = cc in
    ap (λ (x : Row). x.window) (sym same) ∙ eqb-true _ _ is
row_with-step window r row own false is e later =
    let behind : row_with window (r ∷ own) ≡ row_with window own = ap (λ b. cond b (Some r) (row_with window own)) is in
    later (sym behind ∙ e)

-- the row that is found has the window
pub row_with-window : (window : ℕ) (own : List Row) (row : Row) → row_with window own ≡ Some row → row.window ≡ window
row_with-window window [] row e = absurd cc
row_with-window window (r ∷ own) row e = row_with-step window r row own (eqb r.window window) refl e (row_with-window window own row)

-- ---- a verdict and the cause that comes before it

-- a verdict that ends a session only for want of tiles
abbrev EndsForTiles : Verdict → Type 0
EndsForTiles (Ends cause) = number_of cause ≡ 10
EndsForTiles (Greets minor answers) = Unit {0}
EndsForTiles (Goes change answers) = Unit {0}
EndsForTiles (Reads row area) = Unit {0}

tiles-cond : (b : Bool) (v w : Verdict) → EndsForTiles v → EndsForTiles w → EndsForTiles (cond b v w)
tiles-cond true v w p q = p
tiles-cond false v w p q = q

tiles-unless : (o : Option Cause) (v : Verdict) → o ≡ None → EndsForTiles v → EndsForTiles (unless o v)
tiles-unless None v e p = p
tiles-unless (Some cause) v e p = absurd cc

unless-twice : (o : Option Cause) (v : Verdict) → unless o v ≡ unless o (unless o v)
unless-twice None v = refl
unless-twice (Some cause) v = refl

unless-again : (o p : Option Cause) (v : Verdict) → o ≡ p → unless o v ≡ unless p (unless o v)
unless-again o p v e = unless-twice o v ∙ ap (λ q. unless q (unless o v)) e

unless-first : (o p : Option Cause) (v : Verdict) → unless o (unless p v) ≡ unless (first_of_causes (o ∷ p ∷ [])) v
unless-first None None v = refl
unless-first None (Some cause) v = refl
unless-first (Some cause) p v = refl

first-none : (o p : Option Cause) → first_of_causes (o ∷ p ∷ []) ≡ None → p ≡ None
first-none None None e = refl
first-none None (Some cause) e = absurd cc
first-none (Some cause) p e = absurd cc

module _ (sizes : Sizes) (guest minor : ℕ) (own : List Row) (window len : ℕ) where
  to-split : (m : AgentMessage) (found : Option Row) →
      message_to sizes minor own window len m found ≡ unless (unknown found window) (message_to sizes minor own window len m found)
  to-split m None = refl
  to-split m (Some row) = refl

  dump-split : (kind width height bpp : ℕ) (refs : List ℕ) (found : Option Row) → row_with window own ≡ found →
      let m = agent.WindowDump kind width height bpp refs in
      message_to sizes minor own window len m found
      ≡ unless (first_of_causes (unknown found window ∷ bad_ref sizes.pages refs ∷ over_budget (refs_besides window own + length refs) sizes.pages ∷ []))
      (message_to sizes minor own window len m found)
  dump-split kind width height bpp refs None e = refl
  dump-split kind width height bpp refs (Some row) e =
      unless-again
      (first_of_causes (bad_ref sizes.pages refs ∷ over_budget (refs_besides row.window own + length refs) sizes.pages ∷ []))
      (first_of_causes (bad_ref sizes.pages refs ∷ over_budget (refs_besides window own + length refs) sizes.pages ∷ [])) _
      (ap (λ w. first_of_causes (bad_ref sizes.pages refs ∷ over_budget (refs_besides w own + length refs) sizes.pages ∷ []))
      (row_with-window window own row e))

  -- the verdict among the rows begins with what is wrong among the rows
  verdict-split : (m : AgentMessage) →
      in_range_verdict sizes guest minor own window len m
      ≡ unless (rows_fault sizes.pages own window m) (in_range_verdict sizes guest minor own window len m)
  verdict-split (agent.Create x y width height parent override_redirect) =
      unless-twice (first_of_causes (exists_already (row_with window own) window ∷ too_many own window ∷ [])) _
  verdict-split agent.Destroy = to-split agent.Destroy (row_with window own)
  verdict-split (agent.Map transient_for override_redirect) = to-split (agent.Map transient_for override_redirect) (row_with window own)
  verdict-split agent.Unmap = to-split agent.Unmap (row_with window own)
  verdict-split (agent.Configure x y width height override_redirect) = to-split (agent.Configure x y width height override_redirect) (row_with window own)
  verdict-split (agent.Shmimage x y width height) = to-split (agent.Shmimage x y width height) (row_with window own)
  verdict-split (agent.ClipData bytes) = refl
  verdict-split (agent.Name text) = to-split (agent.Name text) (row_with window own)
  verdict-split agent.Dock = to-split agent.Dock (row_with window own)
  verdict-split (agent.Hints hints) = to-split (agent.Hints hints) (row_with window own)
  verdict-split (agent.Flags flags_set flags_unset) = to-split (agent.Flags flags_set flags_unset) (row_with window own)
  verdict-split (agent.Class class name) = to-split (agent.Class class name) (row_with window own)
  verdict-split (agent.WindowDump kind width height bpp refs) = dump-split kind width height bpp refs (row_with window own) refl
  verdict-split (agent.Cursor cursor) = to-split (agent.Cursor cursor) (row_with window own)

  to-tiles : (m : AgentMessage) (found : Option Row) → unknown found window ≡ None →
      ((row : Row) → EndsForTiles (message_to_window sizes minor own len m row)) →
      EndsForTiles (message_to sizes minor own window len m found)
  to-tiles m None e p = absurd cc
  to-tiles m (Some row) e p = p row

  dump-tiles : (kind width height bpp : ℕ) (refs : List ℕ) (found : Option Row) → row_with window own ≡ found →
      first_of_causes (unknown found window ∷ bad_ref sizes.pages refs ∷ over_budget (refs_besides window own + length refs) sizes.pages ∷ []) ≡ None →
      EndsForTiles (message_to sizes minor own window len (agent.WindowDump kind width height bpp refs) found)
  dump-tiles kind width height bpp refs None e none = absurd cc
  dump-tiles kind width height bpp refs (Some row) e none =
      tiles-unless (first_of_causes (bad_ref sizes.pages refs ∷ over_budget (refs_besides row.window own + length refs) sizes.pages ∷ [])) _
      (ap (λ w. first_of_causes (bad_ref sizes.pages refs ∷ over_budget (refs_besides w own + length refs) sizes.pages ∷ []))
      (row_with-window window own row e) ∙ none) tt

  reads-tiles : (row : Row) (area : Area) → EndsForTiles (reads sizes own row area)
  reads-tiles row area =
      tiles-cond (nat_lt (sizes.tiles - tiles_in_use own) (tiles_needed row area.x area.y area.w area.h))
      (Ends (PixelBudget (tiles_needed row area.x area.y area.w area.h) (sizes.tiles - tiles_in_use own))) (Reads row area) refl tt

  flagged-tiles : (row : Row) (flags : ℕ) → EndsForTiles (flagged sizes row flags)
  flagged-tiles row flags = by_output (output_of sizes.outputs row.place)
    where
      by_output : (o : Option Rect) → EndsForTiles (flagged_on sizes o row flags)
      by_output None = tt
      by_output (Some output) =
          tiles-cond (goes_full sizes row flags output)
          (Goes (Replaced (placed_at (whole_output sizes output) (record row { flags = flags }))) (tells_place row.window (whole_output sizes output) false ∷ []))
          (Goes (Replaced (record row { flags = flags })) []) tt tt

  -- a message with nothing wrong among the rows ends the session only for want of tiles
  verdict-tiles : (m : AgentMessage) → rows_fault sizes.pages own window m ≡ None → EndsForTiles (in_range_verdict sizes guest minor own window len m)
  verdict-tiles (agent.Create x y width height parent override_redirect) e =
      tiles-unless (first_of_causes (exists_already (row_with window own) window ∷ too_many own window ∷ [])) _ e tt
  verdict-tiles agent.Destroy e = to-tiles agent.Destroy _ e (λ row. tt)
  verdict-tiles (agent.Map transient_for override_redirect) e = to-tiles (agent.Map transient_for override_redirect) _ e (λ row. tt)
  verdict-tiles agent.Unmap e = to-tiles agent.Unmap _ e (λ row. tt)
  verdict-tiles (agent.Configure x y width height override_redirect) e = to-tiles (agent.Configure x y width height override_redirect) _ e (λ row. tt)
  verdict-tiles (agent.Shmimage x y width height) e = to-tiles (agent.Shmimage x y width height) _ e (λ row. reads-tiles row (clipped row row.dump x y width height))
  verdict-tiles (agent.ClipData bytes) e = tt
  verdict-tiles (agent.Name text) e = to-tiles (agent.Name text) _ e (λ row. tt)
  verdict-tiles agent.Dock e = to-tiles agent.Dock _ e (λ row. tt)
  verdict-tiles (agent.Hints hints) e = to-tiles (agent.Hints hints) _ e (λ row. tt)
  verdict-tiles (agent.Flags flags_set flags_unset) e = to-tiles (agent.Flags flags_set flags_unset) _ e (λ row. flagged-tiles row (flags_after row.flags flags_set flags_unset))
  verdict-tiles (agent.Class class name) e = to-tiles (agent.Class class name) _ e (λ row. tt)
  verdict-tiles (agent.WindowDump kind width height bpp refs) e = dump-tiles kind width height bpp refs (row_with window own) refl e
  verdict-tiles (agent.Cursor cursor) e = to-tiles (agent.Cursor cursor) _ e (λ row. tt)

-- the verdict begins with the first cause
pub verdict-first_cause : (sizes : Sizes) (guest minor : ℕ) (own : List Row) (header : Header) (m : AgentMessage) →
    message_verdict sizes guest minor own header (Some m)
    ≡ unless (first_cause sizes.pages own header m) (in_range_verdict sizes guest minor own header.window header.len m)
verdict-first_cause sizes guest minor own header m =
    ap (unless (range_fault header.window header.len m)) (verdict-split sizes guest minor own header.window header.len m)
    ∙ unless-first (range_fault header.window header.len m) (rows_fault sizes.pages own header.window m) (in_range_verdict sizes guest minor own header.window header.len m)

-- ---- which causes there are

-- a cause, if there is one, that is checked
abbrev Checked : Option Cause → Type 0
Checked None = Unit {0}
Checked (Some cause) = IsChecked cause

checked-cons : (o : Option Cause) (os : List (Option Cause)) → Checked o → Checked (first_of_causes os) → Checked (first_of_causes (o ∷ os))
checked-cons None os p q = q
checked-cons (Some cause) os p q = p

checked-cond : (b : Bool) (o p : Option Cause) → Checked o → Checked p → Checked (cond b o p)
checked-cond true o p q r = q
checked-cond false o p q r = r

-- a cause with one of these numbers
at : (cause : Cause) (n : ℕ) → number_of cause ≡ n → 3 ≤ n → n ≤ 9 → IsChecked cause
at cause n e low high = record { from = omega arith; to = omega arith }

checked-range : (field value : ℕ) → IsChecked (BadRange field value)
checked-range field value = at (BadRange field value) 4 refl (lit≤ tt) (lit≤ tt)

checked-out : (bad : Bool) (field value : ℕ) → Checked (out_of bad field value)
checked-out bad field value = checked-cond bad (Some (BadRange field value)) None (checked-range field value) tt

checked-high : (field value : ℕ) → Checked (high_bit field value)
checked-high field value = checked-cond (nat_lt value (2 ^ 31)) None (Some (BadRange field value)) tt (checked-range field value)

checked-unknown : (found : Option Row) (window : ℕ) → Checked (unknown found window)
checked-unknown None window = at (UnknownWindow window 0) 5 refl (lit≤ tt) (lit≤ tt)
checked-unknown (Some row) window = tt

checked-exists : (found : Option Row) (window : ℕ) → Checked (exists_already found window)
checked-exists None window = tt
checked-exists (Some row) window = at (WindowExists window 0) 6 refl (lit≤ tt) (lit≤ tt)

checked-many : (own : List Row) (window : ℕ) → Checked (too_many own window)
checked-many own window =
    checked-cond (nat_lt (length own) 1024) None (Some (TooManyWindows window 1024)) tt (at (TooManyWindows window 1024) 7 refl (lit≤ tt) (lit≤ tt))

checked-ref : (pages : ℕ) (refs : List ℕ) → Checked (bad_ref pages refs)
checked-ref pages [] = tt
checked-ref pages (ref ∷ refs) =
    checked-cond (nat_lt ref pages) (bad_ref pages refs) (Some (RefRange ref pages)) (checked-ref pages refs) (at (RefRange ref pages) 8 refl (lit≤ tt) (lit≤ tt))

checked-budget : (need pages : ℕ) → Checked (over_budget need pages)
checked-budget need pages =
    checked-cond (nat_lt pages need) (Some (FrameBudget need pages)) None (at (FrameBudget need pages) 9 refl (lit≤ tt) (lit≤ tt)) tt

checked-count : (refs pages len : ℕ) → Checked (wrong_count refs pages len)
checked-count refs pages len =
    checked-cond (refs == pages) None (Some (BadLength len 0)) tt (at (BadLength len 0) 3 refl (lit≤ tt) (lit≤ tt))

checked-two : (field value field' value' : ℕ) → Checked (first_of_causes (high_bit field value ∷ high_bit field' value' ∷ []))
checked-two field value field' value' =
    checked-cons (high_bit field value) (high_bit field' value' ∷ []) (checked-high field value)
    (checked-cons (high_bit field' value') [] (checked-high field' value') tt)

checked-ranges : (window len : ℕ) (m : AgentMessage) → Checked (range_fault window len m)
checked-ranges window len (agent.Create x y width height parent override_redirect) =
    checked-cons (out_of (window == 0) 0 window) (high_bit 3 width ∷ high_bit 4 height ∷ [])
    (checked-out (window == 0) 0 window) (checked-two 3 width 4 height)
checked-ranges window len agent.Destroy = tt
checked-ranges window len (agent.Map transient_for override_redirect) = tt
checked-ranges window len agent.Unmap = tt
checked-ranges window len (agent.Configure x y width height override_redirect) = checked-two 3 width 4 height
checked-ranges window len (agent.Shmimage x y width height) =
    checked-cons (high_bit 1 x) (high_bit 2 y ∷ high_bit 3 width ∷ high_bit 4 height ∷ []) (checked-high 1 x)
    (checked-cons (high_bit 2 y) (high_bit 3 width ∷ high_bit 4 height ∷ []) (checked-high 2 y) (checked-two 3 width 4 height))
checked-ranges window len (agent.ClipData bytes) = tt
checked-ranges window len (agent.Name text) = tt
checked-ranges window len agent.Dock = tt
checked-ranges window len (agent.Hints hints) = tt
checked-ranges window len (agent.Flags flags_set flags_unset) = tt
checked-ranges window len (agent.Class class name) = tt
checked-ranges window len (agent.WindowDump kind width height bpp refs) =
    let w = width == 0 || nat_lt 16384 width in
    let h = height == 0 || nat_lt 6144 height in
    let b = not (bpp == 24 || bpp == 32) in
    let count = wrong_count (length refs) (pages_for width height) len in
    checked-cons (out_of (isnt_zero kind) 1 kind) (out_of w 2 width ∷ out_of h 3 height ∷ out_of b 4 bpp ∷ count ∷ [])
    (checked-out (isnt_zero kind) 1 kind)
    (checked-cons (out_of w 2 width) (out_of h 3 height ∷ out_of b 4 bpp ∷ count ∷ []) (checked-out w 2 width)
    (checked-cons (out_of h 3 height) (out_of b 4 bpp ∷ count ∷ []) (checked-out h 3 height)
    (checked-cons (out_of b 4 bpp) (count ∷ []) (checked-out b 4 bpp)
    (checked-cons count [] (checked-count (length refs) (pages_for width height) len) tt))))
checked-ranges window len (agent.Cursor cursor) = tt

module _ (pages : ℕ) (own : List Row) (window : ℕ) where
  checked-known : Checked (unknown (row_with window own) window)
  checked-known = checked-unknown (row_with window own) window

  checked-rows : (m : AgentMessage) → Checked (rows_fault pages own window m)
  checked-rows (agent.Create x y width height parent override_redirect) =
      checked-cons (exists_already (row_with window own) window) (too_many own window ∷ []) (checked-exists (row_with window own) window)
      (checked-cons (too_many own window) [] (checked-many own window) tt)
  checked-rows agent.Destroy = checked-known
  checked-rows (agent.Map transient_for override_redirect) = checked-known
  checked-rows agent.Unmap = checked-known
  checked-rows (agent.Configure x y width height override_redirect) = checked-known
  checked-rows (agent.Shmimage x y width height) = checked-known
  checked-rows (agent.ClipData bytes) = tt
  checked-rows (agent.Name text) = checked-known
  checked-rows agent.Dock = checked-known
  checked-rows (agent.Hints hints) = checked-known
  checked-rows (agent.Flags flags_set flags_unset) = checked-known
  checked-rows (agent.Class class name) = checked-known
  checked-rows (agent.WindowDump kind width height bpp refs) =
      let budget = over_budget (refs_besides window own + length refs) pages in
      checked-cons (unknown (row_with window own) window) (bad_ref pages refs ∷ budget ∷ []) checked-known
      (checked-cons (bad_ref pages refs) (budget ∷ []) (checked-ref pages refs)
      (checked-cons budget [] (checked-budget (refs_besides window own + length refs) pages) tt))
  checked-rows (agent.Cursor cursor) = checked-known

-- ---- the law

module _ (sizes : Sizes) (guest minor : ℕ) (own : List Row) (header : Header) (m : AgentMessage) where
  ends : (cause : Cause) → first_cause sizes.pages own header m ≡ Some cause →
      message_verdict sizes guest minor own header (Some m) ≡ Ends cause
  ends cause e =
      verdict-first_cause sizes guest minor own header m
      ∙ ap (λ o. unless o (in_range_verdict sizes guest minor own header.window header.len m)) e

  checked : (cause : Cause) → first_cause sizes.pages own header m ≡ Some cause → IsChecked cause
  checked cause e =
      subst Checked e
      (checked-cons (range_fault header.window header.len m) (rows_fault sizes.pages own header.window m ∷ [])
      (checked-ranges header.window header.len m)
      (checked-cons (rows_fault sizes.pages own header.window m) [] (checked-rows sizes.pages own header.window m) tt))

  found-by : (o : Option Cause) → first_cause sizes.pages own header m ≡ o → (cause : Cause) → IsChecked cause →
      message_verdict sizes guest minor own header (Some m) ≡ Ends cause → o ≡ Some cause
  found-by None e cause c is =
      let none = first-none (range_fault header.window header.len m) (rows_fault sizes.pages own header.window m) e in
      let whole : in_range_verdict sizes guest minor own header.window header.len m ≡ Ends cause =
      ap (λ o. unless o (in_range_verdict sizes guest minor own header.window header.len m)) (sym e)
      ∙ sym (verdict-first_cause sizes guest minor own header m) ∙ is in
      let ten : number_of cause ≡ 10 = subst EndsForTiles whole (verdict-tiles sizes guest minor own header.window header.len m none) in
      absurd (omega (arith, c.to))
  found-by (Some first) e cause c is =
      let both : Ends first ≡ Ends cause = sym (ends first e) ∙ is in
      let same : first ≡ cause = cc in
      ap Some same

pub first_cause-ends : FirstCauseIsTheVerdicts
first_cause-ends sizes guest minor own header m = record {
  ends = ends sizes guest minor own header m;
  checked = checked sizes guest minor own header m;
  found = found-by sizes guest minor own header m (first_cause sizes.pages own header m) refl;
}

-- ---- what the first cause depends on

unknown-by : (a b : Option Row) (window : ℕ) → is_some a ≡ is_some b → unknown a window ≡ unknown b window
unknown-by None None window e = refl
unknown-by None (Some row) window e = absurd cc
unknown-by (Some row) None window e = absurd cc
unknown-by (Some row) (Some other) window e = refl

exists-by : (a b : Option Row) (window : ℕ) → is_some a ≡ is_some b → exists_already a window ≡ exists_already b window
exists-by None None window e = refl
exists-by None (Some row) window e = absurd cc
exists-by (Some row) None window e = absurd cc
exists-by (Some row) (Some other) window e = refl

module _ (pages : ℕ) (own other : List Row) (same : LooksSame own other) (window : ℕ) where
  unknown-same : unknown (row_with window own) window ≡ unknown (row_with window other) window
  unknown-same = unknown-by (row_with window own) (row_with window other) window (same.known window)

  create-same : first_of_causes (exists_already (row_with window own) window ∷ too_many own window ∷ [])
      ≡ first_of_causes (exists_already (row_with window other) window ∷ too_many other window ∷ [])
  create-same =
      ap (λ o. first_of_causes (o ∷ too_many own window ∷ []))
      (exists-by (row_with window own) (row_with window other) window (same.known window))
      ∙ ap (λ n. first_of_causes (exists_already (row_with window other) window
      ∷ (cond (nat_lt n 1024) None (Some (TooManyWindows window 1024))) ∷ [])) same.count

  dump-same : (refs : List ℕ) →
      first_of_causes (unknown (row_with window own) window ∷ bad_ref pages refs
      ∷ over_budget (refs_besides window own + length refs) pages ∷ [])
      ≡ first_of_causes (unknown (row_with window other) window ∷ bad_ref pages refs
      ∷ over_budget (refs_besides window other + length refs) pages ∷ [])
  dump-same refs =
      ap (λ o. first_of_causes (o ∷ bad_ref pages refs ∷ over_budget (refs_besides window own + length refs) pages ∷ [])) unknown-same
      ∙ ap (λ n. first_of_causes (unknown (row_with window other) window ∷ bad_ref pages refs
      ∷ over_budget (n + length refs) pages ∷ [])) (same.refs window)

  rows_fault-same : (m : AgentMessage) → rows_fault pages own window m ≡ rows_fault pages other window m
  rows_fault-same (agent.Create x y width height parent override_redirect) = create-same
  rows_fault-same agent.Destroy = unknown-same
  rows_fault-same (agent.Map transient_for override_redirect) = unknown-same
  rows_fault-same agent.Unmap = unknown-same
  rows_fault-same (agent.Configure x y width height override_redirect) = unknown-same
  rows_fault-same (agent.Shmimage x y width height) = unknown-same
  rows_fault-same (agent.ClipData bytes) = refl
  rows_fault-same (agent.Name text) = unknown-same
  rows_fault-same agent.Dock = unknown-same
  rows_fault-same (agent.Hints hints) = unknown-same
  rows_fault-same (agent.Flags flags_set flags_unset) = unknown-same
  rows_fault-same (agent.Class class name) = unknown-same
  rows_fault-same (agent.WindowDump kind width height bpp refs) = dump-same refs
  rows_fault-same (agent.Cursor cursor) = unknown-same

pub first_cause-same : FirstCauseAsksLittle
first_cause-same pages own other same header m =
    ap (λ o. first_of_causes (range_fault header.window header.len m ∷ o ∷ [])) (rows_fault-same pages own other same header.window m)
