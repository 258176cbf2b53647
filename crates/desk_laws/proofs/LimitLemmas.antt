-- Override windows keep their limits.
use Rattle.std.proofs.Common.{◌≡◌, ℕ, zero, suc, ◌+◌, ◌*◌, ◌≤◌, Bool, true, false, ◌&&◌, not, ◌==◌, List, [], ◌∷◌, ◌++◌, map, Option, Some, None, is_some, refl, sym, ap, subst, arith}
use Rattle.std.specs.Prelude.{filter, length, if◌then◌else◌, ◌-◌, ◌/◌, ◌%◌, nat_lt, nat_le, ℤ, pos, ◌+ℤ◌, ◌-ℤ◌, int_le}
use Rattle.std.specs.List.{All}
use Rattle.std.proofs.lemmas.Bool.{and_parts, not-true, eqb-true, eqb-false, leb-true, both_ways}
use Rattle.std.proofs.lemmas.Int.{ints, clamps}
use Rattle.std.proofs.lemmas.List.Elements.{All-nil, All-head, All-tail, All-map, All-weaker, All-filter, All-push}
use Rattle.gui_num.specs.declared.Rect.{Rect}
use Rattle.gui_num.specs.Rects.{area, grown}
use Rattle.gui_wire.specs.declared.Header.{Header}
use Rattle.gui_wire.specs.AgentMessages as agent
use Rattle.gui_wire.specs.AgentMessages.{AgentMessage, reading}
use Rattle.desk_laws.specs.declared.setup.Setup.{Setup}
use Rattle.desk_laws.specs.declared.cause.Cause.{Cause}
use Rattle.desk_laws.specs.declared.cause.Cause.TheVariants.{BadVersion, PixelBudget}
use Rattle.desk_laws.specs.Sizes.{Sizes, sizes_of}
use Rattle.desk_laws.specs.Ranges.{rect_in_range}
use Rattle.desk_laws.specs.Stream.{StreamUnit, Word, Stop, Whole, Cut, cut}
use Rattle.gui_wire.specs.declared.limits.TheConstants.{WINDOW_FLAG_FULLSCREEN}
use Rattle.desk_laws.specs.Rows.{Row, id_of, mine, is_row, row_with, placed_at, outer, has_flag}
use Rattle.desk_laws.specs.Layers.{are_apart}
use Rattle.desk_laws.specs.Scene.{Scene, Input, Took}
use Rattle.desk_laws.specs.Settle.{settle}
use Rattle.desk_laws.specs.Tiles.{tiles_in_use, tiles_needed}
use Rattle.desk_laws.specs.Frames.{load_all}
use Rattle.desk_laws.specs.Effects.{Effect, Change, Same, Added, Replaced, Removed, Cleared, changed, replaced_in, of_guest, forgets, name_without, Area, clipped, placed_by, configured_row, Verdict, Ends, Greets, Goes, Reads, unless, first_of_causes, exists_already, too_many, bad_ref, over_budget, refs_besides, range_fault, created, id_if, isnt_zero, flagged, goes_full, flagged_on, flags_after, reads, tells_place, whole_output, acks, message_to_window, message_to, in_range_verdict, message_verdict, verdict, greeting, drawn_row, frame_places, points}
use Rattle.desk_laws.specs.Following.{ChangesOne}
use Rattle.desk_laws.specs.State.{DeskState, session_of}
use Rattle.desk_laws.specs.Steps.{take_unit, take_units, take_bytes, end_session, unit_of_open, unit_told, end_told, went, ends, with_rest, bytes_of_open, end_of_open}
use Rattle.desk_laws.specs.Outputs.{output_of, lies_in, largest}
use Rattle.desk_laws.specs.Override.{Placement, placed_in, effective, is_granted, moved_inside, moved_into, taken_besides, is_over, area_over, lies_in_one, KeepsLimits}
use Rattle.desk_laws.proofs.ChangeLemmas.{IsOfOne, window_of_unit, of_unit, found-window}
use Rattle.desk_laws.proofs.OtherLemmas.{others-keep_rows}
use Rattle.desk_laws.proofs.ShareLemmas.{besides-le, besides-and_row, replaced-area, added-area, fewer-area, forgetting-area}
use Rattle.desk_laws.proofs.ListedLemmas.{AreListed, done, unit-listed, rest-scene}
use Rattle.desk_laws.proofs.SettleLemmas.{settle-rows}
use Rattle.desk_laws.proofs.UnitLemmas.{effect_of}
use Rattle.desk_laws.proofs.OutputLemmas.{output-any, output-largest}

-- ---- the limits of one guest's rows

-- a row, if it is a mapped override window, lies with its border in one output
abbrev pub IsInside : Sizes → Row → Type 0
IsInside sizes row = is_over row ≡ true → lies_in_one sizes.outputs (outer sizes.border row) ≡ true

-- a guest's own rows keep the limits
pub record OwnLimits (sizes : Sizes) (own : List Row) : Type 0 where
  pub inside : All (IsInside sizes) own
  pub share : 100 * area_over sizes.border own ≤ sizes.percent * largest sizes.outputs

-- a window at this place, in the override layer or not, keeps the limits beside the other rows
pub record IsWithin (sizes : Sizes) (own : List Row) (window : ℕ) (over : Bool) (place : Rect) : Type 0 where
  pub inside : over ≡ true → lies_in_one sizes.outputs (grown place sizes.border) ≡ true
  pub share : 100 * (taken_besides sizes.border window own + (if over then area (grown place sizes.border) else 0))
      ≤ sizes.percent * largest sizes.outputs

-- a row in the place of its window's keeps the limits
abbrev pub FitsRow : Sizes → List Row → Row → Type 0
FitsRow sizes own new = IsWithin sizes own new.window (is_over new) new.place

pub of-guest : (sizes : Sizes) (guest : ℕ) (rows : List Row) → KeepsLimits sizes rows → OwnLimits sizes (mine guest rows)
of-guest sizes guest rows limits = record {
  inside = All-filter (λ row. row.guest == guest) (IsInside sizes) rows limits.inside;
  share = limits.share guest;
}

hundredfold : (a b p : ℕ) → a ≤ b → 100 * b ≤ p → 100 * a ≤ p
hundredfold a b p less most = omega arith

moved-low : (z : ℤ) (size border : ℕ) (a : ℤ) (limit : ℕ) → int_le a (moved_inside z size border a limit -ℤ pos border) ≡ true
moved-low z size border a limit = grind (arith, ints, clamps)

moved-high : (z : ℤ) (size border : ℕ) (a : ℤ) (limit : ℕ) → size + 2 * border ≤ limit
    → int_le ((moved_inside z size border a limit -ℤ pos border) +ℤ pos (size + 2 * border)) (a +ℤ pos limit) ≡ true
moved-high z size border a limit fits = grind (arith, ints, clamps)

all-four : (a b c d : Bool) → a ≡ true → b ≡ true → c ≡ true → d ≡ true → ((a && b) && (c && d)) ≡ true
all-four a b c d ea eb ec ed = cc

-- a moved window lies in the output with its border
moved-lies : (output : Rect) (border : ℕ) (place : Rect) → place.w + 2 * border ≤ output.w → place.h + 2 * border ≤ output.h
    → lies_in output (grown (moved_into output border place) border) ≡ true
moved-lies output border place wide high =
    all-four _ _ _ _
    (moved-low place.x place.w border output.x output.w) (moved-low place.y place.h border output.y output.h)
    (moved-high place.x place.w border output.x output.w wide) (moved-high place.y place.h border output.y output.h high)

-- a percent of an output is at most that of the largest
share-most : (need percent area most : ℕ) → need ≤ percent * area → area ≤ most → need ≤ percent * most
share-most need percent area most less larger = ≤-trans less (*-mono percent area most larger)
  where
    ≤-trans : {a b c : ℕ} → a ≤ b → b ≤ c → a ≤ c
    ≤-trans ab bc = omega arith

    *-mono : (p a b : ℕ) → a ≤ b → p * a ≤ p * b
    *-mono zero a b less = omega arith
    *-mono (suc p) a b less = let rest : p * a ≤ p * b = *-mono p a b less in omega arith

module _ (sizes : Sizes) (own : List Row) (limits : OwnLimits sizes own) where
  -- a window that isn't in the override layer
  pub none-within : (window : ℕ) (place : Rect) → IsWithin sizes own window false place
  none-within window place = record {
    inside = λ e. absurd (cc);
    share = hundredfold _ _ _ (plus_none _ _ (besides-le sizes.border window own)) limits.share;
  }
    where
      plus_none : (a b : ℕ) → a ≤ b → a + 0 ≤ b
      plus_none a b less = omega arith

  -- a row that is unmapped, or else in this layer
  pub and-within : (window : ℕ) (mapped over : Bool) (place : Rect) → IsWithin sizes own window over place → IsWithin sizes own window (mapped && over) place
  and-within window true over place is = is
  and-within window false over place is = none-within window place

  -- what the override rule gives
  effective-within : (window : ℕ) (asked : Bool) (place : Rect)
      → IsWithin sizes own window (effective sizes asked place (taken_besides sizes.border window own)).over (effective sizes asked place (taken_besides sizes.border window own)).rect
  effective-within window asked place = by_output (output_of sizes.outputs place) refl
    where
      taken : ℕ
      taken = taken_besides sizes.border window own

      result : Rect → Bool → Placement
      result output b = if b then record { rect = moved_into output sizes.border place; over = true } else record { rect = place; over = false }

      by_grant : (output : Rect) → output_of sizes.outputs place ≡ Some output → (b : Bool) → is_granted sizes output asked place taken ≡ b
          → IsWithin sizes own window (result output b).over (result output b).rect
      by_grant output is true e =
          let parts = and_parts (asked && (nat_le (place.w + 2 * sizes.border) output.w && nat_le (place.h + 2 * sizes.border) output.h)) _ e in
          let fits = and_parts (nat_le (place.w + 2 * sizes.border) output.w) (nat_le (place.h + 2 * sizes.border) output.h) (and_parts asked _ parts.0).1 in
          record {
            inside = λ e. output-any (λ o. lies_in o (grown (moved_into output sizes.border place) sizes.border)) sizes.outputs place output is
                (moved-lies output sizes.border place (leb-true _ _ fits.0) (leb-true _ _ fits.1));
            share = share-most _ sizes.percent (area output) (largest sizes.outputs) (leb-true _ _ parts.1) (output-largest sizes.outputs place output is);
          }
      by_grant output is false e = none-within window place

      by_output : (o : Option Rect) → output_of sizes.outputs place ≡ o
          → IsWithin sizes own window (placed_in sizes o asked place taken).over (placed_in sizes o asked place taken).rect
      by_output None is = none-within window place
      by_output (Some output) is = by_grant output is (is_granted sizes output asked place taken) refl

  -- the row that is there, inside
  found-inside : (window : ℕ) (rows : List Row) (row : Row) → row_with window rows ≡ Some row → All (IsInside sizes) rows → IsInside sizes row
  found-inside window [] row is all = absurd (cc)
  found-inside window (r ∷ rows) row is all =
      by_test (r.window == window) is (λ h. found-inside window rows row h (All-tail (IsInside sizes) r rows all))
    where
      by_test : (b : Bool) → (if b then Some r else row_with window rows) ≡ Some row → (row_with window rows ≡ Some row → IsInside sizes row) → IsInside sizes row
      by_test true h further = let same : r ≡ row = cc in subst (IsInside sizes) same (All-head (IsInside sizes) r rows all)
      by_test false h further = further h

  -- the row that is there keeps the limits
  pub found-within : (window : ℕ) (row : Row) → row_with window own ≡ Some row → IsWithin sizes own row.window (is_over row) row.place
  found-within window row is =
      let here : IsWithin sizes own window (is_over row) row.place =
      record {
        inside = found-inside window own row is limits.inside;
        share = hundredfold _ _ _ (besides-and_row sizes.border window own row is) limits.share;
      } in
      subst (λ w. IsWithin sizes own w (is_over row) row.place) (sym (found-window window own row is)) here

-- ---- what a verdict puts in a row's place

-- what is known of a change
abbrev pub FitsChange : Sizes → List Row → Change → Type 0
FitsChange sizes own Same = Unit {0}
FitsChange sizes own (Added row) = Unit {0}
FitsChange sizes own (Replaced new) = FitsRow sizes own new
FitsChange sizes own (Removed window) = Unit {0}
FitsChange sizes own Cleared = Unit {0}

-- what is known of a verdict
abbrev FitsVerdict : Sizes → List Row → Verdict → Type 0
FitsVerdict sizes own (Ends cause) = Unit {0}
FitsVerdict sizes own (Greets minor answers) = Unit {0}
FitsVerdict sizes own (Goes change answers) = FitsChange sizes own change
FitsVerdict sizes own (Reads row area) = Unit {0}

module _ (sizes : Sizes) (own : List Row) (limits : OwnLimits sizes own) where
  fits-unless : (o : Option Cause) (v : Verdict) → FitsVerdict sizes own v → FitsVerdict sizes own (unless o v)
  fits-unless None v is = is
  fits-unless (Some cause) v is = tt

  module _ (window : ℕ) (row : Row) (is : row_with window own ≡ Some row) where
    -- a row with the same place and layer
    stays : FitsRow sizes own row
    stays = found-within sizes own limits window row is

    fits-configured : (asked : Bool) (place : Rect) → FitsRow sizes own (configured_row sizes own asked place row)
    fits-configured asked place = by_mapped row.mapped refl
      where
        e : Placement
        e = effective sizes asked place (taken_besides sizes.border row.window own)

        by_mapped : (b : Bool) → row.mapped ≡ b
            → FitsRow sizes own (if b then placed_by e (record row { asked = asked }) else placed_at place (record row { asked = asked }))
        by_mapped true h = and-within sizes own limits row.window row.mapped e.over e.rect (effective-within sizes own limits row.window asked place)
        by_mapped false h =
            subst (λ m. IsWithin sizes own row.window (m && row.over) place) (sym h) (none-within sizes own limits row.window place)

    fits-flags : (flags : ℕ) → FitsVerdict sizes own (flagged sizes row flags)
    fits-flags flags = by_output (output_of sizes.outputs row.place)
      where
        full : Rect → Row
        full output = placed_at (whole_output sizes output) (record row { flags = flags })

        goes : Bool
        goes = not (has_flag WINDOW_FLAG_FULLSCREEN row.flags) && has_flag WINDOW_FLAG_FULLSCREEN flags

        by_full : (output : Rect) (b : Bool) → goes_full sizes row flags output ≡ b → FitsVerdict sizes own (if b
            then Goes (Replaced (full output)) (tells_place row.window (whole_output sizes output) false ∷ [])
            else Goes (Replaced (record row { flags = flags })) [])
        by_full output true h =
            let place : Rect = whole_output sizes output in
            let wanted = and_parts (goes && not row.over) _ h in
            let normal : row.over ≡ false = not-true row.over (and_parts goes (not row.over) wanted.0).1 in
            subst (λ o. IsWithin sizes own row.window (row.mapped && o) place) (sym normal)
            (and-within sizes own limits row.window row.mapped false place (none-within sizes own limits row.window place))
        by_full output false h = stays

        by_output : (o : Option Rect) → FitsVerdict sizes own (flagged_on sizes o row flags)
        by_output None = stays
        by_output (Some output) = by_full output (goes_full sizes row flags output) refl

    fits-reads : (area : Area) → FitsVerdict sizes own (reads sizes own row area)
    fits-reads area = by_tiles (nat_lt (sizes.tiles - tiles_in_use own) (tiles_needed row area.x area.y area.w area.h))
      where
        by_tiles : (b : Bool) → FitsVerdict sizes own (if b
            then Ends (PixelBudget (tiles_needed row area.x area.y area.w area.h) (sizes.tiles - tiles_in_use own))
            else Reads row area)
        by_tiles true = tt
        by_tiles false = tt

    fits-message : (minor len : ℕ) (m : AgentMessage) → FitsVerdict sizes own (message_to_window sizes minor own len m row)
    fits-message minor len (agent.Create x y width height parent override_redirect) = tt
    fits-message minor len agent.Destroy = tt
    fits-message minor len (agent.Map transient_for override_redirect) =
        effective-within sizes own limits row.window (isnt_zero override_redirect) row.place
    fits-message minor len agent.Unmap = none-within sizes own limits row.window row.place
    fits-message minor len (agent.Configure x y width height override_redirect) =
        fits-configured (isnt_zero override_redirect) (rect_in_range x y width height)
    fits-message minor len (agent.Shmimage x y width height) = fits-reads (clipped row row.dump x y width height)
    fits-message minor len (agent.ClipData bytes) = tt
    fits-message minor len (agent.Name text) = stays
    fits-message minor len agent.Dock = stays
    fits-message minor len (agent.Hints hints) = stays
    fits-message minor len (agent.Flags flags_set flags_unset) = fits-flags (flags_after row.flags flags_set flags_unset)
    fits-message minor len (agent.Class class name) = stays
    fits-message minor len (agent.WindowDump kind width height bpp refs) =
        fits-unless (first_of_causes (bad_ref sizes.pages refs ∷ over_budget (refs_besides row.window own + length refs) sizes.pages ∷ []))
        (Goes (Replaced (record row { dump = Some (record { width = width; height = height; refs = refs }) })) (acks minor row.window)) stays
    fits-message minor len (agent.Cursor cursor) = stays

  fits-known : (minor len window : ℕ) (m : AgentMessage) (o : Option Row) → row_with window own ≡ o
      → FitsVerdict sizes own (message_to sizes minor own window len m o)
  fits-known minor len window m None is = tt
  fits-known minor len window m (Some row) is = fits-message window row is minor len m

  fits-range : (guest minor window len : ℕ) (m : AgentMessage) → FitsVerdict sizes own (in_range_verdict sizes guest minor own window len m)
  fits-range guest minor window len (agent.Create x y width height parent override_redirect) =
      fits-unless (first_of_causes (exists_already (row_with window own) window ∷ too_many own window ∷ []))
      (Goes (Added (created guest window (rect_in_range x y width height) (id_if (is_some (row_with parent own)) parent) (isnt_zero override_redirect))) []) tt
  fits-range guest minor window len (agent.ClipData bytes) = tt
  fits-range guest minor window len agent.Destroy = fits-known minor len window agent.Destroy (row_with window own) refl
  fits-range guest minor window len (agent.Map transient_for override_redirect) =
      fits-known minor len window (agent.Map transient_for override_redirect) (row_with window own) refl
  fits-range guest minor window len agent.Unmap = fits-known minor len window agent.Unmap (row_with window own) refl
  fits-range guest minor window len (agent.Configure x y width height override_redirect) =
      fits-known minor len window (agent.Configure x y width height override_redirect) (row_with window own) refl
  fits-range guest minor window len (agent.Shmimage x y width height) =
      fits-known minor len window (agent.Shmimage x y width height) (row_with window own) refl
  fits-range guest minor window len (agent.Name text) = fits-known minor len window (agent.Name text) (row_with window own) refl
  fits-range guest minor window len agent.Dock = fits-known minor len window agent.Dock (row_with window own) refl
  fits-range guest minor window len (agent.Hints hints) = fits-known minor len window (agent.Hints hints) (row_with window own) refl
  fits-range guest minor window len (agent.Flags flags_set flags_unset) =
      fits-known minor len window (agent.Flags flags_set flags_unset) (row_with window own) refl
  fits-range guest minor window len (agent.Class class name) = fits-known minor len window (agent.Class class name) (row_with window own) refl
  fits-range guest minor window len (agent.WindowDump kind width height bpp refs) =
      fits-known minor len window (agent.WindowDump kind width height bpp refs) (row_with window own) refl
  fits-range guest minor window len (agent.Cursor cursor) = fits-known minor len window (agent.Cursor cursor) (row_with window own) refl

  fits-read : (guest minor : ℕ) (header : Header) (o : Option AgentMessage) → FitsVerdict sizes own (message_verdict sizes guest minor own header o)
  fits-read guest minor header None = tt
  fits-read guest minor header (Some m) =
      fits-unless (range_fault header.window header.len m) (in_range_verdict sizes guest minor own header.window header.len m)
      (fits-range guest minor header.window header.len m)

  -- where a guest's rows keep the limits, each row that a unit puts in the place of another keeps them
  fits-unit : (guest minor : ℕ) (unit : StreamUnit) → FitsVerdict sizes own (verdict sizes guest minor own unit)
  fits-unit guest minor (Word w) = by_version (w / 65536 == 1)
    where
      by_version : (b : Bool) → FitsVerdict sizes own (if b then Greets (w % 65536) (greeting sizes (w % 65536)) else Ends (BadVersion w 0))
      by_version true = tt
      by_version false = tt
  fits-unit guest minor (Stop cause) = tt
  fits-unit guest minor (Whole header body) = fits-read guest minor header (reading header.kind body)

-- ---- the rows of all guests after a change

-- no window, no limit
pub none-limited : (sizes : Sizes) → KeepsLimits sizes []
none-limited sizes = record { inside = All-nil (IsInside sizes); share = λ guest. omega arith }

module _ (sizes : Sizes) (guest : ℕ) (rows : List Row) (limits : KeepsLimits sizes rows) where
  -- a row in the place of another
  pub replaced-limited : (new : Row) → are_apart (map id_of rows) ≡ true → FitsRow sizes (mine guest rows) new → KeepsLimits sizes (changed guest (Replaced new) rows)
  replaced-limited new apart fits = record {
    inside = All-map (IsInside sizes) (replaced_in guest new) rows
        (All-weaker (IsInside sizes) (λ row. IsInside sizes (replaced_in guest new row)) (λ row one. by_row row (is_row guest new.window row) one) rows limits.inside);
    share = λ other. by_guest other (other == guest) refl;
  }
    where
      by_row : (row : Row) (b : Bool) → IsInside sizes row → IsInside sizes (if b then of_guest guest new else row)
      by_row row true one = fits.inside
      by_row row false one = one

      by_guest : (other : ℕ) (b : Bool) → (other == guest) ≡ b
          → 100 * area_over sizes.border (mine other (changed guest (Replaced new) rows)) ≤ sizes.percent * largest sizes.outputs
      by_guest other true e =
          subst (λ n. 100 * area_over sizes.border (mine n (changed guest (Replaced new) rows)) ≤ sizes.percent * largest sizes.outputs) (sym (eqb-true other guest e))
          (hundredfold _ _ _ (replaced-area sizes.border guest new rows apart) fits.share)
      by_guest other false e =
          subst (λ own. 100 * area_over sizes.border own ≤ sizes.percent * largest sizes.outputs)
          (sym (others-keep_rows guest other (Replaced new) rows (eqb-false other guest e))) (limits.share other)

  -- a new row that isn't mapped
  pub added-limited : (row : Row) → row.mapped ≡ false → KeepsLimits sizes (changed guest (Added row) rows)
  added-limited row unmapped = record {
    inside = All-push (IsInside sizes) rows (of_guest guest row) limits.inside (λ e. absurd (both_ways (is_over row) (off row.mapped row.over unmapped) e));
    share = λ other. subst (λ n. 100 * n ≤ sizes.percent * largest sizes.outputs) (sym (added-area sizes.border other rows (of_guest guest row) unmapped)) (limits.share other);
  }
    where
      off : (mapped over : Bool) → mapped ≡ false → (mapped && over) ≡ false
      off mapped over e = ap (λ m. m && over) e

  -- fewer rows
  pub fewer-limited : (p : Row → Bool) → KeepsLimits sizes (filter p rows)
  fewer-limited p = record {
    inside = All-filter p (IsInside sizes) rows limits.inside;
    share = λ other. hundredfold _ _ _ (fewer-area sizes.border other p rows) (limits.share other);
  }

-- rows that forget a window
forgetting-limited : (sizes : Sizes) (guest window : ℕ) (rows : List Row) → KeepsLimits sizes rows → KeepsLimits sizes (map (forgets guest window) rows)
forgetting-limited sizes guest window rows limits = record {
  inside = All-map (IsInside sizes) (forgets guest window) rows
      (All-weaker (IsInside sizes) (λ row. IsInside sizes (forgets guest window row)) (λ row one. by_guest row (row.guest == guest) one) rows limits.inside);
  share = λ other. subst (λ n. 100 * n ≤ sizes.percent * largest sizes.outputs) (sym (forgetting-area sizes.border other guest window rows)) (limits.share other);
}
  where
    by_guest : (row : Row) (b : Bool) → IsInside sizes row
        → IsInside sizes (if b then record row { parent = name_without window row.parent; transient = name_without window row.transient } else row)
    by_guest row true one = one
    by_guest row false one = one

-- ---- units and bytes

-- what a change of one window leaves
pub change-limited : (sizes : Sizes) (guest window : ℕ) (change : Change) (rows : List Row) → KeepsLimits sizes rows → are_apart (map id_of rows) ≡ true
    → ChangesOne window (mine guest rows) change → FitsChange sizes (mine guest rows) change → KeepsLimits sizes (changed guest change rows)
change-limited sizes guest window Same rows limits apart one fits = limits
change-limited sizes guest window (Added row) rows limits apart one fits = added-limited sizes guest rows limits row one.from.1
change-limited sizes guest window (Replaced new) rows limits apart one fits = replaced-limited sizes guest rows limits new apart fits
change-limited sizes guest window (Removed w) rows limits apart one fits =
    forgetting-limited sizes guest w (filter (λ row. not (is_row guest w row)) rows) (fewer-limited sizes guest rows limits (λ row. not (is_row guest w row)))
change-limited sizes guest window Cleared rows limits apart one fits = fewer-limited sizes guest rows limits (λ row. not (row.guest == guest))

-- settling keeps the limits
settled-limited : (sizes : Sizes) (scene : Scene) → KeepsLimits sizes scene.rows → KeepsLimits sizes (settle sizes scene).scene.rows
settled-limited sizes scene limits = subst (KeepsLimits sizes) (sym (settle-rows sizes scene)) limits

module _ (setup : Setup) (guest : ℕ) where
  -- the rows of a unit, settled
  unit-kept : (unit : StreamUnit) (e : Effect) (desk : DeskState) → KeepsLimits (sizes_of setup) e.rows
      → KeepsLimits (sizes_of setup) (went setup guest unit e desk).desk.scene.rows
  unit-kept unit e desk limits = settled-limited (sizes_of setup) (unit_told (sizes_of setup).clip_limit guest unit e desk.scene).scene limits

  -- the rows that an end leaves, settled
  end-kept : (input : Input) (cause : Cause) (desk : DeskState) → KeepsLimits (sizes_of setup) desk.scene.rows
      → KeepsLimits (sizes_of setup) (ends setup guest input cause desk).desk.scene.rows
  end-kept input cause desk limits =
      settled-limited (sizes_of setup) (end_told guest input cause desk.scene).scene
      (fewer-limited (sizes_of setup) guest desk.scene.rows limits (λ row. not (row.guest == guest)))

  -- what a verdict leaves
  verdict-limited : (unit : StreamUnit) (window : ℕ) (desk : DeskState) (v : Verdict) → are_apart (map id_of desk.scene.rows) ≡ true
      → KeepsLimits (sizes_of setup) desk.scene.rows → IsOfOne window (mine guest desk.scene.rows) v → FitsVerdict (sizes_of setup) (mine guest desk.scene.rows) v
      → KeepsLimits (sizes_of setup) (done setup guest unit desk v).desk.scene.rows
  verdict-limited unit window desk (Ends cause) apart limits one fits = end-kept (Took unit) cause desk limits
  verdict-limited unit window desk (Greets minor answers) apart limits one fits = unit-kept unit (effect_of guest desk (Greets minor answers)) desk limits
  verdict-limited unit window desk (Goes change answers) apart limits one fits =
      unit-kept unit (effect_of guest desk (Goes change answers)) desk
      (change-limited (sizes_of setup) guest window change desk.scene.rows limits apart one fits)
  verdict-limited unit window desk (Reads row area) apart limits one fits =
      unit-kept unit (effect_of guest desk (Reads row area)) desk
      (replaced-limited (sizes_of setup) guest desk.scene.rows limits
      (drawn_row row area (load_all (session_of guest desk).port (frame_places row.dump (points area))).words) apart
      (found-within (sizes_of setup) (mine guest desk.scene.rows) (of-guest (sizes_of setup) guest desk.scene.rows limits) window row one))

  -- one unit
  pub unit-limited : (unit : StreamUnit) (desk : DeskState) → are_apart (map id_of desk.scene.rows) ≡ true → KeepsLimits (sizes_of setup) desk.scene.rows
      → KeepsLimits (sizes_of setup) (take_unit setup guest unit desk).desk.scene.rows
  unit-limited unit desk apart limits = by_end (session_of guest desk).ended
    where
      own : List Row
      own = mine guest desk.scene.rows

      by_end : (e : Option Cause) → KeepsLimits (sizes_of setup) (unit_of_open setup guest unit e desk).desk.scene.rows
      by_end None =
          verdict-limited unit (window_of_unit unit) desk (verdict (sizes_of setup) guest (session_of guest desk).minor own unit) apart limits
          (of_unit (sizes_of setup) guest (session_of guest desk).minor own unit)
          (fits-unit (sizes_of setup) own (of-guest (sizes_of setup) guest desk.scene.rows limits) guest (session_of guest desk).minor unit)
      by_end (Some cause) = limits

  -- units in order
  pub units-limited : (units : List StreamUnit) (desk : DeskState) → AreListed desk.scene → KeepsLimits (sizes_of setup) desk.scene.rows
      → KeepsLimits (sizes_of setup) (take_units setup guest units desk).desk.scene.rows
  units-limited [] desk listed limits = limits
  units-limited (u ∷ units) desk listed limits =
      units-limited units (take_unit setup guest u desk).desk (unit-listed setup guest u desk listed) (unit-limited u desk listed.apart limits)

  -- bytes of a guest
  pub bytes-limited : (piece : List ℕ) (desk : DeskState) → AreListed desk.scene → KeepsLimits (sizes_of setup) desk.scene.rows
      → KeepsLimits (sizes_of setup) (take_bytes setup guest piece desk).desk.scene.rows
  bytes-limited piece desk listed limits = by_end (session_of guest desk).ended
    where
      c : Cut
      c = cut (session_of guest desk).greeted ((session_of guest desk).rest ++ piece)

      same : (with_rest guest c.rest desk).scene ≡ desk.scene
      same = rest-scene setup guest c.rest desk

      by_end : (e : Option Cause) → KeepsLimits (sizes_of setup) (bytes_of_open setup guest piece e desk).desk.scene.rows
      by_end None =
          units-limited c.units (with_rest guest c.rest desk) (subst (λ s. AreListed s) (sym same) listed)
          (subst (λ (s : Scene). KeepsLimits (sizes_of setup) s.rows) (sym same) limits)
      by_end (Some cause) = limits

  -- the end of a session
  pub end-limited : (input : Input) (cause : Cause) (desk : DeskState) → KeepsLimits (sizes_of setup) desk.scene.rows
      → KeepsLimits (sizes_of setup) (end_session setup guest input cause desk).desk.scene.rows
  end-limited input cause desk limits = by_end (session_of guest desk).ended
    where
      by_end : (e : Option Cause) → KeepsLimits (sizes_of setup) (end_of_open setup guest input cause e desk).desk.scene.rows
      by_end None = end-kept input cause desk limits
      by_end (Some c) = limits
