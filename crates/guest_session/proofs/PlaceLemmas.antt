-- Where a window is put, and its row there.
use Rattle.std.proofs.Common.{◌≡◌, ℕ, ◌+◌, ◌*◌, ◌≤◌, ◌<◌, Bool, true, false, cond, ◌&&◌, nat_le, min, drop, get_or, sum_by, length, Option, Some, None, List, [], ◌∷◌, refl, sym, ap, ◌∙◌, arith}
use Rattle.std.specs.Prelude.{slice_get}
use Rattle.std.proofs.lemmas.Bool.Decides.{nat_tests}
use Rattle.std.proofs.lemmas.List.{at_drop_all}
use Rattle.std.proofs.lemmas.List.Sums.{sum_by-drop_more}
use Rattle.std.proofs.lemmas.Nat.{mul-le}
use Rattle.std.proofs.lemmas.Option.{slice_get-get_or}
use Rattle.gui_num.specs.declared.Rect.{Rect}
use Rattle.gui_num.specs.Rects.{grown, area}
use Rattle.desk_laws.specs.Sizes.{Sizes}
use Rattle.desk_laws.specs.Rows.{Row, placed_at}
use Rattle.desk_laws.specs.Outputs.{output_of}
use Rattle.desk_laws.specs.Override.{Placement, effective, moved_into, placed_in, taken_besides}
use Rattle.desk_laws.specs.Effects.{Replaced, Goes, flagged, flagged_on, goes_full, whole_output, tells_place, moved_by, mapped_row, configured_row, placed_by}
use Rattle.redirect_limits.specs.declared.Placed as limits
use Rattle.redirect_limits.specs.Limits.{placed_of}
use Rattle.guest_session.specs.declared.edit.Edit.TheVariants as edit
use Rattle.guest_session.specs.declared.rows.Standing.{Standing}
use Rattle.guest_session.specs.Edits.{row_edited, moved_to}
use Rattle.guest_session.specs.Placing.{configured_to, flagged_row, most_taken, standing_of, tells_full}

-- ---- WINDOW_FLAGS

flagged_on-goes : (sizes : Sizes) (o : Option Rect) (row : Row) (flags : ℕ) → flagged_on sizes o row flags ≡ Goes (Replaced (flagged_row sizes o flags row)) (tells_full sizes o flags row)
flagged_on-goes sizes None row flags = refl
flagged_on-goes sizes (Some output) row flags = by (goes_full sizes row flags output)
  where
    full : Row
    full = placed_at (whole_output sizes output) (record row { flags = flags })

    same : Row
    same = record row { flags = flags }

    told : List (List ℕ)
    told = tells_place row.window (whole_output sizes output) false ∷ []

    by : (b : Bool) → cond b (Goes (Replaced full) told) (Goes (Replaced same) []) ≡ Goes (Replaced (cond b full same)) (cond b told [])
    by true = refl
    by false = refl

pub flagged-goes : (sizes : Sizes) (row : Row) (flags : ℕ)
    → flagged sizes row flags ≡ Goes (Replaced (flagged_row sizes (output_of sizes.outputs row.place) flags row)) (tells_full sizes (output_of sizes.outputs row.place) flags row)
flagged-goes sizes row flags = flagged_on-goes sizes (output_of sizes.outputs row.place) row flags

-- ---- MAP and CONFIGURE

-- a place with another corner and the same size
pub rect-is : (put place : Rect) → put.w ≡ place.w → put.h ≡ place.h → moved_to put.x put.y place ≡ put
rect-is put place wide high =
    ap (λ n. let r : Rect = record { x = put.x; y = put.y; w = n; h = place.h } in r) (sym wide)
    ∙ ap (λ n. let r : Rect = record { x = put.x; y = put.y; w = put.w; h = n } in r) (sym high)

-- a row moved by the override rule, as it is changed
pub mapped-is : (sizes : Sizes) (own : List Row) (asked : Bool) (transient window : ℕ) (row : Row) (place : Rect) (put : limits.Placed) → row.window ≡ window → place ≡ row.place
    → placed_of put ≡ effective sizes asked place (taken_besides sizes.border window own) → put.rect.w ≡ place.w → put.rect.h ≡ place.h
    → row_edited (edit.Map asked transient put.rect.x put.rect.y put.over) row ≡ mapped_row sizes own asked transient row
mapped-is sizes own asked transient window row place put named at rule wide high =
    ap (λ r. let new : Row = record row { place = r; mapped = true; asked = asked; over = put.over; transient = transient } in new)
    (ap (moved_to put.rect.x put.rect.y) (sym at) ∙ rect-is put.rect place wide high)
    ∙ ap (λ (p : Placement). moved_by p (record row { mapped = true; asked = asked; transient = transient }))
    (rule
    ∙ ap (λ r. effective sizes asked r (taken_besides sizes.border window own)) at
    ∙ ap (λ n. effective sizes asked row.place (taken_besides sizes.border n own)) (sym named))

pub configured-is : (sizes : Sizes) (own : List Row) (asked : Bool) (place : Rect) (window : ℕ) (row : Row) (old : Standing) (put : limits.Placed) → row.window ≡ window → old ≡ standing_of row
    → placed_of put ≡ configured_to sizes own window old asked place
    → row_edited (edit.Configure put.rect asked put.over) row ≡ configured_row sizes own asked place row
configured-is sizes own asked place window row old put named at rule =
    ap edited
    (rule
    ∙ ap (λ o. configured_to sizes own window o asked place) at
    ∙ ap (λ n. configured_to sizes own n (standing_of row) asked place) (sym named))
    ∙ by row.mapped
  where
    edited : Placement → Row
    edited p = record (placed_at p.rect row) { asked = asked; over = p.over }

    rule' : Placement
    rule' = effective sizes asked place (taken_besides sizes.border row.window own)

    by : (b : Bool) → edited (cond b rule' (record { rect = place; over = row.over }))
        ≡ cond b (placed_by rule' (record row { asked = asked })) (placed_at place (record row { asked = asked }))
    by true = refl
    by false = refl

-- ---- the sum is counted up to a bound

-- a hundred times more than any limit is past it
past-limit : (taken own limit : ℕ) → limit ≤ 2985984000 → nat_le (100 * (min most_taken taken + own)) limit ≡ nat_le (100 * (taken + own)) limit
past-limit taken own limit small = grind (arith, nat_tests)

share-small : (percent : ℕ) (output : Rect) → area output ≤ 33177600 → percent ≤ 90 → percent * area output ≤ 2985984000
share-small percent output pixels few =
    let le = mul-le percent (area output) 90 33177600 few pixels in
    omega (arith, le)

-- where the output is small, a sum past the bound grants no more than the bound
clamped : (sizes : Sizes) (output : Rect) (asked : Bool) (place : Rect) (taken : ℕ) → area output ≤ 33177600 → sizes.percent ≤ 90
    → placed_in sizes (Some output) asked place (min most_taken taken) ≡ placed_in sizes (Some output) asked place taken
clamped sizes output asked place taken pixels percent =
    ap put
    (past-limit taken (area (grown place sizes.border)) (sizes.percent * area output) (share-small sizes.percent output pixels percent))
  where
    put : Bool → Placement
    put b =
        cond ((asked && (nat_le (place.w + 2 * sizes.border) output.w && nat_le (place.h + 2 * sizes.border) output.h)) && b)
        (record { rect = moved_into output sizes.border place; over = true })
        (record { rect = place; over = false })

-- the override rule against the output of the place, where the sum is counted up to the bound
pub placed-is : (sizes : Sizes) (output : Rect) (asked : Bool) (place : Rect) (taken counted : ℕ) (put : limits.Placed) → area output ≤ 33177600 → sizes.percent ≤ 90
    → output_of sizes.outputs place ≡ Some output → counted ≡ min most_taken taken → placed_of put ≡ placed_in sizes (Some output) asked place counted
    → placed_of put ≡ effective sizes asked place taken
placed-is sizes output asked place taken counted put pixels percent here sum rule =
    rule
    ∙ ap (placed_in sizes (Some output) asked place) sum
    ∙ clamped sizes output asked place taken pixels percent
    ∙ ap (λ o. placed_in sizes o asked place taken) (sym here)

-- a window that isn't to be in the override layer stays
unasked : (sizes : Sizes) (o : Option Rect) (place : Rect) (taken : ℕ) → placed_in sizes o false place taken ≡ record { rect = place; over = false }
unasked sizes None place taken = refl
unasked sizes (Some output) place taken = refl

pub unasked-stays : (sizes : Sizes) (asked : Bool) (place : Rect) (taken : ℕ) → asked ≡ false
    → placed_of (record { rect = place; over = false }) ≡ effective sizes asked place taken
unasked-stays sizes asked place taken plain =
    sym (unasked sizes (output_of sizes.outputs place) place taken) ∙ ap (λ a. effective sizes a place taken) (sym plain)

-- ---- the sum over the rows, one after the other

-- what is still to be added behind a row
pub drop-step : (f : Row → ℕ) (rows : List Row) (i n : ℕ) → i < length rows → ((row : Row) → slice_get rows i ≡ Some row → n ≡ f row)
    → sum_by f (drop i rows) ≡ n + sum_by f (drop (i + 1) rows)
drop-step f [] i n within is = absurd (omega arith)
drop-step f (r ∷ rs) i n within is =
    sum_by-drop_more f (r ∷ rs) i r within
    ∙ ap (λ m. m + sum_by f (drop (i + 1) (r ∷ rs))) (sym (is (get_or (r ∷ rs) i r) (slice_get-get_or (r ∷ rs) i r within)))

pub added : (taken n rest rest' total : ℕ) → min most_taken (taken + rest) ≡ total → rest ≡ n + rest' → min most_taken (min most_taken (taken + n) + rest') ≡ total
added taken n rest rest' total is more = grind (arith, nat_tests)

pub all-added : (f : Row → ℕ) (rows : List Row) (i taken total : ℕ) → length rows ≤ i → taken ≤ most_taken → min most_taken (taken + sum_by f (drop i rows)) ≡ total → taken ≡ total
all-added f rows i taken total past small is =
    let none : sum_by f (drop i rows) ≡ 0 = at_drop_all (sum_by f) rows i past in
    omega (arith, none, is)
