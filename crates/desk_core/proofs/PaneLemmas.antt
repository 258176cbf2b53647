-- Views that can be painted, and the list of the shown windows, one id after the other.
use Rattle.std.proofs.Common.{◌≡◌, ℕ, zero, suc, ◌+◌, ◌*◌, ◌<◌, ◌≤◌, true, List, [], ◌∷◌, ◌++◌, length, take, get_or, map, Option, Some, None, refl, sym, ◌∙◌, ap, arith, ℤ, pos, negsuc, ◌≤ℤ◌}
use Rattle.std.specs.List.{cons_option}
use Rattle.std.specs.Prelude.{filter_map, option_and_then, option_map, slice_get, ◌-ℤ◌}
use Rattle.std.proofs.lemmas.Bool.{and_parts, and_from}
use Rattle.std.proofs.lemmas.Int.{ints}
use Rattle.std.proofs.lemmas.List.{get_or-map, length-map}
use Rattle.std.proofs.lemmas.Option.{slice_get-map, slice_get-get_or}
use Rattle.gui_num.specs.declared.Point.{Point}
use Rattle.gui_num.specs.declared.Rect.{Rect}
use Rattle.gui_num.specs.declared.Colour.{Colour}
use Rattle.gui_num.specs.Rects.{IsFit, has, grown, on_side}
use Rattle.compositor.specs.Composed as composed
use Rattle.compositor.specs.Composed.{Pane, views_of}
use Rattle.desk_laws.specs.Rows.{span}
use Rattle.desk_laws.proofs.GridLemmas.{length-span, get_or-span}
use Rattle.desk_laws.specs.Ranges.{IsPlace}
use Rattle.tile_store.specs.Contents as tiles
use Rattle.guest_session.specs.SessionView.{SessionView}
use Rattle.desk_core.specs.ShownView.{ShownView, CanBePainted}
use Rattle.desk_core.specs.Panes.{pane_of}

-- ---- views

fit-side : (a : ℤ) (n most border : ℕ) → negsuc 32767 ≤ℤ a → a ≤ℤ pos 32767 → n ≤ most → most ≤ 16384 → border ≤ 16
    → (negsuc 65535 ≤ℤ (a -ℤ pos border)) × ((a -ℤ pos border) ≤ℤ pos 65535) × (n + 2 * border ≤ 32768)
fit-side a n most border low high small within narrow = (grind (arith, ints), grind (arith, ints), omega arith)

side-grown : (a : ℤ) (n b : ℕ) (p : ℤ) → on_side a n p ≡ true → on_side (a -ℤ pos b) (n + 2 * b) p ≡ true
side-grown a n b p is = grind (arith, ints)

-- a place lies in its outer rectangle
in-outer : (r : Rect) (b : ℕ) (p : Point) → has r p ≡ true → has (grown r b) p ≡ true
in-outer r b p is =
    let parts = and_parts (on_side r.x r.w p.x) (on_side r.y r.h p.y) is in
    and_from _ _ (side-grown r.x r.w b p.x parts.0) (side-grown r.y r.h b p.y parts.1)

place-fits : (r : Rect) → IsPlace r → IsFit r
place-fits r is = record {
  x_low = grind (arith, ints, is.x_low);
  x_high = grind (arith, ints, is.x_high);
  y_low = grind (arith, ints, is.y_low);
  y_high = grind (arith, ints, is.y_high);
  w_small = omega (arith, is.w_high);
  h_small = omega (arith, is.h_high);
}

-- a place in range with a border of at most 16 pixels can be painted
pub can-paint : (place : Rect) (border : ℕ) (colour : Colour) → IsPlace place → border ≤ 16
    → CanBePainted (record { outer = grown place border; content = place; colour = colour })
can-paint place border colour is narrow =
    let wide = fit-side place.x place.w 16384 border is.x_low is.x_high is.w_high (omega arith) narrow in
    let high = fit-side place.y place.h 6144 border is.y_low is.y_high is.h_high (omega arith) narrow in
    record {
      outer = record { x_low = wide.0; x_high = wide.1; y_low = high.0; y_high = high.1; w_small = wide.2; h_small = high.2 };
      content = place-fits place is;
      inside = in-outer place border;
    }

-- ---- the list

-- one in front of two lists that are joined
behind : {Y : Type 0} (o : Option Y) (all first last : List Y) → all ≡ first ++ last → cons_option o all ≡ cons_option o first ++ last
behind None all first last e = e
behind (Some y) all first last e = ap (λ ys. y ∷ ys) e

-- one id more
take-more : {X Y : Type 0} (f : X → Option Y) (xs : List X) (k : ℕ) → k < length xs
    → filter_map f (take (suc k) xs) ≡ filter_map f (take k xs) ++ cons_option (option_and_then f (slice_get xs k)) []
take-more f [] k below = absurd (omega arith)
take-more f (x ∷ xs) zero below = refl
take-more f (x ∷ xs) (suc k) below = behind (f x) _ _ _ (take-more f xs k (omega arith))

pub one-more : {X Y : Type 0} (f : X → Option Y) (xs : List X) (k : ℕ) → k < length xs
    → filter_map f (take (k + 1) xs) ≡ filter_map f (take k xs) ++ cons_option (option_and_then f (slice_get xs k)) []
one-more f xs k below = let one : k + 1 ≡ suc k = omega arith in ap (λ n. filter_map f (take n xs)) one ∙ take-more f xs k below

-- no more than there are ids
pub few-shown : {X Y : Type 0} (f : X → Option Y) (xs : List X) (k : ℕ) → length (filter_map f (take k xs)) ≤ k
few-shown f xs zero = omega arith
few-shown f [] (suc k) = omega arith
few-shown {Y = Y} f (x ∷ xs) (suc k) = by_first (f x) (few-shown f xs k)
  where
    by_first : (o : Option Y) → length (filter_map f (take k xs)) ≤ k → length (cons_option o (filter_map f (take k xs))) ≤ suc k
    by_first None h = omega arith
    by_first (Some y) h = omega arith

-- ---- the panes

-- a shown window is found at its place
shown-at : (sessions : List SessionView) (shown : List ShownView) (k : ℕ) (d s : ShownView) → k < length (map (pane_of sessions) shown) → s ≡ get_or shown k d
    → slice_get (map (pane_of sessions) shown) k ≡ Some (pane_of sessions s)
shown-at sessions shown k d s below at =
    let within : k < length shown = omega (arith, length-map shown (pane_of sessions), below) in
    slice_get-map (pane_of sessions) shown k ∙ ap (option_map (pane_of sessions)) (slice_get-get_or shown k d within ∙ ap Some (sym at))

-- its view
pub view-at : (sessions : List SessionView) (shown : List ShownView) (k : ℕ) (d s : ShownView) → k < length (map (pane_of sessions) shown) → s ≡ get_or shown k d
    → slice_get (views_of (map (pane_of sessions) shown)) k ≡ Some s.view
view-at sessions shown k d s below at =
    slice_get-map (λ (pane : Pane). pane.view) (map (pane_of sessions) shown) k
    ∙ ap (option_map (λ (pane : Pane). pane.view)) (shown-at sessions shown k d s below at)

-- it is the pane there
pub pane-is : (sessions : List SessionView) (shown : List ShownView) (k : ℕ) (d s : ShownView) (pane : Pane) → k < length (map (pane_of sessions) shown) → s ≡ get_or shown k d
    → slice_get (map (pane_of sessions) shown) k ≡ Some pane → pane_of sessions s ≡ pane
pane-is sessions shown k d s pane below at found =
    let same : Some (pane_of sessions s) ≡ Some pane = sym (shown-at sessions shown k d s below at) ∙ found in cc

-- ---- contents

-- a content as a colour, or a blank
or-blank : (blank : ℕ) (o : Option ℕ) → tiles.colour_or blank o ≡ composed.colour_or blank (option_map (λ c. record { 0 = c }) o)
or-blank blank None = refl
or-blank blank (Some c) = refl

-- the colours of a row of contents, one by one
pub row-at : (blank : ℕ) (content : ℕ → Option ℕ) (x n i : ℕ) → i < n
    → get_or (map (λ j. tiles.colour_or blank (content j)) (span x n)) i 0 ≡ composed.colour_or blank (option_map (λ c. record { 0 = c }) (content (x + i)))
row-at blank content x n i below =
    let long : i < length (span x n) = omega (arith, length-span x n, below) in
    get_or-map (λ j. tiles.colour_or blank (content j)) (span x n) i 0 0 long
    ∙ ap (λ j. tiles.colour_or blank (content j)) (get_or-span x n i 0 below)
    ∙ or-blank blank (content (x + i))
