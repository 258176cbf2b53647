-- What is known of frames and of what shows in them.
use Rattle.std.proofs.Common.{subst, ◌≡◌, ℕ, Bool, true, false, List, [], ◌∷◌, Option, Some, None, refl, arith, if◌then◌else◌, nat_lt}
use Rattle.std.specs.Prelude.{◌&&◌, ℤ, pos, negsuc, ◌+ℤ◌, ◌-ℤ◌, ◌≤ℤ◌, ◌<ℤ◌, int_lt}
use Rattle.std.specs.Int.{int_max, int_min}
use Rattle.std.specs.Option.{ForSome, option_map}
use Rattle.std.proofs.lemmas.Int.{ints, clamps}
use Rattle.gui_num.specs.declared.Rect.{Rect}
use Rattle.gui_num.specs.Rects.{common, right, bottom, nat_of, size_between, spanned}
use Rattle.agent_tree.specs.declared.boxes.SceneBox.{SceneBox}
use Rattle.agent_tree.specs.declared.frame.Frame.{Frame}
use Rattle.agent_tree.specs.Frames.{IsPlace, IsWithin, IsPart, IsNarrow, moved, inside, clipped, frame, clip}

nat_of-is : (z : ℤ) → pos 0 ≤ℤ z → pos (nat_of z) ≡ z
nat_of-is z h = elim z as (λ v. pos 0 ≤ℤ v → pos (nat_of v) ≡ v) [ pos n ↦ λ _. refl | negsuc n ↦ λ k. absurd (omega (arith, ints)) ] h

-- the edges of what two rectangles have in common
pub record HasEdges (a b r : Rect) : Type 0 where
  pub x_is : r.x ≡ int_max a.x b.x
  pub y_is : r.y ≡ int_max a.y b.y
  pub right_is : right r ≡ int_min (right a) (right b)
  pub bottom_is : bottom r ≡ int_min (bottom a) (bottom b)
  pub wide : r.x <ℤ right r
  pub high : r.y <ℤ bottom r

pub end_is : (x0 x1 : ℤ) → int_lt x0 x1 ≡ true → x0 +ℤ pos (size_between x0 x1) ≡ x1
end_is x0 x1 h = let i : pos (size_between x0 x1) ≡ x1 -ℤ x0 = nat_of-is (x1 -ℤ x0) (grind (arith, ints)) in omega (arith, ints)

pub common-edges : (a b r : Rect) → common a b ≡ Some r → HasEdges a b r
common-edges a b r e = by_open (int_lt x0 x1) (int_lt y0 y1) refl refl e
  where
    x0 : ℤ
    x0 = int_max a.x b.x

    y0 : ℤ
    y0 = int_max a.y b.y

    x1 : ℤ
    x1 = int_min (right a) (right b)

    y1 : ℤ
    y1 = int_min (bottom a) (bottom b)

    edges : int_lt x0 x1 ≡ true → int_lt y0 y1 ≡ true → HasEdges a b (spanned x0 y0 x1 y1)
    edges f g = record {
      x_is = refl;
      y_is = refl;
      right_is = end_is x0 x1 f;
      bottom_is = end_is y0 y1 g;
      wide = let k = end_is x0 x1 f in grind (arith, ints);
      high = let k = end_is y0 y1 g in grind (arith, ints);
    }

    by_open : (f g : Bool) → int_lt x0 x1 ≡ f → int_lt y0 y1 ≡ g → (if f && g then Some (spanned x0 y0 x1 y1) else None) ≡ Some r → HasEdges a b r
    by_open true true f g e = let s : spanned x0 y0 x1 y1 ≡ r = cc in subst (HasEdges a b) s (edges f g)
    by_open true false f g e = cc
    by_open false g f k e = cc

-- the frame that a box in another one is keeps to these numbers
pub narrow-inside : (f : Frame) (p : Rect) (r : Rect) → IsNarrow f → IsPlace p → common f.room (moved f.corner p) ≡ Some r
    → IsNarrow (record { corner = record { x = f.corner.x +ℤ p.x; y = f.corner.y +ℤ p.y }; room = r })
narrow-inside f p r n i e = let h = common-edges f.room (moved f.corner p) r e in record {
  x_low = omega (arith, ints, clamps);
  x_high = omega (arith, ints, clamps);
  y_low = omega (arith, ints, clamps);
  y_high = omega (arith, ints, clamps);
  left_low = omega (arith, ints, clamps);
  top_low = omega (arith, ints, clamps);
  right_high = omega (arith, ints, clamps);
  bottom_high = omega (arith, ints, clamps);
}

pub narrow-of : (o : Option Frame) (p : Rect) → ForSome o IsNarrow → IsPlace p → ForSome (inside o p) IsNarrow
narrow-of None p n i = λ x h. cc
narrow-of (Some f) p n i = by_common (common f.room (moved f.corner p)) refl
  where
    framed : Rect → Frame
    framed room = record { corner = record { x = f.corner.x +ℤ p.x; y = f.corner.y +ℤ p.y }; room = room }

    by_common : (c : Option Rect) → common f.room (moved f.corner p) ≡ c → ForSome (option_map framed c) IsNarrow
    by_common None e = λ x h. cc
    by_common (Some room) e = λ x h. let s : framed room ≡ x = cc in subst IsNarrow s (narrow-inside f p room (n f refl) i e)

-- what two rectangles have in common lies within the first one
pub common-within : (window a b r : Rect) → IsWithin window a → common a b ≡ Some r → IsWithin window r
common-within window a b r w e = let h = common-edges a b r e in record {
  x_low = omega (arith, ints, clamps);
  y_low = omega (arith, ints, clamps);
  x_high = omega (arith, ints, clamps);
  y_high = omega (arith, ints, clamps);
}

-- a frame shows nothing outside the window
abbrev pub FrameWithin : Rect → Option Frame → Type 0
FrameWithin window o = ForSome o (λ f. IsWithin window f.room)

within-inside : (window : Rect) (o : Option Frame) (p : Rect) → FrameWithin window o → FrameWithin window (inside o p)
within-inside window None p w = w
within-inside window (Some f) p w = by_common (common f.room (moved f.corner p)) refl
  where
    framed : Rect → Frame
    framed room = record { corner = record { x = f.corner.x +ℤ p.x; y = f.corner.y +ℤ p.y }; room = room }

    by_common : (c : Option Rect) → common f.room (moved f.corner p) ≡ c → FrameWithin window (option_map framed c)
    by_common None e = λ x h. cc
    by_common (Some room) e = λ x h. let s : framed room ≡ x = cc in subst (λ (g : Frame). IsWithin window g.room) s (common-within window f.room (moved f.corner p) room (w f refl) e)

pub frame-within : (window : Rect) (level : ℕ) (before : List SceneBox) → FrameWithin window (frame window level before)
frame-within window level [] = λ x h. let s : record { corner = record { x = window.x; y = window.y }; room = window } ≡ x = cc in subst (λ (g : Frame). IsWithin window g.room) s (record { x_low = omega (arith, ints); y_low = omega (arith, ints); x_high = omega (arith, ints); y_high = omega (arith, ints) })
frame-within window level (b ∷ before) = by_level (nat_lt b.level level) (frame-within window b.level before) (frame-within window level before)
  where
    by_level : (t : Bool) → FrameWithin window (frame window b.level before) → FrameWithin window (frame window level before) → FrameWithin window (if t then inside (frame window b.level before) b.place else frame window level before)
    by_level true f g = within-inside window (frame window b.level before) b.place f
    by_level false f g = g

within-clipped : (window : Rect) (o : Option Frame) (p r : Rect) → FrameWithin window o → clipped o p ≡ Some r → IsWithin window r
within-clipped window None p r w e = cc
within-clipped window (Some f) p r w e = common-within window f.room (moved f.corner p) r (w f refl) e

-- what of a box shows lies within the window
pub clip-within : (window : Rect) (b : SceneBox) (before : List SceneBox) (r : Rect) → clip window b before ≡ Some r → IsWithin window r
clip-within window b before r e = within-clipped window (frame window b.level before) b.place r (frame-within window b.level before) e

-- what shows of a place in a frame is a part of what the frame shows, and has pixels
pub clipped-part : (window : Rect) (o : Option Frame) (p : Rect) → FrameWithin window o → ForSome (clipped o p) (IsPart window)
clipped-part window None p w = λ r e. cc
clipped-part window (Some f) p w = λ r e.
    let h = common-edges f.room (moved f.corner p) r e in
    record { within = common-within window f.room (moved f.corner p) r (w f refl) e; wide = grind (arith, ints); high = grind (arith, ints) }

pub clip-part : (window : Rect) (b : SceneBox) (before : List SceneBox) → ForSome (clip window b before) (IsPart window)
clip-part window b before = clipped-part window (frame window b.level before) b.place (frame-within window b.level before)
