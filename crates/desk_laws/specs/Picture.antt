-- The picture, each pixel from scratch.
use Rattle.std.specs.Prelude.{ℕ, List, map, Option, Some, None, if◌then◌else◌, slice_get, pos, ◌-ℤ◌, flat_map}
use Rattle.gui_num.specs.declared.Point.{Point}
use Rattle.gui_num.specs.declared.Rect.{Rect}
use Rattle.gui_num.specs.Rects.{has, nat_of}
use Rattle.desk_laws.specs.declared.setup.Setup.{Setup}
use Rattle.desk_laws.specs.declared.setup.GuestSetup.{GuestSetup}
use Rattle.desk_laws.specs.Rows.{Row, content_at, span}
use Rattle.desk_laws.specs.Layers.{Layers, topmost}

-- the label colour of a guest
abbrev pub label_in : Option GuestSetup → ℕ
label_in None = 0
label_in (Some guest) = guest.colour.0

-- the label colour of a guest
abbrev pub label_of : Setup → ℕ → ℕ
label_of setup guest = label_in (slice_get setup.guests guest)

-- the colour of a content, or grey where nothing was read
abbrev pub colour_read : Option ℕ → ℕ
colour_read None = 0x808080
colour_read (Some colour) = colour

-- the content of a row at a pixel of the desktop
abbrev pub content_under : Row → Point → Option ℕ
content_under row p = content_at row (nat_of (p.x -ℤ row.place.x)) (nat_of (p.y -ℤ row.place.y))

-- the colour of a pixel by its owner: the content inside the owner's place, the label colour in its border, the background where nobody owns it
abbrev pub colour_by : Setup → Option Row → Point → ℕ
colour_by setup None p = setup.background.0
colour_by setup (Some row) p = if has row.place p then colour_read (content_under row p) else label_of setup row.guest

-- the colour of a pixel
abbrev pub colour_at : Setup → List Row → Layers → Point → ℕ
colour_at setup rows layers p = colour_by setup (topmost setup.border rows layers p) p

-- the pixels of a rectangle, row by row
abbrev pub pixels : ℕ → ℕ → ℕ → ℕ → List Point
pixels x y w h = flat_map (λ j. map (λ i. record { x = pos i; y = pos j }) (span x w)) (span y h)

-- the pixels of an output, row by row from its top
abbrev pub pixels_of : Rect → List Point
pixels_of output = pixels (nat_of output.x) (nat_of output.y) output.w output.h

-- the colours of an output's pixels, row by row from its top
abbrev pub picture : Setup → List Row → Layers → Rect → List ℕ
picture setup rows layers output = map (colour_at setup rows layers) (pixels_of output)
