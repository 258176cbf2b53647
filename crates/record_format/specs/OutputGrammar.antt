-- How what the desktop posts is written. The records are this project's own; a picture is a PPM file
-- (netpbm, magic number P6).
use Rattle.std.specs.Prelude.{ℕ, ◌+◌, ◌*◌, ◌/◌, ◌%◌, List, [], ◌∷◌, ◌++◌, length, codes}
use Rattle.std.specs.List.{flat_map}
use Rattle.std.specs.Fmt.{decimal}
use Rattle.std.specs.Int.{w64, to_le_bytes}
use Rattle.gui_wire.specs.Words.{word}
use Rattle.desk_laws.specs.Causes.{number_of, values_of}
use Rattle.desk_laws.specs.Scene.{Counts, Post, Reply, Ended, Picture, Summary}

-- red, green and blue of a colour
abbrev pub rgb : ℕ → List ℕ
rgb c = (c / 65536) % 256 ∷ (c / 256) % 256 ∷ c % 256 ∷ []

-- the head of a PPM file: its magic number, width, height and greatest value
unfoldable pub ppm_head : ℕ → ℕ → List ℕ
ppm_head width height = codes "P6\n" ++ decimal width ++ codes " " ++ decimal height ++ codes "\n255\n"

-- a PPM file of these pixels, row by row from the top
abbrev pub ppm : ℕ → ℕ → List ℕ → List ℕ
ppm width height colours = ppm_head width height ++ flat_map rgb colours

-- a guest's number in one byte
abbrev pub guest_byte : ℕ → ℕ
guest_byte guest = guest % 256

-- a Reply record: the guest, the length, and the message
unfoldable pub reply_record : ℕ → List ℕ → List ℕ
reply_record guest bytes = 1 ∷ guest_byte guest ∷ word (length bytes) ++ bytes

-- an Ended record: the guest, the cause's number, and its two values
unfoldable pub ended_record : ℕ → ℕ → ℕ → ℕ → List ℕ
ended_record guest number a b = 2 ∷ guest_byte guest ∷ number ∷ word a ++ word b

-- how each Picture record of this size begins: the length, and the head of the PPM file
unfoldable pub picture_head : ℕ → ℕ → List ℕ
picture_head width height = 3 ∷ word (length (ppm_head width height) + 3 * (width * height)) ++ ppm_head width height

-- a Picture record: the length, and the PPM file
unfoldable pub picture_record : ℕ → ℕ → List ℕ → List ℕ
picture_record width height colours = 3 ∷ word (length (ppm width height colours)) ++ ppm width height colours

-- a Summary record: items, messages, loads of shared words, and pixels drawn
unfoldable pub summary_record : Counts → ℕ → List ℕ
summary_record counts painted =
    4 ∷ to_le_bytes w64 counts.items ++ to_le_bytes w64 counts.messages ++ to_le_bytes w64 counts.glances ++ to_le_bytes w64 painted

-- a post as it is written, where the picture's count of drawn pixels stands at this number
abbrev pub post_bytes : ℕ → Post → List ℕ
post_bytes painted (Reply guest bytes) = reply_record guest bytes
post_bytes painted (Ended guest cause) = ended_record guest (number_of cause) (values_of cause).0 (values_of cause).1
post_bytes painted (Picture width height colours) = picture_record width height colours
post_bytes painted (Summary counts) = summary_record counts painted

-- posts as they are written, one after the other
abbrev pub posts_bytes : ℕ → List Post → List ℕ
posts_bytes painted posts = flat_map (post_bytes painted) posts
