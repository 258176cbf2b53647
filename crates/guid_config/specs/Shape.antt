-- What the tree of a configuration states: a table of numbers, a colour, guests, outputs and denied pairs. The format
-- is this project's own, over TOML.
use Rattle.std.specs.Prelude.{ℕ, List, [], ◌∷◌, Option, None, Some, codes, pos, nat_le}
use Rattle.toml.specs.Data.{Data, Items, no_items, item, as_str, as_array}
use Rattle.gui_num.specs.declared.Rect.{Rect}
use Rattle.desk_laws.specs.declared.setup.GuestSetup.{GuestSetup}
use Rattle.desk_laws.specs.declared.setup.Pair.{Pair}
use Rattle.guid_config.specs.declared.numbers.Numbers.{Numbers}
use Rattle.guid_config.specs.declared.live.Live.{Live}
use Rattle.guid_config.specs.Values.{◌>>=◌, if_so, has_only, value_at, number_to, number_of, colour_of, name_of}
use Rattle.guid_config.specs.Pairs.{number_named, in_order}

-- a table with no other keys than these
abbrev pub only : List (List ℕ) → Data → Option Data
only known tree = if_so (has_only known tree) tree

-- each of the items, in their order
abbrev pub each : {A : Type 0} → (Data → Option A) → Items → Option (List A)
each read no_items = Some []
each read (item value rest) = read value >>= λ x. each read rest >>= λ xs. Some (x ∷ xs)

-- the items at a key: none where it isn't there
abbrev pub each_at : {A : Type 0} → (Data → Option A) → List ℕ → Data → Option (List A)
each_at read key tree = value_at (λ value. as_array value >>= each read) (Some []) key tree

-- the numbers and the background, with what they usually are where they aren't there
abbrev pub numbers_of : Data → Option Numbers
numbers_of tree =
    value_at number_of None (codes "width") tree >>= λ width.
    value_at number_of None (codes "height") tree >>= λ height.
    value_at number_of (Some 2) (codes "border") tree >>= λ border.
    value_at number_of (Some 8192) (codes "pages") tree >>= λ pages.
    value_at number_of (Some 4096) (codes "tiles") tree >>= λ tiles.
    value_at number_of (Some 90) (codes "percent") tree >>= λ percent.
    value_at colour_of (Some (record { 0 = 0 })) (codes "background") tree >>= λ background.
    value_at number_of (Some 1000000) (codes "idle") tree >>= λ idle.
    value_at number_of (Some 1) (codes "clip") tree >>= λ clip.
    if_so (nat_le 1 idle) (record { width = width; height = height; border = border; pages = pages; tiles = tiles; percent = percent; background = background; idle = idle; clip = clip })

-- a guest: its name and the colour of its label
abbrev pub guest_of : Data → Option GuestSetup
guest_of tree =
    only (codes "name" ∷ codes "colour" ∷ []) tree >>= λ guest.
    value_at name_of None (codes "name") guest >>= λ name.
    value_at colour_of None (codes "colour") guest >>= λ colour.
    Some (record { colour = colour; name = name })

-- an output: a rectangle of the plane
abbrev pub output_of : Data → Option Rect
output_of tree =
    only (codes "x" ∷ codes "y" ∷ codes "w" ∷ codes "h" ∷ []) tree >>= λ output.
    value_at (number_to 2147483647) None (codes "x") output >>= λ x.
    value_at (number_to 2147483647) None (codes "y") output >>= λ y.
    value_at number_of None (codes "w") output >>= λ w.
    value_at number_of None (codes "h") output >>= λ h.
    Some (record { x = pos x; y = pos y; w = w; h = h })

-- a denied pair: the names of the guest that a paste would come from, and of the one that it would go to
abbrev pub pair_of : List GuestSetup → Data → Option Pair
pair_of guests tree =
    only (codes "from" ∷ codes "to" ∷ []) tree >>= λ pair.
    value_at as_str None (codes "from") pair >>= λ from.
    value_at as_str None (codes "to") pair >>= λ to.
    Some (record { from = number_named from guests; to = number_named to guests })

-- the outputs: the one of the whole plane where the key isn't there
abbrev pub outputs_of : ℕ → ℕ → Data → Option (List Rect)
outputs_of width height tree =
    value_at (λ value. as_array value >>= each output_of) (Some (record { x = pos 0; y = pos 0; w = width; h = height } ∷ [])) (codes "output") tree

-- the keys of a configuration
abbrev pub top_keys : List (List ℕ)
top_keys =
    codes "width" ∷ codes "height" ∷ codes "border" ∷ codes "pages" ∷ codes "tiles" ∷ codes "percent" ∷ codes "background"
    ∷ codes "idle" ∷ codes "clip" ∷ codes "guest" ∷ codes "output" ∷ codes "deny" ∷ []

-- the setup of a desk, and after how many idle rounds in a row it ends
abbrev pub live_with : Numbers → List GuestSetup → List Rect → List Pair → Live
live_with numbers guests outputs denied = record {
  setup = record {
    width = numbers.width;
    height = numbers.height;
    border = numbers.border;
    pages = numbers.pages;
    tiles = numbers.tiles;
    percent = numbers.percent;
    background = numbers.background;
    guests = guests;
    outputs = outputs;
    clip = numbers.clip;
    denied = denied;
  };
  idle = numbers.idle;
}

-- what a configuration of this tree states; None where the tree hasn't the shape of one
abbrev pub live_of : Data → Option Live
live_of tree =
    only top_keys tree >>= λ top.
    numbers_of top >>= λ numbers.
    each_at guest_of (codes "guest") top >>= λ guests.
    outputs_of numbers.width numbers.height top >>= λ outputs.
    each_at (pair_of guests) (codes "deny") top >>= λ pairs.
    Some (live_with numbers guests outputs (in_order pairs))
