-- The record that is made from a number: a setup, a window of each guest, so many rounds of items, and a last picture.
-- It is this project's own, for measures over records of any size.
use Rattle.std.specs.Prelude.{ℕ, zero, suc, ◌+◌, ◌*◌, ◌/◌, ◌%◌, ◌^◌, List, [], ◌∷◌, ◌++◌, map, true, false, ◌==◌, if◌then◌else◌, pos}
use Rattle.std.specs.List.{flat_map}
use Rattle.gui_wire.specs.Words.{word}
use Rattle.gui_wire.specs.AgentMessages.{Create, Map, Configure, Shmimage, WindowDump, spelling}
use Rattle.desk_laws.specs.declared.setup.Setup.{Setup}
use Rattle.desk_laws.specs.declared.setup.GuestSetup.{GuestSetup}
use Rattle.desk_laws.specs.declared.item.Item.TheVariants as items
use Rattle.desk_laws.specs.Items.{FedItem}
use Rattle.desk_laws.specs.Rows.{span}
use Rattle.record_format.specs.Config.{plane, config_spelling}
use Rattle.record_format.specs.ItemSpellings.{items_spelling}
use Rattle.record_format.specs.RecordGrammar.{alone}

-- a guest whose name is one letter
abbrev pub made_guest : ℕ → ℕ → GuestSetup
made_guest letter colour = record { colour = record { 0 = colour }; name = letter ∷ [] }

-- the guests a, b, c and d, in red, green, blue and yellow
abbrev pub made_guests : List GuestSetup
made_guests = made_guest 97 16711680 ∷ made_guest 98 65280 ∷ made_guest 99 255 ∷ made_guest 100 16776960 ∷ []

-- the setup of every made record: the background is 202020 in sixteens
unfoldable pub made_setup : Setup
made_setup = record {
  width = 640;
  height = 480;
  border = 2;
  pages = 64;
  tiles = 64;
  percent = 90;
  background = record { 0 = 2105376 };
  guests = made_guests;
  outputs = plane 640 480 ∷ [];
  clip = 1;
  denied = [];
}

-- a piece of a guest's bytes
abbrev pub piece_of : ℕ → List ℕ → FedItem
piece_of guest bytes = record { item = items.Bytes guest; piece = bytes }

-- what a guest begins with: version 1.7, and its window 1, which is created, mapped, and given the pages 0 to 7
unfoldable pub opening_bytes : ℕ → List ℕ
opening_bytes guest =
    word 65543
    ++ spelling 1 (Create (40 + 120 * guest) (40 + 60 * guest) 100 80 0 0)
    ++ spelling 1 (Map 0 0)
    ++ spelling 1 (WindowDump 0 100 80 32 (span 0 8))

-- the item that a guest begins with
abbrev pub opening_item : ℕ → FedItem
opening_item guest = piece_of guest (opening_bytes guest)

-- the seed behind another one
abbrev pub next_seed : ℕ → ℕ
next_seed seed = (seed * 6364136223846793005 + 1442695040888963407) % 2 ^ 64

-- the seed after so many rounds: the first is the number of all rounds
abbrev pub seed_after : ℕ → ℕ → ℕ
seed_after rounds zero = rounds
seed_after rounds (suc n) = next_seed (seed_after rounds n)

-- what is drawn of a seed: its upper 31 bits
abbrev pub draw_of : ℕ → ℕ
draw_of seed = seed / 2 ^ 33

-- a part of the window is told to have changed
unfoldable pub report_bytes : ℕ → List ℕ
report_bytes u = spelling 1 (Shmimage (u % 100) ((u / 100) % 80) 16 16)

-- the window moves itself
unfoldable pub place_bytes : ℕ → List ℕ
place_bytes u = spelling 1 (Configure (u % 600) ((u / 600) % 440) 100 80 0)

-- a word of a guest's frames changes to the draw
abbrev pub store_item : ℕ → ℕ → ℕ → FedItem
store_item guest u draw = record { item = items.Store guest 0 (u % 8) (4 * ((u / 8) % 1024)); piece = word draw }

-- the pointer moves
abbrev pub move_item : ℕ → FedItem
move_item u = alone (items.Move (pos (u % 640)) (pos ((u / 640) % 480)) 0)

-- the left button goes down and up again
abbrev pub click_items : List FedItem
click_items = alone (items.Press true 1 0) ∷ alone (items.Press false 1 0) ∷ []

-- the key with code 38 goes down and up again
abbrev pub key_items : List FedItem
key_items = alone (items.Key true 38 0) ∷ alone (items.Key false 38 0) ∷ []

-- the items of a kind, from 0 to 5
abbrev pub kind_items : ℕ → ℕ → ℕ → ℕ → List FedItem
kind_items kind guest u draw =
    if kind == 0 then store_item guest u draw ∷ []
    else if kind == 1 then piece_of guest (report_bytes u) ∷ []
    else if kind == 2 then piece_of guest (place_bytes u) ∷ []
    else if kind == 3 then move_item u ∷ []
    else if kind == 4 then click_items
    else key_items

-- the items of a draw: it names a guest, a kind, and a number for places
abbrev pub draw_items : ℕ → List FedItem
draw_items draw = kind_items ((draw / 4) % 6) (draw % 4) (draw / 24) draw

-- a picture after each thousandth round
abbrev pub snap_after : ℕ → List FedItem
snap_after n = if n % 1000 == 0 then alone items.Snap ∷ [] else []

-- the items of a round, which are counted from 1
unfoldable pub round_items : ℕ → ℕ → List FedItem
round_items rounds n = draw_items (draw_of (seed_after rounds n)) ++ snap_after n

-- the items of the first rounds of so many
abbrev pub first_rounds : ℕ → ℕ → List FedItem
first_rounds rounds n = flat_map (round_items rounds) (span 1 n)

-- the items of the record of so many rounds, up to its end
abbrev pub before_end : ℕ → List FedItem
before_end rounds = map opening_item (span 0 4) ++ first_rounds rounds rounds ++ alone items.Snap ∷ []

-- all items of the record of so many rounds
abbrev pub made_items : ℕ → List FedItem
made_items rounds = map opening_item (span 0 4) ++ first_rounds rounds rounds ++ alone items.Snap ∷ alone items.End ∷ []

-- the bytes of the record of so many rounds
unfoldable pub made : ℕ → List ℕ
made rounds = config_spelling made_setup ++ items_spelling (made_items rounds)
