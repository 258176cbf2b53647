-- A small hand-computed run of two guests, whose bytes have to have these records.
use Rattle.std.specs.Prelude.{◌≡◌, ℕ, List, [], ◌∷◌, pos}
use Rattle.desk_laws.specs.declared.setup.Setup.{Setup}
use Rattle.desk_laws.specs.declared.item.Item.TheVariants as item
use Rattle.desk_laws.specs.Items.{FedItem}
use Rattle.desk_laws.specs.State.{opening}
use Rattle.desk_laws.specs.Steps.{run}
use Rattle.record_format.specs.OutputGrammar.{posts_bytes}
use Rattle.record_format.specs.PostFields.{OutPost, Reply, Ended}
use Rattle.record_format.specs.OutputRecords.{guest_records}

-- the guests `red` and `blue` on a black desktop of 8 by 6 pixels with borders of one pixel, all of it one output
unfoldable pub two_guests : Setup
two_guests = record {
  width = 8;
  height = 6;
  border = 1;
  pages = 8192;
  tiles = 4096;
  percent = 90;
  background = record { 0 = 0 };
  guests =
      record { colour = record { 0 = 0xff0000 }; name = 114 ∷ 101 ∷ 100 ∷ [] }
      ∷ record { colour = record { 0 = 0xff }; name = 98 ∷ 108 ∷ 117 ∷ 101 ∷ [] } ∷ [];
  outputs = record { x = pos 0; y = pos 0; w = 8; h = 6 } ∷ [];
  clip = 1;
  denied = [];
}

-- red says version 1.7, blue version 2.0, and the input ends
unfoldable pub two_versions : List FedItem
two_versions =
    record { item = item.Bytes 0; piece = 7 ∷ 0 ∷ 1 ∷ 0 ∷ [] }
    ∷ record { item = item.Bytes 1; piece = 0 ∷ 0 ∷ 2 ∷ 0 ∷ [] }
    ∷ record { item = item.End; piece = [] } ∷ []

-- the records of a guest in what this run writes, where 48 pixels were drawn
unfoldable pub records_of : ℕ → List OutPost
records_of guest = guest_records guest (posts_bytes 48 (run two_guests two_versions (opening two_guests)).posts)

-- red is told the daemon's version 1.7 and the desktop, whose picture takes one block of 1024 bytes
abbrev pub GreetedInRecords : Type 0
GreetedInRecords = records_of 0
    ≡ Reply 0 (7 ∷ 0 ∷ 1 ∷ 0 ∷ [])
    ∷ Reply 0 (8 ∷ 0 ∷ 0 ∷ 0 ∷ 6 ∷ 0 ∷ 0 ∷ 0 ∷ 24 ∷ 0 ∷ 0 ∷ 0 ∷ 1 ∷ 0 ∷ 0 ∷ 0 ∷ []) ∷ []

-- blue's session ends for its version, of which the word is 2 * 65536
abbrev pub EndedInRecords : Type 0
EndedInRecords = records_of 1 ≡ Ended 1 1 131072 0 ∷ []

-- there is no third guest
abbrev pub NobodyInRecords : Type 0
NobodyInRecords = records_of 2 ≡ []
