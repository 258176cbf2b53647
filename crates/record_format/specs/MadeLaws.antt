-- What is known of made records, and small ones worked by hand.
use Rattle.std.specs.Prelude.{◌≡◌, ℕ, List, [], ◌∷◌, ◌++◌, length, true, false, pos}
use Rattle.gui_wire.specs.AgentMessages.{Configure, Shmimage, spelling}
use Rattle.desk_laws.specs.declared.item.Item.TheVariants as items
use Rattle.desk_laws.specs.Items.{FedItem}
use Rattle.record_format.specs.RecordGrammar.{Ends, Run, alone, record_of}
use Rattle.record_format.specs.MadeRecord.{made_setup, piece_of, first_rounds, snap_after, before_end, made}

-- each made record is a record, whole, and read as the setup and the items that it was made of, whatever follows it
abbrev pub MadeRecordsAreRead : Type 0
MadeRecordsAreRead = (rounds : ℕ) (tail : List ℕ) → record_of (made rounds ++ tail) ≡ Run made_setup (record { each = before_end rounds; ending = Ends })

-- that of no rounds has 564 bytes, and that of ten has 807
abbrev pub HaveLengths : Type 0
HaveLengths = (length (made 0) ≡ 564) × (length (made 10) ≡ 807)

-- the window of a guest tells a part of 16 by 16 pixels
abbrev pub reports : ℕ → ℕ → ℕ → FedItem
reports guest x y = piece_of guest (spelling 1 (Shmimage x y 16 16))

-- the window of a guest moves itself
abbrev pub moves : ℕ → ℕ → ℕ → FedItem
moves guest x y = piece_of guest (spelling 1 (Configure x y 100 80 0))

-- ten rounds: a change of a word, three windows that move, a key, two clicks with a move of the pointer between them, and two reports
abbrev pub TenRounds : Type 0
TenRounds = first_rounds 10 10
    ≡ record { item = items.Store 1 0 4 2060; piece = 161 ∷ 130 ∷ 156 ∷ 67 ∷ [] }
    ∷ moves 2 263 262
    ∷ moves 3 353 41
    ∷ alone (items.Key true 38 0) ∷ alone (items.Key false 38 0)
    ∷ moves 0 359 40
    ∷ alone (items.Press true 1 0) ∷ alone (items.Press false 1 0)
    ∷ alone (items.Move (pos 240) (pos 473) 0)
    ∷ alone (items.Press true 1 0) ∷ alone (items.Press false 1 0)
    ∷ reports 0 38 75
    ∷ reports 0 98 47
    ∷ []

-- a picture comes after round 1000, and none before it or right behind it
abbrev pub FirstPicture : Type 0
FirstPicture = (snap_after 999 ≡ []) × (snap_after 1000 ≡ alone items.Snap ∷ []) × (snap_after 1001 ≡ [])
