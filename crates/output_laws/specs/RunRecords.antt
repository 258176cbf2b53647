-- What the bytes of a run say: they are read again as its posts, and a guest's records are what it would be told
-- alone. The records are this project's own.
use Rattle.std.specs.Prelude.{◌≡◌, ◌<◌, ◌^◌, ℕ, List, length, map, None}
use Rattle.std.specs.List.{All}
use Rattle.desk_laws.specs.declared.setup.Setup.{Setup}
use Rattle.desk_laws.specs.Rules.{first_broken}
use Rattle.desk_laws.specs.Causes.{values_of}
use Rattle.desk_laws.specs.Items.{FedItem, FitsItem}
use Rattle.desk_laws.specs.Sizes.{sizes_of}
use Rattle.desk_laws.specs.Scene.{Post, Reply, Ended, Picture, Summary}
use Rattle.desk_laws.specs.State.{opening, inputs_of, readings_of}
use Rattle.desk_laws.specs.Steps.{run}
use Rattle.isolation_laws.specs.Alone.{AloneOutcome, alone_run, newcomer}
use Rattle.record_format.specs.OutputGrammar.{posts_bytes}
use Rattle.record_format.specs.OutputRecords.{out_of, guest_records, HaveRecords}

-- the values of a session's end have 32 bits; no other post has a cause
abbrev pub HasCauseWidths : Post → Type 0
HasCauseWidths (Reply guest bytes) = Unit {0}
HasCauseWidths (Ended guest cause) = ((values_of cause).0 < 2 ^ 32) × ((values_of cause).1 < 2 ^ 32)
HasCauseWidths (Picture width height colours) = Unit {0}
HasCauseWidths (Summary counts) = Unit {0}

-- the values of each cause among these posts have 32 bits
abbrev pub CausesFit : List Post → Type 0
CausesFit posts = All HasCauseWidths posts

-- each of these items is in its ranges, with a piece that it may have
abbrev pub AllFit : Setup → List FedItem → Type 0
AllFit setup items = All (λ g. FitsItem (length setup.guests) setup.pages g.item (length g.piece)) items

-- the guest alone, over the inputs that a run of these items gives it, with the words that are read of its frames
abbrev pub alone_in : Setup → List FedItem → ℕ → AloneOutcome
alone_in setup items guest =
    alone_run (sizes_of setup) guest (inputs_of guest (run setup items (opening setup)).inputs)
    (newcomer (readings_of guest (run setup items (opening setup)).readings))

-- each post of a run has a record, since its numbers have as many bits as their fields
abbrev pub RunsHaveRecords : Type 0
RunsHaveRecords =
    (painted : ℕ) (setup : Setup) (items : List FedItem) → first_broken setup ≡ None → AllFit setup items → painted < 2 ^ 64 →
    CausesFit (run setup items (opening setup)).posts → HaveRecords painted (run setup items (opening setup)).posts

-- the records of a guest in a run's bytes are the posts of the guest alone
abbrev pub GuestsRecordsAreAlone : Type 0
GuestsRecordsAreAlone =
    (painted : ℕ) (setup : Setup) (items : List FedItem) (guest : ℕ) → first_broken setup ≡ None → AllFit setup items → painted < 2 ^ 64 →
    CausesFit (run setup items (opening setup)).posts →
    guest_records guest (posts_bytes painted (run setup items (opening setup)).posts) ≡ map (out_of painted) (alone_in setup items guest).posts
