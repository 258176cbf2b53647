-- Small hand-computed runs with frames, which the definitions have to give.
use Rattle.std.specs.Prelude.{ℕ, ◌≡◌, ◌^◌, List, [], ◌∷◌, ◌++◌, map, replicate, Option, Some, None}
use Rattle.gui_wire.specs.Words.{words}
use Rattle.gui_wire.specs.AgentMessages as agent
use Rattle.gui_wire.specs.AgentMessages.{spelling}
use Rattle.desk_laws.specs.declared.setup.Setup.{Setup}
use Rattle.desk_laws.specs.declared.item.Item.TheVariants as item
use Rattle.desk_laws.specs.declared.cause.Cause.TheVariants as cause
use Rattle.desk_laws.specs.Items.{FedItem}
use Rattle.desk_laws.specs.Scene.{Reply, Ended, Picture, Summary}
use Rattle.desk_laws.specs.State.{StepOutcome, opening}
use Rattle.desk_laws.specs.Steps.{run}
use Rattle.run_laws.specs.WorkedRows.{small_desktop, bytes, just, version, label, greeting, focused}

-- a desktop with one page for each guest and so many tiles
unfoldable pub one_page : ℕ → Setup
one_page tiles = record small_desktop { pages = 1; tiles = tiles }

-- the version, and window 1 of 3 by 1 pixels at (2, 2), mapped, with a dump of 3 by 1 pixels in page 0
unfoldable pub window_of_three : List ℕ
window_of_three =
    version ++ spelling 1 (agent.Create 2 2 3 1 0 0) ++ spelling 1 (agent.Map 0 0) ++ spelling 1 (agent.WindowDump 0 3 1 32 (0 ∷ []))

-- the same word in the first three of page 0, after so many loads
unfoldable pub three_words : ℕ → ℕ → FedItem
three_words delay word = record { item = item.Store 0 delay 0 0; piece = words (replicate 3 word) }

-- a report of pixels of window 1
unfoldable pub report : ℕ → ℕ → ℕ → ℕ → FedItem
report x y w h = bytes (spelling 1 (agent.Shmimage x y w h))

-- a store at once, one that waits for one load, and a report of all three pixels
unfoldable pub three_reported : List FedItem
three_reported = bytes window_of_three ∷ three_words 0 0x00112233 ∷ three_words 1 0x00aabbcc ∷ report 0 0 3 1 ∷ []

-- what comes of these items on a desktop with so many tiles
unfoldable pub framed : ℕ → List FedItem → StepOutcome
framed tiles items = run (one_page tiles) items (opening (one_page tiles))

-- the contents of the windows
abbrev pub contents_of : StepOutcome → List (List (Option ℕ))
contents_of outcome = map (λ row. row.contents) outcome.desk.scene.rows

-- the frame changes between the first load and the second
abbrev pub FrameChangesBetweenLoads : Type 0
FrameChangesBetweenLoads = contents_of (framed 4096 three_reported) ≡ (Some 0x112233 ∷ Some 0xaabbcc ∷ Some 0xaabbcc ∷ []) ∷ []

-- each pixel was loaded once
abbrev pub LoadedOnce : Type 0
LoadedOnce = (framed 4096 three_reported).desk.counts.glances ≡ 3

-- the picture shows what was read
abbrev pub ContentsShown : Type 0
ContentsShown = (framed 4096 (three_reported ++ just item.Snap ∷ [])).posts
    ≡ greeting ++ focused 0 1 ++ Reply 0 (words (149 ∷ 1 ∷ 0 ∷ []))
    ∷ Picture 8 6 (replicate 9 0 ++ replicate 5 label ++ replicate 3 0
    ++ label ∷ 0x112233 ∷ 0xaabbcc ∷ 0xaabbcc ∷ label ∷ replicate 3 0
    ++ replicate 5 label ++ replicate 18 0) ∷ []

-- a report outside the dump loads nothing and changes nothing
abbrev pub ReportOutsideTheDump : Type 0
ReportOutsideTheDump = contents_of (framed 4096 (three_reported ++ report 3 0 5 5 ∷ []))
    ≡ (Some 0x112233 ∷ Some 0xaabbcc ∷ Some 0xaabbcc ∷ []) ∷ []

-- and no load counts
abbrev pub NothingLoadedOutside : Type 0
NothingLoadedOutside = (framed 4096 (three_reported ++ report 3 0 5 5 ∷ [])).desk.counts.glances ≡ 3

-- a column of 31 bits and more ends the session
abbrev pub ReportOutOfRange : Type 0
ReportOutOfRange = (framed 4096 (bytes window_of_three ∷ report (2 ^ 31) 0 3 1 ∷ [])).posts
    ≡ greeting ++ focused 0 1 ++ Reply 0 (words (149 ∷ 1 ∷ 0 ∷ [])) ∷ Ended 0 (cause.BadRange 1 2147483648) ∷ []

-- a window cut to one pixel and grown again has no contents but there
abbrev pub CutAndGrown : Type 0
CutAndGrown =
    contents_of (framed 4096 (three_reported ++ bytes (spelling 1 (agent.Configure 2 2 1 1 0)) ∷ bytes (spelling 1 (agent.Configure 2 2 3 1 0)) ∷ []))
    ≡ (Some 0x112233 ∷ None ∷ None ∷ []) ∷ []

-- a window of 65 pixels in a row takes two tiles, and there is one
abbrev pub TooFewTiles : Type 0
TooFewTiles = (framed 1 (bytes (version ++ spelling 1 (agent.Create 0 0 65 1 0 0) ++ spelling 1 (agent.WindowDump 0 65 1 32 (0 ∷ []))
    ++ spelling 1 (agent.Shmimage 0 0 65 1)) ∷ just item.End ∷ [])).posts
    ≡ greeting ++ Reply 0 (words (149 ∷ 1 ∷ 0 ∷ [])) ∷ Ended 0 (cause.PixelBudget 2 1)
    ∷ Summary (record { items = 2; messages = 2; glances = 0 }) ∷ []
