-- Small hand-computed streams of one guest, which the definitions have to give.
use Rattle.std.specs.Prelude.{ℕ, ◌≡◌, ◌^◌, List, [], ◌∷◌, ◌++◌, map}
use Rattle.gui_wire.specs.Words.{words}
use Rattle.gui_wire.specs.AgentMessages as agent
use Rattle.gui_wire.specs.AgentMessages.{spelling}
use Rattle.desk_laws.specs.declared.setup.Setup.{Setup}
use Rattle.desk_laws.specs.declared.item.Item.TheVariants as item
use Rattle.desk_laws.specs.declared.cause.Cause.TheVariants as cause
use Rattle.desk_laws.specs.Items.{FedItem}
use Rattle.desk_laws.specs.Rows.{span}
use Rattle.desk_laws.specs.Scene.{Post, Reply, Ended, Picture, Summary}
use Rattle.desk_laws.specs.State.{opening}
use Rattle.desk_laws.specs.Steps.{run}
use Rattle.run_laws.specs.WorkedRows.{small_desktop, bytes, just, version, window_at, posts, greeting, focused, ring}

-- one byte at a time: the posts of the one window, but each byte is an item
abbrev pub OneByteAtATime : Type 0
OneByteAtATime = posts (map (λ byte. bytes (byte ∷ [])) (window_at 2 2) ++ just item.Snap ∷ just item.End ∷ [])
    ≡ greeting ++ focused 0 1 ++ Picture 8 6 ring ∷ Summary (record { items = 62; messages = 2; glances = 0 }) ∷ []

-- a width of 31 bits and more ends the session
abbrev pub WidthOutOfRange : Type 0
WidthOutOfRange = posts (bytes (version ++ spelling 1 (agent.Create 0 0 (2 ^ 31) 2 0 0)) ∷ [])
    ≡ greeting ++ Ended 0 (cause.BadRange 3 2147483648) ∷ []

-- a window is 16384 pixels wide at most, and is told so
abbrev pub WidthBroughtIntoRange : Type 0
WidthBroughtIntoRange = posts (bytes (window_at 2 2 ++ spelling 1 (agent.Configure 0 0 20000 10 0)) ∷ [])
    ≡ greeting ++ focused 0 1 ++ Reply 0 (words (134 ∷ 1 ∷ 20 ∷ 0 ∷ 0 ∷ 16384 ∷ 10 ∷ 0 ∷ [])) ∷ []

-- the desktop with four pages for each guest
unfoldable pub four_pages : Setup
four_pages = record small_desktop { pages = 4 }

-- a window of 10 by 10 pixels, and a dump of it with so many bits a pixel and one reference
unfoldable pub dump_of : ℕ → ℕ → List ℕ
dump_of bpp ref = spelling 1 (agent.Create 0 0 10 10 0 0) ++ spelling 1 (agent.WindowDump 0 10 10 bpp (ref ∷ []))

-- what a run over the desktop with four pages posts
unfoldable pub few_posts : List FedItem → List Post
few_posts items = (run four_pages items (opening four_pages)).posts

-- a reference to the fifth of four pages
abbrev pub ReferencePastThePages : Type 0
ReferencePastThePages = few_posts (bytes (version ++ dump_of 32 4) ∷ []) ≡ greeting ++ Ended 0 (cause.RefRange 4 4) ∷ []

-- the last page is acknowledged
abbrev pub DumpAcknowledged : Type 0
DumpAcknowledged = few_posts (bytes (version ++ dump_of 32 3) ∷ []) ≡ greeting ++ Reply 0 (words (149 ∷ 1 ∷ 0 ∷ [])) ∷ []

-- and isn't to an agent of version 1.6
abbrev pub DumpOfAnOldAgent : Type 0
DumpOfAnOldAgent = few_posts (bytes (6 ∷ 0 ∷ 1 ∷ 0 ∷ [] ++ dump_of 32 3) ∷ []) ≡ greeting

-- 16 bits a pixel are too few
abbrev pub DumpOfSixteenBits : Type 0
DumpOfSixteenBits = few_posts (bytes (version ++ dump_of 16 3) ∷ []) ≡ greeting ++ Ended 0 (cause.BadRange 4 16) ∷ []

-- an agent of version 2.0
abbrev pub WrongVersion : Type 0
WrongVersion = posts (bytes (words (131072 ∷ [])) ∷ []) ≡ Ended 0 (cause.BadVersion 131072 0) ∷ []

-- three bytes of the version, and then no more
abbrev pub EarlyEnd : Type 0
EarlyEnd = posts (bytes (7 ∷ 0 ∷ 1 ∷ []) ∷ just (item.Closed 0) ∷ []) ≡ Ended 0 (cause.StreamEnded 0 0) ∷ []

-- a header that announces clipboard data of 256,001 bytes, of which none came yet
abbrev pub ClipboardTooLong : Type 0
ClipboardTooLong = posts (bytes (version ++ words (140 ∷ 1 ∷ 256001 ∷ [])) ∷ [])
    ≡ greeting ++ Ended 0 (cause.ClipTooLong 256001 0) ∷ []

-- the windows 1 to 1025, each in an item of its own: the last is one too many
abbrev pub WindowLimit : Type 0
WindowLimit = posts (bytes version ∷ map (λ window. bytes (spelling window (agent.Create 0 0 1 1 0 0))) (span 1 1025))
    ≡ greeting ++ Ended 0 (cause.TooManyWindows 1025 1024) ∷ []
