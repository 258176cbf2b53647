-- What single messages leave of a window, hand-computed; the definitions have to give it.
use Rattle.std.specs.Prelude.{ℕ, ◌≡◌, ◌^◌, ◌-◌, true, false, List, [], ◌∷◌, ◌++◌, map, replicate, Some, None, pos, negsuc}
use Rattle.gui_wire.specs.AgentMessages as agent
use Rattle.gui_wire.specs.AgentMessages.{AgentMessage, spelling}
use Rattle.desk_laws.specs.Rows.{Row}
use Rattle.desk_laws.specs.State.{opening}
use Rattle.desk_laws.specs.Steps.{run}
use Rattle.run_laws.specs.WorkedRows.{small_desktop, bytes, version}

-- a window of 2 by 1 pixels at (2, 2) is made, with a parent
unfoldable pub create : ℕ → ℕ → List ℕ
create window parent = spelling window (agent.Create 2 2 2 1 parent 0)

-- its row as it is made, with no parent
unfoldable pub made : ℕ → Row
made window = record {
  guest = 0;
  window = window;
  place = record { x = pos 2; y = pos 2; w = 2; h = 1 };
  mapped = false;
  asked = false;
  over = false;
  parent = 0;
  transient = 0;
  title = [];
  class = [];
  name = [];
  hints = 0 ∷ 0 ∷ 0 ∷ 0 ∷ 0 ∷ 0 ∷ 0 ∷ 0 ∷ 0 ∷ [];
  flags = 0;
  cursor = 0;
  docked = false;
  dump = None;
  contents = None ∷ None ∷ [];
}

-- the rows that are there after some messages of red's
unfoldable pub rows_after : List ℕ → List Row
rows_after piece = (run small_desktop (bytes (version ++ piece) ∷ []) (opening small_desktop)).desk.scene.rows

-- the rows after window 1 was made and some messages of it
unfoldable pub row_after : List ℕ → List Row
row_after piece = rows_after (create 1 0 ++ piece)

-- UNMAP of an override window with the flags DEMANDS_ATTENTION and MINIMIZE: it is in no layer, asked for all the same,
-- and has the first flag alone
abbrev pub Unmapped : Type 0
Unmapped = row_after (spelling 1 (agent.Map 0 1) ++ spelling 1 (agent.Flags 6 0) ++ spelling 1 agent.Unmap)
    ≡ record (made 1) { asked = true; flags = 2 } ∷ []

-- UNMAP of a window that isn't mapped clears MINIMIZE and leaves the rest
abbrev pub UnmappedTwice : Type 0
UnmappedTwice = row_after (spelling 1 (agent.Cursor 5) ++ spelling 1 (agent.Flags 6 0) ++ spelling 1 agent.Unmap)
    ≡ record (made 1) { cursor = 5; flags = 2 } ∷ []

-- three windows: the parent of the second is the first, that of the third the second, and the third is transient for
-- the first
unfoldable pub family : List ℕ
family = create 1 0 ++ create 2 1 ++ create 3 2 ++ spelling 3 (agent.Map 1 0)

-- the names of other windows are kept
abbrev pub NamesKept : Type 0
NamesKept = rows_after family
    ≡ made 1 ∷ record (made 2) { parent = 1 } ∷ record (made 3) { mapped = true; parent = 2; transient = 1 } ∷ []

-- and those of a window that goes become 0
abbrev pub Destroyed : Type 0
Destroyed = rows_after (family ++ spelling 1 agent.Destroy) ≡ made 2 ∷ record (made 3) { mapped = true; parent = 2 } ∷ []

-- the names of windows that there are not are 0
abbrev pub UnknownNames : Type 0
UnknownNames = rows_after (create 1 9 ++ spelling 1 (agent.Map 9 0)) ≡ record (made 1) { mapped = true } ∷ []

-- a title ends before its first zero byte, and what doesn't print is `_`
abbrev pub TitleCut : Type 0
TitleCut = row_after (spelling 1 (agent.Name (97 ∷ 9 ∷ 31 ∷ 32 ∷ 126 ∷ 127 ∷ 200 ∷ 0 ∷ 122 ∷ [] ++ replicate 119 120)))
    ≡ record (made 1) { title = 97 ∷ 95 ∷ 95 ∷ 32 ∷ 126 ∷ 95 ∷ 95 ∷ [] } ∷ []

-- a title without a zero byte is kept whole
abbrev pub TitleWhole : Type 0
TitleWhole = row_after (spelling 1 (agent.Name (replicate 128 65))) ≡ record (made 1) { title = replicate 128 65 } ∷ []

-- class and name, each of 64 bytes, are cut apart
abbrev pub ClassAndName : Type 0
ClassAndName = row_after (spelling 1 (agent.Class (67 ∷ 0 ∷ [] ++ replicate 62 68) (10 ∷ replicate 63 78)))
    ≡ record (made 1) { class = 67 ∷ []; name = 95 ∷ replicate 63 78 } ∷ []

-- the nine numbers of the hints
abbrev pub HintsKept : Type 0
HintsKept = row_after (spelling 1 (agent.Hints (1 ∷ 2 ∷ 3 ∷ 4 ∷ 5 ∷ 6 ∷ 7 ∷ 8 ∷ 9 ∷ [])))
    ≡ record (made 1) { hints = 1 ∷ 2 ∷ 3 ∷ 4 ∷ 5 ∷ 6 ∷ 7 ∷ 8 ∷ 9 ∷ [] } ∷ []

-- a window that is docked
abbrev pub Docked : Type 0
Docked = row_after (spelling 1 agent.Dock) ≡ record (made 1) { docked = true } ∷ []

-- the last cursor
abbrev pub CursorKept : Type 0
CursorKept = row_after (spelling 1 (agent.Cursor 5) ++ spelling 1 (agent.Cursor 7)) ≡ record (made 1) { cursor = 7 } ∷ []

-- a flag that one message both sets and unsets is set: it is unset first
abbrev pub SetAfterUnset : Type 0
SetAfterUnset = row_after (spelling 1 (agent.Flags 6 0) ++ spelling 1 (agent.Flags 2 6)) ≡ record (made 1) { flags = 2 } ∷ []

-- there are three flags: here all that there are but FULLSCREEN
abbrev pub ThreeFlags : Type 0
ThreeFlags = row_after (spelling 1 (agent.Flags (2 ^ 32 - 2) 0)) ≡ record (made 1) { flags = 6 } ∷ []

-- a dump is kept with its size and its pages
abbrev pub DumpKept : Type 0
DumpKept = row_after (spelling 1 (agent.WindowDump 0 40 30 24 (3 ∷ 8191 ∷ [])))
    ≡ record (made 1) { dump = Some (record { width = 40; height = 30; refs = 3 ∷ 8191 ∷ [] }) } ∷ []

-- a place and a size brought into range: (40000, -40000) and 0 by 7000
abbrev pub BroughtIntoRange : Type 0
BroughtIntoRange = map (λ row. row.place) (rows_after (spelling 1 (agent.Create 40000 (2 ^ 32 - 40000) 0 7000 0 0)))
    ≡ record { x = pos 32767; y = negsuc 32767; w = 1; h = 6144 } ∷ []
