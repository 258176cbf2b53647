-- What a table holds: an entry for each window, in the order in which they were added.
use Rattle.std.specs.Prelude.{ℕ, ◌≡◌, Bool, true, false, not, ◌==◌, List, [], map, filter, find, replicate, Option, Some, None, if◌then◌else◌}
use Rattle.gui_num.specs.declared.Rect.{Rect}
use Rattle.desk_laws.specs.Rows.{Row, DumpOf}
use Rattle.desk_laws.specs.Effects.{name_without}
use Rattle.desk_laws.specs.Layers.{are_apart}
use Rattle.window_table.specs.declared.pane.Pane.{Pane}
use Rattle.window_table.specs.declared.pane.DumpSize.{DumpSize}

-- a window's slot, its id, its dump with the references, and what else is kept of it
pub record Entry : Type 0 where
  pub slot : ℕ
  pub window : ℕ
  pub dump : Option DumpOf
  pub pane : Pane

-- how many references the entries may have together, and the entries in the order in which they were added
pub record TableView : Type 0 where
  pub pages : ℕ
  pub entries : List Entry

-- the entry at a slot
abbrev pub entry_at : ℕ → List Entry → Option Entry
entry_at slot entries = find (λ e. e.slot == slot) entries

-- the entry of a window
abbrev pub entry_with : ℕ → List Entry → Option Entry
entry_with window entries = find (λ e. e.window == window) entries

-- an entry, changed where it is at the slot
abbrev pub changed_at : ℕ → (Entry → Entry) → Entry → Entry
changed_at slot change e = if e.slot == slot then change e else e

-- the entries with a change of the one at a slot
abbrev pub updated : ℕ → (Entry → Entry) → List Entry → List Entry
updated slot change entries = map (changed_at slot change) entries

-- the entries but for the one at a slot
abbrev pub besides_slot : ℕ → List Entry → List Entry
besides_slot slot entries = filter (λ e. not (e.slot == slot)) entries

-- the entry as a row of this guest with these contents
abbrev pub row_of : ℕ → List (Option ℕ) → Entry → Row
row_of guest contents entry = record {
  guest = guest;
  window = entry.window;
  place = entry.pane.place;
  mapped = entry.pane.mapped;
  asked = entry.pane.asked;
  over = entry.pane.over;
  parent = entry.pane.parent;
  transient = entry.pane.transient;
  title = entry.pane.title.items;
  class = entry.pane.class.items;
  name = entry.pane.name.items;
  hints = entry.pane.hints;
  flags = entry.pane.flags;
  cursor = entry.pane.cursor;
  docked = entry.pane.docked;
  dump = entry.dump;
  contents = contents;
}

-- the entries as rows, without their guest and their contents
abbrev pub plain_rows : List Entry → List Row
plain_rows entries = map (row_of 0 []) entries

-- a new window's pane
abbrev pub new_pane : Rect → ℕ → Bool → Pane
new_pane place parent asked = record {
  place = place;
  mapped = false;
  asked = asked;
  over = false;
  parent = parent;
  transient = 0;
  title = record { items = [] };
  class = record { items = [] };
  name = record { items = [] };
  hints = replicate 9 0;
  flags = 0;
  cursor = 0;
  docked = false;
}

-- a new window's entry: it has no dump
abbrev pub new_entry : ℕ → ℕ → Rect → ℕ → Bool → Entry
new_entry slot window place parent asked =
    record { slot = slot; window = window; dump = None; pane = new_pane place parent asked }

-- an entry that names a window no more, as parent or transient
abbrev pub forgets_window : ℕ → Entry → Entry
forgets_window window entry = record entry {
  pane = record entry.pane { parent = name_without window entry.pane.parent; transient = name_without window entry.pane.transient };
}

-- the entries without the one at a slot, which no longer name a window
abbrev pub removed : ℕ → ℕ → List Entry → List Entry
removed slot window entries = map (forgets_window window) (besides_slot slot entries)

-- an entry with another pane
abbrev pub with_pane : Pane → Entry → Entry
with_pane pane entry = record entry { pane = pane }

-- an entry with another dump
abbrev pub with_dump : DumpOf → Entry → Entry
with_dump dump entry = record entry { dump = Some dump }

-- the size of a dump
abbrev pub size_of_dump : Option DumpOf → Option DumpSize
size_of_dump None = None
size_of_dump (Some dump) = Some (record { width = dump.width; height = dump.height })

-- the references of a dump, none where there is no dump
abbrev pub refs_in : Option DumpOf → List ℕ
refs_in None = []
refs_in (Some dump) = dump.refs

-- no window and no slot stands in the entries twice
pub record AreApart (entries : List Entry) : Type 0 where
  pub windows : are_apart (map (λ e. record { guest = 0; window = e.window }) entries) ≡ true
  pub slots : are_apart (map (λ e. record { guest = 0; window = e.slot }) entries) ≡ true
