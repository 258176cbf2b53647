-- How a table keeps its entries: the panes in a slab, the references beside it, and the slots in the
-- order in which their windows were added.
use Rattle.std.specs.Prelude.{ℕ, ◌≡◌, ◌<◌, ◌≤◌, Bool, true, false, ◌==◌, List, [], length, map, sum_by, Option, Some, None, is_some, slice_index_or, pos}
use Rattle.std.specs.List.{list_any}
use Rattle.slab.specs.Slab.{Slab, get, slab_len}
use Rattle.desk_laws.specs.declared.limits.TheConstants.{MAX_WINDOWS}
use Rattle.desk_laws.specs.Rows.{DumpOf}
use Rattle.desk_laws.specs.Effects.{name_without}
use Rattle.window_table.specs.declared.pane.Pane.{Pane}
use Rattle.window_table.specs.declared.pane.DumpSize.{DumpSize}
use Rattle.window_table.specs.declared.held.Held.{Held}
use Rattle.window_table.specs.Entries.{Entry, AreApart, new_pane}

-- a dump of this size with these references, if it has a size
abbrev pub dump_of : Option DumpSize → List ℕ → Option DumpOf
dump_of None refs = None
dump_of (Some size) refs = Some (record { width = size.width; height = size.height; refs = refs })

-- the window of what a slot holds, 0 where it holds nothing
abbrev pub window_of : Option Held → ℕ
window_of None = 0
window_of (Some held) = held.window

-- the size of the dump of what a slot holds
abbrev pub size_in : Option Held → Option DumpSize
size_in None = None
size_in (Some held) = held.size

-- the pane of what a slot holds, an empty one where it holds nothing
abbrev pub pane_in : Option Held → Pane
pane_in None = new_pane (record { x = pos 0; y = pos 0; w = 0; h = 0 }) 0 false
pane_in (Some held) = held.pane

-- the entry of what a slot holds, with its references
abbrev pub entry_of : ℕ → Option Held → List ℕ → Entry
entry_of slot held refs = record { slot = slot; window = window_of held; dump = dump_of (size_in held) refs; pane = pane_in held }

-- the references of a slot
abbrev pub refs_kept : List (List ℕ) → ℕ → List ℕ
refs_kept lists slot = slice_index_or lists slot []

-- the entry of a slot
abbrev pub entry_in : Slab Held → List (List ℕ) → ℕ → Entry
entry_in held lists slot = entry_of slot (get held slot) (refs_kept lists slot)

-- the entries of the slots, in this order
abbrev pub entries_of : Slab Held → List (List ℕ) → List ℕ → List Entry
entries_of held lists order = map (entry_in held lists) order

-- whether a slot is one of these
abbrev pub among : ℕ → List ℕ → Bool
among slot order = list_any (λ k. k == slot) order

-- whether a slot holds this window
abbrev pub holds : Slab Held → ℕ → ℕ → Bool
holds held window slot = window_of (get held slot) == window

-- what a slot holds, which names a window no more
abbrev pub forgets_held : ℕ → Held → Held
forgets_held window held = record held {
  pane = record held.pane { parent = name_without window held.pane.parent; transient = name_without window held.pane.transient };
}

-- the slots in order each hold a window, no two the same; a slot without a dump has no references
pub record IsKept (held : Slab Held) (lists : List (List ℕ)) (order : List ℕ) : Type 0 where
  pub slots : length lists ≡ MAX_WINDOWS
  pub capacity : held.capacity ≡ MAX_WINDOWS
  pub each : (slot : ℕ) → among slot order ≡ true → is_some (get held slot) ≡ true
  pub below : (slot : ℕ) → among slot order ≡ true → slot < MAX_WINDOWS
  pub count : slab_len held ≡ length order
  pub few : length order ≤ MAX_WINDOWS
  pub unused : (slot : ℕ) → size_in (get held slot) ≡ None → refs_kept lists slot ≡ []
  pub together : sum_by length lists ≡ sum_by (λ slot. length (refs_kept lists slot)) order
  pub apart : AreApart (entries_of held lists order)
