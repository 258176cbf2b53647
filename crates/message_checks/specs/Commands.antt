-- What a message asks for once it is checked.
use Rattle.std.specs.Prelude.{◌≡◌, ℕ}
use Rattle.gui_num.specs.declared.Rect.{Rect}
use Rattle.gui_wire.specs.AgentMessages as agent
use Rattle.gui_wire.specs.AgentMessages.{AgentMessage}
use Rattle.gui_wire.specs.Seen.{references}
use Rattle.desk_laws.specs.Ranges.{rect_in_range}
use Rattle.message_checks.specs.declared.command.Command.{Command}
use Rattle.message_checks.specs.declared.command.Command.TheVariants.{Create, Destroy, Map, Unmap, Configure, Shmimage, Clip, Name, Dock, Hints, Flags, Class, Dump, Cursor}

-- the rectangle is that of four numbers of a message, in range
abbrev pub IsRectOf : AgentMessage → (ℕ → ℕ → ℕ → ℕ → AgentMessage) → Rect → Type 0
IsRectOf m made rect = (x y width height : ℕ) × (m ≡ made x y width height) × (rect ≡ rect_in_range x y width height)

-- the command is the message, its rectangle in range and all other fields as they stand in it
abbrev pub IsCommandOf : AgentMessage → Command → Type 0
IsCommandOf m (Create rect parent override_redirect) =
    IsRectOf m (λ x y width height. agent.Create x y width height parent override_redirect) rect
IsCommandOf m Destroy = m ≡ agent.Destroy
IsCommandOf m (Map transient_for override_redirect) = m ≡ agent.Map transient_for override_redirect
IsCommandOf m Unmap = m ≡ agent.Unmap
IsCommandOf m (Configure rect override_redirect) =
    IsRectOf m (λ x y width height. agent.Configure x y width height override_redirect) rect
IsCommandOf m (Shmimage x y width height) = m ≡ agent.Shmimage x y width height
IsCommandOf m (Clip bytes) = m ≡ agent.ClipData bytes.now
IsCommandOf m (Name text) = m ≡ agent.Name text.now
IsCommandOf m Dock = m ≡ agent.Dock
IsCommandOf m (Hints hints) = m ≡ agent.Hints hints
IsCommandOf m (Flags flags_set flags_unset) = m ≡ agent.Flags flags_set flags_unset
IsCommandOf m (Class class name) = m ≡ agent.Class class.now name.now
IsCommandOf m (Dump kind width height bpp refs) = m ≡ agent.WindowDump kind width height bpp (references refs)
IsCommandOf m (Cursor cursor) = m ≡ agent.Cursor cursor
