-- Hand-computed ends of sessions, one for each cause, which the definitions have to give.
use Rattle.std.specs.Prelude.{ℕ, ◌≡◌, ◌^◌, List, [], ◌∷◌, ◌++◌}
use Rattle.gui_wire.specs.Words.{words}
use Rattle.gui_wire.specs.AgentMessages as agent
use Rattle.gui_wire.specs.AgentMessages.{spelling}
use Rattle.desk_laws.specs.declared.cause.Cause.{Cause}
use Rattle.desk_laws.specs.declared.cause.Cause.TheVariants as cause
use Rattle.desk_laws.specs.declared.item.Item.TheVariants as item
use Rattle.desk_laws.specs.Scene.{Post, Reply, Ended, Summary}
use Rattle.run_laws.specs.WorkedRows.{bytes, just, version, posts, greeting}
use Rattle.run_laws.specs.WorkedStreams.{few_posts}

-- red's session ends for a cause, with these bytes behind the version
unfoldable pub ends_for : List ℕ → Cause → Type 0
ends_for piece cause = posts (bytes (version ++ piece) ∷ []) ≡ greeting ++ Ended 0 cause ∷ []

-- window 1 of 2 by 1 pixels is made
unfoldable pub one_made : List ℕ
one_made = spelling 1 (agent.Create 2 2 2 1 0 0)

-- the link is lost, and lost again
abbrev pub LinkLost : Type 0
LinkLost = posts (bytes version ∷ just (item.Lost 0) ∷ just (item.Lost 0) ∷ []) ≡ greeting ++ Ended 0 (cause.LinkFailed 0 0) ∷ []

-- types that aren't taken, found in the header, whatever length it announces
abbrev pub TypeNotTaken : Type 0
TypeNotTaken =
    ends_for (words (135 ∷ 1 ∷ 100 ∷ [])) (cause.BadType 135 0)
    × (ends_for (words (129 ∷ 1 ∷ 8 ∷ [])) (cause.BadType 129 0)
    × ends_for (words (138 ∷ 1 ∷ 0 ∷ [])) (cause.BadType 138 0))

-- a DESTROY of four bytes
abbrev pub LengthOfDestroy : Type 0
LengthOfDestroy = ends_for (words (131 ∷ 1 ∷ 4 ∷ [])) (cause.BadLength 4 0)

-- a dump of 12 bytes, of 18, and of more than the greatest window needs
abbrev pub LengthOfDump : Type 0
LengthOfDump =
    ends_for (words (147 ∷ 1 ∷ 12 ∷ [])) (cause.BadLength 12 0)
    × (ends_for (words (147 ∷ 1 ∷ 18 ∷ [])) (cause.BadLength 18 0)
    × ends_for (words (147 ∷ 1 ∷ 393236 ∷ [])) (cause.BadLength 393236 0))

-- a dump of 10 by 10 pixels, which take one page, with two references
abbrev pub OneReferenceMore : Type 0
OneReferenceMore = ends_for (one_made ++ spelling 1 (agent.WindowDump 0 10 10 32 (0 ∷ 1 ∷ []))) (cause.BadLength 24 0)

-- a message for a window that there isn't
abbrev pub NoSuchWindow : Type 0
NoSuchWindow = ends_for (one_made ++ spelling 2 agent.Unmap) (cause.UnknownWindow 2 0)

-- its fields are looked at first
abbrev pub RangeBeforeWindow : Type 0
RangeBeforeWindow = ends_for (spelling 2 (agent.Configure 0 0 5 (2 ^ 31) 0)) (cause.BadRange 4 2147483648)

-- clipboard data needs no window
abbrev pub ClipboardOfNoWindow : Type 0
ClipboardOfNoWindow = posts (bytes (version ++ spelling 9 (agent.ClipData (1 ∷ 2 ∷ []))) ∷ just item.End ∷ [])
    ≡ greeting ++ Summary (record { items = 2; messages = 1; glances = 0 }) ∷ []

-- window 0 can't be made, nor can one of 2^31 rows
abbrev pub NotCreated : Type 0
NotCreated =
    ends_for (spelling 0 (agent.Create 0 0 1 1 0 0)) (cause.BadRange 0 0)
    × ends_for (spelling 1 (agent.Create 0 0 1 (2 ^ 31) 0 0)) (cause.BadRange 4 2147483648)

-- the fields of a dump: type 1, no columns, too many columns, and too many rows
abbrev pub DumpOutOfRange : Type 0
DumpOutOfRange =
    ends_for (one_made ++ spelling 1 (agent.WindowDump 1 10 10 32 (0 ∷ []))) (cause.BadRange 1 1)
    × (ends_for (one_made ++ spelling 1 (agent.WindowDump 0 0 10 32 (0 ∷ []))) (cause.BadRange 2 0)
    × (ends_for (one_made ++ spelling 1 (agent.WindowDump 0 16385 10 32 (0 ∷ []))) (cause.BadRange 2 16385)
    × ends_for (one_made ++ spelling 1 (agent.WindowDump 0 10 6145 32 (0 ∷ []))) (cause.BadRange 3 6145)))

-- the answer to a dump of window 1
unfoldable pub acknowledged : Post
acknowledged = Reply 0 (words (149 ∷ 1 ∷ 0 ∷ []))

-- window 1 has all four pages of its guest: a dump of its own may take their place, and one page more of another
-- window is one too many
abbrev pub FivePagesOfFour : Type 0
FivePagesOfFour =
    few_posts (bytes (version ++ one_made ++ spelling 1 (agent.WindowDump 0 64 64 32 (0 ∷ 1 ∷ 2 ∷ 3 ∷ []))
    ++ spelling 1 (agent.WindowDump 0 64 64 32 (3 ∷ 3 ∷ 3 ∷ 3 ∷ []))
    ++ spelling 2 (agent.Create 0 0 1 1 0 0) ++ spelling 2 (agent.WindowDump 0 1 1 32 (0 ∷ []))) ∷ [])
    ≡ greeting ++ acknowledged ∷ acknowledged ∷ Ended 0 (cause.FrameBudget 5 4) ∷ []

-- five references, one of them past the pages: that one is found first
abbrev pub ReferenceBeforeBudget : Type 0
ReferenceBeforeBudget = few_posts (bytes (version ++ one_made ++ spelling 1 (agent.WindowDump 0 64 65 32 (0 ∷ 1 ∷ 2 ∷ 3 ∷ 7 ∷ []))) ∷ [])
    ≡ greeting ++ Ended 0 (cause.RefRange 7 4) ∷ []

-- an agent of version 1.4 is told the daemon's version, and one of 1.3 the desktop alone
abbrev pub VersionTold : Type 0
VersionTold =
    (posts (bytes (words (65540 ∷ [])) ∷ []) ≡ greeting)
    × (posts (bytes (words (65539 ∷ [])) ∷ []) ≡ Reply 0 (words (8 ∷ 6 ∷ 24 ∷ 1 ∷ [])) ∷ [])
