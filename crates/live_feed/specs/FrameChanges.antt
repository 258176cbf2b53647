-- A frame change as it comes from a guest: three numbers, and then the bytes that they speak of. The form is this
-- project's own.
use Rattle.std.specs.Prelude.{◌≡◌, ◌⊎◌, ℕ, ◌+◌, ◌≤◌, List, length}
use Rattle.gui_wire.specs.Words.{word_at}
use Rattle.desk_laws.specs.Items.{IsChange}
use Rattle.live_feed.specs.declared.page.PageRead.{PageRead}
use Rattle.live_feed.specs.declared.page.PageRead.TheVariants.{Whole, Need, Bad}

-- the three numbers are there: the page, the offset in it and the length, four bytes each, the lowest first
abbrev pub IsHead : List ℕ → ℕ → ℕ → ℕ → Type 0
IsHead bytes page offset len = (12 ≤ length bytes) × ((word_at 0 bytes ≡ page) × ((word_at 1 bytes ≡ offset) × (word_at 2 bytes ≡ len)))

-- what the front of the bytes says, for frames of so many pages: a change of whole words within one page; that so many
-- bytes are missing from the three numbers; or numbers of no such change
abbrev pub Says : ℕ → List ℕ → PageRead → Type 0
Says pages bytes (Whole page offset len) = IsHead bytes page offset len × IsChange page offset len pages
Says pages bytes (Need more) = (1 ≤ more) × (length bytes + more ≡ 12)
Says pages bytes Bad = (12 ≤ length bytes) × (IsChange (word_at 0 bytes) (word_at 1 bytes) (word_at 2 bytes) pages → ⊥)

-- what the front of the bytes says once the changed bytes are looked for too: a whole change; that so many bytes are
-- missing from it; or numbers of no change
abbrev pub SaysWhole : ℕ → List ℕ → PageRead → Type 0
SaysWhole pages bytes (Whole page offset len) = IsHead bytes page offset len × (IsChange page offset len pages × (12 + len ≤ length bytes))
SaysWhole pages bytes (Need more) =
    (1 ≤ more) × ((length bytes + more ≡ 12) ⊎ (IsChange (word_at 0 bytes) (word_at 1 bytes) (word_at 2 bytes) pages × (length bytes + more ≡ 12 + word_at 2 bytes)))
SaysWhole pages bytes Bad = (12 ≤ length bytes) × (IsChange (word_at 0 bytes) (word_at 1 bytes) (word_at 2 bytes) pages → ⊥)

-- the fact holds where bytes are missing
abbrev pub IfMissing : PageRead → Type 0 → Type 0
IfMissing (Whole page offset len) fact = Unit {0}
IfMissing (Need more) fact = fact
IfMissing Bad fact = Unit {0}
