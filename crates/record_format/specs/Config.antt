-- How a record begins: four bytes that tell its version, the desktop's sizes and guests, and, by the version, its
-- outputs, the clipboard's revision and the denied pairs. The format is this project's own.
use Rattle.std.specs.Prelude.{ℕ, zero, suc, ◌+◌, ◌*◌, List, [], ◌∷◌, ◌++◌, length, take, drop, slice_index, Bool, true, false, not, ◌&&◌, ◌==◌, nat_lt, if◌then◌else◌, Option, None, Some, Result, Ok, Err, ℤ, pos}
use Rattle.std.specs.Int.{w32, cast_signed}
use Rattle.std.specs.Ordering.{int_eq}
use Rattle.std.specs.Str.{bytes_eq}
use Rattle.std.specs.List.{sum_by, flat_map}
use Rattle.gui_wire.specs.Words.{word, words, word_at}
use Rattle.io_ports.specs.declared.feed.RecordFault.{RecordFault}
use Rattle.io_ports.specs.declared.feed.RecordKind.{RecordKind}
use Rattle.io_ports.specs.declared.feed.RecordKind.TheVariants as kinds
use Rattle.desk_laws.specs.declared.setup.Setup.{Setup}
use Rattle.desk_laws.specs.declared.setup.GuestSetup.{GuestSetup}
use Rattle.desk_laws.specs.declared.setup.Pair.{Pair}
use Rattle.desk_laws.specs.declared.limits.TheConstants.{MAX_GUESTS, MAX_OUTPUTS}
use Rattle.desk_laws.specs.Rules.{within, first_broken}
use Rattle.gui_num.specs.declared.Rect.{Rect}
use Rattle.record_format.specs.declared.version.Version.{Version}
use Rattle.record_format.specs.declared.version.Version.TheVariants.{First, Second, Third}
use Rattle.record_format.specs.declared.clipboard.Clipboard.{Clipboard}
use Rattle.record_format.specs.ItemSpellings.{signed_word}

-- what is wrong with a configuration: a fault of the record, or the number of the first rule that it breaks
pub data Wrong : Type 0 where
  Fault : RecordFault → Wrong
  Rule : ℕ → Wrong

-- a fault at an offset
abbrev pub fault : ℕ → RecordKind → RecordFault
fault offset kind = record { offset = offset; kind = kind }

-- the four bytes that a record of a version begins with: QGR1, QGR2 or QGR3
abbrev pub magic : Version → List ℕ
magic First = 81 ∷ 71 ∷ 82 ∷ 49 ∷ []
magic Second = 81 ∷ 71 ∷ 82 ∷ 50 ∷ []
magic Third = 81 ∷ 71 ∷ 82 ∷ 51 ∷ []

-- the version whose four bytes these are
abbrev pub version_at : List ℕ → Option Version
version_at four =
    if bytes_eq four (magic First) then Some First
    else if bytes_eq four (magic Second) then Some Second
    else if bytes_eq four (magic Third) then Some Third
    else None

-- the number of four bytes, the lowest first, from this place on
abbrev pub number_at : ℕ → List ℕ → ℕ
number_at place bytes = word_at 0 (drop place bytes)

-- the signed number of four bytes from this place on
abbrev pub signed_at : ℕ → List ℕ → ℤ
signed_at place bytes = cast_signed w32 (number_at place bytes)

-- the same version, where nothing is wrong with what stands behind the first four bytes of a head
abbrev pub behind_magic : List ℕ → Option Version → Result Version Wrong
behind_magic head None = Err (Fault (fault 0 kinds.Magic))
behind_magic head (Some version) =
    if nat_lt (length head) 5 then Err (Fault (fault 4 kinds.Short))
    else if not (slice_index head 4 == 1) then Err (Fault (fault 4 kinds.Kind))
    else if nat_lt (length head) 34 then Err (Fault (fault 4 kinds.Short))
    else if within 1 MAX_GUESTS (slice_index head 33) then Ok version
    else Err (Rule 1)

-- the version of the first 34 bytes, or of those that there are, or what is wrong with them: the four bytes, the
-- kind byte 1, seven numbers and the number of guests
abbrev pub head_of : List ℕ → Result Version Wrong
head_of head =
    if nat_lt (length head) 4 then Err (Fault (fault 0 kinds.Short))
    else behind_magic head (version_at (take 4 head))

infixl 10 ◌>>=◌
-- what was read, and then what is read behind it
abbrev pub ◌>>=◌ : {A B : Type 0} → Result A Wrong → (A → Result B Wrong) → Result B Wrong
(Ok x) >>= f = f x
(Err e) >>= f = Err e

-- so many bytes, and those behind them
abbrev pub part_of : ℕ → List ℕ → Result (List ℕ × List ℕ) Wrong
part_of size bytes = if nat_lt (length bytes) size then Err (Fault (fault 4 kinds.Short)) else Ok (take size bytes, drop size bytes)

-- a guest of this colour with the name that was read
abbrev pub named : ℕ → Result (List ℕ × List ℕ) Wrong → Result (GuestSetup × List ℕ) Wrong
named colour (Ok found) = Ok (record { colour = record { 0 = colour }; name = found.0 }, found.1)
named colour (Err wrong) = Err wrong

-- a guest: its colour, the length of its name, and the name
abbrev pub guest_of : List ℕ → Result (GuestSetup × List ℕ) Wrong
guest_of bytes =
    let fixed = take 5 bytes in
    if nat_lt (length bytes) 5 then Err (Fault (fault 4 kinds.Short))
    else named (number_at 0 fixed) (part_of (slice_index fixed 4) (drop 5 bytes))

-- these, and then those that were read
abbrev pub with_items : {X : Type 0} → List X → Result (List X × List ℕ) Wrong → Result (List X × List ℕ) Wrong
with_items front (Ok found) = Ok (front ++ found.0, found.1)
with_items front (Err wrong) = Err wrong

-- so many of a kind, one after the other
abbrev pub many_of : {X : Type 0} → (List ℕ → Result (X × List ℕ) Wrong) → ℕ → List ℕ → Result (List X × List ℕ) Wrong
many_of one zero bytes = Ok ([], bytes)
many_of one (suc n) bytes = one bytes >>= λ first. with_items (first.0 ∷ []) (many_of one n first.1)

-- so many guests
abbrev pub guests_of : ℕ → List ℕ → Result (List GuestSetup × List ℕ) Wrong
guests_of = many_of guest_of

-- the rectangle of 16 bytes: its upper left corner, its width and its height
abbrev pub rect_at : List ℕ → Rect
rect_at bytes = record { x = signed_at 0 bytes; y = signed_at 4 bytes; w = number_at 8 bytes; h = number_at 12 bytes }

-- an output: its rectangle
abbrev pub output_of : List ℕ → Result (Rect × List ℕ) Wrong
output_of bytes = part_of 16 bytes >>= λ fixed. Ok (rect_at fixed.0, fixed.1)

-- so many outputs, where there may be so many
abbrev pub counted_outputs : ℕ → List ℕ → Result (List Rect × List ℕ) Wrong
counted_outputs count bytes = if within 1 MAX_OUTPUTS count then many_of output_of count bytes else Err (Rule 17)

-- the number of outputs, and the outputs
abbrev pub outputs_of : List ℕ → Result (List Rect × List ℕ) Wrong
outputs_of bytes = part_of 1 bytes >>= λ fixed. counted_outputs (slice_index fixed.0 0) fixed.1

-- the outputs of a record of a version with this plane: the first one has the whole plane for its only one, and spells none
abbrev pub outputs_in : Version → Rect → List ℕ → Result (List Rect × List ℕ) Wrong
outputs_in First plane bytes = Ok (plane ∷ [], bytes)
outputs_in Second plane bytes = outputs_of bytes
outputs_in Third plane bytes = outputs_of bytes

-- a pair: the guest that a paste comes from, and the one that it goes to
abbrev pub pair_of : List ℕ → Result (Pair × List ℕ) Wrong
pair_of bytes = part_of 2 bytes >>= λ fixed. Ok (record { from = slice_index fixed.0 0; to = slice_index fixed.0 1 }, fixed.1)

-- a clipboard of this revision with the pairs that are read
abbrev pub with_pairs : ℕ → Result (List Pair × List ℕ) Wrong → Result (Clipboard × List ℕ) Wrong
with_pairs clip (Ok found) = Ok (record { clip = clip; denied = found.0 }, found.1)
with_pairs clip (Err wrong) = Err wrong

-- the revision, the number of pairs, and the pairs
abbrev pub clipboard_of : List ℕ → Result (Clipboard × List ℕ) Wrong
clipboard_of bytes = part_of 2 bytes >>= λ fixed. with_pairs (slice_index fixed.0 0) (many_of pair_of (slice_index fixed.0 1) fixed.1)

-- the clipboard that the first two versions have, and don't spell
abbrev pub plain_clipboard : Clipboard
plain_clipboard = record { clip = 1; denied = [] }

-- the clipboard of a record of a version
abbrev pub clipboard_in : Version → List ℕ → Result (Clipboard × List ℕ) Wrong
clipboard_in First bytes = Ok (plain_clipboard, bytes)
clipboard_in Second bytes = Ok (plain_clipboard, bytes)
clipboard_in Third bytes = clipboard_of bytes

-- a plane of this width and height
abbrev pub plane : ℕ → ℕ → Rect
plane width height = record { x = pos 0; y = pos 0; w = width; h = height }

-- the setup that these 34 bytes, these guests, these outputs and this clipboard are
abbrev pub setup_at : List ℕ → List GuestSetup → List Rect → Clipboard → Setup
setup_at head guests outputs clipboard = record {
  width = number_at 5 head;
  height = number_at 9 head;
  border = number_at 13 head;
  pages = number_at 17 head;
  tiles = number_at 21 head;
  percent = number_at 25 head;
  background = record { 0 = number_at 29 head };
  guests = guests;
  outputs = outputs;
  clip = clipboard.clip;
  denied = clipboard.denied;
}

-- whether an output is this plane
abbrev pub is_plane : ℕ → ℕ → Rect → Bool
is_plane width height output = (int_eq output.x (pos 0) && int_eq output.y (pos 0)) && (output.w == width && output.h == height)

-- whether the plane is the one output
abbrev pub is_one : ℕ → ℕ → List Rect → Bool
is_one width height (output ∷ []) = is_plane width height output
is_one width height outputs = false

-- whether there is no pair
abbrev pub no_pair : List Pair → Bool
no_pair [] = true
no_pair (pair ∷ pairs) = false

-- the lowest version that has a setup
abbrev pub version_of : Setup → Version
version_of setup =
    if setup.clip == 1 && no_pair setup.denied then (if is_one setup.width setup.height setup.outputs then First else Second)
    else Third

-- whether two versions are the same
abbrev pub same_version : Version → Version → Bool
same_version First First = true
same_version Second Second = true
same_version Third Third = true
same_version one other = false

-- what is wrong with a setup in a record of a version: the first rule that it breaks, and else that a lower version has it
abbrev pub setup_wrong : Version → Setup → Option ℕ → Option Wrong
setup_wrong version setup (Some k) = Some (Rule k)
setup_wrong version setup None = if same_version version (version_of setup) then None else Some (Fault (fault 4 kinds.Range))

-- the setup, unless something is wrong with it
abbrev pub kept : Setup → List ℕ → Option Wrong → Result (Setup × List ℕ) Wrong
kept setup rest None = Ok (setup, rest)
kept setup rest (Some wrong) = Err wrong

-- a setup of these parts in a record of a version
abbrev pub joined : Version → List ℕ → List GuestSetup → List Rect → Clipboard → List ℕ → Result (Setup × List ℕ) Wrong
joined version head guests outputs clipboard rest =
    let setup = setup_at head guests outputs clipboard in
    kept setup rest (setup_wrong version setup (first_broken setup))

-- what stands behind the first 34 bytes of a record of a version
abbrev pub behind_head : List ℕ → Version → List ℕ → Result (Setup × List ℕ) Wrong
behind_head head version bytes =
    guests_of (slice_index head 33) bytes >>= λ guests.
    (outputs_in version (plane (number_at 5 head) (number_at 9 head)) guests.1 >>= λ outputs.
    (clipboard_in version outputs.1 >>= λ clipboard. joined version head guests.0 outputs.0 clipboard.0 clipboard.1))

-- the setup that a record begins with, and the bytes behind it
abbrev pub config_of : List ℕ → Result (Setup × List ℕ) Wrong
config_of bytes = head_of (take 34 bytes) >>= λ version. behind_head (take 34 bytes) version (drop 34 bytes)

-- how many bytes so many outputs take in a record of a version
abbrev pub outputs_len : Version → ℕ → ℕ
outputs_len First outputs = 0
outputs_len Second outputs = 1 + 16 * outputs
outputs_len Third outputs = 1 + 16 * outputs

-- how many bytes a clipboard takes with so many pairs
abbrev pub clipboard_len : Version → ℕ → ℕ
clipboard_len First pairs = 0
clipboard_len Second pairs = 0
clipboard_len Third pairs = 2 + 2 * pairs

-- the number of bytes that a setup takes in a record of a version, the first four among them
abbrev pub len_in : Version → Setup → ℕ
len_in version setup = (34 + sum_by (λ g. 5 + length g.name) setup.guests) + (outputs_len version (length setup.outputs) + clipboard_len version (length setup.denied))

-- the number of bytes that a setup takes in a record
abbrev pub config_len : Setup → ℕ
config_len setup = len_in (version_of setup) setup

-- ---- the same, spelled

-- a guest: its colour, the length of its name, and the name
unfoldable pub guest_spelling : GuestSetup → List ℕ
guest_spelling g = word g.colour.0 ++ length g.name ∷ g.name

-- the four bytes, the kind byte 1, the seven numbers, and the number of guests
unfoldable pub head_spelling : Version → Setup → List ℕ
head_spelling version s = magic version ++ (1 ∷ words (s.width ∷ s.height ∷ s.border ∷ s.pages ∷ s.tiles ∷ s.percent ∷ s.background.0 ∷ []) ++ length s.guests ∷ [])

-- an output: its upper left corner, its width and its height
unfoldable pub output_spelling : Rect → List ℕ
output_spelling output = signed_word output.x ++ signed_word output.y ++ word output.w ++ word output.h

-- the number of outputs, and the outputs
abbrev pub outputs_spelling : Version → List Rect → List ℕ
outputs_spelling First outputs = []
outputs_spelling Second outputs = length outputs ∷ flat_map output_spelling outputs
outputs_spelling Third outputs = length outputs ∷ flat_map output_spelling outputs

-- a pair: the guest that a paste comes from, and the one that it goes to
abbrev pub pair_spelling : Pair → List ℕ
pair_spelling pair = pair.from ∷ pair.to ∷ []

-- the revision, the number of pairs, and the pairs
abbrev pub clipboard_spelling : Version → ℕ → List Pair → List ℕ
clipboard_spelling First clip denied = []
clipboard_spelling Second clip denied = []
clipboard_spelling Third clip denied = clip ∷ length denied ∷ flat_map pair_spelling denied

-- what stands behind the guests
abbrev pub later_spelling : Version → Setup → List ℕ
later_spelling version s = outputs_spelling version s.outputs ++ clipboard_spelling version s.clip s.denied

-- how a record of a version begins with this setup
abbrev pub spelling_in : Version → Setup → List ℕ
spelling_in version s = (head_spelling version s ++ flat_map guest_spelling s.guests) ++ later_spelling version s

-- how a record of this setup begins, up to its first item: in the lowest version that has it
unfoldable pub config_spelling : Setup → List ℕ
config_spelling s = spelling_in (version_of s) s
