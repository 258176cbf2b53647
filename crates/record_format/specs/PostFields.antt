-- The records of an output, each spelled, and what bytes say.
use Rattle.std.specs.Prelude.{◌<◌, ◌^◌, ℕ, ◌+◌, List, [], ◌∷◌, ◌++◌, length, take, drop, slice_index, ◌==◌, nat_lt, if◌then◌else◌, Option, Some, None, option_map}
use Rattle.byteorder.specs.Endian.{little_number}
use Rattle.gui_wire.specs.Words.{word}
use Rattle.record_format.specs.declared.post.Post.{Post}
use Rattle.record_format.specs.declared.post.Post.TheVariants as posts
use Rattle.record_format.specs.Config.{number_at}
use Rattle.record_format.specs.OutputGrammar.{reply_record, ended_record, summary_record}

-- a record of an output
pub data OutPost : Type 0 where
  Reply : (guest : ℕ) (bytes : List ℕ) → OutPost
  Ended : (guest cause a b : ℕ) → OutPost
  Picture : (bytes : List ℕ) → OutPost
  Summary : (items messages glances painted : ℕ) → OutPost

-- the record, with what it borrows
abbrev pub seen : Post → OutPost
seen (posts.Reply guest bytes) = Reply guest bytes.now
seen (posts.Ended guest cause a b) = Ended guest cause a b
seen (posts.Picture bytes) = Picture bytes.now
seen (posts.Summary items messages glances painted) = Summary items messages glances painted

-- how it is spelled
abbrev pub post_spelling : OutPost → List ℕ
post_spelling (Reply guest bytes) = reply_record guest bytes
post_spelling (Ended guest cause a b) = ended_record guest cause a b
post_spelling (Picture bytes) = 3 ∷ word (length bytes) ++ bytes
post_spelling (Summary items messages glances painted) = summary_record (record { items = items; messages = messages; glances = glances }) painted

-- its numbers have as many bits as their fields
abbrev pub HasPostSpelling : OutPost → Type 0
HasPostSpelling (Reply guest bytes) = (guest < 2 ^ 8) × (length bytes < 2 ^ 32)
HasPostSpelling (Ended guest cause a b) = (guest < 2 ^ 8) × (cause < 2 ^ 8) × (a < 2 ^ 32) × (b < 2 ^ 32)
HasPostSpelling (Picture bytes) = length bytes < 2 ^ 32
HasPostSpelling (Summary items messages glances painted) = (items < 2 ^ 64) × (messages < 2 ^ 64) × (glances < 2 ^ 64) × (painted < 2 ^ 64)

-- the number of eight bytes, the lowest first, from this place on
abbrev pub long_at : ℕ → List ℕ → ℕ
long_at place bytes = little_number 8 (drop place bytes)

-- the bytes behind their length, which stands at this place
abbrev pub framed_read : ℕ → List ℕ → Option (List ℕ)
framed_read place bytes =
    if nat_lt (length bytes) (place + 4) then None
    else if nat_lt (length (drop (place + 4) bytes)) (number_at place bytes) then None
    else Some (take (number_at place bytes) (drop (place + 4) bytes))

-- a reply: the guest, and the framed bytes
abbrev pub reply_read : List ℕ → Option (OutPost × ℕ)
reply_read bytes = option_map (λ framed. (Reply (slice_index bytes 1) framed, 6 + length framed)) (framed_read 2 bytes)

-- a picture: the framed bytes
abbrev pub picture_read : List ℕ → Option (OutPost × ℕ)
picture_read bytes = option_map (λ framed. (Picture framed, 5 + length framed)) (framed_read 1 bytes)

-- the end of a session: the guest, the cause's number, and its two values
abbrev pub ended_read : List ℕ → Option (OutPost × ℕ)
ended_read bytes =
    if nat_lt (length bytes) 11 then None
    else Some (Ended (slice_index bytes 1) (slice_index bytes 2) (number_at 3 bytes) (number_at 7 bytes), 11)

-- the four counts
abbrev pub summary_read : List ℕ → Option (OutPost × ℕ)
summary_read bytes =
    if nat_lt (length bytes) 33 then None
    else Some (Summary (long_at 1 bytes) (long_at 9 bytes) (long_at 17 bytes) (long_at 25 bytes), 33)

-- the record that bytes begin with, and how many of them it takes
abbrev pub post_read : List ℕ → Option (OutPost × ℕ)
post_read [] = None
post_read (kind ∷ rest) =
    if kind == 1 then reply_read (kind ∷ rest)
    else if kind == 2 then ended_read (kind ∷ rest)
    else if kind == 3 then picture_read (kind ∷ rest)
    else if kind == 4 then summary_read (kind ∷ rest)
    else None

-- what was read, with what it borrows
abbrev pub seen_found : Post × ℕ → OutPost × ℕ
seen_found found = (seen found.0, found.1)
