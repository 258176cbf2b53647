-- What the bytes of an output say: its records, and those of one guest.
use Rattle.std.specs.Prelude.{◌≡◌, ◌<◌, ℕ, zero, suc, Bool, false, ◌==◌, List, [], ◌∷◌, length, drop, map, filter, Option, None, Some}
use Rattle.std.specs.List.{All, flat_map}
use Rattle.io_ports.specs.Content.{IsPrefix}
use Rattle.desk_laws.specs.Causes.{number_of, values_of}
use Rattle.desk_laws.specs.Scene.{Post}
use Rattle.desk_laws.specs.Scene as scenes
use Rattle.desk_laws.specs.State.{posts_of}
use Rattle.record_format.specs.OutputGrammar.{ppm, posts_bytes}
use Rattle.record_format.specs.PostFields.{OutPost, Reply, Ended, Picture, Summary, post_read, post_spelling, HasPostSpelling}

-- one record, where the others are read by this function of how many bytes it takes
abbrev pub posts_step : Option (OutPost × ℕ) → (ℕ → List OutPost) → List OutPost
posts_step None rest = []
posts_step (Some found) rest = found.0 ∷ rest found.1

-- at most so many records
abbrev pub posts_within : ℕ → List ℕ → List OutPost
posts_within zero bytes = []
posts_within (suc n) bytes = posts_step (post_read bytes) (λ size. posts_within n (drop size bytes))

-- the records that bytes begin with, up to where none stands: each takes a byte at least
unfoldable pub posts_read : List ℕ → List OutPost
posts_read bytes = posts_within (length bytes) bytes

-- a post as a record, where the picture's count of drawn pixels stands at this number
abbrev pub out_of : ℕ → Post → OutPost
out_of painted (scenes.Reply guest bytes) = Reply guest bytes
out_of painted (scenes.Ended guest cause) = Ended guest (number_of cause) (values_of cause).0 (values_of cause).1
out_of painted (scenes.Picture width height colours) = Picture (ppm width height colours)
out_of painted (scenes.Summary counts) = Summary counts.items counts.messages counts.glances painted

-- whether a record is one of a guest: a Reply or an Ended with its number
abbrev pub is_record_of : ℕ → OutPost → Bool
is_record_of guest (Reply g bytes) = g == guest
is_record_of guest (Ended g cause a b) = g == guest
is_record_of guest (Picture bytes) = false
is_record_of guest (Summary items messages glances painted) = false

-- the Reply and Ended records of a guest in the bytes of an output
abbrev pub guest_records : ℕ → List ℕ → List OutPost
guest_records guest bytes = filter (is_record_of guest) (posts_read bytes)

-- posts whose numbers have as many bits as their fields
abbrev pub HaveRecords : ℕ → List Post → Type 0
HaveRecords painted posts = All (λ post. HasPostSpelling (out_of painted post)) posts

-- the bytes of posts are read as these posts
abbrev pub PostsAreRead : Type 0
PostsAreRead = (painted : ℕ) (posts : List Post) → HaveRecords painted posts → posts_read (posts_bytes painted posts) ≡ map (out_of painted) posts

-- and the records of a guest are those of the posts for it
abbrev pub GuestRecordsAreRead : Type 0
GuestRecordsAreRead =
    (painted guest : ℕ) (posts : List Post) → HaveRecords painted posts → guest_records guest (posts_bytes painted posts) ≡ map (out_of painted) (posts_of guest posts)

-- records that are read of bytes are spelled by them
abbrev pub ReadPostsWereSpelled : Type 0
ReadPostsWereSpelled =
    (bytes : List ℕ) → All (λ b. b < 256) bytes →
    All HasPostSpelling (posts_read bytes) × IsPrefix (flat_map post_spelling (posts_read bytes)) bytes
