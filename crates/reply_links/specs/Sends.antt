-- What guests are sent of their replies, and where that stops.
use Rattle.std.specs.Prelude.{◌≡◌, ◌≤◌, ◌<◌, ℕ, List, [], ◌++◌, length, slice_index_or, ◌==◌, Bool, true, false, if◌then◌else◌, Option, Result, Ok, Err}
use Rattle.std.specs.List.{flat_map}
use Rattle.desk_laws.specs.Scene.{Post, Reply, Ended, Picture, Summary}
use Rattle.io_ports.specs.declared.source.Failed.{Failed}
use Rattle.io_ports.specs.Content.{Grows, IsPrefix}
use Rattle.io_ports.specs.Counts.{Rose}
use Rattle.io_ports.specs.Links.{Traffic}
use Rattle.reply_links.specs.declared.links.LinkState.{LinkState}
use Rattle.reply_links.specs.declared.links.LinkState.TheVariants as links

-- the bytes of a post that are a reply to this guest
abbrev pub bytes_to : ℕ → Post → List ℕ
bytes_to guest (Reply other bytes) = if other == guest then bytes else []
bytes_to guest (Ended other cause) = []
bytes_to guest (Picture width height colours) = []
bytes_to guest (Summary counts) = []

-- the bytes of all replies to this guest among the posts
abbrev pub replies_to : ℕ → List Post → List ℕ
replies_to guest posts = flat_map (bytes_to guest) posts

-- these are the first bytes of those, and not all
pub record IsProper (front whole : List ℕ) : Type 0 where
  pub rest : List ℕ
  pub is : front ++ rest ≡ whole
  pub more : 0 < length rest

-- a part of the bytes was sent, not all, since a send failed
pub record SentPart (bytes : List ℕ) (before after : Option (List ℕ)) (faults faults' : ℕ) : Type 0 where
  pub front : List ℕ
  pub proper : IsProper front bytes
  pub grown : Grows before front after
  pub later : faults ≤ faults'
  pub rose : Rose faults faults'

-- nothing was sent
abbrev pub SentNone : Option (List ℕ) → Option (List ℕ) → ℕ → ℕ → Type 0
SentNone before after faults faults' = (after ≡ before) × (faults' ≡ faults)

-- A link in the first state is in the second once its guest was told these bytes: all were sent on an open link, or a part,
-- and the link was cut; on any other nothing is sent.
abbrev pub LinkSends : LinkState → LinkState → List ℕ → Option (List ℕ) → Option (List ℕ) → ℕ → ℕ → Type 0
LinkSends links.Open links.Open bytes before after faults faults' = Grows before bytes after × (faults' ≡ faults)
LinkSends links.Open links.Cut bytes before after faults faults' = SentPart bytes before after faults faults'
LinkSends links.Open links.Lost bytes before after faults faults' = ⊥
LinkSends links.Cut links.Cut bytes before after faults faults' = SentNone before after faults faults'
LinkSends links.Cut links.Open bytes before after faults faults' = ⊥
LinkSends links.Cut links.Lost bytes before after faults faults' = ⊥
LinkSends links.Lost links.Lost bytes before after faults faults' = SentNone before after faults faults'
LinkSends links.Lost links.Open bytes before after faults faults' = ⊥
LinkSends links.Lost links.Cut bytes before after faults faults' = ⊥

-- the state of a guest's link
abbrev pub link_at : ℕ → List LinkState → LinkState
link_at guest states = slice_index_or states guest links.Lost

-- the same of all links, where the guests are told what this function says
abbrev pub LinksSend : List LinkState → List LinkState → (ℕ → List ℕ) → Traffic → Traffic → Type 0
LinksSend before after told traffic traffic' =
    (guest : ℕ) → guest < length before →
    LinkSends (link_at guest before) (link_at guest after) (told guest) (traffic.sent guest) (traffic'.sent guest) (traffic.faults guest) (traffic'.faults guest)

-- The same of one link of a writer that may have failed: then nothing is sent; where it fails now, the link was told the first of
-- the bytes alone.
abbrev pub LinkTakes : Bool → Bool → LinkState → LinkState → List ℕ → Option (List ℕ) → Option (List ℕ) → ℕ → ℕ → Type 0
LinkTakes true failed state state' bytes before after faults faults' = (failed ≡ true) × (state' ≡ state) × SentNone before after faults faults'
LinkTakes false false state state' bytes before after faults faults' = LinkSends state state' bytes before after faults faults'
LinkTakes false true state state' bytes before after faults faults' =
    (part : List ℕ) × IsPrefix part bytes × LinkSends state state' part before after faults faults'

-- the links that are told what this function says, over one and the same wire
pub record SendsOn (had failed : Bool) (before after : List LinkState) (told : ℕ → List ℕ) (traffic traffic' : Traffic) (keeps : Type 0) : Type 0 where
  pub each : (guest : ℕ) → guest < length before →
      LinkTakes had failed (link_at guest before) (link_at guest after) (told guest) (traffic.sent guest) (traffic'.sent guest) (traffic.faults guest) (traffic'.faults guest)
  pub same_links : length after ≡ length before
  pub keeps_wire : keeps

-- the same where all is written, and where a write fails
abbrev pub LinkTold : {T : Type 0} → Result T Failed → LinkState → LinkState → List ℕ → Option (List ℕ) → Option (List ℕ) → ℕ → ℕ → Type 0
LinkTold (Ok x) state state' bytes before after faults faults' = LinkSends state state' bytes before after faults faults'
LinkTold (Err e) state state' bytes before after faults faults' =
    (part : List ℕ) × IsPrefix part bytes × LinkSends state state' part before after faults faults'

-- all links, where the guests are told what these posts say
abbrev pub LinksTold : {T : Type 0} → Result T Failed → List Post → List LinkState → List LinkState → Traffic → Traffic → Type 0
LinksTold result posts before after traffic traffic' =
    (guest : ℕ) → guest < length before →
    LinkTold result (link_at guest before) (link_at guest after) (replies_to guest posts) (traffic.sent guest) (traffic'.sent guest) (traffic.faults guest) (traffic'.faults guest)
