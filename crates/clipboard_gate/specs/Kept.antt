-- What the clipboard's store is seen as, and which bytes it keeps.
use Rattle.std.specs.Prelude.{◌≡◌, ℕ, ◌-◌, ◌≤◌, List, [], ◌++◌, length, take, replicate, Option, Some, None, if◌then◌else◌}
use Rattle.desk_laws.specs.Clipboard.{Clip, Content, empty_clip, is_asked}

-- a store: the most bytes that it holds, the clipboard, all bytes of the block that its data stands in, and how
-- many of these, from the first one on, are data
pub record GateView : Type 0 where
  pub limit : ℕ
  pub clip : Clip
  pub kept : List ℕ
  pub len : ℕ

-- the data that is held, or no bytes
abbrev pub data_of : Option Content → List ℕ
data_of None = []
data_of (Some content) = content.bytes

-- data, and zeros behind it up to the end of a block
abbrev pub padded : ℕ → List ℕ → List ℕ
padded limit bytes = bytes ++ replicate (limit - length bytes) 0

-- the one store that holds this clipboard: in the whole block there is nothing besides the data
abbrev pub keeping : ℕ → Clip → GateView
keeping limit clip = record {
  limit = limit;
  clip = clip;
  kept = padded limit (data_of clip.content);
  len = length (data_of clip.content);
}

-- what is held in a block, by the guest that it is from, if anything is held, and its length
abbrev pub content_in : Option ℕ → ℕ → List ℕ → Option Content
content_in None len kept = None
content_in (Some source) len kept = Some (record { source = source; bytes = take len kept })

-- a block has the data of a content, and nothing else
pub record IsKept (content : Option Content) (len : ℕ) (kept : List ℕ) : Type 0 where
  pub fits : len ≤ length kept
  pub len_is : len ≡ length (data_of content)
  pub kept_is : kept ≡ padded (length kept) (data_of content)

-- data of a guest that is too long to be held: the question is answered, and what was held is gone
abbrev pub overrun : ℕ → Clip → Clip
overrun guest clip = if is_asked clip.asked guest then empty_clip else clip
