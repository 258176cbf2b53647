-- Clipboard data at the front of what a session holds.
use Rattle.std.specs.Prelude.{◌≡◌, ℕ, ◌≤◌, Bool, false, ◌==◌, List, [], length}
use Rattle.gui_wire.specs.declared.Header.{Header}
use Rattle.desk_laws.specs.Stream.{StreamUnit, Word, Stop, Whole, Takes, front}
use Rattle.in_stream.specs.Received.{Received, StandsFor}

-- the bytes begin with this clipboard message
pub record BeginsWithClip (stream : Received) (header : Header) (body : List ℕ) : Type 0 where
  pub rest : List ℕ
  pub behind : List ℕ
  pub stands : StandsFor stream rest
  pub takes : front stream.greeted rest ≡ Takes (Whole header body) behind
  pub clip : header.kind ≡ 140

-- clipboard data stands in front, as `turn` answers by ClipWhole or ClipOver
abbrev pub HasClip : Received → Type 0
HasClip stream = (header : Header) × ((body : List ℕ) × BeginsWithClip stream header body)

-- clipboard data whose body is kept, under this limit, stands in front, as `turn` answers by ClipWhole
abbrev pub HasKeptClip : ℕ → Received → Type 0
HasKeptClip limit stream = (header : Header) × ((body : List ℕ) × (BeginsWithClip stream header body × (length body ≤ limit)))

-- whether a unit is clipboard data
abbrev pub is_clip : StreamUnit → Bool
is_clip (Word word) = false
is_clip (Stop cause) = false
is_clip (Whole header body) = header.kind == 140

-- the body of a unit
abbrev pub body_in : StreamUnit → List ℕ
body_in (Word word) = []
body_in (Stop cause) = []
body_in (Whole header body) = body
