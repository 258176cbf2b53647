-- What an input that is granted to a guest can carry: what the user did, where the guest's own window lies and whether
-- it has the focus, and pasted bytes.
use Rattle.std.specs.Prelude.{◌≡◌, ℕ, ℤ, Bool, true, false, List, [], ◌∷◌, ◌++◌, Option, Some, None, is_some}
use Rattle.std.specs.List.{All, Any}
use Rattle.gui_num.specs.declared.Rect.{Rect}
use Rattle.desk_laws.specs.declared.row_id.RowId.{RowId}
use Rattle.desk_laws.specs.declared.setup.Setup.{Setup}
use Rattle.desk_laws.specs.declared.setup.Pair.{Pair}
use Rattle.desk_laws.specs.declared.cause.Cause.{Cause}
use Rattle.desk_laws.specs.declared.cause.Cause.TheVariants.{StreamEnded, LinkFailed}
use Rattle.desk_laws.specs.declared.item.Item.{Item}
use Rattle.desk_laws.specs.declared.item.Item.TheVariants as item
use Rattle.desk_laws.specs.declared.input.GIn.{GIn}
use Rattle.desk_laws.specs.declared.input.GIn.TheVariants as g
use Rattle.desk_laws.specs.Stream.{StreamUnit, Cut, cut}
use Rattle.desk_laws.specs.Rows.{Row, row_at}
use Rattle.desk_laws.specs.Effects.{Effect}
use Rattle.desk_laws.specs.Grants.{window_of}
use Rattle.desk_laws.specs.Sizes.{sizes_of}
use Rattle.desk_laws.specs.Pairs.{denies}
use Rattle.desk_laws.specs.Clipboard.{Content}
use Rattle.desk_laws.specs.Scene.{Scene, Input, Took, Given, Closing, Losing, GuestInput, perform}
use Rattle.desk_laws.specs.State.{DeskState, session_of}
use Rattle.desk_laws.specs.Settle.{focus_now, pointer_in, same_id}
use Rattle.desk_laws.specs.Events.{route, is_chord, with_pointer, move_to, size_to}
use Rattle.desk_laws.specs.Steps.{step, unit_effect, unit_told, end_told, take_unit, with_rest, count_of}

-- ---- what one input carries

-- the id of a guest's window
abbrev pub row_of : ℕ → ℕ → RowId
row_of guest window = record { guest = guest; window = window }

-- the scene with the pointer at this pixel
abbrev pub pointed_at : ℤ → ℤ → Scene → Scene
pointed_at x y scene = record scene { seat = with_pointer (record { x = x; y = y }) scene.seat }

-- these are the pointer's coordinates from the corner of the window's place
pub record IsPointerIn (guest window : ℕ) (scene : Scene) (x y : ℤ) : Type 0 where
  pub x_is : x ≡ (pointer_in (row_of guest window) scene).x
  pub y_is : y ≡ (pointer_in (row_of guest window) scene).y

-- the place that a command asks for, from the place that there was
abbrev pub IsPlaceBy : Item → Rect → Rect → Type 0
IsPlaceBy (item.MoveTo x y) old new = new ≡ move_to x y old
IsPlaceBy (item.SizeTo w h) old new = new ≡ size_to w h old
IsPlaceBy i old new = ⊥

-- the row that gained the focus has it, and the one that lost it is the one that was last told to have it
abbrev pub IsFocusOf : Bool → Scene → RowId → Type 0
IsFocusOf true scene id = focus_now scene ≡ Some id
IsFocusOf false scene id = scene.seat.focus ≡ Some id

-- a chord's key with the focus on the row
pub record IsChordFor (i : Item) (code : ℕ) (scene : Scene) (id : RowId) : Type 0 where
  pub state : ℕ
  pub key : i ≡ item.Key true code state
  pub chord : is_chord state ≡ true
  pub focus : focus_now scene ≡ Some id

-- what each granted input carries: of the item, of the pointer and the focus, of the window's own place
abbrev pub IsCarried : Item → Scene → ℕ → GIn → Type 0
IsCarried i scene guest (g.Key window down code state) =
    (i ≡ item.Key down code state) × (focus_now scene ≡ Some (row_of guest window))
IsCarried i scene guest (g.Button window down x y state button) =
    (i ≡ item.Press down button state) × IsPointerIn guest window scene x y
IsCarried i scene guest (g.Motion window x y state) =
    (px : ℤ) × (py : ℤ) × (i ≡ item.Move px py state) × IsPointerIn guest window (pointed_at px py scene) x y
IsCarried i scene guest (g.Crossing window enter x y focus) =
    IsPointerIn guest window scene x y × (focus ≡ same_id (Some (row_of guest window)) (focus_now scene))
IsCarried i scene guest (g.Focus window gained) = IsFocusOf gained scene (row_of guest window)
IsCarried i scene guest g.Keymap = (window : ℕ) × (focus_now scene ≡ Some (row_of guest window))
IsCarried i scene guest (g.Close window) = (i ≡ item.Close) × (focus_now scene ≡ Some (row_of guest window))
IsCarried i scene guest (g.Place window rect) =
    (row : Row) × (row_at (row_of guest window) scene.rows ≡ Some row) × IsPlaceBy i row.place rect
IsCarried i scene guest (g.Restored window) = i ≡ item.Restore
IsCarried i scene guest (g.ClipAsk window) = IsChordFor i 54 scene (row_of guest window)
IsCarried i scene guest (g.ClipGive window) = IsChordFor i 55 scene (row_of guest window)

-- a paste has the bytes of the clipboard beside it, whose source and the guest aren't a denied pair, and no other
-- input has any
abbrev pub IsBeside : List Pair → Scene → ℕ → GIn → List ℕ → Type 0
IsBeside denied scene guest (g.ClipGive window) paste =
    (content : Content) × (scene.clip.content ≡ Some content) × (paste ≡ content.bytes)
    × (denies denied content.source guest ≡ false)
IsBeside denied scene guest input paste = paste ≡ []

-- an input that is granted to a guest at an item, while this is on the desktop: it names a window of the guest
-- or none, and carries no more than the item, the pointer, the focus and the window's own place tell, and what the
-- clipboard holds where no denied pair forbids it
pub record IsGrantedAt (denied : List Pair) (i : Item) (scene : Scene) (guest : ℕ) (input : GIn) (paste : List ℕ) : Type 0 where
  pub there : (window : ℕ) → window_of input ≡ Some window → is_some (row_at (row_of guest window) scene.rows) ≡ true
  pub carried : IsCarried i scene guest input
  pub beside : IsBeside denied scene guest input paste

-- ---- the moments of a step

-- what is on the desktop once a unit was taken, before anything is granted
abbrev pub unit_moment : Setup → ℕ → StreamUnit → Effect → Option Cause → Scene → Scene
unit_moment setup guest unit e None scene = (unit_told (sizes_of setup).clip_limit guest unit e scene).scene
unit_moment setup guest unit e (Some cause) scene = (end_told guest (Took unit) cause scene).scene

-- the moment of a unit, unless the session has ended
abbrev pub unit_moments : Setup → ℕ → StreamUnit → Option Cause → DeskState → List Scene
unit_moments setup guest unit (Some cause) desk = []
unit_moments setup guest unit None desk =
    unit_moment setup guest unit (unit_effect setup guest unit desk) (unit_effect setup guest unit desk).cause desk.scene ∷ []

-- the moments of units
abbrev pub moments_of_units : Setup → ℕ → List StreamUnit → DeskState → List Scene
moments_of_units setup guest [] desk = []
moments_of_units setup guest (unit ∷ units) desk =
    unit_moments setup guest unit (session_of guest desk).ended desk
    ++ moments_of_units setup guest units (take_unit setup guest unit desk).desk

-- the moments of a cut
abbrev pub moments_of_cut : Setup → ℕ → Cut → DeskState → List Scene
moments_of_cut setup guest c desk = moments_of_units setup guest c.units (with_rest guest c.rest desk)

-- the moments of a piece, unless the session has ended
abbrev pub bytes_moments : Setup → ℕ → List ℕ → Option Cause → DeskState → List Scene
bytes_moments setup guest piece (Some cause) desk = []
bytes_moments setup guest piece None desk =
    moments_of_cut setup guest (cut (session_of guest desk).greeted ((session_of guest desk).rest ++ piece)) desk

-- the moment of an end, unless the session has ended
abbrev pub end_moments : ℕ → Input → Cause → Option Cause → Scene → List Scene
end_moments guest input cause (Some ended) scene = []
end_moments guest input cause None scene = (end_told guest input cause scene).scene ∷ []

-- what is on the desktop at each time at which a step grants inputs: of a user's event, before it and before settle
abbrev pub moments : Setup → Item → List ℕ → DeskState → List Scene
moments setup (item.Bytes guest) piece desk = bytes_moments setup guest piece (session_of guest desk).ended desk
moments setup (item.Closed guest) piece desk =
    end_moments guest Closing (StreamEnded 0 0) (session_of guest desk).ended desk.scene
moments setup (item.Store guest delay page offset) piece desk = []
moments setup item.Snap piece desk = []
moments setup item.End piece desk = []
moments setup (item.Lost guest) piece desk =
    end_moments guest Losing (LinkFailed 0 0) (session_of guest desk).ended desk.scene
moments setup item.Idle piece desk = []
moments setup i piece desk = desk.scene ∷ (perform setup.denied (route setup i desk.scene) desk.scene).scene ∷ []

-- ---- the law

-- an input that reached a guest, if it is a granted one
abbrev pub IfGiven : (ℕ → GIn → List ℕ → Type 0) → ℕ → Input → Type 0
IfGiven P guest (Took unit) = Unit {0}
IfGiven P guest (Given input paste) = P guest input paste
IfGiven P guest Closing = Unit {0}
IfGiven P guest Losing = Unit {0}

-- if it is a granted one, it is granted at one of these moments
abbrev pub IsGrantedAmong : List Pair → Item → List Scene → GuestInput → Type 0
IsGrantedAmong denied i scenes t =
    IfGiven (λ guest input paste. Any (λ scene. IsGrantedAt denied i scene guest input paste) scenes) t.guest t.input

-- each input that a step grants is granted at one of its moments
abbrev pub GrantsCarryNoMore : Type 0
GrantsCarryNoMore =
    (setup : Setup) (i : Item) (piece : List ℕ) (state : DeskState) →
    All (IsGrantedAmong setup.denied i (moments setup i piece (count_of i state))) (step setup i piece state).inputs
