-- What is granted by a step.
use Rattle.std.proofs.Common.{ℕ, zero, suc, List, [], ◌∷◌, ◌++◌, Option, Some, None, refl, arith}
use Rattle.std.specs.List.{All, Any}
use Rattle.std.proofs.lemmas.List.Elements.{All-nil, All-cons}
use Rattle.desk_laws.specs.declared.setup.Setup.{Setup}
use Rattle.desk_laws.specs.declared.setup.Pair.{Pair}
use Rattle.desk_laws.specs.declared.cause.Cause.{Cause}
use Rattle.desk_laws.specs.declared.cause.Cause.TheVariants.{StreamEnded, LinkFailed}
use Rattle.desk_laws.specs.declared.item.Item.{Item}
use Rattle.desk_laws.specs.declared.item.Item.TheVariants as item
use Rattle.desk_laws.specs.declared.input.GIn.{GIn}
use Rattle.desk_laws.specs.Sizes.{Sizes, sizes_of}
use Rattle.desk_laws.specs.Stream.{StreamUnit, Cut, cut}
use Rattle.desk_laws.specs.Effects.{Effect}
use Rattle.desk_laws.specs.Scene.{Scene, SceneOutcome, Input, Took, Closing, Losing, GuestInput, perform}
use Rattle.desk_laws.specs.State.{DeskState, StepOutcome, session_of, count_item}
use Rattle.desk_laws.specs.Settle.{settle}
use Rattle.desk_laws.specs.Events.{route}
use Rattle.desk_laws.specs.Steps.{event, take_unit, take_units, unit_of_open, unit_done, unit_effect, unit_told, end_told, with_rest, bytes_of_open, end_of_open, store_of_open}
use Rattle.run_laws.specs.GrantedContent.{IsGrantedAt, IsGrantedAmong, IfGiven, unit_moment, unit_moments, moments_of_units, bytes_moments, end_moments, GrantsCarryNoMore}
use Rattle.run_laws.proofs.GrantLemmas.{AllGiven, given-append, given-weaker, given-one, given-settle}
use Rattle.run_laws.proofs.GrantedEvents.{fits-route}

-- ---- one of some moments

-- the first
any-head : (P : Scene → Type 0) (x : Scene) (xs : List Scene) → P x → Any P (x ∷ xs)
any-head P x xs p = (0, x, omega arith, refl, p)

-- one of the others
any-tail : (P : Scene → Type 0) (x : Scene) (xs : List Scene) → Any P xs → Any P (x ∷ xs)
any-tail P x xs a = (suc a.0, a.1, omega (arith, a.2), a.3, a.4)

-- one of the first ones
any-left : (P : Scene → Type 0) (xs ys : List Scene) → Any P xs → Any P (xs ++ ys)
any-left P [] ys (k, e, l, is, p) = absurd (omega (arith, l))
any-left P (x ∷ xs) ys (zero, e, l, is, p) = (0, e, omega arith, is, p)
any-left P (x ∷ xs) ys (suc k, e, l, is, p) = any-tail P x (xs ++ ys) (any-left P xs ys (k, e, omega (arith, l), is, p))

-- one of those behind them
any-right : (P : Scene → Type 0) (xs ys : List Scene) → Any P ys → Any P (xs ++ ys)
any-right P [] ys a = a
any-right P (x ∷ xs) ys a = any-tail P x (xs ++ ys) (any-right P xs ys a)

-- ---- the inputs of a step

-- this input is granted at one of these moments
abbrev IsAmong : List Pair → Item → List Scene → ℕ → GIn → List ℕ → Type 0
IsAmong denied i scenes guest input paste = Any (λ scene. IsGrantedAt denied i scene guest input paste) scenes

-- each of these inputs is
abbrev GivenAmong : List Pair → Item → List Scene → List GuestInput → Type 0
GivenAmong denied i scenes told = All (IsGrantedAmong denied i scenes) told

-- granted at the first moment
given-here : (denied : List Pair) (i : Item) (at : Scene) (scenes : List Scene) (told : List GuestInput) → AllGiven (IsGrantedAt denied i at) told → GivenAmong denied i (at ∷ scenes) told
given-here denied i at scenes told all =
    given-weaker (IsGrantedAt denied i at) (IsAmong denied i (at ∷ scenes))
    (λ guest input paste p. any-head (λ scene. IsGrantedAt denied i scene guest input paste) at scenes p) told all

-- with more moments behind
given-left : (denied : List Pair) (i : Item) (xs ys : List Scene) (told : List GuestInput) → GivenAmong denied i xs told → GivenAmong denied i (xs ++ ys) told
given-left denied i xs ys told all =
    given-weaker (IsAmong denied i xs) (IsAmong denied i (xs ++ ys))
    (λ guest input paste p. any-left (λ scene. IsGrantedAt denied i scene guest input paste) xs ys p) told all

-- with more moments before
given-right : (denied : List Pair) (i : Item) (xs ys : List Scene) (told : List GuestInput) → GivenAmong denied i ys told → GivenAmong denied i (xs ++ ys) told
given-right denied i xs ys told all =
    given-weaker (IsAmong denied i ys) (IsAmong denied i (xs ++ ys))
    (λ guest input paste p. any-right (λ scene. IsGrantedAt denied i scene guest input paste) xs ys p) told all

-- nothing is granted
given-nothing : (denied : List Pair) (i : Item) (scenes : List Scene) → GivenAmong denied i scenes []
given-nothing denied i scenes = All-nil (IsGrantedAmong denied i scenes)

-- an input that isn't a granted one, and what settle grants behind it
given-told : (denied : List Pair) (i : Item) (guest : ℕ) (input : Input) → ((P : ℕ → GIn → List ℕ → Type 0) → IfGiven P guest input) → (sizes : Sizes) (at : Scene)
    → GivenAmong denied i (at ∷ []) (record { guest = guest; input = input } ∷ (settle sizes at).inputs)
given-told denied i guest input plain sizes at =
    All-cons (IsGrantedAmong denied i (at ∷ [])) (record { guest = guest; input = input }) (settle sizes at).inputs
    (plain (IsAmong denied i (at ∷ [])))
    (given-here denied i at [] (settle sizes at).inputs (given-settle denied i at sizes))

-- an event of the user
given-event : (setup : Setup) (i : Item) (desk : DeskState)
    → GivenAmong setup.denied i (desk.scene ∷ (perform setup.denied (route setup i desk.scene) desk.scene).scene ∷ []) (event setup i desk).inputs
given-event setup i desk =
    let acted : SceneOutcome = perform setup.denied (route setup i desk.scene) desk.scene in
    given-append (IsAmong setup.denied i (desk.scene ∷ acted.scene ∷ [])) acted.inputs (settle (sizes_of setup) acted.scene).inputs
    (given-here setup.denied i desk.scene (acted.scene ∷ []) acted.inputs (given-one setup.denied i desk.scene (route setup i desk.scene) (fits-route setup desk.scene i)))
    (given-right setup.denied i (desk.scene ∷ []) (acted.scene ∷ []) (settle (sizes_of setup) acted.scene).inputs
    (given-here setup.denied i acted.scene [] (settle (sizes_of setup) acted.scene).inputs (given-settle setup.denied i acted.scene (sizes_of setup))))

-- an end of a session, unless it has ended
given-end : (setup : Setup) (i : Item) (guest : ℕ) (input : Input) → ((P : ℕ → GIn → List ℕ → Type 0) → IfGiven P guest input)
    → (cause : Cause) (desk : DeskState) (ended : Option Cause)
    → GivenAmong setup.denied i (end_moments guest input cause ended desk.scene) (end_of_open setup guest input cause ended desk).inputs
given-end setup i guest input plain cause desk (Some c) = given-nothing setup.denied i []
given-end setup i guest input plain cause desk None =
    given-told setup.denied i guest input plain (sizes_of setup) (end_told guest input cause desk.scene).scene

module _ (setup : Setup) (i : Item) (guest : ℕ) where
  -- a unit, whether it ended the session or not
  given-unit : (unit : StreamUnit) (desk : DeskState) (e : Effect) (cause : Option Cause)
      → GivenAmong setup.denied i (unit_moment setup guest unit e cause desk.scene ∷ []) (unit_done setup guest unit e cause desk).inputs
  given-unit unit desk e None = given-told setup.denied i guest (Took unit) (λ P. tt) (sizes_of setup) (unit_told (sizes_of setup).clip_limit guest unit e desk.scene).scene
  given-unit unit desk e (Some cause) = given-told setup.denied i guest (Took unit) (λ P. tt) (sizes_of setup) (end_told guest (Took unit) cause desk.scene).scene

  -- a unit, unless the session has ended
  given-unit_by : (unit : StreamUnit) (desk : DeskState) (ended : Option Cause)
      → GivenAmong setup.denied i (unit_moments setup guest unit ended desk) (unit_of_open setup guest unit ended desk).inputs
  given-unit_by unit desk (Some cause) = given-nothing setup.denied i []
  given-unit_by unit desk None = given-unit unit desk (unit_effect setup guest unit desk) (unit_effect setup guest unit desk).cause

  -- units
  given-units : (units : List StreamUnit) (desk : DeskState) → GivenAmong setup.denied i (moments_of_units setup guest units desk) (take_units setup guest units desk).inputs
  given-units [] desk = given-nothing setup.denied i []
  given-units (unit ∷ units) desk =
      let first : StepOutcome = take_unit setup guest unit desk in
      let here : List Scene = unit_moments setup guest unit (session_of guest desk).ended desk in
      let later : List Scene = moments_of_units setup guest units first.desk in
      given-append (IsAmong setup.denied i (here ++ later)) first.inputs (take_units setup guest units first.desk).inputs
      (given-left setup.denied i here later first.inputs (given-unit_by unit desk (session_of guest desk).ended))
      (given-right setup.denied i here later (take_units setup guest units first.desk).inputs (given-units units first.desk))

  -- a piece of bytes, unless the session has ended
  given-bytes : (piece : List ℕ) (desk : DeskState) (ended : Option Cause)
      → GivenAmong setup.denied i (bytes_moments setup guest piece ended desk) (bytes_of_open setup guest piece ended desk).inputs
  given-bytes piece desk (Some cause) = given-nothing setup.denied i []
  given-bytes piece desk None =
      let c : Cut = cut (session_of guest desk).greeted ((session_of guest desk).rest ++ piece) in
      given-units c.units (with_rest guest c.rest desk)

-- a change of a guest's frames
given-store : (denied : List Pair) (i : Item) (guest delay page offset : ℕ) (bytes : List ℕ) (desk : DeskState) (ended : Option Cause)
    → GivenAmong denied i [] (store_of_open guest delay page offset bytes ended desk).inputs
given-store denied i guest delay page offset bytes desk (Some cause) = given-nothing denied i []
given-store denied i guest delay page offset bytes desk None = given-nothing denied i []

-- each input that a step grants carries no more than it may
pub grants-carry_no_more : GrantsCarryNoMore
grants-carry_no_more setup (item.Bytes guest) piece desk =
    given-bytes setup (item.Bytes guest) guest piece (count_item desk) (session_of guest desk).ended
grants-carry_no_more setup (item.Closed guest) piece desk =
    given-end setup (item.Closed guest) guest Closing (λ P. tt) (StreamEnded 0 0) (count_item desk) (session_of guest desk).ended
grants-carry_no_more setup (item.Store guest delay page offset) piece desk =
    given-store setup.denied (item.Store guest delay page offset) guest delay page offset piece (count_item desk) (session_of guest desk).ended
grants-carry_no_more setup (item.Lost guest) piece desk =
    given-end setup (item.Lost guest) guest Losing (λ P. tt) (LinkFailed 0 0) (count_item desk) (session_of guest desk).ended
grants-carry_no_more setup item.Snap piece desk = given-nothing setup.denied item.Snap []
grants-carry_no_more setup item.End piece desk = given-nothing setup.denied item.End []
grants-carry_no_more setup item.Idle piece desk = given-nothing setup.denied item.Idle []
grants-carry_no_more setup i piece desk = given-event setup i (count_item desk)
