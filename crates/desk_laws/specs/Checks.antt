-- The first cause that a message has by itself and by its guest's rows, before anything is read.
use Rattle.std.specs.Prelude.{ℕ, ◌≡◌, ◌+◌, ◌≤◌, List, [], ◌∷◌, length, Option, Some, None, is_some}
use Rattle.gui_wire.specs.declared.Header.{Header}
use Rattle.gui_wire.specs.AgentMessages as agent
use Rattle.gui_wire.specs.AgentMessages.{AgentMessage}
use Rattle.desk_laws.specs.declared.cause.Cause.{Cause}
use Rattle.desk_laws.specs.Causes.{number_of}
use Rattle.desk_laws.specs.Sizes.{Sizes}
use Rattle.desk_laws.specs.Rows.{Row, row_with}
use Rattle.desk_laws.specs.Effects.{range_fault, first_of_causes, unknown, exists_already, too_many, bad_ref, over_budget, refs_besides, message_verdict, Ends}

-- what is wrong with a message among its guest's rows: its window, then its references
abbrev pub rows_fault : ℕ → List Row → ℕ → AgentMessage → Option Cause
rows_fault pages own window (agent.Create x y width height parent override_redirect) =
    first_of_causes (exists_already (row_with window own) window ∷ too_many own window ∷ [])
rows_fault pages own window (agent.ClipData bytes) = None
rows_fault pages own window (agent.WindowDump kind width height bpp refs) =
    first_of_causes (unknown (row_with window own) window
    ∷ bad_ref pages refs
    ∷ over_budget (refs_besides window own + length refs) pages ∷ [])
rows_fault pages own window m = unknown (row_with window own) window

-- the first cause of a message: its ranges first, then its guest's rows
abbrev pub first_cause : ℕ → List Row → Header → AgentMessage → Option Cause
first_cause pages own header m =
    first_of_causes (range_fault header.window header.len m ∷ rows_fault pages own header.window m ∷ [])

-- a cause that a message has by itself or by its guest's rows: of lengths, ranges, windows and references
pub record IsChecked (cause : Cause) : Type 0 where
  pub from : 3 ≤ number_of cause
  pub to : number_of cause ≤ 9

-- the first cause is that of the message's verdict; without one, no verdict has such a cause
pub record FirstCauseEnds (sizes : Sizes) (guest minor : ℕ) (own : List Row) (header : Header) (m : AgentMessage) : Type 0 where
  pub ends : (cause : Cause) → first_cause sizes.pages own header m ≡ Some cause →
      message_verdict sizes guest minor own header (Some m) ≡ Ends cause
  pub checked : (cause : Cause) → first_cause sizes.pages own header m ≡ Some cause → IsChecked cause
  pub found : (cause : Cause) → IsChecked cause → message_verdict sizes guest minor own header (Some m) ≡ Ends cause →
      first_cause sizes.pages own header m ≡ Some cause

-- what is checked first is what the definitions of the messages end a session for
abbrev pub FirstCauseIsTheVerdicts : Type 0
FirstCauseIsTheVerdicts =
    (sizes : Sizes) (guest minor : ℕ) (own : List Row) (header : Header) (m : AgentMessage) →
    FirstCauseEnds sizes guest minor own header m

-- two lists of rows with the same windows, the same number of rows and the same references
pub record LooksSame (own other : List Row) : Type 0 where
  pub known : (window : ℕ) → is_some (row_with window own) ≡ is_some (row_with window other)
  pub count : length own ≡ length other
  pub refs : (window : ℕ) → refs_besides window own ≡ refs_besides window other

-- the first cause asks nothing else of the rows, such as their order
abbrev pub FirstCauseAsksLittle : Type 0
FirstCauseAsksLittle =
    (pages : ℕ) (own other : List Row) → LooksSame own other →
    (header : Header) (m : AgentMessage) → first_cause pages own header m ≡ first_cause pages other header m
