-- What a send to a guest does.
use Rattle.std.specs.Prelude.{◌≡◌, ◌<◌, ◌≤◌, ℕ, List, length, take, Option, Result, Ok, Err}
use Rattle.io_ports.specs.declared.link.SendFailed.{SendFailed}
use Rattle.io_ports.specs.Content.{Grows}
use Rattle.io_ports.specs.Counts.{Rose}

-- what each guest was sent, where that is told, and how often a send to it failed
pub record Traffic : Type 0 where
  pub sent : ℕ → Option (List ℕ)
  pub faults : ℕ → ℕ

-- All the bytes were sent behind what this guest was sent before, and no fault was counted; or some fault was, and the
-- first of the bytes were sent, but not all of them.
abbrev pub SendsBytes : {T : Type 0} → List ℕ → Result T SendFailed → Option (List ℕ) → Option (List ℕ) → ℕ → ℕ → Type 0
SendsBytes bytes (Ok done) before after faults faults' = Grows before bytes after × (faults' ≡ faults)
SendsBytes bytes (Err e) before after faults faults' =
    (e.sent < length bytes) × Grows before (take e.sent bytes) after × (faults ≤ faults') × Rose faults faults'

-- what other guests were sent, and their counts, are as they were
abbrev pub LeavesOthers : ℕ → Traffic → Traffic → Type 0
LeavesOthers guest before after =
    (other : ℕ) → (other ≡ guest → ⊥) → (after.sent other ≡ before.sent other) × (after.faults other ≡ before.faults other)

-- a send of these bytes to this guest
pub record Sends {T : Type 0} (guest : ℕ) (bytes : List ℕ) (result : Result T SendFailed) (before after : Traffic) : Type 0 where
  pub to_guest : SendsBytes bytes result (before.sent guest) (after.sent guest) (before.faults guest) (after.faults guest)
  pub others : LeavesOthers guest before after
