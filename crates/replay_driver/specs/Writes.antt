-- What a writer wrote that stops at the first failure.
use Rattle.std.specs.Prelude.{◌≡◌, ◌≤◌, ℕ, List, Bool, true, false, Option}
use Rattle.io_ports.specs.Content.{Grows, GrowsPart}
use Rattle.io_ports.specs.Counts.{Rose}

-- Whether it had failed before and has after, and the bytes: all were written, or a part of them where
-- it failed, or nothing where it had failed.
abbrev pub Writes : Bool → Bool → List ℕ → Option (List ℕ) → Option (List ℕ) → Type 0
Writes true failed bytes before after = (failed ≡ true) × (after ≡ before)
Writes false false bytes before after = Grows before bytes after
Writes false true bytes before after = GrowsPart before bytes after

-- It fails only where the count of faults rose.
abbrev pub FailsBy : Bool → Bool → ℕ → ℕ → Type 0
FailsBy false true before after = Rose before after
FailsBy had failed before after = Unit {0}

-- One writer leads to another: the sink is the same one, and these bytes went to it.
pub record WritesOn (had failed : Bool) (bytes : List ℕ) (before after : Option (List ℕ)) (faults faults' : ℕ) (keeps : Type 0) : Type 0 where
  pub writes : Writes had failed bytes before after
  pub fails : FailsBy had failed faults faults'
  pub later : faults ≤ faults'
  pub keeps_sink : keeps
