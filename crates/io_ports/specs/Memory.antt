-- What the forms in memory hold, as contracts see them.
use Rattle.std.specs.Prelude.{◌≡◌, ◌⊎◌, ℕ, Bool, true, false, IsTrue, if◌then◌else◌, List, [], ◌∷◌, ◌++◌, map, Contains, Option, Some, None, option_map, Vec}
use Rattle.std.specs.Global.{Global}
use Rattle.desk_laws.specs.declared.cause.Cause.{Cause}
use Rattle.desk_laws.specs.Scene.{Post, Reply, Ended, Picture, Summary}
use Rattle.io_ports.specs.Counts.{one_more, faults_after}
use Rattle.io_ports.specs.Starts.{Starts}

-- what was kept, and whether it is all that was given
pub record Kept (X : Type 0) : Type 0 where
  pub items : List X
  pub is_whole : Bool

-- nothing was kept yet
abbrev pub none_kept : {X : Type 0} → Kept X
none_kept = record { items = []; is_whole = true }

-- what is kept, where it is all that was given
abbrev pub told_of : {X : Type 0} → Kept X → Option (List X)
told_of kept = if kept.is_whole then Some kept.items else None

-- these were put behind what was kept, or it isn't whole and nothing more was kept
abbrev pub KeepsMore : {X : Type 0} → Kept X → List X → Kept X → Type 0
KeepsMore old more new =
    (IsTrue old.is_whole × (new ≡ record { items = old.items ++ more; is_whole = true }))
    ⊎ (new ≡ record { items = old.items; is_whole = false })

-- the post was put behind those that were kept, or the list isn't whole and nothing more was kept
abbrev pub KeepsPost : Kept Post → Post → Kept Post → Type 0
KeepsPost old post new = KeepsMore old (post ∷ []) new

-- the numbers, from 1, of the calls that are to fail, and how many calls there were and how many failed
pub record Failing : Type 0 where
  pub numbers : List ℕ
  pub calls : ℕ
  pub faults : ℕ

-- these calls are to fail, and none was made
abbrev pub to_fail : List ℕ → Failing
to_fail numbers = record { numbers = numbers; calls = 0; faults = 0 }

-- the next call is one of those that fail
abbrev pub FailsNext : Failing → Type 0
FailsNext f = Contains f.numbers (one_more f.calls)

-- the same once a call failed or didn't
abbrev pub failing_after : Bool → Failing → Failing
failing_after failed f =
    record { numbers = f.numbers; calls = one_more f.calls; faults = faults_after failed f.faults }

-- a source in memory: the bytes that are left, and the calls that fail
pub record FailingSource : Type 0 where
  pub left : List ℕ
  pub failing : Failing

-- a sink in memory: what it kept, and the calls that fail
pub record FailingSink : Type 0 where
  pub kept : Kept ℕ
  pub failing : Failing

-- the guest and the bytes of a reply
abbrev pub reply_in : Option Post → Option (ℕ × List ℕ)
reply_in (Some (Reply guest bytes)) = Some (guest, bytes)
reply_in (Some (Ended guest cause)) = None
reply_in (Some (Picture width height colours)) = None
reply_in (Some (Summary counts)) = None
reply_in None = None

-- the guest whose session ended, and why
abbrev pub ended_in : Option Post → Option (ℕ × Cause)
ended_in (Some (Reply guest bytes)) = None
ended_in (Some (Ended guest cause)) = Some (guest, cause)
ended_in (Some (Picture width height colours)) = None
ended_in (Some (Summary counts)) = None
ended_in None = None

-- the starts with these names, of which this one was the last that succeeded, where they are all
abbrev pub told_starts : Bool → List (Vec ℕ Global) → Option (Vec ℕ Global) → Option Starts
told_starts is_whole names running =
    if is_whole then Some (record { names = map (λ name. name.items) names; running = option_map (λ name. name.items) running }) else None

-- a journal in memory: a sink, and the starts that it tells
pub record FailingJournal : Type 0 where
  pub sink : FailingSink
  pub starts : Option Starts

-- a journal in memory that never fails
pub record SureJournalView : Type 0 where
  pub kept : Kept ℕ
  pub starts : Option Starts
