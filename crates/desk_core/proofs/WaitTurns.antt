-- A turn before which no whole unit is there.
use Rattle.std.proofs.Common.{◌≡◌, Bool, true, false, refl}
use Rattle.std.specs.Prelude.{if◌then◌else◌}
use Rattle.desk_laws.specs.Stream as stream
use Rattle.desk_laws.specs.Stream.{StreamUnit, Word, Stop, Whole, Front, Fault, Takes, front, front_of, head_fault, front_by, Cut, cut, is_greeting}
use Rattle.desk_laws.specs.Frames.{PortState}
use Rattle.desk_laws.specs.Effects.{Goes, Greets, Ends, Reads, Verdict, verdict}
use Rattle.desk_laws.specs.Scene.{Post}
use Rattle.guest_session.specs.declared.turn.Turn.TheVariants as turns
use Rattle.guest_session.specs.SessionView.{SessionView}
use Rattle.guest_session.specs.Clips.{is_clip}
use Rattle.guest_session.specs.Turns.{Turns, TakesUnit, Decides, window_of}

not-wait : (b : Bool) → turns.Wait ≡ (if b then turns.ClipWhole else turns.ClipOver) → ⊥
not-wait true e = cc
not-wait false e = cc

pub turn-waits : {O : Type 0} (takes : O → Post → O → Type 0) (out out' : O) (port port' : PortState) (old new : SessionView) (f : Front) → Turns takes out out' port port' old new turns.Wait f
    → (f ≡ stream.Wait) × (new ≡ old) × (out' ≡ out) × (port' ≡ port)
turn-waits takes out out' port port' old new stream.Wait t = (refl, t.stays.session, t.stays.silent, t.stays.unread)
turn-waits takes out out' port port' old new (Fault cause) t = let e = t.answer in absurd (cc)
turn-waits takes out out' port port' old new (Takes unit behind) t = absurd (by_clip (is_clip unit) t)
  where
    by_verdict : (v : Verdict) → Decides takes out out' port port' old new turns.Wait (window_of unit) behind v → ⊥
    by_verdict (Ends c) d = let e = d.answer in cc
    by_verdict (Greets minor answers) d = let e = d.answer in cc
    by_verdict (Goes change answers) d = let e = d.answer in cc
    by_verdict (Reads row area) d = let e = d.answer in cc

    by_clip : (b : Bool) → TakesUnit takes out out' port port' old new turns.Wait unit behind b → ⊥
    by_clip true t = not-wait _ t.answer
    by_clip false t = by_verdict (verdict old.sizes old.guest old.minor old.rows unit) t
