-- A unit makes what is held shorter.
use Rattle.std.proofs.Common.{◌≡◌, ℕ, ◌+◌, Bool, true, false, length, drop, take, List, ◌++◌, Option, ◌∙◌, ap, arith, ◌<◌, length-append, length-take, length-drop}
use Rattle.gui_num.specs.declared.Rect.{Rect}
use Rattle.desk_laws.specs.Stream as stream
use Rattle.desk_laws.specs.Stream.{StreamUnit, Word, Stop, Whole, Front, Fault, Takes, front, front_of, head_fault, front_by, Cut, cut, is_greeting}
use Rattle.desk_laws.specs.Frames.{PortState}
use Rattle.desk_laws.specs.Effects.{Goes, Greets, Ends, Reads, Verdict, verdict}
use Rattle.desk_laws.specs.Scene.{Post}
use Rattle.desk_laws.proofs.Cutting.{front_by-shorter}
use Rattle.in_stream.specs.Received.{Received, StandsFor}
use Rattle.guest_session.specs.declared.turn.Turn.TheVariants as turns
use Rattle.guest_session.specs.SessionView.{SessionView}
use Rattle.guest_session.specs.Clips.{is_clip}
use Rattle.guest_session.specs.Turns.{Turns, TakesUnit, Decides, window_of}
use Rattle.desk_core.proofs.ChangedTurns.{not-changed-clip}

pub held-long : (s : Received) (rest : List ℕ) → StandsFor s rest → length rest ≡ length s.held + s.skipped
held-long s rest stands =
    ap length stands.rest_is
    ∙ omega (arith, length-append (take 12 s.held) (stands.passed ++ drop 12 s.held), length-append stands.passed (drop 12 s.held), length-take 12 s.held, length-drop 12 s.held, stands.as_many)

pub shorter-behind : (old new : Received) (held behind : List ℕ) (unit : StreamUnit) → StandsFor old held → StandsFor new behind → front old.greeted held ≡ Takes unit behind
    → length new.held + new.skipped < length old.held + old.skipped
shorter-behind old new held behind unit before after is =
    omega (arith, held-long old held before, held-long new behind after, front_by-shorter head_fault old.greeted held unit behind is)

pub turn-shorter : {O : Type 0} (takes : O → Post → O → Type 0) (out out' : O) (port port' : PortState) (old new : SessionView) (window : ℕ) (drawn : Option Rect) (held : List ℕ) (f : Front)
    → StandsFor old.stream held → front old.stream.greeted held ≡ f → Turns takes out out' port port' old new (turns.Changed window drawn) f
    → length new.stream.held + new.stream.skipped < length old.stream.held + old.stream.skipped
turn-shorter takes out out' port port' old new window drawn held stream.Wait holds is t = let e = t.answer in absurd (cc)
turn-shorter takes out out' port port' old new window drawn held (Fault cause) holds is t = let e = t.answer in absurd (cc)
turn-shorter takes out out' port port' old new window drawn held (Takes unit behind) holds is t = by_clip (is_clip unit) t
  where
    by_verdict : (v : Verdict) → Decides takes out out' port port' old new (turns.Changed window drawn) (window_of unit) behind v → length new.stream.held + new.stream.skipped < length old.stream.held + old.stream.skipped
    by_verdict (Ends c) d = let e = d.answer in absurd (cc)
    by_verdict (Greets minor answers) d = shorter-behind old.stream new.stream held behind unit holds d.stands is
    by_verdict (Goes change answers) d = shorter-behind old.stream new.stream held behind unit holds d.stands is
    by_verdict (Reads row area) d = shorter-behind old.stream new.stream held behind unit holds d.stands is

    by_clip : (b : Bool) → TakesUnit takes out out' port port' old new (turns.Changed window drawn) unit behind b → length new.stream.held + new.stream.skipped < length old.stream.held + old.stream.skipped
    by_clip true t = absurd (not-changed-clip window drawn _ t.answer)
    by_clip false t = by_verdict (verdict old.sizes old.guest old.minor old.rows unit) t
