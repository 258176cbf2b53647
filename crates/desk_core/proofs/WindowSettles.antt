-- Focus and hover are told among the windows of a desk.
use Rattle.std.proofs.Common.{◌≡◌, ℕ, List, refl, sym, ◌∙◌, ap, subst}
use Rattle.desk_laws.specs.declared.setup.Setup.{Setup}
use Rattle.desk_laws.specs.Frames.{PortState}
use Rattle.desk_laws.specs.Scene.{Post, Scene, Seat}
use Rattle.desk_laws.specs.Settle.{IsSettled, settle}
use Rattle.desk_laws.specs.Sizes.{Sizes, sizes_of}
use Rattle.desk_laws.specs.State.{DeskState, StepOutcome}
use Rattle.desk_laws.proofs.SettleLemmas.{settle-clip}
use Rattle.desk_laws.proofs.SettledLemmas.{settle-settles}
use Rattle.io_ports.specs.Posts.{Leads}
use Rattle.clipboard_gate.specs.Kept.{GateView, keeping}
use Rattle.desk_core.specs.DeskPosts.{guest_posts}
use Rattle.desk_core.specs.Kept.{IsKept}
use Rattle.desk_core.specs.Scenes.{IsScene, Settles}
use Rattle.desk_core.specs.Settling.{HasSeat, SettlesTo}
use Rattle.desk_core.specs.WindowsStand.{StandsWith}
use Rattle.desk_core.specs.WindowsView.{WindowsView}
use Rattle.guest_session.specs.SessionView.{SessionView}
use Rattle.desk_core.proofs.EventStands.{windows-clip, windows-scene, with-scene}
use Rattle.desk_core.proofs.GuestPosts.{for_guests-settle}
use Rattle.desk_core.proofs.SceneLemmas.{kept-same}
use Rattle.desk_core.proofs.SettledScenes.{settled-scene}
use Rattle.desk_core.proofs.SettlingLemmas.{silent-state}

-- a scene with this seat in place of its own
abbrev pub seated_as : Seat → Scene → Scene
seated_as seat scene = record scene { seat = seat }

module _ {O : Type 0} (takes : O → Post → O → Type 0) (out out' : O) (windows : WindowsView) (sessions : List SessionView) (gate : GateView) (seat seat' : Seat)
    (done : (sizes : Sizes) (scene : Scene) → sizes.border ≡ windows.border → IsScene windows.sessions windows.layers seat scene → windows.gate ≡ keeping sizes.clip_limit scene.clip
    → Settles takes out out' windows.sessions sessions windows.gate gate seat' sizes scene) where
  -- on the scene of a state that they stand for
  settles-kept : (room : ℕ) (kept : IsKept room windows) → Settles takes out out' windows.sessions sessions windows.gate gate seat' (sizes_of kept.setup) (seated_as seat kept.state.scene)
  settles-kept room kept =
      let is = windows-scene kept.setup kept.held windows kept.frames kept.state kept.stands in
      done (sizes_of kept.setup) (seated_as seat kept.state.scene) (sym kept.stands.numbers.border)
      (record { has_rows = record { rows = is.has_rows.rows; owner = is.has_rows.owner; own = is.has_rows.own }; apart = is.apart; has_layers = is.has_layers; has_seat = refl; follow = is.follow })
      (windows-clip kept.setup kept.held windows kept.frames kept.state kept.stands)

  -- no session changes
  pub settles-same : (room : ℕ) → IsKept room windows → sessions ≡ windows.sessions
  settles-same room kept = (settles-kept room kept).same_sessions

  -- and neither does the clipboard
  pub settles-gate : (room : ℕ) → IsKept room windows → gate ≡ windows.gate
  settles-gate room kept = (settles-kept room kept).same_gate

  -- the windows stand for the state in which focus and hover are told
  pub settles-to : (setup : Setup) (held : ℕ → List ℕ) (frames : ℕ → PortState) (state : DeskState) → StandsWith setup held windows frames state → state.scene.seat ≡ seat
      → SettlesTo takes out out' setup held windows frames seat' state
  settles-to setup held frames state stands sits =
      let sizes = sizes_of setup in
      let own = windows-scene setup held windows frames state stands in
      let S : Seat → Type 0 = λ x. IsScene windows.sessions windows.layers x state.scene in
      let is : IsScene windows.sessions windows.layers seat state.scene = subst S sits own in
      let clip = windows-clip setup held windows frames state stands in
      let told = done sizes state.scene (sym stands.numbers.border) is clip in
      let P : List Post → Type 0 = λ ps. Leads takes out ps out' in
      record {
        stands = with-scene setup held windows windows.sessions windows.layers windows.gate (settle sizes state.scene).scene.seat frames state (settle sizes state.scene).scene
            (kept-same windows.sessions) (settled-scene sizes windows.sessions windows.layers seat state.scene is) (clip ∙ ap (keeping sizes.clip_limit) (sym (settle-clip sizes state.scene))) stands;
        seated = record { same = sym told.has_seat; settled = settle-settles sizes state.scene is.follow };
        posts = subst P (sym (for_guests-settle sizes state.scene)) told.posts;
      }

-- where they were told already there is nothing to tell
pub still-to : {O : Type 0} (takes : O → Post → O → Type 0) (out : O) (windows : WindowsView) (seat : Seat) (setup : Setup) (held : ℕ → List ℕ) (frames : ℕ → PortState) (state : DeskState)
    → StandsWith setup held windows frames state → state.scene.seat ≡ seat → IsSettled (sizes_of setup) state.scene → SettlesTo takes out out setup held windows frames seat state
still-to takes out windows seat setup held frames state stands sits settled =
    let silent = silent-state setup state settled in
    let S : StepOutcome → Type 0 = λ o. StandsWith setup held windows frames o.desk in
    let H : StepOutcome → Type 0 = λ o. HasSeat setup seat o.desk in
    let P : StepOutcome → Type 0 = λ o. Leads takes out (guest_posts o.posts) out in
    record {
      stands = subst S (sym silent) stands;
      seated = subst H (sym silent) (record { same = sits; settled = settled });
      posts = subst P (sym silent) refl;
    }
