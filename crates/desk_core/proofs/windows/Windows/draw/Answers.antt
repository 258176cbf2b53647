use Rattle.std.proofs.Common.{◌≡◌, ◌∙◌, ℕ, List, length, map, ap, subst, arith}
use Rattle.gui_num.specs.declared.Colour.{Colour}
use Rattle.compositor.specs.Composed.{all_pixels, shown_at}
use Rattle.desk_laws.specs.declared.setup.Setup.{Setup}
use Rattle.desk_laws.specs.Frames.{PortState}
use Rattle.desk_laws.specs.State.{DeskState}
use Rattle.guest_session.specs.SessionView.{SessionView}
use Rattle.desk_core.specs.Painting.{plane}
use Rattle.desk_core.specs.WindowsStand.{AreAtRest, rests_of}
use Rattle.desk_core.specs.WindowsView.{WindowsView}
use Rattle.desk_core.specs.Panes.{pane_of, shown_of}
use Rattle.desk_core.specs.ShownView.{ShownView}
use Rattle.desk_core.proofs.PaintLemmas.{desk-painted, label-there, layer-there}
use Rattle.desk_core.proofs.windows.Windows.draw.Goals as goal

pub show_stack-requires-clause-sessions : goal.show_stack-requires-clause-sessions
show_stack-requires-clause-sessions c = λ k id at.
    let kept = c.self.invariant.0 in
    let there = layer-there kept.setup kept.held _ kept.frames kept.state kept.stands k id at in
    omega (arith, there, kept.stands.numbers.guests, ap (λ (ss : List SessionView). length ss) c.deref.ensures.value)

pub show_stack-requires-clause-labels : goal.show_stack-requires-clause-labels
show_stack-requires-clause-labels c = λ k id at.
    let kept = c.self.invariant.0 in
    let there = label-there kept.setup kept.held _ kept.frames kept.state kept.stands k id at in
    omega (arith, there, ap (λ (cs : List Colour). length cs) c.deref-2.ensures.value)

pub returns-clause-pixels : goal.returns-clause-pixels
returns-clause-pixels c =
    let i = c.self.inside in
    let w = i.picture.width in
    let h = i.picture.height in
    let drawn : List SessionView → List ShownView → List ℕ = λ ss vs. map (shown_at i.picture.background (map (pane_of ss) vs) i.picture.outputs) (all_pixels w h) in
    let P : WindowsView → Type 0 = λ d. (setup : Setup) (frames : ℕ → PortState) (state : DeskState) → AreAtRest setup d frames state → c.paint.new.self.pixels ≡ plane setup state.scene.rows state.scene.layers in
    subst P c.self.view_is (λ setup frames state stands.
    desk-painted setup (rests_of state) _ frames state stands.with_rest c.paint.new.self.pixels
    (c.paint.ensures.pixels
    ∙ ap (λ ss. drawn ss c.deref-4.result.now) c.deref-3.ensures.value
    ∙ ap (drawn i.sessions.items) (c.deref-4.ensures.value ∙ c.show_stack.ensures.items)
    ∙ ap (λ (ss : List SessionView). drawn i.sessions.items (shown_of i.border c.deref-2.result.now ss i.stack.layers)) c.deref.ensures.value
    ∙ ap (λ (cs : List Colour). drawn i.sessions.items (shown_of i.border cs i.sessions.items i.stack.layers)) c.deref-2.ensures.value))
