-- What a desk that stands for a state shows of the setup.
use Rattle.std.proofs.Common.{◌≡◌, ℕ, length, sym, ap, subst, arith}
use Rattle.std.specs.List.{All}
use Rattle.desk_laws.specs.declared.setup.Setup.{Setup}
use Rattle.desk_laws.specs.Rules.{Fits}
use Rattle.desk_laws.specs.Sizes.{Sizes}
use Rattle.desk_laws.specs.Frames.{PortState}
use Rattle.desk_laws.specs.State.{DeskState}
use Rattle.desk_core.specs.DeskView.{DeskView, guests_of, pages_of, picture_of}
use Rattle.desk_core.specs.DeskStands.{Stands}
use Rattle.desk_core.proofs.OutputLemmas.{outputs-lie}
use Rattle.compositor.specs.PictureView.{LiesIn}
use Rattle.replay_driver.specs.FeedOutcomes.{AreFramesOf}

pub width_is : (setup : Setup) (desk : DeskView) (frames : ℕ → PortState) (state : DeskState) → Stands setup desk frames state → (picture_of desk).width ≡ setup.width
width_is setup desk frames state stands = stands.windows.with_rest.numbers.width

pub height_is : (setup : Setup) (desk : DeskView) (frames : ℕ → PortState) (state : DeskState) → Stands setup desk frames state → (picture_of desk).height ≡ setup.height
height_is setup desk frames state stands = stands.windows.with_rest.numbers.height

pub outputs_is : (setup : Setup) (desk : DeskView) (frames : ℕ → PortState) (state : DeskState) → Stands setup desk frames state → (picture_of desk).outputs ≡ setup.outputs
outputs_is setup desk frames state stands = stands.windows.with_rest.numbers.outputs

-- the outputs lie in the plane
pub outputs_placed : (setup : Setup) (desk : DeskView) (frames : ℕ → PortState) (state : DeskState) → Fits setup → Stands setup desk frames state
    → All (LiesIn (picture_of desk).width (picture_of desk).height) (picture_of desk).outputs
outputs_placed setup desk frames state fits stands =
    subst (All (LiesIn (picture_of desk).width (picture_of desk).height)) (sym (outputs_is setup desk frames state stands))
    (subst (λ (h : ℕ). All (LiesIn (picture_of desk).width h) setup.outputs) (sym (height_is setup desk frames state stands))
    (subst (λ (w : ℕ). All (LiesIn w setup.height) setup.outputs) (sym (width_is setup desk frames state stands))
    (outputs-lie setup.width setup.height setup.outputs fits.later.in_plane)))

pub pages_is : (setup : Setup) (desk : DeskView) (frames : ℕ → PortState) (state : DeskState) → Stands setup desk frames state → pages_of desk ≡ setup.pages
pages_is setup desk frames state stands =
    let first = stands.windows.with_rest.parts 0 (omega (arith, stands.windows.with_rest.numbers.some)) in
    ap (λ (s : Sizes). s.pages) first.sizes

pub guests_is : (setup : Setup) (desk : DeskView) (frames : ℕ → PortState) (state : DeskState) → Stands setup desk frames state → guests_of desk ≡ length setup.guests
guests_is setup desk frames state stands = stands.windows.with_rest.numbers.guests

pub frames_are : (setup : Setup) (desk : DeskView) (frames : ℕ → PortState) (state : DeskState) → Stands setup desk frames state → AreFramesOf setup state frames
frames_are setup desk frames state stands = λ guest below. sym (stands.windows.with_rest.parts guest below).frames
