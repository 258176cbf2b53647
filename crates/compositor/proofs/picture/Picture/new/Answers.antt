use Rattle.std.proofs.Common.{ap, map, ◌∙◌}
use Rattle.compositor.specs.Composed.{all_pixels}
use Rattle.compositor.proofs.PixelLemmas.{one-colour}
use Rattle.compositor.proofs.picture.Picture.new.Goals as goal

pub returns : goal.returns
returns c =
    ap (λ cs. record { width = c.args.width; height = c.args.height; background = c.args.background.0; outputs = c.in_ok-outputs.outputs.items; pixels = cs; painted = 0 })
    (one-colour 0 c.args.width c.args.height c.in_ok-pixels.pixels.items (c.in_ok-pixels.ensures.items_if_clones_equal (λ y is. is)))
    ∙ ap (λ os. record { width = c.args.width; height = c.args.height; background = c.args.background.0; outputs = os; pixels = map (λ _. 0) (all_pixels c.args.width c.args.height); painted = 0 })
    (c.in_ok-outputs.ensures.items_if_clones_equal (λ x y is. is))
