-- What Snap posts: pictures alone, which are for no guest.
use Rattle.std.proofs.Common.{◌≡◌, ℕ, List, [], ◌∷◌, ◌++◌, map, refl, ap}
use Rattle.gui_num.specs.declared.Rect.{Rect}
use Rattle.desk_laws.specs.declared.setup.Setup.{Setup}
use Rattle.desk_laws.specs.Rows.{Row}
use Rattle.desk_laws.specs.Layers.{Layers}
use Rattle.desk_laws.specs.Steps.{picture_post}
use Rattle.desk_core.specs.DeskPosts.{guest_posts}
use Rattle.record_format.specs.OutputGrammar.{post_bytes, posts_bytes}

-- no picture is for a guest
pub pictures_told : (setup : Setup) (rows : List Row) (layers : Layers) (outputs : List Rect) → guest_posts (map (picture_post setup rows layers) outputs) ≡ []
pictures_told setup rows layers [] = refl
pictures_told setup rows layers (output ∷ outputs) = pictures_told setup rows layers outputs

-- pictures are written the same whatever the picture's count
pub pictures_any : (setup : Setup) (rows : List Row) (layers : Layers) (p q : ℕ) (outputs : List Rect)
    → posts_bytes p (map (picture_post setup rows layers) outputs) ≡ posts_bytes q (map (picture_post setup rows layers) outputs)
pictures_any setup rows layers p q [] = refl
pictures_any setup rows layers p q (output ∷ outputs) =
    ap (λ (l : List ℕ). post_bytes p (picture_post setup rows layers output) ++ l) (pictures_any setup rows layers p q outputs)
