-- What the scene's deliveries post is for guests alone.
use Rattle.std.proofs.Common.{◌≡◌, ℕ, List, [], ◌∷◌, ◌++◌, Option, Some, None, Bool, true, false, refl, ◌∙◌, ap}
use Rattle.std.specs.Prelude.{if◌then◌else◌}
use Rattle.desk_laws.specs.declared.input.GIn.{GIn}
use Rattle.desk_laws.specs.declared.input.GIn.TheVariants.{ClipAsk, ClipGive}
use Rattle.desk_laws.specs.declared.row_id.RowId.{RowId}
use Rattle.desk_laws.specs.declared.setup.Pair.{Pair}
use Rattle.desk_laws.specs.Clipboard.{Content, ask, wiped}
use Rattle.desk_laws.specs.Pairs.{denies}
use Rattle.desk_laws.specs.Grants.{granted}
use Rattle.desk_laws.specs.Scene.{Scene, Post, InputOutcome, Delivery, Grants, Asks, Pastes, grant_where, grant, pastes, unchanged, with_clip, deliver, deliver_all, perform, scene_of_input}
use Rattle.desk_laws.specs.Settle.{grab_checked, settled, settle}
use Rattle.desk_laws.specs.Sizes.{Sizes}
use Rattle.desk_core.specs.DeskPosts.{guest_posts}
use Rattle.desk_core.proofs.PostLemmas.{guest-append, guest-replies}

-- all of these posts are for guests
abbrev pub AreForGuests : List Post → Type 0
AreForGuests posts = guest_posts posts ≡ posts

pub for_guests-append : (xs ys : List Post) → AreForGuests xs → AreForGuests ys → AreForGuests (xs ++ ys)
for_guests-append xs ys first second =
    guest-append xs ys ∙ ap (λ (l : List Post). l ++ guest_posts ys) first ∙ ap (λ (l : List Post). xs ++ l) second

-- ---- the scene

for_guests-grant_where : (there : Bool) (id : RowId) (input : GIn) (paste : List ℕ) (scene : Scene) → AreForGuests (grant_where there id input paste scene).posts
for_guests-grant_where false id input paste scene = refl
for_guests-grant_where true id input paste scene = guest-replies id.guest (granted id.guest scene.rows input paste).answers

for_guests-grant : (id : RowId) (input : GIn) (paste : List ℕ) (scene : Scene) → AreForGuests (grant id input paste scene).posts
for_guests-grant id input paste scene = for_guests-grant_where _ id input paste scene

module _ (denied : List Pair) where
  for_guests-pastes : (id : RowId) (content : Option Content) (scene : Scene) → AreForGuests (pastes denied id content scene).posts
  for_guests-pastes id None scene = refl
  for_guests-pastes id (Some content) scene = by_denied (denies denied content.source id.guest)
    where
      by_denied : (b : Bool) → AreForGuests (if b then unchanged scene else grant id (ClipGive id.window) content.bytes (with_clip (wiped scene.clip) scene)).posts
      by_denied true = refl
      by_denied false = for_guests-grant id (ClipGive id.window) content.bytes (with_clip (wiped scene.clip) scene)

  for_guests-deliver : (d : Delivery) (scene : Scene) → AreForGuests (deliver denied d scene).posts
  for_guests-deliver (Grants id input) scene = for_guests-grant id input [] scene
  for_guests-deliver (Asks id) scene = for_guests-grant id (ClipAsk id.window) [] (with_clip (ask id.guest scene.clip) scene)
  for_guests-deliver (Pastes id) scene = for_guests-pastes id scene.clip.content scene

  for_guests-deliver_all : (deliveries : List Delivery) (scene : Scene) → AreForGuests (deliver_all denied deliveries scene).posts
  for_guests-deliver_all [] scene = refl
  for_guests-deliver_all (d ∷ deliveries) scene =
      for_guests-append (deliver denied d scene).posts (deliver_all denied deliveries (deliver denied d scene).scene).posts
      (for_guests-deliver d scene) (for_guests-deliver_all deliveries (deliver denied d scene).scene)

  pub for_guests-perform : (r : InputOutcome) (scene : Scene) → AreForGuests (perform denied r scene).posts
  for_guests-perform r scene = for_guests-deliver_all r.deliveries (scene_of_input r scene)

pub for_guests-settle : (sizes : Sizes) (scene : Scene) → AreForGuests (settle sizes scene).posts
for_guests-settle sizes scene = for_guests-perform [] (settled sizes (grab_checked scene)) scene
