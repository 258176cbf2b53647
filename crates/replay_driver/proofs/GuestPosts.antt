-- Which posts of a step are for guests: all, but for a Picture at Snap and the Summary at End.
use Rattle.std.proofs.Common.{◌≡◌, ℕ, List, [], ◌∷◌, ◌++◌, Option, Some, None, Bool, true, false, refl, sym, ◌∙◌, ap}
use Rattle.desk_laws.specs.declared.setup.Setup.{Setup}
use Rattle.desk_laws.specs.declared.cause.Cause.{Cause}
use Rattle.desk_laws.specs.declared.cause.Cause.TheVariants.{StreamEnded, LinkFailed}
use Rattle.desk_laws.specs.declared.item.Item.{Item}
use Rattle.desk_laws.specs.declared.item.Item.TheVariants as items
use Rattle.desk_laws.specs.Sizes.{sizes_of}
use Rattle.desk_laws.specs.Stream.{StreamUnit, cut}
use Rattle.desk_laws.specs.Effects.{Effect}
use Rattle.desk_laws.specs.Scene.{Post, Reply, Ended, Picture, Summary, Input, replies, perform, Took, Closing, Losing}
use Rattle.desk_laws.specs.State.{DeskState, session_of, count_item}
use Rattle.desk_laws.specs.Settle.{settle}
use Rattle.desk_laws.specs.Events.{route}
use Rattle.desk_laws.specs.Steps.{ends, end_told, unit_told, unit_done, unit_effect, unit_of_open, take_unit, take_units, with_rest, bytes_of_open, take_bytes, end_of_open, store_of_open, event, step}
use Rattle.desk_core.specs.DeskPosts.{guest_posts}
use Rattle.desk_core.proofs.GuestPosts.{AreForGuests, for_guests-append, for_guests-perform, for_guests-settle}
use Rattle.desk_core.proofs.PostLemmas.{guest-replies}
use Rattle.record_format.specs.OutputGrammar.{post_bytes, posts_bytes}
use Rattle.record_format.specs.RecordGrammar.{is_end}
use Rattle.replay_driver.proofs.SnapPosts.{pictures_any}

-- ---- the desk

for_guests-ends : (setup : Setup) (guest : ℕ) (input : Input) (cause : Cause) (desk : DeskState) → AreForGuests (ends setup guest input cause desk).posts
for_guests-ends setup guest input cause desk =
    for_guests-append (Ended guest cause ∷ []) (settle (sizes_of setup) (end_told guest input cause desk.scene).scene).posts
    refl (for_guests-settle (sizes_of setup) (end_told guest input cause desk.scene).scene)

for_guests-unit_done : (setup : Setup) (guest : ℕ) (unit : StreamUnit) (e : Effect) (cause : Option Cause) (desk : DeskState) → AreForGuests (unit_done setup guest unit e cause desk).posts
for_guests-unit_done setup guest unit e None desk =
    for_guests-append (replies guest e.answers) (settle (sizes_of setup) (unit_told (sizes_of setup).clip_limit guest unit e desk.scene).scene).posts
    (guest-replies guest e.answers) (for_guests-settle (sizes_of setup) (unit_told (sizes_of setup).clip_limit guest unit e desk.scene).scene)
for_guests-unit_done setup guest unit e (Some cause) desk = for_guests-ends setup guest (Took unit) cause desk

for_guests-unit_of_open : (setup : Setup) (guest : ℕ) (unit : StreamUnit) (ended : Option Cause) (desk : DeskState) → AreForGuests (unit_of_open setup guest unit ended desk).posts
for_guests-unit_of_open setup guest unit (Some cause) desk = refl
for_guests-unit_of_open setup guest unit None desk =
    for_guests-unit_done setup guest unit (unit_effect setup guest unit desk) (unit_effect setup guest unit desk).cause desk

for_guests-take_units : (setup : Setup) (guest : ℕ) (units : List StreamUnit) (desk : DeskState) → AreForGuests (take_units setup guest units desk).posts
for_guests-take_units setup guest [] desk = refl
for_guests-take_units setup guest (unit ∷ units) desk =
    for_guests-append (take_unit setup guest unit desk).posts (take_units setup guest units (take_unit setup guest unit desk).desk).posts
    (for_guests-unit_of_open setup guest unit (session_of guest desk).ended desk) (for_guests-take_units setup guest units (take_unit setup guest unit desk).desk)

for_guests-end_of_open : (setup : Setup) (guest : ℕ) (input : Input) (cause : Cause) (ended : Option Cause) (desk : DeskState) → AreForGuests (end_of_open setup guest input cause ended desk).posts
for_guests-end_of_open setup guest input cause (Some c) desk = refl
for_guests-end_of_open setup guest input cause None desk = for_guests-ends setup guest input cause desk

for_guests-bytes_of_open : (setup : Setup) (guest : ℕ) (piece : List ℕ) (ended : Option Cause) (desk : DeskState) → AreForGuests (bytes_of_open setup guest piece ended desk).posts
for_guests-bytes_of_open setup guest piece (Some cause) desk = refl
for_guests-bytes_of_open setup guest piece None desk =
    let c = cut (session_of guest desk).greeted ((session_of guest desk).rest ++ piece) in
    for_guests-take_units setup guest c.units (with_rest guest c.rest desk)

for_guests-take_bytes : (setup : Setup) (guest : ℕ) (piece : List ℕ) (desk : DeskState) → AreForGuests (take_bytes setup guest piece desk).posts
for_guests-take_bytes setup guest piece desk = for_guests-bytes_of_open setup guest piece (session_of guest desk).ended desk

for_guests-store_of_open : (guest delay page offset : ℕ) (bytes : List ℕ) (ended : Option Cause) (desk : DeskState) → AreForGuests (store_of_open guest delay page offset bytes ended desk).posts
for_guests-store_of_open guest delay page offset bytes (Some cause) desk = refl
for_guests-store_of_open guest delay page offset bytes None desk = refl

for_guests-event : (setup : Setup) (item : Item) (desk : DeskState) → AreForGuests (event setup item desk).posts
for_guests-event setup item desk =
    let done = perform setup.denied (route setup item desk.scene) desk.scene in
    for_guests-append done.posts (settle (sizes_of setup) done.scene).posts
    (for_guests-perform setup.denied (route setup item desk.scene) desk.scene) (for_guests-settle (sizes_of setup) done.scene)

-- a step that is neither Snap nor End
abbrev pub is_quiet : Item → Bool
is_quiet items.Snap = false
is_quiet items.End = false
is_quiet item = true

pub for_guests-step : (setup : Setup) (item : Item) (piece : List ℕ) (desk : DeskState) → is_quiet item ≡ true → AreForGuests (step setup item piece desk).posts
for_guests-step setup (items.Bytes guest) piece desk quiet = for_guests-take_bytes setup guest piece (count_item desk)
for_guests-step setup (items.Closed guest) piece desk quiet = for_guests-end_of_open setup guest Closing (StreamEnded 0 0) (session_of guest desk).ended (count_item desk)
for_guests-step setup (items.Store guest delay page offset) piece desk quiet = for_guests-store_of_open guest delay page offset piece (session_of guest desk).ended (count_item desk)
for_guests-step setup (items.Key down code state) piece desk quiet = for_guests-event setup (items.Key down code state) (count_item desk)
for_guests-step setup (items.Move x y state) piece desk quiet = for_guests-event setup (items.Move x y state) (count_item desk)
for_guests-step setup (items.Press down button state) piece desk quiet = for_guests-event setup (items.Press down button state) (count_item desk)
for_guests-step setup items.Close piece desk quiet = for_guests-event setup items.Close (count_item desk)
for_guests-step setup items.Next piece desk quiet = for_guests-event setup items.Next (count_item desk)
for_guests-step setup items.Restore piece desk quiet = for_guests-event setup items.Restore (count_item desk)
for_guests-step setup (items.MoveTo x y) piece desk quiet = for_guests-event setup (items.MoveTo x y) (count_item desk)
for_guests-step setup (items.SizeTo w h) piece desk quiet = for_guests-event setup (items.SizeTo w h) (count_item desk)
for_guests-step setup items.Snap piece desk quiet = absurd (cc)
for_guests-step setup items.End piece desk quiet = absurd (cc)
for_guests-step setup (items.Lost guest) piece desk quiet = for_guests-end_of_open setup guest Losing (LinkFailed 0 0) (session_of guest desk).ended (count_item desk)
for_guests-step setup items.Idle piece desk quiet = refl

-- ---- as bytes

-- posts for guests are written the same whatever the picture's count
guest_bytes : (p q : ℕ) (posts : List Post) → posts_bytes p (guest_posts posts) ≡ posts_bytes q (guest_posts posts)
guest_bytes p q [] = refl
guest_bytes p q (Reply guest bytes ∷ posts) = ap (λ (l : List ℕ). post_bytes p (Reply guest bytes) ++ l) (guest_bytes p q posts)
guest_bytes p q (Ended guest cause ∷ posts) = ap (λ (l : List ℕ). post_bytes p (Ended guest cause) ++ l) (guest_bytes p q posts)
guest_bytes p q (Picture width height colours ∷ posts) = guest_bytes p q posts
guest_bytes p q (Summary counts ∷ posts) = guest_bytes p q posts

-- a quiet step writes what it tells guests
pub quiet_bytes : (setup : Setup) (p q : ℕ) (item : Item) (piece : List ℕ) (desk : DeskState) → is_quiet item ≡ true
    → posts_bytes p (guest_posts (step setup item piece desk).posts) ≡ posts_bytes q (step setup item piece desk).posts
quiet_bytes setup p q item piece desk quiet =
    guest_bytes p q (step setup item piece desk).posts ∙ ap (posts_bytes q) (for_guests-step setup item piece desk quiet)

quiet_any : (setup : Setup) (p q : ℕ) (item : Item) (piece : List ℕ) (desk : DeskState) → is_quiet item ≡ true
    → posts_bytes p (step setup item piece desk).posts ≡ posts_bytes q (step setup item piece desk).posts
quiet_any setup p q item piece desk quiet =
    sym (quiet_bytes setup p p item piece desk quiet) ∙ quiet_bytes setup p q item piece desk quiet

-- but for End, no item writes the picture's count
pub any_count : (setup : Setup) (p q : ℕ) (item : Item) (piece : List ℕ) (desk : DeskState) → is_end item ≡ false
    → posts_bytes p (step setup item piece desk).posts ≡ posts_bytes q (step setup item piece desk).posts
any_count setup p q (items.Bytes guest) piece desk more = quiet_any setup p q (items.Bytes guest) piece desk refl
any_count setup p q (items.Closed guest) piece desk more = quiet_any setup p q (items.Closed guest) piece desk refl
any_count setup p q (items.Store guest delay page offset) piece desk more = quiet_any setup p q (items.Store guest delay page offset) piece desk refl
any_count setup p q (items.Key down code state) piece desk more = quiet_any setup p q (items.Key down code state) piece desk refl
any_count setup p q (items.Move x y state) piece desk more = quiet_any setup p q (items.Move x y state) piece desk refl
any_count setup p q (items.Press down button state) piece desk more = quiet_any setup p q (items.Press down button state) piece desk refl
any_count setup p q items.Close piece desk more = quiet_any setup p q items.Close piece desk refl
any_count setup p q items.Next piece desk more = quiet_any setup p q items.Next piece desk refl
any_count setup p q items.Restore piece desk more = quiet_any setup p q items.Restore piece desk refl
any_count setup p q (items.MoveTo x y) piece desk more = quiet_any setup p q (items.MoveTo x y) piece desk refl
any_count setup p q (items.SizeTo w h) piece desk more = quiet_any setup p q (items.SizeTo w h) piece desk refl
any_count setup p q items.Snap piece desk more = pictures_any setup desk.scene.rows desk.scene.layers p q setup.outputs
any_count setup p q items.End piece desk more = absurd (cc)
any_count setup p q (items.Lost guest) piece desk more = quiet_any setup p q (items.Lost guest) piece desk refl
any_count setup p q items.Idle piece desk more = refl
