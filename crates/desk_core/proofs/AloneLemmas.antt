-- A step of a desk, seen by one guest.
use Rattle.std.proofs.Common.{◌≡◌, ℕ, ◌<◌, List, [], ◌∷◌, ◌++◌, length, Option, Some, None, refl, sym, ◌∙◌, ap, subst}
use Rattle.std.specs.Prelude.{◌==◌, if◌then◌else◌}
use Rattle.desk_laws.specs.declared.cause.Cause.{Cause}
use Rattle.desk_laws.specs.declared.item.Item.{Item}
use Rattle.desk_laws.specs.declared.item.Item.TheVariants as items
use Rattle.desk_laws.specs.declared.setup.Setup.{Setup}
use Rattle.desk_laws.specs.Frames.{PortState}
use Rattle.desk_laws.specs.Items.{FitsItem}
use Rattle.desk_laws.specs.Scene.{Post, Reply, Ended, Picture, Summary, Input}
use Rattle.desk_laws.specs.Sizes.{Sizes, sizes_of}
use Rattle.desk_laws.specs.State.{DeskState, StepOutcome, inputs_of, posts_of, readings_of, session_of}
use Rattle.desk_laws.specs.Steps.{step}
use Rattle.io_ports.specs.Posts.{Leads}
use Rattle.isolation_laws.specs.Alone.{Alone, AloneOutcome, alone_after, alone_by, alone_run, part_of}
use Rattle.isolation_laws.specs.Isolation.{HasGuest, IsGoneIfEnded}
use Rattle.isolation_laws.proofs.StepAlone.{alone-step}
use Rattle.desk_core.specs.AloneSteps.{AreOne, IsAlone, StepsAlone, alone_in}
use Rattle.desk_core.specs.DeskPosts.{guest_posts}
use Rattle.desk_core.specs.DeskStands.{Stands}
use Rattle.desk_core.specs.DeskView.{DeskView, guests_of}
use Rattle.desk_core.specs.WindowsStand.{PartStands}
use Rattle.desk_core.specs.WindowsView as of_windows

-- ---- the guest alone, twice

one-after : (a b c : Alone) → AreOne a b → AreOne b c → AreOne a c
one-after a b c one two = record {
  rows = one.rows ∙ two.rows;
  ended = one.ended ∙ two.ended;
  port = one.port ∙ two.port;
  greeted = λ running. one.greeted (two.ended ∙ running) ∙ two.greeted running;
  minor = λ running. one.minor (two.ended ∙ running) ∙ two.minor running;
}

-- while the session is open, all is equal
open-same : (a b : Alone) → AreOne a b → b.ended ≡ None → a ≡ b
open-same a b one running =
    ap (λ r. record a { rows = r }) one.rows
    ∙ ap (λ g. record a { rows = b.rows; greeted = g }) (one.greeted running)
    ∙ ap (λ m. record a { rows = b.rows; greeted = b.greeted; minor = m }) (one.minor running)
    ∙ ap (λ e. record a { rows = b.rows; greeted = b.greeted; minor = b.minor; ended = e }) one.ended
    ∙ ap (λ p. record b { port = p }) one.port

-- once it has ended no input does anything
ended-stays : (sizes : Sizes) (guest : ℕ) (inputs : List Input) (cause : Cause) (a : Alone) → a.ended ≡ Some cause → alone_run sizes guest inputs a ≡ record { alone = a; posts = [] }
ended-stays sizes guest [] cause a over = refl
ended-stays sizes guest (i ∷ inputs) cause a over = by_end a.ended over (ended-stays sizes guest inputs cause a over)
  where
    by_end : (e : Option Cause) → e ≡ Some cause → alone_run sizes guest inputs a ≡ record { alone = a; posts = [] }
        → alone_after (alone_by sizes guest i e a).posts (alone_run sizes guest inputs (alone_by sizes guest i e a).alone) ≡ record { alone = a; posts = [] }
    by_end None isnt then_ = absurd (cc)
    by_end (Some c) is then_ = then_

-- so inputs lead to the same
pub record LeadAlike (one two : AloneOutcome) : Type 0 where
  pub posts : one.posts ≡ two.posts
  pub alone : AreOne one.alone two.alone

lead-alike : (sizes : Sizes) (guest : ℕ) (inputs : List Input) (a b : Alone) → AreOne a b → LeadAlike (alone_run sizes guest inputs a) (alone_run sizes guest inputs b)
lead-alike sizes guest inputs a b one = by_end b.ended refl
  where
    by_end : (e : Option Cause) → b.ended ≡ e → LeadAlike (alone_run sizes guest inputs a) (alone_run sizes guest inputs b)
    by_end None running =
        let L : Alone → Type 0 = λ x. LeadAlike (alone_run sizes guest inputs x) (alone_run sizes guest inputs b) in
        subst L (sym (open-same a b one running)) (record { posts = refl; alone = record { rows = refl; ended = refl; port = refl; greeted = λ o. refl; minor = λ o. refl } })
    by_end (Some cause) over =
        let X : AloneOutcome → Type 0 = λ x. LeadAlike x (alone_run sizes guest inputs b) in
        let Y : AloneOutcome → Type 0 = λ y. LeadAlike (record { alone = a; posts = [] }) y in
        subst X (sym (ended-stays sizes guest inputs cause a (one.ended ∙ over)))
        (subst Y (sym (ended-stays sizes guest inputs cause b over)) (record { posts = refl; alone = one }))

-- ---- the posts for guests

-- the posts for one guest are among those for guests
pub own-posts : (guest : ℕ) (posts : List Post) → posts_of guest (guest_posts posts) ≡ posts_of guest posts
own-posts guest [] = refl
own-posts guest (Reply g bytes ∷ posts) = ap (λ ps. if g == guest then Reply g bytes ∷ ps else ps) (own-posts guest posts)
own-posts guest (Ended g cause ∷ posts) = ap (λ ps. if g == guest then Ended g cause ∷ ps else ps) (own-posts guest posts)
own-posts guest (Picture width height colours ∷ posts) = own-posts guest posts
own-posts guest (Summary counts ∷ posts) = own-posts guest posts

-- ---- a guest's part of a desk

module _ (setup : Setup) (desk : DeskView) (frames : ℕ → PortState) (state : DeskState) (stands : Stands setup desk frames state) (guest : ℕ) (there : guest < guests_of desk) where
  is-guest : guest < length setup.guests
  is-guest = rw (sym stands.windows.with_rest.numbers.guests) there

  part : PartStands setup guest (session_of guest state).rest (of_windows.part_of guest desk.windows) (frames guest) state
  part = stands.windows.with_rest.parts guest is-guest

  -- is that of the state
  pub part-before : (tape : List ℕ) → AreOne (part_of guest state tape) (alone_in guest desk tape)
  part-before tape = record { rows = part.rows; ended = part.ended; port = refl; greeted = λ running. (part.opened running).greeted; minor = λ running. (part.opened running).minor }

  pub part-after : (tape : List ℕ) → AreOne (alone_in guest desk tape) (part_of guest state tape)
  part-after tape = record {
    rows = sym part.rows;
    ended = sym part.ended;
    port = refl;
    greeted = λ running. sym (part.opened (sym part.ended ∙ running)).greeted;
    minor = λ running. sym (part.opened (sym part.ended ∙ running)).minor;
  }

  -- a guest that has ended has no windows
  pub gone-before : IsGoneIfEnded guest state
  gone-before cause over = stands.sound.gone guest cause (rw stands.windows.with_rest.count is-guest) over

-- ---- a step

-- the guest of an item in its ranges is there
pub has-guest : (guests pages : ℕ) (item : Item) (len : ℕ) → FitsItem guests pages item len → HasGuest guests item
has-guest guests pages (items.Bytes guest) len fits = fits.0
has-guest guests pages (items.Closed guest) len fits = fits.0
has-guest guests pages (items.Store guest delay page offset) len fits = fits.0
has-guest guests pages (items.Lost guest) len fits = fits.0
has-guest guests pages item len fits = tt

-- what a step tells a guest and does to its part of the desk is what happens to the guest alone
module _ (setup : Setup) (item : Item) (piece : List ℕ) (state : DeskState) (old new : DeskView) (frames frames' : ℕ → PortState) (before : Stands setup old frames state) (after : Stands setup new frames' (step setup item piece state).desk) (known : HasGuest (length state.sessions) item) (same-guests : guests_of new ≡ guests_of old) where
  alone-guest : (guest : ℕ) → guest < guests_of old → (later : List ℕ)
      → IsAlone guest (alone_run (sizes_of setup) guest (inputs_of guest (step setup item piece state).inputs) (alone_in guest old (readings_of guest (step setup item piece state).readings ++ later))) (guest_posts (step setup item piece state).posts) new later
  alone-guest guest there later =
      let outcome : StepOutcome = step setup item piece state in
      let tape : List ℕ = readings_of guest outcome.readings ++ later in
      let inputs : List Input = inputs_of guest outcome.inputs in
      let law = (alone-step setup guest item piece state known (gone-before setup old frames state before guest there)).same later in
      let alike : LeadAlike (alone_run (sizes_of setup) guest inputs (part_of guest state tape)) (alone_run (sizes_of setup) guest inputs (alone_in guest old tape))
      = lead-alike (sizes_of setup) guest inputs (part_of guest state tape) (alone_in guest old tape) (part-before setup old frames state before guest there tape) in
      let L : AloneOutcome → Type 0 = λ x. LeadAlike x (alone_run (sizes_of setup) guest inputs (alone_in guest old tape)) in
      let done = subst L law alike in
      record {
        posts = own-posts guest outcome.posts ∙ done.posts;
        part = one-after (alone_in guest new later) (part_of guest outcome.desk later) (alone_run (sizes_of setup) guest inputs (alone_in guest old tape)).alone
            (part-after setup new frames' outcome.desk after guest (rw same-guests there) later) done.alone;
      }

  -- for every guest
  pub step-alone : {O : Type 0} (takes : O → Post → O → Type 0) (out out' : O) → Leads takes out (guest_posts (step setup item piece state).posts) out'
      → StepsAlone takes out out' setup (step setup item piece state) old new
  step-alone takes out out' took = record { told = guest_posts (step setup item piece state).posts; took = took; each = alone-guest }
