-- The items that are events of the user, each with what it does to a desk.
use Rattle.std.proofs.Common.{◌≡◌, ℕ, Bool, true, false, List, refl, sym, ◌∙◌, ap, subst}
use Rattle.desk_laws.specs.declared.item.Item.{Item}
use Rattle.desk_laws.specs.declared.item.Item.TheVariants as items
use Rattle.desk_laws.specs.declared.setup.Setup.{Setup}
use Rattle.desk_laws.specs.Endings.{is_item_of}
use Rattle.desk_laws.specs.Frames.{PortState}
use Rattle.desk_laws.specs.Scene.{Post}
use Rattle.desk_laws.specs.State.{DeskState, StepOutcome, count_item}
use Rattle.desk_laws.specs.Steps.{step, event}
use Rattle.io_ports.specs.Posts.{Leads}
use Rattle.guest_session.specs.SessionView.{SessionView}
use Rattle.desk_core.specs.DeskPosts.{guest_posts}
use Rattle.desk_core.specs.DeskStands.{IsAtRest, Stands, StepsTo, counted_in}
use Rattle.desk_core.specs.DeskView.{DeskView, guests_of, pages_of}
use Rattle.desk_core.specs.EventItems.{TakesOn}
use Rattle.desk_core.specs.ItemSteps.{TakesItem}
use Rattle.desk_core.specs.Painting.{painted_after}
use Rattle.desk_core.specs.Scenes.{KeepSessions}
use Rattle.desk_core.specs.Seated.{AreSeated}
use Rattle.desk_core.specs.WindowsStand.{rests_of}
use Rattle.desk_core.specs.WindowsView.{WindowsView}
use Rattle.desk_core.proofs.EventStands.{event-rests}
use Rattle.desk_core.proofs.StepLemmas.{counted-rest}

-- ---- an event on a desk

-- windows and seat are those of some state after it
pub event-seated : {O : Type 0} (takes : O → Post → O → Type 0) (out out' : O) (i : Item) (old new : DeskView) → TakesOn takes out out' i old new
    → AreSeated old.windows old.seat → AreSeated new.windows new.seat
event-seated takes out out' i old new took s =
    let t = took s.setup s.held s.frames s.state s.stands s.seated in
    record { setup = s.setup; held = s.held; frames = s.frames; state = (event s.setup i s.state).desk; stands = t.stands; seated = t.seated }

-- the desk stands for the state after it
pub event-steps : {O : Type 0} (takes : O → Post → O → Type 0) (out out' : O) (i : Item) (old new : DeskView) → TakesOn takes out out' i old new → KeepSessions old.windows.sessions new.windows.sessions
    → (setup : Setup) (frames : ℕ → PortState) (state : DeskState) → IsAtRest setup old frames state → StepsTo takes out out' setup new frames (event setup i state)
event-steps takes out out' i old new took kept setup frames state rests =
    let t = took setup (rests_of state) frames state rests.windows.with_rest rests.seated in (
      record { windows = event-rests setup i old.windows new.windows frames state kept rests.windows t.stands; seated = t.seated },
      t.posts,
    )

-- ---- which items these are

-- whether an item is an event of the user
abbrev pub is_event : Item → Bool
is_event (items.Key down code state) = true
is_event (items.Move x y state) = true
is_event (items.Press down button state) = true
is_event items.Close = true
is_event items.Next = true
is_event items.Restore = true
is_event (items.MoveTo x y) = true
is_event (items.SizeTo w h) = true
is_event other = false

-- an item that is none of the others is one
pub event-left : (i : Item) → ((guest : ℕ) → i ≡ items.Bytes guest → ⊥) → ((guest : ℕ) → i ≡ items.Closed guest → ⊥) → ((guest delay page offset : ℕ) → i ≡ items.Store guest delay page offset → ⊥)
    → (i ≡ items.Snap → ⊥) → (i ≡ items.End → ⊥) → ((guest : ℕ) → i ≡ items.Lost guest → ⊥) → (i ≡ items.Idle → ⊥) → is_event i ≡ true
event-left (items.Bytes guest) bytes closed store snap end lost idle = absurd (bytes guest refl)
event-left (items.Closed guest) bytes closed store snap end lost idle = absurd (closed guest refl)
event-left (items.Store guest delay page offset) bytes closed store snap end lost idle = absurd (store guest delay page offset refl)
event-left (items.Key down code state) bytes closed store snap end lost idle = refl
event-left (items.Move x y state) bytes closed store snap end lost idle = refl
event-left (items.Press down button state) bytes closed store snap end lost idle = refl
event-left items.Close bytes closed store snap end lost idle = refl
event-left items.Next bytes closed store snap end lost idle = refl
event-left items.Restore bytes closed store snap end lost idle = refl
event-left (items.MoveTo x y) bytes closed store snap end lost idle = refl
event-left (items.SizeTo w h) bytes closed store snap end lost idle = refl
event-left items.Snap bytes closed store snap end lost idle = absurd (snap refl)
event-left items.End bytes closed store snap end lost idle = absurd (end refl)
event-left (items.Lost guest) bytes closed store snap end lost idle = absurd (lost guest refl)
event-left items.Idle bytes closed store snap end lost idle = absurd (idle refl)

-- an item is of no guest, draws nothing, and does what an event does
record IsEvent (i : Item) : Type 0 where
  steps : (setup : Setup) (piece : List ℕ) (state : DeskState) → step setup i piece state ≡ event setup i (count_item state)
  undrawn : i ≡ items.Snap → ⊥
  unpainted : (setup : Setup) (n : ℕ) → painted_after setup i n ≡ n
  of_none : (guest : ℕ) → is_item_of guest i ≡ false

event-is : (i : Item) → is_event i ≡ true → IsEvent i
event-is (items.Key down code state) is = record { steps = λ setup piece s. refl; undrawn = λ snap. cc; unpainted = λ setup n. refl; of_none = λ guest. refl }
event-is (items.Move x y state) is = record { steps = λ setup piece s. refl; undrawn = λ snap. cc; unpainted = λ setup n. refl; of_none = λ guest. refl }
event-is (items.Press down button state) is = record { steps = λ setup piece s. refl; undrawn = λ snap. cc; unpainted = λ setup n. refl; of_none = λ guest. refl }
event-is items.Close is = record { steps = λ setup piece s. refl; undrawn = λ snap. cc; unpainted = λ setup n. refl; of_none = λ guest. refl }
event-is items.Next is = record { steps = λ setup piece s. refl; undrawn = λ snap. cc; unpainted = λ setup n. refl; of_none = λ guest. refl }
event-is items.Restore is = record { steps = λ setup piece s. refl; undrawn = λ snap. cc; unpainted = λ setup n. refl; of_none = λ guest. refl }
event-is (items.MoveTo x y) is = record { steps = λ setup piece s. refl; undrawn = λ snap. cc; unpainted = λ setup n. refl; of_none = λ guest. refl }
event-is (items.SizeTo w h) is = record { steps = λ setup piece s. refl; undrawn = λ snap. cc; unpainted = λ setup n. refl; of_none = λ guest. refl }
event-is other is = absurd (cc)

-- ---- an event as an item

-- an event that is counted and taken is an item taken
pub event-item : {O : Type 0} (takes : O → Post → O → Type 0) (out out' : O) (i : Item) (piece : List ℕ) (old counted new : DeskView) (frames : ℕ → PortState) → is_event i ≡ true → counted ≡ counted_in old
    → TakesOn takes out out' i counted new → KeepSessions counted.windows.sessions new.windows.sessions
    → new.windows ≡ record counted.windows { sessions = new.windows.sessions; layers = new.windows.layers; gate = new.windows.gate }
    → TakesItem takes out out' i piece old new frames frames
event-item takes out out' i piece old counted new frames is one took kept rest = record {
  rests = λ setup state stands.
      let P : StepOutcome → Type 0 = λ o. IsAtRest setup new frames o.desk in subst P (sym (known.steps setup piece state)) (done setup state stands).0;
  posts = λ setup state stands.
      let P : StepOutcome → Type 0 = λ o. Leads takes out (guest_posts o.posts) out' in subst P (sym (known.steps setup piece state)) (done setup state stands).1;
  drawn = λ snap setup state stands. absurd (known.undrawn snap);
  painted = λ setup state stands.
      ap (λ (w : WindowsView). w.picture.painted) rest ∙ ap (λ (d : DeskView). d.windows.picture.painted) one ∙ sym (known.unpainted setup old.windows.picture.painted);
  others = λ guest other mine apart. let no : true ≡ false = sym mine ∙ known.of_none guest in absurd (cc);
  sizes = record {
    guests = kept.count ∙ ap guests_of one;
    pages = ap (λ (s : SessionView). s.sizes.pages) (kept.rest 0) ∙ ap pages_of one;
  };
}
  where
    known : IsEvent i
    known = event-is i is

    done : (setup : Setup) (state : DeskState) → Stands setup old frames state → StepsTo takes out out' setup new frames (event setup i (count_item state))
    done setup state stands =
        let D : DeskView → Type 0 = λ d. IsAtRest setup d frames (count_item state) in
        event-steps takes out out' i counted new took kept setup frames (count_item state) (subst D (sym one) (counted-rest setup old frames state stands))
