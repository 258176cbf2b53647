-- What is written for an item, from what guests are told and what the program writes itself.
use Rattle.std.proofs.Common.{◌≡◌, ℕ, ◌≤◌, List, [], ◌++◌, map, Option, Result, Ok, Err, true, inl, inr, refl, sym, ◌∙◌, ap, subst, arith}
use Rattle.std.specs.Prelude.{◌⊎◌, OnOk, OnErr}
use Rattle.std.specs.List.{All}
use Rattle.std.proofs.lemmas.List.{append-nil}
use Rattle.desk_laws.specs.declared.setup.Setup.{Setup}
use Rattle.desk_laws.specs.declared.item.Item.{Item}
use Rattle.desk_laws.specs.declared.item.Item.TheVariants as items
use Rattle.desk_laws.specs.Scene.{Counts}
use Rattle.desk_laws.specs.Frames.{PortState}
use Rattle.desk_laws.specs.State.{DeskState, count_item}
use Rattle.desk_laws.specs.Steps.{picture_post, step}
use Rattle.io_ports.specs.declared.source.Failed.{Failed}
use Rattle.io_ports.specs.Content.{Grows, GrowsPart, IsPrefix}
use Rattle.io_ports.specs.Counts.{HasCause}
use Rattle.io_ports.proofs.GrowLemmas.{grows_on, part_behind, part_front, prefix_self, prefix_nil}
use Rattle.desk_core.specs.DeskView.{DeskView, picture_of}
use Rattle.desk_core.specs.declared.summary.Summary.{Summary}
use Rattle.desk_core.specs.declared.desk.Stepped.{Stepped}
use Rattle.desk_core.specs.declared.desk.Stepped.TheVariants as stepped
use Rattle.desk_core.specs.DeskStands.{Stands, stepped_of}
use Rattle.replay_driver.specs.ItemWrites.{Wrote, StepWrites, guest_bytes_of, step_bytes}
use Rattle.output_laws.specs.RunRecords.{CausesFit}
use Rattle.record_format.specs.OutputGrammar.{posts_bytes, summary_record}
use Rattle.desk_core.specs.Painting.{painted_after, plane}
use Rattle.compositor.specs.PictureView.{PictureView, LiesIn}
use Rattle.replay_driver.proofs.DeskFacts.{width_is, height_is, outputs_is}
use Rattle.replay_driver.specs.PictureRecords.{picture_records}
use Rattle.replay_driver.proofs.PlanePictures.{records_are}
use Rattle.replay_driver.proofs.SnapPosts.{pictures_told}
use Rattle.replay_driver.proofs.GuestPosts.{is_quiet, quiet_bytes}
use Rattle.replay_driver.proofs.WriterLemmas.{rose_before}

-- an item is quiet, or it is Snap or End, by its answer
pub quiet_is : (item : Item) → stepped.Going ≡ stepped_of item → is_quiet item ≡ true
quiet_is (items.Bytes guest) is = refl
quiet_is (items.Closed guest) is = refl
quiet_is (items.Store guest delay page offset) is = refl
quiet_is (items.Key down code state) is = refl
quiet_is (items.Move x y state) is = refl
quiet_is (items.Press down button state) is = refl
quiet_is items.Close is = refl
quiet_is items.Next is = refl
quiet_is items.Restore is = refl
quiet_is (items.MoveTo x y) is = refl
quiet_is (items.SizeTo w h) is = refl
quiet_is items.Snap is = absurd (cc)
quiet_is items.End is = absurd (cc)
quiet_is (items.Lost guest) is = refl
quiet_is items.Idle is = refl

-- an item is quiet, Snap or End
pub kind_of : (item : Item) → (is_quiet item ≡ true) ⊎ ((item ≡ items.Snap) ⊎ (item ≡ items.End))
kind_of (items.Bytes guest) = inl refl
kind_of (items.Closed guest) = inl refl
kind_of (items.Store guest delay page offset) = inl refl
kind_of (items.Key down code state) = inl refl
kind_of (items.Move x y state) = inl refl
kind_of (items.Press down button state) = inl refl
kind_of items.Close = inl refl
kind_of items.Next = inl refl
kind_of items.Restore = inl refl
kind_of (items.MoveTo x y) = inl refl
kind_of (items.SizeTo w h) = inl refl
kind_of items.Snap = inr (inl refl)
kind_of items.End = inr (inr refl)
kind_of (items.Lost guest) = inl refl
kind_of items.Idle = inl refl

going_of : (item : Item) → is_quiet item ≡ true → stepped_of item ≡ stepped.Going
going_of (items.Bytes guest) quiet = refl
going_of (items.Closed guest) quiet = refl
going_of (items.Store guest delay page offset) quiet = refl
going_of (items.Key down code state) quiet = refl
going_of (items.Move x y state) quiet = refl
going_of (items.Press down button state) quiet = refl
going_of items.Close quiet = refl
going_of items.Next quiet = refl
going_of items.Restore quiet = refl
going_of (items.MoveTo x y) quiet = refl
going_of (items.SizeTo w h) quiet = refl
going_of items.Snap quiet = absurd (cc)
going_of items.End quiet = absurd (cc)
going_of (items.Lost guest) quiet = refl
going_of items.Idle quiet = refl

pub snap_is : (item : Item) → stepped.Snap ≡ stepped_of item → item ≡ items.Snap
snap_is item is = elim (kind_of item) [
  | inl quiet ↦ absurd (let e : stepped.Snap ≡ stepped.Going = is ∙ going_of item quiet in cc)
  | inr (inl snap) ↦ snap
  | inr (inr end) ↦ absurd (let e : stepped.Snap ≡ stepped.Ended = is ∙ ap stepped_of end in cc)
]

pub end_is : (item : Item) → stepped.Ended ≡ stepped_of item → item ≡ items.End
end_is item is = elim (kind_of item) [
  | inl quiet ↦ absurd (let e : stepped.Ended ≡ stepped.Going = is ∙ going_of item quiet in cc)
  | inr (inl snap) ↦ absurd (let e : stepped.Ended ≡ stepped.Snap = is ∙ ap stepped_of snap in cc)
  | inr (inr end) ↦ end
]

-- no guest is told of Snap
snap_told : (setup : Setup) (item : Item) (piece : List ℕ) (state : DeskState) → item ≡ items.Snap → guest_bytes_of setup item piece state ≡ []
snap_told setup item piece state snap =
    ap (λ (i : Item). guest_bytes_of setup i piece state) snap ∙ ap (posts_bytes 0) (pictures_told setup state.scene.rows state.scene.layers setup.outputs)

-- what guests are told is the first of what a step gives
told_first : (setup : Setup) (p : ℕ) (item : Item) (piece : List ℕ) (state : DeskState) → IsPrefix (guest_bytes_of setup item piece state) (step_bytes p setup item piece state)
told_first setup p item piece state = elim (kind_of item) [
  | inl quiet ↦ subst (λ (l : List ℕ). IsPrefix (guest_bytes_of setup item piece state) l) (quiet_bytes setup 0 p item piece state quiet) (prefix_self (guest_bytes_of setup item piece state))
  | inr (inl snap) ↦ subst (λ (l : List ℕ). IsPrefix l (step_bytes p setup item piece state)) (sym (snap_told setup item piece state snap)) (prefix_nil _)
  | inr (inr end) ↦ subst (λ (i : Item). IsPrefix (guest_bytes_of setup i piece state) (step_bytes p setup i piece state)) (sym end) (prefix_nil _)
]

pub wrote_of : {T : Type 0} (r : Result T Failed) (bytes : List ℕ) (before after : Option (List ℕ)) → OnOk r (Grows before bytes after) → OnErr r (GrowsPart before bytes after) → Wrote r bytes before after
wrote_of (Ok x) bytes before after ok err = ok
wrote_of (Err e) bytes before after ok err = err

wrote_behind : {T : Type 0} (r : Result T Failed) (xs ys whole : List ℕ) (a b c : Option (List ℕ)) → Grows a xs b → Wrote r ys b c → xs ++ ys ≡ whole → Wrote r whole a c
wrote_behind (Ok x) xs ys whole a b c first second is = grows_on a b c xs ys whole first second is
wrote_behind (Err e) xs ys whole a b c first second is = part_behind a b c xs ys whole first second is

cause_behind : {T : Type 0} (r : Result T Failed) (f g h : ℕ) → f ≤ g → HasCause g h r → HasCause f h r
cause_behind (Ok x) f g h le cause = record { later = omega (arith, cause.later); failed = tt }
cause_behind (Err e) f g h le cause = record { later = omega (arith, cause.later); failed = rose_before f g h le cause.failed }

-- ---- the four ways

pub item_failed : {T : Type 0} (setup : Setup) (p : ℕ) (item : Item) (piece : List ℕ) (state : DeskState) (old new : DeskView) (frames : ℕ → PortState) (e : Failed) (a b : Option (List ℕ)) (f g : ℕ) (keeps : Type 0)
    → StepWrites {T = Stepped} setup item piece state old new frames (Err e) (guest_bytes_of setup item piece state) a b f g keeps
    → StepWrites {T = T} setup item piece state old new frames (Err e) (step_bytes p setup item piece state) a b f g keeps
item_failed setup p item piece state old new frames e a b f g keeps told = record {
  stands = told.stands;
  causes = told.causes;
  painted = told.painted;
  wrote = part_front a b (guest_bytes_of setup item piece state) _ told.wrote (told_first setup p item piece state);
  cause = record { later = told.cause.later; failed = told.cause.failed };
  keeps_sink = told.keeps_sink;
}

pub item_going : (setup : Setup) (p : ℕ) (item : Item) (piece : List ℕ) (state : DeskState) (old new : DeskView) (frames : ℕ → PortState) (answer : Stepped) (a b : Option (List ℕ)) (f g : ℕ) (keeps : Type 0)
    → StepWrites {T = Stepped} setup item piece state old new frames (Ok answer) (guest_bytes_of setup item piece state) a b f g keeps → stepped.Going ≡ stepped_of item
    → StepWrites {T = Unit {0}} setup item piece state old new frames (Ok tt) (step_bytes p setup item piece state) a b f g keeps
item_going setup p item piece state old new frames answer a b f g keeps told is = record {
  stands = told.stands;
  causes = told.causes;
  painted = told.painted;
  wrote = subst (λ (l : List ℕ). Grows a l b) (quiet_bytes setup 0 p item piece state (quiet_is item is)) told.wrote;
  cause = record { later = told.cause.later; failed = tt };
  keeps_sink = told.keeps_sink;
}

pub item_snap : (setup : Setup) (p : ℕ) (item : Item) (piece : List ℕ) (state : DeskState) (old new : DeskView) (frames : ℕ → PortState) (answer : Stepped) (view : PictureView) (r : Result (Unit {0}) Failed) (a b c : Option (List ℕ)) (f g h : ℕ) (keeps keeps' : Type 0)
    → StepWrites {T = Stepped} setup item piece state old new frames (Ok answer) (guest_bytes_of setup item piece state) a b f g keeps → item ≡ items.Snap
    → view ≡ picture_of new → (picture_of new).pixels ≡ plane setup state.scene.rows state.scene.layers
    → All (LiesIn (picture_of new).width (picture_of new).height) (picture_of new).outputs
    → Wrote r (picture_records view) b c → HasCause g h r → (keeps → keeps')
    → StepWrites {T = Unit {0}} setup item piece state old new frames r (step_bytes p setup item piece state) a c f h keeps'
item_snap setup p item piece state old new frames answer view r a b c f g h keeps keeps' told snap shows drawn placed wrote cause on =
    let records : picture_records view ≡ posts_bytes p (map (picture_post setup state.scene.rows state.scene.layers) setup.outputs) =
    ap picture_records shows
    ∙ records_are setup state.scene.rows state.scene.layers p (picture_of new) (width_is setup new frames _ told.stands) (height_is setup new frames _ told.stands)
    (outputs_is setup new frames _ told.stands) drawn placed in
    let whole : guest_bytes_of setup item piece state ++ picture_records view ≡ step_bytes p setup item piece state =
    ap (λ (l : List ℕ). l ++ picture_records view) (snap_told setup item piece state snap) ∙ records ∙ ap (λ (i : Item). step_bytes p setup i piece state) (sym snap) in
    record {
      stands = told.stands;
      causes = told.causes;
      painted = told.painted;
      wrote = wrote_behind r _ _ _ a b c told.wrote wrote whole;
      cause = cause_behind r f g h told.cause.later cause;
      keeps_sink = on told.keeps_sink;
    }

-- the counts, with that of the picture
abbrev pub summary_with : Counts → ℕ → Summary
summary_with counts painted = record { items = counts.items; messages = counts.messages; glances = counts.glances; painted = painted }

pub item_ended : (setup : Setup) (item : Item) (piece : List ℕ) (state : DeskState) (old new : DeskView) (frames : ℕ → PortState) (answer : Stepped) (summary : Summary) (r : Result (Unit {0}) Failed) (a b c : Option (List ℕ)) (f g h : ℕ) (keeps keeps' : Type 0)
    → StepWrites {T = Stepped} setup item piece state old new frames (Ok answer) (guest_bytes_of setup item piece state) a b f g keeps → item ≡ items.End
    → ((setup : Setup) (frames : ℕ → PortState) (state : DeskState) → Stands setup new frames state → summary ≡ summary_with state.counts (picture_of new).painted)
    → Wrote r (summary_record (record { items = summary.items; messages = summary.messages; glances = summary.glances }) summary.painted) b c → HasCause g h r → (keeps → keeps')
    → StepWrites {T = Unit {0}} setup item piece state old new frames r (step_bytes (picture_of new).painted setup item piece state) a c f h keeps'
item_ended setup item piece state old new frames answer summary r a b c f g h keeps keeps' told end sums wrote cause on =
    let p = (picture_of new).painted in
    let none : guest_bytes_of setup item piece state ≡ [] = ap (λ (i : Item). guest_bytes_of setup i piece state) end in
    let bytes_of = λ (s : Summary). summary_record (record { items = s.items; messages = s.messages; glances = s.glances }) s.painted in
    let record_is : bytes_of summary ≡ summary_record (step setup item piece state).desk.counts p = ap bytes_of (sums setup frames _ told.stands) in
    let counts : summary_record (step setup item piece state).desk.counts p ≡ summary_record (count_item state).counts p =
    ap (λ (i : Item). summary_record (step setup i piece state).desk.counts p) end in
    let whole : guest_bytes_of setup item piece state ++ bytes_of summary ≡ step_bytes p setup item piece state =
    ap (λ (l : List ℕ). l ++ bytes_of summary) none ∙ record_is ∙ counts
    ∙ sym (append-nil (summary_record (count_item state).counts p)) ∙ ap (λ (i : Item). step_bytes p setup i piece state) (sym end) in
    record {
      stands = told.stands;
      causes = told.causes;
      painted = told.painted;
      wrote = wrote_behind r _ _ _ a b c told.wrote wrote whole;
      cause = cause_behind r f g h told.cause.later cause;
      keeps_sink = on told.keeps_sink;
    }

-- what a writer wrote to the sink that it lends, as the sink's
pub told_to : {O T : Type 0} (written : O → Option (List ℕ)) (faults : O → ℕ) (keeps : O → O → Type 0) (setup : Setup) (item : Item) (piece : List ℕ) (state : DeskState) (old new : DeskView) (frames : ℕ → PortState)
    (r : Result T Failed) (bytes : List ℕ) (a m b : O) → b ≡ m → Wrote r bytes (written a) (written m) × HasCause (faults a) (faults m) r → keeps a m
    → Stands setup new frames (step setup item piece state).desk → CausesFit (step setup item piece state).posts → (picture_of new).painted ≡ painted_after setup item (picture_of old).painted
    → StepWrites setup item piece state old new frames r bytes (written a) (written b) (faults a) (faults b) (keeps a b)
told_to {O} written faults keeps setup item piece state old new frames r bytes a m b is wrote kept stands causes painted = record {
  stands = stands;
  causes = causes;
  painted = painted;
  wrote = subst (λ (o : O). Wrote r bytes (written a) (written o)) (sym is) wrote.0;
  cause = subst (λ (o : O). HasCause (faults a) (faults o) r) (sym is) wrote.1;
  keeps_sink = subst (λ (o : O). keeps a o) (sym is) kept;
}
