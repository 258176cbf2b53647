-- Items, each with what it does.
use Rattle.std.proofs.Common.{◌≡◌, ◌≢◌, ℕ, true, Option, Some, None, List, [], ◌∷◌, map, ◌+◌, refl, sym, ◌∙◌, ap, subst}
use Rattle.std.proofs.lemmas.Bool.{eqb-true}
use Rattle.gui_num.specs.declared.Rect.{Rect}
use Rattle.desk_laws.specs.declared.cause.Cause.{Cause}
use Rattle.desk_laws.specs.declared.cause.Cause.TheVariants.{StreamEnded, LinkFailed}
use Rattle.desk_laws.specs.declared.item.Item.{Item}
use Rattle.desk_laws.specs.declared.item.Item.TheVariants as items
use Rattle.desk_laws.specs.declared.setup.Setup.{Setup}
use Rattle.desk_laws.specs.Edges.{EdgesStayApart}
use Rattle.desk_laws.specs.Endings.{is_item_of}
use Rattle.desk_laws.specs.Frames.{PortState, counted}
use Rattle.desk_laws.specs.Layers.{Layers}
use Rattle.desk_laws.specs.Rows.{Row}
use Rattle.desk_laws.specs.Scene.{Post, Scene, Closing, Losing}
use Rattle.desk_laws.specs.Settle.{IsSettled}
use Rattle.desk_laws.specs.Sizes.{sizes_of}
use Rattle.desk_laws.specs.State.{DeskState, StepOutcome, count_item, session_of}
use Rattle.desk_laws.specs.Steps.{picture_post, step, end_session, store_of_open, take_bytes, take_store}
use Rattle.desk_laws.proofs.EdgeLemmas.{pictures-keep_edges}
use Rattle.desk_laws.proofs.SoundLemmas.{steps-keep_sound}
use Rattle.io_ports.specs.Posts.{Leads}
use Rattle.compositor.specs.PictureView.{shown_area}
use Rattle.desk_core.specs.DeskView.{DeskView, guests_of, pages_of, session_in}
use Rattle.desk_core.specs.WindowsView as of_windows
use Rattle.desk_core.specs.WindowsView.{ChangesPart, WindowsView}
use Rattle.desk_core.specs.DeskPosts.{guest_posts}
use Rattle.desk_core.specs.DeskStands.{IsAtRest, Stands, StepsTo, counted_in}
use Rattle.desk_core.specs.WindowsStand.{AreAtRest, StoresTo}
use Rattle.desk_core.specs.ItemSteps.{TakesItem}
use Rattle.desk_core.specs.Painting.{painted_after, plane}
use Rattle.desk_core.specs.Settling.{HasSeat}
use Rattle.desk_core.proofs.JoinLemmas.{alone-pages}
use Rattle.desk_core.proofs.StandLemmas.{counts-rest, picture-rest}

-- between items every guest is at rest
pub at-rest : (setup : Setup) (desk : DeskView) (frames : ℕ → PortState) (state : DeskState) → Stands setup desk frames state → IsAtRest setup desk frames state
at-rest setup desk frames state stands = record { windows = stands.windows; seated = stands.seated }

-- the same once an item counts
pub counted-rest : (setup : Setup) (desk : DeskView) (frames : ℕ → PortState) (state : DeskState) → Stands setup desk frames state → IsAtRest setup (counted_in desk) frames (count_item state)
counted-rest setup desk frames state stands = record {
  windows = counts-rest setup desk.windows frames state stands.windows;
  seated = record { same = stands.seated.same; settled = stands.seated.settled };
}

-- ---- an item of one guest

module _ {O : Type 0} (takes : O → Post → O → Type 0) (out out' : O) (guest : ℕ) (piece : List ℕ) (old counted new : DeskView) (frames frames' : ℕ → PortState) (one : counted ≡ counted_in old) (alone : ChangesPart guest counted.windows new.windows) (unread : (other : ℕ) → other ≢ guest → frames' other ≡ frames other) where
  -- an item that leads to this
  own-item : (item : Item) (outcome : Setup → DeskState → StepOutcome) → ((g : ℕ) → is_item_of g item ≡ true → guest ≡ g) → (item ≡ items.Snap → ⊥)
      → ((setup : Setup) (state : DeskState) → step setup item piece state ≡ outcome setup (count_item state)) → ((setup : Setup) (n : ℕ) → painted_after setup item n ≡ n)
      → ((setup : Setup) (state : DeskState) → IsAtRest setup counted frames state → StepsTo takes out out' setup new frames' (outcome setup state))
      → TakesItem takes out out' item piece old new frames frames'
  own-item item outcome own undrawn is unpainted took = record {
    rests = λ setup state stands. let P : StepOutcome → Type 0 = λ o. IsAtRest setup new frames' o.desk in subst P (sym (is setup state)) (done setup state stands).0;
    posts = λ setup state stands. let P : StepOutcome → Type 0 = λ o. Leads takes out (guest_posts o.posts) out' in subst P (sym (is setup state)) (done setup state stands).1;
    drawn = λ snap setup state stands. absurd (undrawn snap);
    painted = λ setup state stands. ap (λ (w : WindowsView). w.picture.painted) alone.rest ∙ ap (λ (d : DeskView). d.windows.picture.painted) one ∙ sym (unpainted setup old.windows.picture.painted);
    others = λ g other mine apart.
        let besides : other ≢ guest = λ same. apart (same ∙ own g mine) in
        record { session = alone.others other besides ∙ ap (session_in other) one; frames = unread other besides };
    sizes = record { guests = alone.guests ∙ ap guests_of one; pages = alone-pages guest counted.windows new.windows alone ∙ ap pages_of one };
  }
    where
      done : (setup : Setup) (state : DeskState) → Stands setup old frames state → StepsTo takes out out' setup new frames' (outcome setup (count_item state))
      done setup state stands =
          let D : DeskView → Type 0 = λ d. IsAtRest setup d frames (count_item state) in
          took setup (count_item state) (subst D (sym one) (counted-rest setup old frames state stands))

  pub bytes-item : (item : Item) → item ≡ items.Bytes guest
      → ((setup : Setup) (state : DeskState) → IsAtRest setup counted frames state → StepsTo takes out out' setup new frames' (take_bytes setup guest piece state))
      → TakesItem takes out out' item piece old new frames frames'
  bytes-item item is took =
      let P : Item → Type 0 = λ i. TakesItem takes out out' i piece old new frames frames' in
      subst P (sym is) (own-item (items.Bytes guest) (λ setup state. take_bytes setup guest piece state) (λ g mine. eqb-true guest g mine) (λ snap. cc) (λ setup state. refl) (λ setup n. refl) took)

  pub closed-item : (item : Item) → item ≡ items.Closed guest
      → ((setup : Setup) (state : DeskState) → IsAtRest setup counted frames state → StepsTo takes out out' setup new frames' (end_session setup guest Closing (StreamEnded 0 0) state))
      → TakesItem takes out out' item piece old new frames frames'
  closed-item item is took =
      let P : Item → Type 0 = λ i. TakesItem takes out out' i piece old new frames frames' in
      subst P (sym is) (own-item (items.Closed guest) (λ setup state. end_session setup guest Closing (StreamEnded 0 0) state) (λ g mine. eqb-true guest g mine) (λ snap. cc) (λ setup state. refl) (λ setup n. refl) took)

  pub lost-item : (item : Item) → item ≡ items.Lost guest
      → ((setup : Setup) (state : DeskState) → IsAtRest setup counted frames state → StepsTo takes out out' setup new frames' (end_session setup guest Losing (LinkFailed 0 0) state))
      → TakesItem takes out out' item piece old new frames frames'
  lost-item item is took =
      let P : Item → Type 0 = λ i. TakesItem takes out out' i piece old new frames frames' in
      subst P (sym is) (own-item (items.Lost guest) (λ setup state. end_session setup guest Losing (LinkFailed 0 0) state) (λ g mine. eqb-true guest g mine) (λ snap. cc) (λ setup state. refl) (λ setup n. refl) took)

  pub store-item : (item : Item) (delay page offset : ℕ) → item ≡ items.Store guest delay page offset
      → ((setup : Setup) (state : DeskState) → IsAtRest setup counted frames state → StepsTo takes out out' setup new frames' (take_store guest delay page offset piece state))
      → TakesItem takes out out' item piece old new frames frames'
  store-item item delay page offset is took =
      let P : Item → Type 0 = λ i. TakesItem takes out out' i piece old new frames frames' in
      subst P (sym is) (own-item (items.Store guest delay page offset) (λ setup state. take_store guest delay page offset piece state) (λ g mine. eqb-true guest g mine) (λ snap. cc) (λ setup state. refl) (λ setup n. refl) took)

-- a change of frames changes nothing on the desktop
pub stored-scene : (guest delay page offset : ℕ) (bytes : List ℕ) (state : DeskState) → (take_store guest delay page offset bytes state).desk.scene ≡ state.scene
stored-scene guest delay page offset bytes state = by_end (session_of guest state).ended
  where
    by_end : (e : Option Cause) → (store_of_open guest delay page offset bytes e state).desk.scene ≡ state.scene
    by_end None = refl
    by_end (Some cause) = refl

-- a change of frames tells nobody anything
pub stores-steps : {O : Type 0} (takes : O → Post → O → Type 0) (out : O) (setup : Setup) (desk : DeskView) (frames : ℕ → PortState) (state : DeskState) (outcome : StepOutcome) → HasSeat setup desk.seat state
    → StoresTo setup desk.windows frames outcome → outcome.desk.scene ≡ state.scene → StepsTo takes out out setup desk frames outcome
stores-steps takes out setup desk frames state outcome seated stored same =
    let P : List Post → Type 0 = λ ps. Leads takes out (guest_posts ps) out in
    let S : Scene → Type 0 = λ s. IsSettled (sizes_of setup) s in (
      record { windows = stored.0; seated = record { same = ap (λ (s : Scene). s.seat) same ∙ seated.same; settled = subst S (sym same) seated.settled } },
      subst P (sym stored.1) refl,
    )

-- ---- an item of no guest

-- pictures are for no guest
pictures-none : (setup : Setup) (rows : List Row) (layers : Layers) (outputs : List Rect) → guest_posts (map (picture_post setup rows layers) outputs) ≡ []
pictures-none setup rows layers [] = refl
pictures-none setup rows layers (output ∷ outputs) = pictures-none setup rows layers outputs

-- the picture is drawn
pub snap-item : {O : Type 0} (takes : O → Post → O → Type 0) (out : O) (item : Item) (piece : List ℕ) (old counted-old new : DeskView) (frames : ℕ → PortState) → item ≡ items.Snap → counted-old ≡ counted_in old
    → new ≡ record counted-old { windows = record counted-old.windows { picture = new.windows.picture } }
    → (new.windows.picture.width ≡ counted-old.windows.picture.width) × (new.windows.picture.height ≡ counted-old.windows.picture.height) × (new.windows.picture.background ≡ counted-old.windows.picture.background) × (new.windows.picture.outputs ≡ counted-old.windows.picture.outputs)
    → new.windows.picture.painted ≡ counted (counted-old.windows.picture.painted + shown_area counted-old.windows.picture.outputs)
    → ((setup : Setup) (frames : ℕ → PortState) (state : DeskState) → AreAtRest setup counted-old.windows frames state → new.windows.picture.pixels ≡ plane setup state.scene.rows state.scene.layers)
    → TakesItem takes out out item piece old new frames frames
snap-item takes out item piece old counted-old new frames is one same sides painted pixels =
    let P : Item → Type 0 = λ i. TakesItem takes out out i piece old new frames frames in
    let drawn : new.windows ≡ record counted-old.windows { picture = new.windows.picture } = ap (λ (d : DeskView). d.windows) same in
    subst P (sym is) (record {
      rests = λ setup state stands.
          let rests = after setup state stands in
          record {
            windows = picture-rest setup counted-old.windows new.windows frames (count_item state) drawn sides rests.windows;
            seated = record { same = rests.seated.same ∙ sym (ap (λ (d : DeskView). d.seat) same); settled = rests.seated.settled };
          };
      posts = λ setup state stands.
          let L : List Post → Type 0 = λ ps. Leads takes out ps out in
          subst L (sym (pictures-none setup state.scene.rows state.scene.layers setup.outputs)) refl;
      drawn = λ snap setup state stands. pixels setup frames (count_item state) (after setup state stands).windows;
      painted = λ setup state stands.
          let n = (after setup state stands).windows.with_rest.numbers in
          painted ∙ ap (λ p. counted (p + shown_area counted-old.windows.picture.outputs)) (ap (λ (d : DeskView). d.windows.picture.painted) one)
          ∙ ap (λ os. counted (old.windows.picture.painted + shown_area os)) n.outputs;
      others = λ g other mine apart. absurd (cc);
      sizes = record {
        guests = ap of_windows.guests_of drawn ∙ ap guests_of one;
        pages = ap of_windows.pages_of drawn ∙ ap pages_of one;
      };
    })
  where
    after : (setup : Setup) (state : DeskState) → Stands setup old frames state → IsAtRest setup counted-old frames (count_item state)
    after setup state stands =
        let D : DeskView → Type 0 = λ d. IsAtRest setup d frames (count_item state) in
        subst D (sym one) (counted-rest setup old frames state stands)

-- the input ended: nothing but the count changed
pub end-item : {O : Type 0} (takes : O → Post → O → Type 0) (out : O) (item : Item) (piece : List ℕ) (old new : DeskView) (frames : ℕ → PortState) → item ≡ items.End → new ≡ counted_in old
    → TakesItem takes out out item piece old new frames frames
end-item takes out item piece old new frames is one =
    let P : Item → Type 0 = λ i. TakesItem takes out out i piece old new frames frames in
    let D : DeskView → Type 0 = λ d. TakesItem takes out out items.End piece old d frames frames in
    subst P (sym is) (subst D (sym one) (record {
      rests = λ setup state stands. counted-rest setup old frames state stands;
      posts = λ setup state stands. refl;
      drawn = λ snap setup state stands. absurd (cc);
      painted = λ setup state stands. refl;
      others = λ g other mine apart. absurd (cc);
      sizes = record { guests = refl; pages = refl };
    }))

-- the input paused: nothing changes
pub idle-item : {O : Type 0} (takes : O → Post → O → Type 0) (out : O) (item : Item) (piece : List ℕ) (desk : DeskView) (frames : ℕ → PortState) → item ≡ items.Idle → TakesItem takes out out item piece desk desk frames frames
idle-item takes out item piece desk frames is =
    let P : Item → Type 0 = λ i. TakesItem takes out out i piece desk desk frames frames in
    subst P (sym is) (record {
      rests = λ setup state stands. at-rest setup desk frames state stands;
      posts = λ setup state stands. refl;
      drawn = λ snap setup state stands. absurd (cc);
      painted = λ setup state stands. refl;
      others = λ g other mine apart. absurd (cc);
      sizes = record { guests = refl; pages = refl };
    })

-- ---- what is known of each item

-- a desk at rest after an item stands for the state after it
pub stands-after : (setup : Setup) (desk desk' : DeskView) (frames frames' : ℕ → PortState) (state : DeskState) (item : Item) (piece : List ℕ)
    → Stands setup desk frames state → IsAtRest setup desk' frames' (step setup item piece state).desk → Stands setup desk' frames' (step setup item piece state).desk
stands-after setup desk desk' frames frames' state item piece stands rests = record {
  windows = rests.windows;
  seated = rests.seated;
  sound = steps-keep_sound setup item piece state stands.sound;
}

-- contents of two windows never touch
pub edges-apart : (setup : Setup) (desk : DeskView) (frames : ℕ → PortState) (state : DeskState) → Stands setup desk frames state → EdgesStayApart setup.border state.scene.rows state.scene.layers
edges-apart setup desk frames state stands = pictures-keep_edges setup.border state.scene.rows state.scene.layers stands.windows.with_rest.numbers.wide
