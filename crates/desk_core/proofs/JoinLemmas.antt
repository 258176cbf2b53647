-- One guest's new part, and what the others had, make a whole desk.
use Rattle.std.proofs.Common.{◌≡◌, ◌≢◌, ℕ, ◌*◌, ◌<◌, ◌≤◌, Bool, true, false, ◌==◌, List, length, None, refl, sym, ◌∙◌, ap, subst, arith, length-set, get_or-set_same}
use Rattle.std.specs.Prelude.{if◌then◌else◌, slice_get}
use Rattle.std.proofs.lemmas.Bool.{eqb-true, eqb-false}
use Rattle.std.proofs.lemmas.Bool.Decides.{nat_tests}
use Rattle.std.proofs.lemmas.List.{get_or-set_other}
use Rattle.desk_laws.specs.declared.setup.Setup.{Setup}
use Rattle.desk_laws.specs.Stream.{front, Wait}
use Rattle.desk_laws.specs.Rows.{mine}
use Rattle.desk_laws.specs.Frames.{PortState}
use Rattle.desk_laws.specs.State.{DeskState, Session, session_of}
use Rattle.desk_laws.proofs.FollowChanges.{follow-few}
use Rattle.guest_session.specs.SessionView.{SessionView}
use Rattle.desk_core.specs.WindowsView.{WindowsView, PartView, ChangesPart, guests_of, no_session, pages_of, part_of, put, session_in, with_part}
use Rattle.desk_core.specs.WindowsStand.{PartStands, StandsWith, AreAtRest, HasNumbers, rests_of}
use Rattle.desk_core.specs.Pieces.{LeavesOthers}
use Rattle.desk_core.proofs.OwnRows.{itself, rows-few}

-- ---- one value for a guest, and others for the others

pub put-same : {A : Type 0} (guest : ℕ) (x : A) (f : ℕ → A) → put guest x f guest ≡ x
put-same guest x f = ap (λ b. if b then x else f guest) (itself guest)

differs : (g guest : ℕ) → g ≢ guest → (g == guest) ≡ false
differs g guest apart = grind (arith, nat_tests)

pub put-other : {A : Type 0} (guest : ℕ) (x : A) (f : ℕ → A) (g : ℕ) → g ≢ guest → put guest x f g ≡ f g
put-other guest x f g apart = ap (λ b. if b then x else f g) (differs g guest apart)

-- ---- a guest's part of the desk

-- the desk with another part has it, and nothing else is changed
pub part-in : (guest : ℕ) (part : PartView) (desk : WindowsView) → guest < guests_of desk → part_of guest (with_part guest part desk) ≡ part
part-in guest part desk there = ap (λ (s : SessionView). record part { session = s }) (get_or-set_same desk.sessions guest part.session no_session there)

pub part-alone : (guest : ℕ) (part : PartView) (desk : WindowsView) → guest < guests_of desk → part.session.sizes ≡ (session_in guest desk).sizes → ChangesPart guest desk (with_part guest part desk)
part-alone guest part desk there sizes = record {
  rest = refl;
  guests = length-set desk.sessions guest part.session;
  sizes = ap (λ (s : SessionView). s.sizes) (get_or-set_same desk.sessions guest part.session no_session there) ∙ sizes;
  others = λ other apart. get_or-set_other desk.sessions guest other part.session no_session apart;
}

pub alone-none : (guest : ℕ) (desk : WindowsView) → ChangesPart guest desk desk
alone-none guest desk = record { rest = refl; guests = refl; sizes = refl; others = λ other apart. refl }

pub alone-both : (guest : ℕ) (a b c : WindowsView) → ChangesPart guest a b → ChangesPart guest b c → ChangesPart guest a c
alone-both guest a b c first next = record {
  rest = next.rest ∙ ap (λ (d : WindowsView). record d { sessions = c.sessions; layers = c.layers; gate = c.gate; messages = c.messages; glances = c.glances }) first.rest;
  guests = next.guests ∙ first.guests;
  sizes = next.sizes ∙ first.sizes;
  others = λ other apart. next.others other apart ∙ first.others other apart;
}

pub alone-pages : (guest : ℕ) (old new : WindowsView) → ChangesPart guest old new → pages_of new ≡ pages_of old
alone-pages guest old new alone = by_guest (0 == guest) refl
  where
    by_guest : (b : Bool) → (0 == guest) ≡ b → pages_of new ≡ pages_of old
    by_guest true is =
        let P : ℕ → Type 0 = λ g. (session_in g new).sizes.pages ≡ (session_in g old).sizes.pages in
        subst P (sym (eqb-true 0 guest is)) (ap (λ s. s.pages) alone.sizes)
    by_guest false is = ap (λ (s : SessionView). s.sizes.pages) (alone.others 0 (eqb-false 0 guest is))

-- ---- the parts of others

-- a part of another guest stands for the state after, with the lists and the counts that there are then
other-stands : (setup : Setup) (guest other : ℕ) (held behind : List ℕ) (part new : PartView) (port port' : PortState) (before after : DeskState) → other ≢ guest
    → PartStands setup other held part port before → PartStands setup guest behind new port' after → LeavesOthers guest before after
    → PartStands setup other held (record new { session = part.session }) port after
other-stands setup guest other held behind part new port port' before after apart old own leaves =
    let left = leaves.others other apart in
    record {
      there = omega (arith, leaves.sessions, old.there);
      sizes = old.sizes;
      owner = old.owner;
      own = old.own;
      rows = left.rows ∙ old.rows;
      apart = own.apart;
      layers = own.layers;
      followed = own.followed;
      gate = own.gate;
      ended = ap (λ (s : Session). s.ended) left.session ∙ old.ended;
      opened = λ going.
          let o = old.opened going in
          record {
            greeted = ap (λ (s : Session). s.greeted) left.session ∙ o.greeted;
            minor = ap (λ (s : Session). s.minor) left.session ∙ o.minor;
            stream = o.stream;
          };
      frames = ap (λ (s : Session). s.port) left.session ∙ old.frames;
      messages = own.messages;
      glances = own.glances;
      messages_in_range = own.messages_in_range;
      glances_in_range = own.glances_in_range;
    }

-- a guest's new part in the place of its old one
pub join : (setup : Setup) (guest : ℕ) (held held' : ℕ → List ℕ) (desk desk' : WindowsView) (frames frames' : ℕ → PortState) (before after : DeskState)
    → StandsWith setup held desk frames before → PartStands setup guest (held' guest) (part_of guest desk') (frames' guest) after → LeavesOthers guest before after → ChangesPart guest desk desk'
    → ((other : ℕ) → other ≢ guest → held' other ≡ held other) → ((other : ℕ) → other ≢ guest → frames' other ≡ frames other)
    → StandsWith setup held' desk' frames' after
join setup guest held held' desk desk' frames frames' before after stands own leaves alone kept unread = record {
  numbers = record {
    width = ap (λ (d : WindowsView). d.picture.width) alone.rest ∙ n.width;
    height = ap (λ (d : WindowsView). d.picture.height) alone.rest ∙ n.height;
    background = ap (λ (d : WindowsView). d.picture.background) alone.rest ∙ n.background;
    outputs = ap (λ (d : WindowsView). d.picture.outputs) alone.rest ∙ n.outputs;
    border = ap (λ (d : WindowsView). d.border) alone.rest ∙ n.border;
    denied = ap (λ (d : WindowsView). d.denied) alone.rest ∙ n.denied;
    labels = λ g below. ap (λ (d : WindowsView). slice_get d.labels g) alone.rest ∙ n.labels g below;
    wide = n.wide;
    narrow = n.narrow;
    most_columns = n.most_columns;
    most_rows = n.most_rows;
    guests = alone.guests ∙ n.guests;
    some = n.some;
    few = n.few;
  };
  count = leaves.sessions ∙ stands.count;
  parts = λ g below. by_guest g (g == guest) refl below;
  known = λ g above.
      let apart : g ≢ guest = λ same. omega (arith, same, above, own.there, leaves.sessions, stands.count) in
      (leaves.others g apart).rows ∙ stands.known g above;
  items = leaves.items ∙ stands.items ∙ sym (ap (λ (d : WindowsView). d.items) alone.rest);
}
  where
    n : HasNumbers setup desk
    n = stands.numbers

    by_guest : (g : ℕ) (b : Bool) → (g == guest) ≡ b → g < length setup.guests → PartStands setup g (held' g) (part_of g desk') (frames' g) after
    by_guest g true is below =
        let P : ℕ → Type 0 = λ x. PartStands setup x (held' x) (part_of x desk') (frames' x) after in
        subst P (sym (eqb-true g guest is)) own
    by_guest g false is below =
        let apart : g ≢ guest = eqb-false g guest is in
        let left = other-stands setup guest g (held g) (held' guest) (part_of g desk) (part_of guest desk') (frames g) (frames' guest) before after apart (stands.parts g below) own leaves in
        let S : SessionView → Type 0 = λ s. PartStands setup g (held g) (record (part_of guest desk') { session = s }) (frames g) after in
        let H : List ℕ → Type 0 = λ h. PartStands setup g h (part_of g desk') (frames g) after in
        let F : PortState → Type 0 = λ p. PartStands setup g (held' g) (part_of g desk') p after in
        subst F (sym (unread g apart)) (subst H (sym (kept g apart)) (subst S (sym (alone.others g apart)) left))

-- the same between items: the guest's session waits, too
pub join-rest : (setup : Setup) (guest : ℕ) (desk desk' : WindowsView) (frames frames' : ℕ → PortState) (before after : DeskState)
    → AreAtRest setup desk frames before → PartStands setup guest (session_of guest after).rest (part_of guest desk') (frames' guest) after
    → ((session_in guest desk').ended ≡ None → front (session_in guest desk').stream.greeted (session_of guest after).rest ≡ Wait)
    → LeavesOthers guest before after → ChangesPart guest desk desk' → ((other : ℕ) → other ≢ guest → frames' other ≡ frames other)
    → AreAtRest setup desk' frames' after
join-rest setup guest desk desk' frames frames' before after rests own waits leaves alone unread = record {
  with_rest = join setup guest (rests_of before) (rests_of after) desk desk' frames frames' before after rests.with_rest own leaves alone
      (λ other apart. ap (λ (s : Session). s.rest) (leaves.others other apart).session) unread;
  waits = λ g below. by_guest g (g == guest) refl below;
}
  where
    by_guest : (g : ℕ) (b : Bool) → (g == guest) ≡ b → g < length setup.guests → (session_in g desk').ended ≡ None → front (session_in g desk').stream.greeted (session_of g after).rest ≡ Wait
    by_guest g true is below =
        let P : ℕ → Type 0 = λ x. (session_in x desk').ended ≡ None → front (session_in x desk').stream.greeted (session_of x after).rest ≡ Wait in
        subst P (sym (eqb-true g guest is)) waits
    by_guest g false is below =
        let apart : g ≢ guest = eqb-false g guest is in
        let S : SessionView → Type 0 = λ s. s.ended ≡ None → front s.stream.greeted (session_of g after).rest ≡ Wait in
        let R : Session → Type 0 = λ s. (session_in g desk).ended ≡ None → front (session_in g desk).stream.greeted s.rest ≡ Wait in
        subst S (sym (alone.others g apart)) (subst R (sym (leaves.others g apart).session) (rests.waits g below))

-- ---- what is known of a desk that stands

module _ (setup : Setup) (held : ℕ → List ℕ) (desk : WindowsView) (frames : ℕ → PortState) (state : DeskState) (stands : StandsWith setup held desk frames state) where
  pub guest-known : (guest : ℕ) → guest < guests_of desk → guest < length setup.guests
  guest-known guest there = omega (arith, there, stands.numbers.guests)

  -- a guest's part
  pub part-stands : (guest : ℕ) → guest < guests_of desk → PartStands setup guest (held guest) (part_of guest desk) (frames guest) state
  part-stands guest there = stands.parts guest (guest-known guest there)

  -- the focus list has no more than the rows of all guests
  pub focus-few : length desk.layers.focus ≤ 1024 * guests_of desk
  focus-few =
      let first : 0 < guests_of desk = omega (arith, stands.numbers.guests, stands.numbers.some) in
      let part = part-stands 0 first in
      let own : (guest : ℕ) → guest < length setup.guests → length (mine guest state.scene.rows) ≤ 1024 =
      λ guest below. let p = stands.parts guest below in omega (arith, ap length p.rows, p.own.few) in
      let all : length state.scene.rows ≤ 1024 * length setup.guests = rows-few (length setup.guests) 1024 state.scene.rows own stands.known in
      omega (arith, follow-few state.scene.rows desk.layers part.followed part.apart, all, stands.numbers.guests)

-- the same bytes and frames by other names
pub alike : (setup : Setup) (held held' : ℕ → List ℕ) (windows : WindowsView) (frames frames' : ℕ → PortState) (state : DeskState) → StandsWith setup held windows frames state
    → ((guest : ℕ) → held' guest ≡ held guest) → ((guest : ℕ) → frames' guest ≡ frames guest) → StandsWith setup held' windows frames' state
alike setup held held' windows frames frames' state stands kept unread = record {
  numbers = stands.numbers;
  count = stands.count;
  parts = λ guest below.
      let H : List ℕ → Type 0 = λ h. PartStands setup guest h (part_of guest windows) (frames' guest) state in
      let F : PortState → Type 0 = λ p. PartStands setup guest (held guest) (part_of guest windows) p state in
      subst H (sym (kept guest)) (subst F (sym (unread guest)) (stands.parts guest below));
  known = stands.known;
  items = stands.items;
}

-- what a guest had, put in its own place
pub put-itself : {A : Type 0} (guest : ℕ) (f : ℕ → A) (g : ℕ) → put guest (f guest) f g ≡ f g
put-itself guest f g = by_guest (g == guest) refl
  where
    by_guest : (b : Bool) → (g == guest) ≡ b → (if b then f guest else f g) ≡ f g
    by_guest true is = ap f (sym (eqb-true g guest is))
    by_guest false is = refl

-- what another function has for a guest, where both agree on the others
pub put-agrees : {A : Type 0} (guest : ℕ) (f h : ℕ → A) → ((other : ℕ) → other ≢ guest → h other ≡ f other) → (g : ℕ) → put guest (h guest) f g ≡ h g
put-agrees guest f h agree g = by_guest (g == guest) refl
  where
    by_guest : (b : Bool) → (g == guest) ≡ b → (if b then h guest else f g) ≡ h g
    by_guest true is = ap h (sym (eqb-true g guest is))
    by_guest false is = sym (agree g (eqb-false g guest is))

-- a guest's own part, where its bytes and its frames are put in its place
pub own-part : (setup : Setup) (guest : ℕ) (held : List ℕ) (others : ℕ → List ℕ) (windows : WindowsView) (port : PortState) (frames : ℕ → PortState) (state : DeskState)
    → StandsWith setup (put guest held others) windows (put guest port frames) state → guest < guests_of windows → PartStands setup guest held (part_of guest windows) port state
own-part setup guest held others windows port frames state stands there =
    let H : List ℕ → Type 0 = λ h. PartStands setup guest h (part_of guest windows) (put guest port frames guest) state in
    let F : PortState → Type 0 = λ p. PartStands setup guest held (part_of guest windows) p state in
    subst F (put-same guest port frames) (subst H (put-same guest held others)
    (part-stands setup (put guest held others) windows (put guest port frames) state stands guest there))

-- a guest's new part in the place of its old one, its bytes and frames put in their place
pub join-put : (setup : Setup) (guest : ℕ) (held behind : List ℕ) (others : ℕ → List ℕ) (windows windows' : WindowsView) (port port' : PortState) (frames : ℕ → PortState) (before after : DeskState)
    → StandsWith setup (put guest held others) windows (put guest port frames) before → PartStands setup guest behind (part_of guest windows') port' after
    → LeavesOthers guest before after → ChangesPart guest windows windows'
    → StandsWith setup (put guest behind others) windows' (put guest port' frames) after
join-put setup guest held behind others windows windows' port port' frames before after stands own leaves alone =
    let H : List ℕ → Type 0 = λ h. PartStands setup guest h (part_of guest windows') (put guest port' frames guest) after in
    let F : PortState → Type 0 = λ p. PartStands setup guest behind (part_of guest windows') p after in
    join setup guest (put guest held others) (put guest behind others) windows windows' (put guest port frames) (put guest port' frames) before after stands
    (subst H (sym (put-same guest behind others)) (subst F (sym (put-same guest port' frames)) own)) leaves alone
    (λ other apart. put-other guest behind others other apart ∙ sym (put-other guest held others other apart))
    (λ other apart. put-other guest port' frames other apart ∙ sym (put-other guest port frames other apart))
