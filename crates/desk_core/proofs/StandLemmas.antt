-- How one guest's part of a desk keeps standing for a state.
use Rattle.std.proofs.Common.{◌≡◌, ℕ, ◌+◌, ◌-◌, ◌≤◌, ◌^◌, ◌||◌, true, List, length, map, Some, None, refl, sym, ◌∙◌, ap, subst, arith, length-set}
use Rattle.std.proofs.lemmas.List.{get_or-set_other}
use Rattle.std.specs.Prelude.{slice_get}
use Rattle.desk_laws.specs.declared.cause.Cause.{Cause}
use Rattle.desk_laws.specs.declared.setup.Setup.{Setup}
use Rattle.desk_laws.specs.Stream.{StreamUnit, Wait, front, is_greeting}
use Rattle.desk_laws.specs.Rows.{Row, id_of, mine, row_with, row_at}
use Rattle.desk_laws.specs.Layers.{Layers, followed, are_apart}
use Rattle.desk_laws.specs.Frames.{PortState, counted}
use Rattle.desk_laws.specs.Sizes.{sizes_of}
use Rattle.desk_laws.specs.Effects.{Effect, Change, changed}
use Rattle.desk_laws.specs.Following.{LayersFollow, ChangesOne, FollowsRow, after_row}
use Rattle.desk_laws.specs.State.{DeskState, Session, StepOutcome, on_desk, session_of, with_session, count_item, fresh}
use Rattle.desk_laws.specs.Steps.{clip_of_unit, counts_after, messages_of, session_after, unit_told}
use Rattle.desk_laws.proofs.UnitLemmas.{session-put}
use Rattle.desk_laws.proofs.FollowChanges.{lists-follow_one, row_with-mine}
use Rattle.in_stream.specs.Received.{StandsFor}
use Rattle.clipboard_gate.specs.Kept.{GateView, keeping}
use Rattle.guest_session.specs.SessionView.{SessionView, AreRows}
use Rattle.desk_core.specs.WindowsView.{WindowsView, PartView, part_of, session_in}
use Rattle.desk_core.specs.WindowsStand.{PartStands, StandsWith, AreAtRest, item_counted, rests_of}
use Rattle.desk_core.specs.Pieces.{LeavesOthers}
use Rattle.desk_core.specs.Stacked.{id_in}

-- what a unit told that ended nothing, before focus and hover are told
abbrev pub went_told : Setup → ℕ → StreamUnit → Effect → DeskState → StepOutcome
went_told setup guest unit e state =
    on_desk (unit_told (sizes_of setup).clip_limit guest unit e state.scene) (map (λ w. record { guest = guest; word = w }) e.readings)
    (with_session guest (session_after unit e (session_of guest state)) (record state { counts = counts_after unit e state.counts }))

-- a guest's part: its session, the lists, the clipboard, and the counts of messages and of words that were read
abbrev pub moved : SessionView → Layers → GateView → (messages glances : ℕ) → PartView
moved session layers gate messages glances = record { session = session; layers = layers; gate = gate; messages = messages; glances = glances }

counted-more : (n : ℕ) → counted n ≤ 2 ^ 64 - 1
counted-more n = omega arith

counted-in : (n m : ℕ) → n ≡ counted m → n ≤ 2 ^ 64 - 1
counted-in n m is = let P : ℕ → Type 0 = λ k. k ≤ 2 ^ 64 - 1 in subst P (sym is) (counted-more m)

-- ---- a unit

-- what a unit that ended nothing did to a session: it had this effect, these are the frames after it,
-- and these bytes are behind it
pub record HadUnit (guest : ℕ) (unit : StreamUnit) (e : Effect) (old new : SessionView) (port' : PortState) (behind : List ℕ) : Type 0 where
  pub rows : mine guest e.rows ≡ new.rows
  pub minor : e.minor ≡ new.minor
  pub port : e.port ≡ port'
  pub greeted : (is_greeting unit || old.stream.greeted) ≡ new.stream.greeted
  pub stands : StandsFor new.stream behind
  pub owner : new.guest ≡ old.guest
  pub sizes : new.sizes ≡ old.sizes
  pub ended : new.ended ≡ None

-- the lists followed all rows that there are now
pub record HadLists (rows : List Row) (old new : Layers) : Type 0 where
  pub lists : followed rows old ≡ new
  pub follow : LayersFollow rows new
  pub apart : are_apart (map id_of rows) ≡ true

-- the clipboard after a unit
abbrev pub HadClip : ℕ → StreamUnit → GateView → GateView → Type 0
HadClip guest unit old new = new ≡ keeping old.limit (clip_of_unit old.limit guest unit old.clip)

-- the counts after a unit with this effect
pub record AreCounted (unit : StreamUnit) (e : Effect) (part : PartView) (messages glances : ℕ) : Type 0 where
  pub told : messages ≡ counted (part.messages + messages_of unit)
  pub read : glances ≡ counted (part.glances + length e.readings)

pub went-stands : (setup : Setup) (guest : ℕ) (held behind : List ℕ) (part : PartView) (new : SessionView) (layers : Layers) (gate : GateView) (messages glances : ℕ) (port port' : PortState) (state : DeskState) (unit : StreamUnit) (e : Effect)
    → PartStands setup guest held part port state → part.session.ended ≡ None → HadUnit guest unit e part.session new port' behind → AreRows guest new.rows → HadLists e.rows part.layers layers
    → HadClip guest unit part.gate gate
    → AreCounted unit e part messages glances
    → PartStands setup guest behind (moved new layers gate messages glances) port' (went_told setup guest unit e state).desk
went-stands setup guest held behind part new layers gate messages glances port port' state unit e stands going had own lists clip counts =
    let session : Session = session_after unit e (session_of guest state) in
    let put : session_of guest (with_session guest session state) ≡ session = session-put guest session state stands.there in
    let long : length (with_session guest session state).sessions ≡ length state.sessions = length-set state.sessions guest session in
    let o = stands.opened going in
    record {
      there = omega (arith, long, stands.there);
      sizes = had.sizes ∙ stands.sizes;
      owner = had.owner ∙ stands.owner;
      own = own;
      rows = had.rows;
      apart = lists.apart;
      layers = ap (λ ls. followed e.rows ls) stands.layers ∙ lists.lists;
      followed = lists.follow;
      gate = clip ∙ ap (λ (g : GateView). keeping g.limit (clip_of_unit g.limit guest unit g.clip)) stands.gate;
      ended = ap (λ (s : Session). s.ended) put ∙ stands.ended ∙ going ∙ sym had.ended;
      opened = λ _. record {
        greeted = ap (λ (s : Session). s.greeted) put ∙ ap (λ b. is_greeting unit || b) o.greeted ∙ had.greeted;
        minor = ap (λ (s : Session). s.minor) put ∙ had.minor;
        stream = had.stands;
      };
      frames = ap (λ (s : Session). s.port) put ∙ had.port;
      messages = ap (λ n. counted (n + messages_of unit)) stands.messages ∙ sym counts.told;
      glances = ap (λ n. counted (n + length e.readings)) stands.glances ∙ sym counts.read;
      messages_in_range = counted-in messages (part.messages + messages_of unit) counts.told;
      glances_in_range = counted-in glances (part.glances + length e.readings) counts.read;
    }

-- a unit leaves the rest that the state notes
pub went-rest : (setup : Setup) (guest : ℕ) (held : List ℕ) (part : PartView) (port : PortState) (state : DeskState) (unit : StreamUnit) (e : Effect)
    → PartStands setup guest held part port state → (session_of guest (went_told setup guest unit e state).desk).rest ≡ (session_of guest state).rest
went-rest setup guest held part port state unit e stands =
    ap (λ (s : Session). s.rest) (session-put guest (session_after unit e (session_of guest state)) state stands.there)

-- the lists after a change of one window
pub lists-after : (guest : ℕ) (rows rows' own' : List Row) (layers new : Layers) (window : ℕ) (change : Change) → are_apart (map id_of rows) ≡ true → rows' ≡ changed guest change rows → mine guest rows' ≡ own'
    → LayersFollow rows layers → ChangesOne window (mine guest rows) change → new ≡ after_row (id_in guest window) (row_with window own') layers
    → HadLists rows' layers new
lists-after guest rows rows' own' layers new window change apart is own follow one made =
    let follows = lists-follow_one guest window change rows layers apart follow one in
    let F : List Row → Type 0 = λ rs. FollowsRow (id_in guest window) rs layers in
    let f : FollowsRow (id_in guest window) rows' layers = subst F (sym is) follows in
    let at : row_with window own' ≡ row_at (id_in guest window) rows' = ap (row_with window) (sym own) ∙ row_with-mine guest window rows' in
    let lists : followed rows' layers ≡ new = f.lists ∙ ap (λ o. after_row (id_in guest window) o layers) (sym at) ∙ sym made in
    let L : Layers → Type 0 = λ ls. LayersFollow rows' ls in
    record { lists = lists; follow = subst L lists f.follow; apart = f.apart }

-- ---- other bytes, other frames

-- another session in the place of this guest's: where it is as it was but for its rest and its frames, the part stands with these
pub put-with : (setup : Setup) (guest : ℕ) (held new : List ℕ) (part : PartView) (port port' : PortState) (state : DeskState) (session : Session) → PartStands setup guest held part port state
    → session ≡ record (session_of guest state) { rest = session.rest; port = session.port } → session.port ≡ port'
    → (part.session.ended ≡ None → StandsFor part.session.stream new)
    → PartStands setup guest new part port' (with_session guest session state)
put-with setup guest held new part port port' state session stands same frames holds =
    let put : session_of guest (with_session guest session state) ≡ session = session-put guest session state stands.there in
    let long : length (with_session guest session state).sessions ≡ length state.sessions = length-set state.sessions guest session in
    record {
      there = omega (arith, long, stands.there);
      sizes = stands.sizes;
      owner = stands.owner;
      own = stands.own;
      rows = stands.rows;
      apart = stands.apart;
      layers = stands.layers;
      followed = stands.followed;
      gate = stands.gate;
      ended = ap (λ (s : Session). s.ended) (put ∙ same) ∙ stands.ended;
      opened = λ going.
          let o = stands.opened going in
          record {
            greeted = ap (λ (s : Session). s.greeted) (put ∙ same) ∙ o.greeted;
            minor = ap (λ (s : Session). s.minor) (put ∙ same) ∙ o.minor;
            stream = holds going;
          };
      frames = ap (λ (s : Session). s.port) put ∙ frames;
      messages = stands.messages;
      glances = stands.glances;
      messages_in_range = stands.messages_in_range;
      glances_in_range = stands.glances_in_range;
    }

-- another session of this guest leaves the others
pub put-leaves : (guest : ℕ) (session : Session) (state : DeskState) → LeavesOthers guest state (with_session guest session state)
put-leaves guest session state = record {
  others = λ other apart. record { rows = refl; session = get_or-set_other state.sessions guest other session (fresh 0) apart };
  sessions = length-set state.sessions guest session;
  items = refl;
}

-- other bytes are held, and another state has the same but for the rest that its session notes
pub rest-with : (setup : Setup) (guest : ℕ) (held new rest : List ℕ) (part : PartView) (port : PortState) (state : DeskState) → PartStands setup guest held part port state
    → (part.session.ended ≡ None → StandsFor part.session.stream new)
    → PartStands setup guest new part port (with_session guest (record (session_of guest state) { rest = rest }) state)
rest-with setup guest held new rest part port state stands holds = put-with setup guest held new part port port state (record (session_of guest state) { rest = rest }) stands refl stands.frames holds

-- other frames, and another state has these
pub with-frames : (setup : Setup) (guest : ℕ) (held : List ℕ) (part : PartView) (port port' : PortState) (state : DeskState) → PartStands setup guest held part port state
    → PartStands setup guest held part port' (with_session guest (record (session_of guest state) { port = port' }) state)
with-frames setup guest held part port port' state stands =
    put-with setup guest held held part port port' state (record (session_of guest state) { port = port' }) stands refl refl (λ going. (stands.opened going).stream)

-- frames of which nothing was read
pub unread-with : (setup : Setup) (guest : ℕ) (held : List ℕ) (part : PartView) (port port' : PortState) (state : DeskState) → PartStands setup guest held part port state → port' ≡ port
    → PartStands setup guest held part port' state
unread-with setup guest held part port port' state stands unread = let P : PortState → Type 0 = λ p. PartStands setup guest held part p state in subst P (sym unread) stands

-- another session that took more bytes
pub pushed-with : (setup : Setup) (guest : ℕ) (held more : List ℕ) (part : PartView) (session : SessionView) (port : PortState) (state : DeskState) → PartStands setup guest held part port state
    → session ≡ record part.session { stream = session.stream } → session.stream.greeted ≡ part.session.stream.greeted
    → (part.session.ended ≡ None → StandsFor session.stream more)
    → PartStands setup guest more (record part { session = session }) port state
pushed-with setup guest held more part session port state stands same greeted holds =
    let rows : part.session.rows ≡ session.rows = sym (ap (λ (s : SessionView). s.rows) same) in
    let ended : part.session.ended ≡ session.ended = sym (ap (λ (s : SessionView). s.ended) same) in
    let O : List Row → Type 0 = λ rs. AreRows guest rs in
    record {
      there = stands.there;
      sizes = ap (λ (s : SessionView). s.sizes) same ∙ stands.sizes;
      owner = ap (λ (s : SessionView). s.guest) same ∙ stands.owner;
      own = subst O rows stands.own;
      rows = stands.rows ∙ rows;
      apart = stands.apart;
      layers = stands.layers;
      followed = stands.followed;
      gate = stands.gate;
      ended = stands.ended ∙ ended;
      opened = λ still.
          let going = ended ∙ still in
          let o = stands.opened going in
          record {
            greeted = o.greeted ∙ sym greeted;
            minor = o.minor ∙ sym (ap (λ (s : SessionView). s.minor) same);
            stream = holds going;
          };
      frames = stands.frames;
      messages = stands.messages;
      glances = stands.glances;
      messages_in_range = stands.messages_in_range;
      glances_in_range = stands.glances_in_range;
    }

-- the bytes that a desk holds are of no matter once the session ended
pub held-over : (setup : Setup) (guest : ℕ) (held new : List ℕ) (part : PartView) (port : PortState) (state : DeskState) (cause : Cause) → PartStands setup guest held part port state → part.session.ended ≡ Some cause
    → PartStands setup guest new part port state
held-over setup guest held new part port state cause stands over = record {
  there = stands.there;
  sizes = stands.sizes;
  owner = stands.owner;
  own = stands.own;
  rows = stands.rows;
  apart = stands.apart;
  layers = stands.layers;
  followed = stands.followed;
  gate = stands.gate;
  ended = stands.ended;
  opened = λ going. cc;
  frames = stands.frames;
  messages = stands.messages;
  glances = stands.glances;
  messages_in_range = stands.messages_in_range;
  glances_in_range = stands.glances_in_range;
}

-- ---- between items

pub counts-with : (setup : Setup) (held : ℕ → List ℕ) (desk : WindowsView) (frames : ℕ → PortState) (state : DeskState) → StandsWith setup held desk frames state → StandsWith setup held (item_counted desk) frames (count_item state)
counts-with setup held desk frames state stands = record {
  numbers = record {
    width = stands.numbers.width;
    height = stands.numbers.height;
    background = stands.numbers.background;
    outputs = stands.numbers.outputs;
    border = stands.numbers.border;
    denied = stands.numbers.denied;
    labels = stands.numbers.labels;
    wide = stands.numbers.wide;
    narrow = stands.numbers.narrow;
    most_columns = stands.numbers.most_columns;
    most_rows = stands.numbers.most_rows;
    guests = stands.numbers.guests;
    some = stands.numbers.some;
    few = stands.numbers.few;
  };
  count = stands.count;
  parts = λ guest below.
      let part = stands.parts guest below in
      record {
        there = part.there;
        sizes = part.sizes;
        owner = part.owner;
        own = part.own;
        rows = part.rows;
        apart = part.apart;
        layers = part.layers;
        followed = part.followed;
        gate = part.gate;
        ended = part.ended;
        opened = part.opened;
        frames = part.frames;
        messages = part.messages;
        glances = part.glances;
        messages_in_range = part.messages_in_range;
        glances_in_range = part.glances_in_range;
      };
  known = stands.known;
  items = ap (λ n. counted (n + 1)) stands.items;
}

pub counts-rest : (setup : Setup) (desk : WindowsView) (frames : ℕ → PortState) (state : DeskState) → AreAtRest setup desk frames state → AreAtRest setup (item_counted desk) frames (count_item state)
counts-rest setup desk frames state rests = record {
  with_rest = counts-with setup (rests_of state) desk frames state rests.with_rest;
  waits = rests.waits;
}

-- another picture of the same sides
pub picture-with : (setup : Setup) (held : ℕ → List ℕ) (old new : WindowsView) (frames : ℕ → PortState) (state : DeskState) → new ≡ record old { picture = new.picture }
    → (new.picture.width ≡ old.picture.width) × (new.picture.height ≡ old.picture.height) × (new.picture.background ≡ old.picture.background) × (new.picture.outputs ≡ old.picture.outputs)
    → StandsWith setup held old frames state → StandsWith setup held new frames state
picture-with setup held old new frames state same sides stands = record {
  numbers = record {
    width = sides.0 ∙ stands.numbers.width;
    height = sides.1 ∙ stands.numbers.height;
    background = sides.2 ∙ stands.numbers.background;
    outputs = sides.3 ∙ stands.numbers.outputs;
    border = ap (λ (d : WindowsView). d.border) same ∙ stands.numbers.border;
    denied = ap (λ (d : WindowsView). d.denied) same ∙ stands.numbers.denied;
    labels = λ guest below. ap (λ (d : WindowsView). slice_get d.labels guest) same ∙ stands.numbers.labels guest below;
    wide = stands.numbers.wide;
    narrow = stands.numbers.narrow;
    most_columns = stands.numbers.most_columns;
    most_rows = stands.numbers.most_rows;
    guests = ap (λ (d : WindowsView). length d.sessions) same ∙ stands.numbers.guests;
    some = stands.numbers.some;
    few = stands.numbers.few;
  };
  count = stands.count;
  parts = λ guest below. let P : PartView → Type 0 = λ p. PartStands setup guest (held guest) p (frames guest) state in subst P (sym (ap (part_of guest) same)) (stands.parts guest below);
  known = stands.known;
  items = stands.items ∙ sym (ap (λ (d : WindowsView). d.items) same);
}

pub picture-rest : (setup : Setup) (old new : WindowsView) (frames : ℕ → PortState) (state : DeskState) → new ≡ record old { picture = new.picture }
    → (new.picture.width ≡ old.picture.width) × (new.picture.height ≡ old.picture.height) × (new.picture.background ≡ old.picture.background) × (new.picture.outputs ≡ old.picture.outputs)
    → AreAtRest setup old frames state → AreAtRest setup new frames state
picture-rest setup old new frames state same sides rests = record {
  with_rest = picture-with setup (rests_of state) old new frames state same sides rests.with_rest;
  waits = λ guest below.
      let P : SessionView → Type 0 = λ s. s.ended ≡ None → front s.stream.greeted (session_of guest state).rest ≡ Wait in
      subst P (sym (ap (session_in guest) same)) (rests.waits guest below);
}
