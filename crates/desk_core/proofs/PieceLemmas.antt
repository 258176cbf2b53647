-- A piece of a guest's bytes, unit by unit.
use Rattle.std.proofs.Common.{◌≡◌, ◌≢◌, ℕ, Bool, ◌==◌, ◌∷◌, true, false, drop, take, is_some, List, [], ◌++◌, Option, Some, None, refl, sym, ◌∙◌, ap, subst, length, ◌<◌, arith}
use Rattle.std.proofs.lemmas.Bool.{eqb-true}
use Rattle.std.proofs.lemmas.List.{append-nil, append_assoc, take-append-drop}
use Rattle.desk_laws.specs.declared.cause.Cause.{Cause}
use Rattle.desk_laws.specs.declared.setup.Setup.{Setup}
use Rattle.desk_laws.specs.Stream.{Wait, front, Cut, cut}
use Rattle.desk_laws.specs.Frames.{PortState}
use Rattle.desk_laws.specs.Scene.{Post, Seat, GuestInput}
use Rattle.desk_laws.specs.Settle.{IsSettled}
use Rattle.desk_laws.specs.Sizes.{sizes_of}
use Rattle.desk_laws.specs.State.{DeskState, Session, StepOutcome, GuestLoad, session_of, with_session, stays, step_after, count_item}
use Rattle.desk_laws.specs.Steps.{take_units, take_bytes, bytes_of_open, take_cut, rest_of_open}
use Rattle.desk_laws.proofs.CuttingLemmas.{cut-waits}
use Rattle.desk_laws.proofs.UnitLemmas.{units-left, session-put}
use Rattle.io_ports.specs.Posts.{Leads}
use Rattle.guest_session.specs.SessionView.{SessionView}
use Rattle.desk_core.specs.declared.windows.Told.{Told}
use Rattle.desk_core.specs.DeskView.{DeskView, session_in}
use Rattle.desk_core.specs.WindowsView as of_windows
use Rattle.desk_core.specs.WindowsView.{WindowsView, PartView, ChangesPart, part_of, put}
use Rattle.desk_core.specs.DeskPosts.{guest_posts}
use Rattle.desk_core.specs.DeskStands.{IsAtRest, StepsTo}
use Rattle.desk_core.specs.WindowsStand.{PartStands, StandsWith, item_counted, rests_of}
use Rattle.desk_core.specs.Pieces.{Drained, PushesPiece, taken_from}
use Rattle.desk_core.specs.PieceSteps.{TookSome, IsAlong, Pushes}
use Rattle.desk_core.specs.Seated.{AreSeated}
use Rattle.desk_core.specs.Settling.{HasSeat, SettlesTo, settle_state, settled_after}
use Rattle.desk_core.specs.Telling.{EndsTold, KeepsStanding, TookTold, moves}
use Rattle.desk_core.proofs.JoinLemmas.{alike, alone-none, join-put, join-rest, own-part, part-stands, put-itself}
use Rattle.desk_core.proofs.LeaveLemmas.{leaves-all, leaves-both, settle-leaves}
use Rattle.desk_core.proofs.PostLemmas.{leads-append, guest-append}
use Rattle.desk_core.proofs.StandLemmas.{rest-with, pushed-with, put-leaves, held-over, with-frames, counts-with}

-- some units, and then some more
pub took-more : {O : Type 0} (takes : O → Post → O → Type 0) (out mid out' : O) (setup : Setup) (guest : ℕ) (held : List ℕ) (others : ℕ → List ℕ) (a b c : DeskView) (frames frames' : ℕ → PortState) (state : DeskState)
    → (first : TookSome takes out mid setup guest held others a b frames state) → TookSome takes mid out' setup guest first.behind others b c frames' first.outcome.desk
    → TookSome takes out out' setup guest held others a c frames' state
took-more takes out mid out' setup guest held others a b c frames frames' state first next =
    let P : List Post → Type 0 = λ ps. Leads takes out ps out' in
    record {
      behind = next.behind;
      outcome = step_after first.outcome next.outcome;
      stands = next.stands;
      seated = next.seated;
      posts = subst P (sym (guest-append first.outcome.posts next.outcome.posts))
          (leads-append takes (guest_posts first.outcome.posts) (guest_posts next.outcome.posts) out mid out' first.posts next.posts);
      all = λ left. first.all left ∙ ap (step_after first.outcome) (next.all left) ∙ after-after first.outcome next.outcome (taken_from setup guest (session_in guest c).stream.greeted (next.behind ++ left) next.outcome.desk);
      going = λ going. first.going (next.going going);
      rest = λ going left. first.rest (next.going going) left ∙ next.rest going left;
      kept = λ going. next.kept going ∙ first.kept (next.going going);
      leaves = leaves-both guest state first.outcome.desk next.outcome.desk first.leaves next.leaves;
    }
  where
    with_all : DeskState → List Post → List GuestInput → List GuestLoad → StepOutcome
    with_all desk posts inputs readings = record { desk = desk; posts = posts; inputs = inputs; readings = readings }

    after-after : (x y z : StepOutcome) → step_after x (step_after y z) ≡ step_after (step_after x y) z
    after-after x y z =
        ap (λ ps. with_all z.desk ps (x.inputs ++ (y.inputs ++ z.inputs)) (x.readings ++ (y.readings ++ z.readings))) (sym (append_assoc x.posts y.posts z.posts))
        ∙ ap (λ is. with_all z.desk ((x.posts ++ y.posts) ++ z.posts) is (x.readings ++ (y.readings ++ z.readings))) (sym (append_assoc x.inputs y.inputs z.inputs))
        ∙ ap (λ rs. with_all z.desk ((x.posts ++ y.posts) ++ z.posts) ((x.inputs ++ y.inputs) ++ z.inputs) rs) (sym (append_assoc x.readings y.readings z.readings))

-- no unit
pub took-none : {O : Type 0} (takes : O → Post → O → Type 0) (out : O) (setup : Setup) (guest : ℕ) (held : List ℕ) (others : ℕ → List ℕ) (desk : DeskView) (frames : ℕ → PortState) (state : DeskState)
    → StandsWith setup (put guest held others) desk.windows frames state → HasSeat setup desk.seat state → TookSome takes out out setup guest held others desk desk frames state
took-none takes out setup guest held others desk frames state stands seated = record {
  behind = held;
  outcome = stays state;
  stands = stands;
  seated = seated;
  posts = refl;
  all = λ left. refl;
  going = λ going. going;
  rest = λ going left. refl;
  kept = λ going. refl;
  leaves = leaves-all guest state;
}

-- ---- a unit with what is settled behind it

module _ {O : Type 0} (takes : O → Post → O → Type 0) (out mid : O) (setup : Setup) (guest : ℕ) (held : List ℕ) (others : ℕ → List ℕ) (old : DeskView) (windows : WindowsView) (port port' : PortState) (frames : ℕ → PortState) (state : DeskState) (answer : Told)
    (stands : StandsWith setup (put guest held others) old.windows (put guest port frames) state) (seated : HasSeat setup old.seat state)
    (told : TookTold takes out mid answer setup guest held (part_of guest old.windows) (part_of guest windows) port' state) (alone : ChangesPart guest old.windows windows) where
  -- the windows stand for what the unit told
  joined : StandsWith setup (put guest told.behind others) windows (put guest port' frames) told.told.desk
  joined = join-put setup guest held told.behind others old.windows windows port port' frames state told.told.desk stands told.leads.0 told.leaves alone

  -- focus and hover are told
  pub took-settled : (out' : O) (new : WindowsView) (seat : Seat) → new ≡ windows
      → ((setup : Setup) (held : ℕ → List ℕ) (frames : ℕ → PortState) (state : DeskState) → StandsWith setup held windows frames state → state.scene.seat ≡ old.seat → (moves answer ≡ false → IsSettled (sizes_of setup) state.scene) → SettlesTo takes mid out' setup held new frames seat state)
      → TookSome takes out out' setup guest held others old (record { windows = new; seat = seat }) (put guest port' frames) state
  took-settled out' new seat same settles =
      let s = settles setup (put guest told.behind others) (put guest port' frames) told.told.desk joined (told.seat ∙ seated.same) (λ quiet. told.still quiet seated.settled) in
      let after = (settle_state setup told.told.desk).desk in
      let P : List Post → Type 0 = λ ps. Leads takes out ps out' in
      let greeted : (of_windows.session_in guest windows).stream.greeted ≡ (of_windows.session_in guest new).stream.greeted = ap (λ (w : WindowsView). (of_windows.session_in guest w).stream.greeted) (sym same) in
      let ended : (of_windows.session_in guest new).ended ≡ (of_windows.session_in guest windows).ended = ap (λ (w : WindowsView). (of_windows.session_in guest w).ended) same in
      record {
        behind = told.behind;
        outcome = settled_after setup told.told;
        stands = s.stands;
        seated = s.seated;
        posts = subst P (sym (guest-append told.told.posts (settle_state setup told.told.desk).posts))
            (leads-append takes (guest_posts told.told.posts) (guest_posts (settle_state setup told.told.desk).posts) out mid out' told.leads.1 s.posts);
        all = λ left.
            told.all seated.settled left
            ∙ ap (λ b. step_after (settled_after setup told.told) (taken_from setup guest b (told.behind ++ left) after)) greeted;
        going = λ going. told.going (sym ended ∙ going);
        rest = λ going left. told.rest (sym ended ∙ going) left ∙ ap (λ b. (cut b (told.behind ++ left)).rest) greeted;
        kept = λ going. told.kept (sym ended ∙ going);
        leaves = leaves-both guest state told.told.desk after told.leaves (settle-leaves setup guest told.told.desk);
      }

-- ---- a session's end with what is settled behind it

module _ {O : Type 0} (takes : O → Post → O → Type 0) (out mid : O) (setup : Setup) (old : DeskView) (windows : WindowsView) (frames : ℕ → PortState) (state : DeskState) (answer : Told) (whole : StepOutcome)
    (seated : HasSeat setup old.seat state) (ends : EndsTold takes out mid answer setup windows frames state whole) where
  pub ends-settled : (out' : O) (new : WindowsView) (seat : Seat) → new ≡ windows
      → ((setup : Setup) (held : ℕ → List ℕ) (frames : ℕ → PortState) (state : DeskState) → StandsWith setup held windows frames state → state.scene.seat ≡ old.seat → (moves answer ≡ false → IsSettled (sizes_of setup) state.scene) → SettlesTo takes mid out' setup held new frames seat state)
      → StepsTo takes out out' setup (record { windows = new; seat = seat }) frames whole
  ends-settled out' new seat same settles =
      let s = settles setup (rests_of ends.told.desk) frames ends.told.desk ends.rests.with_rest (ends.seat ∙ seated.same) (λ quiet. ends.still quiet seated.settled) in
      let after = settle_state setup ends.told.desk in
      let W : WindowsView → Type 0 = λ w. (guest : ℕ) → guest < length setup.guests → (of_windows.session_in guest w).ended ≡ None → front (of_windows.session_in guest w).stream.greeted (session_of guest ends.told.desk).rest ≡ Wait in
      let P : List Post → Type 0 = λ ps. Leads takes out ps out' in
      let Q : StepOutcome → Type 0 = λ o. StepsTo takes out out' setup (record { windows = new; seat = seat }) frames o in
      subst Q (sym (ends.all seated.settled)) (
        record { windows = record { with_rest = s.stands; waits = subst W (sym same) ends.rests.waits }; seated = s.seated },
        subst P (sym (guest-append ends.told.posts after.posts)) (leads-append takes (guest_posts ends.told.posts) (guest_posts after.posts) out mid out' ends.posts s.posts),
      )

-- ---- a whole piece

-- after some units
pub along-more : {O : Type 0} (takes : O → Post → O → Type 0) (first out out' : O) (setup : Setup) (guest : ℕ) (before : DeskState) (old new : DeskView) (frames frames' : ℕ → PortState) (left : List ℕ) (whole : StepOutcome)
    → (along : IsAlong takes first out setup guest before old frames left whole) → TookSome takes out out' setup guest along.held (rests_of before) old new frames' along.state
    → IsAlong takes first out' setup guest before new frames' left whole
along-more takes first out out' setup guest before old new frames frames' left whole along took =
    let more = taken_from setup guest (session_in guest new).stream.greeted (took.behind ++ left) took.outcome.desk in
    record {
      held = took.behind;
      state = took.outcome.desk;
      stands = took.stands;
      seated = took.seated;
      rest = λ going. took.kept going ∙ along.rest (took.going going) ∙ took.rest going left;
      posts = λ end leads.
          let Q : List Post → Type 0 = λ ps. Leads takes out ps end in
          let R : StepOutcome → Type 0 = λ o. Leads takes out (guest_posts o.posts) end in
          along.posts end (subst R (sym (took.all left)) (subst Q (sym (guest-append took.outcome.posts more.posts)) (leads-append takes (guest_posts took.outcome.posts) (guest_posts more.posts) out out' end took.posts leads)));
      end_state = along.end_state ∙ ap (λ (o : StepOutcome). o.desk) (took.all left);
      leaves = leaves-both guest before along.state took.outcome.desk along.leaves took.leaves;
    }

-- nothing comes of units once the session ended
over-stays : (setup : Setup) (guest : ℕ) (greeted : Bool) (state : DeskState) (bytes : List ℕ) (cause : Cause) → (session_of guest state).ended ≡ Some cause
    → taken_from setup guest greeted bytes state ≡ stays state
over-stays setup guest greeted state bytes cause over = units-left setup guest (cut greeted bytes).units state cause over

-- more bytes of the piece were taken up: those that are held and those that are left are the same
pub along-pushed : {O : Type 0} (takes : O → Post → O → Type 0) (first out : O) (setup : Setup) (guest : ℕ) (before : DeskState) (desk desk' : DeskView) (port : PortState) (frames : ℕ → PortState) (left : List ℕ) (size : ℕ) (whole : StepOutcome)
    → guest < of_windows.guests_of desk.windows → IsAlong takes first out setup guest before desk (put guest port frames) left whole → Pushes guest desk desk' left size
    → IsAlong takes first out setup guest before desk' (put guest port frames) (drop size left) whole
along-pushed takes first out setup guest before desk desk' port frames left size whole there along pushes =
    let pushed = pushes.session in
    let taken = take size left in
    let behind = drop size left in
    let g = (session_in guest desk).stream.greeted in
    let split : left ≡ taken ++ behind = sym (take-append-drop size left) in
    let bytes : along.held ++ left ≡ (along.held ++ taken) ++ behind = ap (λ l. along.held ++ l) split ∙ sym (append_assoc along.held taken behind) in
    let greeted : (session_in guest desk').stream.greeted ≡ g = pushed.greeted in
    let from : taken_from setup guest g (along.held ++ left) along.state ≡ taken_from setup guest (session_in guest desk').stream.greeted ((along.held ++ taken) ++ behind) along.state =
    ap (λ bs. taken_from setup guest g bs along.state) bytes ∙ ap (λ b. taken_from setup guest b ((along.held ++ taken) ++ behind) along.state) (sym greeted) in
    let part = own-part setup guest along.held (rests_of before) desk.windows port frames along.state along.stands there in
    let V : PartView → Type 0 = λ p. PartStands setup guest (along.held ++ taken) p port along.state in
    record {
      held = along.held ++ taken;
      state = along.state;
      stands = join-put setup guest along.held (along.held ++ taken) (rests_of before) desk.windows desk'.windows port port frames along.state along.state along.stands
          (subst V (sym pushes.part)
          (pushed-with setup guest along.held (along.held ++ taken) (part_of guest desk.windows) (session_in guest desk') port along.state part pushed.stream pushed.greeted
          (λ going. pushed.stands going along.held (part.opened going).stream)))
          (leaves-all guest along.state) pushes.alone;
      seated = record { same = along.seated.same ∙ sym pushes.seat; settled = along.seated.settled };
      rest = λ still.
          let going : (session_in guest desk).ended ≡ None = sym (ap (λ (s : SessionView). s.ended) pushed.stream) ∙ still in
          along.rest going ∙ ap (λ bs. (cut g bs).rest) bytes ∙ ap (λ b. (cut b ((along.held ++ taken) ++ behind)).rest) (sym greeted);
      posts = λ end leads. let P : StepOutcome → Type 0 = λ o. Leads takes out (guest_posts o.posts) end in along.posts end (subst P (sym from) leads);
      end_state = along.end_state ∙ ap (λ (o : StepOutcome). o.desk) from;
      leaves = along.leaves;
    }

-- the beginning of a piece
pub along-first : {O : Type 0} (takes : O → Post → O → Type 0) (out : O) (setup : Setup) (guest : ℕ) (desk : DeskView) (frames : ℕ → PortState) (piece : List ℕ) (state : DeskState)
    → IsAtRest setup desk frames state → guest < of_windows.guests_of desk.windows → IsAlong takes out out setup guest state desk (put guest (frames guest) frames) piece (take_bytes setup guest piece state)
along-first takes out setup guest desk frames piece state rests there = by_end (session_in guest desk).ended refl
  where
    held : List ℕ
    held = (session_of guest state).rest

    base : StandsWith setup (put guest held (rests_of state)) desk.windows (put guest (frames guest) frames) state
    base =
        alike setup (rests_of state) (put guest held (rests_of state)) desk.windows frames (put guest (frames guest) frames) state rests.windows.with_rest
        (put-itself guest (rests_of state)) (put-itself guest frames)

    part : PartStands setup guest held (part_of guest desk.windows) (frames guest) state
    part = part-stands setup (rests_of state) desk.windows frames state rests.windows.with_rest guest there

    by_end : (e : Option Cause) → (session_in guest desk).ended ≡ e → IsAlong takes out out setup guest state desk (put guest (frames guest) frames) piece (take_bytes setup guest piece state)
    by_end (Some cause) over =
        let same : take_bytes setup guest piece state ≡ taken_from setup guest (session_in guest desk).stream.greeted (held ++ piece) state =
        ap (λ e. bytes_of_open setup guest piece e state) (part.ended ∙ over)
        ∙ sym (over-stays setup guest (session_in guest desk).stream.greeted state (held ++ piece) cause (part.ended ∙ over)) in
        record {
          held = held;
          state = state;
          stands = base;
          seated = rests.seated;
          rest = λ still. cc;
          posts = λ end leads. let P : StepOutcome → Type 0 = λ o. Leads takes out (guest_posts o.posts) end in subst P (sym same) leads;
          end_state = ap (λ (o : StepOutcome). o.desk) same;
          leaves = leaves-all guest state;
        }
    by_end None going =
        let o = part.opened going in
        let g = (session_in guest desk).stream.greeted in
        let c = cut g (held ++ piece) in
        let session : Session = record (session_of guest state) { rest = c.rest } in
        let begun = with_session guest session state in
        let open_still = part.ended ∙ going in
        let same : take_bytes setup guest piece state ≡ taken_from setup guest g (held ++ piece) begun =
        ap (λ e. bytes_of_open setup guest piece e state) open_still
        ∙ ap (λ b. take_cut setup guest (cut b (held ++ piece)) state) o.greeted
        ∙ ap (λ e. take_units setup guest c.units (rest_of_open guest c.rest e state)) open_still in
        record {
          held = held;
          state = begun;
          stands = join-put setup guest held held (rests_of state) desk.windows desk.windows (frames guest) (frames guest) frames state begun base
              (rest-with setup guest held held c.rest (part_of guest desk.windows) (frames guest) state part (λ going. (part.opened going).stream))
              (put-leaves guest session state) (alone-none guest desk.windows);
          seated = record { same = rests.seated.same; settled = rests.seated.settled };
          rest = λ _. ap (λ (s : Session). s.rest) (session-put guest session state part.there);
          posts = λ end leads. let P : StepOutcome → Type 0 = λ x. Leads takes out (guest_posts x.posts) end in subst P (sym same) leads;
          end_state = ap (λ (x : StepOutcome). x.desk) same;
          leaves = put-leaves guest session state;
        }

-- the end of a piece: nothing is left of it, and no whole unit is held
pub along-all : {O : Type 0} (takes : O → Post → O → Type 0) (first out : O) (setup : Setup) (guest : ℕ) (desk desk' : DeskView) (frames frames' : ℕ → PortState) (before : DeskState) (left : List ℕ) (whole : StepOutcome)
    → guest < of_windows.guests_of desk.windows → IsAtRest setup desk frames before → IsAlong takes first out setup guest before desk' (put guest (frames' guest) frames) left whole → left ≡ [] → Drained (session_in guest desk')
    → ChangesPart guest desk.windows desk'.windows → ((other : ℕ) → other ≢ guest → frames' other ≡ frames other) → StepsTo takes first out setup desk' frames' whole
along-all takes first out setup guest desk desk' frames frames' before left whole there rests along none drained alone unread = by_end (session_in guest desk').ended refl
  where
    session : SessionView
    session = session_in guest desk'

    part : PartStands setup guest along.held (part_of guest desk'.windows) (frames' guest) along.state
    part = own-part setup guest along.held (rests_of before) desk'.windows (frames' guest) frames along.state along.stands (omega (arith, there, alone.guests))

    finish : taken_from setup guest session.stream.greeted (along.held ++ left) along.state ≡ stays along.state
        → PartStands setup guest (session_of guest along.state).rest (part_of guest desk'.windows) (frames' guest) along.state
        → (session.ended ≡ None → front session.stream.greeted (session_of guest along.state).rest ≡ Wait) → StepsTo takes first out setup desk' frames' whole
    finish same stands waits =
        let P : DeskState → Type 0 = λ s. IsAtRest setup desk' frames' s in
        let Q : StepOutcome → Type 0 = λ o. Leads takes out (guest_posts o.posts) out in (
          subst P (sym (along.end_state ∙ ap (λ (o : StepOutcome). o.desk) same))
              (record { windows = join-rest setup guest desk.windows desk'.windows frames frames' before along.state rests.windows stands waits along.leaves alone unread; seated = along.seated }),
          along.posts out (subst Q (sym same) refl),
        )

    by_end : (e : Option Cause) → session.ended ≡ e → StepsTo takes first out setup desk' frames' whole
    by_end (Some cause) over =
        finish (over-stays setup guest session.stream.greeted along.state (along.held ++ left) cause (part.ended ∙ over))
        (held-over setup guest along.held (session_of guest along.state).rest (part_of guest desk'.windows) (frames' guest) along.state cause part over) (λ still. cc)
    by_end None going =
        let g = session.stream.greeted in
        let s = drained going in
        let waits : front g along.held ≡ Wait = s.waits along.held (part.opened going).stream in
        let whole_cut : cut g (along.held ++ left) ≡ record { units = []; rest = along.held } =
        ap (λ bs. cut g bs) (ap (λ l. along.held ++ l) none ∙ append-nil along.held) ∙ cut-waits g along.held waits in
        let rest : (session_of guest along.state).rest ≡ along.held = along.rest going ∙ ap (λ (c : Cut). c.rest) whole_cut in
        let P : List ℕ → Type 0 = λ h. PartStands setup guest h (part_of guest desk'.windows) (frames' guest) along.state in
        finish (ap (λ (c : Cut). take_units setup guest c.units along.state) whole_cut) (subst P (sym rest) part) (λ _. ap (front g) rest ∙ waits)

pub not-some : (o : Option Cause) → is_some o ≡ false → o ≡ None
not-some None e = refl
not-some (Some c) e = cc

pub nil-of : (xs : List ℕ) → (length xs == 0) ≡ true → xs ≡ []
nil-of [] e = refl
nil-of (x ∷ xs) e = absurd (omega (arith, eqb-true (length (x ∷ xs)) 0 e))

-- ---- what is true of each desk stays true

pub seated-settled : {O : Type 0} (takes : O → Post → O → Type 0) (out mid out' : O) (guest : ℕ) (windows windows' new : WindowsView) (seat seat' : Seat) (port port' : PortState) (answer : Told)
    → AreSeated windows seat → guest < of_windows.guests_of windows
    → ((setup : Setup) (held : List ℕ) (state : DeskState) → PartStands setup guest held (part_of guest windows) port state → TookTold takes out mid answer setup guest held (part_of guest windows) (part_of guest windows') port' state)
    → ChangesPart guest windows windows' → new ≡ windows'
    → ((setup : Setup) (held : ℕ → List ℕ) (frames : ℕ → PortState) (state : DeskState) → StandsWith setup held windows' frames state → state.scene.seat ≡ seat → (moves answer ≡ false → IsSettled (sizes_of setup) state.scene) → SettlesTo takes mid out' setup held new frames seat' state)
    → AreSeated new seat'
seated-settled takes out mid out' guest windows windows' new seat seat' port port' answer is there told alone same settles =
    let session : Session = record (session_of guest is.state) { port = port } in
    let state = with_session guest session is.state in
    let part = part-stands is.setup is.held windows is.frames is.state is.stands guest there in
    let stands : StandsWith is.setup (put guest (is.held guest) is.held) windows (put guest port is.frames) state =
    join-put is.setup guest (is.held guest) (is.held guest) is.held windows windows (is.frames guest) port is.frames is.state state
    (alike is.setup is.held (put guest (is.held guest) is.held) windows is.frames (put guest (is.frames guest) is.frames) is.state is.stands (put-itself guest is.held) (put-itself guest is.frames))
    (with-frames is.setup guest (is.held guest) (part_of guest windows) (is.frames guest) port is.state part) (put-leaves guest session is.state) (alone-none guest windows) in
    let took = took-settled takes out mid is.setup guest (is.held guest) is.held (record { windows = windows; seat = seat }) windows' port port' is.frames state answer stands
    (record { same = is.seated.same; settled = is.seated.settled })
    (told is.setup (is.held guest) state (own-part is.setup guest (is.held guest) is.held windows port is.frames state stands there)) alone out' new seat' same settles in
    record { setup = is.setup; held = put guest took.behind is.held; frames = put guest port' is.frames; state = took.outcome.desk; stands = took.stands; seated = took.seated }

pub seated-ended : {O : Type 0} (takes : O → Post → O → Type 0) (mid out' : O) (windows windows' new : WindowsView) (seat seat' : Seat) (answer : Told)
    → AreSeated windows seat
    → ((setup : Setup) (held : ℕ → List ℕ) (frames : ℕ → PortState) (state : DeskState) → StandsWith setup held windows frames state → KeepsStanding answer setup windows' frames state)
    → ((setup : Setup) (held : ℕ → List ℕ) (frames : ℕ → PortState) (state : DeskState) → StandsWith setup held windows' frames state → state.scene.seat ≡ seat → (moves answer ≡ false → IsSettled (sizes_of setup) state.scene) → SettlesTo takes mid out' setup held new frames seat' state)
    → AreSeated new seat'
seated-ended takes mid out' windows windows' new seat seat' answer is ends settles =
    let e = ends is.setup is.held is.frames is.state is.stands in
    let s = settles is.setup e.held is.frames e.after e.stands (e.seat ∙ is.seated.same) (λ quiet. e.still quiet is.seated.settled) in
    record { setup = is.setup; held = e.held; frames = is.frames; state = (settle_state is.setup e.after).desk; stands = s.stands; seated = s.seated }

-- an item counts
pub seated-counted : (windows : WindowsView) (seat : Seat) → AreSeated windows seat → AreSeated (item_counted windows) seat
seated-counted windows seat is = record {
  setup = is.setup;
  held = is.held;
  frames = is.frames;
  state = count_item is.state;
  stands = counts-with is.setup is.held windows is.frames is.state is.stands;
  seated = record { same = is.seated.same; settled = is.seated.settled };
}

-- bytes were taken up
pub seated-pushed : (guest : ℕ) (windows windows' : WindowsView) (seat : Seat) (piece : List ℕ) (size : ℕ) → AreSeated windows seat → guest < of_windows.guests_of windows
    → PushesPiece (of_windows.session_in guest windows) (of_windows.session_in guest windows') piece size → ChangesPart guest windows windows'
    → part_of guest windows' ≡ record (part_of guest windows) { session = of_windows.session_in guest windows' } → AreSeated windows' seat
seated-pushed guest windows windows' seat piece size is there pushed alone same =
    let part = part-stands is.setup is.held windows is.frames is.state is.stands guest there in
    let more = is.held guest ++ take size piece in
    let V : PartView → Type 0 = λ p. PartStands is.setup guest more p (is.frames guest) is.state in
    let stands : StandsWith is.setup (put guest more is.held) windows' (put guest (is.frames guest) is.frames) is.state =
    join-put is.setup guest (is.held guest) more is.held windows windows' (is.frames guest) (is.frames guest) is.frames is.state is.state
    (alike is.setup is.held (put guest (is.held guest) is.held) windows is.frames (put guest (is.frames guest) is.frames) is.state is.stands (put-itself guest is.held) (put-itself guest is.frames))
    (subst V (sym same)
    (pushed-with is.setup guest (is.held guest) more (part_of guest windows) (of_windows.session_in guest windows') (is.frames guest) is.state part pushed.stream pushed.greeted
    (λ going. pushed.stands going (is.held guest) (part.opened going).stream)))
    (leaves-all guest is.state) alone in
    record { setup = is.setup; held = put guest more is.held; frames = put guest (is.frames guest) is.frames; state = is.state; stands = stands; seated = is.seated }

-- the desk after a piece was taken up
pub pushes-desk : (guest : ℕ) (old now : DeskView) (windows' : WindowsView) (piece : List ℕ) (size : ℕ) → old ≡ now
    → PushesPiece (session_in guest old) (of_windows.session_in guest windows') piece size → ChangesPart guest old.windows windows'
    → part_of guest windows' ≡ record (part_of guest old.windows) { session = of_windows.session_in guest windows' }
    → Pushes guest now (record { windows = windows'; seat = old.seat }) piece size
pushes-desk guest old now windows' piece size is pushed alone same =
    let P : DeskView → Type 0 = λ d. Pushes guest d (record { windows = windows'; seat = old.seat }) piece size in
    subst P is (record { session = pushed; alone = alone; part = same; seat = refl })
