-- One step of the desktop, seen by one guest: what it would be alone.
use Rattle.std.proofs.Common.{◌≡◌, ◌≢◌, ℕ, ◌<◌, Bool, true, false, List, [], ◌∷◌, ◌++◌, length, map, Option, Some, None, cond, refl, sym, ◌∙◌, ap, arith, append_assoc, subst, get_or-set_same, get_or-set_other, length-set}
use Rattle.std.specs.Prelude.{◌||◌, ◌==◌}
use Rattle.std.proofs.lemmas.Bool.Decides.{nat_tests}
use Rattle.desk_laws.specs.declared.setup.Setup.{Setup}
use Rattle.desk_laws.specs.Sizes.{Sizes, sizes_of}
use Rattle.desk_laws.specs.declared.cause.Cause.{Cause}
use Rattle.desk_laws.specs.Stream.{StreamUnit, is_greeting, Cut, cut}
use Rattle.gui_num.specs.declared.Rect.{Rect}
use Rattle.desk_laws.specs.Layers.{Layers}
use Rattle.desk_laws.specs.Rows.{Row, mine}
use Rattle.desk_laws.specs.Frames.{PortState, Tape, FramePlace, load, load_all, load_first, store}
use Rattle.desk_laws.specs.Effects.{Effect, effect, Verdict, Ends, Greets, Goes, Reads, carried_out, verdict, changed, Cleared, frame_places, points, read_with}
use Rattle.desk_laws.specs.Scene.{Scene, SceneOutcome, Post, Ended, Input, Took, Closing, Losing, GuestInput, replies, and_then, InputOutcome, perform}
use Rattle.desk_laws.specs.Settle.{settle}
use Rattle.desk_laws.specs.State.{DeskState, StepOutcome, Session, GuestLoad, stays, and_next, on_desk, fresh, session_of, with_session, count_item, inputs_of, posts_of, readings_of}
use Rattle.isolation_laws.specs.Alone.{Alone, AloneOutcome, alone_run, alone_after, alone_step, alone_by, alone_unit, alone_went, alone_ends}
use Rattle.desk_laws.specs.declared.item.Item.{Item}
use Rattle.desk_laws.specs.declared.item.Item.TheVariants as item
use Rattle.desk_laws.specs.declared.cause.Cause.TheVariants.{StreamEnded, LinkFailed}
use Rattle.desk_laws.specs.Events.{route}
use Rattle.desk_laws.specs.Steps.{step, event, take_bytes, bytes_of_open, with_rest, rest_of_open, end_session, end_of_open, take_store, store_of_open, unit_effect, unit_done, unit_of_open, take_unit, take_units, went, ends, end_told, unit_told, session_after, counts_after, picture_post}
use Rattle.isolation_laws.specs.Alone.{part_of}
use Rattle.isolation_laws.specs.Isolation.{IsGoneIfEnded, IsAsAlone, HasGuest}
use Rattle.isolation_laws.proofs.RowParts.{mine-mine, mine_other-changed, effect-mine, effect-other}
use Rattle.isolation_laws.proofs.SceneAlone.{PlaysAlone, plays-then, plays-settle, plays-perform, inputs_of-append, posts_of-append, posts_of-own, posts_of-other, alone_run-append}

-- ---- the number of sessions stays

pub length-unit : (setup : Setup) (g : ℕ) (u : StreamUnit) (d : DeskState) → length (take_unit setup g u d).desk.sessions ≡ length d.sessions
length-unit setup g u d = by_end (session_of g d).ended
  where
    by_cause : (e : Effect) (c : Option Cause) → length (unit_done setup g u e c d).desk.sessions ≡ length d.sessions
    by_cause e None = length-set d.sessions g (session_after u e (session_of g d))
    by_cause e (Some c) = length-set d.sessions g (record (session_of g d) { rest = []; ended = Some c })

    by_end : (c : Option Cause) → length (unit_of_open setup g u c d).desk.sessions ≡ length d.sessions
    by_end (Some c) = refl
    by_end None = by_cause (unit_effect setup g u d) (unit_effect setup g u d).cause

-- ---- a tape of the readings gives the same effect

load_all-tape : (port : PortState) (ss : List FramePlace) (more : List ℕ)
    → load_all (Tape ((load_all port ss).words ++ more)) ss ≡ record { words = (load_all port ss).words; port = Tape more }
load_all-tape port [] more = refl
load_all-tape port (s ∷ ss) more =
    ap (load_first (load port s.page s.word).0) (load_all-tape (load port s.page s.word).1 ss more)

carried_out-tape : (g m : ℕ) (rows : List Row) (port : PortState) (v : Verdict) (more : List ℕ)
    → carried_out g m rows (Tape ((carried_out g m rows port v).readings ++ more)) v ≡ record (carried_out g m rows port v) { port = Tape more }
carried_out-tape g m rows port (Ends c) more = refl
carried_out-tape g m rows port (Greets m' answers) more = refl
carried_out-tape g m rows port (Goes change answers) more = refl
carried_out-tape g m rows port (Reads row area) more =
    ap (read_with g m rows row area) (load_all-tape port (frame_places row.dump (points area)) more)

-- the effect alone, on the guest's rows and a tape of the readings
effect-alone : (setup : Sizes) (g m : ℕ) (rows : List Row) (port : PortState) (u : StreamUnit) (more : List ℕ)
    → effect setup g m (mine g rows) (Tape ((effect setup g m rows port u).readings ++ more)) u
    ≡ record (effect setup g m rows port u) { rows = mine g (effect setup g m rows port u).rows; port = Tape more }
effect-alone setup g m rows port u more =
    effect-mine setup g m rows (Tape ((effect setup g m rows port u).readings ++ more)) u
    ∙ ap (λ (e : Effect). record e { rows = mine g e.rows }) (carried_out-tape g m rows port (verdict setup g m (mine g rows) u) more)

-- ---- a guest's part of the desktop

pub alone-stays : (setup : Setup) (g : ℕ) (d : DeskState) → IsGoneIfEnded g d → IsAsAlone setup g d (stays d)
alone-stays setup g d quiet = record { same = λ more. refl; gone = quiet }

readings_of-append : (g : ℕ) (rs ss : List GuestLoad) → readings_of g (rs ++ ss) ≡ readings_of g rs ++ readings_of g ss
readings_of-append g [] ss = refl
readings_of-append g (r ∷ rs) ss = grind (arith, nat_tests, readings_of-append g rs ss)

pub alone-next : (setup : Setup) (g : ℕ) (d : DeskState) (x : StepOutcome) (f : DeskState → StepOutcome) → IsAsAlone setup g d x → IsAsAlone setup g x.desk (f x.desk) → IsAsAlone setup g d (and_next x f)
alone-next setup g d x f p q = record {
  same = λ more.
      let y : StepOutcome = f x.desk in
      ap (λ rs. alone_run (sizes_of setup) g (inputs_of g (x.inputs ++ y.inputs)) (part_of g d rs)) (ap (λ rs. rs ++ more) (readings_of-append g x.readings y.readings) ∙ append_assoc (readings_of g x.readings) (readings_of g y.readings) more)
      ∙ ap (λ is. alone_run (sizes_of setup) g is (part_of g d (readings_of g x.readings ++ (readings_of g y.readings ++ more)))) (inputs_of-append g x.inputs y.inputs)
      ∙ alone_run-append (sizes_of setup) g (inputs_of g x.inputs) (inputs_of g y.inputs) (part_of g d (readings_of g x.readings ++ (readings_of g y.readings ++ more)))
      ∙ ap (λ r. alone_after r.posts (alone_run (sizes_of setup) g (inputs_of g y.inputs) r.alone)) (p.same (readings_of g y.readings ++ more))
      ∙ ap (alone_after (posts_of g x.posts)) (q.same more)
      ∙ sym (ap (λ ps. record { alone = part_of g y.desk more; posts = ps }) (posts_of-append g x.posts y.posts));
  gone = q.gone;
}

-- ---- what is played on the desktop, where this guest's session is as before

alone-played : (setup : Setup) (g : ℕ) (d : DeskState) (played : SceneOutcome) (rs : List GuestLoad) (d' : DeskState) → IsGoneIfEnded g d → PlaysAlone (sizes_of setup) g d.scene played
    → session_of g d' ≡ session_of g d → readings_of g rs ≡ [] → IsAsAlone setup g d (on_desk played rs d')
alone-played setup g d played rs d' quiet plays kept none = by_end (session_of g d).ended refl
  where
    by_end : (c : Option Cause) → (session_of g d).ended ≡ c → IsAsAlone setup g d (on_desk played rs d')
    by_end None e = record {
      same = λ more.
          ap (λ ws. alone_run (sizes_of setup) g (inputs_of g played.inputs) (part_of g d (ws ++ more))) none
          ∙ plays.same (part_of g d more) e refl
          ∙ sym (ap (λ s. record { alone = record { rows = mine g played.scene.rows; greeted = s.greeted; minor = s.minor; ended = s.ended; port = Tape more }; posts = posts_of g played.posts }) kept);
      gone = λ c e'. let no : Some c ≡ None = sym e' ∙ (ap (λ s. s.ended) kept ∙ e) in cc;
    }
    by_end (Some c) e =
        let gone = quiet c e in
        let after = plays.quiet gone in
        record {
          same = λ more.
              ap (λ ws. alone_run (sizes_of setup) g (inputs_of g played.inputs) (part_of g d (ws ++ more))) none
              ∙ ap (λ is. alone_run (sizes_of setup) g is (part_of g d more)) after.1
              ∙ ap (λ ws. record { alone = record (part_of g d more) { rows = ws }; posts = [] }) (gone ∙ sym after.0)
              ∙ sym (ap (λ ps. record { alone = record (part_of g d more) { rows = mine g played.scene.rows }; posts = ps }) after.2)
              ∙ sym (ap (λ s. record { alone = record { rows = mine g played.scene.rows; greeted = s.greeted; minor = s.minor; ended = s.ended; port = Tape more }; posts = posts_of g played.posts }) kept);
          gone = λ c' e'. after.0;
        }

-- ---- a unit, and an end, of another guest

readings_of-own : (g : ℕ) (ws : List ℕ) → readings_of g (map (λ w. record { guest = g; word = w }) ws) ≡ ws
readings_of-own g [] = refl
readings_of-own g (w ∷ ws) = grind (arith, nat_tests, readings_of-own g ws)

readings_of-other : (g h : ℕ) → (h == g) ≡ false → (ws : List ℕ) → readings_of g (map (λ w. record { guest = h; word = w }) ws) ≡ []
readings_of-other g h e [] = refl
readings_of-other g h e (w ∷ ws) = rw e (readings_of-other g h e ws)

-- something told to another guest, whose rows alone change
plays-other_told : (setup : Sizes) (g h : ℕ) → (h == g) ≡ false → (scene : Scene) (played : SceneOutcome) (input : Input)
    → played.inputs ≡ record { guest = h; input = input } ∷ [] → posts_of g played.posts ≡ [] → mine g played.scene.rows ≡ mine g scene.rows
    → PlaysAlone setup g scene played
plays-other_told setup g h e scene played input told posted kept =
    let none : inputs_of g played.inputs ≡ [] = ap (inputs_of g) told ∙ rw e in
    record {
      same = λ alone running rows.
          ap (λ is. alone_run setup g is alone) none
          ∙ ap (λ rs. record { alone = record alone { rows = rs }; posts = [] }) (rows ∙ sym kept)
          ∙ sym (ap (λ ps. record { alone = record alone { rows = mine g played.scene.rows }; posts = ps }) posted);
      quiet = λ gone. (kept ∙ gone, none, posted);
    }

other_session : (g h : ℕ) → (h == g) ≡ false → (s : Session) (d : DeskState) → session_of g (with_session h s d) ≡ session_of g d
other_session g h e s d = let differ : g ≢ h = grind (arith, nat_tests) in get_or-set_other d.sessions h g s (fresh 0) differ

alone-went_other : (setup : Setup) (g h : ℕ) (u : StreamUnit) (port : PortState) (d : DeskState) → (h == g) ≡ false → IsGoneIfEnded g d
    → IsAsAlone setup g d (went setup h u (effect (sizes_of setup) h (session_of h d).minor d.scene.rows port u) d)
alone-went_other setup g h u port d other quiet =
    let e : Effect = effect (sizes_of setup) h (session_of h d).minor d.scene.rows port u in
    let differ : g ≢ h = grind (arith, nat_tests) in
    let told : SceneOutcome = unit_told (sizes_of setup).clip_limit h u e d.scene in
    alone-played setup g d (and_then told (settle (sizes_of setup))) (map (λ w. record { guest = h; word = w }) e.readings)
    (with_session h (session_after u e (session_of h d)) (record d { counts = counts_after u e d.counts }))
    quiet
    (plays-then (sizes_of setup) g d.scene told (settle (sizes_of setup))
    (plays-other_told (sizes_of setup) g h other d.scene told (Took u) refl (posts_of-other g h other e.answers) (effect-other (sizes_of setup) h g (session_of h d).minor differ d.scene.rows port u))
    (plays-settle (sizes_of setup) g told.scene))
    (other_session g h other (session_after u e (session_of h d)) (record d { counts = counts_after u e d.counts }))
    (readings_of-other g h other e.readings)

alone-ends_other : (setup : Setup) (g h : ℕ) (input : Input) (c : Cause) (d : DeskState) → (h == g) ≡ false → IsGoneIfEnded g d → IsAsAlone setup g d (ends setup h input c d)
alone-ends_other setup g h input c d other quiet =
    let differ : g ≢ h = grind (arith, nat_tests) in
    let told : SceneOutcome = end_told h input c d.scene in
    alone-played setup g d (and_then told (settle (sizes_of setup))) []
    (with_session h (record (session_of h d) { rest = []; ended = Some c }) d)
    quiet
    (plays-then (sizes_of setup) g d.scene told (settle (sizes_of setup))
    (plays-other_told (sizes_of setup) g h other d.scene told input refl (rw other) (mine_other-changed h g differ Cleared d.scene.rows))
    (plays-settle (sizes_of setup) g told.scene))
    (other_session g h other (record (session_of h d) { rest = []; ended = Some c }) d)
    refl

-- ---- a unit, and an end, of this guest

own_input : (g : ℕ) (input : Input) (rest : List GuestInput) → inputs_of g (record { guest = g; input = input } ∷ rest) ≡ input ∷ inputs_of g rest
own_input g input rest = let here : (g == g) ≡ true = grind (arith, nat_tests) in rw here

mine-cleared : (g : ℕ) (rows : List Row) → mine g (changed g Cleared rows) ≡ []
mine-cleared g [] = refl
mine-cleared g (r ∷ rows) = grind (arith, nat_tests, mine-cleared g rows)

alone-ends : (setup : Setup) (g : ℕ) (input : Input) (c : Cause) (d : DeskState) → g < length d.sessions → (session_of g d).ended ≡ None
    → ((alone : Alone) → alone.ended ≡ None → alone.rows ≡ mine g d.scene.rows → alone.minor ≡ (session_of g d).minor → alone_step (sizes_of setup) g input alone ≡ alone_ends g c alone)
    → IsAsAlone setup g d (ends setup g input c d)
alone-ends setup g input c d known running step =
    let told : SceneOutcome = end_told g input c d.scene in
    let after = (plays-settle (sizes_of setup) g told.scene).quiet (mine-cleared g d.scene.rows) in
    let s' : Session = record (session_of g d) { rest = []; ended = Some c } in
    let at : session_of g (with_session g s' d) ≡ s' = get_or-set_same d.sessions g s' (fresh 0) known in
    let here : (g == g) ≡ true = grind (arith, nat_tests) in
    let settled : SceneOutcome = settle (sizes_of setup) told.scene in
    record {
      same = λ more.
          ap (λ is. alone_run (sizes_of setup) g is (part_of g d more)) (own_input g input settled.inputs ∙ ap (λ is. input ∷ is) after.1)
          ∙ ap (λ r. alone_after r.posts (record { alone = r.alone; posts = [] })) (step (part_of g d more) running refl refl)
          ∙ ap (λ rs. record { alone = record { rows = rs; greeted = s'.greeted; minor = s'.minor; ended = s'.ended; port = Tape more }; posts = Ended g c ∷ [] }) (sym after.0)
          ∙ sym (ap (λ s. record { alone = record { rows = mine g settled.scene.rows; greeted = s.greeted; minor = s.minor; ended = s.ended; port = Tape more }; posts = Ended g c ∷ [] }) at)
          ∙ sym (ap (λ ps. record { alone = part_of g (ends setup g input c d).desk more; posts = ps })
          (ap (λ b. cond b (Ended g c ∷ posts_of g settled.posts) (posts_of g settled.posts)) here ∙ ap (λ ps. Ended g c ∷ ps) after.2));
      gone = λ c' e'. after.0;
    }

alone-went : (setup : Setup) (g : ℕ) (u : StreamUnit) (d : DeskState) → g < length d.sessions → (session_of g d).ended ≡ None
    → (effect (sizes_of setup) g (session_of g d).minor d.scene.rows (session_of g d).port u).cause ≡ None
    → IsAsAlone setup g d (went setup g u (effect (sizes_of setup) g (session_of g d).minor d.scene.rows (session_of g d).port u) d)
alone-went setup g u d known running fine =
    let s : Session = session_of g d in
    let e : Effect = effect (sizes_of setup) g s.minor d.scene.rows s.port u in
    let told : SceneOutcome = unit_told (sizes_of setup).clip_limit g u e d.scene in
    let settled : SceneOutcome = settle (sizes_of setup) told.scene in
    let s' : Session = session_after u e s in
    let at : session_of g (with_session g s' d) ≡ s' = get_or-set_same d.sessions g s' (fresh 0) known in
    record {
      same = λ more.
          let alone' : Alone = record { rows = mine g e.rows; greeted = is_greeting u || s.greeted; minor = e.minor; ended = None; port = Tape more } in
          let Out : List Row → Session → List Post → AloneOutcome = λ rs t ps. record { alone = record { rows = rs; greeted = t.greeted; minor = t.minor; ended = t.ended; port = Tape more }; posts = ps } in
          ap (λ ws. alone_run (sizes_of setup) g (inputs_of g (told.inputs ++ settled.inputs)) (part_of g d (ws ++ more))) (readings_of-own g e.readings)
          ∙ ap (λ is. alone_run (sizes_of setup) g is (part_of g d (e.readings ++ more))) (own_input g (Took u) settled.inputs)
          ∙ ap (λ c. alone_after (alone_by (sizes_of setup) g (Took u) c (part_of g d (e.readings ++ more))).posts (alone_run (sizes_of setup) g (inputs_of g settled.inputs) (alone_by (sizes_of setup) g (Took u) c (part_of g d (e.readings ++ more))).alone)) running
          ∙ ap (λ x. alone_after (alone_unit g u x (part_of g d (e.readings ++ more))).posts (alone_run (sizes_of setup) g (inputs_of g settled.inputs) (alone_unit g u x (part_of g d (e.readings ++ more))).alone)) (effect-alone (sizes_of setup) g s.minor d.scene.rows s.port u more)
          ∙ ap (λ c. alone_after (alone_went g u (record e { rows = mine g e.rows; port = Tape more }) c (part_of g d (e.readings ++ more))).posts (alone_run (sizes_of setup) g (inputs_of g settled.inputs) (alone_went g u (record e { rows = mine g e.rows; port = Tape more }) c (part_of g d (e.readings ++ more))).alone)) fine
          ∙ ap (alone_after (replies g e.answers)) ((plays-settle (sizes_of setup) g told.scene).same alone' refl refl)
          ∙ ap (λ c. Out (mine g settled.scene.rows) (record s' { ended = c }) (replies g e.answers ++ posts_of g settled.posts)) (sym running)
          ∙ ap (λ t. Out (mine g settled.scene.rows) t (replies g e.answers ++ posts_of g settled.posts)) (sym at)
          ∙ sym (ap (λ ps. record { alone = part_of g (went setup g u e d).desk more; posts = ps })
          (posts_of-append g (replies g e.answers) settled.posts ∙ ap (λ ps. ps ++ posts_of g settled.posts) (posts_of-own g e.answers)));
      gone = λ c e'. let no : Some c ≡ None = sym e' ∙ (ap (λ t. t.ended) at ∙ running) in cc;
    }

-- ---- any unit, end, piece and step

verdict_cause : Verdict → Option Cause
verdict_cause (Ends c) = Some c
verdict_cause (Greets m answers) = None
verdict_cause (Goes change answers) = None
verdict_cause (Reads row area) = None

carried_out-cause : (g m : ℕ) (rows : List Row) (port : PortState) (v : Verdict) → (carried_out g m rows port v).cause ≡ verdict_cause v
unfolding verdict_cause
carried_out-cause g m rows port (Ends c) = refl
carried_out-cause g m rows port (Greets m' answers) = refl
carried_out-cause g m rows port (Goes change answers) = refl
carried_out-cause g m rows port (Reads row area) = refl

-- the cause is decided by the guest's own rows
cause-alone : (setup : Sizes) (g m : ℕ) (rows : List Row) (port port' : PortState) (u : StreamUnit)
    → (effect setup g m (mine g rows) port' u).cause ≡ (effect setup g m rows port u).cause
cause-alone setup g m rows port port' u =
    carried_out-cause g m (mine g rows) port' (verdict setup g m (mine g (mine g rows)) u)
    ∙ ap (λ own. verdict_cause (verdict setup g m own u)) (mine-mine g rows)
    ∙ sym (carried_out-cause g m rows port (verdict setup g m (mine g rows) u))

step_ends : (setup : Setup) (g : ℕ) (u : StreamUnit) (d : DeskState) (c : Cause) → (unit_effect setup g u d).cause ≡ Some c
    → (alone : Alone) → alone.ended ≡ None → alone.rows ≡ mine g d.scene.rows → alone.minor ≡ (session_of g d).minor → alone_step (sizes_of setup) g (Took u) alone ≡ alone_ends g c alone
step_ends setup g u d c caused alone running rows minor =
    let e : Effect = effect (sizes_of setup) g alone.minor alone.rows alone.port u in
    let same_cause : e.cause ≡ Some c =
    ap (λ m. (effect (sizes_of setup) g m alone.rows alone.port u).cause) minor
    ∙ ap (λ rs. (effect (sizes_of setup) g (session_of g d).minor rs alone.port u).cause) rows
    ∙ cause-alone (sizes_of setup) g (session_of g d).minor d.scene.rows (session_of g d).port alone.port u ∙ caused in
    ap (λ x. alone_by (sizes_of setup) g (Took u) x alone) running
    ∙ ap (λ x. alone_went g u e x alone) same_cause

alone-unit_done : (setup : Setup) (g h : ℕ) (u : StreamUnit) (d : DeskState) → h < length d.sessions → (session_of h d).ended ≡ None → IsGoneIfEnded g d
    → (b : Bool) → (h == g) ≡ b → (c : Option Cause) → (unit_effect setup h u d).cause ≡ c → IsAsAlone setup g d (unit_done setup h u (unit_effect setup h u d) c d)
alone-unit_done setup g h u d known running quiet false e None caused = alone-went_other setup g h u (session_of h d).port d e quiet
alone-unit_done setup g h u d known running quiet false e (Some c) caused = alone-ends_other setup g h (Took u) c d e quiet
alone-unit_done setup g h u d known running quiet true e None caused =
    let is : h ≡ g = grind (arith, nat_tests) in
    subst (λ k. IsAsAlone setup k d (went setup h u (unit_effect setup h u d) d)) is (alone-went setup h u d known running caused)
alone-unit_done setup g h u d known running quiet true e (Some c) caused =
    let is : h ≡ g = grind (arith, nat_tests) in
    subst (λ k. IsAsAlone setup k d (ends setup h (Took u) c d)) is (alone-ends setup h (Took u) c d known running (step_ends setup h u d c caused))

alone-unit : (setup : Setup) (g h : ℕ) (u : StreamUnit) (d : DeskState) → h < length d.sessions → IsGoneIfEnded g d → IsAsAlone setup g d (take_unit setup h u d)
alone-unit setup g h u d known quiet = by_end (session_of h d).ended refl
  where
    by_end : (c : Option Cause) → (session_of h d).ended ≡ c → IsAsAlone setup g d (unit_of_open setup h u c d)
    by_end None running = alone-unit_done setup g h u d known running quiet (h == g) refl (unit_effect setup h u d).cause refl
    by_end (Some c) e = alone-stays setup g d quiet

alone-units : (setup : Setup) (g h : ℕ) (us : List StreamUnit) (d : DeskState) → h < length d.sessions → IsGoneIfEnded g d → IsAsAlone setup g d (take_units setup h us d)
alone-units setup g h [] d known quiet = alone-stays setup g d quiet
alone-units setup g h (u ∷ us) d known quiet =
    let first = alone-unit setup g h u d known quiet in
    alone-next setup g d (take_unit setup h u d) (take_units setup h us) first
    (alone-units setup g h us (take_unit setup h u d).desk (rw length-unit known) first.gone)

-- a state that differs in what a guest's part doesn't have
alone-from : (setup : Setup) (g : ℕ) (d d' : DeskState) (x : StepOutcome) → ((tape : List ℕ) → part_of g d' tape ≡ part_of g d tape) → IsAsAlone setup g d' x → IsAsAlone setup g d x
alone-from setup g d d' x same p = record {
  same = λ more. ap (alone_run (sizes_of setup) g (inputs_of g x.inputs)) (sym (same (readings_of g x.readings ++ more))) ∙ p.same more;
  gone = p.gone;
}

-- a session written with what its part has left as it was
part-with_session : (g h : ℕ) (s : Session) (d : DeskState) (tape : List ℕ) → h < length d.sessions
    → s.greeted ≡ (session_of h d).greeted → s.minor ≡ (session_of h d).minor → s.ended ≡ (session_of h d).ended → part_of g (with_session h s d) tape ≡ part_of g d tape
part-with_session g h s d tape known eg em ee = by_guest (h == g) refl
  where
    of_parts : (t : Session) → t.greeted ≡ (session_of g d).greeted → t.minor ≡ (session_of g d).minor → t.ended ≡ (session_of g d).ended
        → session_of g (with_session h s d) ≡ t → part_of g (with_session h s d) tape ≡ part_of g d tape
    of_parts t a b c at =
        ap (λ x. record { rows = mine g d.scene.rows; greeted = x.greeted; minor = x.minor; ended = x.ended; port = Tape tape }) at
        ∙ ap (λ x. record { rows = mine g d.scene.rows; greeted = x; minor = t.minor; ended = t.ended; port = Tape tape }) a
        ∙ ap (λ x. record { rows = mine g d.scene.rows; greeted = (session_of g d).greeted; minor = x; ended = t.ended; port = Tape tape }) b
        ∙ ap (λ x. record { rows = mine g d.scene.rows; greeted = (session_of g d).greeted; minor = (session_of g d).minor; ended = x; port = Tape tape }) c

    by_guest : (b : Bool) → (h == g) ≡ b → part_of g (with_session h s d) tape ≡ part_of g d tape
    by_guest false e = of_parts (session_of g d) refl refl refl (other_session g h e s d)
    by_guest true e =
        let is : h ≡ g = grind (arith, nat_tests) in
        of_parts s (eg ∙ ap (λ k. (session_of k d).greeted) is) (em ∙ ap (λ k. (session_of k d).minor) is) (ee ∙ ap (λ k. (session_of k d).ended) is)
        (ap (λ k. session_of k (with_session h s d)) (sym is) ∙ get_or-set_same d.sessions h s (fresh 0) known)

part-with_rest : (g h : ℕ) (r : List ℕ) (d : DeskState) (tape : List ℕ) → h < length d.sessions → part_of g (with_rest h r d) tape ≡ part_of g d tape
part-with_rest g h r d tape known = by_end (session_of h d).ended
  where
    by_end : (c : Option Cause) → part_of g (rest_of_open h r c d) tape ≡ part_of g d tape
    by_end None = part-with_session g h (record (session_of h d) { rest = r }) d tape known refl refl refl
    by_end (Some c) = refl

-- what a part says, of two states
quiet-from : (g : ℕ) (d d' : DeskState) → part_of g d' [] ≡ part_of g d [] → IsGoneIfEnded g d → IsGoneIfEnded g d'
quiet-from g d d' same quiet c e = ap (λ p. p.rows) same ∙ quiet c (sym (ap (λ p. p.ended) same) ∙ e)

pub length-with_rest : (h : ℕ) (r : List ℕ) (d : DeskState) → length (with_rest h r d).sessions ≡ length d.sessions
length-with_rest h r d = by_end (session_of h d).ended
  where
    by_end : (c : Option Cause) → length (rest_of_open h r c d).sessions ≡ length d.sessions
    by_end None = length-set d.sessions h (record (session_of h d) { rest = r })
    by_end (Some c) = refl

alone-bytes : (setup : Setup) (g h : ℕ) (piece : List ℕ) (d : DeskState) → h < length d.sessions → IsGoneIfEnded g d → IsAsAlone setup g d (take_bytes setup h piece d)
alone-bytes setup g h piece d known quiet = by_end (session_of h d).ended
  where
    by_end : (c : Option Cause) → IsAsAlone setup g d (bytes_of_open setup h piece c d)
    by_end (Some c) = alone-stays setup g d quiet
    by_end None =
        let c : Cut = cut (session_of h d).greeted ((session_of h d).rest ++ piece) in
        let d' : DeskState = with_rest h c.rest d in
        alone-from setup g d d' (take_units setup h c.units d') (λ tape. part-with_rest g h c.rest d tape known)
        (alone-units setup g h c.units d' (rw length-with_rest known) (quiet-from g d d' (part-with_rest g h c.rest d [] known) quiet))

alone-end : (setup : Setup) (g h : ℕ) (input : Input) (c : Cause) (d : DeskState) → h < length d.sessions → IsGoneIfEnded g d
    → ((alone : Alone) → alone.ended ≡ None → alone_step (sizes_of setup) h input alone ≡ alone_ends h c alone)
    → IsAsAlone setup g d (end_session setup h input c d)
alone-end setup g h input c d known quiet step = by_end (session_of h d).ended refl
  where
    by_guest : (session_of h d).ended ≡ None → (b : Bool) → (h == g) ≡ b → IsAsAlone setup g d (ends setup h input c d)
    by_guest running false e = alone-ends_other setup g h input c d e quiet
    by_guest running true e =
        let is : h ≡ g = grind (arith, nat_tests) in
        subst (λ k. IsAsAlone setup k d (ends setup h input c d)) is (alone-ends setup h input c d known running (λ alone r rows minor. step alone r))

    by_end : (x : Option Cause) → (session_of h d).ended ≡ x → IsAsAlone setup g d (end_of_open setup h input c x d)
    by_end (Some x) e = alone-stays setup g d quiet
    by_end None e = by_guest e (h == g) refl

alone-store : (setup : Setup) (g h delay page offset : ℕ) (bytes : List ℕ) (d : DeskState) → h < length d.sessions → IsGoneIfEnded g d → IsAsAlone setup g d (take_store h delay page offset bytes d)
alone-store setup g h delay page offset bytes d known quiet = by_end (session_of h d).ended
  where
    by_end : (c : Option Cause) → IsAsAlone setup g d (store_of_open h delay page offset bytes c d)
    by_end (Some c) = alone-stays setup g d quiet
    by_end None =
        let s' : Session = record (session_of h d) { port = store (session_of h d).port delay page offset bytes } in
        let d' : DeskState = with_session h s' d in
        let same : (tape : List ℕ) → part_of g d' tape ≡ part_of g d tape = λ tape. part-with_session g h s' d tape known refl refl refl in
        alone-from setup g d d' (stays d') same (alone-stays setup g d' (quiet-from g d d' (same []) quiet))

alone-event : (setup : Setup) (g : ℕ) (i : Item) (d : DeskState) → IsGoneIfEnded g d → IsAsAlone setup g d (event setup i d)
alone-event setup g i d quiet =
    let r : InputOutcome = route setup i d.scene in
    alone-played setup g d (and_then (perform setup.denied r d.scene) (settle (sizes_of setup))) [] d quiet
    (plays-then (sizes_of setup) g d.scene (perform setup.denied r d.scene) (settle (sizes_of setup)) (plays-perform setup.denied (sizes_of setup) g r d.scene) (plays-settle (sizes_of setup) g (perform setup.denied r d.scene).scene))
    refl refl

-- no picture is for a guest
no-pictures : (setup : Setup) (g : ℕ) (rows : List Row) (layers : Layers) (outputs : List Rect) → posts_of g (map (picture_post setup rows layers) outputs) ≡ []
no-pictures setup g rows layers [] = refl
no-pictures setup g rows layers (output ∷ outputs) = no-pictures setup g rows layers outputs

-- a step, seen by one guest, is what it would be alone
pub alone-step : (setup : Setup) (g : ℕ) (i : Item) (piece : List ℕ) (d : DeskState) → HasGuest (length d.sessions) i → IsGoneIfEnded g d → IsAsAlone setup g d (step setup i piece d)
alone-step setup g (item.Bytes h) piece d known quiet = alone-from setup g d (count_item d) _ (λ tape. refl) (alone-bytes setup g h piece (count_item d) known quiet)
alone-step setup g (item.Closed h) piece d known quiet = alone-from setup g d (count_item d) _ (λ tape. refl) (alone-end setup g h Closing (StreamEnded 0 0) (count_item d) known quiet (λ alone r. ap (λ c. alone_by (sizes_of setup) h Closing c alone) r))
alone-step setup g (item.Store h delay page offset) piece d known quiet = alone-from setup g d (count_item d) _ (λ tape. refl) (alone-store setup g h delay page offset piece (count_item d) known quiet)
alone-step setup g (item.Lost h) piece d known quiet = alone-from setup g d (count_item d) _ (λ tape. refl) (alone-end setup g h Losing (LinkFailed 0 0) (count_item d) known quiet (λ alone r. ap (λ c. alone_by (sizes_of setup) h Losing c alone) r))
alone-step setup g item.Snap piece d known quiet = record {
  same = λ more. ap (λ ps. record { alone = part_of g d more; posts = ps }) (sym (no-pictures setup g d.scene.rows d.scene.layers setup.outputs));
  gone = quiet;
}
alone-step setup g item.End piece d known quiet = record { same = λ more. refl; gone = quiet }
alone-step setup g item.Idle piece d known quiet = alone-stays setup g d quiet
alone-step setup g i piece d known quiet = alone-from setup g d (count_item d) _ (λ tape. refl) (alone-event setup g i (count_item d) quiet)
