-- Two runs in which a guest has the same inputs and readings.
use Rattle.std.proofs.Common.{◌≡◌, ℕ, zero, suc, List, [], ◌∷◌, ◌++◌, length, get_or, replicate, Option, Some, None, refl, sym, ◌∙◌, ap, length-set, append-nil}
use Rattle.std.specs.List.{All}
use Rattle.std.proofs.lemmas.List.{length-replicate}
use Rattle.std.proofs.lemmas.List.Elements.{All-head, All-tail}
use Rattle.desk_laws.specs.declared.setup.Setup.{Setup}
use Rattle.desk_laws.specs.declared.cause.Cause.{Cause}
use Rattle.desk_laws.specs.declared.cause.Cause.TheVariants.{StreamEnded, LinkFailed}
use Rattle.desk_laws.specs.declared.item.Item.{Item}
use Rattle.desk_laws.specs.declared.item.Item.TheVariants as item
use Rattle.desk_laws.specs.Sizes.{sizes_of}
use Rattle.desk_laws.specs.Stream.{StreamUnit, Cut, cut}
use Rattle.desk_laws.specs.Frames.{Tape, store}
use Rattle.desk_laws.specs.Scene.{Input}
use Rattle.isolation_laws.specs.Alone.{alone_run}
use Rattle.desk_laws.specs.State.{DeskState, StepOutcome, fresh, opening, session_of, inputs_of, readings_of, count_item}
use Rattle.desk_laws.specs.Steps.{run, step, take_unit, take_units, take_bytes, bytes_of_open, with_rest, end_session, end_of_open, take_store, store_of_open}
use Rattle.desk_laws.specs.Items.{FedItem}
use Rattle.isolation_laws.specs.Alone.{newcomer, part_of}
use Rattle.isolation_laws.specs.Isolation.{HasGuest, IsGoneIfEnded, IsAsAlone, OpenedRunsAreAlone, TwoWorlds}
use Rattle.isolation_laws.proofs.StepAlone.{length-unit, alone-stays, alone-next, alone-step, length-with_rest}

-- ---- the number of sessions stays

length-units : (setup : Setup) (g : ℕ) (units : List StreamUnit) (d : DeskState) → length (take_units setup g units d).desk.sessions ≡ length d.sessions
length-units setup g [] d = refl
length-units setup g (u ∷ units) d = length-units setup g units (take_unit setup g u d).desk ∙ length-unit setup g u d

length-bytes : (setup : Setup) (h : ℕ) (piece : List ℕ) (d : DeskState) → length (take_bytes setup h piece d).desk.sessions ≡ length d.sessions
length-bytes setup h piece d = by_end (session_of h d).ended
  where
    by_end : (c : Option Cause) → length (bytes_of_open setup h piece c d).desk.sessions ≡ length d.sessions
    by_end (Some c) = refl
    by_end None =
        let c : Cut = cut (session_of h d).greeted ((session_of h d).rest ++ piece) in
        length-units setup h c.units (with_rest h c.rest d) ∙ length-with_rest h c.rest d

length-end : (setup : Setup) (h : ℕ) (input : Input) (cause : Cause) (d : DeskState) → length (end_session setup h input cause d).desk.sessions ≡ length d.sessions
length-end setup h input cause d = by_end (session_of h d).ended
  where
    by_end : (c : Option Cause) → length (end_of_open setup h input cause c d).desk.sessions ≡ length d.sessions
    by_end (Some c) = refl
    by_end None = length-set d.sessions h (record (session_of h d) { rest = []; ended = Some cause })

length-store : (h delay page offset : ℕ) (bytes : List ℕ) (d : DeskState) → length (take_store h delay page offset bytes d).desk.sessions ≡ length d.sessions
length-store h delay page offset bytes d = by_end (session_of h d).ended
  where
    by_end : (c : Option Cause) → length (store_of_open h delay page offset bytes c d).desk.sessions ≡ length d.sessions
    by_end (Some c) = refl
    by_end None = length-set d.sessions h (record (session_of h d) { port = store (session_of h d).port delay page offset bytes })

length-step : (setup : Setup) (i : Item) (piece : List ℕ) (d : DeskState) → length (step setup i piece d).desk.sessions ≡ length d.sessions
length-step setup (item.Bytes h) piece d = length-bytes setup h piece (count_item d)
length-step setup (item.Closed h) piece d = length-end setup h _ (StreamEnded 0 0) (count_item d)
length-step setup (item.Store h delay page offset) piece d = length-store h delay page offset piece (count_item d)
length-step setup (item.Lost h) piece d = length-end setup h _ (LinkFailed 0 0) (count_item d)
length-step setup i piece d = refl

-- ---- a whole run

pub alone-run : (setup : Setup) (g : ℕ) (is : List FedItem) (d : DeskState) → All (λ i. HasGuest (length d.sessions) i.item) is → IsGoneIfEnded g d → IsAsAlone setup g d (run setup is d)
alone-run setup g [] d below quiet = alone-stays setup g d quiet
alone-run setup g (i ∷ is) d below quiet =
    let first = alone-step setup g i.item i.piece d (All-head (λ x. HasGuest (length d.sessions) x.item) i is below) quiet in
    alone-next setup g d (step setup i.item i.piece d) (run setup is) first
    (alone-run setup g is (step setup i.item i.piece d).desk (rw length-step (All-tail (λ x. HasGuest (length d.sessions) x.item) i is below)) first.gone)

part_of-opening : (setup : Setup) (g : ℕ) (tape : List ℕ) → part_of g (opening setup) tape ≡ newcomer tape
part_of-opening setup g tape = at (length setup.guests) g
  where
    at : (n k : ℕ) → record { rows = []; greeted = (get_or (replicate n (fresh setup.pages)) k (fresh 0)).greeted; minor = (get_or (replicate n (fresh setup.pages)) k (fresh 0)).minor; ended = (get_or (replicate n (fresh setup.pages)) k (fresh 0)).ended; port = Tape tape } ≡ newcomer tape
    at zero k = refl
    at (suc n) zero = refl
    at (suc n) (suc k) = at n k

gone-opening : (setup : Setup) (g : ℕ) → IsGoneIfEnded g (opening setup)
gone-opening setup g c e = refl

below-opening : (setup : Setup) (is : List FedItem) → All (λ i. HasGuest (length setup.guests) i.item) is → All (λ i. HasGuest (length (opening setup).sessions) i.item) is
below-opening setup is b = rw length-replicate b

pub opened-alone : OpenedRunsAreAlone
opened-alone setup is g below =
    let x : StepOutcome = run setup is (opening setup) in
    ap (λ ws. alone_run (sizes_of setup) g (inputs_of g x.inputs) (newcomer ws)) (sym (append-nil (readings_of g x.readings)))
    ∙ ap (alone_run (sizes_of setup) g (inputs_of g x.inputs)) (sym (part_of-opening setup g (readings_of g x.readings ++ [])))
    ∙ (alone-run setup g is (opening setup) (below-opening setup is below) (gone-opening setup g)).same []

pub two-worlds : TwoWorlds
two-worlds a b is js g sizes below_a below_b alike =
    let x : StepOutcome = run a is (opening a) in
    let y : StepOutcome = run b js (opening b) in
    let same =
    sym (opened-alone a is g below_a)
    ∙ ap (λ s. alone_run s g (inputs_of g x.inputs) (newcomer (readings_of g x.readings))) sizes
    ∙ ap (λ us. alone_run (sizes_of b) g us (newcomer (readings_of g x.readings))) alike.inputs
    ∙ ap (λ ws. alone_run (sizes_of b) g (inputs_of g y.inputs) (newcomer ws)) alike.readings
    ∙ opened-alone b js g below_b in
    record { posts = ap (λ r. r.posts) same; rows = ap (λ r. r.alone.rows) same }
