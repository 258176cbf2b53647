-- The records of a run, and of each guest in it.
use Rattle.std.proofs.Common.{◌≡◌, ◌<◌, ◌^◌, ℕ, List, [], ◌∷◌, ◌++◌, length, map, refl, sym, ◌∙◌, ap, subst, arith}
use Rattle.std.specs.List.{All}
use Rattle.std.proofs.lemmas.List.{map-append}
use Rattle.std.proofs.lemmas.List.Elements.{All-cons, All-head, All-tail, All-weaker}
use Rattle.desk_laws.specs.declared.setup.Setup.{Setup}
use Rattle.desk_laws.specs.declared.item.Item.{Item}
use Rattle.desk_laws.specs.declared.item.Item.TheVariants as item
use Rattle.desk_laws.specs.Rules.{Fits}
use Rattle.desk_laws.specs.Items.{FedItem, FitsItem}
use Rattle.desk_laws.specs.Rows.{mine}
use Rattle.desk_laws.specs.Scene.{Post}
use Rattle.desk_laws.specs.State.{DeskState, StepOutcome, opening}
use Rattle.desk_laws.specs.Steps.{picture_post, step, run}
use Rattle.isolation_laws.specs.Isolation.{HasGuest}
use Rattle.isolation_laws.proofs.RunAlone.{opened-alone}
use Rattle.record_format.specs.OutputGrammar.{posts_bytes}
use Rattle.record_format.specs.OutputRecords.{out_of, posts_read}
use Rattle.record_format.specs.PostFields.{OutPost}
use Rattle.record_format.proofs.OutputLemmas.{guest_records_are_read, posts_are_read}
use Rattle.record_format.proofs.SetupLemmas.{fits_of}
use Rattle.run_laws.proofs.GrantedSteps.{grants-carry_no_more}
use Rattle.output_laws.specs.Isolated.{RunsAreIsolated, SnapsAlone, state_after}
use Rattle.output_laws.specs.RunRecords.{AllFit, RunsHaveRecords, GuestsRecordsAreAlone, alone_in}
use Rattle.output_laws.proofs.IsolatedLemmas.{content-alone, pictures-composed, posts-append}
use Rattle.output_laws.proofs.PostRecords.{nothing-recorded, recorded}
use Rattle.output_laws.proofs.StepRecords.{IsKeptIn, KeepsDesk, next-kept, step-kept}

-- the state before any item
opening-kept : (setup : Setup) → IsKeptIn setup (opening setup)
opening-kept setup = record {
  scene = record { rows = λ guest far. refl; clip = tt };
  counts = record { items = omega arith; messages = omega arith; glances = omega arith };
}

-- a run from a state that is so
run-kept : (painted : ℕ) (setup : Setup) (items : List FedItem) (desk : DeskState) → Fits setup → painted < 2 ^ 64 → AllFit setup items → IsKeptIn setup desk
    → KeepsDesk setup painted (run setup items desk)
run-kept painted setup [] desk fits small fit kept = record { desk = kept; posts = nothing-recorded painted }
run-kept painted setup (i ∷ items) desk fits small fit kept =
    let Fit : FedItem → Type 0 = λ g. FitsItem (length setup.guests) setup.pages g.item (length g.piece) in
    next-kept setup fits painted small (step setup i.item i.piece desk) (run setup items)
    (step-kept setup fits painted small i.item i.piece desk (All-head Fit i items fit) kept)
    (run-kept painted setup items (step setup i.item i.piece desk).desk fits small (All-tail Fit i items fit))

pub runs-have_records : RunsHaveRecords
runs-have_records painted setup items unbroken fit small causes =
    let all : KeepsDesk setup painted (run setup items (opening setup)) = run-kept painted setup items (opening setup) (fits_of setup unbroken) small fit (opening-kept setup) in
    recorded painted (run setup items (opening setup)).posts all.posts causes

-- an item in its ranges is of a guest that is there, if it is of one
has-guest : (guests pages len : ℕ) (i : Item) → FitsItem guests pages i len → HasGuest guests i
has-guest guests pages len (item.Bytes guest) fit = fit.0
has-guest guests pages len (item.Closed guest) fit = fit.0
has-guest guests pages len (item.Store guest delay page offset) fit = fit.0
has-guest guests pages len (item.Lost guest) fit = fit.0
has-guest guests pages len i fit = tt

pub guests-records_are_alone : GuestsRecordsAreAlone
guests-records_are_alone painted setup items guest unbroken fit small causes =
    let below : All (λ (g : FedItem). HasGuest (length setup.guests) g.item) items =
    All-weaker (λ (g : FedItem). FitsItem (length setup.guests) setup.pages g.item (length g.piece)) (λ (g : FedItem). HasGuest (length setup.guests) g.item)
    (λ g one. has-guest (length setup.guests) setup.pages (length g.piece) g.item one) items fit in
    guest_records_are_read painted guest (run setup items (opening setup)).posts (runs-have_records painted setup items unbroken fit small causes)
    ∙ ap (λ r. map (out_of painted) r.posts) (sym (opened-alone setup items guest below))

-- the guests of items in their ranges are there
guests-there : (setup : Setup) (items : List FedItem) → AllFit setup items → All (λ (g : FedItem). HasGuest (length setup.guests) g.item) items
guests-there setup items fit =
    All-weaker (λ (g : FedItem). FitsItem (length setup.guests) setup.pages g.item (length g.piece)) (λ (g : FedItem). HasGuest (length setup.guests) g.item)
    (λ g one. has-guest (length setup.guests) setup.pages (length g.piece) g.item one) items fit

-- a guest's windows after a run are those of the guest alone
rows-alone : (setup : Setup) (items : List FedItem) (guest : ℕ) → AllFit setup items → mine guest (state_after setup items).scene.rows ≡ (alone_in setup items guest).alone.rows
rows-alone setup items guest fit = ap (λ r. r.alone.rows) (sym (opened-alone setup items guest (guests-there setup items fit)))

-- what all have, the first have
all-front : (P : FedItem → Type 0) (front behind : List FedItem) → All P (front ++ behind) → All P front
all-front P [] behind all = λ k d below. absurd (omega (arith, below))
all-front P (i ∷ front) behind all = All-cons P i front (All-head P i (front ++ behind) all) (all-front P front behind (All-tail P i (front ++ behind) all))

-- what stands behind a Snap's pictures
snaps-alone : (painted : ℕ) (setup : Setup) (items front behind : List FedItem) (piece : List ℕ) → items ≡ front ++ record { item = item.Snap; piece = piece } ∷ behind → AllFit setup items
    → posts_read (posts_bytes painted (run setup items (opening setup)).posts) ≡ map (out_of painted) (run setup items (opening setup)).posts
    → SnapsAlone painted setup front (posts_bytes painted (run setup items (opening setup)).posts)
snaps-alone painted setup items front behind piece is fit read =
    let before : StepOutcome = run setup front (opening setup) in
    let Fit : FedItem → Type 0 = λ g. FitsItem (length setup.guests) setup.pages g.item (length g.piece) in
    let snap : FedItem = record { item = item.Snap; piece = piece } in
    let after : List Post = (run setup behind (step setup item.Snap piece before.desk).desk).posts in
    let pictures : List Post = map (picture_post setup before.desk.scene.rows before.desk.scene.layers) setup.outputs in
    let posts : (run setup items (opening setup)).posts ≡ before.posts ++ (pictures ++ after) = ap (λ (is : List FedItem). (run setup is (opening setup)).posts) is ∙ posts-append setup front (snap ∷ behind) (opening setup) in
    record {
      rest = map (out_of painted) after;
      pictures = read ∙ ap (map (out_of painted)) posts ∙ map-append (out_of painted) before.posts (pictures ++ after)
          ∙ ap (λ (ps : List OutPost). map (out_of painted) before.posts ++ ps)
          (map-append (out_of painted) pictures after ∙ ap (λ (ps : List OutPost). ps ++ map (out_of painted) after) (pictures-composed painted setup before.desk setup.outputs));
      contents = λ p id shows. content-alone setup before.desk.scene.rows (alone_in setup front id.guest).alone.rows before.desk.scene.layers p id (rows-alone setup front id.guest (all-front Fit front (snap ∷ behind) (subst (All Fit) is fit))) shows;
    }

pub runs-are_isolated : RunsAreIsolated
runs-are_isolated painted setup items unbroken fit small causes = record {
  snaps = λ front behind piece is. snaps-alone painted setup items front behind piece is fit (posts_are_read painted (run setup items (opening setup)).posts (runs-have_records painted setup items unbroken fit small causes));
  told = λ guest. guests-records_are_alone painted setup items guest unbroken fit small causes;
  granted = λ front behind i is. grants-carry_no_more setup i.item i.piece (state_after setup front);
}
