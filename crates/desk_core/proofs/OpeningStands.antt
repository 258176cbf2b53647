-- The desk that a setup opens.
use Rattle.std.proofs.Common.{◌≡◌, ℕ, zero, suc, nat_le, ◌+◌, ◌<◌, ◌≤◌, ◌==◌, Bool, true, false, List, [], ◌∷◌, ◌++◌, length, map, get_or, Option, Some, None, refl, sym, ◌∙◌, ap, subst, arith}
use Rattle.std.specs.List.{All}
use Rattle.std.specs.Prelude.{option_map, slice_get, slice_index_or}
use Rattle.std.proofs.Math.Seq.{get_or-append_seam}
use Rattle.std.proofs.lemmas.Bool.{and_parts, eqb-true, eqb-false, leb-true}
use Rattle.std.proofs.lemmas.Option.{slice_get-get_or, slice_get-map}
use Rattle.std.proofs.lemmas.List.{get_or-replicate, get_or_append_left, length-replicate}
use Rattle.desk_laws.specs.declared.setup.GuestSetup.{GuestSetup}
use Rattle.desk_laws.specs.declared.setup.Setup.{Setup}
use Rattle.desk_laws.specs.Picture.{label_in}
use Rattle.desk_laws.specs.Rules.{first_broken, first_false, later_rules, or_later, rules}
use Rattle.desk_laws.specs.Clipboard.{empty_clip}
use Rattle.desk_laws.specs.Sizes.{sizes_of}
use Rattle.desk_laws.specs.Rows.{Row}
use Rattle.desk_laws.specs.Stream.{front}
use Rattle.desk_laws.specs.Layers.{Layers, no_layers}
use Rattle.desk_laws.specs.Following.{LayersFollow}
use Rattle.desk_laws.specs.Frames.{PortState}
use Rattle.desk_laws.specs.State.{Session, session_of, opening, fresh}
use Rattle.desk_laws.proofs.FollowChanges.{none-follow}
use Rattle.clipboard_gate.specs.Kept.{keeping}
use Rattle.guest_session.specs.SessionView.{SessionView, AreRows}
use Rattle.frame_pool.specs.Ports.{AreZeros}
use Rattle.compositor.specs.PictureView.{LiesIn}
use Rattle.desk_core.specs.WindowsView.{WindowsView, no_session, part_of, session_in}
use Rattle.desk_core.specs.WindowsStand.{HasNumbers, IsFresh, PartStands, AreAtRest, StandsWith, rests_of}
use Rattle.desk_core.proofs.EndStands.{no-rows}
use Rattle.desk_core.proofs.OutputLemmas.{outputs-lie}

-- each guest's session is a fresh one
first-session : (setup : Setup) (guest : ℕ) → guest < length setup.guests → session_of guest (opening setup) ≡ fresh setup.pages
first-session setup guest below = get_or-replicate (length setup.guests) guest (fresh setup.pages) (fresh 0) below

-- a desk that was made of fresh sessions, and nothing on it
pub record IsOpened (setup : Setup) (desk : WindowsView) : Type 0 where
  pub numbers : HasNumbers setup desk
  pub sessions : (guest : ℕ) → guest < length setup.guests → IsFresh setup guest (session_in guest desk)
  pub layers : desk.layers ≡ no_layers
  pub gate : desk.gate ≡ keeping (sizes_of setup).clip_limit empty_clip
  pub items : desk.items ≡ 0
  pub messages : desk.messages ≡ 0
  pub glances : desk.glances ≡ 0

part-opened : (setup : Setup) (guest : ℕ) (desk : WindowsView) (frames : ℕ → PortState) → AreZeros (length setup.guests) setup.pages frames → IsOpened setup desk → guest < length setup.guests
    → PartStands setup guest [] (part_of guest desk) (frames guest) (opening setup)
part-opened setup guest desk frames blank opened below =
    let made = opened.sessions guest below in
    let new = made.new in
    let session = first-session setup guest below in
    let rows : (session_in guest desk).rows ≡ [] = ap (λ (s : SessionView). s.rows) new in
    let O : List Row → Type 0 = λ rs. AreRows guest rs in
    let M : Layers → Type 0 = λ ls. LayersFollow [] ls in
    record {
      there = omega (arith, below, length-replicate (length setup.guests) (fresh setup.pages));
      sizes = ap (λ (s : SessionView). s.sizes) new;
      owner = ap (λ (s : SessionView). s.guest) new;
      own = subst O (sym rows) (no-rows guest);
      rows = sym rows;
      apart = refl;
      layers = sym opened.layers;
      followed = subst M (sym opened.layers) none-follow;
      gate = opened.gate;
      ended = ap (λ (s : Session). s.ended) session ∙ sym (ap (λ (s : SessionView). s.ended) new);
      opened = λ _. record {
        greeted = ap (λ (s : Session). s.greeted) session ∙ sym made.greeted;
        minor = ap (λ (s : Session). s.minor) session ∙ sym (ap (λ (s : SessionView). s.minor) new);
        stream = made.stands;
      };
      frames = ap (λ (s : Session). s.port) session ∙ sym (blank guest below);
      messages = sym opened.messages;
      glances = sym opened.glances;
      messages_in_range = omega (arith, opened.messages);
      glances_in_range = omega (arith, opened.glances);
    }

pub opening-with : (setup : Setup) (held : ℕ → List ℕ) (desk : WindowsView) (frames : ℕ → PortState) → AreZeros (length setup.guests) setup.pages frames → IsOpened setup desk
    → ((guest : ℕ) → guest < length setup.guests → held guest ≡ []) → StandsWith setup held desk frames (opening setup)
opening-with setup held desk frames blank opened none = record {
  numbers = opened.numbers;
  count = length-replicate (length setup.guests) (fresh setup.pages);
  parts = λ guest below.
      let H : List ℕ → Type 0 = λ h. PartStands setup guest h (part_of guest desk) (frames guest) (opening setup) in
      subst H (sym (none guest below)) (part-opened setup guest desk frames blank opened below);
  known = λ guest above. refl;
  items = sym opened.items;
}

pub opening-stands : (setup : Setup) (desk : WindowsView) (frames : ℕ → PortState) → AreZeros (length setup.guests) setup.pages frames → IsOpened setup desk → AreAtRest setup desk frames (opening setup)
opening-stands setup desk frames blank opened =
    let none : (guest : ℕ) → guest < length setup.guests → rests_of (opening setup) guest ≡ [] = λ guest below. ap (λ (s : Session). s.rest) (first-session setup guest below) in
    record {
      with_rest = opening-with setup (rests_of (opening setup)) desk frames blank opened none;
      waits = λ guest below going. ap (λ b. front b (rests_of (opening setup) guest)) (opened.sessions guest below).greeted ∙ ap (front false) (none guest below);
    }

-- ---- how sessions and labels are made

-- one session more
pub fresh-more : (setup : Setup) (sessions : List SessionView) (next : SessionView) (count : ℕ) → length sessions ≡ count → ((guest : ℕ) → guest < count → IsFresh setup guest (slice_index_or sessions guest no_session)) → IsFresh setup count next
    → (guest : ℕ) → guest < count + 1 → IsFresh setup guest (slice_index_or (sessions ++ next ∷ []) guest no_session)
fresh-more setup sessions next count long fresh new guest below = by_guest (guest == count) refl
  where
    by_guest : (b : Bool) → (guest == count) ≡ b → IsFresh setup guest (slice_index_or (sessions ++ next ∷ []) guest no_session)
    by_guest true is =
        let same : guest ≡ length sessions = eqb-true guest count is ∙ sym long in
        let last : slice_index_or (sessions ++ next ∷ []) guest no_session ≡ next = ap (λ g. slice_index_or (sessions ++ next ∷ []) g no_session) same ∙ get_or-append_seam sessions next [] no_session in
        let S : SessionView → Type 0 = λ s. IsFresh setup guest s in
        let G : ℕ → Type 0 = λ g. IsFresh setup g next in
        subst S (sym last) (subst G (sym (eqb-true guest count is)) new)
    by_guest false is =
        let apart = eqb-false guest count is in
        let under : guest < count = omega (arith, below, apart) in
        let S : SessionView → Type 0 = λ s. IsFresh setup guest s in
        subst S (sym (get_or_append_left sessions (next ∷ []) no_session guest (omega (arith, under, long)))) (fresh guest under)

-- the label of each guest
pub label-at : (guests : List GuestSetup) (guest : ℕ) → guest < length guests → slice_get (map (λ g. g.colour) guests) guest ≡ Some (record { 0 = label_in (slice_get guests guest) })
label-at guests guest below =
    let found : slice_get guests guest ≡ Some (get_or guests guest nobody) = slice_get-get_or guests guest nobody below in
    slice_get-map (λ g. g.colour) guests guest ∙ ap (option_map (λ (g : GuestSetup). g.colour)) found ∙ sym (ap (λ o. Some (record { 0 = label_in o })) found)
  where
    nobody : GuestSetup
    nobody = record { colour = record { 0 = 0 }; name = [] }

-- where no rule is broken, each holds
rule-holds : (n : ℕ) (bs : List Bool) (k : ℕ) → first_false n bs ≡ None → get_or bs k true ≡ true
rule-holds n [] k is = refl
rule-holds n (true ∷ bs) zero is = refl
rule-holds n (true ∷ bs) (suc k) is = rule-holds (n + 1) bs k is
rule-holds n (false ∷ bs) k is = cc

-- where no rule is broken, none of the first ones is, and none of the later ones
both-kept : (first later : Option ℕ) → or_later first later ≡ None → (first ≡ None) × (later ≡ None)
both-kept None later is = (refl, is)
both-kept (Some n) later is = cc

-- borders are a pixel wide or more
pub border-wide : (setup : Setup) → first_broken setup ≡ None → 1 ≤ setup.border
border-wide setup is =
    let first = (both-kept (first_false 1 (rules setup)) (first_false 17 (later_rules setup)) is).0 in
    leb-true 1 setup.border (and_parts (nat_le 1 setup.border) (nat_le setup.border 16) (rule-holds 1 (rules setup) 4 first)).0

-- the outputs lie in the plane
pub outputs-placed : (setup : Setup) → first_broken setup ≡ None → All (LiesIn setup.width setup.height) setup.outputs
outputs-placed setup is =
    outputs-lie setup.width setup.height setup.outputs
    (rule-holds 17 (later_rules setup) 1 (both-kept (first_false 1 (rules setup)) (first_false 17 (later_rules setup)) is).1)
