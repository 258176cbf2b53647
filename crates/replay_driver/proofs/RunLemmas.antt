-- What was given and written so far, and what each outcome says then.
use Rattle.std.proofs.Common.{◌≡◌, ℕ, ◌+◌, ◌<◌, ◌≤◌, List, [], ◌∷◌, ◌++◌, length, take, Option, Some, None, Ok, Err, true, false, inl, inr, refl, sym, ◌∙◌, ap, subst, arith, append_assoc, length-append, length-take}
use Rattle.std.specs.Prelude.{◌⊎◌}
use Rattle.std.proofs.lemmas.Bool.{cases_Bool}
use Rattle.std.proofs.lemmas.List.{append-nil, get_or-replicate}
use Rattle.std.proofs.lemmas.List.Elements.{All-append, All-cons}
use Rattle.std.proofs.lemmas.List.Concat.{flat_map-append}
use Rattle.desk_laws.specs.declared.setup.Setup.{Setup}
use Rattle.desk_laws.specs.declared.item.Item.{Item}
use Rattle.desk_laws.specs.declared.item.Item.TheVariants as items
use Rattle.desk_laws.specs.Items.{FedItem, FitsItem}
use Rattle.desk_laws.specs.declared.limits.TheConstants.{MAX_PIECE}
use Rattle.desk_laws.specs.Rules.{first_broken}
use Rattle.desk_laws.specs.Scene.{Post}
use Rattle.desk_laws.specs.Frames.{PortState, zeros}
use Rattle.desk_laws.specs.State.{DeskState, Session, fresh, opening, session_of}
use Rattle.desk_laws.specs.Steps.{step, run}
use Rattle.io_ports.specs.Content.{Grows, GrowsPart}
use Rattle.io_ports.specs.Feeds.{Answer}
use Rattle.io_ports.specs.declared.feed.FeedFault.{FeedFault}
use Rattle.io_ports.specs.declared.feed.FeedFault.TheVariants as feeds
use Rattle.io_ports.proofs.GrowLemmas.{grows_none, grows_on, part_behind}
use Rattle.desk_core.specs.DeskView.{DeskView, picture_of}
use Rattle.replay_driver.specs.declared.outcome.Outcome.TheVariants as outcomes
use Rattle.output_laws.specs.RunRecords.{AllFit, CausesFit, HasCauseWidths}
use Rattle.replay_driver.specs.FeedOutcomes.{RanOver, EndsNowhereElse, AreFramesOf, after_feed}
use Rattle.desk_core.specs.DeskStands.{Stands}
use Rattle.replay_driver.specs.FeedRuns.{Fed, NoEnd}
use Rattle.replay_driver.specs.ItemWrites.{step_bytes}
use Rattle.record_format.specs.OutputGrammar.{post_bytes, posts_bytes}
use Rattle.replay_driver.specs.Outputs.{painted_from, output}
use Rattle.desk_core.specs.Painting.{painted_after}
use Rattle.record_format.specs.RecordGrammar.{alone, is_end}
use Rattle.frame_pool.specs.Ports.{AreZeros}
use Rattle.replay_driver.proofs.DeskFacts.{frames_are}
use Rattle.replay_driver.proofs.GuestPosts.{any_count}
use Rattle.replay_driver.proofs.IsolatedRuns.{is_isolated}

-- ---- what one call says, each says

pub fed_so : {F : Type 0} (one two : F → Answer → F → Type 0) → ((a : F) (answer : Answer) (b : F) → one a answer b → two a answer b)
    → (given : List FedItem) (last : Option FeedFault) (a b : F) → Fed one a given last b → Fed two a given last b
fed_so one two so [] None a b fed = fed
fed_so one two so [] (Some fault) a b fed = so a (Err fault) b fed
fed_so one two so (g ∷ given) last a b fed = (fed.0, so a (Ok g) fed.0 fed.1, fed_so one two so given last fed.0 b fed.2)

-- ---- one item more

pub fed_more : {F : Type 0} (gives : F → Answer → F → Type 0) (given : List FedItem) (g : FedItem) (a m b : F) → Fed gives a given None m → gives m (Ok g) b → Fed gives a (given ++ g ∷ []) None b
fed_more {F} gives [] g a m b fed one = (b, subst (λ (x : F). gives x (Ok g) b) (sym fed) one, refl)
fed_more gives (first ∷ given) g a m b fed one = (fed.0, fed.1, fed_more gives given g fed.0 m b fed.2 one)

pub fed_last : {F : Type 0} (gives : F → Answer → F → Type 0) (given : List FedItem) (fault : FeedFault) (a m b : F) → Fed gives a given None m → gives m (Err fault) b → Fed gives a given (Some fault) b
fed_last {F} gives [] fault a m b fed one = subst (λ (x : F). gives x (Err fault) b) (sym fed) one
fed_last gives (first ∷ given) fault a m b fed one = (fed.0, fed.1, fed_last gives given fault fed.0 m b fed.2 one)

pub no_end_more : (given : List FedItem) (g : FedItem) → NoEnd given → is_end g.item ≡ false → NoEnd (given ++ g ∷ [])
no_end_more [] g none one = (one, tt)
no_end_more (first ∷ given) g none one = (none.0, no_end_more given g none.1 one)

run_desk : (setup : Setup) (given : List FedItem) (g : FedItem) (state : DeskState) → (run setup (given ++ g ∷ []) state).desk ≡ (step setup g.item g.piece (run setup given state).desk).desk
run_desk setup [] g state = refl
run_desk setup (first ∷ given) g state = run_desk setup given g (step setup first.item first.piece state).desk

run_posts : (setup : Setup) (given : List FedItem) (g : FedItem) (state : DeskState)
    → (run setup (given ++ g ∷ []) state).posts ≡ (run setup given state).posts ++ (step setup g.item g.piece (run setup given state).desk).posts
run_posts setup [] g state = append-nil (step setup g.item g.piece state).posts
run_posts setup (first ∷ given) g state =
    let one = step setup first.item first.piece state in
    ap (λ (l : List Post). one.posts ++ l) (run_posts setup given g one.desk)
    ∙ sym (append_assoc one.posts (run setup given one.desk).posts (step setup g.item g.piece (run setup given one.desk).desk).posts)

painted_more : (setup : Setup) (given : List FedItem) (g : FedItem) (p : ℕ) → painted_from setup p (given ++ g ∷ []) ≡ painted_after setup g.item (painted_from setup p given)
painted_more setup [] g p = refl
painted_more setup (first ∷ given) g p = painted_more setup given g (painted_after setup first.item p)

-- the bytes of a run in which End is not given don't depend on the picture's count
bytes_any : (setup : Setup) (p q : ℕ) (given : List FedItem) (state : DeskState) → NoEnd given → posts_bytes p (run setup given state).posts ≡ posts_bytes q (run setup given state).posts
bytes_any setup p q [] state none = refl
bytes_any setup p q (first ∷ given) state none =
    let one = step setup first.item first.piece state in
    flat_map-append (post_bytes p) one.posts (run setup given one.desk).posts
    ∙ ap (λ (l : List ℕ). l ++ posts_bytes p (run setup given one.desk).posts) (any_count setup p q first.item first.piece state none.0)
    ∙ ap (λ (l : List ℕ). posts_bytes q one.posts ++ l) (bytes_any setup p q given one.desk none.1)
    ∙ sym (flat_map-append (post_bytes q) one.posts (run setup given one.desk).posts)

-- what the items so far give
abbrev pub so_far_bytes : Setup → List FedItem → List ℕ
so_far_bytes setup given = posts_bytes 0 (run setup given (opening setup)).posts

output_so_far : (setup : Setup) (given : List FedItem) → NoEnd given → so_far_bytes setup given ≡ output setup given
unfolding output
output_so_far setup given none = bytes_any setup 0 (painted_from setup 0 given) given (opening setup) none

-- what the items so far give, and then what one more gives
output_more : (setup : Setup) (given : List FedItem) (g : FedItem) (p : ℕ) → NoEnd given → p ≡ painted_from setup 0 (given ++ g ∷ [])
    → so_far_bytes setup given ++ step_bytes p setup g.item g.piece (run setup given (opening setup)).desk ≡ output setup (given ++ g ∷ [])
unfolding output
output_more setup given g p none is =
    let before = (run setup given (opening setup)).posts in
    let one = (step setup g.item g.piece (run setup given (opening setup)).desk).posts in
    ap (λ (l : List ℕ). l ++ posts_bytes p one) (bytes_any setup 0 p given (opening setup) none)
    ∙ sym (flat_map-append (post_bytes p) before one)
    ∙ ap (posts_bytes p) (sym (run_posts setup given g (opening setup)))
    ∙ ap (λ (k : ℕ). posts_bytes k (run setup (given ++ g ∷ []) (opening setup)).posts) is

so_far_more : (setup : Setup) (given : List FedItem) (g : FedItem) (p : ℕ) → is_end g.item ≡ false
    → so_far_bytes setup given ++ step_bytes p setup g.item g.piece (run setup given (opening setup)).desk ≡ so_far_bytes setup (given ++ g ∷ [])
so_far_more setup given g p more =
    let before = (run setup given (opening setup)).posts in
    let state = (run setup given (opening setup)).desk in
    let one = (step setup g.item g.piece state).posts in
    ap (λ (l : List ℕ). so_far_bytes setup given ++ l) (any_count setup p 0 g.item g.piece state more)
    ∙ sym (flat_map-append (post_bytes 0) before one)
    ∙ ap (posts_bytes 0) (sym (run_posts setup given g (opening setup)))

-- one item fits
abbrev pub Fits : Setup → FedItem → Type 0
Fits setup g = FitsItem (length setup.guests) setup.pages g.item (length g.piece)

fit_more : (setup : Setup) (given : List FedItem) (g : FedItem) → AllFit setup given → Fits setup g → AllFit setup (given ++ g ∷ [])
fit_more setup given g fits one = All-append (Fits setup) given (g ∷ []) fits (All-cons (Fits setup) g [] one (λ k other below. absurd (omega (arith, below))))

causes_more : (setup : Setup) (given : List FedItem) (g : FedItem) → CausesFit (run setup given (opening setup)).posts → CausesFit (step setup g.item g.piece (run setup given (opening setup)).desk).posts
    → CausesFit (run setup (given ++ g ∷ []) (opening setup)).posts
causes_more setup given g fit one =
    let before = (run setup given (opening setup)).posts in
    let posts = (step setup g.item g.piece (run setup given (opening setup)).desk).posts in
    subst CausesFit (sym (run_posts setup given g (opening setup))) (All-append HasCauseWidths before posts fit one)

-- ---- the frames

first_session : (setup : Setup) (guest : ℕ) → guest < length setup.guests → (session_of guest (opening setup)).port ≡ zeros setup.pages
first_session setup guest below = ap (λ (s : Session). s.port) (get_or-replicate (length setup.guests) guest (fresh setup.pages) (fresh 0) below)

-- after one item more the frames are those of the state that the desk stands for
frames_more : (setup : Setup) (given : List FedItem) (g : FedItem) (desk : DeskView) (frames : ℕ → PortState)
    → Stands setup desk frames (step setup g.item g.piece (run setup given (opening setup)).desk).desk → AreFramesOf setup (run setup (given ++ g ∷ []) (opening setup)).desk frames
frames_more setup given g desk frames stands =
    subst (λ (s : DeskState). AreFramesOf setup s frames) (sym (run_desk setup given g (opening setup))) (frames_are setup desk frames _ stands)

-- ---- what stands after some items

-- n items were given and stepped, none of them End, and this is what they wrote
pub record SoFar {F : Type 0} (gives : F → Answer → F → Type 0) (setup : Setup) (n : ℕ) (first feed : F) (desk : DeskView) (frames : ℕ → PortState) (before after : Option (List ℕ)) : Type 0 where
  pub given : List FedItem
  pub fed : Fed gives first given None feed
  pub no_end : NoEnd given
  pub fits : AllFit setup given
  pub causes : CausesFit (run setup given (opening setup)).posts
  pub count : length given ≡ n
  pub stands : Stands setup desk frames (run setup given (opening setup)).desk
  pub painted : (picture_of desk).painted ≡ painted_from setup 0 given
  pub grown : Grows before (so_far_bytes setup given) after

pub started : {F : Type 0} (gives : F → Answer → F → Type 0) (setup : Setup) (feed : F) (desk : DeskView) (frames : ℕ → PortState) (before : Option (List ℕ))
    → Stands setup desk frames (opening setup) → (picture_of desk).painted ≡ 0 → SoFar gives setup 0 feed feed desk frames before before
started gives setup feed desk frames before stands painted = record {
  given = [];
  fed = refl;
  no_end = tt;
  fits = λ k other below. absurd (omega (arith, below));
  causes = λ k other below. absurd (omega (arith, below));
  count = refl;
  stands = stands;
  painted = painted;
  grown = grows_none before before refl;
}

pub stepped : {F : Type 0} (gives : F → Answer → F → Type 0) (setup : Setup) (n p : ℕ) (first feed after_feed : F) (desk new : DeskView) (frames frames' : ℕ → PortState) (g : FedItem) (before mid after : Option (List ℕ))
    → (so_far : SoFar gives setup n first feed desk frames before mid) → gives feed (Ok g) after_feed → Fits setup g → is_end g.item ≡ false
    → Stands setup new frames' (step setup g.item g.piece (run setup so_far.given (opening setup)).desk).desk
    → CausesFit (step setup g.item g.piece (run setup so_far.given (opening setup)).desk).posts
    → (picture_of new).painted ≡ painted_after setup g.item (picture_of desk).painted
    → Grows mid (step_bytes p setup g.item g.piece (run setup so_far.given (opening setup)).desk) after
    → SoFar gives setup (n + 1) first after_feed new frames' before after
stepped gives setup n p first feed after_feed desk new frames frames' g before mid after so_far one fits more stands causes painted grown = record {
  given = so_far.given ++ g ∷ [];
  fed = fed_more gives so_far.given g first feed after_feed so_far.fed one;
  no_end = no_end_more so_far.given g so_far.no_end more;
  fits = fit_more setup so_far.given g so_far.fits fits;
  causes = causes_more setup so_far.given g so_far.causes causes;
  count = omega (arith, length-append so_far.given (g ∷ []), so_far.count);
  stands = subst (λ (s : DeskState). Stands setup new frames' s) (sym (run_desk setup so_far.given g (opening setup))) stands;
  painted = painted ∙ ap (painted_after setup g.item) so_far.painted ∙ sym (painted_more setup so_far.given g 0);
  grown = grows_on before mid after _ _ _ so_far.grown grown (so_far_more setup so_far.given g p more);
}

-- ---- the outcomes

pub ended : {F : Type 0} (gives : F → Answer → F → Type 0) (setup : Setup) (n bound : ℕ) (first feed after_feed : F) (desk new : DeskView) (frames frames' : ℕ → PortState) (g : FedItem) (before mid after : Option (List ℕ))
    → first_broken setup ≡ None
    → (so_far : SoFar gives setup n first feed desk frames before mid) → gives feed (Ok g) after_feed → Fits setup g → g ≡ alone items.End → n < bound
    → Stands setup new frames' (step setup g.item g.piece (run setup so_far.given (opening setup)).desk).desk
    → CausesFit (step setup g.item g.piece (run setup so_far.given (opening setup)).desk).posts
    → (picture_of new).painted ≡ painted_after setup g.item (picture_of desk).painted
    → Grows mid (step_bytes (picture_of new).painted setup g.item g.piece (run setup so_far.given (opening setup)).desk) after
    → RanOver gives setup bound first after_feed outcomes.Done frames' before after
ended gives setup n bound first feed after_feed desk new frames frames' g before mid after unbroken so_far one fits end below stands causes painted grown =
    let all = so_far.given ++ g ∷ [] in
    let p : (picture_of new).painted ≡ painted_from setup 0 all = painted ∙ ap (painted_after setup g.item) so_far.painted ∙ sym (painted_more setup so_far.given g 0) in
    record {
      given = all;
      last = None;
      fed = fed_more gives so_far.given g first feed after_feed so_far.fed one;
      fits = fit_more setup so_far.given g so_far.fits fits;
      frames_left = frames_more setup so_far.given g new frames' stands;
      ran = (
        refl,
        record { front = so_far.given; is = ap (λ (x : FedItem). so_far.given ++ x ∷ []) end; no_end = so_far.no_end },
        omega (arith, length-append so_far.given (g ∷ []), so_far.count),
        record {
          grown = grows_on before mid after _ _ _ so_far.grown grown (output_more setup so_far.given g (picture_of new).painted so_far.no_end p);
          isolated = is_isolated setup all unbroken (fit_more setup so_far.given g so_far.fits fits) (causes_more setup so_far.given g so_far.causes causes);
        },
      );
    }

ends_behind : (given : List FedItem) (g : FedItem) → NoEnd given → (is_end g.item ≡ false) ⊎ (g ≡ alone items.End) → EndsNowhereElse (given ++ g ∷ [])
ends_behind given g none (inl more) = inl (no_end_more given g none more)
ends_behind given g none (inr end) = inr (record { front = given; is = ap (λ (x : FedItem). given ++ x ∷ []) end; no_end = none })

pub cut_short : {F : Type 0} (gives : F → Answer → F → Type 0) (setup : Setup) (n bound : ℕ) (first feed after_feed : F) (desk new : DeskView) (frames frames' : ℕ → PortState) (g : FedItem) (before mid after : Option (List ℕ))
    → first_broken setup ≡ None
    → (so_far : SoFar gives setup n first feed desk frames before mid) → gives feed (Ok g) after_feed → Fits setup g → (is_end g.item ≡ false) ⊎ (g ≡ alone items.End) → n < bound
    → Stands setup new frames' (step setup g.item g.piece (run setup so_far.given (opening setup)).desk).desk
    → CausesFit (step setup g.item g.piece (run setup so_far.given (opening setup)).desk).posts
    → (picture_of new).painted ≡ painted_after setup g.item (picture_of desk).painted
    → GrowsPart mid (step_bytes (picture_of new).painted setup g.item g.piece (run setup so_far.given (opening setup)).desk) after
    → RanOver gives setup bound first after_feed outcomes.WriteFault frames' before after
cut_short gives setup n bound first feed after_feed desk new frames frames' g before mid after unbroken so_far one fits kind below stands causes painted part =
    let all = so_far.given ++ g ∷ [] in
    let p : (picture_of new).painted ≡ painted_from setup 0 all = painted ∙ ap (painted_after setup g.item) so_far.painted ∙ sym (painted_more setup so_far.given g 0) in
    record {
      given = all;
      last = None;
      fed = fed_more gives so_far.given g first feed after_feed so_far.fed one;
      fits = fit_more setup so_far.given g so_far.fits fits;
      frames_left = frames_more setup so_far.given g new frames' stands;
      ran = (
        refl,
        ends_behind so_far.given g so_far.no_end kind,
        omega (arith, length-append so_far.given (g ∷ []), so_far.count),
        record {
          grown = part_behind before mid after _ _ _ so_far.grown part (output_more setup so_far.given g (picture_of new).painted so_far.no_end p);
          isolated = is_isolated setup all unbroken (fit_more setup so_far.given g so_far.fits fits) (causes_more setup so_far.given g so_far.causes causes);
        },
      );
    }

same_bytes : (before after : Option (List ℕ)) (xs ys : List ℕ) → xs ≡ ys → Grows before xs after → Grows before ys after
same_bytes before after xs ys same grown = subst (λ (l : List ℕ). Grows before l after) same grown

pub no_item : {F : Type 0} (gives : F → Answer → F → Type 0) (setup : Setup) (n bound : ℕ) (first feed after : F) (desk : DeskView) (frames : ℕ → PortState) (fault : FeedFault) (before mid : Option (List ℕ))
    → first_broken setup ≡ None
    → SoFar gives setup n first feed desk frames before mid → gives feed (Err fault) after → n < bound → RanOver gives setup bound first after (after_feed fault) frames before mid
no_item gives setup n bound first feed after desk frames feeds.Failed before mid unbroken so_far one below = record {
  given = so_far.given;
  last = Some feeds.Failed;
  fed = fed_last gives so_far.given feeds.Failed first feed after so_far.fed one;
  fits = so_far.fits;
  frames_left = frames_are setup desk frames _ so_far.stands;
  ran = (refl, so_far.no_end, omega (arith, so_far.count), record { grown = same_bytes before mid _ _ (output_so_far setup so_far.given so_far.no_end) so_far.grown; isolated = is_isolated setup so_far.given unbroken so_far.fits so_far.causes });
}
no_item gives setup n bound first feed after desk frames (feeds.Bad f) before mid unbroken so_far one below = record {
  given = so_far.given;
  last = Some (feeds.Bad f);
  fed = fed_last gives so_far.given (feeds.Bad f) first feed after so_far.fed one;
  fits = so_far.fits;
  frames_left = frames_are setup desk frames _ so_far.stands;
  ran = (refl, so_far.no_end, omega (arith, so_far.count), record { grown = same_bytes before mid _ _ (output_so_far setup so_far.given so_far.no_end) so_far.grown; isolated = is_isolated setup so_far.given unbroken so_far.fits so_far.causes });
}

pub too_long : {F : Type 0} (gives : F → Answer → F → Type 0) (setup : Setup) (n bound : ℕ) (first feed : F) (desk : DeskView) (frames : ℕ → PortState) (before mid : Option (List ℕ))
    → first_broken setup ≡ None
    → SoFar gives setup n first feed desk frames before mid → n ≡ bound → RanOver gives setup bound first feed outcomes.TooLong frames before mid
too_long gives setup n bound first feed desk frames before mid unbroken so_far is = record {
  given = so_far.given;
  last = None;
  fed = so_far.fed;
  fits = so_far.fits;
  frames_left = frames_are setup desk frames _ so_far.stands;
  ran = (refl, so_far.no_end, so_far.count ∙ is, record { grown = same_bytes before mid _ _ (output_so_far setup so_far.given so_far.no_end) so_far.grown; isolated = is_isolated setup so_far.given unbroken so_far.fits so_far.causes });
}

pub no_memory : {F : Type 0} (gives : F → Answer → F → Type 0) (setup : Setup) (bound : ℕ) (feed : F) (frames : ℕ → PortState) (before : Option (List ℕ))
    → AreZeros (length setup.guests) setup.pages frames → RanOver gives setup bound feed feed outcomes.NoMemory frames before before
no_memory gives setup bound feed frames before blank = record {
  given = [];
  last = None;
  fed = refl;
  fits = λ k other below. absurd (omega (arith, below));
  ran = (refl, refl, refl);
  frames_left = λ guest below. blank guest below ∙ sym (first_session setup guest below);
}

-- ---- items in range

pub piece_short : (guests pages : ℕ) (item : Item) (len : ℕ) → FitsItem guests pages item len → len ≤ MAX_PIECE
piece_short guests pages (items.Bytes guest) len fits = fits.1.most
piece_short guests pages (items.Closed guest) len fits = omega (arith, fits.1)
piece_short guests pages (items.Store guest delay page offset) len fits = omega (arith, fits.1.within)
piece_short guests pages (items.Key down code state) len fits = omega (arith, fits.1)
piece_short guests pages (items.Move x y state) len fits = omega (arith, fits.1)
piece_short guests pages (items.Press down button state) len fits = omega (arith, fits.1.1)
piece_short guests pages items.Close len fits = omega (arith, fits)
piece_short guests pages items.Next len fits = omega (arith, fits)
piece_short guests pages items.Restore len fits = omega (arith, fits)
piece_short guests pages (items.MoveTo x y) len fits = omega (arith, fits)
piece_short guests pages (items.SizeTo w h) len fits = omega (arith, fits)
piece_short guests pages items.Snap len fits = omega (arith, fits)
piece_short guests pages items.End len fits = omega (arith, fits)
piece_short guests pages (items.Lost guest) len fits = omega (arith, fits.1)
piece_short guests pages items.Idle len fits = omega (arith, fits)

is_the_end : (item : Item) → is_end item ≡ true → item ≡ items.End
is_the_end (items.Bytes guest) is = absurd (cc)
is_the_end (items.Closed guest) is = absurd (cc)
is_the_end (items.Store guest delay page offset) is = absurd (cc)
is_the_end (items.Key down code state) is = absurd (cc)
is_the_end (items.Move x y state) is = absurd (cc)
is_the_end (items.Press down button state) is = absurd (cc)
is_the_end items.Close is = absurd (cc)
is_the_end items.Next is = absurd (cc)
is_the_end items.Restore is = absurd (cc)
is_the_end (items.MoveTo x y) is = absurd (cc)
is_the_end (items.SizeTo w h) is = absurd (cc)
is_the_end items.Snap is = absurd (cc)
is_the_end items.End is = refl
is_the_end (items.Lost guest) is = absurd (cc)
is_the_end items.Idle is = absurd (cc)

-- End comes without bytes
pub end_alone : (guests pages : ℕ) (item : Item) (len : ℕ) (room : List ℕ) → FitsItem guests pages item len → is_end item ≡ true → record { item = item; piece = take len room } ≡ alone items.End
end_alone guests pages item len room fits end =
    let is = is_the_end item end in
    let none : len ≡ 0 = subst (λ (i : Item). FitsItem guests pages i len) is fits in
    ap (λ (i : Item). record { item = i; piece = take len room }) is ∙ ap (λ (n : ℕ). record { item = items.End; piece = take n room }) none

-- an item in the feed's ranges is in the desk's
pub fits_desk : (guests guests' pages pages' : ℕ) (item : Item) (len len' : ℕ) → guests ≡ guests' → pages ≡ pages' → len ≡ len' → FitsItem guests pages item len → FitsItem guests' pages' item len'
fits_desk guests guests' pages pages' item len len' many same long fits =
    subst (λ (n : ℕ). FitsItem n pages' item len') many (subst (λ (n : ℕ). FitsItem guests n item len') same (subst (λ (n : ℕ). FitsItem guests pages item n) long fits))

-- the item with its piece, as it stands at the front of a room, fits where it is in the feed's ranges
pub item_fits : (setup : Setup) (guests pages : ℕ) (item : Item) (len : ℕ) (room : List ℕ) → guests ≡ length setup.guests → pages ≡ setup.pages → MAX_PIECE ≤ length room
    → FitsItem guests pages item len → Fits setup (record { item = item; piece = take len room })
item_fits setup guests pages item len room many same whole fits =
    let short : len ≤ MAX_PIECE = piece_short guests pages item len fits in
    let long : len ≡ length (take len room) = omega (arith, length-take len room) in
    fits_desk guests (length setup.guests) pages setup.pages item len (length (take len room)) many same long fits

-- an item is End, which comes without bytes, or another
pub end_or : (guests pages : ℕ) (item : Item) (len : ℕ) (room : List ℕ) → FitsItem guests pages item len → (is_end item ≡ false) ⊎ (record { item = item; piece = take len room } ≡ alone items.End)
end_or guests pages item len room fits = elim (cases_Bool (is_end item)) [
  | inl end ↦ inr (end_alone guests pages item len room fits end)
  | inr more ↦ inl more
]
