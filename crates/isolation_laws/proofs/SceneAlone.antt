-- What a guest is told and shown is what it would be alone.
use Rattle.std.proofs.Common.{◌≡◌, ◌≢◌, ℕ, Bool, true, false, List, [], ◌∷◌, ◌++◌, map, Option, Some, None, cond, refl, sym, ◌∙◌, ap, arith, append_assoc, append-nil, subst}
use Rattle.std.specs.Prelude.{◌==◌, filter, is_some, if◌then◌else◌}
use Rattle.desk_laws.specs.declared.setup.Pair.{Pair}
use Rattle.desk_laws.specs.Pairs.{denies}
use Rattle.std.proofs.lemmas.Bool.Decides.{nat_tests}
use Rattle.std.proofs.lemmas.List.Elements.{filter-append}
use Rattle.desk_laws.specs.declared.row_id.RowId.{RowId}
use Rattle.desk_laws.specs.declared.input.GIn.{GIn}
use Rattle.desk_laws.specs.Sizes.{Sizes}
use Rattle.desk_laws.specs.Rows.{Row, mine, row_with, row_at}
use Rattle.desk_laws.specs.Grants.{Granted, granted, granted_by, granted_to, grant_change, grant_answers, window_of}
use Rattle.desk_laws.specs.Scene.{Scene, SceneOutcome, Post, Input, GuestInput, Given, replies, unchanged, and_then, grant, grant_where, grant_in, with_clip, Delivery, Grants, Asks, Pastes, pastes, deliver, deliver_all, InputOutcome, scene_of_input, perform}
use Rattle.desk_laws.specs.declared.input.GIn.TheVariants.{ClipAsk, ClipGive}
use Rattle.desk_laws.specs.Clipboard.{Content, ask, wiped}
use Rattle.desk_laws.specs.Settle.{settled, settle, grab_checked}
use Rattle.desk_laws.specs.State.{inputs_of, posts_of}
use Rattle.isolation_laws.specs.Alone.{Alone, alone_run, alone_after, alone_step, alone_by}
use Rattle.isolation_laws.proofs.RowParts.{mine-mine, mine-changed, mine_other-changed}

-- ---- one guest's part of lists

pub inputs_of-append : (g : ℕ) (is js : List GuestInput) → inputs_of g (is ++ js) ≡ inputs_of g is ++ inputs_of g js
inputs_of-append g is js = ap (map (λ t. t.input)) (filter-append (λ t. t.guest == g) is js) ∙ map-append (λ t. t.input) (filter (λ t. t.guest == g) is) (filter (λ t. t.guest == g) js)
  where
    map-append : {X Y : Type 0} (f : X → Y) (xs ys : List X) → map f (xs ++ ys) ≡ map f xs ++ map f ys
    map-append f [] ys = refl
    map-append f (x ∷ xs) ys = ap (λ zs. f x ∷ zs) (map-append f xs ys)

pub posts_of-append : (g : ℕ) (ps qs : List Post) → posts_of g (ps ++ qs) ≡ posts_of g ps ++ posts_of g qs
posts_of-append g ps qs = filter-append _ ps qs

pub posts_of-own : (g : ℕ) (answers : List (List ℕ)) → posts_of g (replies g answers) ≡ replies g answers
posts_of-own g [] = refl
posts_of-own g (a ∷ answers) = grind (arith, nat_tests, posts_of-own g answers)

pub posts_of-other : (g h : ℕ) → (h == g) ≡ false → (answers : List (List ℕ)) → posts_of g (replies h answers) ≡ []
posts_of-other g h e [] = refl
posts_of-other g h e (a ∷ answers) = rw e (posts_of-other g h e answers)

-- ---- runs of one guest

-- two lists of inputs, one after the other
pub alone_run-append : (setup : Sizes) (g : ℕ) (is js : List Input) (s : Alone)
    → alone_run setup g (is ++ js) s ≡ alone_after (alone_run setup g is s).posts (alone_run setup g js (alone_run setup g is s).alone)
alone_run-append setup g [] js s = refl
alone_run-append setup g (i ∷ is) js s =
    ap (alone_after (alone_step setup g i s).posts) (alone_run-append setup g is js (alone_step setup g i s).alone)
    ∙ sym (ap (λ ps. record { alone = (alone_run setup g js (alone_run setup g is (alone_step setup g i s).alone).alone).alone; posts = ps })
    (append_assoc (alone_step setup g i s).posts (alone_run setup g is (alone_step setup g i s).alone).posts (alone_run setup g js (alone_run setup g is (alone_step setup g i s).alone).alone).posts))

-- ---- a granted input

-- a granted change with the guest's rows alone
alone_granted : ℕ → Granted → Granted
alone_granted g x = record { rows = mine g x.rows; answers = x.answers }

granted_to-mine : (g : ℕ) (rows : List Row) (input : GIn) (paste : List ℕ) (r : Option Row)
    → granted_to g (mine g rows) input paste r ≡ alone_granted g (granted_to g rows input paste r)
unfolding alone_granted
granted_to-mine g rows input paste None = refl
granted_to-mine g rows input paste (Some row) =
    ap (λ rs. record { rows = rs; answers = grant_answers input paste }) (sym (mine-changed g (grant_change input row) rows))

granted_by-mine : (g : ℕ) (rows : List Row) (input : GIn) (paste : List ℕ) (w : Option ℕ)
    → granted_by g (mine g rows) input paste w ≡ alone_granted g (granted_by g rows input paste w)
unfolding alone_granted
granted_by-mine g rows input paste None = refl
granted_by-mine g rows input paste (Some w) =
    ap (λ own. granted_to g (mine g rows) input paste (row_with w own)) (mine-mine g rows)
    ∙ granted_to-mine g rows input paste (row_with w (mine g rows))

granted-mine : (g : ℕ) (rows : List Row) (input : GIn) (paste : List ℕ)
    → granted g (mine g rows) input paste ≡ record { rows = mine g (granted g rows input paste).rows; answers = (granted g rows input paste).answers }
unfolding alone_granted
granted-mine g rows input paste = granted_by-mine g rows input paste (window_of input)

granted_to-other : (g h : ℕ) → h ≢ g → (rows : List Row) (input : GIn) (paste : List ℕ) (r : Option Row) → mine h (granted_to g rows input paste r).rows ≡ mine h rows
granted_to-other g h differ rows input paste None = refl
granted_to-other g h differ rows input paste (Some row) = mine_other-changed g h differ (grant_change input row) rows

granted_by-other : (g h : ℕ) → h ≢ g → (rows : List Row) (input : GIn) (paste : List ℕ) (w : Option ℕ) → mine h (granted_by g rows input paste w).rows ≡ mine h rows
granted_by-other g h differ rows input paste None = refl
granted_by-other g h differ rows input paste (Some w) = granted_to-other g h differ rows input paste (row_with w (mine g rows))

-- ---- a scene that was played, seen by one guest

-- the inputs of a guest lead it, alone, from its rows before to its rows after, with its posts; and one without rows gets none
pub record PlaysAlone (setup : Sizes) (g : ℕ) (scene : Scene) (played : SceneOutcome) : Type 0 where
  pub same : (alone : Alone) → alone.ended ≡ None → alone.rows ≡ mine g scene.rows
      → alone_run setup g (inputs_of g played.inputs) alone ≡ record { alone = record alone { rows = mine g played.scene.rows }; posts = posts_of g played.posts }
  pub quiet : mine g scene.rows ≡ [] → (mine g played.scene.rows ≡ []) × (inputs_of g played.inputs ≡ []) × (posts_of g played.posts ≡ [])

pub plays-only : (setup : Sizes) (g : ℕ) (scene : Scene) → PlaysAlone setup g scene (unchanged scene)
plays-only setup g scene = record {
  same = λ alone e rows. ap (λ rs. record { alone = record alone { rows = rs }; posts = [] }) rows;
  quiet = λ none. (none, refl, refl);
}

-- the hands and the lists don't matter
pub plays-from : (setup : Sizes) (g : ℕ) (scene other : Scene) (played : SceneOutcome) → other.rows ≡ scene.rows → PlaysAlone setup g other played → PlaysAlone setup g scene played
plays-from setup g scene other played e p = record {
  same = λ alone running rows. p.same alone running (rows ∙ ap (mine g) (sym e));
  quiet = λ none. p.quiet (ap (mine g) e ∙ none);
}

pub plays-then : (setup : Sizes) (g : ℕ) (scene : Scene) (played : SceneOutcome) (next : Scene → SceneOutcome) → PlaysAlone setup g scene played → PlaysAlone setup g played.scene (next played.scene)
    → PlaysAlone setup g scene (and_then played next)
plays-then setup g scene played next p q = record {
  same = λ alone running rows.
      let first = p.same alone running rows in
      let second = q.same (record alone { rows = mine g played.scene.rows }) running refl in
      ap (λ is. alone_run setup g is alone) (inputs_of-append g played.inputs (next played.scene).inputs)
      ∙ alone_run-append setup g (inputs_of g played.inputs) (inputs_of g (next played.scene).inputs) alone
      ∙ ap (λ x. alone_after x.posts (alone_run setup g (inputs_of g (next played.scene).inputs) x.alone)) first
      ∙ ap (alone_after (posts_of g played.posts)) second
      ∙ sym (ap (λ ps. record { alone = record alone { rows = mine g (next played.scene).scene.rows }; posts = ps }) (posts_of-append g played.posts (next played.scene).posts));
  quiet = λ none.
      let a = p.quiet none in
      let b = q.quiet a.0 in (
        b.0,
        inputs_of-append g played.inputs (next played.scene).inputs ∙ (ap (λ x. x ++ inputs_of g (next played.scene).inputs) a.1 ∙ b.1),
        posts_of-append g played.posts (next played.scene).posts ∙ (ap (λ x. x ++ posts_of g (next played.scene).posts) a.2 ∙ b.2),
      );
}

-- ---- grants

row_at-mine : (id : RowId) (rows : List Row) → is_some (row_at id rows) ≡ true → mine id.guest rows ≡ [] → ⊥
row_at-mine id [] e none = cc
row_at-mine id (r ∷ rows) e none = grind (arith, nat_tests, row_at-mine id rows)

module _ (setup : Sizes) (id : RowId) (input : GIn) (paste : List ℕ) (scene : Scene) where
  given : Granted
  given = granted id.guest scene.rows input paste

  plays-own : is_some (row_at id scene.rows) ≡ true → PlaysAlone setup id.guest scene (grant_in id input paste given scene)
  unfolding given
  plays-own e = record {
    same = λ alone running rows.
        let here : (id.guest == id.guest) ≡ true = grind (arith, nat_tests) in
        ap (λ b. alone_run setup id.guest (map (λ (t : GuestInput). t.input) (cond b (record { guest = id.guest; input = Given input paste } ∷ []) [])) alone) here
        ∙ ap (λ c. alone_after (alone_by setup id.guest (Given input paste) c alone).posts (record { alone = (alone_by setup id.guest (Given input paste) c alone).alone; posts = [] })) running
        ∙ ap (λ rs. record { alone = record alone { rows = (granted id.guest rs input paste).rows }; posts = replies id.guest (granted id.guest rs input paste).answers ++ [] }) rows
        ∙ ap (λ x. record { alone = record alone { rows = x.rows }; posts = replies id.guest x.answers ++ [] }) (granted-mine id.guest scene.rows input paste)
        ∙ ap (λ ps. record { alone = record alone { rows = mine id.guest given.rows }; posts = ps }) (append-nil (replies id.guest given.answers) ∙ sym (posts_of-own id.guest given.answers));
    quiet = λ none. absurd (row_at-mine id scene.rows e none);
  }

  plays-other : (g : ℕ) → (id.guest == g) ≡ false → PlaysAlone setup g scene (grant_in id input paste given scene)
  unfolding given
  plays-other g e =
      let differ : g ≢ id.guest = grind (arith, nat_tests) in
      let rows_same : mine g given.rows ≡ mine g scene.rows = granted_by-other id.guest g differ scene.rows input paste (window_of input) in
      let none_told : inputs_of g (record { guest = id.guest; input = Given input paste } ∷ []) ≡ [] = rw e in
      let none_posted = posts_of-other g id.guest e given.answers in
      record {
        same = λ alone running rows.
            ap (λ is. alone_run setup g is alone) none_told
            ∙ ap (λ rs. record { alone = record alone { rows = rs }; posts = [] }) (rows ∙ sym rows_same)
            ∙ sym (ap (λ ps. record { alone = record alone { rows = mine g given.rows }; posts = ps }) none_posted);
        quiet = λ none. (rows_same ∙ none, none_told, none_posted);
      }

  plays-in : (g : ℕ) → is_some (row_at id scene.rows) ≡ true → PlaysAlone setup g scene (grant_in id input paste given scene)
  plays-in g e = by_guest (id.guest == g) refl
    where
      by_guest : (b : Bool) → (id.guest == g) ≡ b → PlaysAlone setup g scene (grant_in id input paste given scene)
      by_guest true same = let is : id.guest ≡ g = grind (arith, nat_tests) in subst (λ h. PlaysAlone setup h scene (grant_in id input paste given scene)) is (plays-own e)
      by_guest false other = plays-other g other

  plays-grant : (g : ℕ) → PlaysAlone setup g scene (grant id input paste scene)
  unfolding given
  plays-grant g = by_row (is_some (row_at id scene.rows)) refl
    where
      by_row : (b : Bool) → is_some (row_at id scene.rows) ≡ b → PlaysAlone setup g scene (grant_where b id input paste scene)
      by_row true e = plays-in g e
      by_row false e = plays-only setup g scene

-- ---- deliveries

module _ (denied : List Pair) (setup : Sizes) (g : ℕ) where
  plays-pastes : (id : RowId) (content : Option Content) (scene : Scene) → PlaysAlone setup g scene (pastes denied id content scene)
  plays-pastes id None scene = plays-only setup g scene
  plays-pastes id (Some content) scene = by_denied (denies denied content.source id.guest)
    where
      given_to : SceneOutcome
      given_to = grant id (ClipGive id.window) content.bytes (with_clip (wiped scene.clip) scene)

      by_denied : (b : Bool) → PlaysAlone setup g scene (if b then unchanged scene else given_to)
      by_denied true = plays-only setup g scene
      by_denied false =
          plays-from setup g scene (with_clip (wiped scene.clip) scene) given_to refl
          (plays-grant setup id (ClipGive id.window) content.bytes (with_clip (wiped scene.clip) scene) g)

  plays-deliver : (d : Delivery) (scene : Scene) → PlaysAlone setup g scene (deliver denied d scene)
  plays-deliver (Grants id input) scene = plays-grant setup id input [] scene g
  plays-deliver (Asks id) scene =
      plays-from setup g scene (with_clip (ask id.guest scene.clip) scene) (deliver denied (Asks id) scene) refl
      (plays-grant setup id (ClipAsk id.window) [] (with_clip (ask id.guest scene.clip) scene) g)
  plays-deliver (Pastes id) scene = plays-pastes id scene.clip.content scene

  plays-deliver_all : (ds : List Delivery) (scene : Scene) → PlaysAlone setup g scene (deliver_all denied ds scene)
  plays-deliver_all [] scene = plays-only setup g scene
  plays-deliver_all (d ∷ ds) scene =
      plays-then setup g scene (deliver denied d scene) (deliver_all denied ds) (plays-deliver d scene) (plays-deliver_all ds (deliver denied d scene).scene)

  -- whatever an event or settle hands on
  pub plays-perform : (r : InputOutcome) (scene : Scene) → PlaysAlone setup g scene (perform denied r scene)
  plays-perform r scene =
      plays-from setup g scene (scene_of_input r scene) (perform denied r scene) refl (plays-deliver_all r.deliveries (scene_of_input r scene))

pub plays-settle : (setup : Sizes) (g : ℕ) (scene : Scene) → PlaysAlone setup g scene (settle setup scene)
plays-settle setup g scene = plays-perform [] setup g (settled setup (grab_checked scene)) scene
