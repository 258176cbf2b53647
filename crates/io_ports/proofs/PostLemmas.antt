-- What posts lead to, one list after another.
use Rattle.std.proofs.Common.{◌≡◌, inl, inr, List, [], ◌∷◌, ◌++◌, false, IsTrue, refl, sym, ◌∙◌, ap, subst, append_assoc}
use Rattle.std.proofs.lemmas.List.{append-nil}
use Rattle.desk_laws.specs.Scene.{Post}
use Rattle.io_ports.specs.Memory.{Kept, KeepsMore, KeepsPost, none_kept}
use Rattle.io_ports.specs.Posts.{Leads}

-- one post
pub leads_one : {O : Type 0} (takes : O → Post → O → Type 0) (a b : O) (post : Post) → takes a post b → Leads takes a (post ∷ []) b
leads_one takes a b post taken = (b, taken, refl)

-- two posts
pub leads_two : {O : Type 0} (takes : O → Post → O → Type 0) (a b c : O) (first second : Post)
    → takes a first b → takes b second c → Leads takes a (first ∷ second ∷ []) c
leads_two takes a b c first second taken then = (b, taken, (c, then, refl))

-- some posts, and then others
pub Leads-append : {O : Type 0} (takes : O → Post → O → Type 0) (a b c : O) (xs ys : List Post)
    → Leads takes a xs b → Leads takes b ys c → Leads takes a (xs ++ ys) c
Leads-append {O = O} takes a b c [] ys first then = subst (λ (o : O). Leads takes o ys c) (sym first) then
Leads-append takes a b c (x ∷ xs) ys first then =
    (first.0, first.1, Leads-append takes first.0 b c xs ys first.2 then)

-- some posts, and then one more
pub leads_snoc : {O : Type 0} (takes : O → Post → O → Type 0) (a b c : O) (xs : List Post) (post : Post)
    → Leads takes a xs b → takes b post c → Leads takes a (xs ++ post ∷ []) c
leads_snoc takes a b c xs post first then =
    Leads-append takes a b c xs (post ∷ []) first (leads_one takes b c post then)

-- between the first posts and the others there is an outlet
pub Leads-split : {O : Type 0} (takes : O → Post → O → Type 0) (a c : O) (xs ys : List Post)
    → Leads takes a (xs ++ ys) c → (b : O) × Leads takes a xs b × Leads takes b ys c
Leads-split takes a c [] ys all = (a, refl, all)
Leads-split takes a c (x ∷ xs) ys all =
    let rest = Leads-split takes all.0 c xs ys all.2 in (rest.0, (all.0, all.1, rest.1), rest.2)

-- what holds before the posts and is kept by each of them holds after them
pub leads_keeps : {O : Type 0} (takes : O → Post → O → Type 0) (fact : O → Type 0)
    → ((a : O) (post : Post) (b : O) → takes a post b → fact a → fact b)
    → (a b : O) (posts : List Post) → Leads takes a posts b → fact a → fact b
leads_keeps takes fact step a b [] all holds = subst fact all holds
leads_keeps takes fact step a b (post ∷ posts) all holds =
    leads_keeps takes fact step all.0 b posts all.2 (step a post all.0 all.1 holds)

-- what is whole after more was put was whole before, and has more behind it
pub KeepsMore-whole : {X : Type 0} (old new : Kept X) (more : List X)
    → KeepsMore old more new → IsTrue new.is_whole → (IsTrue old.is_whole) × (new.items ≡ old.items ++ more)
KeepsMore-whole old new more (inl kept) whole = (kept.0, ap (λ (k : Kept _). k.items) kept.1)
KeepsMore-whole {X = X} old new more (inr lost) whole =
    let no : IsTrue false = subst (λ (k : Kept X). IsTrue k.is_whole) lost whole in cc

-- what a list of posts that is whole keeps is what it kept before, and the posts
pub leads_kept : (a b : Kept Post) (posts : List Post)
    → Leads KeepsPost a posts b → IsTrue b.is_whole → (IsTrue a.is_whole) × (b.items ≡ a.items ++ posts)
leads_kept a b [] all whole =
    let is : b ≡ a = sym all in
    (subst (λ (k : Kept Post). IsTrue k.is_whole) is whole, ap (λ (k : Kept Post). k.items) is ∙ sym (append-nil a.items))
leads_kept a b (post ∷ posts) all whole =
    let rest = leads_kept all.0 b posts all.2 whole in
    let first = KeepsMore-whole a all.0 (post ∷ []) all.1 rest.0 in (
      first.0,
      rest.1 ∙ ap (λ (l : List Post). l ++ posts) first.1 ∙ append_assoc a.items (post ∷ []) posts,
    )

-- what is kept of posts that follow nothing is those posts
pub leads_all : (b : Kept Post) (posts : List Post) → Leads KeepsPost none_kept posts b → IsTrue b.is_whole → b.items ≡ posts
leads_all b posts all whole = (leads_kept none_kept b posts all whole).1
