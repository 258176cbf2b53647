-- What a writer wrote, one post after the other.
use Rattle.std.proofs.Common.{◌≡◌, ℕ, ◌≤◌, List, [], ◌∷◌, ◌++◌, Option, Bool, true, false, Ok, Err, inl, inr, refl, sym, ◌∙◌, subst, arith}
use Rattle.std.specs.List.{All}
use Rattle.std.proofs.lemmas.List.Elements.{All-cons, All-head, All-tail}
use Rattle.desk_laws.specs.Scene.{Post, Reply, Ended, Picture, Summary}
use Rattle.desk_core.specs.DeskPosts.{guest_posts}
use Rattle.output_laws.specs.RunRecords.{CausesFit, HasCauseWidths}
use Rattle.io_ports.specs.Content.{GrowsPart}
use Rattle.io_ports.specs.Counts.{Rose, HasCause}
use Rattle.io_ports.specs.Posts.{Leads}
use Rattle.io_ports.proofs.GrowLemmas.{grows_none, grows_on, part_front, part_behind, prefix_append}
use Rattle.record_format.specs.OutputGrammar.{post_bytes, posts_bytes}
use Rattle.io_ports.specs.declared.source.Failed.{Failed}
use Rattle.replay_driver.specs.ItemWrites.{Wrote}
use Rattle.replay_driver.specs.Writes.{Writes, FailsBy, WritesOn}

pub rose_before : (a b c : ℕ) → a ≤ b → Rose b c → Rose a c
rose_before a b c le (inl rose) = inl (omega arith)
rose_before a b c le (inr end) = inr end

pub rose_after : (a b c : ℕ) → b ≤ c → Rose a b → Rose a c
rose_after a b c le (inl rose) = inl (omega arith)
rose_after a b c le (inr end) = inr (omega arith)

writes_none : (had : Bool) (w : Option (List ℕ)) → Writes had had [] w w
writes_none true w = (refl, refl)
writes_none false w = grows_none w w refl

fails_none : (had : Bool) (n : ℕ) → FailsBy had had n n
fails_none true n = tt
fails_none false n = tt

writes_on : (x y z : Bool) (xs ys : List ℕ) (a b c : Option (List ℕ)) → Writes x y xs a b → Writes y z ys b c → Writes x z (xs ++ ys) a c
writes_on true true z xs ys a b c first then = (then.0, then.1 ∙ first.1)
writes_on true false z xs ys a b c first then = absurd (let e : false ≡ true = first.0 in cc)
writes_on false true true xs ys a b c first then =
    subst (λ (w : Option (List ℕ)). GrowsPart a (xs ++ ys) w) (sym then.1) (part_front a b xs (xs ++ ys) first (prefix_append xs ys))
writes_on false true false xs ys a b c first then = absurd (let e : false ≡ true = then.0 in cc)
writes_on false false true xs ys a b c first then = part_behind a b c xs ys (xs ++ ys) first then refl
writes_on false false false xs ys a b c first then = grows_on a b c xs ys (xs ++ ys) first then refl

fails_on : (x y z : Bool) (f g h : ℕ) → f ≤ g → g ≤ h → FailsBy x y f g → FailsBy y z g h → FailsBy x z f h
fails_on true y z f g h le le' first then = tt
fails_on false y false f g h le le' first then = tt
fails_on false true true f g h le le' first then = rose_after f g h le' first
fails_on false false true f g h le le' first then = rose_before f g h le then

-- what is known of each post, and what leads by each
pub leads_apart : {O : Type 0} (known : Post → Type 0) (takes : O → Post → O → Type 0) (posts : List Post) (a b : O) → Leads (λ a post b. known post × takes a post b) a posts b → All known posts × Leads takes a posts b
leads_apart known takes [] a b leads = (λ k other below. absurd (omega (arith, below)), leads)
leads_apart known takes (post ∷ posts) a b leads =
    let next = leads_apart known takes posts leads.0 b leads.2 in
    (All-cons known post posts leads.1.0 next.0, (leads.0, leads.1.1, next.1))

-- the posts for guests are the ones that have causes
pub causes_all : (posts : List Post) → CausesFit (guest_posts posts) → CausesFit posts
causes_all [] fit = fit
causes_all (Reply guest bytes ∷ posts) fit = All-cons HasCauseWidths (Reply guest bytes) posts tt (causes_all posts (All-tail HasCauseWidths (Reply guest bytes) (guest_posts posts) fit))
causes_all (Ended guest cause ∷ posts) fit =
    All-cons HasCauseWidths (Ended guest cause) posts (All-head HasCauseWidths (Ended guest cause) (guest_posts posts) fit) (causes_all posts (All-tail HasCauseWidths (Ended guest cause) (guest_posts posts) fit))
causes_all (Picture width height colours ∷ posts) fit = All-cons HasCauseWidths (Picture width height colours) posts tt (causes_all posts fit)
causes_all (Summary counts ∷ posts) fit = All-cons HasCauseWidths (Summary counts) posts tt (causes_all posts fit)

-- the posts, one after the other, were written as their bytes are
pub writes_all : {O : Type 0} (failed : O → Bool) (written : O → Option (List ℕ)) (faults : O → ℕ) (same : O → O → Type 0)
    → ((a : O) → same a a) → ((a b c : O) → same a b → same b c → same a c) → (posts : List Post) (a b : O)
    → Leads (λ a post b. WritesOn (failed a) (failed b) (post_bytes 0 post) (written a) (written b) (faults a) (faults b) (same a b)) a posts b
    → WritesOn (failed a) (failed b) (posts_bytes 0 posts) (written a) (written b) (faults a) (faults b) (same a b)
writes_all {O} failed written faults same here on [] a b leads =
    subst (λ (m : O). WritesOn (failed a) (failed m) [] (written a) (written m) (faults a) (faults m) (same a m)) leads
    (record { writes = writes_none (failed a) (written a); fails = fails_none (failed a) (faults a); later = omega arith; keeps_sink = here a })
writes_all {O} failed written faults same here on (post ∷ posts) a b leads =
    let m = leads.0 in
    let first = leads.1 in
    let then = writes_all failed written faults same here on posts m b leads.2 in
    record {
      writes = writes_on (failed a) (failed m) (failed b) (post_bytes 0 post) (posts_bytes 0 posts) _ _ _ first.writes then.writes;
      fails = fails_on (failed a) (failed m) (failed b) _ _ _ first.later then.later first.fails then.fails;
      later = omega (arith, first.later, then.later);
      keeps_sink = on a m b first.keeps_sink then.keeps_sink;
    }

-- a writer that failed wrote a part
pub writer_failed : {T : Type 0} (e : Failed) (failed : Bool) (bytes : List ℕ) (a b : Option (List ℕ)) (f g : ℕ) (keeps : Type 0)
    → failed ≡ true → WritesOn false failed bytes a b f g keeps → Wrote {T = T} (Err e) bytes a b × HasCause {T = T} f g (Err e)
writer_failed e failed bytes a b f g keeps is on = (
  subst (λ (x : Bool). Writes false x bytes a b) is on.writes,
  record { later = on.later; failed = subst (λ (x : Bool). FailsBy false x f g) is on.fails },
)

-- a writer that didn't fail wrote all
pub writer_told : {T : Type 0} (x : T) (failed : Bool) (bytes : List ℕ) (a b : Option (List ℕ)) (f g : ℕ) (keeps : Type 0)
    → failed ≡ false → WritesOn false failed bytes a b f g keeps → Wrote {T = T} (Ok x) bytes a b × HasCause {T = T} f g (Ok x)
writer_told x failed bytes a b f g keeps is on = (
  subst (λ (y : Bool). Writes false y bytes a b) is on.writes,
  record { later = on.later; failed = tt },
)
