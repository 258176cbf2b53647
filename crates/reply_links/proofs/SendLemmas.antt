-- What guests were sent, one post after the other.
use Rattle.std.proofs.Common.{◌≡◌, ℕ, ◌+◌, ◌<◌, List, [], ◌∷◌, ◌++◌, length, Option, Bool, true, false, Ok, Err, inl, inr, refl, sym, ◌∙◌, ap, subst, arith, append_assoc, length-append, set, take, drop, ◌==◌, if◌then◌else◌, get_or-set_same, get_or-set_other, length-drop}
use Rattle.std.proofs.lemmas.Bool.{cases_eq, eq-eqb, ne_eqb}
use Rattle.std.proofs.lemmas.List.{take-append-drop}
use Rattle.desk_laws.specs.Scene.{Post}
use Rattle.io_ports.specs.Content.{Grows, IsPrefix}
use Rattle.io_ports.specs.Counts.{Rose}
use Rattle.io_ports.specs.Links.{Traffic, Sends}
use Rattle.io_ports.specs.declared.link.SendFailed.{SendFailed}
use Rattle.io_ports.specs.Posts.{Leads}
use Rattle.io_ports.proofs.GrowLemmas.{grows_none, grows_on}
use Rattle.reply_links.specs.declared.links.LinkState.{LinkState}
use Rattle.reply_links.specs.declared.links.LinkState.TheVariants as links
use Rattle.reply_links.specs.Sends.{IsProper, LinkSends, LinkTakes, LinksSend, SendsOn, SentNone, SentPart, bytes_to, link_at, replies_to}

pub sends_none : (state : LinkState) (w : Option (List ℕ)) (n : ℕ) → LinkSends state state [] w w n n
sends_none links.Open w n = (grows_none w w refl, refl)
sends_none links.Cut w n = (refl, refl)
sends_none links.Lost w n = (refl, refl)

-- what is a proper part stays one where more follows
proper_front : (front xs ys : List ℕ) → IsProper front xs → IsProper front (xs ++ ys)
proper_front front xs ys part = record {
  rest = part.rest ++ ys;
  is = sym (append_assoc front part.rest ys) ∙ ap (λ (l : List ℕ). l ++ ys) part.is;
  more = omega (arith, part.more, length-append part.rest ys);
}

proper_behind : (xs front ys : List ℕ) → IsProper front ys → IsProper (xs ++ front) (xs ++ ys)
proper_behind xs front ys part = record {
  rest = part.rest;
  is = append_assoc xs front part.rest ∙ ap (λ (l : List ℕ). xs ++ l) part.is;
  more = part.more;
}

-- nothing is a proper part of nothing
pub proper_none : (front : List ℕ) → IsProper front [] → ⊥
proper_none front part = let e : length (front ++ part.rest) ≡ 0 = ap (λ (l : List ℕ). length l) part.is in
    let n : length (front ++ part.rest) ≡ length front + length part.rest = length-append front part.rest in
    let more : 0 < length part.rest = part.more in
    absurd (omega (arith, e, n, more))

sent_front : (xs ys : List ℕ) (a b c : Option (List ℕ)) (f g h : ℕ) → SentPart xs a b f g → SentNone b c g h → SentPart (xs ++ ys) a c f h
sent_front xs ys a b c f g h part none = record {
  front = part.front;
  proper = proper_front part.front xs ys part.proper;
  grown = subst (λ (w : Option (List ℕ)). Grows a part.front w) (sym none.0) part.grown;
  later = omega (arith, part.later, none.1);
  rose = subst (λ (n : ℕ). Rose f n) (sym none.1) part.rose;
}

sent_behind : (xs ys : List ℕ) (a b c : Option (List ℕ)) (f g h : ℕ) → Grows a xs b → g ≡ f → SentPart ys b c g h → SentPart (xs ++ ys) a c f h
sent_behind xs ys a b c f g h grown same part = record {
  front = xs ++ part.front;
  proper = proper_behind xs part.front ys part.proper;
  grown = grows_on a b c xs part.front (xs ++ part.front) grown part.grown refl;
  later = omega (arith, part.later, same);
  rose = subst (λ (n : ℕ). Rose n h) same part.rose;
}

none_on : (a b c : Option (List ℕ)) (f g h : ℕ) → SentNone a b f g → SentNone b c g h → SentNone a c f h
none_on a b c f g h first next = (next.0 ∙ first.0, next.1 ∙ first.1)

pub sends_on : (x y z : LinkState) (xs ys : List ℕ) (a b c : Option (List ℕ)) (f g h : ℕ) → LinkSends x y xs a b f g → LinkSends y z ys b c g h → LinkSends x z (xs ++ ys) a c f h
sends_on links.Open links.Open links.Open xs ys a b c f g h first next = (grows_on a b c xs ys (xs ++ ys) first.0 next.0 refl, next.1 ∙ first.1)
sends_on links.Open links.Open links.Cut xs ys a b c f g h first next = sent_behind xs ys a b c f g h first.0 first.1 next
sends_on links.Open links.Open links.Lost xs ys a b c f g h first next = next
sends_on links.Open links.Cut links.Open xs ys a b c f g h first next = absurd next
sends_on links.Open links.Cut links.Cut xs ys a b c f g h first next = sent_front xs ys a b c f g h first next
sends_on links.Open links.Cut links.Lost xs ys a b c f g h first next = absurd next
sends_on links.Open links.Lost z xs ys a b c f g h first next = absurd first
sends_on links.Cut links.Open z xs ys a b c f g h first next = absurd first
sends_on links.Cut links.Cut links.Open xs ys a b c f g h first next = absurd next
sends_on links.Cut links.Cut links.Cut xs ys a b c f g h first next = none_on a b c f g h first next
sends_on links.Cut links.Cut links.Lost xs ys a b c f g h first next = absurd next
sends_on links.Cut links.Lost z xs ys a b c f g h first next = absurd first
sends_on links.Lost links.Open z xs ys a b c f g h first next = absurd first
sends_on links.Lost links.Cut z xs ys a b c f g h first next = absurd first
sends_on links.Lost links.Lost links.Open xs ys a b c f g h first next = absurd next
sends_on links.Lost links.Lost links.Cut xs ys a b c f g h first next = absurd next
sends_on links.Lost links.Lost links.Lost xs ys a b c f g h first next = none_on a b c f g h first next

-- ---- a writer that stops at the first failed write

pub takes_none : (had : Bool) (state : LinkState) (w : Option (List ℕ)) (n : ℕ) → LinkTakes had had state state [] w w n n
takes_none true state w n = (refl, refl, (refl, refl))
takes_none false state w n = sends_none state w n

prefix_behind : (xs part ys : List ℕ) → IsPrefix part ys → IsPrefix (xs ++ part) (xs ++ ys)
prefix_behind xs part ys within = (within.0, append_assoc xs part within.0 ∙ ap (λ (l : List ℕ). xs ++ l) within.1)

prefix_front : (part xs ys : List ℕ) → IsPrefix part xs → IsPrefix part (xs ++ ys)
prefix_front part xs ys within = (within.0 ++ ys, sym (append_assoc part within.0 ys) ∙ ap (λ (l : List ℕ). l ++ ys) within.1)

stopped : (state state' state'' : LinkState) (xs : List ℕ) (a b c : Option (List ℕ)) (f g h : ℕ) → state'' ≡ state' → SentNone b c g h → LinkSends state state' xs a b f g → LinkSends state state'' xs a c f h
stopped state state' state'' xs a b c f g h same none sends =
    subst (λ (s : LinkState). LinkSends state s xs a c f h) (sym same)
    (subst (λ (w : Option (List ℕ)). LinkSends state state' xs a w f h) (sym none.0) (subst (λ (n : ℕ). LinkSends state state' xs a b f n) (sym none.1) sends))

takes_on : (x y z : Bool) (s t u : LinkState) (xs ys : List ℕ) (a b c : Option (List ℕ)) (f g h : ℕ) → LinkTakes x y s t xs a b f g → LinkTakes y z t u ys b c g h → LinkTakes x z s u (xs ++ ys) a c f h
takes_on true true z s t u xs ys a b c f g h first next = (next.0, next.1 ∙ first.1, none_on a b c f g h first.2 next.2)
takes_on true false z s t u xs ys a b c f g h first next = absurd (let e : false ≡ true = first.0 in cc)
takes_on false true true s t u xs ys a b c f g h first next = (first.0, prefix_front first.0 xs ys first.1, stopped s t u first.0 a b c f g h next.1 next.2 first.2)
takes_on false true false s t u xs ys a b c f g h first next = absurd (let e : false ≡ true = next.0 in cc)
takes_on false false true s t u xs ys a b c f g h first next = (xs ++ next.0, prefix_behind xs next.0 ys next.1, sends_on s t u xs next.0 a b c f g h first next.2)
takes_on false false false s t u xs ys a b c f g h first next = sends_on s t u xs ys a b c f g h first next

-- the posts, one after the other, were sent to those that they are for
pub sends_all : {O : Type 0} (failed : O → Bool) (states : O → List LinkState) (traffic : O → Traffic) (same : O → O → Type 0)
    → ((a : O) → same a a) → ((a b c : O) → same a b → same b c → same a c) → (posts : List Post) (a b : O)
    → Leads (λ a post b. SendsOn (failed a) (failed b) (states a) (states b) (λ guest. bytes_to guest post) (traffic a) (traffic b) (same a b)) a posts b
    → SendsOn (failed a) (failed b) (states a) (states b) (λ guest. replies_to guest posts) (traffic a) (traffic b) (same a b)
sends_all {O} failed states traffic same here on [] a b leads =
    subst (λ (m : O). SendsOn (failed a) (failed m) (states a) (states m) (λ guest. []) (traffic a) (traffic m) (same a m)) leads
    (record { each = λ guest below. takes_none (failed a) (link_at guest (states a)) ((traffic a).sent guest) ((traffic a).faults guest); same_links = refl; keeps_wire = here a })
sends_all {O} failed states traffic same here on (post ∷ posts) a b leads =
    let m = leads.0 in
    let first = leads.1 in
    let next = sends_all failed states traffic same here on posts m b leads.2 in
    record {
      each = λ guest below. takes_on (failed a) (failed m) (failed b) (link_at guest (states a)) (link_at guest (states m)) (link_at guest (states b)) (bytes_to guest post) (replies_to guest posts) _ _ _ _ _ _
          (first.each guest below) (next.each guest (omega (arith, below, first.same_links)));
      same_links = next.same_links ∙ first.same_links;
      keeps_wire = on a m b first.keeps_wire next.keeps_wire;
    }

-- what leads by two relations leads by each
pub leads_both : {O : Type 0} (one two : O → Post → O → Type 0) (posts : List Post) (a b : O) → Leads (λ a post b. one a post b × two a post b) a posts b → Leads one a posts b × Leads two a posts b
leads_both one two [] a b leads = (leads, leads)
leads_both one two (post ∷ posts) a b leads =
    let next = leads_both one two posts leads.0 b leads.2 in
    ((leads.0, leads.1.0, next.0), (leads.0, leads.1.1, next.1))

-- ---- one send

sends_same : (state : LinkState) (a b : Option (List ℕ)) (f g : ℕ) → b ≡ a → g ≡ f → LinkSends state state [] a b f g
sends_same state a b f g sent counted =
    subst (λ (w : Option (List ℕ)). LinkSends state state [] a w f g) (sym sent) (subst (λ (n : ℕ). LinkSends state state [] a a f n) (sym counted) (sends_none state a f))

told_self : (guest : ℕ) (bytes : List ℕ) → (if guest == guest then bytes else []) ≡ bytes
told_self guest bytes = ap (λ (b : Bool). if b then bytes else []) (eq-eqb guest guest refl)

told_other : (guest other : ℕ) (bytes : List ℕ) → (other ≡ guest → ⊥) → (if guest == other then bytes else []) ≡ []
told_other guest other bytes apart = ap (λ (b : Bool). if b then bytes else []) (ne_eqb guest other (λ same. apart (sym same)))

-- where a guest is told nothing the links are as they were
pub links_none : (states : List LinkState) (traffic : Traffic) (guest : ℕ) (bytes : List ℕ) → (link_at guest states ≡ links.Open → bytes ≡ [])
    → LinksSend states states (λ other. if guest == other then bytes else []) traffic traffic
links_none states traffic guest bytes none other below = elim (cases_eq other guest) [
  | inl same ↦ subst (λ (k : ℕ). LinkSends (link_at k states) (link_at k states) (if guest == k then bytes else []) (traffic.sent k) (traffic.sent k) (traffic.faults k) (traffic.faults k)) (sym same)
      (subst (λ (l : List ℕ). LinkSends (link_at guest states) (link_at guest states) l (traffic.sent guest) (traffic.sent guest) (traffic.faults guest) (traffic.faults guest)) (sym (told_self guest bytes))
      (unsent (link_at guest states) bytes (traffic.sent guest) (traffic.faults guest) none))
  | inr apart ↦ subst (λ (l : List ℕ). LinkSends (link_at other states) (link_at other states) l (traffic.sent other) (traffic.sent other) (traffic.faults other) (traffic.faults other)) (sym (told_other guest other bytes apart))
      (sends_none (link_at other states) (traffic.sent other) (traffic.faults other))
]
  where
    unsent : (state : LinkState) (bytes : List ℕ) (w : Option (List ℕ)) (n : ℕ) → (state ≡ links.Open → bytes ≡ []) → LinkSends state state bytes w w n n
    unsent links.Open bytes w n none = (subst (λ (l : List ℕ). Grows w l w) (sym (none refl)) (grows_none w w refl), refl)
    unsent links.Cut bytes w n none = (refl, refl)
    unsent links.Lost bytes w n none = (refl, refl)

-- all was sent
pub links_sent : {T : Type 0} (states : List LinkState) (before after : Traffic) (guest : ℕ) (bytes : List ℕ) (x : T) → link_at guest states ≡ links.Open → Sends guest bytes (Ok x) before after
    → LinksSend states states (λ other. if guest == other then bytes else []) before after
links_sent states before after guest bytes x is sends other below = elim (cases_eq other guest) [
  | inl same ↦ subst (λ (k : ℕ). LinkSends (link_at k states) (link_at k states) (if guest == k then bytes else []) (before.sent k) (after.sent k) (before.faults k) (after.faults k)) (sym same)
      (subst (λ (l : List ℕ). LinkSends (link_at guest states) (link_at guest states) l (before.sent guest) (after.sent guest) (before.faults guest) (after.faults guest)) (sym (told_self guest bytes))
      (subst (λ (s : LinkState). LinkSends s s bytes (before.sent guest) (after.sent guest) (before.faults guest) (after.faults guest)) (sym is) sends.to_guest))
  | inr apart ↦ subst (λ (l : List ℕ). LinkSends (link_at other states) (link_at other states) l (before.sent other) (after.sent other) (before.faults other) (after.faults other)) (sym (told_other guest other bytes apart))
      (sends_same (link_at other states) _ _ _ _ (sends.others other apart).0 (sends.others other apart).1)
]

-- a part was sent, and the link was cut
pub links_cut : {T : Type 0} (states : List LinkState) (before after : Traffic) (guest : ℕ) (bytes : List ℕ) (e : SendFailed) → guest < length states → link_at guest states ≡ links.Open → Sends {T = T} guest bytes (Err e) before after
    → LinksSend states (set states guest links.Cut) (λ other. if guest == other then bytes else []) before after
links_cut states before after guest bytes e within is sends other below = elim (cases_eq other guest) [
  | inl same ↦ subst (λ (k : ℕ). LinkSends (link_at k states) (link_at k (set states guest links.Cut)) (if guest == k then bytes else []) (before.sent k) (after.sent k) (before.faults k) (after.faults k)) (sym same)
      (subst (λ (l : List ℕ). LinkSends (link_at guest states) (link_at guest (set states guest links.Cut)) l (before.sent guest) (after.sent guest) (before.faults guest) (after.faults guest)) (sym (told_self guest bytes))
      (subst (λ (s : LinkState). LinkSends s (link_at guest (set states guest links.Cut)) bytes (before.sent guest) (after.sent guest) (before.faults guest) (after.faults guest)) (sym is)
      (subst (λ (s : LinkState). LinkSends links.Open s bytes (before.sent guest) (after.sent guest) (before.faults guest) (after.faults guest)) (sym (get_or-set_same states guest links.Cut links.Lost within))
      (record {
        front = take e.sent bytes;
        proper = record { rest = drop e.sent bytes; is = take-append-drop e.sent bytes; more = omega (arith, sends.to_guest.0, length-drop e.sent bytes) };
        grown = sends.to_guest.1;
        later = sends.to_guest.2;
        rose = sends.to_guest.3;
      }))))
  | inr apart ↦ subst (λ (l : List ℕ). LinkSends (link_at other states) (link_at other (set states guest links.Cut)) l (before.sent other) (after.sent other) (before.faults other) (after.faults other)) (sym (told_other guest other bytes apart))
      (subst (λ (s : LinkState). LinkSends (link_at other states) s [] (before.sent other) (after.sent other) (before.faults other) (after.faults other)) (sym (get_or-set_other states guest other links.Cut links.Lost apart))
      (sends_same (link_at other states) _ _ _ _ (sends.others other apart).0 (sends.others other apart).1))
]
