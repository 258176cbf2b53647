-- Posts for the guest, and what they lead to.
use Rattle.std.proofs.Common.{◌≡◌, ℕ, List, [], ◌∷◌, ◌++◌, refl, sym, ◌∙◌, ap, subst}
use Rattle.std.proofs.lemmas.List.{append-nil}
use Rattle.std.proofs.lemmas.List.Elements.{filter-append}
use Rattle.desk_laws.specs.Scene.{Post, Reply, replies}
use Rattle.io_ports.specs.Posts.{Leads}
use Rattle.desk_core.specs.DeskPosts.{is_for_guest, guest_posts}

-- posts one after the other lead where the first and then the others lead
pub leads-append : {O : Type 0} (takes : O → Post → O → Type 0) (ps qs : List Post) (a b c : O) → Leads takes a ps b → Leads takes b qs c → Leads takes a (ps ++ qs) c
leads-append takes [] qs a b c one two = let P : _ → Type 0 = λ x. Leads takes x qs c in subst P (sym one) two
leads-append takes (p ∷ ps) qs a b c one two = (one.0, one.1, leads-append takes ps qs one.0 b c one.2 two)

pub guest-append : (ps qs : List Post) → guest_posts (ps ++ qs) ≡ guest_posts ps ++ guest_posts qs
guest-append ps qs = filter-append is_for_guest ps qs

pub guest-replies : (guest : ℕ) (answers : List (List ℕ)) → guest_posts (replies guest answers) ≡ replies guest answers
guest-replies guest [] = refl
guest-replies guest (a ∷ answers) = ap (λ ps. Reply guest a ∷ ps) (guest-replies guest answers)

-- what a unit tells that is answered
pub guest-answers : (guest : ℕ) (answers : List (List ℕ)) → guest_posts (replies guest answers ++ []) ≡ replies guest answers
guest-answers guest answers = ap guest_posts (append-nil (replies guest answers)) ∙ guest-replies guest answers
