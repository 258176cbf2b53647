-- The words have one form, and name one number of rounds.
use Rattle.std.proofs.Common.{◌≡◌, ℕ, List, [], ◌∷◌, length, Option, sym, ◌∙◌, ap, subst, arith}
use Rattle.std.specs.Prelude.{String, codes}
use Rattle.std.specs.Global.{Global}
use Rattle.std.specs.Str.Parse.{digits_value}
use Rattle.guid_main.specs.declared.status.Status.{Status}
use Rattle.guid_main.specs.WordForms.{IsReplay, IsMake}
use Rattle.guid_main.specs.Making.{Makes}

pub one_form : (words : List (String Global)) (rounds : ℕ) → IsReplay words → IsMake words rounds → ⊥
one_form words rounds replay make =
    let one : ◌≡◌ {A = List (List ℕ)} (codes "replay" ∷ []) (codes "make" ∷ make.0 ∷ []) = sym replay ∙ make.1 in
    let e : 1 ≡ 2 = ap length one in
    absurd (omega (arith, e))

seconds : (a b x y : List ℕ) → ◌≡◌ {A = List (List ℕ)} (a ∷ x ∷ []) (b ∷ y ∷ []) → x ≡ y
seconds a b x y is = cc

pub same_rounds : (words : List (String Global)) (m n : ℕ) → IsMake words m → IsMake words n → m ≡ n
same_rounds words m n first second =
    sym first.3 ∙ ap (digits_value 10) (seconds _ _ first.0 second.0 (sym first.1 ∙ second.1)) ∙ second.3

pub made_again : (words : List (String Global)) (m n : ℕ) (status : Status) (before after : Option (List ℕ)) → IsMake words m → IsMake words n → Makes m status before after → Makes n status before after
made_again words m n status before after first second makes = subst (λ (k : ℕ). Makes k status before after) (same_rounds words m n first second) makes
