use Rattle.std.proofs.Common.{◌≡◌, ℕ, List, [], ◌∷◌, length, get_or, map, true, Option, None, Some, SomeIff, IfSome, sym, ◌∙◌, arith, rules}
use Rattle.std.specs.Prelude.{String, string_bytes, codes}
use Rattle.std.specs.Global.{Global}
use Rattle.std.specs.Str.{bytes_eq}
use Rattle.std.specs.Str.Parse.{digits_value}
use Rattle.std.proofs.lemmas.Slice.Eq.{bytes_eq-Decides}
use Rattle.guid_main.specs.WordForms.{IsRounds, IsMake}
use Rattle.guid_main.proofs.words.make_of.Goals as goal

two_words : (words : List (String Global)) (one two : String Global) → length words ≡ 2 → one ≡ get_or words 0 one → two ≡ get_or words 1 two → map string_bytes words ≡ string_bytes one ∷ string_bytes two ∷ []
two_words [] one two are first second = absurd (omega arith)
two_words (v ∷ []) one two are first second = absurd (omega arith)
two_words (v ∷ w ∷ []) one two are first second = (λ i. string_bytes (sym first i) ∷ string_bytes (sym second i) ∷ [])
two_words (v ∷ w ∷ x ∷ words) one two are first second = absurd (omega arith)

made_of : (words : List (String Global)) (text : List ℕ) (found : Option ℕ) → map string_bytes words ≡ codes "make" ∷ text ∷ [] → SomeIff found (IsRounds text) (digits_value 10 text) → IfSome found (λ rounds. IsMake words rounds)
made_of words text None are found = tt
made_of words text (Some rounds) are found = (text, are, found.0, sym found.1)

pub returns-clause-some : goal.returns-clause-some
returns-clause-some c =
    let two = two_words c.args.words.now.items c.index.result.now c.index-2.result.now (omega (arith, c.if-len-ne2.false, c.len.ensures)) c.index.ensures c.index-2.ensures in
    let same : bytes_eq c.as_str.result.now (codes "make") ≡ true = search (rules, c.ne.ensures, c.if-ne.false, c.if-ne.ensures) in
    let first : c.as_str.result.now ≡ codes "make" = (bytes_eq-Decides c.as_str.result.now (codes "make")).0 same in
    made_of c.args.words.now.items c.as_str-2.result.now c.rounds_of.result
    (two ∙ (λ i. (sym c.as_str.ensures.value ∙ first) i ∷ sym c.as_str-2.ensures.value i ∷ [])) c.rounds_of.ensures
