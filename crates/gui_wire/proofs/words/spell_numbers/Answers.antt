use Rattle.std.proofs.Common.{◌≡◌, ◌-◌, ◌*◌, ◌++◌, [], ◌∷◌, List, ℕ, length, take, drop, sym, ap, ◌∙◌, arith}
use Rattle.gui_wire.specs.Words.{words}
use Rattle.gui_wire.proofs.SpellingLemmas.{length-words}
use Rattle.gui_wire.proofs.WriteLemmas.{written_behind}
use Rattle.gui_wire.proofs.words.spell_numbers.Goals as goal

pub returns-clause-out : goal.returns-clause-out
returns-clause-out c =
    let numbers = c.args.numbers.now in
    let old = c.args.out.now in
    let size : 4 * length numbers ≡ length (words numbers) = sym (length-words numbers) in
    let head : ℕ → List ℕ = λ n. words (c.args.kind ∷ c.args.window ∷ n ∷ []) in
    let at = c.spell_words-at.result in
    let at-is : at ≡ 12 = c.spell_words-at.ensures.len in
    let first : c.spell_words-at.new.out ≡ head (length (words numbers)) ++ drop at old =
    c.spell_words-at.ensures.out ∙ ap (λ (n : ℕ). head n ++ drop 12 old) size ∙ ap (λ (n : ℕ). head (length (words numbers)) ++ drop n old) (sym at-is) in
    let then : c.spell_words.new.out ≡ words numbers ++ drop (length (words numbers)) (take (length c.spell_words-at.new.out - at) (drop at c.spell_words-at.new.out)) =
    c.spell_words.ensures.out ∙ ap (λ (n : ℕ). words numbers ++ drop n (take (length c.spell_words-at.new.out - at) (drop at c.spell_words-at.new.out))) size in
    written_behind at c.spell_words-at.new.out old (head (length (words numbers))) (words numbers) c.spell_words.new.out first (sym at-is) (omega arith) then
    ∙ ap (λ (n : ℕ). head (length (words numbers)) ++ words numbers ++ drop n old) (omega (arith, length-words numbers))
