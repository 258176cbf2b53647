use Rattle.std.proofs.Common.{◌≡◌, ℕ, List, [], ◌∷◌, length, get_or, map, sym, ◌∙◌, ap, arith}
use Rattle.std.specs.Prelude.{String, string_bytes, codes}
use Rattle.std.proofs.lemmas.Slice.Eq.{bytes_eq-Decides}
use Rattle.std.specs.Global.{Global}
use Rattle.guid_main.proofs.words.is_replay.Goals as goal

one_word : (words : List (String Global)) (word : String Global) → length words ≡ 1 → word ≡ get_or words 0 word → map string_bytes words ≡ string_bytes word ∷ []
one_word [] word one is = absurd (omega arith)
one_word (w ∷ []) word one is = ap (λ (x : String Global). string_bytes x ∷ []) (sym is)
one_word (w ∷ v ∷ words) word one is = absurd (omega arith)

heads : (a b : List ℕ) → ◌≡◌ {A = List (List ℕ)} (a ∷ []) (b ∷ []) → a ≡ b
heads a b is = cc

pub returns-then-len-eq1 : goal.returns-then-len-eq1
returns-then-len-eq1 c =
    let one = one_word c.args.words.now.items c.index.result.now (omega (arith, c.if-len-eq1.true, c.len.ensures)) c.index.ensures in
    let text = c.as_str.result.now in
    let decides = bytes_eq-Decides text (codes "replay") in (
      λ yes. one ∙ ap (λ (l : List ℕ). l ∷ []) (sym c.as_str.ensures.value ∙ decides.0 (sym c.eq.ensures ∙ yes)),
      λ same. c.eq.ensures ∙ decides.1 (c.as_str.ensures.value ∙ heads _ _ (sym one ∙ same)),
    )
