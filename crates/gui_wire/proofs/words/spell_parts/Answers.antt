use Rattle.std.proofs.Common.{◌≡◌, ◌+◌, ◌-◌, ◌++◌, [], ◌∷◌, List, ℕ, length, drop, sym, ap, ◌∙◌, arith, length-append}
use borrow.Rule.Slice.PartMut.{put_mid}
use Rattle.gui_wire.specs.Words.{words}
use Rattle.gui_wire.proofs.WriteLemmas.{written_behind}
use Rattle.gui_wire.proofs.words.spell_parts.Goals as goal

pub returns-clause-out : goal.returns-clause-out
returns-clause-out c =
    let front = c.args.front.now in
    let back = c.args.back.now in
    let old = c.args.out.now in
    let size : length front + length back ≡ length (front ++ back) = sym (length-append front back) in
    let head : ℕ → List ℕ = λ n. words (c.args.kind ∷ c.args.window ∷ n ∷ []) in
    let n = length (front ++ back) in
    let at = c.spell_words-at.result in
    let at-is : at ≡ 12 = c.spell_words-at.ensures.len in
    let more = c.spell_bytes-at.result in
    let more-is : more ≡ length front = c.spell_bytes-at.ensures.len in
    let a = c.spell_words-at.new.out in
    let first : a ≡ head n ++ drop at old =
    c.spell_words-at.ensures.out ∙ ap (λ (m : ℕ). head m ++ drop 12 old) size ∙ ap (λ (m : ℕ). head n ++ drop m old) (sym at-is) in
    let b = put_mid at (length a - at) a c.spell_bytes-at.new.out in
    let second : b ≡ (head n ++ front) ++ drop (at + more) old =
    written_behind at a old (head n) front c.spell_bytes-at.new.out first (sym at-is) (omega arith) c.spell_bytes-at.ensures.out
    ∙ ap (λ (m : ℕ). (head n ++ front) ++ drop (at + m) old) (sym more-is) in
    written_behind (at + more) b old (head n ++ front) back c.spell_bytes.new.out second (omega arith) (omega arith) c.spell_bytes.ensures.out
    ∙ ap (λ (m : ℕ). ((head n ++ front) ++ back) ++ drop m old) (omega arith)
