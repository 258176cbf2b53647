use Rattle.std.proofs.Common.{◌≡◌, ◌+◌, ◌*◌, List, ℕ, length, ap, subst, sym, ◌∙◌, arith}
use Rattle.gui_wire.specs.Words.{all_words}
use Rattle.gui_wire.proofs.WordLemmas.{length-all_words}
use Rattle.desk_laws.specs.Frames.{write_words}
use Rattle.frame_pool.specs.Cells.{numbers}
use Rattle.frame_pool.specs.Touched.{AreTouched}
use Rattle.frame_pool.proofs.CellLemmas.{length-numbers, length-stored, numbers-stored, touched-stored}
use Rattle.frame_pool.proofs.region.Region.store_run.Goals as goal

pub write_run-requires-clause-end : goal.write_run-requires-clause-end
write_run-requires-clause-end c =
    omega (arith, c.requires.page, c.requires.end, length-all_words c.args.bytes.now, c.touch.ensures.cells, ap length c.self.view_is, length-numbers c.self.inside.cells.words)

pub invariant_of-self : goal.invariant_of-self
invariant_of-self c =
    let flags = c.touch.new.touched.items in let words = c.touch.new.cells.words in let vs = all_words c.args.bytes.now in
    let from : ℕ = 1024 * c.args.page + c.args.word in
    let len : length c.write_run.new.cells.words ≡ length c.self.inside.cells.words = ap length c.write_run.ensures ∙ length-stored words from vs ∙ c.touch.ensures.cells in (
      subst (AreTouched flags) (sym c.write_run.ensures)
          (touched-stored flags words c.args.page from vs (omega arith) (omega (arith, c.requires.end, length-all_words c.args.bytes.now)) c.touch.ensures.flag c.touch.ensures.touched),
      (
        omega (arith, len, c.self.invariant.1.0, c.touch.ensures.pages),
        (omega (arith, len, c.self.invariant.1.1.0), c.self.invariant.1.1.1),
      ),
    )

pub returns-clause-words : goal.returns-clause-words
returns-clause-words c =
    let vs = all_words c.args.bytes.now in let from : ℕ = 1024 * c.args.page + c.args.word in
    ap numbers c.write_run.ensures ∙ numbers-stored c.touch.new.cells.words from vs ∙ ap (λ (ns : List ℕ). write_words ns from vs) (c.touch.ensures.same ∙ c.self.view_is)

pub returns-clause-len : goal.returns-clause-len
returns-clause-len c =
    let vs = all_words c.args.bytes.now in let from : ℕ = 1024 * c.args.page + c.args.word in
    length-numbers c.write_run.new.cells.words ∙ ap length c.write_run.ensures ∙ length-stored c.touch.new.cells.words from vs ∙ c.touch.ensures.cells
    ∙ sym (length-numbers c.self.inside.cells.words) ∙ ap length c.self.view_is
