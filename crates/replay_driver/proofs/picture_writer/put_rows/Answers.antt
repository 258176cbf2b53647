use Rattle.std.proofs.Common.{◌≡◌, ◌+◌, ◌++◌, arith, refl, ◌∙◌, ap, subst, List, ℕ}
use Rattle.std.specs.List.{flat_map}
use Rattle.gui_num.specs.Rects.{nat_of}
use Rattle.io_ports.specs.Content.{Grows}
use Rattle.io_ports.proofs.GrowLemmas.{grows_none, grows_on, part_on}
use Rattle.record_format.specs.OutputGrammar.{rgb}
use Rattle.replay_driver.specs.PictureRecords.{part_of_row, colours_of}
use Rattle.replay_driver.proofs.OutputRows.{bytes_to, rows_more, rows_within, rows_all}
use Rattle.replay_driver.proofs.picture_writer.put_rows.Goals as goal

pub loop-n-init : goal.loop-n-init
loop-n-init g c = record {
  line = c.requires.line;
  grown = grows_none _ _ refl;
  keeps = g.met.K.Sink.keeps_same _;
  later = omega arith;
}

pub returns-in-Err-clause-err : goal.returns-in-Err-clause-err
returns-in-Err-clause-err g c =
    let plane = c.args.picture.now in
    let output = c.args.output in
    let n = c.loop-n.n in
    let line : c.spell_row.new.line ≡ flat_map rgb (part_of_row plane output (nat_of output.y + n)) = c.spell_row.ensures ∙ ap (flat_map rgb) c.output_row.ensures.row in
    let next : bytes_to plane output n ++ c.spell_row.new.line ≡ bytes_to plane output (n + 1) =
    ap (λ (l : List ℕ). bytes_to plane output n ++ l) line ∙ rows_more plane output n in
    let within = rows_within plane output (n + 1) (omega arith) in
    part_on _ _ _ (bytes_to plane output n) c.spell_row.new.line (flat_map rgb (colours_of plane output)) c.loop-n.invariant.grown c.in-Err.ensures.err
    (within.0, ap (λ (l : List ℕ). l ++ within.0) next ∙ within.1)

pub returns-in-Err-clause-keeps : goal.returns-in-Err-clause-keeps
returns-in-Err-clause-keeps g c = g.met.K.Sink.keeps_on _ _ _ c.loop-n.invariant.keeps c.in-Err.ensures.keeps

pub loop-n-preserved : goal.loop-n-preserved
loop-n-preserved g c =
    let plane = c.args.picture.now in
    let output = c.args.output in
    let n = c.loop-n.n in
    let line : c.spell_row.new.line ≡ flat_map rgb (part_of_row plane output (nat_of output.y + n)) = c.spell_row.ensures ∙ ap (flat_map rgb) c.output_row.ensures.row in
    let next : bytes_to plane output n ++ c.spell_row.new.line ≡ bytes_to plane output (n + 1) =
    ap (λ (l : List ℕ). bytes_to plane output n ++ l) line ∙ rows_more plane output n in
    record {
      line = omega (arith, c.loop-n.invariant.line);
      grown = grows_on _ _ _ (bytes_to plane output n) c.spell_row.new.line _ c.loop-n.invariant.grown c.in-Ok.ensures.ok next;
      keeps = g.met.K.Sink.keeps_on _ _ _ c.loop-n.invariant.keeps c.in-Ok.ensures.keeps;
      later = omega (arith, c.loop-n.invariant.later, c.in-Ok.ensures.cause.later);
    }

pub returns-clause-ok : goal.returns-clause-ok
returns-clause-ok g c =
    subst (λ (l : List ℕ). Grows (g.K.Sink.written c.args.out.now) l (g.K.Sink.written c.loop-n.out))
    (rows_all c.args.picture.now c.args.output c.loop-n.n (omega arith)) c.loop-n.invariant.grown
