use Rattle.std.proofs.Common.{◌≡◌, ◌*◌, length, take}
use Rattle.std.specs.List.{flat_map}
use Rattle.record_format.specs.OutputGrammar.{rgb}
use Rattle.replay_driver.proofs.picture_writer.spell_row.Given as goal

abbrev pub invariant-loop-colour : goal.invariant-loop-colour
invariant-loop-colour l = record {
  size : length l.line ≡ 3 * length l.colours;
  place : l.at ≡ 3 * l.colour-index;
  done : take l.at l.line ≡ flat_map rgb (take l.colour-index l.colours);
}
