use Rattle.std.proofs.Common.{◌≡◌, refl, ◌∙◌}
use Rattle.std.specs.Int.{w32, to_le_bytes}
use Rattle.record_format.specs.OutputGrammar.{ended_record}
use Rattle.replay_driver.proofs.post_writer.ended_bytes.Goals as goal

pub returns : goal.returns
unfolding ended_record
returns c =
    let a : c.copy_from_slice.new.self ≡ to_le_bytes w32 c.args.a = c.copy_from_slice.ensures.after ∙ c.to_le_bytes.ensures in
    let b : c.copy_from_slice-2.new.self ≡ to_le_bytes w32 c.args.b = c.copy_from_slice-2.ensures.after ∙ c.to_le_bytes-2.ensures in
    rw (a, b) refl
