use Rattle.std.proofs.Common.{◌≡◌, refl, ◌∙◌}
use Rattle.std.specs.Int.{w64, to_le_bytes}
use Rattle.record_format.specs.OutputGrammar.{summary_record}
use Rattle.replay_driver.proofs.summary_writer.summary_bytes.Goals as goal

pub returns : goal.returns
unfolding summary_record
returns c =
    let s = c.args.summary.now in
    let a : c.copy_from_slice.new.self ≡ to_le_bytes w64 s.items = c.copy_from_slice.ensures.after ∙ c.to_le_bytes.ensures in
    let b : c.copy_from_slice-2.new.self ≡ to_le_bytes w64 s.messages = c.copy_from_slice-2.ensures.after ∙ c.to_le_bytes-2.ensures in
    let d : c.copy_from_slice-3.new.self ≡ to_le_bytes w64 s.glances = c.copy_from_slice-3.ensures.after ∙ c.to_le_bytes-3.ensures in
    let e : c.copy_from_slice-4.new.self ≡ to_le_bytes w64 s.painted = c.copy_from_slice-4.ensures.after ∙ c.to_le_bytes-4.ensures in
    rw (a, b, d, e) refl
