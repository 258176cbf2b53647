use Rattle.std.proofs.Common.{◌≡◌, ◌+◌, ◌*◌, ◌≤◌, ◌++◌, ◌∷◌, length, arith, rules, ap, append_assoc}
use Rattle.std.specs.Prelude.{string_bytes}
use Rattle.std.specs.Int.{w32, to_le_bytes}
use Rattle.record_format.specs.OutputGrammar.{ppm_head}
use Rattle.replay_driver.proofs.PictureBytes.{head_small, area_small, head_is}
use Rattle.replay_driver.proofs.picture_writer.picture_head.Goals as goal

pub overflow_cast-size-3 : goal.overflow_cast-size-3
unfolding ppm_head
overflow_cast-size-3 c =
    let text : string_bytes c.in_ok-text.text ≡ ppm_head c.args.width c.args.height = search (rules, append_assoc) in
    let size : c.len.result ≡ length (string_bytes c.in_ok-text.text) = search rules in
    let short : length (ppm_head c.args.width c.args.height) ≤ 20 = head_small c.args.width c.args.height c.requires.narrow c.requires.low in
    let same : length (string_bytes c.in_ok-text.text) ≡ length (ppm_head c.args.width c.args.height) = ap length text in
    let area = area_small c.args.width c.args.height c.requires.narrow c.requires.low in
    omega (arith, short, same, size, area)

pub returns : goal.returns
unfolding ppm_head
returns c =
    let text : string_bytes c.in_ok-text.text ≡ ppm_head c.args.width c.args.height = search (rules, append_assoc) in
    let size : c.len.result ≡ length (string_bytes c.in_ok-text.text) = search rules in
    let all = c.len.result + 3 * (c.args.width * c.args.height) in
    let head : c.extend_from_slice-2.new.self.items ≡ 3 ∷ to_le_bytes w32 all ++ string_bytes c.in_ok-text.text = search rules in
    head_is c.args.width c.args.height c.extend_from_slice-2.new.self.items (string_bytes c.in_ok-text.text) all text (omega (arith, size)) head
