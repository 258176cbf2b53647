use Rattle.std.proofs.Common.{◌≡◌, ◌++◌, drop}
use Rattle.arrayvec.specs.ArrayVec.{array_vec_len}
use Rattle.desk_laws.specs.Effects as effects
use Rattle.guest_session.proofs.text.text_of.Given as goal

abbrev pub invariant-loop-byte : goal.invariant-loop-byte
invariant-loop-byte g l =
    (effects.text_of l.bytes ≡ l.text.items ++ effects.text_of (drop l.byte-index l.bytes)) × (array_vec_len l.text ≡ l.byte-index)
