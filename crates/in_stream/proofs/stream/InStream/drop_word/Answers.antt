use Rattle.std.proofs.Common.{◌≡◌, false, ap, ◌∙◌}
use Rattle.in_stream.specs.Received.{Received}
use Rattle.in_stream.proofs.StandsLemmas.{drops_word}
use Rattle.in_stream.proofs.stream.InStream.drop_word.Goals as goal

pub returns-clause-drops : goal.returns-clause-drops
returns-clause-drops c =
    let s : Received = record { limit = c.self.inside.limit; greeted = c.self.inside.greeted; held = c.self.inside.buffer; skipped = c.self.inside.skipped } in
    let first : s.greeted ≡ false = ap (λ x. x.greeted) c.self.view_is ∙ c.requires.first in
    rw (← c.self.view_is, c.drop_front.ensures) (drops_word s c.self.invariant first)
