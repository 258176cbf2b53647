use Rattle.std.proofs.Common.{◌≡◌, true, ap, ◌∙◌}
use Rattle.in_stream.specs.Received.{Received}
use Rattle.in_stream.specs.Taking.{HasUnit}
use Rattle.in_stream.proofs.StandsLemmas.{drops_message, holds_message}
use Rattle.in_stream.proofs.stream.InStream.drop_front.Goals as goal

pub header_of-header-requires : goal.header_of-header-requires
header_of-header-requires c =
    let s : Received = record { limit = c.self.inside.limit; greeted = c.self.inside.greeted; held = c.self.inside.buffer; skipped = c.self.inside.skipped } in
    let greeted : s.greeted ≡ true = ap (λ x. x.greeted) c.self.view_is ∙ c.requires.greeted in
    let unit : HasUnit s = rw c.self.view_is c.requires.unit in
    rw c.bytes.ensures.is (holds_message s c.self.invariant greeted unit).0

pub drop_front-requires : goal.drop_front-requires
drop_front-requires c =
    let s : Received = record { limit = c.self.inside.limit; greeted = c.self.inside.greeted; held = c.self.inside.buffer; skipped = c.self.inside.skipped } in
    let greeted : s.greeted ≡ true = ap (λ x. x.greeted) c.self.view_is ∙ c.requires.greeted in
    let unit : HasUnit s = rw c.self.view_is c.requires.unit in
    rw (c.header_of-header.ensures, c.bytes.ensures.is) (holds_message s c.self.invariant greeted unit).1

pub returns-clause-drops : goal.returns-clause-drops
returns-clause-drops c =
    let s : Received = record { limit = c.self.inside.limit; greeted = c.self.inside.greeted; held = c.self.inside.buffer; skipped = c.self.inside.skipped } in
    let greeted : s.greeted ≡ true = ap (λ x. x.greeted) c.self.view_is ∙ c.requires.greeted in
    rw (← c.self.view_is, c.drop_front.ensures, c.header_of-header.ensures, c.bytes.ensures.is) (drops_message s c.self.inside.greeted c.self.invariant greeted)
