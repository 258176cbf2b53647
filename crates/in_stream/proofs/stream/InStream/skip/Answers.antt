use Rattle.std.proofs.Common.{◌≡◌, ◌-◌, ◌≤◌, true, length, min, sym, ap, ◌∙◌, inl, inr}
use Rattle.gui_wire.specs.Headers.{header_at}
use Rattle.in_stream.specs.Received.{Received, StandsFor}
use Rattle.in_stream.specs.Shown.{is_passed_over}
use Rattle.in_stream.specs.Taking.{to_skip, kept}
use Rattle.in_stream.proofs.StandsLemmas.{bounded}
use Rattle.in_stream.proofs.TakingLemmas.{kept-early, to_skip-passed, kept-passed, length-without, sound-without, stands-without, counted}
use Rattle.in_stream.proofs.stream.InStream.skip.Goals as goal
use Rattle.in_stream.proofs.stream.InStream.skip.Goals.{then-not-self-via-then-not-self, then-not-self-via-else-not-self+then-held-lt-HEADER_LEN}

pub returns-then-not-self-clause-held : goal.returns-then-not-self-clause-held
returns-then-not-self-clause-held c = λ r h.
    let s : Received = record { limit = c.self.inside.limit; greeted = c.self.inside.greeted; held = c.self.inside.buffer; skipped = c.self.inside.skipped } in
    let stands : StandsFor s r = rw c.self.view_is h in
    rw (← c.self.view_is) (kept-early s r c.self.invariant stands
    (elim c.then-not-self.branch [
      | then-not-self-via-then-not-self w ↦ inl w.if-not-self.true
      | then-not-self-via-else-not-self+then-held-lt-HEADER_LEN w ↦ inr (rw c.bytes-held.ensures.is at w.if-held-lt-HEADER_LEN.true)
    ]))

pub invariant_of-self : goal.invariant_of-self
invariant_of-self c =
    let s : Received = record { limit = c.self.inside.limit; greeted = c.self.inside.greeted; held = c.self.inside.buffer; skipped = c.self.inside.skipped } in
    let long : 12 ≤ length s.held = rw c.bytes-held.ensures.is at c.if-held-lt-HEADER_LEN.false in
    let e = c.header_of-header.ensures ∙ ap header_at c.bytes-held.ensures.is in
    let over : is_passed_over s.limit (header_at s.held) ≡ true = ap (is_passed_over s.limit) (sym e) ∙ sym c.if-not-is_passed_over.ensures in
    let here = c.min-here.ensures ∙ ap (λ x. min (x.len - s.skipped) (length c.bytes-held.result.now - 12)) e ∙ ap (λ x. min ((header_at s.held).len - s.skipped) (length x - 12)) c.bytes-held.ensures.is in
    let there = c.min-there.ensures ∙ ap (λ x. min c.args.len (x.len - s.skipped - c.min-here.result)) e in
    let k = counted c.args.len (header_at s.held).len (length s.held) s.skipped c.min-here.result c.min-there.result long (bounded s c.self.invariant long) here there in
    rw c.cut.ensures (sound-without s c.min-here.result c.min-there.result c.self.invariant c.if-not-self.false over k.inside k.bounded)

pub returns-clause-count : goal.returns-clause-count
returns-clause-count c = λ r h.
    let s : Received = record { limit = c.self.inside.limit; greeted = c.self.inside.greeted; held = c.self.inside.buffer; skipped = c.self.inside.skipped } in
    let stands : StandsFor s r = rw c.self.view_is h in
    let long : 12 ≤ length s.held = rw c.bytes-held.ensures.is at c.if-held-lt-HEADER_LEN.false in
    let e = c.header_of-header.ensures ∙ ap header_at c.bytes-held.ensures.is in
    let over : is_passed_over s.limit (header_at s.held) ≡ true = ap (is_passed_over s.limit) (sym e) ∙ sym c.if-not-is_passed_over.ensures in
    let here = c.min-here.ensures ∙ ap (λ x. min (x.len - s.skipped) (length c.bytes-held.result.now - 12)) e ∙ ap (λ x. min ((header_at s.held).len - s.skipped) (length x - 12)) c.bytes-held.ensures.is in
    let there = c.min-there.ensures ∙ ap (λ x. min c.args.len (x.len - s.skipped - c.min-here.result)) e in
    let k = counted c.args.len (header_at s.held).len (length s.held) s.skipped c.min-here.result c.min-there.result long (bounded s c.self.invariant long) here there in
    k.there_is ∙ ap (min c.args.len) (sym (to_skip-passed s r c.if-not-self.false long over stands)) ∙ ap (λ x. min c.args.len (to_skip x.limit x.greeted r)) c.self.view_is

pub returns-clause-stands : goal.returns-clause-stands
returns-clause-stands c = λ r more h m.
    let s : Received = record { limit = c.self.inside.limit; greeted = c.self.inside.greeted; held = c.self.inside.buffer; skipped = c.self.inside.skipped } in
    let stands : StandsFor s r = rw c.self.view_is h in
    let long : 12 ≤ length s.held = rw c.bytes-held.ensures.is at c.if-held-lt-HEADER_LEN.false in
    let e = c.header_of-header.ensures ∙ ap header_at c.bytes-held.ensures.is in
    let over : is_passed_over s.limit (header_at s.held) ≡ true = ap (is_passed_over s.limit) (sym e) ∙ sym c.if-not-is_passed_over.ensures in
    let here = c.min-here.ensures ∙ ap (λ x. min (x.len - s.skipped) (length c.bytes-held.result.now - 12)) e ∙ ap (λ x. min ((header_at s.held).len - s.skipped) (length x - 12)) c.bytes-held.ensures.is in
    let there = c.min-there.ensures ∙ ap (λ x. min c.args.len (x.len - s.skipped - c.min-here.result)) e in
    let k = counted c.args.len (header_at s.held).len (length s.held) s.skipped c.min-here.result c.min-there.result long (bounded s c.self.invariant long) here there in
    rw c.cut.ensures (stands-without s r more c.min-here.result c.min-there.result stands k.inside m k.ends)

pub returns-clause-held : goal.returns-clause-held
returns-clause-held c = λ r h.
    let s : Received = record { limit = c.self.inside.limit; greeted = c.self.inside.greeted; held = c.self.inside.buffer; skipped = c.self.inside.skipped } in
    let stands : StandsFor s r = rw c.self.view_is h in
    let long : 12 ≤ length s.held = rw c.bytes-held.ensures.is at c.if-held-lt-HEADER_LEN.false in
    let e = c.header_of-header.ensures ∙ ap header_at c.bytes-held.ensures.is in
    let over : is_passed_over s.limit (header_at s.held) ≡ true = ap (is_passed_over s.limit) (sym e) ∙ sym c.if-not-is_passed_over.ensures in
    let here = c.min-here.ensures ∙ ap (λ x. min (x.len - s.skipped) (length c.bytes-held.result.now - 12)) e ∙ ap (λ x. min ((header_at s.held).len - s.skipped) (length x - 12)) c.bytes-held.ensures.is in
    let there = c.min-there.ensures ∙ ap (λ x. min c.args.len (x.len - s.skipped - c.min-here.result)) e in
    let k = counted c.args.len (header_at s.held).len (length s.held) s.skipped c.min-here.result c.min-there.result long (bounded s c.self.invariant long) here there in
    ap length c.cut.ensures ∙ length-without s c.min-here.result c.min-there.result k.inside ∙ k.left_is
    ∙ sym (kept-passed s r c.if-not-self.false long over stands) ∙ ap (λ x. kept x.limit x.greeted r) c.self.view_is
