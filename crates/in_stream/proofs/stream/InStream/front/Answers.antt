use Rattle.std.proofs.Common.{◌≡◌, ◌≤◌, length, drop, ◌++◌, sym, ap, ◌∙◌, arith}
use Rattle.std.proofs.lemmas.List.{take_rest}
use Rattle.gui_wire.specs.Headers.{header_at, head_result}
use Rattle.in_stream.specs.Received.{Received, StandsFor}
use Rattle.in_stream.proofs.StandsLemmas.{stands-length, stands-header, stands-behind}
use Rattle.in_stream.proofs.FrontLemmas.{front-short, front-bad, front-clip_long, faultless}
use Rattle.in_stream.proofs.stream.InStream.front.Goals as goal
use Rattle.in_stream.proofs.stream.InStream.front.Goals.{else-header-eq-CLIPBOARD_DATA-via-then-header-eq-CLIPBOARD_DATA+else-header-gt-MAX_SKIPPED_CLIPBOARD, else-header-eq-CLIPBOARD_DATA-via-else-header-eq-CLIPBOARD_DATA}

pub returns-then-held-lt-HEADER_LEN : goal.returns-then-held-lt-HEADER_LEN
returns-then-held-lt-HEADER_LEN c = λ r h.
    let s : Received = record { limit = c.self.inside.limit; greeted = c.self.inside.greeted; held = c.self.inside.buffer; skipped = c.self.inside.skipped } in
    let stands : StandsFor s r = rw c.self.view_is h in
    rw (← c.self.view_is, c.bytes-held.ensures.is) (front-short s r c.self.invariant stands (rw c.bytes-held.ensures.is at c.if-held-lt-HEADER_LEN.true))

pub returns-in-Err : goal.returns-in-Err
returns-in-Err c = λ r h.
    let s : Received = record { limit = c.self.inside.limit; greeted = c.self.inside.greeted; held = c.self.inside.buffer; skipped = c.self.inside.skipped } in
    let stands : StandsFor s r = rw c.self.view_is h in
    let long : 12 ≤ length s.held = rw c.bytes-held.ensures.is at c.if-held-lt-HEADER_LEN.false in
    let e = c.header_of-header.ensures ∙ ap header_at c.bytes-held.ensures.is in
    rw (← c.self.view_is, e) (front-bad s r c.in-Err.fault stands long (ap head_result (sym e) ∙ sym c.head_check.ensures ∙ c.in-Err.is))

pub returns-then-header-gt-MAX_SKIPPED_CLIPBOARD : goal.returns-then-header-gt-MAX_SKIPPED_CLIPBOARD
returns-then-header-gt-MAX_SKIPPED_CLIPBOARD c = λ r h.
    let s : Received = record { limit = c.self.inside.limit; greeted = c.self.inside.greeted; held = c.self.inside.buffer; skipped = c.self.inside.skipped } in
    let stands : StandsFor s r = rw c.self.view_is h in
    let long : 12 ≤ length s.held = rw c.bytes-held.ensures.is at c.if-held-lt-HEADER_LEN.false in
    let e = c.header_of-header.ensures ∙ ap header_at c.bytes-held.ensures.is in
    rw (← c.self.view_is, e) (front-clip_long s r stands long (rw e at c.if-header-eq-CLIPBOARD_DATA.true) (rw e at c.if-header-gt-MAX_SKIPPED_CLIPBOARD.true))

pub returns : goal.returns
returns c = λ r h.
    let s : Received = record { limit = c.self.inside.limit; greeted = c.self.inside.greeted; held = c.self.inside.buffer; skipped = c.self.inside.skipped } in
    let stands : StandsFor s r = rw c.self.view_is h in
    let long : 12 ≤ length s.held = rw c.bytes-held.ensures.is at c.if-held-lt-HEADER_LEN.false in
    let e = c.header_of-header.ensures ∙ ap header_at c.bytes-held.ensures.is in
    let limit : c.header_of-header.result.kind ≡ 140 → c.header_of-header.result.len ≤ 256000 =
    λ clip. elim c.else-header-eq-CLIPBOARD_DATA.branch [
      | else-header-eq-CLIPBOARD_DATA-via-then-header-eq-CLIPBOARD_DATA+else-header-gt-MAX_SKIPPED_CLIPBOARD w ↦ w.if-header-gt-MAX_SKIPPED_CLIPBOARD.false
      | else-header-eq-CLIPBOARD_DATA-via-else-header-eq-CLIPBOARD_DATA w ↦ absurd (w.if-header-eq-CLIPBOARD_DATA.false clip)
    ] in
    rw (← c.self.view_is) (c.message_at.ensures r stands.passed (omega (arith, stands-length s r stands)) (stands-header s r long stands ∙ sym e)
    (faultless c.header_of-header.result (sym c.head_check.ensures ∙ c.in_default.is) limit) stands.as_many
    (stands-behind s r long stands ∙ ap (λ x. stands.passed ++ drop 12 x) (sym c.bytes-held.ensures.is) ∙ ap (λ x. stands.passed ++ x) (sym (take_rest c.bytes-held.result.now 12))))
