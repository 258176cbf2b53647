use Rattle.std.proofs.Common.{◌≡◌, ◌+◌, ◌++◌, ◌∙◌, List, ℕ, refl, ap, arith, subst}
use Rattle.io_ports.specs.Content.{Grows}
use Rattle.io_ports.proofs.GrowLemmas.{grows_none, grows_on, part_on}
use Rattle.record_format.proofs.MadeLemmas.{spelled_to, spelled_more, spelled_within, opening_spelled, opening_is, openings_all}
use Rattle.record_format.specs.MadeRecord.{piece_of}
use Rattle.record_format.specs.ItemSpellings.{fed_spelling}
use Rattle.record_format.proofs.made.put_openings.Goals as goal

pub loop-guest-init : goal.loop-guest-init
loop-guest-init g c = record {
  grown = grows_none _ _ refl;
  keeps = g.met.K.Sink.keeps_same _;
  later = omega arith;
}

pub returns-in-Err-clause-err : goal.returns-in-Err-clause-err
returns-in-Err-clause-err g c =
    let n = c.loop-guest.guest in
    let item = fed_spelling (piece_of n c.opening_bytes.result) in
    let next : spelled_to opening_spelled 0 n ++ item ≡ spelled_to opening_spelled 0 (n + 1) =
    ap (λ (l : List ℕ). spelled_to opening_spelled 0 n ++ l) (opening_is n c.opening_bytes.result c.opening_bytes.ensures) ∙ spelled_more opening_spelled 0 n in
    let within = spelled_within opening_spelled 0 (n + 1) 4 (omega arith) in
    part_on _ _ _ (spelled_to opening_spelled 0 n) item (spelled_to opening_spelled 0 4) c.loop-guest.invariant.grown c.in-Err.ensures.err
    (within.0, ap (λ (l : List ℕ). l ++ within.0) next ∙ within.1)

pub returns-in-Err-clause-keeps : goal.returns-in-Err-clause-keeps
returns-in-Err-clause-keeps g c = g.met.K.Sink.keeps_on _ _ _ c.loop-guest.invariant.keeps c.in-Err.ensures.keeps

pub loop-guest-preserved : goal.loop-guest-preserved
loop-guest-preserved g c =
    let n = c.loop-guest.guest in
    let item = fed_spelling (piece_of n c.opening_bytes.result) in
    let next : spelled_to opening_spelled 0 n ++ item ≡ spelled_to opening_spelled 0 (n + 1) =
    ap (λ (l : List ℕ). spelled_to opening_spelled 0 n ++ l) (opening_is n c.opening_bytes.result c.opening_bytes.ensures) ∙ spelled_more opening_spelled 0 n in
    record {
      grown = grows_on _ _ _ (spelled_to opening_spelled 0 n) item _ c.loop-guest.invariant.grown c.in-Ok.ensures.ok next;
      keeps = g.met.K.Sink.keeps_on _ _ _ c.loop-guest.invariant.keeps c.in-Ok.ensures.keeps;
      later = omega (arith, c.loop-guest.invariant.later, c.in-Ok.ensures.cause.later);
    }

pub returns-clause-ok : goal.returns-clause-ok
returns-clause-ok g c =
    subst (λ (l : List ℕ). Grows (g.K.Sink.written c.args.out.now) l (g.K.Sink.written c.loop-guest.out))
    (openings_all c.loop-guest.guest (omega arith)) c.loop-guest.invariant.grown
