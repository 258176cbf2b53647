use Rattle.std.proofs.Common.{◌≡◌, ◌+◌, ◌++◌, ◌∙◌, List, ℕ, refl, ap, sym, arith, subst}
use Rattle.io_ports.specs.Content.{Grows}
use Rattle.io_ports.proofs.GrowLemmas.{grows_none, grows_on, part_on}
use Rattle.record_format.specs.ItemSpellings.{items_spelling}
use Rattle.record_format.specs.MadeRecord.{next_seed, seed_after, draw_items, snap_after, first_rounds}
use Rattle.record_format.proofs.MadeLemmas.{spelled_to, spelled_more, spelled_within, round_bytes, round_is, rounds_all, rounds_spelled, seed_more}
use Rattle.record_format.proofs.made.put_rounds.Goals as goal

pub loop-n-init : goal.loop-n-init
loop-n-init g c = record {
  seed = refl;
  grown = grows_none _ _ refl;
  keeps = g.met.K.Sink.keeps_same _;
  later = omega arith;
}

pub returns-in-Err-clause-err : goal.returns-in-Err-clause-err
returns-in-Err-clause-err g c =
    let rounds = c.args.rounds in
    let n = c.loop-n.n in
    let seed : c.next_seed-seed.result ≡ seed_after rounds (n + 1) = c.next_seed-seed.ensures ∙ ap next_seed c.loop-n.invariant.seed ∙ sym (seed_more rounds n) in
    let item = items_spelling (draw_items c.draw_of.result ++ snap_after (n + 1)) in
    let next : spelled_to (round_bytes rounds) 1 n ++ item ≡ spelled_to (round_bytes rounds) 1 (n + 1) =
    ap (λ (l : List ℕ). spelled_to (round_bytes rounds) 1 n ++ l) (round_is rounds n _ _ seed c.draw_of.ensures) ∙ spelled_more (round_bytes rounds) 1 n in
    let within = spelled_within (round_bytes rounds) 1 (n + 1) rounds (omega arith) in
    part_on _ _ _ (spelled_to (round_bytes rounds) 1 n) item (items_spelling (first_rounds rounds rounds)) c.loop-n.invariant.grown c.in-Err.ensures.err
    (within.0, ap (λ (l : List ℕ). l ++ within.0) next ∙ within.1 ∙ rounds_spelled rounds 1 rounds)

pub returns-in-Err-clause-keeps : goal.returns-in-Err-clause-keeps
returns-in-Err-clause-keeps g c = g.met.K.Sink.keeps_on _ _ _ c.loop-n.invariant.keeps c.in-Err.ensures.keeps

pub loop-n-preserved : goal.loop-n-preserved
loop-n-preserved g c =
    let rounds = c.args.rounds in
    let n = c.loop-n.n in
    let seed : c.next_seed-seed.result ≡ seed_after rounds (n + 1) = c.next_seed-seed.ensures ∙ ap next_seed c.loop-n.invariant.seed ∙ sym (seed_more rounds n) in
    let item = items_spelling (draw_items c.draw_of.result ++ snap_after (n + 1)) in
    let next : spelled_to (round_bytes rounds) 1 n ++ item ≡ spelled_to (round_bytes rounds) 1 (n + 1) =
    ap (λ (l : List ℕ). spelled_to (round_bytes rounds) 1 n ++ l) (round_is rounds n _ _ seed c.draw_of.ensures) ∙ spelled_more (round_bytes rounds) 1 n in
    record {
      seed = seed;
      grown = grows_on _ _ _ (spelled_to (round_bytes rounds) 1 n) item _ c.loop-n.invariant.grown c.in-Ok.ensures.ok next;
      keeps = g.met.K.Sink.keeps_on _ _ _ c.loop-n.invariant.keeps c.in-Ok.ensures.keeps;
      later = omega (arith, c.loop-n.invariant.later, c.in-Ok.ensures.cause.later);
    }

pub returns-clause-ok : goal.returns-clause-ok
returns-clause-ok g c =
    subst (λ (l : List ℕ). Grows (g.K.Sink.written c.args.out.now) l (g.K.Sink.written c.loop-n.out))
    (rounds_all c.args.rounds c.loop-n.n (omega arith)) c.loop-n.invariant.grown
