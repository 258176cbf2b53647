use Rattle.std.proofs.Common.{◌≡◌, refl, sym, ◌∙◌}
use Rattle.desk_laws.specs.Steps.{step}
use Rattle.desk_core.specs.DeskPosts.{guest_posts}
use Rattle.output_laws.specs.RunRecords.{HasCauseWidths}
use Rattle.record_format.specs.OutputGrammar.{post_bytes}
use Rattle.replay_driver.specs.Writes.{WritesOn}
use Rattle.replay_driver.proofs.ItemWriteLemmas.{told_to}
use Rattle.replay_driver.proofs.WriterLemmas.{causes_all, leads_apart, writes_all, writer_failed, writer_told}
use Rattle.replay_driver.proofs.item_writer.step_desk.Goals as goal

pub returns-then-writer-clause-writes : goal.returns-then-writer-clause-writes
returns-then-writer-clause-writes g c = λ setup state stands.
    let told = c.step-stepped.ensures.steps setup state stands in
    let posts = guest_posts (step setup c.args.item.now c.args.piece.now state).posts in
    let apart = leads_apart HasCauseWidths
    (λ a post b. WritesOn a.failed b.failed (post_bytes 0 post) (g.K.Sink.written a.out.now) (g.K.Sink.written b.out.now) (g.K.Sink.faults a.out.now) (g.K.Sink.faults b.out.now) ((b.out.ghost_name ≡ a.out.ghost_name) × g.K.Sink.keeps a.out.now b.out.now))
    posts _ _ told.posts in
    let all = writes_all (λ w. w.failed) (λ w. g.K.Sink.written w.out.now) (λ w. g.K.Sink.faults w.out.now)
    (λ a b. (b.out.ghost_name ≡ a.out.ghost_name) × g.K.Sink.keeps a.out.now b.out.now)
    (λ a. (refl, g.met.K.Sink.keeps_same a.out.now)) (λ a b d first second. (second.0 ∙ first.0, g.met.K.Sink.keeps_on a.out.now b.out.now d.out.now first.1 second.1))
    posts _ _ apart.1 in
    told_to g.K.Sink.written g.K.Sink.faults g.K.Sink.keeps setup c.args.item.now c.args.piece.now state c.args.desk.now c.step-stepped.new.self _ _ _
    c.args.out.now c.step-stepped.new.out.out.now _ (c.out-1.given.1 (sym all.keeps_sink.0))
    (writer_failed _ c.step-stepped.new.out.failed _ _ _ _ _ _ c.if-writer.true all) all.keeps_sink.1 told.stands (causes_all (step setup c.args.item.now c.args.piece.now state).posts apart.0) told.painted

pub returns-else-writer-clause-writes : goal.returns-else-writer-clause-writes
returns-else-writer-clause-writes g c = λ setup state stands.
    let told = c.step-stepped.ensures.steps setup state stands in
    let posts = guest_posts (step setup c.args.item.now c.args.piece.now state).posts in
    let apart = leads_apart HasCauseWidths
    (λ a post b. WritesOn a.failed b.failed (post_bytes 0 post) (g.K.Sink.written a.out.now) (g.K.Sink.written b.out.now) (g.K.Sink.faults a.out.now) (g.K.Sink.faults b.out.now) ((b.out.ghost_name ≡ a.out.ghost_name) × g.K.Sink.keeps a.out.now b.out.now))
    posts _ _ told.posts in
    let all = writes_all (λ w. w.failed) (λ w. g.K.Sink.written w.out.now) (λ w. g.K.Sink.faults w.out.now)
    (λ a b. (b.out.ghost_name ≡ a.out.ghost_name) × g.K.Sink.keeps a.out.now b.out.now)
    (λ a. (refl, g.met.K.Sink.keeps_same a.out.now)) (λ a b d first second. (second.0 ∙ first.0, g.met.K.Sink.keeps_on a.out.now b.out.now d.out.now first.1 second.1))
    posts _ _ apart.1 in
    told_to g.K.Sink.written g.K.Sink.faults g.K.Sink.keeps setup c.args.item.now c.args.piece.now state c.args.desk.now c.step-stepped.new.self _ _ _
    c.args.out.now c.step-stepped.new.out.out.now _ (c.out-1.given.1 (sym all.keeps_sink.0))
    (writer_told _ c.step-stepped.new.out.failed _ _ _ _ _ _ c.if-writer.false all) all.keeps_sink.1 told.stands (causes_all (step setup c.args.item.now c.args.piece.now state).posts apart.0) told.painted

pub returns-else-writer-clause-drawn : goal.returns-else-writer-clause-drawn
returns-else-writer-clause-drawn g c = λ snap setup state stands. (c.step-stepped.ensures.steps setup state stands).drawn snap

pub returns-then-writer-clause-drawn : goal.returns-then-writer-clause-drawn
returns-then-writer-clause-drawn g c = λ snap setup state stands. (c.step-stepped.ensures.steps setup state stands).drawn snap
