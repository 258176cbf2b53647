use Rattle.std.proofs.Common.{◌≡◌, ◌∙◌, ap, subst, arith, ℕ}
use Rattle.io_ports.specs.Counts.{Rose}
use Rattle.guid_main.proofs.AnswerLemmas.{outcome_says, says_again, kept_again, later_again, record_fed, rose_again}
use Rattle.replay_driver.proofs.FeedRuns.{fed_source}
use Rattle.guid_main.proofs.run.replay_over.Goals as goal

pub returns-clause-says : goal.returns-clause-says
returns-clause-says g c = λ bytes told.
    let over = c.desk_run-outcome.ensures.ran in
    let made = c.in-Ok.ensures in
    says_again g.S.Source.left c.args.setup.now bytes _ c.status_of.result _ _ _ c.desk_run-outcome.new.feed.source c.finish.ensures c.status_of.ensures.is
    (outcome_says g.S.Source.left g.S.Source.faults g.S.Source.keeps c.args.setup.now c.in-Ok.feed c.desk_run-outcome.new.feed bytes over.given over.last c.desk_run-outcome.result _ _
    made.state made.guests made.pages (made.at ∙ c.config_len-start.ensures.len) (ap g.S.Source.left made.source ∙ told)
    (record_fed g.S.Source.left g.S.Source.faults g.S.Source.keeps _ _ c.in-Ok.feed c.desk_run-outcome.new.feed over.given over.last over.fed) over.ran)

pub returns-clause-keeps : goal.returns-clause-keeps
returns-clause-keeps g c =
    let over = c.desk_run-outcome.ensures.ran in
    kept_again g.S.Source.keeps _ _ _ _ c.in-Ok.ensures.source c.finish.ensures
    (fed_source g.S.Source.left g.S.Source.faults g.S.Source.keeps c.in-Ok.feed c.desk_run-outcome.new.feed over.given over.last g.met.S.Source.keeps_same g.met.S.Source.keeps_on
    (record_fed g.S.Source.left g.S.Source.faults g.S.Source.keeps _ _ c.in-Ok.feed c.desk_run-outcome.new.feed over.given over.last over.fed))

pub returns-clause-read_later : goal.returns-clause-read_later
returns-clause-read_later g c =
    let before : g.S.Source.faults c.in-Ok.feed.source ≡ g.S.Source.faults c.args.source = ap g.S.Source.faults c.in-Ok.ensures.source in
    later_again g.S.Source.faults c.args.source _ c.desk_run-outcome.new.feed.source c.finish.ensures (omega (arith, before, c.desk_run-outcome.ensures.read_later))

pub returns-clause-read : goal.returns-clause-read
returns-clause-read g c = λ is.
    let before : g.S.Source.faults c.in-Ok.feed.source ≡ g.S.Source.faults c.args.source = ap g.S.Source.faults c.in-Ok.ensures.source in
    rose_again g.S.Source.faults c.args.source _ c.desk_run-outcome.new.feed.source c.finish.ensures
    (subst (λ (n : ℕ). Rose n (g.S.Source.faults c.desk_run-outcome.new.feed.source)) before (c.desk_run-outcome.ensures.read (c.status_of.ensures.read is)))
