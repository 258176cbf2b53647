use Rattle.std.proofs.Common.{◌≡◌, ap, sym, ◌∙◌}
use Rattle.io_ports.specs.Feeds.{answer_of}
use Rattle.replay_driver.specs.declared.replay_feed.FeedState.{FeedState}
use Rattle.replay_driver.specs.declared.replay_feed.FeedState.TheVariants as states
use Rattle.replay_driver.specs.FeedView.{FeedView}
use Rattle.replay_driver.specs.FeedReadings.{state_after}
use Rattle.replay_driver.proofs.FeedLemmas.{item_reads, going_reads, failed_is, going_comes}
use Rattle.replay_driver.proofs.replay_feed.ReplayFeedFeed.next.Goals as goal

pub returns-in-Going-clause-gives : goal.returns-in-Going-clause-gives
returns-in-Going-clause-gives g c =
    let a = c.args.self.now in
    let b = c.go_on.new.self in
    let answer = answer_of c.go_on.result c.go_on.new.room in
    let going : a.state ≡ states.Going = ap (λ (f : FeedView _). f.state) (sym c.self.view_is) ∙ c.in-Going.is in
    record {
      same_source = c.go_on.ensures.keeps;
      same_guests = c.go_on.ensures.guests;
      same_pages = c.go_on.ensures.pages;
      state = c.go_on.ensures.state ∙ ap (λ (s : FeedState). state_after s answer) (sym going);
      reads = λ bytes told. going_reads a.state a.guests a.pages a.at b.at answer bytes _ going
          (item_reads a.guests a.pages a.at b.at c.go_on.result c.go_on.new.room bytes _ c.go_on.ensures.at (c.go_on.ensures.finds bytes told));
      later = c.go_on.ensures.later;
      failed = λ is. c.go_on.ensures.failed (failed_is c.go_on.result c.go_on.new.room is);
    }

pub returns-in-Going-clause-coming : goal.returns-in-Going-clause-coming
returns-in-Going-clause-coming g c = λ coming told.
    let a = c.args.self.now in
    let b = c.go_on.new.self in
    let going : a.state ≡ states.Going = ap (λ (f : FeedView _). f.state) (sym c.self.view_is) ∙ c.in-Going.is in
    going_comes a.state b.state a.guests b.guests a.pages b.pages a.at b.at c.go_on.result c.go_on.new.room _ _ coming going c.go_on.ensures.state c.go_on.ensures.guests c.go_on.ensures.pages
    c.go_on.ensures.at c.go_on.ensures.range c.go_on.ensures.finds told
