-- What a feed that reads a record is seen as.
use Rattle.std.specs.Prelude.{ℕ}
use Rattle.replay_driver.specs.declared.replay_feed.FeedState.{FeedState}

-- a feed: its source, the offset of the source's next byte, where it stands, the numbers of guests and
-- pages, and how many items it has given
pub record FeedView (S : Type 0) : Type 0 where
  pub source : S
  pub at : ℕ
  pub state : FeedState
  pub guests : ℕ
  pub pages : ℕ
  pub given : ℕ
