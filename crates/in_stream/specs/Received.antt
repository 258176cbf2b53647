-- What a receive buffer holds, and the rests of a guest's bytes that it stands for.
use Rattle.std.specs.Prelude.{◌≡◌, ℕ, ◌+◌, Bool, List, ◌++◌, length, take, drop}
use Rattle.gui_wire.specs.declared.limits.TheConstants.{MAX_DUMP_LEN}

-- the most bytes that are held: those of the longest message
abbrev pub longest : ℕ
longest = 12 + MAX_DUMP_LEN

-- what a receive buffer is seen as
pub record Received : Type 0 where
  -- the most bytes of a clipboard body that is kept
  pub limit : ℕ
  -- whether the version word was taken
  pub greeted : Bool
  -- the bytes that are held
  pub held : List ℕ
  -- how many bytes were passed over behind the first 12: those of a clipboard body that isn't kept
  pub skipped : ℕ

-- the rest of a guest's bytes that a buffer stands for: what it holds, with any bytes for those that
-- were passed over behind the header
pub record StandsFor (stream : Received) (rest : List ℕ) : Type 0 where
  pub passed : List ℕ
  pub as_many : length passed ≡ stream.skipped
  pub rest_is : rest ≡ take 12 stream.held ++ (passed ++ drop 12 stream.held)
