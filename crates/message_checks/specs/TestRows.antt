-- The rows of the guest that the tests check messages against.
use Rattle.std.specs.Prelude.{ℕ, [], Some, replicate, false, pos}
use Rattle.desk_laws.specs.Rows.{Row}

-- a window whose dump has so many references
abbrev pub row_of : ℕ → ℕ → Row
row_of window refs = record {
  guest = 0;
  window = window;
  place = record { x = pos 0; y = pos 0; w = 1; h = 1 };
  mapped = false;
  asked = false;
  over = false;
  parent = 0;
  transient = 0;
  title = [];
  class = [];
  name = [];
  hints = [];
  flags = 0;
  cursor = 0;
  docked = false;
  dump = Some (record { width = 1; height = 1; refs = replicate refs 0 });
  contents = [];
}
