use Rattle.std.proofs.Common.{◌≡◌, ℕ, ◌<◌, ◌≤◌, length, vec_capacity}
use Rattle.std.specs.Prelude.{slice_index_or}
use Rattle.desk_core.specs.WindowsView.{no_session}
use Rattle.desk_core.specs.WindowsStand.{IsFresh}
use Rattle.desk_core.proofs.windows.open_sessions.Given as goal

abbrev pub invariant-loop-guest : goal.invariant-loop-guest
invariant-loop-guest l = record {
  count : length l.sessions.items ≡ l.guest;
  room : l.count ≤ vec_capacity l.sessions;
  fresh : (guest : ℕ) → guest < l.guest → IsFresh l.setup guest (slice_index_or l.sessions.items guest no_session);
}
