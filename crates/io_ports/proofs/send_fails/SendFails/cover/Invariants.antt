use Rattle.std.proofs.Common.{◌≡◌, ℕ, ◌-◌, ◌≤◌, length}
use Rattle.io_ports.specs.MemWires.{counts_of}
use Rattle.io_ports.proofs.send_fails.SendFails.cover.Given as goal

abbrev pub invariant-loop-self : goal.invariant-loop-self
invariant-loop-self l = record {
  grows : length l.initial.self-inside.counts.items ≤ length l.self-inside.counts.items;
  same : (guest : ℕ) → counts_of l.self-inside.counts.items guest ≡ counts_of l.initial.self-inside.counts.items guest;
  entries : l.self-inside.entries.items ≡ l.initial.self-inside.entries.items;
}

abbrev pub decreases-loop-self : goal.decreases-loop-self
decreases-loop-self l = l.guests - length l.self-inside.counts.items
