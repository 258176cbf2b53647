use Rattle.std.proofs.Common.{◌≡◌, ℕ, ◌-◌, ◌≤◌, length}
use Rattle.io_ports.specs.MemWires.{sent_to}
use Rattle.io_ports.proofs.sent_bytes.SentBytes.cover.Given as goal

abbrev pub invariant-loop-self : goal.invariant-loop-self
invariant-loop-self l = record {
  grows : length l.initial.self-inside.guests.items ≤ length l.self-inside.guests.items;
  same : (guest : ℕ) → sent_to l.self-inside.guests.items guest ≡ sent_to l.initial.self-inside.guests.items guest;
}

abbrev pub decreases-loop-self : goal.decreases-loop-self
decreases-loop-self l = l.guests - length l.self-inside.guests.items
