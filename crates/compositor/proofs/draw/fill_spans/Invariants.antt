use Rattle.std.proofs.Common.{◌≡◌, ◌<◌, ℕ, length, slice_index, if◌then◌else◌}
use Rattle.region_clip.specs.Spans.{in_spans}
use Rattle.compositor.proofs.DrawLemmas.{AreWithin}
use Rattle.compositor.proofs.draw.fill_spans.Given as goal

-- what is filled, and what filling the spans that are left would give, is what filling all gives
abbrev pub invariant-loop-start : goal.invariant-loop-start
invariant-loop-start l = record {
  within : AreWithin (length l.initial.row) l.start-iterator;
  filled : (x : ℕ) → x < length l.initial.row
      → (if in_spans l.start-iterator x then l.colour else slice_index l.row x)
      ≡ (if in_spans l.initial.start-iterator x then l.colour else slice_index l.initial.row x);
}
