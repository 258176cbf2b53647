use Rattle.std.proofs.Common.{◌≡◌, length, reverse, take}
use Rattle.std.specs.List.{All}
use Rattle.std.specs.Option.{ForSome}
use Rattle.agent_tree.specs.Frames.{IsNarrow}
use Rattle.agent_tree.specs.Rows.{AreFrames, IsPainted}
use Rattle.agent_tree.proofs.paint.paint_row.Given as goal

-- the boxes so far are painted, and the frames are those of the next one
abbrev pub invariant-loop-b : goal.invariant-loop-b
invariant-loop-b l = record {
  painted : IsPainted l.fn.window l.fn.own l.x l.y (reverse (take l.b-index l.boxes)) l.room;
  frames : AreFrames l.fn.window l.frames (reverse (take l.b-index l.boxes));
  narrow : All (λ f. ForSome f IsNarrow) l.frames;
  many : length l.frames ≡ 66;
}
