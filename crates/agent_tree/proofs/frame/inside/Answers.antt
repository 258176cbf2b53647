use Rattle.std.proofs.Common.{◌≡◌, Option, Some, subst, sym, rules, to_z, of_z, w32}
use Rattle.std.specs.Option.{ForSome}
use Rattle.agent_tree.specs.declared.frame.Frame.{Frame}
use Rattle.agent_tree.specs.Frames.{IsNarrow, inside}
use Rattle.agent_tree.proofs.FrameLemmas.{narrow-of}
use Rattle.agent_tree.proofs.frame.inside.Goals as goal

pub returns-clause-narrow : goal.returns-clause-narrow
returns-clause-narrow c =
    let all = c.moved-all.result in
    let new : Frame = record { corner = record { x = to_z w32 (of_z w32 all.x); y = to_z w32 (of_z w32 all.y) }; room = c.in_ok-room.room } in
    let same : Some new ≡ inside c.args.frame c.args.place = search rules in
    subst (λ (o : Option Frame). ForSome o IsNarrow) (sym same) (narrow-of c.args.frame c.args.place c.requires.frame c.requires.place)
