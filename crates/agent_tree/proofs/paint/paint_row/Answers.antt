use Rattle.std.proofs.Common.{◌≡◌, ◌+◌, ◌<◌, ◌≤◌, length, ap, ◌∙◌, sym, subst, arith, get_or, if◌then◌else◌, None, Option, reverse, take, List, ◌∷◌}
use Rattle.std.specs.Prelude.{pos}
use Rattle.std.proofs.lemmas.List.{length-set}
use Rattle.gui_num.specs.declared.Rect.{Rect}
use Rattle.agent_tree.specs.declared.boxes.SceneBox.{SceneBox}
use Rattle.agent_tree.specs.declared.frame.Frame.{Frame}
use Rattle.agent_tree.specs.Frames.{shows}
use Rattle.agent_tree.specs.Paths.{level_of}
use Rattle.agent_tree.specs.Rows.{AreFrames, IsPainted}
use Rattle.agent_tree.proofs.RowLemmas.{before-next, paint-next, frames-next, nested-next}
use Rattle.agent_tree.proofs.paint.paint_row.Goals as goal

abbrev nothing : SceneBox
nothing = record { id = 0; level = 0; place = record { x = pos 0; y = pos 0; w = 0; h = 0 }; colour = record { 0 = 0 } }

pub loop-b-preserved : goal.loop-b-preserved
loop-b-preserved c =
    let xs = c.args.boxes.now in
    let i = c.loop-b.b-index in
    let b : SceneBox = get_or xs i nothing in
    let before : List SceneBox = reverse (take i xs) in
    let h : i < length xs = c.loop-b-test.true in
    let e : reverse (take (i + 1) xs) ≡ b ∷ before = before-next xs i nothing h in
    let s = c.requires.sound i nothing h in
    let next : b.level ≤ level_of before + 1 = nested-next xs i nothing h c.requires.nested in
    let painted : List SceneBox → Type 0 = λ bs. IsPainted c.args.window c.args.own c.args.x c.args.y bs c.put_row.new.room in
    let frames : List SceneBox → Type 0 = AreFrames c.args.window c.enter-shown.new.frames in
    let room : b.level + 1 < length c.loop-b.frames = omega (arith, s.high, c.loop-b.invariant.many) in
    record {
      painted = subst painted (sym e) (paint-next c.args.window c.args.own c.args.x c.args.y before b c.loop-b.room c.put_row.new.room (get_or c.loop-b.frames b.level None) c.loop-b.invariant.painted (c.loop-b.invariant.frames b.level s.low next) c.put_row.auto.room
          (λ k h. c.put_row.ensures k h ∙ ap (λ (o : Option Rect). if shows o (record { x = pos (c.args.x + k); y = pos c.args.y }) then b.colour.0 else get_or c.loop-b.room k 0) c.enter-shown.ensures.clip));
      frames = subst frames (sym e) (subst (λ (fs : List (Option Frame)). AreFrames c.args.window fs (b ∷ before)) (sym c.enter-shown.ensures.frames) (frames-next c.args.window c.loop-b.frames before b c.loop-b.invariant.frames s.low next room));
      narrow = c.enter-shown.ensures.narrow;
      many = ap length c.enter-shown.ensures.frames ∙ length-set c.loop-b.frames _ _ ∙ c.loop-b.invariant.many;
    }
