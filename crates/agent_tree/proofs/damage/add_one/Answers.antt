use Rattle.std.proofs.Common.{refl}
use Rattle.agent_tree.specs.Scenes.{whole}
use Rattle.agent_tree.proofs.DamageLemmas.{part-fit, place-whole}
use Rattle.agent_tree.proofs.damage.add_one.Goals as goal

pub add-requires : goal.add-requires
add-requires c = part-fit (whole c.args.place) c.in-Some.r (place-whole c.args.place c.requires.place) refl refl (c.requires.shown c.in-Some.r c.in-Some.is)
