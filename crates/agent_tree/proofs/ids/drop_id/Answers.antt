use Rattle.std.proofs.Common.{rules}
use Rattle.std.specs.Prelude.{◌==◌, not}
use Rattle.std.proofs.lemmas.Fn.{filter_same}
use Rattle.agent_tree.proofs.ids.drop_id.Goals as goal

pub returns : goal.returns
returns c = filter_same _ (λ s. not (s == c.args.id)) _ (λ x b f' k. search rules) c.args.ids.now.items c.retain.new.self.items c.retain.ensures.filtered
