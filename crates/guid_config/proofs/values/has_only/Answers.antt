-- The keys of the map are those of the members.
use Rattle.std.proofs.Common.{◌∙◌, map}
use Rattle.toml.specs.View.{view, table_view}
use Rattle.guid_config.proofs.KeyLemmas.{keys_behind, keys_of_table}
use Rattle.guid_config.proofs.values.has_only.Goals as goal

pub returns-in-Some : goal.returns-in-Some
returns-in-Some c =
    c.are_among.ensures
    ∙ keys_behind c.args.known.now c.in-Some.table.now.entries
    ∙ keys_of_table (map (λ k. k.now) c.args.known.now) (view c.args.tree.now) (table_view c.in-Some.table.now) c.in-Some.ensures
