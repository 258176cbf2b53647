use Rattle.std.proofs.Common.{◌≤◌, Option, None, Some, ℕ, ◌∙◌, ap, sym, subst, arith}
use Rattle.std.specs.Prelude.{IfSome}
use Rattle.desk_laws.specs.declared.item.Item.{Item}
use Rattle.record_format.specs.ItemFields.{item_read, IsSpelledBy}
use Rattle.record_format.proofs.ItemSpellingLemmas.{item_back, piece_small}
use Rattle.record_format.proofs.ReadItemLemmas.{item_spelled, item_ranged, RangesHold}
use Rattle.record_format.proofs.item.item_within.Goals as goal

pub returns-clause-known : goal.returns-clause-known
returns-clause-known c = λ item len rest fits is.
    c.read_fields.ensures ∙ ap (item_read c.args.guests c.args.pages) is ∙ item_back c.args.guests c.args.pages (omega arith) item len rest fits

pub returns-clause-spelled : goal.returns-clause-spelled
returns-clause-spelled c =
    subst (λ (r : Option (Item × ℕ)). IfSome r (IsSpelledBy c.args.guests c.args.pages c.args.bytes.now)) (sym c.read_fields.ensures)
    (item_spelled c.args.guests c.args.pages c.args.bytes.now (λ k. omega (arith, c.type_inv.bytes k)) c.requires)

if_small : (guests pages : ℕ) (r : Option (Item × ℕ)) → IfSome r (RangesHold guests pages) → IfSome r (λ found. found.1 ≤ 65536)
if_small guests pages None range = tt
if_small guests pages (Some found) range = piece_small guests pages found.0 found.1 range

pub returns-clause-small : goal.returns-clause-small
returns-clause-small c =
    subst (λ (r : Option (Item × ℕ)). IfSome r (λ found. found.1 ≤ 65536)) (sym c.read_fields.ensures)
    (if_small c.args.guests c.args.pages (item_read c.args.guests c.args.pages c.args.bytes.now) (item_ranged c.args.guests c.args.pages c.args.bytes.now))
