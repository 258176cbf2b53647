-- A session that has ended does nothing.
use Rattle.std.proofs.Common.{ap, ◌∙◌}
use Rattle.std.proofs.lemmas.Bool.{eqb-true}
use Rattle.desk_laws.specs.declared.cause.Cause.TheVariants.{StreamEnded, LinkFailed}
use Rattle.desk_laws.specs.declared.item.Item.TheVariants as item
use Rattle.desk_laws.specs.Scene.{Closing, Losing}
use Rattle.desk_laws.specs.State.{session_of, count_item}
use Rattle.desk_laws.specs.Steps.{bytes_of_open, end_of_open, store_of_open}
use Rattle.desk_laws.specs.Endings.{EndedDoesNothing}

-- an item of a session that has ended
pub ended-does_nothing : EndedDoesNothing
ended-does_nothing setup (item.Bytes g) piece guest cause state own over =
    ap (λ e. bytes_of_open setup g piece e (count_item state)) (ap (λ n. (session_of n state).ended) (eqb-true g guest own) ∙ over)
ended-does_nothing setup (item.Closed g) piece guest cause state own over =
    ap (λ e. end_of_open setup g Closing (StreamEnded 0 0) e (count_item state)) (ap (λ n. (session_of n state).ended) (eqb-true g guest own) ∙ over)
ended-does_nothing setup (item.Store g delay page offset) piece guest cause state own over =
    ap (λ e. store_of_open g delay page offset piece e (count_item state)) (ap (λ n. (session_of n state).ended) (eqb-true g guest own) ∙ over)
ended-does_nothing setup (item.Lost g) piece guest cause state own over =
    ap (λ e. end_of_open setup g Losing (LinkFailed 0 0) e (count_item state)) (ap (λ n. (session_of n state).ended) (eqb-true g guest own) ∙ over)
ended-does_nothing setup i piece guest cause state own over = cc
