use Rattle.std.proofs.Common.{◌≡◌, ◌≤◌, true, length, List, ◌++◌, sym, subst}
use Rattle.std.specs.List.{list_all}
use Rattle.std.proofs.lemmas.Result.{on_err_weaker}
use Rattle.io_ports.proofs.GrowLemmas.{part_behind, part_front}
use Rattle.desk_laws.specs.declared.setup.Pair.{Pair}
use Rattle.desk_laws.specs.Rules.{is_pair}
use Rattle.record_format.specs.Config.{outputs_spelling, clipboard_spelling, later_spelling}
use Rattle.record_format.proofs.SetupLemmas.{fits_of, few_pairs, pairs_of_more}
use Rattle.record_format.proofs.config_out.put_later.Goals as goal

pub put_clipboard-requires-clause-few : goal.put_clipboard-requires-clause-few
put_clipboard-requires-clause-few g c =
    let s = c.args.setup.now in
    let fits = fits_of s c.requires in
    subst (λ (l : List Pair). length l ≤ 255) (sym c.items-in-Ok.ensures) (few_pairs (length s.guests) s.denied fits.guests fits.later.pairs fits.later.rising)

pub put_clipboard-requires-clause-pairs : goal.put_clipboard-requires-clause-pairs
put_clipboard-requires-clause-pairs g c =
    let s = c.args.setup.now in
    let fits = fits_of s c.requires in
    subst (λ (l : List Pair). list_all (is_pair 256) l ≡ true) (sym c.items-in-Ok.ensures) (pairs_of_more (length s.guests) s.denied fits.guests fits.later.pairs)

pub returns-in-Ok-clause-err : goal.returns-in-Ok-clause-err
returns-in-Ok-clause-err g c =
    let v = c.args.version in
    let s = c.args.setup.now in
    let same : outputs_spelling v c.items.result.now ++ clipboard_spelling v s.clip c.items-in-Ok.result.now ≡ later_spelling v s =
    (λ i. outputs_spelling v (c.items.ensures i) ++ clipboard_spelling v s.clip (c.items-in-Ok.ensures i)) in
    on_err_weaker c.put_clipboard.result (λ part. part_behind _ _ _ (outputs_spelling v c.items.result.now) (clipboard_spelling v s.clip c.items-in-Ok.result.now) _ c.in-Ok.ensures.ok part same)
    c.put_clipboard.ensures.err

pub returns-in-Err-clause-err : goal.returns-in-Err-clause-err
returns-in-Err-clause-err g c =
    let v = c.args.version in
    let s = c.args.setup.now in
    part_front _ _ (outputs_spelling v c.items.result.now) _ c.in-Err.ensures.err
    (clipboard_spelling v s.clip s.denied, (λ i. outputs_spelling v (c.items.ensures i) ++ clipboard_spelling v s.clip s.denied))
