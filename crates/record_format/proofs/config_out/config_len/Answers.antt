use Rattle.std.proofs.Common.{◌≡◌, ◌≤◌, ◌+◌, ◌*◌, ◌∙◌, List, length, ap, sym, arith}
use Rattle.std.specs.List.{sum_by}
use Rattle.desk_laws.specs.declared.setup.GuestSetup.{GuestSetup}
use Rattle.desk_laws.specs.declared.setup.Pair.{Pair}
use Rattle.gui_num.specs.declared.Rect.{Rect}
use Rattle.record_format.specs.Config.{len_in, outputs_len, clipboard_len}
use Rattle.record_format.proofs.SetupLemmas.{fits_of, few_pairs}
use Rattle.record_format.proofs.ConfigLemmas.{config_size}
use Rattle.record_format.proofs.RecordLemmas.{outputs_small, clipboard_small}
use Rattle.record_format.proofs.config_out.config_len.Goals as goal

pub outputs_len-outputs-requires : goal.outputs_len-outputs-requires
outputs_len-outputs-requires c =
    let fits = fits_of c.args.setup.now c.requires in
    let same : length c.items.result.now ≡ length c.args.setup.now.outputs = ap length c.items.ensures in
    omega (arith, same, fits.later.outputs)

pub clipboard_len-clipboard-requires : goal.clipboard_len-clipboard-requires
clipboard_len-clipboard-requires c =
    let s = c.args.setup.now in
    let fits = fits_of s c.requires in
    let few = few_pairs (length s.guests) s.denied fits.guests fits.later.pairs fits.later.rising in
    let same : length c.items-2.result.now ≡ length s.denied = ap length c.items-2.ensures in
    omega (arith, same, few)

pub returns-clause-spelled : goal.returns-clause-spelled
returns-clause-spelled c =
    let s = c.args.setup.now in
    let v = c.version_of-version.result in
    let front : c.front_len.result ≡ 34 + sum_by (λ g. 5 + length g.name) s.guests = c.front_len.ensures.len ∙ ap (λ (l : List GuestSetup). 34 + sum_by (λ g. 5 + length g.name) l) c.items-3.ensures in
    let outputs : c.outputs_len-outputs.result ≡ outputs_len v (length s.outputs) = c.outputs_len-outputs.ensures ∙ ap (λ (l : List Rect). outputs_len v (length l)) c.items.ensures in
    let clipboard : c.clipboard_len-clipboard.result ≡ clipboard_len v (length s.denied) = c.clipboard_len-clipboard.ensures ∙ ap (λ (l : List Pair). clipboard_len v (length l)) c.items-2.ensures in
    (λ i. front i + (outputs i + clipboard i)) ∙ (λ i. len_in (c.version_of-version.ensures i) s) ∙ sym (config_size s)

pub returns-clause-small : goal.returns-clause-small
returns-clause-small c =
    let s = c.args.setup.now in
    let v = c.version_of-version.result in
    let fits = fits_of s c.requires in
    let outputs : c.outputs_len-outputs.result ≡ outputs_len v (length s.outputs) = c.outputs_len-outputs.ensures ∙ ap (λ (l : List Rect). outputs_len v (length l)) c.items.ensures in
    let clipboard : c.clipboard_len-clipboard.result ≡ clipboard_len v (length s.denied) = c.clipboard_len-clipboard.ensures ∙ ap (λ (l : List Pair). clipboard_len v (length l)) c.items-2.ensures in
    let guests : length c.items-3.result.now ≡ length s.guests = ap length c.items-3.ensures in
    let front : c.front_len.result ≤ 34 + 260 * length c.items-3.result.now = c.front_len.ensures.small in
    omega (
      arith,
      front,
      guests,
      fits.guests,
      outputs,
      clipboard,
      outputs_small v (length s.outputs) fits.later.outputs,
      clipboard_small v (length s.denied) (few_pairs (length s.guests) s.denied fits.guests fits.later.pairs fits.later.rising),
    )
