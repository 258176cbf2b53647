use Rattle.std.proofs.Common.{◌≡◌, ◌∙◌, List, [], length, map, ap, arith, refl}
use Rattle.std.specs.Prelude.{slice_get}
use Rattle.desk_laws.specs.declared.setup.GuestSetup.{GuestSetup}
use Rattle.desk_laws.specs.Frames.{zeros}
use Rattle.desk_laws.specs.State.{opening}
use Rattle.desk_laws.proofs.RuleLemmas.{HasRanges, ranges-kept}
use Rattle.stacking.specs.Stacked.{Stacked}
use Rattle.clipboard_gate.specs.Kept.{keeping}
use Rattle.desk_laws.specs.Clipboard.{empty_clip}
use Rattle.guest_session.specs.SessionView.{SessionView}
use Rattle.desk_core.specs.WindowsView.{WindowsView}
use Rattle.desk_core.proofs.OpeningStands.{IsOpened, border-wide, label-at, opening-stands, opening-with}
use Rattle.desk_core.proofs.windows.Windows.open.Goals as goal

-- the desk that was made
abbrev made_desk : goal.In_ok-open_picture → WindowsView
made_desk c = record {
  border = c.args.setup.now.border;
  labels = c.in_ok-labels_of.field-0.items;
  sessions = c.in_ok-open_sessions.field-0.items;
  layers = c.in_ok-new.field-0.layers;
  gate = c.in_ok-new-2.field-0;
  denied = c.in_ok-pairs_of.field-0.items;
  items = 0;
  messages = 0;
  glances = 0;
  picture = c.in_ok-open_picture.field-0;
}

-- it has fresh sessions, and nothing on it
made : (c : goal.In_ok-open_picture) → IsOpened c.args.setup.now (made_desk c)
made c =
    let setup = c.args.setup.now in
    let ranges : HasRanges setup = ranges-kept setup c.requires in
    let labels : c.in_ok-labels_of.field-0.items ≡ map (λ g. g.colour) setup.guests = c.in_ok-labels_of.ensures ∙ ap (λ (gs : List GuestSetup). map (λ g. g.colour) gs) c.items-guests.ensures in
    record {
      numbers = record {
        width = c.in_ok-open_picture.ensures.numbers.0;
        height = c.in_ok-open_picture.ensures.numbers.1;
        background = c.in_ok-open_picture.ensures.numbers.2;
        outputs = c.in_ok-open_picture.ensures.numbers.3;
        border = refl;
        denied = c.in_ok-pairs_of.ensures ∙ c.items.ensures;
        labels = λ guest below. ap (λ ls. slice_get ls guest) labels ∙ label-at setup.guests guest below;
        wide = border-wide setup c.requires;
        narrow = ranges.narrow;
        most_columns = ranges.wide;
        most_rows = ranges.high;
        guests = c.in_ok-open_sessions.ensures.count;
        some = ranges.some;
        few = ranges.few;
      };
      sessions = c.in_ok-open_sessions.ensures.fresh;
      layers = ap (λ (s : Stacked). s.layers) c.in_ok-new.ensures;
      gate = c.in_ok-new-2.ensures ∙ ap (λ limit. keeping limit empty_clip) c.clip_limit.ensures;
      items = refl;
      messages = refl;
      glances = refl;
    }

pub invariant_of-result : goal.invariant_of-result
invariant_of-result c =
    let rows = ap (λ (s : Stacked). s.rows) c.in_ok-new.ensures in
    let guests = ap (λ (gs : List GuestSetup). length gs) c.items-guests.ensures in (
      record {
        setup = c.args.setup.now;
        held = λ guest. [];
        frames = λ guest. zeros c.args.setup.now.pages;
        state = opening c.args.setup.now;
        stands = opening-with c.args.setup.now (λ guest. []) (made_desk c) (λ guest. zeros c.args.setup.now.pages) (λ guest below. refl) (made c) (λ guest below. refl);
        roomy = omega (arith, rows, guests, c.in_ok-open_sessions.ensures.count);
      },
      omega (arith, rows, c.in_ok-with_capacity.ensures.capacity),
    )

pub returns-clause-stands : goal.returns-clause-stands
returns-clause-stands c = λ frames blank. opening-stands c.args.setup.now (made_desk c) frames blank (made c)

pub returns-clause-pages : goal.returns-clause-pages
returns-clause-pages c =
    let ranges : HasRanges c.args.setup.now = ranges-kept c.args.setup.now c.requires in
    ap (λ (s : SessionView). s.sizes.pages) (c.in_ok-open_sessions.ensures.fresh 0 (omega (arith, ranges.some))).new
