use Rattle.std.proofs.Common.{refl, sym}
use Rattle.desk_laws.specs.Frames.{zeros}
use Rattle.desk_laws.specs.State.{opening}
use Rattle.desk_laws.proofs.SettledLemmas.{opening-settled}
use Rattle.desk_laws.proofs.SoundLemmas.{opening-is_sound}
use Rattle.desk_core.specs.WindowsStand.{rests_of}
use Rattle.desk_core.proofs.desk.Desk.open.Goals as goal

pub invariant_of-result : goal.invariant_of-result
invariant_of-result c =
    let setup = c.args.setup.now in
    let rests = c.in_ok-open.ensures.stands (λ guest. zeros setup.pages) (λ guest below. refl) in
    record {
      setup = setup;
      held = rests_of (opening setup);
      frames = λ guest. zeros setup.pages;
      state = opening setup;
      stands = rests.with_rest;
      seated = record { same = sym c.new.ensures; settled = opening-settled setup };
    }

pub returns-clause-stands : goal.returns-clause-stands
returns-clause-stands c = λ frames blank.
    let setup = c.args.setup.now in
    record {
      windows = c.in_ok-open.ensures.stands frames blank;
      seated = record { same = sym c.new.ensures; settled = opening-settled setup };
      sound = opening-is_sound setup;
    }
