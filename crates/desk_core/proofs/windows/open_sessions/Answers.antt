use Rattle.std.proofs.Common.{◌∙◌, ℕ, ◌+◌, ◌<◌, ◌∷◌, [], List, length, length-append, ap, arith, subst, sym}
use Rattle.std.specs.Prelude.{slice_index_or}
use Rattle.guest_session.specs.SessionView.{SessionView}
use Rattle.desk_core.specs.WindowsView.{no_session}
use Rattle.desk_core.specs.WindowsStand.{IsFresh}
use Rattle.desk_core.proofs.OpeningStands.{fresh-more}
use Rattle.desk_core.proofs.windows.open_sessions.Goals as goal

pub loop-guest-preserved : goal.loop-guest-preserved
loop-guest-preserved c =
    let done = c.loop-guest.invariant in
    let pushed = c.push_reserved.ensures in
    let next = c.in_ok-open.field-0 in
    let P : List SessionView → Type 0 = λ ss. (guest : ℕ) → guest < c.loop-guest.guest + 1 → IsFresh c.args.setup.now guest (slice_index_or ss guest no_session) in
    record {
      count = ap length pushed.items ∙ (length-append c.loop-guest.sessions.items (next ∷ []) ∙ ap (λ n. n + 1) done.count);
      room = omega (arith, pushed.capacity, done.room);
      fresh = subst P (sym pushed.items)
          (fresh-more c.args.setup.now c.loop-guest.sessions.items next c.loop-guest.guest done.count done.fresh
          (record { new = c.in_ok-open.ensures.fresh; greeted = c.in_ok-open.ensures.greeted; stands = c.in_ok-open.ensures.stands }));
    }
