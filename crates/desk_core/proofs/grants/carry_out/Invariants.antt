use Rattle.std.proofs.Common.{◌≡◌, ℕ, take, map}
use Rattle.desk_laws.specs.Scene.{Scene, deliver_all}
use Rattle.clipboard_gate.specs.Kept.{keeping}
use Rattle.desk_core.specs.Queued.{delivery_of}
use Rattle.desk_core.specs.Scenes.{Delivered, HasRowsOf, KeepSessions}
use Rattle.desk_core.proofs.grants.carry_out.Given as goal

abbrev pub invariant-loop-delivery : goal.invariant-loop-delivery
invariant-loop-delivery g l = record {
  kept : KeepSessions l.fn.sessions l.sessions;
  limit : l.gate.limit ≡ l.fn.gate.limit;
  delivers : (most : ℕ) (scene : Scene) → HasRowsOf l.fn.sessions scene → l.fn.gate ≡ keeping most scene.clip
      → Delivered g.O.Outlet.takes l.fn.out l.out l.sessions most l.gate (deliver_all l.denied (map delivery_of (take l.delivery-index l.delivery-items)) scene);
}
