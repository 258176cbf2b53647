-- What an outlet took of replies.
use Rattle.std.proofs.Common.{◌≡◌, ℕ, ◌≤◌, List, [], ◌∷◌, refl, sym, ap, subst}
use Rattle.std.specs.Prelude.{if◌then◌else◌}
use Rattle.std.proofs.lemmas.Bool.{le-leb}
use Rattle.gui_wire.specs.DaemonMessages as daemon
use Rattle.gui_wire.specs.DaemonMessages.{daemon_spelling}
use Rattle.desk_laws.specs.Effects.{acks}
use Rattle.desk_laws.specs.Scene.{Post, Reply, replies}
use Rattle.io_ports.specs.Posts.{Leads}

-- an acknowledgement, for an agent that knows it
pub acknowledged : {O : Type 0} (takes : O → Post → O → Type 0) (a b : O) (guest minor window : ℕ) → 7 ≤ minor
    → takes a (Reply guest (daemon_spelling window daemon.DumpAck)) b → Leads takes a (replies guest (acks minor window)) b
acknowledged takes a b guest minor window knows told =
    let e : acks minor window ≡ daemon_spelling window daemon.DumpAck ∷ [] =
    ap (λ t. if t then daemon_spelling window daemon.DumpAck ∷ [] else []) (le-leb 7 minor knows) in
    let P : List (List ℕ) → Type 0 = λ answers. Leads takes a (replies guest answers) b in
    subst P (sym e) (b, told, refl)
