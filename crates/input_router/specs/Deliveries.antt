-- What leads from one deliverer to another.
use Rattle.std.specs.Prelude.{◌≡◌, List, [], ◌∷◌}
use Rattle.desk_laws.specs.Scene.{Delivery}

-- the deliveries, one after the other, lead from the first deliverer to the last
abbrev pub Leads : {V : Type 0} → (V → Delivery → V → Type 0) → V → List Delivery → V → Type 0
Leads delivers a [] b = a ≡ b
Leads {V = V} delivers a (d ∷ deliveries) b = (m : V) × delivers a d m × Leads delivers m deliveries b
