-- What leads from one outlet to another.
use Rattle.std.specs.Prelude.{◌≡◌, List, [], ◌∷◌}
use Rattle.desk_laws.specs.Scene.{Post}

-- the posts, one after the other, lead from the first outlet to the last
abbrev pub Leads : {O : Type 0} → (O → Post → O → Type 0) → O → List Post → O → Type 0
Leads takes a [] b = a ≡ b
Leads {O = O} takes a (post ∷ posts) b = (m : O) × takes a post m × Leads takes m posts b
