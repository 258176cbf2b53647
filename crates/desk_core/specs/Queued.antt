-- What is handed on to the guests, as it waits to be carried out.
use Rattle.std.specs.Prelude.{◌≡◌, ◌<◌, List, [], ◌∷◌, ◌++◌, length}
use Rattle.desk_laws.specs.Grants.{FitsGrant}
use Rattle.desk_laws.specs.Scene as scene
use Rattle.desk_core.specs.declared.deliveries.Delivery.{Delivery}
use Rattle.desk_core.specs.declared.deliveries.Delivery.TheVariants.{Grant, Ask, Paste}

-- a delivery of the definitions
abbrev pub delivery_of : Delivery → scene.Delivery
delivery_of (Grant id input) = scene.Grants id input
delivery_of (Ask id) = scene.Asks id
delivery_of (Paste id) = scene.Pastes id

-- a session takes what is granted
abbrev pub FitsDelivery : scene.Delivery → Type 0
FitsDelivery (scene.Grants id input) = FitsGrant input
FitsDelivery (scene.Asks id) = Unit {0}
FitsDelivery (scene.Pastes id) = Unit {0}

-- a delivery was put behind those of a queue, where there was room for it
abbrev pub Queues : List scene.Delivery → scene.Delivery → List scene.Delivery → Type 0
Queues before d after = length before < 5 → after ≡ before ++ d ∷ []
