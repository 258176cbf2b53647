-- What a feed answers, and what it has left.
use Rattle.std.specs.Prelude.{◌≡◌, ℕ, ◌+◌, List, [], ◌∷◌, take, Option, Some, None, Result, Ok, Err}
use Rattle.desk_laws.specs.Items.{FedItem}
use Rattle.desk_laws.specs.Frames.{counted}
use Rattle.desk_laws.specs.declared.item.Item.TheVariants.{End}
use Rattle.io_ports.specs.declared.feed.Next.{Next}
use Rattle.io_ports.specs.declared.feed.FeedFault.{FeedFault}
use Rattle.io_ports.specs.declared.feed.FeedFault.TheVariants.{Failed, Bad}
use Rattle.io_ports.specs.declared.feed.RecordFault.{RecordFault}

-- an item with its bytes, or why there is none
abbrev pub Answer : Type 0
Answer = Result FedItem FeedFault

-- the answer of a call, with the bytes that it put into the room
abbrev pub answer_of : Result Next FeedFault → List ℕ → Answer
answer_of (Ok next) room = Ok (record { item = next.item; piece = take next.len room })
answer_of (Err fault) room = Err fault

-- the items that are left, and the fault in which they end, where they don't end well
pub record Coming : Type 0 where
  pub items : List FedItem
  pub fate : Option RecordFault

-- End, which is given where no item is left
abbrev pub end_of_items : FedItem
end_of_items = record { item = End; piece = [] }

-- the answer is the first item left, and the others are left; where none is left it is the fate, or End
abbrev pub ComesFirst : List FedItem → Option RecordFault → Answer → Option Coming → Type 0
ComesFirst items fate (Err Failed) after = Unit {0}
ComesFirst (first ∷ items) fate (Ok given) after = (given ≡ first) × (after ≡ Some (record { items = items; fate = fate }))
ComesFirst (first ∷ items) fate (Err (Bad fault)) after = ⊥
ComesFirst [] None (Ok given) after = (given ≡ end_of_items) × (after ≡ Some (record { items = []; fate = None }))
ComesFirst [] None (Err (Bad fault)) after = ⊥
ComesFirst [] (Some f) (Ok given) after = ⊥
ComesFirst [] (Some f) (Err (Bad fault)) after = (fault ≡ f) × (after ≡ Some (record { items = []; fate = Some f }))

-- what a feed answers, by what it has left
abbrev pub ComesNext : Coming → Answer → Option Coming → Type 0
ComesNext coming answer after = ComesFirst coming.items coming.fate answer after

-- how many items were given once this was answered
abbrev pub given_after : Result Next FeedFault → ℕ → ℕ
given_after (Ok next) given = counted (given + 1)
given_after (Err fault) given = given
