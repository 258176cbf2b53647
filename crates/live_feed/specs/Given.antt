-- What the sockets give: items in range, and counts of bytes.
use Rattle.std.specs.Prelude.{◌≤◌, ℕ, Option, Result, IfOk, IfSome}
use Rattle.desk_laws.specs.Items.{FitsItem}
use Rattle.io_ports.specs.declared.feed.Next.{Next}
use Rattle.live_feed.specs.declared.socket.Got.{Got}
use Rattle.live_feed.specs.declared.socket.Got.TheVariants.{Bytes, Nothing, Over, Failed}

-- an item that is given is in range for so many guests and pages
abbrev pub GivesFit : {E : Type 0} → ℕ → ℕ → Result (Option Next) E → Type 0
GivesFit guests pages result = IfOk result (λ found. IfSome found (λ next. FitsItem guests pages next.item next.len))

-- so many bytes were read: some, and no more than there is room for
abbrev pub ReadsSome : ℕ → Got → Type 0
ReadsSome room (Bytes n) = (1 ≤ n) × (n ≤ room)
ReadsSome room Nothing = Unit {0}
ReadsSome room Over = Unit {0}
ReadsSome room Failed = Unit {0}
