-- What the start of a wire makes of its feed, and what leaves a wire's parts as they were.
use Rattle.std.specs.Prelude.{◌≡◌, ℕ, [], length, Option, None, option_map, Result, Ok, Err}
use Rattle.desk_laws.specs.declared.setup.Setup.{Setup}
use Rattle.io_ports.specs.Feeds.{Coming}
use Rattle.io_ports.specs.declared.journal.StartFault.{StartFault}

-- no item, and no fault in which the items end
abbrev pub no_more : Coming
no_more = record { items = []; fate = None }

-- the numbers of guests and pages of a feed, and what it has left
pub record Supply : Type 0 where
  pub guests : ℕ
  pub pages : ℕ
  pub left : Option Coming

-- the feed has the setup's numbers of guests and pages
abbrev pub HasSetup : Setup → Supply → Type 0
HasSetup setup supply = (supply.guests ≡ length setup.guests) × (supply.pages ≡ setup.pages)

-- Started for a setup the feed has its numbers. What it has left stays where it had them before; else nothing is left.
-- A start that fails changes nothing.
abbrev pub StartsFor : {T : Type 0} → Setup → Result T StartFault → Supply → Supply → Type 0
StartsFor setup (Ok done) before after =
    HasSetup setup after
    × (HasSetup setup before → after.left ≡ before.left)
    × ((HasSetup setup before → ⊥) → after.left ≡ option_map (λ _. no_more) before.left)
StartsFor setup (Err fault) before after = after ≡ before

-- two feeds have the same left, as many guests and pages, and the same counts of items given and of faults
pub record SameFeed (before : Supply) (given faults : ℕ) (after : Supply) (given' faults' : ℕ) : Type 0 where
  pub same_supply : after ≡ before
  pub same_given : given' ≡ given
  pub same_faults : faults' ≡ faults
