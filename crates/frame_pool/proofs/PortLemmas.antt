-- What calls on a port leave as it was, one after the other.
use Rattle.std.proofs.Common.{ℕ, ◌∙◌, refl}
use Rattle.desk_laws.specs.Frames.{PortState}
use Rattle.frame_pool.specs.Ports.{ChangesFrames, KeepsExtent}

module _ {P : Type 0} {guests_of pages_of : P → ℕ} where
  -- where nothing changed
  pub extent-kept : (a : P) → KeepsExtent guests_of pages_of a a
  extent-kept a = record { guests = refl; pages = refl }

  -- what is kept twice is kept
  pub extent-kept_twice : {a b c : P} → KeepsExtent guests_of pages_of a b → KeepsExtent guests_of pages_of b c → KeepsExtent guests_of pages_of a c
  extent-kept_twice first second = record { guests = second.guests ∙ first.guests; pages = second.pages ∙ first.pages }

module _ {P : Type 0} {guests_of pages_of : P → ℕ} {state_of : P → ℕ → PortState} {guest : ℕ} where
  pub frames-unchanged : (a : P) → ChangesFrames guests_of pages_of state_of guest a a
  frames-unchanged a = record { others = λ other apart. refl; extent = extent-kept a }

  pub frames-changed_twice : {a b c : P} → ChangesFrames guests_of pages_of state_of guest a b → ChangesFrames guests_of pages_of state_of guest b c → ChangesFrames guests_of pages_of state_of guest a c
  frames-changed_twice first second = record {
    others = λ other apart. second.others other apart ∙ first.others other apart;
    extent = extent-kept_twice first.extent second.extent;
  }
