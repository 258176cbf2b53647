-- What an item of one guest leaves of the others.
use Rattle.std.proofs.Common.{◌≡◌, ◌≢◌, ℕ, true, ◌==◌, List, Option, Some, None, refl, ◌∙◌, ap}
use Rattle.std.proofs.lemmas.Bool.{eqb-true}
use Rattle.std.proofs.lemmas.List.{get_or-set_other}
use Rattle.desk_laws.specs.declared.cause.Cause.{Cause}
use Rattle.desk_laws.specs.declared.cause.Cause.TheVariants.{StreamEnded, LinkFailed}
use Rattle.desk_laws.specs.declared.item.Item.TheVariants as item
use Rattle.desk_laws.specs.Frames.{store}
use Rattle.desk_laws.specs.Rows.{mine}
use Rattle.desk_laws.specs.Scene.{Scene, Closing, Losing}
use Rattle.desk_laws.specs.State.{DeskState, Session, fresh, session_of, count_item}
use Rattle.desk_laws.specs.Steps.{take_store, store_of_open}
use Rattle.desk_laws.specs.Others.{OthersStay}
use Rattle.desk_laws.proofs.EndLemmas.{bytes-other, end-other}
use Rattle.desk_laws.proofs.SoundLemmas.{bytes-keep, end-keeps, stored-scene}

-- a change of one guest's frames leaves the sessions of the others
store-other : (guest other : ℕ) → other ≢ guest → (delay page offset : ℕ) (bytes : List ℕ) (desk : DeskState)
    → session_of other (take_store guest delay page offset bytes desk).desk ≡ session_of other desk
store-other guest other apart delay page offset bytes desk = by_end (session_of guest desk).ended
  where
    by_end : (e : Option Cause) → session_of other (store_of_open guest delay page offset bytes e desk).desk ≡ session_of other desk
    by_end None =
        let stored : Session = record (session_of guest desk) { port = store (session_of guest desk).port delay page offset bytes } in
        get_or-set_other desk.sessions guest other stored (fresh 0) apart
    by_end (Some c) = refl

other-than : (guest g other : ℕ) → (g == guest) ≡ true → other ≢ guest → other ≢ g
other-than guest g other own apart = λ same. apart (same ∙ eqb-true g guest own)

pub others-stay : OthersStay
others-stay setup (item.Bytes g) piece guest other state own apart =
    let far = other-than guest g other own apart in
    record { rows = bytes-keep setup g other far piece (count_item state); session = bytes-other setup g other far piece (count_item state) }
others-stay setup (item.Closed g) piece guest other state own apart =
    let far = other-than guest g other own apart in
    record {
      rows = end-keeps setup g other far Closing (StreamEnded 0 0) (count_item state);
      session = end-other setup g other far Closing (StreamEnded 0 0) (count_item state);
    }
others-stay setup (item.Lost g) piece guest other state own apart =
    let far = other-than guest g other own apart in
    record {
      rows = end-keeps setup g other far Losing (LinkFailed 0 0) (count_item state);
      session = end-other setup g other far Losing (LinkFailed 0 0) (count_item state);
    }
others-stay setup (item.Store g delay page offset) piece guest other state own apart =
    let far = other-than guest g other own apart in
    record {
      rows = ap (λ (s : Scene). mine other s.rows) (stored-scene g delay page offset piece (session_of g state).ended (count_item state));
      session = store-other g other far delay page offset piece (count_item state);
    }
others-stay setup i piece guest other state own apart = absurd (cc)
