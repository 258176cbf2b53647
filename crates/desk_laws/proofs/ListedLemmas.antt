-- The rows of a scene are of different windows, and the lists of its layers have the mapped ones.
use Rattle.std.proofs.Common.{◌≡◌, ℕ, true, List, [], ◌∷◌, ◌++◌, map, Option, Some, None, refl, sym, ◌∙◌, ap, subst}
use Rattle.desk_laws.specs.declared.setup.Setup.{Setup}
use Rattle.desk_laws.specs.declared.cause.Cause.{Cause}
use Rattle.desk_laws.specs.Sizes.{Sizes, sizes_of}
use Rattle.desk_laws.specs.Stream.{StreamUnit, Cut, cut}
use Rattle.desk_laws.specs.Rows.{Row, id_of, mine}
use Rattle.desk_laws.specs.Layers.{are_apart, followed}
use Rattle.desk_laws.specs.Scene.{Scene, Input, Took}
use Rattle.desk_laws.specs.Frames.{Loads, load_all}
use Rattle.desk_laws.specs.Settle.{settle}
use Rattle.desk_laws.specs.Effects.{Effect, Verdict, Ends, Greets, Goes, Reads, verdict, carried_out, changed, Replaced, drawn_row, frame_places, points}
use Rattle.desk_laws.specs.State.{DeskState, StepOutcome, session_of}
use Rattle.desk_laws.specs.Steps.{take_unit, take_units, take_bytes, end_session, unit_done, unit_of_open, unit_told, end_told, went, ends, with_rest, rest_of_open, bytes_of_open, end_of_open}
use Rattle.desk_laws.specs.Following.{LayersFollow}
use Rattle.desk_laws.proofs.ChangeLemmas.{IsOfOne, window_of_unit, of_unit}
use Rattle.desk_laws.proofs.FollowLemmas.{lists-follow}
use Rattle.desk_laws.proofs.FollowChanges.{lists-follow_one, lists-follow_end, replaced-ids}
use Rattle.desk_laws.proofs.SettleLemmas.{settle-rows, settle-follow}
use Rattle.desk_laws.proofs.UnitLemmas.{effect_of}

-- no two rows have one id, and the lists have the mapped rows
pub record AreListed (scene : Scene) : Type 0 where
  pub apart : are_apart (map id_of scene.rows) ≡ true
  pub lists : LayersFollow scene.rows scene.layers

-- settling keeps that
settled-listed : (sizes : Sizes) (scene : Scene) → AreListed scene → AreListed (settle sizes scene).scene
settled-listed sizes scene is = record {
  apart = ap (λ rows. are_apart (map id_of rows)) (settle-rows sizes scene) ∙ is.apart;
  lists = settle-follow sizes scene is.lists;
}

module _ (setup : Setup) (guest : ℕ) where
  -- the rows of a unit with the lists that follow them, settled
  unit-settled : (unit : StreamUnit) (e : Effect) (desk : DeskState) → are_apart (map id_of e.rows) ≡ true → LayersFollow e.rows (followed e.rows desk.scene.layers)
      → AreListed (went setup guest unit e desk).desk.scene
  unit-settled unit e desk apart lists =
      settled-listed (sizes_of setup) (unit_told (sizes_of setup).clip_limit guest unit e desk.scene).scene (record { apart = apart; lists = lists })

  ends-listed : (input : Input) (cause : Cause) (desk : DeskState) → AreListed desk.scene → AreListed (ends setup guest input cause desk).desk.scene
  ends-listed input cause desk is =
      let f = lists-follow_end guest desk.scene.rows desk.scene.layers is.apart is.lists in
      settled-listed (sizes_of setup) (end_told guest input cause desk.scene).scene (record { apart = f.apart; lists = f.follow })

  -- what a verdict does
  abbrev pub done : StreamUnit → DeskState → Verdict → StepOutcome
  done unit desk v =
      let e = carried_out guest (session_of guest desk).minor desk.scene.rows (session_of guest desk).port v in
      unit_done setup guest unit e e.cause desk

  pub verdict-listed : (unit : StreamUnit) (window : ℕ) (desk : DeskState) (v : Verdict) → IsOfOne window (mine guest desk.scene.rows) v → AreListed desk.scene
      → AreListed (done unit desk v).desk.scene
  verdict-listed unit window desk (Ends cause) one is = ends-listed (Took unit) cause desk is
  verdict-listed unit window desk (Greets minor answers) one is =
      unit-settled unit (effect_of guest desk (Greets minor answers)) desk is.apart (lists-follow desk.scene.rows desk.scene.layers is.apart is.lists.once)
  verdict-listed unit window desk (Goes change answers) one is =
      let f = lists-follow_one guest window change desk.scene.rows desk.scene.layers is.apart is.lists one in
      unit-settled unit (effect_of guest desk (Goes change answers)) desk f.apart f.follow
  verdict-listed unit window desk (Reads row area) one is =
      let g : Loads = load_all (session_of guest desk).port (frame_places row.dump (points area)) in
      let rows : List Row = changed guest (Replaced (drawn_row row area g.words)) desk.scene.rows in
      let apart : are_apart (map id_of rows) ≡ true = ap are_apart (replaced-ids guest (drawn_row row area g.words) desk.scene.rows) ∙ is.apart in
      unit-settled unit (effect_of guest desk (Reads row area)) desk apart (lists-follow rows desk.scene.layers apart is.lists.once)

  pub unit-listed : (unit : StreamUnit) (desk : DeskState) → AreListed desk.scene → AreListed (take_unit setup guest unit desk).desk.scene
  unit-listed unit desk is = by_end (session_of guest desk).ended
    where
      by_end : (e : Option Cause) → AreListed (unit_of_open setup guest unit e desk).desk.scene
      by_end None =
          verdict-listed unit (window_of_unit unit) desk (verdict (sizes_of setup) guest (session_of guest desk).minor (mine guest desk.scene.rows) unit)
          (of_unit (sizes_of setup) guest (session_of guest desk).minor (mine guest desk.scene.rows) unit) is
      by_end (Some cause) = is

  pub units-listed : (units : List StreamUnit) (desk : DeskState) → AreListed desk.scene → AreListed (take_units setup guest units desk).desk.scene
  units-listed [] desk is = is
  units-listed (u ∷ units) desk is = units-listed units (take_unit setup guest u desk).desk (unit-listed u desk is)

  pub rest-scene : (rest : List ℕ) (desk : DeskState) → (with_rest guest rest desk).scene ≡ desk.scene
  rest-scene rest desk = by_end (session_of guest desk).ended
    where
      by_end : (e : Option Cause) → (rest_of_open guest rest e desk).scene ≡ desk.scene
      by_end None = refl
      by_end (Some cause) = refl

  pub bytes-listed : (piece : List ℕ) (desk : DeskState) → AreListed desk.scene → AreListed (take_bytes setup guest piece desk).desk.scene
  bytes-listed piece desk is = by_end (session_of guest desk).ended
    where
      c : Cut
      c = cut (session_of guest desk).greeted ((session_of guest desk).rest ++ piece)

      by_end : (e : Option Cause) → AreListed (bytes_of_open setup guest piece e desk).desk.scene
      by_end None = units-listed c.units (with_rest guest c.rest desk) (subst (λ s. AreListed s) (sym (rest-scene c.rest desk)) is)
      by_end (Some cause) = is

  pub end-listed : (input : Input) (cause : Cause) (desk : DeskState) → AreListed desk.scene → AreListed (end_session setup guest input cause desk).desk.scene
  end-listed input cause desk is = by_end (session_of guest desk).ended
    where
      by_end : (e : Option Cause) → AreListed (end_of_open setup guest input cause e desk).desk.scene
      by_end None = ends-listed input cause desk is
      by_end (Some c) = is
