-- What the user sees and touches is told in posts that have records.
use Rattle.std.proofs.Common.{◌≡◌, ◌≢◌, ◌<◌, ◌≤◌, ◌^◌, ℕ, Bool, true, false, List, [], ◌∷◌, length, Option, Some, None, is_some, refl, ◌∙◌, arith}
use Rattle.std.specs.Prelude.{if◌then◌else◌, nat_lt}
use Rattle.std.proofs.lemmas.Bool.Decides.{nat_tests}
use Rattle.std.proofs.lemmas.List.Elements.{All-append}
use Rattle.gui_wire.specs.declared.limits.TheConstants.{MAX_CLIPBOARD_DATA}
use Rattle.desk_laws.specs.declared.row_id.RowId.{RowId}
use Rattle.desk_laws.specs.declared.input.GIn.{GIn}
use Rattle.desk_laws.specs.declared.input.GIn.TheVariants.{ClipAsk, ClipGive}
use Rattle.desk_laws.specs.declared.setup.Pair.{Pair}
use Rattle.desk_laws.specs.Pairs.{denies}
use Rattle.desk_laws.specs.Sizes.{Sizes}
use Rattle.desk_laws.specs.Rows.{Row, mine, row_with, row_at}
use Rattle.desk_laws.specs.Clipboard.{Content, ask, wiped}
use Rattle.desk_laws.specs.Grants.{granted, granted_by, granted_to, grant_change, window_of}
use Rattle.desk_laws.specs.Scene.{Scene, SceneOutcome, unchanged, and_then, grant, grant_where, with_clip, Delivery, Grants, Asks, Pastes, pastes, deliver, deliver_all, InputOutcome, scene_of_input, perform}
use Rattle.desk_laws.specs.Settle.{settled, settle, grab_checked}
use Rattle.desk_laws.proofs.OtherLemmas.{others-keep_rows}
use Rattle.output_laws.proofs.AnswerLengths.{AreShort, none-short, grant-short}
use Rattle.output_laws.proofs.PostRecords.{HasRecord, RecordAll, nothing-recorded, replies-recorded}

-- what is held, if anything is, has at most so many bytes
abbrev pub HoldsAtMost : ℕ → Option Content → Type 0
HoldsAtMost limit None = Unit {0}
HoldsAtMost limit (Some content) = length content.bytes ≤ limit

-- only so many guests have rows, and the clipboard holds at most so many bytes
pub record IsKept (guests limit : ℕ) (scene : Scene) : Type 0 where
  pub rows : (guest : ℕ) → guests ≤ guest → mine guest scene.rows ≡ []
  pub clip : HoldsAtMost limit scene.clip.content

-- so it is in the scene that this led to, and the posts on the way have records
pub record KeepsScene (guests limit painted : ℕ) (outcome : SceneOutcome) : Type 0 where
  pub scene : IsKept guests limit outcome.scene
  pub posts : RecordAll painted outcome.posts

-- ---- who has a row

-- a guest whose row is there has rows
row-there : (id : RowId) (rows : List Row) → is_some (row_at id rows) ≡ true → mine id.guest rows ≡ [] → ⊥
row-there id [] e none = cc
row-there id (row ∷ rows) e none = grind (arith, nat_tests, row-there id rows)

-- so it is one of the guests that have rows
pub row-below : (guests : ℕ) (id : RowId) (rows : List Row) → ((guest : ℕ) → guests ≤ guest → mine guest rows ≡ []) → is_some (row_at id rows) ≡ true
    → id.guest < guests
row-below guests id rows gone there = by_test (nat_lt id.guest guests) refl
  where
    by_test : (b : Bool) → nat_lt id.guest guests ≡ b → id.guest < guests
    by_test true e = grind (arith, nat_tests, e)
    by_test false e =
        let far : guests ≤ id.guest = grind (arith, nat_tests, e) in
        absurd (row-there id rows there (gone id.guest far))

-- a guest that isn't there is another than one that is
pub apart-from : (guests guest other : ℕ) → guest < guests → guests ≤ other → other ≢ guest
apart-from guests guest other below far = λ same. absurd (omega (arith, below, far, same))

-- a grant changes no other guest's rows
grant-others : (guest other : ℕ) → other ≢ guest → (rows : List Row) (input : GIn) (paste : List ℕ) → mine other (granted guest rows input paste).rows ≡ mine other rows
grant-others guest other apart rows input paste = by_window (window_of input)
  where
    by_row : (o : Option Row) → mine other (granted_to guest rows input paste o).rows ≡ mine other rows
    by_row None = refl
    by_row (Some row) = others-keep_rows guest other (grant_change input row) rows apart

    by_window : (o : Option ℕ) → mine other (granted_by guest rows input paste o).rows ≡ mine other rows
    by_window None = refl
    by_window (Some window) = by_row (row_with window (mine guest rows))

-- what it answers is short
granted-short : (guest : ℕ) (rows : List Row) (input : GIn) (paste : List ℕ) → length paste ≤ MAX_CLIPBOARD_DATA → AreShort (granted guest rows input paste).answers
granted-short guest rows input paste fits = by_window (window_of input)
  where
    by_row : (o : Option Row) → AreShort (granted_to guest rows input paste o).answers
    by_row None = none-short
    by_row (Some row) = grant-short input paste fits

    by_window : (o : Option ℕ) → AreShort (granted_by guest rows input paste o).answers
    by_window None = grant-short input paste fits
    by_window (Some window) = by_row (row_with window (mine guest rows))

-- ---- what is handed on

module _ (guests limit painted : ℕ) (few : guests ≤ 2 ^ 8) (least : limit ≤ MAX_CLIPBOARD_DATA) where
  stays-kept : (scene : Scene) → IsKept guests limit scene → KeepsScene guests limit painted (unchanged scene)
  stays-kept scene kept = record { scene = kept; posts = nothing-recorded painted }

  -- one thing and then another
  pub then-kept : (before : SceneOutcome) (next : Scene → SceneOutcome) → KeepsScene guests limit painted before
      → (IsKept guests limit before.scene → KeepsScene guests limit painted (next before.scene)) → KeepsScene guests limit painted (and_then before next)
  then-kept before next first later =
      let second = later first.scene in
      record { scene = second.scene; posts = All-append (HasRecord painted) before.posts (next before.scene).posts first.posts second.posts }

  grant-kept : (id : RowId) (input : GIn) (paste : List ℕ) (scene : Scene) → length paste ≤ MAX_CLIPBOARD_DATA → IsKept guests limit scene
      → KeepsScene guests limit painted (grant id input paste scene)
  grant-kept id input paste scene fits kept = by_there (is_some (row_at id scene.rows)) refl
    where
      by_there : (b : Bool) → is_some (row_at id scene.rows) ≡ b → KeepsScene guests limit painted (grant_where b id input paste scene)
      by_there false e = stays-kept scene kept
      by_there true e =
          let below : id.guest < guests = row-below guests id scene.rows kept.rows e in
          record {
            scene = record {
              rows = λ other far. grant-others id.guest other (apart-from guests id.guest other below far) scene.rows input paste ∙ kept.rows other far;
              clip = kept.clip;
            };
            posts =
                replies-recorded painted id.guest (omega (arith, below, few)) (granted id.guest scene.rows input paste).answers
                (granted-short id.guest scene.rows input paste fits);
          }

  -- where bytes are pasted, they are those that were held
  pastes-kept : (denied : List Pair) (id : RowId) (content : Option Content) (scene : Scene) → HoldsAtMost limit content → IsKept guests limit scene
      → KeepsScene guests limit painted (pastes denied id content scene)
  pastes-kept denied id None scene held kept = stays-kept scene kept
  pastes-kept denied id (Some content) scene held kept = by_denied (denies denied content.source id.guest)
    where
      after : Scene
      after = with_clip (wiped scene.clip) scene

      by_denied : (b : Bool) → KeepsScene guests limit painted (if b then unchanged scene else grant id (ClipGive id.window) content.bytes after)
      by_denied true = stays-kept scene kept
      by_denied false = grant-kept id (ClipGive id.window) content.bytes after (omega (arith, held, least)) (record { rows = kept.rows; clip = tt })

  deliver-kept : (denied : List Pair) (d : Delivery) (scene : Scene) → IsKept guests limit scene → KeepsScene guests limit painted (deliver denied d scene)
  deliver-kept denied (Grants id input) scene kept = grant-kept id input [] scene (omega arith) kept
  deliver-kept denied (Asks id) scene kept =
      grant-kept id (ClipAsk id.window) [] (with_clip (ask id.guest scene.clip) scene) (omega arith) (record { rows = kept.rows; clip = kept.clip })
  deliver-kept denied (Pastes id) scene kept = pastes-kept denied id scene.clip.content scene kept.clip kept

  deliver_all-kept : (denied : List Pair) (ds : List Delivery) (scene : Scene) → IsKept guests limit scene → KeepsScene guests limit painted (deliver_all denied ds scene)
  deliver_all-kept denied [] scene kept = stays-kept scene kept
  deliver_all-kept denied (d ∷ ds) scene kept =
      then-kept (deliver denied d scene) (deliver_all denied ds) (deliver-kept denied d scene kept) (deliver_all-kept denied ds (deliver denied d scene).scene)

  -- whatever an event hands on
  pub perform-kept : (denied : List Pair) (r : InputOutcome) (scene : Scene) → IsKept guests limit scene → KeepsScene guests limit painted (perform denied r scene)
  perform-kept denied r scene kept = deliver_all-kept denied r.deliveries (scene_of_input r scene) (record { rows = kept.rows; clip = kept.clip })

  -- focus and hover
  pub settle-kept : (sizes : Sizes) (scene : Scene) → IsKept guests limit scene → KeepsScene guests limit painted (settle sizes scene)
  settle-kept sizes scene kept = perform-kept [] (settled sizes (grab_checked scene)) scene kept
