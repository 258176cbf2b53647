-- A raise of a row keeps what the lists have: their members, none of them twice, and that they follow the rows.
use Rattle.std.proofs.Common.{◌≡◌, Bool, true, false, ◌&&◌, ◌||◌, not, List, [], ◌∷◌, ◌++◌, refl, sym, ◌∙◌, ap, length-append}
use Rattle.std.specs.Prelude.{if◌then◌else◌}
use Rattle.std.proofs.lemmas.Bool.{or_parts}
use Rattle.std.proofs.lemmas.List.Folds.{list_any-append}
use Rattle.desk_laws.specs.declared.row_id.RowId.{RowId}
use Rattle.desk_laws.specs.Rows.{Row, same_row}
use Rattle.desk_laws.specs.Layers.{Layers, is_in, are_apart, HaveSame, without, to_end, raised}
use Rattle.desk_laws.specs.Following.{LayersFollow}
use Rattle.desk_laws.proofs.RowLemmas.{same_row-itself, same_row-swapped, apart-push}
use Rattle.desk_laws.proofs.LayerLemmas.{is_in-push}
use Rattle.desk_laws.proofs.IdLemmas.{and-false, same_row-is, is_in-without, apart-parts, apart-filter, apart-append, apart-left, apart-right, length-same}

-- ---- an id put last

-- the list has the members that it had
pub to_end-same : (id : RowId) (ids : List RowId) → HaveSame (to_end id ids) ids
to_end-same id ids = λ x. by_in x (is_in ids id) refl
  where
    or-true : (b : Bool) → (b || true) ≡ true
    or-true true = refl
    or-true false = refl

    left-alone : (b : Bool) → ((b && true) || false) ≡ b
    left-alone true = refl
    left-alone false = refl

    by_same : (x : RowId) (s : Bool) → same_row x id ≡ s → is_in ids id ≡ true → ((is_in ids x && not (same_row id x)) || s) ≡ is_in ids x
    by_same x true e here = or-true (is_in ids x && not (same_row id x)) ∙ sym (ap (is_in ids) (same_row-is x id e) ∙ here)
    by_same x false e here =
        ap (λ s. (is_in ids x && not s) || false) (same_row-swapped id x ∙ e) ∙ left-alone (is_in ids x)

    by_in : (x : RowId) (b : Bool) → is_in ids id ≡ b → is_in (if b then without id ids ++ id ∷ [] else ids) x ≡ is_in ids x
    by_in x true e =
        is_in-push (without id ids) id x ∙ ap (λ v. v || same_row x id) (is_in-without id ids x) ∙ by_same x (same_row x id) refl e
    by_in x false e = refl

-- and no id twice
pub to_end-apart : (id : RowId) (ids : List RowId) → are_apart ids ≡ true → are_apart (to_end id ids) ≡ true
to_end-apart id ids apart = by_in (is_in ids id)
  where
    taken-out : is_in (without id ids) id ≡ false
    taken-out = is_in-without id ids id ∙ ap (λ s. is_in ids id && not s) (same_row-itself id) ∙ and-false (is_in ids id)

    by_in : (b : Bool) → are_apart (if b then without id ids ++ id ∷ [] else ids) ≡ true
    by_in true = apart-push (without id ids) id (apart-filter (λ x. not (same_row id x)) ids apart) taken-out
    by_in false = apart

-- ---- lists with the same members

-- where no id stands twice in two lists together, none stands in both
pub apart-between : (xs ys : List RowId) → are_apart (xs ++ ys) ≡ true → (id : RowId) → is_in xs id ≡ true → is_in ys id ≡ false
apart-between [] ys apart id here = cc
apart-between (x ∷ xs) ys apart id here =
    let parts = apart-parts x (xs ++ ys) apart in
    by_same (same_row id x) refl here parts.0 (λ h. apart-between xs ys parts.1 id h)
  where
    by_same : (s : Bool) → same_row id x ≡ s → (s || is_in xs id) ≡ true → is_in (xs ++ ys) x ≡ false → (is_in xs id ≡ true → is_in ys id ≡ false)
        → is_in ys id ≡ false
    by_same true e h out further =
        ap (is_in ys) (same_row-is id x e) ∙ (or_parts (is_in xs x) (is_in ys x) (sym (list_any-append (same_row x) xs ys) ∙ out)).1
    by_same false e h out further = further h

module _ (rows : List Row) (old new : Layers) (follow : LayersFollow rows old)
    (normal : HaveSame new.normal old.normal) (over : HaveSame new.over old.over) (focus : HaveSame new.focus old.focus)
    (normal_once : are_apart new.normal ≡ true) (over_once : are_apart new.over ≡ true) (focus_once : are_apart new.focus ≡ true) where
  stacked : are_apart (new.normal ++ new.over) ≡ true
  stacked =
      apart-append new.normal new.over normal_once over_once
      (λ id h. over id ∙ apart-between old.normal old.over follow.once.stacked_once id (sym (normal id) ∙ h))

  same : HaveSame new.focus (new.normal ++ new.over)
  same = λ id.
      focus id ∙ follow.once.same id ∙ list_any-append (same_row id) old.normal old.over
      ∙ ap (λ v. v || is_in old.over id) (sym (normal id)) ∙ ap (λ v. is_in new.normal id || v) (sym (over id))
      ∙ sym (list_any-append (same_row id) new.normal new.over)

  -- lists of the same members in another order follow the rows still
  pub reordered-follow : LayersFollow rows new
  reordered-follow = record {
    once = record {
      stacked_once = stacked;
      listed_once = focus_once;
      same = same;
      counted = length-same new.focus (new.normal ++ new.over) focus_once stacked same ∙ length-append new.normal new.over;
    };
    normal = λ id. normal id ∙ follow.normal id;
    over = λ id. over id ∙ follow.over id;
  }

-- ---- a raise

-- after a raise the lists follow the rows still
pub raised-follow : (id : RowId) (rows : List Row) (layers : Layers) → LayersFollow rows layers → LayersFollow rows (raised id layers)
raised-follow id rows layers follow =
    reordered-follow rows layers (raised id layers) follow
    (to_end-same id layers.normal) (to_end-same id layers.over) (to_end-same id layers.focus)
    (to_end-apart id layers.normal (apart-left layers.normal layers.over follow.once.stacked_once))
    (to_end-apart id layers.over (apart-right layers.normal layers.over follow.once.stacked_once))
    (to_end-apart id layers.focus follow.once.listed_once)
