-- The keys of the rows of both layers, as the lists change.
use Rattle.std.proofs.Common.{◌≡◌, ℕ, ◌+◌, ◌≤◌, Bool, true, false, cond, not, ◌||◌, ◌==◌, filter, map, List, [], ◌∷◌, ◌++◌, length, Option, Some, None, is_some, refl, sym, ap, ◌∙◌, subst, arith}
use Rattle.std.specs.Prelude.{nat_lt, if◌then◌else◌}
use Rattle.std.specs.Option.{option_eq}
use Rattle.std.specs.Bool.{beq}
use Rattle.std.proofs.lemmas.Bool.{cond-true}
use Rattle.std.proofs.lemmas.Bool.Decides.{nat_tests}
use Rattle.std.proofs.lemmas.List.{length-map}
use Rattle.desk_laws.specs.declared.row_id.RowId.{RowId}
use Rattle.desk_laws.specs.Rows.{same_row}
use Rattle.desk_laws.specs.Layers.{Layers, is_in, without, to_end, departed}
use Rattle.stacking.specs.declared.index.Key.{Key}
use Rattle.stacking.specs.RowCounts.{times, AreCounted}
use Rattle.stacking.specs.Keys.{RiseFrom, first_id, next_id, layer_in, IsIndex}
use Rattle.stacking.proofs.CountLemmas.{counted-departed, same-itself, one_if, same-is, same-swapped, is_in-times, times-filter, times-some, times-to_end, same-length}
use Rattle.stacking.proofs.OrderLemmas.{at-next}
use Rattle.stacking.proofs.KeyLemmas.{none-below, same-not-before}

-- ---- members

pub is_in-push : (ids : List RowId) (new id : RowId) → is_in (ids ++ new ∷ []) id ≡ (is_in ids id || same_row new id)
is_in-push [] new id = by (same_row id new) (same-swapped id new)
  where
    by : (b : Bool) → b ≡ same_row new id → (b || false) ≡ same_row new id
    by true e = e
    by false e = e
is_in-push (x ∷ ids) new id = by (same_row id x) (is_in-push ids new id)
  where
    by : (b : Bool) → is_in (ids ++ new ∷ []) id ≡ (is_in ids id || same_row new id) → (b || is_in (ids ++ new ∷ []) id) ≡ ((b || is_in ids id) || same_row new id)
    by true e = refl
    by false e = e

pub is_in-filter : (p : RowId → Bool) (id : RowId) (ids : List RowId) → is_in (filter p ids) id ≡ (if p id then is_in ids id else false)
is_in-filter p id ids =
    is_in-times (filter p ids) id ∙ ap (λ n. nat_lt 0 n) (times-filter p id ids) ∙ by (p id) (sym (is_in-times ids id))
  where
    by : (b : Bool) → nat_lt 0 (times id ids) ≡ is_in ids id → nat_lt 0 (if b then times id ids else 0) ≡ (if b then is_in ids id else false)
    by true e = e
    by false e = refl

pub is_in-without : (id other : RowId) (ids : List RowId) → is_in (without id ids) other ≡ (if same_row id other then false else is_in ids other)
is_in-without id other ids = is_in-filter (λ x. not (same_row id x)) other ids ∙ by (same_row id other)
  where
    by : (b : Bool) → (if not b then is_in ids other else false) ≡ (if b then false else is_in ids other)
    by true = refl
    by false = refl

pub is_in-to_end : (id other : RowId) (ids : List RowId) → times id ids ≤ 1 → is_in (to_end id ids) other ≡ is_in ids other
is_in-to_end id other ids once =
    is_in-times (to_end id ids) other ∙ ap (λ n. nat_lt 0 n) (times-to_end other id ids once) ∙ sym (is_in-times ids other)

pub without-none : (id : RowId) (ids : List RowId) → is_in ids id ≡ false → without id ids ≡ ids
without-none id [] out = refl
without-none id (x ∷ ids) out = by (same_row id x) refl out (λ h. without-none id ids h)
  where
    by : (b : Bool) → same_row id x ≡ b → (b || is_in ids id) ≡ false → (is_in ids id ≡ false → without id ids ≡ ids) →
        cond (not b) (x ∷ without id ids) (without id ids) ≡ x ∷ ids
    by true is out rest = absurd cc
    by false is out rest = ap (λ xs. x ∷ xs) (rest out)

-- a row in neither layer, or in one of them
pub focus-either : (normal over focus : List RowId) (id : RowId) → AreCounted normal over focus → is_in focus id ≡ (is_in over id || is_in normal id)
focus-either normal over focus id h =
    is_in-times focus id ∙ ap (λ n. nat_lt 0 n) (h.same id) ∙ either (times id normal) (times id over)
    ∙ ap (λ b. b || nat_lt 0 (times id normal)) (sym (is_in-times over id)) ∙ ap (λ b. is_in over id || b) (sym (is_in-times normal id))
  where
    either : (n o : ℕ) → nat_lt 0 (n + o) ≡ (nat_lt 0 o || nat_lt 0 n)
    either n o = grind (arith, nat_tests)

-- a row in neither layer
either-out : (a b : Bool) → (a || b) ≡ false → (a ≡ false) × (b ≡ false)
either-out true b e = absurd cc
either-out false b e = (refl, e)

pub out-over : (normal over focus : List RowId) (id : RowId) → AreCounted normal over focus → is_in focus id ≡ false → is_in over id ≡ false
out-over normal over focus id h out = (either-out (is_in over id) (is_in normal id) (sym (focus-either normal over focus id h) ∙ out)).0

pub out-normal : (normal over focus : List RowId) (id : RowId) → AreCounted normal over focus → is_in focus id ≡ false → is_in normal id ≡ false
out-normal normal over focus id h out = (either-out (is_in over id) (is_in normal id) (sym (focus-either normal over focus id h) ∙ out)).1

pub only-one : (normal over focus : List RowId) (id : RowId) → AreCounted normal over focus → is_in over id ≡ true → is_in normal id ≡ false
only-one normal over focus id h there =
    let some = times-some over id there in
    let e = h.same id in
    let one = h.once id in
    let none : times id normal ≡ 0 = omega arith in
    is_in-times normal id ∙ ap (λ n. nat_lt 0 n) none

-- ---- what a key tells

pub some-focus : (normal over focus : List RowId) (keys : List Key) (id : RowId) → AreCounted normal over focus → IsIndex normal over keys →
    is_some (layer_in id keys) ≡ is_in focus id
some-focus normal over focus keys id h index =
    ap is_some (index.layers id) ∙ by (is_in over id) (is_in normal id) ∙ sym (focus-either normal over focus id h)
  where
    by : (o n : Bool) → is_some (if o then Some true else if n then Some false else None) ≡ (o || n)
    by true n = refl
    by false true = refl
    by false false = refl

pub none-focus : (normal over focus : List RowId) (keys : List Key) (id : RowId) → AreCounted normal over focus → IsIndex normal over keys →
    is_in focus id ≡ false → layer_in id keys ≡ None
none-focus normal over focus keys id h index out = by (layer_in id keys) (some-focus normal over focus keys id h index ∙ out)
  where
    by : (o : Option Bool) → is_some o ≡ false → o ≡ None
    by None e = refl
    by (Some b) e = absurd cc

pub is-layer : (b o n : Bool) → (o ≡ true → n ≡ false) →
    option_eq beq (if o then Some true else if n then Some false else None) (Some b) ≡ (if b then o else n)
is-layer true true n e = refl
is-layer true false true e = refl
is-layer true false false e = refl
is-layer false true n e = sym (e refl)
is-layer false false true e = refl
is-layer false false false e = refl

-- each row has one key: there are as many as rows
key-ids : List Key → List RowId
key-ids keys = map (λ k. k.id) keys

times-keys : (id : RowId) (low : RowId) (keys : List Key) → RiseFrom low keys → times id (key-ids keys) ≡ one_if (is_some (layer_in id keys))
unfolding key-ids
times-keys id low [] rising = refl
times-keys id low (key ∷ keys) rising = by (same_row id key.id) refl (times-keys id (next_id key.id) keys rising.1)
  where
    by : (b : Bool) → same_row id key.id ≡ b → times id (map (λ k. k.id) keys) ≡ one_if (is_some (layer_in id keys)) →
        one_if b + times id (map (λ k. k.id) keys) ≡ one_if (is_some (cond b (Some key.over) (layer_in id keys)))
    by true is rest =
        let none : layer_in id keys ≡ None =
        none-below (next_id key.id) id keys rising.1 (at-next id key.id (same-not-before key.id id (same-swapped key.id id ∙ is))) in
        let zero_is : times id (map (λ k. k.id) keys) ≡ 0 = rest ∙ ap (λ o. one_if (is_some o)) none in
        omega (arith, zero_is)
    by false is rest = omega (arith, rest)

pub key-count : (normal over focus : List RowId) (keys : List Key) → AreCounted normal over focus → IsIndex normal over keys → length keys ≡ length focus
unfolding key-ids
key-count normal over focus keys h index =
    sym (length-map keys (λ k. k.id)) ∙ same-length (map (λ k. k.id) keys) focus (λ id. at-most (is_some (layer_in id keys)) _ (times-keys id first_id keys index.rising))
    (λ id. times-keys id first_id keys index.rising ∙ ap one_if (some-focus normal over focus keys id h index ∙ is_in-times focus id) ∙ whole (times id focus) (h.once id))
  where
    at-most : (b : Bool) (n : ℕ) → n ≡ one_if b → n ≤ 1
    at-most true n e = omega (arith, e)
    at-most false n e = omega (arith, e)

    whole : (n : ℕ) → n ≤ 1 → one_if (nat_lt 0 n) ≡ n
    whole n le = grind (arith, nat_tests)

-- ---- the lists change

-- as the code leaves them
pub index-same : (normal over normal' over' : List RowId) (keys : List Key) → normal' ≡ normal → over' ≡ over → IsIndex normal over keys →
    IsIndex normal' over' keys
index-same normal over normal' over' keys n o index =
    let N : List RowId → Type 0 = λ xs. IsIndex xs over keys in
    let O : List RowId → Type 0 = λ xs. IsIndex normal' xs keys in
    subst O (sym o) (subst N (sym n) index)

pub index-new : (keys : List Key) → keys ≡ [] → IsIndex [] [] keys
index-new keys none = subst (IsIndex [] []) (sym none) (record { rising = tt; layers = λ id. refl })

module _ (normal over focus : List RowId) (keys keys' : List Key) (h : AreCounted normal over focus) (index : IsIndex normal over keys)
    (rising : RiseFrom first_id keys') where
  pub index-entered : (id : RowId) (b : Bool) → b ≡ true →
      ((other : RowId) → layer_in other keys' ≡ (if same_row id other then Some b else layer_in other keys)) → IsIndex normal (over ++ id ∷ []) keys'
  index-entered id b is layers = record {
    rising = rising;
    layers = λ other.
        layers other
        ∙ ap (λ c. if same_row id other then Some c else layer_in other keys) is
        ∙ ap (λ o. if same_row id other then Some true else o) (index.layers other)
        ∙ by (is_in over other) (same_row id other) (is_in normal other)
        ∙ ap (λ b. if b then Some true else if is_in normal other then Some false else None) (sym (is_in-push over id other));
  }
    where
      by : (o s n : Bool) → (if s then Some true else if o then Some true else if n then Some false else None)
          ≡ (if o || s then Some true else if n then Some false else None)
      by true true n = refl
      by true false n = refl
      by false true n = refl
      by false false n = refl

  pub index-entered-normal : (id : RowId) (b : Bool) → b ≡ false → is_in over id ≡ false →
      ((other : RowId) → layer_in other keys' ≡ (if same_row id other then Some b else layer_in other keys)) → IsIndex (normal ++ id ∷ []) over keys'
  index-entered-normal id b is out layers = record {
    rising = rising;
    layers = λ other.
        layers other
        ∙ ap (λ c. if same_row id other then Some c else layer_in other keys) is
        ∙ ap (λ o. if same_row id other then Some false else o) (index.layers other)
        ∙ by (is_in over other) (same_row id other) (is_in normal other) (λ s. ap (is_in over) (sym (same-id id other s)) ∙ out)
        ∙ ap (λ b. if is_in over other then Some true else if b then Some false else None) (sym (is_in-push normal id other));
  }
    where
      same-id : (a b : RowId) → same_row a b ≡ true → a ≡ b
      same-id a b e = same-is a b e

      by : (o s n : Bool) → (s ≡ true → o ≡ false) → (if s then Some false else if o then Some true else if n then Some false else None)
          ≡ (if o then Some true else if n || s then Some false else None)
      by true true n e = let x = e refl in absurd cc
      by true false n e = refl
      by false true true e = refl
      by false true false e = refl
      by false false true e = refl
      by false false false e = refl

  pub index-departed : (id : RowId) → ((other : RowId) → layer_in other keys' ≡ (if same_row id other then None else layer_in other keys)) →
      IsIndex (without id normal) (without id over) keys'
  index-departed id layers = record {
    rising = rising;
    layers = λ other.
        layers other
        ∙ ap (λ o. if same_row id other then None else o) (index.layers other)
        ∙ by (same_row id other) (is_in over other) (is_in normal other)
        ∙ ap (λ b. if b then Some true else if (if same_row id other then false else is_in normal other) then Some false else None) (sym (is_in-without id other over))
        ∙ ap (λ b. if is_in (without id over) other then Some true else if b then Some false else None) (sym (is_in-without id other normal));
  }
    where
      nothing : Option Bool
      nothing = None

      by : (s o n : Bool) → (if s then nothing else if o then Some true else if n then Some false else None)
          ≡ (if (if s then false else o) then Some true else if (if s then false else n) then Some false else None)
      by true o n = refl
      by false o n = refl

  pub index-left : (guest : ℕ) → ((other : RowId) → layer_in other keys' ≡ (if other.guest == guest then None else layer_in other keys)) →
      IsIndex (filter (λ id. not (id.guest == guest)) normal) (filter (λ id. not (id.guest == guest)) over) keys'
  index-left guest layers = record {
    rising = rising;
    layers = λ other.
        layers other
        ∙ ap (λ o. if other.guest == guest then None else o) (index.layers other)
        ∙ by (other.guest == guest) (is_in over other) (is_in normal other)
        ∙ ap (λ b. if b then Some true else if (if not (other.guest == guest) then is_in normal other else false) then Some false else None)
        (sym (is_in-filter (λ id. not (id.guest == guest)) other over))
        ∙ ap (λ b. if is_in (filter (λ id. not (id.guest == guest)) over) other then Some true else if b then Some false else None)
        (sym (is_in-filter (λ id. not (id.guest == guest)) other normal));
  }
    where
      nothing : Option Bool
      nothing = None

      by : (s o n : Bool) → (if s then nothing else if o then Some true else if n then Some false else None)
          ≡ (if (if not s then o else false) then Some true else if (if not s then n else false) then Some false else None)
      by true o n = refl
      by false o n = refl

-- a row that comes into the other layer: its key goes and comes
module _ (normal over focus : List RowId) (keys gone keys' : List Key) (id : RowId) (b : Bool) (h : AreCounted normal over focus)
    (index : IsIndex normal over keys) (rising : RiseFrom first_id gone) (rising' : RiseFrom first_id keys')
    (went : (other : RowId) → layer_in other gone ≡ (if same_row id other then None else layer_in other keys))
    (came : (other : RowId) → layer_in other keys' ≡ (if same_row id other then Some b else layer_in other gone)) where
  pub index-moved : b ≡ true → is_in over id ≡ false → IsIndex (without id normal) (over ++ id ∷ []) keys'
  index-moved is out =
      let O : List RowId → Type 0 = λ os. IsIndex (without id normal) (os ++ id ∷ []) keys' in
      subst O (without-none id over out)
      (index-entered (without id normal) (without id over) (without id focus) gone keys' (counted-departed normal over focus id h)
      (index-departed normal over focus keys gone h index rising id went) rising' id b is came)

  pub index-moved-normal : b ≡ false → is_in normal id ≡ false → IsIndex (normal ++ id ∷ []) (without id over) keys'
  index-moved-normal is out =
      let N : List RowId → Type 0 = λ ns. IsIndex (ns ++ id ∷ []) (without id over) keys' in
      subst N (without-none id normal out)
      (index-entered-normal (without id normal) (without id over) (without id focus) gone keys' (counted-departed normal over focus id h)
      (index-departed normal over focus keys gone h index rising id went) rising' id b is
      (is_in-without id id over ∙ cond-true (same_row id id) false (is_in over id) (same-itself id)) came)

-- rows that only change their places
pub index-raised : (normal over focus : List RowId) (keys : List Key) (id : RowId) → AreCounted normal over focus → IsIndex normal over keys →
    IsIndex (to_end id normal) (to_end id over) keys
index-raised normal over focus keys id h index =
    let e = h.same id in
    let one = h.once id in
    let n : times id normal ≤ 1 = omega arith in
    let o : times id over ≤ 1 = omega arith in
    record {
      rising = index.rising;
      layers = λ other.
          index.layers other
          ∙ ap (λ b. if b then Some true else if is_in normal other then Some false else None) (sym (is_in-to_end id other over o))
          ∙ ap (λ b. if is_in (to_end id over) other then Some true else if b then Some false else None) (sym (is_in-to_end id other normal n));
    }

-- ---- a row that isn't there, or is in that layer already

pub departed-none : (layers : Layers) (id : RowId) → AreCounted layers.normal layers.over layers.focus → is_in layers.focus id ≡ false → departed id layers ≡ layers
departed-none layers id h out =
    let over = out-over layers.normal layers.over layers.focus id h out in
    let normal = out-normal layers.normal layers.over layers.focus id h out in
    ap (λ ns. record { normal = ns; over = without id layers.over; focus = without id layers.focus }) (without-none id layers.normal normal)
    ∙ ap (λ os. record { normal = layers.normal; over = os; focus = without id layers.focus }) (without-none id layers.over over)
    ∙ ap (λ fs. record { normal = layers.normal; over = layers.over; focus = fs }) (without-none id layers.focus out)
