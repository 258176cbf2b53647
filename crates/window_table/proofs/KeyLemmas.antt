-- Keys in the order of their windows.
use Rattle.std.proofs.Common.{◌≡◌, ℕ, zero, suc, ◌-◌, ◌<◌, ◌≤◌, Bool, true, false, cond, eqb, List, [], ◌∷◌, length, drop, get_or, Some, None, is_some, refl, sym, ap, ◌∙◌, subst, arith}
use Rattle.std.specs.List.{insert, remove}
use Rattle.std.proofs.lemmas.Bool.{cond-false, eqb-true, eqb-false, ne_eqb}
use Rattle.window_table.specs.declared.index.Key.{Key}
use Rattle.window_table.specs.Keys.{slot_in, first_slot, RiseFrom, IsPlaceFor}

rise-lower : (low high : ℕ) (keys : List Key) → low ≤ high → RiseFrom high keys → RiseFrom low keys
rise-lower low high [] le rising = tt
rise-lower low high (key ∷ keys) le rising = (omega (arith, le, rising.0), rising.1)

rise-get : (low : ℕ) (keys : List Key) (i : ℕ) (d : Key) → RiseFrom low keys → i < length keys → low ≤ (get_or keys i d).window
rise-get low [] i d rising inside = absurd (omega arith)
rise-get low (key ∷ keys) zero d rising inside = rising.0
rise-get low (key ∷ keys) (suc i) d rising inside =
    let rest = rise-get (suc key.window) keys i d rising.1 (omega arith) in
    omega (arith, rest, rising.0)

-- a window below all of them has none
none-below : (low window : ℕ) (keys : List Key) → RiseFrom low keys → window < low → slot_in window keys ≡ None
none-below low window [] rising less = refl
none-below low window (key ∷ keys) rising less =
    cond-false (eqb key.window window) (Some key.slot) (slot_in window keys) (ne_eqb key.window window (λ same. omega (arith, same, rising.0)))
    ∙ none-below (suc key.window) window keys rising.1 (omega (arith, rising.0))

-- the rest of a place
place-tail : (window : ℕ) (key : Key) (keys : List Key) (i : ℕ) → IsPlaceFor window (key ∷ keys) (suc i) → IsPlaceFor window keys i
place-tail window key keys zero place = record {
  within = omega arith;
  behind = λ d h. absurd (omega arith);
  ahead = λ d h. place.ahead d (omega arith);
}
place-tail window key keys (suc i) place = record {
  within = omega (arith, place.within);
  behind = λ d h.
      let there : suc (suc i) - 1 ≡ suc i = omega arith in
      let here : suc i - 1 ≡ i = omega arith in
      let P : ℕ → Type 0 = λ n. (get_or (key ∷ keys) n d).window < window in
      let Q : ℕ → Type 0 = λ n. (get_or keys n d).window < window in
      subst Q (sym here) (subst P there (place.behind d (omega arith)));
  ahead = λ d h. place.ahead d (omega arith);
}

-- the first key is of a lower window than one whose place is behind it
first-below : (window low : ℕ) (key : Key) (keys : List Key) (i : ℕ) → RiseFrom low (key ∷ keys) → IsPlaceFor window (key ∷ keys) (suc i) →
    key.window < window
first-below window low key keys zero rising place =
    let here : suc zero - 1 ≡ zero = omega arith in
    let P : ℕ → Type 0 = λ n. (get_or (key ∷ keys) n key).window < window in
    subst P here (place.behind key (omega arith))
first-below window low key keys (suc i) rising place =
    let there : suc (suc i) - 1 ≡ suc i = omega arith in
    let P : ℕ → Type 0 = λ n. (get_or (key ∷ keys) n key).window < window in
    let last : (get_or keys i key).window < window = subst P there (place.behind key (omega arith)) in
    let rest = rise-get (suc key.window) keys i key rising.1 (omega (arith, place.within)) in
    omega (arith, last, rest)

not-here : (window : ℕ) (key : Key) (keys : List Key) → key.window < window → slot_in window (key ∷ keys) ≡ slot_in window keys
not-here window key keys less =
    cond-false (eqb key.window window) (Some key.slot) (slot_in window keys) (ne_eqb key.window window (λ same. omega (arith, same)))

-- what is found at a window's place
pub slot-here : (window low : ℕ) (keys : List Key) (i : ℕ) → RiseFrom low keys → IsPlaceFor window keys i →
    slot_in window keys ≡ first_slot window (drop i keys)
slot-here window low [] zero rising place = refl
slot-here window low [] (suc i) rising place = absurd (omega (arith, place.within))
slot-here window low (key ∷ keys) zero rising place =
    ap (λ o. cond (eqb key.window window) (Some key.slot) o)
    (none-below (suc key.window) window keys rising.1 (omega (arith, place.ahead key (omega arith))))
slot-here window low (key ∷ keys) (suc i) rising place =
    not-here window key keys (first-below window low key keys i rising place)
    ∙ slot-here window (suc key.window) keys i rising.1 (place-tail window key keys i place)

-- what is found at any place is what is found
pub slot-near : (window slot low : ℕ) (keys : List Key) (i : ℕ) → RiseFrom low keys → first_slot window (drop i keys) ≡ Some slot →
    (low ≤ window) × (slot_in window keys ≡ Some slot)
slot-near window slot low [] zero rising found = absurd cc
slot-near window slot low [] (suc i) rising found = absurd cc
slot-near window slot low (key ∷ keys) zero rising found = by (eqb key.window window) refl found
  where
    by : (b : Bool) → eqb key.window window ≡ b → cond b (Some key.slot) None ≡ Some slot →
        (low ≤ window) × (cond b (Some key.slot) (slot_in window keys) ≡ Some slot)
    by true is found = let same : key.window ≡ window = eqb-true key.window window is in (omega (arith, same, rising.0), found)
    by false is found = absurd cc
slot-near window slot low (key ∷ keys) (suc i) rising found =
    let rest = slot-near window slot (suc key.window) keys i rising.1 found in
    (omega (arith, rest.0, rising.0), not-here window key keys (omega (arith, rest.0)) ∙ rest.1)

-- where a window has no key, the first key is of another
other-first : (window : ℕ) (key : Key) (keys : List Key) → slot_in window (key ∷ keys) ≡ None →
    (eqb key.window window ≡ false) × (slot_in window keys ≡ None)
other-first window key keys none = by (eqb key.window window) refl none
  where
    by : (b : Bool) → eqb key.window window ≡ b → cond b (Some key.slot) (slot_in window keys) ≡ None →
        (eqb key.window window ≡ false) × (slot_in window keys ≡ None)
    by true is none = absurd cc
    by false is none = (is, none)

-- one key more
pub rise-put : (window slot low : ℕ) (keys : List Key) (i : ℕ) → RiseFrom low keys → IsPlaceFor window keys i → slot_in window keys ≡ None →
    low ≤ window → RiseFrom low (insert keys i (record { window = window; slot = slot }))
rise-put window slot low [] zero rising place none le = (le, tt)
rise-put window slot low [] (suc i) rising place none le = absurd (omega (arith, place.within))
rise-put window slot low (key ∷ keys) zero rising place none le =
    let differs = eqb-false key.window window (other-first window key keys none).0 in
    let most = place.ahead key (omega arith) in
    (le, ((grind (arith, differs, most)), rising.1))
rise-put window slot low (key ∷ keys) (suc i) rising place none le =
    let less = first-below window low key keys i rising place in (
      rising.0,
      rise-put window slot (suc key.window) keys i rising.1 (place-tail window key keys i place) (other-first window key keys none).1 (omega (arith, less)),
    )

pub slot-put : (window slot other : ℕ) (keys : List Key) (i : ℕ) → slot_in window keys ≡ None →
    slot_in other (insert keys i (record { window = window; slot = slot })) ≡ cond (eqb window other) (Some slot) (slot_in other keys)
slot-put window slot other keys zero none = refl
slot-put window slot other [] (suc i) none = refl
slot-put window slot other (key ∷ keys) (suc i) none =
    let rest = other-first window key keys none in
    by (eqb key.window other) refl rest.0 (slot-put window slot other keys i rest.1)
  where
    by : (b : Bool) → eqb key.window other ≡ b → eqb key.window window ≡ false →
        slot_in other (insert keys i (record { window = window; slot = slot })) ≡ cond (eqb window other) (Some slot) (slot_in other keys) →
        cond b (Some key.slot) (slot_in other (insert keys i (record { window = window; slot = slot })))
        ≡ cond (eqb window other) (Some slot) (cond b (Some key.slot) (slot_in other keys))
    by true is differs rest =
        sym (cond-false (eqb window other) (Some slot) (Some key.slot)
        (ne_eqb window other (λ same. eqb-false key.window window differs (eqb-true key.window other is ∙ sym same))))
    by false is differs rest = rest

-- one key less
pub has-first : (window : ℕ) (keys : List Key) (i : ℕ) → is_some (first_slot window (drop i keys)) ≡ true → i < length keys
has-first window [] zero some = absurd cc
has-first window [] (suc i) some = absurd cc
has-first window (key ∷ keys) zero some = omega arith
has-first window (key ∷ keys) (suc i) some = let rest = has-first window keys i some in omega (arith, rest)

first-window : (window : ℕ) (key : Key) (keys : List Key) → is_some (first_slot window (key ∷ keys)) ≡ true → key.window ≡ window
first-window window key keys some = by (eqb key.window window) refl some
  where
    by : (b : Bool) → eqb key.window window ≡ b → is_some (cond b (Some key.slot) None) ≡ true → key.window ≡ window
    by true is some = eqb-true key.window window is
    by false is some = absurd cc

pub rise-remove : (low : ℕ) (keys : List Key) (i : ℕ) → RiseFrom low keys → RiseFrom low (remove keys i)
rise-remove low [] zero rising = tt
rise-remove low [] (suc i) rising = tt
rise-remove low (key ∷ keys) zero rising = rise-lower low (suc key.window) keys (omega (arith, rising.0)) rising.1
rise-remove low (key ∷ keys) (suc i) rising = (rising.0, rise-remove (suc key.window) keys i rising.1)

pub slot-remove : (window other low : ℕ) (keys : List Key) (i : ℕ) → RiseFrom low keys → IsPlaceFor window keys i →
    is_some (first_slot window (drop i keys)) ≡ true → slot_in other (remove keys i) ≡ cond (eqb window other) None (slot_in other keys)
slot-remove window other low [] zero rising place some = absurd cc
slot-remove window other low [] (suc i) rising place some = absurd cc
slot-remove window other low (key ∷ keys) zero rising place some =
    let here = first-window window key keys some in
    by (eqb window other) refl here
  where
    by : (b : Bool) → eqb window other ≡ b → key.window ≡ window →
        slot_in other keys ≡ cond b None (cond (eqb key.window other) (Some key.slot) (slot_in other keys))
    by true is here =
        let same : window ≡ other = eqb-true window other is in
        none-below (suc key.window) other keys rising.1 (omega (arith, same, here))
    by false is here =
        sym (cond-false (eqb key.window other) (Some key.slot) (slot_in other keys) (ap (λ n. eqb n other) here ∙ is))
slot-remove window other low (key ∷ keys) (suc i) rising place some =
    by (eqb key.window other) refl (first-below window low key keys i rising place)
    (slot-remove window other (suc key.window) keys i rising.1 (place-tail window key keys i place) some)
  where
    by : (b : Bool) → eqb key.window other ≡ b → key.window < window →
        slot_in other (remove keys i) ≡ cond (eqb window other) None (slot_in other keys) →
        cond b (Some key.slot) (slot_in other (remove keys i)) ≡ cond (eqb window other) None (cond b (Some key.slot) (slot_in other keys))
    by true is less rest =
        let same : key.window ≡ other = eqb-true key.window other is in
        sym (cond-false (eqb window other) None (Some key.slot) (ne_eqb window other (λ e. omega (arith, same, less, e))))
    by false is less rest = rest
