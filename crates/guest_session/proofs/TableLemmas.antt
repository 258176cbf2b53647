-- The entries of a table: which one a window has, and the rows that they are.
use Rattle.std.proofs.Common.{◌≡◌, ℕ, ◌+◌, ◌≤◌, Bool, true, false, cond, ◌&&◌, ◌||◌, not, List, [], ◌∷◌, length, map, Option, Some, None, is_some, refl, sym, ap, ◌∙◌, subst, arith, eqb-true}
use Rattle.std.specs.Prelude.{find, option_map, ◌==◌, if◌then◌else◌}
use Rattle.std.specs.List.{All}
use Rattle.std.proofs.lemmas.Bool.{and_parts, or_parts, not-true, eq-eqb}
use Rattle.std.proofs.lemmas.Bool.Decides.{nat_tests}
use Rattle.std.proofs.lemmas.List.{length-map}
use Rattle.std.proofs.lemmas.List.Elements.{All-nil, All-cons, All-head, All-tail, All-map}
use Rattle.std.proofs.lemmas.List.Sums.{sum_by-cons}
use Rattle.desk_laws.specs.declared.row_id.RowId.{RowId}
use Rattle.desk_laws.specs.Rows.{Row, id_of, row_with}
use Rattle.desk_laws.specs.Layers.{is_in, are_apart}
use Rattle.desk_laws.specs.Effects.{refs_of, refs_besides}
use Rattle.desk_laws.specs.Checks.{LooksSame}
use Rattle.desk_laws.specs.Ranges.{IsPlace}
use Rattle.tile_store.specs.Tile.{Tile}
use Rattle.window_table.specs.Entries.{Entry, AreApart, entry_at, entry_with, row_of, plain_rows}
use Rattle.guest_session.specs.SessionView.{AreRows}
use Rattle.guest_session.specs.RowsView.{own_row, own_rows}

-- ---- what is found

pub find-map : {X Y : Type 0} (p : Y → Bool) (f : X → Y) (xs : List X) → find p (map f xs) ≡ option_map f (find (λ x. p (f x)) xs)
find-map p f [] = refl
find-map p f (x ∷ xs) = ap (λ o. cond (p (f x)) (Some (f x)) o) (find-map p f xs) ∙ turned (p (f x))
  where
    turned : (b : Bool) → cond b (Some (f x)) (option_map f (find (λ y. p (f y)) xs)) ≡ option_map f (cond b (Some x) (find (λ y. p (f y)) xs))
    turned true = refl
    turned false = refl

pub is_some-mapped : {X Y : Type 0} (f : X → Y) (o : Option X) → is_some (option_map f o) ≡ is_some o
is_some-mapped f None = refl
is_some-mapped f (Some x) = refl

-- what holds of all holds of what is found
pub All-find : {X : Type 0} (P : X → Type 0) (p : X → Bool) (xs : List X) (x : X) → All P xs → find p xs ≡ Some x → P x
All-find P p [] x all e = absurd cc
All-find P p (y ∷ ys) x all e = by (p y) refl (All-find P p ys x (All-tail P y ys all))
  where
    by : (b : Bool) → p y ≡ b → (find p ys ≡ Some x → P x) → P x
    by true t later =
        let here : Some y ≡ Some x = sym (ap (λ b. cond b (Some y) (find p ys)) t) ∙ e in
        let same : y ≡ x = cc in
        subst P same (All-head P y ys all)
    by false t later = later (sym (ap (λ b. cond b (Some y) (find p ys)) t) ∙ e)

pub row-found : (guest window : ℕ) (held : List Tile) (entries : List Entry) → row_with window (own_rows guest held entries) ≡ option_map (own_row guest held) (entry_with window entries)
row-found guest window held entries = find-map (λ row. row.window == window) (own_row guest held) entries

pub plain-found : (window : ℕ) (entries : List Entry) → row_with window (plain_rows entries) ≡ option_map (row_of 0 []) (entry_with window entries)
plain-found window entries = find-map (λ row. row.window == window) (row_of 0 []) entries

-- whether a window is known, among the entries and among the rows
pub known-is : (guest window : ℕ) (held : List Tile) (entries : List Entry) → is_some (row_with window (plain_rows entries)) ≡ is_some (row_with window (own_rows guest held entries))
known-is guest window held entries =
    ap is_some (plain-found window entries) ∙ is_some-mapped (row_of 0 []) (entry_with window entries)
    ∙ sym (ap is_some (row-found guest window held entries) ∙ is_some-mapped (own_row guest held) (entry_with window entries))

-- ---- an entry of a window is the only one, and the only one at its slot

abbrev pub Names : ℕ → Entry → Entry → Type 0
Names window e x = ((x.slot == e.slot) ≡ (x.window == window)) × ((x.window == window) ≡ true → x ≡ e)

abbrev pub keyed : ℕ → RowId
keyed n = record { guest = 0; window = n }

swapped : (a b : ℕ) → (a == b) ≡ (b == a)
swapped a b = grind (arith, nat_tests)

key-differs : (key : Entry → ℕ) (n : ℕ) (xs : List Entry) → is_in (map (λ e. keyed (key e)) xs) (keyed n) ≡ false
    → All (λ x. (key x == n) ≡ false) xs
key-differs key n [] out = All-nil (λ x. (key x == n) ≡ false)
key-differs key n (x ∷ xs) out =
    let parts = or_parts (n == key x) (is_in (map (λ e. keyed (key e)) xs) (keyed n)) out in
    All-cons (λ y. (key y == n) ≡ false) x xs (swapped (key x) n ∙ parts.0) (key-differs key n xs parts.1)

pub apart-head : (key : Entry → ℕ) (x : Entry) (xs : List Entry) → are_apart (map (λ e. keyed (key e)) (x ∷ xs)) ≡ true
    → All (λ y. (key y == key x) ≡ false) xs
apart-head key x xs apart =
    key-differs key (key x) xs
    (not-true _ (and_parts (not (is_in (map (λ e. keyed (key e)) xs) (keyed (key x)))) (are_apart (map (λ e. keyed (key e)) xs)) apart).0)

pub apart-tail : (key : Entry → ℕ) (x : Entry) (xs : List Entry) → are_apart (map (λ e. keyed (key e)) (x ∷ xs)) ≡ true
    → are_apart (map (λ e. keyed (key e)) xs) ≡ true
apart-tail key x xs apart =
    (and_parts (not (is_in (map (λ e. keyed (key e)) xs) (keyed (key x)))) (are_apart (map (λ e. keyed (key e)) xs)) apart).1

-- those behind the entry of the window are of another window, and at another slot
names-behind : (window : ℕ) (e : Entry) (xs : List Entry) → e.window ≡ window
    → All (λ y. (y.window == e.window) ≡ false) xs → All (λ y. (y.slot == e.slot) ≡ false) xs → All (Names window e) xs
names-behind window e [] is ws ss = All-nil (Names window e)
names-behind window e (x ∷ xs) is ws ss =
    let w : (x.window == window) ≡ false = ap (λ n. x.window == n) (sym is) ∙ All-head (λ y. (y.window == e.window) ≡ false) x xs ws in
    All-cons (Names window e) x xs (All-head (λ y. (y.slot == e.slot) ≡ false) x xs ss ∙ sym w, λ t. absurd cc)
    (names-behind window e xs is (All-tail (λ y. (y.window == e.window) ≡ false) x xs ws) (All-tail (λ y. (y.slot == e.slot) ≡ false) x xs ss))

pub names-all : (window : ℕ) (e : Entry) (xs : List Entry) → AreApart xs → entry_with window xs ≡ Some e → All (Names window e) xs
names-all window e [] apart found = absurd cc
names-all window e (x ∷ xs) apart found = by (x.window == window) refl (names-all window e xs)
  where
    ws : All (λ y. (y.window == x.window) ≡ false) xs
    ws = apart-head (λ y. y.window) x xs apart.windows

    ss : All (λ y. (y.slot == x.slot) ≡ false) xs
    ss = apart-head (λ y. y.slot) x xs apart.slots

    by : (b : Bool) → (x.window == window) ≡ b → (AreApart xs → entry_with window xs ≡ Some e → All (Names window e) xs) → All (Names window e) (x ∷ xs)
    by true t rest =
        let here : Some x ≡ Some e = sym (ap (λ b. cond b (Some x) (entry_with window xs)) t) ∙ found in
        let same : x ≡ e = cc in
        let P : Entry → Type 0 = λ z. All (Names window z) (x ∷ xs) in
        subst P same
        (All-cons (Names window x) x xs (eq-eqb x.slot x.slot refl ∙ sym t, λ _. refl)
        (names-behind window x xs (eqb-true x.window window t) ws ss))
    by false t rest =
        let later : entry_with window xs ≡ Some e = sym (ap (λ b. cond b (Some x) (entry_with window xs)) t) ∙ found in
        let behind : AreApart xs = record {
          windows = apart-tail (λ y. y.window) x xs apart.windows;
          slots = apart-tail (λ y. y.slot) x xs apart.slots;
        } in
        let slot : (e.slot == x.slot) ≡ false = All-find (λ y. (y.slot == x.slot) ≡ false) (λ y. y.window == window) xs e ss later in
        All-cons (Names window e) x xs (swapped x.slot e.slot ∙ slot ∙ sym t, λ u. absurd cc) (rest behind later)

named-found : (window : ℕ) (e : Entry) (xs : List Entry) → All (Names window e) xs → entry_with window xs ≡ Some e → entry_at e.slot xs ≡ Some e
named-found window e [] all is = absurd cc
named-found window e (x ∷ xs) all is = by (x.window == window) refl (named-found window e xs (All-tail (Names window e) x xs all))
  where
    here : Names window e x
    here = All-head (Names window e) x xs all

    by : (b : Bool) → (x.window == window) ≡ b → (entry_with window xs ≡ Some e → entry_at e.slot xs ≡ Some e) → entry_at e.slot (x ∷ xs) ≡ Some e
    by true t later = ap (λ b. cond b (Some x) (entry_at e.slot xs)) (here.0 ∙ t) ∙ ap Some (here.1 t)
    by false t later =
        ap (λ b. cond b (Some x) (entry_at e.slot xs)) (here.0 ∙ t)
        ∙ later (sym (ap (λ b. cond b (Some x) (entry_with window xs)) t) ∙ is)

-- the entry that a window has is the one at its slot
pub slot-found : (window : ℕ) (e : Entry) (xs : List Entry) → AreApart xs → entry_with window xs ≡ Some e → entry_at e.slot xs ≡ Some e
slot-found window e xs apart found = named-found window e xs (names-all window e xs apart found) found

-- the entry of a window has it
pub found-window : (window : ℕ) (e : Entry) (xs : List Entry) → entry_with window xs ≡ Some e → e.window ≡ window
found-window window e [] is = absurd cc
found-window window e (x ∷ xs) is = by (x.window == window) refl (found-window window e xs)
  where
    by : (b : Bool) → (x.window == window) ≡ b → (entry_with window xs ≡ Some e → e.window ≡ window) → e.window ≡ window
    by true t later =
        let here : Some x ≡ Some e = sym (ap (λ b. cond b (Some x) (entry_with window xs)) t) ∙ is in
        let same : x ≡ e = cc in
        ap (λ (z : Entry). z.window) (sym same) ∙ eqb-true x.window window t
    by false t later = later (sym (ap (λ b. cond b (Some x) (entry_with window xs)) t) ∙ is)

-- ---- what a window's slot tells

-- a window that has a slot
pub record HasSlot (window slot : ℕ) (entries : List Entry) : Type 0 where
  pub entry : Entry
  pub with_window : entry_with window entries ≡ Some entry
  pub at_slot : entry_at slot entries ≡ Some entry
  pub slot_is : entry.slot ≡ slot
  pub window_is : entry.window ≡ window

slot-of-some : (window slot : ℕ) (entries : List Entry) (o : Option Entry) → AreApart entries → entry_with window entries ≡ o
    → Some slot ≡ option_map (λ (e : Entry). e.slot) o → HasSlot window slot entries
slot-of-some window slot entries None apart is e = absurd cc
slot-of-some window slot entries (Some entry) apart is e =
    let same : entry.slot ≡ slot = cc in
    record {
      entry = entry;
      with_window = is;
      at_slot = ap (λ n. entry_at n entries) (sym same) ∙ slot-found window entry entries apart is;
      slot_is = same;
      window_is = found-window window entry entries is;
    }

pub has_slot : (window slot : ℕ) (entries : List Entry) → AreApart entries
    → Some slot ≡ option_map (λ (e : Entry). e.slot) (entry_with window entries) → HasSlot window slot entries
has_slot window slot entries apart e = slot-of-some window slot entries (entry_with window entries) apart refl e

-- a window that has none
pub no_slot : (o : Option Entry) → None ≡ option_map (λ (e : Entry). e.slot) o → o ≡ None
no_slot None e = refl
no_slot (Some x) e = absurd cc

-- ---- the rows of all entries

is_in-own : (guest n : ℕ) (held : List Tile) (entries : List Entry) → is_in (map id_of (own_rows guest held entries)) (record { guest = guest; window = n }) ≡ is_in (map (λ e. keyed e.window) entries) (keyed n)
is_in-own guest n held [] = refl
is_in-own guest n held (e ∷ entries) =
    ap (λ b. (b && (n == e.window)) || is_in (map id_of (own_rows guest held entries)) (record { guest = guest; window = n })) (eq-eqb guest guest refl)
    ∙ ap (λ b. (n == e.window) || b) (is_in-own guest n held entries)

apart-own : (guest : ℕ) (held : List Tile) (entries : List Entry) → are_apart (map id_of (own_rows guest held entries)) ≡ are_apart (map (λ e. keyed e.window) entries)
apart-own guest held [] = refl
apart-own guest held (e ∷ entries) =
    ap (λ b. not b && are_apart (map id_of (own_rows guest held entries))) (is_in-own guest e.window held entries)
    ∙ ap (λ b. not (is_in (map (λ x. keyed x.window) entries) (keyed e.window)) && b) (apart-own guest held entries)

guest-own : (guest : ℕ) (held : List Tile) (entries : List Entry) → All (λ row. row.guest ≡ guest) (own_rows guest held entries)
guest-own guest held [] = All-nil (λ (row : Row). row.guest ≡ guest)
guest-own guest held (e ∷ entries) = All-cons (λ (row : Row). row.guest ≡ guest) (own_row guest held e) (own_rows guest held entries) refl (guest-own guest held entries)

-- the rows of a guest are as a session promises
pub are_rows : (guest : ℕ) (held : List Tile) (entries : List Entry) → AreApart entries → length entries ≤ 1024 → All (λ e. IsPlace e.pane.place) entries
    → AreRows guest (own_rows guest held entries)
are_rows guest held entries apart few placed = record {
  own = guest-own guest held entries;
  apart = apart-own guest held entries ∙ apart.windows;
  few = let e = length-map entries (own_row guest held) in omega (arith, few);
  placed = All-map (λ (row : Row). IsPlace row.place) (own_row guest held) entries placed;
}

refs-same : (guest window : ℕ) (held : List Tile) (entries : List Entry) → refs_besides window (plain_rows entries) ≡ refs_besides window (own_rows guest held entries)
refs-same guest window held [] = refl
refs-same guest window held (e ∷ entries) =
    sum_by-cons (λ (row : Row). if row.window == window then 0 else refs_of row.dump) (row_of 0 [] e) (plain_rows entries)
    ∙ ap (λ n. (if e.window == window then 0 else refs_of e.dump) + n) (refs-same guest window held entries)
    ∙ sym (sum_by-cons (λ (row : Row). if row.window == window then 0 else refs_of row.dump) (own_row guest held e) (own_rows guest held entries))

-- to a check the entries look like the rows
pub looks_same : (guest : ℕ) (held : List Tile) (entries : List Entry) → LooksSame (plain_rows entries) (own_rows guest held entries)
looks_same guest held entries = record {
  known = λ window. known-is guest window held entries;
  count = length-map entries (row_of 0 []) ∙ sym (length-map entries (own_row guest held));
  refs = λ window. refs-same guest window held entries;
}
