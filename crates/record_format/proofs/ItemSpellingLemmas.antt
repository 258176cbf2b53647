-- An item's spelling is read again, whatever follows it.
use Rattle.std.proofs.Common.{◌≡◌, ℕ, ◌+◌, ◌-◌, ◌%◌, ◌<◌, ◌≤◌, ◌^◌, List, ◌++◌, length, Bool, true, false, Some, ℤ, sym, ap, ◌∙◌, arith, w32}
use Rattle.std.specs.Prelude.{nat_lt, nat_le, ◌&&◌, slice_index, FitsSigned}
use Rattle.std.specs.Int.{cast_signed}
use Rattle.std.proofs.Math.Facts.{Fits-of_z}
use Rattle.std.proofs.lemmas.Int.{to_z-of_z}
use Rattle.std.proofs.lemmas.Bool.Decides.{nat_tests}
use Rattle.byteorder.specs.Endian.{little_number}
use Rattle.byteorder.specs.Numbers.{little_number-reads_back}
use Rattle.gui_wire.specs.Words.{word, word_at, unsigned}
use Rattle.gui_wire.proofs.WordLemmas.{word_at-word}
use Rattle.desk_laws.specs.Rules.{within}
use Rattle.desk_laws.specs.Items.{FitsItem}
use Rattle.desk_laws.specs.declared.item.Item.{Item}
use Rattle.desk_laws.specs.declared.item.Item.TheVariants.{Bytes, Closed, Store, Key, Move, Press, Close, Next, Restore, MoveTo, SizeTo, Snap, End, Lost, Idle}
use Rattle.record_format.specs.ItemSpellings.{half, signed_word, item_spelling, HasWidths, FitsRecord}
use Rattle.record_format.specs.ItemFields.{fields_len, if_right, is_change, item_read}

-- fields that are right are the item
right_is : (b : Bool) (item : Item) (len : ℕ) → b ≡ true → if_right b item len ≡ Some (item, len)
right_is b item len is = ap (λ (c : Bool). if_right c item len) is

half_back : (n : ℕ) (rest : List ℕ) → n < 2 ^ 16 → little_number 2 (half n ++ rest) ≡ n
half_back n rest small = little_number-reads_back 2 n rest small

unsigned-fits : (z : ℤ) → FitsSigned w32 z → unsigned z < 2 ^ 32
unsigned-fits z h = let f = Fits-of_z {w = w32} {z = z} h in omega (arith, f)

pub signed_back : (z : ℤ) (rest : List ℕ) → FitsSigned w32 z → cast_signed w32 (word_at 0 (signed_word z ++ rest)) ≡ z
signed_back z rest h = ap (cast_signed w32) (word_at-word (unsigned z) rest (unsigned-fits z h)) ∙ to_z-of_z w32 z h

piece_right : (guests guest len : ℕ) → guest < guests → 1 ≤ len → len ≤ 65536 → (nat_lt guest guests && within 1 65536 len) ≡ true
piece_right guests guest len there some most = grind (arith, nat_tests)

guest_right : (guests guest : ℕ) → guest < guests → nat_lt guest guests ≡ true
guest_right guests guest there = grind (arith, nat_tests)

state_right : (state : ℕ) → state ≤ 8191 → nat_le state 8191 ≡ true
state_right state most = grind (arith, nat_tests)

press_right : (button state : ℕ) → 1 ≤ button → button ≤ 15 → state ≤ 8191 → (within 1 15 button && nat_le state 8191) ≡ true
press_right button state some few most = grind (arith, nat_tests)

store_right : (guests pages guest page offset len : ℕ) → guest < guests → page < pages → offset % 4 ≡ 0 → len % 4 ≡ 0 → 4 ≤ len → offset + len ≤ 4096
    → (nat_lt guest guests && is_change pages page offset len) ≡ true
store_right guests pages guest page offset len there page_in aligned whole some inside = grind (arith, nat_tests)

-- what is spelled is read again
pub item_back : (guests pages : ℕ) → pages < 2 ^ 32 → (item : Item) (len : ℕ) (rest : List ℕ) → FitsRecord guests pages item len → item_read guests pages (item_spelling item len ++ rest) ≡ Some (item, len)
item_back guests pages few (Bytes guest) len rest fits =
    let size : word_at 0 (word len ++ rest) ≡ len = word_at-word len rest (omega (arith, fits.range.1.most)) in
    (λ i. if_right (nat_lt guest guests && within 1 65536 (size i)) (Bytes guest) (size i))
    ∙ right_is (nat_lt guest guests && within 1 65536 len) (Bytes guest) len (piece_right guests guest len fits.range.0 fits.range.1.some fits.range.1.most)
item_back guests pages few (Closed guest) len rest fits =
    right_is (nat_lt guest guests) (Closed guest) 0 (guest_right guests guest fits.range.0) ∙ ap (λ (n : ℕ). Some (Closed guest, n)) (sym fits.range.1)
item_back guests pages few (Lost guest) len rest fits =
    right_is (nat_lt guest guests) (Lost guest) 0 (guest_right guests guest fits.range.0) ∙ ap (λ (n : ℕ). Some (Lost guest, n)) (sym fits.range.1)
item_back guests pages few (Store guest delay page offset) len rest fits =
    let d : little_number 2 (half delay ++ word page ++ word offset ++ word len ++ rest) ≡ delay = half_back delay (word page ++ word offset ++ word len ++ rest) fits.widths in
    let p : word_at 0 (word page ++ word offset ++ word len ++ rest) ≡ page = word_at-word page (word offset ++ word len ++ rest) (omega (arith, few, fits.range.1.page_in)) in
    let o : word_at 0 (word offset ++ word len ++ rest) ≡ offset = word_at-word offset (word len ++ rest) (omega (arith, fits.range.1.within)) in
    let l : word_at 0 (word len ++ rest) ≡ len = word_at-word len rest (omega (arith, fits.range.1.within)) in
    (λ i. if_right (nat_lt guest guests && is_change pages (p i) (o i) (l i)) (Store guest (d i) (p i) (o i)) (l i))
    ∙ right_is (nat_lt guest guests && is_change pages page offset len) (Store guest delay page offset) len
    (store_right guests pages guest page offset len fits.range.0 fits.range.1.page_in fits.range.1.offset_aligned fits.range.1.len_aligned fits.range.1.some fits.range.1.within)
item_back guests pages few (Key true code state) len rest fits =
    let s : little_number 2 (half state ++ rest) ≡ state = half_back state rest (omega (arith, fits.range.0)) in
    (λ i. if_right (nat_le (s i) 8191) (Key true code (s i)) 0)
    ∙ right_is (nat_le state 8191) (Key true code state) 0 (state_right state fits.range.0) ∙ ap (λ (n : ℕ). Some (Key true code state, n)) (sym fits.range.1)
item_back guests pages few (Key false code state) len rest fits =
    let s : little_number 2 (half state ++ rest) ≡ state = half_back state rest (omega (arith, fits.range.0)) in
    (λ i. if_right (nat_le (s i) 8191) (Key false code (s i)) 0)
    ∙ right_is (nat_le state 8191) (Key false code state) 0 (state_right state fits.range.0) ∙ ap (λ (n : ℕ). Some (Key false code state, n)) (sym fits.range.1)
item_back guests pages few (Move x y state) len rest fits =
    let a : cast_signed w32 (word_at 0 (signed_word x ++ signed_word y ++ half state ++ rest)) ≡ x = signed_back x (signed_word y ++ half state ++ rest) fits.widths.0 in
    let b : cast_signed w32 (word_at 0 (signed_word y ++ half state ++ rest)) ≡ y = signed_back y (half state ++ rest) fits.widths.1 in
    let s : little_number 2 (half state ++ rest) ≡ state = half_back state rest (omega (arith, fits.range.0)) in
    (λ i. if_right (nat_le (s i) 8191) (Move (a i) (b i) (s i)) 0)
    ∙ right_is (nat_le state 8191) (Move x y state) 0 (state_right state fits.range.0) ∙ ap (λ (n : ℕ). Some (Move x y state, n)) (sym fits.range.1)
item_back guests pages few (Press true button state) len rest fits =
    let s : little_number 2 (half state ++ rest) ≡ state = half_back state rest (omega (arith, fits.range.1.0)) in
    (λ i. if_right (within 1 15 button && nat_le (s i) 8191) (Press true button (s i)) 0)
    ∙ right_is (within 1 15 button && nat_le state 8191) (Press true button state) 0 (press_right button state fits.range.0.0 fits.range.0.1 fits.range.1.0)
    ∙ ap (λ (n : ℕ). Some (Press true button state, n)) (sym fits.range.1.1)
item_back guests pages few (Press false button state) len rest fits =
    let s : little_number 2 (half state ++ rest) ≡ state = half_back state rest (omega (arith, fits.range.1.0)) in
    (λ i. if_right (within 1 15 button && nat_le (s i) 8191) (Press false button (s i)) 0)
    ∙ right_is (within 1 15 button && nat_le state 8191) (Press false button state) 0 (press_right button state fits.range.0.0 fits.range.0.1 fits.range.1.0)
    ∙ ap (λ (n : ℕ). Some (Press false button state, n)) (sym fits.range.1.1)
item_back guests pages few Close len rest fits = ap (λ (n : ℕ). Some (Close, n)) (sym fits.range)
item_back guests pages few Next len rest fits = ap (λ (n : ℕ). Some (Next, n)) (sym fits.range)
item_back guests pages few Restore len rest fits = ap (λ (n : ℕ). Some (Restore, n)) (sym fits.range)
item_back guests pages few (MoveTo x y) len rest fits =
    let a : cast_signed w32 (word_at 0 (signed_word x ++ signed_word y ++ rest)) ≡ x = signed_back x (signed_word y ++ rest) fits.widths.0 in
    let b : cast_signed w32 (word_at 0 (signed_word y ++ rest)) ≡ y = signed_back y rest fits.widths.1 in
    λ i. Some (MoveTo (a i) (b i), sym fits.range i)
item_back guests pages few (SizeTo x y) len rest fits =
    let a : cast_signed w32 (word_at 0 (signed_word x ++ signed_word y ++ rest)) ≡ x = signed_back x (signed_word y ++ rest) fits.widths.0 in
    let b : cast_signed w32 (word_at 0 (signed_word y ++ rest)) ≡ y = signed_back y rest fits.widths.1 in
    λ i. Some (SizeTo (a i) (b i), sym fits.range i)
item_back guests pages few Snap len rest fits = ap (λ (n : ℕ). Some (Snap, n)) (sym fits.range)
item_back guests pages few End len rest fits = ap (λ (n : ℕ). Some (End, n)) (sym fits.range)
item_back guests pages few Idle len rest fits = absurd fits.widths

-- behind a kind byte stand as many bytes as the table says
pub fields_are : (kind : ℕ) (item : Item) (len : ℕ) → HasWidths item → slice_index (item_spelling item len) 0 ≡ kind → fields_len kind ≡ Some (length (item_spelling item len) - 1)
fields_are kind (Bytes guest) len widths is = ap fields_len (sym is)
fields_are kind (Closed guest) len widths is = ap fields_len (sym is)
fields_are kind (Store guest delay page offset) len widths is = ap fields_len (sym is)
fields_are kind (Key down code state) len widths is = ap fields_len (sym is)
fields_are kind (Move x y state) len widths is = ap fields_len (sym is)
fields_are kind (Press down button state) len widths is = ap fields_len (sym is)
fields_are kind Close len widths is = ap fields_len (sym is)
fields_are kind Next len widths is = ap fields_len (sym is)
fields_are kind Restore len widths is = ap fields_len (sym is)
fields_are kind (MoveTo x y) len widths is = ap fields_len (sym is)
fields_are kind (SizeTo x y) len widths is = ap fields_len (sym is)
fields_are kind Snap len widths is = ap fields_len (sym is)
fields_are kind End len widths is = ap fields_len (sym is)
fields_are kind (Lost guest) len widths is = ap fields_len (sym is)
fields_are kind Idle len widths is = absurd widths

-- an item that is in range has at most the longest piece
pub piece_small : (guests pages : ℕ) (item : Item) (len : ℕ) → FitsItem guests pages item len → len ≤ 65536
piece_small guests pages (Bytes guest) len range = range.1.most
piece_small guests pages (Closed guest) len range = omega (arith, range.1)
piece_small guests pages (Store guest delay page offset) len range = omega (arith, range.1.within)
piece_small guests pages (Key down code state) len range = omega (arith, range.1)
piece_small guests pages (Move x y state) len range = omega (arith, range.1)
piece_small guests pages (Press down button state) len range = omega (arith, range.1.1)
piece_small guests pages Close len range = omega arith
piece_small guests pages Next len range = omega arith
piece_small guests pages Restore len range = omega arith
piece_small guests pages (MoveTo x y) len range = omega arith
piece_small guests pages (SizeTo x y) len range = omega arith
piece_small guests pages Snap len range = omega arith
piece_small guests pages End len range = omega arith
piece_small guests pages (Lost guest) len range = omega (arith, range.1)
piece_small guests pages Idle len range = omega arith
