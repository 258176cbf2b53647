-- What the item at the front of bytes is, part by part.
use Rattle.std.proofs.Common.{◌≡◌, ℕ, zero, suc, ◌+◌, ◌-◌, ◌<◌, ◌≤◌, ◌^◌, List, [], ◌∷◌, ◌++◌, length, take, drop, Option, None, Some, Result, Ok, Err, Bool, true, false, refl, sym, ap, ◌∙◌, subst, arith, append_assoc, append-nil, length-append, length-take}
use Rattle.std.proofs.Math.Seq.{take-append_seam}
use Rattle.std.proofs.lemmas.List.{take-append-drop, drop-drop}
use Rattle.std.proofs.lemmas.Bool.Decides.{nat_tests}
use Rattle.std.specs.Prelude.{slice_index, nat_lt, if◌then◌else◌, IfSome}
use Rattle.io_ports.specs.declared.feed.RecordKind.{RecordKind}
use Rattle.io_ports.specs.declared.feed.RecordKind.TheVariants as kinds
use Rattle.desk_laws.specs.declared.item.Item.{Item}
use Rattle.desk_laws.specs.Items.{FedItem}
use Rattle.io_ports.specs.Content.{IsPrefix}
use Rattle.gui_wire.proofs.WordLemmas.{AreBytes, AreBytes-take}
use Rattle.record_format.specs.ItemSpellings.{item_spelling, fed_spelling, HasWidths, FitsRecord}
use Rattle.record_format.specs.ItemFields.{fields_len, FieldsWithin, HasFields, item_read, IsSpelledBy}
use Rattle.record_format.specs.RecordGrammar.{with_piece, with_fields, item_at}
use Rattle.record_format.proofs.ItemSpellingLemmas.{item_back, fields_are}
use Rattle.record_format.proofs.ReadItemLemmas.{item_spelled}
use Rattle.record_format.proofs.ReaderLemmas.{front_is, back_is, seam}

-- no kind byte
pub kind_short : (guests pages : ℕ) (xs : List ℕ) → length xs < 1 → item_at guests pages xs ≡ Err kinds.Short
kind_short guests pages [] short = refl
kind_short guests pages (k ∷ xs) short = absurd (omega arith)

-- a kind that no item has
pub kind_unknown : (guests pages kind : ℕ) (rest : List ℕ) → fields_len kind ≡ None → item_at guests pages (kind ∷ rest) ≡ Err kinds.Kind
kind_unknown guests pages kind rest none = ap (with_fields guests pages (kind ∷ rest)) none

-- too few fields behind a kind byte
pub fields_short : (guests pages kind n : ℕ) (rest : List ℕ) → fields_len kind ≡ Some n → length rest < n → item_at guests pages (kind ∷ rest) ≡ Err kinds.Short
fields_short guests pages kind n rest some short =
    let few : nat_lt (length (kind ∷ rest)) (1 + n) ≡ true = grind (arith, nat_tests) in
    ap (with_fields guests pages (kind ∷ rest)) some
    ∙ ap (λ (b : Bool). if b then Err kinds.Short else with_piece (1 + n) (drop (1 + n) (kind ∷ rest)) (item_read guests pages (take (1 + n) (kind ∷ rest)))) few

-- a kind byte with all its fields, and what stands behind them
pub fields_whole : (guests pages n : ℕ) (front tail : List ℕ) → length front ≡ 1 + n → fields_len (slice_index front 0) ≡ Some n
    → item_at guests pages (front ++ tail) ≡ with_piece (1 + n) tail (item_read guests pages front)
fields_whole guests pages n [] tail is some = absurd (omega arith)
fields_whole guests pages n (kind ∷ fields) tail is some =
    let all = kind ∷ (fields ++ tail) in
    let there : nat_lt (length all) (1 + n) ≡ false = grind (arith, nat_tests, seam fields tail) in
    ap (with_fields guests pages all) some
    ∙ ap (λ (b : Bool). if b then Err kinds.Short else with_piece (1 + n) (drop (1 + n) all) (item_read guests pages (take (1 + n) all))) there
    ∙ (λ i. with_piece (1 + n) (back_is (1 + n) (kind ∷ fields) tail is i) (item_read guests pages (front_is (1 + n) (kind ∷ fields) tail is i)))

-- too few bytes of the piece
pub piece_short : (before : ℕ) (behind : List ℕ) (item : Item) (len : ℕ) → length behind < len → with_piece before behind (Some (item, len)) ≡ Err kinds.Short
piece_short before behind item len short =
    let few : nat_lt (length behind) len ≡ true = grind (arith, nat_tests) in
    ap (λ (b : Bool). if b then Err kinds.Short else Ok (record { item = item; piece = take len behind }, before + len)) few

-- the whole piece
pub piece_whole : (before : ℕ) (piece tail : List ℕ) (item : Item)
    → with_piece before (piece ++ tail) (Some (item, length piece)) ≡ Ok (record { item = item; piece = piece }, before + length piece)
piece_whole before piece tail item =
    let there : nat_lt (length (piece ++ tail)) (length piece) ≡ false = grind (arith, nat_tests, seam piece tail) in
    ap (λ (b : Bool). if b then Err kinds.Short else Ok (record { item = item; piece = take (length piece) (piece ++ tail) }, before + length piece)) there
    ∙ ap (λ (l : List ℕ). Ok (record { item = item; piece = l }, before + length piece)) (take-append_seam piece tail)

-- a kind with a number of fields stands in a byte
kind_there : (xs : List ℕ) (n : ℕ) → fields_len (slice_index xs 0) ≡ Some n → 1 ≤ length xs
kind_there [] n is = absurd (cc)
kind_there (x ∷ xs) n is = omega arith

-- an item that was spelled with its piece is found, whatever follows it
pub item_found : (guests pages : ℕ) → pages < 2 ^ 32 → (given : FedItem) (tail : List ℕ) → FitsRecord guests pages given.item (length given.piece)
    → item_at guests pages (fed_spelling given ++ tail) ≡ Ok (given, length (fed_spelling given))
item_found guests pages few given tail fits =
    let len = length given.piece in
    let front = item_spelling given.item len in
    let n = length front - 1 in
    let fields : fields_len (slice_index front 0) ≡ Some n = fields_are (slice_index front 0) given.item len fits.widths refl in
    let some : 1 ≤ length front = kind_there front n fields in
    let read : item_read guests pages front ≡ Some (given.item, len) = ap (item_read guests pages) (sym (append-nil front)) ∙ item_back guests pages few given.item len [] fits in
    let size : 1 + n + len ≡ length (fed_spelling given) = omega (arith, length-append front given.piece) in
    ap (item_at guests pages) (append_assoc front given.piece tail)
    ∙ fields_whole guests pages n front (given.piece ++ tail) (omega arith) fields
    ∙ ap (with_piece (1 + n) (given.piece ++ tail)) read
    ∙ piece_whole (1 + n) given.piece tail given.item
    ∙ ap (λ (k : ℕ). Ok (given, k)) size

-- ---- the other way

-- a test of which nothing but the second outcome is right
pub else_was : {X : Type 0} (b : Bool) (e : RecordKind) (r : Result X RecordKind) (x : X) → (if b then Err e else r) ≡ Ok x → (b ≡ false) × (r ≡ Ok x)
else_was true e r x is = absurd (cc)
else_was false e r x is = (refl, is)

-- what a whole piece tells
record PieceParts (before : ℕ) (behind : List ℕ) (r : Option (Item × ℕ)) (given : FedItem) (size : ℕ) : Type 0 where
  len : ℕ
  read : r ≡ Some (given.item, len)
  enough : len ≤ length behind
  piece : given.piece ≡ take len behind
  total : size ≡ before + len

long_enough : (a b : ℕ) → nat_lt a b ≡ false → b ≤ a
long_enough a b is = grind (arith, nat_tests, is)

piece_parts : (before : ℕ) (behind : List ℕ) (r : Option (Item × ℕ)) (given : FedItem) (size : ℕ) → with_piece before behind r ≡ Ok (given, size) → PieceParts before behind r given size
piece_parts before behind None given size is = absurd (cc)
piece_parts before behind (Some found) given size is =
    let enough = else_was (nat_lt (length behind) found.1) kinds.Short _ (given, size) is in
    let same : ◌≡◌ {A = FedItem × ℕ} (record { item = found.0; piece = take found.1 behind }, before + found.1) (given, size) = cc in
    let item : found.0 ≡ given.item = ap (λ (p : FedItem × ℕ). p.0.item) same in
    record {
      len = found.1;
      read = λ i. Some (item i, found.1);
      enough = long_enough (length behind) found.1 enough.0;
      piece = ap (λ (p : FedItem × ℕ). p.0.piece) (sym same);
      total = ap (λ (p : FedItem × ℕ). p.1) (sym same);
    }

-- what an item that is found tells
pub record ItemParts (guests pages : ℕ) (bytes : List ℕ) (given : FedItem) (size : ℕ) : Type 0 where
  pub n : ℕ
  pub len : ℕ
  pub kind : fields_len (slice_index bytes 0) ≡ Some n
  pub fields : 1 + n ≤ length bytes
  pub read : item_read guests pages (take (1 + n) bytes) ≡ Some (given.item, len)
  pub enough : len ≤ length (drop (1 + n) bytes)
  pub piece : given.piece ≡ take len (drop (1 + n) bytes)
  pub total : size ≡ 1 + n + len

fields_parts : (guests pages : ℕ) (bytes : List ℕ) (r : Option ℕ) (given : FedItem) (size : ℕ) → fields_len (slice_index bytes 0) ≡ r → with_fields guests pages bytes r ≡ Ok (given, size) → ItemParts guests pages bytes given size
fields_parts guests pages bytes None given size is found = absurd (cc)
fields_parts guests pages bytes (Some n) given size is found =
    let first = else_was (nat_lt (length bytes) (1 + n)) kinds.Short _ (given, size) found in
    let parts = piece_parts (1 + n) (drop (1 + n) bytes) (item_read guests pages (take (1 + n) bytes)) given size first.1 in
    record {
      n = n;
      len = parts.len;
      kind = is;
      fields = long_enough (length bytes) (1 + n) first.0;
      read = parts.read;
      enough = parts.enough;
      piece = parts.piece;
      total = parts.total;
    }

pub item_parts : (guests pages : ℕ) (bytes : List ℕ) (given : FedItem) (size : ℕ) → item_at guests pages bytes ≡ Ok (given, size) → ItemParts guests pages bytes given size
item_parts guests pages [] given size is = absurd (cc)
item_parts guests pages (kind ∷ rest) given size is = fields_parts guests pages (kind ∷ rest) (fields_len kind) given size refl is

same_kind : (xs ys : List ℕ) → 1 ≤ length xs → slice_index (xs ++ ys) 0 ≡ slice_index xs 0
same_kind [] ys some = absurd (omega arith)
same_kind (x ∷ xs) ys some = refl

some_same : (a b : ℕ) → Some a ≡ Some b → a ≡ b
some_same a b is = cc

no_more : (xs ys : List ℕ) → length (xs ++ ys) ≡ length xs → xs ++ ys ≡ xs
no_more xs [] is = append-nil xs
no_more xs (y ∷ ys) is = absurd (omega (arith, length-append xs (y ∷ ys)))

spelling_some : (item : Item) (len : ℕ) → HasWidths item → 1 ≤ length (item_spelling item len)
spelling_some item len widths = kind_there (item_spelling item len) (length (item_spelling item len) - 1) (fields_are (slice_index (item_spelling item len) 0) item len widths refl)

-- a kind byte with all its fields that begins with an item's spelling is just that
pub front_was : (n : ℕ) (front : List ℕ) (item : Item) (len : ℕ) → length front ≡ 1 + n → fields_len (slice_index front 0) ≡ Some n → HasWidths item → IsPrefix (item_spelling item len) front
    → front ≡ item_spelling item len
front_was n front item len size kind widths begins =
    let spelled = item_spelling item len in
    let some = spelling_some item len widths in
    let first : slice_index spelled 0 ≡ slice_index front 0 = sym (same_kind spelled begins.0 some) ∙ ap (λ (l : List ℕ). slice_index l 0) begins.1 in
    let fields : fields_len (slice_index front 0) ≡ Some (length spelled - 1) = fields_are (slice_index front 0) item len widths first in
    let same : n ≡ length spelled - 1 = some_same n (length spelled - 1) (sym kind ∙ fields) in
    let whole : length (spelled ++ begins.0) ≡ length front = ap length begins.1 in
    sym begins.1 ∙ no_more spelled begins.0 (omega (arith, whole, some))

-- an item that is found was spelled with its piece, and fits the record
pub record ItemWas (guests pages : ℕ) (bytes : List ℕ) (given : FedItem) (size : ℕ) : Type 0 where
  pub fits : FitsRecord guests pages given.item (length given.piece)
  pub total : size ≡ length (fed_spelling given)
  pub spelled : bytes ≡ fed_spelling given ++ drop size bytes

pub item_was : (guests pages : ℕ) (bytes : List ℕ) (given : FedItem) (size : ℕ) → AreBytes bytes → item_at guests pages bytes ≡ Ok (given, size) → ItemWas guests pages bytes given size
item_was guests pages bytes given size h is =
    let parts = item_parts guests pages bytes given size is in
    let n = parts.n in
    let len = parts.len in
    let front = take (1 + n) bytes in
    let behind = drop (1 + n) bytes in
    let long : length front ≡ 1 + n = omega (arith, parts.fields, length-take (1 + n) bytes) in
    let kind : fields_len (slice_index front 0) ≡ Some n = ap (λ (k : ℕ). fields_len k) (first_taken (1 + n) bytes (omega arith)) ∙ parts.kind in
    let has : HasFields front = record { some = omega arith; all = fields_within front n kind (omega arith) } in
    let spelled : IsSpelledBy guests pages front (given.item, len) =
    subst (λ (r : Option (Item × ℕ)). IfSome r (IsSpelledBy guests pages front)) parts.read (item_spelled guests pages front (AreBytes-take (1 + n) bytes h) has) in
    let size_of : length given.piece ≡ len = ap length parts.piece ∙ omega (arith, parts.enough, length-take len behind) in
    let front_is_it : front ≡ item_spelling given.item len = front_was n front given.item len long kind spelled.fits.widths spelled.spelled in
    let whole : front ++ given.piece ≡ fed_spelling given = λ i. (front_is_it ∙ ap (item_spelling given.item) (sym size_of)) i ++ given.piece in
    record {
      fits = subst (FitsRecord guests pages given.item) (sym size_of) spelled.fits;
      total = parts.total ∙ omega (arith, long, size_of, ap length whole, length-append front given.piece);
      spelled =
          sym (take-append-drop (1 + n) bytes) ∙ ap (λ (l : List ℕ). front ++ l) (sym (take-append-drop len behind))
          ∙ (λ i. front ++ (sym parts.piece i ++ drop-drop len (1 + n) bytes i))
          ∙ (λ i. front ++ (given.piece ++ drop (sym parts.total i) bytes))
          ∙ sym (append_assoc front given.piece (drop size bytes))
          ∙ ap (λ (l : List ℕ). l ++ drop size bytes) whole;
    }
  where
    first_taken : (m : ℕ) (xs : List ℕ) → 1 ≤ m → slice_index (take m xs) 0 ≡ slice_index xs 0
    first_taken zero xs some = absurd (omega arith)
    first_taken (suc m) [] some = refl
    first_taken (suc m) (x ∷ xs) some = refl

    fields_within : (xs : List ℕ) (n : ℕ) → fields_len (slice_index xs 0) ≡ Some n → 1 + n ≤ length xs → FieldsWithin (fields_len (slice_index xs 0)) (length xs)
    fields_within xs n is enough = subst (λ (r : Option ℕ). FieldsWithin r (length xs)) (sym is) enough
