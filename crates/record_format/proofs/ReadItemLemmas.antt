-- What is read of an item was spelled, and the item fits the record.
use Rattle.std.proofs.Common.{◌≡◌, ℕ, ◌<◌, ◌≤◌, List, ◌∷◌, ◌++◌, length, drop, Bool, true, false, Option, None, Some, ℤ, pos, refl, sym, ap, ◌∙◌, subst, arith, w32}
use Rattle.std.proofs.lemmas.Bool.Decides.{nat_tests}
use Rattle.std.specs.Prelude.{slice_index, nat_lt, nat_le, ◌&&◌, ◌==◌, if◌then◌else◌, IfSome, FitsSigned}
use Rattle.gui_wire.specs.Words.{word}
use Rattle.gui_wire.proofs.WordLemmas.{AreBytes}
use Rattle.desk_laws.specs.Rules.{within}
use Rattle.desk_laws.specs.Items.{FitsItem}
use Rattle.desk_laws.specs.declared.item.Item.{Item}
use Rattle.desk_laws.specs.declared.item.Item.TheVariants.{Bytes, Closed, Store, Key, Move, Press, Close, Next, Restore, MoveTo, SizeTo, Snap, End, Lost}
use Rattle.record_format.specs.Config.{number_at, signed_at}
use Rattle.record_format.specs.ItemSpellings.{half, flag, signed_word, command, item_spelling, FitsRecord}
use Rattle.record_format.specs.ItemFields.{fields_len, FieldsWithin, HasFields, half_at, if_right, is_change, piece_read, guest_read, store_read, key_read, move_read, press_read, plain_read, command_read, item_read, IsSpelledBy}
use Rattle.record_format.proofs.FieldLemmas.{byte_on, word_on, half_on, half_small, signed_on, signed_fits, flag_on, kind_on}

-- the kind is none of an item's
pub record IsNoKind (kind : ℕ) : Type 0 where
  pub bytes : kind ≡ 2 → ⊥
  pub closed : kind ≡ 3 → ⊥
  pub store : kind ≡ 4 → ⊥
  pub key : kind ≡ 5 → ⊥
  pub move : kind ≡ 6 → ⊥
  pub press : kind ≡ 7 → ⊥
  pub command : kind ≡ 8 → ⊥
  pub snap : kind ≡ 9 → ⊥
  pub end : kind ≡ 10 → ⊥
  pub lost : kind ≡ 11 → ⊥

pub no_kind : (guests pages : ℕ) (bytes : List ℕ) → IsNoKind (slice_index bytes 0) → item_read guests pages bytes ≡ None
no_kind guests pages bytes none = grind (arith, nat_tests, none.bytes, none.closed, none.store, none.key, none.move, none.press, none.command, none.snap, none.end, none.lost)

-- ---- each kind

if_some : (b : Bool) (item : Item) (len : ℕ) (fact : Item × ℕ → Type 0) → (b ≡ true → fact (item, len)) → IfSome (if_right b item len) fact
if_some true item len fact holds = holds refl
if_some false item len fact holds = tt

-- the fields of each kind, where they are right, are in their ranges

piece_fits : (guests pages guest size : ℕ) → (nat_lt guest guests && within 1 65536 size) ≡ true → FitsItem guests pages (Bytes guest) size
piece_fits guests pages guest size right =
    (grind (arith, nat_tests, right), record { some = grind (arith, nat_tests, right); most = grind (arith, nat_tests, right) })

guest_fits : (guests guest : ℕ) → nat_lt guest guests ≡ true → guest < guests
guest_fits guests guest right = grind (arith, nat_tests, right)

store_fits : (guests pages guest delay page offset size : ℕ) → (nat_lt guest guests && is_change pages page offset size) ≡ true → FitsItem guests pages (Store guest delay page offset) size
store_fits guests pages guest delay page offset size right = (
  grind (arith, nat_tests, right),
  record {
    page_in = grind (arith, nat_tests, right);
    offset_aligned = grind (arith, nat_tests, right);
    len_aligned = grind (arith, nat_tests, right);
    some = grind (arith, nat_tests, right);
    within = grind (arith, nat_tests, right);
  },
)

key_fits : (guests pages down code state : ℕ) → (nat_le down 1 && nat_le state 8191) ≡ true → FitsItem guests pages (Key (down == 1) code state) 0
key_fits guests pages down code state right = (grind (arith, nat_tests, right), refl)

move_fits : (guests pages : ℕ) (x y : ℤ) (state : ℕ) → nat_le state 8191 ≡ true → FitsItem guests pages (Move x y state) 0
move_fits guests pages x y state right = (grind (arith, nat_tests, right), refl)

press_fits : (guests pages down button state : ℕ) → (nat_le down 1 && (within 1 15 button && nat_le state 8191)) ≡ true → FitsItem guests pages (Press (down == 1) button state) 0
press_fits guests pages down button state right = ((grind (arith, nat_tests, right), grind (arith, nat_tests, right)), (grind (arith, nat_tests, right), refl))

piece_spelled : (guests pages : ℕ) (bytes : List ℕ) → AreBytes bytes → 6 ≤ length bytes → slice_index bytes 0 ≡ 2 → IfSome (piece_read guests bytes) (IsSpelledBy guests pages bytes)
piece_spelled guests pages bytes h long is =
    let guest = slice_index bytes 1 in
    let size = number_at 2 bytes in
    if_some (nat_lt guest guests && within 1 65536 size) (Bytes guest) size (IsSpelledBy guests pages bytes) (λ right. record {
      fits = record {
        widths = tt;
        range = piece_fits guests pages guest size right;
      };
      spelled = (
        drop 6 bytes,
        sym (kind_on 2 bytes (omega arith) is ∙ ap (λ (l : List ℕ). 2 ∷ l) (byte_on 1 bytes (omega arith)
            ∙ ap (λ (l : List ℕ). guest ∷ l) (word_on 2 bytes h (omega arith)))),
      );
    })

closed_spelled : (guests pages : ℕ) (bytes : List ℕ) → 2 ≤ length bytes → slice_index bytes 0 ≡ 3 → IfSome (guest_read Closed guests bytes) (IsSpelledBy guests pages bytes)
closed_spelled guests pages bytes long is =
    let guest = slice_index bytes 1 in
    if_some (nat_lt guest guests) (Closed guest) 0 (IsSpelledBy guests pages bytes) (λ right. record {
      fits = record { widths = tt; range = (guest_fits guests guest right, refl) };
      spelled = (drop 2 bytes, sym (kind_on 3 bytes (omega arith) is ∙ ap (λ (l : List ℕ). 3 ∷ l) (byte_on 1 bytes (omega arith))));
    })

lost_spelled : (guests pages : ℕ) (bytes : List ℕ) → 2 ≤ length bytes → slice_index bytes 0 ≡ 11 → IfSome (guest_read Lost guests bytes) (IsSpelledBy guests pages bytes)
lost_spelled guests pages bytes long is =
    let guest = slice_index bytes 1 in
    if_some (nat_lt guest guests) (Lost guest) 0 (IsSpelledBy guests pages bytes) (λ right. record {
      fits = record { widths = tt; range = (guest_fits guests guest right, refl) };
      spelled = (drop 2 bytes, sym (kind_on 11 bytes (omega arith) is ∙ ap (λ (l : List ℕ). 11 ∷ l) (byte_on 1 bytes (omega arith))));
    })

store_spelled : (guests pages : ℕ) (bytes : List ℕ) → AreBytes bytes → 16 ≤ length bytes → slice_index bytes 0 ≡ 4 → IfSome (store_read guests pages bytes) (IsSpelledBy guests pages bytes)
store_spelled guests pages bytes h long is =
    let guest = slice_index bytes 1 in
    let delay = half_at 2 bytes in
    let page = number_at 4 bytes in
    let offset = number_at 8 bytes in
    let size = number_at 12 bytes in
    if_some (nat_lt guest guests && is_change pages page offset size) (Store guest delay page offset) size (IsSpelledBy guests pages bytes) (λ right. record {
      fits = record {
        widths = half_small 2 bytes h;
        range = store_fits guests pages guest delay page offset size right;
      };
      spelled = (
        drop 16 bytes,
        sym (kind_on 4 bytes (omega arith) is ∙ ap (λ (l : List ℕ). 4 ∷ l) (byte_on 1 bytes (omega arith)
            ∙ ap (λ (l : List ℕ). guest ∷ l) (half_on 2 bytes h (omega arith)
            ∙ ap (λ (l : List ℕ). half delay ++ l) (word_on 4 bytes h (omega arith)
            ∙ ap (λ (l : List ℕ). word page ++ l) (word_on 8 bytes h (omega arith)
            ∙ ap (λ (l : List ℕ). word offset ++ l) (word_on 12 bytes h (omega arith))))))),
      );
    })

key_spelled : (guests pages : ℕ) (bytes : List ℕ) → AreBytes bytes → 5 ≤ length bytes → slice_index bytes 0 ≡ 5 → IfSome (key_read bytes) (IsSpelledBy guests pages bytes)
key_spelled guests pages bytes h long is =
    let down = slice_index bytes 1 in
    let code = slice_index bytes 2 in
    let state = half_at 3 bytes in
    if_some (nat_le down 1 && nat_le state 8191) (Key (down == 1) code state) 0 (IsSpelledBy guests pages bytes) (λ right. record {
      fits = record { widths = h 2; range = key_fits guests pages down code state right };
      spelled = (
        drop 5 bytes,
        sym (kind_on 5 bytes (omega arith) is ∙ ap (λ (l : List ℕ). 5 ∷ l) (flag_on 1 bytes (omega arith) (grind (arith, nat_tests, right))
            ∙ ap (λ (l : List ℕ). flag (down == 1) ∷ l) (byte_on 2 bytes (omega arith)
            ∙ ap (λ (l : List ℕ). code ∷ l) (half_on 3 bytes h (omega arith))))),
      );
    })

move_spelled : (guests pages : ℕ) (bytes : List ℕ) → AreBytes bytes → 11 ≤ length bytes → slice_index bytes 0 ≡ 6 → IfSome (move_read bytes) (IsSpelledBy guests pages bytes)
move_spelled guests pages bytes h long is =
    let x = signed_at 1 bytes in
    let y = signed_at 5 bytes in
    let state = half_at 9 bytes in
    if_some (nat_le state 8191) (Move x y state) 0 (IsSpelledBy guests pages bytes) (λ right. record {
      fits = record { widths = (signed_fits 1 bytes h, signed_fits 5 bytes h); range = move_fits guests pages x y state right };
      spelled = (
        drop 11 bytes,
        sym (kind_on 6 bytes (omega arith) is ∙ ap (λ (l : List ℕ). 6 ∷ l) (signed_on 1 bytes h (omega arith)
            ∙ ap (λ (l : List ℕ). signed_word x ++ l) (signed_on 5 bytes h (omega arith)
            ∙ ap (λ (l : List ℕ). signed_word y ++ l) (half_on 9 bytes h (omega arith))))),
      );
    })

press_spelled : (guests pages : ℕ) (bytes : List ℕ) → AreBytes bytes → 5 ≤ length bytes → slice_index bytes 0 ≡ 7 → IfSome (press_read bytes) (IsSpelledBy guests pages bytes)
press_spelled guests pages bytes h long is =
    let down = slice_index bytes 1 in
    let button = slice_index bytes 2 in
    let state = half_at 3 bytes in
    if_some (nat_le down 1 && (within 1 15 button && nat_le state 8191)) (Press (down == 1) button state) 0 (IsSpelledBy guests pages bytes) (λ right. record {
      fits = record { widths = tt; range = press_fits guests pages down button state right };
      spelled = (
        drop 5 bytes,
        sym (kind_on 7 bytes (omega arith) is ∙ ap (λ (l : List ℕ). 7 ∷ l) (flag_on 1 bytes (omega arith) (grind (arith, nat_tests, right))
            ∙ ap (λ (l : List ℕ). flag (down == 1) ∷ l) (byte_on 2 bytes (omega arith)
            ∙ ap (λ (l : List ℕ). button ∷ l) (half_on 3 bytes h (omega arith))))),
      );
    })

-- ---- commands

command_on : (code : ℕ) (bytes : List ℕ) → AreBytes bytes → 10 ≤ length bytes → slice_index bytes 0 ≡ 8 → slice_index bytes 1 ≡ code
    → bytes ≡ command code (signed_at 2 bytes) (signed_at 6 bytes) ++ drop 10 bytes
command_on code bytes h long is coded =
    kind_on 8 bytes (omega arith) is ∙ ap (λ (l : List ℕ). 8 ∷ l) (byte_on 1 bytes (omega arith) ∙ ap (λ (n : ℕ). n ∷ drop 2 bytes) coded
    ∙ ap (λ (l : List ℕ). code ∷ l) (signed_on 2 bytes h (omega arith) ∙ ap (λ (l : List ℕ). signed_word (signed_at 2 bytes) ++ l) (signed_on 6 bytes h (omega arith))))

plain_on : (code : ℕ) (bytes : List ℕ) → AreBytes bytes → 10 ≤ length bytes → slice_index bytes 0 ≡ 8 → slice_index bytes 1 ≡ code → number_at 2 bytes ≡ 0 → number_at 6 bytes ≡ 0
    → bytes ≡ command code (pos 0) (pos 0) ++ drop 10 bytes
plain_on code bytes h long is coded a b =
    kind_on 8 bytes (omega arith) is ∙ ap (λ (l : List ℕ). 8 ∷ l) (byte_on 1 bytes (omega arith) ∙ ap (λ (n : ℕ). n ∷ drop 2 bytes) coded
    ∙ ap (λ (l : List ℕ). code ∷ l) (word_on 2 bytes h (omega arith) ∙ ap (λ (n : ℕ). word n ++ drop 6 bytes) a
    ∙ ap (λ (l : List ℕ). word 0 ++ l) (word_on 6 bytes h (omega arith) ∙ ap (λ (n : ℕ). word n ++ drop 10 bytes) b)))

plain_spelled : (guests pages code : ℕ) (item : Item) (bytes : List ℕ) → AreBytes bytes → 10 ≤ length bytes → slice_index bytes 0 ≡ 8 → slice_index bytes 1 ≡ code
    → FitsRecord guests pages item 0 → item_spelling item 0 ≡ command code (pos 0) (pos 0) → IfSome (plain_read item bytes) (IsSpelledBy guests pages bytes)
plain_spelled guests pages code item bytes h long is coded fits same =
    if_some (number_at 2 bytes == 0 && number_at 6 bytes == 0) item 0 (IsSpelledBy guests pages bytes) (λ right. record {
      fits = fits;
      spelled = (
        drop 10 bytes,
        ap (λ (l : List ℕ). l ++ drop 10 bytes) same
            ∙ sym (plain_on code bytes h long is coded (grind (arith, nat_tests, right)) (grind (arith, nat_tests, right))),
      );
    })

-- a test whose both outcomes were spelled
either : (b : Bool) (r s : Option (Item × ℕ)) (fact : Item × ℕ → Type 0) → (b ≡ true → IfSome r fact) → (b ≡ false → IfSome s fact) → IfSome (if b then r else s) fact
either true r s fact one other = one refl
either false r s fact one other = other refl

same_number : (a b : ℕ) → (a == b) ≡ true → a ≡ b
same_number a b is = grind (arith, nat_tests)

command_spelled : (guests pages : ℕ) (bytes : List ℕ) → AreBytes bytes → 10 ≤ length bytes → slice_index bytes 0 ≡ 8 → IfSome (command_read bytes) (IsSpelledBy guests pages bytes)
command_spelled guests pages bytes h long is =
    let code = slice_index bytes 1 in
    let fact = IsSpelledBy guests pages bytes in
    let both : FitsSigned w32 (signed_at 2 bytes) × FitsSigned w32 (signed_at 6 bytes) = (signed_fits 2 bytes h, signed_fits 6 bytes h) in
    either (code == 1) (plain_read Close bytes) _ fact (λ e. plain_spelled guests pages 1 Close bytes h long is (same_number code 1 e) (record { widths = tt; range = refl }) refl)
    (λ e1. either (code == 2) (plain_read Next bytes) _ fact (λ e. plain_spelled guests pages 2 Next bytes h long is (same_number code 2 e) (record { widths = tt; range = refl }) refl)
    (λ e2. either (code == 3) (plain_read Restore bytes) _ fact (λ e. plain_spelled guests pages 3 Restore bytes h long is (same_number code 3 e) (record { widths = tt; range = refl }) refl)
    (λ e3. either (code == 4) (Some (MoveTo (signed_at 2 bytes) (signed_at 6 bytes), 0)) _ fact
    (λ e. record { fits = record { widths = both; range = refl }; spelled = (drop 10 bytes, sym (command_on 4 bytes h long is (same_number code 4 e))) })
    (λ e4. either (code == 5) (Some (SizeTo (signed_at 2 bytes) (signed_at 6 bytes), 0)) None fact
    (λ e. record { fits = record { widths = both; range = refl }; spelled = (drop 10 bytes, sym (command_on 5 bytes h long is (same_number code 5 e))) })
    (λ e5. tt)))))

-- ---- all kinds

-- there is room for the fields of this kind
room : (kind : ℕ) (bytes : List ℕ) → HasFields bytes → (slice_index bytes 0 == kind) ≡ true → FieldsWithin (fields_len kind) (length bytes)
room kind bytes has e = subst (λ (k : ℕ). FieldsWithin (fields_len k) (length bytes)) (same_number (slice_index bytes 0) kind e) has.all

pub item_spelled : (guests pages : ℕ) (bytes : List ℕ) → AreBytes bytes → HasFields bytes → IfSome (item_read guests pages bytes) (IsSpelledBy guests pages bytes)
item_spelled guests pages bytes h has =
    let kind = slice_index bytes 0 in
    let fact = IsSpelledBy guests pages bytes in
    either (kind == 2) (piece_read guests bytes) _ fact (λ e. piece_spelled guests pages bytes h (room 2 bytes has e) (same_number kind 2 e))
    (λ e2. either (kind == 3) (guest_read Closed guests bytes) _ fact (λ e. closed_spelled guests pages bytes (room 3 bytes has e) (same_number kind 3 e))
    (λ e3. either (kind == 4) (store_read guests pages bytes) _ fact (λ e. store_spelled guests pages bytes h (room 4 bytes has e) (same_number kind 4 e))
    (λ e4. either (kind == 5) (key_read bytes) _ fact (λ e. key_spelled guests pages bytes h (room 5 bytes has e) (same_number kind 5 e))
    (λ e5. either (kind == 6) (move_read bytes) _ fact (λ e. move_spelled guests pages bytes h (room 6 bytes has e) (same_number kind 6 e))
    (λ e6. either (kind == 7) (press_read bytes) _ fact (λ e. press_spelled guests pages bytes h (room 7 bytes has e) (same_number kind 7 e))
    (λ e7. either (kind == 8) (command_read bytes) _ fact (λ e. command_spelled guests pages bytes h (room 8 bytes has e) (same_number kind 8 e))
    (λ e8. either (kind == 9) (Some (Snap, 0)) _ fact
    (λ e. record { fits = record { widths = tt; range = refl }; spelled = (drop 1 bytes, sym (kind_on 9 bytes has.some (same_number kind 9 e))) })
    (λ e9. either (kind == 10) (Some (End, 0)) _ fact
    (λ e. record { fits = record { widths = tt; range = refl }; spelled = (drop 1 bytes, sym (kind_on 10 bytes has.some (same_number kind 10 e))) })
    (λ e10. either (kind == 11) (guest_read Lost guests bytes) None fact (λ e. lost_spelled guests pages bytes (room 11 bytes has e) (same_number kind 11 e))
    (λ e11. tt))))))))))

-- what is read is in its ranges, whatever the bytes are
abbrev pub RangesHold : ℕ → ℕ → Item × ℕ → Type 0
RangesHold guests pages found = FitsItem guests pages found.0 found.1

command_ranged : (guests pages : ℕ) (bytes : List ℕ) → IfSome (command_read bytes) (RangesHold guests pages)
command_ranged guests pages bytes =
    let code = slice_index bytes 1 in
    let fact = RangesHold guests pages in
    let plain = number_at 2 bytes == 0 && number_at 6 bytes == 0 in
    either (code == 1) (plain_read Close bytes) _ fact (λ e. if_some plain Close 0 fact (λ right. refl))
    (λ e1. either (code == 2) (plain_read Next bytes) _ fact (λ e. if_some plain Next 0 fact (λ right. refl))
    (λ e2. either (code == 3) (plain_read Restore bytes) _ fact (λ e. if_some plain Restore 0 fact (λ right. refl))
    (λ e3. either (code == 4) (Some (MoveTo (signed_at 2 bytes) (signed_at 6 bytes), 0)) _ fact (λ e. refl)
    (λ e4. either (code == 5) (Some (SizeTo (signed_at 2 bytes) (signed_at 6 bytes), 0)) None fact (λ e. refl)
    (λ e5. tt)))))

pub item_ranged : (guests pages : ℕ) (bytes : List ℕ) → IfSome (item_read guests pages bytes) (RangesHold guests pages)
item_ranged guests pages bytes =
    let kind = slice_index bytes 0 in
    let guest = slice_index bytes 1 in
    let fact = RangesHold guests pages in
    either (kind == 2) (piece_read guests bytes) _ fact (λ e. if_some (nat_lt guest guests && within 1 65536 (number_at 2 bytes)) (Bytes guest) (number_at 2 bytes) fact (piece_fits guests pages guest (number_at 2 bytes)))
    (λ e2. either (kind == 3) (guest_read Closed guests bytes) _ fact (λ e. if_some (nat_lt guest guests) (Closed guest) 0 fact (λ right. (guest_fits guests guest right, refl)))
    (λ e3. either (kind == 4) (store_read guests pages bytes) _ fact (λ e. if_some (nat_lt guest guests && is_change pages (number_at 4 bytes) (number_at 8 bytes) (number_at 12 bytes))
    (Store guest (half_at 2 bytes) (number_at 4 bytes) (number_at 8 bytes)) (number_at 12 bytes) fact
    (store_fits guests pages guest (half_at 2 bytes) (number_at 4 bytes) (number_at 8 bytes) (number_at 12 bytes)))
    (λ e4. either (kind == 5) (key_read bytes) _ fact (λ e. if_some (nat_le guest 1 && nat_le (half_at 3 bytes) 8191) (Key (guest == 1) (slice_index bytes 2) (half_at 3 bytes)) 0 fact
    (key_fits guests pages guest (slice_index bytes 2) (half_at 3 bytes)))
    (λ e5. either (kind == 6) (move_read bytes) _ fact (λ e. if_some (nat_le (half_at 9 bytes) 8191) (Move (signed_at 1 bytes) (signed_at 5 bytes) (half_at 9 bytes)) 0 fact
    (move_fits guests pages (signed_at 1 bytes) (signed_at 5 bytes) (half_at 9 bytes)))
    (λ e6. either (kind == 7) (press_read bytes) _ fact (λ e. if_some (nat_le guest 1 && (within 1 15 (slice_index bytes 2) && nat_le (half_at 3 bytes) 8191))
    (Press (guest == 1) (slice_index bytes 2) (half_at 3 bytes)) 0 fact (press_fits guests pages guest (slice_index bytes 2) (half_at 3 bytes)))
    (λ e7. either (kind == 8) (command_read bytes) _ fact (λ e. command_ranged guests pages bytes)
    (λ e8. either (kind == 9) (Some (Snap, 0)) _ fact (λ e. refl)
    (λ e9. either (kind == 10) (Some (End, 0)) _ fact (λ e. refl)
    (λ e10. either (kind == 11) (guest_read Lost guests bytes) None fact (λ e. if_some (nat_lt guest guests) (Lost guest) 0 fact (λ right. (guest_fits guests guest right, refl)))
    (λ e11. tt))))))))))
