-- A made record is a whole record, and is read as what it was made of.
use Rattle.std.proofs.Common.{◌≡◌, ℕ, zero, suc, ◌/◌, ◌%◌, ◌<◌, Bool, true, false, List, [], ◌∷◌, ◌++◌, map, length, if◌then◌else◌, ◌==◌, refl, sym, ◌∙◌, ap, append_assoc, arith}
use Rattle.std.proofs.lemmas.List.Elements.{All-nil, All-cons, All-append}
use Rattle.std.specs.List.{All, flat_map}
use Rattle.desk_laws.specs.declared.item.Item.TheVariants as items
use Rattle.desk_laws.specs.Items.{FedItem, IsPiece}
use Rattle.desk_laws.specs.Rows.{span}
use Rattle.record_format.specs.Config.{config_spelling}
use Rattle.record_format.specs.ItemSpellings.{items_spelling}
use Rattle.record_format.specs.RecordGrammar.{alone, record_of}
use Rattle.record_format.specs.RecordLaws.{CanStand}
use Rattle.record_format.specs.MadeLaws.{MadeRecordsAreRead}
use Rattle.record_format.specs.MadeRecord.{made_setup, piece_of, opening_bytes, opening_item, report_bytes, place_bytes, store_item, move_item, kind_items, draw_items, draw_of, seed_after, snap_after, round_items, first_rounds, before_end, made_items, made}
use Rattle.record_format.proofs.MadeLemmas.{made_sound}
use Rattle.record_format.proofs.RecordLemmas.{whole_records_are_read}

-- an item of the record of four guests with 64 pages each
abbrev Stands : FedItem → Type 0
Stands given = CanStand 4 64 given

abbrev Stand : List FedItem → Type 0
Stand given = All Stands given

one : (given : FedItem) → Stands given → Stand (given ∷ [])
one given fit = All-cons Stands given [] fit (All-nil Stands)

two : (a b : FedItem) → Stands a → Stands b → Stand (a ∷ b ∷ [])
two a b first other = All-cons Stands a (b ∷ []) first (one b other)

piece_stands : (guest : ℕ) (bytes : List ℕ) → guest < 4 → IsPiece (length bytes) → Stands (piece_of guest bytes)
piece_stands guest bytes there size = record { fits = record { widths = tt; range = (there, size) }; goes_on = refl }

opening_stands : (guest : ℕ) → guest < 4 → Stands (opening_item guest)
unfolding opening_bytes
opening_stands guest there = piece_stands guest (opening_bytes guest) there (record { some = omega arith; most = omega arith })

report_stands : (guest u : ℕ) → guest < 4 → Stands (piece_of guest (report_bytes u))
unfolding report_bytes
report_stands guest u there = piece_stands guest (report_bytes u) there (record { some = omega arith; most = omega arith })

place_stands : (guest u : ℕ) → guest < 4 → Stands (piece_of guest (place_bytes u))
unfolding place_bytes
place_stands guest u there = piece_stands guest (place_bytes u) there (record { some = omega arith; most = omega arith })

store_stands : (guest u draw : ℕ) → guest < 4 → Stands (store_item guest u draw)
store_stands guest u draw there = record {
  fits = record {
    widths = omega arith;
    range = (there, record { page_in = omega arith; offset_aligned = omega arith; len_aligned = refl; some = omega arith; within = omega arith });
  };
  goes_on = refl;
}

move_stands : (u : ℕ) → Stands (move_item u)
move_stands u = record {
  fits = record {
    widths = (record { sfits = omega arith }, record { sfits = omega arith });
    range = (omega arith, refl);
  };
  goes_on = refl;
}

press_stands : (down : Bool) → Stands (alone (items.Press down 1 0))
press_stands down = record { fits = record { widths = tt; range = ((omega arith, omega arith), (omega arith, refl)) }; goes_on = refl }

key_stands : (down : Bool) → Stands (alone (items.Key down 38 0))
key_stands down = record { fits = record { widths = omega arith; range = (omega arith, refl) }; goes_on = refl }

snap_stands : Stands (alone items.Snap)
snap_stands = record { fits = record { widths = tt; range = refl }; goes_on = refl }

either : (b : Bool) (xs ys : List FedItem) → Stand xs → Stand ys → Stand (if b then xs else ys)
either true xs ys first other = first
either false xs ys first other = other

kind_stands : (kind guest u draw : ℕ) → guest < 4 → Stand (kind_items kind guest u draw)
kind_stands kind guest u draw there =
    either (kind == 0) _ _ (one _ (store_stands guest u draw there))
    (either (kind == 1) _ _ (one _ (report_stands guest u there))
    (either (kind == 2) _ _ (one _ (place_stands guest u there))
    (either (kind == 3) _ _ (one _ (move_stands u))
    (either (kind == 4) _ _ (two _ _ (press_stands true) (press_stands false))
    (two _ _ (key_stands true) (key_stands false))))))

round_stands : (rounds n : ℕ) → Stand (round_items rounds n)
unfolding round_items
round_stands rounds n =
    let draw = draw_of (seed_after rounds n) in
    All-append Stands (draw_items draw) (snap_after n) (kind_stands ((draw / 4) % 6) (draw % 4) (draw / 24) draw (omega arith))
    (either (n % 1000 == 0) _ _ (one _ snap_stands) (All-nil Stands))

rounds_stand : (rounds a n : ℕ) → Stand (flat_map (round_items rounds) (span a n))
rounds_stand rounds a zero = All-nil Stands
rounds_stand rounds a (suc n) = All-append Stands (round_items rounds a) (flat_map (round_items rounds) (span (suc a) n)) (round_stands rounds a) (rounds_stand rounds (suc a) n)

openings_stand : Stand (map opening_item (span 0 4))
openings_stand =
    All-append Stands (opening_item 0 ∷ opening_item 1 ∷ []) (opening_item 2 ∷ opening_item 3 ∷ [])
    (two _ _ (opening_stands 0 (omega arith)) (opening_stands 1 (omega arith)))
    (two _ _ (opening_stands 2 (omega arith)) (opening_stands 3 (omega arith)))

before_end_stands : (rounds : ℕ) → Stand (before_end rounds)
before_end_stands rounds =
    All-append Stands (map opening_item (span 0 4)) (first_rounds rounds rounds ++ alone items.Snap ∷ []) openings_stand
    (All-append Stands (first_rounds rounds rounds) (alone items.Snap ∷ []) (rounds_stand rounds 1 rounds) (one _ snap_stands))

-- all items are those before the end, and the end
items_are : (rounds : ℕ) → before_end rounds ++ alone items.End ∷ [] ≡ made_items rounds
items_are rounds =
    let openings = map opening_item (span 0 4) in
    let all = first_rounds rounds rounds in
    append_assoc openings (all ++ alone items.Snap ∷ []) (alone items.End ∷ [])
    ∙ ap (λ (l : List FedItem). openings ++ l) (append_assoc all (alone items.Snap ∷ []) (alone items.End ∷ []))

made_whole : (rounds : ℕ) (tail : List ℕ) → made rounds ++ tail ≡ config_spelling made_setup ++ (items_spelling (before_end rounds ++ alone items.End ∷ []) ++ tail)
unfolding made
made_whole rounds tail =
    append_assoc (config_spelling made_setup) (items_spelling (made_items rounds)) tail
    ∙ ap (λ (l : List FedItem). config_spelling made_setup ++ (items_spelling l ++ tail)) (sym (items_are rounds))

pub made_records_are_read : MadeRecordsAreRead
unfolding made_setup
made_records_are_read rounds tail =
    ap record_of (made_whole rounds tail) ∙ whole_records_are_read made_setup (before_end rounds) tail made_sound (before_end_stands rounds)
