-- The bytes of a made record, part by part.
use Rattle.std.proofs.Common.{◌≡◌, ℕ, zero, suc, ◌+◌, ◌-◌, ◌≤◌, List, [], ◌∷◌, ◌++◌, map, length, take, None, refl, sym, ◌∙◌, ap, arith}
use Rattle.std.proofs.lemmas.List.{append-nil}
use Rattle.std.proofs.lemmas.List.Concat.{flat_map-append}
use Rattle.std.proofs.Math.Seq.{take-append_seam}
use Rattle.std.specs.List.{flat_map}
use Rattle.desk_laws.specs.Rows.{span}
use Rattle.desk_laws.specs.declared.item.Item.TheVariants.{Snap, End}
use Rattle.desk_laws.specs.Items.{FedItem}
use Rattle.record_format.specs.RecordGrammar.{alone}
use Rattle.desk_laws.specs.Rules.{first_broken}
use Rattle.desk_laws.specs.declared.setup.Setup.{Setup}
use Rattle.io_ports.specs.Content.{IsPrefix}
use Rattle.record_format.specs.Config.{config_spelling}
use Rattle.record_format.specs.ItemSpellings.{fed_spelling, items_spelling}
use Rattle.record_format.proofs.SpanLemmas.{span_more, span_within}
use Rattle.record_format.specs.MadeRecord.{piece_of, opening_bytes, opening_item, first_rounds, made_setup, next_seed, seed_after, draw_of, draw_items, snap_after, round_items, made_items, made}

-- the front of bytes that begin with others, as far as these go
pub front_is : (xs rest ys : List ℕ) (n : ℕ) → ys ≡ xs ++ rest → n ≡ length xs → take n ys ≡ xs
front_is xs rest ys n whole size = (λ i. take (size i) (whole i)) ∙ take-append_seam xs rest

-- what is spelled of the first n places from a on
abbrev pub spelled_to : (ℕ → List ℕ) → ℕ → ℕ → List ℕ
spelled_to one a n = flat_map one (span a n)

-- the next one behind them
pub spelled_more : (one : ℕ → List ℕ) (a n : ℕ) → spelled_to one a n ++ one (a + n) ≡ spelled_to one a (n + 1)
spelled_more one a n =
    ap (λ (l : List ℕ). spelled_to one a n ++ l) (sym (append-nil (one (a + n))))
    ∙ sym (flat_map-append one (span a n) ((a + n) ∷ []))
    ∙ ap (flat_map one) (sym (span_more a n))

-- they are the front of what is spelled of all
pub spelled_within : (one : ℕ → List ℕ) (a n all : ℕ) → n ≤ all → IsPrefix (spelled_to one a n) (spelled_to one a all)
spelled_within one a n all few =
    let more = all - n in
    let is : n + more ≡ all = omega arith in (
      spelled_to one (a + n) more,
      sym (flat_map-append one (span a n) (span (a + n) more))
          ∙ ap (flat_map one) (sym (span_within a n more))
          ∙ ap (spelled_to one a) is,
    )

-- the bytes of a round
abbrev pub round_bytes : ℕ → ℕ → List ℕ
round_bytes rounds n = items_spelling (round_items rounds n)

-- the bytes of rounds are those of their items
pub rounds_spelled : (rounds a n : ℕ) → spelled_to (round_bytes rounds) a n ≡ items_spelling (flat_map (round_items rounds) (span a n))
rounds_spelled rounds a zero = refl
rounds_spelled rounds a (suc n) =
    ap (λ (l : List ℕ). round_bytes rounds a ++ l) (rounds_spelled rounds (suc a) n)
    ∙ sym (flat_map-append fed_spelling (round_items rounds a) (flat_map (round_items rounds) (span (suc a) n)))

-- the seed after one round more
pub seed_more : (rounds n : ℕ) → seed_after rounds (n + 1) ≡ next_seed (seed_after rounds n)
seed_more rounds n = let e : n + 1 ≡ suc n = omega arith in ap (seed_after rounds) e

-- the bytes of the next round
pub round_is : (rounds n seed draw : ℕ) → seed ≡ seed_after rounds (n + 1) → draw ≡ draw_of seed → items_spelling (draw_items draw ++ snap_after (n + 1)) ≡ round_bytes rounds (1 + n)
unfolding round_items
round_is rounds n seed draw is drawn =
    let e : n + 1 ≡ 1 + n = omega arith in
    ap (λ (d : ℕ). items_spelling (draw_items d ++ snap_after (n + 1))) (drawn ∙ ap draw_of is)
    ∙ ap (λ (k : ℕ). items_spelling (draw_items (draw_of (seed_after rounds k)) ++ snap_after k)) e

-- the setup breaks no rule
pub made_sound : first_broken made_setup ≡ None
unfolding made_setup
made_sound = refl

-- the record is its setup and its items
pub made_is : (setup : Setup) (rounds : ℕ) → setup ≡ made_setup → config_spelling setup ++ items_spelling (made_items rounds) ≡ made rounds
unfolding made
made_is setup rounds is = ap (λ (s : Setup). config_spelling s ++ items_spelling (made_items rounds)) is

-- the bytes of what a guest begins with
abbrev pub opening_spelled : ℕ → List ℕ
opening_spelled guest = fed_spelling (opening_item guest)

pub opening_is : (guest : ℕ) (bytes : List ℕ) → bytes ≡ opening_bytes guest → fed_spelling (piece_of guest bytes) ≡ opening_spelled (0 + guest)
opening_is guest bytes is =
    let e : guest ≡ 0 + guest = omega arith in
    ap (λ (l : List ℕ). fed_spelling (piece_of guest l)) is ∙ ap opening_spelled e

-- all of these
pub openings_all : (n : ℕ) → n ≡ 4 → spelled_to opening_spelled 0 n ≡ items_spelling (map opening_item (span 0 4))
openings_all n is = ap (spelled_to opening_spelled 0) is

-- all rounds
pub rounds_all : (rounds n : ℕ) → n ≡ rounds → spelled_to (round_bytes rounds) 1 n ≡ items_spelling (first_rounds rounds rounds)
rounds_all rounds n is = ap (spelled_to (round_bytes rounds) 1) is ∙ rounds_spelled rounds 1 rounds

-- the last picture and the end
abbrev pub last_items : List FedItem
last_items = alone Snap ∷ alone End ∷ []
