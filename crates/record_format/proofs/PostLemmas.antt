-- A record of an output is read again, whatever follows it.
use Rattle.std.proofs.Common.{◌≡◌, ℕ, ◌+◌, ◌<◌, ◌≤◌, ◌^◌, List, ◌++◌, length, take, drop, Bool, false, None, Some, option_map, refl, ap, ◌∙◌, arith, w64}
use Rattle.std.proofs.lemmas.Bool.Decides.{nat_tests}
use Rattle.std.proofs.Math.Seq.{take-append_seam}
use Rattle.std.specs.Prelude.{nat_lt, if◌then◌else◌}
use Rattle.std.specs.Int.{to_le_bytes}
use Rattle.byteorder.specs.Endian.{little_number}
use Rattle.byteorder.specs.Numbers.{little_number-reads_back}
use Rattle.gui_wire.specs.Words.{word, word_at}
use Rattle.gui_wire.proofs.WordLemmas.{word_at-word}
use Rattle.record_format.specs.Config.{number_at}
use Rattle.record_format.specs.OutputGrammar.{guest_byte, reply_record, ended_record, summary_record}
use Rattle.record_format.specs.PostFields.{OutPost, Reply, Ended, Picture, Summary, post_spelling, HasPostSpelling, framed_read, post_read}
use Rattle.record_format.proofs.ReaderLemmas.{seam}

pub byte_is : (guest : ℕ) → guest < 2 ^ 8 → guest_byte guest ≡ guest
byte_is guest small = omega (arith, small)

long_enough : (n : ℕ) (xs : List ℕ) → n ≤ length xs → nat_lt (length xs) n ≡ false
long_enough n xs long = grind (arith, nat_tests, long)

-- bytes behind their length are read, whatever follows them
framed_is : (place : ℕ) (all bytes rest : List ℕ) → place + 4 ≤ length all → drop (place + 4) all ≡ bytes ++ rest → number_at place all ≡ length bytes → framed_read place all ≡ Some bytes
framed_is place all bytes rest long behind size =
    let there : nat_lt (length all) (place + 4) ≡ false = long_enough (place + 4) all long in
    let whole : nat_lt (length (bytes ++ rest)) (length bytes) ≡ false = long_enough (length bytes) (bytes ++ rest) (seam bytes rest) in
    ap (λ (b : Bool). if b then None else if nat_lt (length (drop (place + 4) all)) (number_at place all) then None else Some (take (number_at place all) (drop (place + 4) all))) there
    ∙ (λ i. if nat_lt (length (behind i)) (size i) then None else Some (take (size i) (behind i)))
    ∙ ap (λ (b : Bool). if b then None else Some (take (length bytes) (bytes ++ rest))) whole
    ∙ ap Some (take-append_seam bytes rest)

pub post_back : (post : OutPost) (rest : List ℕ) → HasPostSpelling post → post_read (post_spelling post ++ rest) ≡ Some (post, length (post_spelling post))
unfolding reply_record ended_record summary_record
post_back (Reply guest bytes) rest fits =
    let size : 6 + length bytes ≡ length (post_spelling (Reply guest bytes)) = omega arith in
    ap (option_map (λ f. (Reply (guest_byte guest) f, 6 + length f)))
    (framed_is 2 (post_spelling (Reply guest bytes) ++ rest) bytes rest (omega arith) refl (word_at-word (length bytes) (bytes ++ rest) fits.1))
    ∙ (λ i. Some (Reply (byte_is guest fits.0 i) bytes, size i))
post_back (Ended guest cause a b) rest fits =
    let all = post_spelling (Ended guest cause a b) ++ rest in
    let there : nat_lt (length all) 11 ≡ false = long_enough 11 all (omega arith) in
    let first : word_at 0 (word a ++ word b ++ rest) ≡ a = word_at-word a (word b ++ rest) fits.2 in
    let second : word_at 0 (word b ++ rest) ≡ b = word_at-word b rest fits.3 in
    λ i. if there i then None else Some (Ended (byte_is guest fits.0 i) cause (first i) (second i), 11)
post_back (Picture bytes) rest fits =
    let size : 5 + length bytes ≡ length (post_spelling (Picture bytes)) = omega arith in
    ap (option_map (λ f. (Picture f, 5 + length f)))
    (framed_is 1 (post_spelling (Picture bytes) ++ rest) bytes rest (omega arith) refl (word_at-word (length bytes) (bytes ++ rest) fits))
    ∙ (λ i. Some (Picture bytes, size i))
post_back (Summary items messages glances painted) rest fits =
    let all = post_spelling (Summary items messages glances painted) ++ rest in
    let there : nat_lt (length all) 33 ≡ false = long_enough 33 all (omega arith) in
    let a : little_number 8 (to_le_bytes w64 items ++ to_le_bytes w64 messages ++ to_le_bytes w64 glances ++ to_le_bytes w64 painted ++ rest) ≡ items = little_number-reads_back 8 items (to_le_bytes w64 messages ++ to_le_bytes w64 glances ++ to_le_bytes w64 painted ++ rest) fits.0 in
    let b : little_number 8 (to_le_bytes w64 messages ++ to_le_bytes w64 glances ++ to_le_bytes w64 painted ++ rest) ≡ messages = little_number-reads_back 8 messages (to_le_bytes w64 glances ++ to_le_bytes w64 painted ++ rest) fits.1 in
    let d : little_number 8 (to_le_bytes w64 glances ++ to_le_bytes w64 painted ++ rest) ≡ glances = little_number-reads_back 8 glances (to_le_bytes w64 painted ++ rest) fits.2 in
    let e : little_number 8 (to_le_bytes w64 painted ++ rest) ≡ painted = little_number-reads_back 8 painted rest fits.3 in
    λ i. if there i then None else Some (Summary (a i) (b i) (d i) (e i), 33)
