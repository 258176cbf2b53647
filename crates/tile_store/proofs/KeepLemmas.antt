-- What keeps a store in order.
use Rattle.std.proofs.Common.{◌≡◌, ℕ, ◌+◌, List, true, length, Option, sym, ap, ◌∙◌, arith}
use Rattle.tile_store.specs.declared.shelf.Entry.{Entry}
use Rattle.tile_store.specs.Tile.{Tile}
use Rattle.tile_store.specs.Held.{rises, are_whole}
use Rattle.tile_store.specs.Kept.{IsKept, tiles_in, numbers, times, known}

-- other squares, as many, among which the tiles are in order and whole
pub kept-squares : {held : List Entry} {squares : List (List (Option ℕ))} {spare : List ℕ} {held_room squares_room spare_room number : ℕ} →
    (squares2 : List (List (Option ℕ))) (ts : List Tile) (room : ℕ) → IsKept held squares spare held_room squares_room spare_room number →
    tiles_in squares2 held ≡ ts → rises ts ≡ true → are_whole ts ≡ true → length squares2 ≡ length squares → room ≡ squares_room →
    IsKept held squares2 spare held_room room spare_room number
kept-squares {held} {squares} {spare} {held_room} {squares_room} {spare_room} {number} squares2 ts room kept is rising whole long same =
    record {
      rising = ap rises is ∙ rising;
      whole = ap are_whole is ∙ whole;
      owned = λ n. let here = ap (λ k. known n k) long in omega (arith, here, kept.owned n);
      together = kept.together ∙ sym long;
      taken = omega (arith, kept.taken, long);
      few = kept.few;
      held_fits = kept.held_fits;
      squares_fit = omega (arith, kept.squares_fit, same);
      spare_fits = kept.spare_fits;
    }

-- fewer entries, whose numbers were given back
pub kept-fewer : {held : List Entry} {squares : List (List (Option ℕ))} {spare : List ℕ} {held_room squares_room spare_room number : ℕ} →
    (held2 : List Entry) (squares2 : List (List (Option ℕ))) (spare2 : List ℕ) (ts : List Tile) (room room2 room3 : ℕ) →
    IsKept held squares spare held_room squares_room spare_room number →
    tiles_in squares2 held2 ≡ ts → rises ts ≡ true → are_whole ts ≡ true → length squares2 ≡ length squares →
    ((n : ℕ) → times n (numbers held2) + times n spare2 ≡ times n (numbers held) + times n spare) →
    length held2 + length spare2 ≡ length held + length spare → room ≡ held_room → room2 ≡ squares_room → room3 ≡ spare_room →
    IsKept held2 squares2 spare2 room room2 room3 number
kept-fewer {held} {squares} {spare} {held_room} {squares_room} {spare_room} {number} held2 squares2 spare2 ts room room2 room3 kept is rising whole long balance together same same2 same3 =
    record {
      rising = ap rises is ∙ rising;
      whole = ap are_whole is ∙ whole;
      owned = λ n. let here = ap (λ k. known n k) long in omega (arith, here, kept.owned n, balance n);
      together = together ∙ kept.together ∙ sym long;
      taken = omega (arith, kept.taken, long);
      few = kept.few;
      held_fits = omega (arith, kept.held_fits, same);
      squares_fit = omega (arith, kept.squares_fit, same2);
      spare_fits = omega (arith, kept.spare_fits, same3);
    }
