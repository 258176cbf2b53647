-- A setup's spelling is read again, whatever follows it.
use Rattle.std.proofs.Common.{◌≡◌, ℕ, ◌+◌, ◌<◌, ◌≤◌, ◌^◌, List, [], ◌∷◌, ◌++◌, length, take, Bool, true, None, Some, Result, Ok, Err, refl, ap, ◌∙◌, arith, append_assoc, length-append}
use Rattle.std.proofs.lemmas.Bool.Decides.{nat_tests}
use Rattle.std.specs.Prelude.{slice_index, nat_le, if◌then◌else◌}
use Rattle.std.specs.List.{flat_map, list_all}
use Rattle.gui_wire.specs.Words.{word, words}
use Rattle.gui_wire.proofs.WordLemmas.{word_at-word}
use Rattle.desk_laws.specs.declared.setup.GuestSetup.{GuestSetup}
use Rattle.desk_laws.specs.declared.setup.Setup.{Setup}
use Rattle.desk_laws.specs.Rules.{within, first_broken, Fits}
use Rattle.gui_num.specs.declared.Rect.{Rect}
use Rattle.io_ports.specs.declared.feed.RecordKind.TheVariants as kinds
use Rattle.record_format.specs.declared.version.Version.{Version}
use Rattle.record_format.specs.declared.version.Version.TheVariants.{First, Second, Third}
use Rattle.record_format.specs.declared.clipboard.Clipboard.{Clipboard}
use Rattle.record_format.specs.Config.{Wrong, Fault, Rule, fault, number_at, named, part_of, guest_of, guests_of, ◌>>=◌, magic, version_at, behind_magic, head_of, outputs_in, clipboard_in, plane, version_of, same_version, setup_wrong, setup_at, kept, joined, behind_head, config_of, config_len, guest_spelling, head_spelling, outputs_spelling, clipboard_spelling, later_spelling, spelling_in, config_spelling}
use Rattle.record_format.proofs.ReaderLemmas.{name_is, guest_found, config_hands}
use Rattle.record_format.proofs.ManyLemmas.{many_back, length-many}
use Rattle.record_format.proofs.LaterLemmas.{outputs_back, clipboard_back, length-outputs, length-clipboard}
use Rattle.record_format.proofs.SetupLemmas.{fits_of}

colour_small : (n : ℕ) → nat_le n 16777215 ≡ true → n < 2 ^ 32
colour_small n is = let most : n ≤ 16777215 = grind (arith, nat_tests, is) in omega (arith, most)

guest_back : (g : GuestSetup) (rest : List ℕ) → g.colour.0 < 2 ^ 32 → guest_of (guest_spelling g ++ rest) ≡ Ok (g, rest)
unfolding guest_spelling
guest_back g rest small =
    guest_found (guest_spelling g ++ rest) (omega (arith))
    ∙ ap (λ (c : ℕ). named c (part_of (length g.name) (g.name ++ rest))) (word_at-word g.colour.0 (length g.name ∷ []) small)
    ∙ ap (named g.colour.0) (name_is (length g.name) g.name rest refl)

guests_back : (guests : List GuestSetup) (tail : List ℕ) → list_all (λ g. nat_le g.colour.0 16777215) guests ≡ true
    → guests_of (length guests) (flat_map guest_spelling guests ++ tail) ≡ Ok (guests, tail)
guests_back guests tail right = many_back guest_of guest_spelling (λ g. nat_le g.colour.0 16777215) (λ g rest small. guest_back g rest (colour_small g.colour.0 small)) guests tail right

number_within : (n : ℕ) → 1 ≤ n → n ≤ 16 → within 1 16 n ≡ true
number_within n some most = grind (arith, nat_tests, some, most)

magic_is : (version : Version) → version_at (magic version) ≡ Some version
magic_is First = refl
magic_is Second = refl
magic_is Third = refl

magic_front : (version : Version) (rest : List ℕ) → take 4 (magic version ++ rest) ≡ magic version
magic_front First rest = refl
magic_front Second rest = refl
magic_front Third rest = refl

-- what stands behind the first four bytes of a head
behind_right : (version : Version) (s : Setup) → Fits s → behind_magic (head_spelling version s) (Some version) ≡ Ok version
unfolding head_spelling
behind_right First s fits = ap (λ (b : Bool). if b then Ok First else Err (Rule 1)) (number_within (length s.guests) fits.some_guests fits.guests)
behind_right Second s fits = ap (λ (b : Bool). if b then Ok Second else Err (Rule 1)) (number_within (length s.guests) fits.some_guests fits.guests)
behind_right Third s fits = ap (λ (b : Bool). if b then Ok Third else Err (Rule 1)) (number_within (length s.guests) fits.some_guests fits.guests)

head_told : (version : Version) (s : Setup) → head_of (head_spelling version s) ≡ behind_magic (head_spelling version s) (Some version)
unfolding head_spelling
head_told First s = refl
head_told Second s = refl
head_told Third s = refl

head_right : (version : Version) (s : Setup) → Fits s → head_of (head_spelling version s) ≡ Ok version
head_right version s fits = head_told version s ∙ behind_right version s fits

-- the clipboard of a setup
abbrev clipboard_at : Setup → Clipboard
clipboard_at s = record { clip = s.clip; denied = s.denied }

-- the numbers of a head
record Numbers (head : List ℕ) (s : Setup) : Type 0 where
  width : number_at 5 head ≡ s.width
  height : number_at 9 head ≡ s.height
  border : number_at 13 head ≡ s.border
  pages : number_at 17 head ≡ s.pages
  tiles : number_at 21 head ≡ s.tiles
  percent : number_at 25 head ≡ s.percent
  background : number_at 29 head ≡ s.background.0
  guests : slice_index head 33 ≡ length s.guests
  long : length head ≡ 34

-- a head whose fourth byte is any
numbers_behind : (last : ℕ) (s : Setup) → Fits s → Numbers ((81 ∷ 71 ∷ 82 ∷ last ∷ []) ++ (1 ∷ words (s.width ∷ s.height ∷ s.border ∷ s.pages ∷ s.tiles ∷ s.percent ∷ s.background.0 ∷ []) ++ length s.guests ∷ [])) s
numbers_behind last s fits =
    let after = length s.guests ∷ [] in record {
      width = word_at-word s.width (words (s.height ∷ s.border ∷ s.pages ∷ s.tiles ∷ s.percent ∷ s.background.0 ∷ []) ++ after) (omega (arith, fits.width));
      height = word_at-word s.height (words (s.border ∷ s.pages ∷ s.tiles ∷ s.percent ∷ s.background.0 ∷ []) ++ after) (omega (arith, fits.height));
      border = word_at-word s.border (words (s.pages ∷ s.tiles ∷ s.percent ∷ s.background.0 ∷ []) ++ after) (omega (arith, fits.border));
      pages = word_at-word s.pages (words (s.tiles ∷ s.percent ∷ s.background.0 ∷ []) ++ after) (omega (arith, fits.pages));
      tiles = word_at-word s.tiles (words (s.percent ∷ s.background.0 ∷ []) ++ after) (omega (arith, fits.tiles));
      percent = word_at-word s.percent (words (s.background.0 ∷ []) ++ after) (omega (arith, fits.percent));
      background = word_at-word s.background.0 after (omega (arith, fits.background));
      guests = refl;
      long = refl;
    }

numbers_are : (version : Version) (s : Setup) → Fits s → Numbers (head_spelling version s) s
unfolding head_spelling
numbers_are First s fits = numbers_behind 49 s fits
numbers_are Second s fits = numbers_behind 50 s fits
numbers_are Third s fits = numbers_behind 51 s fits

setup_is : (head : List ℕ) (s : Setup) → Numbers head s → setup_at head s.guests s.outputs (clipboard_at s) ≡ s
setup_is head s are =
    λ i. record {
      width = are.width i;
      height = are.height i;
      border = are.border i;
      pages = are.pages i;
      tiles = are.tiles i;
      percent = are.percent i;
      background = record { 0 = are.background i };
      guests = s.guests;
      outputs = s.outputs;
      clip = s.clip;
      denied = s.denied;
    }

same_as : (version : Version) → same_version version version ≡ true
same_as First = refl
same_as Second = refl
same_as Third = refl

-- nothing is wrong with a setup in the lowest version that has it
none_wrong : (s : Setup) (version : Version) → version_of s ≡ version → first_broken s ≡ None → setup_wrong version s (first_broken s) ≡ None
none_wrong s version is right =
    ap (setup_wrong version s) right ∙ (λ i. if same_version version (is i) then None else Some (Fault (fault 4 kinds.Range)))
    ∙ ap (λ (b : Bool). if b then None else Some (Fault (fault 4 kinds.Range))) (same_as version)

-- the parts of a setup are joined to it
joined_back : (version : Version) (head : List ℕ) (s : Setup) (tail : List ℕ) → Numbers head s → version_of s ≡ version → first_broken s ≡ None → joined version head s.guests s.outputs (clipboard_at s) tail ≡ Ok (s, tail)
joined_back version head s tail are is right =
    ap (λ (r : Setup). kept r tail (setup_wrong version r (first_broken r))) (setup_is head s are) ∙ ap (kept s tail) (none_wrong s version is right)

-- what stands behind a head is read again
behind_back : (version : Version) (head : List ℕ) (s : Setup) (tail : List ℕ) → Numbers head s → Fits s → version_of s ≡ version → first_broken s ≡ None
    → behind_head head version (flat_map guest_spelling s.guests ++ (later_spelling version s ++ tail)) ≡ Ok (s, tail)
behind_back version head s tail are fits is right =
    let clipboard = clipboard_spelling version s.clip s.denied ++ tail in
    let outputs = outputs_spelling version s.outputs ++ clipboard in
    let last = λ (guests : List GuestSetup) (outs : List Rect) (r : Result (Clipboard × List ℕ) Wrong). r >>= λ found. joined version head guests outs found.0 found.1 in
    (λ i. behind_head head version (flat_map guest_spelling s.guests ++ append_assoc (outputs_spelling version s.outputs) (clipboard_spelling version s.clip s.denied) tail i))
    ∙ (λ i. guests_of (are.guests i) (flat_map guest_spelling s.guests ++ outputs) >>= λ guests.
    (outputs_in version (plane (are.width i) (are.height i)) guests.1 >>= λ outs. last guests.0 outs.0 (clipboard_in version outs.1)))
    ∙ ap (λ r. r >>= λ guests. (outputs_in version (plane s.width s.height) guests.1 >>= λ outs. last guests.0 outs.0 (clipboard_in version outs.1))) (guests_back s.guests outputs fits.colours)
    ∙ ap (λ r. r >>= λ outs. last s.guests outs.0 (clipboard_in version outs.1)) (outputs_back version s clipboard is fits)
    ∙ ap (last s.guests s.outputs) (clipboard_back version s tail is)
    ∙ joined_back version head s tail are is right

-- what is spelled is read again
pub config_back : (s : Setup) (tail : List ℕ) → first_broken s ≡ None → config_of (config_spelling s ++ tail) ≡ Ok (s, tail)
unfolding config_spelling
config_back s tail right =
    let fits = fits_of s right in
    let version = version_of s in
    let head = head_spelling version s in
    let guests = flat_map guest_spelling s.guests in
    let later = later_spelling version s in
    let are = numbers_are version s fits in
    ap config_of (append_assoc (head ++ guests) later tail ∙ append_assoc head guests (later ++ tail))
    ∙ config_hands head version are.long (head_right version s fits) (guests ++ (later ++ tail))
    ∙ behind_back version head s tail are fits refl right

length-guest : (g : GuestSetup) → length (guest_spelling g) ≡ 5 + length g.name
unfolding guest_spelling
length-guest g = omega arith

length-head : (version : Version) (s : Setup) → length (head_spelling version s) ≡ 34
unfolding head_spelling
length-head First s = omega arith
length-head Second s = omega arith
length-head Third s = omega arith

-- as many bytes as are counted
pub config_size : (s : Setup) → length (config_spelling s) ≡ config_len s
unfolding config_spelling
config_size s =
    let version = version_of s in
    let guests = flat_map guest_spelling s.guests in
    let outputs = outputs_spelling version s.outputs in
    let clipboard = clipboard_spelling version s.clip s.denied in
    length-append (head_spelling version s ++ guests) (outputs ++ clipboard)
    ∙ (λ i. length-append (head_spelling version s) guests i + length-append outputs clipboard i)
    ∙ (λ i. (length-head version s i + length-many guest_spelling (λ g. 5 + length g.name) length-guest s.guests i)
    + (length-outputs version s.outputs i + length-clipboard version s.clip s.denied i))

-- the front of a guest and its name
pub guest_whole : (g : GuestSetup) (front name : List ℕ) → front ≡ word g.colour.0 ++ length name ∷ [] → name ≡ g.name → front ++ name ≡ guest_spelling g
unfolding guest_spelling
guest_whole g front name is same =
    ap (λ (l : List ℕ). l ++ name) is ∙ (λ i. (word g.colour.0 ++ length (same i) ∷ []) ++ same i)

-- the head and the guests, and what stands behind them
pub config_whole : (s : Setup) (version : Version) → version ≡ version_of s → (head_spelling version s ++ flat_map guest_spelling s.guests) ++ later_spelling version s ≡ config_spelling s
unfolding config_spelling
config_whole s version is = ap (λ (v : Version). spelling_in v s) is
