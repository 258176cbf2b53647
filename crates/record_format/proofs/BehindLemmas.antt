-- What is read behind the first 34 bytes, part by part.
use Rattle.std.proofs.Common.{◌≡◌, ℕ, List, Option, None, Some, Result, Ok, Err, sym, ap, ◌∙◌, subst}
use Rattle.std.specs.Prelude.{slice_index}
use Rattle.gui_num.specs.declared.Rect.{Rect}
use Rattle.desk_laws.specs.declared.setup.GuestSetup.{GuestSetup}
use Rattle.desk_laws.specs.declared.setup.Setup.{Setup}
use Rattle.desk_laws.specs.Rules.{first_broken}
use Rattle.record_format.specs.declared.config.ConfigRead.{ConfigRead}
use Rattle.record_format.specs.declared.config.ConfigRead.TheVariants as reads
use Rattle.record_format.specs.declared.version.Version.{Version}
use Rattle.record_format.specs.declared.clipboard.Clipboard.{Clipboard}
use Rattle.record_format.specs.Config.{Wrong, number_at, ◌>>=◌, guests_of, outputs_in, clipboard_in, plane, setup_at, setup_wrong, kept, joined, behind_head}
use Rattle.record_format.specs.Parts.{IsWrong}
use Rattle.record_format.specs.Readings.{Took, Spells, Reads}
use Rattle.record_format.proofs.ReaderLemmas.{then_reads, stops, reads_none}

-- the plane of a head
abbrev plane_at : List ℕ → Rect
plane_at head = plane (number_at 5 head) (number_at 9 head)

-- what stands behind the outputs, and what stands behind the guests
abbrev behind_outputs : List ℕ → Version → List GuestSetup → List Rect → List ℕ → Result (Setup × List ℕ) Wrong
behind_outputs head version guests outputs bytes = clipboard_in version bytes >>= λ clipboard. joined version head guests outputs clipboard.0 clipboard.1

abbrev behind_guests : List ℕ → Version → List GuestSetup → List ℕ → Result (Setup × List ℕ) Wrong
behind_guests head version guests bytes = outputs_in version (plane_at head) bytes >>= λ outputs. behind_outputs head version guests outputs.0 outputs.1

pub no_outputs : (head : List ℕ) (version : Version) (whole : Rect) (guests : List GuestSetup) (e : ConfigRead) (bytes : List ℕ) (mid left : Option (List ℕ)) → whole ≡ plane_at head
    → (first : Took bytes mid (Spells (guests_of (slice_index head 33)) guests)) → Reads (outputs_in version whole) (Err e) first.rest left → Reads (behind_head head version) (Err e) bytes left
no_outputs head version whole guests e bytes mid left is first last =
    then_reads (guests_of (slice_index head 33)) (behind_guests head version) guests (Err e) bytes mid left first
    (stops (outputs_in version (plane_at head)) (behind_outputs head version guests) e first.rest left (subst (λ (p : Rect). Reads (outputs_in version p) (Err e) first.rest left) is last))

-- behind the guests and the outputs stands the clipboard
behind_two : (head : List ℕ) (version : Version) (whole : Rect) (guests : List GuestSetup) (outputs : List Rect) (r : Result Setup ConfigRead) (bytes : List ℕ) (mid next left : Option (List ℕ)) → whole ≡ plane_at head
    → (first : Took bytes mid (Spells (guests_of (slice_index head 33)) guests)) (second : Took first.rest next (Spells (outputs_in version whole) outputs))
    → Reads (behind_outputs head version guests outputs) r second.rest left → Reads (behind_head head version) r bytes left
behind_two head version whole guests outputs r bytes mid next left is first second last =
    let told : Took first.rest next (Spells (outputs_in version (plane_at head)) outputs) = record {
      taken = second.taken;
      rest = second.rest;
      split = second.split;
      is_left = second.is_left;
      holds = subst (λ (p : Rect). Spells (outputs_in version p) outputs second.taken) is second.holds;
    } in
    then_reads (guests_of (slice_index head 33)) (behind_guests head version) guests r bytes mid left first
    (then_reads (outputs_in version (plane_at head)) (behind_outputs head version guests) outputs r first.rest next left told last)

pub no_clipboard : (head : List ℕ) (version : Version) (whole : Rect) (guests : List GuestSetup) (outputs : List Rect) (e : ConfigRead) (bytes : List ℕ) (mid next left : Option (List ℕ)) → whole ≡ plane_at head
    → (first : Took bytes mid (Spells (guests_of (slice_index head 33)) guests)) (second : Took first.rest next (Spells (outputs_in version whole) outputs))
    → Reads (clipboard_in version) (Err e) second.rest left → Reads (behind_head head version) (Err e) bytes left
no_clipboard head version whole guests outputs e bytes mid next left is first second last =
    behind_two head version whole guests outputs (Err e) bytes mid next left is first second (stops (clipboard_in version) (joined version head guests outputs) e second.rest left last)

-- what is wrong with a setup is wrong with what was read
wrong_reads : (version : Version) (head : List ℕ) (guests : List GuestSetup) (outputs : List Rect) (clipboard : Clipboard) (e : ConfigRead) (bytes : List ℕ) (left : Option (List ℕ))
    → (let made = setup_at head guests outputs clipboard in IsWrong (Some e) (setup_wrong version made (first_broken made))) → Reads (joined version head guests outputs clipboard) (Err e) bytes left
wrong_reads version head guests outputs clipboard reads.Failed bytes left is = absurd is
wrong_reads version head guests outputs clipboard (reads.Bad f) bytes left is = ap (kept (setup_at head guests outputs clipboard) bytes) is
wrong_reads version head guests outputs clipboard (reads.Rule k) bytes left is = ap (kept (setup_at head guests outputs clipboard) bytes) is
wrong_reads version head guests outputs clipboard reads.NoMemory bytes left is = absurd is

pub goes_wrong : (head : List ℕ) (version : Version) (whole : Rect) (guests : List GuestSetup) (outputs : List Rect) (clipboard : Clipboard) (setup : Setup) (e : ConfigRead) (bytes : List ℕ) (mid next left : Option (List ℕ))
    → whole ≡ plane_at head → (first : Took bytes mid (Spells (guests_of (slice_index head 33)) guests)) (second : Took first.rest next (Spells (outputs_in version whole) outputs))
    → Took second.rest left (Spells (clipboard_in version) clipboard) → setup ≡ setup_at head guests outputs clipboard → IsWrong (Some e) (setup_wrong version setup (first_broken setup))
    → Reads (behind_head head version) (Err e) bytes left
goes_wrong head version whole guests outputs clipboard setup e bytes mid next left is first second third made wrong =
    behind_two head version whole guests outputs (Err e) bytes mid next left is first second
    (then_reads (clipboard_in version) (joined version head guests outputs) clipboard (Err e) second.rest left left third
    (wrong_reads version head guests outputs clipboard e third.rest left (subst (λ (s : Setup). IsWrong (Some e) (setup_wrong version s (first_broken s))) made wrong)))

pub goes_right : (head : List ℕ) (version : Version) (whole : Rect) (guests : List GuestSetup) (outputs : List Rect) (clipboard : Clipboard) (setup : Setup) (bytes : List ℕ) (mid next left : Option (List ℕ))
    → whole ≡ plane_at head → (first : Took bytes mid (Spells (guests_of (slice_index head 33)) guests)) (second : Took first.rest next (Spells (outputs_in version whole) outputs))
    → Took second.rest left (Spells (clipboard_in version) clipboard) → setup ≡ setup_at head guests outputs clipboard → setup_wrong version setup (first_broken setup) ≡ None
    → Reads (behind_head head version) (Ok setup) bytes left
goes_right head version whole guests outputs clipboard setup bytes mid next left is first second third made right =
    behind_two head version whole guests outputs (Ok setup) bytes mid next left is first second
    (then_reads (clipboard_in version) (joined version head guests outputs) clipboard (Ok setup) second.rest left left third
    (reads_none (joined version head guests outputs clipboard) setup third.rest left
    (λ tail. ap (λ (s : Setup). kept s tail (setup_wrong version s (first_broken s))) (sym made) ∙ ap (kept setup tail) right) third.is_left))
