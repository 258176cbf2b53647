-- From what a command did to what became of its message.
use Rattle.std.proofs.Common.{◌≡◌, ℕ, ◌+◌, ◌≤◌, ◌<◌, Bool, true, false, cond, not, nat_lt, ◌||◌, List, [], ◌∷◌, length, Option, Some, None, is_some, refl, sym, ap, ◌∙◌, subst, arith, eqb-true}
use Rattle.std.specs.Prelude.{◌^◌, ◌==◌, Result, Ok, Err}
use Rattle.std.specs.List.{All}
use Rattle.std.proofs.lemmas.Bool.{ltb-true}
use Rattle.std.proofs.lemmas.List.Elements.{All-nil, All-cons}
use Rattle.std.proofs.lemmas.Bool.Decides.{nat_tests}
use Rattle.std.proofs.lemmas.Int.{ints}
use Rattle.gui_num.specs.declared.Rect.{Rect}
use Rattle.gui_wire.specs.declared.Header.{Header}
use Rattle.gui_wire.specs.AgentMessages as agent
use Rattle.gui_wire.specs.AgentMessages.{AgentMessage, HasSpelling}
use Rattle.gui_wire.specs.Seen.{references}
use Rattle.desk_laws.specs.declared.cause.Cause.{Cause}
use Rattle.desk_laws.specs.declared.cause.Cause.TheVariants.{BadRange, BadLength, RefRange}
use Rattle.desk_laws.specs.Sizes.{Sizes}
use Rattle.desk_laws.specs.Frames.{PortState}
use Rattle.desk_laws.specs.Rows.{Row, row_with}
use Rattle.desk_laws.specs.Ranges.{rect_in_range, IsPlace}
use Rattle.desk_laws.specs.Effects.{Change, Replaced, Removed, Added, Verdict, Ends, Goes, unless, first_of_causes, high_bit, out_of, wrong_count, pages_for, clipped, reads, Greets, Reads, range_fault, unknown, exists_already, too_many, bad_ref, over_budget, refs_besides, in_range_verdict, message_to, message_to_window, message_verdict, isnt_zero, id_if, mapped_row, configured_row, flags_after, tells_move, acks, created}
use Rattle.desk_laws.specs.Scene.{Post}
use Rattle.desk_laws.specs.Checks.{first_cause, rows_fault}
use Rattle.desk_laws.proofs.CheckLemmas.{row_with-window, verdict-first_cause}
use Rattle.message_checks.specs.declared.command.Command.{Command}
use Rattle.message_checks.specs.declared.command.Command.TheVariants.{Create, Destroy, Map, Unmap, Configure, Shmimage, Clip, Name, Dock, Hints, Flags, Class, Dump, Cursor}
use Rattle.message_checks.specs.Commands.{IsCommandOf}
use Rattle.guest_session.specs.declared.edit.Edit.TheVariants as edit
use Rattle.guest_session.specs.RowsView.{RowsView, FitsDump}
use Rattle.guest_session.specs.Edits.{row_edited}
use Rattle.guest_session.specs.Placing.{flagged_row, tells_full, tells_row}
use Rattle.guest_session.specs.Reading.{ReadsAs}
use Rattle.guest_session.specs.Obeyed.{Answered, AnsweredFor, Changes, Quiet, Looked, Obeyed, CanObey, Carries}
use Rattle.desk_laws.specs.Outputs.{output_of}
use Rattle.guest_session.proofs.PlaceLemmas.{flagged-goes}

-- ---- no cause

first-none : (o : Option Cause) (os : List (Option Cause)) → first_of_causes (o ∷ os) ≡ None → (o ≡ None) × (first_of_causes os ≡ None)
first-none None os e = (refl, e)
first-none (Some cause) os e = absurd cc

known-row : (o : Option Row) (window : ℕ) → unknown o window ≡ None → (row : Row) × (o ≡ Some row)
known-row None window e = absurd cc
known-row (Some row) window e = (row, refl)

new-row : (o : Option Row) (window : ℕ) → exists_already o window ≡ None → o ≡ None
new-row None window e = refl
new-row (Some row) window e = absurd cc

room-left : (own : List Row) (window : ℕ) → too_many own window ≡ None → length own < 1024
room-left own window e = grind (arith, nat_tests)

within-budget : (need pages : ℕ) → over_budget need pages ≡ None → need ≤ pages
within-budget need pages e = grind (arith, nat_tests)

-- ---- from a command to its message

-- a command for which nothing is read
abbrev IsQuiet : Command → Type 0
IsQuiet (Shmimage x y width height) = ⊥
IsQuiet command = Unit {0}

module _ {O : Type 0} (takes : O → Post → O → Type 0) (out out' : O) (port : PortState) (old new : RowsView) (sizes : Sizes) (minor window len : ℕ) (pages : sizes.pages ≡ old.pages) where
  abbrev Done : AgentMessage → Type 0
  Done m = Carries takes out out' port port old new (Ok None) (in_range_verdict sizes old.guest minor old.rows window len m)

  carried : (v : Verdict) (change : Change) (answers : List (List ℕ)) → Answered takes out out' old new change answers → v ≡ Goes change answers
      → Carries takes out out' port port old new (Ok None) v
  carried v change answers done is =
      let P : Verdict → Type 0 = λ w. Carries takes out out' port port old new (Ok None) w in
      subst P (sym is) (record { answer = refl; done = done; unread = refl })

  -- a message for a window that is there
  on-row : (m : AgentMessage) (change : Row → Change) (answers : Row → List (List ℕ))
      → in_range_verdict sizes old.guest minor old.rows window len m ≡ message_to sizes minor old.rows window len m (row_with window old.rows)
      → unknown (row_with window old.rows) window ≡ None
      → ((row : Row) → row_with window old.rows ≡ Some row → message_to_window sizes minor old.rows len m row ≡ Goes (change row) (answers row))
      → ((row : Row) → row_with window old.rows ≡ Some row → Answered takes out out' old new (change row) (answers row))
      → Done m
  on-row m change answers to none goes done =
      let f = known-row (row_with window old.rows) window none in
      carried (in_range_verdict sizes old.guest minor old.rows window len m) (change f.0) (answers f.0) (done f.0 f.1)
      (to ∙ ap (message_to sizes minor old.rows window len m) f.1 ∙ goes f.0 f.1)

  window-of : (row : Row) → row_with window old.rows ≡ Some row → row.window ≡ window
  window-of row found = row_with-window window old.rows row found

  create-done : (x y width height parent override_redirect : ℕ) (rect : Rect) → rect ≡ rect_in_range x y width height
      → rows_fault old.pages old.rows window (agent.Create x y width height parent override_redirect) ≡ None
      → Changes takes out out' old new sizes minor window (Create rect parent override_redirect)
      → Done (agent.Create x y width height parent override_redirect)
  create-done x y width height parent override_redirect rect place none done =
      let change : Rect → Change = λ r. Added (created old.guest window r (id_if (is_some (row_with parent old.rows)) parent) (isnt_zero override_redirect)) in
      carried (in_range_verdict sizes old.guest minor old.rows window len (agent.Create x y width height parent override_redirect)) (change rect) [] done
      (ap (λ o. unless o (Goes (change (rect_in_range x y width height)) [])) none ∙ ap (λ r. Goes (change r) []) (sym place))

  configure-done : (x y width height override_redirect : ℕ) (rect : Rect) → rect ≡ rect_in_range x y width height
      → rows_fault old.pages old.rows window (agent.Configure x y width height override_redirect) ≡ None
      → Changes takes out out' old new sizes minor window (Configure rect override_redirect)
      → Done (agent.Configure x y width height override_redirect)
  configure-done x y width height override_redirect rect place none done =
      let new_row : Rect → Row → Row = configured_row sizes old.rows (isnt_zero override_redirect) in
      on-row (agent.Configure x y width height override_redirect) (λ row. Replaced (new_row rect row)) (λ row. tells_row (new_row rect row) ∷ []) refl none
      (λ row found. ap (λ r. Goes (Replaced (new_row r row)) (tells_row (new_row r row) ∷ [])) (sym place))
      done

  dump-done : (kind width height bpp : ℕ) (refs : List ℕ)
      → rows_fault old.pages old.rows window (agent.WindowDump kind width height bpp refs) ≡ None
      → AnsweredFor takes out out' old new window (λ row. record row { dump = Some (record { width = width; height = height; refs = refs }) }) (λ row. acks minor window)
      → Done (agent.WindowDump kind width height bpp refs)
  dump-done kind width height bpp refs none done =
      let new_row : Row → Row = λ row. record row { dump = Some (record { width = width; height = height; refs = refs }) } in
      let parts = first-none (unknown (row_with window old.rows) window)
      (bad_ref old.pages refs ∷ over_budget (refs_besides window old.rows + length refs) old.pages ∷ []) none in
      on-row (agent.WindowDump kind width height bpp refs) (λ row. Replaced (new_row row)) (λ row. acks minor window) refl parts.0
      (λ row found.
      ap (λ w. unless (first_of_causes (bad_ref sizes.pages refs ∷ over_budget (refs_besides w old.rows + length refs) sizes.pages ∷ [])) (Goes (Replaced (new_row row)) (acks minor w))) (window-of row found)
      ∙ ap (λ n. unless (first_of_causes (bad_ref n refs ∷ over_budget (refs_besides window old.rows + length refs) n ∷ [])) (Goes (Replaced (new_row row)) (acks minor window))) pages
      ∙ ap (λ o. unless o (Goes (Replaced (new_row row)) (acks minor window))) parts.1)
      done

  abbrev Carried : AgentMessage → Command → Type 0
  Carried m command =
      rows_fault old.pages old.rows window m ≡ None → IsQuiet command → Changes takes out out' old new sizes minor window command → Done m

  along : (m n : AgentMessage) (command : Command) → m ≡ n → Carried n command → Carried m command
  along m n command e = let P : AgentMessage → Type 0 = λ x. Carried x command in subst P (sym e)

  command-done : (m : AgentMessage) (command : Command) → IsCommandOf m command → Carried m command
  command-done m (Create rect parent o) is =
      along m (agent.Create is.0 is.1 is.2 is.3 parent o) (Create rect parent o) is.4
      (λ none quiet done. create-done is.0 is.1 is.2 is.3 parent o rect is.5 none done)
  command-done m Destroy is =
      along m agent.Destroy Destroy is
      (λ none quiet done. on-row agent.Destroy (λ row. Removed window) (λ row. []) refl none
      (λ row found. ap (λ w. Goes (Removed w) []) (window-of row found)) done)
  command-done m (Map transient o) is =
      along m (agent.Map transient o) (Map transient o) is
      (λ none quiet done.
      let mapped : Row → Row = mapped_row sizes old.rows (isnt_zero o) (id_if (is_some (row_with transient old.rows)) transient) in
      on-row (agent.Map transient o) (λ row. Replaced (mapped row)) (λ row. tells_move row (mapped row)) refl none
      (λ row found. refl) done)
  command-done m Unmap is =
      along m agent.Unmap Unmap is
      (λ none quiet done. on-row agent.Unmap (λ row. Replaced (row_edited edit.Unmap row)) (λ row. []) refl none (λ row found. refl) done)
  command-done m (Configure rect o) is =
      along m (agent.Configure is.0 is.1 is.2 is.3 o) (Configure rect o) is.4
      (λ none quiet done. configure-done is.0 is.1 is.2 is.3 o rect is.5 none done)
  command-done m (Shmimage x y width height) is = along m (agent.Shmimage x y width height) (Shmimage x y width height) is (λ none quiet done. absurd quiet)
  command-done m (Clip bytes) is =
      along m (agent.ClipData bytes.now) (Clip bytes) is
      (λ none quiet done. record { answer = refl; done = done; unread = refl })
  command-done m (Name text) is =
      along m (agent.Name text.now) (Name text) is
      (λ none quiet done. on-row (agent.Name text.now) (λ row. Replaced (row_edited (edit.Title text) row)) (λ row. []) refl none (λ row found. refl) done)
  command-done m Dock is =
      along m agent.Dock Dock is
      (λ none quiet done. on-row agent.Dock (λ row. Replaced (row_edited edit.Dock row)) (λ row. []) refl none (λ row found. refl) done)
  command-done m (Hints hints) is =
      along m (agent.Hints hints) (Hints hints) is
      (λ none quiet done. on-row (agent.Hints hints) (λ row. Replaced (row_edited (edit.Hints hints) row)) (λ row. []) refl none (λ row found. refl) done)
  command-done m (Flags flags_set flags_unset) is = along m (agent.Flags flags_set flags_unset) (Flags flags_set flags_unset) is
      (λ none quiet done.
      on-row (agent.Flags flags_set flags_unset) (λ row. Replaced (flagged_row sizes (output_of sizes.outputs row.place) (flags_after row.flags flags_set flags_unset) row))
      (λ row. tells_full sizes (output_of sizes.outputs row.place) (flags_after row.flags flags_set flags_unset) row) refl none
      (λ row found. flagged-goes sizes row (flags_after row.flags flags_set flags_unset)) done)
  command-done m (Class class name) is =
      along m (agent.Class class.now name.now) (Class class name) is
      (λ none quiet done. on-row (agent.Class class.now name.now) (λ row. Replaced (row_edited (edit.Class class name) row)) (λ row. []) refl none (λ row found. refl) done)
  command-done m (Dump kind width height bpp refs) is =
      along m (agent.WindowDump kind width height bpp (references refs)) (Dump kind width height bpp refs) is
      (λ none quiet done. dump-done kind width height bpp (references refs) none done)
  command-done m (Cursor cursor) is =
      along m (agent.Cursor cursor) (Cursor cursor) is
      (λ none quiet done. on-row (agent.Cursor cursor) (λ row. Replaced (row_edited (edit.Cursor cursor) row)) (λ row. []) refl none (λ row found. refl) done)

-- what becomes of a reading
looked : {O : Type 0} (takes : O → Post → O → Type 0) (out out' : O) (port port' : PortState) (old new : RowsView) (result : Result (Option Rect) Cause) (v : Verdict)
    → ReadsAs port port' old new result v → out' ≡ out → Carries takes out out' port port' old new result v
looked takes out out' port port' old new result (Ends cause) done silent =
    record { answer = done.answer; rows = done.rows; silent = silent; unread = done.unread }
looked takes out out' port port' old new result (Greets minor answers) done silent = absurd done
looked takes out out' port port' old new result (Goes change answers) done silent = absurd done
looked takes out out' port port' old new result (Reads row area) done silent = record { read = done; silent = silent }

module _ {O : Type 0} (takes : O → Post → O → Type 0) (out out' : O) (port port' : PortState) (old new : RowsView) (result : Result (Option Rect) Cause) (sizes : Sizes) (minor window len : ℕ) (pages : sizes.pages ≡ old.pages) (tiles : sizes.tiles ≡ old.tiles) where
  abbrev Came : AgentMessage → Type 0
  Came m = Carries takes out out' port port' old new result (in_range_verdict sizes old.guest minor old.rows window len m)

  shmimage-came : (x y width height : ℕ) → rows_fault old.pages old.rows window (agent.Shmimage x y width height) ≡ None
      → Looked out out' port port' old new result window x y width height → Came (agent.Shmimage x y width height)
  shmimage-came x y width height none done =
      let f = known-row (row_with window old.rows) window none in
      let P : Option Row → Type 0 = λ o. Carries takes out out' port port' old new result (message_to sizes minor old.rows window len (agent.Shmimage x y width height) o) in
      subst P (sym f.1)
      (looked takes out out' port port' old new result (reads sizes old.rows f.0 (clipped f.0 f.0.dump x y width height)) (done.read sizes tiles f.0 f.1) done.silent)

  -- what became of a message of which nothing is read
  quiet-came : (m : AgentMessage) (command : Command) → IsQuiet command → IsCommandOf m command → rows_fault old.pages old.rows window m ≡ None
      → Quiet takes out out' port port' old new result sizes minor window command → Came m
  quiet-came m command quiet is none done =
      let P : PortState → Result (Option Rect) Cause → Type 0 = λ q r. Carries takes out out' port q old new r (in_range_verdict sizes old.guest minor old.rows window len m) in
      let Q : PortState → Type 0 = λ q. P q (Ok None) in
      subst (P port') (sym done.answer) (subst Q (sym done.unread)
      (command-done takes out out' port old new sizes minor window len pages m command is none quiet done.changes))

  command-came : (m : AgentMessage) (command : Command) → IsCommandOf m command → rows_fault old.pages old.rows window m ≡ None
      → Obeyed takes out out' port port' old new result sizes minor window command → Came m
  command-came m (Shmimage x y width height) is none done =
      let P : AgentMessage → Type 0 = λ n. rows_fault old.pages old.rows window n ≡ None → Came n in
      subst P (sym is) (λ none. shmimage-came x y width height none done) none
  command-came m (Create rect parent o) is none done = quiet-came m (Create rect parent o) tt is none done
  command-came m Destroy is none done = quiet-came m Destroy tt is none done
  command-came m (Map transient o) is none done = quiet-came m (Map transient o) tt is none done
  command-came m Unmap is none done = quiet-came m Unmap tt is none done
  command-came m (Configure rect o) is none done = quiet-came m (Configure rect o) tt is none done
  command-came m (Clip bytes) is none done = quiet-came m (Clip bytes) tt is none done
  command-came m (Name text) is none done = quiet-came m (Name text) tt is none done
  command-came m Dock is none done = quiet-came m Dock tt is none done
  command-came m (Hints hints) is none done = quiet-came m (Hints hints) tt is none done
  command-came m (Flags flags_set flags_unset) is none done = quiet-came m (Flags flags_set flags_unset) tt is none done
  command-came m (Class class name) is none done = quiet-came m (Class class name) tt is none done
  command-came m (Dump kind width height bpp refs) is none done = quiet-came m (Dump kind width height bpp refs) tt is none done
  command-came m (Cursor cursor) is none done = quiet-came m (Cursor cursor) tt is none done

-- what became of a message without a cause, by what was done
pub message-carried : {O : Type 0} (takes : O → Post → O → Type 0) (out out' : O) (port port' : PortState) (old new : RowsView) (result : Result (Option Rect) Cause) (sizes : Sizes) (minor : ℕ) (header : Header) (m : AgentMessage) (command : Command)
    → sizes.pages ≡ old.pages → sizes.tiles ≡ old.tiles → IsCommandOf m command → first_cause old.pages old.rows header m ≡ None
    → Obeyed takes out out' port port' old new result sizes minor header.window command
    → Carries takes out out' port port' old new result (message_verdict sizes old.guest minor old.rows header (Some m))
message-carried takes out out' port port' old new result sizes minor header m command pages tiles is none done =
    let parts = first-none (range_fault header.window header.len m) (rows_fault old.pages old.rows header.window m ∷ []) none in
    let fault : rows_fault old.pages old.rows header.window m ≡ None = (first-none (rows_fault old.pages old.rows header.window m) [] parts.1).0 in
    let v : message_verdict sizes old.guest minor old.rows header (Some m) ≡ in_range_verdict sizes old.guest minor old.rows header.window header.len m =
    verdict-first_cause sizes old.guest minor old.rows header m
    ∙ ap (λ n. unless (first_cause n old.rows header m) (in_range_verdict sizes old.guest minor old.rows header.window header.len m)) pages
    ∙ ap (λ o. unless o (in_range_verdict sizes old.guest minor old.rows header.window header.len m)) none in
    let P : Verdict → Type 0 = λ w. Carries takes out out' port port' old new result w in
    subst P (sym v) (command-came takes out out' port port' old new result sizes minor header.window header.len pages tiles m command is fault done)

-- what became of a message with a cause
pub message-refused : {O : Type 0} (takes : O → Post → O → Type 0) (out : O) (port : PortState) (old : RowsView) (sizes : Sizes) (minor : ℕ) (header : Header) (m : AgentMessage) (cause : Cause)
    → sizes.pages ≡ old.pages → first_cause old.pages old.rows header m ≡ Some cause
    → Carries takes out out port port old old (Err cause) (message_verdict sizes old.guest minor old.rows header (Some m))
message-refused takes out port old sizes minor header m cause pages some =
    let v : message_verdict sizes old.guest minor old.rows header (Some m) ≡ Ends cause =
    verdict-first_cause sizes old.guest minor old.rows header m
    ∙ ap (λ n. unless (first_cause n old.rows header m) (in_range_verdict sizes old.guest minor old.rows header.window header.len m)) pages
    ∙ ap (λ o. unless o (in_range_verdict sizes old.guest minor old.rows header.window header.len m)) some in
    let P : Verdict → Type 0 = λ w. Carries takes out out port port old old (Err cause) w in
    subst P (sym v) (record { answer = refl; rows = refl; silent = refl; unread = refl })

-- ---- a command can be obeyed

place-is : (x y width height : ℕ) (rect : Rect) → rect ≡ rect_in_range x y width height → IsPlace rect
place-is x y width height rect is =
    subst IsPlace (sym is)
    (record {
      x_low = grind (arith, ints);
      x_high = grind (arith, ints);
      y_low = grind (arith, ints);
      y_high = grind (arith, ints);
      w_low = omega arith;
      w_high = omega arith;
      h_low = omega arith;
      h_high = omega arith;
    })

-- a number in range
low-bit : (field value : ℕ) → high_bit field value ≡ None → value < 2 ^ 31
low-bit field value e = by (nat_lt value (2 ^ 31)) refl e
  where
    by : (b : Bool) → nat_lt value (2 ^ 31) ≡ b → cond b None (Some (BadRange field value)) ≡ None → value < 2 ^ 31
    by true t e = ltb-true value (2 ^ 31) t
    by false t e = absurd cc

-- an area whose numbers are in range
area-low : (x y width height : ℕ) → first_of_causes (high_bit 1 x ∷ high_bit 2 y ∷ high_bit 3 width ∷ high_bit 4 height ∷ []) ≡ None
    → (x < 2 ^ 31) × (y < 2 ^ 31) × (width < 2 ^ 31) × (height < 2 ^ 31)
area-low x y width height none =
    let a = first-none (high_bit 1 x) (high_bit 2 y ∷ high_bit 3 width ∷ high_bit 4 height ∷ []) none in
    let b = first-none (high_bit 2 y) (high_bit 3 width ∷ high_bit 4 height ∷ []) a.1 in
    let c = first-none (high_bit 3 width) (high_bit 4 height ∷ []) b.1 in
    let d = first-none (high_bit 4 height) [] c.1 in
    (low-bit 1 x a.0, low-bit 2 y b.0, low-bit 3 width c.0, low-bit 4 height d.0)

isnt-out : (bad : Bool) (field value : ℕ) → out_of bad field value ≡ None → bad ≡ false
isnt-out true field value e = absurd cc
isnt-out false field value e = refl

side-in : (n limit : ℕ) → (n == 0 || nat_lt limit n) ≡ false → n ≤ limit
side-in n limit e = grind (arith, nat_tests)

count-is : (refs pages len : ℕ) → wrong_count refs pages len ≡ None → refs ≡ pages
count-is refs pages len e = by (refs == pages) refl e
  where
    by : (b : Bool) → (refs == pages) ≡ b → cond b None (Some (BadLength len 0)) ≡ None → refs ≡ pages
    by true t e = eqb-true refs pages t
    by false t e = absurd cc

refs-below : (pages : ℕ) (refs : List ℕ) → bad_ref pages refs ≡ None → All (λ ref. ref < pages) refs
refs-below pages [] e = All-nil (λ ref. ref < pages)
refs-below pages (ref ∷ refs) e = by (nat_lt ref pages) refl e (refs-below pages refs)
  where
    by : (b : Bool) → nat_lt ref pages ≡ b → cond b (bad_ref pages refs) (Some (RefRange ref pages)) ≡ None
        → (bad_ref pages refs ≡ None → All (λ ref. ref < pages) refs) → All (λ ref. ref < pages) (ref ∷ refs)
    by true t e rest = All-cons (λ ref. ref < pages) ref refs (ltb-true ref pages t) (rest e)
    by false t e rest = absurd cc

-- the references of a dump without a cause
dump-refs : (pages kind width height bpp len : ℕ) (refs : List ℕ)
    → first_of_causes (out_of (isnt_zero kind) 1 kind
    ∷ out_of (width == 0 || nat_lt 16384 width) 2 width
    ∷ out_of (height == 0 || nat_lt 6144 height) 3 height
    ∷ out_of (not (bpp == 24 || bpp == 32)) 4 bpp
    ∷ wrong_count (length refs) (pages_for width height) len ∷ []) ≡ None
    → bad_ref pages refs ≡ None → FitsDump pages width height refs
dump-refs pages kind width height bpp len refs none below =
    let o1 = out_of (isnt_zero kind) 1 kind in
    let o2 = out_of (width == 0 || nat_lt 16384 width) 2 width in
    let o3 = out_of (height == 0 || nat_lt 6144 height) 3 height in
    let o4 = out_of (not (bpp == 24 || bpp == 32)) 4 bpp in
    let o5 = wrong_count (length refs) (pages_for width height) len in
    let a = first-none o1 (o2 ∷ o3 ∷ o4 ∷ o5 ∷ []) none in
    let b = first-none o2 (o3 ∷ o4 ∷ o5 ∷ []) a.1 in
    let c = first-none o3 (o4 ∷ o5 ∷ []) b.1 in
    let d = first-none o4 (o5 ∷ []) c.1 in
    let e = first-none o5 [] d.1 in
    record {
      wide = side-in width 16384 (isnt-out (width == 0 || nat_lt 16384 width) 2 width b.0);
      high = side-in height 6144 (isnt-out (height == 0 || nat_lt 6144 height) 3 height c.0);
      count = count-is (length refs) (pages_for width height) len e.0;
      below = refs-below pages refs below;
    }

abbrev Needs : RowsView → ℕ → ℕ → AgentMessage → Command → Type 0
Needs rows window len m command =
    HasSpelling m → range_fault window len m ≡ None → rows_fault rows.pages rows.rows window m ≡ None → CanObey rows window command

needs-along : (rows : RowsView) (window len : ℕ) (m n : AgentMessage) (command : Command) → m ≡ n → Needs rows window len n command → Needs rows window len m command
needs-along rows window len m n command e = let P : AgentMessage → Type 0 = λ x. Needs rows window len x command in subst P (sym e)

dump-fits : (rows : RowsView) (window : ℕ) (refs : List ℕ)
    → first_of_causes (unknown (row_with window rows.rows) window ∷ bad_ref rows.pages refs ∷ over_budget (refs_besides window rows.rows + length refs) rows.pages ∷ []) ≡ None
    → (refs_besides window rows.rows + length refs ≤ rows.pages) × (bad_ref rows.pages refs ≡ None)
dump-fits rows window refs none =
    let one = first-none (unknown (row_with window rows.rows) window) (bad_ref rows.pages refs ∷ over_budget (refs_besides window rows.rows + length refs) rows.pages ∷ []) none in
    let two = first-none (bad_ref rows.pages refs) (over_budget (refs_besides window rows.rows + length refs) rows.pages ∷ []) one.1 in
    (within-budget (refs_besides window rows.rows + length refs) rows.pages (first-none (over_budget (refs_besides window rows.rows + length refs) rows.pages) [] two.1).0, two.0)

command-needs : (rows : RowsView) (window len : ℕ) (m : AgentMessage) (command : Command) → IsCommandOf m command → Needs rows window len m command
command-needs rows window len m (Create rect parent o) is =
    needs-along rows window len m (agent.Create is.0 is.1 is.2 is.3 parent o) (Create rect parent o) is.4
    (λ s range none. let parts = first-none (exists_already (row_with window rows.rows) window) (too_many rows.rows window ∷ []) none in (
      new-row (row_with window rows.rows) window parts.0,
      room-left rows.rows window (first-none (too_many rows.rows window) [] parts.1).0,
      place-is is.0 is.1 is.2 is.3 rect is.5,
    ))
command-needs rows window len m Destroy is = λ s range none. tt
command-needs rows window len m (Map transient o) is = λ s range none. tt
command-needs rows window len m Unmap is = λ s range none. tt
command-needs rows window len m (Configure rect o) is = λ s range none. place-is is.0 is.1 is.2 is.3 rect is.5
command-needs rows window len m (Shmimage x y width height) is =
    needs-along rows window len m (agent.Shmimage x y width height) (Shmimage x y width height) is (λ s range none. area-low x y width height range)
command-needs rows window len m (Clip bytes) is = λ s range none. tt
command-needs rows window len m (Name text) is =
    needs-along rows window len m (agent.Name text.now) (Name text) is (λ s range none. omega (arith, s))
command-needs rows window len m Dock is = λ s range none. tt
command-needs rows window len m (Hints hints) is = λ s range none. tt
command-needs rows window len m (Flags flags_set flags_unset) is = λ s range none. tt
command-needs rows window len m (Class class name) is =
    needs-along rows window len m (agent.Class class.now name.now) (Class class name) is (λ s range none. (omega (arith, s.0), omega (arith, s.1)))
command-needs rows window len m (Dump kind width height bpp refs) is =
    needs-along rows window len m (agent.WindowDump kind width height bpp (references refs)) (Dump kind width height bpp refs) is
    (λ s range none.
    let fits = dump-fits rows window (references refs) none in
    (fits.0, dump-refs rows.pages kind width height bpp len (references refs) range fits.1))
command-needs rows window len m (Cursor cursor) is = λ s range none. tt

-- a message without a cause asks for nothing that can't be done
pub can-obey : (rows : RowsView) (header : Header) (m : AgentMessage) (command : Command) → HasSpelling m → IsCommandOf m command
    → first_cause rows.pages rows.rows header m ≡ None → CanObey rows header.window command
can-obey rows header m command spelled is none =
    let parts = first-none (range_fault header.window header.len m) (rows_fault rows.pages rows.rows header.window m ∷ []) none in
    command-needs rows header.window header.len m command is spelled parts.0 (first-none (rows_fault rows.pages rows.rows header.window m) [] parts.1).0
