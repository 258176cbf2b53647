-- What a unit and a grant do to rows and frames, but for what is masked.
use Rattle.std.proofs.Common.{◌≡◌, ℕ, zero, suc, ◌+◌, ◌*◌, Bool, true, false, not, ◌==◌, List, [], ◌∷◌, ◌++◌, length, map, Option, Some, None, refl, sym, ◌∙◌, ap}
use Rattle.gui_wire.specs.Words.{all_words}
use Rattle.std.specs.Prelude.{◌/◌, ◌%◌, ◌^◌, if◌then◌else◌, filter, slice_set, option_map}
use Rattle.std.proofs.lemmas.List.{map-append, map-set, length-map}
use Rattle.std.proofs.lemmas.Bool.{eqb-true}
use Rattle.gui_num.specs.declared.Rect.{Rect}
use Rattle.gui_wire.specs.declared.limits.TheConstants.{WINDOW_FLAG_MINIMIZE}
use Rattle.desk_laws.specs.declared.input.GIn.{GIn}
use Rattle.desk_laws.specs.declared.input.GIn.TheVariants as g
use Rattle.desk_laws.specs.Sizes.{Sizes}
use Rattle.desk_laws.specs.Stream.{StreamUnit}
use Rattle.desk_laws.specs.Rows.{Row, is_row, mine, row_with, placed_at}
use Rattle.desk_laws.specs.Frames.{PortState, Pool, Tape, Waiting, FramePlace, Loads, load, load_all, settled_words, still_waiting, is_due, by_due, write_all, write, write_words, counted, store, stored_in}
use Rattle.desk_laws.specs.Effects.{Change, Same, Added, Replaced, Removed, Cleared, changed, of_guest, replaced_in, forgets, name_without, Verdict, Ends, Greets, Goes, Reads, verdict, Effect, effect, carried_out, drawn, drawn_row, Area, points, frame_places, flags_without}
use Rattle.desk_laws.specs.Grants.{Granted, granted, granted_by, granted_to, grant_change, grant_answers, window_of}
use Rattle.isolation_laws.specs.Masks.{zeroed, blackened, veiled_row, veiled_store, veiled_port}
use Rattle.isolation_laws.proofs.MaskVerdicts.{masked, masked_verdict, verdict-masked, masked-masked, masked-placed, map-map, map-same, twice}

-- ---- rows

-- a row hidden where b holds, as well as twice
pub veiled-twice : (b : Bool) (row : Row) → veiled_row b (veiled_row b row) ≡ veiled_row b row
veiled-twice true row = masked-masked row
veiled-twice false row = refl

of_guest-veiled : (b : Bool) (guest : ℕ) (row : Row) → veiled_row b (of_guest guest (veiled_row b row)) ≡ veiled_row b (of_guest guest row)
of_guest-veiled true guest row = ap (λ cs. record (masked (of_guest guest row)) { contents = cs }) (twice row)
of_guest-veiled false guest row = refl

placed-veiled : (b : Bool) (place : Rect) (row : Row) → veiled_row b (placed_at place (veiled_row b row)) ≡ veiled_row b (placed_at place row)
placed-veiled true place row = masked-placed place row
placed-veiled false place row = refl

restored-veiled : (b : Bool) (flags : ℕ) (row : Row) → veiled_row b (record (veiled_row b row) { flags = flags }) ≡ veiled_row b (record row { flags = flags })
restored-veiled true flags row = ap (λ cs. record (masked row) { flags = flags; contents = cs }) (twice row)
restored-veiled false flags row = refl

forgets-veiled : (b : Bool) (parent transient : ℕ) (row : Row)
    → veiled_row b (record (veiled_row b row) { parent = parent; transient = transient }) ≡ veiled_row b (record row { parent = parent; transient = transient })
forgets-veiled true parent transient row = ap (λ cs. record (masked row) { parent = parent; transient = transient; contents = cs }) (twice row)
forgets-veiled false parent transient row = refl

rows-shown : (rows : List Row) → map (λ row. veiled_row false row) rows ≡ rows
rows-shown [] = refl
rows-shown (row ∷ rows) = ap (λ rs. row ∷ rs) (rows-shown rows)

-- ---- frames and contents

abbrev tail_of : {X : Type 0} → List X → List X
tail_of [] = []
tail_of (x ∷ xs) = xs

black-set : (cs : List (Option ℕ)) (i v : ℕ) → blackened (slice_set cs i (Some v)) ≡ slice_set (blackened cs) i (Some 0)
black-set cs i v = map-set (λ c. option_map (λ n. 0) c) cs i (Some v)

drawn-black : (width : ℕ) (cs cs' : List (Option ℕ)) (ps : List (ℕ × ℕ)) (ws ws' : List ℕ) → blackened cs' ≡ blackened cs → zeroed ws' ≡ zeroed ws
    → blackened (drawn width cs' ps ws') ≡ blackened (drawn width cs ps ws)
drawn-black width cs cs' [] ws ws' e f = e
drawn-black width cs cs' (p ∷ ps) [] [] e f = e
drawn-black width cs cs' (p ∷ ps) [] (w' ∷ ws') e f = cc
drawn-black width cs cs' (p ∷ ps) (w ∷ ws) [] e f = cc
drawn-black width cs cs' (p ∷ ps) (w ∷ ws) (w' ∷ ws') e f =
    let i : ℕ = p.1 * width + p.0 in
    drawn-black width (slice_set cs i (Some (w % 2 ^ 24))) (slice_set cs' i (Some (w' % 2 ^ 24))) ps ws ws'
    (black-set cs' i (w' % 2 ^ 24) ∙ ap (λ xs. slice_set xs i (Some 0)) e ∙ sym (black-set cs i (w % 2 ^ 24)))
    (ap tail_of f)

zeroed-twice : (ns : List ℕ) → zeroed (zeroed ns) ≡ zeroed ns
zeroed-twice ns = map-map (λ n. 0) (λ n. 0) ns

zeroed-set : (ws : List ℕ) (i v : ℕ) → zeroed (slice_set ws i v) ≡ zeroed ws
zeroed-set [] i v = refl
zeroed-set (w ∷ ws) zero v = refl
zeroed-set (w ∷ ws) (suc i) v = ap (λ ns. 0 ∷ ns) (zeroed-set ws i v)

zeroed-words : (words : List ℕ) (i : ℕ) (vs : List ℕ) → zeroed (write_words words i vs) ≡ zeroed words
zeroed-words words i [] = refl
zeroed-words words i (v ∷ vs) = zeroed-words (slice_set words i v) (i + 1) vs ∙ zeroed-set words i v

zeroed-write : (words : List ℕ) (s : Waiting) → zeroed (write words s) ≡ zeroed words
zeroed-write words s = zeroed-words words (1024 * s.page + s.offset / 4) (all_words s.bytes)

zeroed-all : (words : List ℕ) (stores : List Waiting) → zeroed (write_all words stores) ≡ zeroed words
zeroed-all words [] = refl
zeroed-all words (s ∷ stores) = zeroed-all (write words s) stores ∙ zeroed-write words s

zeroed-settled : (words : List ℕ) (loads : ℕ) (waiting : List Waiting) → zeroed (settled_words words loads waiting) ≡ zeroed words
zeroed-settled words loads waiting = zeroed-all words (by_due (filter (is_due loads) waiting))

stores-twice : (waiting : List Waiting) → map veiled_store (map veiled_store waiting) ≡ map veiled_store waiting
stores-twice waiting =
    map-map veiled_store veiled_store waiting
    ∙ map-same (λ s. veiled_store (veiled_store s)) veiled_store (λ s. ap (λ bs. record s { bytes = bs }) (zeroed-twice s.bytes)) waiting

waiting-veiled : (loads : ℕ) (waiting : List Waiting) → still_waiting loads (map veiled_store waiting) ≡ map veiled_store (still_waiting loads waiting)
waiting-veiled loads [] = refl
waiting-veiled loads (s ∷ waiting) = by_due_now (not (is_due loads s)) (waiting-veiled loads waiting)
  where
    by_due_now : (b : Bool) → still_waiting loads (map veiled_store waiting) ≡ map veiled_store (still_waiting loads waiting)
        → (if b then veiled_store s ∷ still_waiting loads (map veiled_store waiting) else still_waiting loads (map veiled_store waiting))
        ≡ map veiled_store (if b then s ∷ still_waiting loads waiting else still_waiting loads waiting)
    by_due_now true ih = ap (λ ss. veiled_store s ∷ ss) ih
    by_due_now false ih = ih

pub port-twice : (port : PortState) → veiled_port (veiled_port port) ≡ veiled_port port
port-twice (Pool words loads waiting) =
    ap (λ ws. Pool ws loads (map veiled_store (map veiled_store waiting))) (zeroed-twice words) ∙ ap (Pool (zeroed words) loads) (stores-twice waiting)
port-twice (Tape readings) = ap Tape (zeroed-twice readings)

load-veiled : (port : PortState) (page word : ℕ) → veiled_port (load (veiled_port port) page word).1 ≡ veiled_port (load port page word).1
load-veiled (Pool words loads waiting) page word =
    ap (λ ws. Pool ws (counted (loads + 1)) (map veiled_store (still_waiting loads (map veiled_store waiting))))
    (zeroed-settled (zeroed words) loads (map veiled_store waiting) ∙ zeroed-twice words ∙ sym (zeroed-settled words loads waiting))
    ∙ ap (Pool (zeroed (settled_words words loads waiting)) (counted (loads + 1)))
    (ap (map veiled_store) (waiting-veiled loads waiting) ∙ stores-twice (still_waiting loads waiting))
load-veiled (Tape []) page word = refl
load-veiled (Tape (w ∷ readings)) page word = ap Tape (zeroed-twice readings)

load-alike : (p p' : PortState) (page word : ℕ) → veiled_port p' ≡ veiled_port p → veiled_port (load p' page word).1 ≡ veiled_port (load p page word).1
load-alike p p' page word e = sym (load-veiled p' page word) ∙ ap (λ q. veiled_port (load q page word).1) e ∙ load-veiled p page word

loads-alike : (p p' : PortState) (places : List FramePlace) → veiled_port p' ≡ veiled_port p
    → (zeroed (load_all p' places).words ≡ zeroed (load_all p places).words) × (veiled_port (load_all p' places).port ≡ veiled_port (load_all p places).port)
loads-alike p p' [] e = (refl, e)
loads-alike p p' (s ∷ places) e =
    let rest = loads-alike (load p s.page s.word).1 (load p' s.page s.word).1 places (load-alike p p' s.page s.word e) in
    (ap (λ ns. 0 ∷ ns) rest.0, rest.1)

-- where b holds
abbrev pub veiled_words : Bool → List ℕ → List ℕ
veiled_words hides ws = if hides then zeroed ws else ws

abbrev pub veiled_port_if : Bool → PortState → PortState
veiled_port_if hides port = if hides then veiled_port port else port

pub port_if-twice : (b : Bool) (port : PortState) → veiled_port_if b (veiled_port_if b port) ≡ veiled_port_if b port
port_if-twice true port = port-twice port
port_if-twice false port = refl

record LoadsAlike (b : Bool) (x y : Loads) : Type 0 where
  words : veiled_words b x.words ≡ veiled_words b y.words
  port : veiled_port_if b x.port ≡ veiled_port_if b y.port

loads_if-alike : (b : Bool) (p p' : PortState) (places : List FramePlace) → veiled_port_if b p' ≡ veiled_port_if b p → LoadsAlike b (load_all p' places) (load_all p places)
loads_if-alike true p p' places e = let all = loads-alike p p' places e in record { words = all.0; port = all.1 }
loads_if-alike false p p' places e = record { words = ap (λ q. (load_all q places).words) e; port = ap (λ q. (load_all q places).port) e }

drawn_row-alike : (b : Bool) (row : Row) (area : Area) (ws ws' : List ℕ) → veiled_words b ws' ≡ veiled_words b ws
    → veiled_row b (drawn_row row area ws') ≡ veiled_row b (drawn_row row area ws)
drawn_row-alike true row area ws ws' e =
    ap (λ cs. record (masked row) { contents = cs }) (drawn-black row.place.w row.contents row.contents (points area) ws ws' refl e)
drawn_row-alike false row area ws ws' e = ap (drawn_row row area) e

drawn_row-veiled : (b : Bool) (row : Row) (area : Area) (ws : List ℕ) → veiled_row b (drawn_row (veiled_row b row) area ws) ≡ veiled_row b (drawn_row row area ws)
drawn_row-veiled true row area ws =
    ap (λ cs. record (masked row) { contents = cs }) (drawn-black row.place.w row.contents (blackened row.contents) (points area) ws ws (twice row) refl)
drawn_row-veiled false row area ws = refl

-- ---- a change

abbrev pub veiled_change : Bool → Change → Change
veiled_change hides Same = Same
veiled_change hides (Added row) = Added (veiled_row hides row)
veiled_change hides (Replaced row) = Replaced (veiled_row hides row)
veiled_change hides (Removed window) = Removed window
veiled_change hides Cleared = Cleared

abbrev pub veiled_verdict : Bool → Verdict → Verdict
veiled_verdict hides (Ends cause) = Ends cause
veiled_verdict hides (Greets minor answers) = Greets minor answers
veiled_verdict hides (Goes change answers) = Goes (veiled_change hides change) answers
veiled_verdict hides (Reads row area) = Reads (veiled_row hides row) area

as-masked : (v : Verdict) → veiled_verdict true v ≡ masked_verdict v
as-masked (Ends cause) = refl
as-masked (Greets minor answers) = refl
as-masked (Goes Same answers) = refl
as-masked (Goes (Added row) answers) = refl
as-masked (Goes (Replaced row) answers) = refl
as-masked (Goes (Removed window) answers) = refl
as-masked (Goes Cleared answers) = refl
as-masked (Reads row area) = refl

verdict-veiled : (b : Bool) (sizes : Sizes) (guest minor : ℕ) (own : List Row) (unit : StreamUnit)
    → veiled_verdict b (verdict sizes guest minor (map (veiled_row b) own) unit) ≡ veiled_verdict b (verdict sizes guest minor own unit)
verdict-veiled true sizes guest minor own unit =
    as-masked (verdict sizes guest minor (map masked own) unit) ∙ verdict-masked sizes guest minor own unit ∙ sym (as-masked (verdict sizes guest minor own unit))
verdict-veiled false sizes guest minor own unit = ap (λ rs. veiled_verdict false (verdict sizes guest minor rs unit)) (rows-shown own)

module _ (who : ℕ) where
  abbrev pub veil : Row → Row
  veil row = veiled_row (row.guest == who) row

  pub rows-twice : (rows : List Row) → map veil (map veil rows) ≡ map veil rows
  rows-twice rows = map-map veil veil rows ∙ map-same (λ row. veil (veil row)) veil (λ row. veiled-twice (row.guest == who) row) rows

  pub filter-veil : (test : Row → Bool) → ((row : Row) → test (veil row) ≡ test row) → (rows : List Row) → filter test (map veil rows) ≡ map veil (filter test rows)
  filter-veil test same [] = refl
  filter-veil test same (row ∷ rows) =
      ap (λ b. if b then veil row ∷ filter test (map veil rows) else filter test (map veil rows)) (same row)
      ∙ by_row (test row) (filter-veil test same rows)
    where
      by_row : (b : Bool) → filter test (map veil rows) ≡ map veil (filter test rows)
          → (if b then veil row ∷ filter test (map veil rows) else filter test (map veil rows)) ≡ map veil (if b then row ∷ filter test rows else filter test rows)
      by_row true ih = ap (λ rs. veil row ∷ rs) ih
      by_row false ih = ih

  -- a guest's own rows are hidden all or none
  own-veil : (guest : ℕ) (rows : List Row) → mine guest (map veil rows) ≡ map (veiled_row (guest == who)) (mine guest rows)
  own-veil guest [] = refl
  own-veil guest (row ∷ rows) = by_row (row.guest == guest) refl (own-veil guest rows)
    where
      by_row : (b : Bool) → (row.guest == guest) ≡ b → mine guest (map veil rows) ≡ map (veiled_row (guest == who)) (mine guest rows)
          → (if b then veil row ∷ mine guest (map veil rows) else mine guest (map veil rows))
          ≡ map (veiled_row (guest == who)) (if b then row ∷ mine guest rows else mine guest rows)
      by_row true e ih =
          ap (λ n. veiled_row (n == who) row ∷ mine guest (map veil rows)) (eqb-true row.guest guest e) ∙ ap (λ rs. veiled_row (guest == who) row ∷ rs) ih
      by_row false e ih = ih

  replaced-veil : (guest : ℕ) (new row : Row) → veil (replaced_in guest new (veil row)) ≡ veil (replaced_in guest new row)
  replaced-veil guest new row = by_row (is_row guest new.window row)
    where
      by_row : (b : Bool) → veil (if b then of_guest guest new else veil row) ≡ veil (if b then of_guest guest new else row)
      by_row true = refl
      by_row false = veiled-twice (row.guest == who) row

  forgets-veil : (guest window : ℕ) (row : Row) → veil (forgets guest window (veil row)) ≡ veil (forgets guest window row)
  forgets-veil guest window row = by_guest (row.guest == guest)
    where
      by_guest : (b : Bool) → veil (if b then record (veil row) { parent = name_without window row.parent; transient = name_without window row.transient } else veil row)
          ≡ veil (if b then record row { parent = name_without window row.parent; transient = name_without window row.transient } else row)
      by_guest true = forgets-veiled (row.guest == who) (name_without window row.parent) (name_without window row.transient) row
      by_guest false = veiled-twice (row.guest == who) row

  -- a function of rows, over hidden rows
  map-veil : (f : Row → Row) → ((row : Row) → veil (f (veil row)) ≡ veil (f row)) → (rows : List Row) → map veil (map f (map veil rows)) ≡ map veil (map f rows)
  map-veil f same rows =
      map-map veil f (map veil rows) ∙ map-map (λ row. veil (f row)) veil rows
      ∙ map-same (λ row. veil (f (veil row))) (λ row. veil (f row)) same rows ∙ sym (map-map veil f rows)

  changed-twice : (guest : ℕ) (change : Change) (rows : List Row) → map veil (changed guest change (map veil rows)) ≡ map veil (changed guest change rows)
  changed-twice guest Same rows = rows-twice rows
  changed-twice guest (Added row) rows =
      map-append veil (map veil rows) (of_guest guest row ∷ [])
      ∙ ap (λ rs. rs ++ map veil (of_guest guest row ∷ [])) (rows-twice rows)
      ∙ sym (map-append veil rows (of_guest guest row ∷ []))
  changed-twice guest (Replaced new) rows = map-veil (replaced_in guest new) (replaced-veil guest new) rows
  changed-twice guest (Removed window) rows =
      ap (λ rs. map veil (map (forgets guest window) rs)) (filter-veil (λ row. not (is_row guest window row)) (λ row. refl) rows)
      ∙ map-veil (forgets guest window) (forgets-veil guest window) (filter (λ row. not (is_row guest window row)) rows)
  changed-twice guest Cleared rows =
      ap (map veil) (filter-veil (λ row. not (row.guest == guest)) (λ row. refl) rows) ∙ rows-twice (filter (λ row. not (row.guest == guest)) rows)

  changed-veiled : (guest : ℕ) (change : Change) (rows : List Row)
      → map veil (changed guest (veiled_change (guest == who) change) rows) ≡ map veil (changed guest change rows)
  changed-veiled guest Same rows = refl
  changed-veiled guest (Added row) rows =
      map-append veil rows (of_guest guest (veiled_row (guest == who) row) ∷ [])
      ∙ ap (λ r. map veil rows ++ r ∷ []) (of_guest-veiled (guest == who) guest row)
      ∙ sym (map-append veil rows (of_guest guest row ∷ []))
  changed-veiled guest (Replaced new) rows =
      map-map veil (replaced_in guest (veiled_row (guest == who) new)) rows
      ∙ map-same (λ row. veil (replaced_in guest (veiled_row (guest == who) new) row)) (λ row. veil (replaced_in guest new row)) same rows
      ∙ sym (map-map veil (replaced_in guest new) rows)
    where
      same : (row : Row) → veil (replaced_in guest (veiled_row (guest == who) new) row) ≡ veil (replaced_in guest new row)
      same row = by_row (is_row guest new.window row)
        where
          by_row : (b : Bool) → veil (if b then of_guest guest (veiled_row (guest == who) new) else row) ≡ veil (if b then of_guest guest new else row)
          by_row true = of_guest-veiled (guest == who) guest new
          by_row false = refl
  changed-veiled guest (Removed window) rows = refl
  changed-veiled guest Cleared rows = refl

  -- two changes that are alike, of rows that are alike
  pub changed-alike : (guest : ℕ) (change change' : Change) (rows : List Row) → veiled_change (guest == who) change' ≡ veiled_change (guest == who) change
      → map veil (changed guest change' (map veil rows)) ≡ map veil (changed guest change rows)
  changed-alike guest change change' rows e =
      changed-twice guest change' rows ∙ sym (changed-veiled guest change' rows)
      ∙ ap (λ c. map veil (changed guest c rows)) e ∙ changed-veiled guest change rows

  -- ---- an effect

  abbrev pub veiled_effect : ℕ → Effect → Effect
  veiled_effect guest e = record {
    rows = map veil e.rows;
    minor = e.minor;
    port = veiled_port_if (guest == who) e.port;
    answers = e.answers;
    readings = veiled_words (guest == who) e.readings;
    cause = e.cause;
  }

  carried_out-veiled : (guest minor : ℕ) (rows : List Row) (port : PortState) (v : Verdict)
      → veiled_effect guest (carried_out guest minor rows port (veiled_verdict (guest == who) v)) ≡ veiled_effect guest (carried_out guest minor rows port v)
  carried_out-veiled guest minor rows port (Ends cause) = refl
  carried_out-veiled guest minor rows port (Greets minor' answers) = refl
  carried_out-veiled guest minor rows port (Goes change answers) =
      ap (λ rs. record (veiled_effect guest (carried_out guest minor rows port (Goes change answers))) { rows = rs }) (changed-veiled guest change rows)
  carried_out-veiled guest minor rows port (Reads row area) =
      let ws : List ℕ = (load_all port (frame_places row.dump (points area))).words in
      ap (λ rs. record (veiled_effect guest (carried_out guest minor rows port (Reads row area))) { rows = rs })
      (sym (changed-veiled guest (Replaced (drawn_row (veiled_row (guest == who) row) area ws)) rows)
      ∙ ap (λ r. map veil (changed guest (Replaced r) rows)) (drawn_row-veiled (guest == who) row area ws)
      ∙ changed-veiled guest (Replaced (drawn_row row area ws)) rows)

  carried_out-twice : (guest minor : ℕ) (rows : List Row) (port port' : PortState) (v : Verdict) → veiled_port_if (guest == who) port' ≡ veiled_port_if (guest == who) port
      → veiled_effect guest (carried_out guest minor (map veil rows) port' v) ≡ veiled_effect guest (carried_out guest minor rows port v)
  carried_out-twice guest minor rows port port' (Ends cause) e =
      ap (λ rs. record (veiled_effect guest (carried_out guest minor (map veil rows) port' (Ends cause))) { rows = rs }) (changed-twice guest Cleared rows)
      ∙ ap (λ p. record (veiled_effect guest (carried_out guest minor rows port (Ends cause))) { port = p }) e
  carried_out-twice guest minor rows port port' (Greets minor' answers) e =
      ap (λ rs. record (veiled_effect guest (carried_out guest minor (map veil rows) port' (Greets minor' answers))) { rows = rs }) (rows-twice rows)
      ∙ ap (λ p. record (veiled_effect guest (carried_out guest minor rows port (Greets minor' answers))) { port = p }) e
  carried_out-twice guest minor rows port port' (Goes change answers) e =
      ap (λ rs. record (veiled_effect guest (carried_out guest minor (map veil rows) port' (Goes change answers))) { rows = rs }) (changed-twice guest change rows)
      ∙ ap (λ p. record (veiled_effect guest (carried_out guest minor rows port (Goes change answers))) { port = p }) e
  carried_out-twice guest minor rows port port' (Reads row area) e =
      let b : Bool = guest == who in
      let x : Loads = load_all port' (frame_places row.dump (points area)) in
      let y : Loads = load_all port (frame_places row.dump (points area)) in
      let alike : LoadsAlike b x y = loads_if-alike b port port' (frame_places row.dump (points area)) e in
      let E : List Row → PortState → List ℕ → Effect = λ rs p ws. record { rows = rs; minor = minor; port = p; answers = []; readings = ws; cause = None } in
      ap (λ rs. E rs (veiled_port_if b x.port) (veiled_words b x.words))
      (changed-alike guest (Replaced (drawn_row row area y.words)) (Replaced (drawn_row row area x.words)) rows
      (ap Replaced (drawn_row-alike b row area y.words x.words alike.words)))
      ∙ ap (λ p. E (map veil (changed guest (Replaced (drawn_row row area y.words)) rows)) p (veiled_words b x.words)) alike.port
      ∙ ap (E (map veil (changed guest (Replaced (drawn_row row area y.words)) rows)) (veiled_port_if b y.port)) alike.words

  -- the effect of a unit on rows and frames that are alike
  pub effect-alike : (sizes : Sizes) (guest minor : ℕ) (rows : List Row) (port port' : PortState) (unit : StreamUnit)
      → veiled_port_if (guest == who) port' ≡ veiled_port_if (guest == who) port
      → veiled_effect guest (effect sizes guest minor (map veil rows) port' unit) ≡ veiled_effect guest (effect sizes guest minor rows port unit)
  effect-alike sizes guest minor rows port port' unit e =
      let b : Bool = guest == who in
      let v' : Verdict = verdict sizes guest minor (mine guest (map veil rows)) unit in
      let v : Verdict = verdict sizes guest minor (mine guest rows) unit in
      let same : veiled_verdict b v' ≡ veiled_verdict b v =
      ap (λ own. veiled_verdict b (verdict sizes guest minor own unit)) (own-veil guest rows) ∙ verdict-veiled b sizes guest minor (mine guest rows) unit in
      carried_out-twice guest minor rows port port' v' e
      ∙ sym (carried_out-veiled guest minor rows port v')
      ∙ ap (λ w. veiled_effect guest (carried_out guest minor rows port w)) same
      ∙ carried_out-veiled guest minor rows port v

  -- ---- a granted input

  abbrev pub veiled_grant : Granted → Granted
  veiled_grant x = record { rows = map veil x.rows; answers = x.answers }

  grant_change-veiled : (b : Bool) (input : GIn) (row : Row) → veiled_change b (grant_change input (veiled_row b row)) ≡ veiled_change b (grant_change input row)
  grant_change-veiled b (g.Place window rect) row = ap Replaced (placed-veiled b rect row)
  grant_change-veiled b (g.Restored window) row = ap Replaced (restored-veiled b (flags_without row.flags WINDOW_FLAG_MINIMIZE) row)
  grant_change-veiled b input row = refl

  row_with-veiled : (b : Bool) (window : ℕ) (own : List Row) → row_with window (map (veiled_row b) own) ≡ option_map (veiled_row b) (row_with window own)
  row_with-veiled b window [] = refl
  row_with-veiled b window (row ∷ own) = by_window (row.window == window) (row_with-veiled b window own)
    where
      by_window : (c : Bool) → row_with window (map (veiled_row b) own) ≡ option_map (veiled_row b) (row_with window own)
          → (if c then Some (veiled_row b row) else row_with window (map (veiled_row b) own)) ≡ option_map (veiled_row b) (if c then Some row else row_with window own)
      by_window true ih = refl
      by_window false ih = ih

  granted_to-alike : (guest : ℕ) (rows : List Row) (input : GIn) (paste : List ℕ) (found : Option Row)
      → veiled_grant (granted_to guest (map veil rows) input paste (option_map (veiled_row (guest == who)) found)) ≡ veiled_grant (granted_to guest rows input paste found)
  granted_to-alike guest rows input paste None = ap (λ rs. record { rows = rs; answers = [] }) (rows-twice rows)
  granted_to-alike guest rows input paste (Some row) =
      ap (λ rs. record { rows = rs; answers = grant_answers input paste })
      (changed-alike guest (grant_change input row) (grant_change input (veiled_row (guest == who) row)) rows (grant_change-veiled (guest == who) input row))

  granted_by-alike : (guest : ℕ) (rows : List Row) (input : GIn) (paste : List ℕ) (window : Option ℕ)
      → veiled_grant (granted_by guest (map veil rows) input paste window) ≡ veiled_grant (granted_by guest rows input paste window)
  granted_by-alike guest rows input paste None = ap (λ rs. record { rows = rs; answers = grant_answers input paste }) (rows-twice rows)
  granted_by-alike guest rows input paste (Some window) =
      ap (λ own. veiled_grant (granted_to guest (map veil rows) input paste (row_with window own))) (own-veil guest rows)
      ∙ ap (λ r. veiled_grant (granted_to guest (map veil rows) input paste r)) (row_with-veiled (guest == who) window (mine guest rows))
      ∙ granted_to-alike guest rows input paste (row_with window (mine guest rows))

  pub granted-alike : (guest : ℕ) (rows : List Row) (input : GIn) (paste : List ℕ)
      → veiled_grant (granted guest (map veil rows) input paste) ≡ veiled_grant (granted guest rows input paste)
  granted-alike guest rows input paste = granted_by-alike guest rows input paste (window_of input)

-- ---- a store

stored-alike : (loads delay page offset : ℕ) (words words' : List ℕ) (waiting waiting' : List Waiting) (bytes bytes' : List ℕ)
    → zeroed words' ≡ zeroed words → map veiled_store waiting' ≡ map veiled_store waiting → zeroed bytes' ≡ zeroed bytes
    → veiled_port (stored_in words' loads waiting' delay page offset bytes') ≡ veiled_port (stored_in words loads waiting delay page offset bytes)
stored-alike loads delay page offset words words' waiting waiting' bytes bytes' e f h =
    ap (λ n. veiled_port (choose (delay == 0) (n == 64) words' waiting' bytes')) (sym (length-map waiting' veiled_store) ∙ ap length f ∙ length-map waiting veiled_store)
    ∙ by_delay (delay == 0) (length waiting == 64)
  where
    now : List ℕ → Waiting
    now bs = record { due = loads; page = page; offset = offset; bytes = bs }

    later : List ℕ → Waiting
    later bs = record { due = counted (loads + delay); page = page; offset = offset; bytes = bs }

    choose : Bool → Bool → List ℕ → List Waiting → List ℕ → PortState
    choose at_once full ws ss bs =
        if at_once then Pool (write ws (now bs)) loads ss else if full then Pool (write ws (now bs)) loads ss else Pool ws loads (ss ++ later bs ∷ [])

    at_once : veiled_port (Pool (write words' (now bytes')) loads waiting') ≡ veiled_port (Pool (write words (now bytes)) loads waiting)
    at_once =
        ap (λ ws. Pool ws loads (map veiled_store waiting')) (zeroed-write words' (now bytes') ∙ e ∙ sym (zeroed-write words (now bytes)))
        ∙ ap (Pool (zeroed (write words (now bytes))) loads) f

    by_delay : (a b : Bool) → veiled_port (choose a b words' waiting' bytes') ≡ veiled_port (choose a b words waiting bytes)
    by_delay true b = at_once
    by_delay false true = at_once
    by_delay false false =
        ap (λ ws. Pool ws loads (map veiled_store (waiting' ++ later bytes' ∷ []))) e
        ∙ ap (Pool (zeroed words) loads)
        (map-append veiled_store waiting' (later bytes' ∷ [])
        ∙ ap (λ ss. ss ++ veiled_store (later bytes') ∷ []) f
        ∙ ap (λ bs. map veiled_store waiting ++ record { due = counted (loads + delay); page = page; offset = offset; bytes = bs } ∷ []) h
        ∙ sym (map-append veiled_store waiting (later bytes ∷ [])))

store-veiled : (port : PortState) (delay page offset : ℕ) (bytes bytes' : List ℕ) → zeroed bytes' ≡ zeroed bytes
    → veiled_port (store (veiled_port port) delay page offset bytes') ≡ veiled_port (store port delay page offset bytes)
store-veiled (Pool words loads waiting) delay page offset bytes bytes' h =
    stored-alike loads delay page offset (settled_words words loads waiting) (settled_words (zeroed words) loads (map veiled_store waiting))
    (still_waiting loads waiting) (still_waiting loads (map veiled_store waiting)) bytes bytes'
    (zeroed-settled (zeroed words) loads (map veiled_store waiting) ∙ zeroed-twice words ∙ sym (zeroed-settled words loads waiting))
    (ap (map veiled_store) (waiting-veiled loads waiting) ∙ stores-twice (still_waiting loads waiting)) h
store-veiled (Tape readings) delay page offset bytes bytes' h = ap Tape (zeroed-twice readings)

pub store-alike : (b : Bool) (port : PortState) (delay page offset : ℕ) (bytes : List ℕ)
    → veiled_port_if b (store (veiled_port_if b port) delay page offset (if b then zeroed bytes else bytes)) ≡ veiled_port_if b (store port delay page offset bytes)
store-alike true port delay page offset bytes = store-veiled port delay page offset bytes (zeroed bytes) (zeroed-twice bytes)
store-alike false port delay page offset bytes = refl
