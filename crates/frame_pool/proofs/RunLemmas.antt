-- Runs of words.
use Rattle.std.proofs.Common.{◌≡◌, ℕ, zero, suc, ◌+◌, ◌-◌, ◌*◌, ◌<◌, ◌≤◌, List, [], ◌∷◌, ◌++◌, length, length-set, length-take, length-drop, slice_index, slice_set, take, drop, refl, sym, ap, ◌∙◌, arith}
use borrow.Rule.Slice.PartMut.{put_mid}
use Rattle.desk_laws.specs.Frames.{PortState, Pool, Loads, Waiting, load, counted, load_first, settled_words, still_waiting, write_words}
use Rattle.frame_pool.specs.Regions.{NotBefore}
use Rattle.frame_pool.specs.Runs.{run_of, words_from}
use Rattle.frame_pool.proofs.DueLemmas.{settle-end, all-wait}

-- ---- words written from an index on

pub length-words_from : (ws : List ℕ) (i n : ℕ) → length (words_from ws i n) ≡ n
length-words_from ws i zero = refl
length-words_from ws i (suc n) = ap suc (length-words_from ws (i + 1) n)

pub length-run : (s : PortState) (page word n : ℕ) → length (run_of s page word n).words ≡ n
length-run s page word zero = refl
length-run s page word (suc n) = ap suc (length-run (load s page word).1 page (word + 1) n)

pub length-write : (ws : List ℕ) (i : ℕ) (vs : List ℕ) → length (write_words ws i vs) ≡ length ws
length-write ws i [] = refl
length-write ws i (v ∷ vs) = length-write (slice_set ws i v) (i + 1) vs ∙ length-set ws i v

pub write-more : (ws : List ℕ) (i : ℕ) (xs ys : List ℕ) → write_words ws i (xs ++ ys) ≡ write_words (write_words ws i xs) (i + length xs) ys
write-more ws i [] ys = let same : i ≡ i + 0 = omega arith in ap (λ (k : ℕ). write_words ws k ys) same
write-more ws i (x ∷ xs) ys =
    let same : (i + 1) + length xs ≡ i + suc (length xs) = omega arith in
    write-more (slice_set ws i x) (i + 1) xs ys ∙ ap (λ (k : ℕ). write_words (write_words (slice_set ws i x) (i + 1) xs) k ys) same

-- behind a first word
write-behind : (w : ℕ) (ws : List ℕ) (i j : ℕ) (vs : List ℕ) → j ≡ suc i → write_words (w ∷ ws) j vs ≡ w ∷ write_words ws i vs
write-behind w ws i j [] e = refl
write-behind w ws i j (v ∷ vs) e =
    let next : j + 1 ≡ suc (i + 1) = omega (arith, e) in
    ap (λ (k : ℕ). write_words (slice_set (w ∷ ws) k v) (j + 1) vs) e ∙ write-behind w (slice_set ws i v) (i + 1) (j + 1) vs next

-- words in the place of all
pub write-all : (ws vs : List ℕ) → length vs ≡ length ws → write_words ws 0 vs ≡ vs
write-all [] [] e = refl
write-all [] (v ∷ vs) e = absurd (omega (arith, e))
write-all (w ∷ ws) [] e = absurd (omega (arith, e))
write-all (w ∷ ws) (v ∷ vs) e =
    write-behind v ws 0 (0 + 1) vs (omega arith) ∙ ap (λ xs. v ∷ xs) (write-all ws vs (omega (arith, e)))

-- words in the place of a part
write-front : (ws vs : List ℕ) → length vs ≤ length ws → write_words ws 0 vs ≡ vs ++ drop (length vs) ws
write-front ws [] h = refl
write-front [] (v ∷ vs) h = absurd (omega (arith, h))
write-front (w ∷ ws) (v ∷ vs) h =
    write-behind v ws 0 (0 + 1) vs (omega arith) ∙ ap (λ xs. v ∷ xs) (write-front ws vs (omega (arith, h)))

write-part : (ws vs : List ℕ) (i : ℕ) → i + length vs ≤ length ws → write_words ws i vs ≡ put_mid i (length vs) ws vs
write-part ws vs zero h = write-front ws vs (omega (arith, h))
write-part [] vs (suc i) h = absurd (omega (arith, h))
write-part (w ∷ ws) vs (suc i) h = write-behind w ws i (suc i) vs refl ∙ ap (λ xs. w ∷ xs) (write-part ws vs i (omega (arith, h)))

pub write-mid : (ws vs : List ℕ) (i k : ℕ) → i + k ≤ length ws → length vs ≡ k → put_mid i k ws vs ≡ write_words ws i vs
write-mid ws vs i k h e = ap (λ (n : ℕ). put_mid i n ws vs) (sym e) ∙ sym (write-part ws vs i (omega (arith, h, e)))

-- ---- loads

pub run-more : (s : PortState) (page word n m : ℕ) → run_of s page word (n + m) ≡
    record { words = (run_of s page word n).words ++ (run_of (run_of s page word n).port page (word + n) m).words; port = (run_of (run_of s page word n).port page (word + n) m).port }
run-more s page word zero m =
    let none : 0 + m ≡ m = omega arith in let here : word ≡ word + 0 = omega arith in
    ap (λ (k : ℕ). run_of s page word k) none ∙ ap (λ (w : ℕ). run_of s page w m) here
run-more s page word (suc n) m =
    let s' : PortState = (load s page word).1 in
    let sum : suc n + m ≡ suc (n + m) = omega arith in let here : (word + 1) + n ≡ word + suc n = omega arith in
    ap (λ (k : ℕ). run_of s page word k) sum ∙ ap (load_first (load s page word).0) (run-more s' page (word + 1) n m)
    ∙ ap (λ (w : ℕ). record { words = (load s page word).0 ∷ (run_of s' page (word + 1) n).words ++ (run_of (run_of s' page (word + 1) n).port page w m).words; port = (run_of (run_of s' page (word + 1) n).port page w m).port }) here

-- a run of which so many words are loaded
pub record RunSoFar (first now : PortState) (page word : ℕ) (old new : List ℕ) (done : ℕ) : Type 0 where
  pub within : done ≤ length old
  pub len : length new ≡ length old
  pub words : write_words new done (run_of now page (word + done) (length old - done)).words ≡ write_words old 0 (run_of first page word (length old)).words
  pub after : (run_of now page (word + done) (length old - done)).port ≡ (run_of first page word (length old)).port

pub run-none : (s : PortState) (page word : ℕ) (ws : List ℕ) → RunSoFar s s page word ws ws 0
run-none s page word ws =
    let here : word + 0 ≡ word = omega arith in let whole : length ws - 0 ≡ length ws = omega arith in
    record {
      within = omega arith;
      len = refl;
      words = ap (λ (w : ℕ). write_words ws 0 (run_of s page w (length ws - 0)).words) here ∙ ap (λ (n : ℕ). write_words ws 0 (run_of s page word n).words) whole;
      after = ap (λ (w : ℕ). (run_of s page w (length ws - 0)).port) here ∙ ap (λ (n : ℕ). (run_of s page word n).port) whole;
    }

-- n words more
pub run-on : (first now next : PortState) (page word done n : ℕ) (old ws ws' : List ℕ) → done + n ≤ length old
    → RunSoFar first now page word old ws done → ws' ≡ write_words ws done (run_of now page (word + done) n).words → next ≡ (run_of now page (word + done) n).port
    → RunSoFar first next page word old ws' (done + n)
run-on first now next page word done n old ws ws' below far is went =
    let k : ℕ = word + done in let m : ℕ = length old - (done + n) in let done' : ℕ = done + n in
    let rest : length old - done ≡ n + m = omega (arith, below) in
    let here : word + done' ≡ k + n = omega arith in
    let part : run_of now page k (length old - done) ≡ record { words = (run_of now page k n).words ++ (run_of (run_of now page k n).port page (k + n) m).words; port = (run_of (run_of now page k n).port page (k + n) m).port } =
    ap (λ (j : ℕ). run_of now page k j) rest ∙ run-more now page k n m in
    let behind : run_of next page (word + done') m ≡ run_of (run_of now page k n).port page (k + n) m =
    ap (λ (s : PortState). run_of s page (word + done') m) went ∙ ap (λ (w : ℕ). run_of (run_of now page k n).port page w m) here in
    let size : done + n ≡ done + length (run_of now page k n).words = ap (λ (j : ℕ). done + j) (sym (length-run now page k n)) in
    record {
      within = below;
      len = ap length is ∙ length-write ws done (run_of now page k n).words ∙ far.len;
      words = ap (λ (g : Loads). write_words ws' done' g.words) behind
          ∙ ap (λ (xs : List ℕ). write_words xs done' (run_of (run_of now page k n).port page (k + n) m).words) is
          ∙ ap (λ (j : ℕ). write_words (write_words ws done (run_of now page k n).words) j (run_of (run_of now page k n).port page (k + n) m).words) size
          ∙ sym (write-more ws done (run_of now page k n).words (run_of (run_of now page k n).port page (k + n) m).words)
          ∙ sym (ap (λ (g : Loads). write_words ws done g.words) part) ∙ far.words;
      after = ap (λ (g : Loads). g.port) behind ∙ sym (ap (λ (g : Loads). g.port) part) ∙ far.after;
    }

-- all words
pub run-words : (first now : PortState) (page word done : ℕ) (old ws : List ℕ) → length old ≤ done → RunSoFar first now page word old ws done → ws ≡ (run_of first page word (length old)).words
run-words first now page word done old ws end far =
    let none : 0 ≡ length old - done = omega (arith, end) in
    ap (λ (n : ℕ). write_words ws done (run_of now page (word + done) n).words) none ∙ far.words
    ∙ write-all old (run_of first page word (length old)).words (length-run first page word (length old))

pub run-after : (first now : PortState) (page word done : ℕ) (old ws : List ℕ) → length old ≤ done → RunSoFar first now page word old ws done → now ≡ (run_of first page word (length old)).port
run-after first now page word done old ws end far =
    let none : 0 ≡ length old - done = omega (arith, end) in
    ap (λ (n : ℕ). (run_of now page (word + done) n).port) none ∙ far.after

-- ---- loads before which no store is due

not-before-less : (n m : ℕ) (stores : List Waiting) → m ≤ n → NotBefore n stores → NotBefore m stores
not-before-less n m [] h all = tt
not-before-less n m (s ∷ stores) h all = (omega (arith, h, all.0), not-before-less n m stores h all.1)

-- what one load gives, once the due stores are written
settled-load : (words words' : List ℕ) (loads : ℕ) (stores stores' : List Waiting) (page word n : ℕ) → words' ≡ settled_words words loads stores → stores' ≡ still_waiting loads stores
    → run_of (Pool words loads stores) page word (suc n) ≡ load_first (slice_index words' (1024 * page + word)) (run_of (Pool words' (counted (loads + 1)) stores') page (word + 1) n)
settled-load words words' loads stores stores' page word n here wait =
    ap (λ (ws : List ℕ). load_first (slice_index ws (1024 * page + word)) (run_of (Pool ws (counted (loads + 1)) (still_waiting loads stores)) page (word + 1) n)) (sym here)
    ∙ ap (λ (xs : List Waiting). load_first (slice_index words' (1024 * page + word)) (run_of (Pool words' (counted (loads + 1)) xs) page (word + 1) n)) (sym wait)

-- the loads behind the first, of words that stay
run-quiet : (words : List ℕ) (loads : ℕ) (stores : List Waiting) (page word n : ℕ) → NotBefore (loads + suc n) stores
    → load_first (slice_index words (1024 * page + word)) (run_of (Pool words (counted (loads + 1)) stores) page (word + 1) n)
    ≡ record { words = words_from words (1024 * page + word) (suc n); port = Pool words (counted (loads + suc n)) stores }
run-quiet words loads stores page word zero none = refl
run-quiet words loads stores page word (suc n) none =
    let next : ℕ = counted (loads + 1) in let i : ℕ = 1024 * page + word in
    let now : NotBefore (next + 1) stores = not-before-less (loads + suc (suc n)) (next + 1) stores (omega arith) none in
    let later : NotBefore (next + suc n) stores = not-before-less (loads + suc (suc n)) (next + suc n) stores (omega arith) none in
    let last : counted (next + suc n) ≡ counted (loads + suc (suc n)) = omega arith in
    let at : 1024 * page + (word + 1) ≡ i + 1 = omega arith in
    ap (load_first (slice_index words i)) (settled-load words words next stores stores page (word + 1) n (sym (settle-end words next stores now)) (sym (all-wait next stores now)))
    ∙ ap (load_first (slice_index words i)) (run-quiet words next stores page (word + 1) n later)
    ∙ ap (λ (k : ℕ). record { words = slice_index words i ∷ words_from words k (suc n); port = Pool words (counted (next + suc n)) stores }) at
    ∙ ap (λ (k : ℕ). record { words = slice_index words i ∷ words_from words (i + 1) (suc n); port = Pool words k stores }) last

-- so many loads before the next store is due
pub run-settled : (words words' : List ℕ) (loads : ℕ) (stores stores' : List Waiting) (page word n : ℕ) → 0 < n
    → words' ≡ settled_words words loads stores → stores' ≡ still_waiting loads stores → NotBefore (loads + n) stores'
    → run_of (Pool words loads stores) page word n ≡ record { words = words_from words' (1024 * page + word) n; port = Pool words' (counted (loads + n)) stores' }
run-settled words words' loads stores stores' page word zero some here wait none = absurd (omega (arith, some))
run-settled words words' loads stores stores' page word (suc n) some here wait none =
    settled-load words words' loads stores stores' page word n here wait ∙ run-quiet words' loads stores' page word n none

-- ---- words read one after the other

pub read-next : (ns ws old : List ℕ) (at k v : ℕ) → k < length old → v ≡ slice_index ns (at + k)
    → write_words (slice_set ws k v) (k + 1) (words_from ns (at + (k + 1)) (length old - (k + 1))) ≡ write_words ws k (words_from ns (at + k) (length old - k))
read-next ns ws old at k v below is =
    let m : ℕ = length old - (k + 1) in
    let more : suc m ≡ length old - k = omega (arith, below) in
    let here : at + (k + 1) ≡ at + k + 1 = omega arith in
    ap (λ (i : ℕ). write_words (slice_set ws k v) (k + 1) (words_from ns i m)) here
    ∙ ap (λ (x : ℕ). write_words (slice_set ws k x) (k + 1) (words_from ns (at + k + 1) m)) is
    ∙ ap (λ (n : ℕ). write_words ws k (words_from ns (at + k) n)) more

pub read-all : (ns ws old : List ℕ) (at k : ℕ) → length old ≤ k
    → write_words ws k (words_from ns (at + k) (length old - k)) ≡ write_words old 0 (words_from ns at (length old)) → ws ≡ words_from ns at (length old)
read-all ns ws old at k end far =
    let none : 0 ≡ length old - k = omega (arith, end) in
    ap (λ (n : ℕ). write_words ws k (words_from ns (at + k) n)) none ∙ far ∙ write-all old (words_from ns at (length old)) (length-words_from ns at (length old))

-- the part of a slice
pub size-of-part : (ws : List ℕ) (a n : ℕ) → a + n ≤ length ws → length (take ((a + n) - a) (drop a ws)) ≡ n
size-of-part ws a n h = omega (arith, h, length-take ((a + n) - a) (drop a ws), length-drop a ws)
