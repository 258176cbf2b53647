use Rattle.std.proofs.Common.{◌≡◌, ℕ, ◌+◌, ◌-◌, ◌*◌, ◌≤◌, List, length, sym, subst, ap, ◌∙◌, arith}
use borrow.Rule.Slice.PartMut.{put_mid}
use Rattle.desk_laws.specs.Frames.{Loads, Pool, PortState, counted, write_words}
use Rattle.frame_pool.specs.Regions.{NotBefore}
use Rattle.frame_pool.specs.Runs.{run_of, words_from}
use Rattle.frame_pool.proofs.RunLemmas.{length-words_from, run-settled, size-of-part, write-mid}
use Rattle.frame_pool.proofs.frames.Frames.load_part.Goals as goal

pub returns-clause-words : goal.returns-clause-words
returns-clause-words c =
    let page : ℕ = c.args.place.page in let word : ℕ = c.args.place.word in let n : ℕ = c.quiet_loads-n.result in let done : ℕ = c.args.done in
    let room : List ℕ = c.args.words.now in let glass : List ℕ = c.settle.new.glass in let got : List ℕ = c.load_run.new.words in
    let quiet : NotBefore (c.self.inside.loads + n) c.settle.new.waiting.items = subst (NotBefore (c.self.inside.loads + n)) c.deref.ensures.value c.quiet_loads-n.ensures.quiet in
    let run : run_of c.args.self.now.state page word n ≡ record { words = words_from glass (1024 * page + word) n; port = Pool glass (counted (c.self.inside.loads + n)) c.settle.new.waiting.items } =
    ap (λ v. run_of v.state page word n) (sym c.self.view_is)
    ∙ run-settled c.self.inside.glass glass c.self.inside.loads c.self.inside.waiting.items c.settle.new.waiting.items page word n c.quiet_loads-n.ensures.some c.settle.ensures.words c.settle.ensures.waiting quiet in
    let fits : done + n ≤ length room = omega (arith, c.quiet_loads-n.ensures.few, c.requires.room) in
    let one : done + n - done ≡ n = omega arith in
    let is : got ≡ words_from glass (1024 * page + word) n = c.load_run.ensures ∙ ap (words_from glass (1024 * page + word)) (size-of-part room done n fits) in
    ap (λ (k : ℕ). put_mid done k room got) one ∙ write-mid room got done n fits (ap length is ∙ length-words_from glass (1024 * page + word) n)
    ∙ ap (write_words room done) (is ∙ sym (ap (λ (g : Loads). g.words) run))

pub returns-clause-after : goal.returns-clause-after
returns-clause-after c =
    let page : ℕ = c.args.place.page in let word : ℕ = c.args.place.word in let n : ℕ = c.quiet_loads-n.result in
    let glass : List ℕ = c.settle.new.glass in
    let quiet : NotBefore (c.self.inside.loads + n) c.settle.new.waiting.items = subst (NotBefore (c.self.inside.loads + n)) c.deref.ensures.value c.quiet_loads-n.ensures.quiet in
    let run : run_of c.args.self.now.state page word n ≡ record { words = words_from glass (1024 * page + word) n; port = Pool glass (counted (c.self.inside.loads + n)) c.settle.new.waiting.items } =
    ap (λ v. run_of v.state page word n) (sym c.self.view_is)
    ∙ run-settled c.self.inside.glass glass c.self.inside.loads c.self.inside.waiting.items c.settle.new.waiting.items page word n c.quiet_loads-n.ensures.some c.settle.ensures.words c.settle.ensures.waiting quiet in
    ap (λ (k : ℕ). record { pages = c.self.inside.pages; state = Pool glass k c.settle.new.waiting.items }) c.saturating_add-self-inside.ensures
    ∙ ap (λ (k : ℕ). record { pages = k; state = Pool glass (counted (c.self.inside.loads + n)) c.settle.new.waiting.items }) (ap (λ v. v.pages) c.self.view_is)
    ∙ ap (λ (s : PortState). record { pages = c.args.self.now.pages; state = s }) (sym (ap (λ (g : Loads). g.port) run))
