-- Spellings can be told apart.
use Rattle.std.proofs.Common.{◌≡◌, ℕ, ◌<◌, ◌^◌, List, [], ◌∷◌, ◌++◌, length, take, drop, Some, refl, sym, ap, ◌∙◌, append_assoc, append-nil}
use Rattle.std.proofs.lemmas.List.{take_at, drop_at}
use Rattle.gui_wire.specs.Words.{words}
use Rattle.gui_wire.specs.AgentMessages.{AgentMessage, kind_of, body_of, spelling, reading, HasSpelling}
use Rattle.gui_wire.specs.DaemonMessages.{DaemonMessage, daemon_spelling, HasDaemonSpelling}
use Rattle.gui_wire.specs.Beginnings.{Whole, beginning}
use Rattle.gui_wire.specs.Laws.{AreToldApart}
use Rattle.gui_wire.proofs.SpellingLemmas.{reading-body}
use Rattle.gui_wire.proofs.ReadingLemmas.{words-cancel, kind-small, small-spelled}
use Rattle.gui_wire.proofs.DaemonLemmas.{beginning-spelled}

-- two spellings, each with something behind it
record AreSame {M : Type 0} (v w : ℕ) (m n : M) (xs ys : List ℕ) : Type 0 where
  window : v ≡ w
  message : m ≡ n
  behind : xs ≡ ys

-- where spellings with something behind them are the same only if all of it is, they are told apart
told : {M : Type 0} (spells : ℕ → M → List ℕ) (Has : M → Type 0)
    → ((v w : ℕ) (m n : M) (xs ys : List ℕ) → v < 2 ^ 32 → w < 2 ^ 32 → Has m → Has n → spells v m ++ xs ≡ spells w n ++ ys → AreSame v w m n xs ys)
    → AreToldApart spells Has
told spells Has same = record {
  differ = λ v w m n sv sw hm hn e.
      let is = same v w m n [] [] sv sw hm hn (append-nil (spells v m) ∙ e ∙ sym (append-nil (spells w n))) in
      (is.window, is.message);
  no_front = λ v w m n sv sw hm hn front.
      let is = same v w m n front.0 [] sv sw hm hn (front.2 ∙ sym (append-nil (spells w n))) in
      front.1 is.behind;
}

agent-same : (v w : ℕ) (m n : AgentMessage) (xs ys : List ℕ) → v < 2 ^ 32 → w < 2 ^ 32 → HasSpelling m → HasSpelling n
    → spelling v m ++ xs ≡ spelling w n ++ ys → AreSame v w m n xs ys
agent-same v w m n xs ys sv sw hm hn e =
    let parts = words-cancel (kind_of m ∷ v ∷ length (body_of m) ∷ []) (kind_of n ∷ w ∷ length (body_of n) ∷ []) (body_of m ++ xs) (body_of n ++ ys)
    (kind-small m, (sv, (small-spelled m hm, tt))) (kind-small n, (sw, (small-spelled n hn, tt))) refl
    (sym (append_assoc (words (kind_of m ∷ v ∷ length (body_of m) ∷ [])) (body_of m) xs) ∙ e ∙ append_assoc (words (kind_of n ∷ w ∷ length (body_of n) ∷ [])) (body_of n) ys) in
    let heads = parts.0 in
    let kind : kind_of m ≡ kind_of n = cc in
    let window : v ≡ w = cc in
    let size : length (body_of m) ≡ length (body_of n) = cc in
    let bodies : body_of m ≡ body_of n = sym (take_at (body_of m) xs (length (body_of m)) refl) ∙ ap (take (length (body_of m))) parts.1 ∙ take_at (body_of n) ys (length (body_of m)) (sym size) in
    let rests : xs ≡ ys = sym (drop_at (body_of m) xs (length (body_of m)) refl) ∙ ap (drop (length (body_of m))) parts.1 ∙ drop_at (body_of n) ys (length (body_of m)) (sym size) in
    let somes : Some m ≡ Some n = sym (reading-body m hm) ∙ ap (λ k. reading k (body_of m)) kind ∙ ap (reading (kind_of n)) bodies ∙ reading-body n hn in
    record { window = window; message = cc; behind = rests }

daemon-same : (v w : ℕ) (m n : DaemonMessage) (xs ys : List ℕ) → v < 2 ^ 32 → w < 2 ^ 32 → HasDaemonSpelling m → HasDaemonSpelling n
    → daemon_spelling v m ++ xs ≡ daemon_spelling w n ++ ys → AreSame v w m n xs ys
daemon-same v w m n xs ys sv sw hm hn e =
    let both : Whole v m (length (daemon_spelling v m)) ≡ Whole w n (length (daemon_spelling w n)) =
    sym (beginning-spelled v m xs sv hm) ∙ ap beginning e ∙ beginning-spelled w n ys sw hn in
    let size : length (daemon_spelling v m) ≡ length (daemon_spelling w n) = cc in
    record {
      window = cc;
      message = cc;
      behind = sym (drop_at (daemon_spelling v m) xs (length (daemon_spelling v m)) refl) ∙ ap (drop (length (daemon_spelling v m))) e ∙ drop_at (daemon_spelling w n) ys (length (daemon_spelling v m)) (sym size);
    }

pub agent-told : AreToldApart spelling HasSpelling
agent-told = told spelling HasSpelling agent-same

pub daemon-told : AreToldApart daemon_spelling HasDaemonSpelling
daemon-told = told daemon_spelling HasDaemonSpelling daemon-same
