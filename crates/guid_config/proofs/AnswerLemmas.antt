-- No two answers hold of the same bytes.
use Rattle.std.proofs.Common.{◌≡◌, ℕ, List, Ok, Err, Some, None, refl, sym, ap, ◌∙◌}
use Rattle.std.proofs.lemmas.Option.{same_Some}
use Rattle.toml.specs.Data.{Members, table}
use Rattle.desk_laws.specs.Rules.{first_broken}
use Rattle.guid_config.specs.declared.live.Live.{Live}
use Rattle.guid_config.specs.declared.live.ConfigFault.TheVariants.{NotToml, Shape, Rule, NoMemory}
use Rattle.guid_config.specs.Shape.{live_of}
use Rattle.guid_config.specs.Reading.{HasTree, States}
use Rattle.guid_config.specs.Laws.{AnswersAreOne}

-- what two trees of the same bytes state
same_stated : (bytes : List ℕ) (t u : Members) → HasTree bytes t → HasTree bytes u → live_of (table t) ≡ live_of (table u)
same_stated bytes t u a b = ap (λ tree. live_of (table tree)) (same_Some t u (sym a.1 ∙ b.1))

one_stated : (bytes : List ℕ) (l m : Live) → States bytes l → States bytes m → l ≡ m
one_stated bytes l m a b = same_Some l m (sym a.1.1 ∙ same_stated bytes a.0 b.0 a.1.0 b.1.0 ∙ b.1.1)

stated_or_not : (bytes : List ℕ) (l : Live) → States bytes l → ((tree : Members) × (HasTree bytes tree × (live_of (table tree) ≡ None))) → ⊥
stated_or_not bytes l a b = let apart : Some l ≡ None = sym a.1.1 ∙ same_stated bytes a.0 b.0 a.1.0 b.1.0 ∙ b.1.1 in cc

kept_or_broken : (bytes : List ℕ) (l m : Live) (k : ℕ) → States bytes l → States bytes m → first_broken l.setup ≡ None → first_broken m.setup ≡ Some k → ⊥
kept_or_broken bytes l m k a b kept broken =
    let apart : None ≡ Some k = sym kept ∙ ap (λ live. first_broken live.setup) (one_stated bytes l m a b) ∙ broken in cc

pub answers_are_one : AnswersAreOne
answers_are_one bytes (Ok l) (Ok m) x y a b = ap Ok (one_stated bytes l m a.0 b.0)
answers_are_one bytes (Ok l) (Err NotToml) x y a b = absurd (b a.0.0 a.0.1.0)
answers_are_one bytes (Ok l) (Err Shape) x y a b = absurd (stated_or_not bytes l a.0 b)
answers_are_one bytes (Ok l) (Err (Rule k)) x y a b = absurd (kept_or_broken bytes l b.0 k a.0 b.1.0 a.1 b.1.1)
answers_are_one bytes (Err NotToml) (Ok m) x y a b = absurd (a b.0.0 b.0.1.0)
answers_are_one bytes (Err NotToml) (Err NotToml) x y a b = refl
answers_are_one bytes (Err NotToml) (Err Shape) x y a b = absurd (a b.0 b.1.0)
answers_are_one bytes (Err NotToml) (Err (Rule k)) x y a b = absurd (a b.1.0.0 b.1.0.1.0)
answers_are_one bytes (Err Shape) (Ok m) x y a b = absurd (stated_or_not bytes m b.0 a)
answers_are_one bytes (Err Shape) (Err NotToml) x y a b = absurd (b a.0 a.1.0)
answers_are_one bytes (Err Shape) (Err Shape) x y a b = refl
answers_are_one bytes (Err Shape) (Err (Rule k)) x y a b = absurd (stated_or_not bytes b.0 b.1.0 a)
answers_are_one bytes (Err (Rule j)) (Ok m) x y a b = absurd (kept_or_broken bytes m a.0 j b.0 a.1.0 b.1 a.1.1)
answers_are_one bytes (Err (Rule j)) (Err NotToml) x y a b = absurd (b a.1.0.0 a.1.0.1.0)
answers_are_one bytes (Err (Rule j)) (Err Shape) x y a b = absurd (stated_or_not bytes a.0 a.1.0 b)
answers_are_one bytes (Err (Rule j)) (Err (Rule k)) x y a b =
    ap (λ n. Err (Rule n)) (same_Some j k (sym a.1.1 ∙ ap (λ live. first_broken live.setup) (one_stated bytes a.0 b.0 a.1.0 b.1.0) ∙ b.1.1))
answers_are_one bytes (Err NoMemory) b x y _ _ = absurd (x refl)
answers_are_one bytes a (Err NoMemory) x y _ _ = absurd (y refl)
