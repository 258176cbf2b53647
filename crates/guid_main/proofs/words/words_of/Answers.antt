use Rattle.std.proofs.Common.{◌≡◌, ℕ, List, Bool, true, false, refl}
use Rattle.std.specs.Prelude.{String}
use Rattle.std.specs.Global.{Global}
use Rattle.guid_main.specs.WordForms.{IsReplay, IsMake, HasNoForm}
use Rattle.guid_main.specs.declared.words.Words.TheVariants as forms
use Rattle.guid_main.proofs.words.words_of.Goals as goal

no_form : (words : List (String Global)) → (IsReplay words → ⊥) → ((rounds : ℕ) → IsMake words rounds → ⊥) → HasNoForm words
no_form words replay make forms.Replay has = replay has
no_form words replay make (forms.Make rounds) has = make rounds has

not_both : {b : Bool} → b ≡ true → b ≡ false → ⊥
not_both is not = cc

pub returns-in-None-clause-none : goal.returns-in-None-clause-none
returns-in-None-clause-none c = λ none. no_form c.args.words.now.items (λ is. not_both (c.is_replay.ensures.1 is) c.if-is_replay.false) (c.in-None.ensures.none refl)
