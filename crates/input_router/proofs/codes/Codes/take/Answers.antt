use Rattle.std.proofs.Common.{◌≡◌, ◌==◌, not, sym, ◌∙◌, ap, subst, List, ℕ, rules}
use Rattle.std.specs.Prelude.{filter}
use Rattle.arrayvec.proofs.ArrayVecLemmas.{filter-from_retain}
use Rattle.desk_laws.specs.Events.{released}
use Rattle.input_router.specs.Codes.{AreCodes}
use Rattle.input_router.proofs.CodeLemmas.{take-codes}
use Rattle.input_router.proofs.codes.Codes.take.Goals as goal

pub returns : goal.returns
returns c =
    let left : c.retain.new.self.items ≡ filter (λ other. not (other == c.args.code)) c.self.inside.codes.items =
    filter-from_retain _ (λ other. not (other == c.args.code)) _ (λ x b f y r. search rules) _ _ c.retain.ensures.filtered in
    left ∙ ap (released c.args.code) c.self.view_is

pub invariant_of-self : goal.invariant_of-self
invariant_of-self c =
    let left : c.retain.new.self.items ≡ filter (λ other. not (other == c.args.code)) c.self.inside.codes.items =
    filter-from_retain _ (λ other. not (other == c.args.code)) _ (λ x b f y r. search rules) _ _ c.retain.ensures.filtered in
    subst (λ (codes : List ℕ). AreCodes codes) (sym left) (take-codes (λ other. not (other == c.args.code)) c.self.inside.codes.items c.self.invariant)
