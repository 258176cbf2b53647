use Rattle.std.proofs.Common.{◌≡◌, ◌*◌, ◌∙◌, IfOk, ap, subst}
use Rattle.std.specs.Prelude.{vec_len}
use Rattle.full_repaints.proofs.scene.page_bytes.Goals as goal

pub returns : goal.returns
returns c =
    let count = ap (λ n. 4 * n) (c.deref.ensures.len ∙ c.in_ok-words.ensures.len) in
    subst (λ n. IfOk c.spelled.result (λ bytes. vec_len bytes ≡ n)) count c.spelled.ensures
