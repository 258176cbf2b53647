use Rattle.std.proofs.Common.{◌≡◌, ◌<◌, sym, subst, arith, false, List, ℕ}
use Rattle.desk_laws.specs.Events.{is_among}
use Rattle.input_router.specs.Codes.{AreCodes}
use Rattle.input_router.proofs.CodeLemmas.{put-codes, has-room}
use Rattle.input_router.proofs.codes.Codes.put.Goals as goal

pub push-requires : goal.push-requires
push-requires c =
    let new : is_among c.args.code c.self.inside.codes.items ≡ false = cc in
    let small : c.args.code < 256 = omega (arith, c.ranges.code.fits) in
    (omega arith, has-room c.self.inside.codes.items c.args.code c.self.invariant new small)

pub invariant_of-self : goal.invariant_of-self
invariant_of-self c =
    let new : is_among c.args.code c.self.inside.codes.items ≡ false = cc in
    let small : c.args.code < 256 = omega (arith, c.ranges.code.fits) in
    subst (λ (codes : List ℕ). AreCodes codes) (sym c.push.ensures.items) (put-codes c.self.inside.codes.items c.args.code c.self.invariant new small)
