-- What the walks cite, passed on from one place.
pub use Rattle.std.specs.Prelude.{◌≡◌, ℕ, ◌+◌, ◌*◌, ◌^◌, ◌<◌, List, [], ◌∷◌, length, get_or, set, replicate, Option, Some, None, IsSome}
pub use mathlib.Core.Path.{refl, sym, ap, subst, ◌∙◌}
pub use native.Mathlib.Omega.{arith}
pub use lib.Dec.{lit<}
pub use lib.ListN.{length-set}
pub use base.Fraction.{full_share}
pub use base.Fml.{Fml, Share, ftrue, fsep, fat, froom, flft, fobs}
pub use base.Logic.{id⊢}
pub use mir.Syntax.{w8, w32, w64, ty_int, ty_ptr, ty_array, named}
pub use mir.Val.{Val, vunit, vint, vptr}
pub use contract.Monad.{fact}
pub use contract.Running.{tables}
pub use types.Kit.{‵, raw, ◌⊛◌, some, later, at_ret, ◌$◌, ◌∵◌, !, qed, done, by, move, keep, drop, use0, use1, use2, split, join, fsplit, fsplit3, fjoin, fjoin3, feq_l, feq_i, flt_l, flt_i, pick, await, rewrite, suffices, frame, group}
pub use types.Run.{enter, of_opd, lit, unit_lit, bin, load, look, init, stop, fld, assigns_last, first, blocks, exec, returns, well_typed, and_then, no_more}
pub use types.ByLocal.{alloc_all, pass_all, free_all, look_at, get, get_in, through, sets, sets_last, lands_as, env}
pub use types.Part.{whole, sub, look_in}
pub use denote.Builtin.{u32, usize, unit}
pub use denote.Exit.{yes}
pub use denote.Index.{place, place_is}
pub use denote.Laws.{shows}
pub use denote.Memory.{cell_at}
pub use denote.Plain.{uint_vals, uint_Tells, uint_Makes}
pub use denote.RawPtr.{Ptr, block_ptr, in_a_block}
pub use denote.Ref.{MutRef, mut_vals, mut_Tells}
pub use denote.Signature.{plain}
pub use denote.Steps.{nothing, owned, opens, closes, peeks, heard, only}
pub use denote.Triple.Call.{calls_at}
pub use denote.Triple.Clauses.{lasts}
pub use denote.Triple.Entry.{on_entry}
pub use denote.Triple.Spec.{triple_of}
pub use denote.Triple.Table.{framed}
pub use denote.Triple.Walked.{Stays, walk_of, says, stay_dropped, Goes-dropped, stay_ref, Goes-ref, ends_at}
pub use Rattle.std.proofs.raw_atomic.Walks.{proved}
