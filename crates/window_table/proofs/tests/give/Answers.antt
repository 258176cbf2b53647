use Rattle.std.proofs.Common.{◌≡◌, ◌≤◌, ◌+◌, ℕ, List, [], true, Some, None, Option, is_some, length, subst, sym, arith, ap, refl, ◌∙◌}
use Rattle.gui_wire.specs.Seen.{references}
use Rattle.desk_laws.specs.Rows.{DumpOf}
use Rattle.desk_laws.specs.Effects.{refs_besides}
use Rattle.window_table.specs.Entries.{Entry, entry_at, entry_with, plain_rows, refs_in, with_dump}
use Rattle.window_table.proofs.EntryLemmas.{found-window, at-updated}
use Rattle.window_table.proofs.tests.give.Goals as goal

pub set_refs-requires-clause-fits : goal.set_refs-requires-clause-fits
set_refs-requires-clause-fits c = λ e at.
    let entries = c.args.table.now.entries in
    let window : e.window ≡ c.args.window = found-window c.args.window entries e (sym c.in_ok-slot.ensures.same ∙ at) in
    let besides : c.refs_besides.result ≡ refs_besides c.args.window (plain_rows entries) = c.refs_besides.ensures in
    let new : c.count-else-count-gt8.result ≡ length (references c.args.refs.now) = c.count-else-count-gt8.ensures in
    let fits : refs_besides c.args.window (plain_rows entries) + length (references c.args.refs.now) ≤ c.args.table.now.pages =
    omega (arith, besides, new, c.if-refs_besides-count-gt8.false, c.requires) in
    subst (λ w. refs_besides w (plain_rows entries) + length (references c.args.refs.now) ≤ c.args.table.now.pages) (sym window) fits

-- a member that is there
sure : (o : Option Entry) → is_some o ≡ true → (e : Entry) × (o ≡ Some e)
sure None some = absurd cc
sure (Some e) some = (e, refl)

-- the references of the entry that is found
refs_found : (a b : Entry) → Some a ≡ Some b → refs_in a.dump ≡ refs_in b.dump
refs_found a b e = ap (λ o. refs_or o) e
  where
    refs_or : Option Entry → List ℕ
    refs_or None = []
    refs_or (Some x) = refs_in x.dump

pub ref_at-requires-clause-held : goal.ref_at-requires-clause-held
ref_at-requires-clause-held c =
    let entries = c.args.table.now.entries in
    let slot = c.in_ok-slot.slot in
    let dump : DumpOf = record { width = 7; height = 9; refs = references c.args.refs.now } in
    let some : is_some (entry_with c.args.window entries) ≡ true = c.slot_of.ensures.known ∙ ap is_some c.in_ok-slot.was in
    let one = sure (entry_at slot entries) (ap is_some c.in_ok-slot.ensures.same ∙ some) in
    ap (λ v. is_some (entry_at slot v.entries)) c.set_refs.ensures
    ∙ ap is_some (at-updated slot (with_dump dump) entries one.0 (λ x. refl) one.1)

pub ref_at-requires-clause-i : goal.ref_at-requires-clause-i
ref_at-requires-clause-i c = λ e at.
    let entries = c.args.table.now.entries in
    let slot = c.in_ok-slot.slot in
    let dump : DumpOf = record { width = 7; height = 9; refs = references c.args.refs.now } in
    let some : is_some (entry_with c.args.window entries) ≡ true = c.slot_of.ensures.known ∙ ap is_some c.in_ok-slot.was in
    let one = sure (entry_at slot entries) (ap is_some c.in_ok-slot.ensures.same ∙ some) in
    let is : Some (with_dump dump one.0) ≡ Some e =
    sym (at-updated slot (with_dump dump) entries one.0 (λ x. refl) one.1)
    ∙ ap (λ v. entry_at slot v.entries) (sym c.set_refs.ensures) ∙ at in
    let refs : references c.args.refs.now ≡ refs_in e.dump = refs_found (with_dump dump one.0) e is in
    omega (arith, ap length refs, c.count.ensures, c.if-count-lt2.false)
