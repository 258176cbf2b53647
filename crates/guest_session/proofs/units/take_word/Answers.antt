use Rattle.std.proofs.Common.{◌∙◌, ℕ, ◌%◌, false, sym, ap, subst}
use Rattle.desk_laws.specs.Stream.{Word, front}
use Rattle.desk_laws.specs.Effects.{greeting}
use Rattle.desk_laws.specs.Scene.{replies}
use Rattle.io_ports.specs.Posts.{Leads}
use Rattle.in_stream.proofs.CallerLemmas.{some_rest, stands-some_rest, has_unit-word, shown-word}
use Rattle.guest_session.specs.Desk.{sizes_in}
use Rattle.guest_session.proofs.TurnLemmas.{turn-greets}
use Rattle.guest_session.proofs.units.take_word.Goals as goal

pub drop_word-requires-clause-unit : goal.drop_word-requires-clause-unit
drop_word-requires-clause-unit g c =
    let s = c.args.stream.now in
    has_unit-word s (some_rest s) c.in-Some.word c.requires.greeted (stands-some_rest s) (sym (c.in-Some.ensures (some_rest s) (stands-some_rest s)))

pub returns-clause-turned : goal.returns-clause-turned
returns-clause-turned g c = λ port rest stands.
    let s = c.args.stream.now in
    let f = shown-word rest c.in-Some.word (sym (c.in-Some.ensures rest stands)) in
    let P : ℕ → Type 0 = λ n. Leads g.O.Outlet.takes c.args.out.now (replies n (greeting (sizes_in c.args.desk.now c.args.rows.now) (c.in-Some.word % 65536))) c.greet.new.out in
    turn-greets g.O.Outlet.takes c.args.out.now port (sizes_in c.args.desk.now c.args.rows.now) s c.args.rows.now c.args.minor.now (front false rest) c.in-Some.word f.0 c.greet.new.out c.drop_word.new.self f.1 c.if-word-ne1.false
    (subst P c.guest.ensures (c.greet.ensures c.args.rows.now)) c.drop_word.ensures.greeted
    (c.drop_word.ensures.drops rest (Word c.in-Some.word) f.0 stands (ap (λ t. front t rest) c.requires.greeted ∙ f.1))
