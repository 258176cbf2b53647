use Rattle.std.proofs.Common.{◌∙◌, ap, is_some, not, sym}
use Rattle.desk_core.proofs.PieceLemmas.{not-some}
use Rattle.desk_core.proofs.StoreLemmas.{stores-seen}
use Rattle.desk_core.proofs.windows.Windows.take_store.Goals as goal

pub returns-then-is_none-clause-took : goal.returns-then-is_none-clause-took
returns-then-is_none-clause-took g c = λ setup state rests.
    let t = c.index.result.now in
    stores-seen setup c.args.guest c.args.delay c.args.page c.args.offset c.args.piece.now _ c.args.self.now (g.P.FramePort.state c.args.port.now) (g.P.FramePort.state c.store.new.self) state t
    c.self.view_is c.requires.guest c.index.ensures (not-some t.ended (ap is_some (sym c.ended.ensures) ∙ (c.is_none.ensures ∙ ap not c.if-is_none.true))) rests c.store.ensures.after c.store.ensures.alone.others
