use Rattle.std.proofs.Common.{◌≡◌, ◌∙◌, Some, None, refl, sym, ap, subst}
use Rattle.std.specs.Prelude.{ℕ}
use Rattle.window_table.specs.declared.pane.Pane.{Pane}
use Rattle.window_table.specs.Entries.{Entry, size_of_dump}
use Rattle.guest_session.specs.Areas.{Covers, area_in, dump_at}
use Rattle.guest_session.specs.RowsView.{HasFitDump, RowsView}
use Rattle.guest_session.proofs.TableLemmas.{has_slot}
use Rattle.guest_session.proofs.KeptLemmas.{got-is, kept-at, row-none}
use Rattle.guest_session.proofs.ReadLemmas.{ReadsSlot, area-in, covers, reads-kept, reads-row}
use Rattle.guest_session.proofs.rows.Rows.read.Goals as goal

pub get-requires : goal.get-requires
get-requires g c =
    let h = has_slot c.args.window c.in-Some.slot c.self.inside.table.entries c.slot_of.ensures.apart c.in-Some.ensures.slot in
    rw h.at_slot refl

pub read_at-requires-clause-covers : goal.read_at-requires-clause-covers
read_at-requires-clause-covers g c = λ wide high.
    let s = c.self.inside in
    let slot = c.in-Some.slot in
    let h = has_slot c.args.window slot s.table.entries c.slot_of.ensures.apart c.in-Some.ensures.slot in
    let placed = ap (λ (p : Pane). p.place) (got-is c.args.window slot s.table.entries h (λ e. e.pane) c.get.result.now c.get.ensures) in
    let sized = got-is c.args.window slot s.table.entries h (λ e. size_of_dump e.dump) c.dump_at-size.result c.dump_at-size.ensures in
    let pages : g.P.FramePort.pages c.args.port.now ≡ s.table.pages = c.requires.pages ∙ sym (ap (λ (v : RowsView). v.pages) c.self.view_is) in
    let P : ℕ → Type 0 = λ n. Covers (g.P.FramePort.pages c.args.port.now) n (area_in c.clipped-area.result) (dump_at slot s.table.entries) in
    subst P (sym c.width_of.ensures)
    (covers s.table.pages (g.P.FramePort.pages c.args.port.now) slot s.table.entries h.entry c.get.result.now.place c.dump_at-size.result (area_in c.clipped-area.result) c.args.x c.args.y c.args.width c.args.height
    h.at_slot sized c.clipped-area.ensures (kept-at (λ (e : Entry). HasFitDump s.table.pages e.dump) c.args.window slot s.table.entries h c.self.invariant.dumps) pages wide high)

pub invariant_of-self : goal.invariant_of-self
invariant_of-self g c =
    let s = c.self.inside in
    let slot = c.in-Some.slot in
    let h = has_slot c.args.window slot s.table.entries c.slot_of.ensures.apart c.in-Some.ensures.slot in
    let placed = ap (λ (p : Pane). p.place) (got-is c.args.window slot s.table.entries h (λ e. e.pane) c.get.result.now c.get.ensures) in
    let sized = got-is c.args.window slot s.table.entries h (λ e. size_of_dump e.dump) c.dump_at-size.result c.dump_at-size.ensures in
    let all : ReadsSlot c.args.window slot s.table s.tiles h (area_in c.clipped-area.result) (g.P.FramePort.state c.args.port.now s.guest) = record {
      apart = c.slot_of.ensures.apart;
      kept = c.self.invariant;
      rising = c.read_at.ensures.rising;
      whole = c.read_at.ensures.whole;
      in_row = area-in h.entry c.get.result.now.place c.dump_at-size.result (area_in c.clipped-area.result) c.args.x c.args.y c.args.width c.args.height (g.P.FramePort.state c.args.port.now s.guest) placed sized c.clipped-area.ensures;
    } in
    reads-kept c.args.window slot s.table s.tiles c.read_at.new.tiles h (area_in c.clipped-area.result) (g.P.FramePort.state c.args.port.now s.guest) (g.P.FramePort.state c.read_at.new.port s.guest) c.read_at.result all c.read_at.ensures.filled

pub returns-in-Some-clause-reads : goal.returns-in-Some-clause-reads
returns-in-Some-clause-reads g c = λ sizes same row found.
    let s = c.self.inside in
    let slot = c.in-Some.slot in
    let h = has_slot c.args.window slot s.table.entries c.slot_of.ensures.apart c.in-Some.ensures.slot in
    let placed = ap (λ (p : Pane). p.place) (got-is c.args.window slot s.table.entries h (λ e. e.pane) c.get.result.now c.get.ensures) in
    let sized = got-is c.args.window slot s.table.entries h (λ e. size_of_dump e.dump) c.dump_at-size.result c.dump_at-size.ensures in
    let all : ReadsSlot c.args.window slot s.table s.tiles h (area_in c.clipped-area.result) (g.P.FramePort.state c.args.port.now s.guest) = record {
      apart = c.slot_of.ensures.apart;
      kept = c.self.invariant;
      rising = c.read_at.ensures.rising;
      whole = c.read_at.ensures.whole;
      in_row = area-in h.entry c.get.result.now.place c.dump_at-size.result (area_in c.clipped-area.result) c.args.x c.args.y c.args.width c.args.height (g.P.FramePort.state c.args.port.now s.guest) placed sized c.clipped-area.ensures;
    } in
    reads-row s.guest c.args.window slot s.table s.tiles c.read_at.new.tiles c.args.self.now h c.get.result.now.place c.dump_at-size.result (area_in c.clipped-area.result) c.args.x c.args.y c.args.width c.args.height
    (g.P.FramePort.state c.args.port.now) (g.P.FramePort.state c.read_at.new.port) c.read_at.result c.self.view_is placed sized c.clipped-area.ensures all c.read_at.ensures.filled sizes same row found

pub returns-in-None-clause-reads : goal.returns-in-None-clause-reads
returns-in-None-clause-reads g c = λ sizes same row found.
    let s = c.self.inside in
    let none = row-none s.guest c.args.window s.table s.tiles c.args.self.now c.self.view_is c.in-None.ensures.slot in
    let both : None ≡ Some row = sym none ∙ found in
    absurd cc
