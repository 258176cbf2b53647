use Rattle.std.proofs.Common.{sym, arith}
use Rattle.record_format.proofs.ReadItemLemmas.{no_kind}
use Rattle.record_format.proofs.item.read_fields.Goals as goal

pub returns-in_default : goal.returns-in_default
returns-in_default c = sym (no_kind c.args.guests c.args.pages c.args.bytes.now (record {
  bytes = λ is. omega arith;
  closed = λ is. omega arith;
  store = λ is. omega arith;
  key = λ is. omega arith;
  move = λ is. omega arith;
  press = λ is. omega arith;
  command = λ is. omega arith;
  snap = λ is. omega arith;
  end = λ is. omega arith;
  lost = λ is. omega arith;
}))
