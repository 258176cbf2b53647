use Rattle.std.proofs.Common.{◌*◌, ◌≤◌, ℕ, arith}
use Rattle.std.proofs.Math.Nat.{mul-le-mul_left}
use Rattle.agent_tree.proofs.tops.tiles.Goals as goal

product : (a b : ℕ) → a ≤ 256 → b ≤ 96 → a * b ≤ 24576
product a b h k = omega (arith, mul-le-mul_left a k)

pub returns-clause-few : goal.returns-clause-few
returns-clause-few c = product c.div_ceil.result c.div_ceil-2.result (omega arith) (omega arith)
