use Rattle.std.proofs.Common.{arith}
use Rattle.hub_drive.proofs.Came.{all_bytes}
use Rattle.hub_drive.proofs.laws.are_bytes.Goals as goal

pub returns : goal.returns
returns c = all_bytes c.args._bytes.now (λ i. omega (arith, c.type_inv._bytes i))
