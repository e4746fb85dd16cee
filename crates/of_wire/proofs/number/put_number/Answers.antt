use Rattle.std.proofs.Common.{ap, ◌∙◌, ◌++◌, List, ℕ, take, drop, ◌-◌}
use Rattle.of_wire.specs.Parts.{number}
use Rattle.of_wire.proofs.Numbers.{low_bytes}
use Rattle.of_wire.proofs.number.put_number.Goals as goal

pub returns-clause-ok : goal.returns-clause-ok
unfolding number
returns-clause-ok c =
    c.in_ok-append.ensures.ok ∙ (ap (λ (bytes : List ℕ). c.args.out.now ++ take (16 - (16 - c.args.len)) (drop (16 - c.args.len) bytes)) c.write_u128.ensures ∙ ap (λ (bytes : List ℕ). c.args.out.now ++ bytes) (low_bytes c.args.len c.args.value c.requires))
