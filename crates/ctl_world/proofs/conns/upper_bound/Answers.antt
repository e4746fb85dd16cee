use Rattle.std.proofs.Common.{nat_le, rules}
use Rattle.std.proofs.lemmas.List.Sorted.{IsPartitionPoint-from_clause, IsPartitionedBy-leb}
use Rattle.ctl_world.specs.declared.conns.Conn.{Conn}
use Rattle.ctl_world.proofs.Ordered.{rises, upper_is}
use Rattle.ctl_world.proofs.conns.upper_bound.Goals as goal

pub returns-clause-bound : goal.returns-clause-bound
returns-clause-bound c =
    let conns = c.args.conns.now in
    let number = c.args.number in
    upper_is number conns c.partition_point.result c.partition_point.ensures.bound
    (IsPartitionPoint-from_clause (λ (d : Conn). nat_le d.number number) conns c.partition_point.result c.partition_point.ensures.partitioned
    (IsPartitionedBy-leb (λ (d : Conn). d.number) conns number (rises conns c.requires)) (λ a r f' k. search rules))
