use Rattle.std.proofs.Common.{nat_lt, rules}
use Rattle.std.proofs.lemmas.List.Sorted.{IsPartitionPoint-from_clause, IsPartitionedBy-ltb}
use Rattle.ctl_world.specs.declared.conns.Conn.{Conn}
use Rattle.ctl_world.proofs.Ordered.{lower_is, rises}
use Rattle.ctl_world.proofs.conns.lower_bound.Goals as goal

pub returns-clause-bound : goal.returns-clause-bound
returns-clause-bound c =
    let conns = c.args.conns.now in
    let number = c.args.number in
    lower_is number conns c.partition_point.result c.partition_point.ensures.bound
    (IsPartitionPoint-from_clause (λ (d : Conn). nat_lt d.number number) conns c.partition_point.result c.partition_point.ensures.partitioned
    (IsPartitionedBy-ltb (λ (d : Conn). d.number) conns number (rises conns c.requires)) (λ a r f' k. search rules))
