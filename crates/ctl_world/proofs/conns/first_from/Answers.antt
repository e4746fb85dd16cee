use Rattle.std.proofs.Common.{drop, ap, ◌∙◌}
use Rattle.std.proofs.lemmas.List.{take_rest}
use Rattle.ctl_world.specs.Connections.{conn_of}
use Rattle.ctl_world.proofs.Ordered.{from_bound}
use Rattle.ctl_world.proofs.conns.first_from.Goals as goal

pub returns : goal.returns
returns c =
    let conns = c.args.conns.now in
    c.first_of.ensures ∙ ap (λ cs. conn_of cs c.args.dp) (take_rest conns c.lower_bound-at.result) ∙ ap (λ n. conn_of (drop n conns) c.args.dp) c.lower_bound-at.ensures.bound ∙ from_bound c.args.dp c.args.number conns c.requires.from
