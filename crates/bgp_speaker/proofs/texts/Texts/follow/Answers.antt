use Rattle.std.proofs.Common.{sym}
use Rattle.bgp_speaker.proofs.Kept.{kept_same, none_new}
use Rattle.bgp_speaker.proofs.texts.Texts.follow.Goals as goal

pub returns-then-are_same-clause-text : goal.returns-then-are_same-clause-text
returns-then-are_same-clause-text c =
    sym (none_new c.args.self.now c.self.inside.vlan c.self.inside.tree c.self.inside.last c.args.routes.now c.as_slice.result.now c.self.inside.routes c.are_same.result
    c.self.view_is c.as_slice.ensures c.self.invariant c.are_same.ensures c.if-are_same.true)

pub returns-then-are_same-clause-next : goal.returns-then-are_same-clause-next
returns-then-are_same-clause-next c =
    kept_same c.args.self.now c.args.routes.now
    (none_new c.args.self.now c.self.inside.vlan c.self.inside.tree c.self.inside.last c.args.routes.now c.as_slice.result.now c.self.inside.routes c.are_same.result
    c.self.view_is c.as_slice.ensures c.self.invariant c.are_same.ensures c.if-are_same.true)
