use Rattle.std.proofs.Common.{◌≤◌, List, [], length, filter, sym, ◌∙◌, subst, arith}
use Rattle.conf_types.specs.declared.state.HostRec.{HostRec}
use Rattle.host_learn.specs.Kept.{last_of_each, may_stay}
use Rattle.host_learn.proofs.Sizes.{room_within}
use Rattle.host_learn.proofs.table.HostTable.kept.Goals as goal

pub from_slice-requires : goal.from_slice-requires
from_slice-requires c =
    let conf = c.args.conf.now in
    let limit = c.self.inside.limit in
    let last = last_of_each conf (filter (may_stay conf c.args.ups.now c.args.now.0) c.as_slice.result.now) in
    let within : length c.as_slice-2.result.now ≤ limit = subst (λ (hosts : List HostRec). length hosts ≤ limit) (sym (c.as_slice-2.ensures.value ∙ c.in_ok-hosts-2.ensures)) (room_within conf limit [] last (omega arith)) in
    omega (arith, within)

pub invariant_of-result : goal.invariant_of-result
invariant_of-result c =
    let conf = c.args.conf.now in
    let limit = c.self.inside.limit in
    let last = last_of_each conf (filter (may_stay conf c.args.ups.now c.args.now.0) c.as_slice.result.now) in
    subst (λ (hosts : List HostRec). length hosts ≤ limit) (sym (c.in_ok-hosts-3.ensures ∙ c.as_slice-2.ensures.value ∙ c.in_ok-hosts-2.ensures)) (room_within conf limit [] last (omega arith))
