use Rattle.std.proofs.Common.{◌≡◌, ◌==◌, ◌∙◌, List, filter, ap}
use Rattle.std.specs.List.{list_any}
use Rattle.std.proofs.lemmas.Result.{IfOk-weaker}
use Rattle.net_base.specs.declared.numbers.DpId.{DpId}
use Rattle.conf_types.specs.declared.state.HostRec.{HostRec}
use Rattle.packet_way.specs.Present.{state_of}
use Rattle.plan_units.specs.Units.{hosts_of}
use Rattle.cold_start.proofs.Groups.{hosts_are, ids_in}
use Rattle.cold_start.proofs.hosts.hosts_of.Goals as goal

pub returns : goal.returns
returns c =
    let conf = c.args.conf.now in
    let state = state_of c.args.now.now in
    let d = c.args.dp.now in
    let on : List DpId → List HostRec → List HostRec = λ ids hosts. filter (λ h. list_any (λ id. id.0 == h.dp.0) ids) hosts in
    let ids = c.as_slice.result.now in
    let same : on ids state.hosts ≡ hosts_of conf state d =
    ap (λ (l : List DpId). on l state.hosts) (c.as_slice.ensures ∙ c.in_ok-ids.ensures ∙ ap (ids_in conf) c.group_number.ensures)
    ∙ hosts_are conf state d c.requires in
    IfOk-weaker c.hosts_on.result (λ (made : List HostRec). made ≡ on ids state.hosts) (λ (made : List HostRec). made ≡ hosts_of conf state d) (λ made is. is ∙ same) c.hosts_on.ensures
