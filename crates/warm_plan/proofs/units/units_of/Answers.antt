use Rattle.std.proofs.Common.{◌≡◌, ◌∙◌, ◌==◌, ◌++◌, List, [], ◌∷◌, map, filter, ap}
use Rattle.std.proofs.lemmas.List.{append_assoc}
use Rattle.conf_types.specs.declared.datapath.Port.{Port}
use Rattle.conf_types.specs.declared.state.HostRec.{HostRec}
use Rattle.conf_types.specs.declared.vlan.Vlan.{Vlan}
use Rattle.conf_types.specs.Groups.{group_of}
use Rattle.plan_units.specs.declared.unit.Unit.{Unit as PlanUnit}
use Rattle.plan_units.specs.declared.unit.Unit.TheVariants as unit
use Rattle.cold_start.specs.Cold.{units_of}
use Rattle.warm_plan.proofs.units.units_of.Goals as goal

-- one list behind another
joined : (ports vlans hosts routes one two three four all : List PlanUnit) → one ≡ unit.Dp ∷ [] → two ≡ one ++ ports → three ≡ two ++ vlans → four ≡ three ++ hosts → all ≡ four ++ routes
    → all ≡ unit.Dp ∷ (ports ++ (vlans ++ (hosts ++ routes)))
joined ports vlans hosts routes one two three four all first of_ports of_vlans of_hosts of_routes =
    of_routes ∙ ap (λ (l : List PlanUnit). l ++ routes) (of_hosts ∙ ap (λ (l : List PlanUnit). l ++ hosts) (of_vlans ∙ ap (λ (l : List PlanUnit). l ++ vlans) (of_ports ∙ ap (λ (l : List PlanUnit). l ++ ports) first)))
    ∙ ap (λ (l : List PlanUnit). unit.Dp ∷ l) (append_assoc (ports ++ vlans) hosts routes ∙ append_assoc ports vlans (hosts ++ routes))

pub returns : goal.returns
unfolding units_of
returns c =
    let conf = c.args.conf.now in
    let hosts = c.as_slice-2.ensures ∙ c.in_ok-hosts.ensures ∙ (λ i. filter (λ (h : HostRec). (group_of conf h.dp).0 == (c.group_number.ensures i).0) c.args.now.now.hosts.now) in
    let vlans = c.as_slice-vlans.ensures ∙ c.vlans.ensures.lists in
    joined _ _ _ _ _ _ _ _ _ (c.in_ok-push.ensures.ok ∙ ap (λ (l : List PlanUnit). l ++ unit.Dp ∷ []) c.new-made.ensures)
    (c.in_ok-push_ports.ensures ∙ ap (λ (l : List Port). c.push.new.self ++ map (λ (i : Port). unit.Port i.no) l) c.as_slice.ensures)
    (c.in_ok-push_vlans.ensures ∙ ap (λ (l : List Vlan). c.push_ports.new.out ++ map (λ (v : Vlan). unit.Vlan v.vid) l) vlans)
    (c.in_ok-push_hosts.ensures ∙ ap (λ (l : List HostRec). c.push_vlans.new.out ++ map (λ (h : HostRec). unit.Host h.vid h.mac) l) hosts)
    (c.in_ok-push_routes.ensures ∙ ap (λ (l : List Vlan). c.push_hosts.new.out ++ map (λ (v : Vlan). unit.Route v.vid) l) vlans)
