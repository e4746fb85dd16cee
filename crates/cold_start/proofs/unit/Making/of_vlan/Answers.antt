use Rattle.std.proofs.Common.{◌≡◌, ◌∙◌, [], List, Option, Some, ap}
use Rattle.std.specs.Option.{option_map_or}
use Rattle.std.proofs.lemmas.Result.{IfOk-weaker}
use Rattle.of_match.specs.declared.entry.Entry.{Entry}
use Rattle.stack_paths.specs.Stack.{Stack}
use Rattle.conf_types.specs.declared.vlan.Vlan.{Vlan}
use Rattle.conf_types.specs.Configuration.{vlan_with}
use Rattle.packet_way.specs.Known.{stack_of}
use Rattle.packet_way.specs.Present.{state_of}
use Rattle.plan_units.specs.Units.{of_vlan}
use Rattle.cold_start.specs.Members.{vlan_by}
use Rattle.cold_start.proofs.unit.Making.of_vlan.Goals as goal

pub returns-in_ok-paths-in-None-clause-entries : goal.returns-in_ok-paths-in-None-clause-entries
returns-in_ok-paths-in-None-clause-entries g c =
    let conf = c.args.self.now.conf.now in
    let state = state_of c.args.self.now.learned.now in
    let d = c.args.self.now.dp.now in
    let v = c.in-Some.vlan.now in
    let paths = c.in_ok-paths-in-None.paths in
    let here : Some v ≡ vlan_with conf.vlans c.args.vid = c.in-Some.ensures in
    let same : vlan_by conf d paths v ≡ option_map_or (of_vlan conf state d) (vlan_with conf.vlans c.args.vid) [] =
    ap (λ (s : Stack). vlan_by conf d s v) (c.in_ok-paths-in-None.ensures ∙ ap (stack_of conf) c.as_slice.ensures)
    ∙ ap (λ (o : Option Vlan). option_map_or (of_vlan conf state d) o []) here in
    IfOk-weaker c.vlan_entries-in-None.result (λ (made : List Entry). made ≡ vlan_by conf d paths v) (λ (made : List Entry). made ≡ option_map_or (of_vlan conf state d) (vlan_with conf.vlans c.args.vid) []) (λ made is. is ∙ same) c.vlan_entries-in-None.ensures.entries
