use Rattle.std.proofs.Common.{◌≡◌, ◌==◌, ◌&&◌, ◌∙◌, [], Bool, List, Option, Some, ap, subst}
use Rattle.std.specs.Prelude.{IfSome}
use Rattle.std.specs.Borrow.{Bor}
use Rattle.std.specs.List.{find}
use Rattle.std.specs.Option.{option_map_or}
use Rattle.std.proofs.lemmas.Result.{IfOk-weaker}
use Rattle.of_match.specs.declared.entry.Entry.{Entry}
use Rattle.stack_paths.specs.Stack.{Stack}
use Rattle.conf_types.specs.declared.datapath.Dp.{Dp}
use Rattle.conf_types.specs.declared.state.HostRec.{HostRec}
use Rattle.conf_types.specs.Configuration.{Configuration}
use Rattle.conf_types.specs.Lists.{is_same}
use Rattle.conf_types.specs.State.{State}
use Rattle.packet_way.specs.Known.{stack_of}
use Rattle.packet_way.specs.Present.{state_of}
use Rattle.plan_units.specs.Units.{of_host, hosts_of}
use Rattle.cold_start.specs.Members.{host_by}
use Rattle.cold_start.proofs.unit.Making.of_host.Goals as goal

-- by the paths of the state, the entries of the host that is found
by_paths : (conf : Configuration) (now : State) (d : Dp) (paths : Stack) (h : HostRec) (found : Option HostRec)
    → paths ≡ stack_of conf now.ups → Some h ≡ found → host_by conf d now.moment paths h ≡ option_map_or (of_host conf now d) found []
by_paths conf now d paths h found right here = ap (λ (s : Stack). host_by conf d now.moment s h) right ∙ ap (λ (o : Option HostRec). option_map_or (of_host conf now d) o []) here

pub returns-in-Some-paths-clause-entries : goal.returns-in-Some-paths-clause-entries
returns-in-Some-paths-clause-entries g c =
    let conf = c.args.self.now.conf.now in
    let state = state_of c.args.self.now.learned.now in
    let d = c.args.self.now.dp.now in
    let h = c.in-Some.host.now in
    let paths = c.in-Some-paths.paths.now in
    let is_host : HostRec → Bool = λ x. x.vid == c.args.vid && is_same x.mac.0 c.args.mac.0 in
    let here : Some h ≡ find is_host (hosts_of conf state d) = c.in-Some.ensures in
    let right : paths ≡ stack_of conf state.ups = subst (λ (o : Option (Bor Stack)). IfSome o (λ p. p.now ≡ stack_of conf state.ups)) c.in-Some-paths.is c.requires in
    IfOk-weaker c.host_entries.result (λ (made : List Entry). made ≡ host_by conf d state.moment paths h) (λ (made : List Entry). made ≡ option_map_or (of_host conf state d) (find is_host (hosts_of conf state d)) []) (λ made is. is ∙ by_paths conf state d paths h _ right here) c.host_entries.ensures.entries

pub returns-in_ok-paths-in-None-clause-entries : goal.returns-in_ok-paths-in-None-clause-entries
returns-in_ok-paths-in-None-clause-entries g c =
    let conf = c.args.self.now.conf.now in
    let state = state_of c.args.self.now.learned.now in
    let d = c.args.self.now.dp.now in
    let h = c.in-Some.host.now in
    let paths = c.in_ok-paths-in-None.paths in
    let is_host : HostRec → Bool = λ x. x.vid == c.args.vid && is_same x.mac.0 c.args.mac.0 in
    let here : Some h ≡ find is_host (hosts_of conf state d) = c.in-Some.ensures in
    let right : paths ≡ stack_of conf state.ups = c.in_ok-paths-in-None.ensures ∙ ap (stack_of conf) c.as_slice.ensures in
    IfOk-weaker c.host_entries-in-None.result (λ (made : List Entry). made ≡ host_by conf d state.moment paths h) (λ (made : List Entry). made ≡ option_map_or (of_host conf state d) (find is_host (hosts_of conf state d)) []) (λ made is. is ∙ by_paths conf state d paths h _ right here) c.host_entries-in-None.ensures.entries
