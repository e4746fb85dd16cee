-- Whatever calls are made under a valid configuration, the hosts stay valid.
use Rattle.std.proofs.Common.{◌≡◌, ℕ, ◌≤◌, Bool, true, not, List, [], filter, count_by, sym, ap, ◌∙◌, subst, arith}
use Rattle.std.specs.List.{AllByRecursion}
use Rattle.conf_types.specs.declared.datapath.Dp.{Dp}
use Rattle.conf_types.specs.declared.datapath.Port.{Port}
use Rattle.conf_types.specs.declared.state.HostRec.{HostRec}
use Rattle.conf_types.specs.declared.state.UpRec.{UpRec}
use Rattle.conf_types.specs.declared.vlan.Vlan.{Vlan}
use Rattle.conf_types.specs.Configuration.{Configuration}
use Rattle.conf_types.specs.Groups.{group_of}
use Rattle.conf_types.specs.Links.{is_up}
use Rattle.conf_types.specs.State.{State, IsHost, IsNeighbour, IsSameHost, IsValidState, is_host_at, is_host_in, is_running, is_to_forget, most_hosts}
use Rattle.conf_types.specs.Valid.{IsValid}
use Rattle.host_learn.specs.Kept.{kept, kept_hosts}
use Rattle.host_learn.specs.Learning.{learned}
use Rattle.host_learn.specs.Table.{Table, off_datapath, without_first}
use Rattle.host_learn.proofs.KeptParts.{kept_part}
use Rattle.host_learn.proofs.KeptRoom.{KeepsFirst}
use Rattle.host_learn.proofs.KeptValid.{kept_valid}
use Rattle.host_learn.proofs.LearnedValid.{learned_valid}
use Rattle.host_list.specs.Parts.{IsPartOf}
use Rattle.host_list.proofs.Lists.{all_map, all_part, before_part, count_part, filter_part}
use Rattle.host_list.proofs.Sound.{first_part, part_length}
use Rattle.law_calls.specs.declared.hosts.HostCall.{HostCall}
use Rattle.law_calls.specs.declared.hosts.HostCall.TheVariants as calls
use Rattle.law_calls.specs.declared.hosts.HostAnswer.{HostAnswer}
use Rattle.law_calls.specs.declared.hosts.HostAnswer.TheVariants as answers
use Rattle.law_calls.specs.Hosts.{IsMadeUnder, IsUnder, Makes}
use Rattle.law_calls.specs.Runs.{Run}
use Rattle.law_calls.proofs.RunLemmas.{run_keeps}

-- a part of the hosts of a valid state
part_stays : (conf : Configuration) (state : State) (part : List HostRec) → IsValidState conf state → IsPartOf part state.hosts → IsValidState conf (record state { hosts = part })
part_stays conf state part was is =
    let next : State = record state { hosts = part } in
    let most = was.table in
    record {
      running = was.running;
      ups = was.ups;
      hosts =
          all_map (IsHost conf state) (IsHost conf next) (λ h here. record { runs = here.runs; up = here.up; place = here.place; individual = here.individual; no_gateway = here.no_gateway }) part
          (all_part (IsHost conf state) part state.hosts was.hosts is);
      host_keys = before_part (λ a b. IsSameHost conf a b → ⊥) part state.hosts was.host_keys is;
      permanent = before_part (KeepsFirst conf) part state.hosts was.permanent is;
      ports =
          all_map (λ (d : Dp). AllByRecursion (λ (p : Port). count_by (is_host_at d.id p.no) state.hosts ≤ p.max_hosts) d.ports) (λ (d : Dp). AllByRecursion (λ (p : Port). count_by (is_host_at d.id p.no) part ≤ p.max_hosts) d.ports)
          (λ d. all_map (λ (p : Port). count_by (is_host_at d.id p.no) state.hosts ≤ p.max_hosts) (λ (p : Port). count_by (is_host_at d.id p.no) part ≤ p.max_hosts)
          (λ p within. omega (arith, count_part (is_host_at d.id p.no) part state.hosts is, within)) d.ports) conf.dps was.ports;
      vlans =
          all_map (λ (d : Dp). AllByRecursion (λ (v : Vlan). count_by (is_host_in conf (group_of conf d.id) v.vid) state.hosts ≤ v.max_hosts) conf.vlans) (λ (d : Dp). AllByRecursion (λ (v : Vlan). count_by (is_host_in conf (group_of conf d.id) v.vid) part ≤ v.max_hosts) conf.vlans)
          (λ d. all_map (λ (v : Vlan). count_by (is_host_in conf (group_of conf d.id) v.vid) state.hosts ≤ v.max_hosts) (λ (v : Vlan). count_by (is_host_in conf (group_of conf d.id) v.vid) part ≤ v.max_hosts)
          (λ v within. omega (arith, count_part (is_host_in conf (group_of conf d.id) v.vid) part state.hosts is, within)) conf.vlans) conf.dps was.vlans;
      table = omega (arith, part_length part state.hosts is, most);
      neighbours = all_map (IsNeighbour conf state) (IsNeighbour conf next) (λ n near. record { address = near.address; runs = near.runs }) state.neighbours was.neighbours;
      neighbour_keys = was.neighbour_keys;
      neighbour_table = was.neighbour_table;
    }

module _ (conf : Configuration) (state : State) (limit : ℕ) (valid : IsValid conf) (within : limit ≤ most_hosts) where
  -- a table with this limit whose hosts are valid
  record HasValid (table : Table) : Type 0 where
    pub same : table.limit ≡ limit
    pub hosts : IsValidState conf (record state { hosts = table.hosts })

  abbrev at : Table → State
  at table = record state { hosts = table.hosts }

  with_hosts : (old new : Table) (hosts : List HostRec) → HasValid old → IsValidState conf (record state { hosts = hosts }) → new ≡ record old { hosts = hosts } → HasValid new
  with_hosts old new hosts was valid is = subst HasValid (sym is) (record { same = was.same; hosts = valid })

  with_part : (old new : Table) (part : List HostRec) → HasValid old → IsPartOf part old.hosts → new ≡ record old { hosts = part } → HasValid new
  with_part old new part was part_is is = with_hosts old new part was (part_stays conf (at old) part was.hosts part_is) is

  hears : (old new : Table) (heard : HostRec) → is_running state.running heard.dp ≡ true → is_up state.ups heard.dp heard.port ≡ true → HasValid old → new ≡ learned conf old heard → HasValid new
  hears old new heard runs up was is =
      let few : old.limit ≤ most_hosts = subst (λ (n : ℕ). n ≤ most_hosts) (sym was.same) within in
      with_hosts old new (learned conf old heard).hosts was (learned_valid conf (at old) old.limit heard valid few was.hosts runs up) is

  renews : (old new : Table) (moment : ℕ) → HasValid old → new ≡ kept conf state.ups moment old → HasValid new
  renews old new moment was is =
      let few : old.limit ≤ most_hosts = subst (λ (n : ℕ). n ≤ most_hosts) (sym was.same) within in
      let empty : IsValidState conf (record state { hosts = [] }) = part_stays conf (at old) [] was.hosts tt in
      let run : AllByRecursion (λ (host : HostRec). is_running state.running host.dp ≡ true) old.hosts = all_map (IsHost conf (at old)) (λ (host : HostRec). is_running state.running host.dp ≡ true) (λ host here. here.runs) old.hosts was.hosts.hosts in
      let rest : List HostRec = kept_hosts conf state.ups moment old in
      with_hosts old new rest was
      (kept_valid conf state moment old valid few empty (all_part (λ (host : HostRec). is_running state.running host.dp ≡ true) rest old.hosts run (kept_part conf state.ups moment old))) is

  makes : (old : Table) (call : HostCall) (answer : HostAnswer) (new : Table) → HasValid old → IsUnder conf state call → Makes old call answer new → HasValid new
  makes old (calls.Hear by heard) (answers.Heard told) new was under made =
      hears old new heard under.1 under.2 was (made.1 ∙ ap (λ (c : Configuration). learned c old heard) under.0)
  makes old (calls.Hear by heard) answers.Memory new was under made = subst HasValid (sym made) was
  makes old (calls.Hear by heard) (answers.Aged host) new was under made = absurd made
  makes old (calls.Hear by heard) answers.Done new was under made = absurd made
  makes old (calls.Age by moment) (answers.Aged host) new was under made = with_part old new (without_first (is_to_forget by.now moment.0) old.hosts) was (first_part (is_to_forget by.now moment.0) old.hosts) made.1
  makes old (calls.Age by moment) (answers.Heard told) new was under made = absurd made
  makes old (calls.Age by moment) answers.Done new was under made = absurd made
  makes old (calls.Age by moment) answers.Memory new was under made = absurd made
  makes old (calls.ForgetDue by moment) answers.Done new was under made =
      let test : HostRec → Bool = λ host. not (is_to_forget by.now moment.0 host) in
      with_part old new (filter test old.hosts) was (filter_part test old.hosts) made
  makes old (calls.ForgetDue by moment) (answers.Heard told) new was under made = absurd made
  makes old (calls.ForgetDue by moment) (answers.Aged host) new was under made = absurd made
  makes old (calls.ForgetDue by moment) answers.Memory new was under made = absurd made
  makes old (calls.ForgetPort dp port) answers.Done new was under made =
      let test : HostRec → Bool = λ host. not (is_host_at dp port host) in
      with_part old new (filter test old.hosts) was (filter_part test old.hosts) made
  makes old (calls.ForgetPort dp port) (answers.Heard told) new was under made = absurd made
  makes old (calls.ForgetPort dp port) (answers.Aged host) new was under made = absurd made
  makes old (calls.ForgetPort dp port) answers.Memory new was under made = absurd made
  makes old (calls.ForgetDp dp) answers.Done new was under made = with_part old new (off_datapath dp old.hosts) was (filter_part _ old.hosts) made
  makes old (calls.ForgetDp dp) (answers.Heard told) new was under made = absurd made
  makes old (calls.ForgetDp dp) (answers.Aged host) new was under made = absurd made
  makes old (calls.ForgetDp dp) answers.Memory new was under made = absurd made
  makes old (calls.Keep by ups moment) answers.Done new was under made =
      renews old new moment.0 was (made ∙ ap (λ (c : Configuration). kept c ups.now moment.0 old) under.0 ∙ ap (λ (list : List UpRec). kept conf list moment.0 old) under.1)
  makes old (calls.Keep by ups moment) answers.Memory new was under made = subst HasValid (sym made) was
  makes old (calls.Keep by ups moment) (answers.Heard told) new was under made = absurd made
  makes old (calls.Keep by ups moment) (answers.Aged host) new was under made = absurd made

  pub run_valid : (from to : Table) (list : List HostCall) → from.limit ≡ limit → IsValidState conf (record state { hosts = from.hosts }) → Run (IsMadeUnder conf state) from list to → IsValidState conf (record state { hosts = to.hosts })
  run_valid from to list same was way =
      (run_keeps (IsMadeUnder conf state) HasValid (λ old call new here made. makes old call made.1.0 new here made.0 made.1.1) from (record { same = same; hosts = was }) list to way).hosts
