-- The text of a datapath tells each of its fields, and those of its interfaces.
use Rattle.std.proofs.Common.{◌≡◌, ◌≢◌, ◌<◌, ◌^◌, ℕ, List, [], ◌∷◌, ◌++◌, length, drop, map, Option, Some, None, refl, sym, ap, ◌∙◌, subst, arith, decimal, codes}
use Rattle.std.specs.List.{AllByRecursion}
use Rattle.conf_types.specs.declared.datapath.Dp.{Dp}
use Rattle.conf_types.specs.declared.datapath.Port.{Port}
use Rattle.conf_types.specs.Configuration.{Configuration}
use Rattle.conf_types.specs.Lists.{IsTextBefore}
use Rattle.conf_types.specs.Valid.{IsValid, IsInterval, IsDatapath}
use Rattle.conf_json.specs.Json.{Member, with_member, braces, object}
use Rattle.conf_json.specs.Text.{number_or_null, port_member, port_text, lldp_members, dp_members, dp_text, dp_member}
use Rattle.law_json.specs.Agree.{OneByOne, PortsAgree, DpsAgree}
use Rattle.law_json.proofs.Alike.{by_number, by_text, AreMembers, each_before, map_values, own_names, same_members, one_of_key}
use Rattle.law_json.proofs.Members.{IsIn, all_in, in_all, in_map, of_map, object_value, shared}
use Rattle.law_json.proofs.Parts.{IsSmall, same_flag, same_number, optional_value, same_optional}
use Rattle.law_json.proofs.Ports.{NamesTellIds, text_at, port_value, same_port}
use Rattle.law_json.proofs.Shown.{PortIsShown, port_shown, if_some}
use Rattle.law_json.proofs.Values.{IsValue, flag_value, number_value, quoted_value, braces_value, same_braces, same_quoted}

-- ---- interfaces

pub ports_are : (conf : Configuration) → IsValid conf → (d : Dp) → IsIn d conf.dps → AreMembers (λ (m n : ℕ). m < n) (λ (p : Port). p.no) (port_member conf) (PortIsShown conf) d.ports
ports_are conf valid d in_dps =
    let datapath = in_all (IsDatapath conf) conf.dps valid.datapaths.each d in_dps in
    let known = all_in (PortIsShown conf) d.ports (λ p at. port_shown conf valid d in_dps p at) in
    record {
      values = all_in (λ (p : Port). IsValue (port_text conf p)) d.ports (λ p at. port_value conf p (port_shown conf valid d in_dps p at));
      known = known;
      in_order = datapath.in_order;
      apart = each_before (λ (p q : Port). p.no < q.no) (λ (p q : Port). decimal p.no ≢ decimal q.no) (PortIsShown conf)
          (λ p q in_p in_q below same. let one = same_number p.no q.no in_p.no in_q.no same in omega (arith, below, one)) d.ports known datapath.in_order;
    }

same_ports : (a b : Configuration) → IsValid a → IsValid b → NamesTellIds a b → (d e : Dp) → IsIn d a.dps → IsIn e b.dps
    → object (map (port_member a) d.ports) ≡ object (map (port_member b) e.ports) → OneByOne PortsAgree d.ports e.ports
same_ports a b valid_a valid_b told d e in_a in_b same =
    same_members (λ (m n : ℕ). m < n) (λ (p : Port). p.no) (port_member a) (port_member b) (PortIsShown a) (PortIsShown b) PortsAgree by_number
    (λ p q agree. agree.no)
    (λ p q in_p in_q e. same_port a b told p q in_p in_q (same_number p.no q.no in_p.no in_q.no (ap (λ (m : Member). m.0) e)) (ap (λ (m : Member). m.1) e))
    d.ports e.ports (ports_are a valid_a d in_a) (ports_are b valid_b e in_b) same

-- ---- a datapath

dp_object : (conf : Configuration) (d : Dp) (lldp : Option ℕ) → object (dp_members conf (record d { lldp = lldp })) ≡ braces (dp_members conf (record d { lldp = lldp }))
unfolding with_member
dp_object conf d None = refl
dp_object conf d (Some seconds) = refl

dp_is : (conf : Configuration) (d : Dp) → dp_text conf d ≡ braces (dp_members conf d)
unfolding dp_text
dp_is conf d = dp_object conf d d.lldp

-- those behind the interfaces, of which the first may be missing
last_values : (lldp : Option ℕ) (ms : List Member) → ((n : ℕ) → lldp ≡ Some n → IsSmall n) → AllByRecursion (λ m. IsValue m.1) ms → AllByRecursion (λ m. IsValue m.1) (lldp_members lldp ++ ms)
last_values None ms small rest = rest
last_values (Some seconds) ms small rest = (number_value seconds (small seconds refl), rest)

abbrev last_members : Option ℕ → List ℕ → List ℕ → List Member
last_members lldp priority timeout = lldp_members lldp ++ (codes "stack_priority", priority) ∷ (codes "timeout", timeout) ∷ []

same_last : (o p : Option ℕ) (a b c d : List ℕ) → ((n : ℕ) → o ≡ Some n → IsSmall n) → ((n : ℕ) → p ≡ Some n → IsSmall n) → last_members o a b ≡ last_members p c d → (o ≡ p) × (a ≡ c) × (b ≡ d)
same_last None None a b c d in_o in_p e = (refl, ap (text_at 0) e, ap (text_at 1) e)
same_last None (Some n) a b c d in_o in_p e = absurd (let count : 2 ≡ 3 = ap length e in omega (arith, count))
same_last (Some m) None a b c d in_o in_p e = absurd (let count : 3 ≡ 2 = ap length e in omega (arith, count))
same_last (Some m) (Some n) a b c d in_o in_p e = (ap Some (same_number m n (in_o m refl) (in_p n refl) (ap (text_at 0) e)), ap (text_at 1) e, ap (text_at 2) e)

record DpIsShown (d : Dp) : Type 0 where
  arp_timeout : IsSmall d.arp_timeout
  timeout : IsSmall d.timeout
  id : IsSmall d.id.0
  stack_priority : (n : ℕ) → d.stack_priority ≡ Some n → IsSmall n
  lldp : (n : ℕ) → d.lldp ≡ Some n → IsSmall n

dp_shown : (conf : Configuration) → IsValid conf → (d : Dp) → IsIn d conf.dps → DpIsShown d
dp_shown conf valid d in_dps =
    let is = in_all (IsDatapath conf) conf.dps valid.datapaths.each d in_dps in
    record {
      arp_timeout = omega (arith, is.arp_timeout.most);
      timeout = omega (arith, is.timeout.most);
      id = is.id;
      stack_priority = λ n e. let small = if_some (λ priority. priority < 2 ^ 32) d.stack_priority n is.stack_priority e in omega (arith, small);
      lldp = λ n e. let interval = if_some IsInterval d.lldp n is.lldp e in omega (arith, interval.most);
    }

dp_values : (conf : Configuration) → IsValid conf → (d : Dp) → IsIn d conf.dps → AllByRecursion (λ m. IsValue m.1) (dp_members conf d)
dp_values conf valid d in_dps =
    let is = dp_shown conf valid d in_dps in
    let ports = object_value (map (port_member conf) d.ports) (map_values (port_member conf) d.ports (ports_are conf valid d in_dps).values) in (
      number_value d.arp_timeout is.arp_timeout,
      (
        quoted_value d.description,
        (
          number_value d.id.0 is.id,
          (
            flag_value d.drop_bpdu,
            (
              flag_value d.drop_broadcast,
              (
                flag_value d.drop_lldp,
                (
                  flag_value d.drop_spoofed,
                  (quoted_value d.hardware, (ports, last_values d.lldp _ is.lldp (optional_value d.stack_priority is.stack_priority, (number_value d.timeout is.timeout, tt)))),
                ),
              ),
            ),
          ),
        ),
      ),
    )

dp_value : (conf : Configuration) → IsValid conf → (d : Dp) → IsIn d conf.dps → IsValue (dp_text conf d)
dp_value conf valid d in_dps = subst IsValue (sym (dp_is conf d)) (braces_value (dp_members conf d) (dp_values conf valid d in_dps))

parts_of : (a b : Configuration) → IsValid a → IsValid b → (d e : Dp) → IsIn d a.dps → IsIn e b.dps → dp_text a d ≡ dp_text b e → dp_members a d ≡ dp_members b e
parts_of a b valid_a valid_b d e in_a in_b same =
    same_braces (dp_members a d) (dp_members b e) (dp_values a valid_a d in_a) (dp_values b valid_b e in_b) (sym (dp_is a d) ∙ same ∙ dp_is b e)

same_id : (a b : Configuration) → IsValid a → IsValid b → (d e : Dp) → IsIn d a.dps → IsIn e b.dps → dp_text a d ≡ dp_text b e → d.id ≡ e.id
same_id a b valid_a valid_b d e in_a in_b same =
    ap (λ (n : ℕ). record { 0 = n })
    (same_number d.id.0 e.id.0 (dp_shown a valid_a d in_a).id (dp_shown b valid_b e in_b).id (ap (text_at 2) (parts_of a b valid_a valid_b d e in_a in_b same)))

same_dp : (a b : Configuration) → IsValid a → IsValid b → NamesTellIds a b → (d e : Dp) → IsIn d a.dps → IsIn e b.dps → d.name ≡ e.name → dp_text a d ≡ dp_text b e → DpsAgree d e
same_dp a b valid_a valid_b told d e in_a in_b name text =
    let same = parts_of a b valid_a valid_b d e in_a in_b text in
    let first = dp_shown a valid_a d in_a in
    let second = dp_shown b valid_b e in_b in
    let last = same_last d.lldp e.lldp (number_or_null d.stack_priority) (decimal d.timeout) (number_or_null e.stack_priority) (decimal e.timeout) first.lldp second.lldp (ap (drop 9) same) in
    record {
      id = same_id a b valid_a valid_b d e in_a in_b text;
      name = name;
      description = same_quoted d.description e.description (ap (text_at 1) same);
      hardware = same_quoted d.hardware e.hardware (ap (text_at 7) same);
      timeout = same_number d.timeout e.timeout first.timeout second.timeout last.2;
      arp_timeout = same_number d.arp_timeout e.arp_timeout first.arp_timeout second.arp_timeout (ap (text_at 0) same);
      stack_priority = same_optional d.stack_priority e.stack_priority first.stack_priority second.stack_priority last.1;
      lldp = last.0;
      drop_spoofed = same_flag d.drop_spoofed e.drop_spoofed (ap (text_at 6) same);
      drop_broadcast = same_flag d.drop_broadcast e.drop_broadcast (ap (text_at 4) same);
      drop_bpdu = same_flag d.drop_bpdu e.drop_bpdu (ap (text_at 3) same);
      drop_lldp = same_flag d.drop_lldp e.drop_lldp (ap (text_at 5) same);
      ports = same_ports a b valid_a valid_b told d e in_a in_b (ap (text_at 8) same);
    }

-- ---- all datapaths

pub text_apart : (m n : List ℕ) → IsTextBefore m n → m ≢ n
text_apart m n before same = by_text.never n (subst (λ (w : List ℕ). IsTextBefore w n) same before)

pub dps_are : (conf : Configuration) → IsValid conf → AreMembers IsTextBefore (λ (d : Dp). d.name) (dp_member conf) (λ d. IsIn d conf.dps) conf.dps
dps_are conf valid =
    let known = all_in (λ (d : Dp). IsIn d conf.dps) conf.dps (λ d at. at) in
    record {
      values = all_in (λ (d : Dp). IsValue (dp_text conf d)) conf.dps (λ d at. dp_value conf valid d at);
      known = known;
      in_order = valid.datapaths.in_order;
      apart = each_before (λ (d e : Dp). IsTextBefore d.name e.name) (λ (d e : Dp). d.name ≢ e.name) (λ (d : Dp). IsIn d conf.dps) (λ d e p q before. text_apart d.name e.name before) conf.dps known valid.datapaths.in_order;
    }

names_tell : (a b : Configuration) → IsValid a → IsValid b → object (map (dp_member a) a.dps) ≡ object (map (dp_member b) b.dps) → NamesTellIds a b
names_tell a b valid_a valid_b same d e in_a in_b name =
    let first = dps_are a valid_a in
    let second = dps_are b valid_b in
    let member = shared (map (dp_member a) a.dps) (map (dp_member b) b.dps) (map_values (dp_member a) a.dps first.values) (map_values (dp_member b) b.dps second.values)
    (own_names (dp_member a) a.dps first.apart) same (dp_member a d) (in_map (dp_member a) a.dps d in_a) in
    let found = of_map (dp_member b) b.dps (dp_member a d) member in
    let one : found.0 ≡ e = one_of_key IsTextBefore (λ (o : Dp). o.name) by_text b.dps valid_b.datapaths.in_order found.0 e found.1 in_b (sym (ap (λ (m : Member). m.0) found.2) ∙ name) in
    same_id a b valid_a valid_b d found.0 in_a found.1 (ap (λ (m : Member). m.1) found.2) ∙ ap (λ (o : Dp). o.id) one

pub same_dps : (a b : Configuration) → IsValid a → IsValid b → object (map (dp_member a) a.dps) ≡ object (map (dp_member b) b.dps) → OneByOne DpsAgree a.dps b.dps
same_dps a b valid_a valid_b same =
    same_members IsTextBefore (λ (d : Dp). d.name) (dp_member a) (dp_member b) (λ d. IsIn d a.dps) (λ d. IsIn d b.dps) DpsAgree by_text
    (λ d e agree. agree.name)
    (λ d e in_a in_b member. same_dp a b valid_a valid_b (names_tell a b valid_a valid_b same) d e in_a in_b (ap (λ (m : Member). m.0) member) (ap (λ (m : Member). m.1) member))
    a.dps b.dps (dps_are a valid_a) (dps_are b valid_b) same
