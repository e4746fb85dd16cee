-- Equal texts show the same.
use Rattle.std.proofs.Common.{◌≡◌, ◌≢◌, ◌<◌, ◌^◌, List, [], ◌∷◌, length, map, refl, sym, ap, ◌∙◌, decimal, codes, is_some}
use Rattle.std.specs.List.{AllByRecursion}
use Rattle.std.specs.Prelude.{IsTrue}
use Rattle.conf_types.specs.declared.acl.Acl.{Acl}
use Rattle.conf_types.specs.declared.vlan.Router.{Router}
use Rattle.conf_types.specs.Configuration.{Configuration, vlan_with}
use Rattle.conf_types.specs.Lists.{IsTextBefore}
use Rattle.conf_types.specs.Valid.{IsValid}
use Rattle.conf_json.specs.Json.{Member, with_member, braces, object}
use Rattle.conf_json.specs.Text.{numbers_text, dp_member, vlan_member, acl_member, router_member, json_text}
use Rattle.law_json.specs.Agree.{OneByOne, AclsAgree, RoutersAgree, Agree, HasCountedRules}
use Rattle.law_json.proofs.Alike.{by_text, AreMembers, each_before, map_values, same_members}
use Rattle.law_json.proofs.Datapaths.{text_apart, dps_are, same_dps}
use Rattle.law_json.proofs.Members.{all_in, in_all, object_value}
use Rattle.law_json.proofs.Parts.{IsSmall, same_number, numbers_value, same_numbers}
use Rattle.law_json.proofs.Ports.{text_at}
use Rattle.law_json.proofs.Shown.{each_small, vid_small}
use Rattle.law_json.proofs.Values.{IsValue, number_value, same_braces}
use Rattle.law_json.proofs.Vlans.{vlans_are, same_vlans}

-- ---- ACLs

acls_are : (conf : Configuration) → IsValid conf → HasCountedRules conf → AreMembers IsTextBefore (λ (acl : Acl). acl.name) acl_member (λ acl. length acl.rules < 2 ^ 64) conf.acls
acls_are conf valid counted = record {
  values = all_in (λ (acl : Acl). IsValue (decimal (length acl.rules))) conf.acls (λ acl at. number_value (length acl.rules) (in_all (λ (acl : Acl). length acl.rules < 2 ^ 64) conf.acls counted acl at));
  known = counted;
  in_order = valid.acls.in_order;
  apart = each_before (λ (a b : Acl). IsTextBefore a.name b.name) (λ (a b : Acl). a.name ≢ b.name) (λ (acl : Acl). length acl.rules < 2 ^ 64) (λ a b p q before. text_apart a.name b.name before) conf.acls counted valid.acls.in_order;
}

same_acls : (a b : Configuration) → IsValid a → IsValid b → HasCountedRules a → HasCountedRules b → object (map acl_member a.acls) ≡ object (map acl_member b.acls) → OneByOne AclsAgree a.acls b.acls
same_acls a b valid_a valid_b counted_a counted_b same =
    same_members IsTextBefore (λ (acl : Acl). acl.name) acl_member acl_member (λ acl. length acl.rules < 2 ^ 64) (λ acl. length acl.rules < 2 ^ 64) AclsAgree by_text
    (λ x y agree. agree.name)
    (λ x y in_x in_y e. record { name = ap (λ (m : Member). m.0) e; rules = same_number (length x.rules) (length y.rules) in_x in_y (ap (λ (m : Member). m.1) e) })
    a.acls b.acls (acls_are a valid_a counted_a) (acls_are b valid_b counted_b) same

-- ---- routers

abbrev HasSmallVlans : Router → Type 0
HasSmallVlans router = AllByRecursion IsSmall router.vlans

small_vlans : (conf : Configuration) → IsValid conf → AllByRecursion HasSmallVlans conf.routers
small_vlans conf valid =
    all_in HasSmallVlans conf.routers
    (λ router at. each_small (λ vid. IsTrue (is_some (vlan_with conf.vlans vid))) (vid_small conf valid) router.vlans (in_all _ conf.routers valid.routing.vlans router at))

routers_are : (conf : Configuration) → IsValid conf → AreMembers IsTextBefore (λ (router : Router). router.name) router_member HasSmallVlans conf.routers
routers_are conf valid = record {
  values = all_in (λ (router : Router). IsValue (numbers_text router.vlans)) conf.routers (λ router at. numbers_value router.vlans (in_all HasSmallVlans conf.routers (small_vlans conf valid) router at));
  known = small_vlans conf valid;
  in_order = valid.routing.in_order;
  apart = each_before (λ (r s : Router). IsTextBefore r.name s.name) (λ (r s : Router). r.name ≢ s.name) HasSmallVlans (λ r s p q before. text_apart r.name s.name before) conf.routers (small_vlans conf valid) valid.routing.in_order;
}

same_routers : (a b : Configuration) → IsValid a → IsValid b → object (map router_member a.routers) ≡ object (map router_member b.routers) → OneByOne RoutersAgree a.routers b.routers
same_routers a b valid_a valid_b same =
    same_members IsTextBefore (λ (router : Router). router.name) router_member router_member HasSmallVlans HasSmallVlans RoutersAgree by_text
    (λ x y agree. agree.name)
    (λ x y in_x in_y e. record { name = ap (λ (m : Member). m.0) e; vlans = same_numbers x.vlans y.vlans in_x in_y (ap (λ (m : Member). m.1) e) })
    a.routers b.routers (routers_are a valid_a) (routers_are b valid_b) same

-- ---- the whole

abbrev parts : Configuration → List Member
parts conf =
    (codes "acls", object (map acl_member conf.acls))
    ∷ (codes "dps", object (map (dp_member conf) conf.dps))
    ∷ (codes "routers", object (map router_member conf.routers))
    ∷ (codes "vlans", object (map vlan_member conf.vlans)) ∷ []

text_is : (conf : Configuration) → json_text conf ≡ braces (parts conf)
unfolding json_text with_member
text_is conf = refl

part_values : (conf : Configuration) → IsValid conf → HasCountedRules conf → AllByRecursion (λ m. IsValue m.1) (parts conf)
part_values conf valid counted = (
  object_value (map acl_member conf.acls) (map_values acl_member conf.acls (acls_are conf valid counted).values),
  (
    object_value (map (dp_member conf) conf.dps) (map_values (dp_member conf) conf.dps (dps_are conf valid).values),
    (
      object_value (map router_member conf.routers) (map_values router_member conf.routers (routers_are conf valid).values),
      (object_value (map vlan_member conf.vlans) (map_values vlan_member conf.vlans (vlans_are conf valid).values), tt),
    ),
  ),
)

pub agree : (a b : Configuration) → IsValid a → IsValid b → HasCountedRules a → HasCountedRules b → json_text a ≡ json_text b → Agree a b
agree a b valid_a valid_b counted_a counted_b e =
    let same = same_braces (parts a) (parts b) (part_values a valid_a counted_a) (part_values b valid_b counted_b) (sym (text_is a) ∙ e ∙ text_is b) in
    record {
      dps = same_dps a b valid_a valid_b (ap (text_at 1) same);
      vlans = same_vlans a b valid_a valid_b (ap (text_at 3) same);
      acls = same_acls a b valid_a valid_b counted_a counted_b (ap (text_at 0) same);
      routers = same_routers a b valid_a valid_b (ap (text_at 2) same);
    }
