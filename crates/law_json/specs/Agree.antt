-- What two configurations have in common whose JSON texts are the same, name by name.
use Rattle.std.specs.Prelude.{◌≡◌, ◌<◌, ◌^◌, List, [], ◌∷◌, length, IsPermutation}
use Rattle.std.specs.List.{AllByRecursion}
use Rattle.conf_types.specs.declared.acl.Acl.{Acl}
use Rattle.conf_types.specs.declared.datapath.Dp.{Dp}
use Rattle.conf_types.specs.declared.datapath.Port.{Port}
use Rattle.conf_types.specs.declared.vlan.Router.{Router}
use Rattle.conf_types.specs.Configuration.{Configuration}

-- two lists of one length, of which items at one place stand so to each other
abbrev pub OneByOne : {A : Type 0} → (A → A → Type 0) → List A → List A → Type 0
OneByOne R [] [] = Unit {0}
OneByOne R [] (y ∷ ys) = ⊥
OneByOne R (x ∷ xs) [] = ⊥
OneByOne R (x ∷ xs) (y ∷ ys) = R x y × OneByOne R xs ys

-- interfaces are the same but for the order in which their tagged VLANs and the ports that they mirror are written
pub record PortsAgree (p q : Port) : Type 0 where
  pub no : p.no ≡ q.no
  pub name : p.name ≡ q.name
  pub description : p.description ≡ q.description
  pub enabled : p.enabled ≡ q.enabled
  pub native : p.native ≡ q.native
  pub tagged : IsPermutation p.tagged q.tagged
  pub acls : p.acls ≡ q.acls
  pub output_only : p.output_only ≡ q.output_only
  pub hairpin : p.hairpin ≡ q.hairpin
  pub unicast_flood : p.unicast_flood ≡ q.unicast_flood
  pub permanent_learn : p.permanent_learn ≡ q.permanent_learn
  pub opstatus_reconf : p.opstatus_reconf ≡ q.opstatus_reconf
  pub max_hosts : p.max_hosts ≡ q.max_hosts
  pub mirror : IsPermutation p.mirror q.mirror
  pub stack : p.stack ≡ q.stack

-- datapaths are the same but for that
pub record DpsAgree (d e : Dp) : Type 0 where
  pub id : d.id ≡ e.id
  pub name : d.name ≡ e.name
  pub description : d.description ≡ e.description
  pub hardware : d.hardware ≡ e.hardware
  pub timeout : d.timeout ≡ e.timeout
  pub arp_timeout : d.arp_timeout ≡ e.arp_timeout
  pub stack_priority : d.stack_priority ≡ e.stack_priority
  pub lldp : d.lldp ≡ e.lldp
  pub drop_spoofed : d.drop_spoofed ≡ e.drop_spoofed
  pub drop_broadcast : d.drop_broadcast ≡ e.drop_broadcast
  pub drop_bpdu : d.drop_bpdu ≡ e.drop_bpdu
  pub drop_lldp : d.drop_lldp ≡ e.drop_lldp
  pub ports : OneByOne PortsAgree d.ports e.ports

-- ACLs have one name and as many rules
pub record AclsAgree (a b : Acl) : Type 0 where
  pub name : a.name ≡ b.name
  pub rules : length a.rules ≡ length b.rules

-- routers have one name and the same VLANs, in some order
pub record RoutersAgree (r s : Router) : Type 0 where
  pub name : r.name ≡ s.name
  pub vlans : IsPermutation r.vlans s.vlans

-- All that is shown: of a VLAN everything, of an ACL how many rules it has and not which, of a router its VLANs and
-- not its BGP peer.
pub record Agree (a b : Configuration) : Type 0 where
  pub dps : OneByOne DpsAgree a.dps b.dps
  pub vlans : a.vlans ≡ b.vlans
  pub acls : OneByOne AclsAgree a.acls b.acls
  pub routers : OneByOne RoutersAgree a.routers b.routers

-- no ACL has more rules than 64 bits count, as in memory none has
abbrev pub HasCountedRules : Configuration → Type 0
HasCountedRules conf = AllByRecursion (λ acl. length acl.rules < 2 ^ 64) conf.acls
