-- Of a document, no two raw configurations say what is written: values, lists and maps.
use Rattle.std.proofs.Common.{◌≡◌, ℕ, zero, pos, ◌≤◌, Bool, true, false, List, [], ◌∷◌, Option, Some, None, refl, sym, ap, ap₂, ◌∙◌, subst, arith}
use Rattle.std.specs.Prelude.{IsSomeAnd, MatchOption}
use Rattle.std.specs.Coded.{le_prop}
use Rattle.net_base.specs.declared.address.Ip4.{Ip4}
use Rattle.net_base.specs.declared.address6.Ip6.{Ip6}
use Rattle.net_base.specs.declared.net4.Net4.{Net4}
use Rattle.net_base.specs.declared.net6.Net6.{Net6}
use Rattle.net_base.specs.Address.{SpellsMac, ip4_text}
use Rattle.net_base.proofs.Addresses.{same_mac, same_ip4, same_net4}
use Rattle.net_base.proofs.Groups.{same_ip6, same_net6}
use Rattle.yaml_tree.specs.declared.tree.Key.{Key}
use Rattle.yaml_tree.specs.declared.tree.Key.TheVariants as key
use Rattle.yaml_tree.specs.declared.tree.Pair.{Pair}
use Rattle.yaml_tree.specs.declared.tree.Tree.{Tree, out-Tree}
use Rattle.yaml_tree.specs.declared.tree.Tree.TheOpen.{Tree-F}
use Rattle.yaml_tree.specs.declared.tree.Tree.TheOpen as tree
use Rattle.conf_types.specs.declared.acl.PortRef.{PortRef}
use Rattle.conf_types.specs.declared.acl.PortRef.TheVariants as port_ref
use Rattle.conf_types.specs.declared.address.Ip.{Ip}
use Rattle.conf_types.specs.declared.address.Ip.TheVariants as ip
use Rattle.conf_types.specs.declared.address.Net.{Net}
use Rattle.conf_types.specs.declared.address.Net.TheVariants as net
use Rattle.conf_types.specs.Families.{width_of, address_of}
use Rattle.conf_shape.specs.Addresses.{width_written}
use Rattle.conf_shape.specs.declared.raw.OneOrList.TheVariants as several
use Rattle.conf_shape.specs.declared.raw.VlanRef.{VlanRef}
use Rattle.conf_shape.specs.declared.raw.VlanRef.TheVariants as vlan_ref
use Rattle.law_checks.specs.Values.{IsFlag, IsNumber, IsText, IsPermission, IsLabelOf, IsVlanOf, IsPortOf, IsMac, SpellsIp, SpellsNet, IsIdentifier, IsAddress, IsNetwork, Each, IsList, IsOneOrList, HasEntries, IsMap, AreMaps, IsNumbered}

-- what is said of one thing is said of no two
abbrev pub IsOne : {X A : Type 0} → (X → A → Type 0) → Type 0
IsOne {X} {A} P = (x : X) (a b : A) → P x a → P x b → a ≡ b

-- ---- a value alone

pub flag_one : IsOne IsFlag
flag_one t a b h k = let e : tree.Bool a ≡ tree.Bool b = sym h ∙ k in cc

pub number_one : IsOne IsNumber
number_one t a b h k = let e : tree.Int (pos a) ≡ tree.Int (pos b) = sym h ∙ k in cc

pub text_one : IsOne IsText
text_one t a b h k = let e : tree.Text a ≡ tree.Text b = sym h ∙ k in cc

pub permission_one : IsOne (λ (t : Tree). IsPermission (out-Tree t))
permission_one t a b h k = by (out-Tree t) a b h k
  where
    by : (x : Tree-F Tree Pair) (a b : Bool) → IsPermission x a → IsPermission x b → a ≡ b
    by (tree.Bool flag) a b h k = sym h ∙ k
    by (tree.Int n) true true h k = refl
    by (tree.Int n) false false h k = refl
    by (tree.Int n) true false h k = let e : pos 1 ≡ pos 0 = sym h ∙ k in let f : 1 ≡ zero = cc in absurd (omega arith)
    by (tree.Int n) false true h k = let e : pos 0 ≡ pos 1 = sym h ∙ k in let f : zero ≡ 1 = cc in absurd (omega arith)
    by (tree.Text text) a b h k = absurd h
    by tree.Null a b h k = absurd h
    by (tree.List items) a b h k = absurd h
    by (tree.Map pairs) a b h k = absurd h

pub label_one : IsOne (λ (t : Tree). IsLabelOf (out-Tree t))
label_one t a b h k = by (out-Tree t) a b h k
  where
    by : (x : Tree-F Tree Pair) (a b : List ℕ) → IsLabelOf x a → IsLabelOf x b → a ≡ b
    by (tree.Text text) a b h k = sym h ∙ k
    by (tree.Int n) a b h k = sym h ∙ k
    by (tree.Bool flag) a b h k = absurd h
    by tree.Null a b h k = absurd h
    by (tree.List items) a b h k = absurd h
    by (tree.Map pairs) a b h k = absurd h

pub vlan_one : IsOne (λ (t : Tree). IsVlanOf (out-Tree t))
vlan_one t a b h k = by (out-Tree t) a b h k
  where
    by : (x : Tree-F Tree Pair) (a b : VlanRef) → IsVlanOf x a → IsVlanOf x b → a ≡ b
    by (tree.Int n) (vlan_ref.Vid a) (vlan_ref.Vid b) h k = let e : pos a ≡ pos b = sym h ∙ k in cc
    by (tree.Int n) (vlan_ref.Vid a) (vlan_ref.Name b) h k = absurd k
    by (tree.Int n) (vlan_ref.Name a) b h k = absurd h
    by (tree.Text text) (vlan_ref.Name a) (vlan_ref.Name b) h k = ap vlan_ref.Name (sym h ∙ k)
    by (tree.Text text) (vlan_ref.Name a) (vlan_ref.Vid b) h k = absurd k
    by (tree.Text text) (vlan_ref.Vid a) b h k = absurd h
    by (tree.Bool flag) a b h k = absurd h
    by tree.Null a b h k = absurd h
    by (tree.List items) a b h k = absurd h
    by (tree.Map pairs) a b h k = absurd h

pub port_one : IsOne (λ (t : Tree). IsPortOf (out-Tree t))
port_one t a b h k = by (out-Tree t) a b h k
  where
    by : (x : Tree-F Tree Pair) (a b : PortRef) → IsPortOf x a → IsPortOf x b → a ≡ b
    by (tree.Int n) (port_ref.No a) (port_ref.No b) h k = let e : pos a ≡ pos b = sym h ∙ k in cc
    by (tree.Int n) (port_ref.No a) (port_ref.Name b) h k = absurd k
    by (tree.Int n) (port_ref.Name a) b h k = absurd h
    by (tree.Text text) (port_ref.Name a) (port_ref.Name b) h k = ap port_ref.Name (sym h ∙ k)
    by (tree.Text text) (port_ref.Name a) (port_ref.No b) h k = absurd k
    by (tree.Text text) (port_ref.No a) b h k = absurd h
    by (tree.Bool flag) a b h k = absurd h
    by tree.Null a b h k = absurd h
    by (tree.List items) a b h k = absurd h
    by (tree.Map pairs) a b h k = absurd h

pub mac_one : IsOne IsMac
mac_one t a b h k =
    let same = text_one t h.0 k.0 h.1 k.1 in
    let bytes = same_mac h.0 a.0 b.0 h.2 (subst (λ text. SpellsMac text b.0) (sym same) k.2) in
    λ i. record { 0 = bytes i }

pub identifier_one : IsOne IsIdentifier
identifier_one t a b h k = let e = same_ip4 a.0 b.0 h.1 k.1 (text_one t (ip4_text a.0) (ip4_text b.0) h.0 k.0) in λ i. record { 0 = e i }

-- a text spells one address, and one network, of a family
pub ip_one : (text : List ℕ) (a b : Ip) → width_of a ≡ width_of b → SpellsIp text a → SpellsIp text b → a ≡ b
ip_one text (ip.V4 a) (ip.V4 b) w h k = let made : ℕ → Ip = λ n. ip.V4 (record { 0 = n }) in ap made (same_ip4 a.0 b.0 h.1 k.1 (sym h.0 ∙ k.0))
ip_one text (ip.V4 a) (ip.V6 b) w h k = absurd (omega (arith, w))
ip_one text (ip.V6 a) (ip.V4 b) w h k = absurd (omega (arith, w))
ip_one text (ip.V6 a) (ip.V6 b) w h k = let made : ℕ → Ip = λ n. ip.V6 (record { 0 = n }) in ap made (same_ip6 text a.0 b.0 h k)

net4_same : (ip : Ip4) (m n : ℕ) (p : m ≤ 32) (q : n ≤ 32) → m ≡ n → ◌≡◌ {A = Net4} (record { ip = ip; len = m; short = p }) (record { ip = ip; len = n; short = q })
net4_same ip m n p q e = subst (λ n. (q : n ≤ 32) → ◌≡◌ {A = Net4} (record { ip = ip; len = m; short = p }) (record { ip = ip; len = n; short = q })) e (λ q. λ i. record { ip = ip; len = m; short = le_prop p q i }) q

net6_same : (ip : Ip6) (m n : ℕ) (p : m ≤ 128) (q : n ≤ 128) → m ≡ n → ◌≡◌ {A = Net6} (record { ip = ip; len = m; short = p }) (record { ip = ip; len = n; short = q })
net6_same ip m n p q e = subst (λ n. (q : n ≤ 128) → ◌≡◌ {A = Net6} (record { ip = ip; len = m; short = p }) (record { ip = ip; len = n; short = q })) e (λ q. λ i. record { ip = ip; len = m; short = le_prop p q i }) q

pub net_one : (text : List ℕ) (a b : Net) → width_of (address_of a) ≡ width_of (address_of b) → SpellsNet text a → SpellsNet text b → a ≡ b
net_one text (net.V4 a) (net.V4 b) w h k =
    let e = same_net4 a.ip.0 a.len b.ip.0 b.len h.1 a.short k.1 b.short (sym h.0 ∙ k.0) in
    let ip : a.ip ≡ b.ip = λ i. record { 0 = e.0 i } in
    ap net.V4 (ap (λ ip. record { ip = ip; len = a.len; short = a.short }) ip ∙ net4_same b.ip a.len b.len a.short b.short e.1)
net_one text (net.V4 a) (net.V6 b) w h k = absurd (omega (arith, w))
net_one text (net.V6 a) (net.V4 b) w h k = absurd (omega (arith, w))
net_one text (net.V6 a) (net.V6 b) w h k =
    let e = same_net6 text a.ip.0 a.len b.ip.0 b.len h k in
    let ip : a.ip ≡ b.ip = λ i. record { 0 = e.0 i } in
    ap net.V6 (ap (λ ip. record { ip = ip; len = a.len; short = a.short }) ip ∙ net6_same b.ip a.len b.len a.short b.short e.1)

pub address_one : IsOne IsAddress
address_one t a b h k =
    let same = text_one t h.text k.text h.is k.is in
    ip_one h.text a b (h.family ∙ ap width_written same ∙ sym k.family) h.spelled (subst (λ text. SpellsIp text b) (sym same) k.spelled)

pub network_one : IsOne IsNetwork
network_one t a b h k =
    let same = text_one t h.text k.text h.is k.is in
    net_one h.text a b (h.family ∙ ap width_written same ∙ sym k.family) h.spelled (subst (λ text. SpellsNet text b) (sym same) k.spelled)

-- ---- lists and maps

pub each_one : {X A : Type 0} (P : X → A → Type 0) → IsOne P → IsOne (Each P)
each_one P one [] [] [] h k = refl
each_one P one [] [] (b ∷ bs) h k = absurd k
each_one P one [] (a ∷ more) bs h k = absurd h
each_one P one (x ∷ xs) [] bs h k = absurd h
each_one P one (x ∷ xs) (a ∷ more) [] h k = absurd k
each_one {A = A} P one (x ∷ xs) (a ∷ more) (b ∷ bs) h k = ap₂ (λ (y : A) (ys : List A). y ∷ ys) (one x a b h.0 k.0) (each_one P one xs more bs h.1 k.1)

pub list_one : {A : Type 0} (P : Tree → A → Type 0) → IsOne P → IsOne (IsList P)
list_one P one t a b h k =
    let e : tree.List h.0 ≡ tree.List k.0 = sym h.1 ∙ k.1 in
    let items : h.0 ≡ k.0 = cc in
    each_one P one h.0 a b h.2 (subst (λ items. Each P items b) (sym items) k.2)

pub several_one : {A : Type 0} (P : Tree → A → Type 0) → IsOne P → ((t : Tree) (items : List Tree) (a : A) → out-Tree t ≡ tree.List items → P t a → ⊥) → IsOne (IsOneOrList P)
several_one P one not_list t (several.One a) (several.One b) h k = ap several.One (one t a b h k)
several_one P one not_list t (several.One a) (several.List bs) h k = absurd (not_list t k.0 a k.1 h)
several_one P one not_list t (several.List xs) (several.One b) h k = absurd (not_list t h.0 b h.1 k)
several_one P one not_list t (several.List xs) (several.List bs) h k = ap several.List (list_one P one t xs bs h k)

pub entries_one : (x : Tree-F Tree Pair) (a b : List Pair) → HasEntries x a → HasEntries x b → a ≡ b
entries_one (tree.Map pairs) a b h k = sym h ∙ k
entries_one tree.Null a b h k = h ∙ sym k
entries_one (tree.Bool flag) a b h k = absurd h
entries_one (tree.Int n) a b h k = absurd h
entries_one (tree.Text text) a b h k = absurd h
entries_one (tree.List items) a b h k = absurd h

pub map_one : {A : Type 0} (P : List Pair → A → Type 0) → IsOne P → IsOne (IsMap P)
map_one P one t a b h k = one h.0 a b h.2 (subst (λ pairs. P pairs b) (sym (entries_one (out-Tree t) h.0 k.0 h.1 k.1)) k.2)

pub maps_one : {A : Type 0} (P : Key → List Pair → A → Type 0) → ((key : Key) → IsOne (P key)) → IsOne (AreMaps P)
maps_one P one pairs a b h k = each_one (λ p x. IsMap (P p.key) p.value x) (λ p a b h k. map_one (P p.key) (one p.key) p.value a b h k) pairs a b h k

-- no port and no map is a list
pub port_no_list : (t : Tree) (items : List Tree) (a : PortRef) → out-Tree t ≡ tree.List items → IsPortOf (out-Tree t) a → ⊥
port_no_list t items a e h = subst (λ x. IsPortOf x a) e h

pub map_no_list : {A : Type 0} (P : List Pair → A → Type 0) (t : Tree) (items : List Tree) (a : A) → out-Tree t ≡ tree.List items → IsMap P t a → ⊥
map_no_list P t items a e h = subst (λ x. HasEntries x h.0) e h.1

-- ---- keys

-- where the defaults are equal, what stands is
pub given_one : {A : Type 0} (P : Tree → A → Type 0) → IsOne P → (o : Option Tree) (c d a b : A) → c ≡ d → MatchOption o (a ≡ c) (λ t. P t a) → MatchOption o (b ≡ d) (λ t. P t b) → a ≡ b
given_one P one None c d a b e h k = h ∙ e ∙ sym k
given_one P one (Some t) c d a b e h k = one t a b h k

pub needed_one : {A : Type 0} (P : Tree → A → Type 0) → IsOne P → (o : Option Tree) (a b : A) → IsSomeAnd o (λ t. P t a) → IsSomeAnd o (λ t. P t b) → a ≡ b
needed_one P one None a b h k = absurd h
needed_one P one (Some t) a b h k = one t a b h k

pub some_one : {A : Type 0} (P : Tree → A → Type 0) → IsOne P → IsOne (λ (t : Tree) (o : Option A). IsSomeAnd o (P t))
some_one P one t None b h k = absurd h
some_one P one t (Some a) None h k = absurd k
some_one P one t (Some a) (Some b) h k = ap Some (one t a b h k)

pub numbered_one : (k : Key) (o : Option Tree) (a b : ℕ) → IsNumbered k o a → IsNumbered k o b → a ≡ b
numbered_one (key.Int n) o a b h k = let e : pos a ≡ pos b = sym h.0 ∙ k.0 in cc
numbered_one (key.Text text) o a b h k = needed_one IsNumber number_one o a b h k
