-- What stands for each kind of value, where it has no fault.
use Rattle.std.proofs.Common.{◌≡◌, ℕ, zero, suc, ℤ, pos, negsuc, ◌≤◌, ◌&&◌, ◌||◌, Bool, true, false, not, List, [], ◌∷◌, ◌++◌, Option, Some, None, Result, Ok, Err, refl, sym, ap, ◌∙◌, subst, append_assoc, append-nil, arith, ◌<◌, ◌^◌}
use Rattle.std.specs.Prelude.{map, nat_le, ◌==◌, IfSome, IsSomeAnd, MatchOption, is_some, unwrap_or, option_and_then, if◌then◌else◌}
use Rattle.std.specs.Fmt.{signed_decimal}
use Rattle.std.specs.List.{AllByRecursion, list_any}
use Rattle.std.specs.Option.{option_map}
use Rattle.std.specs.Str.{bytes_eq}
use Rattle.std.proofs.lemmas.Bool.{and_right, lt-leb}
use Rattle.net_base.specs.Address.{SpellsMac, ip4_text}
use Rattle.net_base.specs.AddressReading.{spelled_mac, ip4_of}
use Rattle.net_base.proofs.Addresses.{mac_ok, ip4_ok}
use Rattle.yaml_tree.specs.declared.tree.Key.{Key}
use Rattle.yaml_tree.specs.declared.tree.Key.TheVariants as key
use Rattle.yaml_tree.specs.declared.tree.Pair.{Pair}
use Rattle.yaml_tree.specs.declared.tree.Tree.{Tree, out-Tree}
use Rattle.yaml_tree.specs.declared.tree.Tree.TheOpen.{Tree-F}
use Rattle.yaml_tree.specs.declared.tree.Tree.TheOpen as tree
use Rattle.conf_types.specs.declared.address.Ip.{Ip}
use Rattle.conf_types.specs.declared.address.Net.{Net}
use Rattle.conf_shape.specs.declared.refused.ConfCause.{ConfCause}
use Rattle.conf_shape.specs.declared.refused.ConfCause.TheVariants.{WrongType, BadText, OutOfRange}
use Rattle.conf_shape.specs.declared.kinds.Kind.{Kind}
use Rattle.conf_shape.specs.declared.kinds.Kind.TheVariants as kind_of
use Rattle.conf_shape.specs.declared.kinds.Scalar.{Scalar}
use Rattle.conf_shape.specs.declared.kinds.Scalar.TheVariants as scalars
use Rattle.conf_shape.specs.declared.kinds.TheConstants.{MOST_VID, MOST_PORT_NO, VLAN_NAMED, PORT_NAMED}
use Rattle.conf_shape.specs.declared.kinds.MapKind.{MapKind}
use Rattle.conf_shape.specs.Addresses.{station_fault, width_written, ip_in, net_in, other_cause, vip_fault, network_fault, address_or, gateway_cause, identifier_fault}
use Rattle.conf_shape.specs.Faults.{null_faults, in_map, here, missing, missing_row, missing_in, map_faults, may_be_null, faults_of, entry_of}
use Rattle.conf_shape.specs.Keys.{KeyRow, keys_of}
use Rattle.conf_shape.specs.Reads.{value_at, flag_in, permission_in, number_in, text_in, label_in, items_in, entries_in, flag_of, permission_of, number_of, text_of, words_of, items_of, entries_of, label_of, one_or_list_in, one_or_list_of, port_or, port_of, vlan_or, vlan_of, own_number}
use Rattle.conf_shape.specs.Scalars.{within, if_within, is_name, as_scalar, flag_fault, number_fault, text_fault, scalar_kind, item_kind, map_kind}
use Rattle.conf_shape.specs.Sections as sections
use Rattle.conf_shape.specs.Sections.{is_key, row_at, lacks, is_needed, map_keys, if_number, number_or_name, as_map, numbered}
use Rattle.conf_shape.specs.Values.{ip_or_zero, ip_of, net_or_zero, net_of, identifier_of, mac_or_zero, mac_of}
use Rattle.conf_shape.specs.Written.{IsRight, IsTextAlone}
use Rattle.law_checks.specs.Values.{IsFlag, IsNumber, IsText, IsPermission, IsLabelOf, IsVlanOf, IsPortOf, IsMac, IsIdentifier, IsAddress, IsNetwork, Each, IsList, IsOneOrList, HasEntries, IsMap, IsNumbered}
use Rattle.law_checks.proofs.Right.{IsFine, fine, entry_right, map_right, items_right}
use Rattle.law_checks.proofs.Values.{within_again, within_is, number_right, text_right}
use Rattle.law_checks.proofs.Addresses.{IsReadIp, ip_ok, IsReadNet, net_ok, written_family}

-- ---- what may be written

-- what is read of what is written, and what stands for nothing
pub stands : {A : Type 0} (P : Tree → A → Type 0) (kind : Kind) (read : Option Tree → A) (default : A) → read None ≡ default → ((t : Tree) → faults_of t kind ≡ [] → P t (read (Some t))) → (o : Option Tree) → IfSome o (λ t. faults_of t kind ≡ []) → MatchOption o (read o ≡ default) (λ t. P t (read o))
stands P kind read default none some None h = none
stands P kind read default none some (Some t) h = some t h

-- what has to be written is
pub is_there : {A : Type 0} (P : Tree → A → Type 0) (kind : Kind) (read : Option Tree → A) → ((t : Tree) → faults_of t kind ≡ [] → P t (read (Some t))) → (o : Option Tree) → is_some o ≡ true → IfSome o (λ t. faults_of t kind ≡ []) → IsSomeAnd o (λ t. P t (read o))
is_there P kind read some None there h = absurd cc
is_there P kind read some (Some t) there h = some t h

-- ---- keys that have to be there

no_missing : (m : MapKind) (earlier : List Key) (pairs : List Pair) → map_faults m earlier (map entry_of pairs) ≡ [] → missing_in m (earlier ++ map_keys pairs) ≡ []
no_missing m earlier [] h = ap (missing_in m) (append-nil earlier) ∙ h
no_missing m earlier (p ∷ ps) h = ap (missing_in m) (sym (append_assoc earlier (p.key ∷ []) (map_keys ps))) ∙ no_missing m (earlier ++ p.key ∷ []) ps (entry_right m earlier p ps h).1

none_lacks : (number : Option ℕ) (keys : List Key) (name : List ℕ) (r : KeyRow) (rows : List KeyRow) → missing number keys rows ≡ [] → row_at name rows ≡ Some r → lacks number keys r ≡ false
none_lacks number keys name r [] h at = absurd cc
none_lacks number keys name r (s ∷ rows) h at = by (lacks number keys s) refl h (bytes_eq s.key name) at (none_lacks number keys name r rows)
  where
    by : (lacking : Bool) → lacks number keys s ≡ lacking → (if lacking then missing_row s.key ∷ missing number keys rows else missing number keys rows) ≡ [] → (is : Bool) → (if is then Some s else row_at name rows) ≡ Some r → (missing number keys rows ≡ [] → row_at name rows ≡ Some r → lacks number keys r ≡ false) → lacks number keys r ≡ false
    by true l h is at later = absurd cc
    by false l h true at later = let same : s ≡ r = cc in subst (λ r. lacks number keys r ≡ false) same l
    by false l h false at later = later h at

value_there : (name : List ℕ) (pairs : List Pair) → list_any (is_key name) (map_keys pairs) ≡ true → is_some (value_at name pairs) ≡ true
value_there name [] h = h
value_there name (p ∷ ps) h = by (is_key name p.key) h (value_there name ps)
  where
    by : (is : Bool) → (is || list_any (is_key name) (map_keys ps)) ≡ true → (list_any (is_key name) (map_keys ps) ≡ true → is_some (value_at name ps) ≡ true) → is_some (if is then Some p.value else value_at name ps) ≡ true
    by true h later = refl
    by false h later = later h

pub needed_there : (m : MapKind) (r : KeyRow) → row_at r.key (keys_of m).rows ≡ Some r → ((keys : List Key) → is_needed (sections.number_of m) keys r.need ≡ true) → (pairs : List Pair) → IsRight m pairs → is_some (value_at r.key pairs) ≡ true
needed_there m r at need pairs right =
    let none = none_lacks (sections.number_of m) (map_keys pairs) r.key r (keys_of m).rows (no_missing m [] pairs right) at in
    value_there r.key pairs (by (is_needed (sections.number_of m) (map_keys pairs) r.need) (list_any (is_key r.key) (map_keys pairs)) (need (map_keys pairs)) none)
  where
    by : (need there : Bool) → need ≡ true → (need && not there) ≡ false → there ≡ true
    by true true n l = refl
    by true false n l = absurd cc
    by false there n l = absurd cc

-- ---- scalars

pub flag_right : (t : Tree) → faults_of t (kind_of.One scalars.Flag) ≡ [] → (flag : Bool) × (out-Tree t ≡ tree.Bool flag)
flag_right t h = by (out-Tree t) (fine (kind_of.One scalars.Flag) t h)
  where
    by : (x : Tree-F Tree Pair) → IsFine (kind_of.One scalars.Flag) x → (flag : Bool) × (x ≡ tree.Bool flag)
    by (tree.Bool flag) f = (flag, refl)
    by (tree.Int n) f = absurd cc
    by (tree.Text text) f = absurd cc
    by tree.Null f = absurd cc
    by (tree.List items) f = absurd cc
    by (tree.Map pairs) f = absurd cc

pub flag_stands : (other : Bool) (t : Tree) → faults_of t (kind_of.One scalars.Flag) ≡ [] → IsFlag t (unwrap_or (flag_of t) other)
flag_stands other t h = let r = flag_right t h in r.1 ∙ ap (λ x. tree.Bool (unwrap_or (flag_in x) other)) (sym r.1)

-- a number of a range, read as one of more
module _ (low high wide : ℕ) (within : high ≤ wide) (t : Tree) (h : faults_of t (kind_of.One (scalars.Number low high)) ≡ []) where
  number_read : (n : ℕ) × IsNumber t n × (number_of 0 wide t ≡ Some n)
  number_read = let r = number_right low high t h in (r.0, r.1, ap (number_in 0 wide) r.1 ∙ within_again 0 wide r.0 (omega arith) (omega (arith, r.3, within)))

  pub option_number_stands : IsSomeAnd (number_of 0 wide t) (IsNumber t)
  option_number_stands = let r = number_read in subst (λ o. IsSomeAnd o (IsNumber t)) (sym r.2) r.1

  pub number_stands : (other : ℕ) → IsNumber t (unwrap_or (number_of 0 wide t) other)
  number_stands other = let r = number_read in r.1 ∙ ap (λ o. tree.Int (pos (unwrap_or o other))) (sym r.2)

pub text_stands : (s : Scalar) → IsTextAlone s → (other : List ℕ) (t : Tree) → faults_of t (kind_of.One s) ≡ [] → IsText t (unwrap_or (text_of t) other)
text_stands s alone other t h = let r = text_right s alone t h in r.1 ∙ ap (λ x. tree.Text (unwrap_or (text_in x) other)) (sym r.1)

zero_or_one : (n : ℤ) → if_within (within 0 1 n) ≡ None → IsPermission (tree.Int n) (unwrap_or (permission_in (tree.Int n)) false)
zero_or_one (negsuc n) e = absurd cc
zero_or_one (pos zero) e = refl
zero_or_one (pos (suc zero)) e = refl
zero_or_one (pos (suc (suc n))) e = by (nat_le 0 (suc (suc n)) && nat_le (suc (suc n)) 1) (le_past n) e
  where
    le_past : (n : ℕ) → (nat_le 0 (suc (suc n)) && nat_le (suc (suc n)) 1) ≡ false
    le_past n = and_right (nat_le 0 (suc (suc n))) (nat_le (suc (suc n)) 1) (lt-leb (suc (suc n)) 1 (omega arith))

    by : (is : Bool) → is ≡ false → if_within (if is then Some (suc (suc n)) else None) ≡ None → IsPermission (tree.Int (pos (suc (suc n)))) (unwrap_or (option_map (λ k. k == 1) (if is then Some (suc (suc n)) else None)) false)
    by true is e = absurd cc
    by false is e = absurd cc

pub permission_stands : (t : Tree) → faults_of t (kind_of.One scalars.Permission) ≡ [] → IsPermission (out-Tree t) (unwrap_or (permission_of t) false)
permission_stands t h = by (out-Tree t) (fine (kind_of.One scalars.Permission) t h)
  where
    by : (x : Tree-F Tree Pair) → IsFine (kind_of.One scalars.Permission) x → IsPermission x (unwrap_or (permission_in x) false)
    by (tree.Bool flag) f = refl
    by (tree.Int n) f = zero_or_one n f
    by (tree.Text text) f = absurd cc
    by tree.Null f = absurd cc
    by (tree.List items) f = absurd cc
    by (tree.Map pairs) f = absurd cc

pub label_stands : (t : Tree) → faults_of t (kind_of.One scalars.Label) ≡ [] → IsLabelOf (out-Tree t) (label_of t)
label_stands t h = by (out-Tree t) (fine (kind_of.One scalars.Label) t h)
  where
    by : (x : Tree-F Tree Pair) → IsFine (kind_of.One scalars.Label) x → IsLabelOf x (label_in x)
    by (tree.Text text) f = refl
    by (tree.Int n) f = refl
    by (tree.Bool flag) f = absurd cc
    by tree.Null f = absurd cc
    by (tree.List items) f = absurd cc
    by (tree.Map pairs) f = absurd cc

-- ---- references

vlan_number : (n : ℤ) → if_within (within 1 MOST_VID n) ≡ None → IsVlanOf (tree.Int n) (vlan_or (signed_decimal n) (within 1 MOST_VID n))
vlan_number n e = let is = within_is 1 MOST_VID n e in rw (is.1, within_again 1 MOST_VID is.0 is.2 is.3) refl

pub vlan_stands : (t : Tree) → faults_of t (kind_of.One VLAN_NAMED) ≡ [] → IsVlanOf (out-Tree t) (vlan_of t)
vlan_stands t h = by (out-Tree t) (fine (kind_of.One VLAN_NAMED) t h)
  where
    by : (x : Tree-F Tree Pair) → IsFine (kind_of.One VLAN_NAMED) x → IsVlanOf x (vlan_or (label_in x) (number_in 1 MOST_VID x))
    by (tree.Text text) f = refl
    by (tree.Int n) f = vlan_number n f
    by (tree.Bool flag) f = absurd cc
    by tree.Null f = absurd cc
    by (tree.List items) f = absurd cc
    by (tree.Map pairs) f = absurd cc

port_number : (n : ℤ) → if_within (within 1 MOST_PORT_NO n) ≡ None → IsPortOf (tree.Int n) (port_or (signed_decimal n) (within 1 MOST_PORT_NO n))
port_number n e = let is = within_is 1 MOST_PORT_NO n e in rw (is.1, within_again 1 MOST_PORT_NO is.0 is.2 is.3) refl

port_in : (x : Tree-F Tree Pair) → IsFine (kind_of.One PORT_NAMED) x → IsPortOf x (port_or (label_in x) (number_in 1 MOST_PORT_NO x))
port_in (tree.Text text) f = refl
port_in (tree.Int n) f = port_number n f
port_in (tree.Bool flag) f = absurd cc
port_in tree.Null f = absurd cc
port_in (tree.List items) f = absurd cc
port_in (tree.Map pairs) f = absurd cc

pub port_stands : (t : Tree) → faults_of t (kind_of.One PORT_NAMED) ≡ [] → IsPortOf (out-Tree t) (port_of t)
port_stands t h = port_in (out-Tree t) (fine (kind_of.One PORT_NAMED) t h)

-- ---- addresses

pub mac_stands : (other : List ℕ) (t : Tree) → faults_of t (kind_of.One scalars.StationMac) ≡ [] → IsMac t (mac_of (unwrap_or (text_of t) other))
mac_stands other t h =
    let r = text_right scalars.StationMac (record { no_flag = refl; no_number = λ n. refl }) t h in
    (r.0, r.1, subst (λ x. SpellsMac r.0 (mac_of (unwrap_or (text_in x) other)).0) (sym r.1) (by r.0 (spelled_mac r.0) refl r.2))
  where
    by : (text : List ℕ) (read : Option (List ℕ)) → spelled_mac text ≡ read → station_fault read ≡ None → SpellsMac text (mac_or_zero read).0
    by text None e f = absurd cc
    by text (Some mac) e f = mac_ok text mac e

-- a text with no fault spells what is read of it
net_read : (text : List ℕ) (fault : Option Net → Option ConfCause) → (fault None ≡ None → ⊥) → fault (net_in (width_written text) text) ≡ None → IsReadNet (width_written text) text (net_of text)
net_read text fault none e = by (net_in (width_written text) text) refl e
  where
    by : (read : Option Net) → net_in (width_written text) text ≡ read → fault read ≡ None → IsReadNet (width_written text) text (net_or_zero read)
    by None r e = absurd (none e)
    by (Some net) r e = net_ok (width_written text) text net r

network_is : (t : Tree) (text : List ℕ) → out-Tree t ≡ tree.Text text → IsReadNet (width_written text) text (net_of text) → IsNetwork t (net_of (words_of t))
network_is t text r ok = subst (λ x. IsNetwork t (net_of (unwrap_or (text_in x) []))) (sym r) (record { text = text; is = r; family = ok.family ∙ written_family text; spelled = ok.spelled })

pub vip_stands : (t : Tree) → faults_of t (kind_of.One scalars.Vip) ≡ [] → IsNetwork t (net_of (words_of t))
vip_stands t h =
    let r = text_right scalars.Vip (record { no_flag = refl; no_number = λ n. refl }) t h in
    network_is t r.0 r.1 (net_read r.0 (vip_fault (other_cause (width_written r.0) r.0)) (λ e. cc) r.2)

pub destination_stands : (t : Tree) → faults_of t (kind_of.One scalars.Destination) ≡ [] → IsNetwork t (net_of (words_of t))
destination_stands t h =
    let r = text_right scalars.Destination (record { no_flag = refl; no_number = λ n. refl }) t h in
    network_is t r.0 r.1 (net_read r.0 (network_fault (other_cause (width_written r.0) r.0)) (λ e. cc) r.2)

ip_read : (text : List ℕ) → gateway_cause text ≡ None → IsReadIp (width_written text) text (ip_of text)
ip_read text e = by (ip_in (width_written text) text) refl e
  where
    by : (read : Option Ip) → ip_in (width_written text) text ≡ read → address_or (Some BadText) read ≡ None → IsReadIp (width_written text) text (ip_or_zero read)
    by None r e = absurd cc
    by (Some ip) r e = ip_ok (width_written text) text ip r

pub gateway_stands : (t : Tree) → faults_of t (kind_of.One scalars.Gateway) ≡ [] → IsAddress t (ip_of (words_of t))
gateway_stands t h =
    let r = text_right scalars.Gateway (record { no_flag = refl; no_number = λ n. refl }) t h in
    let ok = ip_read r.0 r.2 in
    subst (λ x. IsAddress t (ip_of (unwrap_or (text_in x) []))) (sym r.1) (record { text = r.0; is = r.1; family = ok.family ∙ written_family r.0; spelled = ok.spelled })

pub identifier_stands : (t : Tree) → faults_of t (kind_of.One scalars.Identifier) ≡ [] → IsIdentifier t (identifier_of (words_of t))
identifier_stands t h =
    let r = text_right scalars.Identifier (record { no_flag = refl; no_number = λ n. refl }) t h in
    let ok = by r.0 (ip4_of r.0) refl r.2 in
    subst (λ x. let ip = identifier_of (unwrap_or (text_in x) []) in (x ≡ tree.Text (ip4_text ip.0)) × (ip.0 < 2 ^ 32)) (sym r.1) (ap tree.Text ok.0, ok.1)
  where
    by : (text : List ℕ) (read : Option ℕ) → ip4_of text ≡ read → identifier_fault read ≡ None → (text ≡ ip4_text (unwrap_or read 0)) × (unwrap_or read 0 < 2 ^ 32)
    by text None r e = absurd cc
    by text (Some ip) r e = ip4_ok text ip r

-- ---- lists

pub each_map : {A B : Type 0} (P : A → B → Type 0) (f : A → B) (xs : List A) → AllByRecursion (λ x. P x (f x)) xs → Each P xs (map f xs)
each_map P f [] all = tt
each_map P f (x ∷ xs) all = (all.0, each_map P f xs all.1)

all_so : {A : Type 0} (P Q : A → Type 0) → ((x : A) → P x → Q x) → (xs : List A) → AllByRecursion P xs → AllByRecursion Q xs
all_so P Q each [] all = tt
all_so P Q each (x ∷ xs) all = (each x all.0, all_so P Q each xs all.1)

module _ {A : Type 0} (P : Tree → A → Type 0) (read : Tree → A) (item : Kind) (each : (t : Tree) → faults_of t item ≡ [] → P t (read t)) where
  items_say : (kind : Kind) (t : Tree) → item_kind kind ≡ Some item → faults_of t kind ≡ [] → Each P (items_of t) (map read (items_of t))
  items_say kind t e h = each_map P read (items_of t) (all_so (λ t. faults_of t item ≡ []) (λ t. P t (read t)) each (items_of t) (items_right kind item t e h))

  pub list_stands : (kind : Kind) → item_kind kind ≡ Some item → scalar_kind kind ≡ None → map_kind kind ≡ None → (t : Tree) → faults_of t kind ≡ [] → IsList P t (map read (items_of t))
  list_stands kind e no_scalar no_map t h = by (out-Tree t) (fine kind t h) (items_say kind t e h)
    where
      scalar_not : (fault : Scalar → Option ConfCause) → as_scalar fault (scalar_kind kind) ≡ None → ⊥
      scalar_not fault f = let no : Some WrongType ≡ None = subst (λ o. as_scalar fault o ≡ None) no_scalar f in cc

      by : (x : Tree-F Tree Pair) → IsFine kind x → Each P (items_in x) (map read (items_in x)) → (items : List Tree) × (x ≡ tree.List items) × Each P items (map read (items_in x))
      by (tree.List items) f say = (items, refl, say)
      by (tree.Bool flag) f say = absurd (scalar_not flag_fault f)
      by (tree.Int n) f say = absurd (scalar_not (λ scalar. number_fault scalar n) f)
      by (tree.Text text) f say = absurd (scalar_not (λ scalar. text_fault scalar text) f)
      by tree.Null f say = let no : here (Some WrongType) ≡ [] = subst (λ o. null_faults o ≡ []) no_map f in absurd cc
      by (tree.Map pairs) f say = let no : here (Some WrongType) ≡ [] = subst (λ o. in_map o (map entry_of pairs) ≡ []) no_map f in absurd cc

-- ---- maps

entries_there : (m : MapKind) (x : Tree-F Tree Pair) → IsFine (kind_of.Map m) x → HasEntries x (entries_in x)
entries_there m tree.Null f = refl
entries_there m (tree.Map pairs) f = refl
entries_there m (tree.Bool flag) f = absurd cc
entries_there m (tree.Int n) f = absurd cc
entries_there m (tree.Text text) f = absurd cc
entries_there m (tree.List items) f = absurd cc

pub map_stands : {A : Type 0} (P : List Pair → A → Type 0) (m : MapKind) (read : List Pair → A) → ((pairs : List Pair) → IsRight m pairs → P pairs (read pairs)) → (t : Tree) → faults_of t (kind_of.Map m) ≡ [] → IsMap P t (read (entries_of t))
map_stands P m read each t h = (entries_of t, entries_there m (out-Tree t) (fine (kind_of.Map m) t h), each (entries_of t) (map_right m t h))

-- ---- one value, or a list

pub ports_stand : (t : Tree) → faults_of t (kind_of.OneOrSeveral PORT_NAMED) ≡ [] → IsOneOrList (λ item. IsPortOf (out-Tree item)) t (one_or_list_of port_of t)
ports_stand t h = by (out-Tree t) refl (fine kind t h) (items_say (λ item. IsPortOf (out-Tree item)) port_of (kind_of.One PORT_NAMED) port_stands kind t refl h)
  where
    kind : Kind
    kind = kind_of.OneOrSeveral PORT_NAMED

    alone : (x : Tree-F Tree Pair) → out-Tree t ≡ x → IsFine (kind_of.One PORT_NAMED) x → IsPortOf (out-Tree t) (port_of t)
    alone x e f = subst (λ x. IsPortOf x (port_or (label_in x) (number_in 1 MOST_PORT_NO x))) (sym e) (port_in x f)

    by : (x : Tree-F Tree Pair) → out-Tree t ≡ x → IsFine kind x → Each (λ item. IsPortOf (out-Tree item)) (items_in x) (map port_of (items_in x)) → IsOneOrList (λ item. IsPortOf (out-Tree item)) t (one_or_list_in port_of (port_of t) x)
    by (tree.List items) e f say = (items, e, say)
    by (tree.Int n) e f say = alone (tree.Int n) e f
    by (tree.Text text) e f say = alone (tree.Text text) e f
    by (tree.Bool flag) e f say = absurd cc
    by tree.Null e f say = absurd cc
    by (tree.Map pairs) e f say = absurd cc

pub maps_stand : {A : Type 0} (P : List Pair → A → Type 0) (m : MapKind) (read : List Pair → A) → may_be_null m ≡ false → ((pairs : List Pair) → IsRight m pairs → P pairs (read pairs)) → (t : Tree) → faults_of t (kind_of.MapOrMaps m) ≡ [] → IsOneOrList (IsMap P) t (one_or_list_of (λ t. read (entries_of t)) t)
maps_stand {A = A} P m read needs each t h = by (out-Tree t) refl (fine (kind_of.MapOrMaps m) t h) (items_say (IsMap P) (λ t. read (entries_of t)) (kind_of.Map m) (map_stands P m read each) (kind_of.MapOrMaps m) t refl h)
  where
    by : (x : Tree-F Tree Pair) → out-Tree t ≡ x → IsFine (kind_of.MapOrMaps m) x → Each (IsMap P) (items_in x) (map (λ t. read (entries_of t)) (items_in x)) → IsOneOrList (IsMap P) t (one_or_list_in (λ t. read (entries_of t)) (read (entries_of t)) x)
    by (tree.List items) e f say = (items, e, say)
    by (tree.Map pairs) e f say = subst (λ x. (pairs : List Pair) × HasEntries x pairs × P pairs (read (entries_in x))) (sym e) (pairs, refl, each pairs f)
    by tree.Null e f say = let no : here (Some WrongType) ≡ [] = subst (λ may. (if may then missing_in m [] else here (Some WrongType)) ≡ []) needs f in absurd cc
    by (tree.Bool flag) e f say = absurd cc
    by (tree.Int n) e f say = absurd cc
    by (tree.Text text) e f say = absurd cc

-- ---- the number of an interface or a VLAN

-- what is right of the number that is written, where the key gives a number and where it gives a name
abbrev pub IsRightBy : ℕ → ℕ → Option ℕ → Option Tree → Type 0
IsRightBy low high None o = (is_some o ≡ true) × IfSome o (λ t. faults_of t (kind_of.Given low high) ≡ [])
IsRightBy low high (Some n) o = IfSome o (λ t. faults_of t (kind_of.One (scalars.Number n n)) ≡ [])

within_self : (low high : ℕ) (z : ℤ) (n : ℕ) → within low high z ≡ Some n → z ≡ pos n
within_self low high (negsuc z) n e = absurd cc
within_self low high (pos z) n e = by (nat_le low z && nat_le z high) e
  where
    by : (is : Bool) → (if is then Some z else None) ≡ Some n → pos z ≡ pos n
    by true e = cc
    by false e = absurd cc

given_right : (low high : ℕ) (t : Tree) → faults_of t (kind_of.Given low high) ≡ [] → (k : ℕ) × (out-Tree t ≡ tree.Int (pos k)) × (number_of low high t ≡ Some k)
given_right low high t h = by (out-Tree t) (fine (kind_of.Given low high) t h)
  where
    by : (x : Tree-F Tree Pair) → IsFine (kind_of.Given low high) x → (k : ℕ) × (x ≡ tree.Int (pos k)) × (number_in low high x ≡ Some k)
    by (tree.Int n) f = let is = within_is low high n f in (is.0, ap tree.Int is.1, ap (within low high) is.1 ∙ within_again low high is.0 is.2 is.3)
    by tree.Null f = absurd cc
    by (tree.Bool flag) f = absurd cc
    by (tree.Text text) f = absurd cc
    by (tree.List items) f = absurd cc
    by (tree.Map pairs) f = absurd cc

same_given : (n : ℕ) (o : Option Tree) → IfSome o (λ t. faults_of t (kind_of.One (scalars.Number n n)) ≡ []) → IfSome o (λ t. IsNumber t n)
same_given n None h = tt
same_given n (Some t) h = let r = number_right n n t h in let same : r.0 ≡ n = omega (arith, r.2, r.3) in r.1 ∙ ap (λ k. tree.Int (pos k)) same

pub numbered_stands : (low high : ℕ) (k : Key) (number : Option ℕ) → number_or_name low high k ≡ Ok number → (o : Option Tree) → IsRightBy low high number o → IsNumbered k o (unwrap_or (own_number low high k o) 1)
numbered_stands low high (key.Int z) number e o h = by (within low high z) refl e
  where
    by : (read : Option ℕ) → within low high z ≡ read → if_number read ≡ Ok number → (z ≡ pos (unwrap_or read 1)) × IfSome o (λ t. IsNumber t (unwrap_or read 1))
    by None r e = absurd cc
    by (Some n) r e = let is : number ≡ Some n = cc in (within_self low high z n r, same_given n o (subst (λ number. IsRightBy low high number o) is h))
numbered_stands low high (key.Text text) number e o h = by (is_name text) e
  where
    some : (o : Option Tree) → IsRightBy low high None o → IsSomeAnd o (λ t. IsNumber t (unwrap_or (option_and_then (number_of low high) o) 1))
    some None h = absurd cc
    some (Some t) h = let r = given_right low high t h.1 in r.1 ∙ ap (λ o. tree.Int (pos (unwrap_or o 1))) (sym r.2)

    by : (is : Bool) → (if is then Ok None else Err OutOfRange) ≡ Ok number → IsSomeAnd o (λ t. IsNumber t (unwrap_or (option_and_then (number_of low high) o) 1))
    by true e = let is : number ≡ None = cc in some o (subst (λ number. IsRightBy low high number o) is h)
    by false e = absurd cc

pub numbered_found : (low high : ℕ) (inner : Option ℕ → MapKind) (k : Key) (kind : Kind) → numbered low high inner k ≡ Ok kind → (number : Option ℕ) × (number_or_name low high k ≡ Ok number) × (kind ≡ kind_of.Map (inner number))
numbered_found low high inner k kind e = by (number_or_name low high k) refl e
  where
    by : (found : Result (Option ℕ) ConfCause) → number_or_name low high k ≡ found → as_map inner found ≡ Ok kind → (number : Option ℕ) × (number_or_name low high k ≡ Ok number) × (kind ≡ kind_of.Map (inner number))
    by (Err cause) is e = absurd cc
    by (Ok number) is e = (number, is, cc)
