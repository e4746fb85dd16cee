-- The limits on entries and outputs of ACLs, attachment by attachment.
use Rattle.std.specs.Prelude.{◌≡◌, ℕ, ◌+◌, ◌<◌, ◌==◌, not, Bool, true, false, cond, List, [], ◌∷◌, ◌++◌, length, map, filter, Some, Contains, sum_by, slice_get}
use Rattle.std.specs.List.{AllByRecursion, list_any}
use Rattle.std.proofs.Common.{refl, sym, ap, ◌∙◌, subst, arith, inl, inr, true≢false}
use Rattle.std.proofs.lemmas.List.Sums.{sum_by-cons}
use Rattle.conf_types.specs.declared.acl.Rule.{Rule}
use Rattle.conf_types.specs.declared.datapath.Dp.{Dp}
use Rattle.conf_types.specs.declared.datapath.Port.{Port}
use Rattle.conf_types.specs.declared.vlan.Vlan.{Vlan}
use Rattle.conf_types.specs.Attached.{rules_of, is_named, names_in}
use Rattle.conf_types.specs.Configuration.{Configuration}
use Rattle.conf_types.specs.Lists.{EachBefore}
use Rattle.conf_types.specs.Membership.{is_edge_member, has_edge_member}
use Rattle.conf_types.specs.Valid.{ports_named, attached}
use Rattle.law_checks.proofs.KeptLimits.{into_filtered}
use Rattle.law_checks.proofs.Links.{not_empty}
use Rattle.law_checks.proofs.Members.{IsIn, of_all, all_by, some_of, any_by, in_front, behind, of_joined, in_mapped, of_mapped, of_filtered, before_mapped, before_joined}
use Rattle.law_rules.specs.Counted.{IsNumberOf}
use Rattle.law_rules.specs.Limits.{AreTold, Attachment, OnPort, OnVlan, IsAttached, IsAclEntry, NamesPort, IsAclOutput}
use Rattle.law_rules.proofs.Counts.{contains, is_in, as_number, same_number, number_passing, number_of_pairs, number_below, number_at_places}
use Rattle.law_rules.proofs.PortLimits.{ports_differ}

-- ---- lists

filter_mapped : {A B : Type 0} (t : B → Bool) (g : A → B) (xs : List A) → filter t (map g xs) ≡ map g (filter (λ x. t (g x)) xs)
filter_mapped t g [] = refl
filter_mapped {A = A} {B = B} t g (x ∷ xs) = by (t (g x)) (filter_mapped t g xs)
  where
    by : (b : Bool) → filter t (map g xs) ≡ map g (filter (λ x. t (g x)) xs) → cond b (g x ∷ filter t (map g xs)) (filter t (map g xs)) ≡ map g (cond b (x ∷ filter (λ x. t (g x)) xs) (filter (λ x. t (g x)) xs))
    by true more = ap (λ ys. g x ∷ ys) more
    by false more = more

map_joined : {A B : Type 0} (g : A → B) (xs ys : List A) → map g (xs ++ ys) ≡ map g xs ++ map g ys
map_joined g [] ys = refl
map_joined g (x ∷ xs) ys = ap (λ zs. g x ∷ zs) (map_joined g xs ys)

map_mapped : {A B C : Type 0} (f : B → C) (g : A → B) (xs : List A) → map f (map g xs) ≡ map (λ x. f (g x)) xs
map_mapped f g [] = refl
map_mapped f g (x ∷ xs) = ap (λ zs. f (g x) ∷ zs) (map_mapped f g xs)

pub sum_mapped : {A B : Type 0} (f : B → ℕ) (g : A → B) (xs : List A) → sum_by f (map g xs) ≡ sum_by (λ x. f (g x)) xs
sum_mapped f g [] = refl
sum_mapped f g (x ∷ xs) = sum_by-cons f (g x) (map g xs) ∙ ap (λ n. f (g x) + n) (sum_mapped f g xs) ∙ sym (sum_by-cons (λ y. f (g y)) x xs)

before_filtered : {A : Type 0} (R : A → A → Type 0) (t : A → Bool) (xs : List A) → EachBefore R xs → EachBefore R (filter t xs)
before_filtered R t [] r = tt
before_filtered {A = A} R t (x ∷ xs) r = by (t x) (before_filtered R t xs r.1)
  where
    by : (b : Bool) → EachBefore R (filter t xs) → EachBefore R (cond b (x ∷ filter t xs) (filter t xs))
    by true more = (all_by (R x) (filter t xs) (λ y i. of_all (R x) xs r.0 y (of_filtered t xs y i).0), more)
    by false more = more

is_some_list : {A : Type 0} (xs : List A) → not (length xs == 0) ≡ true → xs ≡ [] → ⊥
is_some_list [] is e = true≢false (sym is)
is_some_list (x ∷ xs) is e = absurd cc

-- ---- attachments, each with its names

module _ (conf : Configuration) (told : AreTold conf) (d : Dp) (c : Contains conf.dps d) where
  Kept : Type 0
  Kept = Attachment × List (List ℕ)

  on_port : Port → Attachment × List (List ℕ)
  on_port p = (OnPort p.no, p.acls)

  on_vlan : Vlan → Attachment × List (List ℕ)
  on_vlan v = (OnVlan v.vid, v.acls)

  with_members : List Vlan
  with_members = filter (λ v. has_edge_member d v.vid) conf.vlans

  names : Attachment × List (List ℕ) → List (List ℕ)
  names a = a.1

  has_names : Attachment × List (List ℕ) → Bool
  has_names a = not (length (names a) == 0)

  places : List (Attachment × List (List ℕ))
  places = map on_port d.ports ++ map on_vlan with_members

  kept : List (Attachment × List (List ℕ))
  kept = filter has_names places

  rules_at : Attachment × List (List ℕ) → List Rule
  rules_at a = rules_of conf (names a)

  attached_is : attached conf d ≡ map rules_at kept
  unfolding on_port on_vlan with_members names has_names places kept rules_at
  attached_is =
      let joined : map (λ p. p.acls) d.ports ++ map (λ v. v.acls) with_members ≡ map names places = ap (λ l. l ++ map (λ v. v.acls) with_members) (sym (map_mapped names on_port d.ports)) ∙ ap (λ l. map names (map on_port d.ports) ++ l) (sym (map_mapped names on_vlan with_members)) ∙ sym (map_joined names (map on_port d.ports) (map on_vlan with_members)) in
      ap (λ l. map (rules_of conf) (filter (λ names. not (length names == 0)) l)) joined ∙ ap (map (rules_of conf)) (filter_mapped (λ names. not (length names == 0)) names places) ∙ map_mapped (rules_of conf) names kept

  sum_of : (f : List Rule → ℕ) → sum_by f (attached conf d) ≡ sum_by (λ a. f (rules_at a)) kept
  sum_of f = ap (sum_by f) attached_is ∙ sum_mapped f rules_at kept

  -- no two have one key
  port_in : Attachment → ℕ
  port_in (OnPort n) = n
  port_in (OnVlan n) = 0

  vlan_in : Attachment → ℕ
  vlan_in (OnPort n) = 0
  vlan_in (OnVlan n) = n

  is_port : Attachment → Bool
  is_port (OnPort n) = true
  is_port (OnVlan n) = false

  keys_differ : EachBefore (λ a b. a.0 ≡ b.0 → ⊥) kept
  unfolding on_port on_vlan with_members places kept port_in vlan_in is_port
  keys_differ =
      before_filtered (λ a b. a.0 ≡ b.0 → ⊥) has_names places
      (before_joined (λ a b. a.0 ≡ b.0 → ⊥) (map on_port d.ports) (map on_vlan with_members)
      (before_mapped (λ a b. a.0 ≡ b.0 → ⊥) on_port d.ports (differ (λ (p : Port). p.no) (λ p q. OnPort p.no ≡ OnPort q.no → ⊥) d.ports (λ p q apart e. apart (ap port_in e)) (ports_differ conf told d c)))
      (before_mapped (λ a b. a.0 ≡ b.0 → ⊥) on_vlan with_members (before_filtered (λ v w. OnVlan v.vid ≡ OnVlan w.vid → ⊥) (λ v. has_edge_member d v.vid) conf.vlans (differ (λ (v : Vlan). v.vid) (λ v w. OnVlan v.vid ≡ OnVlan w.vid → ⊥) conf.vlans (λ v w apart e. apart (ap vlan_in e)) told.vlans)))
      (all_by (λ a. AllByRecursion (λ b. a.0 ≡ b.0 → ⊥) (map on_vlan with_members)) (map on_port d.ports) (λ a i. all_by (λ b. a.0 ≡ b.0 → ⊥) (map on_vlan with_members) (λ b j e. let m = of_mapped on_port d.ports a i in let n = of_mapped on_vlan with_members b j in true≢false (ap (λ x. is_port x.0) m.2 ∙ ap is_port e ∙ sym (ap (λ x. is_port x.0) n.2))))))
    where
      differ : {A : Type 0} (key : A → ℕ) (R : A → A → Type 0) (xs : List A) → ((x y : A) → (key x ≡ key y → ⊥) → R x y) → EachBefore (λ x y. key x ≡ key y → ⊥) xs → EachBefore R xs
      differ key R [] h r = tt
      differ key R (x ∷ xs) h r = (all_by (R x) xs (λ y i. h x y (of_all (λ y. key x ≡ key y → ⊥) xs r.0 y i)), differ key R xs h r.1)

  -- a kept one is attached, and the other way round
  is_attached : (a : Attachment × List (List ℕ)) → IsIn kept a → IsAttached conf d a.0 a.1
  unfolding on_port on_vlan with_members names has_names places kept
  is_attached a i =
      let f = of_filtered has_names places a i in
      elim (of_joined (map on_port d.ports) (map on_vlan with_members) a f.0) [
        | inl j ↦
            let m = of_mapped on_port d.ports a j in
            subst (λ a. IsAttached conf d a.0 a.1) m.2 (m.0, contains d.ports m.0 m.1, refl, refl, is_some_list m.0.acls (ap has_names m.2 ∙ f.1))
        | inr j ↦
            let m = of_mapped on_vlan with_members a j in
            let v = of_filtered (λ v. has_edge_member d v.vid) conf.vlans m.0 m.1 in
            let q = some_of (λ q. is_edge_member q m.0.vid) d.ports v.1 in
            subst (λ a. IsAttached conf d a.0 a.1) m.2 (m.0, contains conf.vlans m.0 v.0, refl, refl, is_some_list m.0.acls (ap has_names m.2 ∙ f.1), (q.0, contains d.ports q.0 q.1, q.2))
      ]

  of_attached : (at : Attachment) (acls : List (List ℕ)) → IsAttached conf d at acls → IsIn kept (at, acls)
  unfolding on_port on_vlan with_members names has_names places kept
  of_attached (OnPort n) acls (p, i, number, is, some) =
      let pair : on_port p ≡ (OnPort n, acls) = ap (λ n. (OnPort n, p.acls)) number ∙ ap (λ l. (OnPort n, l)) is in
      into_filtered has_names places (OnPort n, acls) (in_front (map on_port d.ports) (map on_vlan with_members) (OnPort n, acls) (subst (IsIn (map on_port d.ports)) pair (in_mapped on_port d.ports p (is_in d.ports p i)))) (not_empty acls some)
  of_attached (OnVlan n) acls (v, i, number, is, some, (q, j, edge)) =
      let pair : on_vlan v ≡ (OnVlan n, acls) = ap (λ n. (OnVlan n, v.acls)) number ∙ ap (λ l. (OnVlan n, l)) is in
      let has : has_edge_member d v.vid ≡ true = any_by (λ q. is_edge_member q v.vid) d.ports q (is_in d.ports q j) (ap (is_edge_member q) number ∙ edge) in
      into_filtered has_names places (OnVlan n, acls) (behind (map on_port d.ports) (map on_vlan with_members) (OnVlan n, acls) (subst (IsIn (map on_vlan with_members)) pair (in_mapped on_vlan with_members v (into_filtered (λ v. has_edge_member d v.vid) conf.vlans v (is_in conf.vlans v i) has)))) (not_empty acls some)

  -- ---- the two counts

  pub entry_pairs : IsNumberOf (IsAclEntry conf d) (sum_by (λ rules. length rules + 1) (attached conf d))
  unfolding names rules_at
  entry_pairs =
      as_number (IsAclEntry conf d) (sum_by (λ rules. length rules + 1) (attached conf d)) (sum_by (λ a. length (rules_at a) + 1) kept) (sum_of (λ rules. length rules + 1))
      (same_number _ (IsAclEntry conf d) (sum_by (λ a. length (rules_at a) + 1) kept)
      (λ q p. (p.0.1, subst (λ at. IsAttached conf d at p.0.1) p.2 (is_attached p.0 p.1), omega (arith, p.3)))
      (λ q p. ((q.0, p.0), of_attached q.0 p.0 p.1, refl, omega (arith, p.2)))
      (number_of_pairs (λ a. a.0) (λ a. length (rules_at a) + 1) (λ a k. k < length (rules_at a) + 1) kept keys_differ (all_by (λ a. IsNumberOf (λ k. k < length (rules_at a) + 1) (length (rules_at a) + 1)) kept (λ a i. number_below (length (rules_at a) + 1)))))

  names_ports : (rule : Rule) → IsNumberOf (NamesPort d rule) (ports_named d rule)
  names_ports rule =
      same_number _ (NamesPort d rule) (ports_named d rule)
      (λ n p. let s = some_of (λ name. is_named name p.0) (names_in rule) p.3 in (p.0, contains d.ports p.0 p.1, p.2, (s.0, contains (names_in rule) s.0 s.1, s.2)))
      (λ n p. (p.0, is_in d.ports p.0 p.1, p.2, any_by (λ name. is_named name p.0) (names_in rule) p.3.0 (is_in (names_in rule) p.3.0 p.3.1) p.3.2))
      (number_passing (λ (p : Port). p.no) (λ p. list_any (λ name. is_named name p) (names_in rule)) d.ports (ports_differ conf told d c))

  abbrev NamedAt : List Rule → ℕ × ℕ → Type 0
  NamedAt rules pair = (rule : Rule) × (slice_get rules pair.0 ≡ Some rule) × NamesPort d rule pair.1

  pub output_triples : IsNumberOf (IsAclOutput conf d) (sum_by (λ rules. sum_by (ports_named d) rules) (attached conf d))
  unfolding names rules_at
  output_triples =
      as_number (IsAclOutput conf d) (sum_by (λ rules. sum_by (ports_named d) rules) (attached conf d)) (sum_by (λ a. sum_by (ports_named d) (rules_at a)) kept) (sum_of (λ rules. sum_by (ports_named d) rules))
      (same_number _ (IsAclOutput conf d) (sum_by (λ a. sum_by (ports_named d) (rules_at a)) kept)
      (λ q p. (p.0.1, subst (λ at. IsAttached conf d at p.0.1) p.2 (is_attached p.0 p.1), p.3))
      (λ q p. ((q.0, p.0), of_attached q.0 p.0 p.1, refl, p.2))
      (number_of_pairs (λ a. a.0) (λ a. sum_by (ports_named d) (rules_at a)) (λ a. NamedAt (rules_at a)) kept keys_differ
      (all_by (λ a. IsNumberOf (NamedAt (rules_at a)) (sum_by (ports_named d) (rules_at a))) kept (λ a i. number_at_places (ports_named d) (NamesPort d) (rules_at a) (all_by (λ rule. IsNumberOf (NamesPort d rule) (ports_named d rule)) (rules_at a) (λ rule j. names_ports rule))))))
