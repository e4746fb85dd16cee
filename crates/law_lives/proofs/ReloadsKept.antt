-- Where all hosts are valid by a configuration, and none is to be forgotten, all are kept by it, in order.
use Rattle.std.proofs.Common.{◌≡◌, ℕ, ◌<◌, ◌≤◌, ◌==◌, ◌&&◌, ◌||◌, ◌++◌, Bool, true, false, cond, not, nat_le, Option, Some, None, List, [], ◌∷◌, length, filter, find, count_by, inl, inr, refl, sym, ap, ◌∙◌, subst, arith, append_assoc, append-nil, length-append, eq-eqb, IsTrue, IsSomeAnd, if◌then◌else◌}
use Rattle.std.specs.List.{AllByRecursion, list_any}
use Rattle.std.specs.Option.{option_and_then, option_map_or}
use Rattle.std.proofs.lemmas.Bool.{and_from, and_parts, cases_Bool, eqb-true}
use Rattle.std.proofs.lemmas.Bool.Decides.{nat_tests}
use Rattle.std.proofs.lemmas.List.Sums.{sum_by-append, sum_by-cons}
use Rattle.net_base.specs.Address.{is_group}
use Rattle.net_base.specs.declared.numbers.DpId.{DpId}
use Rattle.conf_types.specs.declared.datapath.Dp.{Dp}
use Rattle.conf_types.specs.declared.datapath.Port.{Port}
use Rattle.conf_types.specs.declared.state.HostRec.{HostRec}
use Rattle.conf_types.specs.declared.state.UpRec.{UpRec}
use Rattle.conf_types.specs.declared.vlan.Vlan.{Vlan}
use Rattle.conf_types.specs.Configuration.{Configuration, dp_with, port_at, port_with, vlan_with}
use Rattle.conf_types.specs.Groups.{group_of}
use Rattle.conf_types.specs.Links.{is_up}
use Rattle.conf_types.specs.Lists.{EachBefore, is_same}
use Rattle.conf_types.specs.Membership.{is_accepting, is_edge_member}
use Rattle.conf_types.specs.State.{IsHost, IsSameHost, IsValidState, State, is_gateway_address, is_host_at, is_host_in, is_permanent, is_port_full, is_to_forget, is_vlan_full, most_hosts}
use Rattle.conf_types.proofs.Reached.{same_id}
use Rattle.host_learn.specs.Kept.{finds_room, last_of_each, may_stay, with_room}
use Rattle.host_learn.specs.Learning.{is_full_at, is_full_in, is_heard, is_host, is_occupied, takes_in}
use Rattle.host_learn.proofs.Lists.{all_map, found_passes}
use Rattle.law_checks.proofs.Orders.{same_texts}

-- ---- lists

not_so : (b : Bool) → (b ≡ true → ⊥) → b ≡ false
not_so true off = absurd (off refl)
not_so false off = refl

not_le : (a b : ℕ) → b < a → nat_le a b ≡ false
not_le a b less = grind (arith, nat_tests)

module _ {A : Type 0} where
  none_any : (p : A → Bool) (xs : List A) → AllByRecursion (λ x. p x ≡ true → ⊥) xs → list_any p xs ≡ false
  none_any p [] none = refl
  none_any p (x ∷ xs) none = ap (λ b. b || list_any p xs) (not_so (p x) none.0) ∙ none_any p xs none.1

  pub filter_whole : (p : A → Bool) (xs : List A) → AllByRecursion (λ x. p x ≡ true) xs → filter p xs ≡ xs
  filter_whole p [] all = refl
  filter_whole p (x ∷ xs) all = ap (λ b. cond b (x ∷ filter p xs) (filter p xs)) all.0 ∙ ap (λ ys. x ∷ ys) (filter_whole p xs all.1)

  found_all : (P : A → Type 0) (p : A → Bool) (xs : List A) (y : A) → AllByRecursion P xs → find p xs ≡ Some y → P y
  found_all P p [] y all is = absurd (cc)
  found_all P p (x ∷ xs) y all is =
      elim (cases_Bool (p x)) [
        | inl passes ↦
            let here : Some x ≡ Some y = sym (ap (λ b. cond b (Some x) (find p xs)) passes) ∙ is in
            let same : x ≡ y = cc in
            subst P same all.0
        | inr fails ↦ found_all P p xs y all.1 (sym (ap (λ b. cond b (Some x) (find p xs)) fails) ∙ is)
      ]

  all_at : (P : A → Type 0) (first : List A) (x : A) (more : List A) → AllByRecursion P (first ++ x ∷ more) → P x
  all_at P [] x more all = all.0
  all_at P (y ∷ first) x more all = all_at P first x more all.1

  before_one : (R : A → A → Type 0) (first : List A) (x : A) (more : List A) → EachBefore R (first ++ x ∷ more) → AllByRecursion (λ a. R a x) first
  before_one R [] x more before = tt
  before_one R (a ∷ first) x more before = (all_at (R a) first x more before.0, before_one R first x more before.1)

  count_less : (test : A → Bool) (first : List A) (x : A) (more : List A) → test x ≡ true → count_by test first < count_by test (first ++ x ∷ more)
  count_less test first x more counts =
      let one : ◌≡◌ {A = ℕ} (cond (test x) 1 0) 1 = ap (λ b. cond b 1 0) counts in
      omega (arith, sum_by-append (λ y. cond (test y) 1 0) first (x ∷ more), sum_by-cons (λ y. cond (test y) 1 0) x more, one)

-- ---- keys

heard_same : (conf : Configuration) (l a : HostRec) → is_heard conf l a ≡ true → IsSameHost conf l a
heard_same conf l a is =
    let whole = and_parts ((group_of conf a.dp).0 == (group_of conf l.dp).0 && a.vid == l.vid) (is_same a.mac.0 l.mac.0) is in
    let place = and_parts ((group_of conf a.dp).0 == (group_of conf l.dp).0) (a.vid == l.vid) whole.0 in
    record {
      groups = sym (eqb-true (group_of conf a.dp).0 (group_of conf l.dp).0 place.0);
      vlans = sym (eqb-true a.vid l.vid place.1);
      macs = sym (same_texts a.mac.0 l.mac.0 whole.1);
    }

last_whole : (conf : Configuration) (hosts : List HostRec) → EachBefore (λ a b. IsSameHost conf a b → ⊥) hosts → last_of_each conf hosts ≡ hosts
last_whole conf [] apart = refl
last_whole conf (h ∷ more) apart =
    ap (λ b. if b then last_of_each conf more else h ∷ last_of_each conf more)
    (none_any (is_heard conf h) more (all_map (λ b. IsSameHost conf h b → ⊥) (λ b. is_heard conf h b ≡ true → ⊥) (λ b off is. off (heard_same conf h b is)) more apart.0))
    ∙ ap (λ hs. h ∷ hs) (last_whole conf more apart.1)

-- ---- room

room_whole : (conf : Configuration) (limit : ℕ) (all : List HostRec) → ((first : List HostRec) (x : HostRec) (more : List HostRec) → all ≡ first ++ x ∷ more → finds_room conf limit first x ≡ true)
    → (kept hosts : List HostRec) → all ≡ kept ++ hosts → with_room conf limit kept hosts ≡ all
room_whole conf limit all finds kept [] is = sym (is ∙ append-nil kept)
room_whole conf limit all finds kept (x ∷ more) is =
    ap (λ b. with_room conf limit (if b then kept ++ x ∷ [] else kept) more) (finds kept x more is)
    ∙ room_whole conf limit all finds (kept ++ x ∷ []) more (is ∙ sym (append_assoc kept (x ∷ []) more))

-- where a port is, its datapath is
record Found (conf : Configuration) (dp : DpId) (number : ℕ) (p : Port) : Type 0 where
  d : Dp
  there : dp_with conf.dps dp ≡ Some d
  has : port_with d.ports number ≡ Some p

found_port : (conf : Configuration) (dp : DpId) (number : ℕ) (p : Port) → port_at conf dp number ≡ Some p → Found conf dp number p
found_port conf dp number p is = by (dp_with conf.dps dp) refl is
  where
    by : (o : Option Dp) → dp_with conf.dps dp ≡ o → option_and_then (λ d. port_with d.ports number) o ≡ Some p → Found conf dp number p
    by None found at = absurd (cc)
    by (Some d) found at = record { d = d; there = found; has = at }

own_id : (conf : Configuration) (dp : DpId) (d : Dp) → dp_with conf.dps dp ≡ Some d → d.id ≡ dp
own_id conf dp d found = same_id d.id dp (eqb-true d.id.0 dp.0 (found_passes (λ e. e.id.0 == dp.0) conf.dps d found))

placed : (o : Option Port) (test : Port → Bool) → IsSomeAnd o (λ p. IsTrue (test p)) → option_map_or test o false ≡ true
placed None test is = absurd is
placed (Some p) test is = is

module _ (conf : Configuration) (state : State) (valid : IsValidState conf state) (limit : ℕ) (most : limit ≡ most_hosts) where
  module _ (first : List HostRec) (x : HostRec) (more : List HostRec) (parts : state.hosts ≡ first ++ x ∷ more) where
    host : IsHost conf state x
    host = all_at (IsHost conf state) first x more (subst (AllByRecursion (IsHost conf state)) parts valid.hosts)

    fewer : (test : HostRec → Bool) (most : ℕ) → test x ≡ true → count_by test state.hosts ≤ most → nat_le most (count_by test first) ≡ false
    fewer test most counts within =
        let same : count_by test state.hosts ≡ count_by test (first ++ x ∷ more) = ap (count_by test) parts in
        not_le most (count_by test first) (omega (arith, count_less test first x more counts, within, same))

    not_full_at : is_full_at conf first x ≡ false
    not_full_at = by (port_at conf x.dp x.port) refl
      where
        by : (o : Option Port) → port_at conf x.dp x.port ≡ o → option_map_or (λ p. is_port_full first x.dp p) o false ≡ false
        by None found = refl
        by (Some p) found =
            let at = found_port conf x.dp x.port p found in
            let all = found_all (λ (e : Dp). AllByRecursion (λ (q : Port). count_by (is_host_at e.id q.no) state.hosts ≤ q.max_hosts) e.ports) (λ (e : Dp). e.id.0 == x.dp.0) conf.dps at.d valid.ports at.there in
            let within : count_by (is_host_at at.d.id p.no) state.hosts ≤ p.max_hosts =
            found_all (λ (q : Port). count_by (is_host_at at.d.id q.no) state.hosts ≤ q.max_hosts) (λ (q : Port). q.no == x.port) at.d.ports p all at.has in
            let number : p.no ≡ x.port = eqb-true p.no x.port (found_passes (λ (q : Port). q.no == x.port) at.d.ports p at.has) in
            fewer (is_host_at x.dp p.no) p.max_hosts (and_from (x.dp.0 == x.dp.0) (x.port == p.no) (eq-eqb x.dp.0 x.dp.0 refl) (eq-eqb x.port p.no (sym number)))
            (subst (λ (id : DpId). count_by (is_host_at id p.no) state.hosts ≤ p.max_hosts) (own_id conf x.dp at.d at.there) within)

    not_full_in : is_full_in conf first x ≡ false
    not_full_in = by (port_at conf x.dp x.port) refl host.place
      where
        in_vlan : (d : Dp) → dp_with conf.dps x.dp ≡ Some d → (o : Option Vlan) → vlan_with conf.vlans x.vid ≡ o → option_map_or (λ v. is_vlan_full conf first (group_of conf x.dp) v) o false ≡ false
        in_vlan d there None found = refl
        in_vlan d there (Some v) found =
            let all = found_all (λ (e : Dp). AllByRecursion (λ (u : Vlan). count_by (is_host_in conf (group_of conf e.id) u.vid) state.hosts ≤ u.max_hosts) conf.vlans) (λ (e : Dp). e.id.0 == x.dp.0) conf.dps d valid.vlans there in
            let within : count_by (is_host_in conf (group_of conf d.id) v.vid) state.hosts ≤ v.max_hosts =
            found_all (λ (u : Vlan). count_by (is_host_in conf (group_of conf d.id) u.vid) state.hosts ≤ u.max_hosts) (λ (u : Vlan). u.vid == x.vid) conf.vlans v all found in
            let vid : v.vid ≡ x.vid = eqb-true v.vid x.vid (found_passes (λ (u : Vlan). u.vid == x.vid) conf.vlans v found) in
            fewer (is_host_in conf (group_of conf x.dp) v.vid) v.max_hosts
            (and_from ((group_of conf x.dp).0 == (group_of conf x.dp).0) (x.vid == v.vid) (eq-eqb (group_of conf x.dp).0 (group_of conf x.dp).0 refl) (eq-eqb x.vid v.vid (sym vid)))
            (subst (λ (id : DpId). count_by (is_host_in conf (group_of conf id) v.vid) state.hosts ≤ v.max_hosts) (own_id conf x.dp d there) within)

        by : (o : Option Port) → port_at conf x.dp x.port ≡ o → IsSomeAnd o (λ p. IsTrue (is_accepting p && is_edge_member p x.vid)) → is_full_in conf first x ≡ false
        by None found place = absurd place
        by (Some p) found place = let at = found_port conf x.dp x.port p found in in_vlan at.d at.there (vlan_with conf.vlans x.vid) refl

    free : (is_permanent conf x && is_occupied first x) ≡ false
    free = by (is_permanent conf x) refl
      where
        none : is_permanent conf x ≡ true → (a : HostRec) → (is_permanent conf a ≡ true → is_host_at a.dp a.port x ≡ true → a.vid ≡ x.vid → ⊥) → (is_host_at x.dp x.port a && a.vid == x.vid) ≡ true → ⊥
        none keeps a first_stays is =
            let both = and_parts (is_host_at x.dp x.port a) (a.vid == x.vid) is in
            let place = and_parts (a.dp.0 == x.dp.0) (a.port == x.port) both.0 in
            let dp : a.dp ≡ x.dp = same_id a.dp x.dp (eqb-true a.dp.0 x.dp.0 place.0) in
            let port : a.port ≡ x.port = eqb-true a.port x.port place.1 in
            first_stays
            (ap (λ (o : Option Port). option_map_or (λ p. p.permanent_learn) o false) (ap (λ (id : DpId). port_at conf id a.port) dp ∙ ap (port_at conf x.dp) port) ∙ keeps)
            (and_from (x.dp.0 == a.dp.0) (x.port == a.port) (eq-eqb x.dp.0 a.dp.0 (ap (λ (id : DpId). id.0) (sym dp))) (eq-eqb x.port a.port (sym port)))
            (eqb-true a.vid x.vid both.1)

        by : (b : Bool) → is_permanent conf x ≡ b → (is_permanent conf x && is_occupied first x) ≡ false
        by false is = ap (λ b. b && is_occupied first x) is
        by true is =
            ap (λ b. b && is_occupied first x) is
            ∙ none_any (λ a. is_host_at x.dp x.port a && a.vid == x.vid) first
            (all_map (λ a. is_permanent conf a ≡ true → is_host_at a.dp a.port x ≡ true → a.vid ≡ x.vid → ⊥) (λ a. (is_host_at x.dp x.port a && a.vid == x.vid) ≡ true → ⊥) (none is) first
            (before_one (λ a b. is_permanent conf a ≡ true → is_host_at a.dp a.port b ≡ true → a.vid ≡ b.vid → ⊥) first x more
            (subst (EachBefore (λ a b. is_permanent conf a ≡ true → is_host_at a.dp a.port b ≡ true → a.vid ≡ b.vid → ⊥)) parts valid.permanent)))

    below : nat_le limit (length first) ≡ false
    below = not_le limit (length first) (omega (arith, length-append first (x ∷ more), ap (length {A = HostRec}) parts, most, valid.table))

    finds : finds_room conf limit first x ≡ true
    finds =
        let a : Bool = not (is_full_at conf first x) in
        let b : Bool = not (is_full_in conf first x) in
        let c : Bool = not (nat_le limit (length first)) in
        let d : Bool = not (is_permanent conf x && is_occupied first x) in
        and_from (a && b && c) d (and_from (a && b) c (and_from a b (ap not not_full_at) (ap not not_full_in)) (ap not below)) (ap not free)

  -- ---- all of them

  module _ (moment : ℕ) (timely : AllByRecursion (λ h. is_to_forget conf moment h ≡ false) state.hosts) where
    stays : (h : HostRec) → IsHost conf state h → is_to_forget conf moment h ≡ false → may_stay conf state.ups moment h ≡ true
    stays h is young =
        let takes : takes_in conf h ≡ true = placed (port_at conf h.dp h.port) (λ p. is_accepting p && is_edge_member p h.vid) is.place in
        and_from (is_host conf h && is_up state.ups h.dp h.port) (not (is_to_forget conf moment h))
        (and_from (is_host conf h) (is_up state.ups h.dp h.port)
        (and_from (takes_in conf h && not (is_group h.mac)) (not (is_gateway_address conf h.mac.0)) (and_from (takes_in conf h) (not (is_group h.mac)) takes (ap not is.individual)) (ap not is.no_gateway))
        is.up)
        (ap not young)

    all_stay : (hosts : List HostRec) → AllByRecursion (IsHost conf state) hosts → AllByRecursion (λ h. is_to_forget conf moment h ≡ false) hosts → AllByRecursion (λ h. may_stay conf state.ups moment h ≡ true) hosts
    all_stay [] is young = tt
    all_stay (h ∷ hosts) is young = (stays h is.0 young.0, all_stay hosts is.1 young.1)

    pub all_kept : with_room conf limit [] (last_of_each conf (filter (may_stay conf state.ups moment) state.hosts)) ≡ state.hosts
    all_kept =
        ap (λ hosts. with_room conf limit [] (last_of_each conf hosts)) (filter_whole (may_stay conf state.ups moment) state.hosts (all_stay state.hosts valid.hosts timely))
        ∙ ap (with_room conf limit []) (last_whole conf state.hosts valid.host_keys)
        ∙ room_whole conf limit state.hosts finds [] state.hosts refl
