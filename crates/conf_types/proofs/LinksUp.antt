-- The links that are listed are those that are up, each once.
use Rattle.std.proofs.Common.{◌≡◌, ◌∙◌, ◌⊎◌, ℕ, ◌<◌, ◌==◌, ◌&&◌, Bool, true, false, cond, Option, Some, None, List, refl, inl, inr, sym, ap, subst, arith, true≢false}
use Rattle.std.specs.Prelude.{Contains, IfSome, IsSomeAnd, nat_lt, option_and_then}
use Rattle.std.specs.List.{AllByRecursion}
use Rattle.std.specs.Option.{option_map_or}
use Rattle.std.proofs.lemmas.Bool.{eqb-true, eq-eqb, ltb-true, lt-ltb, and_parts, and_from, cases_order}
use Rattle.std.proofs.lemmas.List.Folds.{Any-from_list_any, list_any_at}
use Rattle.std.proofs.lemmas.Option.{cond_some, none-some}
use Rattle.net_base.specs.declared.numbers.DpId.{DpId}
use Rattle.net_base.specs.declared.stack.StackLink.{StackLink}
use Rattle.conf_types.specs.declared.datapath.Dp.{Dp}
use Rattle.conf_types.specs.declared.datapath.Port.{Port}
use Rattle.conf_types.specs.declared.datapath.StackEnd.{StackEnd}
use Rattle.conf_types.specs.declared.state.UpRec.{UpRec}
use Rattle.conf_types.specs.Configuration.{Configuration, dp_with, port_with, port_at}
use Rattle.conf_types.specs.Links.{is_up, is_live, is_far_live, link_from, links_of, links, IsEndUp, IsLinkUp, first_end, last_end, turned}
use Rattle.conf_types.specs.Lists.{EachBefore, AreDistinct}
use Rattle.conf_types.specs.Valid.{IsValid, IsDatapath, IsStackPort}
use Rattle.conf_types.proofs.Found.{of_all, found, finds}
use Rattle.conf_types.proofs.Listed.{in_flat_map, into_flat_map, in_filter_map, into_filter_map, of_flat_map, of_filter_map, weaker}
use Rattle.conf_types.proofs.Reached.{same_id}

-- ---- the ports that are up

up_from_test : (ups : List UpRec) (dp : DpId) (number : ℕ) → is_up ups dp number ≡ true → Contains ups (record { dp = dp; port = number })
up_from_test ups dp number is =
    let some = Any-from_list_any (λ (up : UpRec). up.dp.0 == dp.0 && up.port == number) ups is in
    let up : UpRec = some.1 in
    let parts = and_parts (up.dp.0 == dp.0) (up.port == number) some.4 in
    let same : up ≡ record { dp = dp; port = number } = λ i. record { dp = same_id up.dp dp (eqb-true up.dp.0 dp.0 parts.0) i; port = eqb-true up.port number parts.1 i } in
    subst (Contains ups) same (some.0, some.2, some.3)

test_from_up : (ups : List UpRec) (dp : DpId) (number : ℕ) → Contains ups (record { dp = dp; port = number }) → is_up ups dp number ≡ true
test_from_up ups dp number c =
    let up : UpRec = record { dp = dp; port = number } in
    list_any_at (λ (up : UpRec). up.dp.0 == dp.0 && up.port == number) ups c.0 up c.1
    (ap (λ (up : UpRec). up.dp.0 == dp.0 && up.port == number) c.2 ∙ and_from (dp.0 == dp.0) (number == number) (eq-eqb dp.0 dp.0 refl) (eq-eqb number number refl))

module _ (conf : Configuration) (ups : List UpRec) where
  -- a link that begins at an interface
  abbrev made : Dp → Port → StackEnd → StackLink
  made d p far = record { a = d.id; a_port = p.no; b = far.dp; b_port = far.port }

  abbrev begins_here : Dp → Port → StackEnd → Bool
  begins_here d p far = nat_lt d.id.0 far.dp.0 && (is_live ups d.id p && is_far_live conf ups far)

  record Begins (d : Dp) (p : Port) (l : StackLink) : Type 0 where
    far : StackEnd
    leads : p.stack ≡ Some far
    is : made d p far ≡ l
    less : d.id.0 < far.dp.0
    live : is_live ups d.id p ≡ true
    far_live : is_far_live conf ups far ≡ true

  begun : (d : Dp) (p : Port) (l : StackLink) → link_from conf ups d p ≡ Some l → Begins d p l
  begun d p l e = by p.stack refl e
    where
      by : (o : Option StackEnd) → p.stack ≡ o → option_and_then (λ far. cond (begins_here d p far) (Some (made d p far)) None) o ≡ Some l → Begins d p l
      by None none e = absurd (none-some l e)
      by (Some far) some e =
          let parts = cond_some (begins_here d p far) (made d p far) l e in
          let begin = and_parts (nat_lt d.id.0 far.dp.0) (is_live ups d.id p && is_far_live conf ups far) parts.0 in
          let both = and_parts (is_live ups d.id p) (is_far_live conf ups far) begin.1 in
          record { far = far; leads = some; is = parts.1; less = ltb-true d.id.0 far.dp.0 begin.0; live = both.0; far_live = both.1 }

  begin_of : (d : Dp) (p : Port) (l : StackLink) → link_from conf ups d p ≡ Some l → (l.a ≡ d.id) × (l.a_port ≡ p.no)
  begin_of d p l e = let b = begun d p l e in (sym (ap (λ (k : StackLink). k.a) b.is), sym (ap (λ (k : StackLink). k.a_port) b.is))

  module _ (valid : IsValid conf) where
    datapath_is : (d : Dp) → Contains conf.dps d → IsDatapath conf d
    datapath_is d c = of_all (IsDatapath conf) conf.dps d valid.datapaths.each c

    -- an interface is found by its numbers
    port_is_at : (d : Dp) (p : Port) → Contains conf.dps d → Contains d.ports p → port_at conf d.id p.no ≡ Some p
    port_is_at d p in_dps in_ports =
        ap (λ o. option_and_then (λ (e : Dp). port_with e.ports p.no) o) (finds (λ (e : Dp). e.id.0) (λ a b. a.id.0 ≡ b.id.0 → ⊥) (λ a b h. h) conf.dps d valid.datapaths.ids in_dps)
        ∙ finds (λ (q : Port). q.no) (λ a b. a.no < b.no) (λ a b less same. omega (arith, less, same)) d.ports p (datapath_is d in_dps).in_order in_ports

    stack_port : (d : Dp) → Contains conf.dps d → (p : Port) → Contains d.ports p → (far : StackEnd) → p.stack ≡ Some far → IsStackPort conf d p far
    stack_port d in_dps p in_ports far leads =
        subst (λ o. IfSome o (IsStackPort conf d p)) leads
        (of_all (λ p. IfSome p.stack (IsStackPort conf d p)) d.ports p (of_all (λ d. AllByRecursion (λ p. IfSome p.stack (IsStackPort conf d p)) d.ports) conf.dps d valid.stacks.each in_dps) in_ports)

    -- ---- what is listed is up

    far_up : (d : Dp) → Contains conf.dps d → (p : Port) → Contains d.ports p → (far : StackEnd) → p.stack ≡ Some far → is_far_live conf ups far ≡ true → IsEndUp conf ups far (record { dp = d.id; port = p.no })
    far_up d in_dps p in_ports far leads live = by (dp_with conf.dps far.dp) refl (stack_port d in_dps p in_ports far leads).far_end live
      where
        at : (e : Dp) → dp_with conf.dps far.dp ≡ Some e → (o : Option Port) → port_with e.ports far.port ≡ o → IsSomeAnd o (λ q. q.stack ≡ Some (record { dp = d.id; port = p.no })) → option_map_or (λ q. is_live ups far.dp q) o false ≡ true
            → IsEndUp conf ups far (record { dp = d.id; port = p.no })
        at e is_dp None is_port back live = absurd (true≢false (sym live))
        at e is_dp (Some q) is_port back live =
            let of_dp = found (λ (f : Dp). f.id.0 == far.dp.0) conf.dps e is_dp in
            let of_port = found (λ (r : Port). r.no == far.port) e.ports q is_port in
            let both = and_parts q.enabled (is_up ups far.dp q.no) live in
            let number : q.no ≡ far.port = eqb-true q.no far.port of_port.1 in
            record {
              dp = e;
              port = q;
              is_dp = of_dp.0;
              dp_is = same_id e.id far.dp (eqb-true e.id.0 far.dp.0 of_dp.1);
              is_port = of_port.0;
              port_is = number;
              enabled = both.0;
              up = subst (λ n. Contains ups (record { dp = far.dp; port = n })) number (up_from_test ups far.dp q.no both.1);
              leads = back;
            }

        by : (o : Option Dp) → dp_with conf.dps far.dp ≡ o → IsSomeAnd (option_and_then (λ (e : Dp). port_with e.ports far.port) o) (λ q. q.stack ≡ Some (record { dp = d.id; port = p.no })) → option_map_or (λ q. is_live ups far.dp q) (option_and_then (λ (e : Dp). port_with e.ports far.port) o) false ≡ true
            → IsEndUp conf ups far (record { dp = d.id; port = p.no })
        by None is_dp back live = absurd (true≢false (sym live))
        by (Some e) is_dp back live = at e is_dp (port_with e.ports far.port) refl back live

    record IsListed (l : StackLink) : Type 0 where
      up : IsLinkUp conf ups l
      less : l.a.0 < l.b.0

    is_listed : (l : StackLink) → Contains (links conf ups) l → IsListed l
    is_listed l c =
        let on = in_flat_map (links_of conf ups) conf.dps l c in
        let d : Dp = on.0 in
        let from = in_filter_map (link_from conf ups d) d.ports l on.2 in
        let p : Port = from.0 in
        let b : Begins d p l = begun d p l from.2 in
        let both = and_parts p.enabled (is_up ups d.id p.no) b.live in
        subst IsListed b.is (record {
          up = record {
            forth = record {
              dp = d;
              port = p;
              is_dp = on.1;
              dp_is = refl;
              is_port = from.1;
              port_is = refl;
              enabled = both.0;
              up = up_from_test ups d.id p.no both.1;
              leads = b.leads;
            };
            back = far_up d on.1 p from.1 b.far b.leads b.far_live;
          };
          less = b.less;
        })

    pub listed_is_up : (l : StackLink) → Contains (links conf ups) l → IsLinkUp conf ups l
    listed_is_up l c = (is_listed l c).up

    pub listed_begins_at_the_lesser : (l : StackLink) → Contains (links conf ups) l → l.a.0 < l.b.0
    listed_begins_at_the_lesser l c = (is_listed l c).less

    -- ---- what is up is listed

    end_live : (here far : StackEnd) (e : IsEndUp conf ups here far) → is_live ups here.dp e.port ≡ true
    end_live here far e = and_from e.port.enabled (is_up ups here.dp e.port.no) e.enabled (test_from_up ups here.dp e.port.no (subst (λ n. Contains ups (record { dp = here.dp; port = n })) (sym e.port_is) e.up))

    pub end_found : (here far : StackEnd) (e : IsEndUp conf ups here far) → port_at conf here.dp here.port ≡ Some e.port
    end_found here far e = subst (λ x. port_at conf x here.port ≡ Some e.port) e.dp_is (subst (λ n. port_at conf e.dp.id n ≡ Some e.port) e.port_is (port_is_at e.dp e.port e.is_dp e.is_port))

    stands : (l : StackLink) → IsLinkUp conf ups l → l.a.0 < l.b.0 → Contains (links conf ups) l
    stands l is less =
        let near = is.forth in
        let far = is.back in
        let d : Dp = near.dp in
        let p : Port = near.port in
        let far_live : is_far_live conf ups (last_end l) ≡ true = ap (λ (o : Option Port). option_map_or (λ q. is_live ups l.b q) o false) (end_found (last_end l) (first_end l) far) ∙ end_live (last_end l) (first_end l) far in
        let live : is_live ups d.id p ≡ true = subst (λ x. is_live ups x p ≡ true) (sym near.dp_is) (end_live (first_end l) (last_end l) near) in
        let before : nat_lt d.id.0 l.b.0 ≡ true = subst (λ (x : DpId). nat_lt x.0 l.b.0 ≡ true) (sym near.dp_is) (lt-ltb l.a.0 l.b.0 less) in
        let begins : begins_here d p (last_end l) ≡ true = and_from (nat_lt d.id.0 l.b.0) (is_live ups d.id p && is_far_live conf ups (last_end l)) before (and_from (is_live ups d.id p) (is_far_live conf ups (last_end l)) live far_live) in
        let same : made d p (last_end l) ≡ l = λ i. record { a = near.dp_is i; a_port = near.port_is i; b = l.b; b_port = l.b_port } in
        let is_made : link_from conf ups d p ≡ Some l =
        ap (λ (o : Option StackEnd). option_and_then (λ far. cond (begins_here d p far) (Some (made d p far)) None) o) near.leads
        ∙ ap (λ b. cond b (Some (made d p (last_end l))) None) begins ∙ ap Some same in
        into_flat_map (links_of conf ups) conf.dps d l near.is_dp (into_filter_map (link_from conf ups d) d.ports p l near.is_port is_made)

    pub up_is_listed : (l : StackLink) → IsLinkUp conf ups l → Contains (links conf ups) l ⊎ Contains (links conf ups) (turned l)
    up_is_listed l is =
        elim (cases_order l.a.0 l.b.0) [
          | inl same ↦ let near = is.forth in absurd ((stack_port near.dp near.is_dp near.port near.is_port (last_end l) near.leads).elsewhere (ap (λ (x : DpId). x.0) near.dp_is ∙ same))
          | inr (inl less) ↦ inl (stands l is less)
          | inr (inr more) ↦ inr (stands (turned l) (record { forth = is.back; back = is.forth }) more)
        ]

    -- ---- no two begin at one interface

    pub begin_apart : EachBefore (λ (l m : StackLink). l.a ≡ m.a → l.a_port ≡ m.a_port → ⊥) (links conf ups)
    begin_apart =
        of_flat_map (λ (d e : Dp). d.id.0 ≡ e.id.0 → ⊥) (λ (l m : StackLink). l.a ≡ m.a → l.a_port ≡ m.a_port → ⊥) (links_of conf ups) conf.dps valid.datapaths.ids
        (λ d c. of_filter_map (λ (p q : Port). p.no < q.no) (λ (l m : StackLink). l.a ≡ m.a → l.a_port ≡ m.a_port → ⊥) (link_from conf ups d) d.ports (datapath_is d c).in_order
        (λ p q l m less is_l is_m same same_port. let at_l = (begin_of d p l is_l).1 in let at_m = (begin_of d q m is_m).1 in omega (arith, less, same_port, at_l, at_m)))
        (λ d e l m other in_d in_e same same_port.
        let of_l = in_filter_map (link_from conf ups d) d.ports l in_d in
        let of_m = in_filter_map (link_from conf ups e) e.ports m in_e in
        other (ap (λ (x : DpId). x.0) (sym (begin_of d of_l.0 l of_l.2).0 ∙ same ∙ (begin_of e of_m.0 m of_m.2).0)))

    pub listed_once : AreDistinct (links conf ups)
    listed_once =
        weaker (λ l. Unit {0}) (λ l m. l.a ≡ m.a → l.a_port ≡ m.a_port → ⊥) (λ l m. l ≡ m → ⊥) (λ l m x y apart same. apart (ap (λ (k : StackLink). k.a) same) (ap (λ (k : StackLink). k.a_port) same)) (links conf ups) (λ l c. tt) begin_apart
