-- The stack links of a datapath's group: they lead nowhere else, and they are those that were, where the ends of
-- stack links in the group are up as they were.
use Rattle.std.proofs.Common.{◌≡◌, ℕ, suc, ◌≤◌, Bool, true, false, cond, ◌==◌, ◌&&◌, nat_lt, if◌then◌else◌, List, [], ◌∷◌, ◌++◌, filter, Option, Some, None, refl, sym, ap, ◌∙◌, subst, arith, eqb-true, eq-eqb}
use Rattle.std.specs.Prelude.{Contains, IsSomeAnd, IfSome, is_some}
use Rattle.std.specs.List.{AllByRecursion, filter_map, flat_map, cons_option}
use Rattle.std.specs.Option.{option_and_then, option_map_or}
use Rattle.std.proofs.lemmas.Bool.{and_from}
use Rattle.std.proofs.lemmas.List.Elements.{filter-append}
use Rattle.std.proofs.lemmas.Option.{same_Some, none-some}
use Rattle.net_base.specs.declared.numbers.DpId.{DpId}
use Rattle.net_base.specs.declared.stack.StackLink.{StackLink}
use Rattle.conf_types.specs.declared.datapath.Dp.{Dp}
use Rattle.conf_types.specs.declared.datapath.Port.{Port}
use Rattle.conf_types.specs.declared.datapath.StackEnd.{StackEnd}
use Rattle.conf_types.specs.declared.state.UpRec.{UpRec}
use Rattle.conf_types.specs.Configuration.{Configuration, dp_with, port_with, port_at}
use Rattle.conf_types.specs.Groups.{IsDp, IsLinked, IsGroup, group_of}
use Rattle.conf_types.specs.Links.{is_up, is_live, is_far_live, link_from, links_of, links, IsEndUp, IsLinkUp}
use Rattle.conf_types.specs.Membership.{is_stack}
use Rattle.conf_types.specs.Valid.{IsValid, IsDatapath, IsStackPort}
use Rattle.packet_way.specs.Known.{stack_of}
use Rattle.law_paths.specs.Part.{IsClosed, AreAlikeIn}
use Rattle.law_runs.specs.Members.{of_all, all_by, head_of, tail_of}
use Rattle.plan_units.specs.Facts.{found, apart_or_one, one_number}
use Rattle.law_units.proofs.Hosts.{is_found}

-- ---- lists

filter_flat : {A B : Type 0} (p : B → Bool) (f : A → List B) (xs : List A) → filter p (flat_map f xs) ≡ flat_map (λ x. filter p (f x)) xs
filter_flat p f [] = refl
filter_flat p f (x ∷ xs) = filter-append p (f x) (flat_map f xs) ∙ ap (λ l. filter p (f x) ++ l) (filter_flat p f xs)

pub same_flat : {A B : Type 0} (f g : A → List B) (xs : List A) → ((x : A) → Contains xs x → f x ≡ g x) → flat_map f xs ≡ flat_map g xs
same_flat f g [] h = refl
same_flat f g (x ∷ xs) h = ap (λ l. l ++ flat_map f xs) (h x (head_of x xs)) ∙ ap (λ l. g x ++ l) (same_flat f g xs (λ y c. h y (tail_of x xs y c)))

pub same_some : {A B : Type 0} (f g : A → Option B) (xs : List A) → ((x : A) → Contains xs x → f x ≡ g x) → filter_map f xs ≡ filter_map g xs
same_some f g [] h = refl
same_some f g (x ∷ xs) h = ap (λ o. cons_option o (filter_map f xs)) (h x (head_of x xs)) ∙ ap (λ l. cons_option (g x) l) (same_some f g xs (λ y c. h y (tail_of x xs y c)))

none_kept : {A B : Type 0} (p : B → Bool) (f : A → Option B) → ((x : A) (y : B) → f x ≡ Some y → p y ≡ false) → (xs : List A) → filter p (filter_map f xs) ≡ []
none_kept p f h [] = refl
none_kept {A = A} {B = B} p f h (x ∷ xs) = by (f x) refl (none_kept p f h xs)
  where
    by : (o : Option B) → f x ≡ o → filter p (filter_map f xs) ≡ [] → filter p (cons_option o (filter_map f xs)) ≡ []
    by None is more = more
    by (Some y) is more = ap (λ b. cond b (y ∷ filter p (filter_map f xs)) (filter p (filter_map f xs))) (h x y is) ∙ more

module _ (conf : Configuration) (valid : IsValid conf) (group_law : (dp : DpId) → IsDp conf dp → IsGroup conf dp (group_of conf dp)) where
  -- ---- datapaths and ports by their numbers

  one_dp : (dp : Dp) → Contains conf.dps dp → dp_with conf.dps dp.id ≡ Some dp
  one_dp dp c =
      is_found (λ (e : Dp). e.id.0 == dp.id.0) conf.dps dp c (eq-eqb dp.id.0 dp.id.0 refl)
      (λ e ce is. let same = eqb-true e.id.0 dp.id.0 is in apart_or_one (λ (a b : Dp). a.id.0 ≡ b.id.0 → ⊥) conf.dps valid.datapaths.ids e dp ce c (λ ne. ne same) (λ ne. ne (sym same)))

  port_of : (dp : Dp) → Contains conf.dps dp → (q : Port) → Contains dp.ports q → port_at conf dp.id q.no ≡ Some q
  port_of dp c q cq =
      let rise = (of_all (IsDatapath conf) conf.dps valid.datapaths.each dp c).in_order in
      ap (option_and_then (λ (e : Dp). port_with e.ports q.no)) (one_dp dp c)
      ∙ is_found (λ (r : Port). r.no == q.no) dp.ports q cq (eq-eqb q.no q.no refl) (λ r cr is. one_number (λ (x : Port). x.no) dp.ports rise r q cr cq (eqb-true r.no q.no is))

  record StandsOn (id : DpId) (number : ℕ) (q : Port) : Type 0 where
    dp : Dp
    is_dp : Contains conf.dps dp
    dp_is : dp.id ≡ id
    is_port : Contains dp.ports q
    port_is : q.no ≡ number

  stands_on : (id : DpId) (number : ℕ) (q : Port) → port_at conf id number ≡ Some q → StandsOn id number q
  stands_on id number q is = by (dp_with conf.dps id) refl is
    where
      by : (o : Option Dp) → dp_with conf.dps id ≡ o → option_and_then (λ (e : Dp). port_with e.ports number) o ≡ Some q → StandsOn id number q
      by None e is = absurd (none-some q is)
      by (Some dp) e is =
          let f = found (λ (x : Dp). x.id.0 == id.0) conf.dps dp e in
          let g = found (λ (r : Port). r.no == number) dp.ports q is in
          let same : dp.id.0 ≡ id.0 = eqb-true dp.id.0 id.0 f.passes in
          record { dp = dp; is_dp = f.within; dp_is = (λ i. record { 0 = same i }); is_port = g.within; port_is = eqb-true q.no number g.passes }

  -- ---- links lead from a group to itself

  joined_groups : (a b : DpId) → IsDp conf a → IsDp conf b → IsLinked conf a b → IsLinked conf b a → (group_of conf a).0 ≡ (group_of conf b).0
  joined_groups a b da db ab ba =
      let ga = group_law a da in
      let gb = group_law b db in
      let below : (group_of conf a).0 ≤ (group_of conf b).0 = ga.least (group_of conf b) (suc gb.joined.0, (b, ab, gb.joined.1)) in
      let above : (group_of conf b).0 ≤ (group_of conf a).0 = gb.least (group_of conf a) (suc ga.joined.0, (a, ba, ga.joined.1)) in
      omega (arith, below, above)

  linked : (ups : List UpRec) (here far : StackEnd) → IsEndUp conf ups here far → IsLinked conf here.dp far.dp
  linked ups here far e = record { dp = e.dp; port = e.port; far = far; here = e.is_dp; id_is = e.dp_is; has = e.is_port; leads = e.leads; far_is = refl }

  is_there : (ups : List UpRec) (here far : StackEnd) → IsEndUp conf ups here far → IsDp conf here.dp
  is_there ups here far e = record { dp = e.dp; here = e.is_dp; id_is = e.dp_is }

  module _ (id : DpId) where
    abbrev pub is_in : DpId → Bool
    is_in e = (group_of conf e).0 == (group_of conf id).0

    same_in : (a b : DpId) → (group_of conf a).0 ≡ (group_of conf b).0 → is_in a ≡ is_in b
    same_in a b same = ap (λ n. n == (group_of conf id).0) same

    closed : (ups : List UpRec) → ((l : StackLink) → Contains (links conf ups) l → IsLinkUp conf ups l) → IsClosed is_in (links conf ups)
    closed ups up_law =
        all_by (λ (l : StackLink). is_in l.a ≡ is_in l.b) (links conf ups)
        (λ l c. let up = up_law l c in same_in l.a l.b (joined_groups l.a l.b (is_there ups _ _ up.forth) (is_there ups _ _ up.back) (linked ups _ _ up.forth) (linked ups _ _ up.back)))

    -- ---- of two states

    module _ (old new : List UpRec) (quiet : (e : DpId) (number : ℕ) → is_in e ≡ true → IsSomeAnd (port_at conf e number) (λ p. is_stack p ≡ true) → is_up old e number ≡ is_up new e number) where
      live_same : (e : DpId) (q : Port) → is_in e ≡ true → port_at conf e q.no ≡ Some q → is_some q.stack ≡ true → is_live old e q ≡ is_live new e q
      live_same e q here is stack = by q.enabled refl
        where
          by : (b : Bool) → q.enabled ≡ b → (b && is_up old e q.no) ≡ (b && is_up new e q.no)
          by false off = refl
          by true on = quiet e q.no here (subst (λ o. IsSomeAnd o (λ p. is_stack p ≡ true)) (sym is) (and_from q.enabled (is_some q.stack) on stack))

      -- where the far end stands
      record FarEnd (dp : Dp) (q : Port) (far : StackEnd) : Type 0 where
        here : is_in far.dp ≡ true
        live : is_far_live conf old far ≡ is_far_live conf new far

      far_end : (dp : Dp) → Contains conf.dps dp → is_in dp.id ≡ true → (q : Port) → Contains dp.ports q → (far : StackEnd) → q.stack ≡ Some far → FarEnd dp q far
      far_end dp c inn q cq far leads = by (port_at conf far.dp far.port) refl is.far_end
        where
          is : IsStackPort conf dp q far
          is = subst (λ o. IfSome o (IsStackPort conf dp q)) leads (of_all (λ (p : Port). IfSome p.stack (IsStackPort conf dp p)) dp.ports (of_all (λ (e : Dp). AllByRecursion (λ (p : Port). IfSome p.stack (IsStackPort conf e p)) e.ports) conf.dps valid.stacks.each dp c) q cq)

          by : (o : Option Port) → port_at conf far.dp far.port ≡ o → IsSomeAnd o (λ r. r.stack ≡ Some (record { dp = dp.id; port = q.no })) → FarEnd dp q far
          by None e back = absurd (back)
          by (Some r) e back =
              let s = stands_on far.dp far.port r e in
              let groups =
              joined_groups dp.id far.dp (record { dp = dp; here = c; id_is = refl }) (record { dp = s.dp; here = s.is_dp; id_is = s.dp_is })
              (record { dp = dp; port = q; far = far; here = c; id_is = refl; has = cq; leads = leads; far_is = refl })
              (record { dp = s.dp; port = r; far = record { dp = dp.id; port = q.no }; here = s.is_dp; id_is = s.dp_is; has = s.is_port; leads = back; far_is = refl }) in
              let here = sym (same_in dp.id far.dp groups) ∙ inn in
              let at : port_at conf far.dp r.no ≡ Some r = ap (port_at conf far.dp) s.port_is ∙ e in
              record {
                here = here;
                live = ap (λ o. option_map_or (λ x. is_live old far.dp x) o false) e ∙ live_same far.dp r here at (ap (λ o. is_some o) back) ∙ sym (ap (λ o. option_map_or (λ x. is_live new far.dp x) o false) e);
              }

      pub link_same : (dp : Dp) → Contains conf.dps dp → is_in dp.id ≡ true → (q : Port) → Contains dp.ports q → link_from conf old dp q ≡ link_from conf new dp q
      link_same dp c inn q cq = by q.stack refl
        where
          by : (o : Option StackEnd) → q.stack ≡ o
              → option_and_then {U = StackLink} (λ far. if nat_lt dp.id.0 far.dp.0 && (is_live old dp.id q && is_far_live conf old far) then Some (record { a = dp.id; a_port = q.no; b = far.dp; b_port = far.port }) else None) o
              ≡ option_and_then {U = StackLink} (λ far. if nat_lt dp.id.0 far.dp.0 && (is_live new dp.id q && is_far_live conf new far) then Some (record { a = dp.id; a_port = q.no; b = far.dp; b_port = far.port }) else None) o
          by None is = refl
          by (Some far) is =
              let near : is_live old dp.id q ≡ is_live new dp.id q = live_same dp.id q inn (port_of dp c q cq) (ap (λ o. is_some o) is) in
              let behind = (far_end dp c inn q cq far is).live in
              λ i. if nat_lt dp.id.0 far.dp.0 && (near i && behind i) then Some (record { a = dp.id; a_port = q.no; b = far.dp; b_port = far.port }) else None

      -- a link begins on its datapath
      begins : (ups : List UpRec) (dp : Dp) (q : Port) (l : StackLink) → link_from conf ups dp q ≡ Some l → l.a ≡ dp.id
      begins ups dp q l is = by q.stack is
        where
          one : (far : StackEnd) (b : Bool) → (if b then Some (record { a = dp.id; a_port = q.no; b = far.dp; b_port = far.port }) else None) ≡ Some l → l.a ≡ dp.id
          one far true e = sym (ap (λ (x : StackLink). x.a) (same_Some _ l e))
          one far false e = absurd (none-some l e)

          by : (o : Option StackEnd) → option_and_then (λ far. if nat_lt dp.id.0 far.dp.0 && (is_live ups dp.id q && is_far_live conf ups far) then Some (record { a = dp.id; a_port = q.no; b = far.dp; b_port = far.port }) else None) o ≡ Some l → l.a ≡ dp.id
          by None e = absurd (none-some l e)
          by (Some far) e = one far (nat_lt dp.id.0 far.dp.0 && (is_live ups dp.id q && is_far_live conf ups far)) e

      of_one : (dp : Dp) → Contains conf.dps dp → filter (λ l. is_in l.a) (links_of conf old dp) ≡ filter (λ l. is_in l.a) (links_of conf new dp)
      of_one dp c = by (is_in dp.id) refl
        where
          none : (ups : List UpRec) → is_in dp.id ≡ false → filter (λ l. is_in l.a) (links_of conf ups dp) ≡ []
          none ups out = none_kept (λ (l : StackLink). is_in l.a) (link_from conf ups dp) (λ q l is. ap is_in (begins ups dp q l is) ∙ out) dp.ports

          by : (b : Bool) → is_in dp.id ≡ b → filter (λ l. is_in l.a) (links_of conf old dp) ≡ filter (λ l. is_in l.a) (links_of conf new dp)
          by true inn = ap (filter (λ (l : StackLink). is_in l.a)) (same_some (link_from conf old dp) (link_from conf new dp) dp.ports (λ q cq. link_same dp c inn q cq))
          by false out = none old out ∙ sym (none new out)

      links_same : filter (λ l. is_in l.a) (links conf old) ≡ filter (λ l. is_in l.a) (links conf new)
      links_same =
          filter_flat (λ (l : StackLink). is_in l.a) (links_of conf old) conf.dps
          ∙ same_flat (λ dp. filter (λ (l : StackLink). is_in l.a) (links_of conf old dp)) (λ dp. filter (λ (l : StackLink). is_in l.a) (links_of conf new dp)) conf.dps of_one
          ∙ sym (filter_flat (λ (l : StackLink). is_in l.a) (links_of conf new) conf.dps)

      pub alike : ((l : StackLink) → Contains (links conf old) l → IsLinkUp conf old l) → ((l : StackLink) → Contains (links conf new) l → IsLinkUp conf new l) → AreAlikeIn is_in (stack_of conf old) (stack_of conf new)
      alike old_law new_law = record { nodes = refl; closed = closed old old_law; closed_too = closed new new_law; links = links_same }
