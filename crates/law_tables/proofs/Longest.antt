-- The longest prefix: none of the items that hold an address is longer.
use Rattle.std.proofs.Common.{◌≡◌, ◌⊎◌, zero, suc, inl, inr, ◌≤◌, Bool, true, false, List, [], ◌∷◌, filter, Option, Some, None, refl, sym, ap, ◌∙◌, subst, arith, if◌then◌else◌}
use Rattle.std.specs.Prelude.{Contains, nat_lt}
use Rattle.std.specs.List.{AllByRecursion, fold, reduce}
use Rattle.std.proofs.lemmas.Bool.{ltb-true, ltb-false}
use Rattle.conf_types.specs.declared.address.Ip.{Ip}
use Rattle.packet_way.specs.declared.routes.RouteItem.{RouteItem}
use Rattle.packet_way.specs.Routes.{item_holds, longer, longest}
use Rattle.law_runs.specs.Members.{head_of, tail_of, of_all, all_by, all_filtered, in_filtered}

-- of two items
one_longer : (a b : RouteItem) → (c : RouteItem) × (longer a b ≡ c) × ((c ≡ a) ⊎ (c ≡ b)) × (a.len ≤ c.len) × (b.len ≤ c.len)
one_longer a b = by (nat_lt a.len b.len) refl
  where
    by : (t : Bool) → nat_lt a.len b.len ≡ t → (c : RouteItem) × ((if t then b else a) ≡ c) × ((c ≡ a) ⊎ (c ≡ b)) × (a.len ≤ c.len) × (b.len ≤ c.len)
    by true is = (b, refl, inr refl, omega (arith, ltb-true a.len b.len is), omega arith)
    by false is = (a, refl, inl refl, omega arith, omega (arith, ltb-false a.len b.len is))

-- one of these, and none of them is longer
pub record IsLongest (items : List RouteItem) (c : RouteItem) : Type 0 where
  pub within : Contains items c
  pub most : AllByRecursion (λ x. x.len ≤ c.len) items

longest_of : (a : RouteItem) (items : List RouteItem) → IsLongest (a ∷ items) (fold longer a items)
longest_of a [] = record { within = head_of a []; most = (omega arith, tt) }
longest_of a (b ∷ items) =
    let first = longest_of (longer a b) items in
    let c = fold longer (longer a b) items in
    let two = one_longer a b in
    let lens : ((longer a b).len ≤ c.len) = first.most.0 in
    let len_is : (longer a b).len ≡ (two.0).len = ap (λ (x : RouteItem). x.len) (two.1) in
    let len_a = two.3 in
    let len_b = two.4 in
    record {
      within = in_two (longer a b) (elim two.2 [ inl e ↦ inl (two.1 ∙ e) | inr e ↦ inr (two.1 ∙ e) ]) c first.within;
      most = (omega (arith, lens, len_is, len_a), (omega (arith, lens, len_is, len_b), first.most.1));
    }
  where
    in_two : (l : RouteItem) → (l ≡ a) ⊎ (l ≡ b) → (c : RouteItem) → Contains (l ∷ items) c → Contains (a ∷ b ∷ items) c
    in_two l (inl e) c (zero, lt, is) = subst (Contains (a ∷ b ∷ items)) (sym e ∙ is) (head_of a (b ∷ items))
    in_two l (inr e) c (zero, lt, is) = subst (Contains (a ∷ b ∷ items)) (sym e ∙ is) (tail_of a (b ∷ items) b (head_of b items))
    in_two l e c (suc k, lt, is) = tail_of a (b ∷ items) c (tail_of b items c (k, omega (arith, lt), is))

-- what is chosen of the items that hold an address
abbrev pub Chosen : List RouteItem → Ip → Option RouteItem → Type 0
Chosen items ip None = AllByRecursion (λ x. item_holds ip x ≡ false) items
Chosen items ip (Some b) = Contains items b × (item_holds ip b ≡ true) × AllByRecursion (λ x. item_holds ip x ≡ true → x.len ≤ b.len) items

pub chosen : (items : List RouteItem) (ip : Ip) → Chosen items ip (longest items ip)
unfolding longest
chosen items ip = by (filter (item_holds ip) items) refl
  where
    holds : RouteItem → Bool
    holds x = item_holds ip x

    kept : (x : RouteItem) → Contains (filter holds items) x → Contains items x × (item_holds ip x ≡ true)
    kept x c = of_all (λ x. Contains items x × (item_holds ip x ≡ true)) (filter holds items) (all_filtered (λ x. Contains items x × (item_holds ip x ≡ true)) holds items (all_by (λ x. holds x ≡ true → Contains items x × (item_holds ip x ≡ true)) items (λ y w is. (w, is)))) x c

    none : (x : RouteItem) → Contains items x → (b : Bool) → item_holds ip x ≡ b → filter holds items ≡ [] → item_holds ip x ≡ false
    none x c false is empty = is
    none x c true is empty = absurd (nothing (subst (λ l. Contains l x) empty (in_filtered holds items x c is)))
      where
        nothing : {A : Type 0} {y : A} → Contains [] y → ⊥
        nothing (k, lt, same) = omega (arith, lt)

    by : (held : List RouteItem) → filter holds items ≡ held → Chosen items ip (reduce longer held)
    by [] is = all_by (λ x. item_holds ip x ≡ false) items (λ x c. none x c (item_holds ip x) refl is)
    by (a ∷ more) is =
        let l = longest_of a more in
        let b = fold longer a more in
        let k = kept b (subst (λ xs. Contains xs b) (sym is) l.within) in
        (k.0, k.1, all_by (λ x. item_holds ip x ≡ true → x.len ≤ b.len) items (λ x c h. of_all (λ x. x.len ≤ b.len) (a ∷ more) l.most x (subst (λ xs. Contains xs x) is (in_filtered holds items x c h))))
