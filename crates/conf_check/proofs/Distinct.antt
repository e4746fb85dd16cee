-- Where no rule on names is broken, the identifiers of datapaths are distinct.
use Rattle.std.proofs.Common.{◌≡◌, ℕ, ◌==◌, ◌||◌, Bool, true, false, List, [], ◌∷◌, ◌++◌, map, codes, append_assoc, None, refl, sym, ap, subst, ◌∙◌}
use Rattle.std.specs.List.{flat_map, list_any, AllByRecursion}
use Rattle.std.proofs.lemmas.Bool.{eq-eqb}
use Rattle.conf_types.specs.declared.datapath.Dp.{Dp}
use Rattle.conf_types.specs.Configuration.{Configuration}
use Rattle.conf_types.specs.Lists.{EachBefore}
use Rattle.conf_shape.specs.declared.raw.RawDp.{RawDp}
use Rattle.conf_shape.specs.declared.refused.ConfFault.{ConfFault}
use Rattle.conf_shape.specs.declared.refused.ConfCause.TheVariants.{Duplicate}
use Rattle.conf_resolve.specs.declared.ordered.OrderedConf.{OrderedConf}
use Rattle.conf_resolve.specs.InOrder.{dp_site}
use Rattle.conf_resolve.specs.Resolved.{dp_of, resolved}
use Rattle.conf_rules.specs.Names.{repeated_vlans, repeated_dp, repeated_dps}
use Rattle.conf_rules.specs.Places.{first, fault_if, under, with_earlier}

none : {A : Type 0} (xs : List A) → first xs ≡ None → xs ≡ []
none [] e = refl
none (x ∷ xs) e = absurd (cc)

left : {A : Type 0} (xs ys : List A) → xs ++ ys ≡ [] → xs ≡ []
left [] ys e = refl
left (x ∷ xs) ys e = absurd (cc)

right : {A : Type 0} (xs ys : List A) → xs ++ ys ≡ [] → ys ≡ []
right [] ys e = e
right (x ∷ xs) ys e = absurd (cc)

neither : (a b : Bool) → (a || b) ≡ false → (a ≡ false) × (b ≡ false)
neither false b e = (refl, e)
neither true b e = absurd (cc)

no_fault : (test : Bool) (site : List (List ℕ)) → fault_if test Duplicate site ≡ [] → test ≡ false
no_fault false site e = refl
no_fault true site e = absurd (cc)

all_none : (es : List RawDp) → AllByRecursion (λ (e : RawDp). AllByRecursion (λ (x : RawDp). e.id.0 ≡ x.id.0 → ⊥) []) es
all_none [] = tt
all_none (e ∷ es) = (tt, all_none es)

all_split : (P : RawDp → Type 0) (es : List RawDp) (x : RawDp) → AllByRecursion P (es ++ x ∷ []) → AllByRecursion P es × P x
all_split P [] x h = (tt, h.0)
all_split P (e ∷ es) x h = let r = all_split P es x h.1 in ((h.0, r.0), r.1)

all_join : (es : List RawDp) (x : RawDp) (xs : List RawDp) → AllByRecursion (λ (e : RawDp). e.id.0 ≡ x.id.0 → ⊥) es
    → AllByRecursion (λ (e : RawDp). AllByRecursion (λ (y : RawDp). e.id.0 ≡ y.id.0 → ⊥) xs) es
    → AllByRecursion (λ (e : RawDp). AllByRecursion (λ (y : RawDp). e.id.0 ≡ y.id.0 → ⊥) (x ∷ xs)) es
all_join [] x xs a b = tt
all_join (e ∷ es) x xs a b = ((a.0, b.0), all_join es x xs a.1 b.1)

all_apart : (es : List RawDp) (x : RawDp) → list_any (λ (e : RawDp). e.id.0 == x.id.0) es ≡ false → AllByRecursion (λ (e : RawDp). e.id.0 ≡ x.id.0 → ⊥) es
all_apart [] x h = tt
all_apart (e ∷ es) x h =
    let both = neither (e.id.0 == x.id.0) (list_any (λ (y : RawDp). y.id.0 == x.id.0) es) h in
    (λ same. let yes = eq-eqb e.id.0 x.id.0 same in let no = both.0 in absurd (cc), all_apart es x both.1)

apart : (es xs : List RawDp) → flat_map repeated_dp (with_earlier es xs) ≡ []
    → AllByRecursion (λ (e : RawDp). AllByRecursion (λ (x : RawDp). e.id.0 ≡ x.id.0 → ⊥) xs) es × EachBefore (λ (a b : RawDp). a.id.0 ≡ b.id.0 → ⊥) xs
apart es [] e = (all_none es, tt)
apart es (x ∷ xs) e =
    let here = left (repeated_dp (es, x)) (flat_map repeated_dp (with_earlier (es ++ x ∷ []) xs)) e in
    let further = apart (es ++ x ∷ []) xs (right (repeated_dp (es, x)) (flat_map repeated_dp (with_earlier (es ++ x ∷ []) xs)) e) in
    let test = no_fault (list_any (λ (a : RawDp). a.id.0 == x.id.0) es) (under (dp_site x) (codes "dp_id")) (left _ _ here) in
    let split = all_split (λ (a : RawDp). AllByRecursion (λ (y : RawDp). a.id.0 ≡ y.id.0 → ⊥) xs) es x further.0 in
    (all_join es x xs (all_apart es x test) split.0, (split.1, further.1))

all_mapped : (o : OrderedConf) (n : ℕ) (xs : List RawDp) → AllByRecursion (λ (x : RawDp). n ≡ x.id.0 → ⊥) xs → AllByRecursion (λ (d : Dp). n ≡ d.id.0 → ⊥) (map (dp_of o) xs)
all_mapped o n [] h = tt
all_mapped o n (x ∷ xs) h = (h.0, all_mapped o n xs h.1)

each_mapped : (o : OrderedConf) (xs : List RawDp) → EachBefore (λ (a b : RawDp). a.id.0 ≡ b.id.0 → ⊥) xs → EachBefore (λ (d e : Dp). d.id.0 ≡ e.id.0 → ⊥) (map (dp_of o) xs)
each_mapped o [] h = tt
each_mapped o (x ∷ xs) h = (all_mapped o x.id.0 xs h.0, each_mapped o xs h.1)

-- behind the first rule, that on datapaths
pub distinct_of : (o : OrderedConf) (conf : Configuration) (rest more : List ConfFault) → conf ≡ resolved o
    → first ((repeated_vlans o ++ (repeated_dps o ++ rest)) ++ more) ≡ None → EachBefore (λ (d e : Dp). d.id.0 ≡ e.id.0 → ⊥) conf.dps
distinct_of o conf rest more is e =
    let names = left (repeated_vlans o ++ (repeated_dps o ++ rest)) more (none ((repeated_vlans o ++ (repeated_dps o ++ rest)) ++ more) e) in
    let dps = left (repeated_dps o) rest (right (repeated_vlans o) (repeated_dps o ++ rest) names) in
    subst (λ (k : Configuration). EachBefore (λ (d e : Dp). d.id.0 ≡ e.id.0 → ⊥) k.dps) (sym is) (each_mapped o o.dps (apart [] o.dps dps).1)

-- the limits stand behind the other rules
pub behind_all : {A : Type 0} (ns ps rs ls : List A) → ns ++ (ps ++ (rs ++ ls)) ≡ (ns ++ (ps ++ rs)) ++ ls
behind_all ns ps rs ls = sym (append_assoc ns (ps ++ rs) ls ∙ ap (λ t. ns ++ t) (append_assoc ps rs ls))
