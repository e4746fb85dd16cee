-- The state of which every enabled interface is up and nothing is learned is valid.
use Rattle.std.proofs.Common.{◌≡◌, ◌⊎◌, ℕ, zero, suc, ◌≤◌, ◌==◌, Bool, true, false, cond, find, List, [], ◌∷◌, ◌++◌, map, filter, length, Option, Some, None, is_some, refl, sym, ap, subst, ◌∙◌, inl, inr, arith}
use Rattle.std.specs.Prelude.{Contains, IsTrue, option_and_then}
use Rattle.std.specs.List.{AllByRecursion, flat_map}
use Rattle.std.specs.Str.{bytes_eq}
use Rattle.std.proofs.lemmas.Bool.{eqb-true, eq-eqb, ne_eqb}
use Rattle.std.proofs.lemmas.List.Elements.{All-from_recursion, All-contains}
use Rattle.conf_types.specs.declared.datapath.Dp.{Dp}
use Rattle.conf_types.specs.declared.datapath.Port.{Port}
use Rattle.conf_types.specs.declared.state.UpRec.{UpRec}
use Rattle.conf_types.specs.Configuration.{Configuration, dp_with, port_with, port_at}
use Rattle.conf_types.specs.Lists.{EachBefore}
use Rattle.conf_types.specs.State.{IsValidState}
use Rattle.conf_types.specs.Valid.{IsValid}
use Rattle.opening_batch.specs.Opening.{dp_called, ups_of, nothing_learned}

-- ---- what is found in a list

contains_here : {X : Type 0} (x : X) (xs : List X) → Contains (x ∷ xs) x
contains_here x xs = (zero, omega arith, refl)

contains_there : {X : Type 0} (x y : X) (xs : List X) → Contains xs y → Contains (x ∷ xs) y
contains_there x y xs (k, low, is) = (suc k, omega (arith, low), is)

contains_cons : {X : Type 0} (x y : X) (xs : List X) → Contains (x ∷ xs) y → (x ≡ y) ⊎ Contains xs y
contains_cons x y xs (zero, low, is) = inl is
contains_cons x y xs (suc k, low, is) = inr (k, omega (arith, low), is)

of_all : {X : Type 0} (P : X → Type 0) (xs : List X) (x : X) → AllByRecursion P xs → Contains xs x → P x
of_all P xs x all c = All-contains P xs x (All-from_recursion P xs all) c

found : {X : Type 0} (p : X → Bool) (xs : List X) (x : X) → find p xs ≡ Some x → Contains xs x × (p x ≡ true)
found p [] x is = absurd cc
found p (y ∷ ys) x is =
    elim (p y) as (λ b. p y ≡ b → cond b (Some y) (find p ys) ≡ Some x → Contains (y ∷ ys) x × (p x ≡ true)) [
      | true ↦ λ passes e. let same : y ≡ x = cc in (subst (λ z. Contains (y ∷ ys) z) same (contains_here y ys), subst (λ z. p z ≡ true) same passes)
      | false ↦ λ fails e. let rest = found p ys x e in (contains_there y x ys rest.0, rest.1)
    ] refl is

-- one that has its key alone is found by it
finds : {X : Type 0} (key : X → ℕ) (R : X → X → Type 0) → ((a b : X) → R a b → key a ≡ key b → ⊥) → (xs : List X) (x : X) → EachBefore R xs → Contains xs x → find (λ y. key y == key x) xs ≡ Some x
finds key R apart [] x before c = absurd (omega (arith, c.1))
finds key R apart (y ∷ ys) x before c =
    elim (contains_cons y x ys c) [
      | inl first ↦ rw (eq-eqb (key y) (key x) (ap key first)) (ap Some first)
      | inr more ↦ rw (ne_eqb (key y) (key x) (apart y x (of_all (R y) ys x before.0 more))) (finds key R apart ys x before.1 more)
    ]

module _ (conf : Configuration) (valid : IsValid conf) where
  pub dp_here : (d : Dp) → Contains conf.dps d → dp_with conf.dps d.id ≡ Some d
  dp_here d c = finds (λ (e : Dp). e.id.0) (λ e f. e.id.0 ≡ f.id.0 → ⊥) (λ e f apart same. apart same) conf.dps d (valid.datapaths).ids c

  pub called_is : (d : Dp) (name : List ℕ) → dp_called conf.dps name ≡ Some d → (dp_with conf.dps d.id ≡ Some d) × (bytes_eq d.name name ≡ true)
  called_is d name is = let f = found (λ e. bytes_eq e.name name) conf.dps d is in (dp_here d f.0, f.1)

  -- ---- the interfaces that are up are interfaces

  abbrev IsThere : UpRec → Type 0
  IsThere up = IsTrue (is_some (port_at conf up.dp up.port))

  numbered : (ports : List Port) (p : Port) → Contains ports p → IsTrue (is_some (port_with ports p.no))
  numbered [] p c = absurd (omega (arith, c.1))
  numbered (q ∷ qs) p c =
      elim (contains_cons q p qs c) [
        | inl first ↦ rw (eq-eqb q.no p.no (ap (λ (x : Port). x.no) first)) refl
        | inr more ↦ elim (q.no == p.no) as (λ b. IsTrue (is_some (cond b (Some q) (port_with qs p.no)))) [ true ↦ refl | false ↦ numbered qs p more ]
      ]

  port_there : (d : Dp) → Contains conf.dps d → (p : Port) → Contains d.ports p → IsThere (record { dp = d.id; port = p.no })
  port_there d here p c = rw (dp_here d here) (numbered d.ports p c)

  ups_there : (d : Dp) → Contains conf.dps d → (ports : List Port) → ((p : Port) → Contains ports p → Contains d.ports p)
      → AllByRecursion IsThere (map (λ p. record { dp = d.id; port = p.no }) (filter (λ p. p.enabled) ports))
  ups_there d here [] within = tt
  ups_there d here (p ∷ ps) within =
      let more = ups_there d here ps (λ q c. within q (contains_there p q ps c)) in
      elim p.enabled as (λ b. AllByRecursion IsThere (map (λ (q : Port). record { dp = d.id; port = q.no }) (cond b (p ∷ filter (λ q. q.enabled) ps) (filter (λ q. q.enabled) ps)))) [
        | true ↦ (port_there d here p (within p (contains_here p ps)), more)
        | false ↦ more
      ]

  joined : (xs ys : List UpRec) → AllByRecursion IsThere xs → AllByRecursion IsThere ys → AllByRecursion IsThere (xs ++ ys)
  joined [] ys h k = k
  joined (x ∷ xs) ys h k = (h.0, joined xs ys h.1 k)

  all_there : (dps : List Dp) → ((d : Dp) → Contains dps d → Contains conf.dps d) → AllByRecursion IsThere (flat_map ups_of dps)
  all_there [] within = tt
  all_there (d ∷ ds) within =
      joined (ups_of d) (flat_map ups_of ds) (ups_there d (within d (contains_here d ds)) d.ports (λ p c. c)) (all_there ds (λ e c. within e (contains_there d e ds c)))

  -- ---- nothing is too much

  every : {A : Type 0} (P : A → Type 0) → ((x : A) → P x) → (xs : List A) → AllByRecursion P xs
  every P h [] = tt
  every P h (x ∷ xs) = (h x, every P h xs)

  pub nothing_valid : IsValidState conf (nothing_learned conf)
  nothing_valid = record {
    running = tt;
    ups = all_there conf.dps (λ d c. c);
    hosts = tt;
    host_keys = tt;
    permanent = tt;
    ports = every _ (λ d. every _ (λ p. omega arith) d.ports) conf.dps;
    vlans = every _ (λ d. every _ (λ v. omega arith) conf.vlans) conf.dps;
    table = omega arith;
    neighbours = tt;
    neighbour_keys = tt;
    neighbour_table = omega arith;
  }
