-- Counts of VLANs by their identifiers, and identifiers that were seen.
use Rattle.std.proofs.Common.{◌≡◌, ℕ, ◌+◌, ◌<◌, ◌==◌, ◌||◌, Bool, true, false, cond, List, [], ◌∷◌, length, get_or, set, take, count_by, refl, sym, ap, ◌∙◌, arith, ⊎_elim}
use Rattle.std.proofs.Math.Bool.{or_assoc, or-false, or-true}
use Rattle.std.proofs.lemmas.List.{get_or-set_same, get_or-set_other}
use Rattle.std.proofs.lemmas.List.Sums.{sum_by-cons, count_by_more_yes, count_by_more_no}
use Rattle.std.proofs.lemmas.Bool.{eqb-true, eqb-false, eq-eqb, ne_eqb, cases_eq}
use Rattle.conf_types.specs.declared.vlan.Vlan.{Vlan}
use Rattle.conf_types.specs.Lists.{is_among}
use Rattle.conf_rules.proofs.Earlier.{any_more}
use Rattle.conf_rules.proofs.Groups.{count-same}

-- an identifier that is a member already adds none
pub count_again : (p q : ℕ → Bool) (t : ℕ) → ((n : ℕ) → q n ≡ (p n || t == n)) → p t ≡ true → (vs : List Vlan) → count_by (λ (v : Vlan). q v.vid) vs ≡ count_by (λ (v : Vlan). p v.vid) vs
count_again p q t more here vs = count-same (λ (v : Vlan). q v.vid) (λ (v : Vlan). p v.vid) (λ v. at v.vid) vs
  where
    at : (n : ℕ) → q n ≡ p n
    at n = more n ∙ by (t == n) refl
      where
        by : (b : Bool) → (t == n) ≡ b → (p n || t == n) ≡ p n
        by true h = ap (λ b. p n || b) h ∙ or-true (p n) ∙ sym here ∙ ap p (eqb-true t n h)
        by false h = ap (λ b. p n || b) h ∙ or-false (p n)

plus_none : (k : ℕ) → k + 0 ≡ k
plus_none k = omega arith

-- any other adds the VLANs that have it
pub count_more : (p q : ℕ → Bool) (t : ℕ) → ((n : ℕ) → q n ≡ (p n || t == n)) → p t ≡ false → (vs : List Vlan)
    → count_by (λ (v : Vlan). q v.vid) vs ≡ count_by (λ (v : Vlan). p v.vid) vs + count_by (λ (v : Vlan). v.vid == t) vs
count_more p q t more none [] = refl
count_more p q t more none (v ∷ vs) =
    let a = sum_by-cons (λ (w : Vlan). cond (q w.vid) 1 0) v vs in
    let b = sum_by-cons (λ (w : Vlan). cond (p w.vid) 1 0) v vs in
    let c = sum_by-cons (λ (w : Vlan). cond (w.vid == t) 1 0) v vs in
    let d = count_more p q t more none vs in
    let e = at v.vid in
    omega arith
  where
    at : (n : ℕ) → cond (q n) 1 0 ≡ cond (p n) 1 0 + cond (n == t) 1 0
    at n = ap (λ b. cond b 1 0) (more n) ∙ by (t == n) refl
      where
        by : (b : Bool) → (t == n) ≡ b → cond (p n || t == n) 1 0 ≡ cond (p n) 1 0 + cond (n == t) 1 0
        by true h =
            let same = eqb-true t n h in
            let absent : p n ≡ false = ap p (sym same) ∙ none in
            let equal : (n == t) ≡ true = eq-eqb n t (sym same) in
            rw (h, absent, equal) refl
        by false h =
            let apart : (n == t) ≡ false = ne_eqb n t (λ same. eqb-false t n h (sym same)) in
            rw (h, apart) (ap (λ b. cond b 1 0) (or-false (p n)) ∙ sym (plus_none (cond (p n) 1 0)))

-- a table, with one place set
pub seen_more : (seen : List Bool) (t n : ℕ) → t < length seen → get_or (set seen t true) n false ≡ (get_or seen n false || t == n)
seen_more seen t n lt = ⊎_elim same other (cases_eq n t)
  where
    same : n ≡ t → get_or (set seen t true) n false ≡ (get_or seen n false || t == n)
    same e =
        ap (λ k. get_or (set seen t true) k false) e ∙ get_or-set_same seen t true false lt
        ∙ sym (ap (λ b. get_or seen n false || b) (eq-eqb t n (sym e)) ∙ or-true (get_or seen n false))

    other : (n ≡ t → ⊥) → get_or (set seen t true) n false ≡ (get_or seen n false || t == n)
    other ne =
        get_or-set_other seen t n true false ne
        ∙ sym (ap (λ b. get_or seen n false || b) (ne_eqb t n (λ e. ne (sym e))) ∙ or-false (get_or seen n false))

-- the identifiers so far, and one more
pub named_more : (native : ℕ → Bool) (xs ys : List ℕ) (i t n : ℕ) → ys ≡ xs → i < length ys → t ≡ get_or ys i t
    → (native n || is_among (take (i + 1) xs) n) ≡ ((native n || is_among (take i xs) n) || t == n)
named_more native xs ys i t n same lt is =
    ap (λ b. native n || b) (any_more (λ x. x == n) xs ys i t same lt is) ∙ sym (or_assoc (native n) (is_among (take i xs) n) (t == n))

-- a table of counts, with one place raised, over one VLAN more
pub counts_more : (counts : List ℕ) (vs : List Vlan) (i t n : ℕ) (v : Vlan) → t < length counts → i < length vs → v ≡ get_or vs i v → t ≡ v.vid
    → get_or counts n 0 ≡ count_by (λ (w : Vlan). w.vid == n) (take i vs)
    → get_or (set counts t (get_or counts t 0 + 1)) n 0 ≡ count_by (λ (w : Vlan). w.vid == n) (take (i + 1) vs)
counts_more counts vs i t n v lt less is vid so_far = ⊎_elim same other (cases_eq n t)
  where
    same : n ≡ t → get_or (set counts t (get_or counts t 0 + 1)) n 0 ≡ count_by (λ (w : Vlan). w.vid == n) (take (i + 1) vs)
    same e =
        ap (λ k. get_or (set counts t (get_or counts t 0 + 1)) k 0) e
        ∙ get_or-set_same counts t (get_or counts t 0 + 1) 0 lt
        ∙ ap (λ k. get_or counts k 0 + 1) (sym e)
        ∙ ap (λ k. k + 1) so_far
        ∙ sym (count_by_more_yes (λ (w : Vlan). w.vid == n) vs i v less (ap (λ (w : Vlan). w.vid == n) (sym is) ∙ eq-eqb v.vid n (sym vid ∙ sym e)))

    other : (n ≡ t → ⊥) → get_or (set counts t (get_or counts t 0 + 1)) n 0 ≡ count_by (λ (w : Vlan). w.vid == n) (take (i + 1) vs)
    other ne =
        get_or-set_other counts t n (get_or counts t 0 + 1) 0 ne
        ∙ so_far
        ∙ sym (count_by_more_no (λ (w : Vlan). w.vid == n) vs i v less (ap (λ (w : Vlan). w.vid == n) (sym is) ∙ ne_eqb v.vid n (λ e. ne (sym e ∙ sym vid))))
