-- What counts, where items that don't count went before.
use Rattle.std.proofs.Common.{◌≡◌, ℕ, zero, suc, ◌≤◌, ◌==◌, ◌&&◌, ◌||◌, Bool, true, false, cond, List, [], ◌∷◌, ◌++◌, append_assoc, append-nil, length, take, inl, inr, refl, sym, ap, ◌∙◌, arith, true≢false}
use Rattle.std.specs.List.{list_any}
use Rattle.std.proofs.lemmas.Bool.{cases_Bool, cases_lt, eqb-true}
use Rattle.std.specs.Str.{bytes_eq}
use Rattle.std.proofs.lemmas.Slice.Eq.{bytes_eq-Decides}
use Rattle.flow_stats.specs.declared.flow.Flow.{Flow}
use Rattle.of13_codec.specs.declared.ports.PortStats.{PortStats}
use Rattle.prom_text.specs.Counted.{counted_flows, counted_ports, firsts, is_same_flow, is_same_port, most_flows, most_ports}

module _ {A : Type 0} (same : A → A → Bool) (alike : (x y z : A) → same x z ≡ true → same y z ≡ same y x) where
  abbrev seen : A → List A → Bool
  seen z b = list_any (λ y. same y z) b

  -- each item that is the same as one of the ones is the same as one of the others
  abbrev SameAs : List A → List A → Type 0
  SameAs b c = (z : A) → seen z b ≡ seen z c

  any-append : (z : A) (b c : List A) → seen z (b ++ c) ≡ seen z b || seen z c
  any-append z [] c = refl
  any-append z (y ∷ b) c = elim (same y z) as (λ t. (t || seen z (b ++ c)) ≡ ((t || seen z b) || seen z c)) [ true ↦ refl | false ↦ any-append z b c ]

  any_alike : (x z : A) → same x z ≡ true → (b : List A) → seen z b ≡ seen x b
  any_alike x z is [] = refl
  any_alike x z is (y ∷ b) = ap (λ t. t || seen z b) (alike x y z is) ∙ ap (λ t. same y x || t) (any_alike x z is b)

  or_false : (t : Bool) → (t || false) ≡ t
  or_false true = refl
  or_false false = refl

  or_true : (t : Bool) → (t || true) ≡ true
  or_true true = refl
  or_true false = refl

  -- one that was there before adds nothing
  dropped : (b : List A) (x : A) → seen x b ≡ true → SameAs (b ++ x ∷ []) b
  dropped b x there z =
      any-append z b (x ∷ [])
      ∙ elim (cases_Bool (same x z)) [
        | inl is ↦ ap (λ t. seen z b || (t || false)) is ∙ or_true (seen z b) ∙ sym (any_alike x z is b ∙ there)
        | inr off ↦ ap (λ t. seen z b || (t || false)) off ∙ or_false (seen z b)
      ]

  longer : (b c more : List A) → SameAs b c → SameAs (b ++ more) (c ++ more)
  longer b c more are z = any-append z b more ∙ ap (λ t. t || seen z more) (are z) ∙ sym (any-append z c more)

  firsts_same : (b c xs : List A) → SameAs b c → firsts same b xs ≡ firsts same c xs
  firsts_same b c [] are = refl
  firsts_same b c (x ∷ xs) are =
      ap (λ t. cond t (firsts same (b ++ x ∷ []) xs) (x ∷ firsts same (b ++ x ∷ []) xs)) (are x)
      ∙ ap (λ ys. cond (seen x c) ys (x ∷ ys)) (firsts_same (b ++ x ∷ []) (c ++ x ∷ []) xs (longer b c (x ∷ []) are))

  firsts-append : (b xs ys : List A) → firsts same b (xs ++ ys) ≡ firsts same b xs ++ firsts same (b ++ xs) ys
  firsts-append b [] ys = ap (λ c. firsts same c ys) (sym (append-nil b))
  firsts-append b (x ∷ xs) ys =
      let rest = firsts-append (b ++ x ∷ []) xs ys ∙ ap (λ c. firsts same (b ++ x ∷ []) xs ++ firsts same c ys) (append_assoc b (x ∷ []) xs) in
      elim (seen x b) as (λ t. cond t (firsts same (b ++ x ∷ []) (xs ++ ys)) (x ∷ firsts same (b ++ x ∷ []) (xs ++ ys))
      ≡ cond t (firsts same (b ++ x ∷ []) xs) (x ∷ firsts same (b ++ x ∷ []) xs) ++ firsts same (b ++ x ∷ xs) ys) [
        | true ↦ rest
        | false ↦ ap (λ zs. x ∷ zs) rest
      ]

  left_same : (b xs : List A) → SameAs (b ++ firsts same b xs) (b ++ xs)
  left_same b [] z = refl
  left_same b (x ∷ xs) z =
      let more = firsts same (b ++ x ∷ []) xs in
      let rest = left_same (b ++ x ∷ []) xs z ∙ ap (λ c. seen z c) (append_assoc b (x ∷ []) xs) in
      elim (cases_Bool (seen x b)) [
        | inl there ↦ ap (λ t. seen z (b ++ cond t more (x ∷ more))) there ∙ sym (longer (b ++ x ∷ []) b more (dropped b x there) z) ∙ rest
        | inr new ↦ ap (λ t. seen z (b ++ cond t more (x ∷ more))) new ∙ ap (λ c. seen z c) (sym (append_assoc b (x ∷ []) more)) ∙ rest
      ]

  -- ---- those that were found first are

  abbrev Fresh : List A → List A → Type 0
  Fresh b [] = Unit {0}
  Fresh b (x ∷ xs) = (seen x b ≡ false) × Fresh (b ++ x ∷ []) xs

  fresh_same : (b c xs : List A) → SameAs b c → Fresh b xs → Fresh c xs
  fresh_same b c [] are fresh = tt
  fresh_same b c (x ∷ xs) are fresh = (sym (are x) ∙ fresh.0, fresh_same (b ++ x ∷ []) (c ++ x ∷ []) xs (longer b c (x ∷ []) are) fresh.1)

  fresh_firsts : (b xs : List A) → Fresh b (firsts same b xs)
  fresh_firsts b [] = tt
  fresh_firsts b (x ∷ xs) = by (seen x b) refl (fresh_firsts (b ++ x ∷ []) xs)
    where
      by : (t : Bool) → seen x b ≡ t → Fresh (b ++ x ∷ []) (firsts same (b ++ x ∷ []) xs) → Fresh b (cond t (firsts same (b ++ x ∷ []) xs) (x ∷ firsts same (b ++ x ∷ []) xs))
      by true there more = fresh_same (b ++ x ∷ []) b (firsts same (b ++ x ∷ []) xs) (dropped b x there) more
      by false new more = (new, more)

  fresh_take : (n : ℕ) (b xs : List A) → Fresh b xs → Fresh b (take n xs)
  fresh_take zero b xs fresh = tt
  fresh_take (suc n) b [] fresh = tt
  fresh_take (suc n) b (x ∷ xs) fresh = (fresh.0, fresh_take n (b ++ x ∷ []) xs fresh.1)

  fixed : (b xs : List A) → Fresh b xs → firsts same b xs ≡ xs
  fixed b [] fresh = refl
  fixed b (x ∷ xs) fresh =
      ap (λ t. cond t (firsts same (b ++ x ∷ []) xs) (x ∷ firsts same (b ++ x ∷ []) xs)) fresh.0 ∙ ap (λ ys. x ∷ ys) (fixed (b ++ x ∷ []) xs fresh.1)

  -- ---- as many as count

  take_all : (n : ℕ) (xs : List A) → length xs ≤ n → take n xs ≡ xs
  take_all zero [] short = refl
  take_all zero (x ∷ xs) short = absurd (omega (arith, short))
  take_all (suc n) [] short = refl
  take_all (suc n) (x ∷ xs) short = ap (λ ys. x ∷ ys) (take_all n xs (omega (arith, short)))

  take_within : (n : ℕ) (xs ys : List A) → n ≤ length xs → take n (take n xs ++ ys) ≡ take n xs
  take_within zero xs ys long = refl
  take_within (suc n) [] ys long = absurd (omega (arith, long))
  take_within (suc n) (x ∷ xs) ys long = ap (λ zs. x ∷ zs) (take_within n xs ys (omega (arith, long)))

  take_front : (n : ℕ) (xs ys : List A) → n ≤ length xs → take n (xs ++ ys) ≡ take n xs
  take_front zero xs ys long = refl
  take_front (suc n) [] ys long = absurd (omega (arith, long))
  take_front (suc n) (x ∷ xs) ys long = ap (λ zs. x ∷ zs) (take_front n xs ys (omega (arith, long)))

  pub counted_more : (n : ℕ) (xs ys : List A) → take n (firsts same [] (take n (firsts same [] xs) ++ ys)) ≡ take n (firsts same [] (xs ++ ys))
  counted_more n xs ys =
      let found = firsts same [] xs in
      let kept = take n found in
      let again : firsts same [] (kept ++ ys) ≡ kept ++ firsts same kept ys =
      firsts-append [] kept ys ∙ ap (λ zs. zs ++ firsts same kept ys) (fixed [] kept (fresh_take n [] found (fresh_firsts [] xs))) in
      elim (cases_lt n (length found)) [
        | inl many ↦
            ap (take n) again ∙ take_within n found (firsts same kept ys) (omega (arith, many))
            ∙ sym (ap (take n) (firsts-append [] xs ys) ∙ take_front n found (firsts same xs ys) (omega (arith, many)))
        | inr few ↦
            let all : kept ≡ found = take_all n found few in
            ap (take n) (again ∙ ap (λ zs. zs ++ firsts same zs ys) all ∙ ap (λ zs. found ++ zs) (firsts_same found xs ys (left_same [] xs)) ∙ sym (firsts-append [] xs ys))
      ]

-- ---- ports and flow entries

ports_alike : (x y z : PortStats) → is_same_port x z ≡ true → is_same_port y z ≡ is_same_port y x
ports_alike x y z is = ap (λ (n : ℕ). y.no == n) (sym (eqb-true x.no z.no is))

and_both : (a b : Bool) → (a && b) ≡ true → (a ≡ true) × (b ≡ true)
and_both true b is = (refl, is)
and_both false b is = absurd (true≢false (sym is))

flows_alike : (x y z : Flow) → is_same_flow x z ≡ true → is_same_flow y z ≡ is_same_flow y x
flows_alike x y z is =
    let first = and_both (x.table == z.table) ((x.priority == z.priority) && bytes_eq x.key z.key) is in
    let second = and_both (x.priority == z.priority) (bytes_eq x.key z.key) first.1 in
    let table : z.table ≡ x.table = sym (eqb-true x.table z.table first.0) in
    let priority : z.priority ≡ x.priority = sym (eqb-true x.priority z.priority second.0) in
    let key : z.key ≡ x.key = sym ((bytes_eq-Decides x.key z.key).0 second.1) in
    λ i. (y.table == table i) && ((y.priority == priority i) && bytes_eq y.key (key i))

pub ports_again : (xs ys : List PortStats) → counted_ports (counted_ports xs ++ ys) ≡ counted_ports (xs ++ ys)
unfolding counted_ports
ports_again xs ys = counted_more is_same_port ports_alike most_ports xs ys

pub flows_again : (xs ys : List Flow) → counted_flows (counted_flows xs ++ ys) ≡ counted_flows (xs ++ ys)
unfolding counted_flows
flows_again xs ys = counted_more is_same_flow flows_alike most_flows xs ys
