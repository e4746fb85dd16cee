-- The places of ports: as they are put into a table from the last to the first, and how many different ones there are.
use Rattle.std.proofs.Common.{◌≡◌, ℕ, ◌+◌, ◌<◌, ◌≤◌, ◌==◌, ◌&&◌, ◌||◌, Bool, true, false, cond, List, [], ◌∷◌, ◌++◌, append-nil, take, drop, length, get_or, count_by, Option, Some, refl, sym, ap, ◌∙◌, arith}
use Rattle.std.specs.List.{list_any}
use Rattle.std.specs.BTreeMap.{BTreeMap, get_by_text}
use Rattle.std.specs.Cmp.Lexicographic.{texts_ties, bytes_decides}
use Rattle.std.specs.Option.{option_map_or}
use Rattle.std.specs.declared.alloc.Global.{Global}
use Rattle.std.specs.declared.string.String.{String}
use Rattle.std.specs.declared.vec.Vec.{Vec}
use Rattle.std.proofs.Math.Bool.{or_assoc, or_comm}
use Rattle.std.proofs.lemmas.Bool.{eqb-true, ne_eqb}
use Rattle.std.proofs.lemmas.List.Folds.{list_any-append}
use Rattle.std.proofs.lemmas.List.Sums.{sum_by-cons}
use Rattle.conf_types.specs.declared.acl.PortRef.{PortRef}
use Rattle.conf_types.specs.declared.datapath.Port.{Port}
use Rattle.conf_types.specs.Attached.{is_named}
use Rattle.conf_types.specs.Lists.{is_among, is_same, different}
use Rattle.conf_limits.specs.PortPlaces.{stands_at, at_name}
use Rattle.conf_limits.proofs.Below.{count_below, below-none, below-same, below-more, different-below}
use Rattle.conf_rules.proofs.Earlier.{any_more}
use Rattle.conf_limits.proofs.Exchanged.{any-none, any-or, any-and}
use Rattle.conf_rules.proofs.First.{drop-past, next}

-- of none
pub no_places : (ps : List Port) (i : ℕ) (test : Port → Bool) (at : ℕ) → length ps ≤ i → false ≡ stands_at i (drop i ps) test at
no_places ps i test at past = sym (ap (λ (qs : List Port). stands_at i qs test at) (drop-past ps i past))

among_one : (b : Bool) (i at : ℕ) → is_among (cond b (i ∷ []) []) at ≡ (i == at && b)
among_one true i at = none (i == at)
  where
    none : (b : Bool) → (b || false) ≡ (b && true)
    none true = refl
    none false = refl
among_one false i at = none (i == at)
  where
    none : (b : Bool) → false ≡ (b && false)
    none true = refl
    none false = refl

-- of one more, before the others
pub places_more : (ps : List Port) (k i at : ℕ) (p : Port) (test : Port → Bool) (before after : List ℕ) → k ≡ i + 1 → i < length ps → p ≡ get_or ps i p
    → is_among before at ≡ stands_at k (drop k ps) test at → after ≡ before ++ cond (test p) (i ∷ []) [] → is_among after at ≡ stands_at i (drop i ps) test at
places_more ps k i at p test before after behind less is so_far further =
    ap (λ xs. is_among xs at) further
    ∙ list_any-append (λ x. x == at) before (cond (test p) (i ∷ []) [])
    ∙ ap (λ b. is_among before at || b) (among_one (test p) i at)
    ∙ or_comm (is_among before at) (i == at && test p)
    ∙ ap (λ b. (i == at && test p) || b) (so_far ∙ ap (λ j. stands_at j (drop j ps) test at) behind)
    ∙ sym (ap (λ (qs : List Port). stands_at i qs test at) (next ps ps i p refl less is))

-- what a name more says, behind those so far
pub named_more : (says : PortRef → Bool) (xs : List PortRef) (i at : ℕ) (x : PortRef) (was : Bool) (before here after : List ℕ) → i < length xs → x ≡ get_or xs i x
    → is_among before at ≡ (was || list_any says (take i xs)) → is_among here at ≡ says x → after ≡ before ++ here → is_among after at ≡ (was || list_any says (take (i + 1) xs))
named_more says xs i at x was before here after less is so_far said further =
    ap (λ ns. is_among ns at) further
    ∙ list_any-append (λ n. n == at) before here
    ∙ ap (λ b. b || is_among here at) so_far
    ∙ ap (λ b. (was || list_any says (take i xs)) || b) said
    ∙ or_assoc was (list_any says (take i xs)) (says x)
    ∙ ap (λ b. was || b) (sym (any_more says xs xs i x refl less is))

-- a place more that a name leads to
pub name_more : (name : List ℕ) (m n : BTreeMap (String Global) (Vec ℕ Global)) (all : Vec ℕ Global) (at : ℕ) → ((t : List ℕ) → get_by_text n t ≡ cond (is_same name t) (Some all) (get_by_text m t))
    → all.items ≡ at_name m name ++ at ∷ [] → (t : List ℕ) → at_name n t ≡ at_name m t ++ cond (is_same name t) (at ∷ []) []
name_more name m n all at put is t = ap (λ (o : Option (Vec ℕ Global)). option_map_or (λ v. v.items) o []) (put t) ∙ by (is_same name t) refl
  where
    by : (b : Bool) → is_same name t ≡ b → option_map_or (λ (v : Vec ℕ Global). v.items) (cond (is_same name t) (Some all) (get_by_text m t)) [] ≡ at_name m t ++ cond (is_same name t) (at ∷ []) []
    by true h =
        let same : name ≡ t = (bytes_decides name t).0 (texts_ties name t ∙ h) in
        rw h (is ∙ ap (λ s. at_name m s ++ at ∷ []) same)
    by false h = rw h (sym (append-nil (at_name m t)))

-- ---- how many there are

no_earlier : (from : ℕ) (ps : List Port) (test : Port → Bool) (at : ℕ) → at < from → stands_at from ps test at ≡ false
no_earlier from [] test at lt = refl
no_earlier from (p ∷ ps) test at lt =
    let apart : (from == at) ≡ false = ne_eqb from at (λ e. absurd (omega arith)) in
    ap (λ b. (b && test p) || stands_at (from + 1) ps test at) apart ∙ no_earlier (from + 1) ps test at (omega arith)

within : (from : ℕ) (ps : List Port) (test : Port → Bool) (at : ℕ) → stands_at from ps test at ≡ true → at < from + length ps
within from [] test at h = absurd (cc)
within from (p ∷ ps) test at h = by (within (from + 1) ps test at) (from == at) refl
  where
    by : (stands_at (from + 1) ps test at ≡ true → at < from + 1 + length ps) → (b : Bool) → (from == at) ≡ b → at < from + length (p ∷ ps)
    by rest true e =
        let same : from ≡ at = eqb-true from at e in
        omega arith
    by rest false e =
        let further : at < from + 1 + length ps = rest (sym (ap (λ b. (b && test p) || stands_at (from + 1) ps test at) e) ∙ h) in
        omega arith

counted : (from : ℕ) (ps : List Port) (test : Port → Bool) (n : ℕ) → from + length ps ≤ n → count_by test ps ≡ count_below (stands_at from ps test) n
counted from [] test n le = sym (below-none (stands_at from [] test) (λ m. refl) n)
counted from (p ∷ ps) test n le = sum_by-cons (λ q. cond (test q) 1 0) p ps ∙ by (counted (from + 1) ps test n (omega arith)) (test p) refl
  where
    yes : (b : Bool) → (b && true) ≡ b
    yes true = refl
    yes false = refl

    no : (b c : Bool) → ((b && false) || c) ≡ c
    no true c = refl
    no false c = refl

    by : count_by test ps ≡ count_below (stands_at (from + 1) ps test) n → (b : Bool) → test p ≡ b → cond (test p) 1 0 + count_by test ps ≡ count_below (stands_at from (p ∷ ps) test) n
    by rest true h =
        let one : cond (test p) 1 0 + count_by test ps ≡ 1 + count_by test ps = ap (λ b. cond b 1 0 + count_by test ps) h in
        let here : from < n = omega arith in
        let more : count_below (stands_at from (p ∷ ps) test) n ≡ 1 + count_below (stands_at (from + 1) ps test) n =
        below-more (stands_at (from + 1) ps test) (stands_at from (p ∷ ps) test) from
        (λ m. ap (λ b. (from == m && b) || stands_at (from + 1) ps test m) h ∙ ap (λ b. b || stands_at (from + 1) ps test m) (yes (from == m)))
        (no_earlier (from + 1) ps test from (omega arith)) n here in
        let sum : cond (test p) 1 0 + count_by test ps ≡ count_below (stands_at from (p ∷ ps) test) n = omega arith in
        sum
    by rest false h =
        let none : cond (test p) 1 0 + count_by test ps ≡ 0 + count_by test ps = ap (λ b. cond b 1 0 + count_by test ps) h in
        let same : count_below (stands_at from (p ∷ ps) test) n ≡ count_below (stands_at (from + 1) ps test) n =
        below-same (stands_at from (p ∷ ps) test) (stands_at (from + 1) ps test)
        (λ m. ap (λ b. (from == m && b) || stands_at (from + 1) ps test m) h ∙ no (from == m) (stands_at (from + 1) ps test m)) n in
        let sum : cond (test p) 1 0 + count_by test ps ≡ count_below (stands_at from (p ∷ ps) test) n = omega arith in
        sum

-- of places among which are those of the ports that pass, and no others
pub different-places : (xs : List ℕ) (ps : List Port) (test : Port → Bool) → ((at : ℕ) → is_among xs at ≡ stands_at 0 ps test at) → different xs ≡ count_by test ps
different-places xs ps test same =
    let most : 0 + length ps ≤ length ps = omega arith in
    different-below xs (length ps) (λ at h. let less = within 0 ps test at (sym (same at) ∙ h) in omega arith)
    ∙ below-same (is_among xs) (stands_at 0 ps test) same (length ps)
    ∙ sym (counted 0 ps test (length ps) most)

-- the ports that one of these names stands for
pub places-named : (from : ℕ) (ps : List Port) (names : List PortRef) (at : ℕ) → list_any (λ name. stands_at from ps (is_named name) at) names ≡ stands_at from ps (λ p. list_any (λ name. is_named name p) names) at
places-named from [] names at = any-none names
places-named from (p ∷ ps) names at =
    any-or (λ name. from == at && is_named name p) (λ name. stands_at (from + 1) ps (is_named name) at) names
    ∙ ap (λ b. b || list_any (λ name. stands_at (from + 1) ps (is_named name) at) names) (any-and (from == at) (λ name. is_named name p) names)
    ∙ ap (λ b. (from == at && list_any (λ name. is_named name p) names) || b) (places-named (from + 1) ps names at)
