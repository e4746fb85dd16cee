-- Lists that are joined of others, and addresses that are kept once.
use Rattle.std.proofs.Common.{◌≡◌, ℕ, ◌+◌, ◌<◌, Bool, true, false, cond, not, ◌||◌, if◌then◌else◌, inl, inr, List, [], ◌∷◌, ◌++◌, map, filter, length, take, get_or, refl, sym, ap, ◌∙◌, true≢false, append-nil}
use Rattle.std.specs.List.{AllByRecursion, list_any, flat_map}
use Rattle.std.proofs.lemmas.Bool.{cases_Bool}
use Rattle.std.proofs.lemmas.List.{append_assoc, map-append, take_more}
use Rattle.std.proofs.lemmas.List.Concat.{flat_map-append}
use Rattle.std.proofs.lemmas.List.Elements.{filter-append}
use Rattle.net_base.specs.declared.address.Mac.{Mac}
use Rattle.conf_types.specs.declared.vlan.Vlan.{Vlan}
use Rattle.conf_types.specs.Lists.{EachBefore, is_same}
use Rattle.plan_base.proofs.Each.{all_filter}
use Rattle.plan_units.specs.Agrees.{same_bytes, equal_bytes}
use Rattle.plan_units.specs.Fixed.{once}

-- ---- one more member of a list that is joined of others

pub flat_more : {A B : Type 0} (f : A → List B) (before : List B) (xs : List A) (i : ℕ) (x : A) → i < length xs → x ≡ get_or xs i x → (before ++ flat_map f (take i xs)) ++ f x ≡ before ++ flat_map f (take (i + 1) xs)
flat_more f before xs i x lt is =
    append_assoc before (flat_map f (take i xs)) (f x)
    ∙ ap (λ l. before ++ l) (sym (ap (flat_map f) (take_more xs i x lt) ∙ flat_map-append f (take i xs) (get_or xs i x ∷ []) ∙ ap (λ y. flat_map f (take i xs) ++ (f y ++ [])) (sym is) ∙ ap (λ l. flat_map f (take i xs) ++ l) (append-nil (f x))))

-- ---- each address once

abbrev others : Mac → List Mac → List Mac
others y macs = filter (λ m. not (is_same m.0 y.0)) macs

abbrev pub has : List Mac → Mac → Bool
has macs mac = list_any (λ m. is_same m.0 mac.0) macs

turned : (a b : Mac) (is : Bool) → is_same a.0 b.0 ≡ is → is_same b.0 a.0 ≡ is
turned a b true e = equal_bytes b.0 a.0 (sym (same_bytes a.0 b.0 e))
turned a b false e = by (is_same b.0 a.0) refl
  where
    by : (t : Bool) → is_same b.0 a.0 ≡ t → is_same b.0 a.0 ≡ false
    by false is = is
    by true is = absurd (true≢false (sym (equal_bytes a.0 b.0 (sym (same_bytes b.0 a.0 is))) ∙ e))

-- what is left out isn't asked for
has_others : (y n : Mac) (macs : List Mac) → is_same y.0 n.0 ≡ false → has (others y macs) n ≡ has macs n
has_others y n [] ne = refl
has_others y n (z ∷ zs) ne = elim (cases_Bool (is_same z.0 y.0)) [
  | inl same ↦
      ap (λ b. has (cond (not b) (z ∷ others y zs) (others y zs)) n) same ∙ has_others y n zs ne
      ∙ ap (λ b. b || has zs n) (sym (ap (λ bytes. is_same bytes n.0) (same_bytes z.0 y.0 same) ∙ ne))
  | inr other ↦
      ap (λ b. has (cond (not b) (z ∷ others y zs) (others y zs)) n) other ∙ ap (λ b. is_same z.0 n.0 || b) (has_others y n zs ne)
]

abbrev pub with_one : List Mac → Mac → List Mac
with_one macs n = if has macs n then macs else macs ++ n ∷ []

pub with_new : (macs : List Mac) (n : Mac) → has macs n ≡ false → macs ++ n ∷ [] ≡ with_one macs n
with_new macs n is = rw is refl

pub with_old : (macs : List Mac) (n : Mac) → has macs n ≡ true → macs ≡ with_one macs n
with_old macs n is = rw is refl

pub once_more : (macs : List Mac) (n : Mac) → once (macs ++ n ∷ []) ≡ with_one (once macs) n
once_more [] n = refl
once_more (y ∷ macs) n = ap (λ l. y ∷ others y l) (once_more macs n) ∙ elim (cases_Bool (is_same y.0 n.0)) [
  | inl same ↦ here same
  | inr other ↦ behind other
]
  where
    start : List Mac
    start = y ∷ others y (once macs)

    nothing_new : is_same y.0 n.0 ≡ true → (b : Bool) → others y (cond b (once macs) (once macs ++ n ∷ [])) ≡ others y (once macs)
    nothing_new same true = refl
    nothing_new same false =
        filter-append (λ m. not (is_same m.0 y.0)) (once macs) (n ∷ []) ∙ ap (λ b. others y (once macs) ++ cond (not b) (n ∷ []) []) (turned y n true same) ∙ append-nil (others y (once macs))

    here : is_same y.0 n.0 ≡ true → y ∷ others y (with_one (once macs) n) ≡ with_one (y ∷ others y (once macs)) n
    here same =
        ap (λ l. y ∷ l) (nothing_new same (has (once macs) n)) ∙ sym (ap (λ b. cond (b || has (others y (once macs)) n) start (start ++ n ∷ [])) same)

    added : is_same y.0 n.0 ≡ false → (b : Bool) → y ∷ others y (cond b (once macs) (once macs ++ n ∷ [])) ≡ cond b start (start ++ n ∷ [])
    added other true = refl
    added other false =
        ap (λ l. y ∷ l) (filter-append (λ m. not (is_same m.0 y.0)) (once macs) (n ∷ []) ∙ ap (λ b. others y (once macs) ++ cond (not b) (n ∷ []) []) (turned y n false other))

    behind : is_same y.0 n.0 ≡ false → y ∷ others y (with_one (once macs) n) ≡ with_one (y ∷ others y (once macs)) n
    behind other =
        added other (has (once macs) n) ∙ ap (λ b. cond b start (start ++ n ∷ [])) (sym (has_others y n (once macs) other))
        ∙ sym (ap (λ b. cond (b || has (others y (once macs)) n) start (start ++ n ∷ [])) other)

-- the address of one VLAN more
pub gateways_more : (vlans : List Vlan) (i : ℕ) (v : Vlan) → i < length vlans → v ≡ get_or vlans i v → once (map (λ w. w.mac) (take (i + 1) vlans)) ≡ with_one (once (map (λ w. w.mac) (take i vlans))) v.mac
gateways_more vlans i v lt is =
    let mac : Vlan → Mac = λ w. w.mac in
    ap (λ l. once (map mac l)) (take_more vlans i v lt) ∙ ap once (map-append mac (take i vlans) (get_or vlans i v ∷ [])) ∙ once_more (map mac (take i vlans)) (get_or vlans i v).mac
    ∙ ap (λ (w : Vlan). with_one (once (map mac (take i vlans))) w.mac) (sym is)

-- ---- members that are kept

pub kept_before : {A : Type 0} (R : A → A → Type 0) (p : A → Bool) (xs : List A) → EachBefore R xs → EachBefore R (filter p xs)
kept_before R p [] all = tt
kept_before {A = A} R p (x ∷ xs) all = by (p x) (all_filter (R x) p xs all.0) (kept_before R p xs all.1)
  where
    by : (b : Bool) → AllByRecursion (R x) (filter p xs) → EachBefore R (filter p xs) → EachBefore R (cond b (x ∷ filter p xs) (filter p xs))
    by true h more = (h, more)
    by false h more = more

pub all_pass : {A : Type 0} (p : A → Bool) (xs : List A) → AllByRecursion (λ x. p x ≡ true) (filter p xs)
all_pass p [] = tt
all_pass p (x ∷ xs) = by (p x) refl (all_pass p xs)
  where
    by : (b : Bool) → p x ≡ b → AllByRecursion (λ y. p y ≡ true) (filter p xs) → AllByRecursion (λ y. p y ≡ true) (cond b (x ∷ filter p xs) (filter p xs))
    by true e more = (e, more)
    by false e more = more
