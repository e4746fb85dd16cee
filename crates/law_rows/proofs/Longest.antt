-- The longest of the items that hold an address.
use Rattle.std.specs.Prelude.{◌≡◌, ◌⊎◌, zero, suc, ◌-◌, ◌/◌, ◌^◌, ◌≤◌, ◌==◌, Bool, true, false, cond, List, [], ◌∷◌, filter, nat_lt, Some, None, Contains, if◌then◌else◌}
use Rattle.std.specs.List.{fold, reduce}
use Rattle.std.proofs.Common.{refl, sym, ◌∙◌, subst, arith, inl, inr, true≢false, eqb-true, eq-eqb}
use Rattle.std.proofs.lemmas.Bool.{and_parts, and_from, ltb-true, ltb-false}
use Rattle.std.proofs.lemmas.Option.{same_Some, none-some}
use Rattle.conf_types.specs.declared.address.Ip.{Ip}
use Rattle.conf_types.specs.Families.{ip_value, width_of, is_same_family}
use Rattle.conf_types.proofs.Families.{same_family, is_of_family}
use Rattle.packet_way.specs.declared.routes.RouteItem.{RouteItem}
use Rattle.packet_way.specs.Routes.{item_holds, longer, longest}
use Rattle.law_rows.specs.Longest.{HasPrefix, IsLongestFor}

-- ---- members

head_of : {A : Type 0} (x : A) (xs : List A) → Contains (x ∷ xs) x
head_of x xs = (zero, omega arith, refl)

tail_of : {A : Type 0} (x : A) (xs : List A) (y : A) → Contains xs y → Contains (x ∷ xs) y
tail_of x xs y (k, lt, is) = (suc k, omega (arith, lt), is)

no_member : {A : Type 0} (y : A) → Contains [] y → ⊥
no_member y (k, lt, is) = omega (arith, lt)

by_member : {A : Type 0} (P : A → Type 0) (x : A) (xs : List A) → P x → ((y : A) → Contains xs y → P y) → (y : A) → Contains (x ∷ xs) y → P y
by_member P x xs here more y (zero, lt, is) = subst P is here
by_member P x xs here more y (suc k, lt, is) = more y (k, omega (arith, lt), is)

of_filtered : {A : Type 0} (t : A → Bool) (xs : List A) (y : A) → Contains (filter t xs) y → Contains xs y × (t y ≡ true)
of_filtered t [] y c = absurd (no_member y c)
of_filtered {A = A} t (x ∷ xs) y c = by (λ z d. of_filtered t xs z d) (t x) refl c
  where
    Kept : A → Type 0
    Kept z = Contains (x ∷ xs) z × (t z ≡ true)

    later : (z : A) → Contains xs z × (t z ≡ true) → Kept z
    later z m = (tail_of x xs z m.0, m.1)

    by : ((z : A) → Contains (filter t xs) z → Contains xs z × (t z ≡ true)) → (b : Bool) → t x ≡ b → Contains (cond b (x ∷ filter t xs) (filter t xs)) y → Kept y
    by more true is d = by_member Kept x (filter t xs) (head_of x xs, is) (λ z e. later z (more z e)) y d
    by more false is d = later y (more y d)

in_filtered : {A : Type 0} (t : A → Bool) (xs : List A) (y : A) → Contains xs y → t y ≡ true → Contains (filter t xs) y
in_filtered t [] y c is = absurd (no_member y c)
in_filtered {A = A} t (x ∷ xs) y c is = by (λ z d passes. in_filtered t xs z d passes) (t x) refl
  where
    by : ((z : A) → Contains xs z → t z ≡ true → Contains (filter t xs) z) → (b : Bool) → t x ≡ b → Contains (cond b (x ∷ filter t xs) (filter t xs)) y
    by more true first = by_member (λ z. t z ≡ true → Contains (x ∷ filter t xs) z) x xs (λ passes. head_of x (filter t xs)) (λ z d passes. tail_of x (filter t xs) z (more z d passes)) y c is
    by more false first = by_member (λ z. t z ≡ true → Contains (filter t xs) z) x xs (λ passes. absurd (true≢false (sym passes ∙ first))) (λ z d passes. more z d passes) y c is

-- ---- of two items, and of all

one_of_two : (a b : RouteItem) → ((longer a b ≡ a) ⊎ (longer a b ≡ b)) × (a.len ≤ (longer a b).len) × (b.len ≤ (longer a b).len)
one_of_two a b = by (nat_lt a.len b.len) refl
  where
    by : (t : Bool) → nat_lt a.len b.len ≡ t → (((if t then b else a) ≡ a) ⊎ ((if t then b else a) ≡ b)) × (a.len ≤ (if t then b else a).len) × (b.len ≤ (if t then b else a).len)
    by true is = (inr refl, omega (arith, ltb-true a.len b.len is), omega arith)
    by false is = (inl refl, omega arith, omega (arith, ltb-false a.len b.len is))

record IsBest (items : List RouteItem) (c : RouteItem) : Type 0 where
  within : Contains items c
  most : (x : RouteItem) → Contains items x → x.len ≤ c.len

best : (a : RouteItem) (items : List RouteItem) → IsBest (a ∷ items) (fold longer a items)
best a [] = record { within = head_of a []; most = λ x c. by_member (λ y. y.len ≤ a.len) a [] (omega arith) (λ y d. absurd (no_member y d)) x c }
best a (b ∷ items) = more (best (longer a b) items)
  where
    end : RouteItem
    end = fold longer (longer a b) items

    two : ((longer a b ≡ a) ⊎ (longer a b ≡ b)) × (a.len ≤ (longer a b).len) × (b.len ≤ (longer a b).len)
    two = one_of_two a b

    chosen : (longer a b ≡ a) ⊎ (longer a b ≡ b) → Contains (a ∷ b ∷ items) (longer a b)
    chosen (inl e) = subst (Contains (a ∷ b ∷ items)) (sym e) (head_of a (b ∷ items))
    chosen (inr e) = subst (Contains (a ∷ b ∷ items)) (sym e) (tail_of a (b ∷ items) b (head_of b items))

    more : IsBest (longer a b ∷ items) end → IsBest (a ∷ b ∷ items) end
    more is =
        let first = is.most (longer a b) (head_of (longer a b) items) in
        record {
          within = by_member (Contains (a ∷ b ∷ items)) (longer a b) items (chosen two.0) (λ y c. tail_of a (b ∷ items) y (tail_of b items y c)) end is.within;
          most = λ x c. by_member (λ y. y.len ≤ end.len) a (b ∷ items) (omega (arith, two.1, first)) (λ y d. by_member (λ z. z.len ≤ end.len) b items (omega (arith, two.2, first)) (λ z e. is.most z (tail_of (longer a b) items z e)) y d) x c;
        }

-- ---- the one that is taken

has_prefix : (ip : Ip) (item : RouteItem) → item_holds ip item ≡ true → HasPrefix ip item
has_prefix ip item is =
    let behind = width_of item.ip - item.len in
    let parts = and_parts (is_same_family ip item.ip) (ip_value ip / 2 ^ behind == ip_value item.ip / 2 ^ behind) is in
    record { family = same_family ip item.ip parts.0; bits = eqb-true (ip_value ip / 2 ^ behind) (ip_value item.ip / 2 ^ behind) parts.1 }

holds : (ip : Ip) (item : RouteItem) → HasPrefix ip item → item_holds ip item ≡ true
holds ip item is =
    let behind = width_of item.ip - item.len in
    and_from (is_same_family ip item.ip) (ip_value ip / 2 ^ behind == ip_value item.ip / 2 ^ behind) (is_of_family ip item.ip is.family) (eq-eqb (ip_value ip / 2 ^ behind) (ip_value item.ip / 2 ^ behind) is.bits)

pub taken : (items : List RouteItem) (ip : Ip) (item : RouteItem) → longest items ip ≡ Some item → IsLongestFor items ip item
unfolding longest
taken items ip item is = by (filter (item_holds ip) items) refl is
  where
    by : (held : List RouteItem) → filter (item_holds ip) items ≡ held → reduce longer held ≡ Some item → IsLongestFor items ip item
    by [] held e = absurd (none-some item e)
    by (a ∷ more) held e =
        let same : fold longer a more ≡ item = same_Some (fold longer a more) item e in
        let b : IsBest (a ∷ more) item = subst (IsBest (a ∷ more)) same (best a more) in
        let k = of_filtered (item_holds ip) items item (subst (λ l. Contains l item) (sym held) b.within) in
        record {
          listed = k.0;
          holds = has_prefix ip item k.1;
          longest = λ other c has. b.most other (subst (λ l. Contains l other) held (in_filtered (item_holds ip) items other c (holds ip other has)));
        }

pub none_taken : (items : List RouteItem) (ip : Ip) → longest items ip ≡ None → (item : RouteItem) → Contains items item → HasPrefix ip item → ⊥
unfolding longest
none_taken items ip is item c has = by (filter (item_holds ip) items) refl is
  where
    by : (held : List RouteItem) → filter (item_holds ip) items ≡ held → reduce longer held ≡ None → ⊥
    by [] held e = no_member item (subst (λ l. Contains l item) held (in_filtered (item_holds ip) items item c (holds ip item has)))
    by (a ∷ more) held e = none-some (fold longer a more) (sym e)
