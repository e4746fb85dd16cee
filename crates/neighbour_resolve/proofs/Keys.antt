-- What each call leaves are some of the neighbours that were there, no two of one key.
use Rattle.std.proofs.Common.{◌≡◌, ℕ, ◌<◌, ◌≤◌, ◌==◌, ◌&&◌, ◌||◌, ◌++◌, Bool, true, false, cond, Option, Some, None, List, [], ◌∷◌, length, filter, not, nat_lt, nat_le, inl, inr, refl, sym, ap, ◌∙◌, arith, subst, eq-eqb, eqb-true, length-append, if◌then◌else◌}
use Rattle.std.specs.List.{AllByRecursion, list_any, filter_map}
use Rattle.std.specs.Option.{option_map_or}
use Rattle.std.proofs.lemmas.Bool.{and_parts, and_from, false≢true}
use Rattle.std.proofs.lemmas.Bool.Decides.{nat_tests}
use Rattle.net_base.specs.declared.numbers.DpId.{DpId}
use Rattle.conf_types.specs.declared.state.NeighRec.{NeighRec}
use Rattle.conf_types.specs.Configuration.{Configuration}
use Rattle.conf_types.specs.Families.{is_same_ip}
use Rattle.conf_types.specs.Lists.{EachBefore}
use Rattle.conf_types.specs.State.{IsSameNeighbour}
use Rattle.conf_types.proofs.Families.{is_that_ip, same_ip}
use Rattle.neighbour_resolve.specs.Due.{after_due, asked, asked_on, is_due, is_gateway, most_tries, next}
use Rattle.neighbour_resolve.specs.Kept.{kept_neighbours, last_of_each, may_stay, regrouped}
use Rattle.neighbour_resolve.specs.Parts.{AreSomeOf}
use Rattle.neighbour_resolve.specs.declared.neighbour.Want.{Want}
use Rattle.neighbour_resolve.specs.declared.neighbour.Want.TheVariants.{Added, Known, Full}
use Rattle.neighbour_resolve.specs.Table.{IsTable, outcome, gives_way, is_known, is_same, neighbours_after, replaced}

-- ---- one key

pub same_self : (n : NeighRec) → IsSameNeighbour n n
same_self n = record { groups = refl; vlans = refl; ips = refl }

pub same_back : (a b : NeighRec) → IsSameNeighbour a b → IsSameNeighbour b a
same_back a b same = record { groups = sym same.groups; vlans = sym same.vlans; ips = sym same.ips }

pub same_on : (a b c : NeighRec) → IsSameNeighbour a b → IsSameNeighbour b c → IsSameNeighbour a c
same_on a b c p q = record { groups = p.groups ∙ q.groups; vlans = p.vlans ∙ q.vlans; ips = p.ips ∙ q.ips }

pub same_true : (a b : NeighRec) → is_same a b ≡ true → IsSameNeighbour a b
same_true a b is =
    let both = and_parts (a.group.0 == b.group.0 && a.vid == b.vid) (is_same_ip a.ip b.ip) is in
    let two = and_parts (a.group.0 == b.group.0) (a.vid == b.vid) both.0 in
    record { groups = eqb-true a.group.0 b.group.0 two.0; vlans = eqb-true a.vid b.vid two.1; ips = same_ip a.ip b.ip both.1 }

pub same_is : (a b : NeighRec) → IsSameNeighbour a b → is_same a b ≡ true
same_is a b same =
    and_from (a.group.0 == b.group.0 && a.vid == b.vid) (is_same_ip a.ip b.ip) (and_from (a.group.0 == b.group.0) (a.vid == b.vid) (eq-eqb a.group.0 b.group.0 same.groups) (eq-eqb a.vid b.vid same.vlans)) (is_that_ip a.ip b.ip same.ips)

pub same_false : (a b : NeighRec) → is_same a b ≡ false → IsSameNeighbour a b → ⊥
same_false a b off same = false≢true (sym off ∙ same_is a b same)

abbrev pub AreApart : NeighRec → NeighRec → Type 0
AreApart a b = IsSameNeighbour a b → ⊥

-- ---- lists

pub all_map : {A : Type 0} (P Q : A → Type 0) → ((x : A) → P x → Q x) → (xs : List A) → AllByRecursion P xs → AllByRecursion Q xs
all_map P Q f [] all = tt
all_map P Q f (x ∷ xs) all = (f x all.0, all_map P Q f xs all.1)

pub all_push : {A : Type 0} (P : A → Type 0) (xs : List A) (y : A) → AllByRecursion P xs → P y → AllByRecursion P (xs ++ y ∷ [])
all_push P [] y all here = (here, tt)
all_push P (x ∷ xs) y all here = (all.0, all_push P xs y all.1 here)

before_push : {A : Type 0} (R : A → A → Type 0) (xs : List A) (y : A) → EachBefore R xs → AllByRecursion (λ x. R x y) xs → EachBefore R (xs ++ y ∷ [])
before_push R [] y before each = (tt, tt)
before_push R (x ∷ xs) y before each = (all_push (R x) xs y before.0 each.0, before_push R xs y before.1 each.1)

-- ---- some of others

pub some_skip : (xs : List NeighRec) (y : NeighRec) (ys : List NeighRec) → AreSomeOf xs ys → AreSomeOf xs (y ∷ ys)
some_skip [] y ys some = tt
some_skip (x ∷ xs) y ys some = inr some

pub some_self : (xs : List NeighRec) → AreSomeOf xs xs
some_self [] = tt
some_self (x ∷ xs) = inl (same_self x, some_self xs)

pub some_fewer : (xs ys : List NeighRec) → AreSomeOf xs ys → length xs ≤ length ys
some_fewer [] ys some = omega arith
some_fewer (x ∷ xs) [] some = absurd some
some_fewer (x ∷ xs) (y ∷ ys) some =
    elim some [
      | inl here ↦ omega (arith, some_fewer xs ys here.1)
      | inr later ↦ omega (arith, some_fewer (x ∷ xs) ys later)
    ]

-- what holds of a neighbour by its key holds of those that are left
pub some_each : (P : NeighRec → Type 0) → ((a b : NeighRec) → IsSameNeighbour a b → P b → P a) → (xs ys : List NeighRec) → AreSomeOf xs ys → AllByRecursion P ys → AllByRecursion P xs
some_each P by_key [] ys some all = tt
some_each P by_key (x ∷ xs) [] some all = absurd some
some_each P by_key (x ∷ xs) (y ∷ ys) some all =
    elim some [
      | inl here ↦ (by_key x y here.0 all.0, some_each P by_key xs ys here.1 all.1)
      | inr later ↦ some_each P by_key (x ∷ xs) ys later all.1
    ]

apart_by_key : (y a b : NeighRec) → IsSameNeighbour a b → AreApart y b → AreApart y a
apart_by_key y a b same apart other = apart (same_on y a b other same)

pub some_keys : (xs ys : List NeighRec) → AreSomeOf xs ys → EachBefore AreApart ys → EachBefore AreApart xs
some_keys [] ys some before = tt
some_keys (x ∷ xs) [] some before = absurd some
some_keys (x ∷ xs) (y ∷ ys) some before =
    elim some [
      | inl here ↦
          (some_each (AreApart x) (apart_by_key x) xs ys here.1 (all_map (AreApart y) (AreApart x) (λ z apart same. apart (same_on y x z (same_back x y here.0) same)) ys before.0), some_keys xs ys here.1 before.1)
      | inr later ↦ some_keys (x ∷ xs) ys later before.1
    ]

pub some_table : (limit : ℕ) (xs ys : List NeighRec) → AreSomeOf xs ys → IsTable (record { limit = limit; neighbours = ys }) → IsTable (record { limit = limit; neighbours = xs })
some_table limit xs ys some is = record { within = omega (arith, some_fewer xs ys some, is.within); keys = some_keys xs ys some is.keys }

-- ---- what each call leaves

pub replaced_some : (stays : NeighRec → Bool) (told : NeighRec) (ns : List NeighRec) → AreSomeOf (replaced stays told ns) ns
replaced_some stays told [] = tt
replaced_some stays told (n ∷ ns) = inl (one (gives_way stays told n) refl, replaced_some stays told ns) where
  one : (b : Bool) → gives_way stays told n ≡ b → IsSameNeighbour (if b then told else n) n
  one true is = same_true told n (and_parts (is_same told n) (not (stays n)) is).0
  one false is = same_self n

pub filter_some : (p : NeighRec → Bool) (ns : List NeighRec) → AreSomeOf (filter p ns) ns
filter_some p [] = tt
filter_some p (n ∷ ns) =
    elim (p n) as (λ b. AreSomeOf (cond b (n ∷ filter p ns) (filter p ns)) (n ∷ ns)) [
      | true ↦ inl (same_self n, filter_some p ns)
      | false ↦ some_skip (filter p ns) n ns (filter_some p ns)
    ]

same_key : (a b : NeighRec) → a.group.0 ≡ b.group.0 → a.vid ≡ b.vid → a.ip ≡ b.ip → IsSameNeighbour a b
same_key a b groups vlans ips = record { groups = groups; vlans = vlans; ips = ips }

next_some : (conf : Configuration) (moment : ℕ) (n : NeighRec) (ns : List NeighRec) → AreSomeOf (option_map_or (λ m. m ∷ ns) (next conf moment n) ns) (n ∷ ns)
next_some conf moment n ns =
    elim (nat_lt n.tries most_tries) as (λ b. AreSomeOf (option_map_or (λ m. m ∷ ns) (if b then Some (asked moment n) else if is_gateway conf n then Some (asked_on moment n) else None) ns) (n ∷ ns)) [
      | true ↦ inl (same_key (asked moment n) n refl refl refl, some_self ns)
      | false ↦
          elim (is_gateway conf n) as (λ b. AreSomeOf (option_map_or (λ m. m ∷ ns) (if b then Some (asked_on moment n) else None) ns) (n ∷ ns)) [
            | true ↦ inl (same_key (asked_on moment n) n refl refl refl, some_self ns)
            | false ↦ some_skip ns n ns (some_self ns)
          ]
    ]

pub due_some : (conf : Configuration) (moment : ℕ) (ns : List NeighRec) → AreSomeOf (after_due conf moment ns) ns
due_some conf moment [] = tt
due_some conf moment (n ∷ ns) =
    elim (is_due moment n) as (λ b. AreSomeOf (cond b (option_map_or (λ m. m ∷ ns) (next conf moment n) ns) (n ∷ after_due conf moment ns)) (n ∷ ns)) [
      | true ↦ next_some conf moment n ns
      | false ↦ inl (same_self n, due_some conf moment ns)
    ]

pub last_some : (ns : List NeighRec) → AreSomeOf (last_of_each ns) ns
last_some [] = tt
last_some (n ∷ ns) =
    elim (list_any (is_same n) ns) as (λ b. AreSomeOf (cond b (last_of_each ns) (n ∷ last_of_each ns)) (n ∷ ns)) [
      | true ↦ some_skip (last_of_each ns) n ns (last_some ns)
      | false ↦ inl (same_self n, last_some ns)
    ]

-- ---- one more, which is new

neither : (a b : Bool) → (a || b) ≡ false → (a ≡ false) × (b ≡ false)
neither true b is = absurd (false≢true (sym is))
neither false b is = (refl, is)

unknown : (told : NeighRec) (ns : List NeighRec) → list_any (is_same told) ns ≡ false → AllByRecursion (AreApart told) ns
unknown told [] is = tt
unknown told (n ∷ ns) is = let parts = neither (is_same told n) (list_any (is_same told) ns) is in (same_false told n parts.0, unknown told ns parts.1)

pub pushed_table : (limit : ℕ) (told : NeighRec) (ns : List NeighRec) → is_known ns told ≡ false → length ns < limit → IsTable (record { limit = limit; neighbours = ns }) → IsTable (record { limit = limit; neighbours = ns ++ told ∷ [] })
pushed_table limit told ns new room is = record {
  within = omega (arith, length-append ns (told ∷ []), room);
  keys = before_push AreApart ns told is.keys (all_map (AreApart told) (λ n. AreApart n told) (λ n apart same. apart (same_back n told same)) ns (unknown told ns new));
}

-- ---- what is told

told_known : (stays : NeighRec → Bool) (told : NeighRec) (limit : ℕ) (ns : List NeighRec) (known full : Bool) → is_known ns told ≡ known → nat_le limit (length ns) ≡ full → IsTable (record { limit = limit; neighbours = ns })
    → IsTable (record { limit = limit; neighbours = neighbours_after stays told ns (if known then Known else if full then Full else Added) })
told_known stays told limit ns true full is_known is_full is = some_table limit (replaced stays told ns) ns (replaced_some stays told ns) is
told_known stays told limit ns false true is_known is_full is = is
told_known stays told limit ns false false is_known is_full is = pushed_table limit told ns is_known (grind (arith, nat_tests)) is

pub told_table : (stays : NeighRec → Bool) (told : NeighRec) (limit : ℕ) (ns : List NeighRec) → IsTable (record { limit = limit; neighbours = ns })
    → IsTable (record { limit = limit; neighbours = neighbours_after stays told ns (outcome (record { limit = limit; neighbours = ns }) told) })
told_table stays told limit ns is = told_known stays told limit ns (is_known ns told) (nat_le limit (length ns)) refl refl is

-- what holds of all by their keys, and of what is told
pub told_each : (P : NeighRec → Type 0) → ((a b : NeighRec) → IsSameNeighbour a b → P b → P a) → (stays : NeighRec → Bool) (told : NeighRec) (ns : List NeighRec) (said : Want) → P told → AllByRecursion P ns → AllByRecursion P (neighbours_after stays told ns said)
told_each P by_key stays told ns Known here all = some_each P by_key (replaced stays told ns) ns (replaced_some stays told ns) all
told_each P by_key stays told ns Full here all = all
told_each P by_key stays told ns Added here all = all_push P ns told all here

pub told_by : (stays : NeighRec → Bool) (told : NeighRec) (limit : ℕ) (ns after : List NeighRec) (said : Want) → said ≡ outcome (record { limit = limit; neighbours = ns }) told → after ≡ neighbours_after stays told ns said
    → IsTable (record { limit = limit; neighbours = ns }) → IsTable (record { limit = limit; neighbours = after })
told_by stays told limit ns after said answered left is =
    subst (λ list. IsTable (record { limit = limit; neighbours = list })) (sym (left ∙ ap (neighbours_after stays told ns) answered)) (told_table stays told limit ns is)

-- ---- of several with one key the last

last_one : (n : NeighRec) (ns : List NeighRec) (b : Bool) → list_any (is_same n) ns ≡ b → EachBefore AreApart (last_of_each ns) → EachBefore AreApart (cond b (last_of_each ns) (n ∷ last_of_each ns))
last_one n ns true is apart = apart
last_one n ns false is apart = (some_each (AreApart n) (apart_by_key n) (last_of_each ns) ns (last_some ns) (unknown n ns is), apart)

pub last_apart : (ns : List NeighRec) → EachBefore AreApart (last_of_each ns)
last_apart [] = tt
last_apart (n ∷ ns) = last_one n ns (list_any (is_same n) ns) refl (last_apart ns)

fewer_one : {A B : Type 0} (f : A → Option B) (x : A) (xs : List A) (o : Option B) → f x ≡ o → length (filter_map f xs) ≤ length xs → length (filter_map f (x ∷ xs)) ≤ length (x ∷ xs)
fewer_one f x xs (Some y) is fewer = rw is (omega (arith, fewer))
fewer_one f x xs None is fewer = rw is (omega (arith, fewer))

fewer_mapped : {A B : Type 0} (f : A → Option B) (xs : List A) → length (filter_map f xs) ≤ length xs
fewer_mapped f [] = omega arith
fewer_mapped f (x ∷ xs) = fewer_one f x xs (f x) refl (fewer_mapped f xs)

pub kept_table : (conf : Configuration) (running : List DpId) (limit : ℕ) (ns : List NeighRec) → length ns ≤ limit → IsTable (record { limit = limit; neighbours = kept_neighbours conf running ns })
kept_table conf running limit ns within =
    let moved = filter_map (regrouped conf) ns in
    let staying = filter (may_stay conf running) moved in
    record {
      within = omega (arith, some_fewer (last_of_each staying) staying (last_some staying), some_fewer staying moved (filter_some (may_stay conf running) moved), fewer_mapped (regrouped conf) ns);
      keys = last_apart staying;
    }
