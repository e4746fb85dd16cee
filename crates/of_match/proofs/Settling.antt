-- Commands of distinct keys settle to one result in every order, and the delete of all to empty tables.
use Rattle.std.proofs.Common.{◌≡◌, ℕ, zero, suc, ◌<◌, Bool, true, false, List, [], ◌∷◌, length, get_or, set, Option, Some, None, IsSome, length-set, refl, sym, ap, ◌∙◌, true≢false, arith}
use Rattle.std.specs.List.{AllByRecursion, list_any, swap}
use Rattle.std.specs.List.Sorted.{SwapsInRange, apply_swaps}
use Rattle.std.proofs.lemmas.List.Sorted.{length_permutation, list_any-IsPermutation}
use Rattle.of_match.specs.declared.entry.Key.{Key}
use Rattle.of_match.specs.declared.entry.Entry.{Entry}
use Rattle.of_match.specs.declared.entry.Command.{Command}
use Rattle.of_match.specs.declared.entry.Command.TheVariants.{Add, DeleteStrict, DeleteAll}
use Rattle.of_match.specs.FlowTables.{after}
use Rattle.of_match.specs.Settled.{after_all, Settles, key_of, AreOfDistinctKeys}
use Rattle.of_match.proofs.AfterOrder.{all_at}
use Rattle.of_match.proofs.Commute.{Apart, Apart-sym, commute}

-- ---- commands that are apart in pairs

abbrev pub AllApart : List Command → Type 0
AllApart [] = Unit {0}
AllApart (c ∷ cs) = AllByRecursion (Apart c) cs × AllApart cs

the_key : (c : Command) (o : Option Key) → key_of c ≡ o → IsSome o → (k : Key) × (key_of c ≡ Some k)
the_key c None e h = absurd (cc)
the_key c (Some k) e h = (k, e)

apart_from : (c : Command) → IsSome (key_of c) → (cs : List Command) → AllByRecursion (λ d. key_of d ≡ key_of c → ⊥) cs → AreOfDistinctKeys cs → AllByRecursion (Apart c) cs
apart_from c one [] differ distinct = tt
apart_from c one (d ∷ cs) differ distinct =
    let k = the_key c (key_of c) refl one in
    let l = the_key d (key_of d) refl distinct.0 in
    (record { first = k.0; second = l.0; about_first = k.1; about_second = l.1; differ = λ e. differ.0 (l.1 ∙ ap Some (sym e) ∙ sym k.1) }, apart_from c one cs differ.1 distinct.2)

all_apart : (cs : List Command) → AreOfDistinctKeys cs → AllApart cs
all_apart [] distinct = tt
all_apart (c ∷ cs) distinct = (apart_from c distinct.0 cs distinct.1 distinct.2, all_apart cs distinct.2)

-- ---- an exchange of two places

abbrev exchange : List Command → ℕ → ℕ → Command → List Command
exchange cs i j d = set (set cs i (get_or cs j d)) j (get_or cs i d)

all_set : (P : Command → Type 0) (cs : List Command) (i : ℕ) (v : Command) → AllByRecursion P cs → P v → AllByRecursion P (set cs i v)
all_set P [] i v all p = tt
all_set P (c ∷ cs) zero v all p = (p, all.1)
all_set P (c ∷ cs) (suc i) v all p = (all.0, all_set P cs i v all.1 p)

-- what stands at a place is apart from the others
apart_at : (cs : List Command) (j : ℕ) (d v : Command) → j < length cs → AllApart cs → Apart (get_or cs j d) v → AllByRecursion (Apart (get_or cs j d)) (set cs j v)
apart_at [] j d v lt apart a = absurd (omega arith)
apart_at (c ∷ cs) zero d v lt apart a = (a, apart.0)
apart_at (c ∷ cs) (suc j) d v lt apart a =
    (Apart-sym c (get_or cs j d) (all_at (Apart c) cs j d apart.0 (omega arith)), apart_at cs j d v (omega arith) apart.1 a)

-- another that is apart from all may stand in its place
apart_set : (cs : List Command) (j : ℕ) (v : Command) → j < length cs → AllApart cs → AllByRecursion (Apart v) cs → AllApart (set cs j v)
apart_set [] j v lt apart all = tt
apart_set (c ∷ cs) zero v lt apart all = (all.1, apart.1)
apart_set (c ∷ cs) (suc j) v lt apart all = (all_set (Apart c) cs j v apart.0 (Apart-sym v c all.0), apart_set cs j v (omega arith) apart.1 all.1)

exchange_first : (c : Command) (cs : List Command) (j : ℕ) (d : Command) → j < length cs → AllApart (c ∷ cs) → AllApart (get_or cs j d ∷ set cs j c)
exchange_first c cs j d lt apart =
    (apart_at cs j d c lt apart.1 (Apart-sym c (get_or cs j d) (all_at (Apart c) cs j d apart.0 lt)), apart_set cs j c lt apart.1 apart.0)

pub exchange_apart : (cs : List Command) (i j : ℕ) (d : Command) → i < length cs → j < length cs → AllApart cs → AllApart (exchange cs i j d)
exchange_apart [] i j d lt lt' apart = absurd (omega arith)
exchange_apart (c ∷ cs) zero zero d lt lt' apart = apart
exchange_apart (c ∷ cs) zero (suc j) d lt lt' apart = exchange_first c cs j d (omega arith) apart
exchange_apart (c ∷ cs) (suc i) zero d lt lt' apart = exchange_first c cs i d (omega arith) apart
exchange_apart (c ∷ cs) (suc i) (suc j) d lt lt' apart =
    let at = λ (n : ℕ) (l : n < length cs). all_at (Apart c) cs n d apart.0 l in
    (all_set (Apart c) (set cs i (get_or cs j d)) j (get_or cs i d) (all_set (Apart c) cs i (get_or cs j d) apart.0 (at j (omega arith))) (at i (omega arith)), exchange_apart cs i j d (omega arith) (omega arith) apart.1)

-- ---- it changes nothing in the end

front_exchanged : (cs : List Command) (j : ℕ) (c d : Command) (t : List Entry) → j < length cs → AllByRecursion (Apart c) cs → AllApart cs → after_all (after t (get_or cs j d)) (set cs j c) ≡ after_all (after t c) cs
front_exchanged [] j c d t lt apart all = absurd (omega arith)
front_exchanged (x ∷ cs) zero c d t lt apart all = ap (λ s. after_all s cs) (sym (commute c x t apart.0))
front_exchanged (x ∷ cs) (suc j) c d t lt apart all =
    ap (λ s. after_all s (set cs j c)) (commute (get_or cs j d) x t (Apart-sym x (get_or cs j d) (all_at (Apart x) cs j d all.0 (omega arith))))
    ∙ front_exchanged cs j c d (after t x) (omega arith) apart.1 all.1 ∙ ap (λ s. after_all s cs) (sym (commute c x t apart.0))

pub exchanged : (cs : List Command) (i j : ℕ) (d : Command) (t : List Entry) → i < length cs → j < length cs → AllApart cs → after_all t (exchange cs i j d) ≡ after_all t cs
exchanged [] i j d t lt lt' all = absurd (omega arith)
exchanged (c ∷ cs) zero zero d t lt lt' all = refl
exchanged (c ∷ cs) zero (suc j) d t lt lt' all = front_exchanged cs j c d t (omega arith) all.0 all.1
exchanged (c ∷ cs) (suc i) zero d t lt lt' all = front_exchanged cs i c d t (omega arith) all.0 all.1
exchanged (c ∷ cs) (suc i) (suc j) d t lt lt' all = exchanged cs i j d (after t c) (omega arith) (omega arith) all.1

-- ---- and so does any number of exchanges

-- these commands are apart, as many as those, and lead to the same
record SameEnd (cs ds : List Command) : Type 0 where
  apart : AllApart ds
  as_many : length ds ≡ length cs
  leads : (t : List Entry) → after_all t ds ≡ after_all t cs

one_swap : (cs : List Command) (i j : ℕ) → i < length cs → j < length cs → AllApart cs → SameEnd cs (swap cs i j)
one_swap [] i j lt lt' all = absurd (omega arith)
one_swap (d ∷ cs) i j lt lt' all = record {
  apart = exchange_apart (d ∷ cs) i j d lt lt' all;
  as_many = length-set {A = Command} (set (d ∷ cs) i (get_or (d ∷ cs) j d)) j (get_or (d ∷ cs) i d) ∙ length-set {A = Command} (d ∷ cs) i (get_or (d ∷ cs) j d);
  leads = λ t. exchanged (d ∷ cs) i j d t lt lt' all;
}

swaps : (cs : List Command) (moves : List (ℕ × ℕ)) → SwapsInRange (length cs) moves → AllApart cs → SameEnd cs (apply_swaps cs moves)
swaps cs [] within all = record { apart = all; as_many = refl; leads = λ t. refl }
swaps cs (p ∷ ps) within all =
    let before = swaps cs ps within.2 all in
    let one = one_swap (apply_swaps cs ps) p.0 p.1 (omega (arith, before.as_many, within.0)) (omega (arith, before.as_many, within.1)) before.apart in
    record { apart = one.apart; as_many = one.as_many ∙ before.as_many; leads = λ t. one.leads t ∙ before.leads t }

-- whatever the order, the tables end as after the commands in turn
pub settles_once : (tables : List Entry) (commands : List Command) (settled : List Entry) → AreOfDistinctKeys commands → Settles tables commands settled → settled ≡ after_all tables commands
settles_once tables commands settled distinct s =
    s.leads ∙ ap (after_all tables) s.reordered.is ∙ (swaps commands s.reordered.moves s.reordered.below (all_apart commands distinct)).leads tables

-- ---- the delete of all

abbrev is_wipe : Command → Bool
is_wipe DeleteAll = true
is_wipe _ = false

only_wipe : (order : List Command) → length order ≡ 1 → true ≡ list_any is_wipe order → order ≡ DeleteAll ∷ []
only_wipe [] n e = absurd (true≢false e)
only_wipe (DeleteAll ∷ []) n e = refl
only_wipe (Add entry ∷ []) n e = absurd (true≢false e)
only_wipe (DeleteStrict key ∷ []) n e = absurd (true≢false e)
only_wipe (c ∷ d ∷ more) n e = absurd (omega (arith, n))

-- where it stands alone, the tables are empty behind it
pub wiped : (tables settled : List Entry) → Settles tables (DeleteAll ∷ []) settled → settled ≡ []
wiped tables settled s =
    let is : s.order ≡ DeleteAll ∷ [] = only_wipe s.order (length_permutation (DeleteAll ∷ []) s.order s.reordered) (list_any-IsPermutation is_wipe (DeleteAll ∷ []) s.order s.reordered) in
    s.leads ∙ ap (after_all tables) is
