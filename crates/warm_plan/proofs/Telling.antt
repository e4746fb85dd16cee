-- Keys tell all differences, as one more of them is touched.
use Rattle.std.proofs.Common.{◌≡◌, Bool, true, false, cond, List, [], ◌∷◌, Some, None, refl, sym, ap, ◌∙◌, subst}
use Rattle.std.specs.Prelude.{Contains}
use Rattle.std.specs.List.{AllByRecursion}
use Rattle.std.specs.BTreeMap.{is_at}
use Rattle.std.specs.BTreeSet.{BTreeSet, contains, Updates}
use Rattle.std.specs.Cmp.{Equal-is}
use Rattle.std.specs.Option.{option_or}
use Rattle.std.specs.Ordering.{is_eq}
use Rattle.std.proofs.lemmas.List.Folds.{find-append}
use Rattle.std.proofs.lemmas.List.Sorted.{IsPermutation-refl}
use Rattle.std.proofs.lemmas.Map.Views.{btree_set_contains_iff}
use Rattle.of_match.specs.declared.entry.Command.{Command}
use Rattle.of_match.specs.declared.entry.Command.TheVariants.{Add, DeleteStrict}
use Rattle.of_match.specs.declared.entry.Entry.{Entry}
use Rattle.of_match.specs.declared.entry.Key.{Key}
use Rattle.of_match.specs.FlowTables.{IsInKeyOrder, entry_at, below, above, after}
use Rattle.of_match.specs.KeyOrder.{key_cmp}
use Rattle.of_match.specs.KeyLaws.{key_total, exact_keys}
use Rattle.of_match.specs.Settled.{after_all, Settles}
use Rattle.cold_start.proofs.AtKey.{added_at}
use Rattle.plan_difference.specs.Difference.{difference, AreAllTold}
use Rattle.warm_plan.specs.Touched.{KeepTold}

-- a delete leaves the others alone, as an add does
deleted_at : (t : List Entry) (j k : Key) → is_eq (key_cmp j k) ≡ false → entry_at (after t (DeleteStrict j)) k ≡ entry_at t k
deleted_at t j k apart =
    find-append test (below j t) (above j t) ∙ sym (ap (option_or (entry_at (below j t) k)) other) ∙ sym (find-append test (below j t) (e ∷ above j t))
    ∙ added_at t e k ∙ ap (λ b. cond b (Some e) (entry_at t k)) apart
  where
    e : Entry
    e = record { key = j; instrs = [] }

    test : Entry → Bool
    test f = is_eq (key_cmp f.key k)

    other : entry_at (e ∷ above j t) k ≡ entry_at (above j t) k
    other = ap (λ b. cond b (Some e) (entry_at (above j t) k)) apart

module _ (s n : BTreeSet Key) (key : Key) (up : Updates key_cmp s n key true) where
  listed : (q : Key) → contains key_cmp n q ≡ true → Contains n.keys q
  listed q is = (btree_set_contains_iff key_total exact_keys n q).0 is

  pub kept_in : (q : Key) → Contains s.keys q → Contains n.keys q
  kept_in q c = listed q (up.0 q ∙ by (is_at (key_cmp key) q))
    where
      stood : contains key_cmp s q ≡ true
      stood = (btree_set_contains_iff key_total exact_keys s q).1 c

      by : (b : Bool) → cond b true (contains key_cmp s q) ≡ true
      by true = refl
      by false = stood

  pub new_in : Contains n.keys key
  new_in = listed key up.1

  told_where : (t u : List Entry) → ((q : Key) → is_eq (key_cmp key q) ≡ false → entry_at u q ≡ entry_at t q) → KeepTold s.keys t n.keys u
  told_where t u stays = λ from told q differ. by from told q differ (is_eq (key_cmp key q)) refl
    where
      by : (from : List Entry) → AreAllTold s.keys from t → (q : Key) → (entry_at from q ≡ entry_at u q → ⊥) → (b : Bool) → is_eq (key_cmp key q) ≡ b → Contains n.keys q
      by from told q differ true is = subst (Contains n.keys) (exact_keys key q ((Equal-is (key_cmp key q)).0 is)) new_in
      by from told q differ false is = kept_in q (told q (λ same. differ (same ∙ sym (stays q is))))

  pub told_removed : (t : List Entry) → KeepTold s.keys t n.keys (after t (DeleteStrict key))
  told_removed t = told_where t (after t (DeleteStrict key)) (λ q apart. deleted_at t key q apart)

  pub told_added : (t : List Entry) (e : Entry) → e.key ≡ key → KeepTold s.keys t n.keys (after t (Add e))
  told_added t e is = told_where t (after t (Add e)) (λ q apart. added_at t e q ∙ ap (λ b. cond b (Some e) (entry_at t q)) (ap (λ j. is_eq (key_cmp j q)) is ∙ apart))

-- ---- all of them

-- the entry that is found has the key
told_all : (keys : List Key) (es : List Entry) → AllByRecursion (λ e. Contains keys e.key) es → AreAllTold keys es []
told_all keys [] all q differ = absurd (differ refl)
told_all keys (e ∷ es) all q differ = by (is_eq (key_cmp e.key q)) refl (told_all keys es all.1 q)
  where
    by : (b : Bool) → is_eq (key_cmp e.key q) ≡ b → ((entry_at es q ≡ None → ⊥) → Contains keys q) → Contains keys q
    by true is more = subst (Contains keys) (exact_keys e.key q ((Equal-is (key_cmp e.key q)).0 is)) all.0
    by false is more = more (λ none. differ (ap (λ b. cond b (Some e) (entry_at es q)) is ∙ none))

-- nothing was made yet
pub told_first : (keys : List Key) (es sent made : List Entry) → es ≡ sent → made ≡ [] → AllByRecursion (λ e. Contains keys e.key) es → AreAllTold keys sent made
told_first keys es sent made is none all = subst (λ (t : List Entry). AreAllTold keys t made) is (subst (AreAllTold keys es) (sym none) (told_all keys es all))

pub brought : ((from to settled : List Entry) → IsInKeyOrder from → IsInKeyOrder to → Settles from (difference from to) settled → settled ≡ to)
    → (from to : List Entry) → IsInKeyOrder from → IsInKeyOrder to → (batch : List Command) → batch ≡ difference from to → after_all from batch ≡ to
brought law from to of_from of_to batch is = law from to (after_all from batch) of_from of_to (record {
  order = difference from to;
  reordered = IsPermutation-refl (difference from to);
  leads = ap (after_all from) is;
})
