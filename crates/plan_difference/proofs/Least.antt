-- No fewer commands lead from the one plan to the other.
use Rattle.std.proofs.Common.{◌≡◌, ℕ, suc, ◌≤◌, Bool, true, false, cond, List, [], ◌∷◌, ◌++◌, length, Option, Some, None, IsSome, refl, sym, ap, ◌∙◌, subst, true≢false, arith, inl, inr, ◌⊎◌}
use Rattle.std.specs.List.{AllByRecursion, filter, find}
use Rattle.std.specs.Option.{option_or}
use Rattle.std.specs.declared.cmp.Ordering.{Ordering}
use Rattle.std.specs.declared.cmp.Ordering.TheVariants.{Less, Equal, Greater}
use Rattle.std.specs.Ordering.{is_lt, is_eq, is_gt}
use Rattle.std.proofs.lemmas.Option.{same_Some}
use Rattle.std.proofs.lemmas.List.Folds.{find-append}
use Rattle.of_match.specs.declared.entry.Key.{Key}
use Rattle.of_match.specs.declared.entry.Entry.{Entry}
use Rattle.of_match.specs.declared.entry.Command.{Command}
use Rattle.of_match.specs.declared.entry.Command.TheVariants.{Add, DeleteStrict, DeleteAll}
use Rattle.of_match.specs.KeyOrder.{key_cmp}
use Rattle.of_match.specs.KeyLaws.{key_total, exact_keys}
use Rattle.of_match.specs.FlowTables.{IsInKeyOrder, entry_at, below, above, after}
use Rattle.of_match.specs.Settled.{after_all, key_of, AreOfDistinctKeys}
use Rattle.plan_difference.specs.Difference.{difference}
use Rattle.plan_difference.specs.Needed.{IsNeeded, AscendByKey, NameKeys}
use Rattle.plan_difference.proofs.Order.{Before, Behind, all_map, above_behind, below_before, reversed, turned}
use Rattle.plan_difference.proofs.Leads.{same_key}
use Rattle.plan_difference.proofs.Needs.{at_above, needed, ascends, distinct, none_behind}

-- ---- a command about one key leaves the others alone

none_before : (k : Key) (es : List Entry) → Before es k → entry_at es k ≡ None
none_before k [] all = refl
none_before k (e ∷ es) all = rw all.0 (none_before k es all.1)

-- before a key, the entries below it decide
at_below : (j k : Key) → key_cmp k j ≡ Less → (es : List Entry) → entry_at (below j es) k ≡ entry_at es k
at_below j k less [] = refl
at_below j k less (e ∷ es) = from_case (key_cmp e.key j) refl (at_below j k less es)
  where
    not_here : key_cmp k e.key ≡ Less → entry_at es k ≡ entry_at (e ∷ es) k
    not_here l = rw (reversed k e.key l) refl

    from_case : (o : Ordering) → key_cmp e.key j ≡ o → entry_at (below j es) k ≡ entry_at es k → entry_at (cond (is_lt o) (e ∷ below j es) (below j es)) k ≡ entry_at (e ∷ es) k
    from_case Less o rest = ap (λ r. cond (is_eq (key_cmp e.key k)) (Some e) r) rest
    from_case Equal o rest = rest ∙ not_here (subst (λ x. key_cmp k x ≡ Less) (sym (exact_keys e.key j o)) less)
    from_case Greater o rest = rest ∙ not_here (key_total.trans k j e.key less (turned e.key j o))

or_none : {X : Type 0} (o : Option X) → option_or o None ≡ o
or_none (Some x) = refl
or_none None = refl

-- what stands between, at another key, is passed over
module _ (j k : Key) (t put : List Entry) (none : entry_at put k ≡ None) where
  parts : entry_at (below j t ++ (put ++ above j t)) k ≡ option_or (entry_at (below j t) k) (option_or (entry_at put k) (entry_at (above j t) k))
  parts = find-append (λ e. is_eq (key_cmp e.key k)) (below j t) (put ++ above j t) ∙ ap (λ o. option_or (entry_at (below j t) k) o) (find-append (λ e. is_eq (key_cmp e.key k)) put (above j t))

  around : (o : Ordering) → key_cmp k j ≡ o → (k ≡ j → ⊥) → entry_at (below j t ++ (put ++ above j t)) k ≡ entry_at t k
  around Less less other =
      parts ∙ ap (λ o. option_or (entry_at (below j t) k) (option_or o (entry_at (above j t) k))) none
      ∙ ap (λ o. option_or (entry_at (below j t) k) o) (none_behind k (above j t) (all_map (λ e b. key_total.trans k j e.key less b) (above j t) (above_behind j t)))
      ∙ or_none (entry_at (below j t) k) ∙ at_below j k less t
  around Equal same other = absurd (other (exact_keys k j same))
  around Greater greater other =
      let less = turned k j greater in
      parts ∙ ap (λ o. option_or (entry_at (below j t) k) (option_or o (entry_at (above j t) k))) none
      ∙ ap (λ o. option_or o (entry_at (above j t) k)) (none_before k (below j t) (all_map (λ e b. key_total.trans e.key j k b less) (below j t) (below_before j t)))
      ∙ at_above j k less t

other_put : (e : Entry) (k : Key) → (e.key ≡ k → ⊥) → entry_at (e ∷ []) k ≡ None
other_put e k other = from_case (key_cmp e.key k) refl
  where
    from_case : (o : Ordering) → key_cmp e.key k ≡ o → cond (is_eq o) (Some e) None ≡ None
    from_case Less o = refl
    from_case Equal o = absurd (other (exact_keys e.key k o))
    from_case Greater o = refl

kept_by : (t : List Entry) (c : Command) (k : Key) → IsSome (key_of c) → (key_of c ≡ Some k → ⊥) → entry_at (after t c) k ≡ entry_at t k
kept_by t (Add e) k some other =
    around e.key k t (e ∷ []) (other_put e k (λ is. other (ap Some is))) (key_cmp k e.key) refl (λ is. other (ap Some (sym is)))
kept_by t (DeleteStrict j) k some other = around j k t [] refl (key_cmp k j) refl (λ is. other (ap Some (sym is)))
kept_by t DeleteAll k some other = absurd (true≢false (sym some))

kept_by_all : (t : List Entry) (cs : List Command) (k : Key) → NameKeys cs → AllByRecursion (λ c. key_of c ≡ Some k → ⊥) cs → entry_at (after_all t cs) k ≡ entry_at t k
kept_by_all t [] k some others = refl
kept_by_all t (c ∷ cs) k some others = kept_by_all (after t c) cs k some.1 others.1 ∙ kept_by t c k some.0 others.0

-- ---- so each key of the difference is named

-- some command is about the key of this one
abbrev Named : List Command → Command → Type 0
Named cs d = AllByRecursion (λ c. key_of c ≡ key_of d → ⊥) cs → ⊥

named : (from to : List Entry) (cs : List Command) → NameKeys cs → after_all from cs ≡ to → (d : Command) → IsNeeded from to d → Named cs d
named from to cs some is (Add e) n none = n.1 (sym (kept_by_all from cs e.key some none) ∙ ap (λ es. entry_at es e.key) is ∙ n.0)
named from to cs some is (DeleteStrict k) n none =
    true≢false (sym (subst IsSome (sym (kept_by_all from cs k some none) ∙ ap (λ es. entry_at es k) is ∙ n.0) n.1))
named from to cs some is DeleteAll n none = n

-- ---- and by a command of its own

same_or_other : (c d : Command) → IsSome (key_of d) → (key_of c ≡ key_of d) ⊎ (key_of c ≡ key_of d → ⊥)
same_or_other c d some = from_case (key_of c) (key_of d) some
  where
    from_case : (a b : Option Key) → IsSome b → (a ≡ b) ⊎ (a ≡ b → ⊥)
    from_case (Some a) (Some b) some = compared (key_cmp a b) refl
      where
        compared : (o : Ordering) → key_cmp a b ≡ o → (Some a ≡ Some b) ⊎ (Some a ≡ Some b → ⊥)
        compared Less o = inr (λ is. true≢false (sym (ap is_eq (sym o ∙ ap (key_cmp a) (sym (same_Some a b is)) ∙ same_key a))))
        compared Equal o = inl (ap Some (exact_keys a b o))
        compared Greater o = inr (λ is. true≢false (sym (ap is_eq (sym o ∙ ap (key_cmp a) (sym (same_Some a b is)) ∙ same_key a))))
    from_case None (Some b) some = inr (λ is. true≢false (sym (subst IsSome (sym is) refl)))
    from_case a None some = absurd (true≢false (sym some))

-- one command about the key, and the others
record Picked (cs : List Command) (d : Command) : Type 1 where
  others : List Command
  fewer : length cs ≡ suc (length others)
  back : (P : Command → Type 0) → AllByRecursion P others → ((c : Command) → key_of c ≡ key_of d → P c) → AllByRecursion P cs

pick : (cs : List Command) (d : Command) → IsSome (key_of d) → Named cs d → Picked cs d
pick [] d some is = absurd (is tt)
pick (c ∷ cs) d some is = elim (same_or_other c d some) [
  | inl same ↦ record { others = cs; fewer = refl; back = λ P all own. (own c same, all) }
  | inr other ↦
      let more = pick cs d some (λ none. is (other, none)) in
      record { others = c ∷ more.others; fewer = ap suc more.fewer; back = λ P all own. (all.0, more.back P all.1 own) }
]

-- what is named, but for another key, is named by the others
still : (cs : List Command) (d : Command) (p : Picked cs d) (xs : List Command) → AllByRecursion (λ other. key_of other ≡ key_of d → ⊥) xs → AllByRecursion (Named cs) xs → AllByRecursion (Named p.others) xs
still cs d p [] others all = tt
still cs d p (x ∷ xs) others all =
    ((λ none. all.0 (p.back (λ c. key_of c ≡ key_of x → ⊥) none (λ c same is. others.0 (sym is ∙ same)))), still cs d p xs others.1 all.1)

least : (ds cs : List Command) → AreOfDistinctKeys ds → AllByRecursion (Named cs) ds → length ds ≤ length cs
least [] cs h all = omega arith
least (d ∷ ds) cs h all =
    let p = pick cs d h.0 all.0 in
    let rest = least ds p.others h.2 (still cs d p ds h.1 all.1) in
    let n = p.fewer in
    omega (arith, rest, n)

pub no_fewer : (from to : List Entry) → IsInKeyOrder from → IsInKeyOrder to → (cs : List Command) → NameKeys cs → after_all from cs ≡ to → length (difference from to) ≤ length cs
no_fewer from to h i cs some is =
    least (difference from to) cs (distinct (difference from to) (ascends from to h i)) (all_map (λ d n. named from to cs some is d n) (difference from to) (needed from to h i))
