-- What an add leaves at each key.
use Rattle.std.proofs.Common.{◌≡◌, false, cond, List, [], ◌∷◌, Option, Some, None, refl, sym, ap, ◌∙◌}
use Rattle.std.specs.List.{AllByRecursion}
use Rattle.std.specs.Option.{option_or}
use Rattle.std.specs.declared.cmp.Ordering.{Ordering}
use Rattle.std.specs.declared.cmp.Ordering.TheVariants.{Less, Equal, Greater}
use Rattle.std.specs.Ordering.{is_lt, is_eq, is_gt, ordering_reverse}
use Rattle.std.proofs.lemmas.List.Folds.{find-append}
use Rattle.of_match.specs.declared.entry.Key.{Key}
use Rattle.of_match.specs.declared.entry.Entry.{Entry}
use Rattle.of_match.specs.declared.entry.Command.TheVariants.{Add}
use Rattle.of_match.specs.KeyOrder.{key_cmp}
use Rattle.of_match.specs.KeyLaws.{key_total, exact_keys}
use Rattle.of_match.specs.FlowTables.{entry_at, below, above, after}
use Rattle.of_match.proofs.AfterOrder.{all_map, all_below, all_above}

reversed : (j k : Key) → key_cmp j k ≡ ordering_reverse (key_cmp k j)
reversed j k = key_total.antisymm j k

passed : (e : Entry) (es : List Entry) (k : Key) → is_eq (key_cmp e.key k) ≡ false → entry_at (e ∷ es) k ≡ entry_at es k
passed e es k is = ap (λ b. cond b (Some e) (entry_at es k)) is

-- an add leaves the others alone
at_below : (j k : Key) → key_cmp k j ≡ Less → (es : List Entry) → entry_at (below j es) k ≡ entry_at es k
at_below j k less [] = refl
at_below j k less (e ∷ es) = by (key_cmp e.key j) refl (at_below j k less es)
  where
    by : (o : Ordering) → key_cmp e.key j ≡ o → entry_at (below j es) k ≡ entry_at es k → entry_at (cond (is_lt o) (e ∷ below j es) (below j es)) k ≡ entry_at (e ∷ es) k
    by Less is rest = ap (λ r. cond (is_eq (key_cmp e.key k)) (Some e) r) rest
    by Equal is rest = rest ∙ sym (passed e es k (ap (λ i. is_eq (key_cmp i k)) (exact_keys e.key j is) ∙ ap is_eq (reversed j k ∙ ap ordering_reverse less)))
    by Greater is rest = rest ∙ sym (passed e es k (ap is_eq (reversed e.key k ∙ ap ordering_reverse (key_total.trans k j e.key less (reversed j e.key ∙ ap ordering_reverse is)))))

at_above : (j k : Key) → key_cmp j k ≡ Less → (es : List Entry) → entry_at (above j es) k ≡ entry_at es k
at_above j k less [] = refl
at_above j k less (e ∷ es) = by (key_cmp e.key j) refl (at_above j k less es)
  where
    by : (o : Ordering) → key_cmp e.key j ≡ o → entry_at (above j es) k ≡ entry_at es k → entry_at (cond (is_gt o) (e ∷ above j es) (above j es)) k ≡ entry_at (e ∷ es) k
    by Less is rest = rest ∙ sym (passed e es k (ap is_eq (key_total.trans e.key j k is less)))
    by Equal is rest = rest ∙ sym (passed e es k (ap (λ i. is_eq (key_cmp i k)) (exact_keys e.key j is) ∙ ap is_eq less))
    by Greater is rest = ap (λ r. cond (is_eq (key_cmp e.key k)) (Some e) r) rest

none_with : (k : Key) (es : List Entry) → AllByRecursion (λ f. is_eq (key_cmp f.key k) ≡ false) es → entry_at es k ≡ None
none_with k [] all = refl
none_with k (e ∷ es) all = passed e es k all.0 ∙ none_with k es all.1

or_none : (o : Option Entry) → option_or o None ≡ o
or_none (Some e) = refl
or_none None = refl

pub added_at : (t : List Entry) (e : Entry) (k : Key) → entry_at (after t (Add e)) k ≡ cond (is_eq (key_cmp e.key k)) (Some e) (entry_at t k)
added_at t e k = find-append (λ f. is_eq (key_cmp f.key k)) (below e.key t) (e ∷ above e.key t) ∙ by (key_cmp e.key k) refl
  where
    none_below : ((f : Entry) → key_cmp f.key e.key ≡ Less → is_eq (key_cmp f.key k) ≡ false) → entry_at (below e.key t) k ≡ None
    none_below apart = none_with k (below e.key t) (all_map (λ f. key_cmp f.key e.key ≡ Less) (λ f. is_eq (key_cmp f.key k) ≡ false) apart (below e.key t) (all_below e.key t))

    none_above : ((f : Entry) → key_cmp e.key f.key ≡ Less → is_eq (key_cmp f.key k) ≡ false) → entry_at (above e.key t) k ≡ None
    none_above apart = none_with k (above e.key t) (all_map (λ f. key_cmp e.key f.key ≡ Less) (λ f. is_eq (key_cmp f.key k) ≡ false) apart (above e.key t) (all_above e.key t))

    by : (o : Ordering) → key_cmp e.key k ≡ o → option_or (entry_at (below e.key t) k) (cond (is_eq o) (Some e) (entry_at (above e.key t) k)) ≡ cond (is_eq o) (Some e) (entry_at t k)
    by Less is =
        ap (λ o. option_or o (entry_at (above e.key t) k)) (none_below (λ f less. ap is_eq (key_total.trans f.key e.key k less is))) ∙ at_above e.key k is t
    by Equal is =
        ap (λ o. option_or o (Some e)) (none_below (λ f less. ap (λ j. is_eq (key_cmp f.key j)) (sym (exact_keys e.key k is)) ∙ ap is_eq less))
    by Greater is =
        let less : key_cmp k e.key ≡ Less = reversed k e.key ∙ ap ordering_reverse is in
        ap (λ o. option_or (entry_at (below e.key t) k) o) (none_above (λ f behind. ap is_eq (reversed f.key k ∙ ap ordering_reverse (key_total.trans k e.key f.key less behind))))
        ∙ or_none (entry_at (below e.key t) k) ∙ at_below e.key k less t
