-- The commands of a difference lead from the one plan to the other.
use Rattle.std.proofs.Common.{◌≡◌, Bool, true, false, cond, List, [], ◌∷◌, ◌++◌, Option, Some, None, take, drop, refl, sym, ap, ◌∙◌, subst, true≢false, append-nil, if◌then◌else◌}
use Rattle.std.specs.List.{AllByRecursion, filter}
use Rattle.std.specs.Option.{option_map_or}
use Rattle.std.specs.declared.cmp.Ordering.{Ordering}
use Rattle.std.specs.declared.cmp.Ordering.TheVariants.{Less, Equal, Greater}
use Rattle.std.specs.Ordering.{is_lt, is_eq, is_gt, ordering_reverse}
use Rattle.std.proofs.lemmas.List.{append_assoc, take-append-drop}
use Rattle.std.proofs.lemmas.List.Elements.{filter-append}
use Rattle.of_match.specs.declared.entry.Key.{Key}
use Rattle.of_match.specs.declared.entry.Entry.{Entry}
use Rattle.of_match.specs.declared.entry.Command.{Command}
use Rattle.of_match.specs.declared.entry.Command.TheVariants.{Add, DeleteStrict, DeleteAll}
use Rattle.of_match.specs.KeyOrder.{key_cmp}
use Rattle.of_match.specs.KeyLaws.{key_total}
use Rattle.of_match.specs.FlowTables.{IsInKeyOrder, entry_at, below, above, after}
use Rattle.of_match.specs.Same.{entry_same, entry_exact}
use Rattle.of_match.specs.Settled.{after_all}
use Rattle.plan_difference.specs.Difference.{deletes, has, difference}
use Rattle.plan_difference.proofs.Order.{Before, Behind, AllBefore, front_of, back_of, between, joined, before_head, fewer_behind, kept_order, above_behind, below_all, above_none, below_none, above_all}
use Rattle.plan_difference.proofs.Split.{IsCut, cut, front, head, has_first, above_first, has_no_first}

-- what is its own reverse is equal
itself : (o : Ordering) → o ≡ ordering_reverse o → o ≡ Equal
itself Less e = absurd (true≢false (ap is_lt e))
itself Equal e = refl
itself Greater e = absurd (true≢false (ap is_gt e))

pub same_key : (k : Key) → key_cmp k k ≡ Equal
same_key k = itself (key_cmp k k) (key_total.antisymm k k)

-- commands in a row
pub after_more : (t : List Entry) (cs ds : List Command) → after_all t (cs ++ ds) ≡ after_all (after_all t cs) ds
after_more t [] ds = refl
after_more t (c ∷ cs) ds = after_more (after t c) cs ds

module _ (done : List Entry) where
  below_seam : (k : Key) → Before done k → (rest : List Entry) → below k (done ++ rest) ≡ done ++ below k rest
  below_seam k before rest = filter-append (λ e. is_lt (key_cmp e.key k)) done rest ∙ ap (λ l. l ++ below k rest) (below_all k done before)

  above_seam : (k : Key) → Before done k → (rest : List Entry) → above k (done ++ rest) ≡ above k rest
  above_seam k before rest = filter-append (λ e. is_gt (key_cmp e.key k)) done rest ∙ ap (λ l. l ++ above k rest) (above_none k done before)

  -- the first of the others is taken out
  taken : (e : Entry) (rest : List Entry) → IsInKeyOrder (done ++ e ∷ rest) → after (done ++ e ∷ rest) (DeleteStrict e.key) ≡ done ++ rest
  taken e rest h =
      let before = before_head done e rest (between done (e ∷ rest) h) in
      let others = (back_of done (e ∷ rest) h).0 in
      let low : below e.key (e ∷ rest) ≡ [] = rw (same_key e.key) (below_none e.key rest others) in
      let high : above e.key (e ∷ rest) ≡ rest = rw (same_key e.key) (above_all e.key rest others) in
      ap (λ l. l ++ above e.key (done ++ e ∷ rest)) (below_seam e.key before (e ∷ rest) ∙ ap (λ l. done ++ l) low ∙ append-nil done) ∙ ap (λ l. done ++ l) (above_seam e.key before (e ∷ rest) ∙ high)

  without : (e : Entry) (rest : List Entry) → IsInKeyOrder (done ++ e ∷ rest) → IsInKeyOrder (done ++ rest)
  without e rest h =
      let parts = back_of done (e ∷ rest) h in
      joined done rest (front_of done (e ∷ rest) h) parts.1 (fewer (between done (e ∷ rest) h))
    where
      fewer : AllBefore done (e ∷ rest) → AllBefore done rest
      fewer = drop_head done
        where
          drop_head : (xs : List Entry) → AllBefore xs (e ∷ rest) → AllBefore xs rest
          drop_head [] all = tt
          drop_head (x ∷ xs) all = (all.0.1, drop_head xs all.1)

  -- and so are several
  pub all_taken : (gone rest : List Entry) → IsInKeyOrder (done ++ (gone ++ rest)) → after_all (done ++ (gone ++ rest)) (deletes gone) ≡ done ++ rest
  all_taken [] rest h = refl
  all_taken (e ∷ gone) rest h = ap (λ t. after_all t (deletes gone)) (taken e (gone ++ rest) h) ∙ all_taken gone rest (without e (gone ++ rest) h)

  pub still_ordered : (gone rest : List Entry) → IsInKeyOrder (done ++ (gone ++ rest)) → IsInKeyOrder (done ++ rest)
  still_ordered [] rest h = h
  still_ordered (e ∷ gone) rest h = still_ordered gone rest (without e (gone ++ rest) h)

  -- where nothing is below its key, an entry comes first of the others
  pub put : (e : Entry) (rest : List Entry) → Before done e.key → below e.key rest ≡ [] → after (done ++ rest) (Add e) ≡ done ++ e ∷ above e.key rest
  put e rest before none =
      ap (λ l. l ++ e ∷ above e.key (done ++ rest)) (below_seam e.key before rest ∙ ap (λ l. done ++ l) none ∙ append-nil done) ∙ ap (λ l. done ++ e ∷ l) (above_seam e.key before rest)

-- an entry that stands is the first of those at its key and behind
stands : (e : Entry) (rest : List Entry) → IsInKeyOrder rest → below e.key rest ≡ [] → has rest e ≡ true → rest ≡ e ∷ above e.key rest
stands e [] h none here = absurd (true≢false (sym here))
stands e (f ∷ fs) h none here = from_case (is_eq (key_cmp f.key e.key)) refl
  where
    equal : (o : Ordering) → is_eq o ≡ true → o ≡ Equal
    equal Less t = absurd (true≢false (sym t))
    equal Equal t = refl
    equal Greater t = absurd (true≢false (sym t))

    from_case : (b : Bool) → is_eq (key_cmp f.key e.key) ≡ b → f ∷ fs ≡ e ∷ above e.key (f ∷ fs)
    from_case true t =
        let o = equal (key_cmp f.key e.key) t in
        let same : f ≡ e = (entry_exact f e).0 (sym (has_first e f fs h none o) ∙ here) in
        ap (λ g. g ∷ fs) same ∙ ap (λ l. e ∷ l) (sym (above_first e f fs h none o))
    from_case false t = absurd (true≢false (sym here ∙ has_no_first e f fs h none t))

-- after its own command, if it needs one, the entry is there, and what is above it
placed : (done rest : List Entry) (e : Entry) → IsInKeyOrder rest → Before done e.key → below e.key rest ≡ [] → after_all (done ++ rest) (if has rest e then [] else Add e ∷ []) ≡ done ++ e ∷ above e.key rest
placed done rest e h before none = from_case (has rest e) refl
  where
    from_case : (b : Bool) → has rest e ≡ b → after_all (done ++ rest) (if b then [] else Add e ∷ []) ≡ done ++ e ∷ above e.key rest
    from_case true here = ap (λ l. done ++ l) (stands e rest h none here)
    from_case false here = put done e rest before none

pub leads : (done from to : List Entry) → IsInKeyOrder (done ++ from) → IsInKeyOrder (done ++ to) → after_all (done ++ from) (difference from to) ≡ done ++ to
leads done from [] h i = let nil = append-nil from in ap (λ l. after_all (done ++ l) (deletes from)) (sym nil) ∙ all_taken done from [] (subst (λ l. IsInKeyOrder (done ++ l)) (sym nil) h)
leads done from (e ∷ to) h i =
    let parts = cut e.key from (back_of done from h) in
    let n = front e.key from in
    let rest = drop n from in
    let high = above e.key from in
    let is : from ≡ below e.key from ++ rest = sym (take-append-drop n from) ∙ ap (λ l. l ++ rest) parts.gone in
    let whole : IsInKeyOrder (done ++ (below e.key from ++ rest)) = subst (λ l. IsInKeyOrder (done ++ l)) is h in
    let before : Before done e.key = before_head done e to (between done (e ∷ to) i) in
    let own = if has from e then [] else Add e ∷ [] in
    let own_rest = if has rest e then [] else Add e ∷ [] in
    let same : own ≡ own_rest = ap (λ (o : Option Entry). if (option_map_or (λ f. entry_same f e) o false) then [] else Add e ∷ []) (sym parts.here) in
    let more = difference high to in
    let first : after_all (done ++ from) (deletes (below e.key from)) ≡ done ++ rest = ap (λ l. after_all (done ++ l) (deletes (below e.key from))) is ∙ all_taken done (below e.key from) rest whole in
    let second : after_all (done ++ rest) own ≡ done ++ e ∷ high = ap (after_all (done ++ rest)) same ∙ placed done rest e parts.ordered before parts.begins ∙ ap (λ l. done ++ e ∷ l) parts.behind in
    let seam = append_assoc done (e ∷ []) in
    let one : IsInKeyOrder (done ++ e ∷ []) = joined done (e ∷ []) (front_of done from h) (tt, tt) (alone done before) in
    let both : IsInKeyOrder ((done ++ e ∷ []) ++ high) = subst IsInKeyOrder (sym (seam high)) (joined done (e ∷ high) (front_of done from h) (above_behind e.key from, kept_order (λ f. is_gt (key_cmp f.key e.key)) from (back_of done from h)) (with_head done high before (fewer_behind done (λ f. is_gt (key_cmp f.key e.key)) from (between done from h)))) in
    let on = leads (done ++ e ∷ []) high to both (subst IsInKeyOrder (sym (seam to)) i) in
    after_more (done ++ from) (deletes (below e.key from)) (own ++ more) ∙ ap (λ t. after_all t (own ++ more)) first
    ∙ after_more (done ++ rest) own more ∙ ap (λ t. after_all t more) (second ∙ sym (seam high)) ∙ on ∙ seam to
  where
    alone : (xs : List Entry) → Before xs e.key → AllBefore xs (e ∷ [])
    alone [] all = tt
    alone (x ∷ xs) all = ((all.0, tt), alone xs all.1)

    with_head : (xs ys : List Entry) → Before xs e.key → AllBefore xs ys → AllBefore xs (e ∷ ys)
    with_head [] ys all rest = tt
    with_head (x ∷ xs) ys all rest = ((all.0, rest.0), with_head xs ys all.1 rest.1)
