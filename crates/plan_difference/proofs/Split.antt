-- Entries in key order, cut before a key.
use Rattle.std.proofs.Common.{◌≡◌, ℕ, zero, suc, Bool, true, false, cond, List, [], ◌∷◌, take, drop, Some, None, refl, sym, ap, ◌∙◌, subst, true≢false, arith}
use Rattle.std.specs.List.{AllByRecursion, prefix_len}
use Rattle.std.specs.Option.{option_map_or}
use Rattle.std.specs.declared.cmp.Ordering.{Ordering}
use Rattle.std.specs.declared.cmp.Ordering.TheVariants.{Less, Equal, Greater}
use Rattle.std.specs.Ordering.{is_lt, is_eq, ordering_reverse}
use Rattle.of_match.specs.declared.entry.Key.{Key}
use Rattle.of_match.specs.declared.entry.Entry.{Entry}
use Rattle.of_match.specs.KeyOrder.{key_cmp}
use Rattle.of_match.specs.KeyLaws.{key_total, exact_keys}
use Rattle.of_match.specs.FlowTables.{IsInKeyOrder, entry_at, below, above}
use Rattle.of_match.specs.Same.{entry_same}
use Rattle.plan_difference.specs.Difference.{has}

-- the entries below a key stand in front
abbrev pub front : Key → List Entry → ℕ
front k es = prefix_len (λ e. is_lt (key_cmp e.key k)) es

-- an entry that isn't before the key stands before each of these: none of them is before the key, or has it
module _ (k : Key) where
  -- behind one that isn't before it comes only what is behind it
  behind : (a b : Key) → is_lt (key_cmp a k) ≡ false → key_cmp a b ≡ Less → key_cmp b k ≡ Greater
  behind a b not_before less = from_case (key_cmp a k) refl
    where
      from_case : (o : Ordering) → key_cmp a k ≡ o → key_cmp b k ≡ Greater
      from_case Less e = absurd (true≢false (sym (ap is_lt e) ∙ not_before))
      from_case Equal e = let same : a ≡ k = exact_keys a k e in subst (λ x. key_cmp b x ≡ Greater) same (key_total.antisymm b a ∙ ap ordering_reverse less)
      from_case Greater e =
          let above : key_cmp k a ≡ Less = key_total.antisymm k a ∙ ap ordering_reverse e in
          key_total.antisymm b k ∙ ap ordering_reverse (key_total.trans k a b above less)

  all_behind : (a : Key) → is_lt (key_cmp a k) ≡ false → (es : List Entry) → AllByRecursion (λ f. key_cmp a f.key ≡ Less) es → AllByRecursion (λ f. key_cmp f.key k ≡ Greater) es
  all_behind a not_before [] all = tt
  all_behind a not_before (e ∷ es) all = (behind a e.key not_before all.0, all_behind a not_before es all.1)

  pub none_below : (es : List Entry) → AllByRecursion (λ f. key_cmp f.key k ≡ Greater) es → below k es ≡ []
  none_below [] all = refl
  none_below (e ∷ es) all = rw all.0 (none_below es all.1)

  pub all_above : (es : List Entry) → AllByRecursion (λ f. key_cmp f.key k ≡ Greater) es → above k es ≡ es
  all_above [] all = refl
  all_above (e ∷ es) all = rw all.0 (ap (λ l. e ∷ l) (all_above es all.1))

  pub none_at : (es : List Entry) → AllByRecursion (λ f. key_cmp f.key k ≡ Greater) es → entry_at es k ≡ None
  none_at [] all = refl
  none_at (e ∷ es) all = rw all.0 (none_at es all.1)

  pub none_before : (f : Entry) (fs : List Entry) → IsInKeyOrder (f ∷ fs) → is_lt (key_cmp f.key k) ≡ false → below k (f ∷ fs) ≡ []
  none_before f fs h not_before = rw not_before (none_below fs (all_behind f.key not_before fs h.0))

  pub record IsCut (es : List Entry) (n : ℕ) : Type 0 where
    pub gone : take n es ≡ below k es
    pub ordered : IsInKeyOrder (drop n es)
    pub begins : below k (drop n es) ≡ []
    pub behind : above k (drop n es) ≡ above k es
    pub here : entry_at (drop n es) k ≡ entry_at es k

  pub cut : (es : List Entry) → IsInKeyOrder es → IsCut es (front k es)
  cut [] h = record { gone = refl; ordered = tt; begins = refl; behind = refl; here = refl }
  cut (e ∷ es) h = from_case (cut es h.1) (key_cmp e.key k) refl
    where
      begun : is_lt (key_cmp e.key k) ≡ false → below k (e ∷ es) ≡ []
      begun not_before = rw not_before (none_below es (all_behind e.key not_before es h.0))

      stays : is_lt (key_cmp e.key k) ≡ false → IsCut (e ∷ es) (front k (e ∷ es))
      stays not_before =
          let none : front k (e ∷ es) ≡ zero = rw not_before refl in
          subst (IsCut (e ∷ es)) (sym none) (record { gone = sym (begun not_before); ordered = h; begins = begun not_before; behind = refl; here = refl })

      goes : IsCut es (front k es) → key_cmp e.key k ≡ Less → IsCut (e ∷ es) (suc (front k es))
      goes more o = record {
        gone = ap (λ l. e ∷ l) more.gone ∙ rw o refl;
        ordered = more.ordered;
        begins = more.begins;
        behind = more.behind ∙ rw o refl;
        here = more.here ∙ rw o refl;
      }

      from_case : IsCut es (front k es) → (o : Ordering) → key_cmp e.key k ≡ o → IsCut (e ∷ es) (front k (e ∷ es))
      from_case more Less o =
          let one : front k (e ∷ es) ≡ suc (front k es) = rw o (omega arith) in
          subst (IsCut (e ∷ es)) (sym one) (goes more o)
      from_case more Equal o = stays (ap is_lt o)
      from_case more Greater o = stays (ap is_lt o)

  -- where nothing is below the key
  pub record IsHead (e : Entry) (es : List Entry) : Type 0 where
    pub at_least : is_lt (key_cmp e.key k) ≡ false
    pub others : AllByRecursion (λ f. key_cmp f.key k ≡ Greater) es

  pub head : (e : Entry) (es : List Entry) → IsInKeyOrder (e ∷ es) → below k (e ∷ es) ≡ [] → IsHead e es
  head e es h none = from_case (is_lt (key_cmp e.key k)) refl
    where
      from_case : (b : Bool) → is_lt (key_cmp e.key k) ≡ b → IsHead e es
      from_case true b = absurd (let found : e ∷ below k es ≡ [] = sym (rw b refl) ∙ none in absurd (cc))
      from_case false b = record { at_least = b; others = all_behind e.key b es h.0 }

-- ---- the first entry, where nothing is below the key

module _ (k : Key) (f : Entry) (fs : List Entry) (h : IsInKeyOrder (f ∷ fs)) (none : below k (f ∷ fs) ≡ []) where
  pub found_first : key_cmp f.key k ≡ Equal → entry_at (f ∷ fs) k ≡ Some f
  found_first o = ap (λ b. cond b (Some f) (entry_at fs k)) (ap is_eq o)

  pub above_found : key_cmp f.key k ≡ Equal → above k (f ∷ fs) ≡ fs
  above_found o = rw o (all_above k fs (head k f fs h none).others)

  is_behind : is_eq (key_cmp f.key k) ≡ false → key_cmp f.key k ≡ Greater
  is_behind other = from_case (key_cmp f.key k) refl
    where
      from_case : (o : Ordering) → key_cmp f.key k ≡ o → key_cmp f.key k ≡ Greater
      from_case Less o = absurd (true≢false (sym (ap is_lt o) ∙ (head k f fs h none).at_least))
      from_case Equal o = absurd (true≢false (sym (ap is_eq o) ∙ other))
      from_case Greater o = o

  all : is_eq (key_cmp f.key k) ≡ false → AllByRecursion (λ g. key_cmp g.key k ≡ Greater) (f ∷ fs)
  all other = (is_behind other, (head k f fs h none).others)

  pub not_found : is_eq (key_cmp f.key k) ≡ false → entry_at (f ∷ fs) k ≡ None
  not_found other = none_at k (f ∷ fs) (all other)

  pub above_not_found : is_eq (key_cmp f.key k) ≡ false → above k (f ∷ fs) ≡ f ∷ fs
  above_not_found other = all_above k (f ∷ fs) (all other)

module _ (e f : Entry) (fs : List Entry) (h : IsInKeyOrder (f ∷ fs)) (none : below e.key (f ∷ fs) ≡ []) where
  pub has_first : key_cmp f.key e.key ≡ Equal → has (f ∷ fs) e ≡ entry_same f e
  has_first o = ap (λ p. option_map_or (λ g. entry_same g e) p false) (found_first e.key f fs h none o)

  pub above_first : key_cmp f.key e.key ≡ Equal → above e.key (f ∷ fs) ≡ fs
  above_first o = above_found e.key f fs h none o

  pub has_no_first : is_eq (key_cmp f.key e.key) ≡ false → has (f ∷ fs) e ≡ false
  has_no_first other = ap (λ o. option_map_or (λ g. entry_same g e) o false) (not_found e.key f fs h none other)
