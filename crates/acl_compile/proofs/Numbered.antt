-- Rules in turn: each has the next lower priority.
use Rattle.std.proofs.Common.{◌≡◌, ℕ, suc, ◌+◌, ◌-◌, ◌<◌, Option, Some, None, List, [], ◌∷◌, ◌++◌, length, get_or, take, refl, sym, ap, ◌∙◌, arith, append-nil, length-take-le}
use Rattle.std.specs.List.{filter_map, flat_map, cons_option, enumerate_from}
use Rattle.std.proofs.lemmas.List.{take_more}
use Rattle.std.proofs.lemmas.Grind.{flat_map-append}
use Rattle.of_match.specs.declared.entry.Entry.{Entry}
use Rattle.conf_types.specs.declared.acl.Rule.{Rule}
use Rattle.conf_types.specs.declared.datapath.Dp.{Dp}
use Rattle.acl_compile.specs.declared.place.Place.{Place}
use Rattle.acl_compile.specs.Rows.{rule_priority, rule_entry}
use Rattle.acl_compile.specs.Slices.{rule_entries, entries_from}

module _ (at : Place) (d : Dp) where
  joined : (o : Option Entry) (es fs : List Entry) → cons_option o es ++ fs ≡ cons_option o (es ++ fs)
  joined None es fs = refl
  joined (Some e) es fs = refl

  pub entries-append : (p : ℕ) (xs ys : List Rule) → entries_from at d p (xs ++ ys) ≡ entries_from at d p xs ++ entries_from at d (p - length xs) ys
  entries-append p [] ys = ap (λ q. entries_from at d q ys) (let e : p ≡ p - 0 = omega arith in e)
  entries-append p (x ∷ xs) ys =
      let e : p - 1 - length xs ≡ p - suc (length xs) = omega arith in
      ap (cons_option (rule_entry at d p x)) (entries-append (p - 1) xs ys ∙ ap (λ q. entries_from at d (p - 1) xs ++ entries_from at d q ys) e)
      ∙ sym (joined (rule_entry at d p x) (entries_from at d (p - 1) xs) (entries_from at d (p - suc (length xs)) ys))

  -- one rule more
  pub entries_more : (p i : ℕ) (x : Rule) (xs : List Rule) → i < length xs → x ≡ get_or xs i x
      → entries_from at d p (take (i + 1) xs) ≡ entries_from at d p (take i xs) ++ cons_option (rule_entry at d (p - i) x) []
  entries_more p i x xs lt is =
      let is_long : length (take i xs) ≡ i = length-take-le i xs (omega arith) in
      ap (entries_from at d p) (take_more xs i x lt) ∙ entries-append p (take i xs) (get_or xs i x ∷ [])
      ∙ ap (λ n. entries_from at d p (take i xs) ++ cons_option (rule_entry at d (p - n) (get_or xs i x)) []) is_long
      ∙ ap (λ y. entries_from at d p (take i xs) ++ cons_option (rule_entry at d (p - i) y) []) (sym is)

  numbered : (r : ℕ) (rules : List Rule) → entries_from at d (rule_priority r) rules ≡ filter_map (λ numbered. rule_entry at d (rule_priority numbered.0) numbered.1) (enumerate_from r rules)
  numbered r [] = refl
  numbered r (x ∷ xs) =
      let e : 10000 - r - 1 ≡ 10000 - (r + 1) = omega arith in
      ap (cons_option (rule_entry at d (rule_priority r) x)) (ap (λ p. entries_from at d p xs) e ∙ numbered (r + 1) xs)

  -- all rules, each by its number
  pub entries_by_number : (rules : List Rule) → entries_from at d 10000 rules ≡ rule_entries at d rules
  entries_by_number rules = numbered 0 rules

-- one item more
pub flat_more : {X Y : Type 0} (f : X → List Y) (xs : List X) (i : ℕ) (x : X) → i < length xs → x ≡ get_or xs i x → flat_map f (take (i + 1) xs) ≡ flat_map f (take i xs) ++ f x
flat_more f xs i x lt is =
    ap (flat_map f) (take_more xs i x lt) ∙ flat_map-append f (take i xs) (get_or xs i x ∷ []) ∙ ap (λ y. flat_map f (take i xs) ++ (f y ++ [])) (sym is) ∙ ap (λ l. flat_map f (take i xs) ++ l) (append-nil (f x))
