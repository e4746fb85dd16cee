-- The first item of a name, as items are taken one at a time.
use Rattle.std.proofs.Common.{◌≡◌, ℕ, ◌+◌, ◌<◌, length, get_or, take, Bool, true, false, cond, Option, Some, None, is_some, List, [], ◌∷◌, ◌++◌, refl, sym, ap, ◌∙◌}
use Rattle.std.specs.List.{find}
use Rattle.std.specs.Option.{option_map, option_or}
use Rattle.std.specs.BTreeMap.{BTreeMap, get_by_text}
use Rattle.std.specs.Map.{update}
use Rattle.std.specs.Str.{bytes_eq}
use Rattle.std.specs.Cmp.Lexicographic.{texts_ties, bytes_decides}
use Rattle.std.specs.declared.string.String.{String}
use Rattle.std.specs.declared.alloc.Global.{Global}
use Rattle.std.proofs.lemmas.List.{take_more}
use Rattle.std.proofs.lemmas.List.Folds.{find-append}
use Rattle.conf_types.specs.Lists.{is_same}
use Rattle.conf_resolve.specs.Indexed.{first_named, LeadToFirst}

-- ---- texts that are the same

pub same_either_way : (a b : List ℕ) → bytes_eq a b ≡ is_same a b
same_either_way a b = texts_ties a b

-- ---- the first of two

module _ {B : Type 0} where
  or_none : (o : Option B) → o ≡ option_or o None
  or_none None = refl
  or_none (Some x) = refl

  or_later : (o p : Option B) → is_some o ≡ false → p ≡ option_or o p
  or_later None p none = refl
  or_later (Some x) p none = absurd (cc)

  or_earlier : (o p : Option B) → is_some o ≡ true → o ≡ option_or o p
  or_earlier None p some = absurd (cc)
  or_earlier (Some x) p some = refl

module _ {B : Type 0} (at : List ℕ → Option B) (name : List ℕ) (value : B) where
  -- a name that is there keeps its value
  pub one_kept : is_some (at name) ≡ true → (q : List ℕ) → at q ≡ option_or (at q) (cond (is_same name q) (Some value) None)
  one_kept there q = by (bytes_eq name q) refl ∙ ap (λ b. option_or (at q) (cond b (Some value) None)) (same_either_way name q)
    where
      by : (b : Bool) → bytes_eq name q ≡ b → at q ≡ option_or (at q) (cond b (Some value) None)
      by true same = or_earlier (at q) (Some value) (ap (λ n. is_some (at n)) (sym ((bytes_decides name q).0 same)) ∙ there)
      by false differs = or_none (at q)

  -- another gets the value
  pub one_more : (after : List ℕ → Option B) → is_some (at name) ≡ false → ((q : List ℕ) → after q ≡ update bytes_eq at name (Some value) q) → (q : List ℕ) → after q ≡ option_or (at q) (cond (is_same name q) (Some value) None)
  one_more after absent sets q = sets q ∙ by (bytes_eq name q) refl ∙ ap (λ b. option_or (at q) (cond b (Some value) None)) (same_either_way name q)
    where
      by : (b : Bool) → bytes_eq name q ≡ b → cond b (Some value) (at q) ≡ option_or (at q) (cond b (Some value) None)
      by true same = or_later (at q) (Some value) (ap (λ n. is_some (at n)) (sym ((bytes_decides name q).0 same)) ∙ absent)
      by false differs = or_none (at q)

-- ---- a list with one more

module _ {A B : Type 0} (name : A → List ℕ) (value : A → B) where
  map_or : (o p : Option A) → option_map value (option_or o p) ≡ option_or (option_map value o) (option_map value p)
  map_or None p = refl
  map_or (Some x) p = refl

  map_one : (b : Bool) (x : A) → option_map value (cond b (Some x) None) ≡ cond b (Some (value x)) None
  map_one true x = refl
  map_one false x = refl

  named_last : (xs : List A) (x : A) (q : List ℕ) → first_named name value (xs ++ x ∷ []) q ≡ option_or (first_named name value xs q) (cond (is_same (name x) q) (Some (value x)) None)
  named_last xs x q =
      let test : A → Bool = λ y. is_same (name y) q in
      ap (option_map value) (find-append test xs (x ∷ []))
      ∙ map_or (find test xs) (cond (test x) (Some x) None)
      ∙ ap (option_or (first_named name value xs q)) (map_one (test x) x)

  pub next_named : (xs : List A) (i : ℕ) (x : A) (values after : BTreeMap (String Global) B) → i < length xs → x ≡ get_or xs i x → LeadToFirst name value (take i xs) values
      → ((q : List ℕ) → get_by_text after q ≡ option_or (get_by_text values q) (cond (is_same (name x) q) (Some (value x)) None))
      → LeadToFirst name value (take (i + 1) xs) after
  next_named xs i x values after lt is lead added =
      let one : take (i + 1) xs ≡ take i xs ++ x ∷ [] = take_more xs i x lt ∙ ap (λ (y : A). take i xs ++ y ∷ []) (sym is) in
      record {
        first = λ q.
            added q
            ∙ ap (λ (o : Option B). option_or o (cond (is_same (name x) q) (Some (value x)) None)) (lead.first q)
            ∙ sym (named_last (take i xs) x q)
            ∙ ap (λ (ys : List A). first_named name value ys q) (sym one);
      }
