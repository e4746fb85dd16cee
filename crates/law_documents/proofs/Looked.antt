-- What stands under the keys of two maps that are the same but for the order of their entries.
use Rattle.std.proofs.Common.{◌≡◌, ℕ, Bool, true, false, List, [], ◌∷◌, Option, Some, Ok, refl, sym, ap, ◌∙◌, subst, true≢false}
use Rattle.std.specs.Prelude.{◌-◌, ◌^◌, map, cond, is_some, option_and_then, unwrap_or, if◌then◌else◌}
use Rattle.std.specs.List.{find}
use Rattle.std.specs.Option.{option_map, option_map_or}
use Rattle.yaml_tree.specs.declared.tree.Key.TheVariants as key
use Rattle.yaml_tree.specs.declared.tree.Pair.{Pair}
use Rattle.yaml_tree.specs.declared.tree.Tree.{Tree}
use Rattle.conf_shape.specs.declared.kinds.Kind.{Kind}
use Rattle.conf_shape.specs.declared.kinds.MapKind.{MapKind}
use Rattle.conf_shape.specs.Faults.{faults_of}
use Rattle.conf_shape.specs.Raw.{is_given}
use Rattle.conf_shape.specs.Reads.{value_at, flag_of, permission_of, number_of, text_of, words_of, items_of, entries_of, words_at, entries_at, option_at, list_at, one_or_list_of, one_or_list_at, number_under, default_of, default_flag, default_number, default_text, flag_at, permission_at, number_at, text_at}
use Rattle.conf_shape.specs.declared.raw.OneOrList.TheVariants as several
use Rattle.conf_shape.specs.Scalars.{map_kind}
use Rattle.conf_shape.specs.Sections.{is_key, under_key}
use Rattle.conf_shape.specs.Written.{Takes}
use Rattle.law_checks.proofs.Right.{HasKind}
use Rattle.law_documents.specs.SameButOrder.{SameButOrder}
use Rattle.law_documents.proofs.Clash.{clash, key_is}
use Rattle.law_documents.proofs.Kept.{Entries, nothing, entries_kept, flag_read, permission_read, number_read, text_read}
use Rattle.law_documents.proofs.Layers.{IsSameEntry}
use Rattle.law_documents.proofs.Reordered.{each_so, holding, Both, neither, two, both_mapped, both_read, found_of}

-- what stands under a name of both maps: the same but for the order, and right as what the name takes
abbrev pub At : MapKind → List ℕ → Tree → Tree → Type 0
At m name t u = SameButOrder t u × ((kind : Kind) → Takes m name kind → faults_of t kind ≡ [])

abbrev pub Looked : MapKind → List Pair → List Pair → Type 0
Looked m ps qs = (name : List ℕ) → Both (At m name) (value_at name ps) (value_at name qs)

value_found : (name : List ℕ) (ps : List Pair) → value_at name ps ≡ option_map (λ (p : Pair). p.value) (find (λ (p : Pair). is_key name p.key) ps)
value_found name [] = refl
value_found name (p ∷ ps) = by (is_key name p.key) (value_found name ps)
  where
    by : (is : Bool) → value_at name ps ≡ option_map (λ (p : Pair). p.value) (find (λ (p : Pair). is_key name p.key) ps) → (if is then Some p.value else value_at name ps) ≡ option_map (λ (p : Pair). p.value) (cond is (Some p) (find (λ (p : Pair). is_key name p.key) ps))
    by true more = refl
    by false more = more

-- a map in which a name is a key once
module _ (m : MapKind) (once : (name : List ℕ) → clash m (key.Text name) (key.Text name) ≡ true) where
  apart : (name : List ℕ) (p q : Pair) → clash m p.key q.key ≡ false → is_key name p.key ≡ true → is_key name q.key ≡ false
  apart name p q not is = by (is_key name q.key) refl
    where
      by : (b : Bool) → is_key name q.key ≡ b → b ≡ false
      by false also = refl
      by true also = absurd (true≢false (sym (once name) ∙ subst (λ k. clash m (key.Text name) k ≡ false) (key_is name q.key also) (subst (λ k. clash m k q.key ≡ false) (key_is name p.key is) not)))

  pub look : (ps qs : List Pair) → Entries m ps qs → Looked m ps qs
  look ps qs e name =
      subst (λ o. Both (At m name) o (value_at name qs)) (sym (value_found name ps)) (subst (Both (At m name) (option_map (λ (p : Pair). p.value) (find (λ (p : Pair). is_key name p.key) ps))) (sym (value_found name qs))
      (both_mapped (λ p q. (HasKind p.value (under_key m [] p.key) × IsSameEntry p q) × (is_key name p.key ≡ true)) (At m name) (λ (p : Pair). p.value) (λ (p : Pair). p.value) there (find (λ (p : Pair). is_key name p.key) ps) (find (λ (p : Pair). is_key name p.key) qs)
      (found_of (λ p q. HasKind p.value (under_key m [] p.key) × IsSameEntry p q) (λ p. is_key name p.key) (λ p. is_key name p.key) (λ p q r. ap (is_key name) (r.1).0) ps qs (holding IsSameEntry (λ p. HasKind p.value (under_key m [] p.key)) ps qs e.same e.each) (each_so (λ p q. clash m p.key q.key ≡ false) (λ p q. is_key name p.key ≡ true → is_key name q.key ≡ false) (apart name) ps e.apart))))
    where
      there : (p q : Pair) → (HasKind p.value (under_key m [] p.key) × IsSameEntry p q) × (is_key name p.key ≡ true) → At m name p.value q.value
      there p q r = (
        ((r.0).1).1,
        λ kind takes.
            let has = (r.0).0 in
            let same : under_key m [] p.key ≡ Ok kind = ap (under_key m []) (key_is name p.key r.1) ∙ takes in
            let is : has.0 ≡ kind = cc (has.1, same) in subst (λ k. faults_of p.value k ≡ []) is has.2,
      )

-- ---- what is read under a name

module _ (m : MapKind) (ps qs : List Pair) (looked : Looked m ps qs) where
  pub read_at : {A : Type 0} (name : List ℕ) (f : Option Tree → A) → ((t u : Tree) → At m name t u → f (Some t) ≡ f (Some u)) → f (value_at name ps) ≡ f (value_at name qs)
  read_at name f each = both_read (At m name) f f refl each (value_at name ps) (value_at name qs) (looked name)

  pub given_same : (name : List ℕ) → is_given name ps ≡ is_given name qs
  given_same name = read_at name is_some (λ t u a. refl)

  pub flag_same : (d : MapKind) (name : List ℕ) → flag_at d name ps ≡ flag_at d name qs
  flag_same d name = read_at name (λ o. unwrap_or (option_and_then flag_of o) (default_flag (default_of d name))) (λ t u a. ap (λ o. unwrap_or o (default_flag (default_of d name))) (flag_read t u a.0))

  pub permission_same : (d : MapKind) (name : List ℕ) → permission_at d name ps ≡ permission_at d name qs
  permission_same d name = read_at name (λ o. unwrap_or (option_and_then permission_of o) (default_flag (default_of d name))) (λ t u a. ap (λ o. unwrap_or o (default_flag (default_of d name))) (permission_read t u a.0))

  pub number_under_same : (bits : ℕ) (name : List ℕ) → number_under bits name ps ≡ number_under bits name qs
  number_under_same bits name = read_at name (option_and_then (number_of 0 (2 ^ bits - 1))) (λ t u a. number_read 0 (2 ^ bits - 1) t u a.0)

  pub number_same : (d : MapKind) (name : List ℕ) → number_at d name ps ≡ number_at d name qs
  number_same d name = ap (λ o. unwrap_or o (default_number (default_of d name))) (number_under_same 32 name)

  pub text_same : (d : MapKind) (name own : List ℕ) → text_at d name own ps ≡ text_at d name own qs
  text_same d name own = read_at name (λ o. unwrap_or (option_and_then text_of o) (default_text own (default_of d name))) (λ t u a. ap (λ o. unwrap_or o (default_text own (default_of d name))) (text_read t u a.0))

  pub words_same : (name : List ℕ) → words_at name ps ≡ words_at name qs
  words_same name = read_at name (λ o. option_map_or words_of o []) (λ t u a. ap (λ o. unwrap_or o []) (text_read t u a.0))

  pub option_same : {A : Type 0} (f : Tree → A) (name : List ℕ) → ((t u : Tree) → At m name t u → f t ≡ f u) → option_at f name ps ≡ option_at f name qs
  option_same f name each = read_at name (option_map f) (λ t u a. ap Some (each t u a))

  pub list_same : {A : Type 0} (f : Tree → A) (name : List ℕ) → ((t u : Tree) → At m name t u → map f (items_of t) ≡ map f (items_of u)) → list_at f name ps ≡ list_at f name qs
  list_same f name each = read_at name (λ o. map f (option_map_or items_of o [])) each

  pub one_or_list_same : {A : Type 0} (f : Tree → A) (name : List ℕ) → ((t u : Tree) → At m name t u → one_or_list_of f t ≡ one_or_list_of f u) → one_or_list_at f name ps ≡ one_or_list_at f name qs
  one_or_list_same f name each = read_at name (λ o. option_map_or (one_or_list_of f) o (several.List [])) each

  -- the map that stands there
  pub below : (inner : MapKind) (kind : Kind) (name : List ℕ) → map_kind kind ≡ Some inner → Takes m name kind → Entries inner (entries_at name ps) (entries_at name qs)
  below inner kind name is takes = by (value_at name ps) (value_at name qs) (looked name)
    where
      by : (o p : Option Tree) → Both (At m name) o p → Entries inner (option_map_or entries_of o []) (option_map_or entries_of p [])
      by _ _ neither = nothing inner
      by _ _ (two t u a) = entries_kept kind inner is t u (a.1 kind takes) a.0
