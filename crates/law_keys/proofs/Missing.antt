-- The keys that have to be there, and the first of them that isn't.
use Rattle.std.specs.Prelude.{◌≡◌, ℕ, ◌&&◌, Bool, true, false, not, List, [], ◌∷◌, map, codes, Option, Some, None, if◌then◌else◌}
use Rattle.std.specs.List.{AllByRecursion, list_any}
use Rattle.std.proofs.Common.{inl, inr, refl, sym, ap, ◌∙◌, subst, true≢false}
use Rattle.std.proofs.lemmas.Slice.Eq.{bytes_eq-Decides}
use Rattle.yaml_tree.specs.declared.tree.Key.{Key}
use Rattle.yaml_tree.specs.declared.tree.Key.TheVariants as key
use Rattle.conf_shape.specs.declared.faults.Found.{Found}
use Rattle.conf_shape.specs.declared.kinds.MapKind.{MapKind}
use Rattle.conf_shape.specs.declared.kinds.Need.{Need}
use Rattle.conf_shape.specs.declared.kinds.Need.TheVariants.{Always, UnlessNumbered, UnlessBgp, Never}
use Rattle.conf_shape.specs.Faults.{missing_row, missing, missing_in}
use Rattle.conf_shape.specs.Keys.{KeyRow, keys_of}
use Rattle.conf_shape.specs.Sections.{is_key, number_of, is_needed, lacks}
use Rattle.law_keys.specs.Causes.{Lacks, IsFirstLacking}
use Rattle.law_keys.specs.Grammar.{IsOneOf, own_number, IsNeeded}
use Rattle.law_keys.specs.Tables.{Line, lines}
use Rattle.law_keys.proofs.Lists.{any_in, in_any}
use Rattle.law_keys.proofs.MapKeys.{line_of, lines_are, number_is}

key_is : (name : List ℕ) (k : Key) → is_key name k ≡ true → k ≡ key.Text name
key_is name (key.Text text) e = ap key.Text ((bytes_eq-Decides text name).0 e)
key_is name (key.Int n) e = absurd (true≢false (sym e))

pub there_is : (name : List ℕ) (keys : List Key) → list_any (is_key name) keys ≡ true → IsOneOf keys (key.Text name)
there_is name keys is = let k = any_in (is_key name) keys is in subst (IsOneOf keys) (key_is name k.0 k.2) k.1

pub there_tests : (name : List ℕ) (keys : List Key) → IsOneOf keys (key.Text name) → list_any (is_key name) keys ≡ true
there_tests name keys i = in_any (is_key name) keys (key.Text name) i ((bytes_eq-Decides name name).1 refl)

needed_is : (number : Option ℕ) (keys : List Key) (need : Need) → is_needed number keys need ≡ true → IsNeeded number keys need
needed_is number keys Always is = tt
needed_is None keys UnlessNumbered is = tt
needed_is (Some n) keys UnlessNumbered is = absurd (true≢false (sym is))
needed_is number keys UnlessBgp is = λ i. true≢false (sym is ∙ ap not (there_tests (codes "bgp") keys i))
needed_is number keys Never is = absurd (true≢false (sym is))

needed_tests : (number : Option ℕ) (keys : List Key) (need : Need) → IsNeeded number keys need → is_needed number keys need ≡ true
needed_tests number keys Always h = refl
needed_tests None keys UnlessNumbered h = refl
needed_tests (Some n) keys UnlessNumbered h = absurd h
needed_tests number keys UnlessBgp h = by (list_any (is_key (codes "bgp")) keys) refl
  where
    by : (b : Bool) → list_any (is_key (codes "bgp")) keys ≡ b → not b ≡ true
    by true e = absurd (h (there_is (codes "bgp") keys e))
    by false e = refl
needed_tests number keys Never h = absurd h

-- a key is lacking, or is there if it has to be
lacks_is : (number : Option ℕ) (keys : List Key) (r : KeyRow) → lacks number keys r ≡ true → Lacks number keys (line_of r)
lacks_is number keys r is = by (is_needed number keys r.need) (list_any (is_key r.key) keys) refl refl is
  where
    by : (a b : Bool) → is_needed number keys r.need ≡ a → list_any (is_key r.key) keys ≡ b → (a && not b) ≡ true → Lacks number keys (line_of r)
    by true false e f both = (needed_is number keys r.need e, λ i. true≢false (sym (there_tests r.key keys i) ∙ f))
    by true true e f both = absurd (true≢false (sym both))
    by false b e f both = absurd (true≢false (sym both))

there_if_needed : (number : Option ℕ) (keys : List Key) (r : KeyRow) → lacks number keys r ≡ false → IsNeeded number keys r.need → IsOneOf keys (key.Text r.key)
there_if_needed number keys r is h = by (list_any (is_key r.key) keys) refl
  where
    by : (b : Bool) → list_any (is_key r.key) keys ≡ b → IsOneOf keys (key.Text r.key)
    by true e = there_is r.key keys e
    by false e = absurd (true≢false (sym (ap (λ (a : Bool). a && not (list_any (is_key r.key) keys)) (needed_tests number keys r.need h) ∙ ap not e) ∙ is))

abbrev pub MissingTold : Option ℕ → List Key → List Line → List Found → Type 0
MissingTold number keys ls [] = AllByRecursion (λ l. IsNeeded number keys l.need → IsOneOf keys (key.Text l.key)) ls
MissingTold number keys ls (f ∷ fs) = (name : List ℕ) × (f ≡ missing_row name) × IsFirstLacking number keys ls name

rows_told : (number : Option ℕ) (keys : List Key) (rows : List KeyRow) → MissingTold number keys (map line_of rows) (missing number keys rows)
rows_told number keys [] = tt
rows_told number keys (r ∷ rs) = by (lacks number keys r) refl (rows_told number keys rs)
  where
    later : lacks number keys r ≡ false → (fs : List Found) → MissingTold number keys (map line_of rs) fs → MissingTold number keys (line_of r ∷ map line_of rs) fs
    later is [] more = (there_if_needed number keys r is, more)
    later is (f ∷ fs) more = (more.0, more.1, inr ((λ l. l.1 (there_if_needed number keys r is l.0)), more.2))

    by : (b : Bool) → lacks number keys r ≡ b → MissingTold number keys (map line_of rs) (missing number keys rs)
        → MissingTold number keys (line_of r ∷ map line_of rs) (if b then missing_row r.key ∷ missing number keys rs else missing number keys rs)
    by true is more = (r.key, refl, inl (lacks_is number keys r is, refl))
    by false is more = later is (missing number keys rs) more

-- of a map with these keys
pub missing_told : (m : MapKind) (keys : List Key) → MissingTold (own_number m) keys (lines m) (missing_in m keys)
missing_told m keys =
    subst (λ ls. MissingTold (own_number m) keys ls (missing_in m keys)) (lines_are m)
    (subst (λ number. MissingTold number keys (map line_of (keys_of m).rows) (missing_in m keys)) (number_is m) (rows_told (number_of m) keys (keys_of m).rows))
