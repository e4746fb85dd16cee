-- How much longer a map is printed where the entry with one key is longer: the keys of a map differ.
use Rattle.std.proofs.Common.{◌≡◌, ◌≤◌, ◌+◌, ℕ, Bool, true, false, ◌||◌, List, [], ◌∷◌, ◌++◌, map, refl, sym, ap, subst, ◌∙◌, arith}
use Rattle.std.proofs.Math.Bool.{or-true}
use Rattle.std.proofs.lemmas.Bool.Decides.{Decides-int_eq}
use Rattle.std.proofs.lemmas.Slice.Eq.{bytes_eq-Decides}
use Rattle.yaml_tree.specs.declared.tree.Key.{Key}
use Rattle.yaml_tree.specs.declared.tree.Key.TheVariants as keys
use Rattle.yaml_tree.specs.declared.tree.Pair.{Pair}
use Rattle.yaml_subset.specs.Entries.{key_eq}
use Rattle.yaml_subset.specs.ReadBack.{is_among, is_sound, entries_sound, entry_sound}
use Rattle.yaml_subset.proofs.PrintedTrees.{SoundEntries, sound_entries}
use Rattle.conf_shape.specs.Sections.{is_key}
use Rattle.bgp_load.proofs.Lengths.{entries_len, entry_len, entry_first}

-- ---- keys

key_same : (k : Key) → key_eq k k ≡ true
key_same (keys.Int n) = (Decides-int_eq n n).1 refl
key_same (keys.Text text) = (bytes_eq-Decides text text).1 refl

pub named : (name : List ℕ) (k : Key) → is_key name k ≡ true → k ≡ keys.Text name
named name (keys.Int n) e = absurd cc
named name (keys.Text text) e = ap (λ (x : List ℕ). keys.Text x) ((bytes_eq-Decides text name).0 e)

among_last : (before : List Key) (k : Key) → is_among (before ++ k ∷ []) k ≡ true
among_last [] k = rw (key_same k) refl
among_last (j ∷ js) k = ap (λ b. key_eq j k || b) (among_last js k) ∙ or-true (key_eq j k)

among_more : (before : List Key) (more k : Key) → is_among before k ≡ true → is_among (before ++ more ∷ []) k ≡ true
among_more [] more k e = absurd cc
among_more (j ∷ js) more k e = by (key_eq j k) (λ h. among_more js more k h) e
  where
    by : (b : Bool) → (is_among js k ≡ true → is_among (js ++ more ∷ []) k ≡ true) → (b || is_among js k) ≡ true → (b || is_among (js ++ more ∷ []) k) ≡ true
    by true later e = refl
    by false later e = later e

-- ---- the entries of a map, of which those that are hit have one key, and become longer

module _ (hit : Pair → Bool) (to : Pair → Pair) (key : Key) (indent : List ℕ) (extra : ℕ) (one : (p : Pair) → hit p ≡ true → p.key ≡ key) (same : (p : Pair) → hit p ≡ false → to p ≡ p)
    (longer : (p : Pair) → is_sound p.value ≡ true → hit p ≡ true → entry_len indent (to p) ≤ entry_len indent p + extra) where
  -- behind the key no entry is hit
  unchanged : (before : List Key) (ps : List Pair) → is_among before key ≡ true → entries_sound before (map entry_sound ps) ≡ true → map to ps ≡ ps
  unchanged before [] among sound = refl
  unchanged before (p ∷ ps) among sound = by (hit p) (unchanged (before ++ p.key ∷ []) ps (among_more before p.key key among) (sound_entries before p ps sound).more) refl
    where
      parts : SoundEntries before p ps
      parts = sound_entries before p ps sound

      by : (b : Bool) → map to ps ≡ ps → hit p ≡ b → map to (p ∷ ps) ≡ p ∷ ps
      by true rest h = let both : true ≡ false = sym among ∙ ap (is_among before) (sym (one p h)) ∙ parts.apart in absurd cc
      by false rest h = ap (λ q. q ∷ map to ps) (same p h) ∙ ap (λ qs. p ∷ qs) rest

  pub entries_grown : (before : List Key) (ps : List Pair) → entries_sound before (map entry_sound ps) ≡ true → entries_len indent (map to ps) ≤ entries_len indent ps + extra
  entries_grown before [] sound = least extra
    where
      least : (n : ℕ) → 0 ≤ 0 + n
      least n = omega arith
  entries_grown before (p ∷ ps) sound = by (hit p) (entries_grown (before ++ p.key ∷ []) ps (sound_entries before p ps sound).more) refl
    where
      parts : SoundEntries before p ps
      parts = sound_entries before p ps sound

      joined : (a b c d : ℕ) (x y : ℕ) → x ≡ a + c → y ≡ b + c → a ≤ b + d → x ≤ y + d
      joined a b c d x y e f h = omega arith

      behind : (a c d n : ℕ) (x y : ℕ) → x ≡ a + c → y ≡ a + n → c ≤ n + d → x ≤ y + d
      behind a c d n x y e f h = omega arith

      by : (b : Bool) → entries_len indent (map to ps) ≤ entries_len indent ps + extra → hit p ≡ b → entries_len indent (map to (p ∷ ps)) ≤ entries_len indent (p ∷ ps) + extra
      by true later h =
          let among : is_among (before ++ p.key ∷ []) key ≡ true = subst (λ (k : Key). is_among (before ++ k ∷ []) key ≡ true) (sym (one p h)) (among_last before key) in
          let rest : map to ps ≡ ps = unchanged (before ++ p.key ∷ []) ps among parts.more in
          joined (entry_len indent (to p)) (entry_len indent p) (entries_len indent ps) extra (entries_len indent (map to (p ∷ ps))) (entries_len indent (p ∷ ps))
          (entry_first indent (to p) (map to ps) ∙ ap (λ (qs : List Pair). entry_len indent (to p) + entries_len indent qs) rest) (entry_first indent p ps) (longer p parts.value h)
      by false later h =
          behind (entry_len indent p) (entries_len indent (map to ps)) extra (entries_len indent ps) (entries_len indent (map to (p ∷ ps))) (entries_len indent (p ∷ ps))
          (entry_first indent (to p) (map to ps) ∙ ap (λ (q : Pair). entry_len indent q + entries_len indent (map to ps)) (same p h)) (entry_first indent p ps)
          later
