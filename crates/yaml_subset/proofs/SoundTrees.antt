-- Sound trees that nest so many lists and maps, by what they are made of.
use Rattle.std.proofs.Common.{◌≡◌, ℕ, suc, ◌≤◌, ℤ, true, false, Bool, List, [], ◌∷◌, ◌++◌, refl, sym, ap, ◌∙◌, subst, arith}
use Rattle.std.specs.Prelude.{map}
use Rattle.std.specs.Str.{is_utf8}
use Rattle.yaml_tree.specs.declared.tree.Tree.{Tree}
use Rattle.yaml_tree.specs.declared.tree.Tree.TheVariants as trees
use Rattle.yaml_tree.specs.declared.tree.Key.{Key}
use Rattle.yaml_tree.specs.declared.tree.Pair.{Pair}
use Rattle.yaml_tree.specs.declared.tree.Tree.TheOpen as open_tree
use Rattle.yaml_tree.specs.declared.tree.Tree.TheFolds.{fold-roll-Tree}
use Rattle.yaml_subset.specs.Entries.{has_key}
use Rattle.yaml_subset.specs.Levels.{most, levels_step, pair_levels_step, levels, pair_levels}
use Rattle.yaml_subset.specs.ReadBack.{is_i128, is_key, entries_sound, all_sound, sound_step, sound_pair, is_sound, entry_sound}
use Rattle.yaml_subset.proofs.TreeLevels.{levels_list, levels_map, levels_pair}
use Rattle.yaml_subset.proofs.PrintedTrees.{sound_list, sound_map, sound_entry, sound_int, sound_text, SoundEntries, key_at, has_key_among, keys_push}

-- the tree is sound and nests at most n lists and maps
pub record IsWithin (n : ℕ) (t : Tree) : Type 0 where
  pub sound : is_sound t ≡ true
  pub nested : levels t ≤ n

pub within_more : (n m : ℕ) (t : Tree) → n ≤ m → IsWithin n t → IsWithin m t
within_more n m t l w = record { sound = w.sound; nested = omega (arith, w.nested) }

levels_null : levels trees.Null ≡ 0
levels_null = ap levels (sym trees.rolls-Null) ∙ fold-roll-Tree ℕ ℕ levels_step pair_levels_step open_tree.Null

levels_bool : (b : Bool) → levels (trees.Bool b) ≡ 0
levels_bool b = ap levels (sym (trees.rolls-Bool b)) ∙ fold-roll-Tree ℕ ℕ levels_step pair_levels_step (open_tree.Bool b)

levels_int : (n : ℤ) → levels (trees.Int n) ≡ 0
levels_int n = ap levels (sym (trees.rolls-Int n)) ∙ fold-roll-Tree ℕ ℕ levels_step pair_levels_step (open_tree.Int n)

levels_text : (text : List ℕ) → levels (trees.Text text) ≡ 0
levels_text text = ap levels (sym (trees.rolls-Text text)) ∙ fold-roll-Tree ℕ ℕ levels_step pair_levels_step (open_tree.Text text)

pub null_within : (n : ℕ) → IsWithin n trees.Null
null_within n = record {
  sound = ap is_sound (sym trees.rolls-Null) ∙ fold-roll-Tree Bool (Key × Bool) sound_step sound_pair open_tree.Null;
  nested = omega (arith, levels_null);
}

pub bool_within : (b : Bool) → IsWithin 0 (trees.Bool b)
bool_within b = record {
  sound = ap is_sound (sym (trees.rolls-Bool b)) ∙ fold-roll-Tree Bool (Key × Bool) sound_step sound_pair (open_tree.Bool b);
  nested = omega (arith, levels_bool b);
}

pub int_within : (n : ℤ) → is_i128 n ≡ true → IsWithin 0 (trees.Int n)
int_within n h = record { sound = sound_int n ∙ h; nested = omega (arith, levels_int n) }

pub text_within : (text : List ℕ) → is_utf8 text ≡ true → IsWithin 0 (trees.Text text)
text_within text h = record { sound = sound_text text ∙ h; nested = omega (arith, levels_text text) }

-- each item is
pub record ItemsWithin (n : ℕ) (items : List Tree) : Type 0 where
  pub sound : all_sound (map is_sound items) ≡ true
  pub nested : most (map levels items) ≤ n

pub no_items : (n : ℕ) → ItemsWithin n []
no_items n = record { sound = refl; nested = omega arith }

pub items_more : (n : ℕ) (v : Tree) (vs : List Tree) → IsWithin n v → ItemsWithin n vs → ItemsWithin n (v ∷ vs)
items_more n v vs w all = record { sound = rw w.sound all.sound; nested = omega (arith, w.nested, all.nested) }

pub list_within : (n : ℕ) (items : List Tree) → ItemsWithin n items → IsWithin (suc n) (trees.List items)
list_within n items all = record { sound = sound_list items ∙ all.sound; nested = omega (arith, levels_list items, all.nested) }

-- each entry is, and its key is none of those before it
pub record PairsWithin (n : ℕ) (before pairs : List Pair) : Type 0 where
  pub sound : entries_sound (map key_at before) (map entry_sound pairs) ≡ true
  pub nested : most (map pair_levels pairs) ≤ n

pub no_pairs : (n : ℕ) (before : List Pair) → PairsWithin n before []
no_pairs n before = record { sound = refl; nested = omega arith }

made_entry : (before : List Key) (p : Pair) (ps : List Pair) (e : Key × Bool) → e ≡ (p.key, is_sound p.value) → SoundEntries before p ps → entries_sound before (e ∷ map entry_sound ps) ≡ true
made_entry before p ps e q s = rw q (rw (s.key, s.value, s.apart) s.more)

pub pairs_more : (n : ℕ) (before : List Pair) (p : Pair) (ps : List Pair) → is_key p.key ≡ true → has_key before p.key ≡ false → IsWithin n p.value → PairsWithin n (before ++ p ∷ []) ps → PairsWithin n before (p ∷ ps)
pairs_more n before p ps k first w all = record {
  sound = made_entry (map key_at before) p ps (entry_sound p) (sound_entry p) (record {
    key = k;
    value = w.sound;
    apart = sym (has_key_among before p.key) ∙ first;
    more = subst (λ (ks : List Key). entries_sound ks (map entry_sound ps) ≡ true) (keys_push before p) all.sound;
  });
  nested = omega (arith, levels_pair p, w.nested, all.nested);
}

pub map_within : (n : ℕ) (pairs : List Pair) → PairsWithin n [] pairs → IsWithin (suc n) (trees.Map pairs)
map_within n pairs all = record { sound = sound_map pairs ∙ all.sound; nested = omega (arith, levels_map pairs, all.nested) }
