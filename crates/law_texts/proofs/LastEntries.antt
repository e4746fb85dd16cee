-- The last item of a list and the last entry of a map, with those before it.
use Rattle.std.proofs.Common.{◌≡◌, ℕ, false, List, [], ◌∷◌, ◌++◌, refl, sym, ◌∙◌, ap, append_assoc}
use Rattle.yaml_tree.specs.declared.tree.Tree.{Tree}
use Rattle.yaml_tree.specs.declared.tree.Pair.{Pair}
use Rattle.yaml_subset.specs.Entries.{has_key}
use Rattle.yaml_subset.specs.Grammar.{Line, IsItem, AreItems, IsEntry, AreEntries, IsBlock}

append_none : {A : Type 0} (xs : List A) → xs ++ [] ≡ xs
append_none [] = refl
append_none {A = A} (x ∷ xs) = ap (λ (ys : List A). x ∷ ys) (append_none xs)

-- lines behind which none stand
all_of : (first : Line) (below more : List Line) → more ≡ [] → first ∷ below ++ more ≡ first ∷ below
all_of first below more none = ap (λ (ls : List Line). first ∷ below ++ ls) none ∙ ap (λ (ls : List Line). first ∷ ls) (append_none below)

-- lines in front of others
ahead : (first : Line) (below more front end : List Line) → more ≡ front ++ end → first ∷ below ++ more ≡ (first ∷ below ++ front) ++ end
ahead first below more front end is =
    ap (λ (ls : List Line). first ∷ below ++ ls) is ∙ ap (λ (ls : List Line). first ∷ ls) (sym (append_assoc below front end))

-- ---- items

pub record LastItem (n at : ℕ) (block : List Line) (vs : List Tree) : Type 0 where
  pub items : List Tree
  pub value : Tree
  pub front : List Line
  pub end : List Line
  pub more : List Line
  pub split : vs ≡ items ++ value ∷ []
  pub whole : block ≡ front ++ end
  pub are : AreItems n (IsBlock n) at front items
  pub item : IsItem n (IsBlock n) at end value more
  pub alone : more ≡ []

pub last_item : (n at : ℕ) (vs : List Tree) (v : Tree) (block : List Line) → AreItems n (IsBlock n) at block (v ∷ vs) → LastItem n at block (v ∷ vs)
last_item n at [] v block are =
    record { items = []; value = v; front = []; end = block; more = are.0; split = refl; whole = refl; are = refl; item = are.1; alone = are.2 }
last_item n at (w ∷ ws) v block are =
    let item = are.1 in
    let last = last_item n at ws w are.0 are.2 in
    record {
      items = v ∷ last.items;
      value = last.value;
      front = (at, item.rest) ∷ item.below ++ last.front;
      end = last.end;
      more = last.more;
      split = ap (λ (us : List Tree). v ∷ us) last.split;
      whole = item.stands ∙ ahead (at, item.rest) item.below are.0 last.front last.end last.whole;
      are = (last.front, record { rest = item.rest; part = item.part; below = item.below; stands = refl; dash = item.dash; behind = item.behind; value = item.value }, last.are);
      item = last.item;
      alone = last.alone;
    }

pub item_stands : {n at : ℕ} {block : List Line} {vs : List Tree} (last : LastItem n at block vs) → block ≡ last.front ++ (at, last.item.rest) ∷ last.item.below
item_stands {at = at} last =
    last.whole ∙ ap (λ (ls : List Line). last.front ++ ls) (last.item.stands ∙ all_of (at, last.item.rest) last.item.below last.more last.alone)

-- ---- entries

pub record LastEntry (n at : ℕ) (before : List Pair) (block : List Line) (ps : List Pair) : Type 0 where
  pub pairs : List Pair
  pub pair : Pair
  pub front : List Line
  pub end : List Line
  pub more : List Line
  pub earlier : List Pair
  pub split : ps ≡ pairs ++ pair ∷ []
  pub whole : block ≡ front ++ end
  pub are : AreEntries n (IsBlock n) at before front pairs
  pub all_before : earlier ≡ before ++ pairs
  pub entry : IsEntry n (IsBlock n) at earlier end pair more
  pub alone : more ≡ []

pub last_entry : (n at : ℕ) (before ps : List Pair) (p : Pair) (block : List Line) → AreEntries n (IsBlock n) at before block (p ∷ ps) → LastEntry n at before block (p ∷ ps)
last_entry n at before [] p block are = record {
  pairs = [];
  pair = p;
  front = [];
  end = block;
  more = are.0;
  earlier = before;
  split = refl;
  whole = refl;
  are = refl;
  all_before = sym (append_none before);
  entry = are.1;
  alone = are.2;
}
last_entry n at before (q ∷ qs) p block are =
    let entry = are.1 in
    let last = last_entry n at (before ++ p ∷ []) qs q are.0 are.2 in
    record {
      pairs = p ∷ last.pairs;
      pair = last.pair;
      front = (at, entry.rest) ∷ entry.below ++ last.front;
      end = last.end;
      more = last.more;
      earlier = last.earlier;
      split = ap (λ (us : List Pair). p ∷ us) last.split;
      whole = entry.stands ∙ ahead (at, entry.rest) entry.below are.0 last.front last.end last.whole;
      are = (last.front, record { rest = entry.rest; scanned = entry.scanned; after = entry.after; part = entry.part; below = entry.below; stands = refl; scalar = entry.scalar; colon = entry.colon; key = entry.key; first = entry.first; behind = entry.behind; value = entry.value }, last.are);
      all_before = last.all_before ∙ append_assoc before (p ∷ []) last.pairs;
      entry = last.entry;
      alone = last.alone;
    }

pub entry_stands : {n at : ℕ} {before : List Pair} {block : List Line} {ps : List Pair} (last : LastEntry n at before block ps)
    → block ≡ last.front ++ (at, last.entry.rest) ∷ last.entry.below
entry_stands {at = at} last =
    last.whole ∙ ap (λ (ls : List Line). last.front ++ ls) (last.entry.stands ∙ all_of (at, last.entry.rest) last.entry.below last.more last.alone)

-- the key is none of those before it
pub entry_first : {n at : ℕ} {before : List Pair} {block : List Line} {ps : List Pair} (last : LastEntry n at before block ps)
    → has_key (before ++ last.pairs) last.pair.key ≡ false
entry_first last = ap (λ (qs : List Pair). has_key qs last.pair.key) (sym last.all_before) ∙ last.entry.first
