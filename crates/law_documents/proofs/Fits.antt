-- A document has no fault of its shape exactly where one that is the same but for the order of entries has none.
use Rattle.std.proofs.Common.{◌≡◌, ℕ, ◌+◌, Bool, false, List, [], ◌∷◌, ◌++◌, Option, Some, None, refl, sym, ap, ap₂, ◌∙◌, subst, append_assoc, append-nil}
use Rattle.std.specs.Prelude.{◌&&◌, map, codes, not, if◌then◌else◌}
use Rattle.std.specs.Fmt.{decimal}
use Rattle.std.specs.List.{AllByRecursion, list_any}
use Rattle.std.proofs.lemmas.Bool.{or_parts, or_from}
use Rattle.std.proofs.lemmas.List.Folds.{list_any-append}
use Rattle.yaml_tree.specs.declared.tree.Key.{Key}
use Rattle.yaml_tree.specs.declared.tree.Pair.{Pair}
use Rattle.yaml_tree.specs.declared.tree.Tree.{Tree}
use Rattle.conf_types.specs.Lists.{EachBefore}
use Rattle.conf_shape.specs.declared.faults.Found.{Found}
use Rattle.conf_shape.specs.declared.kinds.Kind.{Kind}
use Rattle.conf_shape.specs.declared.kinds.MapKind.{MapKind}
use Rattle.conf_shape.specs.Keys.{KeyRow, keys_of}
use Rattle.conf_shape.specs.Scalars.{item_kind, map_kind}
use Rattle.conf_shape.specs.declared.kinds.Need.{Need}
use Rattle.conf_shape.specs.declared.kinds.Need.TheVariants.{Always, UnlessNumbered, UnlessBgp, Never}
use Rattle.conf_shape.specs.Sections.{map_keys, key_text, is_key, number_of, under_key, is_needed}
use Rattle.conf_shape.specs.Faults.{Entry, under, item_faults, list_faults, value_faults, missing_row, missing, missing_in, map_faults, in_map, faults_of, entry_of}
use Rattle.conf_shape.proofs.FaultLaws.{faults_list, faults_map, entry_pair}
use Rattle.law_checks.proofs.Empty.{none_left, none_right}
use Rattle.law_checks.proofs.Right.{HasKind, entry_right}
use Rattle.law_documents.specs.SameButOrder.{SameButOrder, equal, lists, maps, SameItems, no_items, item, SameEntries, no_entries, entry}
use Rattle.law_documents.proofs.Clash.{clash, clash_back, clashes, takes_alone, takes_behind}
use Rattle.law_documents.proofs.Layers.{IsSameEntry, entries_reordered}
use Rattle.law_documents.proofs.Reordered.{Reordered, all_with, all_so, all_both, each_of, any_of, mapped}

-- ---- lists with no fault

under_none : (step : List ℕ) (fs : List Found) → under step fs ≡ [] → fs ≡ []
under_none step [] e = refl
under_none step (f ∷ fs) e = absurd cc

joined_none : (step : List ℕ) (fs gs : List Found) → fs ≡ [] → gs ≡ [] → under step fs ++ gs ≡ []
joined_none step fs gs e f = ap₂ (λ (a b : List Found). under step a ++ b) e f

-- ---- the entries of a map, behind these keys

-- each value is right, no two keys are the same and none is one of those before, and no key is missing
pub record Fits (m : MapKind) (earlier : List Key) (ps : List Pair) : Type 0 where
  pub each : AllByRecursion (λ p. HasKind p.value (under_key m [] p.key)) ps
  pub apart : EachBefore (λ p q. clash m p.key q.key ≡ false) ps
  pub new : AllByRecursion (λ p. clashes m earlier p.key ≡ false) ps
  pub whole : missing_in m (earlier ++ map_keys ps) ≡ []

-- a key that is behind one more
any_one_more : (f : Key → Bool) (earlier : List Key) (k : Key) → list_any f (earlier ++ k ∷ []) ≡ false → (list_any f earlier ≡ false) × (f k ≡ false)
any_one_more f earlier k not =
    let parts = or_parts (list_any f earlier) (list_any f (k ∷ [])) (sym (list_any-append f earlier (k ∷ [])) ∙ not) in
    (parts.0, (or_parts (f k) false parts.1).0)

any_with_one : (f : Key → Bool) (earlier : List Key) (k : Key) → list_any f earlier ≡ false → f k ≡ false → list_any f (earlier ++ k ∷ []) ≡ false
any_with_one f earlier k not here = list_any-append f earlier (k ∷ []) ∙ or_from (list_any f earlier) (list_any f (k ∷ [])) not (or_from (f k) false here refl)

pub fits : (m : MapKind) (earlier : List Key) (ps : List Pair) → map_faults m earlier (map entry_of ps) ≡ [] → Fits m earlier ps
fits m earlier [] h = record { each = tt; apart = tt; new = tt; whole = subst (λ l. missing_in m l ≡ []) (sym (append-nil earlier)) h }
fits m earlier (p ∷ ps) h =
    let e = entry_right m earlier p ps h in
    let alone = takes_alone m earlier p.key (e.0).0 (e.0).1 in
    let more = fits m (earlier ++ p.key ∷ []) ps e.1 in
    let parts = all_so (λ q. clashes m (earlier ++ p.key ∷ []) q.key ≡ false) (λ q. (clashes m earlier q.key ≡ false) × (clash m p.key q.key ≡ false)) (λ q not. any_one_more (λ j. clash m j q.key) earlier p.key not) ps more.new in
    record {
      each = (((e.0).0, alone.0, (e.0).2), more.each);
      apart = (all_so (λ q. (clashes m earlier q.key ≡ false) × (clash m p.key q.key ≡ false)) (λ q. clash m p.key q.key ≡ false) (λ q both. both.1) ps parts, more.apart);
      new = (alone.1, all_so (λ q. (clashes m earlier q.key ≡ false) × (clash m p.key q.key ≡ false)) (λ q. clashes m earlier q.key ≡ false) (λ q both. both.0) ps parts);
      whole = subst (λ l. missing_in m l ≡ []) (append_assoc earlier (p.key ∷ []) (map_keys ps)) more.whole;
    }

pub fits_faults : (m : MapKind) (earlier : List Key) (ps : List Pair) → Fits m earlier ps → map_faults m earlier (map entry_of ps) ≡ []
fits_faults m earlier [] f = subst (λ l. missing_in m l ≡ []) (append-nil earlier) f.whole
fits_faults m earlier (p ∷ ps) f =
    let behind = takes_behind m earlier p.key (f.each.0).0 (f.each.0).1 f.new.0 in
    let value = ap (value_faults (faults_of p.value)) behind ∙ (f.each.0).2 in
    let rest = fits_faults m (earlier ++ p.key ∷ []) ps (record {
      each = f.each.1;
      apart = f.apart.1;
      new = all_both (λ q. clashes m earlier q.key ≡ false) (λ q. clash m p.key q.key ≡ false) (λ q. clashes m (earlier ++ p.key ∷ []) q.key ≡ false) (λ q not other. any_with_one (λ j. clash m j q.key) earlier p.key not other) ps f.new.1 f.apart.0;
      whole = subst (λ l. missing_in m l ≡ []) (sym (append_assoc earlier (p.key ∷ []) (map_keys ps))) f.whole;
    }) in
    subst (λ (e : Entry). map_faults m earlier (e ∷ map entry_of ps) ≡ []) (sym (entry_pair p))
    (joined_none (key_text p.key) (value_faults (faults_of p.value) (under_key m earlier p.key)) (map_faults m (earlier ++ p.key ∷ []) (map entry_of ps)) value rest)

-- ---- in another order

needed_same : (number : Option ℕ) (ks ls : List Key) → ((name : List ℕ) → list_any (is_key name) ks ≡ list_any (is_key name) ls) → (need : Need) → is_needed number ks need ≡ is_needed number ls need
needed_same number ks ls same Always = refl
needed_same None ks ls same UnlessNumbered = refl
needed_same (Some n) ks ls same UnlessNumbered = refl
needed_same number ks ls same UnlessBgp = ap not (same (codes "bgp"))
needed_same number ks ls same Never = refl

missing_same : (number : Option ℕ) (ks ls : List Key) → ((name : List ℕ) → list_any (is_key name) ks ≡ list_any (is_key name) ls) → (rows : List KeyRow) → missing number ks rows ≡ missing number ls rows
missing_same number ks ls same [] = refl
missing_same number ks ls same (r ∷ rs) =
    ap₂ (λ (lacking : Bool) (more : List Found). if lacking then missing_row r.key ∷ more else more) (ap₂ (λ (need there : Bool). need && not there) (needed_same number ks ls same r.need) (same r.key)) (missing_same number ks ls same rs)

pub fits_reordered : (m : MapKind) (ps qs : List Pair) → Reordered IsSameEntry ps qs → AllByRecursion (λ q. HasKind q.value (under_key m [] q.key)) qs → Fits m [] ps → Fits m [] qs
fits_reordered m ps qs same each f = record {
  each = each;
  apart = each_of IsSameEntry (λ p q. clash m p.key q.key ≡ false) (λ p q. clash m p.key q.key ≡ false) (λ p q not. clash_back m p.key q.key not)
      (λ p r q s pq rs not. subst (λ k. clash m k s.key ≡ false) pq.0 (subst (λ k. clash m p.key k ≡ false) rs.0 not)) ps qs same f.apart;
  new = all_so (λ q. HasKind q.value (under_key m [] q.key)) (λ q. clashes m [] q.key ≡ false) (λ q h. refl) qs each;
  whole = sym (missing_same (number_of m) (map_keys ps) (map_keys qs) keys (keys_of m).rows) ∙ f.whole;
}
  where
    keys : (name : List ℕ) → list_any (is_key name) (map_keys ps) ≡ list_any (is_key name) (map_keys qs)
    keys name = any_of (λ (j k : Key). j ≡ k) (is_key name) (is_key name) (λ j k e. ap (is_key name) e) (map_keys ps) (map_keys qs)
        (mapped IsSameEntry (λ (j k : Key). j ≡ k) (λ (p : Pair). p.key) (λ (p : Pair). p.key) (λ p q e. e.0) ps qs same)

-- ---- the whole

if_lists : (ts us : List Tree) → ((kind : Kind) → item_faults kind 0 (map faults_of ts) ≡ [] → item_faults kind 0 (map faults_of us) ≡ []) → (o : Option Kind) → list_faults o (map faults_of ts) ≡ [] → list_faults o (map faults_of us) ≡ []
if_lists ts us each None h = absurd cc
if_lists ts us each (Some kind) h = each kind h

if_maps : (ps qs : List Pair) → SameEntries ps qs → ((m : MapKind) → AllByRecursion (λ p. HasKind p.value (under_key m [] p.key)) ps → AllByRecursion (λ q. HasKind q.value (under_key m [] q.key)) qs)
    → (o : Option MapKind) → in_map o (map entry_of ps) ≡ [] → in_map o (map entry_of qs) ≡ []
if_maps ps qs same each None h = absurd cc
if_maps ps qs same each (Some m) h = let f = fits m [] ps h in fits_faults m [] qs (fits_reordered m ps qs (entries_reordered ps qs same) (each m f.each) f)

mutual
  pub fine_same : (t u : Tree) → SameButOrder t u → (kind : Kind) → faults_of t kind ≡ [] → faults_of u kind ≡ []
  fine_same _ _ (equal t) kind h = h
  fine_same _ _ (lists ts us same) kind h = faults_list us kind ∙ if_lists ts us (λ k. fine_items ts us same k 0) (item_kind kind) (sym (faults_list ts kind) ∙ h)
  fine_same _ _ (maps ps qs same) kind h = faults_map qs kind ∙ if_maps ps qs same (λ m. fine_entries ps qs same m) (map_kind kind) (sym (faults_map ps kind) ∙ h)

  fine_items : (ts us : List Tree) → SameItems ts us → (kind : Kind) (n : ℕ) → item_faults kind n (map faults_of ts) ≡ [] → item_faults kind n (map faults_of us) ≡ []
  fine_items _ _ no_items kind n h = h
  fine_items _ _ (item t u ts us same more) kind n h =
      let here : List Found = under (decimal n) (faults_of t kind) in
      let behind : List Found = item_faults kind (n + 1) (map faults_of ts) in
      joined_none (decimal n) (faults_of u kind) (item_faults kind (n + 1) (map faults_of us)) (fine_same t u same kind (under_none (decimal n) (faults_of t kind) (none_left here behind h))) (fine_items ts us more kind (n + 1) (none_right here behind h))

  fine_entries : (ps qs : List Pair) → SameEntries ps qs → (m : MapKind) → AllByRecursion (λ p. HasKind p.value (under_key m [] p.key)) ps → AllByRecursion (λ q. HasKind q.value (under_key m [] q.key)) qs
  fine_entries _ _ no_entries m all = tt
  fine_entries _ _ (entry p q ps before behind key value more) m all =
      all_with (λ q. HasKind q.value (under_key m [] q.key)) before q behind
      ((all.0).0, ap (under_key m []) (sym key) ∙ (all.0).1, fine_same p.value q.value value (all.0).0 (all.0).2) (fine_entries ps (before ++ behind) more m all.1)
