-- What is known of sections when entries come.
use Rattle.std.proofs.Common.{◌≡◌, ℕ, ◌+◌, ◌⊎◌, inl, inr, Bool, true, false, ◌||◌, List, [], ◌∷◌, ◌++◌, length, Option, Some, None, refl, sym, ap, subst, ◌∙◌, arith}
use Rattle.std.specs.Prelude.{is_some, codes}
use Rattle.std.specs.Option.{option_map_or}
use Rattle.yaml_tree.specs.declared.tree.Key.{Key}
use Rattle.yaml_tree.specs.declared.tree.Key.TheVariants as key
use Rattle.yaml_tree.specs.declared.tree.Pair.{Pair}
use Rattle.yaml_tree.specs.declared.tree.Tree.{Tree}
use Rattle.yaml_subset.specs.Entries.{key_eq, has_key}
use Rattle.conf_shape.specs.Sections.{is_key}
use Rattle.conf_shape.specs.Reads.{entries_of}
use Rattle.conf_gather.specs.declared.keys.Section.{Section}
use Rattle.conf_gather.specs.declared.keys.Section.TheVariants.{Vlans, Dps, Acls, Routers}
use Rattle.conf_gather.specs.declared.sections.Known.{Known}
use Rattle.conf_gather.specs.declared.sections.Sections.{Sections}
use Rattle.conf_gather.specs.Joined.{gathered_under, place_of, with_more}
use Rattle.conf_gather.specs.Known.{knows, AreKeysOf, section_key, known_of, IsKnown, AreKnown, with_known, GrowsIn}
use Rattle.conf_gather.specs.WrongTypes.{value_of, is_section}
use Rattle.conf_gather.proofs.SoundLemmas.{or_first, or_second, push_value, more_value}
use Rattle.conf_gather.proofs.JoinLemmas.{place_below, there, value_there, other_place, new_place, new_value, same_place, more_under}
use Rattle.conf_gather.proofs.KnownLemmas.{no_keys, keys_append}

-- ---- sections and their keys

abbrev Apart : Section → Section → Type 0
Apart s t = (key_eq (section_key t) (section_key s) ≡ false) × ((known : Known) (all : Sections) → known_of s (with_known t known all) ≡ known_of s all)

same_or_apart : (s t : Section) → (s ≡ t) ⊎ Apart s t
same_or_apart Vlans Vlans = inl refl
same_or_apart Dps Dps = inl refl
same_or_apart Acls Acls = inl refl
same_or_apart Routers Routers = inl refl
same_or_apart s t = inr (refl, λ known all. refl)

known_itself : (s : Section) (known : Known) (all : Sections) → known_of s (with_known s known all) ≡ known
known_itself Vlans known all = refl
known_itself Dps known all = refl
known_itself Acls known all = refl
known_itself Routers known all = refl

key_itself : (s : Section) → key_eq (section_key s) (section_key s) ≡ true
key_itself Vlans = refl
key_itself Dps = refl
key_itself Acls = refl
key_itself Routers = refl

key_is : (name : List ℕ) (k : Key) → is_key name k ≡ key_eq k (key.Text name)
key_is name (key.Text text) = refl
key_is name (key.Int n) = refl

-- none of four
none_of_four : (v d a r : Bool) → ((v || d) || a) || r ≡ false → (v ≡ false) × (d ≡ false) × (a ≡ false) × (r ≡ false)
none_of_four v d a r e =
    let three = or_first ((v || d) || a) r e in
    let two = or_first (v || d) a three in
    (or_first v d two, or_second v d two, or_second (v || d) a three, or_second ((v || d) || a) r e)

-- a key of no section is none of theirs
no_section : (k : Key) → is_section k ≡ false → (s : Section) → key_eq k (section_key s) ≡ false
no_section k none s =
    by s (none_of_four (is_key (codes "vlans") k) (is_key (codes "dps") k) (is_key (codes "acls") k) (is_key (codes "routers") k) none)
  where
    by : (s : Section) → (is_key (codes "vlans") k ≡ false) × (is_key (codes "dps") k ≡ false) × (is_key (codes "acls") k ≡ false) × (is_key (codes "routers") k ≡ false) → key_eq k (section_key s) ≡ false
    by Vlans each = sym (key_is (codes "vlans") k) ∙ each.0
    by Dps each = sym (key_is (codes "dps") k) ∙ each.1
    by Acls each = sym (key_is (codes "acls") k) ∙ each.2
    by Routers each = sym (key_is (codes "routers") k) ∙ each.3

-- ---- what stays known

-- where the key's place and value are the same
kept : (k : Key) (xs ys : List Pair) (known : Known) → place_of k 0 ys ≡ place_of k 0 xs → value_of k ys ≡ value_of k xs → IsKnown xs k known → IsKnown ys k known
kept k xs ys known same_place same_value w = record {
  place = same_place ∙ w.place;
  names = λ j. w.names j ∙ ap (λ (found : Option Tree). has_key (option_map_or entries_of found []) j) (sym same_value);
}

-- nothing is known of a section yet
abbrev pub KnowsNothing : Known → Type 0
KnowsNothing known = (known.at ≡ None) × ((k : Key) → knows known.names k ≡ false)

none_known : (known : Known) (k : Key) → KnowsNothing known → IsKnown [] k known
none_known known k none = record { place = sym none.0; names = no_keys known.names none.1 }

pub nothing_known : (v d a r : Known) → KnowsNothing v → KnowsNothing d → KnowsNothing a → KnowsNothing r → AreKnown [] (record { vlans = v; dps = d; acls = a; routers = r })
nothing_known v d a r of_vlans of_dps of_acls of_routers = λ s. by s
  where
    by : (s : Section) → IsKnown [] (section_key s) (known_of s (record { vlans = v; dps = d; acls = a; routers = r }))
    by Vlans = none_known v (section_key Vlans) of_vlans
    by Dps = none_known d (section_key Dps) of_dps
    by Acls = none_known a (section_key Acls) of_acls
    by Routers = none_known r (section_key Routers) of_routers

-- of one section
pub known_here : (pairs all : List Pair) (s : Section) (sections : Sections) (known : Known) → AreKnown pairs sections → known ≡ known_of s sections → pairs ≡ all → IsKnown all (section_key s) known
known_here pairs all s sections known are is same =
    subst (λ (l : List Pair). IsKnown l (section_key s) known) same (subst (IsKnown pairs (section_key s)) (sym is) (are s))

-- an entry that is of no section
pub other_known : (pairs : List Pair) (p : Pair) (all : Sections) → AreKnown pairs all → is_section p.key ≡ false → AreKnown (pairs ++ p ∷ []) all
other_known pairs p all are none = λ s.
    kept (section_key s) pairs (pairs ++ p ∷ []) (known_of s all) (other_place (section_key s) 0 pairs p (no_section p.key none s)) (push_value (section_key s) pairs p (no_section p.key none s)) (are s)

-- one section grew
module _ (t : Section) (place : ℕ) (all more : List Pair) (old new : Sections) (grows : GrowsIn t place more old new)
    (here : IsKnown all (section_key t) grows.0) (others : (s : Section) → Apart s t → IsKnown all (section_key s) (known_of s old)) where
  by : (s : Section) → (s ≡ t) ⊎ Apart s t → IsKnown all (section_key s) (known_of s new)
  by s (inl same) =
      let known : grows.0 ≡ known_of t new = sym (ap (known_of t) grows.2 ∙ known_itself t grows.0 old) in
      subst (λ (x : Section). IsKnown all (section_key x) (known_of x new)) (sym same) (subst (IsKnown all (section_key t)) known here)
  by s (inr apart) =
      let known : known_of s old ≡ known_of s new = sym (ap (known_of s) grows.2 ∙ apart.1 grows.0 old) in
      subst (IsKnown all (section_key s)) known (others s apart)

  grown_known : AreKnown all new
  grown_known s = by s (same_or_apart s t)

-- a section that is new
pub new_known : (pairs : List Pair) (p : Pair) (t : Section) (old new : Sections) → AreKnown pairs old → p.key ≡ section_key t → is_some (value_of p.key pairs) ≡ false
    → GrowsIn t (length pairs) (entries_of p.value) old new → AreKnown (pairs ++ p ∷ []) new
new_known pairs p t old new are is none grows =
    grown_known t (length pairs) (pairs ++ p ∷ []) (entries_of p.value) old new grows here
    (λ s apart. kept (section_key s) pairs (pairs ++ p ∷ []) (known_of s old) (other_place (section_key s) 0 pairs p (other s apart)) (push_value (section_key s) pairs p (other s apart)) (are s))
  where
    other : (s : Section) → Apart s t → key_eq p.key (section_key s) ≡ false
    other s apart = ap (λ (k : Key). key_eq k (section_key s)) is ∙ apart.0

    same : key_eq p.key (section_key t) ≡ true
    same = ap (λ (k : Key). key_eq k (section_key t)) is ∙ key_itself t

    absent : is_some (value_of (section_key t) pairs) ≡ false
    absent = ap (λ (k : Key). is_some (value_of k pairs)) (sym is) ∙ none

    nothing : (found : Option Tree) → is_some found ≡ false → option_map_or entries_of found [] ≡ []
    nothing None e = refl
    nothing (Some u) e = absurd cc

    joint : gathered_under (section_key t) pairs ++ entries_of p.value ≡ gathered_under (section_key t) (pairs ++ p ∷ [])
    joint =
        ap (λ (l : List Pair). l ++ entries_of p.value) (nothing (value_of (section_key t) pairs) absent)
        ∙ sym (ap (λ (found : Option Tree). option_map_or entries_of found []) (new_value (section_key t) pairs p same absent))

    here : IsKnown (pairs ++ p ∷ []) (section_key t) grows.0
    here =
        let from : 0 + length pairs ≡ length pairs = omega arith in
        record {
          place = new_place (section_key t) 0 pairs p same absent ∙ ap (λ (x : ℕ). Some x) from ∙ sym grows.1.at;
          names = subst (λ (l : List Pair). AreKeysOf l grows.0.names) joint (keys_append (gathered_under (section_key t) pairs) (entries_of p.value) (known_of t old).names grows.0.names (are t).names grows.1.names);
        }

-- a section that gets more
pub more_known : (pairs more : List Pair) (t : Section) (place : ℕ) (old new : Sections) → AreKnown pairs old → place_of (section_key t) 0 pairs ≡ Some place
    → GrowsIn t place more old new → AreKnown (with_more (section_key t) more pairs) new
more_known pairs more t place old new are at grows =
    grown_known t place (with_more (section_key t) more pairs) more old new grows here
    (λ s apart. kept (section_key s) pairs (with_more (section_key t) more pairs) (known_of s old) (same_place (section_key s) (section_key t) 0 more pairs) (more_value (section_key s) (section_key t) more pairs apart.0) (are s))
  where
    has : is_some (value_of (section_key t) pairs) ≡ true
    has =
        let section = there pairs place (place_below (section_key t) pairs place at) in
        ap (λ (found : Option Tree). is_some found) (value_there (section_key t) pairs place section.0 at section.1)

    here : IsKnown (with_more (section_key t) more pairs) (section_key t) grows.0
    here = record {
      place = same_place (section_key t) (section_key t) 0 more pairs ∙ at ∙ sym grows.1.at;
      names =
          subst (λ (l : List Pair). AreKeysOf l grows.0.names) (sym (more_under (section_key t) more pairs has))
          (keys_append (gathered_under (section_key t) pairs) more (known_of t old).names grows.0.names (are t).names grows.1.names);
    }
