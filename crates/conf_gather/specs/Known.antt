-- Keys that were met, and what is known of sections.
use Rattle.std.specs.Prelude.{◌≡◌, ℕ, ◌||◌, Bool, List, Some, codes}
use Rattle.std.specs.Ordering.{int_cmp}
use Rattle.std.specs.BTreeSet.{contains, contains_text}
use Rattle.yaml_tree.specs.declared.tree.Key.{Key}
use Rattle.yaml_tree.specs.declared.tree.Key.TheVariants as key
use Rattle.yaml_tree.specs.declared.tree.Pair.{Pair}
use Rattle.yaml_subset.specs.Entries.{has_key}
use Rattle.conf_gather.specs.declared.key_set.KeySet.{KeySet}
use Rattle.conf_gather.specs.declared.keys.Section.{Section}
use Rattle.conf_gather.specs.declared.keys.Section.TheVariants.{Vlans, Dps, Acls, Routers}
use Rattle.conf_gather.specs.declared.sections.Known.{Known}
use Rattle.conf_gather.specs.declared.sections.Sections.{Sections}
use Rattle.conf_gather.specs.Joined.{gathered_under, place_of}

-- the key is among them
abbrev pub knows : KeySet → Key → Bool
knows keys (key.Int n) = contains int_cmp keys.ints n
knows keys (key.Text bytes) = contains_text keys.texts bytes

-- they are the keys of these entries, and no others
abbrev pub AreKeysOf : List Pair → KeySet → Type 0
AreKeysOf pairs keys = (k : Key) → knows keys k ≡ has_key pairs k

-- ---- sections

abbrev pub section_key : Section → Key
section_key Vlans = key.Text (codes "vlans")
section_key Dps = key.Text (codes "dps")
section_key Acls = key.Text (codes "acls")
section_key Routers = key.Text (codes "routers")

abbrev pub known_of : Section → Sections → Known
known_of Vlans all = all.vlans
known_of Dps all = all.dps
known_of Acls all = all.acls
known_of Routers all = all.routers

-- of a key its place among the entries, and the keys of what was gathered under it
pub record IsKnown (pairs : List Pair) (k : Key) (known : Known) : Type 0 where
  pub place : place_of k 0 pairs ≡ known.at
  pub names : AreKeysOf (gathered_under k pairs) known.names

abbrev pub AreKnown : List Pair → Sections → Type 0
AreKnown pairs all = (section : Section) → IsKnown pairs (section_key section) (known_of section all)

-- the place is told, and the keys of these entries are known too
pub record IsGrown (place : ℕ) (more : List Pair) (old new : Known) : Type 0 where
  pub at : new.at ≡ Some place
  pub names : (k : Key) → knows new.names k ≡ (knows old.names k || has_key more k)

-- what is known of one section
abbrev pub with_known : Section → Known → Sections → Sections
with_known Vlans known all = record all { vlans = known }
with_known Dps known all = record all { dps = known }
with_known Acls known all = record all { acls = known }
with_known Routers known all = record all { routers = known }

-- one section grew, and no other
abbrev pub GrowsIn : Section → ℕ → List Pair → Sections → Sections → Type 0
GrowsIn section place more old new = (known : Known) × IsGrown place more (known_of section old) known × (new ≡ with_known section known old)
