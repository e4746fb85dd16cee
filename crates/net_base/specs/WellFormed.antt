-- Matches that a switch accepts (OpenFlow 1.3, 7.2.3).
use Rattle.std.specs.Prelude.{◌<◌, ◌≤◌, Bool, ◌==◌, ◌&&◌, ◌||◌, not, List, [], ◌∷◌, IsTrue}
use Rattle.std.specs.List.{AllByRecursion, list_all, list_any}
use Rattle.net_base.specs.declared.field.Field.{Field}
use Rattle.net_base.specs.declared.field.FieldId.{FieldId}
use Rattle.net_base.specs.declared.field.FieldId.TheVariants.{VlanVid}
use Rattle.net_base.specs.FieldId.{number_of, prerequisites_of, all_ones}
use Rattle.net_base.specs.declared.field.Prerequisite.{Prerequisite}
use Rattle.net_base.specs.declared.field.Prerequisite.TheVariants.{Tagged, Exactly, Either}

-- it is the field with this name, with no bit masked out
abbrev pub is_whole : FieldId → Field → Bool
is_whole id f = number_of f.id == number_of id && f.mask == all_ones id

-- the field is the one that is asked for: a VLAN identifier that isn't 0, whatever its mask, or a
-- field with just this value, or with one of these two, no bit masked out
abbrev pub meets : Prerequisite → Field → Bool
meets Tagged f = number_of f.id == number_of VlanVid && not (f.value == 0)
meets (Exactly id value) f = is_whole id f && f.value == value
meets (Either id value other) f = is_whole id f && ((f.value == value) || (f.value == other))

-- the match has a field that is the one asked for
abbrev pub is_met : List Field → Prerequisite → Bool
is_met fields asked = list_any (meets asked) fields

-- the match has each of those that the field asks for
abbrev pub has_prerequisite : FieldId → List Field → Bool
has_prerequisite id fields = list_all (is_met fields) (prerequisites_of id)

-- the value and the mask have as many bytes as the field
pub record Fits (f : Field) : Type 0 where
  pub value : f.value ≤ all_ones f.id
  pub mask : f.mask ≤ all_ones f.id

-- each number is below those of the fields behind it, so that no field comes twice, and what a
-- field asks for stands before it
abbrev pub AreAscending : List Field → Type 0
AreAscending [] = Unit {0}
AreAscending (f ∷ more) = AllByRecursion (λ g. number_of f.id < number_of g.id) more × AreAscending more

pub record IsWellFormed (fields : List Field) : Type 0 where
  pub ascending : AreAscending fields
  pub fitting : AllByRecursion Fits fields
  pub prerequisites : AllByRecursion (λ f. IsTrue (has_prerequisite f.id fields)) fields
