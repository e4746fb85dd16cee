-- What is kept beside a match, so that most matches are told apart without their fields.
use Rattle.std.specs.Prelude.{ℕ, ◌+◌, ◌-◌, ◌*◌, ◌^◌, ◌&&◌, nat_lt, min, not, Bool, List, [], ◌∷◌, if◌then◌else◌}
use Rattle.std.specs.declared.cmp.Ordering.{Ordering}
use Rattle.std.specs.Ordering.{nat_cmp, on, then_cmp}
use Rattle.net_base.specs.declared.field.Field.{Field}
use Rattle.net_base.specs.FieldId.{number_of}
use Rattle.of_match.specs.declared.lead.Lead.{Lead}
use Rattle.of_match.specs.MatchOrder.{is_masked, match_len}

-- lengths are told below this one
abbrev pub long : ℕ
long = 2 ^ 16 - 1

-- values are told below this one
abbrev pub large : ℕ
large = 2 ^ 64 - 1

-- a field's number, and whether it goes with a mask, as one number above 0
abbrev pub kind_of : Field → ℕ
kind_of f = if is_masked f then 2 * number_of f.id + 2 else 2 * number_of f.id + 1

-- whether the kind and the value up to `large` tell all of the field
abbrev pub is_told : Field → Bool
is_told f = not (is_masked f) && nat_lt f.value large

-- the kind of the first field, 0 of none
abbrev pub first_kind : List Field → ℕ
first_kind [] = 0
first_kind (f ∷ fs) = kind_of f

-- the value of the first field up to `large`, 0 of none
abbrev pub first_value : List Field → ℕ
first_value [] = 0
first_value (f ∷ fs) = min f.value large

-- the fields behind the first, none where that one isn't told whole
abbrev pub behind_first : List Field → List Field
behind_first [] = []
behind_first (f ∷ fs) = if is_told f then fs else []

-- the fields of a match whose length is told, and none of a longer one
abbrev pub if_short : List Field → List Field
if_short fields = if nat_lt (match_len fields) long then fields else []

-- the length of these fields as a match, then kind and value of two fields of these others
abbrev pub lead : List Field → List Field → Lead
lead fields told =
    record {
      len = min (match_len fields) long;
      first_kind = first_kind told;
      second_kind = first_kind (behind_first told);
      first_value = first_value told;
      second_value = first_value (behind_first told);
    }

-- the lead of a match: its length, and kind and value of its first two fields
unfoldable pub lead_of : List Field → Lead
lead_of fields = lead fields (if_short fields)

-- leads by length, then by the first field, then by the second
unfoldable pub lead_cmp : Lead → Lead → Ordering
lead_cmp = then_cmp (on (λ l. l.len) nat_cmp) (then_cmp (on (λ l. l.first_kind) nat_cmp) (then_cmp (on (λ l. l.first_value) nat_cmp) (then_cmp (on (λ l. l.second_kind) nat_cmp) (on (λ l. l.second_value) nat_cmp))))
