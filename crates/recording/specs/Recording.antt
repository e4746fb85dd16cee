-- The grammar of a recording: records one behind the other, each of which follows on those before it.
use Rattle.std.specs.Prelude.{◌≡◌, ℕ, ◌+◌, ◌-◌, ◌^◌, ◌<◌, ◌≤◌, true, List, [], ◌∷◌, ◌++◌, length}
use Rattle.std.specs.List.{fold}
use Rattle.recording.specs.declared.record.Record.{Record}
use Rattle.recording.specs.Kinds.{is_length}
use Rattle.recording.specs.Conns.{open_after, is_conn}
use Rattle.recording.specs.Layout.{Spells}

-- how far a recording has come: how many records it had, the last moment, and the connections that are open in it
pub record Place : Type 0 where
  pub count : ℕ
  pub moment : ℕ
  pub opened : List ℕ

abbrev pub first_place : Place
first_place = record { count = 0; moment = 0; opened = [] }

-- a record later
abbrev pub after : Place → Record → Place
after place r = record { count = place.count + 1; moment = r.moment; opened = open_after r.kind r.conn place.opened }

abbrev pub after_all : Place → List Record → Place
after_all place records = fold after place records

-- the record may stand there
pub record Follows (place : Place) (r : Record) : Type 0 where
  pub number : place.count + 1 < 2 ^ 64 - 1
  pub len : is_length r.kind (length r.body) ≡ true
  pub moment : place.moment ≤ r.moment
  pub conn : is_conn r.kind r.conn place.opened ≡ true

-- each of the records may stand behind those before it
abbrev pub AllFollow : Place → List Record → Type 0
AllFollow place [] = Unit {0}
AllFollow place (r ∷ records) = Follows place r × AllFollow (after place r) records

-- the bytes spell the records, one behind the other
abbrev pub AllSpell : List Record → List ℕ → Type 0
AllSpell [] bytes = bytes ≡ []
AllSpell (r ∷ records) bytes =
    (first : List ℕ) × (rest : List ℕ) × (bytes ≡ first ++ rest) × Spells r first × AllSpell records rest

-- the bytes are a recording of these records
pub record Records (bytes : List ℕ) (records : List Record) : Type 0 where
  pub spell : AllSpell records bytes
  pub follow : AllFollow first_place records
