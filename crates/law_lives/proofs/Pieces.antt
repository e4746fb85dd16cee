-- The pieces that a recording of bytes tells are bytes.
use Rattle.std.proofs.Common.{ℕ, ◌||◌, true, false, nat_lt, List, [], ◌∷◌, ◌++◌, subst, if◌then◌else◌}
use Rattle.std.specs.List.{AllByRecursion, fold}
use Rattle.fg_outside.specs.declared.hub.Happening.{Happening}
use Rattle.fg_outside.specs.declared.hub.Happening.TheVariants as happenings
use Rattle.of_match.proofs.AfterOrder.{all_append}
use Rattle.recording.specs.declared.kind.RecordKind.{RecordKind}
use Rattle.recording.specs.declared.kind.RecordKind.TheVariants.{Open, Bytes, Close, Reload, Moment}
use Rattle.recording.specs.declared.record.Record.{Record}
use Rattle.recording.specs.Kinds.{is_moment}
use Rattle.recording.specs.Recording.{AllSpell, Records}
use Rattle.recording.specs.Turns.{Closing, Told, clock, is_passed_over, own, own_of, tell, turns}
use Rattle.law_stories.specs.Right.{IsOfBytes}
use Rattle.law_stories.proofs.PacketBytes.{AreBytes, bytes_left}

all_parts : (front rest : List ℕ) → AreBytes (front ++ rest) → AreBytes front × AreBytes rest
all_parts [] rest all = (tt, all)
all_parts (b ∷ front) rest all = let parts = all_parts front rest all.1 in ((all.0, parts.0), parts.1)

abbrev HasBytes : Record → Type 0
HasBytes r = AreBytes r.body

bodies : (records : List Record) (bytes : List ℕ) → AreBytes bytes → AllSpell records bytes → AllByRecursion HasBytes records
bodies [] bytes all spell = tt
bodies (r ∷ records) bytes all (first, rest, parts, spells, more) =
    let both = all_parts first rest (subst AreBytes parts all) in
    (subst AreBytes spells.has_body (bytes_left 17 first both.0), bodies records rest both.1 more)

abbrev AreOfBytes : List Happening → Type 0
AreOfBytes = AllByRecursion IsOfBytes

own_of_bytes : (kind : RecordKind) (conn : ℕ) (body : List ℕ) → AreBytes body → AreOfBytes (own_of kind conn body)
own_of_bytes Open conn body all = (tt, tt)
own_of_bytes Bytes conn body all = (all, tt)
own_of_bytes Close conn body all = (tt, tt)
own_of_bytes Reload conn body all = (tt, tt)
own_of_bytes Moment conn body all = tt

clock_of_bytes : (last : ℕ) (r : Record) → AreOfBytes (clock last r)
clock_of_bytes last r = elim (nat_lt last r.moment || is_moment r.kind) as (λ b. AreOfBytes (if b then happenings.Moment r.moment ∷ [] else [])) [ true ↦ (tt, tt) | false ↦ tt ]

module _ (closes : List Closing) where
  told_of_bytes : (r : Record) (told : Told) → HasBytes r → AreOfBytes told.given → AreOfBytes (tell closes told r).given
  told_of_bytes r told body all =
      let given : List Happening = told.given ++ clock told.moment r in
      let before : AreOfBytes given = all_append IsOfBytes told.given (clock told.moment r) all (clock_of_bytes told.moment r) in
      elim (is_passed_over closes given r) as (λ b. AreOfBytes (if b then given else given ++ own r)) [
        | true ↦ before
        | false ↦ all_append IsOfBytes given (own r) before (own_of_bytes r.kind r.conn r.body body)
      ]

  all_told : (records : List Record) (told : Told) → AllByRecursion HasBytes records → AreOfBytes told.given → AreOfBytes (fold (tell closes) told records).given
  all_told [] told bodies all = all
  all_told (r ∷ records) told bodies all = all_told records (tell closes told r) bodies.1 (told_of_bytes r told bodies.0 all)

pub turns_of_bytes : (bytes : List ℕ) (records : List Record) (closes : List Closing) → AreBytes bytes → Records bytes records → AreOfBytes (turns records closes)
turns_of_bytes bytes records closes all is = all_told closes records (record { given = []; moment = 0 }) (bodies records bytes all is.spell) tt
