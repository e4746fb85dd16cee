use Rattle.std.proofs.Common.{◌≡◌, ℕ, ◌||◌, ◌++◌, nat_lt, Bool, true, false, List, [], ◌∷◌, refl, ap, ◌∙◌, append-nil, if◌then◌else◌}
use Rattle.std.proofs.lemmas.List.Sums.{fold-append}
use Rattle.fg_outside.specs.declared.hub.Happening.{Happening}
use Rattle.fg_outside.specs.declared.hub.Happening.TheVariants.{Moment}
use Rattle.recording.specs.declared.kind.RecordKind.{RecordKind}
use Rattle.recording.specs.declared.kind.RecordKind.TheVariants.{Moment as OfMoment}
use Rattle.recording.specs.declared.record.Record.{Record}
use Rattle.recording.specs.Kinds.{is_moment}
use Rattle.recording.specs.Turns.{Closing, Told, clock, is_passed_over, own, own_of, tell, told_by, with_own}
use Rattle.law_recordings.proofs.a_record_of_a_moment_gives_one_turn.Goals as goal

shows : (last : ℕ) (r : Record) → r.kind ≡ OfMoment → clock last r ≡ Moment r.moment ∷ []
shows last r is =
    ap (λ (k : RecordKind). if nat_lt last r.moment || is_moment k then Moment r.moment ∷ [] else []) is
    ∙ elim (nat_lt last r.moment) as (λ (b : Bool). (if b || true then Moment r.moment ∷ [] else []) ≡ Moment r.moment ∷ []) [ true ↦ refl | false ↦ refl ]

-- it tells nothing of its own
no_more : (closes : List Closing) (given : List Happening) (r : Record) → r.kind ≡ OfMoment → with_own closes given r ≡ given
no_more closes given r is =
    ap (λ (k : RecordKind). if is_passed_over closes given r then given else given ++ own_of k r.conn r.body) is
    ∙ elim (is_passed_over closes given r) as (λ (b : Bool). (if b then given else given ++ []) ≡ given) [ true ↦ refl | false ↦ append-nil given ]

pub returns : goal.returns
returns c = λ records r closes is.
    let told : Told = told_by closes records in
    ap (λ (t : Told). t.given) (fold-append (tell closes) (record { given = []; moment = 0 }) records (r ∷ []))
    ∙ no_more closes (told.given ++ clock told.moment r) r is
    ∙ ap (λ (more : List Happening). told.given ++ more) (shows told.moment r is)
