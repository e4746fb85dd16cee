-- A story with one turn more.
use Rattle.std.proofs.Common.{◌≡◌, ℕ, ◌≤◌, true, List, [], ◌∷◌, ◌++◌, length, Option, Some, None, Ok, Err, refl, sym, ap, subst, ◌∙◌, append_assoc, arith}
use Rattle.std.proofs.lemmas.List.{append-nil}
use Rattle.std.proofs.lemmas.List.Concat.{flat_map-append}
use Rattle.std.specs.List.{flat_map}
use Rattle.std.specs.Option.{option_map_or}
use Rattle.fg_outside.specs.declared.hub.Happening.{Happening}
use Rattle.fg_outside.specs.declared.hub.Turn.TheVariants.{Happened, Done, Failed, Memory}
use Rattle.fg_outside.specs.HubStep.{HubStep, Leads, next, story, turned}
use Rattle.fg_outside.specs.Wrote.{appended, AppendsFront}
use Rattle.fg_outside.proofs.SinkLemmas.{appended-append, appended-nil, AppendsFront-none, AppendsFront-whole, AppendsFront-second}
use Rattle.recording.specs.Written.{WrittenRecord, written, written_records}
use Rattle.ctl_life.specs.declared.saying.Saying.{Saying}
use Rattle.hub_drive.specs.declared.sayings.Outlet.{Outlet}
use Rattle.hub_drive.specs.declared.sayings.Outlet.TheVariants.{Records, Hub, Nowhere}
use Rattle.hub_drive.specs.Driving.{Deed, gave, deeds, deeds_by, deeds_of, lines_of, out_of, record_by, records_of, sayings_of, turn_deeds, turn_lines, turn_out, turn_records, written_by, prints_of}
use Rattle.hub_drive.specs.Machine.{Workings, behind, printed}
use Rattle.hub_drive.specs.declared.drive.Drove.{Drove}
use Rattle.hub_drive.specs.declared.drive.Drove.TheVariants as drove
use Rattle.hub_drive.specs.declared.turn.Stopped.{Stopped}
use Rattle.hub_drive.specs.declared.turn.Stopped.TheVariants as stopped
use Rattle.hub_drive.specs.Driven.{Answers, AnswersPart, AnswersAll, AnswersFront, CameAsBytes, Drives, Tells, WholeButLast, drove_by, goes_on}
use Rattle.hub_drive.proofs.Came.{came-push}
use Rattle.hub_drive.proofs.Deeds.{happened_in, happened-append, happened-deeds, happenings_are, none_happened_before, whole_happened}
use Rattle.hub_drive.proofs.Pieces.{flat_map-flat_map}
use Rattle.hub_drive.proofs.Telling.{all_but_last, Tells-none, Tells-one, Tells-same, Tells-then, TellsPart-none, TellsPart-same, TellsPart-second, deeds-story}

records_written : (moment : ℕ) (sayings : List Saying) → written_records (flat_map (record_by moment) sayings) ≡ flat_map (written_by moment) sayings
records_written moment sayings = flat_map-flat_map written (record_by moment) sayings

appended-same : (taken : Option (List ℕ)) (xs ys : List ℕ) → xs ≡ ys → appended taken xs ≡ appended taken ys
appended-same taken xs ys same = ap (λ (l : List ℕ). appended taken l) same

pub front-same : (old new : Option (List ℕ)) (xs ys : List ℕ) → xs ≡ ys → AppendsFront old new xs → AppendsFront old new ys
front-same old new xs ys same front = subst (λ (l : List ℕ). AppendsFront old new l) same front

pub front-whole : (old new : Option (List ℕ)) (piece : List ℕ) → new ≡ appended old piece → AppendsFront old new piece
front-whole old new piece is =
    subst (λ (o : Option (List ℕ)). AppendsFront old o piece) (sym is)
    (front-same old (appended old piece) (piece ++ []) piece (append-nil piece) (AppendsFront-whole old piece []))

module _ {S : Type 0} (m : Workings S) where
  pub behind-push : (w : S) (hs : List Happening) (h : Happening) → behind m w (hs ++ h ∷ []) ≡ m.turn h (behind m w hs)
  behind-push w [] h = refl
  behind-push w (g ∷ hs) h = behind-push (m.turn g w) hs h

  pub deeds-push : (outlet : Outlet) (w : S) (hs : List Happening) (h : Happening) → deeds_of m outlet w (hs ++ h ∷ []) ≡ deeds_of m outlet w hs ++ turn_deeds m outlet h (behind m w hs)
  deeds-push outlet w [] h = append-nil (turn_deeds m outlet h w)
  deeds-push outlet w (g ∷ hs) h =
      ap (λ (l : List Deed). turn_deeds m outlet g w ++ l) (deeds-push outlet (m.turn g w) hs h)
      ∙ sym (append_assoc (turn_deeds m outlet g w) (deeds_of m outlet (m.turn g w) hs) (turn_deeds m outlet h (behind m (m.turn g w) hs)))

  pub lines-append : (w : S) (hs more : List Happening) → lines_of m w (hs ++ more) ≡ lines_of m w hs ++ lines_of m (behind m w hs) more
  lines-append w [] more = refl
  lines-append w (g ∷ hs) more =
      ap (λ (l : List ℕ). turn_lines m g w ++ l) (lines-append (m.turn g w) hs more)
      ∙ sym (append_assoc (turn_lines m g w) (lines_of m (m.turn g w) hs) (lines_of m (behind m (m.turn g w) hs) more))

  pub lines-push : (w : S) (hs : List Happening) (h : Happening) → lines_of m w (hs ++ h ∷ []) ≡ lines_of m w hs ++ turn_lines m h (behind m w hs)
  lines-push w hs h = lines-append w hs (h ∷ []) ∙ ap (λ (l : List ℕ). lines_of m w hs ++ l) (append-nil (turn_lines m h (behind m w hs)))

  records-append : (w : S) (hs more : List Happening) → records_of m w (hs ++ more) ≡ records_of m w hs ++ records_of m (behind m w hs) more
  records-append w [] more = refl
  records-append w (g ∷ hs) more =
      ap (λ (l : List WrittenRecord). turn_records m g w ++ l) (records-append (m.turn g w) hs more)
      ∙ sym (append_assoc (turn_records m g w) (records_of m (m.turn g w) hs) (records_of m (behind m (m.turn g w) hs) more))

  prints-append : (prints : S → List ℕ) (w : S) (hs more : List Happening) → prints_of m prints w (hs ++ more) ≡ prints_of m prints w hs ++ prints_of m prints (behind m w hs) more
  prints-append prints w [] more = refl
  prints-append prints w (g ∷ hs) more =
      let v : S = m.turn g w in
      ap (λ (l : List ℕ). prints v ++ l) (prints-append prints v hs more)
      ∙ sym (append_assoc (prints v) (prints_of m prints v hs) (prints_of m prints (behind m v hs) more))

  -- what is printed, where anything is
  abbrev all_printed : Option (S → List ℕ) → S → List Happening → List ℕ
  all_printed p w hs = option_map_or (λ (prints : S → List ℕ). prints_of m prints w hs) p []

  all_printed-append : (p : Option (S → List ℕ)) (w : S) (hs more : List Happening) → all_printed p w (hs ++ more) ≡ all_printed p w hs ++ all_printed p (behind m w hs) more
  all_printed-append None w hs more = refl
  all_printed-append (Some prints) w hs more = prints-append prints w hs more

  all_printed-none : (p : Option (S → List ℕ)) (w : S) → all_printed p w [] ≡ []
  all_printed-none None w = refl
  all_printed-none (Some prints) w = refl

  all_printed-one : (p : Option (S → List ℕ)) (w : S) (h : Happening) → all_printed p w (h ∷ []) ≡ option_map_or (λ (prints : S → List ℕ). prints (m.turn h w)) p []
  all_printed-one None w h = refl
  all_printed-one (Some prints) w h = append-nil (prints (m.turn h w))

  pub out-append : (outlet : Outlet) (w : S) (hs more : List Happening) → out_of m outlet w (hs ++ more) ≡ out_of m outlet w hs ++ out_of m outlet (behind m w hs) more
  out-append Records w hs more =
      ap (λ (l : List WrittenRecord). written_records l) (records-append w hs more)
      ∙ flat_map-append written (records_of m w hs) (records_of m (behind m w hs) more)
  out-append Hub w hs more = all_printed-append m.prints w hs more
  out-append Nowhere w hs more = all_printed-append m.prints w hs more

  pub out-none : (outlet : Outlet) (w : S) → out_of m outlet w [] ≡ []
  out-none Records w = refl
  out-none Hub w = all_printed-none m.prints w
  out-none Nowhere w = all_printed-none m.prints w

  out-one : (outlet : Outlet) (w : S) (h : Happening) → out_of m outlet w (h ∷ []) ≡ turn_out m outlet h w
  out-one Records w h =
      ap (λ (l : List WrittenRecord). written_records l) (append-nil (turn_records m h w))
      ∙ records_written (m.moment (m.turn h w)) (sayings_of m h w)
  out-one Hub w h = all_printed-one m.prints w h
  out-one Nowhere w h = all_printed-one m.prints w h

  pub out-push : (outlet : Outlet) (w : S) (hs : List Happening) (h : Happening) → out_of m outlet w (hs ++ h ∷ []) ≡ out_of m outlet w hs ++ turn_out m outlet h (behind m w hs)
  out-push outlet w hs h =
      out-append outlet w hs (h ∷ [])
      ∙ ap (λ (l : List ℕ). out_of m outlet w hs ++ l) (out-one outlet (behind m w hs) h)

  -- of a last turn a front of the answer was written
  pub begun_last : (outlet : Outlet) (w : S) (hs : List Happening) (h : Happening) (out_one out_two out_three err_one err_two err_three : Option (List ℕ)) → out_two ≡ appended out_one (out_of m outlet w hs) → err_two ≡ appended err_one (lines_of m w hs)
      → AppendsFront out_two out_three (turn_out m outlet h (behind m w hs)) → AppendsFront err_two err_three (turn_lines m h (behind m w hs)) → WholeButLast m outlet w (hs ++ h ∷ []) out_one out_three err_one err_three
  begun_last outlet w hs h out_one out_two out_three err_one err_two err_three wrote lined out err =
      let v : S = behind m w hs in
      record {
        before = hs;
        last = h ∷ [];
        parts = refl;
        one = omega arith;
        out =
            front-same (appended out_one (out_of m outlet w hs)) out_three (turn_out m outlet h v) (out_of m outlet v (h ∷ []))
            (sym (out-one outlet v h))
            (subst (λ (o : Option (List ℕ)). AppendsFront o out_three (turn_out m outlet h v)) wrote out);
        err =
            front-same (appended err_one (lines_of m w hs)) err_three (turn_lines m h v) (lines_of m v (h ∷ []))
            (sym (lines-push v [] h))
            (subst (λ (o : Option (List ℕ)). AppendsFront o err_three (turn_lines m h v)) lined err);
      }

  -- behind the last turn nothing more was written
  pub none_begun : (outlet : Outlet) (w : S) (hs : List Happening) (out_one out_two err_one err_two : Option (List ℕ)) → out_two ≡ appended out_one (out_of m outlet w hs) → err_two ≡ appended err_one (lines_of m w hs) → WholeButLast m outlet w hs out_one out_two err_one err_two
  none_begun outlet w hs out_one out_two err_one err_two wrote lined = record {
    before = hs;
    last = [];
    parts = sym (append-nil hs);
    one = omega arith;
    out = subst (λ (o : Option (List ℕ)). AppendsFront (appended out_one (out_of m outlet w hs)) o (out_of m outlet (behind m w hs) [])) (sym wrote) (AppendsFront-none (appended out_one (out_of m outlet w hs)) (out_of m outlet (behind m w hs) []));
    err = subst (λ (o : Option (List ℕ)). AppendsFront (appended err_one (lines_of m w hs)) o (lines_of m (behind m w hs) [])) (sym lined) (AppendsFront-none (appended err_one (lines_of m w hs)) (lines_of m (behind m w hs) []));
  }

  -- what was written so is a front of the answer to all that happened
  pub fronts_but_last : (outlet : Outlet) (w : S) (hs : List Happening) (out_old out_new err_old err_new : Option (List ℕ)) → WholeButLast m outlet w hs out_old out_new err_old err_new → AppendsFront out_old out_new (out_of m outlet w hs) × AppendsFront err_old err_new (lines_of m w hs)
  fronts_but_last outlet w hs out_old out_new err_old err_new but_last =
      let before = but_last.before in
      let last = but_last.last in
      let v : S = behind m w before in (
        front-same out_old out_new (out_of m outlet w before ++ out_of m outlet v last) (out_of m outlet w hs)
            (sym (ap (λ (l : List Happening). out_of m outlet w l) but_last.parts ∙ out-append outlet w before last))
            (AppendsFront-second out_old (appended out_old (out_of m outlet w before)) out_new (out_of m outlet w before) (out_of m outlet v last) refl but_last.out),
        front-same err_old err_new (lines_of m w before ++ lines_of m v last) (lines_of m w hs)
            (sym (ap (λ (l : List Happening). lines_of m w l) but_last.parts ∙ lines-append w before last))
            (AppendsFront-second err_old (appended err_old (lines_of m w before)) err_new (lines_of m w before) (lines_of m v last) refl but_last.err),
      )

  module _ {H : Type 0} (may : H → HubStep → H → Type 0) (outlet : Outlet) where
    -- nothing happened
    pub AnswersAll-none : (w : S) (hub : H) (out err : Option (List ℕ)) → AnswersAll m may outlet w [] hub hub out out err err
    AnswersAll-none w hub out err = record {
      told = Tells-none may hub;
      out = sym (appended-same out (out_of m outlet w []) [] (out-none outlet w) ∙ appended-nil out);
      err = sym (appended-nil err);
      bytes = tt;
    }

    -- the hub was told of one turn more
    pub told-push : (w : S) (hs : List Happening) (h : Happening) (one two three four : H) → Tells may one (deeds_of m outlet w hs) two → may two (turned (Happened h)) three → Tells may three (flat_map (deeds_by outlet) (sayings_of m h (behind m w hs))) four → Tells may one (deeds_of m outlet w (hs ++ h ∷ [])) four
    told-push w hs h one two three four before gives told =
        let v : S = behind m w hs in
        let said : List Deed = flat_map (deeds_by outlet) (sayings_of m h v) in
        Tells-same may one four (deeds_of m outlet w hs ++ turn_deeds m outlet h v) (deeds_of m outlet w (hs ++ h ∷ [])) (sym (deeds-push outlet w hs h))
        (Tells-then may one two four (deeds_of m outlet w hs) (turn_deeds m outlet h v) before
        (Tells-then may two three four (gave h ∷ []) said (Tells-one may two (turned (Happened h)) three gives refl) told))

    -- one turn more
    pub AnswersAll-push : (w : S) (hs : List Happening) (h : Happening) (one two three four : H) (out_one out_two out_three err_one err_two err_three : Option (List ℕ)) → AnswersAll m may outlet w hs one two out_one out_two err_one err_two → may two (turned (Happened h)) three → CameAsBytes h → Answers m may outlet h (behind m w hs) three four out_two out_three err_two err_three → AnswersAll m may outlet w (hs ++ h ∷ []) one four out_one out_three err_one err_three
    AnswersAll-push w hs h one two three four out_one out_two out_three err_one err_two err_three all gives came answers =
        let v : S = behind m w hs in
        record {
          told = told-push w hs h one two three four all.told gives answers.told;
          out =
              answers.out
              ∙ ap (λ (o : Option (List ℕ)). appended o (turn_out m outlet h v)) all.out
              ∙ appended-append out_one (out_of m outlet w hs) (turn_out m outlet h v)
              ∙ appended-same out_one (out_of m outlet w hs ++ turn_out m outlet h v) (out_of m outlet w (hs ++ h ∷ [])) (sym (out-push outlet w hs h));
          err =
              answers.err
              ∙ ap (λ (o : Option (List ℕ)). appended o (turn_lines m h v)) all.err
              ∙ appended-append err_one (lines_of m w hs) (turn_lines m h v)
              ∙ appended-same err_one (lines_of m w hs ++ turn_lines m h v) (lines_of m w (hs ++ h ∷ [])) (sym (lines-push w hs h));
          bytes = came-push hs h all.bytes came;
        }

    -- a part of one turn more
    pub AnswersFront-push : (w : S) (hs : List Happening) (h : Happening) (one two three four : H) (out_one out_two out_three err_one err_two err_three : Option (List ℕ)) → AnswersAll m may outlet w hs one two out_one out_two err_one err_two → may two (turned (Happened h)) three → CameAsBytes h → AnswersPart m may outlet h (behind m w hs) three four out_two out_three err_two err_three → AnswersFront m may outlet w (hs ++ h ∷ []) one four out_one out_three err_one err_three
    AnswersFront-push w hs h one two three four out_one out_two out_three err_one err_two err_three all gives came part =
        let v : S = behind m w hs in
        let said : List Deed = flat_map (deeds_by outlet) (sayings_of m h v) in
        let before : List Deed = deeds_of m outlet w hs in
        let given = Tells-one may two (turned (Happened h)) three gives refl in
        let begun = Tells-then may one two three before (gave h ∷ []) all.told given in
        let whole : (before ++ gave h ∷ []) ++ said ≡ deeds_of m outlet w (hs ++ h ∷ []) = append_assoc before (gave h ∷ []) said ∙ sym (deeds-push outlet w hs h) in
        let part_steps : List HubStep = part.told.steps in
        record {
          told =
              TellsPart-same may one four ((before ++ gave h ∷ []) ++ said) (deeds_of m outlet w (hs ++ h ∷ [])) whole
              (TellsPart-second may one three four (before ++ gave h ∷ []) said begun part.told);
          happened =
              happenings_are (story (begun.steps ++ part_steps))
              ∙ ap (λ (l : List Deed). happened_in l) (deeds-story begun.steps part_steps)
              ∙ happened-append (deeds (story begun.steps)) (deeds (story part_steps))
              ∙ ap (λ (l : List Happening). happened_in (deeds (story begun.steps)) ++ l) (none_happened_before outlet (sayings_of m h v) (deeds (story part_steps)) part.told.front)
              ∙ append-nil (happened_in (deeds (story begun.steps)))
              ∙ ap (λ (l : List Deed). happened_in l) begun.deeds
              ∙ happened-append before (gave h ∷ [])
              ∙ ap (λ (l : List Happening). l ++ h ∷ []) (happened-deeds m outlet w hs);
          out =
              front-same out_one out_three (out_of m outlet w hs ++ turn_out m outlet h v) (out_of m outlet w (hs ++ h ∷ [])) (sym (out-push outlet w hs h))
              (AppendsFront-second out_one out_two out_three (out_of m outlet w hs) (turn_out m outlet h v) all.out part.out);
          err =
              front-same err_one err_three (lines_of m w hs ++ turn_lines m h v) (lines_of m w (hs ++ h ∷ [])) (sym (lines-push w hs h))
              (AppendsFront-second err_one err_two err_three (lines_of m w hs) (turn_lines m h v) all.err part.err);
          but_last = begun_last outlet w hs h out_one out_two out_three err_one err_two err_three all.out all.err part.out part.err;
          bytes = came-push hs h all.bytes came;
        }

    -- all, and a turn that gave nothing
    pub AnswersFront-stopped : (w : S) (hs : List Happening) (one two three : H) (out_one out_two err_one err_two : Option (List ℕ)) → AnswersAll m may outlet w hs one two out_one out_two err_one err_two → may two (turned Memory) three → AnswersFront m may outlet w hs one three out_one out_two err_one err_two
    AnswersFront-stopped w hs one two three out_one out_two err_one err_two all gives =
        let steps : List HubStep = all.told.steps ++ turned Memory ∷ [] in
        let whole : deeds (story steps) ≡ deeds_of m outlet w hs = deeds-story all.told.steps (turned Memory ∷ []) ∙ append-nil (deeds (story all.told.steps)) ∙ all.told.deeds in
        record {
          told = record {
            steps = steps;
            leads = next all.told.steps two (turned Memory) three all.told.leads gives;
            front = record { rest = []; parts = sym (append-nil (deeds (story steps)) ∙ whole) };
            went_on = all_but_last (λ step. goes_on step ≡ true) all.told.steps (turned Memory ∷ []) all.told.went_on tt;
          };
          happened = whole_happened m outlet w hs (story steps) whole;
          out = front-whole out_one out_two (out_of m outlet w hs) all.out;
          err = front-whole err_one err_two (lines_of m w hs) all.err;
          but_last = none_begun outlet w hs out_one out_two err_one err_two all.out all.err;
          bytes = all.bytes;
        }

    -- a machine for which there was no memory
    pub never_drives : (most : ℕ) (w : S) (hub : H) (out err : Option (List ℕ)) → Drives m may outlet most w hub hub out out err err drove.Memory
    never_drives most w hub out err = (
      [],
      omega arith,
      record {
        told = TellsPart-none may hub [];
        happened = refl;
        out = AppendsFront-none out (out_of m outlet w []);
        err = AppendsFront-none err [];
        but_last = none_begun outlet w [] out out err err (sym (appended-same out (out_of m outlet w []) [] (out-none outlet w) ∙ appended-nil out)) (sym (appended-nil err));
        bytes = tt;
      },
    )

    -- driving that stopped inside a turn
    pub stopped_drives : (most : ℕ) (w : S) (old new : H) (out_old out_new err_old err_new : Option (List ℕ)) (why : Stopped) (hs : List Happening) → length hs ≤ most → AnswersFront m may outlet w hs old new out_old out_new err_old err_new
        → (why ≡ stopped.WriteFault → Tells may old (deeds_of m outlet w hs) new) → Drives m may outlet most w old new out_old out_new err_old err_new (drove_by why)
    stopped_drives most w old new out_old out_new err_old err_new stopped.WriteFault hs few front told = (hs, few, front, told refl)
    stopped_drives most w old new out_old out_new err_old err_new stopped.Memory hs few front told = (hs, few, front)

pub happened_is_no_fault : (h : Happening) → Happened h ≡ Failed → ⊥
happened_is_no_fault h is = cc

pub ok_is_no_err : {T E : Type 0} {x : T} {e : E} → Ok x ≡ Err e → ⊥
ok_is_no_err is = cc
