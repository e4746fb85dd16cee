-- The parts of a turn of a hub that reads a recording, as steps.
use Rattle.std.proofs.Common.{◌≡◌, ◌&&◌, ℕ, ◌≤◌, ◌<◌, length, ◌++◌, arith, length-append, true, false, not, if◌then◌else◌, List, [], ◌∷◌, Option, Some, None, refl, sym, ◌∙◌, ap, subst, inl, inr}
use Rattle.std.proofs.lemmas.Option.{same_Some}
use Rattle.std.specs.Option.{option_map}
use Rattle.fg_outside.specs.declared.hub.Happening.{Happening}
use Rattle.fg_outside.specs.declared.hub.Turn.{Turn}
use Rattle.fg_outside.specs.declared.hub.Turn.TheVariants.{Happened, Done, Failed, Memory}
use Rattle.fg_outside.specs.declared.hub.Said.{Said}
use Rattle.fg_outside.specs.declared.hub.Said.TheVariants as answers
use Rattle.fg_outside.specs.HubStep.{turned, said, closed}
use Rattle.fg_outside.specs.HubStep.{told_by as added_by}
use Rattle.fg_outside.specs.Steps.{Went, stay}
use Rattle.fg_outside.proofs.StepLemmas.{Went-append}
use Rattle.recording.specs.declared.reader.Reader.{Reader}
use Rattle.recording.specs.declared.record.Record.{Record}
use Rattle.recording.specs.declared.script_hub.ScriptHub.{ScriptHub}
use Rattle.recording.specs.Reader.{source_of, part_of, refused_of}
use Rattle.recording.specs.Script as script
use Rattle.recording.specs.Conns.{is_among, without}
use Rattle.recording.specs.Layout.{len_in}
use Rattle.recording.proofs.Refusals.{number_at-front, header_limit-most}
use Rattle.recording.specs.Script.{IsWithin, answer_of, source_in, is_live, is_spent, own_where, Keeps, ScriptStep, Answers, TellsOwn, ReadsOn, Waits}
use Rattle.recording.proofs.Keeping.{events_of, Keeps-same, Keeps-then, Keeps-own, Keeps-read, Keeps-stays, Keeps-spent, Keeps-said, Keeps-closed}
use Rattle.recording.proofs.Standing.{is_among-without}
use Rattle.std.proofs.lemmas.Bool.{eq-eqb}

none_told : (own : Option Happening) → None ≡ option_map (λ it. Happened it) own → own ≡ None
none_told None h = refl
none_told (Some it) h = cc

some_is_not_none : {T : Type 0} (found : Option T) (x : T) → found ≡ Some x → found ≡ None → ⊥
some_is_not_none found x is none = cc

within_cut : (head body : List ℕ) → length head ≤ 17 → (0 < length body → length head ≡ 17) → length body ≤ len_in head → IsWithin (head ++ body)
within_cut head [] few order less = omega (arith, length-append head [])
within_cut head (x ∷ body) few order less =
    let whole : length head ≡ 17 = order (omega arith) in
    let len : len_in (head ++ x ∷ body) ≡ len_in head = number_at-front 4 13 head (x ∷ body) (omega (arith, whole)) in
    omega (arith, whole, len, less, length-append head (x ∷ body))

-- a reader takes no byte behind the record that it reads
reader_within : {S : Type 0} (reader : Reader S) → IsWithin (part_of reader)
reader_within reader = within_cut reader.head reader.body (omega (arith, reader.head_fits, header_limit-most reader.count)) reader.in_order reader.body_fits

module _ {S : Type 0} (left : S → Option (List ℕ)) (may : S → S → Type 0) where
  -- no call is made where the reader stays as it is
  pub same_source : (old new : ScriptHub S) → new.reader ≡ old.reader → Went may (source_in old) (source_in new)
  same_source old new reader = subst (λ (rd : Reader S). Went may (source_in old) (source_of rd)) (sym reader) stay

  -- what is known where a part of a turn gave no answer
  pub record Goes (old new : ScriptHub S) : Type 0 where
    pub keeps : Keeps left old [] new
    pub running : is_spent new ≡ false

  own_none_at : (waiting : Option Record) (hub new : ScriptHub S) → hub.waiting ≡ waiting → is_spent hub ≡ false → (hub.waiting ≡ None → (let a : Option Turn = None in a ≡ None) × (new ≡ hub)) → ((r : Record) → hub.waiting ≡ Some r → TellsOwn r hub None new) → Goes hub new
  own_none_at None hub new is running nothing told =
      let same = (nothing is).1 in
      record {
        keeps = subst (λ (h : ScriptHub S). Keeps left hub [] h) (sym same) (Keeps-same left hub);
        running = ap (λ (h : ScriptHub S). is_spent h) same ∙ running;
      }
  own_none_at (Some r) hub new is running nothing told =
      elim (told r is) [
        | inl own ↦ record {
          keeps = subst (λ (o : Option Happening). Keeps left hub (events_of o) new) (none_told (own_where (is_live hub r.conn) r) own.0) (Keeps-own left hub new r is running own.1);
          running = own.1.spent ∙ running;
        }
        | inr out ↦ let bad : ⊥ = cc (out.0) in absurd bad
      ]

  -- the record that waited has told nothing
  pub own_none : (hub new : ScriptHub S) → is_spent hub ≡ false → (hub.waiting ≡ None → (let a : Option Turn = None in a ≡ None) × (new ≡ hub)) → ((r : Record) → hub.waiting ≡ Some r → TellsOwn r hub None new) → Goes hub new
  own_none hub new running nothing told = own_none_at hub.waiting hub new refl running nothing told

  -- so it goes on, with all that was before
  pub record GoesOn (first new : ScriptHub S) : Type 0 where
    pub keeps : Keeps left first [] new
    pub running : is_spent new ≡ false
    pub source : Went may (source_in first) (source_in new)

  pub own_passed : (first hub new : ScriptHub S) → Keeps left first [] hub → Went may (source_in first) (source_in hub) → is_spent hub ≡ false → (hub.waiting ≡ None → (let a : Option Turn = None in a ≡ None) × (new ≡ hub))
      → ((r : Record) → hub.waiting ≡ Some r → TellsOwn r hub None new) → new.reader ≡ hub.reader → GoesOn first new
  own_passed first hub new keeps source running nothing told reader =
      let goes = own_none hub new running nothing told in
      record {
        keeps = Keeps-then left first hub new [] keeps goes.keeps;
        running = goes.running;
        source = Went-append may (source_in first) (source_in hub) source (source_in new) (same_source hub new reader);
      }

  happened : (own : Option Happening) (hub new : ScriptHub S) (r : Record) (t : Turn) → hub.waiting ≡ Some r → is_spent hub ≡ false → script.Told hub r new → Keeps left hub (events_of own) new → Some t ≡ option_map (λ it. Happened it) own → ScriptStep left may hub (turned t) new
  happened None hub new r t is running told keeps h = cc
  happened (Some it) hub new r t is running told keeps h =
      subst (λ (k : Turn). ScriptStep left may hub (turned k) new) (sym (same_Some t (Happened it) h)) (record {
        story = keeps;
        answer = record {
          runs = told.spent ∙ running;
          none = ap (λ (rd : Reader S). part_of rd) told.reader ∙ hub.between (some_is_not_none hub.waiting r is);
          unrefused = ap (λ (rd : Reader S). refused_of rd) told.reader ∙ hub.accepted (some_is_not_none hub.waiting r is);
        };
        source = same_source hub new told.reader;
      })

  own_some_at : (waiting : Option Record) (hub new : ScriptHub S) (t : Turn) → hub.waiting ≡ waiting → is_spent hub ≡ false → (hub.waiting ≡ None → (Some t ≡ None) × (new ≡ hub)) → ((r : Record) → hub.waiting ≡ Some r → TellsOwn r hub (Some t) new) → new.reader ≡ hub.reader → ScriptStep left may hub (turned t) new
  own_some_at None hub new t is running nothing told reader = let bad : ⊥ = cc ((nothing is).0) in absurd bad
  own_some_at (Some r) hub new t is running nothing told reader =
      elim (told r is) [
        | inl own ↦ happened (own_where (is_live hub r.conn) r) hub new r t is running own.1 (Keeps-own left hub new r is running own.1) own.0
        | inr out ↦ subst (λ (k : Turn). ScriptStep left may hub (turned k) new) (sym (same_Some t Memory out.0)) (record { story = Keeps-spent left hub new out.1; answer = out.1.spent; source = same_source hub new reader })
      ]

  -- the record that waited has told its own, or memory ran out
  pub own_some : (hub new : ScriptHub S) (t : Turn) → is_spent hub ≡ false → (hub.waiting ≡ None → (Some t ≡ None) × (new ≡ hub)) → ((r : Record) → hub.waiting ≡ Some r → TellsOwn r hub (Some t) new) → new.reader ≡ hub.reader → ScriptStep left may hub (turned t) new
  own_some hub new t running nothing told reader = own_some_at hub.waiting hub new t refl running nothing told reader

  -- the next record was read, and has told nothing yet
  pub read_none : (hub new : ScriptHub S) → hub.waiting ≡ None → is_spent hub ≡ false → ReadsOn left hub None new → Goes hub new
  read_none hub new waiting running reads = record { keeps = Keeps-read left hub new None waiting running reads; running = reads.spent ∙ running }

  -- reading on gave an answer
  pub read_some : (hub new : ScriptHub S) (t : Turn) → hub.waiting ≡ None → is_spent hub ≡ false → ReadsOn left hub (Some t) new → Went may (source_in hub) (source_in new) → ScriptStep left may hub (turned t) new
  read_some hub new (Happened it) waiting running reads went = record {
    story = Keeps-read left hub new (Some it) waiting running reads;
    answer = record { runs = reads.spent ∙ running; none = reads.takes.none; unrefused = reads.takes.unrefused };
    source = went;
  }
  read_some hub new Done waiting running reads went = record {
    story = Keeps-stays left hub new waiting running reads.0;
    answer = record { runs = reads.0.spent ∙ running; none_waits = reads.0.waiting ∙ waiting; ended = reads.1 };
    source = went;
  }
  read_some hub new Failed waiting running reads went = record {
    story = Keeps-stays left hub new waiting running reads.0;
    answer = record { runs = reads.0.spent ∙ running; none_waits = reads.0.waiting ∙ waiting; unrefused = reads.1; within = reader_within new.reader };
    source = went;
  }
  read_some hub new Memory waiting running reads went = record { story = Keeps-spent left hub new reads; answer = reads.spent; source = went }

  same_answers : (a b c : ScriptHub S) (t : Turn) → Answers left b (turned t) c → Answers left a (turned t) c
  same_answers a b c (Happened it) h = h
  same_answers a b c Done h = h
  same_answers a b c Failed h = h
  same_answers a b c Memory h = h

  -- a step behind parts that gave no answer
  pub step_then : (a b c : ScriptHub S) (t : Turn) → Keeps left a [] b → Went may (source_in a) (source_in b) → ScriptStep left may b (turned t) c → ScriptStep left may a (turned t) c
  step_then a b c t keeps went step = record {
    story = Keeps-then left a b c (added_by (turned t)) keeps step.story;
    answer = same_answers a b c t step.answer;
    source = Went-append may (source_in a) (source_in b) went (source_in c) step.source;
  }

  -- a spent hub stays as it is
  pub stays_spent : (hub : ScriptHub S) → is_spent hub ≡ true → ScriptStep left may hub (turned Memory) hub
  stays_spent hub spent = record { story = Keeps-same left hub; answer = spent; source = stay }

  -- a piece is said, and nothing kept
  pub said_step : (hub : ScriptHub S) (conn : ℕ) (piece : List ℕ) (answer : Said) → answer ≡ answer_of hub conn → ScriptStep left may hub (said conn piece answer) hub
  said_step hub conn piece answer is = record { story = Keeps-said left hub conn piece answer; answer = (is, refl); source = stay }

  pub closed_step : (hub new : ScriptHub S) (c : ℕ) → new.live ≡ without hub.live c → new.reader ≡ hub.reader → new.waiting ≡ hub.waiting → new.spent ≡ hub.spent → ScriptStep left may hub (closed c) new
  closed_step hub new c live reader waiting spent = record {
    story = Keeps-closed left hub new c live reader waiting spent;
    answer = (spent, reader);
    source = same_source hub new reader;
  }

pub is_gone : (conns : List ℕ) (c : ℕ) → is_among (without conns c) c ≡ false
is_gone conns c = is_among-without conns c c ∙ ap (λ b. not b && is_among conns c) (eq-eqb c c refl)

pub answer_spent : {S : Type 0} (hub : ScriptHub S) (conn : ℕ) → hub.spent ≡ true → answers.Memory ≡ answer_of hub conn
answer_spent hub conn h = ap (λ b. if b then answers.Memory else (if is_live hub conn then answers.Taken else answers.Gone)) (sym h)

pub answer_live : {S : Type 0} (hub : ScriptHub S) (conn : ℕ) → hub.spent ≡ false → is_among hub.live conn ≡ true → answers.Taken ≡ answer_of hub conn
answer_live hub conn h live =
    ap (λ b. if b then answers.Taken else answers.Gone) (sym live)
    ∙ ap (λ b. if b then answers.Memory else (if is_live hub conn then answers.Taken else answers.Gone)) (sym h)

pub answer_gone : {S : Type 0} (hub : ScriptHub S) (conn : ℕ) → hub.spent ≡ false → is_among hub.live conn ≡ false → answers.Gone ≡ answer_of hub conn
answer_gone hub conn h live =
    ap (λ b. if b then answers.Taken else answers.Gone) (sym live)
    ∙ ap (λ b. if b then answers.Memory else (if is_live hub conn then answers.Taken else answers.Gone)) (sym h)
