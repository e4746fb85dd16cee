-- What is written of a story that was taken in so far, by the one story of the recording.
use Rattle.std.proofs.Common.{◌≡◌, ◌≢◌, ◌⊎◌, inl, inr, ℕ, ◌-◌, ◌^◌, ◌<◌, ◌≤◌, List, [], ◌++◌, length, take, drop, Option, Some, None, unwrap_or, Result, Ok, Err, refl, sym, ap, subst, ◌∙◌, append_assoc, arith, length-append}
use Rattle.std.proofs.lemmas.List.{append-nil, take-append-drop}
use Rattle.fg_outside.specs.Contents.{Contents}
use Rattle.fg_outside.specs.Wrote.{appended, AppendsFront}
use Rattle.fg_outside.specs.declared.hub.Happening.{Happening}
use Rattle.fg_outside.proofs.SinkLemmas.{AppendsFront-first}
use Rattle.conf_gather.specs.declared.refused.LoadRefused.{LoadRefused}
use Rattle.conf_gather.specs.declared.refused.LoadRefused.TheVariants.{Read, Yaml, Conf, IncludeTwice, IncludeDepth, Absent, Memory}
use Rattle.conf_gather.specs.Gathered.{Held}
use Rattle.recording.specs.declared.record.Record.{Record}
use Rattle.recording.specs.declared.refused.RecordRefused.{RecordRefused}
use Rattle.recording.specs.Recording.{AllFollow, AllSpell, first_place}
use Rattle.recording.specs.Script.{IsStoryOf, IsStorySoFar}
use Rattle.recording.specs.Turns.{turns}
use Rattle.hub_drive.specs.declared.replay.Replayed.{Replayed}
use Rattle.hub_drive.specs.declared.replay.Replayed.TheVariants as replayed
use Rattle.hub_drive.specs.declared.sayings.Outlet.{Outlet}
use Rattle.hub_drive.specs.Driving.{IsFront, closings_of, lines_of, out_of}
use Rattle.hub_drive.specs.Machine.{Workings, behind}
use Rattle.hub_drive.specs.Replay.{Replays, WritesAll}
use Rattle.hub_drive.proofs.Stories.{front-whole, lines-append, out-append, out-none}
use Rattle.law_recordings.proofs.Begun.{begun_story, whole_records_story}
use Rattle.faucet_top.specs.Answer.{Answer, last_line, out_of_memory, refusal, unread}
use Rattle.faucet_top.specs.Ends.{status_after}
use Rattle.faucet_top.specs.Given.{Delivers, LoadsBy, RepliesRun}
use Rattle.faucet_top.specs.Status.{number_of_status}
use Rattle.law_answers.specs.Answers.{AnswersFront, AnswersTurns, IsSpentAt7, StopsSpent, StopsUnread, TellsStory}

-- ---- lists

front_of_front : {X : Type 0} (one two three : List X) → IsFront one two → IsFront two three → IsFront one three
front_of_front one two three first second = record {
  rest = first.rest ++ second.rest;
  parts = second.parts ∙ ap (λ l. l ++ second.rest) first.parts ∙ append_assoc one first.rest second.rest;
}

front_length : {X : Type 0} (one two : List X) → IsFront one two → length one ≤ length two
front_length one two is = omega (arith, ap length is.parts, length-append one is.rest)

nothing_is_front : {X : Type 0} (xs : List X) → IsFront [] xs
nothing_is_front xs = record { rest = xs; parts = refl }

-- what was written behind nothing is a front of what was to be
taken_front : (bytes piece : List ℕ) → AppendsFront (Some []) (Some bytes) piece → IsFront bytes piece
taken_front bytes piece front =
    let is : bytes ≡ take front.count piece = ap (λ (o : Option (List ℕ)). unwrap_or o []) front.front in
    record { rest = drop front.count piece; parts = sym (take-append-drop front.count piece) ∙ ap (λ (l : List ℕ). l ++ drop front.count piece) (sym is) }

appends_front : (old new : Option (List ℕ)) (piece whole : List ℕ) → IsFront piece whole → AppendsFront old new piece → AppendsFront old new whole
appends_front old new piece whole is front = subst (λ (l : List ℕ). AppendsFront old new l) (sym is.parts) (AppendsFront-first old new piece is.rest front)

-- ---- stories

module _ {S : Type 0} (m : Workings S) (outlet : Outlet) (w : S) where
  out_front : (front story : List Happening) → IsFront front story → IsFront (out_of m outlet w front) (out_of m outlet w story)
  out_front front story is = record {
    rest = out_of m outlet (behind m w front) is.rest;
    parts = ap (out_of m outlet w) is.parts ∙ out-append m outlet w front is.rest;
  }

  lines_front : (front story : List Happening) → IsFront front story → IsFront (lines_of m w front) (lines_of m w story)
  lines_front front story is = record {
    rest = lines_of m (behind m w front) is.rest;
    parts = ap (lines_of m w) is.parts ∙ lines-append m w front is.rest;
  }

  -- the story of all records is told so far
  so_far_of : (bytes : List ℕ) (story : List Happening) (refused : Option RecordRefused) → IsStoryOf bytes story (closings_of m 0 w story) refused → IsStorySoFar bytes story (closings_of m 0 w story)
  so_far_of bytes story None is =
      let all : is.records ++ [] ≡ is.records = append-nil is.records in
      let whole = is.whole refl in
      record {
        records = is.records;
        waits = None;
        front = bytes;
        rest = [];
        parts = sym (append-nil bytes);
        spell = subst (λ (l : List Record). AllSpell l bytes) (sym all) whole.spell;
        follow = subst (λ (l : List Record). AllFollow first_place l) (sym all) whole.follow;
        told = is.told ∙ sym (append-nil (turns is.records (closings_of m 0 w story)));
      }
  so_far_of bytes story (Some r) is =
      let all : is.records ++ [] ≡ is.records = append-nil is.records in
      let at = is.refuses r refl in
      record {
        records = is.records;
        waits = None;
        front = at.front;
        rest = at.rest;
        parts = at.parts;
        spell = subst (λ (l : List Record). AllSpell l at.front) (sym all) at.spell;
        follow = subst (λ (l : List Record). AllFollow first_place l) (sym all) at.follow;
        told = is.told ∙ sym (append-nil (turns is.records (closings_of m 0 w story)));
      }

-- ---- a run that ended so

module _ {S : Type 0} (m : Workings S) (outlet : Outlet) (w : S) (held : Contents) (recording : List ℕ) (story : List Happening) (refused : Option RecordRefused) (tells : TellsStory m w (held 0) recording story refused)
    (absence fault : Type 0) where
  abbrev Ran : (out lines : List ℕ) → Replayed → Type 0
  Ran out lines end = Replays m outlet (Some held) recording absence fault w (Some []) (Some out) (Some []) (Some lines) end

  there : Some (held 0 recording) ≡ Some (Some tells.bytes)
  there = ap (λ (f : Option (List ℕ)). Some f) tells.file

  record Front (out lines : List ℕ) : Type 0 where
    pub of_out : IsFront out (out_of m outlet w story)
    pub of_lines : IsFront lines (lines_of m w story)

  same_some : (x y : List ℕ) → Some x ≡ Some y → x ≡ y
  same_some x y is = cc

  all_front : (front : List Happening) (out lines : List ℕ) → IsFront front story → WritesAll m outlet w front (Some []) (Some out) (Some []) (Some lines) → Front out lines
  all_front front out lines is writes = record {
    of_out = subst (λ (l : List ℕ). IsFront l (out_of m outlet w story)) (sym (same_some out (out_of m outlet w front) writes.out)) (out_front m outlet w front story is);
    of_lines = subst (λ (l : List ℕ). IsFront l (lines_of m w story)) (sym (same_some lines (lines_of m w front) writes.err)) (lines_front m outlet w front story is);
  }

  ran_front : (out lines : List ℕ) (end : Replayed) → end ≢ replayed.WriteFault → Ran out lines end → Front out lines
  ran_front out lines (replayed.Read at) other (front, writes, few, is) =
      all_front front out lines (begun_story m w tells.bytes front story refused tells.told (so_far_of m outlet w tells.bytes front at (is tells.bytes there))) writes
  ran_front out lines replayed.Unread other (front, writes, is, cause) =
      all_front front out lines (whole_records_story m w tells.bytes front story refused tells.told (is tells.bytes there)) writes
  ran_front out lines replayed.Spent other (front, writes, is, most) =
      all_front front out lines (begun_story m w tells.bytes front story refused tells.told (is tells.bytes there)) writes
  ran_front out lines replayed.WriteFault other replays = absurd (other refl)
  ran_front out lines replayed.Memory other (front, writes, is) =
      let at : IsFront front story = begun_story m w tells.bytes front story refused tells.told (is tells.bytes there) in
      record {
        of_out = front_of_front out (out_of m outlet w front) (out_of m outlet w story) (taken_front out (out_of m outlet w front) writes.out) (out_front m outlet w front story at);
        of_lines = front_of_front lines (lines_of m w front) (lines_of m w story) (taken_front lines (lines_of m w front) writes.err) (lines_front m outlet w front story at);
      }

  -- ---- what is replied

  record FrontReply (a : Answer) : Type 0 where
    pub lines : List ℕ
    pub name : List ℕ
    pub end : Replayed
    pub out : IsFront a.out (out_of m outlet w story)
    pub front : IsFront lines (lines_of m w story)
    pub err : a.err ≡ lines ++ last_line name end

  nothing_said : (a : Answer) (name : List ℕ) (end : Replayed) → a.out ≡ [] → a.err ≡ last_line name end → FrontReply a
  nothing_said a name end none said = record {
    lines = [];
    name = name;
    end = end;
    out = subst (λ (l : List ℕ). IsFront l (out_of m outlet w story)) (sym none) (nothing_is_front (out_of m outlet w story));
    front = nothing_is_front (lines_of m w story);
    err = said;
  }

  abbrev Run : Answer → Type 0
  Run a = RepliesRun m outlet (Some held) absence fault recording w a

  run_front : (a : Answer) → Run a → FrontReply a
  run_front a (end, out, lines, unfailed, replays, by_file, is) =
      let front : Front out lines = ran_front out lines end unfailed replays in
      record {
        lines = lines;
        name = recording;
        end = end;
        out = subst (λ (l : List ℕ). IsFront l (out_of m outlet w story)) (sym (ap (λ (b : Answer). b.out) is)) front.of_out;
        front = front.of_lines;
        err = ap (λ (b : Answer). b.err) is;
      }

  -- ---- by what the file of the configuration gave

  module _ {A : Type 0} (given : Held → List ℕ → Result A LoadRefused) (start : A → S) (config : List ℕ) (conf : A) (accepted : given (held 0) config ≡ Ok conf) (begins : start conf ≡ w) where
    -- the reply by it
    abbrev pub RepliesBy : Result A LoadRefused → Answer → Type 0
    RepliesBy (Err why) a = a ≡ refusal config why
    RepliesBy (Ok other) a = RepliesRun m outlet (Some held) absence fault recording (start other) a

    abbrev GaveIt : (name : List ℕ) → Result A LoadRefused → Type 0
    GaveIt name made = LoadsBy given (Some held) absence fault name config made

    not_refused : (why : LoadRefused) → given (held 0) config ≡ Err why → ⊥
    not_refused why is = other (sym accepted ∙ is)
      where
        other : {X : Type 0} {x : X} → Ok x ≡ Err why → ⊥
        other is = cc

    refusal_front : (name : List ℕ) (why : LoadRefused) → GaveIt name (Err why) → FrontReply (refusal config why)
    refusal_front name (Read file) loads = nothing_said (refusal config (Read file)) file replayed.Unread refl refl
    refusal_front name (Absent file) loads = absurd (not_refused (Absent file) (loads.told held refl))
    refusal_front name (Yaml file at) loads = absurd (not_refused (Yaml file at) (loads.told held refl))
    refusal_front name (Conf at) loads = absurd (not_refused (Conf at) (loads.told held refl))
    refusal_front name (IncludeTwice file) loads = absurd (not_refused (IncludeTwice file) (loads.told held refl))
    refusal_front name (IncludeDepth file) loads = absurd (not_refused (IncludeDepth file) (loads.told held refl))
    refusal_front name Memory loads = nothing_said (refusal config Memory) [] replayed.Memory refl refl

    abbrev accepted_as : A → Result A LoadRefused
    accepted_as other = Ok other

    same_start : (other : A) → given (held 0) config ≡ Ok other → start other ≡ w
    same_start other is = ap start (one (sym is ∙ accepted)) ∙ begins
      where
        one : accepted_as other ≡ accepted_as conf → other ≡ conf
        one same = cc

    ran_here : (name : List ℕ) (other : A) (a : Answer) → GaveIt name (Ok other) → RepliesBy (Ok other) a → Run a
    ran_here name other a loads replies = subst (λ (v : S). RepliesRun m outlet (Some held) absence fault recording v a) (same_start other (loads.told held refl)) replies

    reply_front : (name : List ℕ) (made : Result A LoadRefused) (a : Answer) → GaveIt name made → RepliesBy made a → FrontReply a
    reply_front name (Err why) a loads is = subst FrontReply (sym is) (refusal_front name why loads)
    reply_front name (Ok other) a loads replies = run_front a (ran_here name other a loads replies)

    module _ (name : List ℕ) (status : ℕ) (o0 o1 e0 e1 : Option (List ℕ)) (m0 m1 n0 n1 : ℕ) where
      delivered_front : (a : Answer) → FrontReply a → Delivers a status o0 o1 e0 e1 m0 m1 n0 n1 → AnswersFront m outlet w story o0 o1 e0 e1
      delivered_front a reply (inl whole) = record {
        lines = reply.lines;
        name = reply.name;
        end = reply.end;
        out = appends_front o0 o1 a.out (out_of m outlet w story) reply.out (front-whole o0 o1 a.out whole.1);
        front = reply.front;
        err = subst (λ (l : List ℕ). AppendsFront e0 e1 l) reply.err (front-whole e0 e1 a.err whole.2);
      }
      delivered_front a reply (inr front) = record {
        lines = reply.lines;
        name = reply.name;
        end = reply.end;
        out = appends_front o0 o1 a.out (out_of m outlet w story) reply.out front.1;
        front = reply.front;
        err = subst (λ (l : List ℕ). AppendsFront e0 e1 l) reply.err front.2;
      }

      abbrev pub Given : Type 0
      Given = (a : Answer) × (((made : Result A LoadRefused) × GaveIt name made × RepliesBy made a) ⊎ (a ≡ out_of_memory)) × Delivers a status o0 o1 e0 e1 m0 m1 n0 n1

      pub gives_front : Given → AnswersFront m outlet w story o0 o1 e0 e1
      gives_front (a, inl reply, delivers) = delivered_front a (reply_front name reply.0 a reply.1 reply.2) delivers
      gives_front (a, inr memory, delivers) = delivered_front a (subst FrontReply (sym memory) (nothing_said out_of_memory [] replayed.Memory refl refl)) delivers

      -- ---- where no write failed

      abbrev Whole : Answer → Type 0
      Whole a = (a.status ≡ status) × (o1 ≡ appended o0 a.out) × (e1 ≡ appended e0 a.err)

      whole_at : (a : Answer) → Delivers a status o0 o1 e0 e1 m0 m1 n0 n1 → (status ≡ 4 → ⊥) → Whole a
      whole_at a (inl whole) other = (sym whole.0, whole.1, whole.2)
      whole_at a (inr front) other = absurd (other front.0)

      turns_at : (front : List Happening) (out lines last : List ℕ) (a : Answer) → IsFront front story → WritesAll m outlet w front (Some []) (Some out) (Some []) (Some lines) → a.out ≡ out → a.err ≡ lines ++ last
          → Whole a → AnswersTurns m outlet w story o0 o1 e0 e1 front last
      turns_at front out lines last a is writes wrote said whole = record {
        is = is;
        out = whole.1 ∙ ap (appended o0) (wrote ∙ same_some out (out_of m outlet w front) writes.out);
        err = whole.2 ∙ ap (appended e0) (said ∙ ap (λ (l : List ℕ). l ++ last) (same_some lines (lines_of m w front) writes.err));
      }

      -- at 3
      unread_end : (out lines : List ℕ) (end : Replayed) (a : Answer) → Ran out lines end → a ≡ record { out = out; err = lines ++ last_line recording end; status = number_of_status (status_after end) } → status ≡ 3 → Whole a
          → StopsUnread m outlet w story o0 o1 e0 e1
      unread_end out lines (replayed.Read None) a replays is s whole = absurd (omega (arith, s, whole.0, ap (λ (b : Answer). b.status) is))
      unread_end out lines (replayed.Read (Some at)) a replays is s whole = absurd (omega (arith, s, whole.0, ap (λ (b : Answer). b.status) is))
      unread_end out lines replayed.Unread a (front, writes, told, cause) is s whole = (
        front,
        recording,
        turns_at front out lines (unread recording).err a (whole_records_story m w tells.bytes front story refused tells.told (told tells.bytes there)) writes
            (ap (λ (b : Answer). b.out) is) (ap (λ (b : Answer). b.err) is) whole,
      )
      unread_end out lines replayed.Spent a replays is s whole = absurd (omega (arith, s, whole.0, ap (λ (b : Answer). b.status) is))
      unread_end out lines replayed.WriteFault a replays is s whole = absurd (omega (arith, s, whole.0, ap (λ (b : Answer). b.status) is))
      unread_end out lines replayed.Memory a replays is s whole = absurd (omega (arith, s, whole.0, ap (λ (b : Answer). b.status) is))

      no_turns : (file : List ℕ) (a : Answer) → a.out ≡ [] → a.err ≡ (unread file).err → Whole a → StopsUnread m outlet w story o0 o1 e0 e1
      no_turns file a none said whole = ([], file, record { is = nothing_is_front story; out = whole.1 ∙ ap (appended o0) (none ∙ sym (out-none m outlet w)); err = whole.2 ∙ ap (appended e0) said })

      refusal_unread : (why : LoadRefused) → GaveIt name (Err why) → status ≡ 3 → Whole (refusal config why) → StopsUnread m outlet w story o0 o1 e0 e1
      refusal_unread (Read file) loads s whole = no_turns file (refusal config (Read file)) refl refl whole
      refusal_unread (Absent file) loads s whole = absurd (not_refused (Absent file) (loads.told held refl))
      refusal_unread (Yaml file at) loads s whole = absurd (not_refused (Yaml file at) (loads.told held refl))
      refusal_unread (Conf at) loads s whole = absurd (not_refused (Conf at) (loads.told held refl))
      refusal_unread (IncludeTwice file) loads s whole = absurd (not_refused (IncludeTwice file) (loads.told held refl))
      refusal_unread (IncludeDepth file) loads s whole = absurd (not_refused (IncludeDepth file) (loads.told held refl))
      refusal_unread Memory loads s whole = absurd (omega (arith, s, whole.0))

      reply_unread : (made : Result A LoadRefused) (a : Answer) → GaveIt name made → RepliesBy made a → status ≡ 3 → Whole a → StopsUnread m outlet w story o0 o1 e0 e1
      reply_unread (Err why) a loads is s whole = refusal_unread why loads s (subst Whole is whole)
      reply_unread (Ok other) a loads replies s whole =
          let run : Run a = ran_here name other a loads replies in
          unread_end run.1 run.2 run.0 a run.4 run.6 s whole

      pub gives_unread : Given → status ≡ 3 → StopsUnread m outlet w story o0 o1 e0 e1
      gives_unread (a, inl reply, delivers) s = reply_unread reply.0 a reply.1 reply.2 s (whole_at a delivers (λ four. omega (arith, s, four)))
      gives_unread (a, inr memory, delivers) s =
          let whole : Whole a = whole_at a delivers (λ four. omega (arith, s, four)) in
          absurd (omega (arith, s, whole.0, ap (λ (b : Answer). b.status) memory))

      -- at 7
      spent_end : (out lines : List ℕ) (end : Replayed) (a : Answer) → Ran out lines end → a ≡ record { out = out; err = lines ++ last_line recording end; status = number_of_status (status_after end) } → status ≡ 7 → Whole a
          → StopsSpent m outlet w story o0 o1 e0 e1
      spent_end out lines (replayed.Read None) a replays is s whole = absurd (omega (arith, s, whole.0, ap (λ (b : Answer). b.status) is))
      spent_end out lines (replayed.Read (Some at)) a replays is s whole = absurd (omega (arith, s, whole.0, ap (λ (b : Answer). b.status) is))
      spent_end out lines replayed.Unread a replays is s whole = absurd (omega (arith, s, whole.0, ap (λ (b : Answer). b.status) is))
      spent_end out lines replayed.Spent a (front, writes, told, most) is s whole = (
        front,
        most,
        turns_at front out lines (last_line [] replayed.Spent) a (begun_story m w tells.bytes front story refused tells.told (told tells.bytes there)) writes
            (ap (λ (b : Answer). b.out) is) (ap (λ (b : Answer). b.err) is) whole,
      )
      spent_end out lines replayed.WriteFault a replays is s whole = absurd (omega (arith, s, whole.0, ap (λ (b : Answer). b.status) is))
      spent_end out lines replayed.Memory a replays is s whole = absurd (omega (arith, s, whole.0, ap (λ (b : Answer). b.status) is))

      refusal_not : (why : LoadRefused) → GaveIt name (Err why) → (status ≡ 3 → ⊥) → (status ≡ 8 → ⊥) → Whole (refusal config why) → ⊥
      refusal_not (Read file) loads three eight whole = three (sym whole.0)
      refusal_not (Absent file) loads three eight whole = three (sym whole.0)
      refusal_not (Yaml file at) loads three eight whole = not_refused (Yaml file at) (loads.told held refl)
      refusal_not (Conf at) loads three eight whole = not_refused (Conf at) (loads.told held refl)
      refusal_not (IncludeTwice file) loads three eight whole = not_refused (IncludeTwice file) (loads.told held refl)
      refusal_not (IncludeDepth file) loads three eight whole = not_refused (IncludeDepth file) (loads.told held refl)
      refusal_not Memory loads three eight whole = eight (sym whole.0)

      -- at neither 3, 4 nor 8 the recording was run
      reply_run : (made : Result A LoadRefused) (a : Answer) → GaveIt name made → RepliesBy made a → (status ≡ 3 → ⊥) → (status ≡ 8 → ⊥) → Whole a → Run a
      reply_run (Err why) a loads is three eight whole = absurd (refusal_not why loads three eight (subst Whole is whole))
      reply_run (Ok other) a loads replies three eight whole = ran_here name other a loads replies

      gives_run : Given → (status ≡ 3 → ⊥) → (status ≡ 4 → ⊥) → (status ≡ 8 → ⊥) → (a : Answer) × Run a × Whole a
      gives_run (a, inl reply, delivers) three four eight = let whole : Whole a = whole_at a delivers four in (a, reply_run reply.0 a reply.1 reply.2 three eight whole, whole)
      gives_run (a, inr memory, delivers) three four eight =
          let whole : Whole a = whole_at a delivers four in
          absurd (eight (sym whole.0 ∙ ap (λ (b : Answer). b.status) memory))

      gives_spent : Given → status ≡ 7 → StopsSpent m outlet w story o0 o1 e0 e1
      gives_spent gives s =
          let ran = gives_run gives (λ three. omega (arith, s, three)) (λ four. omega (arith, s, four)) (λ eight. omega (arith, s, eight)) in
          let run = ran.1 in
          spent_end run.1 run.2 run.0 ran.0 run.4 run.6 s ran.2

      -- at 0 and at 5
      other_end : (n : ℕ) → (status ≡ 0) ⊎ (status ≡ 5) → status ≡ n → (n ≡ 0 → ⊥) → (n ≡ 5 → ⊥) → ⊥
      other_end n s is none five = elim s [ inl at ↦ none (sym is ∙ at) | inr at ↦ five (sym is ∙ at) ]

      few_end : (out lines : List ℕ) (end : Replayed) (a : Answer) → Ran out lines end → a ≡ record { out = out; err = lines ++ last_line recording end; status = number_of_status (status_after end) } → (status ≡ 0) ⊎ (status ≡ 5) → Whole a
          → length story < 2 ^ 64 - 1
      few_end out lines (replayed.Read at) a (front, writes, few, told) is s whole =
          let whole_front : IsFront story front = begun_story m w tells.bytes story front at (told tells.bytes there) (so_far_of m outlet w tells.bytes story refused tells.told) in
          omega (arith, few, front_length story front whole_front)
      few_end out lines replayed.Unread a replays is s whole = absurd (other_end 3 s (sym (whole.0) ∙ ap (λ (b : Answer). b.status) is) (λ e. omega arith) (λ e. omega arith))
      few_end out lines replayed.Spent a replays is s whole = absurd (other_end 7 s (sym (whole.0) ∙ ap (λ (b : Answer). b.status) is) (λ e. omega arith) (λ e. omega arith))
      few_end out lines replayed.WriteFault a replays is s whole = absurd (other_end 4 s (sym (whole.0) ∙ ap (λ (b : Answer). b.status) is) (λ e. omega arith) (λ e. omega arith))
      few_end out lines replayed.Memory a replays is s whole = absurd (other_end 8 s (sym (whole.0) ∙ ap (λ (b : Answer). b.status) is) (λ e. omega arith) (λ e. omega arith))

      gives_whole : Given → (status ≡ 0) ⊎ (status ≡ 5) → length story < 2 ^ 64 - 1
      gives_whole gives s =
          let ran = gives_run gives (λ three. other_end 3 s three (λ e. omega arith) (λ e. omega arith)) (λ four. other_end 4 s four (λ e. omega arith) (λ e. omega arith)) (λ eight. other_end 8 s eight (λ e. omega arith) (λ e. omega arith)) in
          let run = ran.1 in
          few_end run.1 run.2 run.0 ran.0 run.4 run.6 s ran.2

      pub gives_at_7 : Given → IsSpentAt7 m outlet w story o0 o1 e0 e1 status
      gives_at_7 gives = (gives_spent gives, gives_whole gives)
