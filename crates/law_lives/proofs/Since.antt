-- A HELLO is said where a connection opens, before anything else, and nowhere else: so what is said of tables counts from there.
use Rattle.std.proofs.Common.{◌≡◌, ℕ, zero, suc, ◌==◌, ◌&&◌, not, Bool, true, false, Some, Option, None, List, [], ◌∷◌, ◌++◌, length, inl, inr, refl, sym, ap, ◌∙◌, subst, append_assoc, append-nil, true≢false, if◌then◌else◌}
use Rattle.std.specs.List.{AllByRecursion, flat_map, fold}
use Rattle.std.proofs.lemmas.Bool.{cases_Bool, eqb-true}
use Rattle.std.proofs.lemmas.List.Sums.{fold-append}
use Rattle.fg_outside.specs.declared.hub.EndCause.{EndCause}
use Rattle.fg_outside.specs.declared.hub.Happening.{Happening}
use Rattle.fg_outside.specs.declared.hub.Happening.TheVariants as happenings
use Rattle.of_match.proofs.AfterOrder.{all_append}
use Rattle.of13_codec.specs.declared.message.Message.{Message}
use Rattle.of13_codec.specs.declared.message.Message.TheVariants as messages
use Rattle.switch_session.specs.Connections.{next_id}
use Rattle.ctl_world.specs.declared.conns.Conn.{Conn}
use Rattle.ctl_world.specs.declared.frames.Front.{Front}
use Rattle.ctl_world.specs.declared.frames.Front.TheVariants.{Part, Frame, Bad}
use Rattle.ctl_world.specs.declared.said.Said.{Said}
use Rattle.ctl_world.specs.declared.said.Said.TheVariants as told
use Rattle.ctl_world.specs.Connections.{is_open}
use Rattle.ctl_world.specs.Ends.{end_line, ended}
use Rattle.ctl_world.specs.Frames.{front}
use Rattle.ctl_world.specs.TablesSaid.{is_hello, is_of_tables, said_more, tables_said}
use Rattle.ctl_world.specs.World.{World}
use Rattle.ctl_core.specs.Settlings.{settle}
use Rattle.ctl_life.specs.Life.{closing_for, feed, has_frame, open_conn, read, says, unread}
use Rattle.ctl_life.proofs.Openings.{fresh, opens_by}
use Rattle.ctl_core.specs.Hearing.{hear_frame, hear_frames, hear_front, hear_next}
use Rattle.ctl_core.specs.Reloading.{accepted, reload}
use Rattle.ctl_core.specs.Turns.{hear, pass, turn, work}
use Rattle.law_stories.specs.Sayable.{is_answer}
use Rattle.law_stories.specs.Settlings.{Settling, at_frames, at_front, at_next, at_piece, at_work, known_behind, said_in}
use Rattle.law_stories.proofs.Singly.{Steps, feed_stays, heard_stays, pass_stays, read_stays, reload_stays, settle_stays}
use Rattle.law_lives.specs.Known.{open_more}
use Rattle.law_lives.specs.Told.{Told, as_told}
use Rattle.law_lives.proofs.Opened.{taken, turn_open}
use Rattle.law_lives.specs.Since.{CountAlike, CountsAlike, Since, begins, of_tables, since_more, tables_since}

-- ---- no HELLO

abbrev IsNoHello : Said → Type 0
IsNoHello (told.Message number m xid) = is_hello m ≡ false
IsNoHello (told.Closing number cause) = Unit {0}
IsNoHello (told.Line text) = Unit {0}

answer_plain : (m : Message) → is_answer m ≡ true → is_hello m ≡ false
answer_plain (messages.Hello version bitmap) is = absurd (true≢false (sym is))
answer_plain m is = refl

-- what is said behind this has none
module _ (base : List Said) where
  abbrev Adds : List Conn → List Said → Type 0
  Adds conns said = (more : List Said) × (said ≡ base ++ more) × AllByRecursion IsNoHello more

  add : (conns next : List Conn) (said x : List Said) → AllByRecursion IsNoHello x → Adds conns said → Adds next (said ++ x)
  add conns next said x each adds = (adds.0 ++ x, ap (λ (all : List Said). all ++ x) adds.1 ∙ append_assoc base adds.0 x, all_append IsNoHello adds.0 x adds.2 each)

  single : Steps Adds
  single = record {
    changes = λ f is number conns said adds. adds;
    says = λ f counts number m own c conns said at adds. add conns conns said (told.Message number m (next_id c.session.last_xid) ∷ []) (own.hello, tt) adds;
    repeats = λ number m answers xid conns said at adds. add conns conns said (told.Message number m xid ∷ []) (answer_plain m answers, tt) adds;
    closes = λ cause number conns said at adds. add conns conns said (told.Closing number cause ∷ end_line number cause ∷ []) (tt, (tt, tt)) adds;
    tells = λ text conns said adds. add conns conns said (told.Line text ∷ []) (tt, tt) adds;
  }

  abbrev Grown : World → Type 0
  Grown w = Adds w.conns w.said

  settled : (w : World) → Grown w → Grown (settle w)
  settled w grown = settle_stays Adds single w grown

  front_grown : (number : ℕ) (w : World) → Grown w → (f : Front) → front (unread number w) ≡ f → Grown (hear_front f number (read number w))
  front_grown number w grown Part is = read_stays Adds single number w grown
  front_grown number w grown (Frame frame) is = settled (hear_frame (says frame) number (read number w)) (heard_stays Adds single (says frame) number w (λ part. absurd (cc)) grown)
  front_grown number w grown Bad is = settled (hear_frame None number (read number w)) (heard_stays Adds single None number w (λ part. absurd (cc)) grown)

  frames_grown : (most number : ℕ) (w : World) → Grown w → Grown (hear_frames most number w)
  frames_grown zero number w grown = grown
  frames_grown (suc most) number w grown =
      let next : Grown (hear_next number w) = front_grown number w grown (front (unread number w)) refl in
      elim (has_frame number w) as (λ b. Grown (if b then hear_frames most number (hear_next number w) else hear_next number w)) [
        | true ↦ frames_grown most number (hear_next number w) next
        | false ↦ next
      ]

  heard_grown : (number : ℕ) (piece : List ℕ) (w : World) → Grown w → Grown (hear number piece w)
  heard_grown number piece w grown =
      let fed : World = feed number piece w in
      frames_grown (length (unread number fed)) number fed (feed_stays Adds single number piece w grown)

  -- ---- at each settling in a piece

  abbrev Grew : (past : List Said) → Settling → Type 0
  Grew past s = (s.past ≡ past) × Grown s.before

  front_grew : (past : List Said) (number : ℕ) (w : World) → Grown w → (f : Front) → front (unread number w) ≡ f → AllByRecursion (Grew past) (at_front past f number (read number w))
  front_grew past number w grown Part is = tt
  front_grew past number w grown (Frame frame) is = ((refl, heard_stays Adds single (says frame) number w (λ part. absurd (cc)) grown), tt)
  front_grew past number w grown Bad is = ((refl, heard_stays Adds single None number w (λ part. absurd (cc)) grown), tt)

  frames_grew : (past : List Said) (most number : ℕ) (w : World) → Grown w → AllByRecursion (Grew past) (at_frames past most number w)
  frames_grew past zero number w grown = tt
  frames_grew past (suc most) number w grown =
      let next : Grown (hear_next number w) = front_grown number w grown (front (unread number w)) refl in
      all_append (Grew past) (at_next past number w) (if has_frame number w then at_frames past most number (hear_next number w) else [])
      (front_grew past number w grown (front (unread number w)) refl)
      (elim (has_frame number w) as (λ b. AllByRecursion (Grew past) (if b then at_frames past most number (hear_next number w) else [])) [
        | true ↦ frames_grew past most number (hear_next number w) next
        | false ↦ tt
      ])

  piece_grew : (past : List Said) (number : ℕ) (piece : List ℕ) (w : World) → Grown w → AllByRecursion (Grew past) (at_piece past number (feed number piece w))
  piece_grew past number piece w grown =
      let fed : World = feed number piece w in
      frames_grew past (length (unread number fed)) number fed (feed_stays Adds single number piece w grown)

-- ---- what of it is said of tables

module _ (n : ℕ) where
  abbrev counted : List (Message × ℕ) → List Said → List (Message × ℕ)
  counted before said = fold (said_more n) before said

  abbrev found : List Said → List (Message × ℕ)
  found said = flat_map (of_tables n) said

  one_more : (number : ℕ) (m : Message) (xid : ℕ) (before : List (Message × ℕ)) → is_hello m ≡ false → said_more n before (told.Message number m xid) ≡ before ++ of_tables n (told.Message number m xid)
  one_more number m xid before plain =
      ap (λ (h : Bool). if number == n then (if h then [] else if is_of_tables m then before ++ (m, xid) ∷ [] else before) else before) plain ∙ by (number == n) (is_of_tables m)
    where
      by : (own of : Bool) → (if own then (if of then before ++ (m, xid) ∷ [] else before) else before) ≡ before ++ (if own && of then (m, xid) ∷ [] else [])
      by true true = refl
      by true false = sym (append-nil before)
      by false of = sym (append-nil before)

  plain_counted : (said : List Said) (before : List (Message × ℕ)) → AllByRecursion IsNoHello said → counted before said ≡ before ++ found said
  plain_counted [] before plain = sym (append-nil before)
  plain_counted (told.Message number m xid ∷ said) before plain =
      ap (λ (t : List (Message × ℕ)). counted t said) (one_more number m xid before plain.0)
      ∙ plain_counted said (before ++ of_tables n (told.Message number m xid)) plain.1 ∙ append_assoc before (of_tables n (told.Message number m xid)) (found said)
  plain_counted (told.Closing number cause ∷ said) before plain = plain_counted said before plain.1
  plain_counted (told.Line text ∷ said) before plain = plain_counted said before plain.1

  -- behind what opens the connection, or not
  abbrev Counts : (anew : Bool) → List Said → Type 0
  Counts anew said = (before : List (Message × ℕ)) → counted before said ≡ (if anew then [] else before) ++ found said

  none_anew : (said : List Said) → Adds [] [] said → Counts false said
  none_anew said adds before =
      ap (counted before) adds.1 ∙ plain_counted adds.0 before adds.2 ∙ ap (λ (all : List Said). before ++ found all) (sym adds.1)

  abbrev greeting : ℕ → ℕ → Said
  greeting number xid = told.Message number (messages.Hello 4 (Some 16)) xid

  greeted : (number xid : ℕ) (said : List Said) → Adds (greeting number xid ∷ []) [] said → Counts (number == n) said
  greeted number xid said adds before =
      ap (counted before) adds.1
      ∙ plain_counted adds.0 (if number == n then [] else before) adds.2
      ∙ ap (λ (t : List (Message × ℕ)). (if number == n then [] else before) ++ (t ++ found adds.0)) (sym (nothing (number == n)))
      ∙ ap (λ (all : List Said). (if number == n then [] else before) ++ found all) (sym adds.1)
    where
      nothing : (b : Bool) → if◌then◌else◌ {A = List (Message × ℕ)} (b && false) ((messages.Hello 4 (Some 16), xid) ∷ []) [] ≡ []
      nothing true = refl
      nothing false = refl

  -- ---- a turn, where nothing was said before it

  module _ (w : World) (silent : w.said ≡ []) where
    start : Grown [] w
    start = ([], silent, tt)

    plainly : (v : World) → Grown [] v → Counts false v.said
    plainly v grown = none_anew v.said (grown.0, grown.1, grown.2)

    kept_open : (number : ℕ) → is_open w.conns number ≡ true → begins n (is_open w.conns n) (happenings.Opened number) ≡ false
    kept_open number at =
        elim (cases_Bool (number == n)) [
          | inl same ↦
              ap (λ (b : Bool). b && not (is_open w.conns n)) same ∙ ap (λ (k : ℕ). not (is_open w.conns k)) (sym (eqb-true number n same)) ∙ ap not at
          | inr other ↦ ap (λ (b : Bool). b && not (is_open w.conns n)) other
        ]

    newly_open : (number : ℕ) → is_open w.conns number ≡ false → begins n (is_open w.conns n) (happenings.Opened number) ≡ (number == n)
    newly_open number shut =
        elim (cases_Bool (number == n)) [
          | inl same ↦
              ap (λ (b : Bool). b && not (is_open w.conns n)) same ∙ ap (λ (k : ℕ). not (is_open w.conns k)) (sym (eqb-true number n same)) ∙ ap not shut ∙ sym same
          | inr other ↦ ap (λ (b : Bool). b && not (is_open w.conns n)) other ∙ sym other
        ]

    opened_said : (number : ℕ) → is_open w.conns number ≡ false → Grown (greeting number (next_id (fresh number w).session.last_xid) ∷ []) (open_conn number w)
    opened_said number shut =
        let hello : Said = greeting number (next_id (fresh number w).session.last_xid) in
        ([], ap (λ (v : World). v.said) (opens_by number w shut) ∙ ap (λ (all : List Said). all ++ hello ∷ []) silent ∙ sym (append-nil (hello ∷ [])), tt)

    opened_counts : (number : ℕ) (b : Bool) → is_open w.conns number ≡ b
        → Counts (begins n (is_open w.conns n) (happenings.Opened number)) (if b then w else settle (open_conn number w)).said
    opened_counts number true at = subst (λ (anew : Bool). Counts anew w.said) (sym (kept_open number at)) (plainly w start)
    opened_counts number false shut =
        let xid : ℕ = next_id (fresh number w).session.last_xid in
        let grown = settled (greeting number xid ∷ []) (open_conn number w) (opened_said number shut) in
        subst (λ (anew : Bool). Counts anew (settle (open_conn number w)).said) (sym (newly_open number shut))
        (greeted number xid (settle (open_conn number w)).said (grown.0, grown.1, grown.2))

    work_counts : (h : Happening) → Counts (begins n (is_open w.conns n) h) (work h w).said
    work_counts (happenings.Opened number) = opened_counts number (is_open w.conns number) refl
    work_counts (happenings.Heard number piece) =
        elim (is_open w.conns number) as (λ b. Counts false (if b then hear number piece w else w).said) [
          | true ↦ plainly (hear number piece w) (heard_grown [] number piece w start)
          | false ↦ plainly w start
        ]
    work_counts (happenings.Closed number cause) =
        let v : World = ended (closing_for cause) number w in
        elim (is_open w.conns number) as (λ b. Counts false (if b then settle (ended (closing_for cause) number w) else w).said) [
          | true ↦ plainly (settle v) (settled [] v (add [] w.conns v.conns w.said (end_line number (closing_for cause) ∷ []) (tt, tt) start))
          | false ↦ plainly w start
        ]
    work_counts (happenings.Moment moment) = plainly (settle (pass moment w)) (settled [] (pass moment w) (pass_stays (Adds []) (single []) moment w start))
    work_counts (happenings.Reload text) =
        plainly (settle (reload (accepted text) w)) (settled [] (reload (accepted text) w) (reload_stays (Adds []) (single []) (accepted text) w start))

  -- ---- a story

  turn_counts : (h : Happening) (w : World) → Counts (begins n (is_open w.conns n) h) (turn h w).said
  turn_counts h w = work_counts (record w { said = [] }) refl h

  pub story_since : (before : List (Message × ℕ)) (w : World) (story : List Happening)
      → fold (said_more n) before (said_in w story) ≡ (fold (since_more n) (record { opened = is_open w.conns n; said = before }) (as_told w story)).said
  story_since before w [] = refl
  story_since before w (h ∷ hs) =
      let v : World = turn h w in
      let now : List (Message × ℕ) = (if begins n (is_open w.conns n) h then [] else before) ++ found v.said in
      fold-append (said_more n) before v.said (said_in v hs)
      ∙ ap (λ (t : List (Message × ℕ)). counted t (said_in v hs)) (turn_counts h w before)
      ∙ story_since now v hs
      ∙ ap (λ (b : Bool). (fold (since_more n) (record { opened = b; said = now }) (as_told v hs)).said) (sym (turn_open h w n))

-- ---- at each settling

module _ (past : List Said) (w : World) where
  -- what was said in this turn counts so, just before a settling and at its end
  abbrev Counting : Happening → Settling → Type 0
  Counting h s =
      (s.past ≡ past)
      × ((n : ℕ) → Counts n (begins n (is_open w.conns n) h) s.before.said × Counts n (begins n (is_open w.conns n) h) (known_behind s).said)

  abbrev Plain : Settling → Type 0
  Plain s = (s.past ≡ past) × ((n : ℕ) → Counts n false s.before.said × Counts n false (known_behind s).said)

  plain_one : (s : Settling) → Grew [] past s → Plain s
  plain_one s grew =
      let now = grew.1 in
      let behind = settled [] s.before now in
      (grew.0, λ n. (none_anew n s.before.said (now.0, now.1, now.2), none_anew n (known_behind s).said (behind.0, behind.1, behind.2)))

  all_plain : (ss : List Settling) → AllByRecursion (Grew [] past) ss → AllByRecursion Plain ss
  all_plain [] all = tt
  all_plain (s ∷ ss) all = (plain_one s all.0, all_plain ss all.1)

  module _ (silent : w.said ≡ []) where
    opened_counting : (number : ℕ) (b : Bool) → is_open w.conns number ≡ b → AllByRecursion (Counting (happenings.Opened number)) (if b then [] else record { past = past; before = open_conn number w } ∷ [])
    opened_counting number true at = tt
    opened_counting number false shut = ((refl, both), tt)
      where
        v : World
        v = open_conn number w

        xid : ℕ
        xid = next_id (fresh number w).session.last_xid

        both : (n : ℕ) → Counts n (begins n (is_open w.conns n) (happenings.Opened number)) v.said × Counts n (begins n (is_open w.conns n) (happenings.Opened number)) (settle v).said
        both n =
            let now = opened_said n w silent number shut in
            let behind = settled (greeting n number xid ∷ []) v now in
            subst (λ (anew : Bool). Counts n anew v.said × Counts n anew (settle v).said) (sym (newly_open n w silent number shut))
            (greeted n number xid v.said (now.0, now.1, now.2), greeted n number xid (settle v).said (behind.0, behind.1, behind.2))

    begun : Grown [] w
    begun = start 0 w silent

    work_counting : (h : Happening) → AllByRecursion (Counting h) (at_work past h w)
    work_counting (happenings.Opened number) = opened_counting number (is_open w.conns number) refl
    work_counting (happenings.Heard number piece) =
        elim (is_open w.conns number) as (λ b. AllByRecursion Plain (if b then at_piece past number (feed number piece w) else [])) [
          | true ↦ all_plain (at_piece past number (feed number piece w)) (piece_grew [] past number piece w begun)
          | false ↦ tt
        ]
    work_counting (happenings.Closed number cause) =
        let v : World = ended (closing_for cause) number w in
        elim (is_open w.conns number) as (λ b. AllByRecursion Plain (if b then record { past = past; before = ended (closing_for cause) number w } ∷ [] else [])) [
          | true ↦ (plain_one (record { past = past; before = v }) (refl, add [] w.conns v.conns w.said (end_line number (closing_for cause) ∷ []) (tt, tt) begun), tt)
          | false ↦ tt
        ]
    work_counting (happenings.Moment moment) =
        (plain_one (record { past = past; before = pass moment w }) (refl, pass_stays (Adds []) (single []) moment w begun), tt)
    work_counting (happenings.Reload text) =
        (plain_one (record { past = past; before = reload (accepted text) w }) (refl, reload_stays (Adds []) (single []) (accepted text) w begun), tt)

abbrev so_far : (n : ℕ) → List Told → Since
so_far n turns = fold (since_more n) (record { opened = false; said = [] }) turns

-- behind these turns both counts agree, and what is open is
abbrev Stands : (past : List Said) → List Told → World → Type 0
Stands past turns w = (n : ℕ) → (tables_said n past ≡ (so_far n turns).said) × (is_open w.conns n ≡ (so_far n turns).opened)

one_turn : (past : List Said) (turns : List Told) (w : World) → Stands past turns w → (h : Happening) (said : List Said) (n : ℕ) → Counts n (begins n (is_open w.conns n) h) said
    → tables_said n (past ++ said) ≡ tables_since n (turns ++ record { what = h; said = said } ∷ [])
one_turn past turns w stands h said n counts =
    let t : Told = record { what = h; said = said } in
    fold-append (said_more n) [] past said
    ∙ counts (tables_said n past)
    ∙ ap (λ (b : Bool). (if begins n b h then [] else tables_said n past) ++ found n said) (stands n).1
    ∙ ap (λ (l : List (Message × ℕ)). (if begins n (so_far n turns).opened h then [] else l) ++ found n said) (stands n).0
    ∙ sym (ap (λ (s : Since). s.said) (fold-append (since_more n) (record { opened = false; said = [] }) turns (t ∷ [])))

each_alike : (past : List Said) (turns : List Told) (w : World) → Stands past turns w → (h : Happening) (ss : List Settling) → AllByRecursion (Counting past w h) ss → AllByRecursion (CountsAlike turns h) ss
each_alike past turns w stands h [] all = tt
each_alike past turns w stands h (s ∷ ss) all = (λ n. (alike n s.before.said (all.0.1 n).0, alike n (known_behind s).said (all.0.1 n).1), each_alike past turns w stands h ss all.1)
  where
    alike : (n : ℕ) (said : List Said) → Counts n (begins n (is_open w.conns n) h) said → tables_said n (s.past ++ said) ≡ tables_since n (turns ++ record { what = h; said = said } ∷ [])
    alike n said counts =
        subst (λ (l : List Said). tables_said n (l ++ said) ≡ tables_since n (turns ++ record { what = h; said = said } ∷ [])) (sym all.0.0) (one_turn past turns w stands h said n counts)

pub story_alike : (past : List Said) (turns : List Told) (w : World) → Stands past turns w → (story : List Happening) → CountAlike past turns w story
story_alike past turns w stands [] = tt
story_alike past turns w stands (h ∷ hs) = (
  each_alike past turns w stands h (at_work past h (record w { said = [] })) (work_counting past (record w { said = [] }) refl h),
  story_alike (past ++ v.said) (turns ++ t ∷ []) v (λ n. (one_turn past turns w stands h v.said n (turn_counts n h w), opened n)) hs,
)
  where
    v : World
    v = turn h w

    t : Told
    t = record { what = h; said = v.said }

    opened : (n : ℕ) → is_open v.conns n ≡ (so_far n (turns ++ t ∷ [])).opened
    opened n =
        sym (turn_open h w n)
        ∙ ap (λ (b : Bool). open_more n b t) (stands n).1
        ∙ sym (ap (λ (s : Since). s.opened) (fold-append (since_more n) (record { opened = false; said = [] }) turns (t ∷ [])))
