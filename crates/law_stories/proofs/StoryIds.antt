-- Transaction ids count: on each open connection, those of what was said since it was opened.
use Rattle.std.proofs.Common.{◌≡◌, ℕ, ◌==◌, Bool, true, false, Option, Some, None, List, [], ◌∷◌, ◌++◌, inl, inr, refl, sym, ap, subst, ◌∙◌, append_assoc, eq-eqb, if◌then◌else◌}
use Rattle.std.specs.Prelude.{IfSome}
use Rattle.std.specs.List.{fold}
use Rattle.std.specs.Option.{option_map}
use Rattle.std.proofs.lemmas.Bool.{cases_Bool, eqb-true}
use Rattle.std.proofs.lemmas.List.{append-nil}
use Rattle.std.proofs.lemmas.List.Sums.{fold-append}
use Rattle.fg_outside.specs.declared.hub.Happening.{Happening}
use Rattle.conf_types.specs.Configuration.{Configuration}
use Rattle.of13_codec.specs.declared.message.Message.{Message}
use Rattle.of13_codec.specs.declared.message.Message.TheVariants as messages
use Rattle.switch_session.specs.declared.closing.Closing.{Closing}
use Rattle.switch_session.specs.Connections.{next_id}
use Rattle.ctl_world.specs.declared.conns.Conn.{Conn}
use Rattle.ctl_world.specs.declared.said.Said.{Said}
use Rattle.ctl_world.specs.declared.said.Said.TheVariants as told
use Rattle.ctl_world.specs.Connections.{change, conn_with, is_open, put, with_said, without}
use Rattle.ctl_world.specs.Ends.{end_line, ended}
use Rattle.ctl_world.specs.TablesSaid.{is_hello}
use Rattle.ctl_world.specs.World.{World, first}
use Rattle.ctl_life.specs.Life.{says, open_conn}
use Rattle.ctl_core.specs.Reloading.{accepted}
use Rattle.ctl_core.specs.Story.{behind}
use Rattle.law_stories.specs.Sayable.{CountUp, IdsCount, ids_more, ids_said, is_answer}
use Rattle.law_stories.specs.Settlings.{said_in}
use Rattle.ctl_world.proofs.Numbered.{apart, changed_other, changed_own, put_other, unlike, without_other, without_own}
use Rattle.ctl_life.proofs.Openings.{fresh, fresh_is, opens_by}
use Rattle.law_stories.proofs.Singly.{IsCounting, IsOwn, IsStill, Steps, feed_stays, heard_stays, pass_stays, read_stays, reload_stays, settle_stays}
use Rattle.law_stories.proofs.StoryTold.{Any}
use Rattle.law_stories.proofs.StoryWalks.{Walks, any_pieces, story_kept}

-- ---- ids

more_ids : (n : ℕ) (past said more : List Said) → ids_said n (past ++ (said ++ more)) ≡ fold (ids_more n) (ids_said n (past ++ said)) more
more_ids n past said more = ap (ids_said n) (sym (append_assoc past said more)) ∙ fold-append (ids_more n) [] (past ++ said) more

-- one more is the next
count_next : (before : ℕ) (ids : List ℕ) (last : ℕ) → CountUp before ids last → CountUp before (ids ++ next_id last ∷ []) (next_id last)
count_next before [] last counts = (ap next_id counts, refl)
count_next before (id ∷ ids) last counts = (counts.0, count_next id ids last counts.1)

own_more : (number : ℕ) (ids : List ℕ) (m : Message) (xid : ℕ) → IsOwn m → ids_more number ids (told.Message number m xid) ≡ ids ++ xid ∷ []
own_more number ids m xid own =
    ap (λ (b : Bool). if b then (if is_answer m then ids else if is_hello m then xid ∷ [] else ids ++ xid ∷ []) else ids) (eq-eqb number number refl)
    ∙ ap (λ (b : Bool). if b then ids else if is_hello m then xid ∷ [] else ids ++ xid ∷ []) own.answer
    ∙ ap (λ (b : Bool). if b then xid ∷ [] else ids ++ xid ∷ []) own.hello

hello_more : (number : ℕ) (ids : List ℕ) (xid : ℕ) → ids_more number ids (told.Message number (messages.Hello 4 (Some 16)) xid) ≡ xid ∷ []
hello_more number ids xid = ap (λ (b : Bool). if b then xid ∷ [] else ids) (eq-eqb number number refl)

other_more : (n : ℕ) (ids : List ℕ) (conn : ℕ) (m : Message) (xid : ℕ) → (n ≡ conn → ⊥) → ids_more n ids (told.Message conn m xid) ≡ ids
other_more n ids conn m xid differs =
    ap (λ (b : Bool). if b then (if is_answer m then ids else if is_hello m then xid ∷ [] else ids ++ xid ∷ []) else ids) (apart conn n (λ is. differs (sym is)))

answer_more : (n : ℕ) (ids : List ℕ) (conn : ℕ) (m : Message) (xid : ℕ) → is_answer m ≡ true → ids_more n ids (told.Message conn m xid) ≡ ids
answer_more n ids conn m xid answers =
    ap (λ (b : Bool). if conn == n then (if b then ids else if is_hello m then xid ∷ [] else ids ++ xid ∷ []) else ids) answers
    ∙ (elim (conn == n) as (λ (b : Bool). (if b then ids else ids) ≡ ids) [ true ↦ refl | false ↦ refl ])

-- ---- of one connection

abbrev Counts : (ids : List ℕ) → Option Conn → Type 0
Counts ids o = IfSome o (λ c. CountUp 0 ids c.session.last_xid)

module _ (f : Conn → Conn) (same : (c : Conn) → (f c).number ≡ c.number) (number : ℕ) (conns : List Conn) where
  changed_at : (n : ℕ) (ids : List ℕ) → (n ≡ number → (c : Conn) → conn_with conns number ≡ Some c → CountUp 0 ids (f c).session.last_xid)
      → ((n ≡ number → ⊥) → Counts ids (conn_with conns n)) → Counts ids (conn_with (change number f conns) n)
  changed_at n ids own others =
      elim (cases_Bool (n == number)) [
        | inl is ↦
            let it : n ≡ number = eqb-true n number is in
            subst (λ (k : ℕ). Counts ids (conn_with (change number f conns) k)) (sym it)
            (subst (Counts ids) (sym (changed_own f same number conns)) (mapped it (conn_with conns number) refl))
        | inr other ↦
            let differs : n ≡ number → ⊥ = unlike n number other in
            subst (Counts ids) (sym (changed_other f same number n differs conns)) (others differs)
      ]
    where
      mapped : n ≡ number → (o : Option Conn) → conn_with conns number ≡ o → Counts ids (option_map f o)
      mapped it None is = tt
      mapped it (Some c) is = own it c is

counts_of : (n number : ℕ) → n ≡ number → (ids : List ℕ) (c : Conn) (conns : List Conn) → conn_with conns number ≡ Some c → Counts ids (conn_with conns n) → CountUp 0 ids c.session.last_xid
counts_of n number it ids c conns is counts = subst (Counts ids) (ap (conn_with conns) it ∙ is) counts

-- ---- of all of them

module _ (past : List Said) where
  abbrev pub AreCounted : List Conn → List Said → Type 0
  AreCounted conns said = (n : ℕ) → Counts (ids_said n (past ++ said)) (conn_with conns n)

  changes : (f : Conn → Conn) → IsStill f → (number : ℕ) (conns : List Conn) (said : List Said) → AreCounted conns said → AreCounted (change number f conns) said
  changes f still number conns said counted n =
      let ids : List ℕ = ids_said n (past ++ said) in
      changed_at f still.number number conns n ids
      (λ it c is. subst (CountUp 0 ids) (sym (still.last c)) (counts_of n number it ids c conns is (counted n)))
      (λ differs. counted n)

  -- where this is said on one of them, and its ids count
  speaks : (f : Conn → Conn) → IsCounting f → (number : ℕ) (m : Message) (c : Conn) (conns : List Conn) (said : List Said) → conn_with conns number ≡ Some c
      → CountUp 0 (ids_more number (ids_said number (past ++ said)) (told.Message number m (next_id c.session.last_xid))) (next_id c.session.last_xid)
      → ((n : ℕ) → (n ≡ number → ⊥) → Counts (ids_said n (past ++ said)) (conn_with conns n))
      → AreCounted (change number f conns) (said ++ told.Message number m (next_id c.session.last_xid) ∷ [])
  speaks f counting number m c conns said some own others n =
      let xid : ℕ = next_id c.session.last_xid in
      let x : Said = told.Message number m xid in
      let ids : List ℕ = ids_said n (past ++ said) in
      subst (λ (all : List ℕ). Counts all (conn_with (change number f conns) n)) (sym (more_ids n past said (x ∷ [])))
      (changed_at f counting.number number conns n (ids_more n ids x)
      (λ it d is.
      let both : Some c ≡ Some d = sym some ∙ is in
      let same : c ≡ d = cc in
      subst (λ (k : ℕ). CountUp 0 (ids_more k (ids_said k (past ++ said)) x) (f d).session.last_xid) (sym it)
      (subst (CountUp 0 (ids_more number (ids_said number (past ++ said)) x)) (ap (λ (k : Conn). next_id k.session.last_xid) same ∙ sym (counting.last d)) own))
      (λ differs. subst (λ (all : List ℕ). Counts all (conn_with conns n)) (sym (other_more n ids number m xid differs)) (others n differs)))

  says_one : (f : Conn → Conn) → IsCounting f → (number : ℕ) (m : Message) → IsOwn m → (c : Conn) (conns : List Conn) (said : List Said) → conn_with conns number ≡ Some c → AreCounted conns said
      → AreCounted (change number f conns) (said ++ told.Message number m (next_id c.session.last_xid) ∷ [])
  says_one f counting number m own c conns said some counted =
      let last : ℕ = c.session.last_xid in
      let ids : List ℕ = ids_said number (past ++ said) in
      speaks f counting number m c conns said some
      (subst (λ (all : List ℕ). CountUp 0 all (next_id last)) (sym (own_more number ids m (next_id last) own))
      (count_next 0 ids last (counts_of number number refl ids c conns some (counted number))))
      (λ n differs. counted n)

  repeats : (number : ℕ) (m : Message) → is_answer m ≡ true → (xid : ℕ) (conns : List Conn) (said : List Said) → is_open conns number ≡ true → AreCounted conns said
      → AreCounted conns (said ++ told.Message number m xid ∷ [])
  repeats number m answers xid conns said at counted n =
      let x : Said = told.Message number m xid in
      subst (λ (all : List ℕ). Counts all (conn_with conns n)) (sym (more_ids n past said (x ∷ []) ∙ answer_more n (ids_said n (past ++ said)) number m xid answers)) (counted n)

  leaves : (number : ℕ) (conns : List Conn) (said : List Said) → AreCounted conns said → AreCounted (without number conns) said
  leaves number conns said counted n =
      let ids : List ℕ = ids_said n (past ++ said) in
      elim (cases_Bool (n == number)) [
        | inl is ↦ subst (Counts ids) (sym (ap (conn_with (without number conns)) (eqb-true n number is) ∙ without_own number conns)) tt
        | inr other ↦ subst (Counts ids) (sym (without_other number n (unlike n number other) conns)) (counted n)
      ]

  closes : (cause : Closing) (number : ℕ) (conns : List Conn) (said : List Said) → is_open conns number ≡ true → AreCounted conns said
      → AreCounted (without number conns) (said ++ told.Closing number cause ∷ end_line number cause ∷ [])
  closes cause number conns said at counted n =
      subst (λ (all : List ℕ). Counts all (conn_with (without number conns) n)) (sym (more_ids n past said (told.Closing number cause ∷ end_line number cause ∷ [])))
      (leaves number conns said counted n)

  tells : (text : List ℕ) (conns : List Conn) (said : List Said) → AreCounted conns said → AreCounted conns (said ++ told.Line text ∷ [])
  tells text conns said counted n = subst (λ (all : List ℕ). Counts all (conn_with conns n)) (sym (more_ids n past said (told.Line text ∷ []))) (counted n)

  single : Steps AreCounted
  single = record { changes = changes; says = says_one; repeats = repeats; closes = closes; tells = tells }

  abbrev pub IsCounted : World → Type 0
  IsCounted w = AreCounted w.conns w.said

  ends : (cause : Closing) (number : ℕ) (w : World) → IsCounted w → IsCounted (ended cause number w)
  ends cause number w counted n =
      subst (λ (all : List ℕ). Counts all (conn_with (without number w.conns) n)) (sym (more_ids n past w.said (end_line number cause ∷ []))) (leaves number w.conns w.said counted n)

  -- its ids begin anew
  opens : (number : ℕ) (w : World) → is_open w.conns number ≡ false → IsCounted w → IsCounted (open_conn number w)
  opens number w shut counted =
      let c : Conn = fresh number w in
      subst IsCounted (sym (opens_by number w shut))
      (speaks with_said (record { number = λ d. refl; last = λ d. refl }) number (messages.Hello 4 (Some 16)) c (put c w.conns) w.said (fresh_is number w shut)
      (subst (λ (all : List ℕ). CountUp 0 all (next_id 0)) (sym (hello_more number (ids_said number (past ++ w.said)) (next_id 0))) (refl, refl))
      (λ n differs. subst (Counts (ids_said n (past ++ w.said))) (sym (put_other c n differs w.conns)) (counted n)))

turned : (past : List Said) (w : World) → IsCounted past w → IsCounted (past ++ w.said) (record w { said = [] })
turned past w counted n = subst (λ (all : List Said). Counts (ids_said n all) (conn_with w.conns n)) (sym (append-nil (past ++ w.said))) (counted n)

walks : Walks Any IsCounted
walks = record {
  unsaid = turned;
  opens = opens;
  feeds = λ past number piece w such counted. feed_stays (AreCounted past) (single past) number piece w counted;
  reads = λ past number w counted. read_stays (AreCounted past) (single past) number w counted;
  hears = λ past frame number w is counted. heard_stays (AreCounted past) (single past) (says frame) number w (λ part. absurd (cc)) counted;
  fails = λ past number w is counted. heard_stays (AreCounted past) (single past) None number w (λ part. absurd (cc)) counted;
  ends = ends;
  passes = λ past moment w counted. pass_stays (AreCounted past) (single past) moment w counted;
  reloads = λ past text w counted. reload_stays (AreCounted past) (single past) (accepted text) w counted;
  settles = λ past w counted. settle_stays (AreCounted past) (single past) w counted;
}

pub story_ids : (conf : Configuration) (story : List Happening) → IdsCount (behind (first conf) story) (said_in (first conf) story)
story_ids conf story number c is =
    let w : World = behind (first conf) story in
    let all : List Said = said_in (first conf) story in
    let counted : IsCounted all (record w { said = [] }) = story_kept Any IsCounted walks [] (first conf) story (any_pieces story) (λ n. tt) in
    subst (λ (said : List Said). CountUp 0 (ids_said number said) c.session.last_xid) (append-nil all)
    (counts_of number number refl (ids_said number (all ++ [])) c w.conns is (counted number))
