-- What a batch leaves of what is known of each connection by what was said of the tables on it.
use Rattle.std.proofs.Common.{◌≡◌, ℕ, Bool, true, false, Option, Some, None, List, [], ◌∷◌, ◌++◌, map, is_some, refl, sym, ap, subst, ◌∙◌, append_assoc, eq-eqb, if◌then◌else◌}
use Rattle.std.specs.Prelude.{IfSome}
use Rattle.std.specs.Option.{option_map_or}
use Rattle.std.proofs.lemmas.List.{append-nil, map-append}
use Rattle.net_base.specs.declared.numbers.DpId.{DpId}
use Rattle.of_match.specs.declared.entry.Command.{Command}
use Rattle.of_match.specs.declared.entry.Command.TheVariants.{Add, DeleteAll, DeleteStrict}
use Rattle.of_match.specs.declared.entry.Entry.{Entry}
use Rattle.of13_codec.specs.declared.message.Message.{Message}
use Rattle.of13_codec.specs.declared.message.Message.TheVariants as messages
use Rattle.plan_difference.specs.Difference.{difference}
use Rattle.flow_messages.specs.Messages.{command_message}
use Rattle.switch_session.specs.declared.state.Stage.{Stage}
use Rattle.switch_session.specs.Connections.{next_id}
use Rattle.ctl_world.specs.declared.conns.Conn.{Conn}
use Rattle.ctl_world.specs.declared.said.Said.{Said}
use Rattle.ctl_world.specs.declared.said.Said.TheVariants as told
use Rattle.ctl_world.specs.Connections.{conn_of, conn_with, with_sent}
use Rattle.ctl_world.specs.Saying.{ask, say}
use Rattle.ctl_world.specs.TablesSaid.{said_more, tables_said}
use Rattle.ctl_world.specs.World.{World}
use Rattle.ctl_core.specs.Settlings.{batch, batch_on, say_batch, say_each, wanted}
use Rattle.ctl_core.proofs.Settlings.{AreByNumber}
use Rattle.law_stories.proofs.Fits.{EndsIn, Told}
use Rattle.ctl_core.proofs.Numbered.{of_with}
use Rattle.law_stories.proofs.Ways.{At, Holds, OnConn, Way, ask_to, changed_to, say_to}

abbrev pub messages_of : Told → List Message
messages_of t = map (λ (m : Message × ℕ). m.0) t

-- these messages are those of the commands, with a barrier behind
abbrev pub AreOf : List Command → Told → Type 0
AreOf commands more = messages_of more ≡ map command_message commands ++ messages.BarrierRequest ∷ []

command_more : (number : ℕ) (t : Told) (c : Command) (xid : ℕ) → said_more number t (told.Message number (command_message c) xid) ≡ t ++ (command_message c, xid) ∷ []
command_more number t (Add e) xid = ap (λ (b : Bool). if b then t ++ (command_message (Add e), xid) ∷ [] else t) (eq-eqb number number refl)
command_more number t (DeleteStrict key) xid = ap (λ (b : Bool). if b then t ++ (command_message (DeleteStrict key), xid) ∷ [] else t) (eq-eqb number number refl)
command_more number t DeleteAll xid = ap (λ (b : Bool). if b then t ++ (command_message DeleteAll, xid) ∷ [] else t) (eq-eqb number number refl)

barrier_more : (number : ℕ) (t : Told) (xid : ℕ) → said_more number t (told.Message number messages.BarrierRequest xid) ≡ t ++ (messages.BarrierRequest, xid) ∷ []
barrier_more number t xid = ap (λ (b : Bool). if b then t ++ (messages.BarrierRequest, xid) ∷ [] else t) (eq-eqb number number refl)

module _ (P : Way) (past : List Said) (number : ℕ) (c : Conn) (before : Told) where
  -- so many commands were said
  record IsSaying (done : List Command) (stage : Stage) (t : Told) : Type 0 where
    stands : stage ≡ c.session.state.stage
    more : Told
    is : t ≡ before ++ more
    said : messages_of more ≡ map command_message done

  -- and the barrier
  record IsAsked (commands : List Command) (stage : Stage) (awaited : Option ℕ) (t : Told) : Type 0 where
    stands : stage ≡ c.session.state.stage
    xid : ℕ
    awaits : awaited ≡ Some xid
    more : Told
    is : t ≡ before ++ more
    said : AreOf commands more
    ends : EndsIn t xid

  abbrev Saying : List Command → Way
  Saying done = At (λ stage awaited sent t. IsSaying done stage t) number P

  abbrev Asked : List Command → Way
  Asked commands = At (λ stage awaited sent t. IsAsked commands stage awaited t) number P

  begun : (w : World) → conn_with w.conns number ≡ Some c → tables_said number (past ++ w.said) ≡ before → Holds P past w.conns w.said → Holds (Saying []) past w.conns w.said
  begun w some told_before holds n = by (conn_with w.conns n) refl (holds n)
    where
      by : (o : Option Conn) → conn_with w.conns n ≡ o → IfSome o (λ d. OnConn P n d (tables_said n (past ++ w.said))) → IfSome o (λ d. OnConn (Saying []) n d (tables_said n (past ++ w.said)))
      by None is h = h
      by (Some d) is h = (
        λ own. let e : Some c ≡ Some d = sym some ∙ (ap (conn_with w.conns) (sym own) ∙ is) in let same : c ≡ d = cc in record {
          stands = ap (λ (k : Conn). k.session.state.stage) (sym same);
          more = [];
          is = ap (λ (k : ℕ). tables_said k (past ++ w.said)) own ∙ told_before ∙ sym (append-nil before);
          said = refl;
        },
        λ off. h,
      )

  one_more : (done : List Command) (m : Command) (w : World) → Holds (Saying done) past w.conns w.said
      → Holds (Saying (done ++ m ∷ [])) past (say number (command_message m) w).conns (say number (command_message m) w).said
  one_more done m w holds =
      say_to (Saying done) (Saying (done ++ m ∷ [])) past number (command_message m) w
      (λ d is h. let it = h.0 refl in let xid : ℕ = next_id d.session.last_xid in let t : Told = tables_said number (past ++ w.said) in (
        λ own. record {
          stands = it.stands;
          more = it.more ++ (command_message m, xid) ∷ [];
          is = command_more number t m xid ∙ ap (λ (s : Told). s ++ (command_message m, xid) ∷ []) it.is ∙ append_assoc before it.more ((command_message m, xid) ∷ []);
          said = map-append (λ (x : Message × ℕ). x.0) it.more ((command_message m, xid) ∷ []) ∙ ap (λ (s : List Message). s ++ command_message m ∷ []) it.said
              ∙ sym (map-append command_message done (m ∷ []));
        },
        λ differs. absurd (differs refl),
      ))
      (λ n d differs h. (λ own. absurd (differs own), h.1))
      holds

  each_more : (done more : List Command) (w : World) → Holds (Saying done) past w.conns w.said → Holds (Saying (done ++ more)) past (say_each number more w).conns (say_each number more w).said
  each_more done [] w holds = subst (λ (cs : List Command). Holds (Saying cs) past w.conns w.said) (sym (append-nil done)) holds
  each_more done (m ∷ more) w holds =
      let v : World = say number (command_message m) w in
      subst (λ (cs : List Command). Holds (Saying cs) past (say_each number more v).conns (say_each number more v).said) (append_assoc done (m ∷ []) more)
      (each_more (done ++ m ∷ []) more v (one_more done m w holds))

  barrier_to : (commands : List Command) (w : World) → Holds (Saying commands) past w.conns w.said
      → Holds (Asked commands) past (ask number messages.BarrierRequest w).conns (ask number messages.BarrierRequest w).said
  barrier_to commands w holds =
      ask_to (Saying commands) (Asked commands) past number messages.BarrierRequest w
      (λ d is h. let it = h.0 refl in let xid : ℕ = next_id d.session.last_xid in let t : Told = tables_said number (past ++ w.said) in
      let last : Told = (messages.BarrierRequest, xid) ∷ [] in (
        λ own. record {
          stands = it.stands;
          xid = xid;
          awaits = refl;
          more = it.more ++ last;
          is = barrier_more number t xid ∙ ap (λ (s : Told). s ++ last) it.is ∙ append_assoc before it.more last;
          said = map-append (λ (x : Message × ℕ). x.0) it.more last ∙ ap (λ (s : List Message). s ++ messages.BarrierRequest ∷ []) it.said;
          ends = (t, barrier_more number t xid);
        },
        λ differs. absurd (differs refl),
      ))
      (λ n d differs h. (λ own. absurd (differs own), h.1))
      holds

  -- what holds of the connection once the batch, which isn't empty, is said and noted
  abbrev pub Leaves : List Command → List Entry → Type 0
  Leaves commands entries =
      (xid : ℕ) (more : Told) → (commands ≡ [] → ⊥) → AreOf commands more → EndsIn (before ++ more) xid → P number c.session.state.stage (Some xid) entries (before ++ more)

  pub said_batch_to : (commands : List Command) (entries : List Entry) (w : World) → conn_with w.conns number ≡ Some c → tables_said number (past ++ w.said) ≡ before → Leaves commands entries
      → Holds P past w.conns w.said → Holds P past (say_batch number commands entries w).conns (say_batch number commands entries w).said
  said_batch_to [] entries w some told_before own holds = holds
  said_batch_to (m ∷ more) entries w some told_before own holds =
      let v1 : World = say_each number (m ∷ more) w in
      let v2 : World = ask number messages.BarrierRequest v1 in
      changed_to (Asked (m ∷ more)) P past v2.said v2.said (with_sent entries) (λ d. refl) number v2.conns
      (λ d is h. let it = h.0 refl in let t : Told = tables_said number (past ++ v2.said) in
      subst (λ (s : Stage). P number s d.session.state.awaited entries t) (sym it.stands)
      (subst (λ (a : Option ℕ). P number c.session.state.stage a entries t) (sym it.awaits)
      (subst (P number c.session.state.stage (Some it.xid) entries) (sym it.is)
      (own it.xid it.more (λ none. absurd (cc)) it.said (subst (λ (s : Told). EndsIn s it.xid) it.is it.ends)))))
      (λ n d differs h. h.1 differs)
      (barrier_to (m ∷ more) v1 (each_more [] (m ∷ more) w (begun w some told_before holds)))

module _ (P : Way) (past : List Said) where
  pub batch_to : (dp : DpId) (w : World) → AreByNumber w.conns
      → ((c : Conn) → conn_of w.conns dp ≡ Some c → is_some c.session.state.awaited ≡ false → OnConn P c.number c (tables_said c.number (past ++ w.said))
      → Leaves P past c.number c (tables_said c.number (past ++ w.said)) (difference c.sent (wanted w dp)) (wanted w dp))
      → Holds P past w.conns w.said → Holds P past (batch dp w).conns (batch dp w).said
  batch_to dp w ordered own holds = by (conn_of w.conns dp) refl
    where
      on : (c : Conn) → conn_of w.conns dp ≡ Some c → (b : Bool) → is_some c.session.state.awaited ≡ b
          → Holds P past (if b then w else say_batch c.number (difference c.sent (wanted w dp)) (wanted w dp) w).conns (if b then w else say_batch c.number (difference c.sent (wanted w dp)) (wanted w dp) w).said
      on c is true waits = holds
      on c is false waits =
          let some : conn_with w.conns c.number ≡ Some c = of_with w.conns dp c ordered is in
          let t : Told = tables_said c.number (past ++ w.said) in
          let it : OnConn P c.number c t = subst (λ o. IfSome o (λ d. OnConn P c.number d t)) some (holds c.number) in
          said_batch_to P past c.number c t (difference c.sent (wanted w dp)) (wanted w dp) w some refl (own c is waits it) holds

      by : (o : Option Conn) → conn_of w.conns dp ≡ o → Holds P past (option_map_or (batch_on dp w) o w).conns (option_map_or (batch_on dp w) o w).said
      by None is = holds
      by (Some c) is = on c is (is_some c.session.state.awaited) refl
