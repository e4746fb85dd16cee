-- In a settling the neighbours that are due are asked, each by each running datapath of its group, and no other frame is sent.
use Rattle.std.proofs.Common.{◌≡◌, ℕ, zero, suc, Bool, true, false, is_some, Option, Some, None, List, [], ◌∷◌, ◌++◌, length, refl, sym, ap, ◌∙◌, subst, append_assoc, append-nil, true≢false, if◌then◌else◌}
use Rattle.std.specs.List.{flat_map}
use Rattle.std.specs.Option.{option_map, option_map_or}
use Rattle.net_base.specs.declared.numbers.DpId.{DpId}
use Rattle.of_match.specs.declared.entry.Command.{Command}
use Rattle.of_match.specs.declared.entry.Command.TheVariants.{Add, DeleteAll, DeleteStrict}
use Rattle.of_match.specs.declared.entry.Entry.{Entry}
use Rattle.conf_types.specs.declared.state.NeighRec.{NeighRec}
use Rattle.conf_types.specs.Configuration.{Configuration}
use Rattle.of13_codec.specs.declared.message.Message.{Message}
use Rattle.of13_codec.specs.declared.message.Message.TheVariants as messages
use Rattle.flow_messages.specs.Messages.{command_message}
use Rattle.plan_difference.specs.Difference.{difference}
use Rattle.neighbour_resolve.specs.declared.neighbour.Due.{Due}
use Rattle.neighbour_resolve.specs.declared.neighbour.Due.TheVariants.{Ask, Gone}
use Rattle.neighbour_resolve.specs.Asks.{AskOn, asks, in_order}
use Rattle.neighbour_resolve.specs.Due.{after_due, due_said}
use Rattle.neighbour_resolve.specs.Runs.{Settles}
use Rattle.neighbour_resolve.specs.Table.{Table}
use Rattle.ctl_world.specs.declared.conns.Conn.{Conn}
use Rattle.ctl_world.specs.Connections.{conn_of, conn_with, is_of, with_asked, with_said}
use Rattle.ctl_world.specs.Saying.{ask, packet_out, say, say_by}
use Rattle.ctl_world.specs.World.{World, running}
use Rattle.ctl_life.proofs.Openings.{found_open, open_is}
use Rattle.ctl_world.proofs.Numbered.{has_it}
use Rattle.ctl_core.specs.Settlings.{ask_all, ask_due, ask_each, ask_on, batch, batch_on, batches, say_batch, say_due, say_each, settle, take_due, wanted}
use Rattle.ctl_core.proofs.Walk.{either, with_any}
use Rattle.law_lives.proofs.Numbers.{dp_on}
use Rattle.law_lives.specs.Outs.{Out, ask_outs, due_outs, outs, outs_by, sends}
use Rattle.law_lives.proofs.Outs.{asked_outs, said_outs, sent_outs}

-- ---- batches send none

module _ (u : World) where
  abbrev Same : World → Type 0
  Same w = (outs w.said ≡ outs u.said) × (w.neighbours ≡ u.neighbours)

  said_neighbours : (number : ℕ) (m : Message) (w : World) → (say number m w).neighbours ≡ w.neighbours
  said_neighbours number m w = elim (conn_with w.conns number) as (λ o. (option_map_or (say_by with_said m w) o w).neighbours ≡ w.neighbours) [ Some c ↦ refl | None ↦ refl ]

  asked_neighbours : (number : ℕ) (m : Message) (w : World) → (ask number m w).neighbours ≡ w.neighbours
  asked_neighbours number m w = elim (conn_with w.conns number) as (λ o. (option_map_or (say_by with_asked m w) o w).neighbours ≡ w.neighbours) [ Some c ↦ refl | None ↦ refl ]

  command_none : (c : Command) (n : ℕ) → outs_by n (command_message c) ≡ []
  command_none (Add e) n = refl
  command_none (DeleteStrict key) n = refl
  command_none DeleteAll n = refl

  commands_same : (number : ℕ) (commands : List Command) (w : World) → Same w → Same (say_each number commands w)
  commands_same number [] w same = same
  commands_same number (c ∷ more) w same =
      commands_same number more (say number (command_message c) w)
      (said_outs number (command_message c) w (command_none c) ∙ same.0, said_neighbours number (command_message c) w ∙ same.1)

  one_same : (number : ℕ) (commands : List Command) (entries : List Entry) (w : World) → Same w → Same (say_batch number commands entries w)
  one_same number [] entries w same = same
  one_same number (c ∷ more) entries w same =
      let all : World = say_each number (c ∷ more) w in
      let said : Same all = commands_same number (c ∷ more) w same in
      (asked_outs number messages.BarrierRequest all (λ n. refl) ∙ said.0, asked_neighbours number messages.BarrierRequest all ∙ said.1)

  batch_same : (dp : DpId) (w : World) → Same w → Same (batch dp w)
  batch_same dp w same =
      with_any Same (batch_on dp w) (conn_of w.conns dp) w
      (λ c. either Same (is_some c.session.state.awaited) w (say_batch c.number (difference c.sent (wanted w dp)) (wanted w dp) w) same
      (one_same c.number (difference c.sent (wanted w dp)) (wanted w dp) w same)) same

  pub batches_same : (dps : List DpId) (w : World) → Same w → Same (batches dps w)
  batches_same [] w same = same
  batches_same (dp ∷ dps) w same = batches_same dps (batch dp w) (batch_same dp w same)

-- ---- asks

abbrev number_of : Option Conn → Option ℕ
number_of o = option_map (λ (c : Conn). c.number) o

by_number : (f : ℕ → List Out) (o p : Option Conn) → number_of o ≡ number_of p → option_map_or (λ (c : Conn). f c.number) o [] ≡ option_map_or (λ (c : Conn). f c.number) p []
by_number f None None is = refl
by_number f None (Some d) is = absurd (let e : None ≡ Some d.number = is in cc)
by_number f (Some c) None is = absurd (let e : Some c.number ≡ None = is in cc)
by_number f (Some c) (Some d) is =
    let e : Some c.number ≡ Some d.number = is in
    let same : c.number ≡ d.number = cc in
    ap f same

module _ (run : (number : ℕ) (m : Message) (w : World) → running (say number m w) ≡ running w) (w : World) where
  -- what asks go by
  record Alike (v : World) : Type 0 where
    conf : v.conf ≡ w.conf
    moment : v.moment ≡ w.moment
    runs : running v ≡ running w
    on : (id : DpId) → number_of (conn_of v.conns id) ≡ number_of (conn_of w.conns id)

  said_alike : (number : ℕ) (m : Message) (v : World) → Alike v → Alike (say number m v)
  said_alike number m v alike = record {
    conf = kept (conn_with v.conns number) (λ (u : World). u.conf ≡ w.conf) alike.conf (λ c. alike.conf);
    moment = kept (conn_with v.conns number) (λ (u : World). u.moment ≡ w.moment) alike.moment (λ c. alike.moment);
    runs = run number m v ∙ alike.runs;
    on = λ id. kept (conn_with v.conns number) (λ (u : World). number_of (conn_of u.conns id) ≡ number_of (conn_of w.conns id)) (alike.on id)
        (λ c. dp_on with_said (λ k. refl) (λ k. refl) c.number v.conns id ∙ alike.on id);
  }
    where
      kept : (o : Option Conn) (P : World → Type 0) → P v → ((c : Conn) → P (say_by with_said m v c)) → P (option_map_or (say_by with_said m v) o v)
      kept None P none some = none
      kept (Some c) P none some = some c

  outs_alike : (v : World) (a : AskOn) → Alike v → ask_outs v a ≡ ask_outs w a
  outs_alike v a alike = by_number (λ n. sends n a.out ∷ []) (conn_of v.conns a.dp) (conn_of w.conns a.dp) (alike.on a.dp)

  -- one ask is one frame on the connection of its datapath
  one_ask : (a : AskOn) (v : World) → outs (ask_on a v).said ≡ outs v.said ++ ask_outs v a
  one_ask a v = by (conn_of v.conns a.dp) refl
    where
      by : (o : Option Conn) → conn_of v.conns a.dp ≡ o → outs (option_map_or (λ (c : Conn). say c.number (packet_out a.out) v) o v).said ≡ outs v.said ++ option_map_or (λ (c : Conn). sends c.number a.out ∷ []) o []
      by None is = sym (append-nil (outs v.said))
      by (Some c) is = found (conn_with v.conns c.number) refl (sym (open_is v.conns c.number) ∙ found_open (is_of a.dp) v.conns c is)
        where
          found : (p : Option Conn) → conn_with v.conns c.number ≡ p → is_some (conn_with v.conns c.number) ≡ true → outs (say c.number (packet_out a.out) v).said ≡ outs v.said ++ sends c.number a.out ∷ []
          found None at there = absurd (true≢false (sym there ∙ ap (λ (o : Option Conn). is_some o) at))
          found (Some d) at there = sent_outs c.number a.out v d at (has_it c.number v.conns d at)

  on_alike : (a : AskOn) (v : World) → Alike v → Alike (ask_on a v)
  on_alike a v alike = with_any Alike (λ (c : Conn). say c.number (packet_out a.out) v) (conn_of v.conns a.dp) v (λ c. said_alike c.number (packet_out a.out) v alike) alike

  record Asked (v : World) (more : List Out) (u : World) : Type 0 where
    alike : Alike u
    outs : outs u.said ≡ outs v.said ++ more
    neighbours : u.neighbours ≡ v.neighbours

  on_neighbours : (a : AskOn) (v : World) → (ask_on a v).neighbours ≡ v.neighbours
  on_neighbours a v = with_any (λ (u : World). u.neighbours ≡ v.neighbours) (λ (c : Conn). say c.number (packet_out a.out) v) (conn_of v.conns a.dp) v (λ c. said_neighbours v c.number (packet_out a.out) v) refl

  each_asked : (asked : List AskOn) (v : World) → Alike v → Asked v (flat_map (ask_outs w) asked) (ask_each asked v)
  each_asked [] v alike = record { alike = alike; outs = sym (append-nil (outs v.said)); neighbours = refl }
  each_asked (a ∷ more) v alike =
      let rest = each_asked more (ask_on a v) (on_alike a v alike) in
      record {
        alike = rest.alike;
        outs =
            rest.outs ∙ ap (λ (first : List Out). first ++ flat_map (ask_outs w) more) (one_ask a v ∙ ap (λ (one : List Out). outs v.said ++ one) (outs_alike v a alike))
            ∙ append_assoc (outs v.said) (ask_outs w a) (flat_map (ask_outs w) more);
        neighbours = rest.neighbours ∙ on_neighbours a v;
      }

  due_asked : (due : Due) (v : World) → Alike v → Asked v (due_outs w due) (say_due due v)
  due_asked (Ask group vid ip) v alike =
      let same : asks v.conf (running v) group vid ip ≡ asks w.conf (running w) group vid ip = λ i. asks (alike.conf i) (alike.runs i) group vid ip in
      subst (λ (asked : List AskOn). Asked v (flat_map (ask_outs w) (asks w.conf (running w) group vid ip)) (ask_each asked v)) (sym same) (each_asked (asks w.conf (running w) group vid ip) v alike)
  due_asked (Gone group vid ip) v alike = record { alike = alike; outs = sym (append-nil (outs v.said)); neighbours = refl }

  taken_alike : (v : World) → Alike v → Alike (take_due v)
  taken_alike v alike = record { conf = alike.conf; moment = alike.moment; runs = alike.runs; on = alike.on }

  -- ---- all that are due

  abbrev Settled : World → World → Type 0
  Settled v u = (due : List Due) × Settles w.conf w.moment.0 v.neighbours.neighbours due u.neighbours.neighbours × (outs u.said ≡ outs v.said ++ flat_map (due_outs w) due)

  all_asked : (most : ℕ) (v : World) → Alike v → due_said w.conf w.moment.0 (ask_due most v).neighbours.neighbours ≡ None → Settled v (ask_due most v)
  all_asked zero v alike none = ([], (none, refl), sym (append-nil (outs v.said)))
  all_asked (suc most) v alike none = by (all_asked most) (due_said v.conf v.moment.0 v.neighbours.neighbours) refl none
    where
      here : due_said v.conf v.moment.0 v.neighbours.neighbours ≡ due_said w.conf w.moment.0 v.neighbours.neighbours
      here i = due_said (alike.conf i) (alike.moment i).0 v.neighbours.neighbours

      by : ((u : World) → Alike u → due_said w.conf w.moment.0 (ask_due most u).neighbours.neighbours ≡ None → Settled u (ask_due most u)) → (o : Option Due) → due_said v.conf v.moment.0 v.neighbours.neighbours ≡ o
          → due_said w.conf w.moment.0 (option_map_or (λ due. ask_due most (say_due due (take_due v))) o v).neighbours.neighbours ≡ None
          → Settled v (option_map_or (λ due. ask_due most (say_due due (take_due v))) o v)
      by more None is left = ([], (left, refl), sym (append-nil (outs v.said)))
      by more (Some due) is left =
          let said = due_asked due (take_due v) (taken_alike v alike) in
          let rest = more (say_due due (take_due v)) said.alike left in
          let after : (say_due due (take_due v)).neighbours.neighbours ≡ after_due w.conf w.moment.0 v.neighbours.neighbours =
          ap (λ (t : Table). t.neighbours) said.neighbours ∙ (λ i. after_due (alike.conf i) (alike.moment i).0 v.neighbours.neighbours) in (
            due ∷ rest.0,
            (sym here ∙ is, subst (λ (ns : List NeighRec). Settles w.conf w.moment.0 ns rest.0 (ask_due most (say_due due (take_due v))).neighbours.neighbours) after rest.1),
            rest.2 ∙ ap (λ (first : List Out). first ++ flat_map (due_outs w) rest.0) said.outs ∙ append_assoc (outs v.said) (due_outs w due) (flat_map (due_outs w) rest.0),
          )

  pub settle_asks : due_said w.conf w.moment.0 (settle w).neighbours.neighbours ≡ None → Settled w (settle w)
  settle_asks none =
      let u : World = ask_all w in
      let batched : Same u (settle w) = batches_same u (in_order (running u)) u (refl, refl) in
      let left : (settle w).neighbours.neighbours ≡ u.neighbours.neighbours = ap (λ (t : Table). t.neighbours) batched.1 in
      let asked : Settled w u =
      all_asked (length w.neighbours.neighbours) w (record { conf = refl; moment = refl; runs = refl; on = λ id. refl }) (ap (due_said w.conf w.moment.0) (sym left) ∙ none) in
      (asked.0, subst (λ (ns : List NeighRec). Settles w.conf w.moment.0 w.neighbours.neighbours asked.0 ns) (sym left) asked.1, batched.0 ∙ asked.2)
