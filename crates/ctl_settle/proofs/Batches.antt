-- What is said in a batch changes one connection.
use Rattle.std.proofs.Common.{◌≡◌, ℕ, ◌<◌, ◌==◌, ◌++◌, true, false, cond, Option, Some, None, List, [], ◌∷◌, map, filter, is_some, refl, inl, inr, sym, ap, subst, ◌∙◌, arith, if◌then◌else◌}
use Rattle.std.specs.Prelude.{◌⊎◌}
use Rattle.std.specs.List.{AllByRecursion}
use Rattle.std.specs.Option.{option_map_or}
use Rattle.std.proofs.lemmas.Bool.{cases_Bool}
use Rattle.std.proofs.lemmas.Bool.Decides.{nat_tests}
use Rattle.net_base.specs.declared.numbers.DpId.{DpId}
use Rattle.of_match.specs.declared.entry.Command.{Command}
use Rattle.of_match.specs.declared.entry.Entry.{Entry}
use Rattle.of_match.specs.FlowTables.{IsInKeyOrder}
use Rattle.of13_codec.specs.declared.message.Message.{Message}
use Rattle.of13_codec.specs.declared.message.Message.TheVariants as messages
use Rattle.conf_types.specs.declared.datapath.Dp.{Dp}
use Rattle.conf_types.specs.Lists.{EachBefore}
use Rattle.conf_types.specs.State.{State}
use Rattle.cold_start.specs.Cold.{cold_at}
use Rattle.flow_messages.specs.Messages.{command_message}
use Rattle.switch_session.specs.Connections.{next_id}
use Rattle.ctl_world.specs.declared.conns.Conn.{Conn}
use Rattle.ctl_world.specs.declared.said.Said.TheVariants as said
use Rattle.ctl_world.specs.Connections.{change, conn_of, conn_with, has_number, is_of, with_asked, with_said, with_sent}
use Rattle.ctl_world.specs.Saying.{ask, say, say_by}
use Rattle.ctl_world.specs.World.{World, has_ports, is_at_work, is_up_by, now, runs, ups_by, ups_on}
use Rattle.ctl_world.proofs.Places.{unchanged}
use Rattle.ctl_world.proofs.SoundChanges.{now_with_conns}
use Rattle.ctl_settle.specs.Settling.{note_sent, say_batch, say_each, wanted}

-- ---- a change that keeps what a connection is and how far it is

pub record IsQuiet (f : Conn → Conn) : Type 0 where
  pub number : (c : Conn) → (f c).number ≡ c.number
  pub dp : (c : Conn) → (f c).dp ≡ c.dp
  pub stage : (c : Conn) → (f c).session.state.stage ≡ c.session.state.stage
  pub ports : (c : Conn) → (f c).session.state.ports ≡ c.session.state.ports

module _ (f : Conn → Conn) (quiet : IsQuiet f) where
  seen : {A : Type 0} (g : Conn → A) → ((c : Conn) → g (f c) ≡ g c) → (number : ℕ) (conns : List Conn) (id : DpId) (none : A)
      → option_map_or g (conn_of (change number f conns) id) none ≡ option_map_or g (conn_of conns id) none
  seen g same number [] id none = refl
  seen g same number (c ∷ cs) id none =
      elim (has_number number c) as (λ b. option_map_or g (conn_of (if b then f c ∷ cs else c ∷ change number f cs) id) none ≡ option_map_or g (conn_of (c ∷ cs) id) none) [
        | true ↦ ap (λ o. option_map_or g (cond (option_map_or (λ (d : DpId). d.0 == id.0) o false) (Some (f c)) (conn_of cs id)) none) (quiet.dp c)
            ∙ elim (is_of id c) as (λ b. option_map_or g (cond b (Some (f c)) (conn_of cs id)) none ≡ option_map_or g (cond b (Some c) (conn_of cs id)) none) [ true ↦ same c | false ↦ refl ]
        | false ↦ elim (is_of id c) as (λ b. option_map_or g (cond b (Some c) (conn_of (change number f cs) id)) none ≡ option_map_or g (cond b (Some c) (conn_of cs id)) none) [
          | true ↦ refl
          | false ↦ seen g same number cs id none
        ]
      ]

  now_kept : (number : ℕ) (w : World) → now (record w { conns = change number f w.conns }) ≡ now w
  now_kept number w =
      let work : (d : Dp) → is_at_work (change number f w.conns) d ≡ is_at_work w.conns d =
      λ d. seen (λ c. runs c.session.state.stage) (λ c. ap runs (quiet.stage c)) number w.conns d.id false in
      let by : (d : Dp) (c : Conn) → ups_by d (f c) ≡ ups_by d c =
      λ d c i. if has_ports (quiet.stage c i) then map (λ p. record { dp = d.id; port = p.no }) (filter (is_up_by (quiet.ports c i)) d.ports) else [] in
      let up : (d : Dp) → ups_on (change number f w.conns) d ≡ ups_on w.conns d = λ d. seen (ups_by d) (by d) number w.conns d.id [] in
      now_with_conns (change number f w.conns) w work up

  -- ---- what is found behind it

  none_kept : (number : ℕ) (conns : List Conn) (dp : DpId) → conn_of conns dp ≡ None → conn_of (change number f conns) dp ≡ None
  none_kept number [] dp none = refl
  none_kept number (x ∷ xs) dp none =
      elim (cases_Bool (is_of dp x)) [
        | inl here ↦ let e = rw here at none in absurd (cc)
        | inr other ↦
            let rest : conn_of xs dp ≡ None = rw other at none in
            let passed : is_of dp (f x) ≡ false = ap (λ o. option_map_or (λ (d : DpId). d.0 == dp.0) o false) (quiet.dp x) ∙ other in
            elim (has_number number x) as (λ b. conn_of (if b then f x ∷ xs else x ∷ change number f xs) dp ≡ None) [
              | true ↦ ap (λ b. cond b (Some (f x)) (conn_of xs dp)) passed ∙ rest
              | false ↦ ap (λ b. cond b (Some x) (conn_of (change number f xs) dp)) other ∙ none_kept number xs dp rest
            ]
      ]

  others_kept : (number : ℕ) (conns : List Conn) (dp : DpId) (c : Conn) → conn_of conns dp ≡ Some c → (c.number ≡ number → ⊥) → conn_of (change number f conns) dp ≡ Some c
  others_kept number [] dp c some differs = absurd (cc)
  others_kept number (x ∷ xs) dp c some differs =
      elim (cases_Bool (is_of dp x)) [
        | inl here ↦
            let e : Some x ≡ Some c = rw here at some in
            let same : x ≡ c = cc in
            let apart : has_number number x ≡ false = let n : x.number ≡ c.number = ap (λ (d : Conn). d.number) same in let no : x.number ≡ number → ⊥ = λ is. differs (sym n ∙ is) in grind (arith, nat_tests) in
            ap (λ b. conn_of (if b then f x ∷ xs else x ∷ change number f xs) dp) apart ∙ ap (λ b. cond b (Some x) (conn_of (change number f xs) dp)) here ∙ e
        | inr other ↦
            let rest : conn_of xs dp ≡ Some c = rw other at some in
            let passed : is_of dp (f x) ≡ false = ap (λ o. option_map_or (λ (d : DpId). d.0 == dp.0) o false) (quiet.dp x) ∙ other in
            elim (has_number number x) as (λ b. conn_of (if b then f x ∷ xs else x ∷ change number f xs) dp ≡ Some c) [
              | true ↦ ap (λ b. cond b (Some (f x)) (conn_of xs dp)) passed ∙ rest
              | false ↦ ap (λ b. cond b (Some x) (conn_of (change number f xs) dp)) other ∙ others_kept number xs dp c rest differs
            ]
      ]

pub found_all : (P : Conn → Type 0) (conns : List Conn) (dp : DpId) (c : Conn) → AllByRecursion P conns → conn_of conns dp ≡ Some c → P c
found_all P [] dp c all some = absurd (cc)
found_all P (x ∷ xs) dp c all some =
    elim (cases_Bool (is_of dp x)) [
      | inl here ↦ let e : Some x ≡ Some c = rw here at some in let same : x ≡ c = cc in rw (← same) all.0
      | inr other ↦ found_all P xs dp c all.1 (rw other at some)
    ]

abbrev pub AreByNumber : List Conn → Type 0
AreByNumber = EachBefore (λ (a b : Conn). a.number < b.number)

abbrev pub AreInKeyOrder : List Conn → Type 0
AreInKeyOrder = AllByRecursion (λ (c : Conn). IsInKeyOrder c.sent)

module _ (f : Conn → Conn) (quiet : IsQuiet f) where
  own_changed : (conns : List Conn) (dp : DpId) (c : Conn) (number : ℕ) → AreByNumber conns → conn_of conns dp ≡ Some c → c.number ≡ number → conn_of (change number f conns) dp ≡ Some (f c)
  own_changed [] dp c number ordered some own = absurd (cc)
  own_changed (x ∷ xs) dp c number ordered some own =
      elim (cases_Bool (is_of dp x)) [
        | inl here ↦
            let e : Some x ≡ Some c = rw here at some in
            let same : x ≡ c = cc in
            let it : has_number number x ≡ true = let n : x.number ≡ number = ap (λ (d : Conn). d.number) same ∙ own in grind (arith, nat_tests) in
            let stays : is_of dp (f x) ≡ true = ap (λ o. option_map_or (λ (d : DpId). d.0 == dp.0) o false) (quiet.dp x) ∙ here in
            ap (λ b. conn_of (if b then f x ∷ xs else x ∷ change number f xs) dp) it ∙ ap (λ b. cond b (Some (f x)) (conn_of xs dp)) stays ∙ ap (λ d. Some (f d)) same
        | inr other ↦
            let rest : conn_of xs dp ≡ Some c = rw other at some in
            let less : x.number < c.number = found_all (λ d. x.number < d.number) xs dp c ordered.0 rest in
            let apart : has_number number x ≡ false = grind (arith, nat_tests) in
            ap (λ b. conn_of (if b then f x ∷ xs else x ∷ change number f xs) dp) apart ∙ ap (λ b. cond b (Some x) (conn_of (change number f xs) dp)) other
            ∙ own_changed xs dp c number ordered.1 rest own
      ]

  above_kept : (n number : ℕ) (conns : List Conn) → AllByRecursion (λ (b : Conn). n < b.number) conns → AllByRecursion (λ (b : Conn). n < b.number) (change number f conns)
  above_kept n number [] above = tt
  above_kept n number (x ∷ xs) above =
      elim (has_number number x) as (λ b. AllByRecursion (λ (b : Conn). n < b.number) (if b then f x ∷ xs else x ∷ change number f xs)) [
        | true ↦ (omega (arith, above.0, quiet.number x), above.1)
        | false ↦ (above.0, above_kept n number xs above.1)
      ]

  below_kept : (x : Conn) (xs : List Conn) → AllByRecursion (λ (b : Conn). x.number < b.number) xs → AllByRecursion (λ (b : Conn). (f x).number < b.number) xs
  below_kept x xs above = rw (quiet.number x) above

  pub numbers_kept : (number : ℕ) (conns : List Conn) → AreByNumber conns → AreByNumber (change number f conns)
  numbers_kept number [] ordered = tt
  numbers_kept number (x ∷ xs) ordered =
      elim (has_number number x) as (λ b. AreByNumber (if b then f x ∷ xs else x ∷ change number f xs)) [
        | true ↦ (below_kept x xs ordered.0, ordered.1)
        | false ↦ (above_kept x.number number xs ordered.0, numbers_kept number xs ordered.1)
      ]

pub keys_kept : (f : Conn → Conn) → ((c : Conn) → IsInKeyOrder c.sent → IsInKeyOrder (f c).sent) → (number : ℕ) (conns : List Conn) → AreInKeyOrder conns → AreInKeyOrder (change number f conns)
keys_kept f kept number [] all = tt
keys_kept f kept number (x ∷ xs) all =
    elim (has_number number x) as (λ b. AreInKeyOrder (if b then f x ∷ xs else x ∷ change number f xs)) [
      | true ↦ (kept x all.0, all.1)
      | false ↦ (all.0, keys_kept f kept number xs all.1)
    ]

-- ---- what is said is such a change

pub record IsStep (number : ℕ) (f : Conn → Conn) (w v : World) : Type 0 where
  pub is : v ≡ record w { conns = change number f w.conns; said = v.said }

has_it : (number : ℕ) (conns : List Conn) (c : Conn) → conn_with conns number ≡ Some c → c.number ≡ number
has_it number [] c is = absurd (cc)
has_it number (x ∷ xs) c is =
    elim (cases_Bool (has_number number x)) [
      | inl here ↦ let e : Some x ≡ Some c = rw here at is in let same : x ≡ c = cc in let n : x.number ≡ number = grind (arith, nat_tests) in ap (λ (d : Conn). d.number) (sym same) ∙ n
      | inr other ↦ has_it number xs c (rw other at is)
    ]

by_step : (f : Conn → Conn) (number : ℕ) (m : Message) (w : World) (o : Option Conn) → conn_with w.conns number ≡ o → IsStep number f w (option_map_or (say_by f m w) o w)
by_step f number m w None none = record { is = ap (λ (cs : List Conn). record w { conns = cs }) (sym (unchanged number f w.conns none)) }
by_step f number m w (Some c) some =
    record { is = ap (λ (n : ℕ). record w { conns = change n f w.conns; said = w.said ++ said.Message c.number m (next_id c.session.last_xid) ∷ [] }) (has_it number w.conns c some) }

pub say_step : (number : ℕ) (m : Message) (w : World) → IsStep number with_said w (say number m w)
say_step number m w = by_step with_said number m w (conn_with w.conns number) refl

ask_step : (number : ℕ) (m : Message) (w : World) → IsStep number with_asked w (ask number m w)
ask_step number m w = by_step with_asked number m w (conn_with w.conns number) refl

note_step : (number : ℕ) (entries : List Entry) (w : World) → IsStep number (with_sent entries) w (note_sent number entries w)
note_step number entries w = record { is = refl }

fused : (f g : Conn → Conn) → IsQuiet f → (number : ℕ) (conns : List Conn) → change number g (change number f conns) ≡ change number (λ c. g (f c)) conns
fused f g quiet number [] = refl
fused f g quiet number (x ∷ xs) =
    elim (cases_Bool (has_number number x)) [
      | inl here ↦
          let it : has_number number (f x) ≡ true = ap (λ (n : ℕ). n == number) (quiet.number x) ∙ here in
          ap (λ b. change number g (if b then f x ∷ xs else x ∷ change number f xs)) here ∙ ap (λ b. if b then g (f x) ∷ xs else f x ∷ change number g xs) it
          ∙ ap (λ b. if b then g (f x) ∷ xs else x ∷ change number (λ c. g (f c)) xs) (sym here)
      | inr other ↦
          ap (λ b. change number g (if b then f x ∷ xs else x ∷ change number f xs)) other
          ∙ ap (λ b. if b then g x ∷ change number f xs else x ∷ change number g (change number f xs)) other
          ∙ ap (λ cs. x ∷ cs) (fused f g quiet number xs)
          ∙ ap (λ b. if b then g (f x) ∷ xs else x ∷ change number (λ c. g (f c)) xs) (sym other)
    ]

both_steps : (number : ℕ) (f g : Conn → Conn) (w v u : World) → IsQuiet f → IsStep number f w v → IsStep number g v u → IsStep number (λ c. g (f c)) w u
both_steps number f g w v u quiet first second = record {
  is = second.is
      ∙ ap (λ (x : World). record x { conns = change number g x.conns; said = u.said }) first.is
      ∙ ap (λ (cs : List Conn). record w { conns = cs; said = u.said }) (fused f g quiet number w.conns);
}

-- ---- a batch

said_times : List Command → Conn → Conn
said_times [] c = c
said_times (m ∷ more) c = said_times more (with_said c)

times_quiet : (commands : List Command) → IsQuiet (said_times commands)
unfolding said_times
times_quiet [] = record { number = λ c. refl; dp = λ c. refl; stage = λ c. refl; ports = λ c. refl }
times_quiet (m ∷ more) =
    let quiet = times_quiet more in
    record { number = λ c. quiet.number (with_said c); dp = λ c. quiet.dp (with_said c); stage = λ c. quiet.stage (with_said c); ports = λ c. quiet.ports (with_said c) }

pub said_quiet : IsQuiet with_said
said_quiet = record { number = λ c. refl; dp = λ c. refl; stage = λ c. refl; ports = λ c. refl }

same_change : (number : ℕ) (conns : List Conn) → change number (λ c. c) conns ≡ conns
same_change number [] = refl
same_change number (x ∷ xs) =
    elim (has_number number x) as (λ b. (if b then x ∷ xs else x ∷ change number (λ c. c) xs) ≡ x ∷ xs) [ true ↦ refl | false ↦ ap (λ cs. x ∷ cs) (same_change number xs) ]

each_step : (number : ℕ) (commands : List Command) (w : World) → IsStep number (said_times commands) w (say_each number commands w)
unfolding said_times
each_step number [] w = record { is = ap (λ (cs : List Conn). record w { conns = cs }) (sym (same_change number w.conns)) }
each_step number (m ∷ more) w =
    both_steps number with_said (said_times more) w (say number (command_message m) w) (say_each number more (say number (command_message m) w)) said_quiet
    (say_step number (command_message m) w) (each_step number more (say number (command_message m) w))

-- a batch was said: the one connection has a barrier outstanding, and these entries
pub record IsNoted (number : ℕ) (entries : List Entry) (w v : World) : Type 0 where
  pub f : Conn → Conn
  pub quiet : IsQuiet f
  pub asked : (c : Conn) → is_some (f c).session.state.awaited ≡ true
  pub noted : (c : Conn) → (f c).sent ≡ entries
  pub step : IsStep number f w v

pub noted_case : (number : ℕ) (commands : List Command) (entries : List Entry) (w : World)
    → ((commands ≡ []) × (say_batch number commands entries w ≡ w)) ⊎ IsNoted number entries w (say_batch number commands entries w)
noted_case number [] entries w = inl (refl, refl)
noted_case number (m ∷ more) entries w =
    let f : Conn → Conn = said_times (m ∷ more) in
    let quiet : IsQuiet f = times_quiet (m ∷ more) in
    let asked_quiet : IsQuiet (λ c. with_asked (f c)) = record { number = λ c. quiet.number c; dp = λ c. quiet.dp c; stage = λ c. quiet.stage c; ports = λ c. quiet.ports c } in
    let v1 : World = say_each number (m ∷ more) w in
    let v2 : World = ask number messages.BarrierRequest v1 in
    inr (record {
      f = λ c. with_sent entries (with_asked (f c));
      quiet = record { number = λ c. quiet.number c; dp = λ c. quiet.dp c; stage = λ c. quiet.stage c; ports = λ c. quiet.ports c };
      asked = λ c. refl;
      noted = λ c. refl;
      step = both_steps number (λ c. with_asked (f c)) (with_sent entries) w v2 (note_sent number entries v2) asked_quiet
          (both_steps number f with_asked w v1 v2 quiet (each_step number (m ∷ more) w) (ask_step number messages.BarrierRequest v1))
          (note_step number entries v2);
    })

-- a batch was said: the one connection has a barrier outstanding, and its entries are in key order
pub record IsSaid (number : ℕ) (w v : World) : Type 0 where
  pub f : Conn → Conn
  pub quiet : IsQuiet f
  pub asked : (c : Conn) → is_some (f c).session.state.awaited ≡ true
  pub keys : (c : Conn) → IsInKeyOrder (f c).sent
  pub step : IsStep number f w v

pub said_case : (number : ℕ) (commands : List Command) (entries : List Entry) (w : World) → IsInKeyOrder entries
    → ((commands ≡ []) × (say_batch number commands entries w ≡ w)) ⊎ IsSaid number w (say_batch number commands entries w)
said_case number commands entries w keys =
    elim (noted_case number commands entries w) [
      | inl nothing ↦ inl nothing
      | inr it ↦ inr (record { f = it.f; quiet = it.quiet; asked = it.asked; keys = λ c. subst IsInKeyOrder (sym (it.noted c)) keys; step = it.step })
    ]

-- ---- what holds behind a step

module _ (number : ℕ) (f : Conn → Conn) (quiet : IsQuiet f) (w v : World) (step : IsStep number f w v) where
  pub step_now : now v ≡ now w
  step_now = ap now step.is ∙ now_kept f quiet number w

  pub step_conf : v.conf ≡ w.conf
  step_conf = ap (λ (x : World). x.conf) step.is

  pub step_conns : v.conns ≡ change number f w.conns
  step_conns = ap (λ (x : World). x.conns) step.is

  pub step_numbers : AreByNumber w.conns → AreByNumber v.conns
  step_numbers ordered = rw step_conns (numbers_kept f quiet number w.conns ordered)

  pub step_keys : ((c : Conn) → IsInKeyOrder c.sent → IsInKeyOrder (f c).sent) → AreInKeyOrder w.conns → AreInKeyOrder v.conns
  step_keys kept all = rw step_conns (keys_kept f kept number w.conns all)

  pub step_none : (dp : DpId) → conn_of w.conns dp ≡ None → conn_of v.conns dp ≡ None
  step_none dp none = ap (λ (cs : List Conn). conn_of cs dp) step_conns ∙ none_kept f quiet number w.conns dp none

  pub step_other : (dp : DpId) (c : Conn) → conn_of w.conns dp ≡ Some c → (c.number ≡ number → ⊥) → conn_of v.conns dp ≡ Some c
  step_other dp c some differs = ap (λ (cs : List Conn). conn_of cs dp) step_conns ∙ others_kept f quiet number w.conns dp c some differs

  pub step_own : (dp : DpId) (c : Conn) → AreByNumber w.conns → conn_of w.conns dp ≡ Some c → c.number ≡ number → conn_of v.conns dp ≡ Some (f c)
  step_own dp c ordered some own = ap (λ (cs : List Conn). conn_of cs dp) step_conns ∙ own_changed f quiet w.conns dp c number ordered some own

  pub step_wanted : (dp : DpId) → wanted v dp ≡ wanted w dp
  step_wanted dp = ap (λ (x : World). wanted x dp) step.is ∙ ap (λ (s : State). cold_at w.conf s dp) (now_kept f quiet number w)
