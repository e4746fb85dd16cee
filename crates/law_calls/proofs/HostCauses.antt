-- Why a call of a table of hosts is refused.
use Rattle.std.proofs.Common.{◌≡◌, ◌⊎◌, ℕ, ◌≤◌, ◌&&◌, ◌||◌, Bool, true, false, not, nat_le, List, [], ◌∷◌, length, count_by, Option, Some, None, inl, inr, refl, sym, arith, if◌then◌else◌}
use Rattle.std.specs.List.{AllByRecursion, find}
use Rattle.std.specs.Option.{option_map_or}
use Rattle.std.proofs.lemmas.Bool.{true≢false, false≢true}
use Rattle.std.proofs.lemmas.Bool.Decides.{nat_tests}
use Rattle.net_base.specs.Address.{is_group}
use Rattle.conf_types.specs.declared.datapath.Port.{Port}
use Rattle.conf_types.specs.declared.state.HostRec.{HostRec}
use Rattle.conf_types.specs.declared.vlan.Vlan.{Vlan}
use Rattle.conf_types.specs.Configuration.{Configuration, port_at, vlan_with}
use Rattle.conf_types.specs.Groups.{group_of}
use Rattle.conf_types.specs.Membership.{is_accepting, is_edge_member}
use Rattle.conf_types.specs.State.{is_barred, is_gateway_address, is_host_at, is_host_in, is_port_full, is_to_forget, is_vlan_full}
use Rattle.host_learn.specs.declared.learn.Learn.{Learn}
use Rattle.host_learn.specs.declared.learn.Learn.TheVariants.{Learned, Moved, Refreshed, Full, NotLearnable}
use Rattle.host_learn.specs.Learning.{is_full, is_full_at, is_full_in, is_kept_off, is_known, is_learnable, outcome, stands_there, takes_in}
use Rattle.host_learn.specs.Table.{Table}
use Rattle.law_calls.specs.declared.hosts.HostCall.{HostCall}
use Rattle.law_calls.specs.declared.hosts.HostCall.TheVariants as calls
use Rattle.law_calls.specs.declared.hosts.HostAnswer.{HostAnswer}
use Rattle.law_calls.specs.declared.hosts.HostAnswer.TheVariants as answers
use Rattle.law_calls.specs.Hosts.{HasCause, HasNoRoom, IsKeptOut, Makes, barred, full_port, full_table, full_vlan, no_port, of_a_gateway, of_many, other_port}

-- ---- tests

at_most : (a b : ℕ) → nat_le a b ≡ true → a ≤ b
at_most a b is = grind (arith, nat_tests)

-- a test that passes of what may be there
passing : {A : Type 0} (o : Option A) (test : A → Bool) → option_map_or test o false ≡ true → (a : A) × (o ≡ Some a) × (test a ≡ true)
passing None test is = absurd (false≢true is)
passing (Some a) test is = (a, refl, is)

-- a test that fails
failing : {A : Type 0} (o : Option A) (test : A → Bool) → option_map_or test o false ≡ false → (o ≡ None) ⊎ ((a : A) × (o ≡ Some a) × (test a ≡ false))
failing None test is = inl refl
failing (Some a) test is = inr (a, refl, is)

abbrev answer_by : (may full there known : Bool) → Learn
answer_by may full there known = if not may then NotLearnable else if full then Full else if there then Refreshed else if known then Moved else Learned

by_full : (may full there known : Bool) → answer_by may full there known ≡ Full → full ≡ true
by_full false full there known e = absurd (let no : NotLearnable ≡ Full = e in cc)
by_full true true there known e = refl
by_full true false true known e = absurd (let no : Refreshed ≡ Full = e in cc)
by_full true false false true e = absurd (let no : Moved ≡ Full = e in cc)
by_full true false false false e = absurd (let no : Learned ≡ Full = e in cc)

by_not_learnable : (may full there known : Bool) → answer_by may full there known ≡ NotLearnable → may ≡ false
by_not_learnable false full there known e = refl
by_not_learnable true true there known e = absurd (let no : Full ≡ NotLearnable = e in cc)
by_not_learnable true false true known e = absurd (let no : Refreshed ≡ NotLearnable = e in cc)
by_not_learnable true false false true e = absurd (let no : Moved ≡ NotLearnable = e in cc)
by_not_learnable true false false false e = absurd (let no : Learned ≡ NotLearnable = e in cc)

-- which of the three has no room
no_room : (there port known vlan table : Bool) → (not there && port || not known && (vlan || table)) ≡ true
    → ((there ≡ false) × (port ≡ true)) ⊎ ((known ≡ false) × ((vlan ≡ true) ⊎ (table ≡ true)))
no_room false true known vlan table e = inl (refl, refl)
no_room false false true vlan table e = absurd (false≢true e)
no_room false false false true table e = inr (refl, inl refl)
no_room false false false false true e = inr (refl, inr refl)
no_room false false false false false e = absurd (false≢true e)
no_room true port true vlan table e = absurd (false≢true e)
no_room true port false true table e = inr (refl, inl refl)
no_room true port false false true e = inr (refl, inr refl)
no_room true port false false false e = absurd (false≢true e)

-- which of the four keeps a host out
kept_out : (place many gateway off : Bool) → (place && not many && not gateway && not off) ≡ false → (place ≡ false) ⊎ ((many ≡ true) ⊎ ((gateway ≡ true) ⊎ (off ≡ true)))
kept_out false many gateway off e = inl refl
kept_out true true gateway off e = inr (inl refl)
kept_out true false true off e = inr (inr (inl refl))
kept_out true false false true e = inr (inr (inr refl))
kept_out true false false false e = absurd (true≢false e)

-- ---- a host that is heard

module _ (conf : Configuration) (table : Table) (heard : HostRec) where
  pub room_cause : outcome conf table heard ≡ Full → HasNoRoom conf table heard
  room_cause is =
      let full = by_full (is_learnable conf table.hosts heard) (is_full conf table heard) (stands_there table.hosts heard) (is_known conf table.hosts heard) is in
      elim (no_room (stands_there table.hosts heard) (is_full_at conf table.hosts heard) (is_known conf table.hosts heard) (is_full_in conf table.hosts heard) (nat_le table.limit (length table.hosts)) full) [
        | inl at ↦
            let port = passing (port_at conf heard.dp heard.port) (λ (p : Port). is_port_full table.hosts heard.dp p) at.1 in
            full_port port.0 port.1 at.0 (at_most port.0.max_hosts (count_by (is_host_at heard.dp port.0.no) table.hosts) port.2)
        | inr new ↦ elim new.1 [
          | inl within ↦
              let vlan = passing (vlan_with conf.vlans heard.vid) (λ (v : Vlan). is_vlan_full conf table.hosts (group_of conf heard.dp) v) within in
              full_vlan vlan.0 vlan.1 new.0 (at_most vlan.0.max_hosts (count_by (is_host_in conf (group_of conf heard.dp) vlan.0.vid) table.hosts) vlan.2)
          | inr all ↦ full_table new.0 (at_most table.limit (length table.hosts) all)
        ]
      ]

  port_cause : takes_in conf heard ≡ false → IsKeptOut conf table.hosts heard
  port_cause is =
      elim (failing (port_at conf heard.dp heard.port) (λ (p : Port). is_accepting p && is_edge_member p heard.vid) is) [
        | inl none ↦ no_port none
        | inr some ↦ other_port some.0 some.1 some.2
      ]

  pub place_cause : outcome conf table heard ≡ NotLearnable → IsKeptOut conf table.hosts heard
  place_cause is =
      let out = by_not_learnable (is_learnable conf table.hosts heard) (is_full conf table heard) (stands_there table.hosts heard) (is_known conf table.hosts heard) is in
      elim (kept_out (takes_in conf heard) (is_group heard.mac) (is_gateway_address conf heard.mac.0) (is_kept_off conf table.hosts heard) out) [
        | inl place ↦ port_cause place
        | inr more ↦ elim more [
          | inl many ↦ of_many many
          | inr rest ↦ elim rest [
            | inl gateway ↦ of_a_gateway gateway
            | inr off ↦
                let port = passing (port_at conf heard.dp heard.port) (λ (p : Port). is_barred conf table.hosts heard.dp p heard.vid heard.mac.0) off in
                barred port.0 port.1 port.2
          ]
        ]
      ]

-- ---- a host that is to be forgotten

none_due : (test : HostRec → Bool) (hosts : List HostRec) → find test hosts ≡ None → AllByRecursion (λ host. test host ≡ false) hosts
none_due test [] none = tt
none_due test (host ∷ hosts) none =
    elim (test host) as (λ b. test host ≡ b → (if b then Some host else find test hosts) ≡ None → (test host ≡ false) × AllByRecursion (λ other. test other ≡ false) hosts) [
      | true ↦ λ is e. absurd (let no : Some host ≡ None = e in cc)
      | false ↦ λ is e. (is, none_due test hosts e)
    ] refl none

-- ---- a call

pub cause_of : (old : Table) (call : HostCall) (answer : HostAnswer) (new : Table) → Makes old call answer new → HasCause old call answer
cause_of old (calls.Hear conf heard) (answers.Heard Full) new made = room_cause conf.now old heard (sym made.0)
cause_of old (calls.Hear conf heard) (answers.Heard NotLearnable) new made = place_cause conf.now old heard (sym made.0)
cause_of old (calls.Age conf moment) (answers.Aged None) new made = none_due (is_to_forget conf.now moment.0) old.hosts (sym made.0)
cause_of old (calls.Hear conf heard) (answers.Heard Learned) new made = tt
cause_of old (calls.Hear conf heard) (answers.Heard Moved) new made = tt
cause_of old (calls.Hear conf heard) (answers.Heard Refreshed) new made = tt
cause_of old (calls.Hear conf heard) (answers.Aged host) new made = tt
cause_of old (calls.Hear conf heard) answers.Done new made = tt
cause_of old (calls.Hear conf heard) answers.Memory new made = tt
cause_of old (calls.Age conf moment) (answers.Heard told) new made = tt
cause_of old (calls.Age conf moment) (answers.Aged (Some host)) new made = tt
cause_of old (calls.Age conf moment) answers.Done new made = tt
cause_of old (calls.Age conf moment) answers.Memory new made = tt
cause_of old (calls.ForgetDue conf moment) answer new made = tt
cause_of old (calls.ForgetPort dp port) answer new made = tt
cause_of old (calls.ForgetDp dp) answer new made = tt
cause_of old (calls.Keep conf ups moment) answer new made = tt
