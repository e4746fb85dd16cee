-- What the words of flow entries keep of what a switch accepts.
use Rattle.std.proofs.Common.{if◌then◌else◌, ◌&&◌, ℕ, ◌^◌, ◌<◌, Bool, true, false, List, [], ◌∷◌, ◌++◌, Option, Some, None, refl, arith, lit<}
use Rattle.std.specs.List.{AllByRecursion}
use Rattle.net_base.specs.declared.address.Mac.{Mac}
use Rattle.net_base.specs.declared.field.Field.{Field}
use Rattle.net_base.specs.Address.{IsSixBytes}
use Rattle.net_base.specs.Numbers.{IsVid, IsPortNo}
use Rattle.of_match.specs.declared.action.Action.{Action}
use Rattle.of_match.specs.declared.action.Instr.{Instr}
use Rattle.of_match.specs.WellFormed.{IsAction, AreInstrs}
use Rattle.conf_types.specs.declared.datapath.Dp.{Dp}
use Rattle.conf_types.specs.declared.datapath.Port.{Port}
use Rattle.conf_types.specs.Membership.{is_native_in, is_mirror_of}
use Rattle.plan_base.specs.declared.table.Table.{Table}
use Rattle.plan_base.specs.declared.table.Table.TheVariants.{PortAcl, Admission, VlanAcl, Source, Ipv4Route, Ipv6Route, Vip, Destination, Flood}
use Rattle.plan_base.specs.Accepted.{IsFlowEntry}
use Rattle.plan_base.specs.Fields.{eth_dst, eth_src, vid_field}
use Rattle.plan_base.specs.Actions.{pop_tag, out, to_controller, to_ingress, push_tag, set_vid, set_eth_src, set_eth_dst}
use Rattle.plan_base.specs.Entries.{table_number, leads_to, entry}
use Rattle.plan_base.specs.Sending.{outs, mirrored, copied, sent}
use Rattle.plan_base.proofs.Each.{all_from, all_map, all_filter}
use Rattle.plan_base.proofs.MatchFields.{fits, is_eth_dst, is_eth_src, is_vid_field, AreFields}

-- ---- actions

pub is_out : (n : ℕ) → IsPortNo n → IsAction (out n)
is_out n h = (omega (arith, h.most), lit< tt)

pub is_to_controller : IsAction to_controller
is_to_controller = (lit< tt, lit< tt)

pub is_to_ingress : IsAction to_ingress
is_to_ingress = (lit< tt, lit< tt)

pub is_push_tag : IsAction push_tag
is_push_tag = lit< tt

pub is_set_vid : (vid : ℕ) → IsVid vid → IsAction (set_vid vid)
is_set_vid vid h = (fits (vid_field vid) (is_vid_field vid h), refl)

pub is_set_eth_src : (mac : Mac) → IsSixBytes mac.0 → IsAction (set_eth_src mac)
is_set_eth_src mac h = (fits (eth_src mac) (is_eth_src mac h), refl)

pub is_set_eth_dst : (mac : Mac) → IsSixBytes mac.0 → IsAction (set_eth_dst mac)
is_set_eth_dst mac h = (fits (eth_dst mac) (is_eth_dst mac h), refl)

pub are_outs : (ports : List Port) → AllByRecursion (λ p. IsPortNo p.no) ports → AllByRecursion IsAction (outs ports)
are_outs ports all = all_map (λ (p : Port). out p.no) IsAction ports (all_from {P = λ (p : Port). IsPortNo p.no} {Q = λ (p : Port). IsAction (out p.no)} (λ p h. is_out p.no h) ports all)

pub are_mirrored : (d : Dp) (number : ℕ) → AllByRecursion (λ p. IsPortNo p.no) d.ports → AllByRecursion IsAction (mirrored d number)
are_mirrored d number all = are_outs _ (all_filter (λ (p : Port). IsPortNo p.no) (λ m. m.enabled && is_mirror_of m number) d.ports all)

pub are_copied : (d : Dp) (number : ℕ) (by : Action) → AllByRecursion (λ p. IsPortNo p.no) d.ports → IsAction by → AllByRecursion IsAction (copied d number by)
are_copied d number by all h = (h, are_mirrored d number all)

pub are_sent : (d : Dp) (vid : ℕ) (q : Port) (by : Action) → AllByRecursion (λ p. IsPortNo p.no) d.ports → IsAction by → AllByRecursion IsAction (sent d vid q by)
are_sent d vid q by all h = popped (is_native_in q vid)
  where
    popped : (b : Bool) → AllByRecursion IsAction ((if b then pop_tag ∷ [] else []) ++ copied d q.no by)
    popped true = (tt, are_copied d q.no by all h)
    popped false = are_copied d q.no by all h

-- ---- instructions

pub table_fits : (table : Table) → table_number table < 2 ^ 8
table_fits PortAcl = lit< tt
table_fits Admission = lit< tt
table_fits VlanAcl = lit< tt
table_fits Source = lit< tt
table_fits Ipv4Route = lit< tt
table_fits Ipv6Route = lit< tt
table_fits Vip = lit< tt
table_fits Destination = lit< tt
table_fits Flood = lit< tt

pub are_instrs : (actions : List Action) (next : Option Table) → AllByRecursion IsAction actions → AreInstrs (leads_to actions next)
are_instrs [] None all = tt
are_instrs [] (Some table) all = table_fits table
are_instrs (a ∷ more) None all = record { each = all; some = omega arith }
are_instrs (a ∷ more) (Some table) all = (record { each = all; some = omega arith }, table_fits table)

-- ---- entries

pub made_of : (t : Table) (priority : ℕ) (fields : List Field) (instrs : List Instr) → priority < 2 ^ 16 → AreFields fields → AreInstrs instrs → IsFlowEntry (entry t priority fields instrs)
made_of t priority fields instrs less are does = record { table = table_fits t; priority = less; fields = are.formed; each = are.each; instrs = does }

-- ---- all of them

pub ruleset action_laws = (is_out, is_set_vid, is_set_eth_src, is_set_eth_dst, are_sent)

pub ruleset instruction_laws = are_instrs
