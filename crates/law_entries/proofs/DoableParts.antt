-- Entries that can be done, by their parts.
use Rattle.std.specs.Prelude.{◌≡◌, ℕ, ◌+◌, ◌/◌, ◌%◌, ◌<◌, ◌≤◌, Bool, true, false, ◌==◌, ◌||◌, List, [], ◌∷◌, ◌++◌, map, Option, Some, None, if◌then◌else◌}
use Rattle.std.specs.List.{AllByRecursion, list_any}
use Rattle.std.proofs.Common.{sym, ap, subst, arith}
use Rattle.net_base.specs.declared.field.Field.{Field}
use Rattle.net_base.specs.Numbers.{IsVid}
use Rattle.of_match.specs.declared.action.Action.{Action}
use Rattle.of_match.specs.declared.action.Action.TheVariants.{Output, PushVlan, PopVlan, DecTtl, Set}
use Rattle.conf_types.specs.declared.datapath.Dp.{Dp}
use Rattle.conf_types.specs.declared.datapath.Port.{Port}
use Rattle.conf_types.specs.Membership.{is_native_in, mirrors_of}
use Rattle.plan_base.specs.declared.table.Table.{Table}
use Rattle.plan_base.specs.declared.table.Table.TheVariants.{PortAcl, Admission, VlanAcl, Source, Ipv4Route, Ipv6Route, Vip, Destination, Flood}
use Rattle.plan_base.specs.Actions.{out, pop_tag}
use Rattle.plan_base.specs.Entries.{table_number, leads_to, entry}
use Rattle.plan_base.specs.Fields.{vid_field}
use Rattle.plan_base.specs.Sending.{outs, copied, sent}
use Rattle.law_entries.specs.Doable.{LeadsOn, has_present, asks_for_tag, tags_asked, AreDoable, DoesDoable, CanBeDone}

-- ---- tables

abbrev pub IsLater : Table → Option Table → Type 0
IsLater t None = Unit {0}
IsLater t (Some u) = table_number t < table_number u

of_nine : (u : Table) → table_number u ≤ 8
of_nine PortAcl = omega arith
of_nine Admission = omega arith
of_nine VlanAcl = omega arith
of_nine Source = omega arith
of_nine Ipv4Route = omega arith
of_nine Ipv6Route = omega arith
of_nine Vip = omega arith
of_nine Destination = omega arith
of_nine Flood = omega arith

leads_on : (t : Table) (actions : List Action) (next : Option Table) → IsLater t next → AllByRecursion (LeadsOn (table_number t)) (leads_to actions next)
leads_on t [] None later = tt
leads_on t [] (Some u) later = ((later, of_nine u), tt)
leads_on t (a ∷ more) None later = (tt, tt)
leads_on t (a ∷ more) (Some u) later = (tt, ((later, of_nine u), tt))

-- ---- entries

acts : (fields : List Field) (actions : List Action) (next : Option Table) → AreDoable fields (tags_asked fields) actions → AllByRecursion (DoesDoable fields) (leads_to actions next)
acts fields [] None all = tt
acts fields [] (Some u) all = (tt, tt)
acts fields (a ∷ more) None all = (all, tt)
acts fields (a ∷ more) (Some u) all = (all, (tt, tt))

pub made : (t : Table) (priority : ℕ) (fields : List Field) (actions : List Action) (next : Option Table) → IsLater t next → AreDoable fields (tags_asked fields) actions
    → CanBeDone (entry t priority fields (leads_to actions next))
made t priority fields actions next later all = record { onward = leads_on t actions next later; actions = acts fields actions next all }

-- the match asks for a tag
pub tagged : (t : Table) (priority : ℕ) (fields : List Field) (actions : List Action) (next : Option Table) → IsLater t next → list_any asks_for_tag fields ≡ true → AreDoable fields 1 actions
    → CanBeDone (entry t priority fields (leads_to actions next))
tagged t priority fields actions next later asks all =
    made t priority fields actions next later (subst (λ (n : ℕ). AreDoable fields n actions) (sym (ap (λ (b : Bool). if b then 1 else 0) asks)) all)

-- a VLAN's identifier leaves the bit beside it
pub before_vid : (vid : ℕ) → IsVid vid → (0x1000 + vid) / 0x1000 ≡ 1
before_vid vid is = let most = is.most in omega (arith, most)

present : (vid : ℕ) → IsVid vid → has_present (0x1000 + vid) ≡ true
present vid is = ap (λ n. n % 2 == 1) (before_vid vid is)

pub asks_among : (vid : ℕ) → IsVid vid → (more : List Field) → list_any asks_for_tag (vid_field vid ∷ more) ≡ true
asks_among vid is more = ap (λ (b : Bool). b || list_any asks_for_tag more) (present vid is)

-- ---- actions

abbrev pub IsOutput : Action → Type 0
IsOutput (Output port max_len) = Unit {0}
IsOutput a = ⊥

module _ (fields : List Field) where
  -- an output asks for nothing, and leaves the tags
  output_first : (tags : ℕ) (a : Action) (more : List Action) → IsOutput a → AreDoable fields tags more → AreDoable fields tags (a ∷ more)
  output_first tags (Output port max_len) more is all = (record { pushes = tt; sets = tt; values = tt; lowers = tt; pops = tt }, all)
  output_first tags (PushVlan eth_type) more is all = absurd is
  output_first tags PopVlan more is all = absurd is
  output_first tags DecTtl more is all = absurd is
  output_first tags (Set f) more is all = absurd is

  pub outputs_first : (tags : ℕ) (xs ys : List Action) → AllByRecursion IsOutput xs → AreDoable fields tags ys → AreDoable fields tags (xs ++ ys)
  outputs_first tags [] ys are all = all
  outputs_first tags (x ∷ xs) ys are all = output_first tags x (xs ++ ys) are.0 (outputs_first tags xs ys are.1 all)

  pub outputs : (tags : ℕ) (xs : List Action) → AllByRecursion IsOutput xs → AreDoable fields tags xs
  outputs tags [] are = tt
  outputs tags (x ∷ xs) are = output_first tags x xs are.0 (outputs tags xs are.1)

  pub popped_first : (xs : List Action) → AllByRecursion IsOutput xs → AreDoable fields 1 (pop_tag ∷ xs)
  popped_first xs are = (record { pushes = tt; sets = tt; values = tt; lowers = tt; pops = omega arith }, outputs 0 xs are)

  pub sent_done : (d : Dp) (vid : ℕ) (q : Port) (by : Action) → AllByRecursion IsOutput (copied d q.no by) → AreDoable fields 1 (sent d vid q by)
  sent_done d vid q by are = one (is_native_in q vid)
    where
      one : (b : Bool) → AreDoable fields 1 ((if b then pop_tag ∷ [] else []) ++ copied d q.no by)
      one true = popped_first (copied d q.no by) are
      one false = outputs 1 (copied d q.no by) are

pub outs_are : (ports : List Port) → AllByRecursion IsOutput (outs ports)
outs_are [] = tt
outs_are (q ∷ more) = (tt, outs_are more)

pub numbers_are : (ns : List ℕ) → AllByRecursion IsOutput (map out ns)
numbers_are [] = tt
numbers_are (n ∷ more) = (tt, numbers_are more)

pub copied_are : (d : Dp) (number : ℕ) (by : Action) → IsOutput by → AllByRecursion IsOutput (copied d number by)
copied_are d number by is = (is, outs_are (mirrors_of d number))
