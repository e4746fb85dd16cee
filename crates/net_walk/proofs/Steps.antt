-- One step of a walk.
use Rattle.std.proofs.Common.{◌≡◌, ℕ, zero, suc, ◌-◌, ◌<◌, ◌≤◌, List, [], ◌++◌, Option, Some, None, All, find, length, take, refl, sym, ap, ◌∙◌, arith}
use Rattle.std.specs.List.{flat_map}
use Rattle.std.specs.Option.{option_map_or}
use Rattle.std.proofs.lemmas.Bool.{eqb-true}
use Rattle.std.proofs.lemmas.List.{take_all}
use Rattle.std.proofs.lemmas.List.Elements.{All-contains}
use Rattle.net_base.specs.declared.numbers.DpId.{DpId}
use Rattle.of_match.specs.Pipeline.{first_run}
use Rattle.of_match.specs.declared.packet.Packet.{Packet}
use Rattle.of_match.specs.declared.packet.Sent.{Sent}
use Rattle.conf_types.proofs.Found.{found}
use Rattle.conf_types.specs.declared.datapath.StackEnd.{StackEnd}
use Rattle.conf_types.specs.Configuration.{Configuration}
use Rattle.conf_types.specs.Links.{links}
use Rattle.conf_types.specs.State.{State}
use Rattle.cold_start.specs.Cold.{cold_at}
use Rattle.net_walk.specs.declared.arrival.Arrival.{Arrival}
use Rattle.net_walk.specs.declared.kept.Kept.{Kept}
use Rattle.net_walk.specs.Arrivals.{far_end, arrived, going_on, arrivals}
use Rattle.net_walk.specs.Kept.{IsKept, is_of}

-- a cold start that is found is that of the datapath
pub kept_is : (conf : Configuration) (now : State) (kept : List Kept) (id : DpId) (one : Kept) → All (IsKept conf now) kept → find (is_of id) kept ≡ Some one → one.tables ≡ cold_at conf now id
kept_is conf now kept id one all is =
    let f = found (is_of id) kept one is in
    let made : ℕ → DpId = λ n. record { 0 = n } in
    All-contains (IsKept conf now) kept one all f.0 ∙ ap (cold_at conf now) (ap made (eqb-true one.dp.0 id.0 f.1))

module _ (conf : Configuration) (now : State) where
  abbrev pub onward : ℕ → DpId → Sent → List Arrival
  onward k id s = going_on conf (links conf now.ups) (λ e q y. arrivals conf now k e q y) id s

  pub arrivals_next : (k : ℕ) (id : DpId) (port : ℕ) (p : Packet) → 0 < k → arrivals conf now k id port p ≡ flat_map (onward (k - 1) id) (first_run (cold_at conf now id) port p)
  unfolding arrivals
  arrivals_next zero id port p some = absurd (omega (arith, some))
  arrivals_next (suc k) id port p some = let less : k ≡ suc k - 1 = omega arith in ap (λ n. flat_map (onward n id) (first_run (cold_at conf now id) port p)) less

  pub arrivals_none : (id : DpId) (port : ℕ) (p : Packet) → arrivals conf now 0 id port p ≡ []
  unfolding arrivals
  arrivals_none id port p = refl

  -- what becomes of a send over a link that is up, and of any other
  pub onward_there : (k : ℕ) (id : DpId) (s : Sent) (far : StackEnd) → far_end (links conf now.ups) id s.port ≡ Some far → onward k id s ≡ arrivals conf now k far.dp far.port s.packet
  onward_there k id s far is = ap (λ (o : Option StackEnd). option_map_or (λ far. arrivals conf now k far.dp far.port s.packet) o (arrived conf id s)) is

  pub onward_here : (k : ℕ) (id : DpId) (s : Sent) → far_end (links conf now.ups) id s.port ≡ None → onward k id s ≡ arrived conf id s
  onward_here k id s is = ap (λ (o : Option StackEnd). option_map_or (λ far. arrivals conf now k far.dp far.port s.packet) o (arrived conf id s)) is

  -- where all sends have been gone through
  pub all_gone_through : (k : ℕ) (id : DpId) (port : ℕ) (p : Packet) (before made : List Arrival) (n : ℕ) (sents : List Sent) → 0 < k → sents ≡ first_run (cold_at conf now id) port p → length sents ≤ n
      → made ≡ before ++ flat_map (onward (k - 1) id) (take n sents) → made ≡ before ++ arrivals conf now k id port p
  all_gone_through k id port p before made n sents some are through is =
      is ∙ ap (λ l. before ++ flat_map (onward (k - 1) id) l) (take_all n sents through ∙ are) ∙ sym (ap (λ l. before ++ l) (arrivals_next k id port p some))
