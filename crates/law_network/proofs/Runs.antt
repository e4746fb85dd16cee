-- What is added up over a run is what is added up over the sends of the description.
use Rattle.std.proofs.Common.{◌≡◌, ℕ, zero, suc, ◌+◌, ◌≤◌, ◌&&◌, ◌||◌, ◌==◌, Bool, true, false, cond, Option, Some, List, [], ◌∷◌, find, min, nat_lt, refl, inl, inr, sym, ap, ◌∙◌, arith}
use Rattle.std.specs.Prelude.{Contains}
use Rattle.std.specs.Option.{option_map, option_map_or}
use Rattle.std.proofs.lemmas.Bool.{cases_Bool, ltb-true, ltb-false}
use Rattle.net_base.specs.declared.numbers.DpId.{DpId}
use Rattle.net_base.specs.declared.stack.StackLink.{StackLink}
use Rattle.of_match.specs.Pipeline.{first_run}
use Rattle.of_match.specs.declared.packet.Packet.{Packet}
use Rattle.of_match.specs.declared.packet.Sent.{Sent}
use Rattle.of_match.proofs.Allowed.{allowed}
use Rattle.stack_paths.specs.Chosen.{Step, forth, back, steps, is_same_dp}
use Rattle.stack_paths.proofs.Finite.{contains_here, contains_there, contains_cons}
use Rattle.conf_types.specs.declared.datapath.Dp.{Dp}
use Rattle.conf_types.specs.declared.datapath.StackEnd.{StackEnd}
use Rattle.conf_types.specs.Configuration.{Configuration, dp_with}
use Rattle.conf_types.specs.State.{State}
use Rattle.packet_way.specs.Description.{sends}
use Rattle.cold_start.specs.Cold.{cold, cold_at}
use Rattle.law_runs.specs.Order.{AreSame}
use Rattle.law_runs.specs.Runs.{SendsJust}
use Rattle.net_walk.specs.Arrivals.{is_at, other_end, far_end}
use Rattle.law_trees.proofs.Totals.{total, count_is}

-- ---- a sum, level by level: how many are above each number

module _ {X : Type 0} (w : X → ℕ) where
  above : ℕ → X → ℕ
  above m x = cond (nat_lt m (w x)) 1 0

  layers : ℕ → List X → ℕ
  layers zero xs = 0
  layers (suc m) xs = layers m xs + total (above m) xs

  layers_nil : (m : ℕ) → layers m [] ≡ 0
  unfolding layers
  layers_nil zero = refl
  layers_nil (suc m) = let rest = layers_nil m in omega (arith, rest)

  layers_cons : (m : ℕ) (x : X) (xs : List X) → layers m (x ∷ xs) ≡ min m (w x) + layers m xs
  unfolding layers above
  layers_cons zero x xs = omega arith
  layers_cons (suc m) x xs =
      let rest = layers_cons m x xs in
      elim (cases_Bool (nat_lt m (w x))) [
        | inl less ↦ let lt = ltb-true m (w x) less in rw less (omega (arith, rest, lt))
        | inr more ↦ let ge = ltb-false m (w x) more in rw more (omega (arith, rest, ge))
      ]

  layers_all : (m : ℕ) (xs : List X) → ((x : X) → Contains xs x → w x ≤ m) → layers m xs ≡ total w xs
  layers_all m [] small = layers_nil m
  layers_all m (x ∷ xs) small =
      let cons = layers_cons m x xs in
      let here = small x (contains_here x xs) in
      let rest = layers_all m xs (λ z c. small z (contains_there x z xs c)) in
      omega (arith, cons, here, rest)

  in_total : (xs : List X) (x : X) → Contains xs x → w x ≤ total w xs
  in_total [] x c = absurd (omega (arith, c.1))
  in_total (z ∷ zs) x c = elim (contains_cons z x zs c) [
    | inl first ↦ let same = ap w first in omega (arith, same)
    | inr later ↦ let rest = in_total zs x later in omega (arith, rest)
  ]

-- lists of which each test passes as many have the same sums
module _ (w : Sent → ℕ) (xs ys : List Sent) (same : AreSame xs ys) where
  layers_same : (m : ℕ) → layers w m xs ≡ layers w m ys
  unfolding layers above
  layers_same zero = refl
  layers_same (suc m) =
      let rest = layers_same m in
      let level : total (above w m) xs ≡ total (above w m) ys = sym (count_is (λ s. nat_lt m (w s)) xs) ∙ same (λ s. nat_lt m (w s)) ∙ count_is (λ s. nat_lt m (w s)) ys in
      omega (arith, rest, level)

  pub same_totals : total w xs ≡ total w ys
  same_totals =
      let m = total w xs + total w ys in
      let left = layers_all w m xs (λ x c. let small = in_total w xs x c in omega (arith, small)) in
      let right = layers_all w m ys (λ x c. let small = in_total w ys x c in omega (arith, small)) in
      sym left ∙ layers_same m ∙ right

-- the run of the first in key order sends what the description says
pub run_totals : (conf : Configuration) (now : State) (d : Dp) (port : ℕ) (p : Packet) (w : Sent → ℕ) → dp_with conf.dps d.id ≡ Some d → SendsJust (cold conf now d) port 0 p (sends conf now d.id port p) → total w (first_run (cold_at conf now d.id) port p) ≡ total w (sends conf now d.id port p)
run_totals conf now d port p w d_is sent =
    ap (λ (o : Option Dp). total w (first_run (option_map_or (cold conf now) o []) port p)) d_is
    ∙ same_totals w (first_run (cold conf now d) port p) (sends conf now d.id port p) (sent.only (first_run (cold conf now d) port p) (allowed (cold conf now d) port p))

-- ---- the other end of a link, by the link in one direction

abbrev pub end_of : Step → StackEnd
end_of w = record { dp = w.far; port = w.far_port }

pub far_step : (ls : List StackLink) (id : DpId) (port : ℕ) → far_end ls id port ≡ option_map end_of (find (λ t. is_same_dp t.near id && t.port == port) (steps ls))
far_step [] id port = refl
far_step (l ∷ ls) id port = by (l.a.0 == id.0 && l.a_port == port) (l.b.0 == id.0 && l.b_port == port) refl (far_step ls id port)
  where
    by : (x z : Bool) → (l.a.0 == id.0 && l.a_port == port) ≡ x → far_end ls id port ≡ option_map end_of (find (λ t. is_same_dp t.near id && t.port == port) (steps ls))
        → option_map (other_end id port) (cond (x || z) (Some l) (find (is_at id port) ls)) ≡ option_map end_of (cond x (Some (forth l)) (cond z (Some (back l)) (find (λ t. is_same_dp t.near id && t.port == port) (steps ls))))
    by true z is more = ap (λ c. let near : StackEnd = record { dp = l.b; port = l.b_port } in let far : StackEnd = record { dp = l.a; port = l.a_port } in Some (cond c near far)) is
    by false true is more = ap (λ c. let near : StackEnd = record { dp = l.b; port = l.b_port } in let far : StackEnd = record { dp = l.a; port = l.a_port } in Some (cond c near far)) is
    by false false is more = more
