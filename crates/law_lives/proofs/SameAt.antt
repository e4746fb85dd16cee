-- Where a datapath has the connection that it had, its hosts stand as they did; and where the ports of its connection aren't told, it
-- doesn't run.
use Rattle.std.proofs.Common.{◌≡◌, ℕ, ◌==◌, ◌&&◌, ◌||◌, Bool, true, false, cond, Option, Some, None, List, [], ◌∷◌, ◌++◌, filter, map, inl, inr, refl, sym, ap, ◌∙◌, subst, true≢false, if◌then◌else◌}
use Rattle.std.specs.List.{flat_map, list_any}
use Rattle.std.specs.Option.{option_map_or}
use Rattle.std.proofs.lemmas.Bool.{and_from, and_parts, cases_Bool, eqb-true}
use Rattle.std.proofs.lemmas.List.Folds.{list_any-append}
use Rattle.net_base.specs.declared.numbers.DpId.{DpId}
use Rattle.conf_types.specs.declared.datapath.Dp.{Dp}
use Rattle.conf_types.specs.declared.datapath.Port.{Port}
use Rattle.conf_types.specs.declared.state.HostRec.{HostRec}
use Rattle.conf_types.specs.declared.state.UpRec.{UpRec}
use Rattle.conf_types.specs.Configuration.{Configuration}
use Rattle.conf_types.specs.Links.{is_up}
use Rattle.conf_types.specs.State.{is_running}
use Rattle.ctl_world.specs.declared.conns.Conn.{Conn}
use Rattle.ctl_world.specs.Connections.{conn_of}
use Rattle.ctl_world.specs.Ends.{stands}
use Rattle.ctl_world.specs.World.{has_ports, is_at_work, is_up_by, running_of, runs, ups_by, ups_of, ups_on}
use Rattle.law_lives.proofs.Less.{Less, none_work, told_ports}

the_dp : (d dp : DpId) → (d.0 == dp.0) ≡ true → d ≡ dp
the_dp d dp is = let same : d.0 ≡ dp.0 = eqb-true d.0 dp.0 is in λ i. record { 0 = same i }

module _ (dp : DpId) where
  abbrev of : List Dp → Bool
  of dps = is_running (map (λ (e : Dp). e.id) dps) dp

  -- ---- one that isn't told its ports doesn't run

  -- one of another number counts for nothing
  skipped : (d : Dp) (b : Bool) (rest : List Dp) → (d.id.0 == dp.0) ≡ false → of (cond b (d ∷ rest) rest) ≡ of rest
  skipped d true rest other = ap (λ c. c || of rest) other
  skipped d false rest other = refl

  none_runs : (conns : List Conn) → told_ports (conn_of conns dp) ≡ false → (dps : List Dp) → of (filter (is_at_work conns) dps) ≡ false
  none_runs conns none [] = refl
  none_runs conns none (d ∷ ds) =
      elim (cases_Bool (d.id.0 == dp.0)) [
        | inl here ↦
            let off : is_at_work conns d ≡ false =
            none_work (conn_of conns d.id) (ap (λ (k : DpId). told_ports (conn_of conns k)) (the_dp d.id dp here) ∙ none) in
            ap (λ b. of (cond b (d ∷ filter (is_at_work conns) ds) (filter (is_at_work conns) ds))) off ∙ none_runs conns none ds
        | inr other ↦ skipped d (is_at_work conns d) (filter (is_at_work conns) ds) other ∙ none_runs conns none ds
      ]

  both : (d : Dp) (b : Bool) (xs ys : List Dp) → of xs ≡ of ys → of (cond b (d ∷ xs) xs) ≡ of (cond b (d ∷ ys) ys)
  both d true xs ys same = ap (λ c. (d.id.0 == dp.0) || c) same
  both d false xs ys same = same

  -- ---- one with the connection that it had

  module _ (after before : List Conn) (same : conn_of after dp ≡ conn_of before dp) where
    works : (d : Dp) → (d.id.0 == dp.0) ≡ true → is_at_work after d ≡ is_at_work before d
    works d here =
        let it : d.id ≡ dp = the_dp d.id dp here in
        ap (λ (o : Option Conn). option_map_or (λ (c : Conn). runs c.session.state.stage) o false) (ap (conn_of after) it ∙ same ∙ sym (ap (conn_of before) it))

    runs_as : (dps : List Dp) → of (filter (is_at_work after) dps) ≡ of (filter (is_at_work before) dps)
    runs_as [] = refl
    runs_as (d ∷ ds) =
        elim (cases_Bool (d.id.0 == dp.0)) [
          | inl here ↦
              ap (λ b. of (cond b (d ∷ filter (is_at_work after) ds) (filter (is_at_work after) ds))) (works d here)
              ∙ both d (is_at_work before d) (filter (is_at_work after) ds) (filter (is_at_work before) ds) (runs_as ds)
          | inr other ↦
              skipped d (is_at_work after d) (filter (is_at_work after) ds) other ∙ runs_as ds ∙ sym (skipped d (is_at_work before d) (filter (is_at_work before) ds) other)
        ]

    module _ (port : ℕ) where
      abbrev at : UpRec → Bool
      at up = up.dp.0 == dp.0 && up.port == port

      -- the ports of another one are others
      others_mapped : (d : Dp) → (d.id.0 == dp.0) ≡ false → (ports : List Port) → list_any at (map (λ p. record { dp = d.id; port = p.no }) ports) ≡ false
      others_mapped d other [] = refl
      others_mapped d other (p ∷ ps) =
          ap (λ b. (b && p.no == port) || list_any at (map (λ q. record { dp = d.id; port = q.no }) ps)) other ∙ others_mapped d other ps

      others_up : (d : Dp) → (d.id.0 == dp.0) ≡ false → (o : Option Conn) → list_any at (option_map_or (ups_by d) o []) ≡ false
      others_up d other None = refl
      others_up d other (Some c) =
          elim (has_ports c.session.state.stage) as (λ b. list_any at (if b then map (λ p. record { dp = d.id; port = p.no }) (filter (is_up_by c.session.state.ports) d.ports) else []) ≡ false) [
            | true ↦ others_mapped d other (filter (is_up_by c.session.state.ports) d.ports)
            | false ↦ refl
          ]

      here_up : (d : Dp) → list_any at (ups_on after d) ≡ list_any at (ups_on before d)
      here_up d =
          elim (cases_Bool (d.id.0 == dp.0)) [
            | inl here ↦
                let it : d.id ≡ dp = the_dp d.id dp here in
                ap (λ (o : Option Conn). list_any at (option_map_or (ups_by d) o [])) (ap (conn_of after) it ∙ same ∙ sym (ap (conn_of before) it))
            | inr other ↦ others_up d other (conn_of after d.id) ∙ sym (others_up d other (conn_of before d.id))
          ]

      ups_as : (dps : List Dp) → list_any at (flat_map (ups_on after) dps) ≡ list_any at (flat_map (ups_on before) dps)
      ups_as [] = refl
      ups_as (d ∷ ds) =
          list_any-append at (ups_on after d) (flat_map (ups_on after) ds)
          ∙ (λ i. here_up d i || ups_as ds i)
          ∙ sym (list_any-append at (ups_on before d) (flat_map (ups_on before) ds))

-- a host that stands under some configuration where its datapath's connection is the one it had or none, stands under the one under
-- which it stood
pub stands_still : (conf next : Configuration) (after before : List Conn) (h : HostRec) → Less (conn_of after h.dp) (conn_of before h.dp) → stands (running_of conf before) (ups_of conf before) h ≡ true
    → stands (running_of next after) (ups_of next after) h ≡ true → stands (running_of conf after) (ups_of conf after) h ≡ true
stands_still conf next after before h less stood stands_on = by less
  where
    running_now : is_running (running_of next after) h.dp ≡ true
    running_now = (and_parts (is_running (running_of next after) h.dp) (is_up (ups_of next after) h.dp h.port) stands_on).0

    by : Less (conn_of after h.dp) (conn_of before h.dp) → stands (running_of conf after) (ups_of conf after) h ≡ true
    by (inl none) = absurd (true≢false (sym running_now ∙ none_runs h.dp after none next.dps))
    by (inr same) = (λ i. runs_as h.dp after before same conf.dps i && ups_as h.dp after before same h.port conf.dps i) ∙ stood
