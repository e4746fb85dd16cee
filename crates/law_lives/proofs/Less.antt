-- Where each datapath has the connection that it had, or none whose ports are told, no more hosts stand.
use Rattle.std.proofs.Common.{◌≡◌, ℕ, ◌==◌, ◌&&◌, ◌||◌, Bool, true, false, cond, Option, Some, None, List, [], ◌∷◌, ◌++◌, filter, map, inl, inr, refl, sym, ap, ◌∙◌, subst, true≢false, if◌then◌else◌}
use Rattle.std.specs.Prelude.{◌⊎◌}
use Rattle.std.specs.List.{flat_map, list_any}
use Rattle.std.specs.Option.{option_map_or}
use Rattle.std.proofs.lemmas.Bool.{and_from, and_parts, cases_Bool}
use Rattle.std.proofs.lemmas.List.Folds.{list_any-append}
use Rattle.net_base.specs.declared.numbers.DpId.{DpId}
use Rattle.conf_types.specs.declared.datapath.Dp.{Dp}
use Rattle.conf_types.specs.declared.state.HostRec.{HostRec}
use Rattle.conf_types.specs.declared.state.UpRec.{UpRec}
use Rattle.conf_types.specs.Configuration.{Configuration}
use Rattle.conf_types.specs.Links.{is_up}
use Rattle.conf_types.specs.State.{is_running}
use Rattle.switch_session.specs.declared.state.Stage.{Stage}
use Rattle.switch_session.specs.declared.state.Stage.TheVariants as stages
use Rattle.ctl_world.specs.declared.conns.Conn.{Conn}
use Rattle.ctl_world.specs.Connections.{conn_of}
use Rattle.ctl_world.specs.Ends.{stands}
use Rattle.ctl_world.specs.World.{has_ports, is_at_work, is_up_by, running_of, runs, ups_by, ups_of, ups_on}

-- its ports are told
abbrev pub told_ports : Option Conn → Bool
told_ports o = option_map_or (λ (c : Conn). has_ports c.session.state.stage) o false

abbrev pub Less : Option Conn → Option Conn → Type 0
Less after before = (told_ports after ≡ false) ⊎ (after ≡ before)

pub less_on : (a b c : Option Conn) → Less a b → Less b c → Less a c
less_on a b c (inl none) other = inl none
less_on a b c (inr same) (inl none) = inl (ap told_ports same ∙ none)
less_on a b c (inr same) (inr other) = inr (same ∙ other)

-- one that runs has told its ports
not_run : (stage : Stage) → has_ports stage ≡ false → runs stage ≡ false
not_run stages.Greeting is = refl
not_run stages.Features is = refl
not_run stages.Ports is = refl
not_run stages.Wiping is = refl
not_run stages.Running is = absurd (true≢false is)
not_run stages.Shut is = refl

pub none_work : (o : Option Conn) → told_ports o ≡ false → option_map_or (λ (c : Conn). runs c.session.state.stage) o false ≡ false
none_work None is = refl
none_work (Some c) is = not_run c.session.state.stage is

none_up : (d : Dp) (o : Option Conn) → told_ports o ≡ false → option_map_or (ups_by d) o [] ≡ []
none_up d None is = refl
none_up d (Some c) is = ap (λ (b : Bool). if b then map (λ p. record { dp = d.id; port = p.no }) (filter (is_up_by c.session.state.ports) d.ports) else []) is

-- the datapath is one of these
abbrev runs_of : DpId → List Dp → Bool
runs_of dp dps = is_running (map (λ (e : Dp). e.id) dps) dp

-- one more, or not
skip : (dp : DpId) (d : Dp) (b : Bool) (rest : List Dp) → runs_of dp rest ≡ true → runs_of dp (cond b (d ∷ rest) rest) ≡ true
skip dp d true rest runs_on = elim (d.id.0 == dp.0) as (λ (c : Bool). (c || runs_of dp rest) ≡ true) [ true ↦ refl | false ↦ runs_on ]
skip dp d false rest runs_on = runs_on

join : (b c e : Bool) → (b || c) ≡ true → (c ≡ true → e ≡ true) → (b || e) ≡ true
join true c e one more = refl
join false c e one more = more one

both : (dp : DpId) (d : Dp) (b : Bool) (xs ys : List Dp) → (runs_of dp xs ≡ true → runs_of dp ys ≡ true) → runs_of dp (cond b (d ∷ xs) xs) ≡ true → runs_of dp (cond b (d ∷ ys) ys) ≡ true
both dp d true xs ys more is = join (d.id.0 == dp.0) (runs_of dp xs) (runs_of dp ys) is more
both dp d false xs ys more is = more is

abbrev up_at : DpId → ℕ → UpRec → Bool
up_at dp port up = up.dp.0 == dp.0 && up.port == port

later : (b c : Bool) → c ≡ true → (b || c) ≡ true
later true c is = refl
later false c is = is

module _ (after before : List Conn) (less : (id : DpId) → Less (conn_of after id) (conn_of before id)) where
  runs_one : (d : Dp) (ds : List Dp) (dp : DpId) → (runs_of dp (filter (is_at_work after) ds) ≡ true → runs_of dp (filter (is_at_work before) ds) ≡ true) → Less (conn_of after d.id) (conn_of before d.id)
      → runs_of dp (filter (is_at_work after) (d ∷ ds)) ≡ true → runs_of dp (filter (is_at_work before) (d ∷ ds)) ≡ true
  runs_one d ds dp more (inl none) is =
      skip dp d (is_at_work before d) (filter (is_at_work before) ds)
      (more (subst (λ (b : Bool). runs_of dp (cond b (d ∷ filter (is_at_work after) ds) (filter (is_at_work after) ds)) ≡ true) (none_work (conn_of after d.id) none) is))
  runs_one d ds dp more (inr same) is =
      let alike : is_at_work after d ≡ is_at_work before d = ap (λ (o : Option Conn). option_map_or (λ (c : Conn). runs c.session.state.stage) o false) same in
      both dp d (is_at_work before d) (filter (is_at_work after) ds) (filter (is_at_work before) ds) more
      (subst (λ (b : Bool). runs_of dp (cond b (d ∷ filter (is_at_work after) ds) (filter (is_at_work after) ds)) ≡ true) alike is)

  runs_less : (dps : List Dp) (dp : DpId) → runs_of dp (filter (is_at_work after) dps) ≡ true → runs_of dp (filter (is_at_work before) dps) ≡ true
  runs_less [] dp is = is
  runs_less (d ∷ ds) dp is = runs_one d ds dp (runs_less ds dp) (less d.id) is

  ups_one : (d : Dp) (ds : List Dp) (dp : DpId) (port : ℕ) → (is_up (flat_map (ups_on after) ds) dp port ≡ true → is_up (flat_map (ups_on before) ds) dp port ≡ true) → Less (conn_of after d.id) (conn_of before d.id)
      → is_up (ups_on after d ++ flat_map (ups_on after) ds) dp port ≡ true → is_up (ups_on before d ++ flat_map (ups_on before) ds) dp port ≡ true
  ups_one d ds dp port more (inl none) is =
      list_any-append (up_at dp port) (ups_on before d) (flat_map (ups_on before) ds)
      ∙ later (list_any (up_at dp port) (ups_on before d)) (list_any (up_at dp port) (flat_map (ups_on before) ds))
      (more (subst (λ (ups : List UpRec). list_any (up_at dp port) (ups ++ flat_map (ups_on after) ds) ≡ true) (none_up d (conn_of after d.id) none) is))
  ups_one d ds dp port more (inr same) is =
      let alike : ups_on after d ≡ ups_on before d = ap (λ (o : Option Conn). option_map_or (ups_by d) o []) same in
      list_any-append (up_at dp port) (ups_on before d) (flat_map (ups_on before) ds)
      ∙ join (list_any (up_at dp port) (ups_on before d)) (list_any (up_at dp port) (flat_map (ups_on after) ds)) (list_any (up_at dp port) (flat_map (ups_on before) ds))
      (ap (λ (ups : List UpRec). list_any (up_at dp port) ups || list_any (up_at dp port) (flat_map (ups_on after) ds)) (sym alike)
      ∙ sym (list_any-append (up_at dp port) (ups_on after d) (flat_map (ups_on after) ds)) ∙ is)
      more

  ups_less : (dps : List Dp) (dp : DpId) (port : ℕ) → is_up (flat_map (ups_on after) dps) dp port ≡ true → is_up (flat_map (ups_on before) dps) dp port ≡ true
  ups_less [] dp port is = is
  ups_less (d ∷ ds) dp port is = ups_one d ds dp port (ups_less ds dp port) (less d.id) is

  pub stands_less : (conf : Configuration) (h : HostRec) → stands (running_of conf after) (ups_of conf after) h ≡ true → stands (running_of conf before) (ups_of conf before) h ≡ true
  stands_less conf h is =
      let parts = and_parts (is_running (running_of conf after) h.dp) (is_up (ups_of conf after) h.dp h.port) is in
      and_from (is_running (running_of conf before) h.dp) (is_up (ups_of conf before) h.dp h.port) (runs_less conf.dps h.dp parts.0) (ups_less conf.dps h.dp h.port parts.1)
