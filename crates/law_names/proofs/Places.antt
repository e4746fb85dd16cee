-- Which datapaths run and which ports are up, by the connections.
use Rattle.std.proofs.Common.{◌≡◌, ℕ, Bool, true, false, cond, ◌==◌, ◌&&◌, ◌||◌, not, if◌then◌else◌, List, [], ◌∷◌, map, filter, Option, Some, None, inl, inr, refl, sym, ap, ◌∙◌, subst, nat_lt, eqb-true, true≢false}
use Rattle.std.specs.Prelude.{Contains, IsTrue, is_some}
use Rattle.std.specs.List.{cons_option, filter_map, flat_map, list_any}
use Rattle.std.specs.Option.{option_and_then, option_map, option_map_or}
use Rattle.std.proofs.lemmas.Bool.{and_parts, cases_Bool}
use Rattle.std.proofs.lemmas.List.Folds.{list_any-append}
use Rattle.net_base.specs.declared.numbers.DpId.{DpId}
use Rattle.conf_types.specs.declared.datapath.Dp.{Dp}
use Rattle.conf_types.specs.declared.datapath.Port.{Port}
use Rattle.conf_types.specs.declared.state.UpRec.{UpRec}
use Rattle.conf_types.specs.Configuration.{Configuration, dp_with, port_at, port_with}
use Rattle.conf_types.specs.Links.{is_up}
use Rattle.conf_types.specs.State.{is_running}
use Rattle.conf_types.specs.Valid.{IsValid}
use Rattle.switch_session.specs.declared.ports.PortTold.{PortTold}
use Rattle.switch_session.specs.declared.state.Stage.{Stage}
use Rattle.law_runs.specs.Members.{head_of, in_flat, in_mapped, of_all, tail_of}
use Rattle.plan_units.specs.Facts.{found, some_passes}
use Rattle.ctl_world.specs.declared.conns.Conn.{Conn}
use Rattle.ctl_world.specs.Connections.{change as changed, conn_of, has_number, is_of, put, without}
use Rattle.ctl_world.specs.World.{has_ports, is_at_work, is_up_by, running_of, runs, ups_by, ups_of, ups_on}
use Rattle.ctl_world.proofs.SoundPlaces.{nothing_valid}
use Rattle.conf_types.specs.declared.change.Change.{Change}
use Rattle.conf_types.specs.declared.change.Change.TheVariants as change
use Rattle.law_names.specs.Ends.{dps_on, place, places}

-- what counts of a connection: its stage, and the ports that were told
abbrev pub Seen : Type 0
Seen = Stage × List PortTold

abbrev pub seen : Conn → Seen
seen c = (c.session.state.stage, c.session.state.ports)

abbrev pub seen_of : List Conn → DpId → Option Seen
seen_of conns dp = option_map seen (conn_of conns dp)

same_id : (a b : DpId) → (a.0 == b.0) ≡ true → a ≡ b
same_id a b is = let same = eqb-true a.0 b.0 is in λ i. record { 0 = same i }

module _ {A : Type 0} (g : Seen → A) (none : A) where
  by_seen : (o : Option Conn) → option_map_or (λ c. g (seen c)) o none ≡ option_map_or g (option_map seen o) none
  by_seen (Some c) = refl
  by_seen None = refl

  seen_alike : (a b : Option Conn) → option_map seen a ≡ option_map seen b → option_map_or (λ c. g (seen c)) a none ≡ option_map_or (λ c. g (seen c)) b none
  seen_alike a b same = by_seen a ∙ ap (λ o. option_map_or g o none) same ∙ sym (by_seen b)

-- ---- a datapath whose connection is seen the same

module _ (v w : List Conn) (dp : DpId) (same : seen_of v dp ≡ seen_of w dp) where
  at_id : (d : Dp) → (d.id.0 == dp.0) ≡ true → seen_of v d.id ≡ seen_of w d.id
  at_id d is = subst (λ e. seen_of v e ≡ seen_of w e) (sym (same_id d.id dp is)) same

  works : (d : Dp) → (d.id.0 == dp.0) ≡ true → is_at_work v d ≡ is_at_work w d
  works d is = seen_alike (λ s. runs s.0) false (conn_of v d.id) (conn_of w d.id) (at_id d is)

  abbrev ids : List Conn → List Dp → List DpId
  ids conns dps = map (λ d. d.id) (filter (is_at_work conns) dps)

  passed : (d : Dp) (b : Bool) (ds : List Dp) → (d.id.0 == dp.0) ≡ false → is_running (map (λ e. e.id) (cond b (d ∷ ds) ds)) dp ≡ is_running (map (λ e. e.id) ds) dp
  passed d true ds out = ap (λ b. b || is_running (map (λ e. e.id) ds) dp) out
  passed d false ds out = refl

  run_in : (dps : List Dp) → is_running (ids v dps) dp ≡ is_running (ids w dps) dp
  run_in [] = refl
  run_in (d ∷ ds) = by (d.id.0 == dp.0) refl (run_in ds)
    where
      both : (b : Bool) → is_running (ids v ds) dp ≡ is_running (ids w ds) dp → is_running (map (λ e. e.id) (cond b (d ∷ filter (is_at_work v) ds) (filter (is_at_work v) ds))) dp
          ≡ is_running (map (λ e. e.id) (cond b (d ∷ filter (is_at_work w) ds) (filter (is_at_work w) ds))) dp
      both true more = ap (λ r. (d.id.0 == dp.0) || r) more
      both false more = more

      by : (b : Bool) → (d.id.0 == dp.0) ≡ b → is_running (ids v ds) dp ≡ is_running (ids w ds) dp → is_running (ids v (d ∷ ds)) dp ≡ is_running (ids w (d ∷ ds)) dp
      by true is more =
          ap (λ b. is_running (map (λ (e : Dp). e.id) (cond b (d ∷ filter (is_at_work v) ds) (filter (is_at_work v) ds))) dp) (works d is) ∙ both (is_at_work w d) more
      by false is more = passed d (is_at_work v d) (filter (is_at_work v) ds) is ∙ more ∙ sym (passed d (is_at_work w d) (filter (is_at_work w) ds) is)

  pub run_same : (conf : Configuration) → is_running (running_of conf v) dp ≡ is_running (running_of conf w) dp
  run_same conf = run_in conf.dps

  module _ (number : ℕ) where
    abbrev is_it : UpRec → Bool
    is_it up = up.dp.0 == dp.0 && up.port == number

    ups_same : (d : Dp) → (d.id.0 == dp.0) ≡ true → ups_on v d ≡ ups_on w d
    ups_same d is = seen_alike (λ s. if has_ports s.0 then map (λ p. record { dp = d.id; port = p.no }) (filter (is_up_by s.1) d.ports) else []) [] (conn_of v d.id) (conn_of w d.id) (at_id d is)

    none_of : (d : Dp) → (d.id.0 == dp.0) ≡ false → (ps : List Port) → list_any is_it (map (λ p. record { dp = d.id; port = p.no }) ps) ≡ false
    none_of d out [] = refl
    none_of d out (p ∷ ps) = ap (λ b. (b && p.no == number) || list_any is_it (map (λ (q : Port). record { dp = d.id; port = q.no }) ps)) out ∙ none_of d out ps

    none_on : (conns : List Conn) (d : Dp) → (d.id.0 == dp.0) ≡ false → list_any is_it (ups_on conns d) ≡ false
    none_on conns d out = by (conn_of conns d.id)
      where
        of_stage : (b : Bool) (ps : List Port) → list_any is_it (if b then map (λ p. record { dp = d.id; port = p.no }) ps else []) ≡ false
        of_stage true ps = none_of d out ps
        of_stage false ps = refl

        by : (o : Option Conn) → list_any is_it (option_map_or (ups_by d) o []) ≡ false
        by None = refl
        by (Some c) = of_stage (has_ports c.session.state.stage) (filter (is_up_by c.session.state.ports) d.ports)

    up_in : (dps : List Dp) → is_up (flat_map (ups_on v) dps) dp number ≡ is_up (flat_map (ups_on w) dps) dp number
    up_in [] = refl
    up_in (d ∷ ds) = list_any-append is_it (ups_on v d) (flat_map (ups_on v) ds) ∙ by (d.id.0 == dp.0) refl (up_in ds) ∙ sym (list_any-append is_it (ups_on w d) (flat_map (ups_on w) ds))
      where
        by : (b : Bool) → (d.id.0 == dp.0) ≡ b → is_up (flat_map (ups_on v) ds) dp number ≡ is_up (flat_map (ups_on w) ds) dp number
            → (list_any is_it (ups_on v d) || list_any is_it (flat_map (ups_on v) ds)) ≡ (list_any is_it (ups_on w d) || list_any is_it (flat_map (ups_on w) ds))
        by true is more = ap (λ us. list_any is_it us || list_any is_it (flat_map (ups_on v) ds)) (ups_same d is) ∙ ap (λ r. list_any is_it (ups_on w d) || r) more
        by false is more = ap (λ b. b || list_any is_it (flat_map (ups_on v) ds)) (none_on v d is) ∙ more ∙ sym (ap (λ b. b || list_any is_it (flat_map (ups_on w) ds)) (none_on w d is))

    pub up_same : (conf : Configuration) → is_up (ups_of conf v) dp number ≡ is_up (ups_of conf w) dp number
    up_same conf = up_in conf.dps

-- ---- what runs or is up otherwise is named

module _ (conf : Configuration) (valid : IsValid conf) where
  port_placed : (conns : List Conn) (dp : DpId) (number : ℕ) → is_up (ups_of conf conns) dp number ≡ true → Contains (place conf dp) (change.Port dp number)
  port_placed conns dp number up = by (dp_with conf.dps dp) there
    where
      there : IsTrue (is_some (port_at conf dp number))
      there =
          let one = some_passes (λ (u : UpRec). u.dp.0 == dp.0 && u.port == number) (ups_of conf conns) up in
          let parts = and_parts (one.0.dp.0 == dp.0) (one.0.port == number) (one.1).passes in
          let is = of_all (λ (u : UpRec). IsTrue (is_some (port_at conf u.dp u.port))) (ups_of conf conns) (nothing_valid conf conns valid 0).ups one.0 (one.1).within in
          subst (λ n. IsTrue (is_some (port_at conf dp n))) (eqb-true one.0.port number parts.1)
          (subst (λ e. IsTrue (is_some (port_at conf e one.0.port))) (same_id one.0.dp dp parts.0) is)

      at : (d : Dp) (o : Option Port) → port_with d.ports number ≡ o → IsTrue (is_some o) → Contains (map (λ p. change.Port dp p.no) d.ports) (change.Port dp number)
      at d None none is = absurd (true≢false (sym is))
      at d (Some p) some is =
          let f = found (λ (q : Port). q.no == number) d.ports p some in
          subst (λ n. Contains (map (λ (q : Port). change.Port dp q.no) d.ports) (change.Port dp n)) (eqb-true p.no number f.passes) (in_mapped (λ (q : Port). change.Port dp q.no) d.ports p f.within)

      by : (o : Option Dp) → IsTrue (is_some (option_and_then (λ d. port_with d.ports number) o)) → Contains (change.Dp dp ∷ map (λ p. change.Port dp p.no) (option_map_or (λ d. d.ports) o [])) (change.Port dp number)
      by None is = absurd (true≢false (sym is))
      by (Some d) is = tail_of (change.Dp dp) _ (change.Port dp number) (at d (port_with d.ports number) refl is)

  module _ (v w : List Conn) (dps : List DpId) (rest : (dp : DpId) → is_running dps dp ≡ false → seen_of v dp ≡ seen_of w dp) where
    placed : (dp : DpId) (c : Change) → is_running dps dp ≡ true → Contains (place conf dp) c → Contains (places conf dps) c
    placed dp c is here =
        let one = some_passes (λ (e : DpId). e.0 == dp.0) dps is in
        in_flat (place conf) dps one.0 c (one.1).within (subst (λ e. Contains (place conf e) c) (sym (same_id one.0 dp (one.1).passes)) here)

    pub dp_named : (dp : DpId) → (is_running (running_of conf v) dp ≡ is_running (running_of conf w) dp → ⊥) → Contains (places conf dps) (change.Dp dp)
    dp_named dp other = elim (cases_Bool (is_running dps dp)) [
      | inl is ↦ placed dp (change.Dp dp) is (head_of (change.Dp dp) _)
      | inr out ↦ absurd (other (run_same v w dp (rest dp out) conf))
    ]

    pub port_named : (dp : DpId) (number : ℕ) → (is_up (ups_of conf v) dp number ≡ is_up (ups_of conf w) dp number → ⊥) → Contains (places conf dps) (change.Port dp number)
    port_named dp number other = elim (cases_Bool (is_running dps dp)) [
      | inl is ↦ placed dp (change.Port dp number) is (elim (cases_Bool (is_up (ups_of conf v) dp number)) [
        | inl up ↦ port_placed v dp number up
        | inr down ↦ elim (cases_Bool (is_up (ups_of conf w) dp number)) [
          | inl up ↦ port_placed w dp number up
          | inr too ↦ absurd (other (down ∙ sym too))
        ]
      ])
      | inr out ↦ absurd (other (up_same v w dp (rest dp out) number conf))
    ]

-- ---- how connections change

pub or_none : (a b : Bool) → (a || b) ≡ false → (a ≡ false) × (b ≡ false)
or_none true b is = absurd (true≢false is)
or_none false b is = (refl, is)

pub out_of : (o : Option DpId) (ds : List DpId) (dp : DpId) → is_running (cons_option o ds) dp ≡ false → (option_map_or (λ d. d.0 == dp.0) o false ≡ false) × (is_running ds dp ≡ false)
out_of None ds dp is = (refl, is)
out_of (Some d) ds dp is = or_none (d.0 == dp.0) (is_running ds dp) is

module _ (number : ℕ) (dp : DpId) where
  abbrev on : Bool → Conn → List Conn → List DpId
  on b c cs = filter_map (λ (x : Conn). x.dp) (cond b (c ∷ filter (has_number number) cs) (filter (has_number number) cs))

  pub without_same : (conns : List Conn) → is_running (dps_on number conns) dp ≡ false → conn_of (without number conns) dp ≡ conn_of conns dp
  without_same [] out = refl
  without_same (c ∷ cs) out = by (has_number number c) (λ o. without_same cs o) out
    where
      by : (b : Bool) → (is_running (dps_on number cs) dp ≡ false → conn_of (without number cs) dp ≡ conn_of cs dp) → is_running (on b c cs) dp ≡ false
          → conn_of (cond (not b) (c ∷ without number cs) (without number cs)) dp ≡ cond (is_of dp c) (Some c) (conn_of cs dp)
      by true more is = let o = out_of c.dp (dps_on number cs) dp is in more o.1 ∙ sym (ap (λ t. cond t (Some c) (conn_of cs dp)) o.0)
      by false more is = ap (cond (is_of dp c) (Some c)) (more is)

  pub changed_same : (f : Conn → Conn) → ((c : Conn) → is_of dp c ≡ false → is_of dp (f c) ≡ false) → (conns : List Conn) → is_running (dps_on number conns) dp ≡ false → conn_of (changed number f conns) dp ≡ conn_of conns dp
  changed_same f keeps [] out = refl
  changed_same f keeps (c ∷ cs) out = by (has_number number c) (λ o. changed_same f keeps cs o) out
    where
      by : (b : Bool) → (is_running (dps_on number cs) dp ≡ false → conn_of (changed number f cs) dp ≡ conn_of cs dp) → is_running (on b c cs) dp ≡ false
          → conn_of (if b then f c ∷ cs else c ∷ changed number f cs) dp ≡ cond (is_of dp c) (Some c) (conn_of cs dp)
      by true more is =
          let o = out_of c.dp (dps_on number cs) dp is in
          ap (λ t. cond t (Some (f c)) (conn_of cs dp)) (keeps c o.0) ∙ sym (ap (λ t. cond t (Some c) (conn_of cs dp)) o.0)
      by false more is = ap (cond (is_of dp c) (Some c)) (more is)

  -- one that keeps its datapath, its stage and its ports
  pub kept_same : (f : Conn → Conn) → ((c : Conn) → (f c).dp ≡ c.dp) → ((c : Conn) → seen (f c) ≡ seen c) → (conns : List Conn) → seen_of (changed number f conns) dp ≡ seen_of conns dp
  kept_same f dps sees [] = refl
  kept_same f dps sees (c ∷ cs) = by (has_number number c) (kept_same f dps sees cs)
    where
      here : (b : Bool) → option_map seen (cond b (Some (f c)) (conn_of cs dp)) ≡ option_map seen (cond b (Some c) (conn_of cs dp))
      here true = ap Some (sees c)
      here false = refl

      there : (b : Bool) → seen_of (changed number f cs) dp ≡ seen_of cs dp → option_map seen (cond b (Some c) (conn_of (changed number f cs) dp)) ≡ option_map seen (cond b (Some c) (conn_of cs dp))
      there true more = refl
      there false more = more

      by : (b : Bool) → seen_of (changed number f cs) dp ≡ seen_of cs dp → seen_of (if b then f c ∷ cs else c ∷ changed number f cs) dp ≡ option_map seen (cond (is_of dp c) (Some c) (conn_of cs dp))
      by true more = ap (λ o. option_map seen (cond (option_map_or (λ (d : DpId). d.0 == dp.0) o false) (Some (f c)) (conn_of cs dp))) (dps c) ∙ here (is_of dp c)
      by false more = there (is_of dp c) more

-- one that has no datapath yet
pub put_same : (c : Conn) → c.dp ≡ None → (dp : DpId) (conns : List Conn) → conn_of (put c conns) dp ≡ conn_of conns dp
put_same c none dp [] = ap (λ o. cond (option_map_or (λ (d : DpId). d.0 == dp.0) o false) (Some c) None) none
put_same c none dp (d ∷ ds) = by (nat_lt c.number d.number) (put_same c none dp ds)
  where
    by : (b : Bool) → conn_of (put c ds) dp ≡ conn_of ds dp → conn_of (if b then c ∷ d ∷ ds else d ∷ put c ds) dp ≡ cond (is_of dp d) (Some d) (conn_of ds dp)
    by true more = ap (λ o. cond (option_map_or (λ (e : DpId). e.0 == dp.0) o false) (Some c) (conn_of (d ∷ ds) dp)) none
    by false more = ap (cond (is_of dp d) (Some d)) more
