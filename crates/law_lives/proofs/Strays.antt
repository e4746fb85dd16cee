-- Where a reload has the configuration that is in force, a connection that it closes is of none of its datapaths: so no host goes, and
-- no interface goes down.
use Rattle.std.proofs.Common.{◌≡◌, ℕ, ◌<◌, ◌==◌, ◌&&◌, ◌++◌, Bool, true, false, cond, not, is_some, Option, Some, None, List, [], ◌∷◌, filter, find, map, inl, inr, refl, sym, ap, ◌∙◌, subst, arith, append_assoc, eq-eqb, true≢false, if◌then◌else◌}
use Rattle.std.specs.List.{AllByRecursion, flat_map}
use Rattle.std.specs.Option.{option_map_or}
use Rattle.std.proofs.lemmas.Bool.{and_from, cases_Bool, eqb-true}
use Rattle.net_base.specs.declared.numbers.DpId.{DpId}
use Rattle.conf_types.specs.declared.datapath.Dp.{Dp}
use Rattle.conf_types.specs.declared.state.HostRec.{HostRec}
use Rattle.conf_types.specs.declared.state.UpRec.{UpRec}
use Rattle.conf_types.specs.Configuration.{Configuration, dp_with}
use Rattle.conf_types.specs.Lists.{EachBefore}
use Rattle.conf_types.specs.Links.{is_up}
use Rattle.conf_types.specs.State.{IsHost, is_running}
use Rattle.conf_types.proofs.Reached.{same_id}
use Rattle.host_learn.specs.Table.{Table}
use Rattle.host_learn.proofs.Lists.{all_map, all_part, filter_part}
use Rattle.switch_session.specs.declared.closing.Closing.TheVariants.{UnknownDp}
use Rattle.ctl_world.specs.declared.conns.Conn.{Conn}
use Rattle.ctl_world.specs.Connections.{conn_of, has_number, is_of, is_open, without}
use Rattle.ctl_world.specs.Ends.{close, stands}
use Rattle.ctl_world.specs.World.{IsSound, World, is_at_work, now, running_of, runs, ups_by, ups_of, ups_on}
use Rattle.ctl_core.specs.Reloading.{close_each, close_stray, is_gone, is_stray, strays}
use Rattle.law_lives.proofs.ReloadsKept.{filter_whole}

-- ---- the datapaths of a configuration

module _ (test : Dp → Bool) where
  found_there : (first : List Dp) (d : Dp) (more : List Dp) → test d ≡ true → is_some (find test (first ++ d ∷ more)) ≡ true
  found_there [] d more passes = ap (λ b. is_some (cond b (Some d) (find test more))) passes
  found_there (e ∷ first) d more passes =
      elim (test e) as (λ b. is_some (cond b (Some e) (find test (first ++ d ∷ more))) ≡ true) [ true ↦ refl | false ↦ found_there first d more passes ]

each_known : (first more : List Dp) → AllByRecursion (λ (d : Dp). is_some (find (λ (e : Dp). e.id.0 == d.id.0) (first ++ more)) ≡ true) more
each_known first [] = tt
each_known first (d ∷ more) = (
  found_there (λ (e : Dp). e.id.0 == d.id.0) first d more (eq-eqb d.id.0 d.id.0 refl),
  subst (λ (dps : List Dp). AllByRecursion (λ (k : Dp). is_some (find (λ (e : Dp). e.id.0 == k.id.0) dps) ≡ true) more) (append_assoc first (d ∷ []) more) (each_known (first ++ d ∷ []) more),
)

-- ---- a connection that is closed

module _ (conf : Configuration) where
  abbrev IsKnown : DpId → Type 0
  IsKnown dp = is_some (dp_with conf.dps dp) ≡ true

  stray_off : (dp : DpId) → IsKnown dp → (c : Conn) → is_stray conf c ≡ true → is_of dp c ≡ false
  stray_off dp known c stray = by c.dp stray
    where
      by : (o : Option DpId) → option_map_or (is_gone conf) o false ≡ true → option_map_or (λ (d : DpId). d.0 == dp.0) o false ≡ false
      by None is = refl
      by (Some d) is =
          elim (cases_Bool (d.0 == dp.0)) [
            | inl same ↦
                absurd (true≢false (sym is ∙ ap (λ (id : DpId). not (is_some (dp_with conf.dps id))) (same_id d dp (eqb-true d.0 dp.0 same)) ∙ ap not known))
            | inr off ↦ off
          ]

  -- each connection with this number is such
  abbrev AreStray : List Conn → ℕ → Type 0
  AreStray conns n = AllByRecursion (λ (c : Conn). c.number ≡ n → is_stray conf c ≡ true) conns

  without_stray : (n : ℕ) (conns : List Conn) → AreStray conns n → (dp : DpId) → IsKnown dp → conn_of (without n conns) dp ≡ conn_of conns dp
  without_stray n [] all dp known = refl
  without_stray n (x ∷ xs) all dp known =
      elim (cases_Bool (has_number n x)) [
        | inl here ↦
            let off : is_of dp x ≡ false = stray_off dp known x (all.0 (eqb-true x.number n here)) in
            ap (λ b. conn_of (cond (not b) (x ∷ without n xs) (without n xs)) dp) here ∙ without_stray n xs all.1 dp known
            ∙ ap (λ b. cond b (Some x) (conn_of xs dp)) (sym off)
        | inr other ↦
            ap (λ b. conn_of (cond (not b) (x ∷ without n xs) (without n xs)) dp) other
            ∙ ap (cond (is_of dp x) (Some x)) (without_stray n xs all.1 dp known)
      ]

  left_stray : (k n : ℕ) (conns : List Conn) → AreStray conns n → AreStray (without k conns) n
  left_stray k n conns all =
      all_part (λ (c : Conn). c.number ≡ n → is_stray conf c ≡ true) (without k conns) conns all (filter_part (λ (c : Conn). not (has_number k c)) conns)

  -- ---- numbers are those of one connection each

  above_strays : (k : ℕ) (conns : List Conn) → AllByRecursion (λ (c : Conn). k < c.number) conns → AllByRecursion (λ (n : ℕ). k < n) (strays conf conns)
  above_strays k [] above = tt
  above_strays k (x ∷ xs) above =
      elim (is_stray conf x) as (λ b. AllByRecursion (λ (n : ℕ). k < n) (map (λ (c : Conn). c.number) (cond b (x ∷ filter (is_stray conf) xs) (filter (is_stray conf) xs)))) [
        | true ↦ (above.0, above_strays k xs above.1)
        | false ↦ above_strays k xs above.1
      ]

  none_same : (k : ℕ) (conns : List Conn) → AllByRecursion (λ (c : Conn). k < c.number) conns → AreStray conns k
  none_same k conns above = all_map (λ (c : Conn). k < c.number) (λ (c : Conn). c.number ≡ k → is_stray conf c ≡ true) (λ c less same. absurd (omega (arith, less, same))) conns above

  one_more : (x : Conn) (xs : List Conn) (numbers : List ℕ) → AllByRecursion (λ (n : ℕ). x.number < n) numbers → AllByRecursion (AreStray xs) numbers → AllByRecursion (AreStray (x ∷ xs)) numbers
  one_more x xs [] above all = tt
  one_more x xs (n ∷ numbers) above all = ((λ same. absurd (omega (arith, above.0, same)), all.0), one_more x xs numbers above.1 all.1)

  are_stray : (conns : List Conn) → EachBefore (λ (a b : Conn). a.number < b.number) conns → AllByRecursion (AreStray conns) (strays conf conns)
  are_stray [] ordered = tt
  are_stray (x ∷ xs) ordered =
      let later : AllByRecursion (AreStray (x ∷ xs)) (strays conf xs) = one_more x xs (strays conf xs) (above_strays x.number xs ordered.0) (are_stray xs ordered.1) in
      by (is_stray conf x) refl later
    where
      by : (b : Bool) → is_stray conf x ≡ b → AllByRecursion (AreStray (x ∷ xs)) (strays conf xs)
          → AllByRecursion (AreStray (x ∷ xs)) (map (λ (c : Conn). c.number) (cond (is_stray conf x) (x ∷ filter (is_stray conf) xs) (filter (is_stray conf) xs)))
      by true stray later =
          subst (λ (b : Bool). AllByRecursion (AreStray (x ∷ xs)) (map (λ (c : Conn). c.number) (cond b (x ∷ filter (is_stray conf) xs) (filter (is_stray conf) xs)))) (sym stray)
          ((λ same. stray, none_same x.number xs ordered.0), later)
      by false other later =
          subst (λ (b : Bool). AllByRecursion (AreStray (x ∷ xs)) (map (λ (c : Conn). c.number) (cond b (x ∷ filter (is_stray conf) xs) (filter (is_stray conf) xs)))) (sym other) later

  -- ---- what runs, and what is up

  abbrev IsSameAt : List Conn → List Conn → Type 0
  IsSameAt after before = (dp : DpId) → IsKnown dp → conn_of after dp ≡ conn_of before dp

  module _ (after before : List Conn) (same : IsSameAt after before) where
    filter_same : (dps : List Dp) → AllByRecursion (λ (d : Dp). IsKnown d.id) dps → filter (is_at_work after) dps ≡ filter (is_at_work before) dps
    filter_same [] known = refl
    filter_same (d ∷ dps) known =
        ap (λ (o : Option Conn). cond (option_map_or (λ (c : Conn). runs c.session.state.stage) o false) (d ∷ filter (is_at_work after) dps) (filter (is_at_work after) dps)) (same d.id known.0)
        ∙ ap (λ (rest : List Dp). cond (is_at_work before d) (d ∷ rest) rest) (filter_same dps known.1)

    ups_each : (dps : List Dp) → AllByRecursion (λ (d : Dp). IsKnown d.id) dps → flat_map (ups_on after) dps ≡ flat_map (ups_on before) dps
    ups_each [] known = refl
    ups_each (d ∷ dps) known =
        ap (λ (o : Option Conn). option_map_or (ups_by d) o [] ++ flat_map (ups_on after) dps) (same d.id known.0)
        ∙ ap (λ (rest : List UpRec). ups_on before d ++ rest) (ups_each dps known.1)

    pub running_same : running_of conf after ≡ running_of conf before
    running_same = ap (map (λ (d : Dp). d.id)) (filter_same conf.dps (each_known [] conf.dps))

    pub ups_same : ups_of conf after ≡ ups_of conf before
    ups_same = ups_each conf.dps (each_known [] conf.dps)

-- ---- the closings of a reload

module _ (w : World) (sound : IsSound w) where
  pub record Left (v : World) : Type 0 where
    pub conf : v.conf ≡ w.conf
    pub moment : v.moment ≡ w.moment
    pub hosts : v.hosts ≡ w.hosts
    pub same : IsSameAt w.conf v.conns w.conns

  all_stand : (conns : List Conn) → IsSameAt w.conf conns w.conns → (hosts : List HostRec) → AllByRecursion (IsHost w.conf (now w)) hosts
      → AllByRecursion (λ h. stands (running_of w.conf conns) (ups_of w.conf conns) h ≡ true) hosts
  all_stand conns same [] is = tt
  all_stand conns same (h ∷ hosts) is = (
    ap (λ (dps : List DpId). stands dps (ups_of w.conf conns) h) (running_same w.conf conns w.conns same) ∙ ap (λ (ups : List UpRec). stands (running_of w.conf w.conns) ups h) (ups_same w.conf conns w.conns same)
        ∙ and_from (is_running (running_of w.conf w.conns) h.dp) (is_up (ups_of w.conf w.conns) h.dp h.port) is.0.runs is.0.up,
    all_stand conns same hosts is.1,
  )

  closed_left : (n : ℕ) (v : World) → AreStray w.conf v.conns n → Left v → Left (close UnknownDp n v)
  closed_left n v stray left =
      let conns : List Conn = without n v.conns in
      let same : IsSameAt w.conf conns w.conns = λ dp known. without_stray w.conf n v.conns stray dp known ∙ left.same dp known in
      record {
        conf = left.conf;
        moment = left.moment;
        hosts =
            (λ i. record (left.hosts i) { hosts = filter (stands (running_of (left.conf i) conns) (ups_of (left.conf i) conns)) (left.hosts i).hosts })
            ∙ ap (λ (hosts : List HostRec). record w.hosts { hosts = hosts }) (filter_whole (stands (running_of w.conf conns) (ups_of w.conf conns)) w.hosts.hosts (all_stand conns same w.hosts.hosts sound.valid.hosts));
        same = same;
      }

  -- one connection, and those behind it
  one_left : (n : ℕ) (numbers : List ℕ) (v : World) → ((u : World) → AllByRecursion (AreStray w.conf u.conns) numbers → Left u → Left (close_each numbers u))
      → AreStray w.conf v.conns n → AllByRecursion (AreStray w.conf v.conns) numbers → Left v → (b : Bool) → Left (close_each numbers (if b then close UnknownDp n v else v))
  one_left n numbers v each stray all left true =
      each (close UnknownDp n v) (all_map (AreStray w.conf v.conns) (AreStray w.conf (close UnknownDp n v).conns) (λ k is. left_stray w.conf n k v.conns is) numbers all) (closed_left n v stray left)
  one_left n numbers v each stray all left false = each v all left

  each_left : (numbers : List ℕ) (v : World) → AllByRecursion (AreStray w.conf v.conns) numbers → Left v → Left (close_each numbers v)
  each_left [] v stray left = left
  each_left (n ∷ numbers) v stray left = one_left n numbers v (λ u all so. each_left numbers u all so) stray.0 stray.1 left (is_open v.conns n)

  pub shut_left : EachBefore (λ (a b : Conn). a.number < b.number) w.conns → Left (close_each (strays w.conf w.conns) w)
  shut_left ordered =
      each_left (strays w.conf w.conns) w (are_stray w.conf w.conns ordered) (record { conf = refl; moment = refl; hosts = refl; same = λ dp known. refl })
