-- Whether one datapath runs, and whether one interface is up, asked of that datapath alone.
use Rattle.std.proofs.Common.{◌≡◌, ℕ, ◌==◌, ◌&&◌, ◌||◌, Bool, true, false, cond, Option, Some, None, List, [], ◌∷◌, ◌++◌, refl, sym, ap, ◌∙◌, eq-eqb}
use Rattle.std.specs.Prelude.{map, filter}
use Rattle.std.specs.List.{AllByRecursion, flat_map, list_any}
use Rattle.std.specs.Option.{option_map_or}
use Rattle.std.proofs.lemmas.Bool.{ne_eqb, eqb-true}
use Rattle.std.proofs.lemmas.List.Folds.{list_any-append}
use Rattle.net_base.specs.declared.numbers.DpId.{DpId}
use Rattle.conf_types.specs.declared.datapath.Dp.{Dp}
use Rattle.conf_types.specs.declared.datapath.Port.{Port}
use Rattle.conf_types.specs.declared.state.UpRec.{UpRec}
use Rattle.conf_types.specs.Configuration.{dp_with}
use Rattle.conf_types.specs.Links.{is_up}
use Rattle.conf_types.specs.Lists.{EachBefore}
use Rattle.conf_types.specs.State.{is_running}
use Rattle.conf_types.proofs.Found.{found}
use Rattle.ctl_world.specs.declared.conns.Conn.{Conn}
use Rattle.ctl_world.specs.Connections.{conn_of}
use Rattle.ctl_world.specs.World.{has_ports, is_at_work, is_up_by, ups_by, ups_on}

-- no two datapaths have one identifier
abbrev AreApart : List Dp → Type 0
AreApart dps = EachBefore (λ d e. d.id.0 ≡ e.id.0 → ⊥) dps

module _ (conns : List Conn) (dp : DpId) where
  abbrev is_it : Dp → Bool
  is_it d = d.id.0 == dp.0

  -- of others than this one
  all_other : (d : Dp) (ds : List Dp) → is_it d ≡ true → AllByRecursion (λ e. d.id.0 ≡ e.id.0 → ⊥) ds → AllByRecursion (λ e. is_it e ≡ false) ds
  all_other d [] is apart = tt
  all_other d (e ∷ es) is apart =
      (ne_eqb e.id.0 dp.0 (λ same. apart.0 (eqb-true d.id.0 dp.0 is ∙ sym same)), all_other d es is apart.1)

  none_runs : (ds : List Dp) → AllByRecursion (λ e. is_it e ≡ false) ds → is_running (map (λ d. d.id) (filter (is_at_work conns) ds)) dp ≡ false
  none_runs [] all = refl
  none_runs (d ∷ ds) all = by (is_at_work conns d) (none_runs ds all.1)
    where
      by : (c : Bool) → is_running (map (λ d. d.id) (filter (is_at_work conns) ds)) dp ≡ false → is_running (map (λ d. d.id) (cond c (d ∷ filter (is_at_work conns) ds) (filter (is_at_work conns) ds))) dp ≡ false
      by true more = rw all.0 more
      by false more = more

  -- a datapath runs where it is at work
  pub runs_at : (ds : List Dp) → AreApart ds → is_running (map (λ d. d.id) (filter (is_at_work conns) ds)) dp ≡ option_map_or (is_at_work conns) (dp_with ds dp) false
  runs_at [] apart = refl
  runs_at (d ∷ ds) apart = by (is_it d) refl (is_at_work conns d) refl (runs_at ds apart.1)
    where
      by : (b : Bool) → is_it d ≡ b → (c : Bool) → is_at_work conns d ≡ c
          → is_running (map (λ d. d.id) (filter (is_at_work conns) ds)) dp ≡ option_map_or (is_at_work conns) (dp_with ds dp) false
          → is_running (map (λ d. d.id) (cond c (d ∷ filter (is_at_work conns) ds) (filter (is_at_work conns) ds))) dp ≡ option_map_or (is_at_work conns) (cond b (Some d) (dp_with ds dp)) false
      by true is true works more = rw is (sym works)
      by true is false works more = none_runs ds (all_other d ds is apart.0) ∙ sym works
      by false is true works more = rw is more
      by false is false works more = more

  module _ (number : ℕ) where
    off_by : (d : Dp) (ps : List Port) → is_it d ≡ false → is_up (map (λ p. record { dp = d.id; port = p.no }) ps) dp number ≡ false
    off_by d [] is = refl
    off_by d (p ∷ ps) is = ap (λ b. b && p.no == number || is_up (map (λ p. record { dp = d.id; port = p.no }) ps) dp number) is ∙ off_by d ps is

    off_on : (d : Dp) → is_it d ≡ false → is_up (ups_on conns d) dp number ≡ false
    off_on d is = at (conn_of conns d.id)
      where
        by : (c : Conn) (b : Bool) → is_up (cond b (map (λ p. record { dp = d.id; port = p.no }) (filter (is_up_by c.session.state.ports) d.ports)) []) dp number ≡ false
        by c true = off_by d (filter (is_up_by c.session.state.ports) d.ports) is
        by c false = refl

        at : (o : Option Conn) → is_up (option_map_or (ups_by d) o []) dp number ≡ false
        at (Some c) = by c (has_ports c.session.state.stage)
        at None = refl

    both : (ups more : List UpRec) → is_up (ups ++ more) dp number ≡ (is_up ups dp number || is_up more dp number)
    both ups more = list_any-append (λ up. up.dp.0 == dp.0 && up.port == number) ups more

    none_up : (ds : List Dp) → AllByRecursion (λ e. is_it e ≡ false) ds → is_up (flat_map (ups_on conns) ds) dp number ≡ false
    none_up [] all = refl
    none_up (d ∷ ds) all = both (ups_on conns d) (flat_map (ups_on conns) ds) ∙ ap (λ b. b || is_up (flat_map (ups_on conns) ds) dp number) (off_on d all.0) ∙ none_up ds all.1

    or_false : (b : Bool) → (b || false) ≡ b
    or_false true = refl
    or_false false = refl

    -- an interface of a datapath is up where it is of that datapath's connection
    pub ups_at : (ds : List Dp) → AreApart ds → is_up (flat_map (ups_on conns) ds) dp number ≡ option_map_or (λ d. is_up (ups_on conns d) dp number) (dp_with ds dp) false
    ups_at [] apart = refl
    ups_at (d ∷ ds) apart = both (ups_on conns d) (flat_map (ups_on conns) ds) ∙ by (is_it d) refl (ups_at ds apart.1)
      where
        by : (b : Bool) → is_it d ≡ b → is_up (flat_map (ups_on conns) ds) dp number ≡ option_map_or (λ d. is_up (ups_on conns d) dp number) (dp_with ds dp) false
            → (is_up (ups_on conns d) dp number || is_up (flat_map (ups_on conns) ds) dp number) ≡ option_map_or (λ d. is_up (ups_on conns d) dp number) (cond b (Some d) (dp_with ds dp)) false
        by true is more = ap (λ b. is_up (ups_on conns d) dp number || b) (none_up ds (all_other d ds is apart.0)) ∙ or_false (is_up (ups_on conns d) dp number)
        by false is more = ap (λ b. b || is_up (flat_map (ups_on conns) ds) dp number) (off_on d is) ∙ more

    -- the datapath that is found has that identifier
    found_is : (ds : List Dp) (d : Dp) → dp_with ds dp ≡ Some d → d.id ≡ dp
    found_is ds d is = ap (λ n. record { 0 = n }) (eqb-true d.id.0 dp.0 (found is_it ds d is).1)

    pub up_of : (ds : List Dp) (d : Dp) → AreApart ds → dp_with ds dp ≡ Some d → is_up (flat_map (ups_on conns) ds) dp number ≡ is_up (ups_on conns d) d.id number
    up_of ds d apart is =
        ups_at ds apart ∙ ap (λ o. option_map_or (λ e. is_up (ups_on conns e) dp number) o false) is ∙ ap (λ id. is_up (ups_on conns d) id number) (sym (found_is ds d is))

-- of one datapath's interfaces
module _ (d : Dp) (number : ℕ) (c : Conn) where
  among : (ps : List Port)
      → is_up (map (λ p. record { dp = d.id; port = p.no }) (filter (is_up_by c.session.state.ports) ps)) d.id number ≡ list_any (λ p. p.no == number && is_up_by c.session.state.ports p) ps
  among [] = refl
  among (p ∷ ps) = by (is_up_by c.session.state.ports p) (among ps)
    where
      none : (b : Bool) → (b && false) ≡ false
      none true = refl
      none false = refl

      all : (b : Bool) → (b && true) ≡ b
      all true = refl
      all false = refl

      by : (b : Bool)
          → is_up (map (λ p. record { dp = d.id; port = p.no }) (filter (is_up_by c.session.state.ports) ps)) d.id number ≡ list_any (λ p. p.no == number && is_up_by c.session.state.ports p) ps
          → is_up (map (λ p. record { dp = d.id; port = p.no }) (cond b (p ∷ filter (is_up_by c.session.state.ports) ps) (filter (is_up_by c.session.state.ports) ps))) d.id number ≡ (p.no == number && b || list_any (λ p. p.no == number && is_up_by c.session.state.ports p) ps)
      by true more = ap (λ b. b && p.no == number || is_up (map (λ p. record { dp = d.id; port = p.no }) (filter (is_up_by c.session.state.ports) ps)) d.id number) (eq-eqb d.id.0 d.id.0 refl)
          ∙ ap (λ b. p.no == number || b) more ∙ ap (λ b. b || list_any (λ p. p.no == number && is_up_by c.session.state.ports p) ps) (sym (all (p.no == number)))
      by false more = more ∙ ap (λ b. b || list_any (λ p. p.no == number && is_up_by c.session.state.ports p) ps) (sym (none (p.no == number)))

  pub up_by : is_up (ups_by d c) d.id number ≡ (has_ports c.session.state.stage && list_any (λ p. p.no == number && is_up_by c.session.state.ports p) d.ports)
  up_by = by (has_ports c.session.state.stage)
    where
      by : (b : Bool)
          → is_up (cond b (map (λ p. record { dp = d.id; port = p.no }) (filter (is_up_by c.session.state.ports) d.ports)) []) d.id number ≡ (b && list_any (λ p. p.no == number && is_up_by c.session.state.ports p) d.ports)
      by true = among d.ports
      by false = refl
