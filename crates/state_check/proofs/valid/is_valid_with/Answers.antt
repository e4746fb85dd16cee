use Rattle.std.proofs.Common.{length, ap, sym, ◌∙◌, true≢false, arith, le-leb}
use Rattle.std.proofs.lemmas.Bool.{leb-true, false≢true}
use Rattle.state_check.proofs.valid.is_valid_with.Goals as goal
use Rattle.state_check.proofs.valid.is_valid_with.Goals.{then-not-are_hosts-via-then-not-are_hosts, then-not-are_hosts-via-else-not-are_hosts+then-not-have_own_keys, then-not-stay_alone-via-then-not-stay_alone, then-not-stay_alone-via-else-not-stay_alone+then-not-fit_all_ports, then-not-fit_all_vlans-via-then-not-fit_all_vlans, then-not-fit_all_vlans-via-else-not-fit_all_vlans+then-all-gt-MOST_HOSTS}

pub returns : goal.returns
returns c = (
  λ few. record {
    running = rw c.as_slice.ensures at c.are_dps.ensures.0 c.if-not-are_dps.false;
    ups = rw c.as_slice-else-not-are_dps.ensures at c.are_ports.ensures.0 c.if-not-are_ports.false;
    hosts = rw c.requires at c.are_hosts.ensures.0 c.if-not-are_hosts.false;
    host_keys = rw c.requires at c.have_own_keys.ensures.0 c.if-not-have_own_keys.false;
    permanent = rw c.requires at c.stay_alone.ensures.0 c.if-not-stay_alone.false;
    ports = rw (c.requires, c.as_slice-dps.ensures, c.dps.ensures.lists) at c.fit_all_ports.ensures.0 c.if-not-fit_all_ports.false;
    vlans = rw (c.requires, c.as_slice-dps.ensures, c.dps.ensures.lists) at c.fit_all_vlans.ensures.0 c.if-not-fit_all_vlans.false;
    table = omega (arith, c.if-all-gt-MOST_HOSTS.false, ap length c.requires);
    neighbours = c.are_neighbours.ensures.0 c.if-not-are_neighbours.false;
    neighbour_keys = c.have_own_keys-else-not-are_neighbours.ensures.0 c.if-not-have_own_keys-2.false;
    neighbour_table = omega (arith, leb-true (length c.args.now.now.neighbours.now) 2048 few);
  },
  λ valid. le-leb (length c.args.now.now.neighbours.now) 2048 (omega (arith, valid.neighbour_table)),
)

pub returns-then-not-are_hosts : goal.returns-then-not-are_hosts
returns-then-not-are_hosts c = (
  λ yes. absurd (false≢true yes),
  λ valid.
      let no : ⊥ = elim c.then-not-are_hosts.branch [
        | then-not-are_hosts-via-then-not-are_hosts w ↦ true≢false (sym (c.are_hosts.ensures.1 (rw c.requires valid.hosts)) ∙ w.if-not-are_hosts.true)
        | then-not-are_hosts-via-else-not-are_hosts+then-not-have_own_keys w ↦ true≢false (sym (w.have_own_keys.ensures.1 (rw c.requires valid.host_keys)) ∙ w.if-not-have_own_keys.true)
      ] in
      absurd no,
)

pub returns-then-not-stay_alone : goal.returns-then-not-stay_alone
returns-then-not-stay_alone c = (
  λ yes. absurd (false≢true yes),
  λ valid.
      let no : ⊥ = elim c.then-not-stay_alone.branch [
        | then-not-stay_alone-via-then-not-stay_alone w ↦ true≢false (sym (c.stay_alone.ensures.1 (rw c.requires valid.permanent)) ∙ w.if-not-stay_alone.true)
        | then-not-stay_alone-via-else-not-stay_alone+then-not-fit_all_ports w ↦
            true≢false (sym (w.fit_all_ports.ensures.1 (rw (c.requires, c.as_slice-dps.ensures, c.dps.ensures.lists) valid.ports)) ∙ w.if-not-fit_all_ports.true)
      ] in
      absurd no,
)

pub returns-then-not-fit_all_vlans : goal.returns-then-not-fit_all_vlans
returns-then-not-fit_all_vlans c = (
  λ yes. absurd (false≢true yes),
  λ valid.
      let no : ⊥ = elim c.then-not-fit_all_vlans.branch [
        | then-not-fit_all_vlans-via-then-not-fit_all_vlans w ↦
            true≢false (sym (c.fit_all_vlans.ensures.1 (rw (c.requires, c.as_slice-dps.ensures, c.dps.ensures.lists) valid.vlans)) ∙ w.if-not-fit_all_vlans.true)
        | then-not-fit_all_vlans-via-else-not-fit_all_vlans+then-all-gt-MOST_HOSTS w ↦
            omega (arith, w.if-all-gt-MOST_HOSTS.true, valid.table, ap length c.requires)
      ] in
      absurd no,
)
