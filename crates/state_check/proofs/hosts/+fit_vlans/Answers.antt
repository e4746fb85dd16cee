use Rattle.std.proofs.Common.{◌≤◌, count_by, sym, true≢false, ◌∙◌}
use Rattle.conf_types.specs.State.{is_host_in}
use Rattle.state_check.proofs.Before.{all_by, all_first}
use Rattle.state_check.proofs.hosts.+fit_vlans.Goals as goal

pub returns-then-fits_vlan : goal.returns-then-fits_vlan
returns-then-fits_vlan t c = (
  λ more. all_by (λ v. count_by (is_host_in c.args.conf.now c.args.group v.vid) c.args.hosts.now ≤ v.max_hosts) c.args.vlans.now c.vlan-item.result c.in-len1-up.len_at_least c.vlan-item.is (c.fits_vlan.ensures.0 c.if-fits_vlan.true) (c.fit_vlans.ensures.0 more),
  λ all. c.fit_vlans.ensures.1 (all_first (λ v. count_by (is_host_in c.args.conf.now c.args.group v.vid) c.args.hosts.now ≤ v.max_hosts) c.args.vlans.now c.vlan-item.result c.in-len1-up.len_at_least c.vlan-item.is all).1,
)

pub returns-else-fits_vlan : goal.returns-else-fits_vlan
returns-else-fits_vlan t c = (
  λ yes. absurd (true≢false (sym yes ∙ c.if-fits_vlan.false)),
  λ all. c.fits_vlan.ensures.1 (all_first (λ v. count_by (is_host_in c.args.conf.now c.args.group v.vid) c.args.hosts.now ≤ v.max_hosts) c.args.vlans.now c.vlan-item.result c.in-len1-up.len_at_least c.vlan-item.is all).0,
)
