use Rattle.std.proofs.Common.{subst, List, ℕ}
use Rattle.net_base.specs.AddressReading.{spelled_mac, IsMac}
use Rattle.net_base.proofs.Addresses.{mac_found, mac_none}
use Rattle.net_base.proofs.address.Mac.parse.Goals as goal

pub returns-clause-found : goal.returns-clause-found
returns-clause-found c = mac_found c.args.text.now c.spelled_mac.result (subst (λ (w : List ℕ). IsMac c.spelled_mac.result (spelled_mac w)) c.as_bytes.ensures.value c.spelled_mac.ensures)

pub returns-clause-none : goal.returns-clause-none
returns-clause-none c = mac_none c.args.text.now c.spelled_mac.result (subst (λ (w : List ℕ). IsMac c.spelled_mac.result (spelled_mac w)) c.as_bytes.ensures.value c.spelled_mac.ensures)
