use Rattle.std.proofs.Common.{◌≡◌, ℕ, Option, sym, subst, fold, OnOk}
use Rattle.conf_json.specs.Json.{with_member}
use Rattle.conf_json.specs.Text.{lldp_members}
use Rattle.conf_json.proofs.datapath.put_lldp.Goals as goal

-- the one member
pub returns-in-Some : goal.returns-in-Some
returns-in-Some c =
    subst (λ (lldp : Option ℕ). OnOk c.put_number.result (c.put_number.new.self ≡ fold with_member c.args.made.now (lldp_members lldp))) (sym c.in-Some.is) c.put_number.ensures
