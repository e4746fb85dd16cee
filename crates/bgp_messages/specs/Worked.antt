-- Messages worked out by hand.
use Rattle.std.specs.Prelude.{ℕ, ◌≤◌, List, [], ◌∷◌, ◌++◌, replicate}
use Rattle.bgp_messages.specs.declared.fault.Fault.TheVariants.{BadPeerAs}
use Rattle.net_base.specs.declared.net4.Net4.{Net4}
use Rattle.bgp_messages.specs.declared.message.Update.{Update}
use Rattle.bgp_messages.specs.declared.said.Said.{Said}
use Rattle.bgp_messages.specs.declared.said.Said.TheVariants.{Open, Notification}

abbrev pub worked_open : Said
worked_open = Open (record { sender_as = 65001; hold = 90; id = 0x01010101 })

abbrev pub open_text : List ℕ
open_text = replicate 16 255 ++ 0x00 ∷ 0x1d ∷ 0x01 ∷ 0x04 ∷ 0xfd ∷ 0xe9 ∷ 0x00 ∷ 0x5a ∷ 0x01 ∷ 0x01 ∷ 0x01 ∷ 0x01 ∷ 0x00 ∷ []

abbrev pub worked_refusal : Said
worked_refusal = Notification BadPeerAs

abbrev pub refusal_text : List ℕ
refusal_text = replicate 16 255 ++ 0x00 ∷ 0x15 ∷ 0x03 ∷ 0x02 ∷ 0x02 ∷ []

-- an UPDATE: no withdrawn routes; ORIGIN 0, AS_PATH with the sequence of 65002, NEXT_HOP 10.0.100.1;
-- 172.16.0.0/16
abbrev pub update_text : List ℕ
update_text =
    0x00 ∷ 0x00 ∷ 0x00 ∷ 0x12 ∷ 0x40 ∷ 0x01 ∷ 0x01 ∷ 0x00 ∷ 0x40 ∷ 0x02 ∷ 0x04 ∷ 0x02 ∷ 0x01 ∷ 0xfd ∷ 0xea ∷
    0x40 ∷ 0x03 ∷ 0x04 ∷ 0x0a ∷ 0x00 ∷ 0x64 ∷ 0x01 ∷ 0x10 ∷ 0xac ∷ 0x10 ∷ []

abbrev pub office : 16 ≤ 32 → Net4
office fits = record { ip = record { 0 = 0xac100000 }; len = 16; short = fits }

abbrev pub worked_update : 16 ≤ 32 → Update
worked_update fits = record { withdrawn = []; path = 65002 ∷ []; next_hop = record { 0 = 0x0a006401 }; announced = office fits ∷ [] }
