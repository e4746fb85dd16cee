-- The reply to `bgp-serve`, and what becomes of the hub that was handed in.
use Rattle.std.specs.Prelude.{◌≡◌, ◌≢◌, ◌⊎◌, ℕ, true, List, [], ◌++◌, Option, Some, Ok, Err}
use Rattle.std.specs.List.{AllByRecursion}
use Rattle.fg_outside.specs.Contents.{Contents}
use Rattle.fg_outside.specs.declared.hub.Happening.{Happening}
use Rattle.fg_outside.specs.HubStep.{HubStep, Leads, happenings, story}
use Rattle.fg_outside.specs.Wrote.{appended}
use Rattle.conf_gather.specs.declared.refused.LoadRefused.{LoadRefused}
use Rattle.conf_gather.specs.Gathered.{Held}
use Rattle.hub_drive.specs.declared.drive.Drove.{Drove}
use Rattle.hub_drive.specs.declared.drive.Drove.TheVariants as drove
use Rattle.hub_drive.specs.declared.sayings.Outlet.TheVariants.{Hub}
use Rattle.hub_drive.specs.Driven.{Drives, goes_on}
use Rattle.hub_drive.specs.Driving.{deeds, deeds_of, lines_of as hub_lines, out_of}
use Rattle.bgp_load.specs.declared.found.LoadedPeer.{LoadedPeer}
use Rattle.bgp_load.specs.declared.found.PeerLacks.{PeerLacks}
use Rattle.bgp_load.specs.Peers.{loaded_peer}
use Rattle.bgp_texts.specs.Taking.{IsAccepted}
use Rattle.bgp_drive.specs.Speech.{speaks}
use Rattle.ctl_serve.specs.Served.{Ended, last_call}
use Rattle.faucet_top.specs.Answer.{Answer, lacks_answer, out_of_memory, refusal, served_line}
use Rattle.faucet_top.specs.Ends.{status_served}
use Rattle.faucet_top.specs.Given.{PeerLoads, speaking_with, texts_of}
use Rattle.faucet_top.specs.Status.{number_of_status}

-- what is written where the hub isn't asked: memory ran out, the configuration is refused, or there is no peer to speak with
abbrev pub UnspokenAnswer : Option Contents → (absence fault : Type 0) → (refused config router : List ℕ) → Answer → Type 0
UnspokenAnswer contents absence fault refused config router a =
    (a ≡ out_of_memory)
    ⊎ (((why : LoadRefused) × PeerLoads contents absence fault refused config router (Err why) × (a ≡ refusal config why))
    ⊎ ((lacks : PeerLacks) × PeerLoads contents absence fault refused config router (Ok (Err lacks)) × (a ≡ lacks_answer config router lacks)))

-- The reply where a speaker was run on the hub: what the run writes on two empty streams, with the line that says how it ended.
abbrev pub RepliesSpoken : {H : Type 0} → (H → HubStep → H → Type 0) → (events : ℕ) → LoadedPeer → (hub_old hub_new : H) → Answer → Type 0
RepliesSpoken may events peer hub_old hub_new a =
    (end : Drove) × (out : List ℕ) × (lines : List ℕ) × (end ≢ drove.WriteFault)
    × Drives speaks may Hub events (speaking_with peer) hub_old hub_new (Some []) (Some out) (Some []) (Some lines) end
    × (a ≡ record { out = out; err = lines ++ served_line end; status = number_of_status (status_served end) })

-- the hub wasn't asked; or the file gave this peer, and its speaker was run on the hub until that ended
abbrev pub RepliesSpeak : {H : Type 0} → (H → HubStep → H → Type 0) → Option Contents → (absence fault : Type 0) → (refused config router : List ℕ) → (events : ℕ) → (hub_old hub_new : H) → Answer → Type 0
RepliesSpeak may contents absence fault refused config router events hub_old hub_new a =
    (UnspokenAnswer contents absence fault refused config router a × (hub_new ≡ hub_old))
    ⊎ ((peer : LoadedPeer) × PeerLoads contents absence fault refused config router (Ok (Ok peer)) × RepliesSpoken may events peer hub_old hub_new a)

-- The configuration is accepted and the router has a peer, and its speaker was run on the hub until it ended so, of which each turn gave a
-- happening and no call was answered want of memory. The hub was told what the speaker says and closes of what happened; its records with
-- the texts, each of which is accepted, stand on standard output, the lines of closings on standard error.
pub record IsHubSpoken {H : Type 0} (may : H → HubStep → H → Type 0) (config router : List ℕ) (held : Held) (events : ℕ) (end : Drove) (hub_old hub_new : H) (out_old out_new err_old err_new : Option (List ℕ)) : Type 0 where
  pub peer : LoadedPeer
  pub happened : List Happening
  pub accepted : loaded_peer held config router ≡ Ok (Ok peer)
  pub ended : Ended events happened end
  pub steps : List HubStep
  pub went_on : AllByRecursion (λ step. goes_on step ≡ true) steps
  pub leads : Leads may hub_old (steps ++ last_call end) hub_new
  pub gave : happenings (story steps) ≡ happened
  pub told : deeds (story steps) ≡ deeds_of speaks Hub (speaking_with peer) happened
  pub out : out_new ≡ appended out_old (out_of speaks Hub (speaking_with peer) happened)
  pub err : err_new ≡ appended err_old (hub_lines speaks (speaking_with peer) happened ++ served_line end)
  pub texts : AllByRecursion IsAccepted (texts_of (speaking_with peer) happened)
