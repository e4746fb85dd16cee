-- Which story stands behind an answer of `replay` and of `serve`.
use Rattle.std.specs.Prelude.{ℕ, List, [], Option, Some, Result, Ok, Err}
use Rattle.fg_outside.specs.declared.hub.Happening.{Happening}
use Rattle.fg_outside.specs.Contents.{Contents}
use Rattle.fg_outside.specs.HubStep.{HubStep}
use Rattle.conf_types.specs.Configuration.{Configuration}
use Rattle.ctl_world.specs.World.{World, first}
use Rattle.hub_drive.specs.declared.drive.Drove.{Drove}
use Rattle.hub_drive.specs.declared.drive.Drove.TheVariants as drove
use Rattle.hub_drive.specs.declared.replay.Replayed.{Replayed}
use Rattle.hub_drive.specs.declared.replay.Replayed.TheVariants.{Read, Unread, Spent, WriteFault, Memory}
use Rattle.hub_drive.specs.declared.sayings.Outlet.{Outlet}
use Rattle.hub_drive.specs.declared.sayings.Outlet.TheVariants.{Records}
use Rattle.hub_drive.specs.Replay.{Replays}
use Rattle.ctl_drive.specs.Controller.{controller}
use Rattle.faucet_top.specs.Answer.{Answer, Load}
use Rattle.faucet_top.specs.Given.{RepliesReplay}
use Rattle.faucet_top.specs.Serving.{ServesUntil}
use Rattle.law_answers.specs.Whole.{IsWholeThrough}

-- ---- `replay`

-- what happened to the controller that this configuration began, however the run ended
abbrev pub replay_story : (outlet : Outlet) (contents : Option Contents) (name : List ℕ) (absence fault : Type 0) (w : World) (out_old out_new err_old err_new : Option (List ℕ)) (end : Replayed)
    → Replays controller outlet contents name absence fault w out_old out_new err_old err_new end → List Happening
replay_story outlet contents name absence fault w out_old out_new err_old err_new (Read refused) ran = ran.0
replay_story outlet contents name absence fault w out_old out_new err_old err_new Unread ran = ran.0
replay_story outlet contents name absence fault w out_old out_new err_old err_new Spent ran = ran.0
replay_story outlet contents name absence fault w out_old out_new err_old err_new WriteFault ran = ran.0
replay_story outlet contents name absence fault w out_old out_new err_old err_new Memory ran = ran.0

-- of the story behind a reply all is right, where the configuration was given; else there is none
abbrev pub IsWholeReply : (contents : Option Contents) (absence fault : Type 0) (config recording : List ℕ) (made : Load) (a : Answer) → RepliesReplay contents absence fault config recording made a → Type 0
IsWholeReply contents absence fault config recording (Err why) a reply = Unit {0}
IsWholeReply contents absence fault config recording (Ok conf) a (end, out, lines, unbroken, ran, goes, is) =
    IsWholeThrough conf (replay_story Records contents recording absence fault (first conf) (Some []) (Some out) (Some []) (Some lines) end ran)

-- ---- `serve`

abbrev pub serve_story : {H F : Type 0} (may : H → HubStep → H → Type 0) (contents : F → Option Contents) (faults : F → ℕ) (config text : List ℕ) (reload_ms events : ℕ) (conf : Configuration)
    (hub_old hub_new : H) (files_old files_new : F) (delivered broke_off : Answer → Type 0) (end : Drove)
    → ServesUntil may contents faults config text reload_ms events conf hub_old hub_new files_old files_new delivered broke_off end → List Happening
serve_story may contents faults config text reload_ms events conf hub_old hub_new files_old files_new delivered broke_off drove.Done ran = ran.0
serve_story may contents faults config text reload_ms events conf hub_old hub_new files_old files_new delivered broke_off drove.HubFault ran = ran.0
serve_story may contents faults config text reload_ms events conf hub_old hub_new files_old files_new delivered broke_off drove.Spent ran = ran.0
serve_story may contents faults config text reload_ms events conf hub_old hub_new files_old files_new delivered broke_off drove.WriteFault ran = ran.0
serve_story may contents faults config text reload_ms events conf hub_old hub_new files_old files_new delivered broke_off drove.Memory ran = ran.0
