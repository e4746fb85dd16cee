-- All that is right of what `serve` answers.
use Rattle.std.proofs.Common.{ℕ, List, Option}
use Rattle.std.specs.List.{AllByRecursion}
use Rattle.fg_outside.specs.declared.hub.Happening.{Happening}
use Rattle.fg_outside.specs.Contents.{Contents}
use Rattle.fg_outside.specs.HubStep.{HubStep}
use Rattle.conf_types.specs.Configuration.{Configuration}
use Rattle.hub_drive.specs.declared.drive.Drove.{Drove}
use Rattle.hub_drive.specs.declared.drive.Drove.TheVariants as drove
use Rattle.hub_drive.specs.Driven.{CameAsBytes}
use Rattle.faucet_top.specs.Answer.{Answer}
use Rattle.faucet_top.specs.Serving.{ServesUntil}
use Rattle.law_answers.specs.Answered.{serve_story}
use Rattle.law_answers.specs.Whole.{IsAllRightThrough, IsWhole}
use Rattle.law_answers.proofs.Bytes.{all_came}
use Rattle.law_answers.proofs.Described.{described}

pub all_right : (conf : Configuration) (story : List Happening) → ((front : List Happening) → IsWhole conf front) → AllByRecursion CameAsBytes story → IsAllRightThrough conf story
all_right conf story whole came = (λ front is. whole front, described conf story (λ front. (whole front).right) (λ front. (whole front).lives) (all_came story came))

-- what happened came as bytes, however serving ended
module _ {H F : Type 0} (may : H → HubStep → H → Type 0) (contents : F → Option Contents) (faults : F → ℕ) (config text : List ℕ) (reload_ms events : ℕ) (conf : Configuration)
    (hub_old hub_new : H) (files_old files_new : F) (delivered broke_off : Answer → Type 0) where
  pub served_bytes : (end : Drove) (ran : ServesUntil may contents faults config text reload_ms events conf hub_old hub_new files_old files_new delivered broke_off end)
      → AllByRecursion CameAsBytes (serve_story may contents faults config text reload_ms events conf hub_old hub_new files_old files_new delivered broke_off end ran)
  served_bytes drove.Done ran = (ran.2).bytes
  served_bytes drove.HubFault ran = (ran.2).bytes
  served_bytes drove.Spent ran = (ran.2).bytes
  served_bytes drove.WriteFault ran = (ran.2).bytes
  served_bytes drove.Memory ran = (ran.2).bytes
