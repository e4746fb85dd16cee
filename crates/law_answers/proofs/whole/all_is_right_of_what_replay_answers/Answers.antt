use Rattle.std.proofs.Common.{◌≡◌, ℕ, List, Some, Ok, Err, refl}
use Rattle.fg_outside.specs.Contents.{Contents}
use Rattle.fg_outside.specs.Counts.{Rose}
use Rattle.fg_outside.specs.declared.hub.Happening.{Happening}
use Rattle.conf_types.specs.Configuration.{Configuration}
use Rattle.conf_load.specs.Loaded.{loaded}
use Rattle.faucet_top.specs.Answer.{Answer, Load}
use Rattle.faucet_top.specs.Given.{Loads, RepliesReplay}
use Rattle.law_answers.specs.Answered.{IsWholeReply}
use Rattle.law_answers.specs.Whole.{IsWhole}
use Rattle.law_answers.proofs.whole.all_is_right_of_what_replay_answers.Goals as goal

module _ (config recording refused : List ℕ) (held : Contents) (absences_old absences_new faults_old faults_new : ℕ) (a : Answer)
    (whole : (conf : Configuration) (story : List Happening) → loaded (held 0) config ≡ Ok conf → IsWhole conf story) where
  by : (made : Load) → Loads (Some held) (Rose absences_old absences_new) (Rose faults_old faults_new) refused config made
      → (reply : RepliesReplay (Some held) (Rose absences_old absences_new) (Rose faults_old faults_new) config recording made a)
      → IsWholeReply (Some held) (Rose absences_old absences_new) (Rose faults_old faults_new) config recording made a reply
  by (Err why) loads reply = tt
  by (Ok conf) loads (end, out, lines, unbroken, ran, goes, is) = λ front parts. whole conf front (loads.told held refl)

pub returns : goal.returns
returns c = record {
  replayed = λ config recording refused held out_old out_new err_old err_new is front parts.
      c.all_is_right_of_every_story.ensures is.conf front (c.a_loaded_configuration_is_valid.ensures held config is.conf is.accepted);
  gives = λ config recording refused held absences_old absences_new faults_old faults_new a reply.
      by config recording refused held absences_old absences_new faults_old faults_new a
      (λ conf story accepted. c.all_is_right_of_every_story.ensures conf story (c.a_loaded_configuration_is_valid.ensures (held 0) config conf accepted))
      reply.0 reply.1 reply.2;
}
