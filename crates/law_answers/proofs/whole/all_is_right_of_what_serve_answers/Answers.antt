use Rattle.law_answers.proofs.Served.{all_right, served_bytes}
use Rattle.faucet_top.specs.Given.{BreaksOff, Delivers}
use Rattle.law_answers.proofs.whole.all_is_right_of_what_serve_answers.Goals as goal

pub returns : goal.returns
returns g c = record {
  served = λ config held reload_ms events end hub_old hub_new files_old files_new out_old out_new err_old err_new is.
      all_right is.conf is.happened (λ front. c.all_is_right_of_every_story.ensures is.conf front (c.a_loaded_configuration_is_valid.ensures held config is.conf is.accepted)) (is.served).bytes;
  gives = λ config text refused held absences_old absences_new faults_old faults_new reload_ms events conf hub_old hub_new files_old files_new status o0 o1 e0 e1 m0 m1 n0 n1 end told loads ran.
      all_right conf _ (λ front. c.all_is_right_of_every_story.ensures conf front (c.a_loaded_configuration_is_valid.ensures (held 0) config conf (loads.told held told)))
      (served_bytes g.H.Hub.may g.F.Files.contents g.F.Files.faults config text reload_ms events conf hub_old hub_new files_old files_new
      (λ a. Delivers a status o0 o1 e0 e1 m0 m1 n0 n1) (λ a. BreaksOff a status o0 o1 e0 e1 m0 m1 n0 n1) end ran);
}
