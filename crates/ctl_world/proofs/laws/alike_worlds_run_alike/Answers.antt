use Rattle.ctl_world.proofs.Faces.{alike_same, alike_sound, alike_through, alike_turned, same_now, same_running, same_ups}
use Rattle.ctl_world.proofs.laws.alike_worlds_run_alike.Goals as goal

pub returns : goal.returns
returns c = record {
  same = alike_same;
  turned = alike_turned;
  through = alike_through;
  running = same_running;
  ups = same_ups;
  now = same_now;
  sound = alike_sound;
}
