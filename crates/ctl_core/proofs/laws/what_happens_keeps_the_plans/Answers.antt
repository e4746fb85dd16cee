use Rattle.ctl_core.specs.Reloading.{accepted}
use Rattle.ctl_core.proofs.Planned.{closed_fit, ended_fit, frame_fit, opened_fit, passed_fit, reloaded_fit}
use Rattle.ctl_core.proofs.laws.what_happens_keeps_the_plans.Goals as goal

pub returns : goal.returns
returns c = record {
  opened = λ number w held shut are. opened_fit held number w shut are;
  heard = λ said number w held fit. frame_fit held said number w fit;
  closed = λ cause number w held fit. closed_fit held cause number w fit;
  ended = λ cause number w held fit. ended_fit held cause number w fit;
  passed = λ moment w held fit. passed_fit held moment w fit;
  reloaded = λ text w held fit. reloaded_fit held (accepted text) w fit;
}
