use Rattle.std.proofs.Common.{◌++◌}
use Rattle.fg_outside.specs.HubStep.{story}
use Rattle.ctl_serve.specs.Served.{last_call}
use Rattle.law_served.proofs.Told.{given, said_is}
use Rattle.law_served.proofs.links.a_link_is_given_what_the_controller_says.Goals as goal

pub returns : goal.returns
returns g c = λ poller hub_old hub_new files_old files_new name text every most w happened end fresh served conn live is taken.
    let runs = c.open_links_are_served_in_order.ensures poller hub_old hub_new (served.steps ++ last_call end) fresh served.leads conn live is in
    let same = c.reloads_say_nothing.ensures (story served.steps) served.events served.put_in in
    given _ _ _ _ _ (said_is conn w happened end served.steps served.events same served.told taken) runs.said
