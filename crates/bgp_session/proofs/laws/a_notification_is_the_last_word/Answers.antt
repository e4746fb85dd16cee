use Rattle.bgp_session.proofs.Closing.{is_the_end, silence}
use Rattle.bgp_session.proofs.laws.a_notification_is_the_last_word.Goals as goal

pub returns-clause-over : goal.returns-clause-over
returns-clause-over c = is_the_end

pub returns-clause-silent : goal.returns-clause-silent
returns-clause-silent c = silence
