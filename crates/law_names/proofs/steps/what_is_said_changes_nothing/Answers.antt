use Rattle.law_names.proofs.Stepped.{ask_quiet, feed_quiet, open_quiet, say_quiet, want_quiet}
use Rattle.law_names.proofs.steps.what_is_said_changes_nothing.Goals as goal

pub returns-clause-say : goal.returns-clause-say
returns-clause-say c = say_quiet

pub returns-clause-ask : goal.returns-clause-ask
returns-clause-ask c = ask_quiet

pub returns-clause-feed : goal.returns-clause-feed
returns-clause-feed c = feed_quiet

pub returns-clause-opened : goal.returns-clause-opened
returns-clause-opened c = open_quiet

pub returns-clause-want : goal.returns-clause-want
returns-clause-want c = want_quiet
