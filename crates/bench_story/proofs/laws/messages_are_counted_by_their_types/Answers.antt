use Rattle.bench_story.proofs.Types.{counted_by_type, replied_by_type}
use Rattle.bench_story.proofs.laws.messages_are_counted_by_their_types.Goals as goal

pub returns-clause-counted : goal.returns-clause-counted
returns-clause-counted c = counted_by_type

pub returns-clause-replied : goal.returns-clause-replied
returns-clause-replied c = replied_by_type
