use Rattle.law_rows.proofs.Longest.{taken, none_taken}
use Rattle.law_rows.proofs.prefixes.the_longest_prefix_is_taken.Goals as goal

pub returns-clause-taken : goal.returns-clause-taken
returns-clause-taken c = λ items ip item is. taken items ip item is

pub returns-clause-none : goal.returns-clause-none
returns-clause-none c = λ items ip is item i has. none_taken items ip is item i has
