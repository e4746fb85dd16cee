use Rattle.switch_session.proofs.FrameLemmas.{calls_split, splits_once, begun_none, bad_none}
use Rattle.switch_session.proofs.laws.any_pieces_give_the_frames_of_the_stream.Goals as goal

pub returns-clause-split : goal.returns-clause-split
returns-clause-split c = calls_split

pub returns-clause-one : goal.returns-clause-one
returns-clause-one c = splits_once

pub returns-clause-not_yet : goal.returns-clause-not_yet
returns-clause-not_yet c = begun_none

pub returns-clause-bad : goal.returns-clause-bad
returns-clause-bad c = bad_none
