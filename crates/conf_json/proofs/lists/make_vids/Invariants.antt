use Rattle.std.proofs.Common.{◌≡◌, [], take, fold}
use Rattle.conf_json.specs.Text.{with_number}
use Rattle.conf_json.proofs.lists.make_vids.Given as goal

-- the numbers so far, ascending
abbrev pub invariant-loop-vid : goal.invariant-loop-vid
invariant-loop-vid l = l.numbers ≡ fold with_number [] (take l.vid-index l.vids)
