use Rattle.std.proofs.Common.{◌≡◌, ◌++◌, drop}
use Rattle.of_match.specs.Act.{act_sends, act_left}
use Rattle.of_match.proofs.perform.act_into.Given as goal

-- what is sent so far, and what the actions that are left send, is all that is sent
abbrev pub invariant-loop-action : goal.invariant-loop-action
invariant-loop-action l =
    record {
      sent : l.outs ++ act_sends (drop l.action-index l.actions) l.port l.packet ≡ l.fn.outs ++ act_sends l.actions l.port l.fn.packet;
      left : act_left (drop l.action-index l.actions) l.packet ≡ act_left l.actions l.fn.packet;
    }
