use Rattle.std.specs.Prelude.{ℕ}
use Rattle.faucet_top.specs.declared.deliver.Status.{Status}
use Rattle.faucet_top.specs.declared.deliver.Status.TheVariants.{Done, Usage, Refused, Unread, WriteFault, RecordRefused, HubFault, Spent, Memory, NotReady}

-- the number of each status
abbrev pub number_of_status : Status → ℕ
number_of_status Done = 0
number_of_status Usage = 1
number_of_status Refused = 2
number_of_status Unread = 3
number_of_status WriteFault = 4
number_of_status RecordRefused = 5
number_of_status HubFault = 6
number_of_status Spent = 7
number_of_status Memory = 8
number_of_status NotReady = 9
