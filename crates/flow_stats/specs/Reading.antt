-- How a part is read: its flow entries one by one, with the fault that is met.
use Rattle.std.specs.Prelude.{ℕ, ◌||◌, ◌==◌, not, nat_lt, if◌then◌else◌, List, [], ◌∷◌, ◌++◌, length, take, drop, Option, Some, None, Result, Ok, Err}
use Rattle.of_wire.specs.declared.fault.PartCause.{PartCause}
use Rattle.of_wire.specs.declared.fault.PartFault.{PartFault}
use Rattle.of_wire.specs.Answers.{fault_at}
use Rattle.of_wire.specs.Numbers.{number_in}
use Rattle.of_wire.specs.Reading.{◌>>=◌, many}
use Rattle.of13_codec.specs.Decoding.{has_more}
use Rattle.flow_stats.specs.declared.flow.Flow.{Flow}
use Rattle.flow_stats.specs.declared.flow.FlowPart.{FlowPart}
use Rattle.flow_stats.specs.Parts.{flow_fault, flow_len, match_len, told_place}

-- the flow entry that bytes spell
abbrev pub flow_in : List ℕ → Flow
flow_in bytes = record {
  table = number_in 2 1 bytes;
  priority = number_in 12 2 bytes;
  cookie = number_in 24 8 bytes;
  packets = number_in 32 8 bytes;
  bytes = number_in 40 8 bytes;
  key = take (match_len bytes) (drop 48 bytes);
}

abbrev pub flow_or : Option PartCause → List Flow → ℕ → List ℕ → Result (List Flow × ℕ) PartFault
flow_or (Some cause) flows at bytes = Err (fault_at (told_place at) cause)
flow_or None flows at bytes = Ok (flows ++ flow_in (take (flow_len bytes) bytes) ∷ [], flow_len bytes)

-- one flow entry more
unfoldable pub flow_step : List Flow → ℕ → List ℕ → Result (List Flow × ℕ) PartFault
flow_step flows at bytes = flow_or (flow_fault bytes) flows at bytes

-- flow entries up to the end of the bytes, of which the first is the ninth of the body
unfoldable pub flows_at : List ℕ → Result (List Flow) PartFault
flows_at bytes = many flow_step (length bytes) [] 8 bytes

abbrev pub flows_part : List ℕ → Result (Option FlowPart) PartFault
flows_part body = flows_at (drop 8 body) >>= λ flows. Ok (Some (record { more = has_more body; flows = flows }))

unfoldable pub part_at : List ℕ → Result (Option FlowPart) PartFault
part_at body = if nat_lt (length body) 8 || not (number_in 0 2 body == 1) then Ok None else flows_part body
