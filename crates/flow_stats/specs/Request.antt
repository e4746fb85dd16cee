-- The request for flow statistics (OpenFlow 1.3, 7.3.5.2).
use Rattle.std.specs.Prelude.{ℕ, List, [], ◌∷◌, ◌++◌, replicate}
use Rattle.of_wire.specs.Parts.{number, zeros, match_bytes}
use Rattle.of13_codec.specs.Messages.{multipart_head}
use Rattle.of13_codec.specs.declared.message.Message.{Message}
use Rattle.of13_codec.specs.declared.message.Message.TheVariants.{Other}

-- the table, the port and the group, each any of them; the cookie and its mask, which leaves no cookie out; an empty match
abbrev pub request_bytes : List ℕ
request_bytes =
    multipart_head 1 0 ++ number 1 0xff ++ zeros 3 ++ number 4 0xffffffff ++ number 4 0xffffffff ++ zeros 4 ++ number 8 0 ++ number 8 0 ++ match_bytes []

abbrev pub flow_request : Message
flow_request = Other 18 request_bytes

-- the same with the transaction id 3, byte by byte
abbrev pub third_request : List ℕ
third_request =
    0x04 ∷ 0x12 ∷ 0x00 ∷ 0x38 ∷ 0x00 ∷ 0x00 ∷ 0x00 ∷ 0x03 ∷ 0x00 ∷ 0x01 ∷ 0x00 ∷ 0x00 ∷ 0x00 ∷ 0x00 ∷ 0x00 ∷ 0x00 ∷
    0xff ∷ 0x00 ∷ 0x00 ∷ 0x00 ∷ 0xff ∷ 0xff ∷ 0xff ∷ 0xff ∷ 0xff ∷ 0xff ∷ 0xff ∷ 0xff ∷ 0x00 ∷ 0x00 ∷ 0x00 ∷ 0x00 ∷ [] ++
    replicate 16 0 ++ 0x00 ∷ 0x01 ∷ 0x00 ∷ 0x04 ∷ 0x00 ∷ 0x00 ∷ 0x00 ∷ 0x00 ∷ []
