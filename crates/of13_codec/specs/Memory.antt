-- Frames of which no part is kept in memory, so that want of memory is no answer to them.
use Rattle.std.specs.Prelude.{◌≡◌, ◌≢◌, ℕ, ◌<◌, List, length, ◌⊎◌}
use Rattle.of_wire.specs.Numbers.{number_in}
use Rattle.of13_codec.specs.Faults.{IsVersionOf}

-- a wrong header (7.1): fewer than 8 bytes, a version that the type can't have, or a length that
-- isn't the frame's
abbrev pub HasWrongHeader : List ℕ → Type 0
HasWrongHeader frame = (length frame < 8) ⊎ ((IsVersionOf (number_in 1 1 frame) (number_in 0 1 frame) → ⊥) ⊎ (number_in 2 2 frame ≢ length frame))

-- a body that ends inside the front that its type has, which is 4 bytes of an ERROR (7.4.4), 16 of a
-- PACKET_IN (7.4.1) or a PACKET_OUT (7.3.7), 40 of a FLOW_MOD (7.3.4.1) and 8 of a multipart message
-- (7.3.5); or a PORT_STATUS (7.4.3) of another size than 72
abbrev pub HasWrongSize : (kind : ℕ) → List ℕ → Type 0
HasWrongSize kind body =
    ((kind ≡ 1) × (length body < 4)) ⊎ ((((kind ≡ 10) ⊎ (kind ≡ 13)) × (length body < 16)) ⊎ (((kind ≡ 14) × (length body < 40)) ⊎ ((((kind ≡ 18) ⊎ (kind ≡ 19)) × (length body < 8)) ⊎ ((kind ≡ 12) × (length body ≢ 72)))))

-- the types of the messages that hold numbers alone: HELLO (7.5.1), FEATURES_REQUEST and
-- FEATURES_REPLY (7.3.1), BARRIER_REQUEST and BARRIER_REPLY (7.3.8)
abbrev pub HoldsNumbers : (kind : ℕ) → Type 0
HoldsNumbers kind = (kind ≡ 0) ⊎ ((kind ≡ 5) ⊎ ((kind ≡ 6) ⊎ ((kind ≡ 20) ⊎ (kind ≡ 21))))

-- the multipart requests that are known hold numbers alone too: of the ports' descriptions (7.3.5.7),
-- and of a port's counters (7.3.5.6)
abbrev pub AsksForPorts : List ℕ → Type 0
AsksForPorts body = (number_in 0 2 body ≡ 13) ⊎ (number_in 0 2 body ≡ 4)

-- their replies, where no whole port stands behind the front of 8 bytes: one takes 64 (7.2.1), and
-- its counters 112
abbrev pub TellsNoPort : List ℕ → Type 0
TellsNoPort body = ((number_in 0 2 body ≡ 13) × (length body < 72)) ⊎ ((number_in 0 2 body ≡ 4) × (length body < 120))

-- nothing but numbers, by the type in the header
abbrev pub NeedsNoMemory : (kind : ℕ) → List ℕ → Type 0
NeedsNoMemory kind body = HoldsNumbers kind ⊎ (((kind ≡ 18) × AsksForPorts body) ⊎ ((kind ≡ 19) × TellsNoPort body))
