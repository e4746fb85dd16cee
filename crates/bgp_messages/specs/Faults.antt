-- Error codes and subcodes (RFC 4271, 4.5).
use Rattle.std.specs.Prelude.{ℕ}
use Rattle.bgp_messages.specs.declared.fault.Fault.{Fault}
use Rattle.bgp_messages.specs.declared.fault.Fault.TheVariants.{ConnectionNotSynchronized, BadMessageLength, BadMessageType, OpenUnspecific, UnsupportedVersionNumber, BadPeerAs, BadBgpIdentifier, UnsupportedOptionalParameter, UnacceptableHoldTime, MalformedAttributeList, UnrecognizedWellKnownAttribute, MissingWellKnownAttribute, AttributeFlagsError, AttributeLengthError, InvalidOriginAttribute, InvalidNetworkField, MalformedAsPath, HoldTimerExpired, FiniteStateMachineError, Cease}

-- the row of the table: code and subcode, which is 0 where the standard has none, or where none of its subcodes fits
abbrev pub row : Fault → ℕ × ℕ
row ConnectionNotSynchronized = (1, 1)
row BadMessageLength = (1, 2)
row BadMessageType = (1, 3)
row OpenUnspecific = (2, 0)
row UnsupportedVersionNumber = (2, 1)
row BadPeerAs = (2, 2)
row BadBgpIdentifier = (2, 3)
row UnsupportedOptionalParameter = (2, 4)
row UnacceptableHoldTime = (2, 6)
row MalformedAttributeList = (3, 1)
row UnrecognizedWellKnownAttribute = (3, 2)
row MissingWellKnownAttribute = (3, 3)
row AttributeFlagsError = (3, 4)
row AttributeLengthError = (3, 5)
row InvalidOriginAttribute = (3, 6)
row InvalidNetworkField = (3, 10)
row MalformedAsPath = (3, 11)
row HoldTimerExpired = (4, 0)
row FiniteStateMachineError = (5, 0)
row Cease = (6, 0)

abbrev pub code_of : Fault → ℕ
code_of fault = (row fault).0

abbrev pub subcode_of : Fault → ℕ
subcode_of fault = (row fault).1
