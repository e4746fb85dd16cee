-- Why no record was read.
use Rattle.recording.specs.declared.grow.GrowRefused.{GrowRefused}
use Rattle.recording.specs.declared.grow.GrowRefused.TheVariants as grown
use Rattle.recording.specs.declared.reader.Stop.{Stop}
use Rattle.recording.specs.declared.reader.Stop.TheVariants.{Failed, Memory}

abbrev pub stop_of : GrowRefused → Stop
stop_of grown.Failed = Failed
stop_of grown.Memory = Memory
