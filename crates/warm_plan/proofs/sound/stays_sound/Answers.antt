use Rattle.packet_way.specs.Present.{state_of}
use Rattle.warm_plan.proofs.Unnamed.{addresses_are}
use Rattle.warm_plan.proofs.sound.stays_sound.Goals as goal

pub returns : goal.returns
returns c = record {
  valid = c.requires.sound.valid;
  state = c.requires.state;
  addresses = record {
    hosts = c.are_sound.ensures.bytes;
    neighbours = addresses_are c.args.conf.now c.args.before.now (state_of c.args.now.now) c.args.changes.now c.requires.named c.requires.state.neighbour_keys c.requires.sound.addresses.neighbours c.of_named.ensures;
  };
}
