use Rattle.std.proofs.Common.{lit<, refl}
use Rattle.of_wire.specs.Parts.{number}
use Rattle.lldp_probe.specs.Probes.{chassis, lldp, nearest_bridges, port_of_chassis, sender, time_to_live}
use Rattle.lldp_probe.proofs.Spelled.{one_probe}
use Rattle.lldp_probe.proofs.laws.a_probe_is_read_again.Goals as goal

pub returns-clause-one : goal.returns-clause-one
returns-clause-one c = one_probe

pub returns-clause-sent : goal.returns-clause-sent
unfolding number
returns-clause-sent c = λ dp port ttl dp_small port_small. record {
  first = number 6 nearest_bridges;
  rest = _;
  whole = refl;
  in_front = record { fits = lit< tt; spelled = refl };
  behind = record {
    first = number 6 sender;
    rest = _;
    whole = refl;
    in_front = refl;
    behind = record {
      first = number 2 lldp;
      rest = _;
      whole = refl;
      in_front = record { fits = lit< tt; spelled = refl };
      behind = record {
        first = number 3 chassis;
        rest = _;
        whole = refl;
        in_front = record { fits = lit< tt; spelled = refl };
        behind = record {
          first = number 8 dp.0;
          rest = _;
          whole = refl;
          in_front = record { fits = dp_small; spelled = refl };
          behind = record {
            first = number 3 port_of_chassis;
            rest = _;
            whole = refl;
            in_front = record { fits = lit< tt; spelled = refl };
            behind = record {
              first = number 4 port;
              rest = _;
              whole = refl;
              in_front = record { fits = port_small; spelled = refl };
              behind = record {
                first = number 2 time_to_live;
                rest = _;
                whole = refl;
                in_front = record { fits = lit< tt; spelled = refl };
                behind = record { first = number 2 ttl; rest = _; whole = refl; in_front = refl; behind = tt };
              };
            };
          };
        };
      };
    };
  };
}
