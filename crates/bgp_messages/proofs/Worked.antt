-- Messages worked out by hand.
use Rattle.std.proofs.Common.{ℕ, ◌≤◌, List, [], ◌∷◌, Some, refl, lit≤}
use Rattle.bgp_messages.specs.declared.attribute.Attribute.{Attribute}
use Rattle.bgp_messages.specs.Numbers.{number_in}
use Rattle.bgp_messages.specs.Updates.{SpellsUpdate}
use Rattle.bgp_messages.specs.Worked.{update_text, office, worked_update}

attribute : ℕ → List ℕ → Attribute
attribute kind value = record { flags = 0x40; kind = kind; value = value }

pub update_spelled : (fits : 16 ≤ 32) → SpellsUpdate (worked_update fits) update_text
unfolding number_in attribute
update_spelled fits = record {
  parts = record {
    attributes = attribute 1 (0 ∷ []) ∷ attribute 2 (2 ∷ 1 ∷ 0xfd ∷ 0xea ∷ []) ∷ attribute 3 (0x0a ∷ 0x00 ∷ 0x64 ∷ 0x01 ∷ []) ∷ [];
    withdrawn = Some [];
    announced = Some (office fits ∷ []);
    path = Some (65002 ∷ []);
    spelled = record {
      fits = record { withdrawn = lit≤ tt; attributes = lit≤ tt };
      joined = record {
        first = 0x40 ∷ 1 ∷ 1 ∷ 0 ∷ [];
        rest = 0x40 ∷ 2 ∷ 4 ∷ 2 ∷ 1 ∷ 0xfd ∷ 0xea ∷ 0x40 ∷ 3 ∷ 4 ∷ 0x0a ∷ 0x00 ∷ 0x64 ∷ 0x01 ∷ [];
        whole = refl;
        in_front = record { flags = refl; kind = refl; len = refl; value = refl; size = refl };
        behind = record {
          first = 0x40 ∷ 2 ∷ 4 ∷ 2 ∷ 1 ∷ 0xfd ∷ 0xea ∷ [];
          rest = 0x40 ∷ 3 ∷ 4 ∷ 0x0a ∷ 0x00 ∷ 0x64 ∷ 0x01 ∷ [];
          whole = refl;
          in_front = record { flags = refl; kind = refl; len = refl; value = refl; size = refl };
          behind = record {
            first = 0x40 ∷ 3 ∷ 4 ∷ 0x0a ∷ 0x00 ∷ 0x64 ∷ 0x01 ∷ [];
            rest = [];
            whole = refl;
            in_front = record { flags = refl; kind = refl; len = refl; value = refl; size = refl };
            behind = refl;
          };
        };
      };
    };
    has_withdrawn = refl;
    has_announced = record {
      first = 0x10 ∷ 0xac ∷ 0x10 ∷ [];
      rest = [];
      whole = refl;
      in_front = record { len = refl; size = refl; address = refl };
      behind = refl;
    };
    has_path = record {
      segments = record { kind = 2; numbers = 65002 ∷ [] } ∷ [];
      joined = record {
        first = 2 ∷ 1 ∷ 0xfd ∷ 0xea ∷ [];
        rest = [];
        whole = refl;
        in_front = record { kind = refl; known = refl; count = refl; some = lit≤ tt; size = refl; numbers = refl };
        behind = refl;
      };
      all = refl;
    };
  };
  sound = refl;
  value = refl;
}
