-- What actions in a row send, and what they leave.
use Rattle.std.specs.Prelude.{◌≡◌, ℕ, ◌==◌, not, Bool, true, false, List, [], ◌∷◌, ◌++◌, map, filter, Option, Some, None, option_and_then, if◌then◌else◌}
use Rattle.std.specs.List.{AllByRecursion}
use Rattle.std.specs.Option.{option_map_or}
use Rattle.std.proofs.Common.{refl, sym, ap, ◌∙◌, cond}
use Rattle.std.proofs.lemmas.List.{append_assoc, append-nil}
use Rattle.of_match.specs.declared.action.Action.{Action}
use Rattle.of_match.specs.declared.action.Action.TheVariants.{Output}
use Rattle.of_match.specs.declared.action.TheConstants.{IN_PORT}
use Rattle.of_match.specs.declared.packet.Packet.{Packet}
use Rattle.of_match.specs.declared.packet.Sent.{Sent}
use Rattle.of_match.specs.Act.{act_sends, act_left, sends_of, left_by}

pub left_joined : (xs ys : List Action) (p : Packet) → act_left (xs ++ ys) p ≡ option_and_then (act_left ys) (act_left xs p)
left_joined [] ys p = refl
left_joined (a ∷ xs) ys p = by (left_by a p) (λ q. left_joined xs ys q)
  where
    by : (o : Option Packet) → ((q : Packet) → act_left (xs ++ ys) q ≡ option_and_then (act_left ys) (act_left xs q)) → option_and_then (act_left (xs ++ ys)) o ≡ option_and_then (act_left ys) (option_and_then (act_left xs) o)
    by None more = refl
    by (Some q) more = more q

pub sends_joined : (xs ys : List Action) (port : ℕ) (p : Packet) → act_sends (xs ++ ys) port p ≡ act_sends xs port p ++ option_map_or (act_sends ys port) (act_left xs p) []
sends_joined [] ys port p = refl
sends_joined (a ∷ xs) ys port p = by (left_by a p) (λ q. sends_joined xs ys port q)
  where
    by : (o : Option Packet) → ((q : Packet) → act_sends (xs ++ ys) port q ≡ act_sends xs port q ++ option_map_or (act_sends ys port) (act_left xs q) []) → sends_of a port p ++ option_map_or (act_sends (xs ++ ys) port) o [] ≡ (sends_of a port p ++ option_map_or (act_sends xs port) o []) ++ option_map_or (act_sends ys port) (option_and_then (act_left xs) o) []
    by None more = sym (append-nil (sends_of a port p ++ []))
    by (Some q) more = ap (λ l. sends_of a port p ++ l) (more q) ∙ sym (append_assoc (sends_of a port p) (act_sends xs port q) (option_map_or (act_sends ys port) (act_left xs q) []))

-- the packet by each of these ports, but for the one that it came in by
abbrev pub sent_by_each : List ℕ → ℕ → Packet → List Sent
sent_by_each ports port p = map (λ n. record { port = n; packet = p }) (filter (λ n. not (n == port)) ports)

abbrev pub outputs : List ℕ → List Action
outputs ports = map (λ n. Output n 0) ports

-- outputs leave the packet as it is
pub outputs_leave : (ports : List ℕ) (p : Packet) → act_left (outputs ports) p ≡ Some p
outputs_leave [] p = refl
outputs_leave (n ∷ ports) p = outputs_leave ports p

-- and send it by each of the ports, of which none is the number that stands for the ingress
pub outputs_send : (ports : List ℕ) (port : ℕ) (p : Packet) → AllByRecursion (λ n. (n == IN_PORT) ≡ false) ports → act_sends (outputs ports) port p ≡ sent_by_each ports port p
outputs_send [] port p all = refl
outputs_send (n ∷ ports) port p all = by (n == port) refl (outputs_send ports port p all.1)
  where
    by : (b : Bool) → (n == port) ≡ b → act_sends (outputs ports) port p ≡ sent_by_each ports port p
        → (if (n == IN_PORT) then record { port = port; packet = p } ∷ [] else (if (n == port) then [] else record { port = n; packet = p } ∷ [])) ++ act_sends (outputs ports) port p ≡ map (λ m. record { port = m; packet = p }) (cond (not (n == port)) (n ∷ filter (λ m. not (m == port)) ports) (filter (λ m. not (m == port)) ports))
    by true is more = rw all.0 (rw is more)
    by false is more = rw all.0 (rw is (ap (λ l. record { port = n; packet = p } ∷ l) more))
