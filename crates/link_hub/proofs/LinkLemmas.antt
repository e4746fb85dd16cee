-- What one link had to write, call by call.
use Rattle.std.proofs.Common.{◌≡◌, ℕ, ◌≤◌, List, [], ◌++◌, take, drop, Option, sym, ◌∙◌, ap, arith, append_assoc, append-nil}
use Rattle.std.proofs.lemmas.Grind.{common_steps}
use Rattle.fg_outside.proofs.SinkLemmas.{appended-append}
use Rattle.fg_outside.specs.Wrote.{appended}
use Rattle.fg_links.specs.declared.link.Link as link
use Rattle.link_hub.specs.declared.live.Live.{Live}
use Rattle.link_hub.specs.Links.{Sends}

-- a front was written
pub sends_front : {L : Type 0} (it : link.Ghosts L) (n : ℕ) (old new : Live L) → new.unsent ≡ drop n old.unsent → it.wrote new.link ≡ appended (it.wrote old.link) (take n old.unsent) → new.opened ≡ old.opened → it.faults old.link ≤ it.faults new.link → it.unwritten old.link ≤ it.unwritten new.link → Sends it [] old new
sends_front it n old new unsent wrote opened faults unwritten = record {
  front = take n old.unsent;
  parts = grind (arith, common_steps, unsent);
  wrote = wrote;
  opened = opened;
  faults = faults;
  unwritten = unwritten;
}

-- parts of parts
parts_of : (a p f b g c : List ℕ) → a ++ p ≡ f ++ b → b ++ [] ≡ g ++ c → a ++ p ≡ (f ++ g) ++ c
parts_of a p f b g c e h = e ∙ ap (λ (l : List ℕ). f ++ l) (sym (append-nil b) ∙ h) ∙ sym (append_assoc f g c)

-- what was said, and then more was written of it
pub sends_then : {L : Type 0} (it : link.Ghosts L) (piece : List ℕ) (old mid new : Live L) → Sends it piece old mid → Sends it [] mid new → Sends it piece old new
sends_then it piece old mid new first then_ = record {
  front = first.front ++ then_.front;
  parts = parts_of old.unsent piece first.front mid.unsent then_.front new.unsent first.parts then_.parts;
  wrote = then_.wrote ∙ ap (λ (w : Option (List ℕ)). appended w then_.front) first.wrote ∙ appended-append (it.wrote old.link) first.front then_.front;
  opened = then_.opened ∙ first.opened;
  faults = omega (arith, first.faults, then_.faults);
  unwritten = omega (arith, first.unwritten, then_.unwritten);
}
