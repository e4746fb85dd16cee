-- Runs through tables in which every choice of a best entry leads to the same.
use Rattle.std.specs.Prelude.{◌≡◌, ℕ, Bool, true, false, List, [], ◌++◌, Option, Some, None, Contains}
use Rattle.std.proofs.Common.{refl, sym, ap, subst, ◌∙◌, true≢false}
use Rattle.std.proofs.lemmas.Option.{same_Some, none-some}
use Rattle.of_match.specs.declared.entry.Entry.{Entry}
use Rattle.of_match.specs.declared.packet.Packet.{Packet}
use Rattle.of_match.specs.declared.packet.Sent.{Sent}
use Rattle.of_match.specs.Pipeline.{IsBest, Misses, PipesFrom, misses, stops, goes, sends_by, goes_on, takes}
use Rattle.law_runs.specs.Order.{AreSame, same_self, same_then, same_joined}

-- a test of the packets that are sent passes what is the same up to order
module _ (tables : List Entry) (port : ℕ) where
  -- some entry of table t is a best one for the packet; each that is one sends this, up to order, and the
  -- packet goes on so
  pub record Decides (t : ℕ) (p : Packet) (sent : List Sent) (on : Option (ℕ × Packet)) : Type 0 where
    pub best : Entry
    pub is_best : IsBest tables t port p best
    pub every : (e : Entry) → IsBest tables t port p e → AreSame (sends_by e port p) sent × (goes_on e t p ≡ on)

  -- a run from table t on sends this, up to order
  pub record HasRun (t : ℕ) (p : Packet) (outs : List Sent) : Type 0 where
    pub sends : List Sent
    pub run : PipesFrom tables port t p sends
    pub same : AreSame sends outs

  -- there is one, and each sends this, up to order
  pub record SendsJust (t : ℕ) (p : Packet) (outs : List Sent) : Type 0 where
    pub some : HasRun t p outs
    pub only : (o : List Sent) → PipesFrom tables port t p o → AreSame o outs

  no_best : (t : ℕ) (p : Packet) → Misses tables t port p → (e : Entry) → IsBest tables t port p e → ⊥
  no_best t p m e b = true≢false (sym b.hit ∙ m e b.is_entry)

  only_missed : (t : ℕ) (p : Packet) (o : List Sent) → PipesFrom tables port t p o → Misses tables t port p → o ≡ []
  only_missed _ _ _ (misses t p none) m = refl
  only_missed _ _ _ (stops t p e b on) m = absurd (no_best t p m e b)
  only_missed _ _ _ (goes t p e u q rest b on r) m = absurd (no_best t p m e b)

  -- where no entry takes the packet, nothing is sent
  pub missed : (t : ℕ) (p : Packet) → Misses tables t port p → SendsJust t p []
  missed t p m = record {
    some = record { sends = []; run = misses t p m; same = same_self [] };
    only = λ o r. subst (λ l. AreSame l []) (sym (only_missed t p o r m)) (same_self []);
  }

  only_stopped : (t : ℕ) (p : Packet) (sent o : List Sent) → PipesFrom tables port t p o → Decides t p sent None → AreSame o sent
  only_stopped _ _ sent _ (misses t p none) d = absurd (no_best t p none d.best d.is_best)
  only_stopped _ _ sent _ (stops t p e b on) d = (d.every e b).0
  only_stopped _ _ sent _ (goes t p e u q rest b on r) d = absurd (none-some (u, q) (sym (d.every e b).1 ∙ on))

  -- where the packet goes on to no table, what the table sends is all
  pub stopped : (t : ℕ) (p : Packet) (sent : List Sent) → Decides t p sent None → SendsJust t p sent
  stopped t p sent d =
      let facts = d.every d.best d.is_best in
      record {
        some = record { sends = sends_by d.best port p; run = stops t p d.best d.is_best facts.1; same = facts.0 };
        only = λ o r. only_stopped t p sent o r d;
      }

  only_went : (t : ℕ) (p : Packet) (sent o : List Sent) (u : ℕ) (q : Packet) (rest : List Sent) → PipesFrom tables port t p o → Decides t p sent (Some (u, q)) → SendsJust u q rest → AreSame o (sent ++ rest)
  only_went _ _ sent _ u q rest (misses t p none) d x = absurd (no_best t p none d.best d.is_best)
  only_went _ _ sent _ u q rest (stops t p e b on) d x = absurd (none-some (u, q) (sym on ∙ (d.every e b).1))
  only_went _ _ sent _ u q rest (goes t p e v s more b on r) d x =
      let facts = d.every e b in
      let same : (v, s) ≡ (u, q) = same_Some (v, s) (u, q) (sym on ∙ facts.1) in
      let there : PipesFrom tables port u q more = subst (λ (w : ℕ × Packet). PipesFrom tables port w.0 w.1 more) same r in
      same_joined (sends_by e port p) sent more rest facts.0 (x.only more there)

  -- where it goes on to a table, what is sent from there on comes behind
  pub went : (t : ℕ) (p : Packet) (sent : List Sent) (u : ℕ) (q : Packet) (rest : List Sent) → Decides t p sent (Some (u, q)) → SendsJust u q rest → SendsJust t p (sent ++ rest)
  went t p sent u q rest d x =
      let facts = d.every d.best d.is_best in
      record {
        some = record { sends = sends_by d.best port p ++ x.some.sends; run = goes t p d.best u q x.some.sends d.is_best facts.1 x.some.run; same = same_joined (sends_by d.best port p) sent x.some.sends rest facts.0 x.some.same };
        only = λ o r. only_went t p sent o u q rest r d x;
      }

  -- the order of what is sent doesn't count
  pub reordered : (t : ℕ) (p : Packet) (outs others : List Sent) → AreSame outs others → SendsJust t p outs → SendsJust t p others
  reordered t p outs others s x = record {
    some = record { sends = x.some.sends; run = x.some.run; same = same_then x.some.sends outs others x.some.same s };
    only = λ o r. same_then o outs others (x.only o r) s;
  }
