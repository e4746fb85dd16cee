-- What decides in a table: an entry that takes the packet, where all that take it with that priority or a
-- higher one do the same.
use Rattle.std.specs.Prelude.{◌≡◌, ℕ, ◌≤◌, Bool, true, false, List, [], ◌∷◌, Option, Some, None, Contains}
use Rattle.std.specs.List.{AllByRecursion}
use Rattle.std.proofs.Common.{refl, sym, ◌∙◌, true≢false, arith, inl, inr}
use Rattle.std.proofs.lemmas.Bool.{cases_lt}
use Rattle.of_match.specs.declared.entry.Entry.{Entry}
use Rattle.of_match.specs.declared.packet.Packet.{Packet}
use Rattle.of_match.specs.declared.packet.Sent.{Sent}
use Rattle.of_match.specs.Pipeline.{IsBest, Misses, sends_by, goes_on, takes}
use Rattle.law_runs.specs.Order.{AreSame}
use Rattle.law_runs.specs.Members.{head_of, tail_of, of_all, all_by}
use Rattle.law_runs.specs.Runs.{Decides}

module _ (t port : ℕ) (p : Packet) where
  -- ---- of the entries that take a packet one is best

  -- the best so far, if any takes the packet
  abbrev Highest : List Entry → Option Entry → Type 0
  Highest es None = AllByRecursion (λ f. takes t port p f ≡ false) es
  Highest es (Some e) = IsBest es t port p e

  one_more : (x : Entry) (es : List Entry) (b : Bool) → takes t port p x ≡ b → (o : Option Entry) → Highest es o → (n : Option Entry) × Highest (x ∷ es) n
  one_more x es false miss None all = (None, (miss, all))
  one_more x es false miss (Some e) best =
      (Some e, record { is_entry = tail_of x es e best.is_entry; hit = best.hit; highest = λ f w hit. of_all (λ g. takes t port p g ≡ true → g.key.priority ≤ e.key.priority) (x ∷ es) ((λ h. absurd (true≢false (sym h ∙ miss))), all_by (λ g. takes t port p g ≡ true → g.key.priority ≤ e.key.priority) es (λ g in_list h. best.highest g in_list h)) f w hit })
  one_more x es true hits_x None all =
      (Some x, record { is_entry = head_of x es; hit = hits_x; highest = λ f w hit. of_all (λ g. takes t port p g ≡ true → g.key.priority ≤ x.key.priority) (x ∷ es) ((λ h. omega arith), all_by (λ g. takes t port p g ≡ true → g.key.priority ≤ x.key.priority) es (λ g in_list h. absurd (true≢false (sym h ∙ of_all (λ g. takes t port p g ≡ false) es all g in_list)))) f w hit })
  one_more x es true hits_x (Some e) best =
      elim (cases_lt e.key.priority x.key.priority) [
        | inl lower ↦ (Some x, record { is_entry = head_of x es; hit = hits_x; highest = λ f w hit. of_all (λ g. takes t port p g ≡ true → g.key.priority ≤ x.key.priority) (x ∷ es) ((λ h. omega arith), all_by (λ g. takes t port p g ≡ true → g.key.priority ≤ x.key.priority) es (λ g in_list h. omega (arith, best.highest g in_list h, lower))) f w hit })
        | inr upper ↦ (Some e, record { is_entry = tail_of x es e best.is_entry; hit = best.hit; highest = λ f w hit. of_all (λ g. takes t port p g ≡ true → g.key.priority ≤ e.key.priority) (x ∷ es) ((λ h. omega (arith, upper)), all_by (λ g. takes t port p g ≡ true → g.key.priority ≤ e.key.priority) es (λ g in_list h. best.highest g in_list h)) f w hit })
      ]

  highest : (es : List Entry) → (o : Option Entry) × Highest es o
  highest [] = (None, tt)
  highest (x ∷ es) = let so_far = highest es in one_more x es (takes t port p x) refl so_far.0 so_far.1

  best_of : (es : List Entry) (e : Entry) → Contains es e → takes t port p e ≡ true → (b : Entry) × IsBest es t port p b
  best_of es e w hit = is (highest es)
    where
      is : ((o : Option Entry) × Highest es o) → (b : Entry) × IsBest es t port p b
      is (None, all) = absurd (true≢false (sym hit ∙ of_all (λ f. takes t port p f ≡ false) es all e w))
      is (Some b, best) = (b, best)

  -- ---- what decides

  -- the entry sends this, up to order, and the packet goes on so
  abbrev pub Does : List Sent → Option (ℕ × Packet) → Entry → Type 0
  Does sent on e = AreSame (sends_by e port p) sent × (goes_on e t p ≡ on)

  -- if it takes the packet, and no entry of this priority comes before it, it does so
  abbrev pub Follows : ℕ → List Sent → Option (ℕ × Packet) → Entry → Type 0
  Follows priority sent on e = takes t port p e ≡ true → priority ≤ e.key.priority → Does sent on e

  -- an entry of the tables takes the packet, and all that take it with its priority or a higher one do the
  -- same
  pub record IsDecided (tables : List Entry) (sent : List Sent) (on : Option (ℕ × Packet)) : Type 0 where
    pub by : Entry
    pub within : Contains tables by
    pub hit : takes t port p by ≡ true
    pub all : AllByRecursion (Follows by.key.priority sent on) tables

  pub decided : (tables : List Entry) (sent : List Sent) (on : Option (ℕ × Packet)) → IsDecided tables sent on → Decides tables port t p sent on
  decided tables sent on d =
      let b = best_of tables d.by d.within d.hit in
      record {
        best = b.0;
        is_best = b.1;
        every = λ e is. of_all (Follows d.by.key.priority sent on) tables d.all e is.is_entry is.hit (is.highest d.by d.within d.hit);
      }

  -- no entry takes the packet
  pub none_takes : (tables : List Entry) → AllByRecursion (λ e. takes t port p e ≡ false) tables → Misses tables t port p
  none_takes tables all = λ f w. of_all (λ e. takes t port p e ≡ false) tables all f w
