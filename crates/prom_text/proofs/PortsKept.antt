-- The ports that count, one by one, and what is made of each.
use Rattle.std.proofs.Common.{◌≡◌, ◌≢◌, ℕ, zero, suc, ◌+◌, ◌<◌, Bool, true, false, ◌||◌, ◌==◌, List, [], ◌∷◌, ◌++◌, length, take, get_or, refl, sym, ap, ◌∙◌, subst, arith}
use Rattle.std.specs.BTreeSet.{BTreeSet, contains}
use Rattle.std.specs.List.{list_any}
use Rattle.std.specs.Ordering.{nat_cmp}
use Rattle.of13_codec.specs.declared.ports.PortStats.{PortStats}
use Rattle.prom_text.specs.Counted.{is_same_port, most_ports}
use Rattle.prom_text.proofs.Counting.{SoFar, any_more, none_yet, passed, taken}

abbrev pub port_at : List PortStats → ℕ → PortStats
port_at items i = get_or items i (record { no = 0; counters = []; sec = 0; nsec = 0 })

other_default : (items : List PortStats) (i : ℕ) (d e : PortStats) → i < length items → get_or items i d ≡ get_or items i e
other_default [] i d e within = absurd (omega arith)
other_default (x ∷ more) zero d e within = refl
other_default (x ∷ more) (suc i) d e within = other_default more i d e (omega arith)

port_is : (items : List PortStats) (i : ℕ) → i < length items → port_at items i ≡ get_or items i (port_at items i)
port_is items i within = other_default items i (record { no = 0; counters = []; sec = 0; nsec = 0 }) (port_at items i) within

module _ {R : Type 0} (make : PortStats → R) where
  pub record PortsSoFar (items : List PortStats) (i : ℕ) (seen : BTreeSet ℕ) (made : List R) : Type 0 where
    pub seen_are : (n : ℕ) → contains nat_cmp seen n ≡ list_any (λ p. p.no == n) (take i items)
    pub far : SoFar is_same_port make most_ports items i made

  pub no_ports : (items : List PortStats) (seen : BTreeSet ℕ) → ((n : ℕ) → contains nat_cmp seen n ≡ false) → PortsSoFar items 0 seen []
  no_ports items seen none = record { seen_are = none; far = none_yet is_same_port make most_ports items }

  module _ (items : List PortStats) (i : ℕ) (seen more : BTreeSet ℕ) (made : List R) (within : i < length items)
      (grown : (n : ℕ) → contains nat_cmp more n ≡ (contains nat_cmp seen n || (port_at items i).no == n)) where
    see_port : PortsSoFar items i seen made → (n : ℕ) → contains nat_cmp more n ≡ list_any (λ p. p.no == n) (take (i + 1) items)
    see_port p n = grown n ∙ ap (λ b. b || (port_at items i).no == n) (p.seen_are n) ∙ sym (any_more (λ q. q.no == n) items i (port_at items i) within (port_is items i within))

    pub port_passed : (was : Bool) → was ≡ contains nat_cmp seen (port_at items i).no → was ≡ true → PortsSoFar items i seen made → PortsSoFar items (i + 1) more made
    port_passed was told e p = record {
      seen_are = see_port p;
      far = passed is_same_port make most_ports items i (port_at items i) made within (port_is items i within) (sym (p.seen_are (port_at items i).no) ∙ sym told ∙ e) p.far;
    }

    pub port_taken : (was : Bool) (one : R) → was ≡ contains nat_cmp seen (port_at items i).no → was ≡ false → length made ≢ most_ports → one ≡ make (port_at items i) → PortsSoFar items i seen made
        → PortsSoFar items (i + 1) more (made ++ one ∷ [])
    port_taken was one told e room same p = record {
      seen_are = see_port p;
      far = subst (λ r. SoFar is_same_port make most_ports items (i + 1) (made ++ r ∷ [])) (sym same)
          (taken is_same_port make most_ports items i (port_at items i) made within (port_is items i within) (sym (p.seen_are (port_at items i).no) ∙ sym told ∙ e) room p.far);
    }
