use Rattle.std.proofs.Common.{◌≡◌, ◌↔◌, ℕ, Bool, true, false, not, refl, sym, ◌∙◌, subst, inl, inr, ⊎_elim}
use Rattle.std.specs.Prelude.{IsTrue}
use Rattle.std.proofs.lemmas.Bool.{false≢true}
use Rattle.net_base.specs.declared.numbers.DpId.{DpId}
use Rattle.net_base.specs.declared.stack.StackLink.{StackLink}
use Rattle.stack_paths.specs.Stack.{IsEnd, ArePortsApart}
use Rattle.stack_paths.proofs.stack.are_ports_apart.Goals as goal

-- where neither end of the one link is an end of the other
apart_by_ends : (l m : StackLink) → (IsEnd m l.a l.a_port → ⊥) → (IsEnd m l.b l.b_port → ⊥) → ArePortsApart l m
apart_by_ends l m no_a no_b d p end_l end_m = ⊎_elim
    (λ (x : (l.a ≡ d) × (l.a_port ≡ p)). no_a (subst (λ (k : ℕ). IsEnd m l.a k) (sym x.1) (subst (λ (y : DpId). IsEnd m y p) (sym x.0) end_m)))
    (λ (x : (l.b ≡ d) × (l.b_port ≡ p)). no_b (subst (λ (k : ℕ). IsEnd m l.b k) (sym x.1) (subst (λ (y : DpId). IsEnd m y p) (sym x.0) end_m)))
    end_l

second : (l m : StackLink) (r : Bool) → (IsEnd m l.a l.a_port → ⊥) → IsTrue r ↔ IsEnd m l.b l.b_port → IsTrue (not r) ↔ ArePortsApart l m
second l m true no_a is = (λ t. absurd (false≢true t), λ apart. absurd (apart l.b l.b_port (inr (refl, refl)) (is.0 refl)))
second l m false no_a is = (λ _. apart_by_ends l m no_a (λ e. false≢true (is.1 e)), λ _. refl)

first : (l m : StackLink) (r : Bool) → r ≡ true → IsTrue r ↔ IsEnd m l.a l.a_port → IsTrue (not r) ↔ ArePortsApart l m
first l m true e is = (λ t. absurd (false≢true t), λ apart. absurd (apart l.a l.a_port (inl (refl, refl)) (is.0 refl)))
first l m false e is = absurd (false≢true e)

pub returns-then-not-is_end : goal.returns-then-not-is_end
returns-then-not-is_end c =
    let l = c.args.l.now in
    let m = c.args.m.now in
    let is_a = subst (λ (k : ℕ). IsTrue c.is_end.result ↔ IsEnd m l.a k) c.get.ensures.value c.is_end.ensures in
    let is_b = subst (λ (k : ℕ). IsTrue c.is_end-then-not-is_end.result ↔ IsEnd m l.b k) c.get-then-not-is_end.ensures.value c.is_end-then-not-is_end.ensures in
    second l m c.is_end-then-not-is_end.result (λ e. false≢true (sym c.if-not-is_end.true ∙ is_a.1 e)) is_b

pub returns-else-not-is_end : goal.returns-else-not-is_end
returns-else-not-is_end c =
    let l = c.args.l.now in
    let m = c.args.m.now in
    let is_a = subst (λ (k : ℕ). IsTrue c.is_end.result ↔ IsEnd m l.a k) c.get.ensures.value c.is_end.ensures in
    first l m c.is_end.result c.if-not-is_end.false is_a
