-- Names of differences, joined and left out.
use Rattle.std.proofs.Common.{◌≡◌, Bool, true, false, not, ◌==◌, ◌&&◌, List, [], ◌++◌, Option, Some, None, inl, inr, refl, sym, ap, ◌∙◌, eqb-true, eq-eqb, true≢false}
use Rattle.std.specs.Prelude.{◌⊎◌, Contains}
use Rattle.std.specs.Option.{option_eq}
use Rattle.std.proofs.lemmas.Bool.{and_from, and_parts, cases_Bool}
use Rattle.std.proofs.lemmas.Option.{none-some, same_Some}
use Rattle.net_base.specs.declared.address.Mac.{Mac}
use Rattle.conf_types.specs.Configuration.{Configuration}
use Rattle.conf_types.specs.Links.{is_up}
use Rattle.conf_types.specs.State.{State, is_running}
use Rattle.conf_types.specs.Changes.{mac_of_neighbour, AreNamed, Standing, standing_of}
use Rattle.law_runs.specs.Members.{in_front, behind, in_filtered}
use Rattle.plan_units.specs.Agrees.{equal_bytes, same_bytes}
use Rattle.conf_types.specs.declared.change.Change.{Change}
use Rattle.conf_types.specs.declared.change.Change.TheVariants as change
use Rattle.law_units.specs.Reached.{is_other}
use Rattle.law_names.specs.Differing.{differing, differs, is_one_address, is_one_place}

pub none_named : (conf : Configuration) (s : State) → AreNamed conf s s []
none_named conf s = record {
  hosts = λ group vid mac other. absurd (other refl);
  ports = λ dp port other. absurd (other refl);
  dps = λ dp other. absurd (other refl);
  neighbours = λ group vid ip other. absurd (other refl);
}

pub more_named : (conf : Configuration) (old new : State) (xs ys : List Change) → ((c : Change) → Contains xs c → Contains ys c) → AreNamed conf old new xs → AreNamed conf old new ys
more_named conf old new xs ys within named = record {
  hosts = λ group vid mac other. within (change.Host group vid mac) (named.hosts group vid mac other);
  ports = λ dp port other. within (change.Port dp port) (named.ports dp port other);
  dps = λ dp other. within (change.Dp dp) (named.dps dp other);
  neighbours = λ group vid ip other. within (change.Neighbour group vid ip) (named.neighbours group vid ip other);
}

-- ---- equal by a test

pub not_true : (b : Bool) → not b ≡ false → b ≡ true
not_true true is = refl
not_true false is = absurd (true≢false is)

pub same_bool : (a b : Bool) → is_other a b ≡ false → a ≡ b
same_bool true true is = refl
same_bool false false is = refl
same_bool true false is = absurd (true≢false is)
same_bool false true is = absurd (true≢false is)

pub one_by : {A : Type 0} (test : A → A → Bool) → ((a b : A) → test a b ≡ true → a ≡ b) → (a b : Option A) → option_eq test a b ≡ true → a ≡ b
one_by test one None None is = refl
one_by test one None (Some b) is = absurd (true≢false (sym is))
one_by test one (Some a) None is = absurd (true≢false (sym is))
one_by test one (Some a) (Some b) is = ap Some (one a b is)

pub one_place : (a b : Standing) → is_one_place a b ≡ true → a ≡ b
one_place a b is =
    let p = and_parts (a.dp.0 == b.dp.0) (a.port == b.port && not (is_other a.is_fresh b.is_fresh)) is in
    let q = and_parts (a.port == b.port) (not (is_other a.is_fresh b.is_fresh)) p.1 in
    let dp : a.dp.0 ≡ b.dp.0 = eqb-true a.dp.0 b.dp.0 p.0 in
    let port : a.port ≡ b.port = eqb-true a.port b.port q.0 in
    let fresh : a.is_fresh ≡ b.is_fresh = same_bool a.is_fresh b.is_fresh (other_false (is_other a.is_fresh b.is_fresh) q.1) in
    λ i. record { dp = record { 0 = dp i }; port = port i; is_fresh = fresh i }
  where
    other_false : (b : Bool) → not b ≡ true → b ≡ false
    other_false true is = absurd (true≢false (sym is))
    other_false false is = refl

pub one_address : (a b : Mac) → is_one_address a b ≡ true → a ≡ b
one_address a b is = let same = same_bytes a.0 b.0 is in λ i. record { 0 = same i }

-- what can't be equal differs by the test
by_test : {P : Type 0} (b : Bool) → (b ≡ false → P) → (P → ⊥) → b ≡ true
by_test true equal other = refl
by_test false equal other = absurd (other (equal refl))

module _ (conf : Configuration) (old new : State) where
  pub exact_named : (xs : List Change) → AreNamed conf old new xs → AreNamed conf old new (differing conf old new xs)
  exact_named xs named = record {
    hosts = λ group vid mac other. in_filtered (differs conf old new) xs (change.Host group vid mac) (named.hosts group vid mac other)
        (by_test (differs conf old new (change.Host group vid mac)) (λ is. one_by is_one_place one_place _ _ (not_true _ is)) other);
    ports = λ dp port other. in_filtered (differs conf old new) xs (change.Port dp port) (named.ports dp port other)
        (by_test (differs conf old new (change.Port dp port)) (λ is. same_bool _ _ is) other);
    dps = λ dp other. in_filtered (differs conf old new) xs (change.Dp dp) (named.dps dp other)
        (by_test (differs conf old new (change.Dp dp)) (λ is. same_bool _ _ is) other);
    neighbours = λ group vid ip other. in_filtered (differs conf old new) xs (change.Neighbour group vid ip) (named.neighbours group vid ip other)
        (by_test (differs conf old new (change.Neighbour group vid ip)) (λ is. one_by is_one_address one_address _ _ (not_true _ is)) other);
  }

-- ---- over two steps

pub itself : (b : Bool) → not (is_other b b) ≡ true
itself true = refl
itself false = refl

pub place_itself : (a : Standing) → is_one_place a a ≡ true
place_itself a = and_from _ _ (eq-eqb a.dp.0 a.dp.0 refl) (and_from _ _ (eq-eqb a.port a.port refl) (itself a.is_fresh))

one_bool : (a b : Bool) → (a ≡ b) ⊎ (a ≡ b → ⊥)
one_bool true true = inl refl
one_bool false false = inl refl
one_bool true false = inr true≢false
one_bool false true = inr (λ e. true≢false (sym e))

one_or_not : {A : Type 0} (test : A → A → Bool) → ((a b : A) → test a b ≡ true → a ≡ b) → ((a : A) → test a a ≡ true) → (a b : Option A) → (a ≡ b) ⊎ (a ≡ b → ⊥)
one_or_not test one self None None = inl refl
one_or_not test one self None (Some b) = inr (λ e. none-some b e)
one_or_not test one self (Some a) None = inr (λ e. none-some a (sym e))
one_or_not test one self (Some a) (Some b) =
    elim (cases_Bool (test a b)) [
      | inl is ↦ inl (ap Some (one a b is))
      | inr not_one ↦ inr (λ e. true≢false (sym (self a) ∙ ap (test a) (same_Some a b e) ∙ not_one))
    ]

pub one_standing : (a b : Option Standing) → (a ≡ b) ⊎ (a ≡ b → ⊥)
one_standing a b = one_or_not is_one_place one_place place_itself a b

pub one_mac : (a b : Option Mac) → (a ≡ b) ⊎ (a ≡ b → ⊥)
one_mac a b = one_or_not is_one_address one_address (λ x. equal_bytes x.0 x.0 refl) a b

module _ (conf : Configuration) (a b d : State) (xs ys : List Change) (first : AreNamed conf a b xs) (second : AreNamed conf b d ys) where
  over : {A : Type 0} (x y z : A) (c : Change) → (x ≡ y) ⊎ (x ≡ y → ⊥) → ((x ≡ y → ⊥) → Contains xs c) → ((y ≡ z → ⊥) → Contains ys c) → (x ≡ z → ⊥) → Contains (xs ++ ys) c
  over x y z c (inl same) here there other = behind xs ys c (there (λ more. other (same ∙ more)))
  over x y z c (inr apart) here there other = in_front xs ys c (here apart)

  pub through_named : AreNamed conf a d (xs ++ ys)
  through_named = record {
    hosts = λ group vid mac other. over (standing_of conf a group vid mac) (standing_of conf b group vid mac) (standing_of conf d group vid mac) (change.Host group vid mac)
        (one_standing _ _) (first.hosts group vid mac) (second.hosts group vid mac) other;
    ports = λ dp port other. over (is_up a.ups dp port) (is_up b.ups dp port) (is_up d.ups dp port) (change.Port dp port) (one_bool _ _) (first.ports dp port) (second.ports dp port) other;
    dps = λ dp other. over (is_running a.running dp) (is_running b.running dp) (is_running d.running dp) (change.Dp dp) (one_bool _ _) (first.dps dp) (second.dps dp) other;
    neighbours = λ group vid ip other. over (mac_of_neighbour a.neighbours group vid ip) (mac_of_neighbour b.neighbours group vid ip) (mac_of_neighbour d.neighbours group vid ip) (change.Neighbour group vid ip)
        (one_mac _ _) (first.neighbours group vid ip) (second.neighbours group vid ip) other;
  }
