-- Actions are read exactly where they are spelled.
use Rattle.std.proofs.Common.{◌≡◌, ℕ, ◌+◌, ◌≤◌, true, false, eqb, ltb, List, [], ◌∷◌, ◌++◌, length, take, drop, Ok, refl, sym, ◌∙◌, arith}
use Rattle.std.proofs.lemmas.Bool.{le-ltb, eq-eqb}
use Rattle.std.proofs.lemmas.List.{length-drop, length-take-le, length-append, take-append-drop}
use Rattle.of_match.specs.declared.action.Action.TheVariants.{Output, PushVlan, PopVlan, DecTtl}
use Rattle.of_wire.specs.declared.fault.PartFault.{PartFault}
use Rattle.of_wire.specs.Numbers.{number_in}
use Rattle.of_wire.specs.Reading.{sized_at, output_at, push_at, bare_at, action_of, action_at}
use Rattle.of_wire.specs.Grammar.{◌▷◌, Number, Ignored}
use Rattle.of_wire.specs.Spelling.{SpellsAction}
use Rattle.of_wire.proofs.Grammars.{AreBytes, bytes_take, number_then, number_again, number_of_take, number_of_front}
use Rattle.of_wire.proofs.Joining.{Part}

-- the bytes begin with a part that is spelled
pub record Front (spells : List ℕ → Type 0) (n : ℕ) (bytes : List ℕ) : Type 0 where
  pub room : n ≤ length bytes
  pub some : 1 ≤ n
  pub spelled : spells (take n bytes)

-- its first n bytes spell it
pub front_of : (spells : List ℕ → Type 0) (n : ℕ) (bytes : List ℕ) → AreBytes bytes → 1 ≤ n → n ≤ length bytes → (AreBytes (take n bytes) → length (take n bytes) ≡ n → spells (take n bytes)) → Front spells n bytes
front_of spells n bytes h some room spelled = record { room = room; some = some; spelled = spelled (bytes_take n bytes h) (length-take-le n bytes room) }

sized_complete : (past : PartFault) (size at : ℕ) (bytes : List ℕ) → size ≤ length bytes → sized_at past size size at bytes ≡ Ok size
unfolding sized_at
sized_complete past size at bytes l =
    let t : eqb size size ≡ true = eq-eqb size size refl in
    let s : ltb (length bytes) size ≡ false = le-ltb _ _ l in
    rw (t, s) refl

pub front_part : {A : Type 0} (spells : List A → A → List ℕ → Type 0) (before : List A) (a : A) (n : ℕ) (bytes : List ℕ) → Front (spells before a) n bytes → Part spells (λ l. l) before bytes (before ++ a ∷ [], n)
front_part spells before a n bytes f = record {
  part = a;
  parts = record { first = take n bytes; rest = drop n bytes; whole = sym (take-append-drop n bytes); in_front = f.spelled; behind = f.some };
  size = length-take-le n bytes f.room;
  seen = refl;
}

-- what stands at the front is spelled where its type and its length are right
pub output_front : (bytes : List ℕ) → AreBytes bytes → number_in 0 2 bytes ≡ 0 → number_in 2 2 bytes ≡ 16 → 16 ≤ length bytes → Front (SpellsAction (Output (number_in 4 4 bytes) (number_in 8 2 bytes))) 16 bytes
output_front bytes h kind len room =
    let xs = take 16 bytes in
    front_of _ 16 bytes h (omega arith) room (λ hx lx.
    number_then 0 2 0 _ xs hx (omega arith) (number_of_take 0 2 16 bytes (omega arith) room ∙ kind) (
    number_then 2 2 16 _ xs hx (omega arith) (number_of_take 2 2 16 bytes (omega arith) room ∙ len) (
    number_then 4 4 (number_in 4 4 bytes) _ xs hx (omega arith) (number_of_take 4 4 16 bytes (omega arith) room) (
    number_then 8 2 (number_in 8 2 bytes) _ xs hx (omega arith) (number_of_take 8 2 16 bytes (omega arith) room) (
    omega (arith, length-drop 10 xs))))))

pub push_front : (bytes : List ℕ) → AreBytes bytes → number_in 0 2 bytes ≡ 17 → number_in 2 2 bytes ≡ 8 → 8 ≤ length bytes → Front (SpellsAction (PushVlan (number_in 4 2 bytes))) 8 bytes
push_front bytes h kind len room =
    let xs = take 8 bytes in
    front_of _ 8 bytes h (omega arith) room (λ hx lx.
    number_then 0 2 17 _ xs hx (omega arith) (number_of_take 0 2 8 bytes (omega arith) room ∙ kind) (
    number_then 2 2 8 _ xs hx (omega arith) (number_of_take 2 2 8 bytes (omega arith) room ∙ len) (
    number_then 4 2 (number_in 4 2 bytes) _ xs hx (omega arith) (number_of_take 4 2 8 bytes (omega arith) room) (
    omega (arith, length-drop 6 xs)))))

pub bare_front : (kind : ℕ) (bytes : List ℕ) → AreBytes bytes → number_in 0 2 bytes ≡ kind → number_in 2 2 bytes ≡ 8 → 8 ≤ length bytes → Front (Number 2 kind ▷ Number 2 8 ▷ Ignored 4) 8 bytes
bare_front kind bytes h is len room =
    let xs = take 8 bytes in
    front_of _ 8 bytes h (omega arith) room (λ hx lx.
    number_then 0 2 kind _ xs hx (omega arith) (number_of_take 0 2 8 bytes (omega arith) room ∙ is) (
    number_then 2 2 8 _ xs hx (omega arith) (number_of_take 2 2 8 bytes (omega arith) room ∙ len) (
    omega (arith, length-drop 4 xs))))

-- what is spelled at the front is read, whatever follows
pub output_complete : (past : PartFault) (port max_len at : ℕ) (first rest : List ℕ) → SpellsAction (Output port max_len) first
    → (action_at past at (first ++ rest) ≡ Ok (Output port max_len, length first)) × (1 ≤ length first)
unfolding action_at action_of output_at
output_complete past port max_len at first rest p =
    let bytes = first ++ rest in
    let a = number_again 0 2 0 _ first p in
    let b = number_again 2 2 16 _ first a.behind in
    let c = number_again 4 4 port _ first b.behind in
    let d = number_again 8 2 max_len _ first c.behind in
    let len : length first ≡ 16 = omega (arith, a.size, b.size, c.size, d.size, d.behind) in
    let whole : length bytes ≡ length first + length rest = length-append first rest in
    let long : ltb (length bytes) 4 ≡ false = le-ltb _ _ (omega arith) in
    let k : number_in 0 2 bytes ≡ 0 = number_of_front 0 2 first rest (omega arith) ∙ a.value in
    let l : number_in 2 2 bytes ≡ 16 = number_of_front 2 2 first rest (omega arith) ∙ b.value in
    let m : number_in 4 4 bytes ≡ port = number_of_front 4 4 first rest (omega arith) ∙ c.value in
    let n : number_in 8 2 bytes ≡ max_len = number_of_front 8 2 first rest (omega arith) ∙ d.value in
    let s : sized_at past 16 16 at bytes ≡ Ok 16 = sized_complete past 16 at bytes (omega arith) in
    (rw (long, k, l, s, m, n, len) refl, omega arith)

pub push_complete : (past : PartFault) (eth_type at : ℕ) (first rest : List ℕ) → SpellsAction (PushVlan eth_type) first
    → (action_at past at (first ++ rest) ≡ Ok (PushVlan eth_type, length first)) × (1 ≤ length first)
unfolding action_at action_of push_at
push_complete past eth_type at first rest p =
    let bytes = first ++ rest in
    let a = number_again 0 2 17 _ first p in
    let b = number_again 2 2 8 _ first a.behind in
    let c = number_again 4 2 eth_type _ first b.behind in
    let len : length first ≡ 8 = omega (arith, a.size, b.size, c.size, c.behind) in
    let whole : length bytes ≡ length first + length rest = length-append first rest in
    let long : ltb (length bytes) 4 ≡ false = le-ltb _ _ (omega arith) in
    let k : number_in 0 2 bytes ≡ 17 = number_of_front 0 2 first rest (omega arith) ∙ a.value in
    let l : number_in 2 2 bytes ≡ 8 = number_of_front 2 2 first rest (omega arith) ∙ b.value in
    let m : number_in 4 2 bytes ≡ eth_type = number_of_front 4 2 first rest (omega arith) ∙ c.value in
    let s : sized_at past 8 8 at bytes ≡ Ok 8 = sized_complete past 8 at bytes (omega arith) in
    (rw (long, k, l, s, m, len) refl, omega arith)

record Bare (kind at : ℕ) (first rest : List ℕ) (past : PartFault) : Type 0 where
  pub long : ltb (length (first ++ rest)) 4 ≡ false
  pub kind_is : number_in 0 2 (first ++ rest) ≡ kind
  pub len_is : number_in 2 2 (first ++ rest) ≡ 8
  pub sized : sized_at past 8 8 at (first ++ rest) ≡ Ok 8
  pub len : length first ≡ 8

bare_again : (kind at : ℕ) (first rest : List ℕ) (past : PartFault) → (Number 2 kind ▷ Number 2 8 ▷ Ignored 4) first → Bare kind at first rest past
bare_again kind at first rest past p =
    let a = number_again 0 2 kind _ first p in
    let b = number_again 2 2 8 _ first a.behind in
    let bytes = first ++ rest in
    let len : length first ≡ 8 = omega (arith, a.size, b.size, b.behind) in
    let whole : length bytes ≡ length first + length rest = length-append first rest in
    record {
      long = le-ltb _ _ (omega arith);
      kind_is = number_of_front 0 2 first rest (omega arith) ∙ a.value;
      len_is = number_of_front 2 2 first rest (omega arith) ∙ b.value;
      sized = sized_complete past 8 at bytes (omega arith);
      len = len;
    }

pub pop_complete : (past : PartFault) (at : ℕ) (first rest : List ℕ) → SpellsAction PopVlan first
    → (action_at past at (first ++ rest) ≡ Ok (PopVlan, length first)) × (1 ≤ length first)
unfolding action_at action_of bare_at
pop_complete past at first rest p =
    let b = bare_again 18 at first rest past p in
    (rw (b.long, b.kind_is, b.len_is, b.sized, b.len) refl, omega (arith, b.len))

pub ttl_complete : (past : PartFault) (at : ℕ) (first rest : List ℕ) → SpellsAction DecTtl first
    → (action_at past at (first ++ rest) ≡ Ok (DecTtl, length first)) × (1 ≤ length first)
unfolding action_at action_of bare_at
ttl_complete past at first rest p =
    let b = bare_again 24 at first rest past p in
    (rw (b.long, b.kind_is, b.len_is, b.sized, b.len) refl, omega (arith, b.len))
