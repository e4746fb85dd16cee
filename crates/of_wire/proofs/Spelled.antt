-- What a call answers, against the grammar.
use Rattle.std.proofs.Common.{◌≡◌, ℕ, Bool, List, [], ◌++◌, length, take, get_or, ◌<◌, Result, Ok, Err, sym, ap, ◌∙◌, subst, arith}
use Rattle.std.specs.Result.{IfOk}
use Rattle.std.proofs.lemmas.List.{length-append, append-nil, nil_from_length}
use Rattle.net_base.specs.declared.field.Field.{Field}
use Rattle.of_match.specs.declared.action.Action.{Action}
use Rattle.of_match.specs.declared.action.Instr.{Instr}
use Rattle.of_wire.specs.declared.fault.PartFault.{PartFault}
use Rattle.of_wire.specs.declared.fault.PartCause.TheVariants.{Short}
use Rattle.of_wire.specs.declared.fault.PartRefused.{PartRefused}
use Rattle.of_wire.specs.Answers.{Gives, fault_at}
use Rattle.of_wire.specs.Reading.{match_at, actions_at, instrs_at}
use Rattle.of_wire.specs.Spelling.{SpellsAnyMatch, SpellsActions, SpellsInstrs}
use Rattle.of_wire.proofs.Chosen.{one_answer}
use Rattle.of_wire.proofs.MatchLaws.{match_complete}
use Rattle.of_wire.proofs.MatchFaults.{match_sound}
use Rattle.of_wire.proofs.SetLaws.{actions_complete}
use Rattle.of_wire.proofs.ActionFaults.{actions_sound}
use Rattle.of_wire.proofs.InstrLaws.{instrs_complete}
use Rattle.of_wire.proofs.InstrFaults.{instrs_sound}

pub if_ok : {X : Type 0} (r : Result X PartRefused) (read : Result X PartFault) (P : X → Type 0) → Gives (λ x. x) r read → ((x : X) → read ≡ Ok x → P x) → IfOk r P
if_ok (Ok x) read P e h = h x e
if_ok (Err e) read P g h = tt

pub match_spelled : (strict : Bool) (at : ℕ) (bytes : List ℕ) (r : Result (List Field × ℕ) PartRefused) → ((i : ℕ) → get_or bytes i 0 < 256) → Gives (λ x. x) r (match_at strict at bytes)
    → IfOk r (λ x. SpellsAnyMatch strict x.0 (take x.1 bytes))
match_spelled strict at bytes r h e = if_ok r (match_at strict at bytes) (λ x. SpellsAnyMatch strict x.0 (take x.1 bytes)) e
    (λ x is. (let f = match_sound strict at bytes x (record { small = h }) is in f.spelled))

pub match_read : (strict : Bool) (at : ℕ) (bytes : List ℕ) (r : Result (List Field × ℕ) PartRefused) → Gives (λ x. x) r (match_at strict at bytes)
    → (fields : List Field) (spelling rest : List ℕ) → SpellsAnyMatch strict fields spelling → bytes ≡ spelling ++ rest → Gives (λ x. x) r (Ok (fields, length spelling))
match_read strict at bytes r e fields spelling rest p is =
    subst (λ (q : Result (List Field × ℕ) PartFault). Gives (λ x. x) r q) (ap (match_at strict at) is ∙ match_complete strict at fields spelling rest p) e

pub actions_spelled : (past : PartFault) (at : ℕ) (bytes : List ℕ) (r : Result (List Action) PartRefused) → ((i : ℕ) → get_or bytes i 0 < 256) → Gives (λ x. x) r (actions_at past at bytes)
    → IfOk r (λ x. SpellsActions x bytes)
actions_spelled past at bytes r h e = if_ok r (actions_at past at bytes) (λ x. SpellsActions x bytes) e (λ x is. actions_sound past at bytes x (record { small = h }) is)

pub actions_read : (past : PartFault) (at : ℕ) (bytes : List ℕ) (r : Result (List Action) PartRefused) → Gives (λ x. x) r (actions_at past at bytes)
    → (actions : List Action) → SpellsActions actions bytes → Gives (λ x. x) r (Ok actions)
actions_read past at bytes r e actions p = subst (λ (q : Result (List Action) PartFault). Gives (λ x. x) r q) (actions_complete past at actions bytes p) e

pub instrs_spelled : (at : ℕ) (bytes : List ℕ) (r : Result (List Instr) PartRefused) → ((i : ℕ) → get_or bytes i 0 < 256) → Gives (λ x. x) r (instrs_at at bytes)
    → IfOk r (λ x. SpellsInstrs x bytes)
instrs_spelled at bytes r h e = if_ok r (instrs_at at bytes) (λ x. SpellsInstrs x bytes) e (λ x is. instrs_sound at bytes x (record { small = h }) is)

pub instrs_read : (at : ℕ) (bytes : List ℕ) (r : Result (List Instr) PartRefused) → Gives (λ x. x) r (instrs_at at bytes)
    → (instrs : List Instr) → SpellsInstrs instrs bytes → Gives (λ x. x) r (Ok instrs)
instrs_read at bytes r e instrs p = subst (λ (q : Result (List Instr) PartFault). Gives (λ x. x) r q) (instrs_complete at instrs bytes p) e

-- ---- one spelling

pub no_match_goes_on : (strict : Bool) (a b : List Field) (spelling rest : List ℕ) → SpellsAnyMatch strict a spelling → SpellsAnyMatch strict b (spelling ++ rest) → (a ≡ b) × (rest ≡ [])
no_match_goes_on strict a b spelling rest p q =
    let one = match_complete strict 0 a spelling rest p in
    let two = ap (match_at strict 0) (sym (append-nil (spelling ++ rest))) ∙ match_complete strict 0 b (spelling ++ rest) [] q in
    let same : (a, length spelling) ≡ (b, length (spelling ++ rest)) = one_answer (match_at strict 0 (spelling ++ rest)) _ _ one two in
    let sizes : length spelling ≡ length (spelling ++ rest) = ap (λ (x : List Field × ℕ). x.1) same in
    (ap (λ (x : List Field × ℕ). x.0) same, nil_from_length rest (omega (arith, sizes, length-append spelling rest)))

pub one_action_list : (a b : List Action) (bytes : List ℕ) → SpellsActions a bytes → SpellsActions b bytes → a ≡ b
one_action_list a b bytes p q =
    let past = fault_at 0 Short in one_answer (actions_at past 0 bytes) a b (actions_complete past 0 a bytes p) (actions_complete past 0 b bytes q)

pub one_instr_list : (a b : List Instr) (bytes : List ℕ) → SpellsInstrs a bytes → SpellsInstrs b bytes → a ≡ b
one_instr_list a b bytes p q = one_answer (instrs_at 0 bytes) a b (instrs_complete 0 a bytes p) (instrs_complete 0 b bytes q)
