use Rattle.bgp_peer.proofs.Further.{told, kept, passed_over, end_passed_over}
use Rattle.bgp_peer.proofs.laws.a_further_connection_is_turned_away.Goals as goal

pub returns-clause-told : goal.returns-clause-told
returns-clause-told c = told

pub returns-clause-kept : goal.returns-clause-kept
returns-clause-kept c = kept

pub returns-clause-heard : goal.returns-clause-heard
returns-clause-heard c = λ k conn other piece e apart. passed_over k conn other e apart piece

pub returns-clause-closed : goal.returns-clause-closed
returns-clause-closed c = λ k conn other cause e apart. end_passed_over k conn other e apart cause
