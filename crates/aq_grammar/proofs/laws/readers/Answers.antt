use Rattle.aq_grammar.specs.Laws.{Told, ToldIn}
use Rattle.aq_grammar.proofs.Reading.{one_value, first_fault, both-Reads}
use Rattle.aq_grammar.proofs.laws.readers.Goals as goal

pub returns-clause-one : goal.returns-clause-one
returns-clause-one g c = λ p l h reads x y front a b. one_value p (ToldIn l) (Told h) reads x y front a b

pub returns-clause-first_fault : goal.returns-clause-first_fault
returns-clause-first_fault g c = λ p l h reads ts rest k e. first_fault p (ToldIn l) (Told h) reads ts rest k e

pub returns-clause-both : goal.returns-clause-both
returns-clause-both g c = λ p q l m h k reads-p reads-q. both-Reads p q (ToldIn l) (ToldIn m) (Told h) (Told k) reads-p reads-q
