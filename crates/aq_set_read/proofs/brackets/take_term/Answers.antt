use Rattle.std.proofs.Common.{◌≡◌, ◌≤◌, sym, ◌∙◌, ap, length, rules, tests}
use Rattle.aq_set_read.specs.Meaning.{digits_of}
use Rattle.aq_set_read.proofs.BracketLaws.{term_goes_on}
use Rattle.aq_set_read.proofs.brackets.take_term.Goals as goal

pub returns-clause-meaning : goal.returns-clause-meaning
returns-clause-meaning c =
    let few : c.args.qubits ≤ 16 = search (tests, rules) in
    let long : length c.digits_of-digits.result.now ≡ c.args.qubits = search (tests, rules) in
    let e = term_goes_on c.args.qubits c.args.earlier c.args.term.now c.args.collector.now c.in_ok-roots.roots c.digits_of-digits.result.now (record { index = c.binary-index.result; amp = c.in-Some.amp }) c.in_ok-roots.ensures few (c.digits_of-digits.ensures ∙ ap digits_of c.as_slice.ensures) long c.binary-index.ensures c.in-Some.ensures.1 in
    rw (sym e) c.add_term.ensures.meaning
