use Rattle.std.proofs.Common.{◌≡◌, ◌+◌, Some, length, slice_get, sym, ◌∙◌, subst, arith}
use Rattle.aq_cert.specs.declared.cert.Cert.{Cert}
use Rattle.aq_include.specs.Answers.{Answers, IsPaid, search_budget}
use Rattle.aq_include.specs.Costs.{IsCause}
use Rattle.aq_include.specs.declared.inclusion.Answer.TheVariants as answer
use Rattle.aq_include.proofs.CostLemmas.{cause-within, takes-within}
use Rattle.aq_decide.specs.Certified.{AreCertifiedAfter}
use Rattle.aq_decide.specs.Kept.{alone}
use Rattle.aq_decide.proofs.CertifiedLemmas.{noted, paid_if, price_within, recalled_answer, recalled_known}
use Rattle.aq_decide.proofs.JudgeLemmas.{err_map, ok_map}
use Rattle.aq_decide.proofs.certified.include_once.Goals.{in-Included+in-Ok, in_default-answer}
use Rattle.aq_decide.proofs.certified.include_once.Goals as goal

pub returns-in-Some-clause-answer : goal.returns-in-Some-clause-answer
returns-in-Some-clause-answer c =
    let f = c.in-Some.finding.now in
    ok_map (λ a. (cert : Cert) × (slice_get c.args.certs.now f.cert ≡ Some cert) × (a ≡ answer.Included cert)) (Answers alone c.args.store.now c.args.left.now c.args.goals.now)
    (λ a r. recalled_answer c.args.store.now c.args.certs.now c.args.known.now c.args.left.now c.args.goals.now f c.in-Some.ensures c.requires.known a r) c.recall.result c.recall.ensures.answer

pub returns-in-Some-clause-known : goal.returns-in-Some-clause-known
returns-in-Some-clause-known c =
    let f = c.in-Some.finding.now in
    ok_map (λ a. (cert : Cert) × (slice_get c.args.certs.now f.cert ≡ Some cert) × (a ≡ answer.Included cert)) (AreCertifiedAfter c.args.store.now c.args.certs.now c.args.known.now)
    (λ a r. recalled_known c.args.store.now c.args.certs.now c.args.known.now c.args.left.now c.args.goals.now f c.in-Some.ensures c.requires.known a r) c.recall.result c.recall.ensures.answer

pub returns-in-Some-clause-size : goal.returns-in-Some-clause-size
returns-in-Some-clause-size c =
    let f = c.in-Some.finding.now in
    paid_if c.args.store.now c.args.certs.now c.args.known.now c.args.left.now c.args.goals.now f c.in-Some.ensures c.requires.known c.args.steps.now c.recall.new.steps c.recall.result c.recall.ensures.answer c.recall.ensures.paid

pub returns-in-Some-clause-takes : goal.returns-in-Some-clause-takes
returns-in-Some-clause-takes c =
    let f = c.in-Some.finding.now in
    takes-within f.price (search_budget c.args.left.now c.args.goals.now) c.args.steps.now c.recall.new.steps
    (price_within c.args.store.now c.args.certs.now c.args.known.now c.args.left.now c.args.goals.now f c.in-Some.ensures c.requires.known) c.recall.ensures.takes

pub returns-in-Some-clause-spent : goal.returns-in-Some-clause-spent
returns-in-Some-clause-spent c =
    let f = c.in-Some.finding.now in
    let within = price_within c.args.store.now c.args.certs.now c.args.known.now c.args.left.now c.args.goals.now f c.in-Some.ensures c.requires.known in
    err_map (IsCause f.price c.args.steps.now) (IsCause f.price c.args.steps.now) (IsCause (search_budget c.args.left.now c.args.goals.now) c.args.steps.now)
    (λ e h g. cause-within f.price (search_budget c.args.left.now c.args.goals.now) c.args.steps.now e within h) c.recall.result c.recall.ensures.spent c.recall.ensures.spent

pub returns-clause-known : goal.returns-clause-known
returns-clause-known c = elim c.match-answer.branch [
  | in-Included+in-Ok w ↦
      let table = c.args.store.now in
      let certs = c.args.certs.now in
      let left = c.args.left.now in
      let goals = c.args.goals.now in
      let cert = w.in-Included.field-0 in
      let f = w.in-Ok.ensures in
      let before = c.args.steps.now in
      let now = c.include.new.steps in
      let takes = c.include.ensures.takes in
      let number : f.0.cert ≡ length certs = f.4 ∙ w.len.ensures in
      let price : f.0.price + before.taken ≡ now.taken = omega (arith, f.5, takes.later, w.taken.ensures.taken, c.taken-before.ensures.taken) in
      let answers = subst (λ a. Answers alone table left goals a) w.in-Included.is c.in_ok-answer.ensures.answer in
      let paid = subst (λ a. IsPaid goals before now a) w.in-Included.is c.in_ok-answer.ensures.size in
      let here = noted table certs c.args.known.now w.note.new.self left goals f.0 cert before now f.1 f.2 f.3 number price c.requires.known answers paid takes in
      subst (λ k. AreCertifiedAfter table certs k c.in_ok-answer.answer) (sym w.known-is) (subst (λ a. AreCertifiedAfter table certs w.note.new.self a) (sym w.in-Included.is) here)
  | in_default-answer w ↦ subst (λ a. AreCertifiedAfter c.args.store.now c.args.certs.now c.match-answer.known a) (sym w.in_default-answer.is) tt
]
