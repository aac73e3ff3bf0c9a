use Rattle.std.proofs.Common.{length}
use Rattle.aq_decide.specs.Certified.{AreCertified}
use Rattle.aq_decide.proofs.JudgeLemmas.{AreJudged}
use Rattle.aq_decide.proofs.judge.judge_worlds.Given as goal

-- what is known of the worlds so far, and of the certificates
abbrev pub invariant-loop-world : goal.invariant-loop-world
invariant-loop-world l = record {
  judged : AreJudged l.program l.sets l.obligation l.store (length l.yielded) l.fn.worlds.items l.fn.steps l.steps l.certs;
  known : AreCertified l.store l.certs l.known;
}
