use Rattle.aq_top.proofs.EndsLemmas.{Prints-ends}
use Rattle.aq_top.proofs.judging.say_report.Goals as goal

pub returns : goal.returns
returns g c =
    let e = c.print_report.ensures in
    record {
      verdicts = e.verdicts;
      justified = e.justified;
      ends = Prints-ends _ _ _ _ _ _ _ e.prints (c.report_status.ensures e.verdicts e.counts);
    }
