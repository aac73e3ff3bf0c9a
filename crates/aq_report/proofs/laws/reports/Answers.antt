use Rattle.aq_report.proofs.ReportLaws.{one_report}
use Rattle.aq_report.proofs.laws.reports.Goals as goal

pub returns : goal.returns
returns c = one_report
