use Rattle.aq_set_read.proofs.DirectItems.{direct_given}
use Rattle.aq_set_read.proofs.laws.set_meaning.Goals as goal

pub returns-clause-sets : goal.returns-clause-sets
returns-clause-sets c tree sets e = (direct_given tree sets e).0

pub returns-clause-claims : goal.returns-clause-claims
returns-clause-claims c tree sets e = (direct_given tree sets e).1

pub returns-clause-texts : goal.returns-clause-texts
returns-clause-texts c text sets says =
    let direct = direct_given says.tree sets says.meaning in
    record { tree = says.tree; has_tree = says.has_tree; sets = direct.0; claims = direct.1 }
