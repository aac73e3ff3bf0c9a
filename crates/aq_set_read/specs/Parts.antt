-- Parts of what a term means, as the program takes them.
use Rattle.std.specs.Prelude.{ℕ, List, [], ◌∷◌, ◌++◌, Ok, nat_lt}
use Rattle.aq_lex.specs.declared.place.Place.{Place}
use Rattle.aq_base.specs.Checks.{refuse_if, ◌>>=◌, ◌>>◌}
use Rattle.aq_set_read.specs.Gathered.{Gathered, Checked, counted}
use Rattle.aq_set_read.specs.Coefs.{roots_of}
use Rattle.aq_set_read.specs.Meaning.{Step, step, stands_in, most_roots}
use Rattle.aq_set_parse.specs.declared.tree.SetTerm.{SetTerm}
use Rattle.aq_sets.specs.declared.sets.Term.{Term}
use Rattle.aq_set_read.specs.declared.set_fault.SetFault.TheVariants as faults

-- a term behind others, unless its ket, which is at this place, stands there
abbrev pub term_added : Place → List Term → Term → Checked (List Term)
term_added at earlier term = refuse_if (stands_in earlier term.index) (faults.RepeatedKet at) >> Ok (earlier ++ term ∷ [])

-- and counted
abbrev pub term_counted : Place → List Term → Term → Gathered → Checked (Step (List Term))
term_counted at earlier term g = term_added at earlier term >>= λ terms. counted at g >>= λ h. Ok (step h terms)

-- how often a term is divided by the square root of 2
abbrev pub roots_taken : SetTerm → Checked ℕ
roots_taken t = refuse_if (nat_lt most_roots (roots_of t.coef)) (faults.AmpTooWide t.at) >> Ok (roots_of t.coef)
