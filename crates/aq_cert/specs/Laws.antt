-- What a certificate shows.
use Rattle.std.specs.Prelude.{List}
use Rattle.aq_ring.specs.Fractions.{Amplitude}
use Rattle.aq_store.specs.declared.node.Node.{Node}
use Rattle.aq_store.specs.declared.lsta.Lsta.{Lsta}
use Rattle.aq_cert.specs.declared.cert.Cert.{Cert}
use Rattle.aq_cert.specs.Meaning.{Included}
use Rattle.aq_cert.specs.Goals.{FitTogether}
use Rattle.aq_cert.specs.Valid.{IsValid}

-- a valid certificate shows inclusion
abbrev pub ValidIsIncluded : {L : Type 0} → (L → List Amplitude) → Type 0
ValidIsIncluded {L} parts = (table : List (Node L)) (left : Lsta) (goals : List Lsta) (cert : Cert)
    → FitTogether table left goals → IsValid parts table left goals cert → Included parts table left goals
