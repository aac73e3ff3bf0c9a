-- A loop that reads one item after the other stops where an item's reader stops.
use Rattle.std.proofs.Common.{◌≡◌, ◌<◌, List, length, Ok, true}
use Rattle.aq_grammar.specs.Words.{first}
use Rattle.aq_grammar.specs.Readers.{Answer, Reader, Test, many, with_front}
use Rattle.aq_grammar.specs.Results.{Fails}
use Rattle.aq_grammar.specs.declared.stop.Stop.{Stop}
use Rattle.aq_grammar.specs.declared.stop.Stop.TheVariants as stops
use Rattle.aq_grammar.proofs.Reading.{loop_stops}

pub loop_fails : {T F A : Type 0} (test : Test T) (p : Reader T F A) → ((ts : List T) (x : A × List T) → p ts ≡ Ok x → length x.1 < length ts) → (e : Stop T F) (front : List A) (ts : List T) (total : Answer T F (List A)) → test (first ts) ≡ true → Fails e (p ts) → with_front front (many test p ts) ≡ total → Fails e total
loop_fails test p goes stops.Memory front ts total t e so_far = tt
loop_fails test p goes (stops.At fault rest) front ts total t e so_far = loop_stops test p goes front ts (fault, rest.now) total t e so_far
