-- What a function of the program says that reads as a reader does.
use Rattle.std.specs.Prelude.{◌≡◌, List, Result, Ok, Err}
use Rattle.aq_grammar.specs.declared.stop.Stop.{Stop}
use Rattle.aq_grammar.specs.declared.stop.Stop.TheVariants as stops

-- it stopped as the reader does, or for want of memory
abbrev pub Fails : {T F Y : Type 0} → Stop T F → Result (Y × List T) (F × List T) → Type 0
Fails stops.Memory read = Unit {0}
Fails (stops.At fault rest) read = read ≡ Err (fault, rest.now)

-- it found what the reader finds, or it stopped as the reader does, or for want of memory
abbrev pub Gives : {T F X Y : Type 0} → (X → Y × List T) → Result X (Stop T F) → Result (Y × List T) (F × List T) → Type 0
Gives view (Ok x) read = read ≡ Ok (view x)
Gives view (Err e) read = Fails e read
