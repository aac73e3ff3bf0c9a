-- What `tokens_of_sets` answers.
use Rattle.std.specs.Prelude.{◌≡◌, ℕ, List, take, Err}
use Rattle.std.specs.Str.{IsValidUpTo}
use Rattle.aq_lex.specs.Places.{place_after}
use Rattle.aq_set_parse.specs.Cuts.{Reads}
use Rattle.aq_set_parse.specs.declared.fault.SetLexFault.{SetLexFault}
use Rattle.aq_set_parse.specs.declared.fault.SetLexFault.TheVariants as fault

-- What a fault says of the text. NotUtf8: the place is that of the first byte at which no whole character begins.
abbrev pub FaultOf : List ℕ → SetLexFault → Type 0
FaultOf source (fault.NotUtf8 place) = (n : ℕ) × IsValidUpTo source n × (place ≡ place_after (take n source))
FaultOf source fault.Memory = Unit {0}
FaultOf source (fault.BadByte place b) = Reads source (Err (fault.BadByte place b))
FaultOf source (fault.OpenComment place) = Reads source (Err (fault.OpenComment place))
FaultOf source (fault.LongNumber place) = Reads source (Err (fault.LongNumber place))
FaultOf source (fault.BadKet place) = Reads source (Err (fault.BadKet place))
