-- What the grammar sees of a token.
use Rattle.std.specs.Prelude.{ℕ, List}
use Rattle.aq_lex.specs.declared.place.Place.{Place}
use Rattle.aq_parse.specs.declared.lexeme.Sort.{Sort}

pub record Piece : Type 0 where
  pub sort : Sort
  pub text : List ℕ
  pub at : Place
