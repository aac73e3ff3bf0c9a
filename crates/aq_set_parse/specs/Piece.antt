-- What the grammar of set files sees of a token.
use Rattle.std.specs.Prelude.{ℕ, List}
use Rattle.aq_lex.specs.declared.place.Place.{Place}
use Rattle.aq_set_parse.specs.declared.lexeme.SetSort.{SetSort}

pub record SetPiece : Type 0 where
  pub sort : SetSort
  pub text : List ℕ
  pub at : Place
