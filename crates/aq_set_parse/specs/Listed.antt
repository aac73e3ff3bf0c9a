-- What a caller sees of the tokens of a set file.
use Rattle.std.specs.Prelude.{ℕ, List}
use Rattle.aq_set_parse.specs.declared.token.SetToken.{SetToken}

-- a text and its tokens
pub record SetListed : Type 0 where
  pub source : List ℕ
  pub list : List SetToken
