-- A chain `p { m p }`, whose links have places, reads its rule of the grammar.
use Rattle.std.proofs.Common.{◌≡◌, ◌<◌, List, [], ◌∷◌, length, Result, Ok, Option, Some, Bool, true, false, refl, ap, subst, ◌∙◌}
use Rattle.std.specs.Prelude.{◌||◌}
use Rattle.aq_lex.specs.declared.place.Place.{Place}
use Rattle.aq_grammar.specs.Words.{◌⨾◌, first_or, IsMany, IsPlaced}
use Rattle.aq_grammar.specs.Readers.{after, many, front_and_more}
use Rattle.aq_grammar.specs.Laws.{Both}
use Rattle.aq_grammar.proofs.Reading.{Mapped}
use Rattle.aq_grammar.proofs.Parts.{not_right, many_next, longer, one_long}
use Rattle.aq_set_parse.specs.Piece.{SetPiece}
use Rattle.aq_set_parse.specs.Tokens.{is_sort, is_mark, sort_of, shows, begins, IsMark, mark_at, place_of}
use Rattle.aq_set_parse.specs.SetGrammar.{IsChain}
use Rattle.aq_set_parse.specs.Reading.{link_at, chain_at}
use Rattle.aq_set_parse.specs.declared.mark.SetMark.{SetMark}
use Rattle.aq_set_parse.specs.declared.mark.SetMark.TheVariants as marks
use Rattle.aq_set_parse.specs.declared.lexeme.SetSort.{SetSort}
use Rattle.aq_set_parse.specs.declared.lexeme.SetSort.TheVariants as sorts
use Rattle.aq_set_parse.specs.declared.reader.Fault.{Fault}
use Rattle.aq_set_parse.proofs.Marks.{like_mark, last, mark_part, after_mark}
use Rattle.aq_set_parse.proofs.Layers.{Layer, flat, renamed_layer, mapped_layer, same_layer, both_layer, after_layer, placed_layer, layer_goes, many_layer}

abbrev pub IsLink : {A B : Type 0} → (B → Place) → (B → A) → (A → List SetPiece → Type 0) → B → List SetPiece → Type 0
IsLink place part G y = IsPlaced place_of (place y) (G (part y))

abbrev pub IsNextLink : {A B : Type 0} → SetMark → (B → Place) → (B → A) → (A → List SetPiece → Type 0) → B → List SetPiece → Type 0
IsNextLink m place part G y = IsPlaced place_of (place y) (IsMark m ⨾ G (part y))

pub chain_from : {A B : Type 0} (m : SetMark) (place : B → Place) (part : B → A) (G : A → List SetPiece → Type 0) (xs : List B) (front : List SetPiece) → IsChain m place (λ y. G (part y)) xs front → Mapped front_and_more (Both (IsLink place part G) (IsMany (IsNextLink m place part G))) xs front
chain_from m place part G [] front l = absurd l
chain_from m place part G (x ∷ xs) front l = record { from = (x, xs); is = refl; spelled = l }

module _ {A B : Type 0} (m : SetMark) (other : is_sort marks.End (sorts.Fixed m) ≡ false) (make : Place × A → B) (place : B → Place) (part : B → A) (back : (v : Place × A) → v ≡ (place (make v), part (make v))) (there : (y : B) → make (place y, part y) ≡ y) (p : List SetPiece → Result (A × List SetPiece) (Fault × List SetPiece)) (G H : A → List SetPiece → Type 0) (goes_on : Option SetSort → Bool) (layer : Layer last p G H (λ n. goes_on (sort_of n))) (grows : (x : A) (front : List SetPiece) → G x front → 0 < length front) (ends : goes_on (Some (sorts.Fixed m)) ≡ false) where
  pub link_layer : Layer last (link_at make p) (IsLink place part G) (IsLink place part H) (λ n. goes_on (sort_of n))
  unfolding link_at
  link_layer = same_layer make (λ y. (place y, part y)) back there (placed_layer place_of layer grows)

  pub next_link_layer : Layer last (link_at make (after (mark_at m) p)) (IsNextLink m place part G) (IsNextLink m place part H) (λ n. goes_on (sort_of n))
  unfolding link_at
  next_link_layer = same_layer make (λ y. (place y, part y)) back there (placed_layer place_of (after_layer (flat (mark_part m other)) layer (λ x front n l e. refl)) (λ x front l. longer front l (one_long (is_mark m) l.a l.left)))

  pub next_link_begins : (y : B) (front : List SetPiece) (n : Option SetPiece) → IsNextLink m place part G y front → begins m (first_or front n) ≡ true
  next_link_begins y front n l = ap (shows m) (after_mark m front n l.0) ∙ like_mark m

  pub next_link_long : (y : B) (front : List SetPiece) → IsNextLink m place part G y front → 0 < length front
  next_link_long y front l = longer front l.0 (one_long (is_mark m) l.0.a l.0.left)

  pub next_link_calm : (y : B) (front : List SetPiece) (n : Option SetPiece) → IsNextLink m place part G y front → goes_on (sort_of (first_or front n)) ≡ false
  next_link_calm y front n l = ap goes_on (after_mark m front n l.0) ∙ ends

  pub next_link_goes : (ts : List SetPiece) (x : B × List SetPiece) → link_at make (after (mark_at m) p) ts ≡ Ok x → length x.1 < length ts
  next_link_goes = layer_goes (begins m) next_link_layer next_link_begins next_link_long

  pub links_layer : Layer last (many (begins m) (link_at make (after (mark_at m) p))) (IsMany (IsNextLink m place part G)) (IsMany (IsNextLink m place part H)) (λ n. shows m (sort_of n) || goes_on (sort_of n))
  links_layer = many_layer (begins m) next_link_layer next_link_begins next_link_long next_link_calm

  pub chain_layer : Layer last (chain_at m make p) (IsChain m place (λ y. G (part y))) (IsChain m place (λ y. H (part y))) (λ n. shows m (sort_of n) || goes_on (sort_of n))
  unfolding chain_at
  chain_layer =
      renamed_layer (mapped_layer front_and_more (both_layer link_layer links_layer (λ xs front n l e. many_next (λ o. goes_on (sort_of o)) false next_link_calm xs front n l (not_right (shows m (sort_of n)) (goes_on (sort_of n)) e))))
      (λ xs front l. subst (λ (v : List B). IsChain m place (λ y. G (part y)) v front) l.is l.spelled) (chain_from m place part G) (λ xs front l. subst (λ (v : List B). IsChain m place (λ y. H (part y)) v front) l.is l.spelled)
