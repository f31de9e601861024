-- The states of the code as spots.
use Rattle.std.specs.Prelude.{ℕ, Bool, true, false, not, ◌&&◌, List}
use Rattle.std.specs.List.{fold, list_all}
use Rattle.cudf_value.specs.declared.declaration.LexState.{LexState}
use Rattle.cudf_value.specs.declared.declaration.LexState.TheVariants.{Outside, Bracket, Quotes, Escape, BracketQuotes, BracketEscape, Broken}
use Rattle.cudf_value.specs.Spots.{Spot, unquoted, in_quotes, after_backslash, astray, next_spot, with_spots, is_outside, is_in_quotes}

-- the spot that a state stands for
abbrev pub spot_of : LexState → Spot
spot_of Outside = unquoted false
spot_of Bracket = unquoted true
spot_of Quotes = in_quotes false
spot_of Escape = after_backslash false
spot_of BracketQuotes = in_quotes true
spot_of BracketEscape = after_backslash true
spot_of Broken = astray

-- a text that begins at the spot is between quotes that a quote after it closes, and none in it
abbrev pub is_quotable_from : Spot → List ℕ → Bool
is_quotable_from spot text = list_all (λ x. not (is_outside x.0)) (with_spots spot text) && is_in_quotes (fold next_spot spot text)
