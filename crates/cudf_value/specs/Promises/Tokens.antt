-- What a declaration is made of: characters, quoted texts, and brackets round both.
use Rattle.std.specs.Prelude.{ℕ, Bool, false, not, ◌||◌, ◌==◌, List, [], ◌∷◌, ◌++◌}
use Rattle.std.specs.List.{list_all, flat_map}
use Rattle.std.specs.Str.{byte}
use Rattle.cudf_value.specs.Spots.{quote_mark, backslash}

-- what is between quotes: a character, or one that a backslash escapes
pub data Inner : Type 0 where
  plain : ℕ → Inner
  escaped : ℕ → Inner

-- what is between brackets: a character or a quoted text
pub data Item : Type 0 where
  char_item : ℕ → Item
  quoted_item : List Inner → Item

pub data Token : Type 0 where
  char : ℕ → Token
  quoted : List Inner → Token
  bracketed : List Item → Token

-- ---- which of them there are

-- quotes and backslashes are escaped, and nothing else is
abbrev pub is_inner : Inner → Bool
is_inner (plain b) = not (b == quote_mark || b == backslash)
is_inner (escaped b) = b == quote_mark || b == backslash

-- no character by itself is a quote or a bracket
abbrev pub is_plain_char : ℕ → Bool
is_plain_char b = not (b == quote_mark || b == byte "[" || b == byte "]")

abbrev pub is_item : Item → Bool
is_item (char_item b) = is_plain_char b
is_item (quoted_item inner) = list_all is_inner inner

abbrev pub is_token : Token → Bool
is_token (char b) = is_plain_char b
is_token (quoted inner) = list_all is_inner inner
is_token (bracketed items) = list_all is_item items

-- ---- how they are written

abbrev pub inner_text : Inner → List ℕ
inner_text (plain b) = b ∷ []
inner_text (escaped b) = backslash ∷ b ∷ []

abbrev pub quoted_text : List Inner → List ℕ
quoted_text inner = quote_mark ∷ flat_map inner_text inner ++ quote_mark ∷ []

abbrev pub item_text : Item → List ℕ
item_text (char_item b) = b ∷ []
item_text (quoted_item inner) = quoted_text inner

abbrev pub token_text : Token → List ℕ
token_text (char b) = b ∷ []
token_text (quoted inner) = quoted_text inner
token_text (bracketed items) = byte "[" ∷ flat_map item_text items ++ byte "]" ∷ []

abbrev pub text_of : List Token → List ℕ
text_of tokens = flat_map token_text tokens

-- a comma that is in neither quotes nor brackets
abbrev pub is_comma : Token → Bool
is_comma (char b) = b == byte ","
is_comma (quoted inner) = false
is_comma (bracketed items) = false
