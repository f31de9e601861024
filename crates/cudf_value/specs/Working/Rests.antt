-- What is left of a text while it is cut.
use Rattle.std.specs.Prelude.{◌≡◌, ℕ, true, ◌==◌, length, nat_lt, ◌&&◌, Bool, option_map, if◌then◌else◌, List, [], ◌++◌, map, take_while, Option, Some, None, option_and_then}
use Rattle.std.specs.List.{list_all}
use Rattle.std.specs.Str.{all_ascii_digits}
use Rattle.std.specs.Str.Parse.{digits_value}
use Rattle.cudf_text.specs.Chars.{trim_start, trim, is_pkgname_char, is_operator_char, rest_after}
use Rattle.cudf_value.specs.declared.vpkg.Relop.{Relop}
use Rattle.cudf_value.specs.Numbers.{positive}
use Rattle.cudf_value.specs.Spots.{pieces}
use Rattle.cudf_value.specs.Parts.{all_some, parts}
use Rattle.cudf_value.specs.Declarations.{PlainDeclaration, declaration}
use Rattle.cudf_value.specs.Vpkgs.{PlainVpkg, relop, bound_of, vpkg}
use Rattle.cudf_value.specs.Working.Atoms.{is_inside}

-- a piece, with blanks or none round the declaration
abbrev pub declaration_piece : List ℕ → Option PlainDeclaration
declaration_piece piece = declaration (trim piece)

-- the values of the pieces between commas outside quotes and brackets
abbrev pub read_pieces : {A : Type 0} → (List ℕ → Option A) → List ℕ → Option (List A)
read_pieces read text = option_and_then (λ ps. all_some (map read ps)) (pieces text)

-- one or more digits, of a value below the limit
abbrev pub is_number_below : ℕ → List ℕ → Bool
is_number_below limit text = all_ascii_digits text && nat_lt 0 (length text) && nat_lt (digits_value 10 text) limit

-- the parts of what follows a separator, if there is one
abbrev pub parts_after : ℕ → Option (List ℕ) → List (List ℕ)
parts_after separator None = []
parts_after separator (Some text) = parts separator text

-- the pieces of what follows such a comma, if there is one
abbrev pub pieces_after : Option (List ℕ) → Option (List (List ℕ))
pieces_after None = Some []
pieces_after (Some text) = pieces text

-- the text begins with the vpkg, blanks or none round it, and the rest comes after these
pub record BeginsWith (v : PlainVpkg) (text rest : List ℕ) : Type 0 where
  pub part : List ℕ
  pub whole : text ≡ part ++ rest
  pub inside : list_all is_inside part ≡ true
  pub value : vpkg (trim part) ≡ Some v

-- the vpkg of a name and what is directly after it: nothing, or a bound, with blanks or none before it
abbrev pub vpkg_after : List ℕ → List ℕ → Option PlainVpkg
vpkg_after name rest = if length rest == 0 then Some (record { name = name; bound = None })
    else option_map (λ b. record { name = name; bound = Some b }) (bound_of (trim_start rest))

-- what follows the operator at the front, and blanks
abbrev pub number_text : List ℕ → List ℕ
number_text text = trim_start (rest_after is_operator_char text)

-- the text begins with the operator and the number, blanks or none after each, and the rest comes after these
pub record BoundBegins (r : Relop) (n : ℕ) (text rest : List ℕ) : Type 0 where
  pub operator : relop (take_while is_operator_char text) ≡ Some r
  pub number : positive (take_while is_pkgname_char (number_text text)) ≡ Some n
  pub behind : rest ≡ trim_start (rest_after is_pkgname_char (number_text text))
