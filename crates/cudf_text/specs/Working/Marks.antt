-- What the cut looks for in a line.
use Rattle.std.specs.Prelude.{ℕ, Bool, List}
use Rattle.cudf_text.specs.declared.text.Mark.{Mark}
use Rattle.cudf_text.specs.declared.text.Mark.TheVariants.{Request, Blank}
use Rattle.cudf_text.specs.Joined.{begins_request}
use Rattle.cudf_text.specs.Chars.{is_blank_text}

abbrev pub marks : Mark → List ℕ → Bool
marks Request = begins_request
marks Blank = is_blank_text
