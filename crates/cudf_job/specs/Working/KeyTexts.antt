-- The pieces of a key's text.
use Rattle.std.specs.Prelude.{ℕ, Bool, not, ◌==◌, List}
use Rattle.std.specs.List.{list_all}

-- 46 is the point
abbrev pub has_no_point : List ℕ → Bool
has_no_point text = list_all (λ b. not (b == 46)) text
