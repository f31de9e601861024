-- The types `bool` and `pkgname` (the type library).
use Rattle.std.specs.Prelude.{ℕ, Bool, true, false, ◌&&◌, nat_lt, List, length, Option, Some, None, bytes_eq, codes, if◌then◌else◌}
use Rattle.std.specs.List.{list_all}
use Rattle.cudf_text.specs.Chars.{is_pkgname_char}

-- the value of a `bool`
unfoldable pub truth : List ℕ → Option Bool
truth text = if bytes_eq text (codes "true") then Some true else (if bytes_eq text (codes "false") then Some false else None)

-- one or more characters of names
unfoldable pub is_pkgname : List ℕ → Bool
is_pkgname text = nat_lt 0 (length text) && list_all is_pkgname_char text
