-- The entries of a list, one after the other.
use Rattle.std.proofs.Common.{◌≡◌, ℕ, Bool, true, false, not, ◌||◌, ◌==◌, List, ◌∷◌, ◌++◌, take, Option, Some, None, refl, sym, ap, ◌∙◌}
use Rattle.std.specs.List.{list_all, prefix_len}
use Rattle.std.specs.Str.{byte}
use Rattle.std.proofs.Math.Seq.{take-append_seam}
use Rattle.std.proofs.lemmas.List.{append-nil}
use Rattle.cudf_text.specs.Chars.{trim}
use Rattle.cudf_value.specs.Vpkgs.{PlainVpkg, vpkg, veqpkg, is_exact}
use Rattle.cudf_value.specs.Parts.{some_if, parts}
use Rattle.cudf_value.specs.Working.Atoms.{is_inside}
use Rattle.cudf_value.specs.Working.Entries.{vpkg_part, first_part, entry_end}
use Rattle.cudf_value.specs.Working.Rests.{parts_after, BeginsWith}
use Rattle.cudf_value.proofs.ReadBack.{prefix_through}
use Rattle.cudf_value.proofs.AtomLemmas.{is-inside, comma-none, comma-at}
use Rattle.cudf_value.proofs.VpkgLemmas.{all_pass}

-- the first part ends at the first comma
first_at : (pre : List ℕ) (rest : Option (List ℕ)) → list_all is_inside pre ≡ true → first_part (pre ++ entry_end rest) ≡ pre
first_at pre rest all =
    ap (λ n. take n (pre ++ entry_end rest)) (prefix_through (λ b. not (b == byte ",")) pre (entry_end rest) (all_pass is_inside (λ b. not (b == byte ",")) (λ b is. ap not (is-inside b is).no_comma) pre all) (none rest))
    ∙ take-append_seam pre (entry_end rest)
  where
    none : (rest : Option (List ℕ)) → prefix_len (λ b. not (b == byte ",")) (entry_end rest) ≡ 0
    none None = refl
    none (Some more) = refl

parts_at : (pre : List ℕ) (rest : Option (List ℕ)) → list_all is_inside pre ≡ true → parts (byte ",") (pre ++ entry_end rest) ≡ pre ∷ parts_after (byte ",") rest
parts_at pre None all = ap (parts (byte ",")) (append-nil pre) ∙ comma-none pre all
parts_at pre (Some more) all = comma-at pre more all

begun_whole : (v : PlainVpkg) (text rest : List ℕ) (next : Option (List ℕ)) → (begins : BeginsWith v text rest) → rest ≡ entry_end next → text ≡ begins.part ++ entry_end next
begun_whole v text rest next begins ends = begins.whole ∙ ap (λ t. begins.part ++ t) ends

begun_first : (v : PlainVpkg) (text rest : List ℕ) (next : Option (List ℕ)) → (begins : BeginsWith v text rest) → rest ≡ entry_end next → first_part text ≡ begins.part
begun_first v text rest next begins ends = ap first_part (begun_whole v text rest next begins ends) ∙ first_at begins.part next begins.inside

-- the vpkg at the front is the first part
pub begun_parts : (v : PlainVpkg) (text rest : List ℕ) (next : Option (List ℕ)) → BeginsWith v text rest → rest ≡ entry_end next
    → parts (byte ",") text ≡ first_part text ∷ parts_after (byte ",") next
begun_parts v text rest next begins ends =
    ap (parts (byte ",")) (begun_whole v text rest next begins ends)
    ∙ parts_at begins.part next begins.inside
    ∙ ap (λ p. p ∷ parts_after (byte ",") next) (sym (begun_first v text rest next begins ends))

part_is : (exact : Bool) (part : List ℕ) (v : PlainVpkg) → vpkg (trim part) ≡ Some v → vpkg_part exact part ≡ some_if (not exact || is_exact v.bound) v
unfolding veqpkg
part_is false part v is = is
part_is true part v is = rw is refl

-- and its value is the vpkg, where it is as exact as it has to be
pub begun_value : (exact : Bool) (v : PlainVpkg) (text rest : List ℕ) (next : Option (List ℕ)) → BeginsWith v text rest → rest ≡ entry_end next
    → vpkg_part exact (first_part text) ≡ some_if (not exact || is_exact v.bound) v
begun_value exact v text rest next begins ends =
    ap (vpkg_part exact) (begun_first v text rest next begins ends) ∙ part_is exact begins.part v begins.value
