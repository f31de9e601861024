-- What a solution is, in positive words, apart from the violated instances.
-- CUDF 2.0: consistent installations, semantics of requests. Own: keep of features, numbers of features in upgrade,
-- unknown stanzas.
use Rattle.std.specs.Prelude.{ℕ, Bool, true, not, ◌&&◌, ◌==◌, nat_le, List}
use Rattle.std.specs.List.{list_all}
use Rattle.cudf_value.specs.Vpkgs.{PlainVpkg}
use Rattle.cudf_problem.specs.declared.package.Keep.{Keep}
use Rattle.cudf_problem.specs.declared.package.Keep.TheVariants.{Version, Package, Feature, Nothing}
use Rattle.cudf_index.specs.Satisfaction.{Placed, without, numbers_of, satisfies, satisfies_clause}
use Rattle.cudf_problem.specs.Documents.{is_empty}
use Rattle.cudf_referee.specs.Proposals.{holds_place, Proposal}
use Rattle.cudf_referee.specs.Violations.{has_package}

-- what is to be kept of the package is there: itself, its name at some version, or all that it provides
abbrev pub is_kept : List Placed → Keep → Placed → Bool
is_kept status Version (place, p) = holds_place status place
is_kept status Package (place, p) = has_package status p.name
is_kept status Feature (place, p) = list_all (satisfies status) p.provides
is_kept status Nothing (place, p) = true

-- all numbers are equal
abbrev pub are_equal : List ℕ → Bool
are_equal numbers = list_all (λ m. list_all (λ n. m == n) numbers) numbers

-- each of the numbers is at least each of those before
abbrev pub are_at_least : List ℕ → List ℕ → Bool
are_at_least before numbers = list_all (λ n. list_all (λ m. nat_le m n) before) numbers

-- the entry is satisfied, and its name has one number, not lower than before
abbrev pub is_upgraded : List Placed → List Placed → PlainVpkg → Bool
is_upgraded before status v =
    satisfies status v
    && are_equal (numbers_of v.name status)
    && are_at_least (numbers_of v.name before) (numbers_of v.name status)

-- the proposed status is a solution: no stanza is unknown, each proposed package has what it depends on and no other that it
-- conflicts with, what is to be kept is there, and the request is met
unfoldable pub is_solution : Proposal → Bool
is_solution s =
    is_empty s.unknown
    && list_all (λ (place, p). list_all (satisfies_clause s.proposed) p.depends) s.proposed
    && list_all (λ (place, p). list_all (λ v. not (satisfies (without place s.proposed) v)) p.conflicts) s.proposed
    && list_all (λ (place, p). is_kept s.proposed p.keep (place, p)) s.initial
    && list_all (satisfies s.proposed) s.problem.request.install
    && list_all (λ v. not (satisfies s.proposed v)) s.problem.request.remove
    && list_all (is_upgraded s.initial s.proposed) s.problem.request.upgrade
