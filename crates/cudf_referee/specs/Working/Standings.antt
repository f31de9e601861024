-- What counting gathers of each name.
use Rattle.std.specs.Prelude.{ℕ, Bool, false, not, ◌||◌, List, map, filter, max, if◌then◌else◌}
use Rattle.cudf_index.specs.Satisfaction.{Placed}
use Rattle.cudf_job.specs.declared.criteria.Criteria.{Criteria}
use Rattle.cudf_referee.specs.declared.counting.Standing.{Standing}
use Rattle.cudf_referee.specs.Criteria.{each_once, versions_of, is_same_set, greatest}
use Rattle.cudf_referee.specs.Violations.{has_package}

abbrev pub no_standing : Standing
no_standing = record { was_installed = false; is_installed = false; is_changed = false; greatest = 0; greatest_installed = 0 }

-- the truth of one of two tests alone
abbrev pub differ : Bool → Bool → Bool
differ a b = if a then not b else b

-- with one more package of the name
abbrev pub standing_with : Standing → ℕ → Bool → Bool → Standing
standing_with s version was is = record {
  was_installed = s.was_installed || was;
  is_installed = s.is_installed || is;
  is_changed = s.is_changed || differ was is;
  greatest = max s.greatest version;
  greatest_installed = max s.greatest_installed (if is then version else 0);
}

-- the packages at places that pass a test
abbrev pub held : (ℕ → Bool) → List Placed → List Placed
held holds packages = filter (λ p. holds p.0) packages

-- the standing of a name among these packages
abbrev pub standing_of : (ℕ → Bool) → (ℕ → Bool) → List Placed → List ℕ → Standing
standing_of was is packages name = record {
  was_installed = has_package (held was packages) name;
  is_installed = has_package (held is packages) name;
  is_changed = not (is_same_set (versions_of name (held was packages)) (versions_of name (held is packages)));
  greatest = greatest (versions_of name packages);
  greatest_installed = greatest (versions_of name (held is packages));
}

-- the names of packages, each once
abbrev pub names_of : List Placed → List (List ℕ)
names_of packages = each_once (map (λ p. p.1.name) packages)

-- the standings of these names
abbrev pub standings_of : (ℕ → Bool) → (ℕ → Bool) → List Placed → List Standing
standings_of was is packages = map (standing_of was is packages) (names_of packages)

-- the counts with 0 for recommends
abbrev pub without_recommends : Criteria → Criteria
without_recommends c = record c { unsat_recommends = 0 }
