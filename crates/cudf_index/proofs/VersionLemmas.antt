-- The first package of a name is that of its first provision that is a version.
use Rattle.std.proofs.Common.{◌≡◌, ℕ, Bool, true, false, cond, List, [], ◌∷◌, map, Some, None, refl, ap, ◌∙◌, bytes_eq}
use Rattle.std.specs.Prelude.{filter, find, option_map}
use Rattle.std.specs.List.{list_any}
use Rattle.std.specs.Option.{option_or}
use Rattle.cudf_value.specs.Vpkgs.{PlainVpkg}
use Rattle.cudf_problem.proofs.ListLemmas.{find_none}
use Rattle.cudf_index.specs.Satisfaction.{Placed, first_named}
use Rattle.cudf_index.specs.Working.FirstPlaces.{first_version_of}
use Rattle.cudf_index.specs.Working.Gathering.{provisions_of, own_entry, given_by, given_of}
use Rattle.cudf_index.specs.declared.index.gathered_names.Provision.{Provision}
use Rattle.cudf_index.proofs.HalvesLemmas.{first-append}

-- a row without one
pub no_version : (row : List Provision) → list_any (λ g. g.is_version) row ≡ false → first_version_of row ≡ None
no_version row none = ap (option_map (λ (g : Provision). g.place)) (find_none (λ (g : Provision). g.is_version) row none)

features : (place : ℕ) (entries : List PlainVpkg)
    → first_version_of (map (λ entry. record { number = option_map (λ b. b.1) entry.bound; place = place; is_version = false }) entries) ≡ None
features place [] = refl
features place (e ∷ es) = features place es

-- that of a package, where it has the name
pub version_by : (f : List ℕ) (p : Placed) → first_version_of (given_by f p) ≡ cond (bytes_eq p.1.name f) (Some p.0) None
version_by f p =
    first-append (λ g. g.is_version) (provisions_of true f p.0 (own_entry p.1 ∷ [])) (provisions_of false f p.0 p.1.provides)
    ∙ ap (option_or (first_version_of (provisions_of true f p.0 (own_entry p.1 ∷ [])))) (features p.0 (filter (λ entry. bytes_eq entry.name f) p.1.provides))
    ∙ by (bytes_eq p.1.name f)
  where
    by : (b : Bool) → option_or (first_version_of (map (λ entry. record { number = option_map (λ n. n.1) entry.bound; place = p.0; is_version = true }) (cond b (own_entry p.1 ∷ []) []))) None
        ≡ cond b (Some p.0) None
    by true = refl
    by false = refl

pub version_given : (f : List ℕ) (status : List Placed) → first_version_of (given_of f status) ≡ first_named status f
version_given f [] = refl
version_given f (p ∷ ps) =
    first-append (λ g. g.is_version) (given_by f p) (given_of f ps)
    ∙ ap (λ o. option_or o (first_version_of (given_of f ps))) (version_by f p)
    ∙ ap (option_or (cond (bytes_eq p.1.name f) (Some p.0) None)) (version_given f ps)
    ∙ by (bytes_eq p.1.name f)
  where
    by : (b : Bool) → option_or (cond b (Some p.0) None) (first_named ps f) ≡ option_map (λ (q : Placed). q.0) (cond b (Some p) (find (λ q. bytes_eq q.1.name f) ps))
    by true = refl
    by false = refl
