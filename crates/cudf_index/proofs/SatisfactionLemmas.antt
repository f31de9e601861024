-- A status satisfies what one of its packages satisfies, and a package what its name and version or one of its entries meets.
use Rattle.std.proofs.Common.{◌≡◌, ℕ, Bool, true, false, not, ◌&&◌, ◌||◌, List, [], ◌∷◌, ◌++◌, Option, Some, None, refl, ap, ◌∙◌, bytes_eq}
use Rattle.std.specs.Prelude.{filter_map, option_map, is_none, if◌then◌else◌}
use Rattle.std.specs.List.{list_any, cons_option}
use Rattle.std.proofs.lemmas.List.Folds.{list_any-append}
use Rattle.std.proofs.lemmas.List.Concat.{flat_map-append}
use Rattle.std.proofs.lemmas.List.{append-nil}
use Rattle.cudf_value.specs.declared.vpkg.Relop.{Relop}
use Rattle.cudf_value.specs.Vpkgs.{PlainVpkg, meets}
use Rattle.cudf_index.specs.Satisfaction.{Placed, entry_pair, unversioned_name, package_pairs, gives, gives_all_versions, is_met_by, is_below_one, satisfies, meets_alone}
use Rattle.cudf_problem.specs.Ids.{Id}
use Rattle.std.proofs.Math.Bool.{or_assoc}
use Rattle.cudf_index.specs.Promises.Members.{MemberAlone}
use Rattle.cudf_index.specs.Working.Members.{provision_meets, entry_meets}

-- what two lists of numbers and two lists of names give together
pub or_split : (a b c d n : Bool) → ((a || b) || ((c || d) && n)) ≡ ((a || (c && n)) || (b || (d && n)))
or_split true b c d n = refl
or_split false true true d true = refl
or_split false true true d false = refl
or_split false true false d n = refl
or_split false false true d true = refl
or_split false false true true false = refl
or_split false false true false false = refl
or_split false false false d n = refl

-- ---- a status

-- the vpkg's name is this one
abbrev is_named : PlainVpkg → List ℕ → Bool
is_named v name = bytes_eq name v.name

satisfies-append : (xs ys : List Placed) (v : PlainVpkg) → satisfies (xs ++ ys) v ≡ (satisfies xs v || satisfies ys v)
satisfies-append xs ys v =
    let pairs = ap (list_any (is_met_by v)) (flat_map-append (λ (p : Placed). package_pairs p.1) xs ys) ∙ list_any-append (is_met_by v) (gives xs) (gives ys) in
    let names = ap (list_any (is_named v)) (flat_map-append (λ (p : Placed). filter_map unversioned_name p.1.provides) xs ys) ∙ list_any-append (is_named v) (gives_all_versions xs) (gives_all_versions ys) in
    ap (λ b. b || (list_any (is_named v) (gives_all_versions (xs ++ ys)) && not (is_below_one v.bound))) pairs
    ∙ ap (λ b. (list_any (is_met_by v) (gives xs) || list_any (is_met_by v) (gives ys)) || (b && not (is_below_one v.bound))) names
    ∙ or_split (list_any (is_met_by v) (gives xs)) (list_any (is_met_by v) (gives ys)) (list_any (is_named v) (gives_all_versions xs)) (list_any (is_named v) (gives_all_versions ys)) (not (is_below_one v.bound))

pub member_alone : MemberAlone
member_alone [] v = refl
member_alone (p ∷ ps) v = satisfies-append (p ∷ []) ps v ∙ ap (λ b. satisfies (p ∷ []) v || b) (member_alone ps v)

-- ---- a package

entry_first : (v : PlainVpkg) (name : List ℕ) (bound : Option (Relop × ℕ)) (pairs : List Id) (names : List (List ℕ))
    → (list_any (is_met_by v) (cons_option (option_map (λ given. (name, given.1)) bound) pairs) || (list_any (is_named v) (cons_option (if is_none bound then Some name else None) names) && not (is_below_one v.bound)))
    ≡ ((bytes_eq name v.name && provision_meets v.bound bound) || (list_any (is_met_by v) pairs || (list_any (is_named v) names && not (is_below_one v.bound))))
entry_first v name None pairs names =
    or_split false (list_any (is_met_by v) pairs) (bytes_eq name v.name) (list_any (is_named v) names) (not (is_below_one v.bound))
entry_first v name (Some given) pairs names =
    (or_assoc (bytes_eq name v.name && meets v.bound given.1) (list_any (is_met_by v) pairs) (list_any (is_named v) names && not (is_below_one v.bound)))

entries_meet : (v : PlainVpkg) (entries : List PlainVpkg)
    → (list_any (is_met_by v) (filter_map entry_pair entries) || (list_any (is_named v) (filter_map unversioned_name entries) && not (is_below_one v.bound)))
    ≡ list_any (entry_meets v) entries
entries_meet v [] = refl
entries_meet v (e ∷ es) =
    entry_first v e.name e.bound (filter_map entry_pair es) (filter_map unversioned_name es)
    ∙ ap (λ b. entry_meets v e || b) (entries_meet v es)

-- a package alone satisfies a vpkg that its name and version meet, or one of its entries
pub meets_alone-parts : (v : PlainVpkg) (p : Placed) → meets_alone v p ≡ (is_met_by v (p.1.name, p.1.version) || list_any (entry_meets v) p.1.provides)
meets_alone-parts v p =
    ap (λ pairs. (is_met_by v (p.1.name, p.1.version) || list_any (is_met_by v) pairs) || (list_any (is_named v) (gives_all_versions (p ∷ [])) && not (is_below_one v.bound))) (append-nil (filter_map entry_pair p.1.provides))
    ∙ ap (λ names. (is_met_by v (p.1.name, p.1.version) || list_any (is_met_by v) (filter_map entry_pair p.1.provides)) || (list_any (is_named v) names && not (is_below_one v.bound))) (append-nil (filter_map unversioned_name p.1.provides))
    ∙ (or_assoc (is_met_by v (p.1.name, p.1.version)) (list_any (is_met_by v) (filter_map entry_pair p.1.provides)) (list_any (is_named v) (filter_map unversioned_name p.1.provides) && not (is_below_one v.bound)))
    ∙ ap (λ b. is_met_by v (p.1.name, p.1.version) || b) (entries_meet v p.1.provides)
