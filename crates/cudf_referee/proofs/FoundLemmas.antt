-- The instance of a key is one of the key's part.
use Rattle.std.proofs.Common.{◌≡◌, ℕ, zero, suc, ◌+◌, ◌≤◌, ◌<◌, List, [], ◌∷◌, ◌++◌, length, cond, Option, Some, None, arith, refl, ap, ◌∙◌, subst}
use Rattle.std.specs.Prelude.{find, slice_get}
use Rattle.std.specs.List.{flat_map, enumerate_from}
use Rattle.std.specs.Option.{option_or}
use Rattle.std.specs.Ordering.{ordering_reverse, is_eq}
use Rattle.std.proofs.lemmas.Cmp.{nat_list_cmp_total}
use Rattle.std.proofs.lemmas.List.{append-nil}
use Rattle.std.proofs.lemmas.List.Folds.{find-append}
use Rattle.cudf_problem.specs.Universe.{PlainPackage, PlainProblem}
use Rattle.cudf_index.specs.Satisfaction.{Placed}
use Rattle.cudf_job.specs.declared.key.Part.TheVariants as part
use Rattle.cudf_job.specs.Keys.{PlainKey, rule_row, aspect_row, key_ranks}
use Rattle.cudf_referee.specs.Instances.{PlainInstance}
use Rattle.cudf_referee.specs.Proposals.{Proposal, everything}
use Rattle.cudf_referee.specs.Violations.{package_instances, request_instances, instance_of}
use Rattle.cudf_referee.specs.Working.Sought.{has_key}
use Rattle.cudf_referee.proofs.AheadLemmas.{ranks_of}
use Rattle.cudf_referee.proofs.AscentLemmas.{Below, same_first, less_first, chained, Climbs, climbs-over, instance_ranks, instances_climb, own_climb, request_climbs}

or_none : (o : Option PlainInstance) → option_or o None ≡ o
or_none None = refl
or_none (Some i) = refl

module _ (key : PlainKey) where
  abbrev found : List PlainInstance → Option PlainInstance
  found is = find (has_key key) is

  -- none of those that come before it, nor of those that come after it
  before_it : (low : List ℕ) (xs : List PlainInstance) (high : List ℕ) → Climbs instance_ranks low xs high → Below high (key_ranks key) → found xs ≡ None
  before_it low [] high h k = refl
  before_it low (x ∷ xs) high h k =
      ap (λ o. cond (is_eq o) (Some x) (found xs)) (chained (instance_ranks x) high (key_ranks key) (climbs-over instance_ranks (instance_ranks x) xs high h.1) k)
      ∙ before_it (instance_ranks x) xs high h.1 k

  after_it : (low : List ℕ) (xs : List PlainInstance) (high : List ℕ) → Climbs instance_ranks low xs high → Below (key_ranks key) low → found xs ≡ None
  after_it low [] high h k = refl
  after_it low (x ∷ xs) high h k =
      let more = chained (key_ranks key) low (instance_ranks x) k h.0 in
      ap (λ o. cond (is_eq o) (Some x) (found xs)) (nat_list_cmp_total.antisymm (instance_ranks x) (key_ranks key) ∙ ap ordering_reverse more)
      ∙ after_it (instance_ranks x) xs high h.1 more

  abbrev more : List ℕ
  more = (rule_row key.rule).0 ∷ key.place ∷ (aspect_row key.aspect).0 ∷ []

  -- ---- a package

  module _ (s : Proposal) (n : ℕ) (of : key.part ≡ part.Package n) where
    earlier : (p : Placed) → p.0 < n → found (package_instances s p) ≡ None
    earlier p h = before_it (1 ∷ p.0 ∷ []) (package_instances s p) (1 ∷ p.0 ∷ 4 ∷ []) (instances_climb s p)
        (subst (λ (l : List ℕ). Below (1 ∷ p.0 ∷ 4 ∷ []) l) (ranks_of key (part.Package n) of) (same_first 1 (p.0 ∷ 4 ∷ []) (n ∷ more) (less_first p.0 n (4 ∷ []) more h)))

    later : (m : ℕ) (packages : List PlainPackage) → n < m → found (flat_map (package_instances s) (enumerate_from m packages)) ≡ None
    later m packages h = after_it (1 ∷ m ∷ []) (flat_map (package_instances s) (enumerate_from m packages)) (2 ∷ []) (own_climb s m packages)
        (subst (λ (l : List ℕ). Below l (1 ∷ m ∷ [])) (ranks_of key (part.Package n) of) (same_first 1 (n ∷ more) (m ∷ []) (less_first n m more [] h)))

    in-package : (m i : ℕ) (packages : List PlainPackage) (p : PlainPackage) → n ≡ m + i → slice_get packages i ≡ Some p
        → found (flat_map (package_instances s) (enumerate_from m packages)) ≡ found (package_instances s (n, p))
    in-package m i [] p h is = absurd (cc is)
    in-package m zero (x ∷ packages) p h is =
        let number : m ≡ n = omega arith in
        let same : x ≡ p = cc in
        find-append (has_key key) (package_instances s (m, x)) (flat_map (package_instances s) (enumerate_from (m + 1) packages))
        ∙ ap (option_or (found (package_instances s (m, x)))) (later (m + 1) packages (omega arith))
        ∙ or_none (found (package_instances s (m, x)))
        ∙ (λ j. found (package_instances s (number j, same j)))
    in-package m (suc i) (x ∷ packages) p h is =
        find-append (has_key key) (package_instances s (m, x)) (flat_map (package_instances s) (enumerate_from (m + 1) packages))
        ∙ ap (λ o. option_or o (found (flat_map (package_instances s) (enumerate_from (m + 1) packages)))) (earlier (m, x) (omega arith))
        ∙ in-package (m + 1) i packages p (omega arith) is

    in-none : (m i : ℕ) (packages : List PlainPackage) → n ≡ m + i → length packages ≤ i → found (flat_map (package_instances s) (enumerate_from m packages)) ≡ None
    in-none m i [] h end = refl
    in-none m zero (x ∷ packages) h end = absurd (omega arith)
    in-none m (suc i) (x ∷ packages) h end =
        find-append (has_key key) (package_instances s (m, x)) (flat_map (package_instances s) (enumerate_from (m + 1) packages))
        ∙ ap (λ o. option_or o (found (flat_map (package_instances s) (enumerate_from (m + 1) packages)))) (earlier (m, x) (omega arith))
        ∙ in-none (m + 1) i packages (omega arith) (omega arith)

  -- ---- the three parts

  module _ (problem : PlainProblem) where
    abbrev own : List PlainInstance
    own = flat_map (package_instances (everything problem)) (enumerate_from 1 problem.packages)

    abbrev asked : List PlainInstance
    asked = request_instances problem.request

    both : instance_of problem key ≡ option_or (found own) (found asked)
    both = ap found (append-nil (own ++ asked)) ∙ find-append (has_key key) own asked

    no-request : (n : ℕ) → key.part ≡ part.Package n → found asked ≡ None
    no-request n of = after_it (2 ∷ []) asked (3 ∷ []) (request_climbs problem.request) (subst (λ (l : List ℕ). Below l (2 ∷ [])) (ranks_of key (part.Package n) of) refl)

    no-package : Below (2 ∷ []) (key_ranks key) → found own ≡ None
    no-package h = before_it (1 ∷ 1 ∷ []) own (2 ∷ []) (own_climb (everything problem) 1 problem.packages) h

    -- of a package, of which there is one at the place or none
    pub of-package : (n i : ℕ) (p : PlainPackage) → key.part ≡ part.Package n → n ≡ i + 1 → slice_get problem.packages i ≡ Some p → instance_of problem key ≡ found (package_instances (everything problem) (n, p))
    of-package n i p of h is = both ∙ (λ j. option_or (in-package (everything problem) n of 1 i problem.packages p (omega arith) is j) (no-request n of j)) ∙ or_none (found (package_instances (everything problem) (n, p)))

    pub of-no-package : (n i : ℕ) → key.part ≡ part.Package n → n ≡ i + 1 → length problem.packages ≤ i → instance_of problem key ≡ None
    of-no-package n i of h end = both ∙ (λ j. option_or (in-none (everything problem) n of 1 i problem.packages (omega arith) end j) (no-request n of j))

    pub of-request : key.part ≡ part.Request → instance_of problem key ≡ found asked
    of-request of = both ∙ ap (λ o. option_or o (found asked)) (no-package (subst (λ (l : List ℕ). Below (2 ∷ []) l) (ranks_of key part.Request of) refl))

    pub of-solution : key.part ≡ part.Solution → instance_of problem key ≡ None
    of-solution of = both ∙ (λ j. option_or (no-package (subst (λ (l : List ℕ). Below (2 ∷ []) l) (ranks_of key part.Solution of) refl) j) (no-after j))
      where
        no-after : found asked ≡ None
        no-after = before_it (2 ∷ []) asked (3 ∷ []) (request_climbs problem.request) (subst (λ (l : List ℕ). Below (3 ∷ []) l) (ranks_of key part.Solution of) refl)
