-- A row by packages.
use Rattle.std.proofs.Common.{◌≡◌, ℕ, ◌+◌, ◌-◌, ◌<◌, suc, Bool, true, false, cond, ◌==◌, List, [], ◌∷◌, ◌++◌, length, get_or, map, Option, Some, None, Bor, refl, sym, ap, ◌∙◌, arith, subst, append_assoc}
use Rattle.std.specs.Prelude.{filter}
use Rattle.std.specs.List.{count_by, list_all, list_any, enumerate_from, IsChunkByPrefix}
use Rattle.std.proofs.lemmas.Bool.{and_parts, eq-eqb, eqb-true, ne_eqb}
use Rattle.std.proofs.lemmas.List.{append-nil, map_push}
use Rattle.std.specs.Option.{option_map_or}
use Rattle.cudf_value.specs.declared.vpkg.Relop.{Relop}
use Rattle.cudf_problem.specs.Universe.{PlainPackage}
use Rattle.cudf_index.specs.Promises.Counts.{count_pairs, differ}
use Rattle.cudf_index.specs.Promises.Places.{gives_number}
use Rattle.cudf_index.specs.Satisfaction.{Placed, members, meets_alone, numbers_of}
use Rattle.cudf_index.specs.Working.Gathering.{BothAt, given_by, given_of, row_items}
use Rattle.cudf_index.specs.Working.Givers as counting
use Rattle.cudf_index.specs.Working.Givers.{Counted, CountsOf, continues, count_meeting, count_within, numbers_differ, runs, runs_differ, with_first}
use Rattle.cudf_index.specs.Working.ProvisionTest.{passes}
use Rattle.cudf_index.specs.declared.index.gathered_names.Provision.{Provision}
use Rattle.cudf_index.specs.declared.index.counts.Givers.{Givers}
use Rattle.cudf_index.specs.declared.index.named_trees.ProvisionTest.TheVariants.{Meeting, Number}
use Rattle.cudf_index.proofs.ClauseLemmas.{any_never}
use Rattle.cudf_index.proofs.CountLemmas.{count-cons}
use Rattle.cudf_index.proofs.GatheringLemmas.{numbers_given}
use Rattle.cudf_index.proofs.PairLemmas.{count_none}
use Rattle.cudf_index.proofs.WantedLemmas.{package_places, meeting_tells, number_tells}

-- ---- one run

-- these are of one place, and what is after them is not
abbrev pub IsRun : List Provision → List Provision → Type 0
IsRun [] after = ⊥
IsRun (g ∷ []) after = continues g.place after ≡ false
IsRun (g ∷ h ∷ hs) after = ((g.place == h.place) ≡ true) × IsRun (h ∷ hs) after

pub run_first : (run after : List Provision) → IsRun run after → runs (run ++ after) ≡ run ∷ runs after
run_first [] after is = absurd is
run_first (g ∷ []) after is = ap (λ b. cond b (with_first g (runs after)) ((g ∷ []) ∷ runs after)) is
run_first (g ∷ h ∷ hs) after is =
    ap (λ b. cond b (with_first g (runs (h ∷ hs ++ after))) ((g ∷ []) ∷ runs (h ∷ hs ++ after))) is.0 ∙ ap (with_first g) (run_first (h ∷ hs) after is.1)

-- as `chunk_by` says it
run_cut : (run after : List Provision) → 0 < length run → ((k : ℕ) (d : Provision) → k + 1 < length run → ((get_or (run ++ after) k d).place == (get_or (run ++ after) (k + 1) d).place) ≡ true)
    → (length run < length (run ++ after) → (d : Provision) → ((get_or (run ++ after) (length run - 1) d).place == (get_or (run ++ after) (length run) d).place) ≡ false) → IsRun run after
run_cut [] after some same other = absurd (omega arith)
run_cut (g ∷ []) [] some same other = refl
run_cut (g ∷ []) (h ∷ hs) some same other = other (omega arith) g
run_cut (g ∷ h ∷ hs) after some same other = (
  same 0 g (omega arith),
  run_cut (h ∷ hs) after (omega arith)
      (λ k d low. let next : suc k + 1 ≡ suc (k + 1) = omega arith in let here : ((get_or (g ∷ h ∷ hs ++ after) (suc k) d).place == (get_or (g ∷ h ∷ hs ++ after) (suc k + 1) d).place) ≡ true = same (suc k) d (omega arith) in rw next at here)
      (λ low d. let last : length (g ∷ h ∷ hs) - 1 ≡ suc (length (h ∷ hs) - 1) = omega arith in
      subst (λ k. ((get_or (g ∷ h ∷ hs ++ after) k d).place == (get_or (g ∷ h ∷ hs ++ after) (length (g ∷ h ∷ hs)) d).place) ≡ false) last (other (omega arith) d)),
)

pub run_next : (rest run after : List Provision) → rest ≡ run ++ after → 0 < length run → IsChunkByPrefix (λ g h. g.place == h.place) rest (length run) → runs rest ≡ run ∷ runs after
run_next rest run after is some prefix =
    let cut = subst (λ gs. IsChunkByPrefix (λ g h. g.place == h.place) gs (length run)) is prefix in
    ap runs is ∙ run_first run after (run_cut run after some cut.0 cut.1)

pub runs_taken : (all : List (List Provision)) (done : List (Bor (List Provision))) (run : Bor (List Provision)) (rest after : List Provision) → all ≡ map (λ r. r.now) done ++ runs rest → runs rest ≡ run.now ∷ runs after
    → all ≡ map (λ r. r.now) (done ++ run ∷ []) ++ runs after
runs_taken all done run rest after so_far next =
    so_far ∙ ap (λ rs. map (λ r. r.now) done ++ rs) next ∙ sym (append_assoc (map (λ r. r.now) done) (run.now ∷ []) (runs after)) ∙ ap (λ rs. rs ++ runs after) (sym (map_push (λ r. r.now) done run))

-- as places tell
run_placed : (place : ℕ) (g : Provision) (gs after : List Provision) → list_all (λ q. q == place) (map (λ (h : Provision). h.place) (g ∷ gs)) ≡ true → continues place after ≡ false → IsRun (g ∷ gs) after
run_placed place g [] after all other = ap (λ q. continues q after) (eqb-true g.place place (and_parts (g.place == place) true all).0) ∙ other
run_placed place g (h ∷ hs) after all other =
    let first = and_parts (g.place == place) (list_all (λ q. q == place) (map (λ (k : Provision). k.place) (h ∷ hs))) all in
    let second = and_parts (h.place == place) (list_all (λ q. q == place) (map (λ (k : Provision). k.place) hs)) first.1 in (
      eq-eqb g.place h.place (eqb-true g.place place first.0 ∙ sym (eqb-true h.place place second.0)),
      run_placed place h hs after first.1 other,
    )

-- ---- the runs of a status

abbrev pub gives_some : List Provision → Bool
gives_some [] = false
gives_some (g ∷ gs) = true

module _ (f : List ℕ) (holds : ℕ → Bool) where
  abbrev status : ℕ → List PlainPackage → List Placed
  status low packages = filter (λ (p : Placed). holds p.0) (enumerate_from low packages)

  later : (place low : ℕ) (ps : List PlainPackage) → place < low → continues place (given_of f (status low ps)) ≡ false
  later place low [] less = refl
  later place low (p ∷ ps) less = by (holds low) (later place (low + 1) ps (omega arith))
    where
      first : (gs rest : List Provision) → list_all (λ q. q == low) (map (λ (g : Provision). g.place) gs) ≡ true → continues place rest ≡ false → continues place (gs ++ rest) ≡ false
      first [] rest all other = other
      first (g ∷ gs) rest all other =
          let here = eqb-true g.place low (and_parts (g.place == low) (list_all (λ q. q == low) (map (λ (h : Provision). h.place) gs)) all).0 in
          ne_eqb place g.place (λ e. omega arith)

      by : (held : Bool) → continues place (given_of f (status (low + 1) ps)) ≡ false → continues place (given_of f (cond held ((low, p) ∷ status (low + 1) ps) (status (low + 1) ps))) ≡ false
      by false other = other
      by true other = first (given_by f (low, p)) (given_of f (status (low + 1) ps)) (package_places f (low, p)) other

  -- those of the packages that give something
  pub status_runs : (low : ℕ) (ps : List PlainPackage) → runs (given_of f (status low ps)) ≡ filter gives_some (map (given_by f) (status low ps))
  status_runs low [] = refl
  status_runs low (p ∷ ps) = by (holds low) (status_runs (low + 1) ps)
    where
      rest : List Placed
      rest = status (low + 1) ps

      cut : (gs : List Provision) → list_all (λ q. q == low) (map (λ (g : Provision). g.place) gs) ≡ true → runs (given_of f rest) ≡ filter gives_some (map (given_by f) rest)
          → runs (gs ++ given_of f rest) ≡ cond (gives_some gs) (gs ∷ filter gives_some (map (given_by f) rest)) (filter gives_some (map (given_by f) rest))
      cut [] all same = same
      cut (g ∷ gs) all same = run_first (g ∷ gs) (given_of f rest) (run_placed low g gs (given_of f rest) all (later low (low + 1) ps (omega arith))) ∙ ap (λ rs. (g ∷ gs) ∷ rs) same

      by : (held : Bool) → runs (given_of f rest) ≡ filter gives_some (map (given_by f) rest) → runs (given_of f (cond held ((low, p) ∷ rest) rest)) ≡ filter gives_some (map (given_by f) (cond held ((low, p) ∷ rest) rest))
      by false same = same
      by true same = cut (given_by f (low, p)) (package_places f (low, p)) same

-- ---- counted

module _ {A : Type 0} (v : A → List Provision) where
  abbrev some_of : List A → List (List Provision)
  some_of xs = filter gives_some (map v xs)

  count_some : (t : List Provision → Bool) → t [] ≡ false → (xs : List A) → count_by t (some_of xs) ≡ count_by (λ x. t (v x)) xs
  count_some t none [] = refl
  count_some t none (x ∷ xs) = by (v x) (count_some t none xs) ∙ sym (count-cons (λ y. t (v y)) x xs)
    where
      by : (gs : List Provision) → count_by t (some_of xs) ≡ count_by (λ y. t (v y)) xs → count_by t (cond (gives_some gs) (gs ∷ some_of xs) (some_of xs)) ≡ cond (t gs) 1 0 + count_by (λ y. t (v y)) xs
      by [] rest = omega (arith, rest, ap {B = ℕ} (λ b. cond b 1 0) none)
      by (g ∷ gs) rest = omega (arith, count-cons t (g ∷ gs) (some_of xs), rest)

  pairs_some : (r : List Provision → List Provision → Bool) → ((gs : List Provision) → r [] gs ≡ false) → ((gs : List Provision) → r gs [] ≡ false) → (xs : List A) → count_pairs r (some_of xs) ≡ count_pairs (λ x y. r (v x) (v y)) xs
  pairs_some r left right [] = refl
  pairs_some r left right (x ∷ xs) = by (v x) (pairs_some r left right xs) ∙ ap (λ n. n + count_pairs (λ y z. r (v y) (v z)) xs) (sym (count-cons (λ y. r (v x) (v y)) x xs))
    where
      by : (gs : List Provision) → count_pairs r (some_of xs) ≡ count_pairs (λ y z. r (v y) (v z)) xs
          → count_pairs r (cond (gives_some gs) (gs ∷ some_of xs) (some_of xs)) ≡ (cond (r gs gs) 1 0 + count_by (λ y. r gs (v y)) xs) + count_pairs (λ y z. r (v y) (v z)) xs
      by [] rest =
          let none : count_by (λ y. r [] (v y)) xs ≡ 0 = ap (λ t. count_by t xs) (λ i y. left (v y) i) ∙ count_none xs in
          omega (arith, rest, none, ap {B = ℕ} (λ b. cond b 1 0) (left []))
      by (g ∷ gs) rest = omega (arith, count-cons (r (g ∷ gs)) (g ∷ gs) (some_of xs), count_some (r (g ∷ gs)) (right (g ∷ gs)) xs, rest)

-- ---- what is counted of a row is what the status gives

module _ (f : List ℕ) (holds : ℕ → Bool) (packages : List PlainPackage) (row : List Provision) (kept : row ≡ given_of f (members holds packages)) where
  row_counted : (t : List Provision → Bool) (test : Placed → Bool) → t [] ≡ false → ((p : Placed) → t (given_by f p) ≡ test p) → count_by t (runs row) ≡ count_by test (members holds packages)
  row_counted t test none tells =
      ap (λ r. count_by t (runs r)) kept ∙ ap (count_by t) (status_runs f holds 1 packages) ∙ count_some (given_by f) t none (members holds packages)
      ∙ ap (λ q. count_by q (members holds packages)) (λ i p. tells p i)

  given_numbers : (p : Placed) → counting.numbers_given (given_by f p) ≡ numbers_of f (p ∷ [])
  given_numbers p = sym (numbers_given f (p ∷ []) ∙ ap counting.numbers_given (append-nil (given_by f p)))

  row_paired : count_pairs runs_differ (runs row) ≡ count_pairs (differ f) (members holds packages)
  row_paired =
      ap (λ r. count_pairs runs_differ (runs r)) kept ∙ ap (count_pairs runs_differ) (status_runs f holds 1 packages)
      ∙ pairs_some (given_by f) runs_differ (λ gs. refl) (λ gs. any_never (λ m. false) (λ m. refl) (counting.numbers_given gs)) (members holds packages)
      ∙ ap (λ r. count_pairs r (members holds packages)) (λ i p q. numbers_differ (given_numbers p i) (given_numbers q i))

  counts_given : (g : Option Givers) → ((bound : Option (Relop × ℕ)) → option_map_or (count_meeting bound) g 0 ≡ count_by (list_any (passes (Meeting bound))) (runs row))
      → ((bound : Option (Relop × ℕ)) → option_map_or (λ h. count_within bound h.numbers) g 0 ≡ count_by (list_any (passes (Number bound))) (runs row)) → option_map_or (λ h. h.differing) g 0 ≡ count_pairs runs_differ (runs row) → CountsOf f (members holds packages) g
  counts_given g meeting giving differing = record {
    meeting = λ bound. meeting bound ∙ row_counted (list_any (passes (Meeting bound))) (meets_alone (record { name = f; bound = bound })) refl (meeting_tells (record { name = f; bound = bound }));
    giving = λ bound. giving bound ∙ row_counted (list_any (passes (Number bound))) (gives_number f bound) refl (number_tells f bound);
    differing = differing ∙ row_paired;
  }

pub counts_row : (f : List ℕ) (holds : ℕ → Bool) (packages : List PlainPackage) (row : Option (List Provision)) (g : Option Givers) → BothAt (λ r. Counted (runs r)) row g → row_items row ≡ given_of f (members holds packages) → CountsOf f (members holds packages) g
counts_row f holds packages None None whole kept = counts_given f holds packages [] kept None (λ bound. refl) (λ bound. refl) refl
counts_row f holds packages (Some row) None whole kept = absurd whole
counts_row f holds packages None (Some g) whole kept = absurd whole
counts_row f holds packages (Some row) (Some g) whole kept = counts_given f holds packages row kept (Some g) whole.meeting whole.giving whole.differing
