use Rattle.std.proofs.Common.{◌≡◌, ℕ, ◌+◌, ◌<◌, ◌==◌, Bool, true, List, length, map, get_or, Some, refl, ap, sym, ◌∙◌, subst, arith}
use Rattle.std.specs.Prelude.{find, option_map, slice_get}
use Rattle.std.specs.FinSet as set
use Rattle.std.proofs.lemmas.List.Elements.{All-push}
use Rattle.std.proofs.lemmas.Option.{slice_get-map, slice_get_read}
use Rattle.cudf_problem.specs.declared.package.Package.{Package}
use Rattle.cudf_problem.specs.Universe.{PlainPackage}
use Rattle.cudf_problem.specs.Promises.Views.{package_view}
use Rattle.cudf_index.specs.Satisfaction.{Placed, members}
use Rattle.cudf_index.specs.Working.Shares.{AreShares}
use Rattle.cudf_index.proofs.TakenOffLemmas.{find_at_place}
use Rattle.cudf_index.proofs.index.member.shares_of.Goals as goal
use Rattle.cudf_index.proofs.index.member.shares_of.Goals.{then-holds+then-len-ge-MANY+in_ok-new+in_ok-push, else-holds}

-- a package that the status holds is found at its place
placed : (holds : ℕ → Bool) (xs : List Package) (packages : List PlainPackage) (i : ℕ) (x : Package) → map package_view xs ≡ packages → i < length xs → x ≡ get_or xs i x → holds (i + 1) ≡ true
    → Some (i + 1, package_view x) ≡ find (λ q. q.0 == i + 1) (members holds packages)
placed holds xs packages i x view inside at held =
    let same : 1 + i ≡ i + 1 = omega arith in
    subst (λ n. Some (n, package_view x) ≡ find (λ q. q.0 == n) (members holds packages)) same
    (sym (find_at_place holds i 1 packages (ap holds same ∙ held)
    ∙ ap (option_map {U = Placed} (λ p. (1 + i, p))) (sym (ap (λ ps. slice_get ps i) view) ∙ slice_get-map package_view xs i ∙ ap (option_map package_view) (slice_get_read xs (length xs) i x refl inside at))))

pub loop-before-preserved : goal.loop-before-preserved
loop-before-preserved c =
    let holds = set.contains c.args.status.now in
    let packages = c.args.problem.now.packages in
    let here = λ (w : Placed). Some w ≡ find (λ q. q.0 == w.0) (members holds packages) in
    elim c.if-holds.branch [
      | then-holds+then-len-ge-MANY+in_ok-new+in_ok-push w ↦
          subst (λ v. AreShares (members holds packages) v.items) (sym w.shares-is)
          (subst (AreShares (members holds packages)) (sym w.in_ok-push.ensures.items)
          (All-push here c.loop-before.shares.items w.in_ok-new.field-0 c.loop-before.invariant
          (subst here (sym w.in_ok-new.ensures)
          (placed holds c.packages-package-items.result.now packages c.loop-before.before c.package-item.result
          c.packages-package-items.ensures.packages c.loop-before-test.true c.package-item.is (sym c.holds.ensures ∙ w.if-holds.true)))))
      | else-holds w ↦ subst (λ v. AreShares (members holds packages) v.items) (sym w.shares-is) c.loop-before.invariant
    ]
