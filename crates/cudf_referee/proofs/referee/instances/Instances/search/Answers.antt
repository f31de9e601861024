use Rattle.std.proofs.Common.{◌≡◌, ℕ, [], Some, None, option_map, drop, sym, subst, ◌∙◌}
use Rattle.cudf_referee.specs.Promises.Views.{instance_view}
use Rattle.cudf_referee.specs.Proposals.{Proposal}
use Rattle.std.specs.List.{enumerate_from}
use Rattle.cudf_referee.specs.Working.Searches.{Comes, ComesTo, Searches, packages_rest, request_rest, unknown_rest}
use Rattle.cudf_referee.specs.declared.left.RequestInstancesLeft.{RequestInstancesLeft}
use Rattle.std.specs.Prelude.{All}
use Rattle.cudf_referee.specs.Working.Located.{IsStopLocated}
use Rattle.cudf_referee.proofs.LocatedLemmas.{all-left, all-right}
use Rattle.cudf_referee.proofs.ComesLemmas.{in-packages, in-request, in-last}
use Rattle.cudf_referee.proofs.SearchLemmas.{goes-start, goes-found, part-on, part-last}
use Rattle.cudf_referee.proofs.referee.instances.Instances.search.Goals as goal

pub search_packages-requires : goal.search_packages-requires
search_packages-requires c = all-left (IsStopLocated c.args.self.now.judged) _ _ c.requires

pub search_request-requires : goal.search_request-requires
search_request-requires c =
    let s = c.args.self.now.judged in
    let cursor = c.args.cursor.now in
    let located = all-left (IsStopLocated s) (request_rest s cursor.request) _ (all-right (IsStopLocated s) (packages_rest s cursor.begun (drop cursor.packages (enumerate_from 1 s.problem.packages))) _ c.requires) in
    subst (λ (t : Proposal). All (IsStopLocated t) (request_rest t c.search_packages.new.cursor.request)) (sym c.in_default.ensures.searches.judged)
    (subst (λ (r : RequestInstancesLeft). All (IsStopLocated s) (request_rest s r)) (sym c.search_packages.ensures.others.0) located)

pub returns-in-Some-clause-searches : goal.returns-in-Some-clause-searches
returns-in-Some-clause-searches c =
    let cursor = c.args.cursor.now in
    goes-found (part-on _ _ _ _ _ (λ s. packages_rest s cursor.begun (drop cursor.packages (enumerate_from 1 s.problem.packages))) _
    (goes-start c.args.self.now _) c.in-Some.ensures.searches)

pub returns-in-Some-clause-comes : goal.returns-in-Some-clause-comes
returns-in-Some-clause-comes c = in-packages c.args.self.now.judged c.args.cursor.now c.search_packages.new.cursor _ c.search_packages.ensures.others.0 c.search_packages.ensures.others.1 c.in-Some.ensures.comes

pub returns-in-Some-search_request-clause-searches : goal.returns-in-Some-search_request-clause-searches
returns-in-Some-search_request-clause-searches c =
    let cursor = c.args.cursor.now in
    goes-found (part-on _ _ _ _ _ (λ s. request_rest s cursor.request) _
    (part-on _ _ _ _ _ (λ s. packages_rest s cursor.begun (drop cursor.packages (enumerate_from 1 s.problem.packages))) _
    (goes-start c.args.self.now _) c.in_default.ensures.searches)
    (subst (λ (r : RequestInstancesLeft). Searches c.search_packages.new.self (request_rest c.search_packages.new.self.judged r) (Some (instance_view c.in-Some-search_request.instance)) c.search_request.new.self) c.search_packages.ensures.others.0 c.in-Some-search_request.ensures.searches))

pub returns-in-Some-search_request-clause-comes : goal.returns-in-Some-search_request-clause-comes
returns-in-Some-search_request-clause-comes c =
    in-request c.args.self.now.judged c.args.cursor.now (record c.search_packages.new.cursor { request = c.search_request.new.left }) _ c.in_default.ensures.comes c.search_packages.ensures.others.1
    (subst (λ (r : RequestInstancesLeft). Comes (request_rest c.args.self.now.judged r) (instance_view c.in-Some-search_request.instance) (request_rest c.args.self.now.judged c.search_request.new.left)) c.search_packages.ensures.others.0
    (subst (λ (s : Proposal). Comes (request_rest s c.search_packages.new.cursor.request) (instance_view c.in-Some-search_request.instance) (request_rest s c.search_request.new.left)) c.in_default.ensures.searches.judged c.in-Some-search_request.ensures.comes))

pub returns-clause-searches : goal.returns-clause-searches
returns-clause-searches c =
    let cursor = c.args.cursor.now in
    let others = c.search_packages.ensures.others in
    part-last _ _ _ _ (λ s. unknown_rest s cursor.unknown) _
    (part-on _ _ _ _ _ (λ s. request_rest s cursor.request) _
    (part-on _ _ _ _ _ (λ s. packages_rest s cursor.begun (drop cursor.packages (enumerate_from 1 s.problem.packages))) _
    (goes-start c.args.self.now _) c.in_default.ensures.searches)
    (subst (λ (r : RequestInstancesLeft). Searches c.search_packages.new.self (request_rest c.search_packages.new.self.judged r) None c.search_request.new.self) others.0 c.in_default-search_request.ensures.searches))
    (subst (λ (n : ℕ). Searches c.search_request.new.self (unknown_rest c.search_request.new.self.judged n) (option_map instance_view c.search_unknown.result) c.search_unknown.new.self) others.1 c.search_unknown.ensures.searches)

pub returns-clause-comes : goal.returns-clause-comes
returns-clause-comes c =
    let others = c.search_packages.ensures.others in
    let same = c.search_request.ensures.searches.judged ∙ c.search_packages.ensures.searches.judged in
    in-last c.args.self.now.judged c.args.cursor.now (record c.search_packages.new.cursor { request = c.search_request.new.left; unknown = c.search_unknown.new.first }) _ c.in_default.ensures.comes
    (subst (λ (s : Proposal). request_rest s c.search_request.new.left ≡ []) c.in_default.ensures.searches.judged c.in_default-search_request.ensures.comes)
    (subst (λ (n : ℕ). ComesTo (unknown_rest c.args.self.now.judged n) (option_map instance_view c.search_unknown.result) (unknown_rest c.args.self.now.judged c.search_unknown.new.first)) others.1
    (subst (λ (s : Proposal). ComesTo (unknown_rest s c.search_packages.new.cursor.unknown) (option_map instance_view c.search_unknown.result) (unknown_rest s c.search_unknown.new.first)) same c.search_unknown.ensures.comes))
