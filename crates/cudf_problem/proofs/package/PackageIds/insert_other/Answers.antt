use Rattle.std.proofs.Common.{arith, ◌≡◌, ◌<◌, ℕ, false, List, ◌∷◌, ◌++◌, [], length, is_some, ap, sym, ◌∙◌, subst, position, None, not, cond, Some, Option}
use Rattle.indexmap.specs.IndexSet.{insert_key}
use Rattle.cudf_problem.specs.declared.package.NumberedPair.{NumberedPair}
use Rattle.cudf_problem.specs.Ids.{Id, is_id}
use Rattle.cudf_problem.specs.Promises.Names.{names_of_ids}
use Rattle.cudf_problem.specs.Working.Numbers.{texts, pair_id, pair_ids, other_index, is_pair, AreNumbered}
use Rattle.cudf_problem.proofs.NumberLemmas.{is_some-position, known_kept, place_of, other_ids, other_numbered, none_of}
use Rattle.cudf_problem.proofs.package.PackageIds.insert_other.Goals as goal

pub returns-then-is_some-clause-is_new : goal.returns-then-is_some-clause-is_new
returns-then-is_some-clause-is_new c =
    let id = pair_id (names_of_ids c.args.self.now) c.args.pair in
    ap not (sym c.if-is_some.true ∙ c.is_some.ensures ∙ ap is_some c.find.ensures ∙ is_some-position (is_id id) c.args.self.now)

pub returns-then-is_some-clause-ids : goal.returns-then-is_some-clause-ids
returns-then-is_some-clause-ids c =
    let id = pair_id (names_of_ids c.args.self.now) c.args.pair in
    sym (known_kept is_id c.args.self.now id (sym (sym c.if-is_some.true ∙ c.is_some.ensures ∙ ap is_some c.find.ensures ∙ is_some-position (is_id id) c.args.self.now)))

-- a pair that wasn't found isn't there
unfound : (names : List (List ℕ)) (pairs : List NumberedPair) (firsts : List ℕ) (other : NumberedPair → Option ℕ) (are : AreNumbered names pairs firsts other) (ids : List Id) (p : NumberedPair) (o : Option ℕ)
    → pair_ids names pairs ≡ ids → names ≡ names_of_ids ids → p.name < length names → o ≡ position (is_id (pair_id (names_of_ids ids) p)) ids → is_some o ≡ false → position (is_pair p) pairs ≡ None
unfound names pairs firsts other are ids p o view named inside found none =
    sym (place_of names pairs firsts other are p inside)
    ∙ (λ i. position (is_id (pair_id (named i) p)) (view i)) ∙ sym found ∙ none_of o none

pub invariant_of-self-2 : goal.invariant_of-self-2
invariant_of-self-2 c =
    let names = texts c.self.inside.names.keys in
    let pairs = c.self.inside.pairs.items in
    let firsts = c.self.inside.firsts.items in
    let named : names ≡ names_of_ids c.args.self.now = c.self.invariant.names_are ∙ ap names_of_ids c.self.view_is in
    let inside : c.args.pair.name < length names = subst (λ ns. c.args.pair.name < length ns) (sym named) c.requires in
    let counted : c.len.result ≡ length pairs = omega (arith, c.len.ensures, c.reserve.ensures.len, c.self.inside.pairs.ok) in
    subst (λ ps. AreNumbered names ps firsts (other_index c.insert.new.self)) (sym (c.in_ok-push.ensures.items ∙ ap (λ ps. ps ++ c.args.pair ∷ []) c.reserve.ensures.items))
    (other_numbered names pairs firsts (other_index c.self.inside.others) (other_index c.insert.new.self) c.self.invariant c.args.pair inside
    (unfound names pairs firsts (other_index c.self.inside.others) c.self.invariant c.args.self.now c.args.pair c.find.result c.self.view_is named inside c.find.ensures (sym c.is_some.ensures ∙ c.if-is_some.false))
    (λ q. c.in_ok-insert.ensures.updates.0 (q.name, q.version) ∙ ap (λ n. cond (is_pair c.args.pair q) (Some n) (other_index c.self.inside.others q)) counted))

pub returns-clause-is_new : goal.returns-clause-is_new
returns-clause-is_new c =
    let id = pair_id (names_of_ids c.args.self.now) c.args.pair in
    ap not (sym c.if-is_some.false ∙ c.is_some.ensures ∙ ap is_some c.find.ensures ∙ is_some-position (is_id id) c.args.self.now)

pub returns-clause-ids : goal.returns-clause-ids
returns-clause-ids c =
    let names = texts c.self.inside.names.keys in
    let pairs = c.self.inside.pairs.items in
    let firsts = c.self.inside.firsts.items in
    let named : names ≡ names_of_ids c.args.self.now = c.self.invariant.names_are ∙ ap names_of_ids c.self.view_is in
    let inside : c.args.pair.name < length names = subst (λ ns. c.args.pair.name < length ns) (sym named) c.requires in
    let counted : c.len.result ≡ length pairs = omega (arith, c.len.ensures, c.reserve.ensures.len, c.self.inside.pairs.ok) in
    ap (pair_ids names) (c.in_ok-push.ensures.items ∙ ap (λ ps. ps ++ c.args.pair ∷ []) c.reserve.ensures.items)
    ∙ other_ids names pairs firsts (other_index c.self.inside.others) (other_index c.insert.new.self) c.self.invariant c.args.pair inside
    (unfound names pairs firsts (other_index c.self.inside.others) c.self.invariant c.args.self.now c.args.pair c.find.result c.self.view_is named inside c.find.ensures (sym c.is_some.ensures ∙ c.if-is_some.false))
    (λ q. c.in_ok-insert.ensures.updates.0 (q.name, q.version) ∙ ap (λ n. cond (is_pair c.args.pair q) (Some n) (other_index c.self.inside.others q)) counted)
    ∙ (λ i. insert_key is_id (c.self.view_is i) (pair_id (named i) c.args.pair))
