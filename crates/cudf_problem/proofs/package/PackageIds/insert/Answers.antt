use Rattle.std.proofs.Common.{arith, ◌≡◌, ◌<◌, ℕ, ap, sym, ◌∙◌, subst, not, cond, true, false, Bool, List, [], ◌∷◌, ◌++◌, length, get_or, position, Option, Some, None, Bor, bytes_eq, refl}
use Rattle.std.specs.Prelude.{IfOk, OnOk}
use Rattle.std.specs.List.{list_any, position_or_len}
use Rattle.std.proofs.lemmas.Bool.{lt-ltb, not-true, false_from_ne_true, true≢false}
use Rattle.std.proofs.lemmas.List.{map_push, length-map}
use Rattle.std.proofs.lemmas.List.Folds.{list_any_at}
use Rattle.std.proofs.lemmas.List.Sums.{position_or_len_is}
use Rattle.indexmap.specs.IndexSet.{insert_key}
use Rattle.cudf_problem.specs.declared.package.NumberedPair.{NumberedPair}
use Rattle.cudf_problem.specs.Ids.{Id, is_id, is_among}
use Rattle.cudf_problem.specs.Promises.Names.{names_of_ids}
use Rattle.cudf_problem.specs.Working.Numbers.{texts, pair_id, pair_ids, other_index, AreNumbered}
use Rattle.cudf_problem.proofs.ListLemmas.{list_any-map, position-map}
use Rattle.cudf_problem.proofs.NumberLemmas.{new_id, new_ids, new_numbered, text_at, known_kept, fresh_last}
use Rattle.cudf_problem.proofs.package.PackageIds.insert.Goals as goal

-- the same lists
moved : (names names' : List (List ℕ)) (pairs pairs' : List NumberedPair) (firsts firsts' : List ℕ) (other : NumberedPair → Option ℕ) → names' ≡ names → pairs' ≡ pairs → firsts' ≡ firsts
    → AreNumbered names pairs firsts other → AreNumbered names' pairs' firsts' other
moved names names' pairs pairs' firsts firsts' other ns ps fs are =
    subst (λ xs. AreNumbered xs pairs' firsts' other) (sym ns) (subst (λ xs. AreNumbered names xs firsts' other) (sym ps) (subst (λ xs. AreNumbered names pairs xs other) (sym fs) are))

-- what none passes is as long as the list
none_before : {A : Type 0} (test : A → Bool) (xs : List A) → list_any test xs ≡ false → position_or_len test xs ≡ length xs
none_before {A} test [] none = refl
none_before {A} test (x ∷ xs) none =
    position_or_len_is test (x ∷ xs) (length (x ∷ xs)) x (omega arith)
    (λ k lt. false_from_ne_true (test (get_or (x ∷ xs) k x)) (λ h. true≢false (sym (list_any_at test (x ∷ xs) k x lt h) ∙ none)))
    (λ lt. absurd (omega arith))

-- a name that is new
module _ (keys now : List (Bor (List ℕ))) (name : Bor (List ℕ)) (is_new : Bool) (added : is_new ≡ not (list_any (λ k. bytes_eq name.now k.now) keys)) (inserted : now ≡ insert_key (λ x y. bytes_eq x.now y.now) keys name)
    (fresh : is_new ≡ true) where
  absent : list_any (λ k. bytes_eq name.now k.now) keys ≡ false
  absent = not-true (list_any (λ k. bytes_eq name.now k.now) keys) (sym added ∙ fresh)

  unnamed : list_any (bytes_eq name.now) (texts keys) ≡ false
  unnamed = list_any-map (λ (k : Bor (List ℕ)). k.now) (bytes_eq name.now) keys ∙ absent

  names_grown : texts now ≡ texts keys ++ name.now ∷ []
  names_grown = ap texts (inserted ∙ fresh_last (λ x y. bytes_eq x.now y.now) keys name absent) ∙ map_push (λ (k : Bor (List ℕ)). k.now) keys name

  number_is : (number : ℕ) → number ≡ position_or_len (λ k. bytes_eq name.now k.now) keys → number ≡ length (texts keys)
  number_is number at = at ∙ none_before (λ k. bytes_eq name.now k.now) keys absent ∙ sym (length-map keys (λ (k : Bor (List ℕ)). k.now))

-- a name that was there
names_same : (keys now : List (Bor (List ℕ))) (name : Bor (List ℕ)) (is_new : Bool) → is_new ≡ not (list_any (λ k. bytes_eq name.now k.now) keys) → now ≡ insert_key (λ x y. bytes_eq x.now y.now) keys name
    → is_new ≡ false → texts now ≡ texts keys
names_same keys now name is_new added inserted old = ap texts (inserted ∙ by (list_any (λ k. bytes_eq name.now k.now) keys) refl (sym added ∙ old))
  where
    by : (b : Bool) → list_any (λ k. bytes_eq name.now k.now) keys ≡ b → not b ≡ false → insert_key (λ x y. bytes_eq x.now y.now) keys name ≡ keys
    by true e h = known_kept (λ x y. bytes_eq x.now y.now) keys name e
    by false e h = absurd (true≢false h)

pub invariant_of-self-in_err-number : goal.invariant_of-self-in_err-number
invariant_of-self-in_err-number c =
    moved (texts c.self.inside.names.keys) _ c.self.inside.pairs.items _ c.self.inside.firsts.items _ (other_index c.self.inside.others)
    (ap texts c.in_err-number.ensures.err) c.reserve.ensures.items c.reserve-2.ensures.items c.self.invariant

pub invariant_of-self-then-is_new : goal.invariant_of-self-then-is_new
invariant_of-self-then-is_new c =
    let keys = c.self.inside.names.keys in
    let now = c.insert_full.new.self.keys in
    let pairs = c.self.inside.pairs.items in
    let firsts = c.self.inside.firsts.items in
    let number = number_is keys now c.args.name c.in_ok-number.is_new c.in_ok-number.ensures.added c.in_ok-number.ensures.keys c.if-is_new.true c.in_ok-number.number c.in_ok-number.ensures.index in
    let counted : c.len.result ≡ length pairs = omega (arith, c.len.ensures, c.reserve.ensures.len, c.self.inside.pairs.ok) in
    moved (texts keys ++ c.args.name.now ∷ []) _ (pairs ++ record { name = length (texts keys); version = c.args.version } ∷ []) _ (firsts ++ length pairs ∷ []) _ (other_index c.self.inside.others)
    (names_grown keys now c.args.name c.in_ok-number.is_new c.in_ok-number.ensures.added c.in_ok-number.ensures.keys c.if-is_new.true)
    (c.in_ok-push-2.ensures.items ∙ (λ i. c.reserve.ensures.items i ++ record { name = number i; version = c.args.version } ∷ []))
    (c.in_ok-push.ensures.items ∙ (λ i. c.reserve-2.ensures.items i ++ counted i ∷ []))
    (new_numbered (texts keys) pairs firsts (other_index c.self.inside.others) c.self.invariant c.args.name.now c.args.version
    (unnamed keys now c.args.name c.in_ok-number.is_new c.in_ok-number.ensures.added c.in_ok-number.ensures.keys c.if-is_new.true))

pub returns-then-is_new-clause-is_new : goal.returns-then-is_new-clause-is_new
returns-then-is_new-clause-is_new c =
    let keys = c.self.inside.names.keys in
    let now = c.insert_full.new.self.keys in
    ap not
    (sym (new_id (texts keys) c.self.inside.pairs.items c.self.inside.firsts.items (other_index c.self.inside.others) c.self.invariant c.args.name.now c.args.version
    (unnamed keys now c.args.name c.in_ok-number.is_new c.in_ok-number.ensures.added c.in_ok-number.ensures.keys c.if-is_new.true))
    ∙ ap (λ ids. is_among ids (c.args.name.now, c.args.version)) c.self.view_is)

pub returns-then-is_new-clause-ids : goal.returns-then-is_new-clause-ids
returns-then-is_new-clause-ids c =
    let keys = c.self.inside.names.keys in
    let now = c.insert_full.new.self.keys in
    let pairs = c.self.inside.pairs.items in
    let number = number_is keys now c.args.name c.in_ok-number.is_new c.in_ok-number.ensures.added c.in_ok-number.ensures.keys c.if-is_new.true c.in_ok-number.number c.in_ok-number.ensures.index in
    let names = names_grown keys now c.args.name c.in_ok-number.is_new c.in_ok-number.ensures.added c.in_ok-number.ensures.keys c.if-is_new.true in
    let listed = c.in_ok-push-2.ensures.items ∙ (λ i. c.reserve.ensures.items i ++ record { name = number i; version = c.args.version } ∷ []) in
    (λ i. pair_ids (names i) (listed i))
    ∙ new_ids (texts keys) pairs c.self.inside.firsts.items (other_index c.self.inside.others) c.self.invariant c.args.name.now c.args.version
    (unnamed keys now c.args.name c.in_ok-number.is_new c.in_ok-number.ensures.added c.in_ok-number.ensures.keys c.if-is_new.true)
    ∙ ap (λ ids. insert_key is_id ids (c.args.name.now, c.args.version)) c.self.view_is

pub invariant_of-self-else-is_new : goal.invariant_of-self-else-is_new
invariant_of-self-else-is_new c =
    moved (texts c.self.inside.names.keys) _ c.self.inside.pairs.items _ c.self.inside.firsts.items _ (other_index c.self.inside.others)
    (names_same c.self.inside.names.keys c.insert_full.new.self.keys c.args.name c.in_ok-number.is_new c.in_ok-number.ensures.added c.in_ok-number.ensures.keys c.if-is_new.false)
    c.reserve.ensures.items c.reserve-2.ensures.items c.self.invariant

-- the pair, by the names that were there
module _ (keys now : List (Bor (List ℕ))) (name : Bor (List ℕ)) (number version : ℕ) (pairs listed : List NumberedPair) (ids : List Id) (same : texts now ≡ texts keys) (rooms : listed ≡ pairs)
    (named : texts keys ≡ names_of_ids (pair_ids (texts keys) pairs)) (view : pair_ids (texts keys) pairs ≡ ids) (at : number ≡ position_or_len (λ k. bytes_eq name.now k.now) keys)
    (within : number < length now) where
  ids_same : pair_ids (texts now) listed ≡ ids
  ids_same = (λ i. pair_ids (same i) (rooms i)) ∙ view

  inside : number < length keys
  inside = omega (arith, within, length-map now (λ (k : Bor (List ℕ)). k.now), length-map keys (λ (k : Bor (List ℕ)). k.now), ap length same)

  placed : position (bytes_eq name.now) (texts keys) ≡ Some number
  placed =
      sym (position-map (λ (k : Bor (List ℕ)). k.now) (bytes_eq name.now) keys)
      ∙ ap (λ b. cond b (Some (position_or_len (λ k. bytes_eq name.now k.now) keys)) None) (lt-ltb (position_or_len (λ k. bytes_eq name.now k.now) keys) (length keys) (subst (λ n. n < length keys) at inside))
      ∙ ap Some (sym at)

  id_same : pair_id (names_of_ids (pair_ids (texts now) listed)) (record { name = number; version = version }) ≡ (name.now, version)
  id_same =
      ap (λ text. (text, version))
      (ap (λ ns. get_or ns number []) (ap names_of_ids (λ i. pair_ids (same i) (rooms i)) ∙ sym named) ∙ sym (text_at (texts keys) name.now number placed).1)

pub returns-clause-is_new : goal.returns-clause-is_new
returns-clause-is_new c =
    let keys = c.self.inside.names.keys in
    let now = c.insert_full.new.self.keys in
    let same = names_same keys now c.args.name c.in_ok-number.is_new c.in_ok-number.ensures.added c.in_ok-number.ensures.keys c.if-is_new.false in
    let ids = ids_same keys now c.args.name c.in_ok-number.number c.args.version c.self.inside.pairs.items c.reserve.new.self.items c.args.self.now same c.reserve.ensures.items
    c.self.invariant.names_are c.self.view_is c.in_ok-number.ensures.index c.in_ok-number.ensures.within in
    let id = id_same keys now c.args.name c.in_ok-number.number c.args.version c.self.inside.pairs.items c.reserve.new.self.items c.args.self.now same c.reserve.ensures.items
    c.self.invariant.names_are c.self.view_is c.in_ok-number.ensures.index c.in_ok-number.ensures.within in
    subst (λ b. IfOk c.insert_other.result (λ is_new. is_new ≡ not b)) (λ i. is_among (ids i) (id i)) c.insert_other.ensures.is_new

pub returns-clause-ids : goal.returns-clause-ids
returns-clause-ids c =
    let keys = c.self.inside.names.keys in
    let now = c.insert_full.new.self.keys in
    let same = names_same keys now c.args.name c.in_ok-number.is_new c.in_ok-number.ensures.added c.in_ok-number.ensures.keys c.if-is_new.false in
    let ids = ids_same keys now c.args.name c.in_ok-number.number c.args.version c.self.inside.pairs.items c.reserve.new.self.items c.args.self.now same c.reserve.ensures.items
    c.self.invariant.names_are c.self.view_is c.in_ok-number.ensures.index c.in_ok-number.ensures.within in
    let id = id_same keys now c.args.name c.in_ok-number.number c.args.version c.self.inside.pairs.items c.reserve.new.self.items c.args.self.now same c.reserve.ensures.items
    c.self.invariant.names_are c.self.view_is c.in_ok-number.ensures.index c.in_ok-number.ensures.within in
    subst (λ after. OnOk c.insert_other.result (c.insert_other.new.self ≡ after)) (λ i. insert_key is_id (ids i) (id i)) c.insert_other.ensures.ids
