-- Printing one text after another.
use Rattle.std.proofs.Common.{◌≡◌, ◌<◌, ◌≤◌, ◌+◌, ℕ, zero, suc, Bool, true, false, List, [], ◌∷◌, ◌++◌, length, get_or, take, Result, Ok, Err, refl, ap, subst, sym, ◌∙◌, append_assoc, append-nil, is_err, arith}
use Rattle.std.specs.Io.KnownBytes.{Appends}
use Rattle.std.specs.List.{flat_map, enumerate_from}
use Rattle.std.proofs.KnownBytes.{Appends-nil, Appends-trans}
use Rattle.std.proofs.lemmas.Grind.{flat_map-append}
use Rattle.std.proofs.lemmas.List.{take_more, take_all}
use Rattle.std.proofs.lemmas.List.FromFn.{length-enumerate_from, get_or-enumerate_from}
use Rattle.cudf_device.specs.Device.{SinkState}
use Rattle.cudf_device.specs.Outcomes.{Report}
use Rattle.cudf_device.specs.declared.outcome.Outcome.{Outcome}
use Rattle.cudf_device.specs.declared.outcome.RunError.{RunError}
use Rattle.cudf_device.specs.declared.outcome.RunError.TheVariants.{Write, Memory}
use Rattle.cudf_device.specs.declared.paper.Paper.{Paper}
use Rattle.cudf_device.specs.Promises.Answering.{Answers}
use Rattle.cudf_device.specs.Promises.PaperInside.{IsTaken, IsTorn, IsSaid, Says, Holds, IsBlank, Prints}
use Rattle.cudf_device.specs.Working.Writing.{Writes}
use Rattle.cudf_device.proofs.AnswerLemmas.{memory_first, write_failed, all_written}
use Rattle.cudf_device.proofs.CallLemmas.{stops_later}
use Rattle.cudf_device.proofs.OutputLemmas.{AppendsPrefix-longer}

-- nothing
pub Says-none : {W : Type 0} (state : W → SinkState) (a : Paper W) → Says state a a []
Says-none state a = record {
  same = refl;
  said = λ start before h. subst (Holds state start a) (sym (append-nil before)) h;
}

-- a text, and then another
pub Says-then : {W : Type 0} (state : W → SinkState) (a b c : Paper W) (t u : List ℕ) → Says state a b t → Says state b c u → Says state a c (t ++ u)
Says-then state a b c t u m n = record {
  same = n.same ∙ m.same;
  said = λ start before h. subst (Holds state start c) (append_assoc before t u) (n.said start (before ++ t) (m.said start before h));
}

-- the same, to be read from left to right
infixl 20 ◌▸◌
pub ◌▸◌ : {W : Type 0} {state : W → SinkState} {a b c : Paper W} {t u : List ℕ} → Says state a b t → Says state b c u → Says state a c (t ++ u)
m ▸ n = Says-then _ _ _ _ _ _ m n

-- the same text in another form
pub Says-as : {W : Type 0} (state : W → SinkState) (a b : Paper W) (t u : List ℕ) → t ≡ u → Says state a b t → Says state a b u
Says-as state a b t u is m = subst (Says state a b) is m

-- the same report in another form
pub Prints-as : {W E : Type 0} (state : W → SinkState) (a b : Paper W) (report same : Report) (answer : Result Outcome E) → report ≡ same
    → Prints state a b report answer → Prints state a b same answer
Prints-as state a b report same answer is m = subst (λ r. Prints state a b r answer) is m

-- the paper has the same sink
pub Prints-same : {W E : Type 0} (state : W → SinkState) (a b : Paper W) (report : Report) (answer : Result Outcome E) → Prints state a b report answer
    → b.out.ghost_name ≡ a.out.ghost_name
Prints-same state a b report (Ok outcome) m = m.said.same
Prints-same state a b report (Err e) m = ap (λ p. p.out.ghost_name) m.untouched

-- ---- after a failed write

-- a prefix of a text is one of every longer text
pub torn : (start a : SinkState) (before text : List ℕ) → IsTorn start a before → IsTorn start a (before ++ text)
torn start a before text m = record { prefix = AppendsPrefix-longer start.contents a.contents before text m.prefix; failed = m.failed; stops = m.stops }

-- whatever comes after a text counts as printed
pub Says-torn : {W : Type 0} (state : W → SinkState) (a b : Paper W) (t u : List ℕ) → b.has_failed ≡ true → Says state a b t → Says state a b (t ++ u)
Says-torn state a b t u failed m = record {
  same = m.same;
  said = λ start before h.
      let now = state b.out.now in
      let one : IsTorn start now (before ++ t) = subst (λ f. IsSaid f start now b.waiting.now (before ++ t)) failed (m.said start before h) in
      subst (Holds state start b) (append_assoc before t u)
      (subst (λ f. IsSaid f start now b.waiting.now ((before ++ t) ++ u)) (sym failed) (torn start now (before ++ t) u one));
}

-- a text, and nothing after it, unless a write failed
pub Says-end : {W : Type 0} (state : W → SinkState) (a b : Paper W) (t u : List ℕ) (has_failed : Bool) → b.has_failed ≡ has_failed
    → (has_failed ≡ false → u ≡ []) → Says state a b t → Says state a b (t ++ u)
Says-end state a b t u true failed none m = Says-torn state a b t u failed m
Says-end state a b t u false failed none m = Says-as state a b t (t ++ u) (sym (append-nil t) ∙ ap (λ x. t ++ x) (sym (none refl))) m

-- ---- the sink

-- nothing was printed yet
pub blank : (start : SinkState) (p : List ℕ) → p ≡ [] → IsTaken start start p []
blank start p is = record { taken = []; whole = is; appended = Appends-nil start.contents; calm = refl }

-- a text waits after what waited
pub added : (start a : SinkState) (p q before text : List ℕ) → q ≡ p ++ text → IsTaken start a p before → IsTaken start a q (before ++ text)
added start a p q before text is m = record {
  taken = m.taken;
  whole = ap (λ x. m.taken ++ x) is ∙ sym (append_assoc m.taken p text) ∙ ap (λ x. x ++ text) m.whole;
  appended = m.appended;
  calm = m.calm;
}

-- all that waited was written
pub written : (start a b : SinkState) (p text : List ℕ) → Writes {T = Unit {0}} a b (Ok tt) p → IsTaken start a p text → IsTaken start b [] text
written start a b p text w m = record {
  taken = m.taken ++ p;
  whole = append-nil (m.taken ++ p) ∙ m.whole;
  appended = Appends-trans start.contents a.contents b.contents m.taken p m.appended w.ok;
  calm = m.calm ∙ w.calm;
}

-- a prefix of what waited was written
pub cut_off : (start a b : SinkState) (p text : List ℕ) (e : RunError) → Writes {T = Unit {0}} a b (Err e) p → IsTaken start a p text → IsTorn start b text
cut_off start a b p text e w m =
    let broken : RunError → Result (Unit {0}) RunError = λ x. Err x in
    let below : a.failures < b.failures = w.failed.0 (ap broken w.only) in
    let calm = m.calm in
    record {
      prefix = record {
        taken = m.taken ++ w.prefix.taken;
        left = w.prefix.left;
        whole = append_assoc m.taken w.prefix.taken w.prefix.left ∙ ap (λ x. m.taken ++ x) w.prefix.whole ∙ m.whole;
        appended = Appends-trans start.contents a.contents b.contents m.taken w.prefix.taken m.appended w.prefix.appended;
      };
      failed = omega arith;
      stops = stops_later start a b m.calm w.stops;
    }

-- the same, where a text would have come after it
pub broke : (start a b : SinkState) (p before text : List ℕ) (result : Result (Unit {0}) RunError) → is_err result ≡ true → Writes a b result p
    → IsTaken start a p before → IsTorn start b (before ++ text)
broke start a b p before text (Ok x) failed w m = absurd (cc failed)
broke start a b p before text (Err e) failed w m = torn start b before text (cut_off start a b p before e w m)

-- all that waited was written, and then a text, or a prefix of it
pub wrote : (start a b c : SinkState) (p q before text : List ℕ) (first second : Result (Unit {0}) RunError) → is_err first ≡ false → Writes a b first p → q ≡ []
    → Writes b c second text → IsTaken start a p before → IsSaid (is_err second) start c q (before ++ text)
wrote start a b c p q before text (Err e) second calm w empty v m = absurd (cc calm)
wrote start a b c p q before text (Ok x) second calm w empty v m =
    subst (λ waits. IsSaid (is_err second) start c waits (before ++ text)) (sym empty)
    (by second v (added start b [] text before text refl (written start a b p before w m)))
  where
    by : (result : Result (Unit {0}) RunError) → Writes b c result text → IsTaken start b text (before ++ text) → IsSaid (is_err result) start c [] (before ++ text)
    by (Ok y) n k = written start b c text (before ++ text) n k
    by (Err e) n k = cut_off start b c text (before ++ text) e n k

-- ---- the end

-- memory ran out before anything was printed
pub unprinted : {W E : Type 0} (state : W → SinkState) (start : SinkState) (blank paper : Paper W) (report : Report) (answer : Result Outcome E) (e : E) → answer ≡ Err e
    → IsBlank state start blank → Prints state blank paper report answer → Answers start (state paper.out.now) report (Err Memory)
unprinted state start blank paper report (Ok outcome) e is fresh p = absurd (cc is)
unprinted state start blank paper report (Err x) e is fresh p =
    subst (λ now. Answers start now report (Err Memory)) (sym (ap (λ q. state q.out.now) p.untouched ∙ fresh.sink)) (memory_first start report)

-- the report was printed
pub printed : {W E : Type 0} (state : W → SinkState) (start : SinkState) (blank paper : Paper W) (report : Report) (answer : Result Outcome E) (outcome : Outcome) → answer ≡ Ok outcome
    → IsBlank state start blank → Prints state blank paper report answer → Holds state start paper report.text × (outcome ≡ report.outcome)
printed state start blank paper report (Err x) outcome is fresh p = absurd (cc is)
printed state start blank paper report (Ok x) outcome is fresh p =
    let same : x ≡ outcome = cc is in
    (p.said.said start [] fresh.none, sym same ∙ p.answered)

-- a write failed
pub stopped : (start a : SinkState) (report : Report) (e : RunError) → e ≡ Write → IsTorn start a report.text → Answers start a report (Err e)
stopped start a report e is m = subst (λ x. Answers start a report (Err x)) (sym is) (write_failed start a report m.prefix m.failed m.stops)

-- all was written
pub finished : (start a : SinkState) (report : Report) (outcome : Outcome) → outcome ≡ report.outcome → IsTaken start a [] report.text → Answers start a report (Ok outcome)
finished start a report outcome answered m =
    all_written start a report outcome (subst (Appends start.contents a.contents) (sym (append-nil m.taken) ∙ m.whole) m.appended) m.calm answered

-- ---- texts of a list's elements

-- one element more
pub texts-more : {A : Type 0} (f : A → List ℕ) (xs : List A) (i : ℕ) (d : A) → i < length xs → flat_map f (take i xs) ++ f (get_or xs i d) ≡ flat_map f (take (i + 1) xs)
texts-more f xs i d below = sym (ap (flat_map f) (take_more xs i d below) ∙ flat_map-append f (take i xs) (get_or xs i d ∷ []) ∙ ap (λ x. flat_map f (take i xs) ++ x) (append-nil (f (get_or xs i d))))

-- the same, where the list is known by one element more
pub texts-step : {A : Type 0} (f : A → List ℕ) (xs ys : List A) (x : A) → ys ≡ xs ++ x ∷ [] → flat_map f xs ++ f x ≡ flat_map f ys
texts-step f xs ys x is = sym (ap (flat_map f) is ∙ flat_map-append f xs (x ∷ []) ∙ ap (λ t. flat_map f xs ++ t) (append-nil (f x)))

-- the elements after the first ones
pub record IsFront {A : Type 0} (f : A → List ℕ) (xs : List A) (m n : ℕ) : Type 0 where
  pub behind : List ℕ
  pub whole : flat_map f (take m xs) ++ behind ≡ flat_map f (take n xs)

pub front : {A : Type 0} (f : A → List ℕ) (xs : List A) (m n : ℕ) → m ≤ n → IsFront f xs m n
front f xs zero n h = record { behind = flat_map f (take n xs); whole = refl }
front f xs (suc m) zero h = absurd (omega arith)
front f [] (suc m) (suc n) h = record { behind = []; whole = refl }
front f (x ∷ xs) (suc m) (suc n) h =
    let one = front f xs m n (omega arith) in
    record { behind = one.behind; whole = append_assoc (f x) (flat_map f (take m xs)) one.behind ∙ ap (λ t. f x ++ t) one.whole }

-- where a write failed after the first ones, all count as printed
pub Says-front : {W A : Type 0} (state : W → SinkState) (a b : Paper W) (f : A → List ℕ) (xs : List A) (m n : ℕ) → m ≤ n → b.has_failed ≡ true
    → Says state a b (flat_map f (take m xs)) → Says state a b (flat_map f (take n xs))
Says-front state a b f xs m n h failed said =
    let rest = front f xs m n h in
    Says-as state a b _ _ rest.whole (Says-torn state a b (flat_map f (take m xs)) rest.behind failed said)

-- ---- texts of a list's elements, each with its number from 1

numbered : {A : Type 0} (xs : List A) (i : ℕ) (d : A) → i < length xs → get_or (enumerate_from 1 xs) i (0, d) ≡ (i + 1, get_or xs i d)
numbered xs i d below =
    let next : 1 + i ≡ i + 1 = omega arith in
    get_or-enumerate_from 1 xs i (0, d) below ∙ ap (λ n. (n, get_or xs i d)) next

-- one element more
pub numbered-more : {A : Type 0} (f : ℕ × A → List ℕ) (xs : List A) (i : ℕ) (d : A) → i < length xs
    → flat_map f (take i (enumerate_from 1 xs)) ++ f (i + 1, get_or xs i d) ≡ flat_map f (take (i + 1) (enumerate_from 1 xs))
numbered-more f xs i d below =
    let inside : i < length (enumerate_from 1 xs) = omega (arith, length-enumerate_from 1 xs) in
    ap (λ x. flat_map f (take i (enumerate_from 1 xs)) ++ f x) (sym (numbered xs i d below)) ∙ texts-more f (enumerate_from 1 xs) i (0, d) inside

-- no element is left
pub numbered-end : {A : Type 0} (f : ℕ × A → List ℕ) (xs : List A) (i : ℕ) → length xs ≤ i → flat_map f (take i (enumerate_from 1 xs)) ≡ flat_map f (enumerate_from 1 xs)
numbered-end f xs i end =
    let past : length (enumerate_from 1 xs) ≤ i = omega (arith, length-enumerate_from 1 xs) in
    ap (flat_map f) (take_all i (enumerate_from 1 xs) past)
