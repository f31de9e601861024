-- The places of one literal more.
use Rattle.std.proofs.Common.{◌≡◌, ℕ, ◌+◌, ◌<◌, ◌≤◌, zero, suc, Bool, true, false, not, cond, List, [], ◌∷◌, ◌++◌, length, get_or, take, drop, map, filter, refl, sym, ap, ap₂, ◌∙◌, arith, add-zero}
use Rattle.std.specs.Prelude.{if◌then◌else◌}
use Rattle.std.specs.List.{flat_map}
use Rattle.std.proofs.lemmas.Bool.{true≢false}
use Rattle.std.proofs.lemmas.List.{append_assoc, drop-map, get_or-drop, get_or-map, get_or_default, length-map, map-append, take-append-drop, take-map}
use Rattle.std.proofs.lemmas.List.Elements.{filter-append, filter_more}
use Rattle.cudf_job.specs.Keys.{PlainKey}
use Rattle.cudf_job.specs.Working.Keys.{unknown_key}
use Rattle.cudf_job.specs.KeyViews.{key_view}
use Rattle.cudf_job.specs.declared.key.Part.{Part}
use Rattle.cudf_lrat.specs.declared.cnf.Literal.{Literal}
use Rattle.cudf_reasons.specs.Laws.{keys_of}
use Rattle.cudf_reasons.specs.Reasons.{Keyed, PlainReason, ascending, core_of, is_of, negative_places, positive_places, reason_of, same_key}
use Rattle.cudf_reasons.specs.Views.{needed_view}
use Rattle.cudf_reasons.specs.Working.Gathered.{is_at, literals_in, other_places}
use Rattle.cudf_reasons.specs.declared.gathering.NeededClause.{NeededClause}
use Rattle.cudf_reasons.proofs.GroupLemmas.{AllOfKey, StartsApart, clauses_of, grouped_run}
use Rattle.cudf_reasons.proofs.KeyOrderLemmas.{same_is, same_itself}
use Rattle.cudf_reasons.proofs.TableLemmas.{reason}

abbrev place_of : Literal → ℕ
place_of l = l.variable

mapped : (b : Bool) (l : Literal) → map place_of (cond b (l ∷ []) []) ≡ (if b then l.variable ∷ [] else [])
mapped true l = refl
mapped false l = refl

pub positive_more : (xs : List Literal) (i : ℕ) (d : Literal) → i < length xs → positive_places (take (i + 1) xs) ≡ positive_places (take i xs) ++ (if (get_or xs i d).positive then (get_or xs i d).variable ∷ [] else [])
positive_more xs i d within =
    ap (map place_of) (filter_more (λ l. l.positive) xs i d within)
    ∙ map-append place_of (filter (λ l. l.positive) (take i xs)) _
    ∙ ap (λ (ps : List ℕ). positive_places (take i xs) ++ ps) (mapped (get_or xs i d).positive (get_or xs i d))

negative_more : (xs : List Literal) (i : ℕ) (d : Literal) → i < length xs → negative_places (take (i + 1) xs) ≡ negative_places (take i xs) ++ (if not (get_or xs i d).positive then (get_or xs i d).variable ∷ [] else [])
negative_more xs i d within =
    ap (map place_of) (filter_more (λ l. not l.positive) xs i d within)
    ∙ map-append place_of (filter (λ l. not l.positive) (take i xs)) _
    ∙ ap (λ (ps : List ℕ). negative_places (take i xs) ++ ps) (mapped (not (get_or xs i d).positive) (get_or xs i d))

kept : (p : ℕ → Bool) (b : Bool) (n : ℕ) → filter p (if not b then n ∷ [] else []) ≡ (if b then [] else if p n then n ∷ [] else [])
kept p true n = refl
kept p false n = refl

pub other_more : (part : Part) (xs : List Literal) (i : ℕ) (d : Literal) → i < length xs
    → other_places part (take (i + 1) xs) ≡ other_places part (take i xs) ++ (if (get_or xs i d).positive then [] else if not (is_of (get_or xs i d).variable part) then (get_or xs i d).variable ∷ [] else [])
other_more part xs i d within =
    ap (filter (λ place. not (is_of place part))) (negative_more xs i d within)
    ∙ filter-append (λ place. not (is_of place part)) (negative_places (take i xs)) _
    ∙ ap (λ (ps : List ℕ). other_places part (take i xs) ++ ps) (kept (λ place. not (is_of place part)) (get_or xs i d).positive (get_or xs i d).variable)

-- ---- CNF clauses of one key

-- the key of one that is read
pub key_read : (needed : List NeededClause) (i : ℕ) (d : NeededClause) → i < length needed → get_or (keys_of (map needed_view needed)) i (unknown_key 0) ≡ key_view (get_or needed i d).key
key_read needed i d within =
    get_or-map (λ (n : Keyed). n.0) (map needed_view needed) i (needed_view d) (unknown_key 0) (omega (arith, length-map needed needed_view))
    ∙ ap (λ (n : Keyed). n.0) (get_or-map needed_view needed i d (needed_view d) within)

all_taken : (key : PlainKey) (ks : List Keyed) (count : ℕ) → ((k : ℕ) → k < count → same_key key (get_or (keys_of ks) k (unknown_key 0)) ≡ true) → count ≤ length ks → AllOfKey key (take count ks)
all_taken key ks zero same within = tt
all_taken key [] (suc count) same within = tt
all_taken key (n ∷ ks) (suc count) same within = (sym (same_is key n.0 (same 0 (omega arith))), all_taken key ks count (λ k h. same (suc k) (omega arith)) (omega arith))

apart_dropped : (key : PlainKey) (ks : List Keyed) (count : ℕ) → (count < length ks → same_key key (get_or (keys_of ks) count (unknown_key 0)) ≡ false) → StartsApart key (drop count ks)
apart_dropped key [] zero other = tt
apart_dropped key [] (suc count) other = tt
apart_dropped key (n ∷ ks) zero other = other (omega arith)
apart_dropped key (n ∷ ks) (suc count) other = apart_dropped key ks count (λ h. other (omega arith))

-- the first instance, and those after it
pub core_run : (key : PlainKey) (ks : List Keyed) (count : ℕ) → 0 < count → count ≤ length ks → ((k : ℕ) → k < count → same_key key (get_or (keys_of ks) k (unknown_key 0)) ≡ true)
    → (count < length ks → same_key key (get_or (keys_of ks) count (unknown_key 0)) ≡ false) → core_of ks ≡ reason_of (record { key = key; clauses = clauses_of (take count ks) }) ∷ core_of (drop count ks)
core_run key ks zero some within same other = absurd (omega arith)
core_run key [] (suc count) some within same other = absurd (omega arith)
core_run key (n ∷ ks) (suc count) some within same other =
    ap core_of (sym (take-append-drop (suc count) (n ∷ ks)))
    ∙ ap (map reason_of) (grouped_run key n (take count ks) (drop count ks) (all_taken key (n ∷ ks) (suc count) same within) (apart_dropped key (n ∷ ks) (suc count) other))

literals_same : (needed : List NeededClause) → clauses_of (map needed_view needed) ≡ literals_in needed
literals_same [] = refl
literals_same (n ∷ needed) = ap (λ (cs : List (List Literal)). n.literals.now ∷ cs) (literals_same needed)

others_same : (part : Part) (clauses : List (List Literal)) → filter (λ place. not (is_of place part)) (flat_map negative_places clauses) ≡ flat_map (other_places part) clauses
others_same part [] = refl
others_same part (clause ∷ clauses) =
    filter-append (λ place. not (is_of place part)) (negative_places clause) (flat_map negative_places clauses)
    ∙ ap (λ (ps : List ℕ). other_places part clause ++ ps) (others_same part clauses)

-- the key of the first is its own, so there is one
pub some_of_key : (rest : List NeededClause) (count : ℕ) (x : NeededClause) → 0 < length rest → x ≡ get_or rest 0 x → (count < length rest → is_at rest count (key_view x.key) ≡ false) → 0 < count
some_of_key rest zero x some is other =
    absurd (true≢false (sym (same_itself (key_view x.key)) ∙ sym (ap (same_key (key_view x.key)) (key_read rest 0 x some ∙ ap (λ (n : NeededClause). key_view n.key) (sym is))) ∙ other some))
some_of_key rest (suc count) x some is other = omega arith

-- what was gathered of the first ones
gathered_is : (key : PlainKey) (clauses : List (List Literal)) (named met : List ℕ) → named ≡ flat_map positive_places clauses → met ≡ ascending (flat_map (other_places key.part) clauses)
    → reason key named met ≡ reason_of (record { key = key; clauses = clauses })
gathered_is key clauses named met first second =
    ap (λ (ps : List ℕ). reason key ps met) first ∙ ap (reason key (flat_map positive_places clauses)) (second ∙ ap ascending (sym (others_same key.part clauses)))

pub core_step : (table : List PlainReason) (rest : List NeededClause) (count : ℕ) (x : NeededClause) (named met : List ℕ) → 0 < length rest → x ≡ get_or rest 0 x → count ≤ length rest
    → ((k : ℕ) → k < count → is_at rest k (key_view x.key) ≡ true) → (count < length rest → is_at rest count (key_view x.key) ≡ false)
    → named ≡ flat_map positive_places (literals_in (take count rest)) → met ≡ ascending (flat_map (other_places x.key.part) (literals_in (take count rest)))
    → (table ++ reason (key_view x.key) named met ∷ []) ++ core_of (map needed_view (drop count rest)) ≡ table ++ core_of (map needed_view rest)
core_step table rest count x named met some is within same other first second =
    let ks : List Keyed = map needed_view rest in
    let long : length ks ≡ length rest = length-map rest needed_view in
    let run = core_run (key_view x.key) ks count (some_of_key rest count x some is other) (omega arith) same (λ h. other (omega arith)) in
    let clauses : clauses_of (take count ks) ≡ literals_in (take count rest) = ap clauses_of (take-map needed_view count rest) ∙ literals_same (take count rest) in
    let one : reason (key_view x.key) named met ≡ reason_of (record { key = key_view x.key; clauses = clauses_of (take count ks) }) =
    gathered_is (key_view x.key) (literals_in (take count rest)) named met first second ∙ ap (λ (cs : List (List Literal)). reason_of (record { key = key_view x.key; clauses = cs })) (sym clauses) in
    append_assoc table (reason (key_view x.key) named met ∷ []) (core_of (map needed_view (drop count rest)))
    ∙ ap (λ (rs : List PlainReason). table ++ rs)
    (ap₂ (λ (r : PlainReason) (rs : List PlainReason). r ∷ rs) one (ap core_of (sym (drop-map needed_view count rest))) ∙ sym run)

-- the first of what is left
pub first_read : (needed : List NeededClause) (start : ℕ) (d : NeededClause) → start < length needed → get_or needed start d ≡ get_or (drop start needed) 0 (get_or needed start d)
first_read needed start d within =
    get_or_default needed start d (get_or needed start d) within ∙ ap (λ n. get_or needed n (get_or needed start d)) (sym (add-zero start)) ∙ sym (get_or-drop start needed 0 (get_or needed start d))
