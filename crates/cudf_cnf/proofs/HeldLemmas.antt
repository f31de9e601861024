-- Clauses that are held as keys, and clauses without them.
use Rattle.std.proofs.Common.{◌≡◌, ℕ, ◌<◌, false, List, [], ◌∷◌, ◌++◌, length, get_or, map, sym, ap, ◌∙◌}
use Rattle.std.specs.Prelude.{Some, Result, Ok, Err, OnOk, is_err, option_map, slice_get, zip}
use Rattle.std.proofs.lemmas.List.{length-map, map-append}
use Rattle.cudf_job.specs.KeyViews.{key_view}
use Rattle.cudf_job.specs.declared.key.Key.{Key}
use Rattle.cudf_lrat.specs.declared.cnf.Literal.{Literal}
use Rattle.cudf_cnf.specs.Cnf.{clauses_of}
use Rattle.cudf_cnf.specs.Encodings.{PlainKeyedClauses}
use Rattle.cudf_cnf.proofs.ZipLemmas.{first_at, length-zip, map-zip, second_at, zip-push}

abbrev pub held : ℕ → List Key → List (List Literal) → PlainKeyedClauses
held places keys clauses = record { places = places; clauses = zip (map key_view keys) clauses }

pub when_ok : {E P : Type 0} (r : Result (Unit {0}) E) → is_err r ≡ false → OnOk r P → P
when_ok (Ok u) h p = p
when_ok (Err e) h p = cc

as_long : (keys : List Key) (clauses : List (List Literal)) → length keys ≡ length clauses → length (map key_view keys) ≡ length clauses
as_long keys clauses h = length-map keys key_view ∙ h

pub held_length : (places : ℕ) (keys : List Key) (clauses : List (List Literal)) (h : PlainKeyedClauses) → held places keys clauses ≡ h → length keys ≡ length clauses → length h.clauses ≡ length clauses
held_length places keys clauses h is long = ap (λ (x : PlainKeyedClauses). length x.clauses) (sym is) ∙ length-zip (map key_view keys) clauses (as_long keys clauses long)

pub held_clauses : (places : ℕ) (keys : List Key) (clauses : List (List Literal)) (h : PlainKeyedClauses) → held places keys clauses ≡ h → length keys ≡ length clauses → clauses ≡ clauses_of h.clauses
held_clauses places keys clauses h is long = sym (map-zip (map key_view keys) clauses (as_long keys clauses long)) ∙ ap (λ (x : PlainKeyedClauses). clauses_of x.clauses) is

pub held_key : (places : ℕ) (keys : List Key) (clauses : List (List Literal)) (h : PlainKeyedClauses) (i : ℕ) (k : Key) → held places keys clauses ≡ h → length keys ≡ length clauses → i < length clauses
    → k ≡ get_or keys i k → option_map (λ c. c.0) (slice_get h.clauses i) ≡ Some (key_view k)
held_key places keys clauses h i k is long inside read =
    ap (λ (x : PlainKeyedClauses). option_map (λ c. c.0) (slice_get x.clauses i)) (sym is) ∙ first_at key_view keys clauses i k long inside ∙ ap (λ (x : Key). Some (key_view x)) (sym read)

pub held_clause : (places : ℕ) (keys : List Key) (clauses : List (List Literal)) (h : PlainKeyedClauses) (i : ℕ) (c : List Literal) → held places keys clauses ≡ h → length keys ≡ length clauses → i < length clauses
    → c ≡ get_or clauses i [] → option_map (λ c. c.1) (slice_get h.clauses i) ≡ Some c
held_clause places keys clauses h i c is long inside read =
    ap (λ (x : PlainKeyedClauses). option_map (λ c. c.1) (slice_get x.clauses i)) (sym is) ∙ second_at (map key_view keys) clauses i [] (as_long keys clauses long) inside ∙ ap (λ (x : List Literal). Some x) (sym read)

pub held_push : (places more_places : ℕ) (keys more_keys : List Key) (clauses more_clauses : List (List Literal)) (h : PlainKeyedClauses) (key : Key) (c : List Literal) → held places keys clauses ≡ h → length keys ≡ length clauses
    → more_places ≡ places → more_keys ≡ keys ++ key ∷ [] → more_clauses ≡ clauses ++ c ∷ []
    → held more_places more_keys more_clauses ≡ record { places = h.places; clauses = h.clauses ++ (key_view key, c) ∷ [] }
held_push places more_places keys more_keys clauses more_clauses h key c is long places_is keys_is clauses_is =
    (λ i. held (places_is i) (keys_is i) (clauses_is i))
    ∙ (λ i. record { places = places; clauses = zip (map-append key_view keys (key ∷ []) i) (clauses ++ c ∷ []) })
    ∙ (λ i. record { places = places; clauses = zip-push (map key_view keys) clauses (key_view key) c (as_long keys clauses long) i })
    ∙ ap (λ (x : PlainKeyedClauses). let y : PlainKeyedClauses = record { places = x.places; clauses = x.clauses ++ (key_view key, c) ∷ [] } in y) is
