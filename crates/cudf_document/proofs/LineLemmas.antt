-- Where a solution has the packages of a problem, one stanza after the other.
use Rattle.std.proofs.Common.{◌≡◌, ◌≢◌, ℕ, ◌<◌, Bool, true, false, ◌||◌, List, [], ◌∷◌, ◌++◌, map, length, get_or, set, replicate, position, is_some, Option, None, Some, inl, inr, refl, sym, ap, subst, ◌∙◌, if◌then◌else◌, option_map, option_and_then, ◌&&◌, eq-eqb}
use Rattle.std.proofs.lemmas.Bool.{true≢false, cases_eq}
use Rattle.std.proofs.lemmas.List.{append_assoc, length-set, length-map, get_or-set_same, get_or-set_other, get_or-map, same_lists}
use Rattle.std.proofs.lemmas.List.Folds.{find-append}
use Rattle.std.specs.List.{list_any}
use Rattle.std.specs.Option.{option_or}
use Rattle.cudf_text.specs.Stanzas.{PlainStanza, PlainText}
use Rattle.cudf_problem.specs.Ids.{Id, is_id, is_known, id_of}
use Rattle.cudf_problem.specs.Promises.Packages.{are_distinct}
use Rattle.cudf_problem.specs.Universe.{PlainPackage, package_id}
use Rattle.cudf_document.specs.Details.{stanza_of, stanza_line}
use Rattle.cudf_problem.proofs.ListLemmas.{option_or-none}
use Rattle.cudf_document.proofs.BuilderLemmas.{same_pair}
use Rattle.cudf_document.proofs.NameLemmas.{bytes_same}
use Rattle.cudf_document.proofs.PlacedLemmas.{is_id-sym, is_some-position, within, there, apart}

-- the line of the first stanza of a pair
abbrev pub line_with : List PlainStanza → Id → Option ℕ
line_with ss id = option_map (λ s. s.line) (stanza_of ss id)

-- the line of a stanza, where it is of the pair
abbrev line_if : PlainStanza → Option Id → Id → Option ℕ
line_if s its id = if is_known (id ∷ []) its then Some s.line else None

line_with-push : (ss : List PlainStanza) (s : PlainStanza) (id : Id) → line_with (ss ++ s ∷ []) id ≡ option_or (line_with ss id) (line_if s (id_of s) id)
line_with-push ss s id =
    ap (option_map (λ t. t.line)) (find-append (λ t. is_known (id ∷ []) (id_of t)) ss (s ∷ [])) ∙ by (stanza_of ss id) (is_known (id ∷ []) (id_of s))
  where
    by : (o : Option PlainStanza) (b : Bool) → option_map (λ t. t.line) (option_or o (if b then Some s else None)) ≡ option_or (option_map (λ t. t.line) o) (if b then Some s.line else None)
    by None true = refl
    by None false = refl
    by (Some t) b = refl

-- what is mapped, with another value at the place of one pair
module _ (ids : List Id) (id : Id) (f g : Id → Option ℕ) (other : (x : Id) → is_id id x ≡ false → g x ≡ f x) where
  unmapped : (xs : List Id) → list_any (is_id id) xs ≡ false → map f xs ≡ map g xs
  unmapped [] none = refl
  unmapped (x ∷ xs) none = by (is_id id x) refl none (unmapped xs)
    where
      by : (b : Bool) → is_id id x ≡ b → (b || list_any (is_id id) xs) ≡ false → (list_any (is_id id) xs ≡ false → map f xs ≡ map g xs) → f x ∷ map f xs ≡ g x ∷ map g xs
      by true is h rest = absurd (true≢false h)
      by false is h rest = λ i. sym (other x is) i ∷ rest h i

  module _ (distinct : are_distinct ids ≡ true) (i : ℕ) (found : position (is_id id) ids ≡ Some i) (e v : Option ℕ) (here : (x : Id) → x ≡ id → get_or (map f ids) i e ≡ f x → v ≡ g x) where
    at_each : (k : ℕ) (d : Option ℕ) → k < length ids → get_or (set (map f ids) i v) k d ≡ g (get_or ids k id)
    at_each k d lt = elim (cases_eq k i) [ inl same ↦ at_place k same | inr ne ↦ elsewhere ne ]
      where
        inside : i < length ids
        inside = within [] ids id distinct i found

        at_place : (j : ℕ) → j ≡ i → get_or (set (map f ids) i v) j d ≡ g (get_or ids j id)
        at_place j same =
            ap (λ n. get_or (set (map f ids) i v) n d) same
            ∙ get_or-set_same (map f ids) i v d (subst (λ n. i < n) (sym (length-map ids f)) inside)
            ∙ here (get_or ids i id) (sym (same_pair id (get_or ids i id) (there [] ids id distinct i found))) (get_or-map f ids i id e inside)
            ∙ ap (λ n. g (get_or ids n id)) (sym same)

        elsewhere : k ≢ i → get_or (set (map f ids) i v) k d ≡ g (get_or ids k id)
        elsewhere ne =
            get_or-set_other (map f ids) i k v d ne ∙ get_or-map f ids k id d lt
            ∙ sym (other (get_or ids k id) (is_id-turned ne))
          where
            is_id-turned : k ≢ i → is_id id (get_or ids k id) ≡ false
            is_id-turned apart_from = is_id-sym id (get_or ids k id) ∙ apart [] ids id distinct i found k lt apart_from

    mapped : set (map f ids) i v ≡ map g ids
    mapped =
        let len : length (set (map f ids) i v) ≡ length ids = length-set (map f ids) i v ∙ length-map ids f in
        same_lists (set (map f ids) i v) (map g ids) (len ∙ sym (length-map ids g))
        (λ k d lt. let inside : k < length ids = subst (λ n. k < n) len lt in at_each k d inside ∙ sym (get_or-map g ids k id d inside))

abbrev pub set_line : Option ℕ → Option ℕ → ℕ → List (Option ℕ) → List (Option ℕ)
set_line e None n lines = lines
set_line e (Some i) n lines = set lines i (option_or (get_or lines i e) (Some n))

through_ids : (ss : List PlainStanza) (packages : List PlainPackage) → map (stanza_line ss) packages ≡ map (line_with ss) (map package_id packages)
through_ids ss [] = refl
through_ids ss (p ∷ packages) = ap (λ l. line_with ss (package_id p) ∷ l) (through_ids ss packages)

itself : (id : Id) → is_id id id ≡ true
itself id = λ i. bytes_same id.0 i && eq-eqb id.1 id.1 refl i

-- the lines, with that of one more stanza
ids_next : (e : Option ℕ) (ids : List Id) (ss : List PlainStanza) (s : PlainStanza) (its : Option Id) → are_distinct ids ≡ true → id_of s ≡ its
    → set_line e (option_and_then (λ id. position (is_id id) ids) its) s.line (map (line_with ss) ids) ≡ map (line_with (ss ++ s ∷ [])) ids
ids_next e ids ss s None distinct is =
    λ i. map (λ id. sym (line_with-push ss s id ∙ ap (λ its. option_or (line_with ss id) (line_if s its id)) is ∙ option_or-none (line_with ss id)) i) ids
ids_next e ids ss s (Some id) distinct is = by (position (is_id id) ids) refl
  where
    pushed : (x : Id) → line_with (ss ++ s ∷ []) x ≡ option_or (line_with ss x) (if is_id id x || false then Some s.line else None)
    pushed x = line_with-push ss s x ∙ ap (λ its. option_or (line_with ss x) (line_if s its x)) is

    other : (x : Id) → is_id id x ≡ false → line_with (ss ++ s ∷ []) x ≡ line_with ss x
    other x differs = pushed x ∙ ap (λ b. option_or (line_with ss x) (if b || false then Some s.line else None)) differs ∙ option_or-none (line_with ss x)

    here : (i : ℕ) (x : Id) → x ≡ id → get_or (map (line_with ss) ids) i e ≡ line_with ss x
        → option_or (get_or (map (line_with ss) ids) i e) (Some s.line) ≡ line_with (ss ++ s ∷ []) x
    here i x same line_is =
        ap (λ o. option_or o (Some s.line)) line_is
        ∙ ap (λ b. option_or (line_with ss x) (if b || false then Some s.line else None)) (sym (ap (is_id id) same ∙ itself id))
        ∙ sym (pushed x)

    by : (o : Option ℕ) → position (is_id id) ids ≡ o → set_line e o s.line (map (line_with ss) ids) ≡ map (line_with (ss ++ s ∷ [])) ids
    by None none = unmapped ids id (line_with ss) (line_with (ss ++ s ∷ [])) other ids (sym (is_some-position (is_id id) ids) ∙ ap is_some none)
    by (Some i) found = mapped ids id (line_with ss) (line_with (ss ++ s ∷ [])) other distinct i found e (option_or (get_or (map (line_with ss) ids) i e) (Some s.line)) (here i)

pub lines_next : (e : Option ℕ) (packages : List PlainPackage) (ss : List PlainStanza) (s : PlainStanza) (lines : List (Option ℕ)) (o : Option ℕ)
    → are_distinct (map package_id packages) ≡ true → o ≡ option_and_then (λ id. position (is_id id) (map package_id packages)) (id_of s)
    → lines ≡ map (stanza_line ss) packages → set_line e o s.line lines ≡ map (stanza_line (ss ++ s ∷ [])) packages
lines_next e packages ss s lines o distinct found are =
    (λ i. set_line e (found i) s.line ((are ∙ through_ids ss packages) i))
    ∙ ids_next e (map package_id packages) ss s (id_of s) distinct refl
    ∙ sym (through_ids (ss ++ s ∷ []) packages)

pub no_lines : (packages : List PlainPackage) → replicate (length packages) None ≡ map (stanza_line []) packages
no_lines [] = refl
no_lines (p ∷ packages) = ap (λ l. None ∷ l) (no_lines packages)

-- ---- read from a cursor

-- these stanzas were read, and the rest of the text is left
pub record LinesSoFar (packages : List PlainPackage) (lines : List (Option ℕ)) (left text : PlainText) : Type 0 where
  pub seen : List PlainStanza
  pub lines_are : lines ≡ map (stanza_line seen) packages
  pub whole : seen ++ left.stanzas ≡ text.stanzas

pub LinesSoFar-next : (packages : List PlainPackage) (old new : List (Option ℕ)) (left later text : PlainText) (s : PlainStanza)
    → LinesSoFar packages old left text → ◌≡◌ {A = PlainText} left (record later { stanzas = s ∷ later.stanzas })
    → ((seen : List PlainStanza) → old ≡ map (stanza_line seen) packages → new ≡ map (stanza_line (seen ++ s ∷ [])) packages)
    → LinesSoFar packages new later text
LinesSoFar-next packages old new left later text s so_far read keeps = record {
  seen = so_far.seen ++ s ∷ [];
  lines_are = keeps so_far.seen so_far.lines_are;
  whole = append_assoc so_far.seen (s ∷ []) later.stanzas ∙ (λ i. so_far.seen ++ (sym read i).stanzas) ∙ so_far.whole;
}
