-- What a line does to the properties of the open stanza.
use Rattle.std.proofs.Common.{◌≡◌, ℕ, List, [], ◌∷◌, ◌++◌, map, refl, sym, ap, ◌∙◌}
use Rattle.std.proofs.lemmas.List.{map_push}
use Rattle.cudf_text.specs.declared.text.Property.{Property}
use Rattle.cudf_text.specs.declared.text.PropertyRef.{PropertyRef}
use Rattle.cudf_text.specs.Working.Tracked.{TrackedProperty, tracked_part, tracked_properties, tracked_property}
use Rattle.cudf_text.specs.Working.Steps.{extend_last, value_onto}

abbrev pub extended : TrackedProperty → List ℕ → TrackedProperty
extended p text = record { line = p.line; name = p.name; value = value_onto p.value text }

pub extend_last-push : (ps : List TrackedProperty) (p : TrackedProperty) (text : List ℕ) → extend_last (ps ++ p ∷ []) text ≡ ps ++ extended p text ∷ []
extend_last-push [] p text = refl
extend_last-push (q ∷ []) p text = refl
extend_last-push (q ∷ r ∷ ps) p text = ap (λ qs. q ∷ qs) (extend_last-push (r ∷ ps) p text)

pub extend_last-views : (olds rest news : List Property) (p q : Property) (text : List ℕ) → olds ≡ rest ++ p ∷ [] → news ≡ rest ++ q ∷ []
    → tracked_property q ≡ extended (tracked_property p) text → map tracked_property news ≡ extend_last (map tracked_property olds) text
extend_last-views olds rest news p q text e f same =
    rw (e, f, map_push tracked_property rest p, map_push tracked_property rest q, extend_last-push (map tracked_property rest) (tracked_property p) text)
    (ap (λ (r : TrackedProperty). map tracked_property rest ++ r ∷ []) same)

-- ---- properties in two lists

extend_last-after : (xs ys : List TrackedProperty) (text : List ℕ) → (ys ≡ [] → xs ≡ []) → extend_last (xs ++ ys) text ≡ xs ++ extend_last ys text
extend_last-after [] ys text last = refl
extend_last-after (x ∷ xs) [] text last = absurd (let e : ◌≡◌ {A = List TrackedProperty} (x ∷ xs) [] = last refl in cc)
extend_last-after (x ∷ []) (y ∷ ys) text last = refl
extend_last-after (x ∷ z ∷ xs) (y ∷ ys) text last = ap (λ ps. x ∷ ps) (extend_last-after (z ∷ xs) (y ∷ ys) text (λ e. absurd cc))

pub continued_last : (xs : List PropertyRef) (ys news : List Property) (text : List ℕ) → (ys ≡ [] → xs ≡ []) → map tracked_property news ≡ extend_last (map tracked_property ys) text
    → tracked_properties xs news ≡ extend_last (tracked_properties xs ys) text
continued_last xs ys news text last e =
    ap (λ ps. map tracked_part xs ++ ps) e ∙ sym (extend_last-after (map tracked_part xs) (map tracked_property ys) text (λ none. ap (map tracked_part) (last (none_in ys none))))
  where
    none_in : (qs : List Property) → map tracked_property qs ≡ [] → qs ≡ []
    none_in [] e = refl
    none_in (q ∷ qs) e = absurd cc
