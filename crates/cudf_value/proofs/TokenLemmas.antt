-- A text of tokens is cut at their commas.
use Rattle.std.proofs.Common.{◌≡◌, ℕ, ◌<◌, Bool, true, false, ◌||◌, ◌==◌, List, [], ◌∷◌, ◌++◌, length, map, Some, None, refl, sym, ap, subst, ◌∙◌, arith, if◌then◌else◌}
use Rattle.std.specs.Prelude.{IfSome}
use Rattle.std.specs.List.{fold, slice_split, onto_first, list_all, flat_map, join_with_byte}
use Rattle.std.specs.Str.{byte}
use Rattle.std.proofs.lemmas.Bool.{and_parts, or_parts, not-true, eqb-true}
use Rattle.std.proofs.lemmas.List.{append_assoc}
use Rattle.std.proofs.lemmas.List.Splits.{length-slice_split}
use Rattle.cudf_value.specs.Promises.Laws.{IsCutAtCommas, PiecesJoinToText}
use Rattle.cudf_value.proofs.SpotLemmas.{characters}
use Rattle.cudf_value.specs.Spots.{quote_mark, backslash, Spot, unquoted, in_quotes, after_backslash, next_spot, with_spots, is_outside, separates}
use Rattle.cudf_value.specs.Promises.Tokens.{Inner, plain, escaped, Item, char_item, quoted_item, Token, char, quoted, bracketed, is_inner, is_plain_char, is_item, is_token, inner_text, quoted_text, item_text, token_text, text_of, is_comma}

-- ---- the pieces of a text that begins in a spot

abbrev pub cut_from : Spot → List ℕ → List (List ℕ)
cut_from spot text = map characters (slice_split separates (with_spots spot text))

characters-onto : (x : Spot × ℕ) (parts : List (List (Spot × ℕ))) → map characters (onto_first x parts) ≡ onto_first x.1 (map characters parts)
characters-onto x [] = refl
characters-onto x (p ∷ ps) = refl

-- the characters before the first piece
abbrev onto : List ℕ → List (List ℕ) → List (List ℕ)
onto [] parts = parts
onto (b ∷ text) parts = onto_first b (onto text parts)

onto-append : (xs ys : List ℕ) (parts : List (List ℕ)) → onto (xs ++ ys) parts ≡ onto xs (onto ys parts)
onto-append [] ys parts = refl
onto-append (x ∷ xs) ys parts = ap (onto_first x) (onto-append xs ys parts)

onto-cons : (xs p : List ℕ) (ps : List (List ℕ)) → onto xs (p ∷ ps) ≡ (xs ++ p) ∷ ps
onto-cons [] p ps = refl
onto-cons (x ∷ xs) p ps = ap (onto_first x) (onto-cons xs p ps)

-- the text leads from a spot to another, and no piece ends in it
record Passes (from : Spot) (text : List ℕ) (to : Spot) : Type 0 where
  leads : (rest : List ℕ) → fold next_spot from (text ++ rest) ≡ fold next_spot to rest
  whole : (rest : List ℕ) → cut_from from (text ++ rest) ≡ onto text (cut_from to rest)

none : (spot : Spot) → Passes spot [] spot
none spot = record { leads = λ rest. refl; whole = λ rest. refl }

one : (from : Spot) (b : ℕ) (to : Spot) → separates (from, b) ≡ false → next_spot from b ≡ to → Passes from (b ∷ []) to
one from b to inner next = record {
  leads = λ rest. ap (λ s. fold next_spot s rest) next;
  whole = λ rest.
      ap (λ t. map characters (if t then [] ∷ slice_split separates (with_spots (next_spot from b) rest)
      else onto_first (from, b) (slice_split separates (with_spots (next_spot from b) rest)))) inner
      ∙ characters-onto (from, b) (slice_split separates (with_spots (next_spot from b) rest))
      ∙ ap (λ s. onto_first b (cut_from s rest)) next;
}

chain : (s t u : Spot) (xs ys : List ℕ) → Passes s xs t → Passes t ys u → Passes s (xs ++ ys) u
chain s t u xs ys first second = record {
  leads = λ rest. ap (fold next_spot s) (append_assoc xs ys rest) ∙ first.leads (ys ++ rest) ∙ second.leads rest;
  whole = λ rest. ap (cut_from s) (append_assoc xs ys rest) ∙ first.whole (ys ++ rest) ∙ ap (onto xs) (second.whole rest) ∙ sym (onto-append xs ys (cut_from u rest));
}

-- ---- inside quotes, which are outside or inside brackets

-- the spots of a text in quotes
record AreQuotes (start quotes slash : Spot) : Type 0 where
  opens : Passes start (quote_mark ∷ []) quotes
  closes : Passes quotes (quote_mark ∷ []) start
  more : (b : ℕ) → (b == backslash) ≡ false → (b == quote_mark) ≡ false → Passes quotes (b ∷ []) quotes
  escapes : Passes quotes (backslash ∷ []) slash
  escaped_one : (b : ℕ) → (b == quote_mark || b == backslash) ≡ true → Passes slash (b ∷ []) quotes

outer : AreQuotes (unquoted false) (in_quotes false) (after_backslash false)
outer = record {
  opens = one (unquoted false) quote_mark (in_quotes false) refl refl;
  closes = one (in_quotes false) quote_mark (unquoted false) refl refl;
  more = λ b no_backslash no_quote. one (in_quotes false) b (in_quotes false) refl (rw (no_backslash, no_quote) refl);
  escapes = one (in_quotes false) backslash (after_backslash false) refl refl;
  escaped_one = λ b is. one (after_backslash false) b (in_quotes false) refl (rw is refl);
}

within : AreQuotes (unquoted true) (in_quotes true) (after_backslash true)
within = record {
  opens = one (unquoted true) quote_mark (in_quotes true) refl refl;
  closes = one (in_quotes true) quote_mark (unquoted true) refl refl;
  more = λ b no_backslash no_quote. one (in_quotes true) b (in_quotes true) refl (rw (no_backslash, no_quote) refl);
  escapes = one (in_quotes true) backslash (after_backslash true) refl refl;
  escaped_one = λ b is. one (after_backslash true) b (in_quotes true) refl (rw is refl);
}

passes_inner : (start quotes slash : Spot) → AreQuotes start quotes slash → (inner : List Inner) → list_all is_inner inner ≡ true → Passes quotes (flat_map inner_text inner) quotes
passes_inner start quotes slash are [] all = none quotes
passes_inner start quotes slash are (plain b ∷ inner) all =
    let each = and_parts (is_inner (plain b)) (list_all is_inner inner) all in
    let no = or_parts (b == quote_mark) (b == backslash) (not-true _ each.0) in
    chain quotes quotes quotes (b ∷ []) (flat_map inner_text inner) (are.more b no.1 no.0) (passes_inner start quotes slash are inner each.1)
passes_inner start quotes slash are (escaped b ∷ inner) all =
    let each = and_parts (is_inner (escaped b)) (list_all is_inner inner) all in
    chain quotes quotes quotes (backslash ∷ b ∷ []) (flat_map inner_text inner)
    (chain quotes slash quotes (backslash ∷ []) (b ∷ []) are.escapes (are.escaped_one b each.0)) (passes_inner start quotes slash are inner each.1)

passes_quoted : (start quotes slash : Spot) → AreQuotes start quotes slash → (inner : List Inner) → list_all is_inner inner ≡ true → Passes start (quoted_text inner) start
passes_quoted start quotes slash are inner all =
    chain start quotes start (quote_mark ∷ []) (flat_map inner_text inner ++ quote_mark ∷ []) are.opens
    (chain quotes quotes start (flat_map inner_text inner) (quote_mark ∷ []) (passes_inner start quotes slash are inner all) are.closes)

-- ---- inside brackets

record IsPlain (b : ℕ) : Type 0 where
  no_quote : (b == quote_mark) ≡ false
  no_opening : (b == byte "[") ≡ false
  no_closing : (b == byte "]") ≡ false

is_plain : (b : ℕ) → is_plain_char b ≡ true → IsPlain b
is_plain b is =
    let all = or_parts (b == quote_mark || b == byte "[") (b == byte "]") (not-true _ is) in
    let front = or_parts (b == quote_mark) (b == byte "[") all.0 in
    record { no_quote = front.0; no_opening = front.1; no_closing = all.1 }

passes_item : (item : Item) → is_item item ≡ true → Passes (unquoted true) (item_text item) (unquoted true)
passes_item (char_item b) is =
    let p = is_plain b is in
    one (unquoted true) b (unquoted true) refl (rw (p.no_quote, p.no_closing, p.no_opening) refl)
passes_item (quoted_item inner) is = passes_quoted (unquoted true) (in_quotes true) (after_backslash true) within inner is

passes_items : (items : List Item) → list_all is_item items ≡ true → Passes (unquoted true) (flat_map item_text items) (unquoted true)
passes_items [] all = none (unquoted true)
passes_items (item ∷ items) all =
    let each = and_parts (is_item item) (list_all is_item items) all in
    chain (unquoted true) (unquoted true) (unquoted true) (item_text item) (flat_map item_text items) (passes_item item each.0) (passes_items items each.1)

-- ---- a token that is no comma

passes_token : (token : Token) → is_token token ≡ true → is_comma token ≡ false → Passes (unquoted false) (token_text token) (unquoted false)
passes_token (char b) is other =
    let p = is_plain b is in
    one (unquoted false) b (unquoted false) other (rw (p.no_quote, p.no_opening, p.no_closing) refl)
passes_token (quoted inner) is other = passes_quoted (unquoted false) (in_quotes false) (after_backslash false) outer inner is
passes_token (bracketed items) is other =
    chain (unquoted false) (unquoted true) (unquoted false) (byte "[" ∷ []) (flat_map item_text items ++ byte "]" ∷ []) (one (unquoted false) (byte "[") (unquoted true) refl refl)
    (chain (unquoted true) (unquoted true) (unquoted false) (flat_map item_text items) (byte "]" ∷ []) (passes_items items is) (one (unquoted true) (byte "]") (unquoted false) refl refl))

-- ---- all tokens

pub record IsCut (tokens : List Token) : Type 0 where
  pub ends : fold next_spot (unquoted false) (text_of tokens) ≡ (unquoted false)
  pub parts : cut_from (unquoted false) (text_of tokens) ≡ map text_of (slice_split is_comma tokens)

token-onto : (token : Token) (parts : List (List Token)) → 0 < length parts → onto (token_text token) (map text_of parts) ≡ map text_of (onto_first token parts)
token-onto token [] some = absurd (omega arith)
token-onto token (p ∷ ps) some = onto-cons (token_text token) (text_of p) (map text_of ps)

comma_is : (token : Token) → is_comma token ≡ true → token ≡ char (byte ",")
comma_is (char b) is = ap (λ x. char x) (eqb-true b 44 is)
comma_is (quoted inner) is = absurd cc
comma_is (bracketed items) is = absurd cc

pub is_cut : (tokens : List Token) → list_all is_token tokens ≡ true → IsCut tokens
is_cut [] all = record { ends = refl; parts = refl }
is_cut (token ∷ tokens) all = by (is_comma token) refl (is_cut tokens each.1)
  where
    each : (is_token token ≡ true) × (list_all is_token tokens ≡ true)
    each = and_parts (is_token token) (list_all is_token tokens) all

    by : (b : Bool) → is_comma token ≡ b → IsCut tokens → IsCut (token ∷ tokens)
    by true is rest = subst (λ t. IsCut (t ∷ tokens)) (sym (comma_is token is)) (record { ends = rest.ends; parts = ap (λ ps. [] ∷ ps) rest.parts })
    by false is rest =
        let p = passes_token token each.0 is in
        record {
          ends = p.leads (text_of tokens) ∙ rest.ends;
          parts = p.whole (text_of tokens) ∙ ap (onto (token_text token)) rest.parts
              ∙ token-onto token (slice_split is_comma tokens) (omega (arith, length-slice_split is_comma tokens))
              ∙ ap (λ b. map text_of (if b then [] ∷ slice_split is_comma tokens else onto_first token (slice_split is_comma tokens))) (sym is);
        }

pub cut_at_commas : IsCutAtCommas
cut_at_commas tokens all =
    let is = is_cut tokens all in
    let ends = is.ends in
    let parts = is.parts in
    rw (ends, parts) refl

-- ---- the pieces joined again

-- what is joined of at least one piece
abbrev JoinsTo : List (List ℕ) → List ℕ → Type 0
JoinsTo [] text = ⊥
JoinsTo (p ∷ ps) text = join_with_byte 44 (p ∷ ps) ≡ text

onto-joins : (b : ℕ) (parts : List (List ℕ)) (text : List ℕ) → JoinsTo parts text → JoinsTo (onto_first b parts) (b ∷ text)
onto-joins b [] text is = absurd is
onto-joins b (p ∷ []) text is = ap (λ t. b ∷ t) is
onto-joins b (p ∷ q ∷ ps) text is = ap (λ t. b ∷ t) is

comma-joins : (parts : List (List ℕ)) (text : List ℕ) → JoinsTo parts text → JoinsTo ([] ∷ parts) (44 ∷ text)
comma-joins [] text is = absurd is
comma-joins (p ∷ ps) text is = ap (λ t. 44 ∷ t) is

joins_from : (spot : Spot) (text : List ℕ) → JoinsTo (cut_from spot text) text
joins_from spot [] = refl
joins_from spot (b ∷ text) = by (separates (spot, b)) refl (joins_from (next_spot spot b) text)
  where
    by : (t : Bool) → separates (spot, b) ≡ t → JoinsTo (cut_from (next_spot spot b) text) text → JoinsTo (cut_from spot (b ∷ text)) (b ∷ text)
    by true ends is =
        let comma : b ≡ 44 = eqb-true b 44 (and_parts (is_outside spot) (b == 44) ends).1 in
        subst (λ t. JoinsTo (map characters (if t then [] ∷ slice_split separates (with_spots (next_spot spot b) text)
        else onto_first (spot, b) (slice_split separates (with_spots (next_spot spot b) text)))) (b ∷ text)) (sym ends)
        (subst (λ x. JoinsTo ([] ∷ cut_from (next_spot spot b) text) (x ∷ text)) (sym comma) (comma-joins (cut_from (next_spot spot b) text) text is))
    by false inner is =
        subst (λ t. JoinsTo (map characters (if t then [] ∷ slice_split separates (with_spots (next_spot spot b) text)
        else onto_first (spot, b) (slice_split separates (with_spots (next_spot spot b) text)))) (b ∷ text)) (sym inner)
        (subst (λ parts. JoinsTo parts (b ∷ text)) (sym (characters-onto (spot, b) (slice_split separates (with_spots (next_spot spot b) text))))
        (onto-joins b (cut_from (next_spot spot b) text) text is))

all_join : (parts : List (List ℕ)) (text : List ℕ) → JoinsTo parts text → join_with_byte 44 parts ≡ text
all_join [] text is = absurd is
all_join (p ∷ ps) text is = is

pub pieces_join : (text : List ℕ) → PiecesJoinToText text
pieces_join text = by (is_outside (fold next_spot (unquoted false) text))
  where
    by : (b : Bool) → IfSome (if b then Some (cut_from (unquoted false) text) else None) (λ ps. join_with_byte 44 ps ≡ text)
    by true = all_join (cut_from (unquoted false) text) text (joins_from (unquoted false) text)
    by false = tt
