-- A text that has pieces is made of tokens, and one that may be between quotes of what is there.
use Rattle.std.proofs.Common.{◌≡◌, ℕ, Bool, true, false, ◌||◌, ◌==◌, List, [], ◌∷◌, ◌++◌, Some, None, refl, sym, ap, subst, ◌∙◌, if◌then◌else◌, map}
use Rattle.std.specs.Prelude.{IfSome}
use Rattle.std.specs.List.{fold, slice_split, list_all, flat_map}
use Rattle.std.specs.Str.{byte}
use Rattle.std.proofs.lemmas.Bool.{and_parts, or_parts, not-true, eqb-true}
use Rattle.std.proofs.lemmas.List.{append_assoc}
use Rattle.cudf_value.specs.Promises.Laws.{IsMadeOfTokens, IsQuotableAsMade}
use Rattle.cudf_value.specs.Spots.{quote_mark, backslash, Spot, unquoted, in_quotes, after_backslash, astray, next_spot, is_outside, is_quotable}
use Rattle.cudf_value.specs.Working.Spots.{is_quotable_from}
use Rattle.cudf_value.specs.Promises.Tokens.{Inner, plain, escaped, Item, char_item, quoted_item, Token, char, quoted, bracketed, is_inner, is_item, is_token, is_comma, inner_text, quoted_text, item_text, text_of}
use Rattle.cudf_value.proofs.TokenLemmas.{cut_from, is_cut}

-- ---- what is from a spot on to the end of a text that ends outside

record Tokens (text : List ℕ) : Type 0 where
  tokens : List Token
  are : list_all is_token tokens ≡ true
  whole : text_of tokens ≡ text

-- items, up to the end of the brackets
record InBracket (text : List ℕ) : Type 0 where
  items : List Item
  are : list_all is_item items ≡ true
  rest : List ℕ
  whole : flat_map item_text items ++ byte "]" ∷ rest ≡ text
  outside : Tokens rest

-- what is between quotes, up to their end
record InQuotes (After : List ℕ → Type 0) (text : List ℕ) : Type 0 where
  inner : List Inner
  are : list_all is_inner inner ≡ true
  rest : List ℕ
  whole : flat_map inner_text inner ++ quote_mark ∷ rest ≡ text
  after : After rest

-- after a backslash the text with it
abbrev Made : Spot → List ℕ → Type 0
Made (unquoted false) text = Tokens text
Made (unquoted true) text = InBracket text
Made (in_quotes false) text = InQuotes Tokens text
Made (after_backslash false) text = InQuotes Tokens (backslash ∷ text)
Made (in_quotes true) text = InQuotes InBracket text
Made (after_backslash true) text = InQuotes InBracket (backslash ∷ text)
Made astray text = ⊥

-- ---- one more character in quotes

quotes_step : (After : List ℕ → Type 0) (quotes slash start : Spot) (b : ℕ) (text : List ℕ)
    → (Made quotes text → InQuotes After text) → (Made slash text → InQuotes After (backslash ∷ text)) → (Made start text → After text)
    → Made (if b == backslash then slash else (if b == quote_mark then start else quotes)) text → InQuotes After (b ∷ text)
quotes_step After quotes slash start b text more escapes closes made = by (b == backslash) (b == quote_mark) refl refl made
  where
    by : (s q : Bool) → (b == backslash) ≡ s → (b == quote_mark) ≡ q → Made (if s then slash else (if q then start else quotes)) text → InQuotes After (b ∷ text)
    by true q s_is q_is made = subst (λ x. InQuotes After (x ∷ text)) (sym (eqb-true b backslash s_is)) (escapes made)
    by false true s_is q_is made =
        subst (λ x. InQuotes After (x ∷ text)) (sym (eqb-true b quote_mark q_is))
        (record { inner = []; are = refl; rest = text; whole = refl; after = closes made })
    by false false s_is q_is made =
        let m = more made in
        record { inner = plain b ∷ m.inner; are = rw (q_is, s_is) m.are; rest = m.rest; whole = ap (λ t. b ∷ t) m.whole; after = m.after }

escape_step : (After : List ℕ → Type 0) (quotes : Spot) (b : ℕ) (text : List ℕ) → (Made quotes text → InQuotes After text)
    → Made (if b == quote_mark || b == backslash then quotes else astray) text → InQuotes After (backslash ∷ b ∷ text)
escape_step After quotes b text more made = by (b == quote_mark || b == backslash) refl made
  where
    by : (e : Bool) → (b == quote_mark || b == backslash) ≡ e → Made (if e then quotes else astray) text → InQuotes After (backslash ∷ b ∷ text)
    by true is made =
        let m = more made in
        record { inner = escaped b ∷ m.inner; are = rw is m.are; rest = m.rest; whole = ap (λ t. backslash ∷ b ∷ t) m.whole; after = m.after }
    by false is made = absurd made

quoted-whole : (inner : List Inner) (rest : List ℕ) → quoted_text inner ++ rest ≡ quote_mark ∷ flat_map inner_text inner ++ quote_mark ∷ rest
quoted-whole inner rest = ap (λ t. quote_mark ∷ t) (append_assoc (flat_map inner_text inner) (quote_mark ∷ []) rest)

-- ---- one more character in brackets

quoted_in_bracket : (text : List ℕ) → InQuotes InBracket text → InBracket (quote_mark ∷ text)
quoted_in_bracket text q =
    let b = q.after in
    let are = q.are in
    record {
      items = quoted_item q.inner ∷ b.items;
      are = rw are b.are;
      rest = b.rest;
      whole = append_assoc (quoted_text q.inner) (flat_map item_text b.items) (byte "]" ∷ b.rest) ∙ quoted-whole q.inner (flat_map item_text b.items ++ byte "]" ∷ b.rest)
          ∙ ap (λ t. quote_mark ∷ flat_map inner_text q.inner ++ quote_mark ∷ t) b.whole ∙ ap (λ t. quote_mark ∷ t) q.whole;
      outside = b.outside;
    }

bracket_step : (b : ℕ) (text : List ℕ) → Made (next_spot (unquoted true) b) text → InBracket (b ∷ text)
bracket_step b text made = by (b == quote_mark) (b == byte "[") (b == byte "]") refl refl refl made
  where
    by : (q o c : Bool) → (b == quote_mark) ≡ q → (b == byte "[") ≡ o → (b == byte "]") ≡ c
        → Made (if q then (in_quotes true) else (if o then astray else (if c then (unquoted false) else (unquoted true)))) text → InBracket (b ∷ text)
    by true o c q_is o_is c_is made = subst (λ x. InBracket (x ∷ text)) (sym (eqb-true b quote_mark q_is)) (quoted_in_bracket text made)
    by false true c q_is o_is c_is made = absurd made
    by false false true q_is o_is c_is made =
        subst (λ x. InBracket (x ∷ text)) (sym (eqb-true b (byte "]") c_is)) (record { items = []; are = refl; rest = text; whole = refl; outside = made })
    by false false false q_is o_is c_is made = record {
      items = char_item b ∷ made.items;
      are = rw (q_is, o_is, c_is) made.are;
      rest = made.rest;
      whole = ap (λ t. b ∷ t) made.whole;
      outside = made.outside;
    }

-- ---- one more character outside

quoted_outside : (text : List ℕ) → InQuotes Tokens text → Tokens (quote_mark ∷ text)
quoted_outside text q =
    let are = q.are in
    record {
      tokens = quoted q.inner ∷ q.after.tokens;
      are = rw are q.after.are;
      whole = quoted-whole q.inner (text_of q.after.tokens) ∙ ap (λ t. quote_mark ∷ flat_map inner_text q.inner ++ quote_mark ∷ t) q.after.whole
          ∙ ap (λ t. quote_mark ∷ t) q.whole;
    }

bracketed_outside : (text : List ℕ) → InBracket text → Tokens (byte "[" ∷ text)
bracketed_outside text b =
    let are = b.are in
    record {
      tokens = bracketed b.items ∷ b.outside.tokens;
      are = rw are b.outside.are;
      whole = ap (λ t. byte "[" ∷ t) (append_assoc (flat_map item_text b.items) (byte "]" ∷ []) (text_of b.outside.tokens)
          ∙ ap (λ t. flat_map item_text b.items ++ byte "]" ∷ t) b.outside.whole ∙ b.whole);
    }

outside_step : (b : ℕ) (text : List ℕ) → Made (next_spot (unquoted false) b) text → Tokens (b ∷ text)
outside_step b text made = by (b == quote_mark) (b == byte "[") (b == byte "]") refl refl refl made
  where
    by : (q o c : Bool) → (b == quote_mark) ≡ q → (b == byte "[") ≡ o → (b == byte "]") ≡ c
        → Made (if q then (in_quotes false) else (if o then (unquoted true) else (if c then astray else (unquoted false)))) text → Tokens (b ∷ text)
    by true o c q_is o_is c_is made = subst (λ x. Tokens (x ∷ text)) (sym (eqb-true b quote_mark q_is)) (quoted_outside text made)
    by false true c q_is o_is c_is made = subst (λ x. Tokens (x ∷ text)) (sym (eqb-true b (byte "[") o_is)) (bracketed_outside text made)
    by false false true q_is o_is c_is made = absurd made
    by false false false q_is o_is c_is made =
        record { tokens = char b ∷ made.tokens; are = rw (q_is, o_is, c_is) made.are; whole = ap (λ t. b ∷ t) made.whole }

-- ---- a text that ends outside

step : (spot : Spot) (b : ℕ) (text : List ℕ) → Made (next_spot spot b) text → Made spot (b ∷ text)
step (unquoted false) b text made = outside_step b text made
step (unquoted true) b text made = bracket_step b text made
step (in_quotes false) b text made = quotes_step Tokens (in_quotes false) (after_backslash false) (unquoted false) b text (λ m. m) (λ m. m) (λ m. m) made
step (after_backslash false) b text made = escape_step Tokens (in_quotes false) b text (λ m. m) made
step (in_quotes true) b text made = quotes_step InBracket (in_quotes true) (after_backslash true) (unquoted true) b text (λ m. m) (λ m. m) (λ m. m) made
step (after_backslash true) b text made = escape_step InBracket (in_quotes true) b text (λ m. m) made
step astray b text made = absurd made

nothing : (spot : Spot) → is_outside spot ≡ true → Made spot []
nothing (unquoted false) outside = record { tokens = []; are = refl; whole = refl }
nothing _ outside = absurd cc

made : (spot : Spot) (text : List ℕ) → is_outside (fold next_spot spot text) ≡ true → Made spot text
made spot [] ends = nothing spot ends
made spot (b ∷ text) ends = step spot b text (made (next_spot spot b) text ends)

pub made_of_tokens : (text : List ℕ) → IsMadeOfTokens text
made_of_tokens text = by (is_outside (fold next_spot (unquoted false) text)) refl
  where
    by : (b : Bool) → is_outside (fold next_spot (unquoted false) text) ≡ b
        → IfSome (if b then Some (cut_from (unquoted false) text) else None)
        (λ ps. (tokens : List Token) × (list_all is_token tokens ≡ true) × (text_of tokens ≡ text) × (map text_of (slice_split is_comma tokens) ≡ ps))
    by true ends =
        let t = made (unquoted false) text ends in
        (t.tokens, t.are, t.whole, sym (is_cut t.tokens t.are).parts ∙ ap (cut_from (unquoted false)) t.whole)
    by false ends = tt

-- ---- between quotes

record Inners (text : List ℕ) : Type 0 where
  inner : List Inner
  are : list_all is_inner inner ≡ true
  whole : flat_map inner_text inner ≡ text

abbrev MadeInner : Spot → List ℕ → Type 0
MadeInner (in_quotes false) text = Inners text
MadeInner (after_backslash false) text = Inners (backslash ∷ text)
MadeInner _ text = Unit {0}

closed_before : (text : List ℕ) → is_quotable_from (unquoted false) text ≡ true → ⊥
closed_before [] is = cc
closed_before (b ∷ text) is = cc

broken_before : (text : List ℕ) → is_quotable_from astray text ≡ true → ⊥
broken_before [] is = cc
broken_before (b ∷ text) is = broken_before text is

inner_step : (b : ℕ) (text : List ℕ) → is_quotable_from (next_spot (in_quotes false) b) text ≡ true → MadeInner (next_spot (in_quotes false) b) text → Inners (b ∷ text)
inner_step b text quotable made = by (b == backslash) (b == quote_mark) refl refl quotable made
  where
    by : (s q : Bool) → (b == backslash) ≡ s → (b == quote_mark) ≡ q → is_quotable_from (if s then (after_backslash false) else (if q then (unquoted false) else (in_quotes false))) text ≡ true
        → MadeInner (if s then (after_backslash false) else (if q then (unquoted false) else (in_quotes false))) text → Inners (b ∷ text)
    by true q s_is q_is quotable made = subst (λ x. Inners (x ∷ text)) (sym (eqb-true b backslash s_is)) made
    by false true s_is q_is quotable made = absurd (closed_before text quotable)
    by false false s_is q_is quotable made =
        record { inner = plain b ∷ made.inner; are = rw (q_is, s_is) made.are; whole = ap (λ t. b ∷ t) made.whole }

escaped_step : (b : ℕ) (text : List ℕ) → is_quotable_from (next_spot (after_backslash false) b) text ≡ true → MadeInner (next_spot (after_backslash false) b) text → Inners (backslash ∷ b ∷ text)
escaped_step b text quotable made = by (b == quote_mark || b == backslash) refl quotable made
  where
    by : (e : Bool) → (b == quote_mark || b == backslash) ≡ e → is_quotable_from (if e then (in_quotes false) else astray) text ≡ true
        → MadeInner (if e then (in_quotes false) else astray) text → Inners (backslash ∷ b ∷ text)
    by true is quotable made = record { inner = escaped b ∷ made.inner; are = rw is made.are; whole = ap (λ t. backslash ∷ b ∷ t) made.whole }
    by false is quotable made = absurd (broken_before text quotable)

made_inner : (spot : Spot) (text : List ℕ) → is_quotable_from spot text ≡ true → MadeInner spot text
made_inner (in_quotes false) [] quotable = record { inner = []; are = refl; whole = refl }
made_inner (in_quotes false) (b ∷ text) quotable = inner_step b text quotable (made_inner (next_spot (in_quotes false) b) text quotable)
made_inner (after_backslash false) [] quotable = absurd cc
made_inner (after_backslash false) (b ∷ text) quotable = escaped_step b text quotable (made_inner (next_spot (after_backslash false) b) text quotable)
made_inner _ text quotable = tt

made-quotable : (inner : List Inner) → list_all is_inner inner ≡ true → is_quotable (flat_map inner_text inner) ≡ true
made-quotable [] all = refl
made-quotable (plain b ∷ inner) all =
    let each = and_parts (is_inner (plain b)) (list_all is_inner inner) all in
    let no = or_parts (b == quote_mark) (b == backslash) (not-true _ each.0) in
    let no_mark = no.0 in
    let no_slash = no.1 in
    rw (no_slash, no_mark) (made-quotable inner each.1)
made-quotable (escaped b ∷ inner) all =
    let each = and_parts (is_inner (escaped b)) (list_all is_inner inner) all in
    let is = each.0 in
    rw is (made-quotable inner each.1)

pub quotable_as_made : (text : List ℕ) → IsQuotableAsMade text
quotable_as_made text = (
  λ quotable. let i = made_inner (in_quotes false) text quotable in (i.inner, i.are, i.whole),
  λ made. subst (λ t. is_quotable t ≡ true) made.2 (made-quotable made.0 made.1),
)
