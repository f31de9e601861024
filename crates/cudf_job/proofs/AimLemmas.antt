-- Reading lists of aims.
use Rattle.std.proofs.Common.{◌≡◌, ℕ, ◌+◌, ◌<◌, ◌≤◌, ◌==◌, Bool, true, false, List, [], ◌∷◌, ◌++◌, length, get_or, drop, map, Option, Some, None, option_map, refl, ap, sym, ◌∙◌, eqb-true}
use Rattle.std.proofs.lemmas.List.{append_assoc, append-nil, at_drop_more, at_drop_all}
use Rattle.cudf_value.specs.Parts.{all_some}
use Rattle.cudf_job.specs.declared.criteria.Aim.{Aim}
use Rattle.cudf_job.specs.declared.criteria.Sign.{Sign}
use Rattle.cudf_job.specs.declared.criteria.Sign.TheVariants.{Least, Most}
use Rattle.cudf_job.specs.Aims.{sign_text}
use Rattle.cudf_job.specs.Promises.Aims.{aim_of}

-- ---- one aim

-- a text that begins with neither of the two begins with no sign
pub neither_sign : (text : List ℕ) → ((rest : List ℕ) → text ≡ 45 ∷ rest → ⊥) → ((rest : List ℕ) → text ≡ 43 ∷ rest → ⊥)
    → (sign : Sign) (name : List ℕ) → text ≡ sign_text sign ++ name → ⊥
neither_sign text minus plus Least name is = minus name is
neither_sign text minus plus Most name is = plus name is

-- without a sign at the front there is none
pub aim-unsigned : (text : List ℕ) → ((sign : Sign) (name : List ℕ) → text ≡ sign_text sign ++ name → ⊥) → aim_of text ≡ None
aim-unsigned [] none = refl
aim-unsigned (b ∷ name) none = first (b == 45) (b == 43) refl refl
  where
    first : (minus plus : Bool) → (b == 45) ≡ minus → (b == 43) ≡ plus → aim_of (b ∷ name) ≡ None
    first true plus is other = absurd (none Least name (ap (λ x. x ∷ name) (eqb-true b 45 is)))
    first false true is other = absurd (none Most name (ap (λ x. x ∷ name) (eqb-true b 43 other)))
    first false false is other = rw is (rw other refl)

-- ---- one aim after another

-- the aims that were read, and those of the texts that are left
abbrev pub with_rest : List Aim → List (List ℕ) → Option (List Aim)
with_rest aims texts = option_map (λ more. aims ++ more) (all_some (map aim_of texts))

module _ (aims : List Aim) (texts : List (List ℕ)) (n : ℕ) (text : List ℕ) (all : Option (List Aim))
    (here : (n < length texts) × (text ≡ get_or texts n text)) (so_far : with_rest aims (drop n texts) ≡ all) where
  this_one : with_rest aims (drop n texts) ≡ option_map (λ more. aims ++ more) (all_some (aim_of text ∷ map aim_of (drop (n + 1) texts)))
  this_one = at_drop_more (with_rest aims) texts n text here.0
      ∙ ap (λ t. option_map (λ more. aims ++ more) (all_some (aim_of t ∷ map aim_of (drop (n + 1) texts)))) (sym here.1)

  -- the next text is read
  pub aim_read : (aim : Aim) → Some aim ≡ aim_of text → with_rest (aims ++ aim ∷ []) (drop (n + 1) texts) ≡ all
  aim_read aim is = by (all_some (map aim_of (drop (n + 1) texts)))
      ∙ ap (λ o. option_map (λ more. aims ++ more) (all_some (o ∷ map aim_of (drop (n + 1) texts)))) is ∙ sym this_one ∙ so_far
    where
      by : (rest : Option (List Aim)) → option_map (λ more. (aims ++ aim ∷ []) ++ more) rest ≡ option_map (λ more. aims ++ more) (option_map (λ more. aim ∷ more) rest)
      by None = refl
      by (Some more) = ap Some (append_assoc aims (aim ∷ []) more)

  -- or it is none
  pub aim_missing : None ≡ aim_of text → None ≡ all
  aim_missing is = ap (λ o. option_map (λ more. aims ++ more) (all_some (o ∷ map aim_of (drop (n + 1) texts)))) is ∙ sym this_one ∙ so_far

-- all texts were read
pub aims_read : (aims : List Aim) (texts : List (List ℕ)) (n : ℕ) (all : Option (List Aim)) → length texts ≤ n → with_rest aims (drop n texts) ≡ all → Some aims ≡ all
aims_read aims texts n all end so_far = sym (ap Some (append-nil aims)) ∙ sym (at_drop_all (with_rest aims) texts n end) ∙ so_far
