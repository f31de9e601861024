use Rattle.std.proofs.Common.{◌≡◌, rules, ℕ, nat_lt, nat_le, Bool, true, cond, ◌+◌, ◌==◌, ◌-◌, arith, sym, ap, ◌∙◌, List, length, Option, Some, None}
use Rattle.std.specs.List.{count_by}
use Rattle.cudf_value.specs.declared.vpkg.Relop.{Relop}
use Rattle.cudf_value.specs.declared.vpkg.Relop.TheVariants.{Neq, Geq, Gt}
use Rattle.cudf_value.specs.Vpkgs.{meets}
use Rattle.cudf_index.proofs.CountLemmas.{count-all, count-sum, equal_unequal, from_below, above_up_to}
use Rattle.cudf_index.proofs.index.sorted.SortedNumbers.count.Goals as goal

module _ (bound : Option (Relop × ℕ)) (xs : List ℕ) (all : ℕ) (whole : all ≡ length xs) where
  all_meet : bound ≡ None → all ≡ count_by (meets bound) xs
  all_meet e = whole ∙ sym (count-all xs) ∙ ap (λ b. count_by (meets b) xs) (sym e)

  -- all but those that pass the other test
  rest_meet : (met : Option (Relop × ℕ)) (other : ℕ → Bool) → ((m : ℕ) → cond (meets met m) 1 0 + cond (other m) 1 0 ≡ 1) → (k : ℕ) → bound ≡ met → k ≡ count_by other xs → all - k ≡ count_by (meets bound) xs
  rest_meet met other each k e some =
      let both = count-sum (meets met) other (λ m. true) each xs in
      let counted : all - k ≡ count_by (meets met) xs = omega (arith, both, count-all xs) in
      counted ∙ ap (λ b. count_by (meets b) xs) (sym e)

pub returns-in-None : goal.returns-in-None
returns-in-None c = record { counted = all_meet c.args.bound c.args.self.now c.len.result c.len.ensures c.in-None.is; price = omega arith; grows = omega arith }

pub returns-in-Some-Neq-default : goal.returns-in-Some-Neq-default
returns-in-Some-Neq-default c = record {
  counted = rest_meet c.args.bound c.args.self.now _ c.len-in-Some-Neq-default.ensures (Some (Neq, c.in-Some-Neq-default.number)) (λ m. m == c.in-Some-Neq-default.number) (equal_unequal c.in-Some-Neq-default.number) _ (search rules) c.equal-in-Some-Neq-default.ensures.counted;
  price = omega arith;
  grows = omega arith;
}

pub returns-in-Some-Geq-default : goal.returns-in-Some-Geq-default
returns-in-Some-Geq-default c = record {
  counted = rest_meet c.args.bound c.args.self.now _ c.len-in-Some-Geq-default.ensures (Some (Geq, c.in-Some-Geq-default.number)) (λ m. nat_lt m c.in-Some-Geq-default.number) (from_below c.in-Some-Geq-default.number) _ (search rules) c.under.ensures.counted;
  price = omega arith;
  grows = omega arith;
}

pub returns-in-Some-Gt-default : goal.returns-in-Some-Gt-default
returns-in-Some-Gt-default c = record {
  counted = rest_meet c.args.bound c.args.self.now _ c.len-in-Some-Gt-default.ensures (Some (Gt, c.in-Some-Gt-default.number)) (λ m. nat_le m c.in-Some-Gt-default.number) (above_up_to c.in-Some-Gt-default.number) _ (search rules) c.up_to.ensures.counted;
  price = omega arith;
  grows = omega arith;
}
