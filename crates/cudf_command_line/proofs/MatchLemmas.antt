-- What the words of a command are, by the rows that a parse has of it.
use Rattle.std.proofs.Common.{◌≡◌, ◌∙◌, ℕ, List, Option, Some, None, Result, Ok, Err, MatchResult, ap, subst, inr, codes, option_map, unwrap_or, false}
use Rattle.clap.specs.declared.parser.matches.Found.{Found}
use Rattle.clap.specs.Words.{Row, rows_of}
use Rattle.clap.proofs.WalkLemmas.{first_value-rows, raw_values-rows}
use Rattle.cudf_command_line.specs.declared.command.Order.{Order}
use Rattle.cudf_command_line.specs.declared.usage.Refusal.{Refusal}
use Rattle.cudf_command_line.specs.Command.{words_of, words_in, Asks, AsksOf, IsAskedBy, IsRefusedBy, arguments, has_list_apart}

words-rows : (found : Found) → words_of found ≡ words_in (rows_of found)
words-rows found =
    let first = first_value-rows found in
    let all = raw_values-rows found in
    λ k. record {
      problem = first (codes "problem") k;
      solution = all (codes "solution") k;
      solutions = all (codes "solutions") k;
      proof = all (codes "proof") k;
      after = first (codes "after") k;
      limit = first (codes "limit") k;
      criteria = first (codes "criteria") k;
      better_than = first (codes "better-than") k;
      strict = first (codes "strict") k;
      explain = first (codes "explain") k;
      filename = first (codes "with-filename") k;
    }

-- what is asked of the entries is asked of the name and the rows
pub asked : {B : Type 0} (f : B → List ℕ × List Row) (sub : Option B) (name : List ℕ) (found : Found) (result : Result Order Refusal)
    → Some name ≡ option_map (λ b. (f b).0) sub → Some (rows_of found) ≡ option_map (λ p. p.1) (option_map f sub)
    → Asks name (words_of found) result → AsksOf (option_map f sub) result
asked f (Some b) name found result is_name is_rows asks =
    subst (λ n. Asks n (words_in (f b).1) result) (ap (λ (o : Option (List ℕ)). unwrap_or o name) is_name)
    (subst (λ w. Asks name w result) (words-rows found ∙ ap (λ (o : Option (List Row)). words_in (unwrap_or o (rows_of found))) is_rows) asks)
asked f None name found result is_name is_rows asks = absurd cc

-- what the command asks for or refuses, where no list is separate
pub by_words : (words : List (List ℕ)) (met : Option (List ℕ × List Row)) (result : Result Order Refusal) → has_list_apart (arguments words) ≡ false → AsksOf met result
    → MatchResult result (IsAskedBy words met) (IsRefusedBy words met)
by_words words met (Ok order) together asks = record { together = together; asks = asks }
by_words words met (Err refusal) together asks = inr (together, asks)
