use Rattle.std.proofs.Common.{◌≡◌, ℕ, List, true, false, ap, sym, ◌∙◌, ◌++◌, ◌∷◌, [], cond, append_assoc, bytes_eq}
use Rattle.std.specs.Prelude.{option_map}
use Rattle.std.proofs.lemmas.List.{append-nil}
use Rattle.cudf_value.specs.Vpkgs.{PlainVpkg}
use Rattle.cudf_problem.specs.Promises.Views.{package_view}
use Rattle.cudf_index.specs.declared.index.gathered_names.Provision.{Provision}
use Rattle.cudf_index.specs.Working.Gathering.{row_of, provisions_of, own_entry}
use Rattle.cudf_index.proofs.GatheringLemmas.{provisions-cons}
use Rattle.cudf_index.proofs.index.gathered_names.GatheredNames.add_package.Goals as goal

one_version : (f : List ℕ) (place : ℕ) (own : PlainVpkg) → cond (bytes_eq own.name f) (record { number = option_map (λ b. b.1) own.bound; place = place; is_version = true } ∷ []) [] ≡ provisions_of true f place (own ∷ [])
one_version f place own = sym (provisions-cons true f place own [] ∙ append-nil _)

package_more : (f : List ℕ) (place : ℕ) (own : PlainVpkg) (es : List PlainVpkg) (old own_added now : List Provision)
    → own_added ≡ old ++ cond (bytes_eq own.name f) (record { number = option_map (λ b. b.1) own.bound; place = place; is_version = true } ∷ []) []
    → now ≡ own_added ++ provisions_of false f place es → now ≡ old ++ (provisions_of true f place (own ∷ []) ++ provisions_of false f place es)
package_more f place own es old own_added now first rest =
    rest ∙ ap (λ row. row ++ provisions_of false f place es) (first ∙ ap (λ ps. old ++ ps) (one_version f place own))
    ∙ append_assoc old (provisions_of true f place (own ∷ [])) (provisions_of false f place es)

pub returns-clause-rows : goal.returns-clause-rows
returns-clause-rows c = λ f.
    let p = package_view c.args.member.«package».now in
    package_more f c.args.member.place (own_entry p) p.provides (row_of f c.args.self.now) (row_of f c.add.new.self) (row_of f c.add_entries.new.self)
    (c.in_ok-add.ensures.rows f)
    (c.in_ok-add_entries.ensures.rows f)
