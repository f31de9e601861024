use Rattle.std.proofs.Common.{length, ◌<◌, ◌^◌, subst}
use Rattle.cudf_text.proofs.CountLemmas.{few_left}
use Rattle.cudf_text.proofs.cursor.Stanzas.are_countable.Goals as goal

pub returns : goal.returns
returns c = subst (λ t. length t.stanzas < 2 ^ 64) c.self.view_is (few_left c.self.inside.place c.self.invariant)
