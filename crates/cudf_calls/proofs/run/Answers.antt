use Rattle.std.proofs.Common.{◌∙◌, List, String, Global, ap, inl, map, string_bytes, subst}
use Rattle.cudf_calls.specs.Calls.{Follows, left}
use Rattle.cudf_calls.proofs.run.Goals as goal

pub returns-in-Ok : goal.returns-in-Ok
returns-in-Ok c =
    inl (subst (λ line. Follows line c.args.documents.now (left c.args.room.now c.obey.new.room c.obey.new.length c.obey.result))
    (ap (λ (line : List (String Global)). map (λ word. string_bytes word) line) c.deref.ensures.value ∙ c.in-Ok.ensures.line) c.obey.ensures)
