-- Faults: the kinds, their numbers and their texts, and the order (own).
use Rattle.std.specs.Prelude.{ℕ, Bool, ◌&&◌, ◌||◌, ◌==◌, nat_lt, List, codes}
use Rattle.cudf_text.specs.declared.fault.Fault.{Fault}
use Rattle.cudf_text.specs.declared.fault.Kind.{Kind}
use Rattle.cudf_text.specs.declared.fault.Kind.TheVariants.{E1, E2, E3, E4, E5, E6, E7, E8, E9, E10, E11, E12, E13, E14, E15, E16}

-- each kind's number, and its text: its name and what is wrong
abbrev pub described : Kind → ℕ × List ℕ
described E1 = (1, codes "E1 not UTF-8")
described E2 = (2, codes "E2 not a property, continuation, comment or blank line")
described E3 = (3, codes "E3 continuation of nothing")
described E4 = (4, codes "E4 stanza without postmark")
described E5 = (5, codes "E5 preamble is not first")
described E6 = (6, codes "E6 stanza after the request")
described E7 = (7, codes "E7 property repeated")
described E8 = (8, codes "E8 property not declared")
described E9 = (9, codes "E9 value is not of its type")
described E10 = (10, codes "E10 bad declaration")
described E11 = (11, codes "E11 package repeated")
described E12 = (12, codes "E12 no version")
described E13 = (13, codes "E13 no request")
described E14 = (14, codes "E14 declared property missing")
described E15 = (15, codes "E15 pair repeated")
described E16 = (16, codes "E16 property out of place")

abbrev pub fault_text : Kind → List ℕ
fault_text kind = (described kind).1

-- a kind's number
abbrev pub rank : Kind → ℕ
rank kind = (described kind).0

-- f is on an earlier line than g, or on the same line and of a lesser kind
abbrev pub precedes : Fault → Fault → Bool
precedes f g = nat_lt f.line g.line || f.line == g.line && nat_lt (rank f.kind) (rank g.kind)
