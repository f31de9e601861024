-- What contracts see of types and declarations.
use Rattle.std.specs.Prelude.{map, option_copied, codes}
use Rattle.cudf_value.specs.declared.value_type.ValueType.{ValueType}
use Rattle.cudf_value.specs.declared.value_type.ValueType.TheVariants.{Positive, Natural, Signed, Truth, Words, Name, Ident, Choice, Versioned, Exact, Formula, List as VpkgList, ExactList}
use Rattle.cudf_value.specs.Types.{PlainType, word_type, enum_type}
use Rattle.cudf_value.specs.declared.declaration.Declaration.{Declaration}
use Rattle.cudf_value.specs.Declarations.{PlainDeclaration}

abbrev pub type_view : ValueType → PlainType
type_view Positive = word_type (codes "posint")
type_view Natural = word_type (codes "nat")
type_view Signed = word_type (codes "int")
type_view Truth = word_type (codes "bool")
type_view Words = word_type (codes "string")
type_view Name = word_type (codes "pkgname")
type_view Ident = word_type (codes "ident")
type_view (Choice idents) = enum_type (map (λ ident. ident.now) idents.items)
type_view Versioned = word_type (codes "vpkg")
type_view Exact = word_type (codes "veqpkg")
type_view Formula = word_type (codes "vpkgformula")
type_view VpkgList = word_type (codes "vpkglist")
type_view ExactList = word_type (codes "veqpkglist")

abbrev pub declaration_view : Declaration → PlainDeclaration
declaration_view d = record { name = d.name.now; kind = type_view d.kind; default = option_copied d.default }
