-- The lists of a request while they are gathered.
use Rattle.std.specs.Prelude.{ℕ, List, [], Option, Some, None, option_map, unwrap_or, bytes_eq, codes, if◌then◌else◌}
use Rattle.std.specs.List.{list_any}
use Rattle.cudf_text.specs.declared.fault.Kind.{Kind}
use Rattle.cudf_text.specs.declared.fault.Kind.TheVariants.{E7, E9}
use Rattle.cudf_text.specs.Stanzas.{PlainProperty}
use Rattle.cudf_value.specs.Vpkgs.{PlainVpkg}
use Rattle.cudf_document.specs.declared.problem.RequestProperty.{RequestProperty}
use Rattle.cudf_document.specs.declared.problem.RequestProperty.TheVariants.{Install, Remove, Upgrade}
use Rattle.cudf_document.specs.declared.problem.RequestFields.{RequestFields}
use Rattle.cudf_problem.specs.Documents.{value_of}
use Rattle.cudf_value.specs.Types.{can_be}
use Rattle.cudf_document.specs.Working.Reads.{list_value}
use Rattle.cudf_document.specs.Working.Tests.{Test}
use Rattle.cudf_document.specs.Working.Judging.{fails}
use Rattle.cudf_problem.specs.Universe.{PlainRequest}
use Rattle.cudf_value.specs.Promises.Views.{list_view}

abbrev pub request_property_named : List ℕ → Option RequestProperty
request_property_named name = if bytes_eq name (codes "install") then Some Install
    else (if bytes_eq name (codes "remove") then Some Remove
    else (if bytes_eq name (codes "upgrade") then Some Upgrade
    else None))

-- what a property of the wish has to be
abbrev pub request_property_test : Option RequestProperty → Option Test
request_property_test (Some property) = Some (can_be list_value)
request_property_test None = None

-- E9 where the value isn't of its type
abbrev pub mistyped_kind : Option Test → List ℕ → Option Kind
mistyped_kind test text = if fails test text then Some E9 else None

pub record PlainRequestFields : Type 0 where
  pub install : Option (List PlainVpkg)
  pub remove : Option (List PlainVpkg)
  pub upgrade : Option (List PlainVpkg)

abbrev pub request_fields_view : RequestFields → PlainRequestFields
request_fields_view w = record { install = option_map list_view w.install; remove = option_map list_view w.remove; upgrade = option_map list_view w.upgrade }

-- what the first property of each name says
abbrev pub request_fields_of : List PlainProperty → PlainRequestFields
request_fields_of ps = record {
  install = value_of list_value (codes "install") ps;
  remove = value_of list_value (codes "remove") ps;
  upgrade = value_of list_value (codes "upgrade") ps;
}

-- the wishes, with what this text says of one
abbrev pub with_request_property : Option RequestProperty → List ℕ → PlainRequestFields → PlainRequestFields
with_request_property (Some Install) text w = record w { install = list_value text }
with_request_property (Some Remove) text w = record w { remove = list_value text }
with_request_property (Some Upgrade) text w = record w { upgrade = list_value text }
with_request_property None text w = w

-- what is wrong with a request's property after others, by their names
abbrev pub request_kind_after : List (List ℕ) → PlainProperty → Option Kind
request_kind_after names p = if list_any (bytes_eq p.name) names then Some E7 else mistyped_kind (request_property_test (request_property_named p.name)) p.value

-- the wishes with what a property says that isn't repeated
abbrev pub request_fields_after : List (List ℕ) → PlainProperty → PlainRequestFields → PlainRequestFields
request_fields_after names p w = if list_any (bytes_eq p.name) names then w else with_request_property (request_property_named p.name) p.value w

abbrev pub request_with : ℕ → PlainRequestFields → PlainRequest
request_with line w = record { line = line; install = unwrap_or w.install []; remove = unwrap_or w.remove []; upgrade = unwrap_or w.upgrade [] }
