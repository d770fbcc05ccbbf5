-- Members found by their names.
use Rattle.std.specs.Prelude.{ℕ, Option, Some, None, option_map}
use Rattle.sil_ast.specs.declared.decl.Decl.{Decl}
use Rattle.numbered_form.specs.Names.{Name, member_names}
use Rattle.sil_types_declarations.specs.TypeDefinitions.Declarations.{place_of}
use Rattle.sil_types_declarations.specs.TypeDefinitions.Lookups.{FoundField, Payload}
use Rattle.sil_types_declarations.specs.declared.type_declarations.lookups.FieldRef.{FieldRef}
use Rattle.sil_types_declarations.specs.declared.type_declarations.lookups.PayloadRef.{PayloadRef}

-- the place of a name among the fields or cases of what was found
abbrev pub member_place : Option Decl → Name → Option ℕ
member_place None name = None
member_place (Some d) name = place_of (member_names d) name

abbrev pub field_told : FieldRef → FoundField
field_told r = record { place = r.index; field = r.field.now }

abbrev pub payload_told : PayloadRef → Payload
payload_told r = record { place = r.index; ty = option_map (λ t. t.now) r.ty }
