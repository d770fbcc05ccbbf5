-- What each value of a function is to memory.
use Rattle.std.specs.Prelude.{ℕ, zero, suc, ℤ, pos, negsuc, Bool, true, false, Option, Some, None, option_map, unwrap_or}
use Rattle.std.specs.Prelude.{List, map, replicate, length, slice_get}
use Rattle.std.specs.List.{range_with_len}
use Rattle.sil_ast.specs.declared.function.BlockArg.{BlockArg}
use Rattle.sil_ast.specs.declared.function.Function.{Function}
use Rattle.sil_ast.specs.declared.inst.Inst.{Inst}
use Rattle.sil_ast.specs.declared.member.Member.{Member}
use Rattle.sil_ast.specs.declared.place.ValueId.{ValueId}
use Rattle.sil_ast.specs.declared.type_name.TypeName.{TypeName, out-TypeName}
use Rattle.sil_ast.specs.declared.type_name.TypeName.TheOpen.{TypeName-F, Int, Named, Optional, Tuple, Weak, Unowned, Address}
use Rattle.sil_ast.specs.declared.signature.Signature.{Signature}
use Rattle.argument_conventions.specs.Arguments.{Told, arguments_of}
use Rattle.argument_conventions.specs.Rows.{address_row}
use Rattle.argument_conventions.specs.declared.row.AddressRow.{AddressRow}
use Rattle.sil_types.specs.sil_types_declarations.TypeDefinitions.Declarations.{Declarations}
use Rattle.sil_types.specs.sil_types_declarations.TypeDefinitions.Lookups.{FoundField, field_of, fields_of}
use Rattle.sil_types.specs.Typing.Shapes.{is_trivial_object}
use Rattle.numbered_form.specs.ValueTables.FirstValue.{first_value}
use Rattle.numbered_form.specs.ValueTables.ValueRows.{value_rows}
use Rattle.memory_rules_accesses.specs.declared.columns.AccessKind.{AccessKind}
use Rattle.memory_rules_accesses.specs.declared.columns.AccessKind.TheVariants as access
use Rattle.memory_rules_accesses.specs.declared.source.Source.{Source}
use Rattle.memory_rules_accesses.specs.declared.source.Source.TheVariants as source
use Rattle.memory_rules_accesses.specs.Operations.{access_kind_of}

abbrev pub slot_source : Declarations → Option TypeName → Source
slot_source d None = source.Other
slot_source d (Some t) = source.Slot (is_trivial_object d t)

abbrev pub field_count_in : Declarations → TypeName-F TypeName → ℕ
field_count_in d (Int width) = 0
field_count_in d (Named name) = length (fields_of d name)
field_count_in d (Optional target) = 0
field_count_in d (Tuple parts) = 0
field_count_in d (Weak target) = 0
field_count_in d (Unowned target) = 0
field_count_in d (Address target) = 0

abbrev pub object_source : Declarations → Option TypeName → Source
object_source d None = source.Other
object_source d (Some t) = source.Object (field_count_in d (out-TypeName t))

abbrev pub borrow_source : Option ValueId → Source
borrow_source None = source.Other
borrow_source (Some v) = source.Borrow v

abbrev pub upcast_source : Option ValueId → Source
upcast_source None = source.Other
upcast_source (Some v) = source.Upcast v

abbrev pub loan_source : Option ValueId → Source
loan_source None = source.Other
loan_source (Some v) = source.Loan v

-- the number of a field or member, where the owner has it
abbrev pub member_place : Declarations → Option Member → Option ℕ
member_place d None = None
member_place d (Some m) = option_map (λ f. f.place) (field_of d m.owner m.name)

abbrev pub is_trivial_field : Declarations → Option FoundField → Bool
is_trivial_field d None = false
is_trivial_field d (Some f) = is_trivial_object d f.field.ty

-- the field or member is of a trivial type
abbrev pub is_trivial_member : Declarations → Option Member → Bool
is_trivial_member d None = false
is_trivial_member d (Some m) = is_trivial_field d (field_of d m.owner m.name)

abbrev pub element_place : Option ℤ → Option ℕ
element_place None = None
element_place (Some (pos n)) = Some n
element_place (Some (negsuc n)) = None

abbrev pub field_source : Option ValueId → Option ℕ → Bool → Source
field_source None k trivial = source.Other
field_source (Some v) None trivial = source.Other
field_source (Some v) (Some k) trivial = source.Field v k trivial

abbrev pub part_source : Option ValueId → Option ℕ → Source
part_source None k = source.Other
part_source (Some v) None = source.Other
part_source (Some v) (Some k) = source.Part v k

abbrev pub source_by : AccessKind → Declarations → Inst → Source
source_by access.NoAccess d i = source.Other
source_by access.AllocatesSlot d i = slot_source d i.ty
source_by access.AllocatesObject d i = object_source d i.ty
source_by access.DeallocatesSlot d i = source.Other
source_by access.LendsValue d i = borrow_source (first_value i)
source_by access.Upcasts d i = upcast_source (first_value i)
source_by access.LendsLocation d i = loan_source (first_value i)
source_by access.NamesField d i = field_source (first_value i) (member_place d i.member) (is_trivial_member d i.member)
source_by access.NamesMember d i = part_source (first_value i) (member_place d i.member)
source_by access.NamesElement d i = part_source (first_value i) (element_place i.number)
source_by access.Loads d i = source.Other
source_by access.Stores d i = source.Other
source_by access.Destroys d i = source.Other
source_by access.Passes d i = source.Other

-- what a result of the instruction is to memory
abbrev pub result_source : Declarations → Inst → Source
result_source d i = source_by (access_kind_of i.op) d i

abbrev pub result_sources : Declarations → Inst → List Source
result_sources d i = replicate (length i.results) (result_source d i)

abbrev pub handed_source : Bool → Option AddressRow → Source
handed_source trivial None = source.Other
handed_source trivial (Some row) = source.Argument row trivial

-- what an argument of the entry is by its convention
abbrev pub argument_source : Declarations → Told → Source
argument_source d a = handed_source (is_trivial_object d a.ty) (address_row a.convention)

abbrev pub argument_source_or : Declarations → Option Told → Source
argument_source_or d None = source.Other
argument_source_or d (Some a) = argument_source d a

-- what so many arguments of the entry are: those of the signature
abbrev pub entry_sources : Declarations → List Told → ℕ → List Source
entry_sources d told n = map (λ k. argument_source_or d (slice_get told k)) (range_with_len 0 n)

abbrev pub arg_sources : Declarations → Signature → ℕ → List BlockArg → List Source
arg_sources d s zero args = entry_sources d (arguments_of s) (length args)
arg_sources d s (suc n) args = replicate (length args) source.Other

-- what each value is to memory, by the values' numbers
abbrev pub sources_of : Declarations → Function → List Source
sources_of d f = value_rows (arg_sources d f.signature) (result_sources d) f

abbrev pub source_at : List Source → ValueId → Source
source_at sources v = unwrap_or (slice_get sources v.0) source.Other

abbrev pub is_slot_source : Source → Bool
is_slot_source (source.Slot trivial) = true
is_slot_source (source.Argument row trivial) = false
is_slot_source (source.Object fields) = false
is_slot_source (source.Borrow of) = false
is_slot_source (source.Upcast of) = false
is_slot_source (source.Loan of) = false
is_slot_source (source.Field of k trivial) = false
is_slot_source (source.Part of k) = false
is_slot_source source.Other = false

-- the value is a slot
abbrev pub is_slot : List Source → ValueId → Bool
is_slot sources v = is_slot_source (source_at sources v)

abbrev pub is_trivial_source : Source → Bool
is_trivial_source (source.Slot trivial) = trivial
is_trivial_source (source.Argument row trivial) = trivial
is_trivial_source (source.Object fields) = false
is_trivial_source (source.Borrow of) = false
is_trivial_source (source.Upcast of) = false
is_trivial_source (source.Loan of) = false
is_trivial_source (source.Field of k trivial) = trivial
is_trivial_source (source.Part of k) = false
is_trivial_source source.Other = false

-- what is at the root is of a trivial type, so that it is never asked to be empty
abbrev pub is_trivial_at : List Source → ValueId → Bool
is_trivial_at sources root = is_trivial_source (source_at sources root)
