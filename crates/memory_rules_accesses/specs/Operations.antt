-- What an instruction does to the locations at its addresses.
use Rattle.std.specs.Prelude.{List, [], ◌∷◌, Bool, true, false, cond, option_map, slice_index_or, Option, Some, None}
use Rattle.std.specs.List.{flat_map}
use Rattle.std.specs.Option.{option_or, option_to_list}
use Rattle.instruction_table.specs.Forms.{number_of}
use Rattle.instruction_table.specs.declared.entries.Role.{Role}
use Rattle.instruction_table.specs.declared.entries.Role.TheVariants as role
use Rattle.sil_ast.specs.declared.inst.Inst.{Inst}
use Rattle.sil_ast.specs.declared.inst.Qualifier.{Qualifier}
use Rattle.sil_ast.specs.declared.inst.Qualifier.TheVariants as word
use Rattle.instruction_table.specs.declared.op.Op.{Op}
use Rattle.sil_ast.specs.declared.place.ValueId.{ValueId}
use Rattle.sil_cfg_items.specs.Roles.{taken_by}
use Rattle.sil_cfg_items.specs.declared.taken.Taken.{Taken}
use Rattle.memory_rules_accesses.specs.declared.access.Operated.{Operated}
use Rattle.memory_rules_accesses.specs.declared.access.Operation.{Operation}
use Rattle.memory_rules_accesses.specs.declared.access.Operation.TheVariants.{FirstWrite, Read, Lend, Write, TrivialStore, Handed, Take}
use Rattle.memory_rules_accesses.specs.declared.columns.AccessKind.{AccessKind}
use Rattle.memory_rules_accesses.specs.declared.columns.AccessKind.TheVariants as access
use Rattle.memory_rules_accesses.specs.declared.columns.TheConstants.{ACCESSES}

-- what an instruction does to memory, by its row
abbrev pub access_kind_of : Op → AccessKind
access_kind_of o = slice_index_or ACCESSES (number_of o) access.NoAccess

abbrev pub load_operation : Qualifier → Operation
load_operation word.Plain = Read
load_operation word.Copy = Read
load_operation word.Take = Take
load_operation word.Trivial = Read
load_operation word.Init = Read
load_operation word.Assign = Read

abbrev pub store_operation : Qualifier → Operation
store_operation word.Plain = Write
store_operation word.Copy = Write
store_operation word.Take = Write
store_operation word.Trivial = TrivialStore
store_operation word.Init = FirstWrite
store_operation word.Assign = Write

-- what is done to each location, by the row and the word in brackets; what a call does with one goes by its convention
abbrev pub operation_by : AccessKind → Qualifier → Option Operation
operation_by access.NoAccess q = None
operation_by access.AllocatesSlot q = None
operation_by access.AllocatesObject q = None
operation_by access.DeallocatesSlot q = None
operation_by access.LendsValue q = None
operation_by access.Upcasts q = None
operation_by access.LendsLocation q = Some Lend
operation_by access.NamesField q = None
operation_by access.NamesMember q = None
operation_by access.NamesElement q = None
operation_by access.Loads q = Some (load_operation q)
operation_by access.Stores q = Some (store_operation q)
operation_by access.Destroys q = Some Take
operation_by access.Passes q = None

abbrev pub is_address_role : Role → Bool
is_address_role role.Consumed = false
is_address_role role.Used = false
is_address_role role.Lent = false
is_address_role role.Forwarded = false
is_address_role role.AddressRole = true
is_address_role role.AnyRole = false
is_address_role role.ScopeRole = false
is_address_role role.ByParameter = false
is_address_role role.Counted = false

-- the addresses among an instruction's operands, in order
abbrev pub address_of : Taken → List ValueId
address_of t = cond (is_address_role t.role) (t.value ∷ []) []

abbrev pub addresses_of : Inst → List ValueId
addresses_of i = flat_map address_of (taken_by i)

abbrev pub operation_at : AccessKind → Qualifier → Taken → Option Operation
operation_at k q t = option_or (option_map Handed t.handed) (cond (is_address_role t.role) (operation_by k q) None)

abbrev pub operated : ValueId → Operation → Operated
operated v o = record { address = v; operation = o }

abbrev pub operated_at : AccessKind → Qualifier → Taken → List Operated
operated_at k q t = option_to_list (option_map (operated t.value) (operation_at k q t))

-- what an instruction does to locations, in the order of its operands
abbrev pub operations_of : Inst → List Operated
operations_of i = flat_map (operated_at (access_kind_of i.op) i.qualifier) (taken_by i)

abbrev pub deallocates_by : AccessKind → Bool
deallocates_by access.NoAccess = false
deallocates_by access.AllocatesSlot = false
deallocates_by access.AllocatesObject = false
deallocates_by access.DeallocatesSlot = true
deallocates_by access.LendsValue = false
deallocates_by access.Upcasts = false
deallocates_by access.LendsLocation = false
deallocates_by access.NamesField = false
deallocates_by access.NamesMember = false
deallocates_by access.NamesElement = false
deallocates_by access.Loads = false
deallocates_by access.Stores = false
deallocates_by access.Destroys = false
deallocates_by access.Passes = false

-- the instruction deallocates a slot
abbrev pub deallocates : Inst → Bool
deallocates i = deallocates_by (access_kind_of i.op)
