-- Which values are the results of borrows, and what each of these lends.
use Rattle.std.specs.Prelude.{ℕ, List, [], ◌∷◌, Bool, true, false, Option, Some, None, length, replicate, slice_get, unwrap_or}
use Rattle.instruction_table.specs.Forms.{result_kind_of, roles_of}
use Rattle.instruction_table.specs.declared.entries.ResultKind.{ResultKind}
use Rattle.instruction_table.specs.declared.entries.ResultKind.TheVariants.{NoneResult, OwnedResult, ScopeResult, AddressResult, ForwardedResult, OperandResult}
use Rattle.instruction_table.specs.declared.entries.Role.{Role}
use Rattle.instruction_table.specs.declared.entries.Role.TheVariants as role
use Rattle.sil_ast.specs.declared.function.BlockArg.{BlockArg}
use Rattle.sil_ast.specs.declared.function.Function.{Function}
use Rattle.sil_ast.specs.declared.inst.Inst.{Inst}
use Rattle.sil_ast.specs.declared.place.ValueId.{ValueId}
use Rattle.numbered_form.specs.ValueTables.FirstValue.{first_value}
use Rattle.numbered_form.specs.ValueTables.ValueRows.{value_rows}
use Rattle.numbered_form.specs.declared.value_tables.borrows.Borrow.{Borrow}
use Rattle.numbered_form.specs.declared.value_tables.borrows.Borrow.TheVariants.{NoBorrow, OfLocation, OfValue}

abbrev pub is_address_role : Role → Bool
is_address_role role.Consumed = false
is_address_role role.Used = false
is_address_role role.Lent = false
is_address_role role.Forwarded = false
is_address_role role.AddressRole = true
is_address_role role.AnyRole = false
is_address_role role.ScopeRole = false
is_address_role role.ByParameter = false
is_address_role role.Counted = false

-- a borrow lends its operand, or what is at its operand, where that is an address
abbrev pub borrow_at : Bool → Option ValueId → Borrow
borrow_at true v = OfLocation
borrow_at false None = OfLocation
borrow_at false (Some v) = OfValue v

abbrev pub takes_address : List Role → Bool
takes_address [] = false
takes_address (r ∷ rs) = is_address_role r

-- a result that is a scope of its own is a borrow
abbrev pub borrow_by : ResultKind → Inst → Borrow
borrow_by NoneResult i = NoBorrow
borrow_by OwnedResult i = NoBorrow
borrow_by ScopeResult i = borrow_at (takes_address (roles_of i.op)) (first_value i)
borrow_by AddressResult i = NoBorrow
borrow_by ForwardedResult i = NoBorrow
borrow_by OperandResult i = NoBorrow

abbrev pub result_borrows : Inst → List Borrow
result_borrows i = replicate (length i.results) (borrow_by (result_kind_of i.op) i)

abbrev pub arg_borrows : ℕ → List BlockArg → List Borrow
arg_borrows n args = replicate (length args) NoBorrow

-- what each value borrows, by the values' numbers
abbrev pub borrows_of : Function → List Borrow
borrows_of f = value_rows arg_borrows result_borrows f

abbrev pub borrow_in : List Borrow → ℕ → Borrow
borrow_in borrows n = unwrap_or (slice_get borrows n) NoBorrow

abbrev pub borrows : Borrow → Bool
borrows NoBorrow = false
borrows OfLocation = true
borrows (OfValue v) = true

abbrev pub lends : Borrow → Option ValueId
lends NoBorrow = None
lends OfLocation = None
lends (OfValue v) = Some v

abbrev pub is_borrow_in : List Borrow → ValueId → Bool
is_borrow_in table v = borrows (borrow_in table v.0)

abbrev pub lent_in : List Borrow → ℕ → Option ValueId
lent_in table n = lends (borrow_in table n)

-- the value is the result of a borrow itself
abbrev pub is_borrow : Function → ValueId → Bool
is_borrow f v = is_borrow_in (borrows_of f) v

-- the value that the one with this number lends
abbrev pub lent_by : Function → ℕ → Option ValueId
lent_by f n = lent_in (borrows_of f) n
