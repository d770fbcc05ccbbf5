-- What an instruction does to its operands, and what an edge hands over.
use Rattle.std.specs.Prelude.{ℕ, zero, suc, List, [], ◌∷◌, map, length, replicate, Option, None}
use Rattle.std.specs.List.{flat_map}
use Rattle.std.specs.Option.{option_to_list}
use Rattle.instruction_table.specs.Forms.{roles_of}
use Rattle.instruction_table.specs.declared.entries.Role.{Role}
use Rattle.instruction_table.specs.declared.entries.Role.TheVariants as role
use Rattle.sil_ast.specs.declared.inst.Edge as edge
use Rattle.sil_ast.specs.declared.inst.Inst as inst
use Rattle.sil_ast.specs.declared.operands.Operand.{Operand}
use Rattle.argument_conventions.specs.Arguments.{conventions_of}
use Rattle.argument_conventions.specs.Rows.{address_row}
use Rattle.argument_conventions.specs.declared.convention.ArgumentConvention.{ArgumentConvention}
use Rattle.argument_conventions.specs.declared.convention.ArgumentConvention.TheVariants.{Plain, Owned, Guaranteed, Address}
use Rattle.sil_cfg_items.specs.declared.taken.Taken.{Taken}
use Rattle.sil_cfg_items.specs.declared.taken.Treatment.{Treatment}
use Rattle.sil_ast.specs.declared.signature.Signature.{Signature}

abbrev pub role_handed : ArgumentConvention → Role
role_handed Plain = role.Used
role_handed Owned = role.Consumed
role_handed Guaranteed = role.Used
role_handed (Address c) = role.AddressRole

abbrev pub by_row : Role → Treatment
by_row r = record { role = r; handed = None }

abbrev pub by_convention : ArgumentConvention → Treatment
by_convention c = record { role = role_handed c; handed = address_row c }

abbrev pub conventions_by : Option Signature → List ArgumentConvention
conventions_by s = flat_map conventions_of (option_to_list s)

abbrev pub conventions_in : inst.Inst → List ArgumentConvention
conventions_in i = conventions_by i.signature

-- the last role of a row is that of this many operands, or of each as its convention says
abbrev pub last_roles : Role → List ArgumentConvention → ℕ → List Treatment
last_roles role.ByParameter conventions n = map by_convention conventions
last_roles role.Consumed conventions n = replicate n (by_row role.Consumed)
last_roles role.Used conventions n = replicate n (by_row role.Used)
last_roles role.Lent conventions n = replicate n (by_row role.Lent)
last_roles role.Forwarded conventions n = replicate n (by_row role.Forwarded)
last_roles role.AddressRole conventions n = replicate n (by_row role.AddressRole)
last_roles role.AnyRole conventions n = replicate n (by_row role.AnyRole)
last_roles role.ScopeRole conventions n = replicate n (by_row role.ScopeRole)
last_roles role.Counted conventions n = replicate n (by_row role.Counted)

-- what is done to this many operands, in order
abbrev pub roles_for : List Role → List ArgumentConvention → ℕ → List Treatment
roles_for [] conventions n = []
roles_for (r ∷ []) conventions n = last_roles r conventions n
roles_for (r ∷ q ∷ rs) conventions zero = []
roles_for (r ∷ q ∷ rs) conventions (suc n) = by_row r ∷ roles_for (q ∷ rs) conventions n

abbrev pub taken_as : Operand → Treatment → Taken
taken_as o t = record { value = o.value; role = t.role; handed = t.handed }

abbrev pub taken_each : List Operand → List Treatment → List Taken
taken_each [] ts = []
taken_each (o ∷ os) [] = []
taken_each (o ∷ os) (t ∷ ts) = taken_as o t ∷ taken_each os ts

-- the operands of an instruction, each with what is done to it
abbrev pub taken_by : inst.Inst → List Taken
taken_by i = taken_each i.operands (roles_for (roles_of i.op) (conventions_in i) (length i.operands))

abbrev pub consumed : Operand → Taken
consumed o = taken_as o (by_row role.Consumed)

-- an edge consumes what it hands over
abbrev pub taken_along : edge.Edge → List Taken
taken_along e = map consumed e.args
