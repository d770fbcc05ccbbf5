-- What an item does to the values that begin and end: ends in operand order, then uses, then begins.
use Rattle.std.specs.Prelude.{List, [], ◌∷◌, ◌++◌, Bool, true, false, ◌==◌, Option, Some, None, map, cond}
use Rattle.std.specs.List.{flat_map, list_any}
use Rattle.instruction_table.specs.declared.entries.Role.{Role}
use Rattle.instruction_table.specs.declared.entries.Role.TheVariants as role
use Rattle.sil_ast.specs.declared.function.Function.{Function}
use Rattle.sil_ast.specs.declared.place.ValueId.{ValueId}
use Rattle.sil_cfg.specs.declared.item.Item.{Item}
use Rattle.sil_cfg_items.specs.Items.{item_defined, item_taken}
use Rattle.sil_cfg_items.specs.declared.taken.Taken.{Taken}
use Rattle.ownership_kinds_chains.specs.declared.ownership_chains.facts.Facts.{Facts}
use Rattle.sil_types_declarations.specs.declared.type_definitions.kind.Kind.{Kind}
use Rattle.sil_types_declarations.specs.declared.type_definitions.kind.Kind.TheVariants as kind
use Rattle.ownership_kinds_chains.specs.declared.ownership_marks.mark.Mark.{Mark}
use Rattle.ownership_kinds_chains.specs.declared.ownership_marks.mark.MarkSort.TheVariants.{End, Use, Begin}

abbrev pub end_of : ValueId → Mark
end_of v = record { subject = v; sort = End }

abbrev pub use_of : ValueId → Mark
use_of v = record { subject = v; sort = Use }

abbrev pub begin_of : ValueId → Mark
begin_of v = record { subject = v; sort = Begin }

-- the role ends an Owned value
abbrev pub ends_owned : Role → Bool
ends_owned role.Consumed = true
ends_owned role.Forwarded = true
ends_owned role.Used = false
ends_owned role.Lent = false
ends_owned role.AddressRole = false
ends_owned role.AnyRole = false
ends_owned role.ScopeRole = false
ends_owned role.ByParameter = false
ends_owned role.Counted = false

-- the role ends a scope
abbrev pub ends_scope : Role → Bool
ends_scope role.Consumed = false
ends_scope role.Forwarded = false
ends_scope role.Used = false
ends_scope role.Lent = false
ends_scope role.AddressRole = false
ends_scope role.AnyRole = false
ends_scope role.ScopeRole = true
ends_scope role.ByParameter = false
ends_scope role.Counted = false

abbrev pub ended_by : Kind → Role → ValueId → List Mark
ended_by kind.Owned r v = cond (ends_owned r) (end_of v ∷ []) []
ended_by kind.Guaranteed r v = cond (ends_scope r) (end_of v ∷ []) []
ended_by kind.Plain r v = []

-- an Owned value is used by each operand that doesn't end it, and a value's bases by each that doesn't end the scope
abbrev pub used_by : Kind → Role → ValueId → List ValueId → List Mark
used_by kind.Owned r v bases = cond (ends_owned r) [] (use_of v ∷ [])
used_by kind.Guaranteed r v bases = cond (ends_scope r) [] (map use_of bases)
used_by kind.Plain r v bases = []

abbrev pub ended_with : Option Facts → Taken → List Mark
ended_with None t = []
ended_with (Some f) t = ended_by f.kind t.role t.value

abbrev pub used_with : Option Facts → Taken → List Mark
used_with None t = []
used_with (Some f) t = used_by f.kind t.role t.value f.bases

abbrev pub is_in : ValueId → List ValueId → Bool
is_in v vs = list_any (λ w. w.0 == v.0) vs

abbrev pub is_own_base : Kind → ValueId → List ValueId → Bool
is_own_base kind.Owned v bases = true
is_own_base kind.Guaranteed v bases = is_in v bases
is_own_base kind.Plain v bases = false

-- an Owned value, a borrow and a `@guaranteed` argument of the entry begin where they are defined
abbrev pub begun_with : Option Facts → ValueId → List Mark
begun_with None v = []
begun_with (Some f) v = cond (is_own_base f.kind v f.bases) (begin_of v ∷ []) []

module _ (facts : ValueId → Option Facts) where
  abbrev pub ended : Taken → List Mark
  ended t = ended_with (facts t.value) t

  abbrev pub used : Taken → List Mark
  used t = used_with (facts t.value) t

  abbrev pub begun : ValueId → List Mark
  begun v = begun_with (facts v) v

  -- the marks of some operands and of the values that are defined behind them
  abbrev pub marks_with : List Taken → List ValueId → List Mark
  marks_with taken defined = flat_map ended taken ++ flat_map used taken ++ flat_map begun defined

-- the marks of an item
abbrev pub marks_of : (ValueId → Option Facts) → Function → Item → List Mark
marks_of facts f item = marks_with facts (item_taken f item) (item_defined f item)
