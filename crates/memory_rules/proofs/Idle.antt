-- An instruction that is idle by its row does nothing to any location.
use Rattle.std.proofs.Common.{◌≡◌, ℕ, zero, suc, List, [], ◌∷◌, replicate, length, refl, ap, ◌∙◌, Bool, true, false, ◌&&◌, ◌||◌, ◌++◌, not, Option, Some, None}
use Rattle.std.specs.Prelude.{cond, option_map, ⊤}
use Rattle.std.specs.List.{flat_map}
use Rattle.std.specs.Option.{option_or, option_to_list}
use Rattle.std.proofs.lemmas.Bool.{and_parts}
use Rattle.instruction_table.specs.Forms.{roles_of}
use Rattle.instruction_table.specs.declared.entries.Role.{Role}
use Rattle.instruction_table.specs.declared.entries.Role.TheVariants as role
use Rattle.instruction_table.specs.declared.op.Op.{Op}
use Rattle.instruction_table.specs.declared.op.Op.TheVariants as op
use Rattle.sil_ast.specs.declared.inst.Inst.{Inst}
use Rattle.sil_ast.specs.declared.inst.Qualifier.{Qualifier}
use Rattle.sil_ast.specs.declared.operands.Operand.{Operand}
use Rattle.sil_ast.specs.declared.place.ValueId.{ValueId}
use Rattle.argument_conventions.specs.declared.convention.ArgumentConvention.{ArgumentConvention}
use Rattle.argument_conventions.specs.declared.row.AddressRow.{AddressRow}
use Rattle.ownership_kinds_chains.specs.sil_cfg_items.Roles.{by_row, conventions_in, last_roles, roles_for, taken_each}
use Rattle.ownership_kinds_chains.specs.sil_cfg_items.declared.taken.Treatment.{Treatment}
use Rattle.memory_rules_accesses.specs.declared.access.Operation.{Operation}
use Rattle.memory_rules_accesses.specs.declared.access.Operation.TheVariants.{Handed}
use Rattle.memory_rules_accesses.specs.declared.columns.AccessKind.{AccessKind}
use Rattle.memory_rules_accesses.specs.declared.columns.AccessKind.TheVariants.{NoAccess, AllocatesSlot, AllocatesObject, DeallocatesSlot, LendsValue, Upcasts, LendsLocation}
use Rattle.memory_rules_accesses.specs.declared.columns.AccessKind.TheVariants.{NamesField, NamesMember, NamesElement, Loads, Stores, Destroys, Passes}
use Rattle.memory_rules_accesses.specs.Operations.{access_kind_of, deallocates, deallocates_by, is_address_role, operated, operated_at, operation_by, operations_of}
use Rattle.memory_rules.specs.inner.StaticFaults.{is_idle, is_idle_by}

abbrev is_by_row : Role → Bool
is_by_row role.ByParameter = false
is_by_row _ = true

-- none of the roles is by a convention
abbrev are_by_row : List Role → Bool
are_by_row [] = true
are_by_row (r ∷ row) = is_by_row r && are_by_row row

-- an instruction with roles by conventions isn't idle: by computation, over all rows
idle_rows : (o : Op) → (not (is_idle_by (access_kind_of o)) || are_by_row (roles_of o)) ≡ true
idle_rows op.IntegerLiteral = refl
idle_rows _ = refl

implied : (a b : Bool) → a ≡ true → (not a || b) ≡ true → b ≡ true
implied true b h e = e
implied false b h e = absurd cc

-- no address is handed to a call
abbrev AreKept : List Treatment → Type 0
AreKept [] = ⊤
AreKept (t ∷ ts) = (t.handed ≡ None) × AreKept ts

kept_alike : (r : Role) (n : ℕ) → AreKept (replicate n (by_row r))
kept_alike r zero = tt
kept_alike r (suc n) = (refl, kept_alike r n)

kept_last : (r : Role) (cs : List ArgumentConvention) (n : ℕ) → is_by_row r ≡ true → AreKept (last_roles r cs n)
kept_last role.ByParameter cs n e = absurd cc
kept_last role.Consumed cs n e = kept_alike role.Consumed n
kept_last role.Used cs n e = kept_alike role.Used n
kept_last role.Lent cs n e = kept_alike role.Lent n
kept_last role.Forwarded cs n e = kept_alike role.Forwarded n
kept_last role.AddressRole cs n e = kept_alike role.AddressRole n
kept_last role.AnyRole cs n e = kept_alike role.AnyRole n
kept_last role.ScopeRole cs n e = kept_alike role.ScopeRole n
kept_last role.Counted cs n e = kept_alike role.Counted n

kept_row : (row : List Role) (cs : List ArgumentConvention) (n : ℕ) → are_by_row row ≡ true → AreKept (roles_for row cs n)
kept_row [] cs n e = tt
kept_row (r ∷ []) cs n e = kept_last r cs n (and_parts (is_by_row r) true e).0
kept_row (r ∷ q ∷ row) cs zero e = tt
kept_row (r ∷ q ∷ row) cs (suc n) e = (refl, kept_row (q ∷ row) cs n (and_parts (is_by_row r) (are_by_row (q ∷ row)) e).1)

nothing : (v : ValueId) (row : Option AddressRow) (o : Option Operation) (b : Bool) → row ≡ None → o ≡ None →
    option_to_list (option_map (operated v) (option_or (option_map Handed row) (cond b o None))) ≡ []
nothing v (Some x) o b is none = absurd cc
nothing v None (Some x) b is none = absurd cc
nothing v None None true is none = refl
nothing v None None false is none = refl

none_operated : (k : AccessKind) (q : Qualifier) → operation_by k q ≡ None → (os : List Operand) (ts : List Treatment) → AreKept ts →
    flat_map (operated_at k q) (taken_each os ts) ≡ []
none_operated k q none [] ts kept = refl
none_operated k q none (o ∷ os) [] kept = refl
none_operated k q none (o ∷ os) (t ∷ ts) kept =
    ap (λ v. v ++ flat_map (operated_at k q) (taken_each os ts)) (nothing o.value t.handed (operation_by k q) (is_address_role t.role) kept.0 none)
    ∙ none_operated k q none os ts kept.1

by_kind : (k : AccessKind) (q : Qualifier) → is_idle_by k ≡ true → (operation_by k q ≡ None) × (deallocates_by k ≡ false)
by_kind NoAccess q e = (refl, refl)
by_kind AllocatesSlot q e = (refl, refl)
by_kind AllocatesObject q e = (refl, refl)
by_kind DeallocatesSlot q e = absurd cc
by_kind LendsValue q e = (refl, refl)
by_kind Upcasts q e = (refl, refl)
by_kind LendsLocation q e = absurd cc
by_kind NamesField q e = (refl, refl)
by_kind NamesMember q e = (refl, refl)
by_kind NamesElement q e = (refl, refl)
by_kind Loads q e = absurd cc
by_kind Stores q e = absurd cc
by_kind Destroys q e = absurd cc
by_kind Passes q e = absurd cc

pub idle : (i : Inst) → is_idle i ≡ true → (operations_of i ≡ []) × (deallocates i ≡ false)
idle i e = by (by_kind (access_kind_of i.op) i.qualifier e)
  where
    kept : AreKept (roles_for (roles_of i.op) (conventions_in i) (length i.operands))
    kept = kept_row (roles_of i.op) (conventions_in i) (length i.operands) (implied (is_idle i) (are_by_row (roles_of i.op)) e (idle_rows i.op))

    by : (operation_by (access_kind_of i.op) i.qualifier ≡ None) × (deallocates_by (access_kind_of i.op) ≡ false) → (operations_of i ≡ []) × (deallocates i ≡ false)
    by r = (none_operated (access_kind_of i.op) i.qualifier r.0 i.operands (roles_for (roles_of i.op) (conventions_in i) (length i.operands)) kept, r.1)
