-- At which operand's place an instruction does something, by its row.
use Rattle.std.proofs.Common.{◌≡◌, ℕ, zero, suc, List, [], ◌∷◌, ◌++◌, length, replicate, Bool, true, false, cond, Some, None, refl, sym, ap, ◌∙◌}
use Rattle.std.specs.Prelude.{flat_map, option_map, option_to_list}
use Rattle.std.specs.Option.{option_or}
use Rattle.std.specs.List.{list_any}
use Rattle.std.proofs.lemmas.Bool.{false≢true, or_parts, true≢false}
use Rattle.holder_model_laws.specs.holder_model.Effects.{effect_of}
use Rattle.holder_model_laws.specs.holder_model.declared.row_effect.RowEffect.{RowEffect}
use Rattle.holder_model_laws.specs.holder_model.declared.row_effect.RowEffect.TheVariants as row
use Rattle.holder_model_laws.specs.memory_rules_accesses.Operations.{access_kind_of, address_of, addresses_of, deallocates, deallocates_by}
use Rattle.holder_model_laws.specs.memory_rules_accesses.Operations.{is_address_role, operated, operated_at, operation_by, operations_of}
use Rattle.holder_model_laws.specs.memory_rules_accesses.declared.access.Operation.{Operation}
use Rattle.holder_model_laws.specs.memory_rules_accesses.declared.access.Operation.TheVariants.{Handed}
use Rattle.holder_model_laws.specs.memory_rules_accesses.declared.columns.AccessKind.{AccessKind}
use Rattle.argument_conventions.specs.declared.convention.ArgumentConvention.{ArgumentConvention}
use Rattle.instruction_table.specs.Forms.{roles_of}
use Rattle.instruction_table.specs.declared.entries.Role.{Role}
use Rattle.instruction_table.specs.declared.entries.Role.TheVariants as role
use Rattle.instruction_table.specs.declared.op.Op.{Op}
use Rattle.instruction_table.specs.declared.op.Op.TheVariants as op
use Rattle.sil_cfg_items.specs.Roles.{by_row, conventions_in, last_roles, roles_for, taken_as, taken_by, taken_each}
use Rattle.sil_cfg_items.specs.declared.taken.Taken.{Taken}
use Rattle.numbered_form.specs.Lists.{Each}
use Rattle.sil_ast.specs.declared.inst.Inst.{Inst}
use Rattle.sil_ast.specs.declared.inst.Qualifier.{Qualifier}
use Rattle.sil_ast.specs.declared.operands.Operand.{Operand}
use Rattle.sil_ast.specs.declared.place.ValueId.{ValueId}

-- the row does something at its one operand's place, or names a part of it
abbrev pub is_at_one : RowEffect → Bool
is_at_one row.LoadsValue = true
is_at_one row.LoadsName = true
is_at_one row.DestroysPlace = true
is_at_one row.RemovesSlot = true
is_at_one row.AddressesMember = true
is_at_one _ = false

-- the row puts its first operand at its second one's place
abbrev pub is_store : RowEffect → Bool
is_store row.StoresValue = true
is_store _ = false

abbrev pub is_removal : RowEffect → Bool
is_removal row.RemovesSlot = true
is_removal _ = false

one_address : (o : Op) → is_at_one (effect_of o) ≡ true → roles_of o ≡ role.AddressRole ∷ []
one_address op.Load e = refl
one_address op.LoadBorrow e = refl
one_address op.LoadWeak e = refl
one_address op.LoadUnowned e = refl
one_address op.DestroyAddr e = refl
one_address op.DeallocStack e = refl
one_address op.StructElementAddr e = refl
one_address op.TupleElementAddr e = refl
one_address o e = absurd (false≢true e)

second_address : (o : Op) → is_store (effect_of o) ≡ true → (r : Role) × (roles_of o ≡ r ∷ role.AddressRole ∷ []) × (is_address_role r ≡ false)
second_address op.Store e = (_, refl, refl)
second_address op.StoreWeak e = (_, refl, refl)
second_address op.StoreUnowned e = (_, refl, refl)
second_address o e = absurd (false≢true e)

pub keeps_slot : (o : Op) → is_removal (effect_of o) ≡ false → deallocates_by (access_kind_of o) ≡ false
keeps_slot op.DeallocStack e = absurd (true≢false e)
keeps_slot o e = refl

-- ---- what is taken

all_addresses : (os : List Operand) (n : ℕ) (t : Taken) → taken_each os (replicate n (by_row role.AddressRole)) ≡ t ∷ []
    → (t.role ≡ role.AddressRole) × (t.handed ≡ None)
all_addresses [] n t e = cc
all_addresses (o ∷ os) zero t e = cc
all_addresses (o ∷ os) (suc n) t e =
    let same : taken_as o (by_row role.AddressRole) ≡ t = cc in
    (ap (λ x. x.role) (sym same), ap (λ x. x.handed) (sym same))

pub record TakesAddress (i : Inst) (t : Taken) : Type 0 where
  pub role_is : t.role ≡ role.AddressRole
  pub handed : t.handed ≡ None

pub takes_one : (i : Inst) (t : Taken) → is_at_one (effect_of i.op) ≡ true → taken_by i ≡ t ∷ [] → TakesAddress i t
takes_one i t is e =
    let all = all_addresses i.operands (length i.operands) t (sym (ap (λ rs. taken_each i.operands (roles_for rs (conventions_in i) (length i.operands))) (one_address i.op is)) ∙ e) in
    record { role_is = all.0; handed = all.1 }

second_of : (r : Role) (cs : List ArgumentConvention) (os : List Operand) (n : ℕ) (s t : Taken) → taken_each os (roles_for (r ∷ role.AddressRole ∷ []) cs n) ≡ s ∷ t ∷ []
    → (s.role ≡ r) × (s.handed ≡ None) × (t.role ≡ role.AddressRole) × (t.handed ≡ None)
second_of r cs [] n s t e = cc
second_of r cs (o ∷ os) zero s t e = cc
second_of r cs (o ∷ os) (suc n) s t e =
    let same : taken_as o (by_row r) ≡ s = cc in
    let others : taken_each os (replicate n (by_row role.AddressRole)) ≡ t ∷ [] = cc in
    let all = all_addresses os n t others in
    (ap (λ x. x.role) (sym same), ap (λ x. x.handed) (sym same), all.0, all.1)

pub takes_second : (i : Inst) (s t : Taken) → is_store (effect_of i.op) ≡ true → taken_by i ≡ s ∷ t ∷ [] → TakesAddress i t
takes_second i s t is e =
    let roles = second_address i.op is in
    let all = second_of roles.0 (conventions_in i) i.operands (length i.operands) s t
    (sym (ap (λ rs. taken_each i.operands (roles_for rs (conventions_in i) (length i.operands))) roles.1) ∙ e) in
    record { role_is = all.2; handed = all.3 }

-- ---- what is done

-- an operand that isn't handed over
at_operand : (i : Inst) (t : Taken) → t.handed ≡ None → (b : Bool) → is_address_role t.role ≡ b
    → operated_at (access_kind_of i.op) i.qualifier t ≡ option_to_list (option_map (operated t.value) (cond b (operation_by (access_kind_of i.op) i.qualifier) None))
at_operand i t none b e =
    ap (λ h. option_to_list (option_map (operated t.value) (option_or (option_map Handed h) (cond (is_address_role t.role) (operation_by (access_kind_of i.op) i.qualifier) None)))) none
    ∙ ap (λ b. option_to_list (option_map (operated t.value) (cond b (operation_by (access_kind_of i.op) i.qualifier) None))) e

at_address : (i : Inst) (t : Taken) → t.role ≡ role.AddressRole → t.handed ≡ None → (o : Operation) → operation_by (access_kind_of i.op) i.qualifier ≡ Some o
    → operated_at (access_kind_of i.op) i.qualifier t ≡ operated t.value o ∷ []
at_address i t is none o by = at_operand i t none true (ap is_address_role is) ∙ ap (λ x. option_to_list (option_map (operated t.value) x)) by

pub one_operation : (i : Inst) (t : Taken) (o : Operation) → is_at_one (effect_of i.op) ≡ true → taken_by i ≡ t ∷ []
    → operation_by (access_kind_of i.op) i.qualifier ≡ Some o → operations_of i ≡ operated t.value o ∷ []
one_operation i t o is e by =
    let at = takes_one i t is e in
    ap (flat_map (operated_at (access_kind_of i.op) i.qualifier)) e
    ∙ ap (λ xs. xs ++ []) (at_address i t at.role_is at.handed o by)

pub store_operation : (i : Inst) (s t : Taken) (o : Operation) → is_store (effect_of i.op) ≡ true → taken_by i ≡ s ∷ t ∷ []
    → operation_by (access_kind_of i.op) i.qualifier ≡ Some o → operations_of i ≡ operated t.value o ∷ []
store_operation i s t o is e by =
    let roles = second_address i.op is in
    let all = second_of roles.0 (conventions_in i) i.operands (length i.operands) s t
    (sym (ap (λ rs. taken_each i.operands (roles_for rs (conventions_in i) (length i.operands))) roles.1) ∙ e) in
    ap (flat_map (operated_at (access_kind_of i.op) i.qualifier)) e
    ∙ ap (λ xs. xs ++ (operated_at (access_kind_of i.op) i.qualifier t ++ [])) (at_operand i s all.1 false (ap is_address_role all.0 ∙ roles.2))
    ∙ ap (λ xs. xs ++ []) (at_address i t all.2 all.3 o by)

-- ---- rows that do nothing at places

abbrev pub is_quiet : RowEffect → Bool
is_quiet row.LoadsValue = false
is_quiet row.LoadsName = false
is_quiet row.DestroysPlace = false
is_quiet row.StoresValue = false
is_quiet row.RemovesSlot = false
is_quiet row.CallsFunction = false
is_quiet _ = true

abbrev by_parameter : Role → Bool
by_parameter role.ByParameter = true
by_parameter _ = false

abbrev NotHanded : Taken → Type 0
NotHanded t = t.handed ≡ None

none_taken : (os : List Operand) → Each NotHanded (taken_each os [])
none_taken [] = tt
none_taken (o ∷ os) = tt

alike_taken : (r : Role) (os : List Operand) (n : ℕ) → Each NotHanded (taken_each os (replicate n (by_row r)))
alike_taken r [] n = tt
alike_taken r (o ∷ os) zero = tt
alike_taken r (o ∷ os) (suc n) = (refl, alike_taken r os n)

last_taken : (r : Role) (cs : List ArgumentConvention) (os : List Operand) (n : ℕ) → by_parameter r ≡ false → Each NotHanded (taken_each os (last_roles r cs n))
last_taken role.ByParameter cs os n e = absurd (true≢false e)
last_taken r cs os n e = alike_taken r os n

each_taken : (rs : List Role) (cs : List ArgumentConvention) (os : List Operand) (n : ℕ) → list_any by_parameter rs ≡ false
    → Each NotHanded (taken_each os (roles_for rs cs n))
each_taken [] cs os n e = none_taken os
each_taken (r ∷ []) cs os n e = last_taken r cs os n (or_parts (by_parameter r) false e).0
each_taken (r ∷ q ∷ rs) cs os zero e = none_taken os
each_taken (r ∷ q ∷ rs) cs [] (suc n) e = tt
each_taken (r ∷ q ∷ rs) cs (o ∷ os) (suc n) e = (refl, each_taken (q ∷ rs) cs os n (or_parts (by_parameter r) (list_any by_parameter (q ∷ rs)) e).1)

quiet_roles : (o : Op) → is_quiet (effect_of o) ≡ true → list_any by_parameter (roles_of o) ≡ false
quiet_roles op.Apply e = absurd (false≢true e)
quiet_roles o e = refl

quiet_access : (o : Op) → is_quiet (effect_of o) ≡ true → (q : Qualifier) → operation_by (access_kind_of o) q ≡ None
quiet_access op.Load e q = absurd (false≢true e)
quiet_access op.LoadBorrow e q = absurd (false≢true e)
quiet_access op.LoadWeak e q = absurd (false≢true e)
quiet_access op.LoadUnowned e q = absurd (false≢true e)
quiet_access op.DestroyAddr e q = absurd (false≢true e)
quiet_access op.Store e q = absurd (false≢true e)
quiet_access op.StoreWeak e q = absurd (false≢true e)
quiet_access op.StoreUnowned e q = absurd (false≢true e)
quiet_access o e q = refl

pub nothing_at : (k : AccessKind) (q : Qualifier) (t : Taken) → t.handed ≡ None → operation_by k q ≡ None → operated_at k q t ≡ []
nothing_at k q t none not_so =
    ap (λ h. option_to_list (option_map (operated t.value) (option_or (option_map Handed h) (cond (is_address_role t.role) (operation_by k q) None)))) none
    ∙ at (is_address_role t.role)
  where
    at : (b : Bool) → option_to_list (option_map (operated t.value) (cond b (operation_by k q) None)) ≡ []
    at true = ap (λ o. option_to_list (option_map (operated t.value) o)) not_so
    at false = refl

nothing_done : (k : AccessKind) (q : Qualifier) → operation_by k q ≡ None → (ts : List Taken) → Each NotHanded ts → flat_map (operated_at k q) ts ≡ []
nothing_done k q not_so [] none = refl
nothing_done k q not_so (t ∷ ts) none = ap (λ xs. xs ++ flat_map (operated_at k q) ts) (nothing_at k q t none.0 not_so) ∙ nothing_done k q not_so ts none.1

pub no_operation : (i : Inst) → is_quiet (effect_of i.op) ≡ true → operations_of i ≡ []
no_operation i e =
    nothing_done (access_kind_of i.op) i.qualifier (quiet_access i.op e i.qualifier) (taken_by i)
    (each_taken (roles_of i.op) (conventions_in i) i.operands (length i.operands) (quiet_roles i.op e))

-- an instruction that isn't a removal deallocates nothing
pub not_removed : (i : Inst) → is_removal (effect_of i.op) ≡ false → deallocates i ≡ false
not_removed i e = keeps_slot i.op e

-- ---- a removal

removal_access : (o : Op) → is_removal (effect_of o) ≡ true → (deallocates_by (access_kind_of o) ≡ true) × ((q : Qualifier) → operation_by (access_kind_of o) q ≡ None)
removal_access op.DeallocStack e = (refl, λ q. refl)
removal_access o e = absurd (false≢true e)

removal_is_one : (r : RowEffect) → is_removal r ≡ true → is_at_one r ≡ true
removal_is_one row.RemovesSlot e = refl
removal_is_one r e = absurd (false≢true e)

-- a removal deallocates its operand, and does nothing else
pub record Removes (i : Inst) (v : ValueId) : Type 0 where
  pub deallocates_it : deallocates i ≡ true
  pub addresses : addresses_of i ≡ v ∷ []
  pub nothing : operations_of i ≡ []

pub removal : (i : Inst) (t : Taken) → is_removal (effect_of i.op) ≡ true → taken_by i ≡ t ∷ [] → Removes i t.value
removal i t is e =
    let access = removal_access i.op is in
    let at = takes_one i t (removal_is_one (effect_of i.op) is) e in
    record {
      deallocates_it = access.0;
      addresses = ap (flat_map address_of) e ∙ ap (λ b. cond b (t.value ∷ []) [] ++ []) (ap is_address_role at.role_is);
      nothing = ap (flat_map (operated_at (access_kind_of i.op) i.qualifier)) e
          ∙ ap (λ xs. xs ++ []) (nothing_at (access_kind_of i.op) i.qualifier t at.handed (access.1 i.qualifier));
    }
