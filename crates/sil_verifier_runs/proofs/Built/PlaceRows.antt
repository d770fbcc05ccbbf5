-- Rows that do something at the place of an operand: which operand that is, and what they do there.
use Rattle.std.proofs.Common.{◌≡◌, List, [], ◌∷◌, ◌++◌, append-nil, length, refl, sym, ap, ◌∙◌, Bool, true, false, Some, None}
use Rattle.std.specs.Prelude.{Contains, cond, option_map}
use Rattle.std.specs.List.{flat_map}
use Rattle.std.specs.Option.{option_or, option_to_list}
use Rattle.std.proofs.lemmas.Bool.{false≢true}
use Rattle.argument_conventions.specs.declared.convention.ArgumentConvention.{ArgumentConvention}
use Rattle.instruction_table.specs.Forms.{roles_of}
use Rattle.instruction_table.specs.declared.entries.Role.{Role}
use Rattle.instruction_table.specs.declared.entries.Role.TheVariants as role
use Rattle.instruction_table.specs.declared.op.Op.{Op}
use Rattle.instruction_table.specs.declared.op.Op.TheVariants as op
use Rattle.sil_verifier_frames.specs.holder_model.Effects.{effect_of}
use Rattle.sil_verifier_frames.specs.holder_model.declared.row_effect.RowEffect.{RowEffect}
use Rattle.sil_verifier_frames.specs.holder_model.declared.row_effect.RowEffect.TheVariants as row
use Rattle.sil_verifier_frames.specs.memory_rules_accesses.Operations.{access_kind_of, is_address_role, operated, operated_at, operation_at, operation_by, operations_of}
use Rattle.sil_verifier_frames.specs.memory_rules_accesses.declared.access.Operation.{Operation}
use Rattle.sil_verifier_frames.specs.memory_rules_accesses.declared.access.Operation.TheVariants.{Handed}
use Rattle.sil_cfg_items.specs.Items.{item_taken, taken_in}
use Rattle.sil_cfg_items.specs.Parts.{inst_at}
use Rattle.sil_cfg_items.specs.Roles.{by_row, conventions_in, roles_for, taken_as, taken_by, taken_each}
use Rattle.sil_cfg_items.specs.declared.taken.Taken.{Taken}
use Rattle.numbered_form.proofs.PointChecks.Among.{Among, among_flat, among_option, contained_among}
use Rattle.sil_ast.specs.declared.function.Function.{Function}
use Rattle.sil_ast.specs.declared.inst.Inst.{Inst}
use Rattle.sil_ast.specs.declared.operands.Operand.{Operand}
use Rattle.sil_ast.specs.declared.place.PointId.{PointId}
use Rattle.sil_cfg.specs.declared.item.Item.TheVariants as item

-- ---- rows

abbrev pub is_at_place : RowEffect → Bool
is_at_place row.RemovesSlot = true
is_at_place row.LoadsValue = true
is_at_place row.LoadsName = true
is_at_place row.DestroysPlace = true
is_at_place _ = false

abbrev pub is_store : RowEffect → Bool
is_store row.StoresValue = true
is_store _ = false

-- its one operand is an address
pub place_roles : (o : Op) → is_at_place (effect_of o) ≡ true → roles_of o ≡ role.AddressRole ∷ []
place_roles op.DeallocStack e = refl
place_roles op.Load e = refl
place_roles op.LoadBorrow e = refl
place_roles op.DestroyAddr e = refl
place_roles op.LoadWeak e = refl
place_roles op.LoadUnowned e = refl
place_roles _ e = absurd (false≢true e)

-- a store has a value before the address
pub record StoreRoles (o : Op) : Type 0 where
  pub first : Role
  pub are : roles_of o ≡ first ∷ role.AddressRole ∷ []
  pub value : is_address_role first ≡ false

pub store_roles : (o : Op) → is_store (effect_of o) ≡ true → StoreRoles o
store_roles op.Store e = record { first = role.Consumed; are = refl; value = refl }
store_roles op.StoreWeak e = record { first = role.Used; are = refl; value = refl }
store_roles op.StoreUnowned e = record { first = role.Used; are = refl; value = refl }
store_roles _ e = absurd (false≢true e)

-- ---- what an instruction takes

pub inst_taken : (f : Function) (p : PointId) (x : Inst) → inst_at f p ≡ Some x → item_taken f (item.Inst p) ≡ taken_by x
inst_taken f p x is = ap (λ o. taken_in o ++ []) is ∙ append-nil (taken_by x)

-- the operand is an address, and isn't handed over
pub record IsAddressed (y : Taken) : Type 0 where
  pub address : y.role ≡ role.AddressRole
  pub handed : y.handed ≡ None

one_addressed : (os : List Operand) (cs : List ArgumentConvention) (y : Taken) → taken_each os (roles_for (role.AddressRole ∷ []) cs (length os)) ≡ y ∷ [] → IsAddressed y
one_addressed [] cs y e = cc
one_addressed (o ∷ os) cs y e =
    let same : taken_as o (by_row role.AddressRole) ≡ y = cc in
    record { address = sym (ap (λ (t : Taken). t.role) same); handed = sym (ap (λ (t : Taken). t.handed) same) }

two_addressed : (os : List Operand) (r : Role) (cs : List ArgumentConvention) (u y : Taken) → taken_each os (roles_for (r ∷ role.AddressRole ∷ []) cs (length os)) ≡ u ∷ y ∷ []
    → IsAddressed y × (u.role ≡ r) × (u.handed ≡ None)
two_addressed [] r cs u y e = cc
two_addressed (o ∷ os) r cs u y e =
    let rest : taken_each os (roles_for (role.AddressRole ∷ []) cs (length os)) ≡ y ∷ [] = cc in
    let same : taken_as o (by_row r) ≡ u = cc in
    (one_addressed os cs y rest, sym (ap (λ (t : Taken). t.role) same), sym (ap (λ (t : Taken). t.handed) same))

module _ (x : Inst) where
  -- an instruction with one address
  pub place_operand : (y : Taken) → is_at_place (effect_of x.op) ≡ true → taken_by x ≡ y ∷ [] → IsAddressed y
  place_operand y e alone =
      one_addressed x.operands (conventions_in x) y
      (ap (λ rs. taken_each x.operands (roles_for rs (conventions_in x) (length x.operands))) (sym (place_roles x.op e)) ∙ alone)

  pub store_operand : (u y : Taken) → is_store (effect_of x.op) ≡ true → taken_by x ≡ u ∷ y ∷ [] → IsAddressed y × (is_address_role u.role ≡ false) × (u.handed ≡ None)
  store_operand u y e two =
      let roles = store_roles x.op e in
      let are = two_addressed x.operands roles.first (conventions_in x) u y
      (ap (λ rs. taken_each x.operands (roles_for rs (conventions_in x) (length x.operands))) (sym roles.are) ∙ two) in
      (are.0, ap is_address_role are.1 ∙ roles.value, are.2)

  operation_is : (y : Taken) (o : Operation) → IsAddressed y → operation_by (access_kind_of x.op) x.qualifier ≡ Some o
      → operation_at (access_kind_of x.op) x.qualifier y ≡ Some o
  operation_is y o at done =
      ap (λ h. option_or (option_map Handed h) (cond (is_address_role y.role) (operation_by (access_kind_of x.op) x.qualifier) None)) at.handed
      ∙ ap (λ r. cond (is_address_role r) (operation_by (access_kind_of x.op) x.qualifier) None) at.address ∙ done

  -- at the operand's address it does what its row says
  pub operates_at : (y : Taken) (o : Operation) → Among y (taken_by x) → IsAddressed y → operation_by (access_kind_of x.op) x.qualifier ≡ Some o
      → Contains (operations_of x) (operated y.value o)
  operates_at y o among at done =
      contained_among (operated y.value o) (operations_of x)
      (among_flat (operated_at (access_kind_of x.op) x.qualifier) (operated y.value o) y (taken_by x) among
      (among_option (option_map (operated y.value) (operation_at (access_kind_of x.op) x.qualifier y)) (operated y.value o) (ap (option_map (operated y.value)) (operation_is y o at done))))

  -- and nothing else, where it stores
  pub store_alone : (u y : Taken) (o : Operation) → is_store (effect_of x.op) ≡ true → taken_by x ≡ u ∷ y ∷ [] → operation_by (access_kind_of x.op) x.qualifier ≡ Some o
      → operations_of x ≡ operated y.value o ∷ []
  store_alone u y o e two done =
      let are = store_operand u y e two in
      ap (λ ts. flat_map (operated_at (access_kind_of x.op) x.qualifier) ts) two
      ∙ ap (λ z. option_to_list (option_map (operated u.value) z) ++ flat_map (operated_at (access_kind_of x.op) x.qualifier) (y ∷ [])) (nothing u are.1 are.2)
      ∙ ap (λ z. option_to_list (option_map (operated y.value) z) ++ []) (operation_is y o are.0 done)
    where
      nothing : (u : Taken) → is_address_role u.role ≡ false → u.handed ≡ None → operation_at (access_kind_of x.op) x.qualifier u ≡ None
      nothing u value handed =
          ap (λ h. option_or (option_map Handed h) (cond (is_address_role u.role) (operation_by (access_kind_of x.op) x.qualifier) None)) handed
          ∙ ap (λ b. cond b (operation_by (access_kind_of x.op) x.qualifier) None) value
