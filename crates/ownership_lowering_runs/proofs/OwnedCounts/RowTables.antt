-- What the table of instructions says of each row: whether its operands end, and of what kind its results are.
use Rattle.std.proofs.Common.{◌≡◌, List, [], ◌∷◌, length, refl, sym, ap, ◌∙◌, Bool, true, false, ◌&&◌, ◌||◌}
use Rattle.std.specs.Prelude.{replicate}
use Rattle.std.proofs.lemmas.Bool.{and_parts, false≢true}
use Rattle.argument_conventions.specs.declared.convention.ArgumentConvention.{ArgumentConvention}
use Rattle.instruction_table.specs.Forms.{forms_of, is_terminator, result_kind_of, roles_of}
use Rattle.instruction_table.specs.declared.entries.ResultKind.{ResultKind}
use Rattle.instruction_table.specs.declared.entries.ResultKind.TheVariants.{AddressResult, ForwardedResult, NoneResult, OperandResult, OwnedResult, ScopeResult}
use Rattle.instruction_table.specs.declared.entries.Role.{Role}
use Rattle.instruction_table.specs.declared.entries.Role.TheVariants as role
use Rattle.instruction_table.specs.declared.op.Op.{Op}
use Rattle.instruction_table.specs.declared.op.Op.TheVariants as op
use Rattle.numbered_form.specs.Lists.{Each}
use Rattle.sil_ast.specs.declared.operands.Operand.{Operand}
use Rattle.sil_cfg_items.specs.Roles.{by_row, last_roles, roles_for, taken_each}
use Rattle.sil_cfg_items.specs.declared.taken.Taken.{Taken}
use Rattle.ownership_kinds_chains.specs.OwnershipMarks.Marks.{ends_owned}
use Rattle.sil_types.specs.Typing.FormRules.{may_stand_owned}
use Rattle.sil_verifier_runs.specs.holder_model.Effects.{effect_of}
use Rattle.sil_verifier_runs.specs.holder_model.declared.row_effect.RowEffect.{RowEffect}
use Rattle.sil_verifier_runs.specs.holder_model.declared.row_effect.RowEffect.TheVariants as row

-- an operand of this role stays
abbrev pub stays : Role → Bool
stays role.Used = true
stays role.Lent = true
stays role.AddressRole = true
stays role.AnyRole = true
stays role.ScopeRole = true
stays role.Counted = true
stays role.Consumed = false
stays role.Forwarded = false
stays role.ByParameter = false

abbrev pub all_roles : (Role → Bool) → List Role → Bool
all_roles test [] = true
all_roles test (r ∷ rs) = test r && all_roles test rs

abbrev pub is_owned : ResultKind → Bool
is_owned OwnedResult = true
is_owned NoneResult = false
is_owned ScopeResult = false
is_owned AddressResult = false
is_owned ForwardedResult = false
is_owned OperandResult = false

abbrev pub is_forwarded : ResultKind → Bool
is_forwarded ForwardedResult = true
is_forwarded NoneResult = false
is_forwarded OwnedResult = false
is_forwarded ScopeResult = false
is_forwarded AddressResult = false
is_forwarded OperandResult = false

abbrev pub is_scope : ResultKind → Bool
is_scope ScopeResult = true
is_scope NoneResult = false
is_scope OwnedResult = false
is_scope ForwardedResult = false
is_scope AddressResult = false
is_scope OperandResult = false

abbrev pub is_lent : ResultKind → Bool
is_lent OperandResult = true
is_lent NoneResult = false
is_lent OwnedResult = false
is_lent ForwardedResult = false
is_lent AddressResult = false
is_lent ScopeResult = false

abbrev pub is_address : ResultKind → Bool
is_address AddressResult = true
is_address NoneResult = false
is_address OwnedResult = false
is_address ForwardedResult = false
is_address OperandResult = false
is_address ScopeResult = false

abbrev pub is_lent_role : Role → Bool
is_lent_role role.Lent = true
is_lent_role r = false

abbrev pub is_forwarded_role : Role → Bool
is_forwarded_role role.Forwarded = true
is_forwarded_role r = false

abbrev pub is_consumed_role : Role → Bool
is_consumed_role role.Consumed = true
is_consumed_role r = false

-- what the table says of a row, by what it does
abbrev pub suits : RowEffect → Op → Bool
suits row.NoEffect o = all_roles stays (roles_of o)
suits row.GivesLiteral o = all_roles stays (roles_of o)
suits row.GivesFunction o = all_roles stays (roles_of o)
suits row.Computes o = all_roles stays (roles_of o)
suits row.TrapsWhereSet o = all_roles stays (roles_of o)
suits row.MakesObject o = all_roles stays (roles_of o) && is_owned (result_kind_of o)
suits row.MakesSlot o = all_roles stays (roles_of o)
suits row.RemovesSlot o = all_roles stays (roles_of o)
suits row.GivesOperand o = (all_roles is_consumed_role (roles_of o) && is_owned (result_kind_of o)) || ((all_roles is_forwarded_role (roles_of o) && is_forwarded (result_kind_of o))
    || (all_roles stays (roles_of o) && is_scope (result_kind_of o)))
suits row.CopiesOperand o = all_roles stays (roles_of o) && is_owned (result_kind_of o)
suits row.RetainsOperand o = false
suits row.DropsOperand o = all_roles is_consumed_role (roles_of o)
suits row.LoadsValue o = all_roles stays (roles_of o) && (is_owned (result_kind_of o) || is_scope (result_kind_of o))
suits row.StoresValue o = true
suits row.DestroysPlace o = all_roles stays (roles_of o)
suits row.LoadsName o = all_roles stays (roles_of o) && is_owned (result_kind_of o)
suits row.Groups o = all_roles is_forwarded_role (roles_of o) && is_forwarded (result_kind_of o)
suits row.ChoosesCase o = all_roles is_forwarded_role (roles_of o) && is_forwarded (result_kind_of o)
suits row.GivesMember o = all_roles is_lent_role (roles_of o) && is_lent (result_kind_of o)
suits row.GivesMembers o = all_roles is_forwarded_role (roles_of o) && is_forwarded (result_kind_of o)
suits row.AddressesMember o = all_roles stays (roles_of o) && is_address (result_kind_of o)
suits row.AddressesField o = all_roles stays (roles_of o) && is_address (result_kind_of o)
suits row.CallsFunction o = true

-- so it is of each instruction in ownership form
suited_row : (o : Op) → is_terminator o ≡ false → may_stand_owned (forms_of o) ≡ true → suits (effect_of o) o ≡ true
suited_row op.IntegerLiteral inside owned = refl
suited_row op.FunctionRef inside owned = refl
suited_row op.Builtin inside owned = refl
suited_row op.CondFail inside owned = refl
suited_row op.AllocRef inside owned = refl
suited_row op.AllocStack inside owned = refl
suited_row op.DeallocStack inside owned = refl
suited_row op.CopyValue inside owned = refl
suited_row op.DestroyValue inside owned = refl
suited_row op.MoveValue inside owned = refl
suited_row op.BeginBorrow inside owned = refl
suited_row op.EndBorrow inside owned = refl
suited_row op.Load inside owned = refl
suited_row op.Store inside owned = refl
suited_row op.LoadBorrow inside owned = refl
suited_row op.DestroyAddr inside owned = refl
suited_row op.LoadWeak inside owned = refl
suited_row op.StoreWeak inside owned = refl
suited_row op.LoadUnowned inside owned = refl
suited_row op.StoreUnowned inside owned = refl
suited_row op.Struct inside owned = refl
suited_row op.Tuple inside owned = refl
suited_row op.Enum inside owned = refl
suited_row op.StructExtract inside owned = refl
suited_row op.TupleExtract inside owned = refl
suited_row op.DestructureStruct inside owned = refl
suited_row op.DestructureTuple inside owned = refl
suited_row op.StructElementAddr inside owned = refl
suited_row op.TupleElementAddr inside owned = refl
suited_row op.RefElementAddr inside owned = refl
suited_row op.Apply inside owned = refl
suited_row op.DebugValue inside owned = refl
suited_row op.StrongRetain inside owned = cc
suited_row op.StrongRelease inside owned = cc
suited_row op.RetainValue inside owned = cc
suited_row op.ReleaseValue inside owned = cc
suited_row op.Br inside owned = cc
suited_row op.CondBr inside owned = cc
suited_row op.SwitchEnum inside owned = cc
suited_row op.Return inside owned = cc
suited_row op.Unreachable inside owned = cc
suited_row op.Upcast inside owned = refl

pub row_suits : (o : Op) (e : RowEffect) → effect_of o ≡ e → is_terminator o ≡ false → may_stand_owned (forms_of o) ≡ true → suits e o ≡ true
row_suits o e is inside owned = sym (ap (λ r. suits r o) is) ∙ suited_row o inside owned

-- ---- the roles of operands

module _ (test : Role → Bool) (never : test role.ByParameter ≡ false) where
  abbrev IsOf : Taken → Type 0
  IsOf t = test t.role ≡ true

  alike : (r : Role) → test r ≡ true → (os : List Operand) → Each IsOf (taken_each os (replicate (length os) (by_row r)))
  alike r e [] = tt
  alike r e (o ∷ os) = (e, alike r e os)

  last_of : (r : Role) (cs : List ArgumentConvention) (os : List Operand) → test r ≡ true → Each IsOf (taken_each os (last_roles r cs (length os)))
  last_of role.ByParameter cs os e = absurd (false≢true (sym never ∙ e))
  last_of role.Consumed cs os e = alike role.Consumed e os
  last_of role.Used cs os e = alike role.Used e os
  last_of role.Lent cs os e = alike role.Lent e os
  last_of role.Forwarded cs os e = alike role.Forwarded e os
  last_of role.AddressRole cs os e = alike role.AddressRole e os
  last_of role.AnyRole cs os e = alike role.AnyRole e os
  last_of role.ScopeRole cs os e = alike role.ScopeRole e os
  last_of role.Counted cs os e = alike role.Counted e os

  none_taken : (os : List Operand) → Each IsOf (taken_each os [])
  none_taken [] = tt
  none_taken (o ∷ os) = tt

  pub each_role : (rs : List Role) (cs : List ArgumentConvention) (os : List Operand) → all_roles test rs ≡ true → Each IsOf (taken_each os (roles_for rs cs (length os)))
  each_role [] cs os e = none_taken os
  each_role (r ∷ []) cs os e = last_of r cs os (and_parts (test r) true e).0
  each_role (r ∷ q ∷ rs) cs [] e = tt
  each_role (r ∷ q ∷ rs) cs (o ∷ os) e =
      let parts = and_parts (test r) (all_roles test (q ∷ rs)) e in
      (parts.0, each_role (q ∷ rs) cs os parts.1)

pub staying_role : (r : Role) → stays r ≡ true → ends_owned r ≡ false
staying_role role.Used e = refl
staying_role role.Lent e = refl
staying_role role.AddressRole e = refl
staying_role role.AnyRole e = refl
staying_role role.ScopeRole e = refl
staying_role role.Counted e = refl
staying_role role.Consumed e = cc
staying_role role.Forwarded e = cc
staying_role role.ByParameter e = cc

pub lent_role : (r : Role) → is_lent_role r ≡ true → r ≡ role.Lent
lent_role role.Lent e = refl
lent_role role.Used e = cc
lent_role role.AddressRole e = cc
lent_role role.AnyRole e = cc
lent_role role.ScopeRole e = cc
lent_role role.Counted e = cc
lent_role role.Consumed e = cc
lent_role role.Forwarded e = cc
lent_role role.ByParameter e = cc

pub forwarded_role : (r : Role) → is_forwarded_role r ≡ true → r ≡ role.Forwarded
forwarded_role role.Forwarded e = refl
forwarded_role role.Used e = cc
forwarded_role role.AddressRole e = cc
forwarded_role role.AnyRole e = cc
forwarded_role role.ScopeRole e = cc
forwarded_role role.Counted e = cc
forwarded_role role.Consumed e = cc
forwarded_role role.Lent e = cc
forwarded_role role.ByParameter e = cc

pub consumed_role : (r : Role) → is_consumed_role r ≡ true → r ≡ role.Consumed
consumed_role role.Consumed e = refl
consumed_role role.Used e = cc
consumed_role role.AddressRole e = cc
consumed_role role.AnyRole e = cc
consumed_role role.ScopeRole e = cc
consumed_role role.Counted e = cc
consumed_role role.Forwarded e = cc
consumed_role role.Lent e = cc
consumed_role role.ByParameter e = cc

-- ---- the kinds of results

pub owned_is : (k : ResultKind) → is_owned k ≡ true → k ≡ OwnedResult
owned_is OwnedResult e = refl
owned_is NoneResult e = cc
owned_is ScopeResult e = cc
owned_is AddressResult e = cc
owned_is ForwardedResult e = cc
owned_is OperandResult e = cc

pub forwarded_is : (k : ResultKind) → is_forwarded k ≡ true → k ≡ ForwardedResult
forwarded_is ForwardedResult e = refl
forwarded_is NoneResult e = cc
forwarded_is ScopeResult e = cc
forwarded_is AddressResult e = cc
forwarded_is OwnedResult e = cc
forwarded_is OperandResult e = cc

pub scope_is : (k : ResultKind) → is_scope k ≡ true → k ≡ ScopeResult
scope_is ScopeResult e = refl
scope_is NoneResult e = cc
scope_is ForwardedResult e = cc
scope_is AddressResult e = cc
scope_is OwnedResult e = cc
scope_is OperandResult e = cc

pub lent_is : (k : ResultKind) → is_lent k ≡ true → k ≡ OperandResult
lent_is OperandResult e = refl
lent_is NoneResult e = cc
lent_is ForwardedResult e = cc
lent_is AddressResult e = cc
lent_is OwnedResult e = cc
lent_is ScopeResult e = cc

pub address_is : (k : ResultKind) → is_address k ≡ true → k ≡ AddressResult
address_is AddressResult e = refl
address_is NoneResult e = cc
address_is ForwardedResult e = cc
address_is OperandResult e = cc
address_is OwnedResult e = cc
address_is ScopeResult e = cc
