-- What the table of instructions says of rows that lend.
use Rattle.std.proofs.Common.{◌≡◌, ℕ, zero, suc, List, [], ◌∷◌, refl, ap, ◌∙◌, Bool, true, false, ◌||◌, ◌⊎◌, inl, inr, Some}
use Rattle.std.specs.Prelude.{slice_get, replicate, map}
use Rattle.std.proofs.lemmas.Bool.{false≢true}
use Rattle.argument_conventions.specs.declared.convention.ArgumentConvention.{ArgumentConvention}
use Rattle.argument_conventions.specs.declared.convention.ArgumentConvention.TheVariants.{Plain, Owned, Guaranteed, Address}
use Rattle.instruction_table.specs.Forms.{result_kind_of, roles_of}
use Rattle.instruction_table.specs.declared.entries.ResultKind.{ResultKind}
use Rattle.instruction_table.specs.declared.entries.ResultKind.TheVariants.{AddressResult, ForwardedResult, NoneResult, OperandResult, OwnedResult, ScopeResult}
use Rattle.instruction_table.specs.declared.entries.Role.{Role}
use Rattle.instruction_table.specs.declared.entries.Role.TheVariants as role
use Rattle.instruction_table.specs.declared.op.Op.{Op}
use Rattle.instruction_table.specs.declared.op.Op.TheVariants as op
use Rattle.sil_cfg_items.specs.Roles.{by_convention, by_row, last_roles, role_handed, roles_for}
use Rattle.sil_cfg_items.specs.declared.taken.Treatment.{Treatment}
use Rattle.sil_verifier_frames.specs.holder_model.declared.row_effect.RowEffect.{RowEffect}
use Rattle.sil_verifier_frames.specs.holder_model.declared.row_effect.RowEffect.TheVariants as row
use Rattle.sil_verifier_frames.specs.holder_model.Effects.{effect_of}

-- ---- the kinds of results by what the row does

abbrev is_owned_kind : ResultKind → Bool
is_owned_kind OwnedResult = true
is_owned_kind NoneResult = false
is_owned_kind ScopeResult = false
is_owned_kind AddressResult = false
is_owned_kind ForwardedResult = false
is_owned_kind OperandResult = false

abbrev is_handing_kind : ResultKind → Bool
is_handing_kind ForwardedResult = true
is_handing_kind OperandResult = true
is_handing_kind OwnedResult = false
is_handing_kind NoneResult = false
is_handing_kind ScopeResult = false
is_handing_kind AddressResult = false

abbrev is_address_kind : ResultKind → Bool
is_address_kind AddressResult = true
is_address_kind ForwardedResult = false
is_address_kind OperandResult = false
is_address_kind OwnedResult = false
is_address_kind NoneResult = false
is_address_kind ScopeResult = false

pub owned_is : (k : ResultKind) → is_owned_kind k ≡ true → k ≡ OwnedResult
owned_is OwnedResult e = refl
owned_is NoneResult e = absurd (false≢true e)
owned_is ScopeResult e = absurd (false≢true e)
owned_is AddressResult e = absurd (false≢true e)
owned_is ForwardedResult e = absurd (false≢true e)
owned_is OperandResult e = absurd (false≢true e)

pub address_is : (k : ResultKind) → is_address_kind k ≡ true → k ≡ AddressResult
address_is AddressResult e = refl
address_is OwnedResult e = absurd (false≢true e)
address_is NoneResult e = absurd (false≢true e)
address_is ScopeResult e = absurd (false≢true e)
address_is ForwardedResult e = absurd (false≢true e)
address_is OperandResult e = absurd (false≢true e)

pub handing_is : (k : ResultKind) → is_handing_kind k ≡ true → (k ≡ ForwardedResult) ⊎ (k ≡ OperandResult)
handing_is ForwardedResult e = inl refl
handing_is OperandResult e = inr refl
handing_is OwnedResult e = absurd (false≢true e)
handing_is NoneResult e = absurd (false≢true e)
handing_is ScopeResult e = absurd (false≢true e)
handing_is AddressResult e = absurd (false≢true e)

abbrev owns : RowEffect → Bool
owns row.MakesObject = true
owns row.CopiesOperand = true
owns row.LoadsName = true
owns e = false

abbrev hands : RowEffect → Bool
hands row.Groups = true
hands row.ChoosesCase = true
hands row.GivesMember = true
hands row.GivesMembers = true
hands e = false

abbrev addresses : RowEffect → Bool
addresses row.AddressesMember = true
addresses row.AddressesField = true
addresses e = false

owning_row : (o : Op) → owns (effect_of o) ≡ true → is_owned_kind (result_kind_of o) ≡ true
owning_row op.AllocRef e = refl
owning_row _ e = cc

handing_row : (o : Op) → hands (effect_of o) ≡ true → is_handing_kind (result_kind_of o) ≡ true
handing_row op.Struct e = refl
handing_row _ e = cc

address_row : (o : Op) → addresses (effect_of o) ≡ true → is_address_kind (result_kind_of o) ≡ true
address_row op.RefElementAddr e = refl
address_row _ e = cc

within : (o : Op) (e : RowEffect) → (test : RowEffect → Bool) → effect_of o ≡ e → test e ≡ true → test (effect_of o) ≡ true
within o e test is h = ap test is ∙ h

pub object_owned : (o : Op) → effect_of o ≡ row.MakesObject → result_kind_of o ≡ OwnedResult
object_owned o e = owned_is (result_kind_of o) (owning_row o (within o row.MakesObject owns e refl))

pub copy_owned : (o : Op) → effect_of o ≡ row.CopiesOperand → result_kind_of o ≡ OwnedResult
copy_owned o e = owned_is (result_kind_of o) (owning_row o (within o row.CopiesOperand owns e refl))

pub name_owned : (o : Op) → effect_of o ≡ row.LoadsName → result_kind_of o ≡ OwnedResult
name_owned o e = owned_is (result_kind_of o) (owning_row o (within o row.LoadsName owns e refl))

pub group_hands : (o : Op) → effect_of o ≡ row.Groups → (result_kind_of o ≡ ForwardedResult) ⊎ (result_kind_of o ≡ OperandResult)
group_hands o e = handing_is (result_kind_of o) (handing_row o (within o row.Groups hands e refl))

pub case_hands : (o : Op) → effect_of o ≡ row.ChoosesCase → (result_kind_of o ≡ ForwardedResult) ⊎ (result_kind_of o ≡ OperandResult)
case_hands o e = handing_is (result_kind_of o) (handing_row o (within o row.ChoosesCase hands e refl))

pub member_hands : (o : Op) → effect_of o ≡ row.GivesMember → (result_kind_of o ≡ ForwardedResult) ⊎ (result_kind_of o ≡ OperandResult)
member_hands o e = handing_is (result_kind_of o) (handing_row o (within o row.GivesMember hands e refl))

pub members_hand : (o : Op) → effect_of o ≡ row.GivesMembers → (result_kind_of o ≡ ForwardedResult) ⊎ (result_kind_of o ≡ OperandResult)
members_hand o e = handing_is (result_kind_of o) (handing_row o (within o row.GivesMembers hands e refl))

pub part_address : (o : Op) → effect_of o ≡ row.AddressesMember → result_kind_of o ≡ AddressResult
part_address o e = address_is (result_kind_of o) (address_row o (within o row.AddressesMember addresses e refl))

pub field_address : (o : Op) → effect_of o ≡ row.AddressesField → result_kind_of o ≡ AddressResult
field_address o e = address_is (result_kind_of o) (address_row o (within o row.AddressesField addresses e refl))

-- what is handed on as a whole: by `move_value`, by `upcast`, or by `begin_borrow`, which uses its one operand
pub record Opens (o : Op) : Type 0 where
  pub scope : result_kind_of o ≡ ScopeResult
  pub uses : roles_of o ≡ role.Used ∷ []

pub data Gives (o : Op) : Type 0 where
  moves : result_kind_of o ≡ OwnedResult → Gives o
  hands_on : result_kind_of o ≡ ForwardedResult → Gives o
  opens : Opens o → Gives o

pub giving_row : (o : Op) → effect_of o ≡ row.GivesOperand → Gives o
giving_row op.MoveValue e = moves refl
giving_row op.Upcast e = hands_on refl
giving_row op.BeginBorrow e = opens (record { scope = refl; uses = refl })
giving_row _ e = cc

pub loading_row : (o : Op) → effect_of o ≡ row.LoadsValue → (result_kind_of o ≡ OwnedResult) ⊎ (result_kind_of o ≡ ScopeResult)
loading_row op.Load e = inl refl
loading_row op.LoadBorrow e = inr refl
loading_row _ e = cc

-- ---- only `end_borrow` ends a scope

abbrev pub is_scope_role : Role → Bool
is_scope_role role.ScopeRole = true
is_scope_role role.Consumed = false
is_scope_role role.Used = false
is_scope_role role.Lent = false
is_scope_role role.Forwarded = false
is_scope_role role.AddressRole = false
is_scope_role role.AnyRole = false
is_scope_role role.ByParameter = false
is_scope_role role.Counted = false

abbrev pub has_scope_role : List Role → Bool
has_scope_role [] = false
has_scope_role (r ∷ rs) = is_scope_role r || has_scope_role rs

pub replicated : {A : Type 0} (n : ℕ) (x : A) (k : ℕ) (y : A) → slice_get (replicate n x) k ≡ Some y → x ≡ y
replicated zero x k y e = cc
replicated (suc n) x zero y e = cc
replicated (suc n) x (suc k) y e = replicated n x k y e

handed_role : (cs : List ArgumentConvention) (k : ℕ) (t : Treatment) → slice_get (map by_convention cs) k ≡ Some t → is_scope_role t.role ≡ true → ⊥
handed_role [] k t e h = cc
handed_role (c ∷ cs) zero t e h = at c (let same : by_convention c ≡ t = cc in ap (λ (u : Treatment). is_scope_role u.role) same ∙ h)
  where
    at : (c : ArgumentConvention) → is_scope_role (role_handed c) ≡ true → ⊥
    at Plain h = false≢true h
    at Owned h = false≢true h
    at Guaranteed h = false≢true h
    at (Address a) h = false≢true h
handed_role (c ∷ cs) (suc k) t e h = handed_role cs k t e h

last_scope : (r : Role) (cs : List ArgumentConvention) (n k : ℕ) (t : Treatment) → slice_get (last_roles r cs n) k ≡ Some t → is_scope_role t.role ≡ true → is_scope_role r ≡ true
last_scope role.ByParameter cs n k t e h = absurd (handed_role cs k t e h)
last_scope role.Consumed cs n k t e h = ap (λ (u : Treatment). is_scope_role u.role) (replicated n (by_row role.Consumed) k t e) ∙ h
last_scope role.Used cs n k t e h = ap (λ (u : Treatment). is_scope_role u.role) (replicated n (by_row role.Used) k t e) ∙ h
last_scope role.Lent cs n k t e h = ap (λ (u : Treatment). is_scope_role u.role) (replicated n (by_row role.Lent) k t e) ∙ h
last_scope role.Forwarded cs n k t e h = ap (λ (u : Treatment). is_scope_role u.role) (replicated n (by_row role.Forwarded) k t e) ∙ h
last_scope role.AddressRole cs n k t e h = ap (λ (u : Treatment). is_scope_role u.role) (replicated n (by_row role.AddressRole) k t e) ∙ h
last_scope role.AnyRole cs n k t e h = ap (λ (u : Treatment). is_scope_role u.role) (replicated n (by_row role.AnyRole) k t e) ∙ h
last_scope role.ScopeRole cs n k t e h = refl
last_scope role.Counted cs n k t e h = ap (λ (u : Treatment). is_scope_role u.role) (replicated n (by_row role.Counted) k t e) ∙ h

either_true : (a b : Bool) → b ≡ true → (a || b) ≡ true
either_true true b h = refl
either_true false b h = h

first_true : (a b : Bool) → a ≡ true → (a || b) ≡ true
first_true true b h = refl
first_true false b h = absurd (false≢true h)

pub role_of_row : (rs : List Role) (cs : List ArgumentConvention) (n k : ℕ) (t : Treatment) → slice_get (roles_for rs cs n) k ≡ Some t → is_scope_role t.role ≡ true → has_scope_role rs ≡ true
role_of_row [] cs n k t e h = cc
role_of_row (r ∷ []) cs n k t e h = first_true (is_scope_role r) false (last_scope r cs n k t e h)
role_of_row (r ∷ q ∷ rs) cs zero k t e h = cc
role_of_row (r ∷ q ∷ rs) cs (suc n) zero t e h = let same : by_row r ≡ t = cc in first_true (is_scope_role r) (has_scope_role (q ∷ rs)) (ap (λ (u : Treatment). is_scope_role u.role) same ∙ h)
role_of_row (r ∷ q ∷ rs) cs (suc n) (suc k) t e h = either_true (is_scope_role r) (has_scope_role (q ∷ rs)) (role_of_row (q ∷ rs) cs n k t e h)

pub scope_row : (o : Op) → has_scope_role (roles_of o) ≡ true → effect_of o ≡ row.NoEffect
scope_row op.EndBorrow e = refl
scope_row _ e = cc
