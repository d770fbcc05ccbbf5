-- What edges, calls and returns hand over: its kind, against that of the argument or the result that takes it.
use Rattle.std.specs.Prelude.{◌≡◌, ◌⊎◌, ⊤, ℕ, List, [], ◌∷◌, true, Some, slice_get, is_none}
use Rattle.std.specs.List.{AllZip}
use Rattle.argument_conventions.specs.Arguments.{Told, argument_type, arguments_of}
use Rattle.argument_conventions.specs.declared.convention.ArgumentConvention.{ArgumentConvention}
use Rattle.argument_conventions.specs.declared.convention.ArgumentConvention.TheVariants as convention
use Rattle.instruction_table.specs.declared.op.Op.TheVariants as op
use Rattle.numbered_form.specs.PointChecks.Points.{IsAt}
use Rattle.sil_cfg_items.specs.Parts.{edge_at, terminator_of}
use Rattle.sil_ast.specs.Blocks.{args_of}
use Rattle.sil_ast.specs.declared.function.BlockArg.{BlockArg}
use Rattle.sil_ast.specs.declared.function.Function.{Function}
use Rattle.sil_ast.specs.declared.inst.Edge.{Edge}
use Rattle.sil_ast.specs.declared.inst.Inst.{Inst}
use Rattle.sil_ast.specs.declared.operands.Operand.{Operand}
use Rattle.sil_ast.specs.declared.place.EdgeId.{EdgeId}
use Rattle.sil_ast.specs.declared.place.ValueId.{ValueId}
use Rattle.sil_ast.specs.declared.signature.Signature.{Signature}
use Rattle.holder_model_typing.specs.sil_types_declarations.TypeDefinitions.Declarations.{Declarations}
use Rattle.holder_model_typing.specs.sil_types_declarations.TypeDefinitions.Measures.{is_trivial}
use Rattle.holder_model_typing.specs.sil_types_declarations.TypeDefinitions.Mentions.{given_type}
use Rattle.holder_model_typing.specs.sil_types_declarations.declared.type_definitions.kind.Kind.{Kind}
use Rattle.holder_model_typing.specs.sil_types_declarations.declared.type_definitions.kind.Kind.TheVariants as kind
use Rattle.numbered_form.specs.ValueTables.FirstValue.{first_value}
use Rattle.sil_verifier_values.specs.inner.Bases.{IsBaseOf}
use Rattle.sil_verifier_values.specs.inner.Known.{InAccepted, kind_at, type_in}
use Rattle.sil_verifier_values.specs.inner.Operands.{MayEnd}

-- what is taken over keeps its kind, but what has no owner gets one
abbrev pub Becomes : Kind → Kind → Type 0
Becomes k q = (k ≡ q) ⊎ ((k ≡ kind.Plain) × (q ≡ kind.Owned))

-- ---- branches

-- the argument takes the operand over
pub record TakesOver (d : Declarations) (f : Function) (o : Operand) (a : BlockArg) : Type 0 where
  pub ends : MayEnd d f o.value
  pub typed : type_in d f o.value ≡ Some a.ty
  pub becomes : Becomes (kind_at d f o.value) (kind_at d f a.value)

-- along an edge of `br` and `cond_br`
abbrev pub AreTakenOver : Type 0
AreTakenOver = InAccepted (λ d f. (e : EdgeId) (i : Inst) (x : Edge) → terminator_of f e.block.0 ≡ Some i → edge_at f e ≡ Some x
    → (i.op ≡ op.Br) ⊎ (i.op ≡ op.CondBr) → AllZip (TakesOver d f) x.args (args_of f x.block.0))

-- ---- switches

-- the argument of a block takes what is switched, or its payload
pub data Takes (d : Declarations) (f : Function) (v : ValueId) (a : BlockArg) : Type 0 where
  owns : MayEnd d f v → kind_at d f a.value ≡ kind.Owned → Takes d f v a
  lends : kind_at d f v ≡ kind.Guaranteed → kind_at d f a.value ≡ kind.Guaranteed
      → ((b : ValueId) → IsBaseOf d f b v → IsBaseOf d f b a.value) → Takes d f v a
  trivial : is_trivial d a.ty ≡ true → kind_at d f a.value ≡ kind.Plain → Takes d f v a

-- a block takes at most one argument; a default takes none just where what is switched has no owner
abbrev pub TakenBy : Declarations → Function → ValueId → Edge → List BlockArg → Type 0
TakenBy d f v e [] = is_none e.case_of ≡ true → kind_at d f v ≡ kind.Plain
TakenBy d f v e (a ∷ []) = Takes d f v a
TakenBy d f v e (a ∷ b ∷ args) = ⊥

-- along an edge of `switch_enum`
abbrev pub AreSwitched : Type 0
AreSwitched = InAccepted (λ d f. (e : EdgeId) (i : Inst) (x : Edge) (v : ValueId) → terminator_of f e.block.0 ≡ Some i → edge_at f e ≡ Some x
    → i.op ≡ op.SwitchEnum → first_value i ≡ Some v → TakenBy d f v x (args_of f x.block.0))

-- ---- returns

-- what is returned may end, and has the type that the function gives
pub record IsGiven (d : Declarations) (f : Function) (o : Operand) : Type 0 where
  pub ends : MayEnd d f o.value
  pub typed : type_in d f o.value ≡ Some (given_type f.signature)

abbrev pub AreGiven : Type 0
AreGiven = InAccepted (λ d f. (b : ℕ) (i : Inst) (o : Operand) → terminator_of f b ≡ Some i → i.op ≡ op.Return → slice_get i.operands 0 ≡ Some o
    → IsGiven d f o)

-- ---- calls

-- the kind of an argument of the entry
abbrev pub kind_told : ArgumentConvention → Kind
kind_told convention.Plain = kind.Plain
kind_told convention.Owned = kind.Owned
kind_told convention.Guaranteed = kind.Guaranteed
kind_told (convention.Address c) = kind.Plain

-- the argument is the one that the signature tells of
pub record IsToldOf (d : Declarations) (f : Function) (told : Told) (a : BlockArg) : Type 0 where
  pub typed : a.ty ≡ argument_type told
  pub has_kind : kind_at d f a.value ≡ kind_told told.convention

-- the arguments of the entry are those of the signature
abbrev pub AreEntryTold : Type 0
AreEntryTold = InAccepted (λ d f. AllZip (IsToldOf d f) (arguments_of f.signature) (args_of f 0))

-- what a call may hand over by a convention
abbrev pub Hands : Declarations → Function → ArgumentConvention → ValueId → Type 0
Hands d f convention.Plain v = kind_at d f v ≡ kind.Plain
Hands d f convention.Owned v = MayEnd d f v
Hands d f convention.Guaranteed v = ⊤
Hands d f (convention.Address c) v = ⊤

-- the operand is what the signature tells of
pub record IsHanded (d : Declarations) (f : Function) (told : Told) (o : Operand) : Type 0 where
  pub typed : type_in d f o.value ≡ Some (argument_type told)
  pub hands : Hands d f told.convention o.value

-- behind the callee, an `apply` has what the signature tells of that is written there
abbrev pub AreCallsHanded : Type 0
AreCallsHanded = InAccepted (λ d f. (block index : ℕ) (i : Inst) (o : Operand) (os : List Operand) (s : Signature) → IsAt f block index i → i.op ≡ op.Apply
    → i.operands ≡ o ∷ os → i.signature ≡ Some s → AllZip (IsHanded d f) (arguments_of s) os)
