-- 302 to 305: what holds of kinds, whether a walk goes there or not.
use Rattle.std.specs.Prelude.{◌≡◌, ◌⊎◌, ℕ, ◌<◌, List, ◌++◌, Bool, true, false, not, ◌&&◌, ◌||◌, ◌==◌, Option, Some, None}
use Rattle.std.specs.Prelude.{is_none, Contains, find, map, slice_get, length}
use Rattle.std.specs.List.{flat_map, list_any}
use Rattle.instruction_table.specs.Forms.{ending_of, result_kind_of}
use Rattle.instruction_table.specs.declared.entries.Ending.{Ending}
use Rattle.instruction_table.specs.declared.entries.Ending.TheVariants as ending
use Rattle.instruction_table.specs.declared.entries.ResultKind.{ResultKind}
use Rattle.instruction_table.specs.declared.entries.ResultKind.TheVariants.{NoneResult, OwnedResult, ScopeResult, AddressResult, ForwardedResult, OperandResult}
use Rattle.instruction_table.specs.declared.entries.Role.{Role}
use Rattle.instruction_table.specs.declared.entries.Role.TheVariants as role
use Rattle.sil_ast.specs.declared.function.ArgKind.{ArgKind}
use Rattle.sil_ast.specs.declared.function.ArgKind.TheVariants as annotation
use Rattle.sil_ast.specs.declared.function.Block.{Block}
use Rattle.sil_ast.specs.declared.function.BlockArg.{BlockArg}
use Rattle.sil_ast.specs.declared.function.Function.{Function}
use Rattle.sil_ast.specs.declared.inst.Edge.{Edge}
use Rattle.sil_ast.specs.declared.inst.Inst.{Inst}
use Rattle.sil_ast.specs.declared.place.ValueId.{ValueId}
use Rattle.sil_cfg_items.specs.Roles.{taken_along, taken_by}
use Rattle.sil_cfg_items.specs.declared.taken.Taken.{Taken}
use Rattle.numbered_form.specs.PointChecks.Points.{IsAt, key_at}
use Rattle.numbered_form.specs.ValueTables.Borrows.{is_borrow}
use Rattle.numbered_form.specs.ValueTables.FirstValue.{first_value, value_of}
use Rattle.ownership_kinds_chains.specs.OwnershipChains.Chains.{IsCyclic}
use Rattle.sil_rules.specs.Order.{NotAfter}
use Rattle.sil_rules.specs.declared.rule.Rule.{Rule}
use Rattle.sil_rules.specs.declared.rule.Rule.TheVariants as rule
use Rattle.sil_types_declarations.specs.TypeDefinitions.Declarations.{Declarations}
use Rattle.sil_types_declarations.specs.TypeDefinitions.Measures.{is_trivial}
use Rattle.sil_types_declarations.specs.declared.type_definitions.kind.Kind.{Kind}
use Rattle.sil_types_declarations.specs.declared.type_definitions.kind.Kind.TheVariants as kind
use Rattle.ownership_kinds_origins.specs.Origins.{definitions_of}
use Rattle.ownership_kinds_origins.specs.Renamings.{renamings_of}
use Rattle.ownership_kinds_origins.specs.Switched.{switch_to}
use Rattle.ownership_kinds_origins.specs.declared.switched.Switched.{Switched}
use Rattle.ownership_kinds_origins.specs.Facts.{kind_in}

abbrev pub is_owned : Option Kind → Bool
is_owned None = false
is_owned (Some kind.Owned) = true
is_owned (Some kind.Guaranteed) = false
is_owned (Some kind.Plain) = false

abbrev pub is_guaranteed : Option Kind → Bool
is_guaranteed None = false
is_guaranteed (Some kind.Owned) = false
is_guaranteed (Some kind.Guaranteed) = true
is_guaranteed (Some kind.Plain) = false

-- where a value is defined: a result at its instruction, an argument at the first point of its block
pub data IsDefinedAt (f : Function) (v : ValueId) : ℕ → ℕ → Type 0 where
  result : (n k : ℕ) (i : Inst) → IsAt f n k i → Contains i.results v → IsDefinedAt f v n k
  argument : (n : ℕ) (b : Block) (a : BlockArg) → slice_get f.blocks n ≡ Some b → Contains b.args a → a.value ≡ v → IsDefinedAt f v n 0

-- 302: a chain of one of the two kinds returns to the value at which it began
abbrev pub IsOnRing : Declarations → Function → ValueId → Type 0
IsOnRing d f v = IsCyclic (definitions_of d f) v ⊎ IsCyclic (renamings_of f) v

-- 303

abbrev pub forwards_by : ResultKind → Bool
forwards_by NoneResult = false
forwards_by OwnedResult = false
forwards_by ScopeResult = false
forwards_by AddressResult = false
forwards_by ForwardedResult = true
forwards_by OperandResult = false

abbrev pub forwards : Inst → Bool
forwards i = forwards_by (result_kind_of i.op)

abbrev pub mixed_among : (ValueId → Option Kind) → Bool → List ValueId → Option ValueId
mixed_among kinds true vs = find (λ v. is_guaranteed (kinds v)) vs
mixed_among kinds false vs = None

-- 303: one forwarding instruction has Owned and Guaranteed operands; the first Guaranteed one is the subject
abbrev pub mixed_operand : (ValueId → Option Kind) → Inst → Option ValueId
mixed_operand kinds i = mixed_among kinds (forwards i && list_any (λ o. is_owned (kinds o.value)) i.operands) (map value_of i.operands)

-- 304

-- the operand is of a kind that the role doesn't take; `borrow` tells whether it is the result of a borrow itself
abbrev pub is_mismatch : Bool → Role → Option Kind → Bool
is_mismatch borrow role.Consumed k = is_guaranteed k
is_mismatch borrow role.Used k = false
is_mismatch borrow role.Lent k = is_owned k
is_mismatch borrow role.Forwarded k = false
is_mismatch borrow role.AddressRole k = false
is_mismatch borrow role.AnyRole k = false
is_mismatch borrow role.ScopeRole k = not borrow
is_mismatch borrow role.ByParameter k = false
is_mismatch borrow role.Counted k = false

-- 305 at an argument

abbrev pub is_plain_annotation : ArgKind → Bool
is_plain_annotation annotation.Plain = true
is_plain_annotation annotation.Owned = false
is_plain_annotation annotation.Guaranteed = false

abbrev pub is_owned_annotation : ArgKind → Bool
is_owned_annotation annotation.Plain = false
is_owned_annotation annotation.Owned = true
is_owned_annotation annotation.Guaranteed = false

abbrev pub is_guaranteed_annotation : ArgKind → Bool
is_guaranteed_annotation annotation.Plain = false
is_guaranteed_annotation annotation.Owned = false
is_guaranteed_annotation annotation.Guaranteed = true

-- a payload carries `@owned` from an Owned or None operand, and `@guaranteed` from a Guaranteed one
abbrev pub fits_case : Option Kind → ArgKind → Bool
fits_case None a = true
fits_case (Some kind.Owned) a = is_owned_annotation a
fits_case (Some kind.Guaranteed) a = is_guaranteed_annotation a
fits_case (Some kind.Plain) a = is_owned_annotation a

-- a default takes the whole enum from an Owned or Guaranteed operand, with the same annotation, and nothing from a None one
abbrev pub fits_default : Option Kind → ArgKind → Bool
fits_default None a = true
fits_default (Some kind.Owned) a = is_owned_annotation a
fits_default (Some kind.Guaranteed) a = is_guaranteed_annotation a
fits_default (Some kind.Plain) a = false

abbrev pub is_none_kind : Option Kind → Bool
is_none_kind None = false
is_none_kind (Some kind.Owned) = false
is_none_kind (Some kind.Guaranteed) = false
is_none_kind (Some kind.Plain) = true

-- an argument of a trivial type carries nothing, and a default has none from a None operand
abbrev pub fits_switch : Bool → Bool → Option Kind → ArgKind → Bool
fits_switch true true k a = not (is_none_kind k) && is_plain_annotation a
fits_switch true false k a = fits_default k a
fits_switch false true k a = is_plain_annotation a
fits_switch false false k a = fits_case k a

abbrev pub fits_block : Bool → ArgKind → Bool
fits_block true a = is_plain_annotation a
fits_block false a = is_owned_annotation a

-- the annotation of an argument of a block other than the entry is the one that is due
abbrev pub is_annotated_well : (ValueId → Option Kind) → Option Switched → Bool → ArgKind → Bool
is_annotated_well kinds None trivial a = fits_block trivial a
is_annotated_well kinds (Some s) trivial a = fits_switch s.is_default trivial (kinds s.operand) a

-- 305 at a default without an argument: its operand is Owned or Guaranteed
abbrev pub needs_argument : Option Kind → Bool
needs_argument k = is_owned k || is_guaranteed k

-- what an instruction takes: its operands, and what its edges hand over
abbrev pub all_taken : Inst → List Taken
all_taken i = taken_by i ++ flat_map taken_along i.edges

abbrev pub no_arguments : Option Block → Bool
no_arguments None = true
no_arguments (Some b) = length b.args == 0

abbrev pub is_lacking_default : Function → Edge → Bool
is_lacking_default f e = is_none e.case_of && no_arguments (slice_get f.blocks e.block.0)

abbrev pub lacks_by : Ending → Function → Inst → Bool
lacks_by ending.Inside f i = false
lacks_by ending.OneBranch f i = false
lacks_by ending.TwoBranches f i = false
lacks_by ending.Cases f i = list_any (is_lacking_default f) i.edges
lacks_by ending.Return f i = false
lacks_by ending.Unreachable f i = false

-- the instruction is a switch whose default's block has no argument
abbrev pub lacks_argument : Function → Inst → Bool
lacks_argument f i = lacks_by (ending_of i.op) f i

-- a rule on kinds that is broken, at which value and where
pub data IsBroken (d : Declarations) (f : Function) : Rule → ValueId → ℕ → ℕ → Type 0 where
  on_ring : (v : ValueId) (n k : ℕ) → IsOnRing d f v → IsDefinedAt f v n k → IsBroken d f rule.CyclicForwarding v n k
  mixed : (v : ValueId) (n k : ℕ) (i : Inst) → IsAt f n k i → mixed_operand (kind_in d f) i ≡ Some v → IsBroken d f rule.MixedForwarding v n k
  mismatch : (n k : ℕ) (i : Inst) (t : Taken) → IsAt f n k i → Contains (all_taken i) t →
      is_mismatch (is_borrow f t.value) t.role (kind_in d f t.value) ≡ true → IsBroken d f rule.KindMismatch t.value n k
  annotated : (n : ℕ) (b : Block) (a : BlockArg) → 0 < n → slice_get f.blocks n ≡ Some b → Contains b.args a →
      is_annotated_well (kind_in d f) (switch_to f n) (is_trivial d a.ty) a.kind ≡ false → IsBroken d f rule.ArgumentKind a.value n 0
  lacking : (n k : ℕ) (i : Inst) (v : ValueId) → IsAt f n k i → lacks_argument f i ≡ true → first_value i ≡ Some v →
      needs_argument (kind_in d f v) ≡ true → IsBroken d f rule.ArgumentKind v n k

-- no rule on kinds is broken
abbrev pub HasKinds : Declarations → Function → Type 0
HasKinds d f = (r : Rule) (v : ValueId) (n k : ℕ) → IsBroken d f r v n k → ⊥

-- the rule is the first that is broken on kinds: by value, then by rule; the point is the first at which it is
pub record IsFirstBroken (d : Declarations) (f : Function) (r : Rule) (v : ValueId) (n k : ℕ) : Type 0 where
  pub broken : IsBroken d f r v n k
  pub first : (s : Rule) (w : ValueId) (m l : ℕ) → IsBroken d f s w m l → NotAfter (key_at r v n k) (key_at s w m l)
